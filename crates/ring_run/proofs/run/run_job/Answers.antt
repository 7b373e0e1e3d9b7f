use Rattle.std.proofs.Common.{◌≡◌, eq-eqb, Bool, ◌∙◌, ◌+◌, ◌==◌, ◌%◌, ℕ, ap, sym, subst, arith, inl, inr, refl}
use Rattle.restart_plan.specs.Plan.{Restarting, begun as begun_restarts}
use Rattle.ring_run.proofs.Offering.{offers_begin}
use Rattle.ring_run.specs.Ended.{HasOffered, HasPolled, HasLooked, last_looks}
use Rattle.ring_run.proofs.Polling.{place_at, polling_begin, polled_none_yet}
use Rattle.ring_run.specs.Strategy.{IsPaced}
use Rattle.ring_trail.specs.TrailData.{TrailData}
use Rattle.ring_port.specs.PortState.{PortState}
use Rattle.ring_run.specs.Searching.{GoesOn}
use Rattle.ring_run.specs.Ending.{ComesTo}
use Rattle.ring_run.specs.Course.{last_of, HasLemmas, MayImport, IsOffering, IsPolling}
use Rattle.ring_run.specs.declared.job.End.TheVariants.{Memory}
use Rattle.ring_run.proofs.Beginning.{listed_begin, goes_begin, begun, paced_begin, restarted_by, restarted_none}
use Rattle.ring_run.proofs.Progress.{out_of_memory}
use Rattle.ring_run.specs.Turn.{Searched}
use Rattle.ring_run.proofs.run.run_job.Goals as goal
use Rattle.ring_run.proofs.Rounds.{imports_none, imports_count, imports_none_yet}
use Rattle.ring_run.specs.Ended.{ImportsBy}
use Rattle.ring_run.specs.Course.{imports_of}
use Rattle.std.specs.Prelude.{if◌then◌else◌}
use Rattle.ring_run.proofs.InTime.{reduced_by, in_time_begin}
use Rattle.ring_run.specs.Ended.{IsInTime}

pub search-end-requires-clause-import : goal.search-end-requires-clause-import
search-end-requires-clause-import g c =
    let s = g.P.Port.state c.args.port.now in
    let made = c.in-Ok.ensures in
    subst (λ (x : PortState). MayImport x c.in-Ok.ring.trail c.in-Ok.ring.watches c.in-Ok.ring.written) (sym made.same)
    (begun s c.args.job.now c.in-Ok.ring c.requires.job c.requires.untouched c.requires.port made.trail made.shape made.attached made.watched made.written)

pub search-end-requires-clause-goes : goal.search-end-requires-clause-goes
search-end-requires-clause-goes g c =
    let s = g.P.Port.state c.args.port.now in
    subst (λ (x : PortState). GoesOn x x c.in-Ok.ring.learned) (sym c.in-Ok.ensures.same) (subst (GoesOn s s) (sym c.in-Ok.ensures.learned) (goes_begin s c.requires.untouched c.requires.port))

pub returns-in_default-clause-ends : goal.returns-in_default-clause-ends
returns-in_default-clause-ends g c =
    let s = g.P.Port.state c.args.port.now in
    (subst (λ (x : PortState). ComesTo s x 0 Memory) (sym c.make_ring.ensures.same) (out_of_memory s s 0 (goes_begin s c.requires.untouched c.requires.port)))

pub returns-in_default-new-clause-ends : goal.returns-in_default-new-clause-ends
returns-in_default-new-clause-ends g c =
    let s = g.P.Port.state c.args.port.now in
    (subst (λ (x : PortState). ComesTo s x 0 Memory) (sym c.make_ring.ensures.same) (out_of_memory s s 0 (goes_begin s c.requires.untouched c.requires.port)))

pub returns-clause-ends : goal.returns-clause-ends
returns-clause-ends g c =
    let u = g.P.Port.state c.search-end.new.port in
    let s = g.P.Port.state c.args.port.now in
    subst (λ (n : ℕ). ComesTo s u n c.search-end.result) (sym c.counts_of.ensures.learned)
    (subst (λ (x : PortState). ComesTo x u c.search-end.new.ring.learned c.search-end.result) c.make_ring.ensures.same c.search-end.ensures.ends)

pub returns-clause-looked : goal.returns-clause-looked
returns-clause-looked g c =
    let s = g.P.Port.state c.args.port.now in
    let made = ap (λ (x : PortState). x.looks) c.make_ring.ensures.same in
    let level = ap (λ (t : TrailData). t.level) c.in-Ok.ensures.trail in
    subst (λ (n : ℕ). HasLooked (s.looks + n + last_looks c.search-end.result) (g.P.Port.state c.search-end.new.port)) (sym c.counts_of.ensures.learned)
    (c.search-end.ensures.looks s.looks (omega (arith, made, level, c.in-Ok.ensures.learned)))

pub search-end-requires-clause-paced : goal.search-end-requires-clause-paced
search-end-requires-clause-paced g c =
    let odd = c.args.job.now.ring % 2 == 1 in
    subst (λ (r : Restarting). IsPaced r c.in-Ok.ring.learned) (sym c.in-Ok.ensures.restarts)
    (subst (λ (n : ℕ). IsPaced (begun_restarts odd) n) (sym c.in-Ok.ensures.learned) (paced_begin odd))

pub returns-in_default-clause-restarted : goal.returns-in_default-clause-restarted
returns-in_default-clause-restarted g c = restarted_none (g.P.Port.state c.args.port.now).ring

pub returns-in_default-new-clause-restarted : goal.returns-in_default-new-clause-restarted
returns-in_default-new-clause-restarted g c = restarted_none (g.P.Port.state c.args.port.now).ring

pub returns-clause-restarted : goal.returns-clause-restarted
returns-clause-restarted g c =
    let r = c.search-end.new.ring.restarts in
    let counts = c.counts_of.result in
    restarted_by (g.P.Port.state c.args.port.now).ring r counts
    (c.search-end.ensures.odd ∙ ap (λ (x : Restarting). x.odd) c.in-Ok.ensures.restarts ∙ ap (λ (n : ℕ). n % 2 == 1) c.requires.job.ring)
    c.counts_of.ensures.kept
    (subst (λ (n : ℕ). IsPaced r n) (sym c.counts_of.ensures.learned) c.search-end.ensures.paced)
    c.counts_of.ensures.restarts

pub search-end-requires-clause-offering : goal.search-end-requires-clause-offering
search-end-requires-clause-offering g c =
    let s = g.P.Port.state c.args.port.now in
    let none = c.in-Ok.ensures.none in
    subst (λ (x : PortState). IsOffering x c.in-Ok.ring) (sym c.in-Ok.ensures.same)
    (record {
      counts = subst (λ (e : ℕ). HasOffered s e c.in-Ok.ring.offered) (sym none.0) (subst (HasOffered s 0) (sym none.1) (offers_begin s c.requires.untouched.shared c.requires.untouched.mine));
      few = omega (arith, none.0);
    })

pub returns-in_default-clause-offers : goal.returns-in_default-clause-offers
returns-in_default-clause-offers g c =
    let s = g.P.Port.state c.args.port.now in
    subst (λ (x : PortState). HasOffered x 0 0) (sym c.make_ring.ensures.same) (offers_begin s c.requires.untouched.shared c.requires.untouched.mine)

pub returns-in_default-new-clause-offers : goal.returns-in_default-new-clause-offers
returns-in_default-new-clause-offers g c =
    let s = g.P.Port.state c.args.port.now in
    subst (λ (x : PortState). HasOffered x 0 0) (sym c.make_ring.ensures.same) (offers_begin s c.requires.untouched.shared c.requires.untouched.mine)

pub returns-clause-offers : goal.returns-clause-offers
returns-clause-offers g c =
    let u = g.P.Port.state c.search-end.new.port in
    let ring = c.search-end.new.ring in
    subst (λ (e : ℕ). HasOffered u e c.counts_of.result.offered) (sym c.counts_of.ensures.exported) (subst (HasOffered u ring.exported) (sym c.counts_of.ensures.offered) c.search-end.ensures.offering.counts)

pub search-end-requires-clause-polling : goal.search-end-requires-clause-polling
search-end-requires-clause-polling g c =
    let s = g.P.Port.state c.args.port.now in
    let made = c.in-Ok.ensures in
    subst (λ (x : PortState). IsPolling x c.in-Ok.ring) (sym made.same)
    (polling_begin s c.in-Ok.ring c.requires.untouched.polled (made.place ∙ ap (λ (n : ℕ). place_at n c.args.job.now.rings) c.requires.job.ring ∙ ap (place_at s.ring) c.requires.job.rings) made.import_due
    (ap (λ (r : Restarting). r.made) made.restarts) (ap (λ (t : TrailData). t.level) made.trail))

pub returns-in_default-clause-polled : goal.returns-in_default-clause-polled
returns-in_default-clause-polled g c =
    let s = g.P.Port.state c.args.port.now in
    subst (λ (x : PortState). HasPolled x 0 Memory) (sym c.make_ring.ensures.same) (polled_none_yet s c.requires.untouched.polled)

pub returns-in_default-new-clause-polled : goal.returns-in_default-new-clause-polled
returns-in_default-new-clause-polled g c =
    let s = g.P.Port.state c.args.port.now in
    subst (λ (x : PortState). HasPolled x 0 Memory) (sym c.make_ring.ensures.same) (polled_none_yet s c.requires.untouched.polled)

pub returns-clause-polled : goal.returns-clause-polled
returns-clause-polled g c =
    subst (λ (n : ℕ). HasPolled (g.P.Port.state c.search-end.new.port) n c.search-end.result) (sym c.counts_of.ensures.restarts) c.search-end.ensures.polled

pub search-end-requires-clause-listed : goal.search-end-requires-clause-listed
search-end-requires-clause-listed g c =
    let s = g.P.Port.state c.args.port.now in
    let listed = c.in-Ok.ensures.listed in
    subst (λ (x : PortState). HasLemmas x c.in-Ok.ring) (sym c.in-Ok.ensures.same)
    (listed_begin s c.in-Ok.ring c.requires.untouched.mine c.in-Ok.ensures.learned listed.0 listed.1 listed.2 c.in-Ok.ensures.imports (c.in-Ok.ensures.last_start ∙ ap last_of c.requires.job.start))

pub returns-clause-imported : goal.returns-clause-imported
returns-clause-imported g c =
    let s = g.P.Port.state c.args.port.now in
    let m = g.P.Port.state c.make_ring.new.port in
    let ring = c.in-Ok.ring in
    let made : ring.restarts.made ≡ 0 = ap (λ (r : Restarting). r.made) c.in-Ok.ensures.restarts in
    let imports : imports_of ring ≡ 0 = ap (λ (b : Bool). if b then ring.restarts.made else ring.restarts.made + 1) c.in-Ok.ensures.import_due ∙ made in
    subst (λ (n : ℕ). ImportsBy s (g.P.Port.state c.search-end.new.port) n c.search-end.result) (sym c.counts_of.ensures.restarts)
    (c.search-end.ensures.imported s (imports_count s m 0 (imports_of ring) (sym imports) (imports_none s m c.make_ring.ensures.same)))

pub returns-in_default-clause-imported : goal.returns-in_default-clause-imported
returns-in_default-clause-imported g c = imports_none_yet (g.P.Port.state c.args.port.now) (g.P.Port.state c.make_ring.new.port) c.make_ring.ensures.same

pub returns-in_default-new-clause-imported : goal.returns-in_default-new-clause-imported
returns-in_default-new-clause-imported g c = imports_none_yet (g.P.Port.state c.args.port.now) (g.P.Port.state c.make_ring.new.port) c.make_ring.ensures.same

pub returns-clause-tidied : goal.returns-clause-tidied
returns-clause-tidied g c = λ none. c.search-end.ensures.tidied (ap (λ (x : PortState). x.waiting) c.make_ring.ensures.same ∙ none)

pub returns-clause-in_time : goal.returns-clause-in_time
returns-clause-in_time g c =
    let s = g.P.Port.state c.args.port.now in
    let m = g.P.Port.state c.make_ring.new.port in
    let u = g.P.Port.state c.search-end.new.port in
    let r = c.search-end.new.ring.restarts in
    let ring : u.ring ≡ m.ring = c.search-end.ensures.ends.runs.stays.ring in
    let first : m.ring ≡ s.ring = ap (λ (x : PortState). x.ring) c.make_ring.ensures.same in
    let odd : r.odd ≡ (c.args.job.now.ring % 2 == 1) = c.search-end.ensures.odd ∙ ap (λ (x : Restarting). x.odd) c.in-Ok.ensures.restarts in
    reduced_by u r c.counts_of.result c.search-end.result
    (λ is. odd ∙ eq-eqb (c.args.job.now.ring % 2) 1 (ap (λ (n : ℕ). n % 2) (c.requires.job.ring ∙ sym first ∙ sym ring) ∙ is))
    c.search-end.ensures.sums (c.search-end.ensures.paced.count ∙ sym c.counts_of.ensures.learned) c.counts_of.ensures.restarts
    (c.search-end.ensures.in_time (subst (λ (x : PortState). IsInTime x c.in-Ok.ring.restarts.since) (sym c.make_ring.ensures.same) (in_time_begin s c.in-Ok.ring.restarts.since c.requires.untouched.mine)))

pub returns-in_default-clause-ran : goal.returns-in_default-clause-ran
returns-in_default-clause-ran g c = inl (c.make_ring.ensures.same, refl)

pub returns-in_default-new-clause-ran : goal.returns-in_default-new-clause-ran
returns-in_default-new-clause-ran g c = inl (c.make_ring.ensures.same, refl)

pub returns-clause-ran : goal.returns-clause-ran
returns-clause-ran g c =
    let made = c.in-Ok.ensures in
    let u = g.P.Port.state c.search-end.new.port in
    let first = c.in-Ok.ring in
    let last = c.search-end.new.ring in
    inr (
      first,
      last,
      record {
        trail = made.trail;
        clauses = made.attached;
        decider = made.decider;
        phases = made.phases;
        restarts = made.restarts;
        learned = made.learned;
        lemmas = made.listed.0;
        imports = made.imports;
        last_start = made.last_start;
        reductions = made.listed.1;
        reduced_at = made.listed.2;
        written = made.written;
        exported = made.none.0;
        offered = made.none.1;
        place = made.place;
        import_due = made.import_due;
        next_probe = made.next_probe;
      },
      subst (λ (x : PortState). Searched c.args.job.now x u first last c.search-end.result) made.same c.search-end.ensures.searched,
      c.counts_of.ensures.learned,
      c.counts_of.ensures.exported,
      c.counts_of.ensures.offered,
      c.counts_of.ensures.restarts,
    )
