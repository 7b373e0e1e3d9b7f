-- From a port that has run to what its pass has of the ring.
use Rattle.std.proofs.Common.{◌≡◌, ◌≢◌, ℕ, ◌*◌, ◌-◌, ◌<◌, arith, length, get_or, List, [], ◌∷◌, map, refl, sym, ap, subst, ◌∙◌, Option, Some, None, IfSome, IsSome, eq-eqb, ne_eqb, if◌then◌else◌}
use Rattle.std.specs.Option.{option_map}
use mathlib.Core.Logic.{dite}
use mathlib.Core.Option.{some}
use native.Mathlib.Decide.{ℕ_discrete}
use lib.ListN.{get_elem?}
use Rattle.sat_words.specs.declared.shared.Stop.{Stop}
use Rattle.atomic_table.specs.declared.shared.Seat.{Seat}
use Rattle.share_core.specs.declared.event.Stop.{Stop as CoreStop}
use Rattle.share_core.proofs.Counting.{none_some, some_same}
use Rattle.share_rule.specs.declared.Shared.{Shared}
use Rattle.share_rule.specs.declared.view.RingPart.{RingPart}
use Rattle.share_rule.specs.declared.view.View.{View}
use Rattle.share_rule.specs.Passes.{IsPassOf}
use Rattle.share_rule.specs.Seen.{Seen}
use Rattle.share_rule.specs.Views.{only, own_stop, start_glues}
use Rattle.ring_port.specs.Port.{is_usable}
use Rattle.ring_port.specs.PortState.{PortState}
use Rattle.ring_pass.specs.RingState.{Own, port_of, port_with, home_of, holding_of, stop_as}
use Rattle.ring_run.specs.declared.job.Counts.{Counts}
use Rattle.ring_run.specs.declared.job.End.{End}
use Rattle.ring_run.specs.declared.job.Job.{Job}
use Rattle.ring_run.specs.declared.job.End.TheVariants.{Sat, Refuted, Spent, Stopped, NoHole, ProofFault, Memory}
use Rattle.ring_run.specs.Ended.{Ends, HasWon, stop_kind}
use Rattle.portfolio_run.specs.declared.jobs.RingJob.{RingJob}
use Rattle.portfolio_run.specs.declared.plan.Plan.{Plan}
use Rattle.portfolio_run.specs.Ends.{set_of}
use Rattle.portfolio_run.specs.Jobs.{RanTo, HasRun}
use Rattle.portfolio_run.specs.Ports.{begun_at, job_at, AreMade}
use Rattle.portfolio_run.specs.Runs.{Shows, IsRun}

-- The stop that a ring has set

-- the ring of a stop of its own
own_ring : (x : Option CoreStop) (r : ℕ) (u : CoreStop) → own_stop r x ≡ Some u → u.ring ≡ r
own_ring None r u q = absurd (none_some u q)
own_ring (Some y) r u q = dite (ℕ_discrete y.ring r)
    (λ z. sym (ap (λ (k : CoreStop). k.ring) (some_same y u ((λ i. if sym (eq-eqb y.ring r z) i then Some y else None) ∙ q))) ∙ z)
    (λ nz. absurd (none_some u ((λ i. if sym (ne_eqb y.ring r nz) i then Some y else None) ∙ q)))

stop_back : (x : Option CoreStop) (t : CoreStop) → option_map stop_as x ≡ Some (stop_as t) → x ≡ Some t
stop_back None t e = absurd (none_some (stop_as t) e)
stop_back (Some y) t e = let same = some_same (stop_as y) (stop_as t) e in λ i. Some (record { kind = (same i).kind; ring = (same i).ring })

other_ring : (x : Option CoreStop) (t : CoreStop) (r : ℕ) → x ≡ Some t → IfSome (option_map stop_as x) (λ (y : Stop). y.ring ≢ r) → t.ring ≢ r
other_ring None t r e k = absurd (none_some t e)
other_ring (Some u) t r e k = λ q. k (ap (λ (y : CoreStop). y.ring) (some_same u t e) ∙ q)

-- by the kind of stop that the end sets
set_by : (v : View) (s : Seen v) → v.parts ≡ only v ∷ [] → (o : Own) (k : Option ℕ) → IfSome k (HasWon (port_of v o)) → (k ≡ None → IfSome (option_map stop_as v.stop) (λ (y : Stop). y.ring ≢ (only v).core.ring)) → (only v).set ≡ option_map (λ (kind : ℕ). record { kind = kind; ring = (only v).core.ring }) k
set_by v s one o (Some kind) h other =
    let t : CoreStop = record { kind = kind; ring = (only v).core.ring } in
    (s.parts 0 (only v) (ap (λ (ps : List RingPart). get_elem? ps 0) one)).set ∙ ap (own_stop (only v).core.ring) (s.stops.stands t (stop_back v.stop t h)) ∙ (λ i. if eq-eqb (only v).core.ring (only v).core.ring refl i then Some t else None)
set_by v s one o None h other = by (only v).set refl
  where
    there : get_elem? v.parts 0 ≡ some (only v)
    there = ap (λ (ps : List RingPart). get_elem? ps 0) one

    by : (x : Option CoreStop) → (only v).set ≡ x → x ≡ None
    by None e = refl
    by (Some t) e = absurd (other_ring v.stop t (only v).core.ring (s.stops.own 0 (only v) there t e) (other refl) (own_ring s.core.stop (only v).core.ring t (sym (s.parts 0 (only v) there).set ∙ e)))

-- an end that sets none knows of no stop of its own
not_own : (v : View) (o : Own) (e : End) → Ends (port_of v o) e → stop_kind e ≡ None → IfSome (option_map stop_as v.stop) (λ (y : Stop). y.ring ≢ (only v).core.ring)
not_own v o (Sat a) h k = absurd (none_some _ (sym k))
not_own v o Refuted h k = absurd (none_some _ (sym k))
not_own v o Spent h k = subst (λ (x : Option Stop). IfSome x (λ (y : Stop). y.ring ≢ (only v).core.ring)) (sym h.cause.stop) tt
not_own v o (Stopped x) h k = subst (λ (q : Option Stop). IfSome q (λ (y : Stop). y.ring ≢ (only v).core.ring)) (sym h.cause.0) h.cause.1
not_own v o (NoHole x) h k = absurd (none_some _ (sym k))
not_own v o ProofFault h k = absurd (none_some _ (sym k))
not_own v o Memory h k = absurd (none_some _ (sym k))

end_is_set : (v : View) (s : Seen v) → v.parts ≡ only v ∷ [] → (o : Own) (e : End) → Ends (port_of v o) e → (only v).set ≡ set_of (only v).core.ring e
end_is_set v s one o e h = set_by v s one o (stop_kind e) h.won (not_own v o e h)

-- The port, over what the table was opened with

same_port : (v w : View) (part : RingPart) (own : Own) (s : PortState) → w.layout ≡ v.layout → port_with w part own ≡ s → s.start ≡ map (holding_of (start_glues v.opening.starts)) v.opening.starts → s.opening ≡ v.opening.units → s.rings ≡ v.opening.rings → s.depth ≡ v.opening.depth → s.limit ≡ v.opening.limit → s.hinted ≡ v.opening.hinted → s ≡ port_with (record v { stop = w.stop; looks = w.looks }) part own
same_port v w part own s lay is start opening rings depth limit hinted =
    let st : map (holding_of (start_glues w.opening.starts)) w.opening.starts ≡ map (holding_of (start_glues v.opening.starts)) v.opening.starts = ap (λ (x : PortState). x.start) is ∙ start in
    let op : w.opening.units ≡ v.opening.units = ap (λ (x : PortState). x.opening) is ∙ opening in
    let rg : w.opening.rings ≡ v.opening.rings = ap (λ (x : PortState). x.rings) is ∙ rings in
    let dp : w.opening.depth ≡ v.opening.depth = ap (λ (x : PortState). x.depth) is ∙ depth in
    let lt : w.opening.limit ≡ v.opening.limit = ap (λ (x : PortState). x.limit) is ∙ limit in
    let ht : w.opening.hinted ≡ v.opening.hinted = ap (λ (x : PortState). x.hinted) is ∙ hinted in
    sym is ∙ (λ i. record (port_with w part own) { coming = 2 * (lay i).vars - own.passed; start = st i; opening = op i; vars = (lay i).vars; rings = rg i; depth = dp i; limit = lt i; hinted = ht i })

-- what a port that has run shows is so of its pass
pub run_of : {B : Type 0} (t : Shared B) (first p : Seat (Option B) View) (plan : Plan) (ring : ℕ) (s : PortState) (end : Option (End × Counts)) (e : End × Counts) → IsPassOf t first → HasRun (begun_at first.me.0 (home_of first) ring) (job_at first.me.0 plan ring) s end → Shows t s end p e → IsRun t first.me.0 (home_of first) plan ring p e
run_of {B} t first p plan ring s end e pass run shows =
    let v : View = first.me.0 in
    let w : View = p.me.0 in
    let old = begun_at v (home_of first) ring in
    let job = job_at v plan ring in
    let ran : RanTo old job s e.0 e.1 = subst (HasRun old job s) shows.end_is run in
    let own = shows.own in
    let ring_is : (only w).core.ring ≡ ring = ap (λ (x : PortState). x.ring) shows.state ∙ ran.stays.ring in
    let lay : w.layout ≡ v.layout = shows.pass.0.2 ∙ sym pass.2 in
    let same = same_port v w (only w) own s lay shows.state ran.stays.start ran.stays.opening ran.stays.rings ran.stays.depth ran.stays.limit ran.stays.hinted in
    record {
      has = record { pass = shows.pass; one = shows.one; ring_is = ring_is; free = shows.free; settled = shows.settled };
      ran = record {
        own = own;
        looks = w.looks;
        ran = subst (λ (x : PortState). RanTo old job x e.0 e.1) same ran;
        ended_is = λ q. shows.ended_is (sym (ap (λ (x : PortState). x.ended) shows.state) ∙ q);
        refused_is = ap (λ (x : PortState). x.refused) shows.state ∙ shows.refused_is;
        faulty_is = λ q. shows.faulty_is (sym (ap (λ (x : PortState). is_usable x.refused) shows.state) ∙ q);
        alone_is = λ one f. ap (λ (x : PortState). is_usable x.refused) shows.state ∙ shows.alone_is (ap (λ (x : PortState). x.rings) shows.state ∙ ran.stays.rings ∙ one) f;
        set = end_is_set w shows.pass.0.3 shows.one own e.0 (subst (λ (x : PortState). Ends x e.0) (sym shows.state) ran.ends) ∙ ap (λ (r : ℕ). set_of r e.0) ring_is;
      };
    }

-- a ring that has run has its end, and is where it was
pub run_home : (old : PortState) (job : Job) (s : PortState) (end : Option (End × Counts)) → HasRun old job s end → s.home ≡ old.home
run_home old job s None h = absurd h
run_home old job s (Some e) h = h.stays.home

pub run_some : (old : PortState) (job : Job) (s : PortState) (end : Option (End × Counts)) → HasRun old job s end → IsSome end
run_some old job s None h = absurd h
run_some old job s (Some e) h = refl

-- each ring that was made so has run
pub ran_all : (v : View) (home : List ℕ) (plan : Plan) (made ran : List (RingJob PortState)) → AreMade v home plan made → length ran ≡ length made → ((i : ℕ) (d : RingJob PortState) → i < length made → HasRun (get_or made i d).port (get_or made i d).job (get_or ran i d).port (get_or ran i d).end) → (i : ℕ) (d : RingJob PortState) → i < length ran → HasRun (begun_at v home i) (job_at v plan i) (get_or ran i d).port (get_or ran i d).end
ran_all v home plan made ran at same run i d lt =
    let below : i < length made = omega arith in
    let m = at i d below in
    let r = get_or ran i d in
    subst (λ (s : PortState). HasRun s (job_at v plan i) r.port r.end) m.port (subst (λ (j : Job). HasRun (get_or made i d).port j r.port r.end) m.job (run i d below))
