-- What a probe of a literal leaves of a ring that rests.
use Rattle.std.proofs.Common.{◌≡◌, ◌∙◌, ◌⊎◌, ℕ, ◌≤◌, Bool, true, false, List, [], ◌∷◌, sym, subst, ap, arith, refl, inl, inr, Contains, Some, None, length, length-append, Ok}
use Rattle.std.specs.Prelude.{MatchOption, MatchBool}
use Rattle.std.specs.Option.{is_some}
use Rattle.std.specs.declared.option.Option.{Option}
use Rattle.std.proofs.lemmas.Bool.{false≢true, true≢false}
use Rattle.sat_words.specs.Literal.{Literal, opposite}
use Rattle.sat_words.specs.Clause.{has}
use Rattle.sat_words.specs.declared.shared.Cref.{Cref}
use Rattle.rup_model.specs.declared.journal.Kind.TheVariants.{UnitLine}
use Rattle.rup_model.specs.Journal.{recent}
use Rattle.ring_port.specs.PortState.{PortState, IsPort, IsOn, lits_at}
use Rattle.ring_port.specs.Port.{WroteUnit, EndedLog}
use Rattle.ring_port.specs.Log.{KeepsLog}
use Rattle.ring_port.specs.declared.stops.PortStop.{PortStop}
use Rattle.ring_trail.specs.declared.step.TrailStep.{TrailStep}
use Rattle.ring_trail.specs.TrailData.{TrailData, IsTrail, HasGrown, HasNoPlace, IsTrueOn, IsFalseOn, assigned}
use Rattle.ring_trail.specs.Closed.{TrueWithin}
use Rattle.watch_prop.specs.WatchData.{WatchData, Lits, attached}
use Rattle.watch_prop.specs.Watched.{Watched}
use Rattle.watch_prop.specs.Propagation.{HasReasons, IsQuiet}
use Rattle.watch_prop.proofs.TrailLaws.{Reasons-more, Reasons-held}
use Rattle.ring_probe.specs.Outcome.{DidNotFail, WroteNegation, WasCutShort}
use Rattle.ring_run.specs.Ended.{reductions}
use Rattle.ring_run.specs.Searching.{HasClauses, KeepsOn, OffersNothing, OnlyWrote, ToldUnits, AreTold}
use Rattle.ring_run.specs.Ending.{EndsAt, end_refused}
use Rattle.ring_run.specs.Course.{Searches, InSearch, HasLemmas}
use Rattle.ring_run.specs.Renewal.{point, HasValue, IsResting, HaltsAt, HasToldAll}
use Rattle.ring_run.specs.declared.job.End.TheVariants.{Refuted}
use Rattle.ring_run.specs.declared.ring.Ring.{Ring}
use Rattle.ring_run.proofs.Listing.{listed_same}
use Rattle.ring_run.proofs.Numbering.{kept_wrote}
use Rattle.ring_run.proofs.Offering.{nothing_then, nothing_unit, nothing_empty, nothing_refused}
use Rattle.ring_run.proofs.Progress.{unit_goes_on, wrote_none, wrote_unit, refused_ends, refused_looks, empty_refutes}
use Rattle.ring_run.proofs.Remembering.{lits_same, clause_at_same}
use Rattle.ring_run.proofs.Resting.{seen_units, unseen_open, search_left, unit_opening, unit_stands, unit_told}
use Rattle.ring_run.proofs.Standing.{within_more}
use Rattle.ring_run.proofs.Telling.{told_grown}
use Rattle.ring_run.proofs.Turning.{clauses_same}

-- whether a literal has a value
pub valued : (steps : List TrailStep) (l : Literal) (o : Option Bool) → MatchOption o (HasNoPlace steps l.var) (λ b. MatchBool b (IsTrueOn steps l) (IsFalseOn steps l)) → is_some o ≡ true → HasValue steps l
valued steps l None m e = absurd (false≢true e)
valued steps l (Some true) m e = inl m
valued steps l (Some false) m e = inr m

pub valueless : (steps : List TrailStep) (l : Literal) (o : Option Bool) → MatchOption o (HasNoPlace steps l.var) (λ b. MatchBool b (IsTrueOn steps l) (IsFalseOn steps l)) → is_some o ≡ false → HasNoPlace steps l.var
valueless steps l None m e = m
valueless steps l (Some b) m e = absurd (true≢false e)

-- a ring that only goes on probing elsewhere
pub moved_resting : (s : PortState) (ring : Ring) (code : ℕ) → IsResting s ring → IsResting s (record ring { next_probe = code })
moved_resting s ring code p = record { reduced = p.reduced; search = p.search; level = p.level; quiet = p.quiet; whole = p.whole; lately = p.lately; none_taken = p.none_taken }

pub moved_listed : (s : PortState) (ring : Ring) (code : ℕ) → HasLemmas s ring → HasLemmas s (record ring { next_probe = code })
moved_listed s ring code p = record { ordered = p.ordered; glued = p.glued; noted = p.noted; distinct = p.distinct; member = p.member; apart = p.apart; count = p.count; few = p.few; imported = p.imported; last = p.last }

module _ (s : PortState) (ring : Ring) (l : Literal) (p : IsResting s ring) (on : IsOn s.vars l) (free : HasNoPlace ring.trail.steps l.var) where
  abbrev k : Literal
  k = opposite l

  pub other_on : IsOn s.vars k
  other_on = record { low = on.low; high = on.high }

  pub other_unseen : has s.seen k ≡ false
  other_unseen = unseen_open s ring k p (λ w. free w.place w.before (ap (λ (x : Literal). x.var) w.true_there))

  -- the line of its negation was written
  module _ (m : PortState) (wrote : WroteUnit s m k UnitLine s.last) (log : KeepsLog s m) (port : IsPort m) where
    pub failed_keeps : KeepsOn s m
    failed_keeps start n q = unit_goes_on start s m n k q other_on (seen_units s ring p) other_unseen wrote log port

    pub failed_nothing : OffersNothing s m
    failed_nothing = nothing_unit s m k (Ok tt) wrote

    pub failed_looks : m.looks ≡ s.looks
    failed_looks = ap (λ (x : PortState). x.looks) wrote.state

    failed_wrote : OnlyWrote s m
    failed_wrote = wrote_unit s m k wrote log

    failed_clauses : HasClauses m (attached ring.watches)
    failed_clauses =
        clauses_same s m (attached ring.watches) p.search.clauses failed_wrote.stays failed_wrote.taken failed_wrote.held failed_wrote.stop failed_wrote.refused
        (failed_wrote.own (attached ring.watches) p.search.clauses.own) port

    failed_watched : Watched ring.watches (lits_at m) ring.trail
    failed_watched = subst (λ (f : Lits). Watched ring.watches f ring.trail) (sym (lits_same s m failed_wrote.held)) p.search.watched

    failed_reasons : HasReasons (attached ring.watches) m ring.trail.steps
    failed_reasons =
        Reasons-more (attached ring.watches) (attached ring.watches) s m ring.trail.steps (λ c there. (there, clause_at_same s m failed_wrote.held c.address)) failed_wrote.more p.search.reasons

    -- and what follows from that was made true
    module _ (w : WatchData) (t : TrailData) (grown : HasGrown (assigned ring.trail k None) t) (same : attached w ≡ attached ring.watches)
        (shape : IsTrail t) (level : t.level ≡ 0) (watched : Watched w (lits_at m) t) (reasons : HasReasons (attached w) m t.steps) where
      pub failed_search : InSearch m (record ring { trail = t; watches = w })
      failed_search =
          let vars : m.vars ≡ s.vars = failed_wrote.stays.vars in
          let opening : m.opening ≡ s.opening = failed_wrote.stays.opening in
          let now = unit_stands s m ring.trail ring.watches ring.watches ring.written p.search p.level failed_clauses failed_watched failed_reasons vars opening k wrote.sees in
          let told = unit_told s m ring.trail ring.watches ring.watches ring.written p.search p.level failed_clauses failed_watched failed_reasons vars opening k wrote.sees free in
          record {
            clauses = subst (HasClauses m) (sym same) failed_clauses;
            opening = unit_opening s m ring.trail ring.watches ring.watches ring.written p.search p.level failed_clauses failed_watched failed_reasons vars opening k wrote.sees;
            stands = record {
              vars = grown.vars ∙ p.search.stands.vars ∙ sym vars;
              reasoned = Reasons-held (attached w) m t.steps reasons;
              seen = λ j h. subst (λ (steps : List TrailStep). TrueWithin steps 0 j) (sym grown.steps) (within_more (assigned ring.trail k None).steps grown.more 0 j (now.seen j h));
            };
            trail = shape;
            watched = watched;
            closed = λ j below. absurd (omega (arith, level, below));
            reasons = reasons;
            told = told_grown m (assigned ring.trail k None) t ring.written told now shape grown;
          }

      pub failed_listed : HasLemmas s ring → HasLemmas m (record ring { trail = t; watches = w })
      failed_listed listed =
          listed_same s m ring (record ring { trail = t; watches = w }) failed_wrote.stays.start failed_wrote.recent refl (λ d there. subst (λ (cs : List Cref). Contains cs d) (sym same) there) refl refl refl
          (record { imports = refl; last_start = refl }) (kept_wrote s m ring.lemmas.items failed_wrote) listed

      pub failed_longer : length ring.trail.steps ≤ length t.steps
      failed_longer =
          let long = ap (λ (ss : List TrailStep). length ss) grown.steps ∙ length-append (assigned ring.trail k None).steps grown.more in
          let one = length-append ring.trail.steps (record { lit = k; level = ring.trail.level; reason = None } ∷ []) in
          omega (arith, long, one)

      -- and then all lines were written
      module _ (u : PortState) (new : Ring) (same_trail : new.trail ≡ t) (same_watches : new.watches ≡ w) (search : InSearch u new) (lines : OnlyWrote m u) (quiet : IsQuiet w (lits_at m) t) (whole : new.written ≡ length new.trail.steps) where
        pub told_resting : IsResting u new
        told_resting = record {
          reduced = (let first = failed_wrote.reduced in let then = lines.reduced in omega (arith, first, then, p.reduced));
          search = search;
          level = ap (λ (x : TrailData). x.level) same_trail ∙ level;
          quiet = subst (λ (x : TrailData). IsQuiet new.watches (lits_at u) x) (sym same_trail)
              (subst (λ (x : WatchData). IsQuiet x (lits_at u) t) (sym same_watches) (subst (λ (f : Lits). IsQuiet w f t) (sym (lits_same m u lines.held)) quiet));
          whole = whole;
          lately = lines.recent ∙ failed_wrote.recent ∙ p.lately;
          none_taken = lines.taken ∙ failed_wrote.taken ∙ p.none_taken;
        }

        pub told_all : ToldUnits m u → HasToldAll (record { port = m; watches = w; trail = t }) (point u new)
        told_all units = record {
          lines = lines;
          units = units;
          told = subst (λ (x : TrailData). AreTold u x (length x.steps)) same_trail (subst (AreTold u new.trail) whole search.told);
          alone = subst (λ (x : TrailData). Rattle.ring_run.specs.Searching.SeenTrue u x.steps) same_trail search.stands.seen;
          same = ap (λ (x : WatchData). record { port = u; watches = x; trail = new.trail }) same_watches ∙ ap (λ (x : TrailData). record { port = u; watches = w; trail = x }) same_trail;
        }

    -- and then the empty clause was
    module _ (u : PortState) (ended : EndedLog m u) (log_after : KeepsLog m u) (port_after : IsPort u) where
      pub refuted_halts : HaltsAt s u Refuted
      refuted_halts = record {
        ends = λ n start q. empty_refutes start m u n (failed_keeps start n q) ended log_after port_after;
        halted = tt;
        refusal = tt;
        none = refl;
      }

      pub refuted_nothing : OffersNothing s u
      refuted_nothing = nothing_then s m u failed_nothing (nothing_empty m u (Ok tt) ended)

      pub refuted_looks : u.looks ≡ s.looks
      refuted_looks = ap (λ (x : PortState). x.looks) ended.state ∙ failed_looks

  -- a call was refused
  module _ (u : PortState) (stop : PortStop) (cut : WasCutShort s u (attached ring.watches) ring.trail l stop) (port_after : IsPort u) where
    pub cut_over : EndsAt s u (end_refused stop)
    cut_over n start q = by cut.before
      where
        by : (cut.middle ≡ s) ⊎ WroteNegation s cut.middle ring.trail.steps l → Rattle.ring_run.specs.Ending.ComesTo start u n (end_refused stop)
        by (inl is) = refused_ends start cut.middle u n stop (subst (λ (x : PortState). Rattle.ring_run.specs.Searching.GoesOn start x n) (sym is) q) cut.refused cut.log_after port_after
        by (inr line) = refused_ends start cut.middle u n stop (failed_keeps cut.middle line.wrote cut.log cut.port start n q) cut.refused cut.log_after port_after

    pub cut_nothing : OffersNothing s u
    cut_nothing = by cut.before
      where
        by : (cut.middle ≡ s) ⊎ WroteNegation s cut.middle ring.trail.steps l → OffersNothing s u
        by (inl is) = subst (λ (x : PortState). OffersNothing x u) is (nothing_refused cut.middle u stop cut.refused)
        by (inr line) = nothing_then s cut.middle u (failed_nothing cut.middle line.wrote cut.log cut.port) (nothing_refused cut.middle u stop cut.refused)

    pub cut_looks : u.looks ≡ s.looks
    cut_looks = by cut.before
      where
        by : (cut.middle ≡ s) ⊎ WroteNegation s cut.middle ring.trail.steps l → u.looks ≡ s.looks
        by (inl is) = refused_looks cut.middle u stop cut.refused ∙ ap (λ (x : PortState). x.looks) is
        by (inr line) = refused_looks cut.middle u stop cut.refused ∙ ap (λ (x : PortState). x.looks) line.wrote.state

  -- the literal didn't fail
  module _ (m : PortState) (w : WatchData) (t : TrailData) (held : DidNotFail s m (attached ring.watches) ring.trail t l) (same : attached w ≡ attached ring.watches)
      (watched : Watched w (lits_at m) t) (reasons : HasReasons (attached w) m t.steps) (quiet : IsQuiet w (lits_at m) t) where
    pub holds_resting : IsResting m (record ring { trail = t; watches = w })
    holds_resting =
        let is : m ≡ s = held.state in
        let clauses : HasClauses m (attached w) = subst (λ (x : PortState). HasClauses x (attached w)) (sym is) (subst (HasClauses s) (sym same) p.search.clauses) in
        let watched_then : Watched w (lits_at m) ring.trail = subst (Watched w (lits_at m)) held.trail watched in
        let reasons_then : HasReasons (attached w) m ring.trail.steps = subst (λ (x : TrailData). HasReasons (attached w) m x.steps) held.trail reasons in
        let search : Searches m ring.trail w ring.written = search_left s m ring.trail ring.watches w ring.written p.search p.level clauses watched_then reasons_then
        (ap (λ (x : PortState). x.vars) is) (ap (λ (x : PortState). x.opening) is) (ap (λ (x : PortState). x.seen) is) in
        record {
          reduced = subst (λ (x : PortState). 1 ≤ reductions x.ring x.mine) (sym is) p.reduced;
          search = subst (λ (x : TrailData). Searches m x w ring.written) (sym held.trail) search;
          level = ap (λ (x : TrailData). x.level) held.trail ∙ p.level;
          quiet = quiet;
          whole = p.whole ∙ ap (λ (x : TrailData). length x.steps) (sym held.trail);
          lately = ap (λ (x : PortState). recent x.ring x.mine) is ∙ p.lately;
          none_taken = ap (λ (x : PortState). x.taken) is ∙ p.none_taken;
        }

    pub holds_listed : HasLemmas s ring → HasLemmas m (record ring { trail = t; watches = w })
    holds_listed listed = subst (λ (x : PortState). HasLemmas x (record ring { trail = t; watches = w })) (sym held.state)
        (listed_same s s ring (record ring { trail = t; watches = w }) refl refl refl (λ d there. subst (λ (cs : List Cref). Contains cs d) (sym same) there) refl refl refl
        (record { imports = refl; last_start = refl }) (kept_wrote s s ring.lemmas.items (wrote_none s)) listed)

-- probing goes on elsewhere, and what was done after that
pub moved_same : (old mid new : Ring) (code : ℕ) → mid ≡ record old { next_probe = code } → new ≡ record mid { trail = new.trail; watches = new.watches; written = new.written }
    → (new ≡ record old { trail = new.trail; watches = new.watches; written = new.written; next_probe = new.next_probe }) × (new.next_probe ≡ code)
moved_same old mid new code first then =
    let next : new.next_probe ≡ code = ap (λ (r : Ring). r.next_probe) then ∙ ap (λ (r : Ring). r.next_probe) first in (
      then ∙ ap (λ (r : Ring). record r { trail = new.trail; watches = new.watches; written = new.written }) first
          ∙ ap (λ (n : ℕ). record old { trail = new.trail; watches = new.watches; written = new.written; next_probe = n }) (sym next),
      next,
    )
