-- The stop names the ring whose end counts.
use Rattle.std.proofs.Common.{◌≡◌, ℕ, ◌<◌, List, length, get_or, refl, sym, ap, subst, ◌∙◌, Option, Some, None, IfSome, eq-eqb, ne_eqb, if◌then◌else◌}
use Rattle.std.specs.Prelude.{All, IfNone}
use Rattle.std.specs.Option.{option_map}
use mathlib.Core.Option.{some}
use lib.ListN.{get_elem?}
use Rattle.sat_words.specs.declared.shared.Stop.{Stop}
use Rattle.share_core.specs.declared.event.Stop.{Stop as CoreStop}
use Rattle.share_core.specs.declared.part.CoreOpening.{CoreOpening}
use Rattle.share_core.proofs.Counting.{none_some, some_same}
use Rattle.share_core.proofs.Leaving.{left_sound}
use Rattle.share_rule.specs.declared.view.RingPart.{RingPart}
use Rattle.share_rule.specs.declared.view.View.{View}
use Rattle.share_rule.specs.Exchanges.{stop_of, MayFind, after_look}
use Rattle.share_rule.specs.Seen.{Seen}
use Rattle.share_rule.specs.Views.{own_stop}
use Rattle.stop_word.specs.Stops.{core_stop}
use Rattle.ring_run.specs.declared.job.Counts.{Counts}
use Rattle.ring_run.specs.declared.job.End.{End}
use Rattle.ring_run.specs.declared.job.End.TheVariants.{Sat, Refuted, Spent, Stopped, NoHole, ProofFault, Memory}
use Rattle.ring_run.specs.Ended.{stop_kind}
use Rattle.portfolio_run.specs.Ends.{set_of, IsStopped, IsEndAt, AreEndsOf, IsWonBy}

spent_of : (r : ℕ) (e : End) → set_of r e ≡ None → (IsStopped e → ⊥) → e ≡ Spent
spent_of r (Sat a) h free = absurd (none_some _ (sym h))
spent_of r Refuted h free = absurd (none_some _ (sym h))
spent_of r Spent h free = refl
spent_of r (Stopped x) h free = absurd (free tt)
spent_of r (NoHole x) h free = absurd (none_some _ (sym h))
spent_of r ProofFault h free = absurd (none_some _ (sym h))
spent_of r Memory h free = absurd (none_some _ (sym h))

won_kind : (k : Option ℕ) (r : ℕ) (t : CoreStop) → option_map (λ (kind : ℕ). record { kind = kind; ring = r }) k ≡ Some t → k ≡ Some t.kind
won_kind None r t h = absurd (none_some t h)
won_kind (Some k) r t h = ap (λ (y : CoreStop). Some y.kind) (some_same (record { kind = k; ring = r }) t h)

lost_kind : (k : Option ℕ) (r : ℕ) → option_map {T = ℕ} {U = CoreStop} (λ (kind : ℕ). record { kind = kind; ring = r }) k ≡ None → k ≡ None
lost_kind None r h = refl
lost_kind (Some k) r h = absurd (none_some (record { kind = k; ring = r }) (sym h))

module _ (v : View) (s : Seen v) where
  -- no ring has set one
  set_none : (i : ℕ) (p : RingPart) → get_elem? v.parts i ≡ some p → v.stop ≡ None → (x : Option CoreStop) → p.set ≡ x → x ≡ None
  set_none i p at none None e = refl
  set_none i p at none (Some t) e = absurd (none_some t (sym none ∙ s.stops.own i p at t e))

  end_spent : (i : ℕ) (e : End) → IsEndAt v i e → v.stop ≡ None → e ≡ Spent
  end_spent i e h none = spent_of i e (sym h.set ∙ set_none i h.part h.there none h.part.set refl) (h.unstopped none)

  -- what it has set is the stop, if that is its own
  set_is : (i : ℕ) (e : End) (t : CoreStop) → IsEndAt v i e → v.stop ≡ Some t → set_of i e ≡ own_stop i (Some t)
  set_is i e t h stop = sym h.set ∙ (s.parts i h.part h.there).set ∙ (λ j. own_stop (h.ring_is j) (s.stops.stands t stop j))

  end_won : (i : ℕ) (e : End) (t : CoreStop) → IsEndAt v i e → v.stop ≡ Some t → t.ring ≡ i → stop_kind e ≡ Some t.kind
  end_won i e t h stop mine = won_kind (stop_kind e) i t (set_is i e t h stop ∙ (λ j. if eq-eqb t.ring i mine j then Some t else None))

  end_lost : (i : ℕ) (e : End) (t : CoreStop) → IsEndAt v i e → v.stop ≡ Some t → (t.ring ≡ i → ⊥) → stop_kind e ≡ None
  end_lost i e t h stop other = lost_kind (stop_kind e) i (set_is i e t h stop ∙ (λ j. if ne_eqb t.ring i other j then Some t else None))

  -- the stop is one of the rings'
  stop_below : (t : CoreStop) → v.stop ≡ Some t → t.ring < v.opening.rings
  stop_below t stop = subst (λ (o : CoreOpening). t.ring < o.rings) (sym s.opening) ((left_sound s.core.opening s.core s.left).stops.kinds t (s.stops.stands t stop)).2

  pub no_winner : (ends : List (End × Counts)) (x : Option Stop) (r : Option ℕ) → r ≡ option_map (λ (y : Stop). y.ring) x → v.stop ≡ option_map core_stop x → AreEndsOf v ends → IfNone r (All (λ (e : End × Counts). e.0 ≡ Spent) ends)
  no_winner ends None r is seen each = subst (λ (o : Option ℕ). IfNone o (All (λ (e : End × Counts). e.0 ≡ Spent) ends)) (sym is) (λ i d lt. end_spent i (get_or ends i d).0 (each i d lt) seen)
  no_winner ends (Some y) r is seen each = subst (λ (o : Option ℕ). IfNone o (All (λ (e : End × Counts). e.0 ≡ Spent) ends)) (sym is) tt

  pub one_winner : (ends : List (End × Counts)) (x : Option Stop) (r : Option ℕ) → r ≡ option_map (λ (y : Stop). y.ring) x → v.stop ≡ option_map core_stop x → length ends ≡ v.opening.rings → AreEndsOf v ends → IfSome r (λ ring. IsWonBy v ends ring)
  one_winner ends None r is seen many each = subst (λ (o : Option ℕ). IfSome o (λ ring. IsWonBy v ends ring)) (sym is) tt
  one_winner ends (Some y) r is seen many each =
      let below : y.ring < length ends = subst (λ (n : ℕ). y.ring < n) (sym many) (stop_below (core_stop y) seen) in
      subst (λ (o : Option ℕ). IfSome o (λ ring. IsWonBy v ends ring)) (sym is) (record {
        kind = y.kind;
        stop = seen;
        below = below;
        decided = λ d. end_won y.ring (get_or ends y.ring d).0 (core_stop y) (each y.ring d below) seen refl;
        others = λ i d lt ne. end_lost i (get_or ends i d).0 (core_stop y) (each i d lt) seen (λ e. ne (sym e));
      })

-- the parts stay if the stop is only looked at, and a stop that was known is found
pub ends_stay : (v w : View) (found : ℕ) (ends : List (End × Counts)) → w ≡ after_look found v → MayFind v (stop_of found) → AreEndsOf v ends → AreEndsOf w ends
ends_stay v w found ends is may each = λ i d lt.
    let h = each i d lt in
    record {
      part = h.part;
      there = ap (λ (u : View). get_elem? u.parts i) is ∙ h.there;
      ring_is = h.ring_is;
      set = h.set;
      unstopped = λ none stopped. h.unstopped (was (stop_of found) (sym (ap (λ (u : View). u.stop) is) ∙ none) may) stopped;
    }
  where
    was : (x : Option CoreStop) → x ≡ None → MayFind v x → v.stop ≡ None
    was None e h = h
    was (Some t) e h = absurd (none_some t (sym e))
