-- Where nothing is left to propagate, no clause forces anything and none is false.
use Rattle.std.proofs.Common.{◌≡◌, ℕ, ◌≤◌, List, Some, length, sym, subst, inl, inr, Contains}
use Rattle.sat_words.specs.Literal.{Literal}
use Rattle.sat_words.specs.declared.shared.Cref.{Cref}
use Rattle.rup_model.proofs.Lists.{In_map, Contains_In, In_Contains}
use Rattle.ring_trail.specs.TrailData.{TrailData, IsTrail, IsTrueOn}
use Rattle.ring_trail.specs.Closed.{IsClosed}
use Rattle.ring_trail.proofs.Truths.{neither}
use Rattle.watch_prop.specs.declared.watch.Watch.{Watch}
use Rattle.watch_prop.specs.declared.choice.Best.{Best}
use Rattle.watch_prop.specs.WatchData.{WatchData, Lits, attached, clauses_of}
use Rattle.watch_prop.specs.Watched.{At}
use Rattle.watch_prop.specs.Propagation.{IsConflict, IsQuiet}
use Rattle.watch_prop.specs.Choice.{IsBest}
use Rattle.watch_prop.specs.Visiting.{NotFalse, IsForcing}
use Rattle.watch_prop.proofs.Growing.{cases_TrueWithin, clause_of, TrueOn-within}
use Rattle.watch_prop.proofs.Ranks.{best-forces}
use Rattle.watch_prop.proofs.TrailRounds.{closed_apart}

pub quiet-forces : (w : WatchData) (h : Lits) (t : TrailData) (i : ℕ) (k : Literal) (c : Cref) → IsTrail t → IsQuiet w h t → IsForcing w h t i k c → ⊥
quiet-forces w h t i k c shape quiet f =
    closed_apart t shape (clauses_of w h) (quiet.closed t.level)
    record {
      clause = h c.address;
      member = subst (λ (d : Cref). Contains (clauses_of w h) (h d.address)) f.at.clause (clause_of w h i f.at.watch f.at.there);
      false_or_unit = inr record { lit = k; free = f.free; forces = f.forces };
    }

pub quiet-conflict : (w : WatchData) (h : Lits) (t : TrailData) (c : Cref) → IsTrail t → IsQuiet w h t → IsConflict w h t c → ⊥
quiet-conflict w h t c shape quiet f =
    closed_apart t shape (clauses_of w h) (quiet.closed t.level)
    record {
      clause = h c.address;
      member = In_Contains (clauses_of w h) (h c.address) (In_map (λ (d : Cref). h d.address) (attached w) c (Contains_In (attached w) c f.member));
      false_or_unit = inl f.false_all;
    }

-- the second of the best is false: the first is true
pub quiet-true : (w : WatchData) (h : Lits) (t : TrailData) (i : ℕ) (s : Watch) (b : Best) → IsTrail t → IsQuiet w h t → At w.slots i (Some s) → IsBest t (h s.clause.address) (length (h s.clause.address)) b → b.low ≤ t.level
    → NotFalse t.steps b.first → IsTrueOn t.steps b.first
quiet-true w h t i s b shape quiet at best low open_lit =
    elim (cases_TrueWithin t.steps t.level b.first) as (λ _. IsTrueOn t.steps b.first) [
      | inl f ↦ record { place = f.place; before = f.in_range; true_there = f.true_there }
      | inr none ↦ absurd (closed_apart t shape (clauses_of w h) (quiet.closed t.level)
          record {
            clause = h s.clause.address;
            member = clause_of w h i s at;
            false_or_unit = inr record { lit = b.first; free = neither t.steps b.first (λ q. none (TrueOn-within t b.first shape q)) open_lit; forces = best-forces t (h s.clause.address) b best low };
          })
    ]

-- the same clauses, and the same trail
pub quiet-same : (v w : WatchData) (h : Lits) (t u : TrailData) → attached w ≡ attached v → u ≡ t → IsQuiet v h t → IsQuiet w h u
quiet-same v w h t u e f quiet =
    subst (λ (x : TrailData). IsQuiet w h x) (sym f)
    record { done = quiet.done; closed = λ k. subst (λ (cs : List Cref). IsClosed (Rattle.std.specs.Prelude.map (λ (c : Cref). h c.address) cs) t.steps k) (sym e) (quiet.closed k) }
