-- What hints of a line may rest on.
use Rattle.std.proofs.Common.{◌≡◌, ◌≢◌, ℕ, ◌<◌, ◌||◌, Bool, true, false, not, List, [], ◌∷◌, length, ap, sym, subst, arith, refl, inr}
use Rattle.std.proofs.lemmas.Bool.{false≢true, true≢false}
use Rattle.sat_words.specs.Literal.{Literal, opposite, same}
use Rattle.sat_words.specs.Clause.{has}
use Rattle.sat_words.proofs.Members.{same-true, same-refl}
use Rattle.ring_port.specs.PortState.{PortState}
use Rattle.ring_port.specs.Port.{AreHints}
use Rattle.ring_port.specs.Drawing.{Drew}
use Rattle.ring_trail.specs.TrailData.{TrailData, IsTrail, IsFalseClause, lit_at}
use Rattle.ring_trail.specs.Reasoned.{Held}
use Rattle.analyze.specs.Tracing.{CanTraceClause, CanTraceLiteral}

not_same : (k l : Literal) → k ≢ l → same k l ≡ false
not_same k l differ = by (same k l) refl
  where
    by : (b : Bool) → same k l ≡ b → same k l ≡ false
    by true e = absurd (differ (same-true k l e))
    by false e = e

has_one : (k l : Literal) → k ≢ l → has (l ∷ []) k ≡ false
has_one k l differ = ap (λ (b : Bool). b || false) (not_same k l differ)

not_opposite : (l : Literal) → opposite l ≢ l
not_opposite l e = by l.neg (ap (λ (x : Literal). x.neg) e)
  where
    by : (b : Bool) → not b ≡ b → ⊥
    by true e = false≢true e
    by false e = true≢false e

-- a line of the one literal at a place of level 0
pub unit_traces : (held : Held) (t : TrailData) (place : ℕ) → IsTrail t → t.level ≡ 0 → place < length t.steps → CanTraceLiteral held t.steps (lit_at t.steps place ∷ []) place
unit_traces held t place shape level lt =
    let l : Literal = lit_at t.steps place in
    record {
      in_range = lt;
      true_there = ap (λ (b : Bool). b || false) (same-refl l);
      none_before = λ p before. has_one (lit_at t.steps p) l (λ e. (
          let at = shape.distinct p place (omega (arith, before, lt)) lt (ap (λ (x : Literal). x.var) e) in
          omega (arith, at, before)));
      apart = has_one (opposite l) l (not_opposite l);
      support = λ p. false;
      supports = λ p inside above on. absurd (false≢true on);
      starts = λ above. absurd (let within = shape.within place lt in omega (arith, within, above, level));
    }

-- the empty line, from a clause that is false at level 0
pub conflict_traces : (held : Held) (t : TrailData) (c : List Literal) → IsTrail t → t.level ≡ 0 → IsFalseClause t.steps c → CanTraceClause held t.steps [] c
conflict_traces held t c shape level bad = record {
  refuted = λ k h. inr (bad k h);
  none_true = λ p lt. refl;
  support = λ p. true;
  supports = λ p lt above on. absurd (let within = shape.within p lt in omega (arith, within, above, level));
  starts = λ p false_by. refl;
}

-- a draw changes nothing that hints name
pub hints_drawn : (s u : PortState) (c : List Literal) (hints : List ℕ) → Drew s u → AreHints s c hints → AreHints u c hints
hints_drawn s u c hints d h = subst (λ (x : PortState). AreHints x c hints) (sym d.state) h
