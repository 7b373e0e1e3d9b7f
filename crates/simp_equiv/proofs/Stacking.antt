-- Entries come to the stack.
use Rattle.std.proofs.Common.{◌≡◌, ◌≢◌, ℕ, zero, suc, ◌+◌, ◌-◌, ◌≤◌, ◌++◌, Bool, cond, List, [], ◌∷◌, refl, sym, ap, subst, ◌∙◌, append_assoc, append-nil, arith, ne_eqb}
use Rattle.std.proofs.lemmas.Bool.{eq-eqb}
use Rattle.std.specs.List.{flat_map, range_with_len}
use Rattle.std.specs.Prelude.{Result, Ok, Err}
use Rattle.model_stack.specs.declared.stack.Fix.{Fix}
use Rattle.drat_text.specs.declared.stop.LineStop.{LineStop}
use Rattle.sat_words.specs.Literal.{Literal}
use Rattle.simp_base.specs.WorkState.{WorkState, IsWork}
use Rattle.simp_base.proofs.LiftSteps.{logs_along}
use Rattle.simp_base.proofs.Stopping.{output_cause_after}
use Rattle.simp_equiv.specs.Replacements.{Replacement, positive, replacement_of, replacement_at, replacements, replacement_entries, replaced_entries}
use Rattle.simp_base.proofs.Stacking.{stacked_none, stacked_along}
use Rattle.simp_base.specs.Stacked.{Stacked, WasStacked}
use Rattle.simp_equiv.proofs.Edges.{flat_last}

range_last : (m n : ℕ) → range_with_len m (suc n) ≡ range_with_len m n ++ (m + n) ∷ []
range_last m zero = ap (λ (k : ℕ). k ∷ []) (let e : m ≡ m + 0 = omega arith in e)
range_last m (suc n) = ap (λ (ks : List ℕ). m ∷ ks) (range_last (m + 1) n ∙ ap (λ (k : ℕ). range_with_len (m + 1) n ++ k ∷ []) (let e : (m + 1) + n ≡ m + suc n = omega arith in e))

entries_append : (ps qs : List Replacement) → replaced_entries (ps ++ qs) ≡ replaced_entries ps ++ replaced_entries qs
entries_append [] qs = refl
entries_append (p ∷ ps) qs = ap (λ (es : List Fix). replacement_entries p ++ es) (entries_append ps qs) ∙ sym (append_assoc (replacement_entries p) (replaced_entries ps) (replaced_entries qs))

-- the entries of one variable more
pub entries_more : (sin : Literal → Literal) (n : ℕ) → replaced_entries (replacements sin (suc n)) ≡ replaced_entries (replacements sin n) ++ replaced_entries (replacement_at sin (suc n))
entries_more sin n =
    ap (λ (vs : List ℕ). replaced_entries (flat_map (replacement_at sin) vs)) (range_last 1 n ∙ ap (λ (k : ℕ). range_with_len 1 n ++ k ∷ []) (let e : 1 + n ≡ suc n = omega arith in e))
    ∙ ap replaced_entries (flat_last (replacement_at sin) (range_with_len 1 n) (suc n))
    ∙ entries_append (replacements sin n) (replacement_at sin (suc n))

-- a variable that stands for itself gives none
pub stacked_own : (w : WorkState) (sin : Literal → Literal) (v : ℕ) → IsWork w → (sin (positive v)).var ≡ v → Stacked w w (replaced_entries (replacement_at sin v))
stacked_own w sin v kept e = subst (λ (fs : List Fix). Stacked w w fs) (sym (ap (λ (b : Bool). replaced_entries (cond b [] (replacement_of sin v ∷ []))) (eq-eqb (sin (positive v)).var v e))) (stacked_none w kept)

-- another one gives two
pub was_stacked_moved : (a b : WorkState) (sin : Literal → Literal) (v : ℕ) → (sin (positive v)).var ≢ v → (result : Result (Unit {0}) LineStop) → WasStacked a b (replacement_entries (replacement_of sin v)) result → WasStacked a b (replaced_entries (replacement_at sin v)) result
was_stacked_moved a b sin v ne result h =
    subst (λ (fs : List Fix). WasStacked a b fs result)
    (sym (append-nil (replacement_entries (replacement_of sin v))) ∙ sym (ap (λ (t : Bool). replaced_entries (cond t [] (replacement_of sin v ∷ []))) (ne_eqb (sin (positive v)).var v ne)))
    h

-- one variable more
pub stacked_next : (a b c : WorkState) (sin : Literal → Literal) (v w : ℕ) → 1 ≤ v → w ≡ v → Stacked a b (replaced_entries (replacements sin (v - 1))) → Stacked b c (replaced_entries (replacement_at sin v)) → Stacked a c (replaced_entries (replacements sin w))
stacked_next a b c sin zero w lo e f g = absurd (omega arith)
stacked_next a b c sin (suc v) w lo e f g =
    subst (λ (k : ℕ). Stacked a c (replaced_entries (replacements sin k))) (sym e)
    (subst (λ (fs : List Fix). Stacked a c fs) (sym (entries_more sin v))
    (stacked_along a b c (replaced_entries (replacements sin v)) (replaced_entries (replacement_at sin (suc v)))
    (subst (λ (k : ℕ). Stacked a b (replaced_entries (replacements sin k))) (let q : suc v - 1 ≡ v = omega arith in q) f) g))
