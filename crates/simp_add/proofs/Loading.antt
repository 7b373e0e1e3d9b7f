-- What follows of a set that was loaded, and of the clauses found with it.
use Rattle.std.proofs.Common.{◌≡◌, ◌∙◌, ℕ, ◌+◌, ◌*◌, ◌<◌, ◌≤◌, Bool, true, false, not, cond, List, [], ◌∷◌, length, Some, None, sym, refl, ap, subst, arith, Contains}
use Rattle.std.specs.List.{All}
use Rattle.std.proofs.lemmas.Bool.{or_left, true≢false}
use Rattle.std.proofs.lemmas.List.Kept.{IsStrictlySortedBy-filter}
use Rattle.sat_words.specs.Literal.{Literal, IsOn, same, code_of, lit_cmp}
use Rattle.sat_words.specs.Clause.{has, is_empty, InOrder}
use Rattle.sat_words.proofs.Members.{same-refl}
use Rattle.rup_model.proofs.Covers.{same_has}
use Rattle.rup_model.proofs.Lists.{has_In, In_has}
use Rattle.simp_base.specs.WorkState.{WorkState, IsWork}
use Rattle.simp_base.proofs.Lists.{In_All}
use Rattle.simp_base.proofs.Known.{on_alive}
use Rattle.simp_base.proofs.Removal.{same_number}
use Rattle.simp_add.specs.declared.alike.Alike.{Alike}
use Rattle.simp_add.specs.Common.{others, mentions, is_first, is_counted, common_at, common_in}
use Rattle.simp_add.specs.Alike.{AreAlike, IsLoaded, is_later}
use Rattle.simp_add.specs.Counted.{is_paired}
use Rattle.simp_add.proofs.Finding.{others_in, nothing_at, there_at, later_first, later_counts_not, counts_by_found}

code_by : (v n : ℕ) (neg : Bool) → n ≤ v → 2 * n + cond neg 1 0 < 2 * (v + 1)
code_by v n true le = omega arith
code_by v n false le = omega arith

-- the literals found are on the work's variables
pub found_within : (w : WorkState) → IsWork w → (C : List Literal) (found : List Alike) → AreAlike w C found → (a : Alike) → Contains found a → code_of a.lit < 2 * (w.vars + 1)
found_within w kept C found t a h =
    let s = t.sound a h in
    let on = on_alive w kept a.number s.0 s.1 a.lit (has_In s.0 a.lit (sym (same_has (a.lit ∷ C) s.0 s.3 a.lit) ∙ or_left _ _ (same-refl a.lit))) in
    code_by w.vars a.lit.var a.lit.neg on.high

module _ (w : WorkState) (kept : IsWork w) (l : Literal) (n : ℕ) (rest : List Literal) (h : IsLoaded w l n rest true) where
  pub loaded_on : All (IsOn w.vars) rest
  loaded_on = In_All (IsOn w.vars) rest (λ k i. on_alive w kept n h.0 h.1 k (has_In h.0 k (others_in l k h.0 (ap (λ (C : List Literal). has C k) (sym h.3) ∙ In_has rest k i)).0))

  pub loaded_some : 0 < length rest
  loaded_some = some rest h.4
    where
      some : (C : List Literal) → is_empty C ≡ false → 0 < length C
      some [] e = absurd (true≢false e)
      some (k ∷ C) e = omega arith

  pub loaded_ordered : InOrder rest
  loaded_ordered = subst InOrder (sym h.3) (IsStrictlySortedBy-filter lit_cmp (λ j. not (same l j)) h.0 h.6)

  module _ (found : List Alike) (t : AreAlike w rest found) where
    alike : AreAlike w (others l h.0) found
    alike = subst (λ (C : List Literal). AreAlike w C found) h.3 t

    some_set : is_empty (others l h.0) ≡ false
    some_set = ap is_empty (sym h.3) ∙ h.4

    apart : mentions l (others l h.0) ≡ false
    apart = ap (mentions l) (sym h.3) ∙ h.5

    -- a later copy counts for nothing
    pub later_nothing : is_later found l n ≡ true → (k : Literal) → common_at w.clauses l k n ≡ None
    later_nothing later k = nothing_at w l k n (λ c i. ap (is_counted w.clauses l k n) (same_number w.clauses kept.numbers n c h.0 i h.1) ∙ later_counts_not w kept l k n h.0 h.1 h.2 some_set apart found alike later)

    -- the first copy counts for the literals found
    pub paired_at : is_later found l n ≡ false → (k : Literal) → code_of l < code_of k → common_at w.clauses l k n ≡ cond (is_paired l rest found k) (Some rest) None
    paired_at first k lt =
        let one : is_first w.clauses n h.0 ≡ true = by (is_first w.clauses n h.0) (sym (later_first w kept l k n h.0 h.1 h.2 some_set apart found alike) ∙ first) in
        ap (common_in w.clauses l k n) (there_at w.clauses kept.numbers n h.0 h.1)
        ∙ ap (λ (b : Bool). cond b (Some (others l h.0)) None) (counts_by_found w kept l k n h.0 h.1 h.2 some_set apart found alike lt one)
        ∙ (let e = sym h.3 in λ i. cond (is_paired l (e i) found k) (Some (e i)) None)
      where
        by : (b : Bool) → not b ≡ false → b ≡ true
        by true e = refl
        by false e = absurd (true≢false e)
