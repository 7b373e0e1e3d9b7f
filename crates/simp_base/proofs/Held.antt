-- Units with the numbers of their clauses, and clauses among which these are.
use Rattle.std.proofs.Common.{◌≡◌, ◌∙◌, ℕ, true, false, inl, inr, List, [], ◌∷◌, ◌++◌, ◌<◌, length, get_or, ap, sym, subst, Contains}
use Rattle.std.specs.List.{All, list_any}
use Rattle.std.proofs.lemmas.List.{map-append, length-map, get_or-map}
use Rattle.std.proofs.lemmas.List.Elements.{All-append}
use Rattle.std.proofs.lemmas.Bool.{cases_Bool}
use Rattle.sat_words.specs.Literal.{Literal}
use Rattle.sat_words.specs.Clause.{two_or_more}
use Rattle.sat_words.proofs.Members.{same-refl}
use Rattle.rup_model.proofs.Lists.{any_In, In_any, In_map, map_In, Contains_In, In_Contains}
use Rattle.simp_base.specs.WorkState.{HaveOwnNumbers, AreHeld, is_only, lists, unit_lits}
use Rattle.simp_base.specs.Tables.{RemovedNumber}
use Rattle.simp_base.proofs.Keeping.{unit_stays, only_told}
use Rattle.simp_base.proofs.Lists.{All_In, In_All, one_All, Contains_left}

pub unit_lits_more : (us : List (Literal × ℕ)) (l : Literal) (n : ℕ) → unit_lits (us ++ (l, n) ∷ []) ≡ unit_lits us ++ l ∷ []
unit_lits_more us l n = map-append (λ (u : Literal × ℕ). u.0) us ((l, n) ∷ [])

pub many_lits : (us : List (Literal × ℕ)) → length (unit_lits us) ≡ length us
many_lits us = length-map us (λ (u : Literal × ℕ). u.0)

-- the literal of a unit of the list
pub lit_at_place : (us : List (Literal × ℕ)) (i : ℕ) (u : Literal × ℕ) → i < length us → u ≡ get_or us i u → u.0 ≡ get_or (unit_lits us) i u.0
lit_at_place us i u lt is = ap (λ (v : Literal × ℕ). v.0) is ∙ sym (get_or-map (λ (v : Literal × ℕ). v.0) us i u u.0 lt)

-- what holds of each literal holds of the literal of each unit
pub of_lits : (P : Literal → Type 0) (us : List (Literal × ℕ)) → All P (unit_lits us) → All (λ u. P u.0) us
of_lits P us all = In_All (λ (u : Literal × ℕ). P u.0) us (λ u i. All_In P (unit_lits us) u.0 all (In_map (λ (x : Literal × ℕ). x.0) us u i))

pub alone_alive : (cells : List (ℕ × List Literal)) (n : ℕ) (l : Literal) → Contains cells (n, l ∷ []) → list_any (is_only l) (lists cells) ≡ true
alone_alive cells n l h = any_In (is_only l) (lists cells) (l ∷ []) (In_map (λ (x : ℕ × List Literal). x.1) cells (n, l ∷ []) (Contains_In cells (n, l ∷ []) h)) (same-refl l)

pub none_alive : (cells : List (ℕ × List Literal)) (l : Literal) → ((n : ℕ) → Contains cells (n, l ∷ []) → ⊥) → list_any (is_only l) (lists cells) ≡ false
none_alive cells l none = elim (cases_Bool (list_any (is_only l) (lists cells))) as (λ _. list_any (is_only l) (lists cells) ≡ false) [
  | inl some ↦ (
      let t = In_any (is_only l) (lists cells) some in
      let u = map_In (λ (x : ℕ × List Literal). x.1) cells t.0 t.1 in
      absurd (none u.0.0 (subst (λ (c : List Literal). Contains cells (u.0.0, c)) (u.2 ∙ only_told l t.0 t.2) (In_Contains cells u.0 u.1))))
  | inr f ↦ f
]

pub held_alive : (cells : List (ℕ × List Literal)) (us : List (Literal × ℕ)) → AreHeld cells us → All (λ l. list_any (is_only l) (lists cells) ≡ true) (unit_lits us)
held_alive cells us held = In_All (λ l. list_any (is_only l) (lists cells) ≡ true) (unit_lits us) (λ l i. (
    let t = map_In (λ (x : Literal × ℕ). x.0) us l i in
    subst (λ (k : Literal). list_any (is_only k) (lists cells) ≡ true) t.2 (alone_alive cells t.0.1 t.0.0 (All_In (λ (u : Literal × ℕ). Contains cells (u.1, u.0 ∷ [])) us t.0 held t.1))))

-- one clause more
pub held_more : (cells : List (ℕ × List Literal)) (x : ℕ × List Literal) (us : List (Literal × ℕ)) → AreHeld cells us → AreHeld (cells ++ x ∷ []) us
held_more cells x us held k d lt = Contains_left cells (x ∷ []) _ (held k d lt)

-- one unit more
pub held_listed : (cells : List (ℕ × List Literal)) (us : List (Literal × ℕ)) (l : Literal) (n : ℕ) → AreHeld cells us → Contains cells (n, l ∷ []) → AreHeld cells (us ++ (l, n) ∷ [])
held_listed cells us l n held h =
    All-append (λ (u : Literal × ℕ). Contains cells (u.1, u.0 ∷ [])) us ((l, n) ∷ []) held (one_All (λ (u : Literal × ℕ). Contains cells (u.1, u.0 ∷ [])) (l, n) h)

-- a clause of two literals or more less
pub held_less : (cells : List (ℕ × List Literal)) → HaveOwnNumbers cells → (number : ℕ) (c : List Literal) → Contains cells (number, c) → two_or_more c ≡ true → (cs : List (ℕ × List Literal)) → RemovedNumber cells cs number
    → (us : List (Literal × ℕ)) → AreHeld cells us → AreHeld cs us
held_less cells own number c alive two cs was us held k d lt = unit_stays cells own number c alive two cs was _ _ (held k d lt)
