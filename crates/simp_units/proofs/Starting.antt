-- The values that are the units listed.
use Rattle.std.proofs.Common.{◌≡◌, ℕ, zero, suc, ◌+◌, ◌<◌, Bool, true, false, not, List, [], ◌∷◌, ◌++◌, length, take, get_or, set, replicate, refl, sym, ap, ◌∙◌, subst, inl, inr, ⊎_elim, Option, Some, None, arith}
use Rattle.std.specs.List.{All}
use Rattle.std.proofs.lemmas.List.{take_more, take-map}
use Rattle.std.proofs.lemmas.Bool.{or_left, and_from, cases_Bool, true≢false, false≢true}
use Rattle.sat_words.specs.Literal.{Literal, opposite}
use Rattle.sat_words.specs.Clause.{has}
use Rattle.sat_words.proofs.Members.{same-refl}
use Rattle.sat_words.specs.Values.{is_true, value_of, is_value}
use Rattle.rup_model.specs.Rounds.{falsifies, Rounds}
use Rattle.rup_model.specs.Rup.{conflicts, rup}
use Rattle.rup_model.proofs.Lists.{In, In_has, has_In, In_append, In_append_left, In_append_right, In_get_or, none_In}
use Rattle.rup_model.proofs.Covers.{both_true}
use Rattle.rup_model.proofs.Closed.{Rounds-step}
use Rattle.rup_model.proofs.AssignedLemmas.{is_true-set, is_true-set_stays, is_true-set_itself}
use Rattle.simp_base.specs.WorkState.{WorkState, known, unit_lits}
use Rattle.simp_units.specs.Begun.{Oppose}
use Rattle.simp_units.specs.Progress.{Progress}
use Rattle.simp_base.proofs.Known.{unit_among}
use Rattle.simp_base.proofs.Held.{many_lits, lit_at_place}

-- a unit clause gives its literal in the first round
Rounds-unit : (G : List (List Literal)) (l : Literal) → In (l ∷ []) G → conflicts G [] ≡ false → Rounds G [] l ≡ true
Rounds-unit G l i quiet = Rounds-step G [] (λ _. false) (l ∷ []) l quiet (λ m h. absurd (false≢true h)) i (or_left _ _ (same-refl l)) (and_from _ _ (or_left _ _ (same-refl l)) refl)

-- if the values are the units, they were reached from none
pub progress_begun : (w : WorkState) (a : List (Option Bool)) → ((l : Literal) → has w.units l ≡ is_true a l) → Progress w w a
progress_begun w a same_units = record {
  reaches = record {
    grown = λ l h. absurd (false≢true h);
    reached = λ quiet l h. Rounds-unit (known w) l (unit_among w l (has_In w.units l (same_units l ∙ h))) quiet;
  };
  vars = refl;
  stack = refl;
  quiet = refl;
  stay = λ n c h. h;
  came = λ n c h. inl h;
  units = λ l h. h;
}

-- units that oppose falsify a clause
pub opposed_conflicts : (w : WorkState) → Oppose w.units → conflicts (known w) [] ≡ true
unfolding conflicts
opposed_conflicts w o = elim (cases_Bool (conflicts (known w) [])) as (λ _. conflicts (known w) [] ≡ true) [
  | inl e ↦ e
  | inr quiet ↦ (
      let i = unit_among w o.lit (has_In w.units o.lit o.there) in
      let n = Rounds-unit (known w) (opposite o.lit) (unit_among w (opposite o.lit) (has_In w.units (opposite o.lit) o.negated)) quiet in
      absurd (true≢false (sym (and_from _ _ n refl) ∙ none_In (falsifies (Rounds (known w) [])) (known w) (o.lit ∷ []) quiet i)))
]

pub empty_from_conflict : (G : List (List Literal)) → conflicts G [] ≡ true → rup G [] ≡ true
unfolding rup
empty_from_conflict G h = h

-- Loading

pub none_true : (n : ℕ) (l : Literal) → is_true (replicate n None) l ≡ false
none_true n l = ap (λ v. is_value v (not l.neg)) (reads n l.var)
  where
    reads : (m i : ℕ) → value_of (replicate m None) i ≡ None
    reads zero i = refl
    reads (suc m) zero = refl
    reads (suc m) (suc i) = reads m i

pub loaded_more : (units : List Literal) (a : List (Option Bool)) (i : ℕ) (l : Literal) → i < length units → l ≡ get_or units i l → ((k : Literal) → has (take i units) k ≡ is_true a k) → is_true a (opposite l) ≡ false → l.var < length a
    → (k : Literal) → has (take (i + 1) units) k ≡ is_true (set a l.var (Some (not l.neg))) k
loaded_more units a i l lt is was free range k =
    ap (λ us. has us k) (take_more units i l lt ∙ ap (λ x. take i units ++ x ∷ []) (sym is))
    ∙ both_true (has (take i units ++ l ∷ []) k) (is_true (set a l.var (Some (not l.neg))) k)
    (λ h. ⊎_elim
    (λ (x : In k (take i units)). kept k (sym (was k) ∙ In_has (take i units) k x))
    (λ (x : In k (l ∷ [])). one k x)
    (In_append (take i units) (l ∷ []) k (has_In (take i units ++ l ∷ []) k h)))
    (λ h. elim (is_true-set a l k range h) as (λ _. has (take i units ++ l ∷ []) k ≡ true) [
      | inl e ↦ In_has (take i units ++ l ∷ []) k (In_append_right (take i units) (l ∷ []) k (inl e))
      | inr t ↦ In_has (take i units ++ l ∷ []) k (In_append_left (take i units) (l ∷ []) k (has_In (take i units) k (was k ∙ t)))
    ])
  where
    one : (m : Literal) → In m (l ∷ []) → is_true (set a l.var (Some (not l.neg))) m ≡ true
    one m (inl e) = subst (λ x. is_true (set a l.var (Some (not l.neg))) x ≡ true) e (is_true-set_itself a l range)
    one m (inr x) = absurd x

    kept : (m : Literal) → is_true a m ≡ true → is_true (set a l.var (Some (not l.neg))) m ≡ true
    kept m h = is_true-set_stays a l m free range h

In_take : {X : Type 0} (i : ℕ) (xs : List X) (x : X) → In x (take i xs) → In x xs
In_take zero xs x h = absurd h
In_take (suc i) [] x h = absurd h
In_take (suc i) (y ∷ xs) x (inl e) = inl e
In_take (suc i) (y ∷ xs) x (inr h) = inr (In_take i xs x h)

pub opposed_here : (units : List Literal) (a : List (Option Bool)) (i : ℕ) (l : Literal) → i < length units → l ≡ get_or units i l → ((k : Literal) → has (take i units) k ≡ is_true a k) → is_true a (opposite l) ≡ true → Oppose units
opposed_here units a i l lt is was bad = record {
  lit = l;
  there = In_has units l (subst (λ x. In x units) (sym is) (In_get_or units i l lt));
  negated = In_has units (opposite l) (In_take i units (opposite l) (has_In (take i units) (opposite l) (was (opposite l) ∙ bad)));
}

-- Units with numbers

module _ (units : List (Literal × ℕ)) (a : List (Option Bool)) (i : ℕ) (u : Literal × ℕ) (lt : i < length units) (is : u ≡ get_or units i u)
    (was : (k : Literal) → has (unit_lits (take i units)) k ≡ is_true a k) where
  inside : i < length (unit_lits units)
  inside = let many = many_lits units in omega arith

  same_lits : (j : ℕ) → take j (unit_lits units) ≡ unit_lits (take j units)
  same_lits j = take-map (λ (v : Literal × ℕ). v.0) j units

  were : (k : Literal) → has (take i (unit_lits units)) k ≡ is_true a k
  were k = ap (λ us. has us k) (same_lits i) ∙ was k

  pub loaded_pair : is_true a (opposite u.0) ≡ false → u.0.var < length a → (k : Literal) → has (unit_lits (take (i + 1) units)) k ≡ is_true (set a u.0.var (Some (not u.0.neg))) k
  loaded_pair free range k = ap (λ us. has us k) (sym (same_lits (i + 1))) ∙ loaded_more (unit_lits units) a i u.0 inside (lit_at_place units i u lt is) were free range k

  pub opposed_pair : is_true a (opposite u.0) ≡ true → Oppose (unit_lits units)
  opposed_pair bad = opposed_here (unit_lits units) a i u.0 inside (lit_at_place units i u lt is) were bad

-- the variable of a unit is in range
pub pair_in_range : (units : List (Literal × ℕ)) (i n : ℕ) (u : Literal × ℕ) → i < length units → u ≡ get_or units i u → All (λ l. l.var < n) (unit_lits units) → u.0.var < n
pair_in_range units i n u lt is on =
    let many = many_lits units in
    subst (λ (l : Literal). l.var < n) (sym (lit_at_place units i u lt is)) (on i u.0 (omega arith))
