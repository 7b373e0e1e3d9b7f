-- Look-ups and changes in lists, by the place of an address.
use Rattle.std.proofs.Common.{◌≡◌, ◌≢◌, ℕ, zero, suc, ◌<◌, ◌≤◌, ◌==◌, ltb, Bool, true, false, not, cond, List, [], ◌∷◌, ◌++◌, length, get_or, set, position, Option, Some, None, refl, sym, ap, ◌∙◌, arith, eq-eqb, ne_eqb, eqb-true, true≢false, ltb-false}
use Rattle.std.specs.List.{filter, remove, position_or_len}
use Rattle.std.proofs.lemmas.List.Quantifiers.{position-Some}
use Rattle.std.proofs.lemmas.List.Sums.{fails_before_first}
use mathlib.Core.Logic.{dite}
use native.Mathlib.Decide.{ℕ_discrete}
use Rattle.rup_model.specs.Basics.{put}
use Rattle.share_core.specs.declared.stored.ClauseAt.{ClauseAt}
use Rattle.share_core.specs.declared.stored.Cell.{Cell}
use Rattle.share_core.specs.declared.stored.StoredCell.{StoredCell}
use Rattle.share_core.specs.State.{without_at}
use Rattle.share_core.specs.Events.{with_count}
use Rattle.share_core.specs.Machine.{cell_in, opened_cell, recounted}

not_below : (m n : ℕ) → cond (ltb m n) (Some m) None ≡ None → n ≤ m
not_below m n h = by (ltb m n) refl h
  where
    by : (b : Bool) → ltb m n ≡ b → cond b (Some m) None ≡ None → n ≤ m
    by true e g = absurd (cc)
    by false e g = ltb-false m n e

position_none : {X : Type 0} (p : X → Bool) (xs : List X) (d : X) → position p xs ≡ None → (k : ℕ) → k < length xs → p (get_or xs k d) ≡ false
position_none p xs d h k lt = let le = not_below (position_or_len p xs) (length xs) h in fails_before_first p xs k d (omega arith)

-- Lists of clauses

module _ (a : ℕ) (z : ClauseAt) where
  without_from : (xs : List ClauseAt) (i : ℕ) → i < length xs → ((get_or xs i z).address == a) ≡ true → ((k : ℕ) → k < i → ((get_or xs k z).address == a) ≡ false) → remove xs i ≡ without_at a xs
  without_from [] i lt here before = absurd (omega arith)
  without_from (x ∷ xs) zero lt here before = (λ j. cond (sym here j) xs (x ∷ without_at a xs))
  without_from (x ∷ xs) (suc i) lt here before =
      ap (λ (ys : List ClauseAt). x ∷ ys) (without_from xs i (omega arith) here (λ k l. before (suc k) (omega arith)))
      ∙ (λ j. cond (sym (before 0 (omega arith)) j) xs (x ∷ without_at a xs))

  without_none : (xs : List ClauseAt) → ((k : ℕ) → k < length xs → ((get_or xs k z).address == a) ≡ false) → without_at a xs ≡ xs
  without_none [] h = refl
  without_none (x ∷ xs) h = (λ j. cond (h 0 (omega arith) j) xs (x ∷ without_at a xs)) ∙ ap (λ (ys : List ClauseAt). x ∷ ys) (without_none xs (λ k l. h (suc k) (omega arith)))

nowhere : ClauseAt
nowhere = record { address = 0; number = 0; lits = [] }

pub without_placed : (a : ℕ) (xs : List ClauseAt) (i : ℕ) → position (λ h. h.address == a) xs ≡ Some i → remove xs i ≡ without_at a xs
without_placed a xs i h = let t = position-Some (λ (h : ClauseAt). h.address == a) xs i nowhere h in without_from a nowhere xs i t.0 t.1 t.2

pub without_missing : (a : ℕ) (xs : List ClauseAt) → position (λ h. h.address == a) xs ≡ None → without_at a xs ≡ xs
without_missing a xs h = without_none a nowhere xs (position_none (λ (h : ClauseAt). h.address == a) xs nowhere h)

-- Lists of cells

pub empty_cell : StoredCell
empty_cell = record { address = 0; cell = record { lits = []; number = 0; count = 0; maker = None } }

module _ (a : ℕ) where
  found_from : (xs : List StoredCell) (i : ℕ) (z : StoredCell) → i < length xs → ((get_or xs i z).address == a) ≡ true → ((k : ℕ) → k < i → ((get_or xs k z).address == a) ≡ false) → cell_in a xs ≡ Some (get_or xs i z).cell
  found_from [] i z lt here before = absurd (omega arith)
  found_from (x ∷ xs) zero z lt here before = (λ j. cond (here j) (Some x.cell) (cell_in a xs))
  found_from (x ∷ xs) (suc i) z lt here before = (λ j. cond (before 0 (omega arith) j) (Some x.cell) (cell_in a xs)) ∙ found_from xs i z (omega arith) here (λ k l. before (suc k) (omega arith))

  recounted_from : (n : ℕ) (xs : List StoredCell) (i : ℕ) (z : StoredCell) → i < length xs → ((get_or xs i z).address == a) ≡ true → ((k : ℕ) → k < i → ((get_or xs k z).address == a) ≡ false) → set xs i (opened_cell n (get_or xs i z)) ≡ recounted a n xs
  recounted_from n [] i z lt here before = absurd (omega arith)
  recounted_from n (x ∷ xs) zero z lt here before = (λ j. cond (sym here j) (opened_cell n x ∷ xs) (x ∷ recounted a n xs))
  recounted_from n (x ∷ xs) (suc i) z lt here before =
      ap (λ (ys : List StoredCell). x ∷ ys) (recounted_from n xs i z (omega arith) here (λ k l. before (suc k) (omega arith)))
      ∙ (λ j. cond (sym (before 0 (omega arith)) j) (opened_cell n x ∷ xs) (x ∷ recounted a n xs))

  missing_from : (n : ℕ) (xs : List StoredCell) (z : StoredCell) → ((k : ℕ) → k < length xs → ((get_or xs k z).address == a) ≡ false) → (cell_in a xs ≡ None) × (recounted a n xs ≡ xs)
  missing_from n [] z h = (refl, refl)
  missing_from n (x ∷ xs) z h = let r = missing_from n xs z (λ k l. h (suc k) (omega arith)) in let e = h 0 (omega arith) in
      ((λ j. cond (e j) (Some x.cell) (cell_in a xs)) ∙ r.0, (λ j. cond (e j) (opened_cell n x ∷ xs) (x ∷ recounted a n xs)) ∙ ap (λ (ys : List StoredCell). x ∷ ys) r.1)

  pub found_placed : (xs : List StoredCell) (i : ℕ) (z : StoredCell) → position (λ x. x.address == a) xs ≡ Some i → cell_in a xs ≡ Some (get_or xs i z).cell
  found_placed xs i z h = let t = position-Some (λ (x : StoredCell). x.address == a) xs i z h in found_from xs i z t.0 t.1 t.2

  pub recounted_placed : (n : ℕ) (xs : List StoredCell) (i : ℕ) (z : StoredCell) → position (λ x. x.address == a) xs ≡ Some i → set xs i (opened_cell n (get_or xs i z)) ≡ recounted a n xs
  recounted_placed n xs i z h = let t = position-Some (λ (x : StoredCell). x.address == a) xs i z h in recounted_from n xs i z t.0 t.1 t.2

  pub found_missing : (n : ℕ) (xs : List StoredCell) → position (λ x. x.address == a) xs ≡ None → (cell_in a xs ≡ None) × (recounted a n xs ≡ xs)
  found_missing n xs h = missing_from n xs empty_cell (position_none (λ (y : StoredCell). y.address == a) xs empty_cell h)

-- Changes at an address, as changes of the look-up

apart : (x y : ℕ) → (x == y) ≡ false → x ≢ y
apart x y h e = true≢false (sym (eq-eqb x y e) ∙ h)

here : (a : ℕ) (y : StoredCell) (ys : List StoredCell) → y.address ≡ a → cell_in a ys ≡ None → cell_in a (ys ++ y ∷ []) ≡ Some y.cell
here a y [] is f = (λ j. cond (eq-eqb y.address a is j) (Some y.cell) None)
here a y (x ∷ ys) is f = by (x.address == a) f (here a y ys is)
  where
    by : (t : Bool) → cond t (Some x.cell) (cell_in a ys) ≡ None → (cell_in a ys ≡ None → cell_in a (ys ++ y ∷ []) ≡ Some y.cell) → cond t (Some x.cell) (cell_in a (ys ++ y ∷ [])) ≡ Some y.cell
    by true q rec = absurd (cc)
    by false q rec = rec q

elsewhere : (y : StoredCell) (ys : List StoredCell) (i : ℕ) → y.address ≢ i → cell_in i (ys ++ y ∷ []) ≡ cell_in i ys
elsewhere y [] i n = (λ j. cond (ne_eqb y.address i n j) (Some y.cell) None)
elsewhere y (x ∷ ys) i n = ap (λ (q : Option Cell). cond (x.address == i) (Some x.cell) q) (elsewhere y ys i n)

-- a cell more
pub cell_more : (a : ℕ) (xs : List StoredCell) (y : StoredCell) → y.address ≡ a → cell_in a xs ≡ None → (b : ℕ) → cell_in b (xs ++ y ∷ []) ≡ put (λ i. cell_in i xs) a (Some y.cell) b
cell_more a xs y is free b = dite (ℕ_discrete b a)
    (λ e. ap (λ (i : ℕ). cell_in i (xs ++ y ∷ [])) e ∙ here a y xs is free ∙ (λ j. cond (sym (eq-eqb b a e) j) (Some y.cell) (cell_in b xs)))
    (λ n. elsewhere y xs b (λ q. n (sym q ∙ is)) ∙ (λ j. cond (sym (ne_eqb b a n) j) (Some y.cell) (cell_in b xs)))

gone : (a : ℕ) (ys : List StoredCell) → cell_in a (filter (λ x. not (x.address == a)) ys) ≡ None
gone a [] = refl
gone a (x ∷ ys) = by (x.address == a) refl (gone a ys)
  where
    by : (t : Bool) → (x.address == a) ≡ t → cell_in a (filter (λ y. not (y.address == a)) ys) ≡ None → cell_in a (cond (not t) (x ∷ filter (λ y. not (y.address == a)) ys) (filter (λ y. not (y.address == a)) ys)) ≡ None
    by true q rec = rec
    by false q rec = (λ j. cond (q j) (Some x.cell) (cell_in a (filter (λ y. not (y.address == a)) ys))) ∙ rec

stays : (a b : ℕ) → b ≢ a → (ys : List StoredCell) → cell_in b (filter (λ x. not (x.address == a)) ys) ≡ cell_in b ys
stays a b n [] = refl
stays a b n (x ∷ ys) = by (x.address == a) refl (stays a b n ys)
  where
    by : (t : Bool) → (x.address == a) ≡ t → cell_in b (filter (λ y. not (y.address == a)) ys) ≡ cell_in b ys → cell_in b (cond (not t) (x ∷ filter (λ y. not (y.address == a)) ys) (filter (λ y. not (y.address == a)) ys)) ≡ cell_in b (x ∷ ys)
    by true q rec = rec ∙ (λ j. cond (sym (ne_eqb x.address b (λ e. n (sym e ∙ eqb-true x.address a q))) j) (Some x.cell) (cell_in b ys))
    by false q rec = ap (λ (o : Option Cell). cond (x.address == b) (Some x.cell) o) rec

-- no cell any more
pub cell_less : (a : ℕ) (xs : List StoredCell) (b : ℕ) → cell_in b (filter (λ x. not (x.address == a)) xs) ≡ put (λ i. cell_in i xs) a None b
cell_less a xs b = dite (ℕ_discrete b a)
    (λ e. ap (λ (i : ℕ). cell_in i (filter (λ x. not (x.address == a)) xs)) e ∙ gone a xs ∙ (λ j. cond (sym (eq-eqb b a e) j) None (cell_in b xs)))
    (λ n. stays a b n xs ∙ (λ j. cond (sym (ne_eqb b a n) j) None (cell_in b xs)))

-- another count
pub cell_recounted : (a n : ℕ) (xs : List StoredCell) (b : ℕ) → cell_in b (recounted a n xs) ≡ put (λ i. cell_in i xs) a (with_count n (cell_in a xs)) b
cell_recounted a n [] b = by (b == a)
  where
    by : (t : Bool) → None ≡ cond t (with_count n None) None
    by true = refl
    by false = refl
cell_recounted a n (x ∷ xs) b = by (x.address == a) refl (cell_recounted a n xs b)
  where
    at_a : (t u : Bool) → (t ≡ true → u ≡ true) → (u ≡ true → t ≡ true) → cond t (Some (opened_cell n x).cell) (cell_in b xs) ≡ cond u (with_count n (Some x.cell)) (cond t (Some x.cell) (cell_in b xs))
    at_a true true f g = refl
    at_a true false f g = absurd (true≢false (sym (f refl)))
    at_a false true f g = absurd (true≢false (sym (g refl)))
    at_a false false f g = refl

    else_a : (t u : Bool) → (t ≡ true → u ≡ false) → cell_in b (recounted a n xs) ≡ cond u (with_count n (cell_in a xs)) (cell_in b xs)
        → cond t (Some x.cell) (cell_in b (recounted a n xs)) ≡ cond u (with_count n (cell_in a xs)) (cond t (Some x.cell) (cell_in b xs))
    else_a true true f rec = absurd (true≢false (f refl))
    else_a true false f rec = refl
    else_a false u f rec = rec

    by : (t : Bool) → (x.address == a) ≡ t → cell_in b (recounted a n xs) ≡ put (λ i. cell_in i xs) a (with_count n (cell_in a xs)) b → cell_in b (cond t (opened_cell n x ∷ xs) (x ∷ recounted a n xs)) ≡ cond (b == a) (with_count n (cond t (Some x.cell) (cell_in a xs))) (cell_in b (x ∷ xs))
    by true q rec = at_a (x.address == b) (b == a)
        (λ h. eq-eqb b a (sym (eqb-true x.address b h) ∙ eqb-true x.address a q))
        (λ h. eq-eqb x.address b (eqb-true x.address a q ∙ sym (eqb-true b a h)))
    by false q rec = else_a (x.address == b) (b == a)
        (λ h. ne_eqb b a (λ e. apart x.address a q (eqb-true x.address b h ∙ e)))
        rec
