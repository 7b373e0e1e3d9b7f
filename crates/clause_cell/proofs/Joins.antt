-- Holes of two lists, one after the other, and of blocks.
use Rattle.std.proofs.Common.{◌≡◌, ℕ, ◌+◌, ◌^◌, ◌<◌, ◌≤◌, ◌&&◌, Bool, true, false, not, List, [], ◌∷◌, ◌++◌, length, refl, sym, ap, ◌∙◌, arith, ⊎_elim, append_assoc}
use Rattle.std.specs.Prelude.{nat_lt, max, Some, if◌then◌else◌}
use Rattle.std.proofs.lemmas.Bool.Decides.{leb_tells, eqb_tells}
use Rattle.clause_cell.specs.declared.holes.Hole.{Hole}
use Rattle.clause_cell.specs.Free.{is_apart, is_clear, range, rest_of, first_fit, without_fit, ahead, with_range, largest, hole_at}
use Rattle.clause_cell.specs.Blocks.{end_of}
use Rattle.clause_cell.proofs.Ranges.{parts, joined, given, clear_parts, skip, touching, beyond, meets, misses}

-- One list after another

-- from where on holes after these may begin
abbrev pub after : ℕ → List Hole → ℕ
after from [] = from
after from (h ∷ hs) = after (h.first + h.len + 1) hs

pub apart_front : (from : ℕ) (xs ys : List Hole) → is_apart from (xs ++ ys) ≡ true → is_apart from xs ≡ true
apart_front from [] ys e = refl
apart_front from (h ∷ xs) ys e = let p = parts from h (xs ++ ys) e in
    joined from h xs (record { begins = p.begins; some = p.some; ends = p.ends; others = apart_front (h.first + h.len + 1) xs ys p.others })

pub apart_back : (from : ℕ) (xs ys : List Hole) → is_apart from (xs ++ ys) ≡ true → is_apart (after from xs) ys ≡ true
apart_back from [] ys e = e
apart_back from (h ∷ xs) ys e = apart_back (h.first + h.len + 1) xs ys (parts from h (xs ++ ys) e).others

pub after_from : (from : ℕ) (xs : List Hole) → is_apart from xs ≡ true → from ≤ after from xs
after_from from [] e = omega arith
after_from from (h ∷ xs) e = let p = parts from h xs e in let b = p.begins in let k = after_from (h.first + h.len + 1) xs p.others in omega arith

end_below : (from : ℕ) (xs : List Hole) → 0 < from → is_apart from xs ≡ true → end_of xs < after from xs
end_below from [] some e = some
end_below from (h ∷ xs) some e =
    let p = parts from h xs e in
    let k = end_below (h.first + h.len + 1) xs (omega arith) p.others in
    let m = after_from (h.first + h.len + 1) xs p.others in
    omega arith

-- what comes after some holes begins after their end
pub after_end : (from : ℕ) (xs : List Hole) → 0 < length xs → is_apart from xs ≡ true → end_of xs < after from xs
after_end from [] some e = absurd (omega arith)
after_end from (h ∷ xs) some e =
    let p = parts from h xs e in
    let k = end_below (h.first + h.len + 1) xs (omega arith) p.others in
    let m = after_from (h.first + h.len + 1) xs p.others in
    omega arith

-- a first hole begins where holes may, and ends by the end
pub first_begins : (from : ℕ) (xs : List Hole) → 0 < length xs → is_apart from xs ≡ true → (from ≤ (hole_at xs 0).first) × (0 < (hole_at xs 0).len) × ((hole_at xs 0).first + (hole_at xs 0).len ≤ 2 ^ 63) × ((hole_at xs 0).first + (hole_at xs 0).len ≤ end_of xs)
first_begins from [] some e = absurd (omega arith)
first_begins from (h ∷ xs) some e = let p = parts from h xs e in (p.begins, p.some, p.ends, omega arith)

module _ (need : ℕ) where
  -- no hole of the first list fits
  pub fit_later : (xs ys : List Hole) → largest xs < need → first_fit need (xs ++ ys) ≡ first_fit need ys
  fit_later [] ys lt = refl
  fit_later (h ∷ xs) ys lt = ⊎_elim
      (λ t. absurd (let le = t.1 in omega arith))
      (λ t. (λ i. if t.0 i then Some h.first else first_fit need (xs ++ ys)) ∙ fit_later xs ys (omega arith))
      (leb_tells need h.len)

  pub left_later : (xs ys : List Hole) → largest xs < need → without_fit need (xs ++ ys) ≡ xs ++ without_fit need ys
  left_later [] ys lt = refl
  left_later (h ∷ xs) ys lt = ⊎_elim
      (λ t. absurd (let le = t.1 in omega arith))
      (λ t. (λ i. if t.0 i then rest_of need h ++ (xs ++ ys) else h ∷ without_fit need (xs ++ ys)) ∙ ap (λ (zs : List Hole). h ∷ zs) (left_later xs ys (omega arith)))
      (leb_tells need h.len)

  -- a hole of the first list fits
  pub fit_here : (xs ys : List Hole) → 0 < need → need ≤ largest xs → first_fit need (xs ++ ys) ≡ first_fit need xs
  fit_here [] ys some le = absurd (omega arith)
  fit_here (h ∷ xs) ys some le = ⊎_elim
      (λ t. (λ i. if t.0 i then Some h.first else first_fit need (xs ++ ys)) ∙ sym (λ i. if t.0 i then Some h.first else first_fit need xs))
      (λ t. let lt = t.1 in (λ i. if t.0 i then Some h.first else first_fit need (xs ++ ys)) ∙ fit_here xs ys some (omega arith) ∙ sym (λ i. if t.0 i then Some h.first else first_fit need xs))
      (leb_tells need h.len)

  pub left_here : (xs ys : List Hole) → 0 < need → need ≤ largest xs → without_fit need (xs ++ ys) ≡ without_fit need xs ++ ys
  left_here [] ys some le = absurd (omega arith)
  left_here (h ∷ xs) ys some le = ⊎_elim
      (λ t. (λ i. if t.0 i then rest_of need h ++ (xs ++ ys) else h ∷ without_fit need (xs ++ ys)) ∙ sym (append_assoc (rest_of need h) xs ys)
      ∙ sym (λ i. (if t.0 i then rest_of need h ++ xs else h ∷ without_fit need xs) ++ ys))
      (λ t. let lt = t.1 in (λ i. if t.0 i then rest_of need h ++ (xs ++ ys) else h ∷ without_fit need (xs ++ ys)) ∙ ap (λ (zs : List Hole). h ∷ zs) (left_here xs ys some (omega arith))
      ∙ sym (λ i. (if t.0 i then rest_of need h ++ xs else h ∷ without_fit need xs) ++ ys))
      (leb_tells need h.len)

pub largest-append : (xs ys : List Hole) → largest (xs ++ ys) ≡ max (largest xs) (largest ys)
largest-append [] ys = omega arith
largest-append (h ∷ xs) ys = let k = largest-append xs ys in omega arith

-- Ranges in two lists

ahead_alone : (x m : ℕ) (ys : List Hole) → is_apart (x + m + 1) ys ≡ true → ahead x m ys ≡ range x m ∷ ys
ahead_alone x m [] e = refl
ahead_alone x m (h ∷ ys) e = let b = (parts (x + m + 1) h ys e).begins in misses 0 0 x m h ys (λ q. omega arith)

ahead_front : (x m : ℕ) (xs ys : List Hole) → is_apart (x + m + 1) ys ≡ true → ahead x m (xs ++ ys) ≡ ahead x m xs ++ ys
ahead_front x m [] ys e = ahead_alone x m ys e
ahead_front x m (h ∷ xs) ys e = ⊎_elim
    (λ t. (λ i. if t.0 i then range x (m + h.len) ∷ (xs ++ ys) else range x m ∷ h ∷ (xs ++ ys)) ∙ sym (λ i. (if t.0 i then range x (m + h.len) ∷ xs else range x m ∷ h ∷ xs) ++ ys))
    (λ t. (λ i. if t.0 i then range x (m + h.len) ∷ (xs ++ ys) else range x m ∷ h ∷ (xs ++ ys)) ∙ sym (λ i. (if t.0 i then range x (m + h.len) ∷ xs else range x m ∷ h ∷ xs) ++ ys))
    (eqb_tells (x + m) h.first)

module _ (a n : ℕ) where
  -- it comes after the first list
  pub range_later : (xs ys : List Hole) → end_of xs < a → with_range a n (xs ++ ys) ≡ xs ++ with_range a n ys
  range_later [] ys lt = refl
  range_later (h ∷ xs) ys lt = skip a n h (xs ++ ys) (omega arith) ∙ ap (λ (zs : List Hole). h ∷ zs) (range_later xs ys (omega arith))

  range_alone : (ys : List Hole) → is_apart (a + n + 1) ys ≡ true → with_range a n ys ≡ range a n ∷ ys
  range_alone [] e = refl
  range_alone (h ∷ ys) e = let p = parts (a + n + 1) h ys e in let b = p.begins in
      beyond a n h ys (omega arith) ∙ misses a n a n h ys (λ q. omega arith)

  -- it comes before the second list and does not touch it
  pub range_here : (xs ys : List Hole) → is_apart (a + n + 1) ys ≡ true → with_range a n (xs ++ ys) ≡ with_range a n xs ++ ys
  range_here [] ys e = range_alone ys e
  range_here (h ∷ xs) ys e = ⊎_elim
      (λ t. let lt = t.0 in skip a n h (xs ++ ys) lt ∙ ap (λ (zs : List Hole). h ∷ zs) (range_here xs ys e) ∙ sym (ap (λ (zs : List Hole). zs ++ ys) t.1))
      (λ u. ⊎_elim
      (λ t. let q = t.0 in let x : h.first + (h.len + n) + 1 ≡ a + n + 1 = omega arith in
      touching a n h (xs ++ ys) q ∙ ahead_front h.first (h.len + n) xs ys (ap (λ y. is_apart y ys) x ∙ e) ∙ sym (ap (λ (zs : List Hole). zs ++ ys) t.1))
      (λ t. beyond a n h (xs ++ ys) t.0 ∙ ahead_front a n (h ∷ xs) ys e ∙ sym (ap (λ (zs : List Hole). zs ++ ys) t.1))
      u)
      (given a n h xs)

  -- nothing lies between what it touches
  none_between : (from : ℕ) (xs : List Hole) (h : Hole) (ys : List Hole) → a < from → is_apart from (xs ++ (h ∷ ys)) ≡ true → is_clear a n (xs ++ (h ∷ ys)) ≡ true → 0 < n → a + n ≡ h.first → xs ≡ []
  none_between from [] h ys lt e clear some near = refl
  none_between from (x ∷ xs) h ys lt e clear some near =
      let p = parts from x (xs ++ (h ∷ ys)) e in
      let b = p.begins in
      let s = p.some in
      let c = (clear_parts a n x (xs ++ (h ∷ ys)) clear).0 in
      let begins = after_from (x.first + x.len + 1) xs (apart_front (x.first + x.len + 1) xs (h ∷ ys) p.others) in
      let next = (parts (after (x.first + x.len + 1) xs) h ys (apart_back (x.first + x.len + 1) xs (h ∷ ys) p.others)).begins in
      absurd (⊎_elim (λ (le : a + n ≤ x.first). omega arith) (λ (le : x.first + x.len ≤ a). omega arith) c)

  -- it touches the first hole of the second list
  pub range_over : (from : ℕ) (xs : List Hole) (h : Hole) (ys : List Hole) → is_apart from (xs ++ (h ∷ ys)) ≡ true → is_clear a n (xs ++ (h ∷ ys)) ≡ true → 0 < n → a + n ≡ h.first
      → with_range a n (xs ++ (h ∷ ys)) ≡ with_range a (n + h.len) xs ++ ys
  range_over from [] h ys e clear some near = beyond a n h ys (omega arith) ∙ meets a n a n h ys near
  range_over from (x ∷ xs) h ys e clear some near =
      let p = parts from x (xs ++ (h ∷ ys)) e in
      let s = p.some in
      let c = clear_parts a n x (xs ++ (h ∷ ys)) clear in
      let begins = after_from (x.first + x.len + 1) xs (apart_front (x.first + x.len + 1) xs (h ∷ ys) p.others) in
      let next = (parts (after (x.first + x.len + 1) xs) h ys (apart_back (x.first + x.len + 1) xs (h ∷ ys) p.others)).begins in
      ⊎_elim
      (λ t. let lt = t.0 in t.1 ∙ ap (λ (zs : List Hole). x ∷ zs) (range_over (x.first + x.len + 1) xs h ys p.others c.1 some near) ∙ sym (ap (λ (zs : List Hole). zs ++ ys) (skip a (n + h.len) x xs lt)))
      (λ u. ⊎_elim
      (λ t. let q = t.0 in
      let none = none_between (x.first + x.len + 1) xs h ys (omega arith) p.others c.1 some near in
      let len : x.len + n + h.len ≡ x.len + (n + h.len) = omega arith in
      t.1 ∙ ap (λ (zs : List Hole). ahead x.first (x.len + n) (zs ++ (h ∷ ys))) none ∙ meets a n x.first (x.len + n) h ys (omega arith) ∙ ap (λ m. range x.first m ∷ ys) len
      ∙ sym (ap (λ (zs : List Hole). with_range a (n + h.len) (x ∷ zs) ++ ys) none ∙ ap (λ (zs : List Hole). zs ++ ys) (touching a (n + h.len) x [] q)))
      (λ t. let lt = t.0 in absurd (⊎_elim (λ (le : a + n ≤ x.first). omega arith) (λ (le : x.first + x.len ≤ a). omega arith) c.0))
      u)
      (given a n x (xs ++ (h ∷ ys)))

  -- and with what it takes over, it is clear of the first list
  pub clear_over : (from : ℕ) (xs : List Hole) (h : Hole) (ys : List Hole) → is_apart from (xs ++ (h ∷ ys)) ≡ true → is_clear a n (xs ++ (h ∷ ys)) ≡ true → 0 < n → a + n ≡ h.first → is_clear a (n + h.len) xs ≡ true
  clear_over from [] h ys e clear some near = refl
  clear_over from (x ∷ xs) h ys e clear some near =
      let p = parts from x (xs ++ (h ∷ ys)) e in
      let s = p.some in
      let c = clear_parts a n x (xs ++ (h ∷ ys)) clear in
      let begins = after_from (x.first + x.len + 1) xs (apart_front (x.first + x.len + 1) xs (h ∷ ys) p.others) in
      let next = (parts (after (x.first + x.len + 1) xs) h ys (apart_back (x.first + x.len + 1) xs (h ∷ ys) p.others)).begins in
      let before : x.first + x.len ≤ a = ⊎_elim (λ (le : a + n ≤ x.first). absurd (omega arith)) (λ (le : x.first + x.len ≤ a). le) c.0 in
      let beside : not (nat_lt x.first (a + (n + h.len)) && nat_lt a (x.first + x.len)) ≡ true = grind (arith, leb_tells, before) in
      λ i. beside i && clear_over (x.first + x.len + 1) xs h ys p.others c.1 some near i

  and_three : (x y z : Bool) → ((x && y) && z) ≡ (x && (y && z))
  and_three true y z = refl
  and_three false y z = refl

  pub is_clear-append : (xs ys : List Hole) → is_clear a n (xs ++ ys) ≡ (is_clear a n xs && is_clear a n ys)
  is_clear-append [] ys = refl
  is_clear-append (h ∷ xs) ys = ap (λ b. not (nat_lt h.first (a + n) && nat_lt a (h.first + h.len)) && b) (is_clear-append xs ys)
      ∙ sym (and_three (not (nat_lt h.first (a + n) && nat_lt a (h.first + h.len))) (is_clear a n xs) (is_clear a n ys))

  -- words after all these holes
  pub clear_later : (xs : List Hole) → end_of xs ≤ a → is_clear a n xs ≡ true
  clear_later [] lt = refl
  clear_later (h ∷ xs) lt =
      let here : h.first + h.len ≤ a = omega arith in
      let beside : not (nat_lt h.first (a + n) && nat_lt a (h.first + h.len)) ≡ true = grind (arith, leb_tells, here) in
      λ i. beside i && clear_later xs (omega arith) i

  -- words before all these holes
  pub clear_before : (from : ℕ) (xs : List Hole) → a + n ≤ from → is_apart from xs ≡ true → is_clear a n xs ≡ true
  clear_before from [] le e = refl
  clear_before from (h ∷ xs) le e =
      let p = parts from h xs e in
      let b = p.begins in
      let here : a + n ≤ h.first = omega arith in
      let beside : not (nat_lt h.first (a + n) && nat_lt a (h.first + h.len)) ≡ true = grind (arith, leb_tells, here) in
      λ i. beside i && clear_before (h.first + h.len + 1) xs (omega arith) p.others i

  -- words of which one is in the first hole
  pub not_clear : (xs : List Hole) → 0 < length xs → (hole_at xs 0).first < a + n → a < (hole_at xs 0).first + (hole_at xs 0).len → is_clear a n xs ≡ false
  not_clear [] some lt gt = absurd (omega arith)
  not_clear (h ∷ xs) some lt gt =
      let beside : not (nat_lt h.first (a + n) && nat_lt a (h.first + h.len)) ≡ false = grind (arith, leb_tells, lt, gt) in
      λ i. beside i && is_clear a n xs
