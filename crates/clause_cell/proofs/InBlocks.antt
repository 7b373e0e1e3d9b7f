-- Blocks of holes: what is done in one block, and what comes of all of them.
use Rattle.std.proofs.Common.{◌≡◌, ℕ, zero, suc, ◌+◌, ◌/◌, ◌<◌, ◌≤◌, ◌&&◌, Bool, true, false, List, [], ◌∷◌, ◌++◌, length, take, drop, set, get_or, refl, sym, ap, ◌∙◌, arith, append_assoc, length-drop}
use Rattle.std.specs.Prelude.{nat_le, max, Some, None, position}
use Rattle.std.specs.List.{remove, insert, position_or_len}
use Rattle.std.proofs.lemmas.List.{take-append-drop, length-take}
use Rattle.std.proofs.lemmas.List.Quantifiers.{position-Some}
use Rattle.std.proofs.lemmas.List.Sums.{fails_before_first}
use Rattle.std.proofs.lemmas.Bool.Decides.{leb_tells}
use Rattle.clause_cell.specs.declared.holes.Hole.{Hole}
use Rattle.clause_cell.specs.Free.{is_apart, is_clear, first_fit, without_fit, with_range, largest, hole_at}
use Rattle.clause_cell.specs.Blocks.{holes_of, block_at, end_of, NoneEmpty, halved}
use Rattle.clause_cell.proofs.Ranges.{parts, joined, apart_from, le_of, not_below, both}
use Rattle.clause_cell.proofs.Joins.{after, apart_front, apart_back, after_from, after_end, first_begins, fit_later, left_later, fit_here, left_here, largest-append, range_later, range_here, range_over, clear_over, is_clear-append, clear_later, clear_before}

-- The longest

longest_next : (bs : List (List Hole)) (i : ℕ) (d : List Hole) → i < length bs → largest (holes_of (take (suc i) bs)) ≡ max (largest (holes_of (take i bs))) (largest (get_or bs i d))
longest_next [] i d lt = absurd (omega arith)
longest_next (b ∷ bs) zero d lt = let k = largest-append b [] in omega arith
longest_next (b ∷ bs) (suc i) d lt =
    let k = longest_next bs i d (omega arith) in
    let m = largest-append b (holes_of (take (suc i) bs)) in
    let n = largest-append b (holes_of (take i bs)) in
    omega arith

pub largest_next : (bs : List (List Hole)) (i : ℕ) (d : List Hole) → i < length bs → largest (holes_of (take (i + 1) bs)) ≡ max (largest (holes_of (take i bs))) (largest (get_or bs i d))
largest_next bs i d lt = let e : i + 1 ≡ suc i = omega arith in ap (λ (k : ℕ). largest (holes_of (take k bs))) e ∙ longest_next bs i d lt

-- Taking

less_of : (a b : ℕ) → nat_le a b ≡ false → b < a
less_of a b e = grind (arith, leb_tells, e)

module _ (need : ℕ) where
  -- no block before has a hole that fits
  abbrev pub Shorter : List (List Hole) → ℕ → Type 0
  Shorter bs i = (k : ℕ) → k < i → largest (block_at bs k) < need

  pub found_parts : (bs : List (List Hole)) (i : ℕ) → position (λ (b : List Hole). nat_le need (largest b)) bs ≡ Some i → (i < length bs) × (need ≤ largest (block_at bs i)) × Shorter bs i
  found_parts bs i e =
      let p = position-Some (λ (b : List Hole). nat_le need (largest b)) bs i [] e in
      (p.0, le_of need (largest (block_at bs i)) p.1, λ k lt. less_of need (largest (block_at bs k)) (p.2 k lt))

  pub fit_in : (bs : List (List Hole)) (i : ℕ) → 0 < need → i < length bs → need ≤ largest (block_at bs i) → Shorter bs i → first_fit need (holes_of bs) ≡ first_fit need (block_at bs i)
  fit_in [] i some lt here before = absurd (omega arith)
  fit_in (b ∷ bs) zero some lt here before = fit_here need b (holes_of bs) some here
  fit_in (b ∷ bs) (suc i) some lt here before = fit_later need b (holes_of bs) (before 0 (omega arith)) ∙ fit_in bs i some (omega arith) here (λ k l. before (suc k) (omega arith))

  pub left_in : (bs : List (List Hole)) (i : ℕ) → 0 < need → i < length bs → need ≤ largest (block_at bs i) → Shorter bs i → holes_of (set bs i (without_fit need (block_at bs i))) ≡ without_fit need (holes_of bs)
  left_in [] i some lt here before = absurd (omega arith)
  left_in (b ∷ bs) zero some lt here before = sym (left_here need b (holes_of bs) some here)
  left_in (b ∷ bs) (suc i) some lt here before = ap (λ (zs : List Hole). b ++ zs) (left_in bs i some (omega arith) here (λ k l. before (suc k) (omega arith))) ∙ sym (left_later need b (holes_of bs) (before 0 (omega arith)))

  pub all_shorter : (bs : List (List Hole)) → 0 < need → Shorter bs (length bs) → largest (holes_of bs) < need
  all_shorter [] some all = some
  all_shorter (b ∷ bs) some all =
      let k = all_shorter bs some (λ k l. all (suc k) (omega arith)) in
      let m = largest-append b (holes_of bs) in
      let here = all 0 (omega arith) in
      omega arith

  pub none_parts : (bs : List (List Hole)) → position (λ (b : List Hole). nat_le need (largest b)) bs ≡ None → Shorter bs (length bs)
  none_parts bs e k lt =
      let le = not_below (position_or_len (λ (b : List Hole). nat_le need (largest b)) bs) (length bs) e in
      less_of need (largest (block_at bs k)) (fails_before_first (λ (b : List Hole). nat_le need (largest b)) bs k [] (omega arith))

-- Empty blocks

pub holes_of-remove : (bs : List (List Hole)) (i : ℕ) → i < length bs → length (block_at bs i) ≡ 0 → holes_of (remove bs i) ≡ holes_of bs
holes_of-remove [] i lt e = absurd (omega arith)
holes_of-remove ([] ∷ bs) zero lt e = refl
holes_of-remove ((h ∷ b) ∷ bs) zero lt e = absurd (omega arith)
holes_of-remove (b ∷ bs) (suc i) lt e = ap (λ (zs : List Hole). b ++ zs) (holes_of-remove bs i (omega arith) e)

-- One block

pub block_apart : (from : ℕ) (bs : List (List Hole)) (i : ℕ) → is_apart from (holes_of bs) ≡ true → i < length bs → is_apart 0 (block_at bs i) ≡ true
block_apart from [] i e lt = absurd (omega arith)
block_apart from (b ∷ bs) zero e lt = apart_from 0 from b (omega arith) (apart_front from b (holes_of bs) e)
block_apart from (b ∷ bs) (suc i) e lt = block_apart (after from b) bs i (apart_back from b (holes_of bs) e) (omega arith)

pub clear_at : (a n : ℕ) (bs : List (List Hole)) (i : ℕ) → is_clear a n (holes_of bs) ≡ true → i < length bs → is_clear a n (block_at bs i) ≡ true
clear_at a n [] i e lt = absurd (omega arith)
clear_at a n (b ∷ bs) zero e lt = (both (is_clear a n b) (is_clear a n (holes_of bs)) (sym (is_clear-append a n b (holes_of bs)) ∙ e)).0
clear_at a n (b ∷ bs) (suc i) e lt = clear_at a n bs i (both (is_clear a n b) (is_clear a n (holes_of bs)) (sym (is_clear-append a n b (holes_of bs)) ∙ e)).1 (omega arith)

begins_from : (from : ℕ) (bs : List (List Hole)) (i : ℕ) → is_apart from (holes_of bs) ≡ true → NoneEmpty bs → i < length bs → (from ≤ (hole_at (block_at bs i) 0).first) × ((hole_at (block_at bs i) 0).first ≤ end_of (block_at bs i))
begins_from from [] i e filled lt = absurd (omega arith)
begins_from from (b ∷ bs) zero e filled lt = let k = first_begins from b (filled 0 (omega arith)) (apart_front from b (holes_of bs) e) in let ends = k.3 in (k.0, omega arith)
begins_from from (b ∷ bs) (suc i) e filled lt =
    let k = begins_from (after from b) bs i (apart_back from b (holes_of bs) e) (λ j l. filled (suc j) (omega arith)) (omega arith) in
    let begins = k.0 in
    let m = after_from from b (apart_front from b (holes_of bs) e) in
    (omega arith, k.1)

-- a block begins after the end of the one before it
pub next_begins : (from : ℕ) (bs : List (List Hole)) (i : ℕ) → is_apart from (holes_of bs) ≡ true → NoneEmpty bs → suc i < length bs → end_of (block_at bs i) < (hole_at (block_at bs (suc i)) 0).first
next_begins from [] i e filled lt = absurd (omega arith)
next_begins from (b ∷ bs) zero e filled lt =
    let k = (begins_from (after from b) bs 0 (apart_back from b (holes_of bs) e) (λ j l. filled (suc j) (omega arith)) (omega arith)).0 in
    let m = after_end from b (filled 0 (omega arith)) (apart_front from b (holes_of bs) e) in
    omega arith
next_begins from (b ∷ bs) (suc i) e filled lt = next_begins (after from b) bs i (apart_back from b (holes_of bs) e) (λ j l. filled (suc j) (omega arith)) (omega arith)

-- ends rise from block to block
pub block_ends_rise : (from : ℕ) (bs : List (List Hole)) (k m : ℕ) → is_apart from (holes_of bs) ≡ true → NoneEmpty bs → k ≤ m → m < length bs → end_of (block_at bs k) ≤ end_of (block_at bs m)
block_ends_rise from [] k m e filled le lt = absurd (omega arith)
block_ends_rise from (b ∷ bs) zero zero e filled le lt = omega arith
block_ends_rise from (b ∷ bs) zero (suc m) e filled le lt =
    let k = begins_from (after from b) bs m (apart_back from b (holes_of bs) e) (λ j l. filled (suc j) (omega arith)) (omega arith) in
    let k0 = k.0 in
    let k1 = k.1 in
    let n = after_end from b (filled 0 (omega arith)) (apart_front from b (holes_of bs) e) in
    omega arith
block_ends_rise from (b ∷ bs) (suc k) zero e filled le lt = absurd (omega arith)
block_ends_rise from (b ∷ bs) (suc k) (suc m) e filled le lt = block_ends_rise (after from b) bs k m (apart_back from b (holes_of bs) e) (λ j l. filled (suc j) (omega arith)) (omega arith) (omega arith)

-- Giving back

-- what comes after a place, as it begins there
apart_begin : (from to : ℕ) (b ys : List Hole) → 0 < length b → is_apart from (b ++ ys) ≡ true → to ≤ (hole_at b 0).first → is_apart to (b ++ ys) ≡ true
apart_begin from to [] ys some e le = absurd (omega arith)
apart_begin from to (h ∷ b) ys some e le = let p = parts from h (b ++ ys) e in joined to h (b ++ ys) (record { begins = le; some = p.some; ends = p.ends; others = p.others })

module _ (a n : ℕ) where
  -- the blocks before end before the words
  abbrev pub Earlier : List (List Hole) → ℕ → Type 0
  Earlier bs i = (k : ℕ) → k < i → end_of (block_at bs k) < a

  pub given_in : (from : ℕ) (bs : List (List Hole)) (i : ℕ) → is_apart from (holes_of bs) ≡ true → NoneEmpty bs → i < length bs → Earlier bs i → (suc i < length bs → a + n < (hole_at (block_at bs (suc i)) 0).first)
      → holes_of (set bs i (with_range a n (block_at bs i))) ≡ with_range a n (holes_of bs)
  given_in from [] i e filled lt before far = absurd (omega arith)
  given_in from (b ∷ []) zero e filled lt before far = sym (range_here a n b [] refl)
  given_in from (b ∷ c ∷ bs) zero e filled lt before far =
      let next = far (omega arith) in
      sym (range_here a n b (c ++ holes_of bs) (apart_begin (after from b) (a + n + 1) c (holes_of bs) (filled 1 (omega arith)) (apart_back from b (c ++ holes_of bs) e) (omega arith)))
  given_in from (b ∷ bs) (suc i) e filled lt before far =
      ap (λ (zs : List Hole). b ++ zs) (given_in (after from b) bs i (apart_back from b (holes_of bs) e) (λ j l. filled (suc j) (omega arith)) (omega arith) (λ k l. before (suc k) (omega arith)) (λ l. far (omega arith)))
      ∙ sym (range_later a n b (holes_of bs) (before 0 (omega arith)))

  pub given_over : (from : ℕ) (bs : List (List Hole)) (i : ℕ) → is_apart from (holes_of bs) ≡ true → is_clear a n (holes_of bs) ≡ true → 0 < n → NoneEmpty bs → suc i < length bs → Earlier bs i → a + n ≡ (hole_at (block_at bs (suc i)) 0).first
      → holes_of (set (set bs i (with_range a (n + (hole_at (block_at bs (suc i)) 0).len) (block_at bs i))) (suc i) (drop 1 (block_at bs (suc i)))) ≡ with_range a n (holes_of bs)
  given_over from [] i e clear some filled lt before near = absurd (omega arith)
  given_over from (b ∷ []) zero e clear some filled lt before near = absurd (omega arith)
  given_over from (b ∷ [] ∷ bs) zero e clear some filled lt before near = absurd (let z = filled 1 (omega arith) in omega arith)
  given_over from (b ∷ (h ∷ c) ∷ bs) zero e clear some filled lt before near = sym (range_over a n from b h (c ++ holes_of bs) e clear some near)
  given_over from (b ∷ bs) (suc i) e clear some filled lt before near =
      ap (λ (zs : List Hole). b ++ zs) (given_over (after from b) bs i (apart_back from b (holes_of bs) e) (both (is_clear a n b) (is_clear a n (holes_of bs)) (sym (is_clear-append a n b (holes_of bs)) ∙ clear)).1 some
      (λ j l. filled (suc j) (omega arith)) (omega arith) (λ k l. before (suc k) (omega arith)) near)
      ∙ sym (range_later a n b (holes_of bs) (before 0 (omega arith)))

  pub clear_over_at : (from : ℕ) (bs : List (List Hole)) (i : ℕ) → is_apart from (holes_of bs) ≡ true → is_clear a n (holes_of bs) ≡ true → 0 < n → NoneEmpty bs → suc i < length bs → a + n ≡ (hole_at (block_at bs (suc i)) 0).first
      → is_clear a (n + (hole_at (block_at bs (suc i)) 0).len) (block_at bs i) ≡ true
  clear_over_at from [] i e clear some filled lt near = absurd (omega arith)
  clear_over_at from (b ∷ []) zero e clear some filled lt near = absurd (omega arith)
  clear_over_at from (b ∷ [] ∷ bs) zero e clear some filled lt near = absurd (let z = filled 1 (omega arith) in omega arith)
  clear_over_at from (b ∷ (h ∷ c) ∷ bs) zero e clear some filled lt near = clear_over a n from b h (c ++ holes_of bs) e clear some near
  clear_over_at from (b ∷ bs) (suc i) e clear some filled lt near =
      clear_over_at (after from b) bs i (apart_back from b (holes_of bs) e) (both (is_clear a n b) (is_clear a n (holes_of bs)) (sym (is_clear-append a n b (holes_of bs)) ∙ clear)).1 some (λ j l. filled (suc j) (omega arith)) (omega arith) near

  -- Whether the words are clear

  and_false : (x : Bool) → (x && false) ≡ false
  and_false true = refl
  and_false false = refl

  pub clear_false : (bs : List (List Hole)) (i : ℕ) → i < length bs → is_clear a n (block_at bs i) ≡ false → is_clear a n (holes_of bs) ≡ false
  clear_false [] i lt e = absurd (omega arith)
  clear_false (b ∷ bs) zero lt e = is_clear-append a n b (holes_of bs) ∙ ap (λ x. x && is_clear a n (holes_of bs)) e
  clear_false (b ∷ bs) (suc i) lt e = is_clear-append a n b (holes_of bs) ∙ ap (λ x. is_clear a n b && x) (clear_false bs i (omega arith) e) ∙ and_false (is_clear a n b)

  pub clear_true : (from : ℕ) (bs : List (List Hole)) (i : ℕ) → is_apart from (holes_of bs) ≡ true → NoneEmpty bs → i < length bs → Earlier bs i → is_clear a n (block_at bs i) ≡ true → (suc i < length bs → a + n ≤ (hole_at (block_at bs (suc i)) 0).first)
      → is_clear a n (holes_of bs) ≡ true
  clear_true from [] i e filled lt before here far = absurd (omega arith)
  clear_true from (b ∷ []) zero e filled lt before here far = is_clear-append a n b [] ∙ ap (λ x. x && true) here
  clear_true from (b ∷ c ∷ bs) zero e filled lt before here far =
      let le = far (omega arith) in
      let rest = clear_before a n (a + n) (c ++ holes_of bs) (omega arith) (apart_begin (after from b) (a + n) c (holes_of bs) (filled 1 (omega arith)) (apart_back from b (c ++ holes_of bs) e) (omega arith)) in
      is_clear-append a n b (c ++ holes_of bs) ∙ (λ j. here j && rest j)
  clear_true from (b ∷ bs) (suc i) e filled lt before here far =
      let first = before 0 (omega arith) in
      let front = clear_later a n b (omega arith) in
      let rest = clear_true (after from b) bs i (apart_back from b (holes_of bs) e) (λ j l. filled (suc j) (omega arith)) (omega arith) (λ k l. before (suc k) (omega arith)) here (λ l. far (omega arith)) in
      is_clear-append a n b (holes_of bs) ∙ (λ j. front j && rest j)

-- Halves

pub holes_of-halved : (bs : List (List Hole)) (i : ℕ) → holes_of (halved bs i) ≡ holes_of bs
holes_of-halved [] i = refl
holes_of-halved (b ∷ bs) zero = sym (append_assoc (take (length b / 2) b) (drop (length b / 2) b) (holes_of bs)) ∙ ap (λ (zs : List Hole). zs ++ holes_of bs) (take-append-drop (length b / 2) b)
holes_of-halved (b ∷ bs) (suc i) = ap (λ (zs : List Hole). b ++ zs) (holes_of-halved bs i)

pub length-halved : (bs : List (List Hole)) (i : ℕ) → i < length bs → length (halved bs i) ≡ suc (length bs)
length-halved [] i lt = absurd (omega arith)
length-halved (b ∷ bs) zero lt = refl
length-halved (b ∷ bs) (suc i) lt = ap (λ k. suc k) (length-halved bs i (omega arith))

pub halved_before : (bs : List (List Hole)) (i k : ℕ) → k < i → block_at (halved bs i) k ≡ block_at bs k
halved_before [] i k lt = refl
halved_before (b ∷ bs) zero k lt = absurd (omega arith)
halved_before (b ∷ bs) (suc i) zero lt = refl
halved_before (b ∷ bs) (suc i) (suc k) lt = halved_before bs i k (omega arith)

pub halved_lower : (bs : List (List Hole)) (i : ℕ) → block_at (halved bs i) i ≡ take (length (block_at bs i) / 2) (block_at bs i)
halved_lower [] i = refl
halved_lower (b ∷ bs) zero = refl
halved_lower (b ∷ bs) (suc i) = halved_lower bs i

pub halved_upper : (bs : List (List Hole)) (i : ℕ) → block_at (halved bs i) (suc i) ≡ drop (length (block_at bs i) / 2) (block_at bs i)
halved_upper [] i = refl
halved_upper (b ∷ bs) zero = refl
halved_upper (b ∷ bs) (suc i) = halved_upper bs i

pub filled_halved : (bs : List (List Hole)) (i : ℕ) → NoneEmpty bs → 2 ≤ length (block_at bs i) → NoneEmpty (halved bs i)
filled_halved [] i filled two k lt = absurd (omega arith)
filled_halved (b ∷ bs) zero filled two zero lt = let m = length-take (length b / 2) b in omega arith
filled_halved (b ∷ bs) zero filled two (suc zero) lt = let m = length-drop (length b / 2) b in omega arith
filled_halved (b ∷ bs) zero filled two (suc (suc k)) lt = filled (suc k) (omega arith)
filled_halved (b ∷ bs) (suc i) filled two zero lt = filled 0 (omega arith)
filled_halved (b ∷ bs) (suc i) filled two (suc k) lt = filled_halved bs i (λ j l. filled (suc j) (omega arith)) two k (omega arith)

pub end_of-drop : (from : ℕ) (b : List Hole) (k : ℕ) → is_apart from b ≡ true → k < length b → end_of (drop k b) ≡ end_of b
end_of-drop from [] k e lt = absurd (omega arith)
end_of-drop from (h ∷ b) zero e lt = refl
end_of-drop from (h ∷ b) (suc k) e lt =
    let p = parts from h b e in
    let m = end_of-drop (h.first + h.len + 1) b k p.others (omega arith) in
    let first = first_begins (h.first + h.len + 1) b (omega arith) p.others in
    let begins = first.0 in
    let ends = first.3 in
    omega arith

-- as the code does it
pub halved_is : (bs : List (List Hole)) (i j : ℕ) (d : List Hole) → j ≡ suc i → i < length bs
    → (c : List Hole) → c ≡ block_at bs i → set (insert bs j (drop (length c / 2) c)) i (take (length c / 2) c) ≡ halved bs i
halved_is bs i j d e lt c is = ap (λ (k : ℕ). set (insert bs k (drop (length c / 2) c)) i (take (length c / 2) c)) e ∙ ap (λ (x : List Hole). set (insert bs (suc i) (drop (length x / 2) x)) i (take (length x / 2) x)) is ∙ at bs i lt
  where
    at : (xs : List (List Hole)) (k : ℕ) → k < length xs → set (insert xs (suc k) (drop (length (block_at xs k) / 2) (block_at xs k))) k (take (length (block_at xs k) / 2) (block_at xs k)) ≡ halved xs k
    at [] k l = absurd (omega arith)
    at (b ∷ xs) zero l = refl
    at (b ∷ xs) (suc k) l = ap (λ (zs : List (List Hole)). b ∷ zs) (at xs k (omega arith))
