-- What the steps over blocks come to.
use Rattle.std.proofs.Common.{◌≡◌, ◌≢◌, ◌⊎◌, ℕ, zero, suc, ◌+◌, ◌/◌, ◌^◌, ◌<◌, ◌≤◌, ◌==◌, Bool, true, false, not, List, [], ◌∷◌, length, take, drop, set, get_or, refl, sym, ap, ◌∙◌, subst, arith, ⊎_elim, length-drop}
use Rattle.std.specs.Prelude.{Some, Result, Ok, Err, OnOk, OnErr, position, nat_le}
use Rattle.std.specs.List.{remove, insert}
use Rattle.std.proofs.lemmas.List.{length-take, length-set, get_or-set_same, get_or-set_other}
use Rattle.std.proofs.lemmas.List.Edits.{get_or-insert_below}
use Rattle.std.proofs.lemmas.Bool.Decides.{leb_tells, eqb_tells}
use Rattle.clause_cell.specs.declared.holes.Hole.{Hole}
use Rattle.clause_cell.specs.Free.{is_apart, is_clear, first_fit, without_fit, with_range, largest, hole_at}
use Rattle.clause_cell.specs.Blocks.{holes_of, block_at, end_of, NoneEmpty, AreBlocks, IsHome, halved}
use Rattle.clause_cell.proofs.Ranges.{le_of, clear_parts, given_apart}
use Rattle.clause_cell.proofs.OneBlock.{length-with_range}
use Rattle.clause_cell.proofs.Joins.{first_begins, not_clear}
use Rattle.clause_cell.proofs.InBlocks.{clear_at, given_in, given_over, clear_over_at, found_parts, fit_in, left_in, holes_of-remove, block_apart, next_begins, block_ends_rise, clear_false, clear_true, length-halved, halved_is, halved_before, halved_lower, halved_upper, filled_halved, holes_of-halved, end_of-drop}

own_block : (bs : List (List Hole)) (i : ℕ) (d : List Hole) → i < length bs → block_at bs i ≡ get_or bs i d
own_block [] i d lt = absurd (omega arith)
own_block (b ∷ bs) zero d lt = refl
own_block (b ∷ bs) (suc i) d lt = own_block bs i d (omega arith)

-- the block that the code reads
pub block_is : (bs : List (List Hole)) (i : ℕ) (d : List Hole) → i < length bs → d ≡ get_or bs i d → block_at bs i ≡ d
block_is bs i d lt e = own_block bs i d lt ∙ sym e

-- blocks up to one that ends before the words do so too
pub earlier_more : (a : ℕ) (bs : List (List Hole)) (m : ℕ) (d : List Hole) → AreBlocks bs → m < length bs → d ≡ get_or bs m d → end_of d < a → (k : ℕ) → k < m + 1 → end_of (block_at bs k) < a
earlier_more a bs m d are inside e less k lt =
    let r = block_ends_rise 0 bs k m are.apart are.filled (omega arith) inside in
    let q = ap end_of (block_is bs m d inside e) in
    omega arith

-- the words are clear if they are of their own block, and the next begins no earlier than they end
module _ (a n : ℕ) (bs : List (List Hole)) (i : ℕ) (d : List Hole) (are : AreBlocks bs) (home : IsHome a bs i) (is : d ≡ get_or bs i d) where
  pub clear_no : is_clear a n d ≡ false → is_clear a n (holes_of bs) ≡ false
  clear_no here = clear_false a n bs i home.inside (ap (is_clear a n) (block_is bs i d home.inside is) ∙ here)

  pub clear_tells : (r : Bool) → is_clear a n d ≡ true → (r ≡ true → (i + 1 < length bs) × ((hole_at (block_at bs (i + 1)) 0).first < a + n)) → (r ≡ false → i + 1 < length bs → a + n ≤ (hole_at (block_at bs (i + 1)) 0).first)
      → not r ≡ is_clear a n (holes_of bs)
  clear_tells true here begins_in begins_after =
      let next = begins_in refl in
      let near = next.1 in
      let e : i + 1 ≡ suc i = omega arith in
      let after_it = next_begins 0 bs i are.apart are.filled (omega arith) in
      let at = ap (λ (k : ℕ). (hole_at (block_at bs k) 0).first) e in
      let beyond = home.beyond next.0 in
      let first = first_begins 0 (block_at bs (i + 1)) (are.filled (i + 1) next.0) (block_apart 0 bs (i + 1) are.apart next.0) in
      let some = first.1 in
      sym (clear_false a n bs (i + 1) next.0 (not_clear a n (block_at bs (i + 1)) (are.filled (i + 1) next.0) near (omega arith)))
  clear_tells false here begins_in begins_after =
      let e : i + 1 ≡ suc i = omega arith in
      sym (clear_true a n 0 bs i are.apart are.filled home.inside home.before (ap (is_clear a n) (block_is bs i d home.inside is) ∙ here)
      (λ lt. subst (λ (k : ℕ). a + n ≤ (hole_at (block_at bs k) 0).first) e (begins_after refl (omega arith))))

-- a block is split as the code does it
pub halved_by : (bs ins : List (List Hole)) (i : ℕ) (d u c low : List Hole) → i < length bs → d ≡ get_or bs i d → u ≡ drop (length d / 2) d → ins ≡ insert bs (i + 1) u → c ≡ get_or ins i c → low ≡ take (length c / 2) c → set ins i low ≡ halved bs i
halved_by bs ins i d u c low lt is upper puts at lower =
    let here = block_is bs i d lt is in
    let still : c ≡ d = at ∙ ap (λ (xs : List (List Hole)). get_or xs i c) puts ∙ get_or-insert_below bs (i + 1) u c i (omega arith) (omega arith) ∙ sym (own_block bs i c lt) ∙ here in
    ap (λ (xs : List (List Hole)). set xs i low) (puts ∙ ap (λ (x : List Hole). insert bs (i + 1) x) upper)
    ∙ ap (λ (x : List Hole). set (insert bs (i + 1) (drop (length d / 2) d)) i x) (lower ∙ ap (λ (x : List Hole). take (length x / 2) x) still)
    ∙ halved_is bs i (i + 1) d (omega arith) lt d (sym here)

-- After a split

-- the block for words from a on was full, and is split in half
pub record IsSplit (a : ℕ) (bs new : List (List Hole)) (i : ℕ) : Type 0 where
  pub are : AreBlocks bs
  pub home : IsHome a bs i
  pub full : length (block_at bs i) ≡ 256
  pub is : new ≡ halved bs i

pub split_of : (a : ℕ) (bs slice new : List (List Hole)) (i : ℕ) (d : List Hole) (r : Bool) → AreBlocks bs → slice ≡ bs → IsHome a slice i → d ≡ get_or bs i d → r ≡ nat_le 256 (length d) → length d ≤ 256 → r ≡ true → new ≡ halved bs i → IsSplit a bs new i
split_of a bs slice new i d r are same home is full few test e =
    let here = subst (λ (x : List (List Hole)). IsHome a x i) same home in
    let many = le_of 256 (length d) (sym full ∙ test) in
    let l = ap (λ (x : List Hole). length x) (block_is bs i d here.inside is) in
    record { are = are; home = here; full = omega arith; is = e }

module _ (a : ℕ) (bs new : List (List Hole)) (i : ℕ) (s : IsSplit a bs new i) where
  pub split_same : holes_of new ≡ holes_of bs
  split_same = ap holes_of s.is ∙ holes_of-halved bs i

  pub split_filled : NoneEmpty new
  split_filled = let full = s.full in subst (λ (x : List (List Hole)). NoneEmpty x) (sym s.is) (filled_halved bs i s.are.filled (omega arith))

  split_length : length new ≡ suc (length bs)
  split_length = ap (λ (x : List (List Hole)). length x) s.is ∙ length-halved bs i s.home.inside

  pub split_inside : i < length new
  split_inside = let l = split_length in let h = s.home.inside in omega arith

  -- the block that the code reads again has a hole
  pub split_some : (d : List Hole) → d ≡ get_or new i d → 0 < length d
  split_some d is = let l = ap (λ (x : List Hole). length x) (block_is new i d split_inside is) in let k = split_filled i split_inside in omega arith

  lower_is : block_at new i ≡ take (length (block_at bs i) / 2) (block_at bs i)
  lower_is = ap (λ (x : List (List Hole)). block_at x i) s.is ∙ halved_lower bs i

  upper_is : block_at new (i + 1) ≡ drop (length (block_at bs i) / 2) (block_at bs i)
  upper_is = let n : i + 1 ≡ suc i = omega arith in ap (block_at new) n ∙ ap (λ (x : List (List Hole)). block_at x (suc i)) s.is ∙ halved_upper bs i

  pub lower_room : length (block_at new i) < 256
  lower_room = let full = s.full in let l = ap (λ (x : List Hole). length x) lower_is in let m = length-take (length (block_at bs i) / 2) (block_at bs i) in omega arith

  pub upper_room : length (block_at new (i + 1)) < 256
  upper_room = let full = s.full in let l = ap (λ (x : List Hole). length x) upper_is in let m = length-drop (length (block_at bs i) / 2) (block_at bs i) in omega arith

  before_is : (k : ℕ) → k < i → end_of (block_at new k) < a
  before_is k lt = subst (λ (x : List Hole). end_of x < a) (sym (ap (λ (x : List (List Hole)). block_at x k) s.is ∙ halved_before bs i k lt)) (s.home.before k lt)

  pub lower_home : (d : List Hole) → d ≡ get_or new i d → a ≤ end_of d → IsHome a new i
  lower_home d is le = let q = ap end_of (block_is new i d split_inside is) in record { inside = split_inside; before = before_is; beyond = λ lt. omega arith }

  pub upper_home : (d : List Hole) → d ≡ get_or new i d → end_of d < a → IsHome a new (i + 1)
  upper_home d is less = record {
    inside = (let l = split_length in let h = s.home.inside in omega arith);
    before = λ k lt. ⊎_elim
        (λ t. before_is k t.1)
        (λ t. let le = t.1 in let q : i ≡ k = omega arith in let here = ap end_of (block_is new i d split_inside is) in subst (λ (j : ℕ). end_of (block_at new j) < a) q (omega arith))
        (leb_tells (suc k) i);
    beyond = λ lt. let l = split_length in let full = s.full in
        let ends = ap end_of upper_is ∙ end_of-drop 0 (block_at bs i) (length (block_at bs i) / 2) (block_apart 0 bs i s.are.apart s.home.inside) (omega arith) in
        let le = s.home.beyond (omega arith) in omega arith;
  }

-- Taking

is_nothing : (n : ℕ) → (n == 0) ≡ true → n ≡ 0
is_nothing n e = grind (arith, eqb_tells, e)

pub removed_same : (bs new : List (List Hole)) (i : ℕ) (d : List Hole) (r : Bool) → i < length bs → d ≡ get_or bs i d → r ≡ (length d == 0) → r ≡ true → new ≡ remove bs i → holes_of new ≡ holes_of bs
removed_same bs new i d r inside is empty test e =
    let none = is_nothing (length d) (sym empty ∙ test) in
    let l = ap (λ (x : List Hole). length x) (block_is bs i d inside is) in
    ap holes_of e ∙ holes_of-remove bs i inside (omega arith)

module _ (need : ℕ) (bs : List (List Hole)) (i : ℕ) (d : List Hole) (some : 0 < need) (place : position (λ (b : List Hole). nat_le need (largest b)) bs ≡ Some i) (is : d ≡ get_or bs i d) where
  here : block_at bs i ≡ d
  here = block_is bs i d (found_parts need bs i place).0 is

  pub long_enough : need ≤ largest d
  long_enough = let e = ap largest here in let le = (found_parts need bs i place).1 in omega arith

  pub found_in : (a : ℕ) → first_fit need d ≡ Some a → first_fit need (holes_of bs) ≡ Some a
  found_in a e = let p = found_parts need bs i place in fit_in need bs i some p.0 p.1 p.2 ∙ ap (first_fit need) here ∙ e

  pub left_over : (rest : List Hole) → rest ≡ without_fit need d → holes_of (set bs i rest) ≡ without_fit need (holes_of bs)
  left_over rest e = let p = found_parts need bs i place in ap (λ (x : List Hole). holes_of (set bs i x)) (e ∙ ap (without_fit need) (sym here)) ∙ left_in need bs i some p.0 p.1 p.2

-- Giving back

-- what a first hole says of clear words
first_clear : (a n : ℕ) (xs : List Hole) → 0 < length xs → is_clear a n xs ≡ true → (a + n ≤ (hole_at xs 0).first) ⊎ ((hole_at xs 0).first + (hole_at xs 0).len ≤ a)
first_clear a n [] some clear = absurd (omega arith)
first_clear a n (h ∷ xs) some clear = (clear_parts a n h xs clear).0

module _ (a n : ℕ) (bs : List (List Hole)) (i : ℕ) (d : List Hole) (are : AreBlocks bs) (clear : is_clear a n (holes_of bs) ≡ true) (home : IsHome a bs i) (is : d ≡ get_or bs i d) where
  pub clear_here : is_clear a n d ≡ true
  clear_here = ap (is_clear a n) (sym (block_is bs i d home.inside is)) ∙ clear_at a n bs i clear home.inside

  -- the next block is not touched
  far_from : (slice : List (List Hole)) (r : Bool) → slice ≡ bs → (r ≡ false → i + 1 < length slice → (hole_at (block_at slice (i + 1)) 0).first ≢ a + n) → r ≡ false → suc i < length bs → a + n < (hole_at (block_at bs (suc i)) 0).first
  far_from slice r same apart test lt =
      let e : i + 1 ≡ suc i = omega arith in
      let ne = subst (λ (x : List (List Hole)). i + 1 < length x → (hole_at (block_at x (i + 1)) 0).first ≢ a + n) same (apart test) (omega arith) in
      let at = ap (λ (k : ℕ). (hole_at (block_at bs k) 0).first) e in
      let begins = next_begins 0 bs i are.apart are.filled lt in
      let le = home.beyond (omega arith) in
      ⊎_elim
      (λ (x : a + n ≤ (hole_at (block_at bs (suc i)) 0).first). omega arith)
      (λ (x : (hole_at (block_at bs (suc i)) 0).first + (hole_at (block_at bs (suc i)) 0).len ≤ a). absurd (omega arith))
      (first_clear a n (block_at bs (suc i)) (are.filled (suc i) lt) (clear_at a n bs (suc i) clear lt))

  pub given_here : {T E : Type 0} (slice : List (List Hole)) (r : Bool) (res : Result T E) (new : List Hole) → slice ≡ bs → (r ≡ false → i + 1 < length slice → (hole_at (block_at slice (i + 1)) 0).first ≢ a + n) → r ≡ false → OnOk res (new ≡ with_range a n d)
      → OnOk res (holes_of (set bs i new) ≡ with_range a n (holes_of bs))
  given_here slice r (Ok x) new same apart test e =
      ap (λ (y : List Hole). holes_of (set bs i y)) (e ∙ ap (with_range a n) (sym (block_is bs i d home.inside is)))
      ∙ given_in a n 0 bs i are.apart are.filled home.inside home.before (far_from slice r same apart test)
  given_here slice r (Err x) new same apart test e = e

  pub filled_here : {T E : Type 0} (res : Result T E) (new : List Hole) → OnOk res (new ≡ with_range a n d) → OnErr res (new ≡ d) → NoneEmpty (set bs i new)
  filled_here res new given back k lt =
      let m = length-set bs i new in
      ⊎_elim
      (λ t. let q = t.1 in subst (λ (j : ℕ). 0 < length (block_at (set bs i new) j)) (sym q) (let l = ap (λ (x : List Hole). length x) (get_or-set_same bs i new [] home.inside) in let s = some res given back in omega arith))
      (λ t. let l = ap (λ (x : List Hole). length x) (get_or-set_other bs i k new [] t.1) in let s = are.filled k (omega arith) in omega arith)
      (eqb_tells k i)
    where
      some : {T E : Type 0} (r : Result T E) → OnOk r (new ≡ with_range a n d) → OnErr r (new ≡ d) → 0 < length new
      some (Ok x) ok err = let l = ap (λ (y : List Hole). length y) ok in let s = (length-with_range a n d).0 in omega arith
      some (Err x) ok err = let l = ap (λ (y : List Hole). length y) err in let q = ap (λ (y : List Hole). length y) (block_is bs i d home.inside is) in let s = are.filled i home.inside in omega arith

  -- it touches the next block, which begins with this hole
  module _ (e : List Hole) (h : Hole) (some : 0 < n) (next : (i + 1 < length bs) × ((hole_at (block_at bs (i + 1)) 0).first ≡ a + n)) (is_e : e ≡ get_or bs (i + 1) e) (is_h : h ≡ hole_at e 0) where
    next_is : block_at bs (suc i) ≡ e
    next_is = let k : suc i ≡ i + 1 = omega arith in ap (block_at bs) k ∙ block_is bs (i + 1) e next.0 is_e

    hole_is_next : hole_at (block_at bs (suc i)) 0 ≡ h
    hole_is_next = ap (λ (x : List Hole). hole_at x 0) next_is ∙ sym is_h

    next_inside : suc i < length bs
    next_inside = let lt = next.0 in omega arith

    near : a + n ≡ (hole_at (block_at bs (suc i)) 0).first
    near = let k : i + 1 ≡ suc i = omega arith in sym next.1 ∙ ap (λ (j : ℕ). (hole_at (block_at bs j) 0).first) k

    pub ends_over : a + (n + h.len) ≤ 2 ^ 63
    ends_over =
        let first = first_begins 0 (block_at bs (suc i)) (are.filled (suc i) next_inside) (block_apart 0 bs (suc i) are.apart next_inside) in
        let ends = first.2 in
        let at = near in
        let q = ap (λ (x : Hole). x.first + x.len) hole_is_next in
        let r = ap (λ (x : Hole). x.first) hole_is_next in
        omega arith

    pub clear_over_here : is_clear a (n + h.len) d ≡ true
    clear_over_here = ap (λ (x : Hole). is_clear a (n + x.len) d) (sym hole_is_next) ∙ ap (is_clear a (n + (hole_at (block_at bs (suc i)) 0).len)) (sym (block_is bs i d home.inside is))
        ∙ clear_over_at a n 0 bs i are.apart clear some are.filled next_inside near

    module _ (new c rest : List Hole) (given : new ≡ with_range a (n + h.len) d) (is_c : c ≡ get_or (set bs i new) (i + 1) c) (left : rest ≡ drop 1 c) where
      pub given_both_blocks : holes_of (set (set bs i new) (i + 1) rest) ≡ with_range a n (holes_of bs)
      given_both_blocks =
          let k : i + 1 ≡ suc i = omega arith in
          let ne : i + 1 ≢ i = λ q. omega arith in
          let still : c ≡ block_at bs (suc i) = is_c ∙ get_or-set_other bs i (i + 1) new c ne ∙ sym (own_block bs (i + 1) c next.0) ∙ ap (block_at bs) k in
          let new_is : new ≡ with_range a (n + (hole_at (block_at bs (suc i)) 0).len) (block_at bs i) = given ∙ ap (λ (x : Hole). with_range a (n + x.len) d) (sym hole_is_next) ∙ ap (with_range a (n + (hole_at (block_at bs (suc i)) 0).len)) (sym (block_is bs i d home.inside is)) in
          ap (λ (j : ℕ). holes_of (set (set bs i new) j rest)) k
          ∙ ap (λ (x : List Hole). holes_of (set (set bs i x) (suc i) rest)) new_is
          ∙ ap (λ (x : List Hole). holes_of (set (set bs i (with_range a (n + (hole_at (block_at bs (suc i)) 0).len) (block_at bs i))) (suc i) x)) (left ∙ ap (drop 1) still)
          ∙ given_over a n 0 bs i are.apart clear some are.filled next_inside home.before near

      pub filled_others : (k : ℕ) → k < length (set (set bs i new) (i + 1) rest) → k ≢ i + 1 → 0 < length (block_at (set (set bs i new) (i + 1) rest) k)
      filled_others k lt ne =
          let m = length-set (set bs i new) (i + 1) rest in
          let m1 = length-set bs i new in
          let other = ap (λ (x : List Hole). length x) (get_or-set_other (set bs i new) (i + 1) k rest [] ne) in
          ⊎_elim
          (λ t. let l = ap (λ (x : List Hole). length x) (get_or-set_same bs i new [] home.inside) in
          let at = ap (λ (j : ℕ). length (block_at (set bs i new) j)) t.1 in
          let g = ap (λ (x : List Hole). length x) given in
          let s = (length-with_range a (n + h.len) d).0 in omega arith)
          (λ t. let l = ap (λ (x : List Hole). length x) (get_or-set_other bs i k new [] t.1) in let s = are.filled k (omega arith) in omega arith)
          (eqb_tells k i)

-- whatever the answer, the holes stay apart
pub apart_either : {T E : Type 0} (a n : ℕ) (bs new : List (List Hole)) (res : Result T E) → 0 < n → a + n ≤ 2 ^ 63 → is_apart 0 (holes_of bs) ≡ true → is_clear a n (holes_of bs) ≡ true
    → OnOk res (holes_of new ≡ with_range a n (holes_of bs)) → OnErr res (holes_of new ≡ holes_of bs) → is_apart 0 (holes_of new) ≡ true
apart_either a n bs new (Ok x) some ends apart clear ok err = ap (is_apart 0) ok ∙ given_apart 0 a n (holes_of bs) (omega arith) some ends apart clear
apart_either a n bs new (Err x) some ends apart clear ok err = ap (is_apart 0) err ∙ apart
