-- The words of clauses lie apart.
use Rattle.std.proofs.Common.{◌*◌, ◌^◌, ◌≡◌, ◌≢◌, ◌⊎◌, ℕ, suc, ◌+◌, ◌-◌, ◌^◌, ◌<◌, ◌≤◌, ◌==◌, ◌&&◌, ◌||◌, Bool, true, false, not, List, [], ◌∷◌, ◌++◌, length, drop, fold, eq-eqb, refl, sym, ap, ◌∙◌, subst, ⊎_elim, inl, inr, arith, true≢false, Option, Some, None}
use Rattle.std.specs.Prelude.{nat_lt, max, if◌then◌else◌}
use Rattle.std.proofs.Math.Nat.{mul-le-mul_left, mul-le-mul_right}
use Rattle.std.proofs.lemmas.Bool.Decides.{leb_tells, eqb_tells}
use Rattle.std.proofs.lemmas.List.{drop-append-le}
use Rattle.std.proofs.lemmas.List.Sums.{fold-append}
use Rattle.clause_cell.specs.declared.holes.Hole.{Hole}
use Rattle.clause_cell.specs.Packing.{words_for}
use Rattle.clause_cell.specs.Free.{is_within, is_free, is_apart, is_clear, range, whole, first_fit, without_fit, with_range}
use Rattle.clause_cell.proofs.Ranges.{parts, joined, taken_apart, taken_free, taken_busy, given_apart, given_free}
use Rattle.rup_model.specs.declared.journal.Addition.{Addition}
use Rattle.rup_model.specs.declared.journal.Entry.{Entry}
use Rattle.rup_model.specs.declared.journal.Entry.TheVariants.{Add, Del, Reduce, Round}
use Rattle.rup_model.specs.Basics.{put}
use Rattle.rup_model.proofs.Sums.{at_put, put_here, put_else}
use Rattle.share_core.specs.declared.part.CoreOpening.{CoreOpening}
use Rattle.share_core.specs.declared.stored.ClauseAt.{ClauseAt}
use Rattle.share_core.specs.declared.stored.Cell.{Cell}
use Rattle.share_core.specs.State.{State}
use Rattle.share_core.specs.Sound.{Sound}
use Rattle.share_core.proofs.Counting.{some_same, none_some}
use Rattle.share_rule.specs.declared.Layout.{Layout}
use Rattle.share_rule.specs.Layout.{first_cell, cells_end, table_words}
use Rattle.share_rule.specs.Seen.{Stands}
use Rattle.share_rule.specs.Room.{Room, with_clause, placed, without_words, freed, with_addition, room_after, names, start_room, room, IsTiled, Places}

or_true : (a b : Bool) → a ≡ true → (a || b) ≡ true
or_true true b e = refl
or_true false b e = absurd (true≢false (sym e))

or_parts : (a b : Bool) → (a || b) ≡ true → (a ≡ true) ⊎ (b ≡ true)
or_parts true b e = inl refl
or_parts false b e = inr e

or_false : (a b : Bool) → (a || b) ≡ false → (a ≡ false) × (b ≡ false)
or_false true b e = absurd (true≢false e)
or_false false b e = (refl, e)

bool_cases : (a : Bool) → (a ≡ true) ⊎ (a ≡ false)
bool_cases true = inl refl
bool_cases false = inr refl

false_by : (a : Bool) → (a ≡ true → ⊥) → a ≡ false
false_by true h = absurd (h refl)
false_by false h = refl

within_of : (a n w : ℕ) → is_within a n w ≡ true → (a ≤ w) × (w < a + n)
within_of a n w h = grind (arith, leb_tells, h)

pub within_is : (a n w : ℕ) → a ≤ w → w < a + n → is_within a n w ≡ true
within_is a n w h k = grind (arith, leb_tells, h, k)

-- a range of which no word is free is clear
pub clear_of : (a n from : ℕ) (hs : List Hole) → is_apart from hs ≡ true → 0 < n → ((w : ℕ) → is_within a n w ≡ true → is_free hs w ≡ false) → is_clear a n hs ≡ true
clear_of a n from [] e some busy = refl
clear_of a n from (h ∷ hs) e some busy =
    let p = parts from h hs e in
    let others = clear_of a n (h.first + h.len + 1) hs p.others some (λ w k. (or_false (is_within h.first h.len w) (is_free hs w) (busy w k)).1) in
    let len = p.some in
    let none : (h.first < a + n → a < h.first + h.len → ⊥) =
    λ lt gt. let w : ℕ = max h.first a in
    true≢false (sym (within_is h.first h.len w (omega arith) (omega arith)) ∙ (or_false (is_within h.first h.len w) (is_free hs w) (busy w (within_is a n w (omega arith) (omega arith)))).0) in
    λ i. far h.first (a + n) a (h.first + h.len) none i && others i
  where
    far : (x y u v : ℕ) → (x < y → u < v → ⊥) → not (nat_lt x y && nat_lt u v) ≡ true
    far x y u v none = ⊎_elim
        (λ t. ⊎_elim (λ (k : (nat_lt u v ≡ true) × (suc u ≤ v)). absurd (none t.1 k.1)) (λ k. (λ i. not (t.0 i && k.0 i))) (leb_tells (suc u) v))
        (λ t. (λ i. not (t.0 i && nat_lt u v)))
        (leb_tells (suc x) y)

-- what is kept of a room
pub record RoomSound (l : Layout) (m : Room) : Type 0 where
  pub apart : is_apart 0 m.holes ≡ true
  pub free : (w : ℕ) → is_free m.holes w ≡ true → (first_cell l ≤ w) × (w < cells_end l)
  pub some : (n : ℕ) (r : Hole) → m.words n ≡ Some r → (0 < r.len) × (first_cell l ≤ r.first) × (r.first + r.len ≤ cells_end l)
  pub busy : (n w : ℕ) (r : Hole) → m.words n ≡ Some r → is_within r.first r.len w ≡ true → is_free m.holes w ≡ false
  pub own : (n k w : ℕ) (r q : Hole) → m.words n ≡ Some r → m.words k ≡ Some q → n ≢ k → is_within r.first r.len w ≡ true → is_within q.first q.len w ≡ false

module _ (l : Layout) (small : table_words l ≤ 2 ^ 63) where
  pub placed_sound : (m : Room) (n size : ℕ) → RoomSound l m → RoomSound l (placed m n size)
  placed_sound m n size s = by (first_fit (words_for size) m.holes) refl
    where
      need : ℕ
      need = words_for size

      by : (f : Option ℕ) → first_fit need m.holes ≡ f → RoomSound l (with_clause n size m f)
      by None e = s
      by (Some a) e =
          let was : (w : ℕ) → is_within a need w ≡ true → is_free m.holes w ≡ true = λ w k. taken_free 0 need m.holes a w (omega arith) s.apart e ∙ or_true (is_within a need w) (is_free (without_fit need m.holes) w) k in
          let less : (w : ℕ) → is_free (without_fit need m.holes) w ≡ true → is_free m.holes w ≡ true = λ w k. taken_free 0 need m.holes a w (omega arith) s.apart e ∙ or_second (is_within a need w) (is_free (without_fit need m.holes) w) k in
          record {
            apart = taken_apart 0 need m.holes s.apart;
            free = λ w k. s.free w (less w k);
            some = λ i r. at_put m.words n (Some (range a need)) (λ (q : Option Hole). q ≡ Some r → (0 < r.len) × (first_cell l ≤ r.first) × (r.first + r.len ≤ cells_end l)) i
                (λ _ is. subst (λ (r : Hole). (0 < r.len) × (first_cell l ≤ r.first) × (r.first + r.len ≤ cells_end l)) (some_same (range a need) r is)
                (let first = s.free a (was a (within_is a need a (omega arith) (omega arith))) in
                let last = s.free (a + (need - 1)) (was (a + (need - 1)) (within_is a need (a + (need - 1)) (omega arith) (omega arith))) in
                let f = first.0 in let g = last.1 in (omega arith, f, omega arith)))
                (λ _ is. s.some i r is);
            busy = λ i w r. at_put m.words n (Some (range a need)) (λ (q : Option Hole). q ≡ Some r → is_within r.first r.len w ≡ true → is_free (without_fit need m.holes) w ≡ false) i
                (λ _ is. subst (λ (r : Hole). is_within r.first r.len w ≡ true → is_free (without_fit need m.holes) w ≡ false) (some_same (range a need) r is) (λ k. taken_busy 0 need m.holes a w (omega arith) s.apart e k))
                (λ _ is k. false_by (is_free (without_fit need m.holes) w) (λ f. true≢false (sym (less w f) ∙ s.busy i w r is k)));
            own = λ i j w r q. at_put m.words n (Some (range a need)) (λ (x : Option Hole). x ≡ Some r → put m.words n (Some (range a need)) j ≡ Some q → i ≢ j → is_within r.first r.len w ≡ true → is_within q.first q.len w ≡ false) i
                (λ i_is is. at_put m.words n (Some (range a need)) (λ (x : Option Hole). x ≡ Some q → i ≢ j → is_within r.first r.len w ≡ true → is_within q.first q.len w ≡ false) j
                (λ j_is _ ne. absurd (ne (i_is ∙ sym j_is)))
                (λ _ js ne k. false_by (is_within q.first q.len w) (λ g. true≢false (sym (was w (ap (λ (r : Hole). is_within r.first r.len w) (some_same (range a need) r is) ∙ k)) ∙ s.busy j w q js g))))
                (λ _ is. at_put m.words n (Some (range a need)) (λ (x : Option Hole). x ≡ Some q → i ≢ j → is_within r.first r.len w ≡ true → is_within q.first q.len w ≡ false) j
                (λ _ js ne k. false_by (is_within q.first q.len w) (λ g. true≢false (sym (was w (ap (λ (r : Hole). is_within r.first r.len w) (some_same (range a need) q js) ∙ g)) ∙ s.busy i w r is k)))
                (λ _ js ne k. s.own i j w r q is js ne k));
          }
        where
          or_second : (x y : Bool) → y ≡ true → (x || y) ≡ true
          or_second true y h = refl
          or_second false y h = h

  pub freed_sound : (m : Room) (n : ℕ) → RoomSound l m → RoomSound l (freed m n)
  freed_sound m n s = by (m.words n) refl
    where
      by : (f : Option Hole) → m.words n ≡ f → RoomSound l (without_words n m f)
      by None e = s
      by (Some r) e =
          let at = s.some n r e in
          let len = at.0 in
          let lo = at.1 in
          let hi = at.2 in
          let clear : is_clear r.first r.len m.holes ≡ true = clear_of r.first r.len 0 m.holes s.apart len (λ w k. s.busy n w r e k) in
          let is : (w : ℕ) → is_free (with_range r.first r.len m.holes) w ≡ (is_within r.first r.len w || is_free m.holes w) = λ w. given_free 0 r.first r.len m.holes w len s.apart clear in
          record {
            apart = given_apart 0 r.first r.len m.holes (omega arith) len (omega arith) s.apart clear;
            free = λ w k. ⊎_elim
                (λ (x : is_within r.first r.len w ≡ true). let b = within_of r.first r.len w x in let b0 = b.0 in let b1 = b.1 in (omega arith, omega arith))
                (λ (x : is_free m.holes w ≡ true). s.free w x)
                (or_parts (is_within r.first r.len w) (is_free m.holes w) (sym (is w) ∙ k));
            some = λ i q. at_put m.words n None (λ (x : Option Hole). x ≡ Some q → (0 < q.len) × (first_cell l ≤ q.first) × (q.first + q.len ≤ cells_end l)) i
                (λ _ z. absurd (none_some q z))
                (λ _ z. s.some i q z);
            busy = λ i w q. at_put m.words n None (λ (x : Option Hole). x ≡ Some q → is_within q.first q.len w ≡ true → is_free (with_range r.first r.len m.holes) w ≡ false) i
                (λ _ z. absurd (none_some q z))
                (λ ne z k. is w ∙ (λ j. s.own i n w q r z e ne k j || s.busy i w q z k j));
            own = λ i j w q x. at_put m.words n None (λ (y : Option Hole). y ≡ Some q → put m.words n None j ≡ Some x → i ≢ j → is_within q.first q.len w ≡ true → is_within x.first x.len w ≡ false) i
                (λ _ z. absurd (none_some q z))
                (λ _ z. at_put m.words n None (λ (y : Option Hole). y ≡ Some x → i ≢ j → is_within q.first q.len w ≡ true → is_within x.first x.len w ≡ false) j
                (λ _ y. absurd (none_some x y))
                (λ _ y ne k. s.own i j w q x z y ne k));
          }

  -- words that are not free stay some clause's

  pub placed_tiled : (m : Room) (n size : ℕ) → RoomSound l m → m.words n ≡ None → IsTiled l m → IsTiled l (placed m n size)
  placed_tiled m n size s new t = by (first_fit (words_for size) m.holes) refl
    where
      need : ℕ
      need = words_for size

      by : (f : Option ℕ) → first_fit need m.holes ≡ f → IsTiled l (with_clause n size m f)
      by None e = t
      by (Some a) e = λ w lo hi busy. ⊎_elim
          (λ (k : is_within a need w ≡ true). (n, range a need, put_here m.words n (Some (range a need)), k))
          (λ (k : is_within a need w ≡ false).
          (let was : is_free m.holes w ≡ false = taken_free 0 need m.holes a w (omega arith) s.apart e ∙ (λ i. k i || busy i) in
          let h = t w lo hi was in
          (h.0, h.1, put_else m.words n (Some (range a need)) h.0 (λ q. none_some h.1 (sym new ∙ ap m.words (sym q) ∙ h.2)) ∙ h.2, h.3)))
          (bool_cases (is_within a need w))

  pub freed_tiled : (m : Room) (n : ℕ) → RoomSound l m → IsTiled l m → IsTiled l (freed m n)
  freed_tiled m n s t = by (m.words n) refl
    where
      by : (f : Option Hole) → m.words n ≡ f → IsTiled l (without_words n m f)
      by None e = t
      by (Some r) e = λ w lo hi busy.
          let at = s.some n r e in
          let len = at.0 in
          let clear : is_clear r.first r.len m.holes ≡ true = clear_of r.first r.len 0 m.holes s.apart len (λ v k. s.busy n v r e k) in
          let both = or_false (is_within r.first r.len w) (is_free m.holes w) (sym (given_free 0 r.first r.len m.holes w len s.apart clear) ∙ busy) in
          let h = t w lo hi both.1 in
          (h.0, h.1, put_else m.words n None h.0 (λ q. true≢false (sym h.3 ∙ ap (λ (x : Hole). is_within x.first x.len w) (some_same h.1 r (sym h.2 ∙ ap m.words q ∙ e)) ∙ both.0)) ∙ h.2, h.3)

  pub empty_tiled : IsTiled l (record { holes = whole (first_cell l) l.words; words = λ _. None })
  empty_tiled w lo hi busy = absurd (true≢false (sym (all_free (eqb_tells l.words 0)) ∙ busy))
    where
      all_free : ((l.words == 0) ≡ true) × (l.words ≡ 0) ⊎ ((l.words == 0) ≡ false) × (l.words ≢ 0) → is_free (whole (first_cell l) l.words) w ≡ true
      all_free (inl z) = absurd (let n = z.1 in omega arith)
      all_free (inr z) = subst (λ (b : Bool). is_free (if b then [] else range (first_cell l) l.words ∷ []) w ≡ true) (sym z.0) (or_true (is_within (first_cell l) l.words w) false (within_is (first_cell l) l.words w lo hi))

  added_sound : (m : Room) (x : Addition) → RoomSound l m → RoomSound l (with_addition m (Some x))
  added_sound m x s = ⊎_elim
      (λ t. subst (λ (b : Bool). RoomSound l (if b then placed m x.number (length x.lits) else m)) (sym t.0) (placed_sound m x.number (length x.lits) s))
      (λ t. subst (λ (b : Bool). RoomSound l (if b then placed m x.number (length x.lits) else m)) (sym t.0) s)
      (leb_tells 2 (length x.lits))

  after_sound : (m : Room) (e : Entry) → RoomSound l m → RoomSound l (room_after m e)
  after_sound m (Add x) s = added_sound m x s
  after_sound m (Del r n) s = freed_sound m n s
  after_sound m (Reduce r) s = s
  after_sound m (Round x) s = s

  fold_sound : (J : List Entry) (m : Room) → RoomSound l m → RoomSound l (fold room_after m J)
  fold_sound [] m s = s
  fold_sound (e ∷ J) m s = fold_sound J (room_after m e) (after_sound m e s)

  pub starts_sound : (ss : List ClauseAt) (m : Room) → RoomSound l m → RoomSound l (fold (λ m s. placed m s.number (length s.lits)) m ss)
  starts_sound [] m s = s
  starts_sound (x ∷ ss) m s = starts_sound ss (placed m x.number (length x.lits)) (placed_sound m x.number (length x.lits) s)

  pub empty_sound : RoomSound l (record { holes = whole (first_cell l) l.words; words = λ _. None })
  empty_sound = ⊎_elim
      (λ t. subst (λ (b : Bool). RoomSound l (record { holes = if b then [] else range (first_cell l) l.words ∷ []; words = λ _. None })) (sym t.0) (record {
        apart = refl;
        free = λ w k. absurd (true≢false (sym k));
        some = λ n r e. absurd (none_some r e);
        busy = λ n w r e. absurd (none_some r e);
        own = λ n k w r q e. absurd (none_some r e);
      }))
      (λ t. let ne = t.1 in subst (λ (b : Bool). RoomSound l (record { holes = if b then [] else range (first_cell l) l.words ∷ []; words = λ _. None })) (sym t.0) (record {
        apart = joined 0 (range (first_cell l) l.words) [] (record { begins = omega arith; some = omega arith; ends = omega arith; others = refl });
        free = λ w k. within_of (first_cell l) l.words w (⊎_elim (λ (x : is_within (first_cell l) l.words w ≡ true). x) (λ (x : false ≡ true). absurd (true≢false (sym x))) (or_parts (is_within (first_cell l) l.words w) false k));
        some = λ n r e. absurd (none_some r e);
        busy = λ n w r e. absurd (none_some r e);
        own = λ n k w r q e. absurd (none_some r e);
      }))
      (eqb_tells l.words 0)

  pub room_sound : (o : CoreOpening) (J : List Entry) → RoomSound l (room l o J)
  room_sound o J = fold_sound (drop (length o.journal) J) (start_room l o.starts) (starts_sound o.starts (record { holes = whole (first_cell l) l.words; words = λ _. None }) empty_sound)

  -- two clauses' words
  pub ranges_apart : (m : Room) (n k : ℕ) (r q : Hole) → RoomSound l m → m.words n ≡ Some r → m.words k ≡ Some q → n ≢ k → (r.first + r.len ≤ q.first) ⊎ (q.first + q.len ≤ r.first)
  ranges_apart m n k r q s e f ne =
      let a = (s.some n r e).0 in
      let b = (s.some k q f).0 in
      let w : ℕ = max r.first q.first in
      ⊎_elim
      (λ t. inl t.1)
      (λ t. ⊎_elim
      (λ u. inr u.1)
      (λ u. let t1 = t.1 in let u1 = u.1 in absurd (true≢false (sym (within_is q.first q.len w (omega arith) (omega arith)) ∙ s.own n k w r q e f ne (within_is r.first r.len w (omega arith) (omega arith)))))
      (leb_tells (q.first + q.len) r.first))
      (leb_tells (r.first + r.len) q.first)

  pub places_stand : (c : State) → Sound c → Places l c → Stands l c
  places_stand c sound p = record {
    rings = p.rings;
    depth = p.depth;
    inside = λ a x e. let t = (room_sound c.opening c.journal).some x.number (range a (words_for (length x.lits))) (p.words a x e) in (t.1, t.2);
    apart = λ a b x y e f ne. ranges_apart (room l c.opening c.journal) x.number y.number (range a (words_for (length x.lits))) (range b (words_for (length y.lits))) (room_sound c.opening c.journal) (p.words a x e) (p.words b y f)
        (λ q. ne (sound.cells.own a b x y e f q));
    vars = p.vars;
    starts = p.starts;
    units = p.units;
    few = p.few;
  }

-- a word that is not free is a cell's
pub cell_of_word : (l : Layout) (c : State) → Places l c → (w : ℕ) → first_cell l ≤ w → w < cells_end l → is_free (room l c.opening c.journal).holes w ≡ false → (a : ℕ) × (x : Cell) × (c.cell a ≡ Some x) × (a ≤ w) × (w < a + words_for (length x.lits))
cell_of_word l c p w lo hi busy =
    let t = p.tiled w lo hi busy in
    let x = p.only t.0 t.1 t.2 in
    let is : range t.1.first (words_for (length x.0.lits)) ≡ t.1 = some_same (range t.1.first (words_for (length x.0.lits))) t.1 (sym (p.words t.1.first x.0 x.1) ∙ ap (room l c.opening c.journal).words x.2 ∙ t.2) in
    let at = within_of t.1.first (words_for (length x.0.lits)) w (ap (λ (h : Hole). is_within h.first h.len w) is ∙ t.3) in
    (t.1.first, x.0, x.1, at.0, at.1)

-- Longer journals

pub placed_else : (m : Room) (k size n : ℕ) → n ≢ k → (placed m k size).words n ≡ m.words n
placed_else m k size n ne = by (first_fit (words_for size) m.holes)
  where
    by : (f : Option ℕ) → (with_clause k size m f).words n ≡ m.words n
    by None = refl
    by (Some a) = put_else m.words k (Some (range a (words_for size))) n ne

pub freed_else : (m : Room) (k n : ℕ) → n ≢ k → (freed m k).words n ≡ m.words n
freed_else m k n ne = by (m.words k)
  where
    by : (q : Option Hole) → (without_words k m q).words n ≡ m.words n
    by None = refl
    by (Some r) = put_else m.words k None n ne

-- an entry changes the words of its own number
pub words_else : (m : Room) (e : Entry) (n : ℕ) → names e n ≡ false → (room_after m e).words n ≡ m.words n
words_else m (Add x) n none =
    let ne : n ≢ x.number = λ q. true≢false (sym (eq-eqb x.number n (sym q)) ∙ (or_false (x.number == n) false none).0) in
    ⊎_elim
    (λ t. ap (λ (b : Bool). (if b then placed m x.number (length x.lits) else m).words n) t.0 ∙ placed_else m x.number (length x.lits) n ne)
    (λ t. ap (λ (b : Bool). (if b then placed m x.number (length x.lits) else m).words n) t.0)
    (leb_tells 2 (length x.lits))
words_else m (Del r k) n none = freed_else m k n (λ q. true≢false (sym (eq-eqb k n (sym q)) ∙ none))
words_else m (Reduce r) n none = refl
words_else m (Round x) n none = refl

-- the layout folds on
pub room_more : (l : Layout) (o : CoreOpening) (J K : List Entry) → length o.journal ≤ length J → room l o (J ++ K) ≡ fold room_after (room l o J) K
room_more l o J K le = ap (fold room_after (start_room l o.starts)) (drop-append-le (length o.journal) J K le) ∙ fold-append room_after (start_room l o.starts) (drop (length o.journal) J) K

-- Small tables

square : (n : ℕ) → n ≤ 16 → n * n ≤ 16 * 16
square n le = let a : n * n ≤ n * 16 = mul-le-mul_left n le in let b : n * 16 ≤ 16 * 16 = mul-le-mul_right 16 le in omega arith

-- the table is small
pub few_words : (l : Layout) → l.rings ≤ 16 → l.vars ≤ 2 ^ 30 → l.words ≤ 2 ^ 31 → l.depth ≤ 16 → table_words l < 2 ^ 62
few_words l r v w d =
    let q = square l.rings r in
    let m : 4 * (l.rings * l.rings) ≤ 4 * (16 * 16) = omega arith in
    let a : 4 * (l.rings * l.rings) * l.depth ≤ 4 * (16 * 16) * l.depth = mul-le-mul_right l.depth m in
    omega arith
