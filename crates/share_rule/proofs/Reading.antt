-- What the words of a table at its end tell.
use Rattle.std.proofs.Common.{◌≡◌, ◌≢◌, ◌⊎◌, ℕ, suc, ◌+◌, ◌*◌, ◌^◌, ◌<◌, ◌≤◌, ◌==◌, true, false, List, [], ◌∷◌, ◌++◌, map, length, get_or, refl, sym, ap, ◌∙◌, subst, arith, ne_eqb, true≢false, ⊎_elim, inl, inr, Some, None}
use Rattle.std.specs.Prelude.{◌-◌, ◌||◌, Bool, nat_eq, nat_le, Contains}
use Rattle.std.specs.List.{IsDistinct, list_any}
use Rattle.std.specs.List.Sorted.{IsPermutation, IsNonDecreasingBy, IsNonDecreasing}
use Rattle.std.proofs.lemmas.Bool.Decides.{leb_tells, eqb_tells}
use Rattle.std.proofs.lemmas.Cmp.{nat_eq_equiv}
use Rattle.std.proofs.lemmas.List.{map-append, length-map, get_or-map}
use Rattle.std.proofs.lemmas.List.Elements.{All-push, Contains-push, Contains-append_left}
use Rattle.std.proofs.lemmas.List.Sorted.{All-permutation, Contains-permutation, IsPermutation-map}
use Rattle.std.proofs.lemmas.Map.Keys.{IsDistinct-push, IsDistinct-IsPermutation, IsStrictlyIncreasing-from_distinct, sorted_from_strictly_increasing}
use Rattle.clause_cell.specs.declared.holes.Hole.{Hole}
use Rattle.clause_cell.specs.Packing.{words_for}
use Rattle.clause_cell.specs.Free.{is_free, is_apart, range, len_from}
use Rattle.clause_cell.proofs.Starting.{hole_from, not_free_next}
use Rattle.share_core.specs.declared.stored.Cell.{Cell}
use Rattle.share_core.specs.State.{State}
use Rattle.share_core.proofs.Counting.{some_same}
use Rattle.share_rule.specs.declared.Layout.{Layout}
use Rattle.share_rule.specs.declared.rests.Rest.{Rest}
use Rattle.share_rule.specs.Layout.{first_cell, cells_end}
use Rattle.share_rule.specs.Room.{room}
use Rattle.share_rule.specs.Rests.{rest_of, IsRestBefore, IsRest, AreRests, IsAtEnd, HasHoles, AreRestsBefore}
use Rattle.share_rule.specs.Seen.{Stands}
use Rattle.share_rule.proofs.Rooms.{RoomSound, within_is, room_sound, places_stand, cell_of_word}

-- if no run of free words begins at a word, it is not free
abbrev pub IsEdge : List Hole → ℕ → Type 0
IsEdge hs w = len_from w hs ≡ None → is_free hs w ≡ false

-- the cells before a word are read, and it is in the middle of none and of no run of free words
pub record ReadTo (l : Layout) (c : State) (glue : ℕ → ℕ) (hs : List Hole) (w : ℕ) (rs : List Rest) : Type 0 where
  pub first : first_cell l ≤ w
  pub edge : IsEdge hs w
  pub clean : (a : ℕ) (x : Cell) → c.cell a ≡ Some x → a < w → a + words_for (length x.lits) ≤ w
  pub rests : AreRestsBefore w c glue rs

nothing : IsDistinct nat_eq []
unfolding IsDistinct
nothing = tt

-- none of them has the number
unlike : (n : ℕ) (rs : List Rest) → ((i : ℕ) (d : Rest) → i < length rs → (get_or rs i d).number ≢ n) → list_any (nat_eq n) (map (λ r. r.number) rs) ≡ false
unlike n [] h = refl
unlike n (r ∷ rs) h = (λ i. ne_eqb n r.number (λ e. h 0 r (omega arith) (sym e)) i || list_any (nat_eq n) (map (λ q. q.number) rs)) ∙ unlike n rs (λ i d lt. h (suc i) d (omega arith))

module _ (l : Layout) (c : State) (glue : ℕ → ℕ) (ws : List ℕ) (at_end : IsAtEnd l c glue ws) (hs : List Hole) (holes : HasHoles l c hs) where
  sound_room : RoomSound l (room l c.opening c.journal)
  sound_room = room_sound l at_end.small c.opening c.journal

  stands : Stands l c
  stands = places_stand l at_end.small c at_end.sound at_end.places

  -- no word of a cell is free
  busy : (a w : ℕ) (x : Cell) → c.cell a ≡ Some x → a ≤ w → w < a + words_for (length x.lits) → is_free hs w ≡ false
  busy a w x is lo hi = ap (λ ks. is_free ks w) holes ∙ sound_room.busy x.number w (range a (words_for (length x.lits))) (at_end.places.words a x is) (within_is a (words_for (length x.lits)) w lo hi)

  next_edge : (w : ℕ) → is_free hs w ≡ false → IsEdge hs (w + 1)
  next_edge w used none = let e : w + 1 ≡ suc w = omega arith in subst (λ k. is_free hs k ≡ false) (sym e) (not_free_next w hs (subst (λ k. len_from k hs ≡ None) e none) used)

  not_before : (w : ℕ) → w < first_cell l → is_free hs w ≡ false
  not_before w lt = by (is_free hs w) refl
    where
      by : (b : Bool) → is_free hs w ≡ b → b ≡ false
      by true e = absurd (let t = (sound_room.free w (ap (λ ks. is_free ks w) (sym holes) ∙ e)).0 in omega arith)
      by false e = refl

  pub reading_begins : ReadTo l c glue hs (first_cell l) []
  reading_begins = record {
    first = omega arith;
    edge = (let e : first_cell l ≡ (2 + l.rings + 2 * l.vars + 4 * (l.rings * l.rings) * l.depth) + 1 = omega arith in subst (IsEdge hs) (sym e) (next_edge (2 + l.rings + 2 * l.vars + 4 * (l.rings * l.rings) * l.depth) (not_before (2 + l.rings + 2 * l.vars + 4 * (l.rings * l.rings) * l.depth) (omega arith))));
    clean = λ a x is lt. absurd (let t = (stands.inside a x is).0 in omega arith);
    rests = record {
      told = λ a x is lt. absurd (let t = (stands.inside a x is).0 in omega arith);
      only = λ i d lt. absurd (omega arith);
      distinct = nothing;
    };
  }

  -- a run of free words is passed over
  pub read_past : (w n : ℕ) (rs : List Rest) → ReadTo l c glue hs w rs → len_from w hs ≡ Some n → ReadTo l c glue hs (w + n) rs × (0 < n) × (w + n ≤ 2 ^ 63)
  read_past w n rs r is =
      let h = hole_from w n 0 hs (ap (is_apart 0) holes ∙ sound_room.apart) is in
      let some = h.some in
      let first = r.first in
      let none : (a : ℕ) (x : Cell) → c.cell a ≡ Some x → w ≤ a → a < w + n → ⊥ = λ a x there lo hi. true≢false (sym (h.free a lo hi) ∙ busy a a x there (omega arith) (omega arith)) in
      let before : (a : ℕ) (x : Cell) → c.cell a ≡ Some x → a < w + n → a < w = λ a x there lt. ⊎_elim
      (λ (t : (nat_le w a ≡ true) × (w ≤ a)). absurd (none a x there t.1 lt))
      (λ (t : (nat_le w a ≡ false) × (a < w)). t.1)
      (leb_tells w a) in (
        record {
          first = omega arith;
          edge = λ _. h.stops;
          clean = λ a x there lt. (let t = r.clean a x there (before a x there lt) in omega arith);
          rests = record {
            told = λ a x there lt. r.rests.told a x there (before a x there lt);
            only = λ i d lt. (let t = r.rests.only i d lt in let low = t.3 in (t.0, t.1, t.2, omega (arith, low), t.4));
            distinct = r.rests.distinct;
          };
        },
        h.some,
        h.ends,
      )

  -- elsewhere a cell begins
  pub cell_here : (w : ℕ) (rs : List Rest) → ReadTo l c glue hs w rs → w < cells_end l → len_from w hs ≡ None → (x : Cell) × (c.cell w ≡ Some x)
  cell_here w rs r lt none =
      let t = cell_of_word l c at_end.places w r.first lt (ap (λ ks. is_free ks w) (sym holes) ∙ r.edge none) in
      let lo = t.3 in
      let hi = t.4 in
      ⊎_elim
      (λ (e : ((t.0 == w) ≡ true) × (t.0 ≡ w)). (t.1, ap c.cell (sym e.1) ∙ t.2))
      (λ (e : ((t.0 == w) ≡ false) × (t.0 ≢ w)). absurd (let ne = e.1 in let k = r.clean t.0 t.1 t.2 (omega arith) in omega arith))
      (eqb_tells t.0 w)

  -- which is read
  pub read_one : (w : ℕ) (rs : List Rest) (x : Cell) → ReadTo l c glue hs w rs → c.cell w ≡ Some x → ReadTo l c glue hs (w + words_for (length x.lits)) (rs ++ rest_of glue x ∷ [])
  read_one w rs x r is =
      let size : ℕ = words_for (length x.lits) in
      let some : 3 ≤ size = omega arith in
      let first = r.first in
      let before : (a : ℕ) (y : Cell) → c.cell a ≡ Some y → a < w + size → (a < w) ⊎ (a ≡ w) = λ a y there lt. ⊎_elim
      (λ (t : (nat_le (suc w) a ≡ true) × (suc w ≤ a)). absurd (let over = t.1 in ⊎_elim
      (λ (k : w + size ≤ a). let z : ⊥ = omega arith in z)
      (λ (k : a + words_for (length y.lits) ≤ w). let z : ⊥ = omega arith in z)
      (stands.apart w a x y is there (λ e. omega arith))))
      (λ (t : (nat_le (suc w) a ≡ false) × (a < suc w)). (let low = t.1 in ⊎_elim
      (λ (e : ((a == w) ≡ true) × (a ≡ w)). inr e.1)
      (λ (e : ((a == w) ≡ false) × (a ≢ w)). inl (let ne = e.1 in omega arith))
      (eqb_tells a w)))
      (leb_tells (suc w) a) in
      record {
        first = omega arith;
        edge = (let e : w + size ≡ (w + size - 1) + 1 = omega arith in subst (IsEdge hs) (sym e) (next_edge (w + size - 1) (busy w (w + size - 1) x is (omega arith) (omega arith))));
        clean = λ a y there lt. ⊎_elim
            (λ (t : a < w). (let k = r.clean a y there t in omega arith))
            (λ (t : a ≡ w). (let same = some_same y x (sym there ∙ ap c.cell t ∙ is) in let k = ap (λ (z : Cell). words_for (length z.lits)) same in omega arith))
            (before a y there lt);
        rests = record {
          told = λ a y there lt. ⊎_elim
              (λ (t : a < w). Contains-append_left rs (rest_of glue x ∷ []) (rest_of glue y) (r.rests.told a y there t))
              (λ (t : a ≡ w). subst (λ z. Contains (rs ++ rest_of glue x ∷ []) (rest_of glue z)) (some_same x y (sym is ∙ ap c.cell (sym t) ∙ there)) (Contains-push rs (rest_of glue x)))
              (before a y there lt);
          only = All-push (IsRestBefore (w + size) c glue) rs (rest_of glue x)
              (λ i d lt. (let t = r.rests.only i d lt in let low = t.3 in (t.0, t.1, t.2, omega (arith, low), t.4)))
              (w, x, is, omega arith, refl);
          distinct = subst (IsDistinct nat_eq) (sym (map-append (λ (q : Rest). q.number) rs (rest_of glue x ∷ [])))
              (IsDistinct-push nat_eq_equiv (map (λ q. q.number) rs) x.number r.rests.distinct
              (unlike x.number rs (λ i d lt e. (let t = r.rests.only i d lt in let low = t.3 in let one = at_end.sound.cells.own t.0 w t.1 x t.2 is (sym (ap (λ (q : Rest). q.number) t.4) ∙ e) in omega arith))));
        };
      }

  -- all cells are
  pub all_read : (w : ℕ) (rs : List Rest) → ReadTo l c glue hs w rs → cells_end l ≤ w → AreRestsBefore (cells_end l) c glue rs
  all_read w rs r le = record {
    told = λ a x there lt. r.rests.told a x there (omega arith);
    only = λ i d lt. (let t = r.rests.only i d lt in let k = stands.inside t.0 t.1 t.2 in let ends = k.1 in (t.0, t.1, t.2, omega arith, t.4));
    distinct = r.rests.distinct;
  }

rises : (rs : List Rest) → IsNonDecreasingBy (λ r. r.number) rs → IsNonDecreasing (map (λ r. r.number) rs)
rises [] up i j d le lt = absurd (omega arith)
rises (r ∷ rs) up i j d le lt =
    let same = length-map (r ∷ rs) (λ (q : Rest). q.number) in
    let a = get_or-map (λ (q : Rest). q.number) (r ∷ rs) i r d (omega arith) in
    let b = get_or-map (λ (q : Rest). q.number) (r ∷ rs) j r d (omega arith) in
    let k = up i j r le (omega arith) in
    omega arith

-- in order of number
pub rests_sorted : (l : Layout) (c : State) (glue : ℕ → ℕ) (ws : List ℕ) (rs ss : List Rest) → IsAtEnd l c glue ws → AreRestsBefore (cells_end l) c glue rs → IsPermutation rs ss → IsNonDecreasingBy (λ r. r.number) ss → AreRests c glue ss
rests_sorted l c glue ws rs ss at_end b moved up = record {
  told = λ a x there. Contains-permutation rs ss (rest_of glue x) moved (b.told a x there (let k = (places_stand l at_end.small c at_end.sound at_end.places).inside a x there in let ends = k.1 in omega arith));
  only = All-permutation (IsRest c glue) rs ss moved (λ i d lt. (let t = b.only i d lt in (t.0, t.1, t.2, t.4)));
  ascending = sorted_from_strictly_increasing (map (λ r. r.number) ss) (IsStrictlyIncreasing-from_distinct (map (λ r. r.number) ss) (rises ss up)
      (IsDistinct-IsPermutation nat_eq nat_eq_equiv.symm (map (λ r. r.number) rs) (map (λ r. r.number) ss) (IsPermutation-map (λ (r : Rest). r.number) rs ss moved) b.distinct));
}
