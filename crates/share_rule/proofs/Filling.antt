-- The words that a table begins with are those of its opening.
use Rattle.std.proofs.Common.{◌≡◌, Bool, ℕ, zero, suc, ◌+◌, ◌-◌, ◌*◌, ◌/◌, ◌<◌, ◌≤◌, List, [], ◌∷◌, ◌++◌, map, length, set, get_or, replicate, refl, sym, ap, ◌∙◌, subst, inl, inr, arith, length-append, append_assoc, length-set, get_or-set_other, get_or-set_same, Some}
use Rattle.std.specs.Prelude.{slice_index, slice_index_or}
use Rattle.std.proofs.lemmas.List.{length-map, length-replicate, get_or-replicate, get_or_append_left, get_or-append-add}
use mathlib.Core.Logic.{dite}
use native.Mathlib.Decide.{ℕ_discrete}
use Rattle.sat_words.specs.Literal.{Literal, code_of}
use Rattle.clause_cell.specs.Packing.{words_for, pair_of, lit_word}
use Rattle.rup_model.specs.declared.journal.Entry.{Entry}
use Rattle.rup_model.proofs.Lists.{In}
use Rattle.share_core.specs.declared.stored.ClauseAt.{ClauseAt}
use Rattle.share_core.specs.declared.stored.Cell.{Cell}
use Rattle.share_core.specs.State.{opened, unit_lits, unit_numbers}
use Rattle.share_core.specs.Events.{listed_number}
use Rattle.share_rule.specs.declared.Layout.{Layout}
use Rattle.share_rule.specs.Layout.{grant_at, unit_at, number_at, slots, slot_at, ticket_at, first_cell, table_words}
use Rattle.share_rule.specs.Cells.{Spells}
use Rattle.share_rule.specs.Shown.{Words}
use Rattle.share_rule.specs.FirstWords.{total, starts_at, begun_with, lit_words, cell_words, start_words, low_words, last_words, first_words}
use Rattle.share_rule.proofs.Contiguous.{cell_start}

-- A cell

pub lit_words_length : (lits : List Literal) (n : ℕ) → length (lit_words lits n) ≡ n
lit_words_length lits zero = refl
lit_words_length lits (suc n) = let r = lit_words_length lits n in let e = length-append (lit_words lits n) (lit_word lits n ∷ []) in omega arith

lit_words_at : (lits : List Literal) (n j : ℕ) → j < n → get_or (lit_words lits n) j 0 ≡ lit_word lits j
lit_words_at lits zero j lt = absurd (omega arith)
lit_words_at lits (suc n) j lt =
    let len = lit_words_length lits n in
    let w : ℕ = lit_word lits n in
    dite (ℕ_discrete j n)
    (λ e. let q : j ≡ length (lit_words lits n) + 0 = omega arith in ap (λ i. get_or (lit_words lits n ++ w ∷ []) i 0) q ∙ get_or-append-add (lit_words lits n) (w ∷ []) 0 0 ∙ ap (lit_word lits) (sym e))
    (λ ne. get_or_append_left (lit_words lits n) (w ∷ []) 0 j (omega arith) ∙ lit_words_at lits n j (omega arith))

pub cell_length : (count : ℕ) (s : ℕ × List Literal) → length (cell_words count s) ≡ words_for (length s.1)
cell_length count s =
    let e = length-append (count ∷ s.0 ∷ pair_of (length s.1) 0 ∷ []) (lit_words s.1 ((length s.1 + 1) / 2)) in
    let r = lit_words_length s.1 ((length s.1 + 1) / 2) in
    omega arith

cell_spelled : (ws : List ℕ) (count : ℕ) (s : ℕ × List Literal) (a : ℕ) → ((i : ℕ) → i < words_for (length s.1) → slice_index ws (a + i) ≡ get_or (cell_words count s) i 0)
    → (slice_index ws a ≡ count) × Spells ws a s.0 0 s.1
cell_spelled ws count s a h = (
  (let z : a ≡ a + 0 = omega arith in ap (slice_index ws) z ∙ h 0 (omega arith)),
  record {
    number_is = h 1 (omega arith);
    head_is = h 2 (omega arith);
    lits_are = λ j lt. let p : a + 3 + j ≡ a + (3 + j) = omega arith in
        ap (slice_index ws) p ∙ h (3 + j) (omega arith)
        ∙ get_or-append-add (count ∷ s.0 ∷ pair_of (length s.1) 0 ∷ []) (lit_words s.1 ((length s.1 + 1) / 2)) j 0 ∙ lit_words_at s.1 ((length s.1 + 1) / 2) j lt;
  },
)

-- All cells

pub start_length : (count : ℕ) (ss : List (ℕ × List Literal)) → length (start_words count ss) ≡ total ss
start_length count [] = refl
start_length count (s ∷ ss) = let e = length-append (cell_words count s) (start_words count ss) in let c = cell_length count s in let r = start_length count ss in omega arith

starts_spelled : (ws : List ℕ) (count : ℕ) (ss : List (ℕ × List Literal)) (base : ℕ) → ((i : ℕ) → i < total ss → slice_index ws (base + i) ≡ get_or (start_words count ss) i 0)
    → (h : ClauseAt) → In h (starts_at base ss) → (slice_index ws h.address ≡ count) × Spells ws h.address h.number 0 h.lits
starts_spelled ws count [] base all h i = absurd i
starts_spelled ws count (s ∷ ss) base all h (inl q) =
    let len = cell_length count s in
    subst (λ (k : ClauseAt). (slice_index ws k.address ≡ count) × Spells ws k.address k.number 0 k.lits) q
    (cell_spelled ws count s base (λ i lt. all i (omega arith) ∙ get_or_append_left (cell_words count s) (start_words count ss) 0 i (omega arith)))
starts_spelled ws count (s ∷ ss) base all h (inr at) =
    let need : ℕ = words_for (length s.1) in
    let len = cell_length count s in
    starts_spelled ws count ss (base + need) (λ i lt.
    let p : base + need + i ≡ base + (need + i) = omega arith in
    let q : need + i ≡ length (cell_words count s) + i = omega arith in
    ap (slice_index ws) p ∙ all (need + i) (omega arith) ∙ ap (λ k. get_or (cell_words count s ++ start_words count ss) k 0) q ∙ get_or-append-add (cell_words count s) (start_words count ss) i 0) h at

-- Below the cells

abbrev codes : List (Literal × ℕ) → List ℕ
codes us = map (λ (u : Literal × ℕ). code_of u.0) us

codes_same : (us : List (Literal × ℕ)) → codes us ≡ map code_of (unit_lits us)
codes_same [] = refl
codes_same (u ∷ us) = ap (λ (xs : List ℕ). code_of u.0 ∷ xs) (codes_same us)

module _ (l : Layout) (us : List (Literal × ℕ)) (few : length us ≤ 2 * l.vars) where
  rest_words : ℕ
  rest_words = 2 * l.vars - length us + slots l

  pub low_length : length (low_words l us) ≡ first_cell l
  low_length =
      let a = length-append (0 ∷ 0 ∷ length us ∷ []) (replicate l.rings 1 ++ (codes us ++ replicate (2 * l.vars - length us + slots l) 0)) in
      let b = length-append (replicate l.rings 1) (codes us ++ replicate (2 * l.vars - length us + slots l) 0) in
      let c = length-append (codes us) (replicate (2 * l.vars - length us + slots l) 0) in
      let d = length-replicate {A = ℕ} l.rings 1 in
      let e = length-map us (λ (u : Literal × ℕ). code_of u.0) in
      let f = length-replicate {A = ℕ} (2 * l.vars - length us + slots l) 0 in
      omega arith

  above : (i : ℕ) → get_or (low_words l us) (3 + i) 0 ≡ get_or (replicate l.rings 1 ++ (codes us ++ replicate (2 * l.vars - length us + slots l) 0)) i 0
  above i = get_or-append-add (0 ∷ 0 ∷ length us ∷ []) (replicate l.rings 1 ++ (codes us ++ replicate (2 * l.vars - length us + slots l) 0)) i 0

  above_grants : (i : ℕ) → get_or (low_words l us) (3 + l.rings + i) 0 ≡ get_or (codes us ++ replicate (2 * l.vars - length us + slots l) 0) i 0
  above_grants i =
      let d = length-replicate {A = ℕ} l.rings 1 in
      let p : 3 + l.rings + i ≡ 3 + (length (replicate l.rings 1) + i) = omega arith in
      ap (λ k. get_or (low_words l us) k 0) p ∙ above (length (replicate l.rings 1) + i) ∙ get_or-append-add (replicate l.rings 1) (codes us ++ replicate (2 * l.vars - length us + slots l) 0) i 0

  grants_open : (r : ℕ) → r < l.rings → get_or (low_words l us) (grant_at r) 0 ≡ 1
  grants_open r lt = let d = length-replicate {A = ℕ} l.rings 1 in above r ∙ get_or_append_left (replicate l.rings 1) (codes us ++ replicate (2 * l.vars - length us + slots l) 0) 0 r (omega arith) ∙ get_or-replicate l.rings r 1 0 lt

  units_there : (k : ℕ) → k < length us → get_or (low_words l us) (unit_at l k) 0 ≡ slice_index_or (codes us) k 0
  units_there k lt = let e = length-map us (λ (u : Literal × ℕ). code_of u.0) in above_grants k ∙ get_or_append_left (codes us) (replicate (2 * l.vars - length us + slots l) 0) 0 k (omega arith)

  slots_empty : (k : ℕ) → k < slots l → get_or (low_words l us) (slot_at l k) 0 ≡ 0
  slots_empty k lt =
      let e = length-map us (λ (u : Literal × ℕ). code_of u.0) in
      let p : slot_at l k ≡ 3 + l.rings + (length (codes us) + (2 * l.vars - length us + k)) = omega arith in
      ap (λ i. get_or (low_words l us) i 0) p ∙ above_grants (length (codes us) + (2 * l.vars - length us + k))
      ∙ get_or-append-add (codes us) (replicate (2 * l.vars - length us + slots l) 0) (2 * l.vars - length us + k) 0
      ∙ get_or-replicate (2 * l.vars - length us + slots l) (2 * l.vars - length us + k) 0 0 (omega arith)

-- Behind the cells

module _ (l : Layout) (us : List (Literal × ℕ)) (few : length us ≤ 2 * l.vars) where
  last_length : length (last_words l us) ≡ 1 + 2 * l.vars
  last_length =
      let a = length-append (unit_numbers us) (replicate (2 * l.vars - length us) 0) in
      let b = length-map us (λ (u : Literal × ℕ). u.1) in
      let c = length-replicate {A = ℕ} (2 * l.vars - length us) 0 in
      omega arith

  numbers_there : (k : ℕ) → k < length us → get_or (last_words l us) (1 + k) 0 ≡ listed_number (unit_numbers us) k
  numbers_there k lt =
      let b = length-map us (λ (u : Literal × ℕ). u.1) in
      get_or-append-add (0 ∷ []) (unit_numbers us ++ replicate (2 * l.vars - length us) 0) k 0 ∙ get_or_append_left (unit_numbers us) (replicate (2 * l.vars - length us) 0) 0 k (omega arith)

-- The code's words

module _ (l : Layout) (us : List (Literal × ℕ)) (few : length us ≤ 2 * l.vars) (ss : List (ℕ × List Literal)) (ws : List ℕ) (is : ws ≡ low_words l us ++ start_words l.rings ss) where
  pub laid_length : length ws ≡ first_cell l + total ss
  laid_length =
      let n = ap (λ (xs : List ℕ). length xs) is in
      let a = length-append (low_words l us) (start_words l.rings ss) in
      let b = low_length l us few in
      let c = start_length l.rings ss in
      omega arith

  module _ (fits : total ss ≤ l.words) (end : ℕ) (e : end ≡ ticket_at l) (ws' : List ℕ) (more : ws' ≡ ws ++ replicate (end - length ws) 0) where
    -- up to the tickets
    pub filled_length : length ws' ≡ ticket_at l
    filled_length =
        let n = ap (λ (xs : List ℕ). length xs) more in
        let a = length-append ws (replicate (end - length ws) 0) in
        let b = laid_length in
        let c = length-replicate {A = ℕ} (end - length ws) 0 in
        omega arith

    pub laid_words : (ws'' : List ℕ) → ws'' ≡ ws' ++ last_words l us → ws'' ≡ first_words l ss us
    laid_words ws'' all =
        let n = laid_length in
        let z : end - length ws ≡ l.words - total ss = omega arith in
        let free : List ℕ = replicate (l.words - total ss) 0 in
        let filled : ws' ≡ (low_words l us ++ start_words l.rings ss) ++ free = more ∙ (λ i. is i ++ replicate (z i) 0) in
        all ∙ ap (λ (xs : List ℕ). xs ++ last_words l us) filled ∙ append_assoc (low_words l us ++ start_words l.rings ss) free (last_words l us)
        ∙ append_assoc (low_words l us) (start_words l.rings ss) (free ++ last_words l us)

-- All words

module _ (F : List (List Literal)) (l : Layout) (hinted : Bool) (J : List Entry) (ss : List (ℕ × List Literal)) (us : List (Literal × ℕ)) (few : length us ≤ 2 * l.vars) (fits : total ss ≤ l.words) where
  -- what stands above the start clauses
  behind : List ℕ
  behind = replicate (l.words - total ss) 0 ++ last_words l us

  pub first_length : length (first_words l ss us) ≡ table_words l
  unfolding behind
  first_length =
      let a = length-append (low_words l us) (start_words l.rings ss ++ behind) in
      let b = length-append (start_words l.rings ss) behind in
      let c = low_length l us few in
      let d = start_length l.rings ss in
      let e = length-append (replicate (l.words - total ss) 0) (last_words l us) in
      let f = length-replicate {A = ℕ} (l.words - total ss) 0 in
      let g = last_length l us few in
      omega arith

  at_end : (i : ℕ) → get_or (first_words l ss us) (ticket_at l + i) 0 ≡ get_or (last_words l us) i 0
  unfolding behind
  at_end i =
      let low = low_length l us few in
      let d = start_length l.rings ss in
      let free : List ℕ = replicate (l.words - total ss) 0 in
      let f : length free ≡ l.words - total ss = length-replicate {A = ℕ} (l.words - total ss) 0 in
      let p : ticket_at l + i ≡ length (low_words l us) + (length (start_words l.rings ss) + (length free + i)) = omega arith in
      ap (λ k. get_or (first_words l ss us) k 0) p
      ∙ get_or-append-add (low_words l us) (start_words l.rings ss ++ behind) (length (start_words l.rings ss) + (length free + i)) 0
      ∙ get_or-append-add (start_words l.rings ss) behind (length free + i) 0
      ∙ get_or-append-add free (last_words l us) i 0

  pub begun_words : (v : ℕ) → v ≡ 256 * length J + 0 → Words l (opened (begun_with F l hinted J ss us)) (λ _. 0) (set (first_words l ss us) 0 v)
  unfolding behind
  begun_words v is =
      let wide = first_length in
      let listed : length (unit_lits us) ≡ length us = length-map us (λ (u : Literal × ℕ). u.0) in
      let ws : List ℕ = set (first_words l ss us) 0 v in
      let at_low : (i : ℕ) → 0 < i → i < first_cell l → slice_index ws i ≡ get_or (low_words l us) i 0 = λ i some lt.
      let len = low_length l us few in
      get_or-set_other (first_words l ss us) 0 i v 0 (λ e. omega arith) ∙ get_or_append_left (low_words l us) (start_words l.rings ss ++ behind) 0 i (omega arith) in
      let at_cell : (i : ℕ) → i < total ss → slice_index ws (first_cell l + i) ≡ get_or (start_words l.rings ss) i 0 = λ i lt.
      let len = low_length l us few in
      let d = start_length l.rings ss in
      let p : first_cell l + i ≡ length (low_words l us) + i = omega arith in
      get_or-set_other (first_words l ss us) 0 (first_cell l + i) v 0 (λ e. omega arith)
      ∙ ap (λ k. get_or (first_words l ss us) k 0) p ∙ get_or-append-add (low_words l us) (start_words l.rings ss ++ behind) i 0
      ∙ get_or_append_left (start_words l.rings ss) behind 0 i (omega arith) in
      let at_last : (i w : ℕ) → w ≡ ticket_at l + i → slice_index ws w ≡ get_or (last_words l us) i 0 = λ i w e.
      get_or-set_other (first_words l ss us) 0 w v 0 (λ z. omega arith) ∙ ap (λ k. get_or (first_words l ss us) k 0) e ∙ at_end i in
      let cells : (a : ℕ) (x : Cell) → (opened (begun_with F l hinted J ss us)).cell a ≡ Some x → (slice_index ws a ≡ x.count) × Spells ws a x.number 0 x.lits = λ a x e.
      let s = cell_start l.rings (starts_at (first_cell l) ss) a x e in
      let t = starts_spelled ws l.rings ss (first_cell l) at_cell s.0 s.1 in
      subst (λ (y : ℕ × Cell). (slice_index ws y.0 ≡ y.1.count) × Spells ws y.0 y.1.number 0 y.1.lits) (λ i. (s.2 i, s.3 i)) t in
      record {
        wide = length-set (first_words l ss us) 0 v ∙ wide;
        turn_is = get_or-set_same (first_words l ss us) 0 v 0 (omega arith) ∙ is;
        stop_is = at_low 1 (omega arith) (omega arith);
        listed_is = at_low 2 (omega arith) (omega arith) ∙ sym listed;
        grant_is = λ r lt. at_low (grant_at r) (omega arith) (omega arith) ∙ grants_open l us few r lt;
        unit_is = λ k lt. at_low (unit_at l k) (omega arith) (omega arith) ∙ units_there l us few k (omega arith) ∙ ap (λ (xs : List ℕ). slice_index_or xs k 0) (codes_same us);
        number_is = λ k lt. at_last (1 + k) (number_at l k) (omega arith) ∙ numbers_there l us few k (omega arith);
        slot_is = λ k lt. at_low (slot_at l k) (omega arith) (omega arith) ∙ slots_empty l us few k lt;
        count_is = λ a x e o. (cells a x e).0;
        cell_is = λ a x e o. (cells a x e).1;
        ticket_is = at_last 0 (ticket_at l) (omega arith);
      }
