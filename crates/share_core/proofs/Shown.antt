-- What the lists of a core show after a change.
use Rattle.std.proofs.Common.{◌≡◌, ◌≢◌, ℕ, ◌+◌, ◌*◌, ◌^◌, ◌<◌, ◌≤◌, cond, List, [], ◌∷◌, ◌++◌, length, drop, Option, Some, sym, ap, ◌∙◌, arith, eq-eqb, ne_eqb, append-nil, length-append}
use Rattle.std.proofs.lemmas.List.{drop-append-le, length-drop}
use Rattle.std.specs.Option.{unwrap_or}
use Rattle.sat_words.specs.Literal.{Literal}
use Rattle.sat_words.specs.declared.line.Line.{Line}
use Rattle.sat_words.specs.declared.line.Line.TheVariants.{Add as AddLine, Del as DelLine}
use Rattle.rup_model.specs.declared.journal.Addition.{Addition}
use Rattle.rup_model.specs.declared.journal.Entry.{Entry}
use Rattle.rup_model.specs.declared.journal.Entry.TheVariants.{Add, Del, Reduce}
use Rattle.rup_model.specs.Journal.{ring_of, spelled_by, book, lines}
use Rattle.rup_model.proofs.Sums.{below_most}
use Rattle.rup_model.proofs.Respelling.{ring_spells}
use Rattle.rup_model.proofs.Numbers.{lines_last}
use Rattle.share_core.specs.declared.stored.Cell.{Cell}
use Rattle.share_core.specs.State.{times_at, count_at, number_at, lits_at, slot_of}
use Rattle.share_core.specs.Sound.{placed}
use Rattle.share_core.specs.Machine.{CoreData, state_of, cell_in, Kept}
use Rattle.share_core.proofs.Counting.{held_counted, waiting_cell, slot_below}
use Rattle.share_core.proofs.Own.{placed_last}
use Rattle.share_core.proofs.Tickets.{few_drawn}

-- one more entry, after the first n
placed_after : (r n : ℕ) (J : List Entry) (e : Entry) → n ≤ length J → placed r n (drop n (J ++ e ∷ [])) ≡ placed r n (drop n J) ++ placed r (length J) (e ∷ [])
placed_after r n J e le = ap (placed r n) (drop-append-le n J (e ∷ []) le) ∙ placed_last r n (drop n J) e
    ∙ (let l = length-drop n J in let z : n + length (drop n J) ≡ length J = omega arith in λ j. placed r n (drop n J) ++ placed r (z j) (e ∷ []))

pub placed_here : (r n : ℕ) (J : List Entry) (e : Entry) → n ≤ length J → ring_of e ≡ r → placed r n (drop n (J ++ e ∷ [])) ≡ placed r n (drop n J) ++ record { place = length J; entry = e } ∷ []
placed_here r n J e le is = placed_after r n J e le ∙ (λ j. placed r n (drop n J) ++ cond (eq-eqb (ring_of e) r is j) (record { place = length J; entry = e } ∷ []) [])

pub placed_else : (r n : ℕ) (J : List Entry) (e : Entry) → n ≤ length J → ring_of e ≢ r → placed r n (drop n (J ++ e ∷ [])) ≡ placed r n (drop n J)
placed_else r n J e le ne = placed_after r n J e le
    ∙ (λ j. placed r n (drop n J) ++ cond (ne_eqb (ring_of e) r ne j) (record { place = length J; entry = e } ∷ []) [])
    ∙ append-nil (placed r n (drop n J))

-- the journal goes on after the opening's
pub kept_longer : (d : CoreData) → Kept d → length d.before ≤ length d.journal
kept_longer d k = let b = k.sound.log.begins in let e = ap length b.1 in let l = length-append d.before b.0 in omega arith

pub lines_added : (F : List (List Literal)) (J : List Entry) (x : Addition) (L : List Line) → L ≡ lines F J → L ++ AddLine x.lits ∷ [] ≡ lines F (J ++ Add x ∷ [])
lines_added F J x L e = ap (λ (K : List Line). K ++ AddLine x.lits ∷ []) e ∙ sym (lines_last F J (Add x))

pub lines_reduced : (F : List (List Literal)) (J : List Entry) (r : ℕ) (L : List Line) → L ≡ lines F J → L ≡ lines F (J ++ Reduce r ∷ [])
lines_reduced F J r L e = e ∙ sym (append-nil (lines F J)) ∙ sym (lines_last F J (Reduce r))

-- no count overflows a word
pub count_fits : (d : CoreData) (a : ℕ) → Kept d → count_at (cell_in a d.cells) + 1 < 2 ^ 64
count_fits d a k =
    let R : ℕ = length d.rings in
    let s = k.sound in
    let few = s.opens.few_rings in
    let b = s.counts.bounded a in
    let m = below_most R (2 ^ 56) (λ r. ((state_of d).part r).shared) (λ r. s.counts.few r) in
    omega arith

-- nor does the number of tickets drawn
pub drawn_fits : (d : CoreData) → Kept d → d.drawn + 1 < 2 ^ 64
drawn_fits d k =
    let s = k.sound in
    let few = s.opens.few_rings in
    let small = s.opens.limited in
    let b = few_drawn (state_of d).opening d.drawn (state_of d).part s.tickets in
    omega arith

-- what a ring holds has a count
pub count_some : (d : CoreData) (r a : ℕ) → Kept d → r < length d.rings → 0 < times_at a ((state_of d).part r).held → 0 < count_at (cell_in a d.cells)
count_some d r a k lt h = let t = held_counted (state_of d).opening (state_of d) k.sound.counts r a lt h in let e = k.sound.counts.counts a t.0 in let p = t.1 in omega arith

-- there is each slot
pub slot_room : (d : CoreData) (from to k l : ℕ) → length d.slots ≡ 4 * (length d.rings * length d.rings) * d.depth → from < length d.rings → to < length d.rings → k < 4 → l < d.depth → slot_of (state_of d).opening from to k l < length d.slots
slot_room d from to k l wide a b h p = let q = slot_below (state_of d).opening from to k l a b h p in omega arith

-- the line of a deletion spells the cell's clause
pub bury_logged : (d : CoreData) (r a : ℕ) (J : List Entry) (L : List Line) (ls : List Literal) → Kept d → r < length d.rings → 0 < times_at a ((state_of d).part r).waiting
    → J ≡ d.journal ++ Del r (number_at (cell_in a d.cells)) ∷ [] → ls ≡ lits_at (cell_in a d.cells) → L ≡ d.lines ++ DelLine ls ∷ [] → L ≡ lines d.formula J
bury_logged d r a J L ls k lt w Js lss Ls =
    let t = waiting_cell (state_of d).opening (state_of d) k.sound.counts r a lt w in
    let n : ℕ = number_at (cell_in a d.cells) in
    let alive : (book d.formula d.journal).clause n ≡ Some (lits_at (cell_in a d.cells)) = ap (λ (q : Option Cell). (book d.formula d.journal).clause (number_at q)) t.1 ∙ k.sound.cells.alive a t.0 t.1 ∙ sym (ap (λ (q : Option Cell). Some (lits_at q)) t.1) in
    Ls ∙ (λ j. k.logged j ++ DelLine (lss j) ∷ [])
    ∙ (λ j. lines d.formula d.journal ++ DelLine (sym (ring_spells r (lits_at (cell_in a d.cells)) (let few = k.sound.opens.few_rings in omega arith)) j) ∷ [])
    ∙ (λ j. lines d.formula d.journal ++ DelLine (spelled_by r (unwrap_or (sym alive j) [])) ∷ [])
    ∙ sym (lines_last d.formula d.journal (Del r n)) ∙ ap (lines d.formula) (sym Js)
