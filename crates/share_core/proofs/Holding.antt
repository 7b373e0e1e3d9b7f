-- What a sound state says of what rings hold, build and are to delete.
use Rattle.std.proofs.Common.{◌≡◌, ◌≢◌, ℕ, ◌+◌, ◌*◌, ◌^◌, ◌<◌, ◌≤◌, List, Some, sym, ap, ◌∙◌, subst, arith}
use Rattle.sat_words.specs.Literal.{Literal}
use Rattle.rup_model.specs.declared.journal.TheConstants.{RULER_RING}
use Rattle.rup_model.specs.Journal.{book}
use Rattle.rup_model.specs.Opening.{IsLong}
use Rattle.rup_model.proofs.Lists.{In}
use Rattle.rup_model.proofs.Sums.{below_most}
use Rattle.share_core.specs.declared.event.TheConstants.{MAX_SHARES}
use Rattle.share_core.specs.declared.stored.ClauseAt.{ClauseAt}
use Rattle.share_core.specs.declared.stored.Cell.{Cell}
use Rattle.share_core.specs.State.{State, count_at, number_at, lits_at, maker_at, clause_at, slots}
use Rattle.share_core.specs.Sound.{IsCopy, Sound}
use Rattle.share_core.specs.Readable.{IsOpenCell}
use Rattle.share_core.proofs.ClauseLists.{at_in, all_in}
use Rattle.share_core.proofs.Counting.{is_made, held_counted, held_cell, slot_cell, waiting_cell}

-- a copy of a cell is as the rings know it
pub copy_is : (c : State) (h : ClauseAt) → IsCopy c.cell h → h ≡ clause_at c h.address
copy_is c h k =
    let number : h.number ≡ number_at (c.cell h.address) = sym k.2 ∙ sym (ap number_at k.1) in
    let lits : h.lits ≡ lits_at (c.cell h.address) = sym k.3 ∙ sym (ap lits_at k.1) in
    λ i. record { address = h.address; number = number i; lits = lits i }

copy_alive : (c : State) (h : ClauseAt) → Sound c → IsCopy c.cell h → (book c.opening.formula c.journal).clause h.number ≡ Some h.lits
copy_alive c h s k = ap (book c.opening.formula c.journal).clause (sym k.2) ∙ s.cells.alive h.address k.0 k.1 ∙ ap (λ (q : List Literal). Some q) k.3

module _ (c : State) (r : ℕ) (h : ClauseAt) (s : Sound c) (lt : r < c.opening.rings) where
  pub held_copy : In h (c.part r).held → IsCopy c.cell h
  held_copy i = all_in (IsCopy c.cell) (c.part r).held h i (s.copies.held r lt)

  pub held_open : In h (c.part r).held → (x : Cell) × IsOpenCell c h.address x × (0 < x.count)
  held_open i =
      let at = at_in (c.part r).held h i in
      let n = (held_counted c.opening c s.counts r h.address lt at).1 in
      let t = held_cell c.opening c s.counts r h.address lt at in
      let e = t.2 in
      (t.0, (t.1, t.3), omega arith)

  pub held_alive : In h (c.part r).held → (book c.opening.formula c.journal).clause h.number ≡ Some h.lits
  held_alive i = copy_alive c h s (held_copy i)

  pub held_long : In h (c.part r).held → IsLong h.lits
  held_long i = let k = held_copy i in subst IsLong k.3 (s.cells.shape h.address k.0 k.1)

  pub making_copy : In h (c.part r).making → IsCopy c.cell h
  making_copy i = all_in (IsCopy c.cell) (c.part r).making h i (s.copies.making r lt)

  pub making_built : In h (c.part r).making → (x : Cell) × (c.cell h.address ≡ Some x) × (x.maker ≡ Some r) × (x.count ≡ 0)
  making_built i =
      let k = making_copy i in
      let at = at_in (c.part r).making h i in
      let e = s.counts.makes r h.address lt in
      let maker : k.0.maker ≡ Some r = sym (ap maker_at k.1) ∙ is_made r (maker_at (c.cell h.address)) (omega arith) in
      (k.0, k.1, maker, (s.counts.making h.address k.0 r k.1 maker).0)

  pub making_alive : In h (c.part r).making → (book c.opening.formula c.journal).clause h.number ≡ Some h.lits
  making_alive i = copy_alive c h s (making_copy i)

  pub waiting_copy : In h (c.part r).waiting → IsCopy c.cell h
  waiting_copy i = all_in (IsCopy c.cell) (c.part r).waiting h i (s.copies.waiting r lt)

  pub waiting_open : In h (c.part r).waiting → (x : Cell) × IsOpenCell c h.address x × (x.count ≡ 0)
  waiting_open i = let t = waiting_cell c.opening c s.counts r h.address lt (at_in (c.part r).waiting h i) in (t.0, (t.1, t.3), t.2)

  pub waiting_alive : In h (c.part r).waiting → (book c.opening.formula c.journal).clause h.number ≡ Some h.lits
  waiting_alive i = copy_alive c h s (waiting_copy i)

pub slot_open : (c : State) (k : ℕ) → Sound c → k < slots c.opening → c.slot k ≢ 0 → (x : Cell) × IsOpenCell c (c.slot k) x × (0 < x.count)
slot_open c k s lt nz = let t = slot_cell c.opening c s.counts k lt nz in (t.0, (t.1, t.3), t.2)

pub count_most : (c : State) (a : ℕ) → Sound c → count_at (c.cell a) ≤ RULER_RING * (MAX_SHARES + 1)
count_most c a s =
    let few = s.opens.few_rings in
    let b = s.counts.bounded a in
    let m = below_most c.opening.rings (2 ^ 56) (λ r. (c.part r).shared) (λ r. s.counts.few r) in
    omega arith
