-- A deletion keeps the state sound.
use Rattle.std.proofs.Common.{◌≡◌, ◌≢◌, ◌⊎◌, ℕ, ◌+◌, ◌<◌, ◌≤◌, ◌==◌, [], ◌∷◌, length, All, Option, Some, None, refl, sym, ap, ◌∙◌, subst, inl, inr, arith, eq-eqb, ne_eqb}
use Rattle.sat_words.specs.Literal.{Literal}
use Rattle.rup_model.specs.declared.journal.Entry.TheVariants.{Del}
use Rattle.rup_model.specs.Basics.{put, one_if}
use Rattle.rup_model.specs.Journal.{Book, book_after, book}
use Rattle.rup_model.proofs.Sums.{at_put, put_else, below_at}
use Rattle.rup_model.proofs.Units.{long_two}
use Rattle.rup_model.proofs.Numbers.{book_last}
use Rattle.rup_model.proofs.JournalSteps.{not_added, log_dels}
use Rattle.share_core.specs.declared.event.Event.TheVariants.{Bury}
use Rattle.share_core.specs.declared.stored.Cell.{Cell}
use Rattle.share_core.specs.State.{times_at, without_at, Part, State, count_at, number_at, maker_at}
use Rattle.share_core.specs.Enabled.{IsEnabled}
use Rattle.share_core.specs.Events.{buried_part, after}
use Rattle.share_core.specs.Sound.{reach, counted, idle_at, IsCopy, CellsSound, Sound}
use Rattle.share_core.proofs.ClauseLists.{at_without, all_without}
use Rattle.share_core.proofs.Counting.{some_same, none_some, not_made, idle_open, waiting_cell, starts_kept}
use Rattle.share_core.proofs.Copies.{Keeps, lift_without, below_two}
use Rattle.share_core.proofs.Slots.{puts_same, slots_kept}
use Rattle.share_core.proofs.Own.{owned_more}
use Rattle.share_core.proofs.Whole.{whole_buried}
use Rattle.share_core.proofs.Frames.{journal_more, fresh_more, stop_more, cells_kept, part_moves, same_here, same_else, has_seen, units_written}
use Rattle.share_core.proofs.Tickets.{tickets_noted}

pub buries : (c : State) (r a : ℕ) → Sound c → IsEnabled c (Bury r a) → Sound (after c (Bury r a))
buries c r a s e =
    let J = c.journal in
    let F = c.opening.formula in
    let R : ℕ = c.opening.rings in
    let b : Book = book F J in
    let d : State = after c (Bury r a) in
    let lt = e.0 in
    let w = e.1 in
    let t = waiting_cell c.opening c s.counts r a lt e.2 in
    let x : Cell = t.0 in
    let is : c.cell a ≡ Some x = t.1 in
    let n : ℕ = number_at (c.cell a) in
    let p : Part = buried_part a (length J) (Del r n) (c.part r) in
    let n_is : n ≡ x.number = ap number_at is in
    let none : Option Cell = None in
    let f' : ℕ → Option Cell = put c.cell a none in
    let count_old : count_at (c.cell a) ≡ 0 = ap count_at is ∙ t.2 in
    let idle_old : idle_at (c.cell a) ≡ 1 = ap idle_at is ∙ idle_open x t.3 ∙ ap one_if (eq-eqb x.count 0 t.2) in
    let maker_old : maker_at (c.cell a) ≡ None = ap maker_at is ∙ t.3 in
    let gone_maker : (i : ℕ) → maker_at (f' i) ≡ maker_at (c.cell i) = λ i. at_put c.cell a none (λ (q : Option Cell). maker_at q ≡ maker_at (c.cell i)) i (λ h. sym (ap (λ k. maker_at (c.cell k)) h ∙ maker_old)) (λ _. refl) in
    let keep : (i : ℕ) → i ≢ a → Keeps c.cell f' i = λ i ne y k. (y, put_else c.cell a none i ne ∙ k, refl, refl) in
    let apart : (i : ℕ) (y : Cell) → c.cell i ≡ Some y → 0 < y.count → i ≢ a = λ i y k pos h. let same_y : x ≡ y = some_same x y (sym is ∙ ap c.cell (sym h) ∙ k) in let q : x.count ≡ y.count = ap (λ (v : Cell). v.count) same_y in let z0 = t.2 in omega arith in
    let nz_a : a ≢ 0 = λ h. none_some x (sym s.counts.nowhere ∙ ap c.cell (sym h) ∙ is) in
    let zero_counted : counted c.opening c a ≡ 0 = sym (s.counts.counts a nz_a) ∙ count_old in
    let no_held : (i : ℕ) → i < R → times_at a (c.part i).held ≡ 0 = λ i it. let le = below_at R i (λ k. reach c.opening (c.granted k) (c.part k).held a) it in omega arith in
    let no_making : (i : ℕ) → i < R → times_at a (c.part i).making ≡ 0 = λ i it. s.counts.makes i a it ∙ not_made i (maker_at (c.cell a)) maker_old in
    let total = s.counts.waits a in
    let no_waiting : (i : ℕ) → i < R → i ≢ r → times_at a (c.part i).waiting ≡ 0 = λ i it ne. let le = below_two R i r (λ k. times_at a (c.part k).waiting) it lt ne in let some = e.2 in omega arith in
    let last : times_at a (without_at a (c.part r).waiting) ≡ 0 = let le = below_at R r (λ k. times_at a (c.part k).waiting) lt in let w0 = at_without a a (c.part r).waiting e.2 in let u : one_if (a == a) ≡ 1 = ap one_if (eq-eqb a a refl) in omega arith in
    let alive_n : b.clause n ≡ Some x.lits = ap b.clause n_is ∙ s.cells.alive a x is in
    let not_unit : (l : Literal) → (l ∷ []) ≡ x.lits → ⊥ = λ l q. let two = (s.cells.shape a x is).long in let one : 1 ≡ length x.lits = ap length q in omega arith in
    record {
      opens = s.opens;
      counts = part_moves c d r p s lt refl refl refl
          (λ i nz. at_put c.cell a none (λ (q : Option Cell). count_at q + times_at i (c.part r).held ≡ count_at (c.cell i) + times_at i (c.part r).held) i (λ h. let q : count_at (c.cell i) ≡ count_at (c.cell a) = ap (λ k. count_at (c.cell k)) h in omega arith) (λ _. refl))
          (λ i. let tw = at_without a i (c.part r).waiting e.2 in
          at_put c.cell a none (λ (q : Option Cell). idle_at q + times_at i (c.part r).waiting ≡ idle_at (c.cell i) + times_at i (without_at a (c.part r).waiting)) i
          (λ h. let q : idle_at (c.cell i) ≡ idle_at (c.cell a) = ap (λ k. idle_at (c.cell k)) h in let u : one_if (a == i) ≡ 1 = ap one_if (eq-eqb a i (sym h)) in omega arith)
          (λ ne. let u : one_if (a == i) ≡ 0 = ap one_if (ne_eqb a i (λ h. ne (sym h))) in omega arith))
          (λ i y m. at_put c.cell a none (λ (q : Option Cell). q ≡ Some y → y.maker ≡ Some m → (y.count ≡ 0) × (m < R)) i (λ h k mk. absurd (none_some y k)) (λ ne k mk. s.counts.making i y m k mk))
          (same_here c d r s lt gone_maker) (same_else c d r gone_maker)
          (at_put c.cell a none (λ (q : Option Cell). q ≡ None) 0 (λ _. refl) (λ _. s.counts.nowhere))
          (s.counts.addresses r) (s.counts.few r)
          (λ i. at_put c.cell a none (λ (q : Option Cell). (count_at q ≤ R) ⊎ (count_at q + (c.part r).shared ≤ count_at (c.cell i) + (c.part r).shared)) i (λ _. inl (omega arith)) (λ _. inr (omega arith)))
          (s.counts.named r);
      starts = starts_kept c.opening c d s.opens s.counts s.starts (λ i h. h) (λ i y k z pos. (y, put_else c.cell a none i (apart i y k pos) ∙ k, z, refl, refl));
      copies = record {
        held = λ i it. at_put c.part r p (λ (q : Part). All (IsCopy f') q.held) i (λ _. lift_without c.cell f' a (c.part r).held (no_held r lt) keep (s.copies.held r lt)) (λ _. lift_without c.cell f' a (c.part i).held (no_held i it) keep (s.copies.held i it));
        making = λ i it. at_put c.part r p (λ (q : Part). All (IsCopy f') q.making) i (λ _. lift_without c.cell f' a (c.part r).making (no_making r lt) keep (s.copies.making r lt)) (λ _. lift_without c.cell f' a (c.part i).making (no_making i it) keep (s.copies.making i it));
        waiting = λ i it. at_put c.part r p (λ (q : Part). All (IsCopy f') q.waiting) i
            (λ _. lift_without c.cell f' a (without_at a (c.part r).waiting) last keep (all_without (IsCopy c.cell) a (c.part r).waiting (s.copies.waiting r lt)))
            (λ ne. lift_without c.cell f' a (c.part i).waiting (no_waiting i it ne) keep (s.copies.waiting i it));
      };
      cells = subst (λ (q : Book). CellsSound q f') (sym (book_last F J (Del r n))) (cells_kept b (book_after b (Del r n)) c.cell f' s.cells
          (λ i y. at_put c.cell a none (λ (q : Option Cell). q ≡ Some y → (z : Cell) × (c.cell i ≡ Some z) × (z.number ≡ y.number) × (z.lits ≡ y.lits) × ((book_after b (Del r n)).clause y.number ≡ b.clause y.number)) i
          (λ h k. absurd (none_some y k))
          (λ ne k. (y, k, refl, refl, put_else b.clause n None y.number (λ q. ne (s.cells.own i a y x k is (q ∙ n_is)))))));
      whole = whole_buried c.opening J c.cell r a n x s.whole is n_is;
      slots = slots_kept c.opening c d s.slots refl (puts_same c r p refl);
      log = journal_more c.opening J (Del r n) s.log (log_dels F J s.log.log r n x.lits alive_n (long_two x.lits (s.cells.shape a x is)) (not_added F J w.going)) w.room lt (λ _. tt);
      entries = owned_more c.opening c r (Del r n) p s.entries refl refl;
      freshness = fresh_more c.opening J (Del r n) s.log s.freshness tt tt;
      units = units_written c r p (Del r n) s (λ m l k. put_else b.clause n None m (λ q. not_unit l (some_same (l ∷ []) x.lits (sym k ∙ ap b.clause q ∙ alive_n))) ∙ k) (has_seen c r s);
      turns = s.turns;
      stops = stop_more F J R c.stop (Del r n) s.stops;
      tickets = tickets_noted c.opening c.drawn c.part r p s.tickets (length J) (Del r n) refl refl refl refl;
    }
