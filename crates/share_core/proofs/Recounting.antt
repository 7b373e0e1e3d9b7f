-- Opening a cell, sharing it and dropping a count keep the state sound.
use Rattle.std.proofs.Common.{◌≡◌, ◌≢◌, ◌⊎◌, ℕ, ◌+◌, ◌-◌, ◌<◌, ◌≤◌, ◌==◌, Bool, true, false, cond, List, [], ◌∷◌, ◌++◌, map, length, All, Option, Some, None, refl, sym, ap, ◌∙◌, subst, inl, inr, ⊎_elim, arith, eq-eqb, ne_eqb}
use mathlib.Core.Logic.{dite}
use native.Mathlib.Decide.{ℕ_discrete}
use Rattle.sat_words.specs.Literal.{Literal}
use Rattle.rup_model.specs.Basics.{put, one_if}
use Rattle.rup_model.specs.Journal.{book, is_ring, learned}
use Rattle.rup_model.proofs.Sums.{at_put}
use Rattle.share_core.specs.declared.event.Event.TheVariants.{OpenCell, Share, DropCount}
use Rattle.share_core.specs.declared.stored.ClauseAt.{ClauseAt}
use Rattle.share_core.specs.declared.stored.Cell.{Cell}
use Rattle.share_core.specs.State.{times_at, without_at, Placed, Part, State, count_at, maker_at, clause_at}
use Rattle.share_core.specs.Enabled.{IsEnabled}
use Rattle.share_core.specs.Events.{with_count, recounted, opened_part, shared_part, dropped_part, after}
use Rattle.share_core.specs.Sound.{idle_at, Counts, IsCopy, CopiesSound, CellsSound, Sound}
use Rattle.share_core.proofs.ClauseLists.{at_without, at_both, at_fewer, at_here, at_else, at_more, all_last, all_more, all_without}
use Rattle.share_core.proofs.Counting.{some_same, none_some, cell_cases, not_made, made_by, made_else, is_made, idle_made, idle_held, held_counted, held_cell, starts_kept}
use Rattle.share_core.proofs.Copies.{Keeps, lift, copies_all}
use Rattle.share_core.proofs.Slots.{puts_same, slots_kept}
use Rattle.share_core.proofs.Own.{owned_same}
use Rattle.share_core.proofs.Whole.{whole_kept}
use Rattle.share_core.proofs.Frames.{cells_kept, part_moves, same_here, same_else, HasSeen, has_seen, units_part, clause_is}
use Rattle.share_core.proofs.Tickets.{tickets_put}

with_count_of : (n : ℕ) (q : Option Cell) (x : Cell) → with_count n q ≡ Some x → (y : Cell) × (q ≡ Some y) × (y.number ≡ x.number) × (y.lits ≡ x.lits) × (x.count ≡ n) × (x.maker ≡ None)
with_count_of n None x h = absurd (none_some x h)
with_count_of n (Some y) x h = let z : Cell = record { lits = y.lits; number = y.number; count = n; maker = None } in
    let e : z ≡ x = some_same z x h in
    (y, refl, ap (λ (q : Cell). q.number) e, ap (λ (q : Cell). q.lits) e, sym (ap (λ (q : Cell). q.count) e), sym (ap (λ (q : Cell). q.maker) e))

-- A cell with another count

module _ (c : State) (s : Sound c) (a n : ℕ) where
  making : (i : ℕ) (x : Cell) (m : ℕ) → put c.cell a (with_count n (c.cell a)) i ≡ Some x → x.maker ≡ Some m → (x.count ≡ 0) × (m < c.opening.rings)
  making i x m = at_put c.cell a (with_count n (c.cell a)) (λ (q : Option Cell). q ≡ Some x → x.maker ≡ Some m → (x.count ≡ 0) × (m < c.opening.rings)) i
      (λ e is mk. absurd (none_some m (sym (with_count_of n (c.cell a) x is).5 ∙ mk)))
      (λ ne is mk. s.counts.making i x m is mk)

  nowhere : put c.cell a (with_count n (c.cell a)) 0 ≡ None
  nowhere = at_put c.cell a (with_count n (c.cell a)) (λ (q : Option Cell). q ≡ None) 0
      (λ e. ap (with_count n) (ap c.cell (sym e) ∙ s.counts.nowhere))
      (λ ne. s.counts.nowhere)

  cells : CellsSound (book c.opening.formula c.journal) (put c.cell a (with_count n (c.cell a)))
  cells = cells_kept (book c.opening.formula c.journal) (book c.opening.formula c.journal) c.cell (put c.cell a (with_count n (c.cell a))) s.cells
      (λ i x. at_put c.cell a (with_count n (c.cell a)) (λ (q : Option Cell). q ≡ Some x → (y : Cell) × (c.cell i ≡ Some y) × (y.number ≡ x.number) × (y.lits ≡ x.lits) × ((book c.opening.formula c.journal).clause x.number ≡ (book c.opening.formula c.journal).clause x.number)) i
      (λ e is. (let t = with_count_of n (c.cell a) x is in (t.0, ap c.cell e ∙ t.1, t.2, t.3, refl)))
      (λ ne is. (x, is, refl, refl, refl)))

  starts : (i : ℕ) (x : Cell) → c.cell i ≡ Some x → x.maker ≡ None → (y : Cell) × (put c.cell a (with_count n (c.cell a)) i ≡ Some y) × (y.maker ≡ None) × (y.number ≡ x.number) × (y.lits ≡ x.lits)
  starts i x is m = at_put c.cell a (with_count n (c.cell a)) (λ (q : Option Cell). (y : Cell) × (q ≡ Some y) × (y.maker ≡ None) × (y.number ≡ x.number) × (y.lits ≡ x.lits)) i
      (λ e. (record { lits = x.lits; number = x.number; count = n; maker = None }, ap (with_count n) (ap c.cell (sym e) ∙ is), refl, refl, refl))
      (λ ne. (x, is, m, refl, refl))

  keeps : (i : ℕ) → Keeps c.cell (put c.cell a (with_count n (c.cell a))) i
  keeps i x is = at_put c.cell a (with_count n (c.cell a)) (λ (q : Option Cell). (y : Cell) × (q ≡ Some y) × (y.number ≡ x.number) × (y.lits ≡ x.lits)) i
      (λ e. (record { lits = x.lits; number = x.number; count = n; maker = None }, ap (with_count n) (ap c.cell (sym e) ∙ is), refl, refl))
      (λ ne. (x, is, refl, refl))

  module _ (x : Cell) (is : c.cell a ≡ Some x) where
    count : (b : ℕ) (P : ℕ → Type 0) → (b ≡ a → P n) → (b ≢ a → P (count_at (c.cell b))) → P (count_at (put c.cell a (with_count n (c.cell a)) b))
    count b P hit miss = at_put c.cell a (with_count n (c.cell a)) (λ (q : Option Cell). P (count_at q)) b
        (λ e. subst P (sym (ap (λ (q : Option Cell). count_at (with_count n q)) is)) (hit e))
        miss

    idle : (b : ℕ) (P : ℕ → Type 0) → (b ≡ a → P (one_if (n == 0))) → (b ≢ a → P (idle_at (c.cell b))) → P (idle_at (put c.cell a (with_count n (c.cell a)) b))
    idle b P hit miss = at_put c.cell a (with_count n (c.cell a)) (λ (q : Option Cell). P (idle_at q)) b
        (λ e. subst P (sym (ap (λ (q : Option Cell). idle_at (with_count n q)) is)) (hit e))
        miss

    maker : x.maker ≡ None → (b : ℕ) → maker_at (put c.cell a (with_count n (c.cell a)) b) ≡ maker_at (c.cell b)
    maker z b = at_put c.cell a (with_count n (c.cell a)) (λ (q : Option Cell). maker_at q ≡ maker_at (c.cell b)) b
        (λ e. ap (λ (q : Option Cell). maker_at (with_count n q)) is ∙ sym (ap maker_at (ap c.cell e ∙ is) ∙ z))
        (λ ne. refl)

  -- all but the counts and the copies
  recounts : (r : ℕ) (p : Part) → p.puts ≡ (c.part r).puts → p.wrote ≡ (c.part r).wrote → p.seen ≡ (c.part r).seen → p.numbers ≡ (c.part r).numbers → p.ticket ≡ (c.part r).ticket → p.found ≡ (c.part r).found
      → Counts c.opening (recounted c r a n p) → CopiesSound c.opening.rings (put c.cell a (with_count n (c.cell a))) (put c.part r p) → Sound (recounted c r a n p)
  recounts r p puts wrote seen numbers ticket found counts copies =
      let d : State = recounted c r a n p in
      record {
        opens = s.opens;
        counts = counts;
        starts = starts_kept c.opening c d s.opens s.counts s.starts (λ i h. h) (λ i y k z _. starts i y k z);
        copies = copies;
        cells = cells;
        whole = whole_kept c.opening c.journal c.cell (put c.cell a (with_count n (c.cell a))) s.whole keeps;
        slots = slots_kept c.opening c d s.slots refl (puts_same c r p puts);
        log = s.log;
        entries = owned_same c.opening c r p s.entries wrote;
        freshness = s.freshness;
        units = units_part c r p s (subst (λ (us : List Literal). HasSeen c us p.numbers) (sym seen) (subst (HasSeen c (c.part r).seen) (sym numbers) (has_seen c r s)));
        turns = s.turns;
        stops = s.stops;
        tickets = tickets_put c.opening c.drawn c.part r p s.tickets (λ j. length (learned r (map (λ (q : Placed). q.entry) (wrote j))) + one_if (ticket j)) found (λ t. sym ticket ∙ t);
      }

  copies : (r : ℕ) (p : Part) → r < c.opening.rings → All (IsCopy c.cell) p.making
      → All (IsCopy (put c.cell a (with_count n (c.cell a)))) p.held → All (IsCopy (put c.cell a (with_count n (c.cell a)))) p.waiting
      → CopiesSound c.opening.rings (put c.cell a (with_count n (c.cell a))) (put c.part r p)
  copies r p lt making held waiting = copies_all c.opening.rings c.cell (put c.cell a (with_count n (c.cell a))) c.part r p s.copies keeps held
      (lift c.cell (put c.cell a (with_count n (c.cell a))) p.making (λ y _. keeps y.address) making) waiting

  lifted : (hs : List ClauseAt) → All (IsCopy c.cell) hs → All (IsCopy (put c.cell a (with_count n (c.cell a)))) hs
  lifted hs h = lift c.cell (put c.cell a (with_count n (c.cell a))) hs (λ y _. keeps y.address) h

pub opens_cell : (c : State) (r a : ℕ) → Sound c → IsEnabled c (OpenCell r a) → Sound (after c (OpenCell r a))
opens_cell c r a s e =
    let d : State = after c (OpenCell r a) in
    let h : ClauseAt = clause_at c a in
    let p : Part = opened_part h (c.part r) in
    let lt = e.0 in
    let made = s.counts.makes r a lt in
    let mine : maker_at (c.cell a) ≡ Some r = is_made r (maker_at (c.cell a)) (let some = e.1 in omega arith) in
    let there : (x : Cell) × (c.cell a ≡ Some x) = ⊎_elim (λ (q : c.cell a ≡ None). absurd (none_some r (sym (ap maker_at q) ∙ mine))) (λ (t : (x : Cell) × (c.cell a ≡ Some x)). t) (cell_cases (c.cell a)) in
    let x : Cell = there.0 in
    let is : c.cell a ≡ Some x = there.1 in
    let maker_is : x.maker ≡ Some r = sym (ap maker_at is) ∙ mine in
    let mk = s.counts.making a x r is maker_is in
    let count_old : count_at (c.cell a) ≡ 0 = ap count_at is ∙ mk.0 in
    let idle_old : idle_at (c.cell a) ≡ 0 = ap idle_at is ∙ idle_made x r maker_is in
    let nz_a : a ≢ 0 = λ q. none_some x (sym s.counts.nowhere ∙ ap c.cell (sym q) ∙ is) in
    let maker_new : maker_at (with_count 1 (c.cell a)) ≡ None = ap (λ (q : Option Cell). maker_at (with_count 1 q)) is in
    recounts c s a 1 r p refl refl refl refl refl refl
    (part_moves c d r p s lt refl refl refl
    (λ i nz. count c s a 1 x is i (λ q. q + times_at i (c.part r).held ≡ count_at (c.cell i) + times_at i ((c.part r).held ++ h ∷ []))
    (λ q. let m = at_both i (c.part r).held (h ∷ []) in let k : count_at (c.cell i) ≡ count_at (c.cell a) = ap (λ j. count_at (c.cell j)) q in let u = at_here h i (sym q) in omega arith)
    (λ ne. let m = at_both i (c.part r).held (h ∷ []) in let u = at_else h i (λ q. ne (sym q)) in omega arith))
    (λ i. idle c s a 1 x is i (λ q. q + times_at i (c.part r).waiting ≡ idle_at (c.cell i) + times_at i (c.part r).waiting)
    (λ q. let k : idle_at (c.cell i) ≡ idle_at (c.cell a) = ap (λ j. idle_at (c.cell j)) q in omega arith)
    (λ ne. refl))
    (making c s a 1)
    (λ i. let w0 = at_without a i (c.part r).making e.1 in let k0 = s.counts.makes r i lt in at_put c.cell a (with_count 1 (c.cell a)) (λ (q : Option Cell). times_at i (without_at a (c.part r).making) ≡ one_if (is_ring r (maker_at q))) i
    (λ q. let u : one_if (a == i) ≡ 1 = ap one_if (eq-eqb a i (sym q)) in
    let z = not_made r (maker_at (with_count 1 (c.cell a))) maker_new in
    let v : one_if (is_ring r (maker_at (c.cell i))) ≡ 1 = (λ j. one_if (is_ring r (maker_at (c.cell (q j))))) ∙ made_by r (maker_at (c.cell a)) mine in omega arith)
    (λ ne. let u : one_if (a == i) ≡ 0 = ap one_if (ne_eqb a i (λ q. ne (sym q))) in omega arith))
    (λ i k ne. at_put c.cell a (with_count 1 (c.cell a)) (λ (q : Option Cell). one_if (is_ring i (maker_at q)) ≡ one_if (is_ring i (maker_at (c.cell k)))) k
    (λ q. not_made i (maker_at (with_count 1 (c.cell a))) maker_new ∙ sym ((λ j. one_if (is_ring i (maker_at (c.cell (q j))))) ∙ made_else r i (maker_at (c.cell a)) mine ne))
    (λ _. refl))
    (nowhere c s a 1)
    (let u = at_else h 0 nz_a in let m = at_both 0 (c.part r).held (h ∷ []) in let z = s.counts.addresses r in omega arith)
    (s.counts.few r)
    (λ i. count c s a 1 x is i (λ q. (q ≤ c.opening.rings) ⊎ (q + (c.part r).shared ≤ count_at (c.cell i) + (c.part r).shared)) (λ _. inl s.opens.some_ring) (λ _. inr (omega arith)))
    (s.counts.named r))
    (copies c s a 1 r p lt (all_without (IsCopy c.cell) a (c.part r).making (s.copies.making r lt))
    (all_last (IsCopy (put c.cell a (with_count 1 (c.cell a)))) (c.part r).held h (lifted c s a 1 (c.part r).held (s.copies.held r lt)) (clause_is c a x (put c.cell a (with_count 1 (c.cell a))) is (keeps c s a 1)))
    (lifted c s a 1 (c.part r).waiting (s.copies.waiting r lt)))

pub shares : (c : State) (r a : ℕ) → Sound c → IsEnabled c (Share r a) → Sound (after c (Share r a))
shares c r a s e =
    let d : State = after c (Share r a) in
    let n : ℕ = count_at (c.cell a) + 1 in
    let h : ClauseAt = clause_at c a in
    let p : Part = shared_part h (c.part r) in
    let lt = e.0 in
    let t = held_cell c.opening c s.counts r a lt e.1 in
    let x : Cell = t.0 in
    let is : c.cell a ≡ Some x = t.1 in
    let nz_a = (held_counted c.opening c s.counts r a lt e.1).0 in
    let pos = (held_counted c.opening c s.counts r a lt e.1).1 in
    let count_old : count_at (c.cell a) ≡ x.count = ap count_at is in
    let count_pos : 0 < x.count = let q = t.2 in omega arith in
    let idle_old : idle_at (c.cell a) ≡ 0 = ap idle_at is ∙ idle_held x.maker x.count (λ q. omega arith) in
    let idle_new : one_if (n == 0) ≡ 0 = ap one_if (ne_eqb n 0 (λ q. omega arith)) in
    recounts c s a n r p refl refl refl refl refl refl
    (part_moves c d r p s lt refl refl refl
    (λ i nz. count c s a n x is i (λ q. q + times_at i (c.part r).held ≡ count_at (c.cell i) + times_at i ((c.part r).held ++ h ∷ []))
    (λ q. let m = at_both i (c.part r).held (h ∷ []) in let k : count_at (c.cell i) ≡ count_at (c.cell a) = ap (λ j. count_at (c.cell j)) q in let u = at_here h i (sym q) in omega arith)
    (λ ne. let m = at_both i (c.part r).held (h ∷ []) in let u = at_else h i (λ q. ne (sym q)) in omega arith))
    (λ i. idle c s a n x is i (λ q. q + times_at i (c.part r).waiting ≡ idle_at (c.cell i) + times_at i (c.part r).waiting)
    (λ q. let k : idle_at (c.cell i) ≡ idle_at (c.cell a) = ap (λ j. idle_at (c.cell j)) q in omega arith)
    (λ ne. refl))
    (making c s a n) (same_here c d r s lt (maker c s a n x is t.3)) (same_else c d r (maker c s a n x is t.3)) (nowhere c s a n)
    (let u = at_else h 0 nz_a in let m = at_both 0 (c.part r).held (h ∷ []) in let z = s.counts.addresses r in omega arith)
    (let q = e.2 in omega arith)
    (λ i. count c s a n x is i (λ q. (q ≤ c.opening.rings) ⊎ (q + (c.part r).shared ≤ count_at (c.cell i) + ((c.part r).shared + 1)))
    (λ q. let k : count_at (c.cell i) ≡ count_at (c.cell a) = ap (λ j. count_at (c.cell j)) q in inr (omega arith)) (λ _. inr (omega arith)))
    (s.counts.named r))
    (copies c s a n r p lt (s.copies.making r lt)
    (all_last (IsCopy (put c.cell a (with_count n (c.cell a)))) (c.part r).held h (lifted c s a n (c.part r).held (s.copies.held r lt)) (clause_is c a x (put c.cell a (with_count n (c.cell a))) is (keeps c s a n)))
    (lifted c s a n (c.part r).waiting (s.copies.waiting r lt)))

both_zero : (b : Bool) → ◌≡◌ {A = ℕ} (cond b 0 0) 0
both_zero true = refl
both_zero false = refl

pub drops : (c : State) (r a : ℕ) → Sound c → IsEnabled c (DropCount r a) → Sound (after c (DropCount r a))
drops c r a s e =
    let d : State = after c (DropCount r a) in
    let found : ℕ = count_at (c.cell a) in
    let n : ℕ = found - 1 in
    let h : ClauseAt = clause_at c a in
    let p : Part = dropped_part h found (c.part r) in
    let lt = e.0 in
    let t = held_cell c.opening c s.counts r a lt e.1 in
    let x : Cell = t.0 in
    let is : c.cell a ≡ Some x = t.1 in
    let pos = (held_counted c.opening c s.counts r a lt e.1).1 in
    let count_old : found ≡ x.count = ap count_at is in
    let count_pos : 0 < x.count = let q = t.2 in omega arith in
    let idle_old : idle_at (c.cell a) ≡ 0 = ap idle_at is ∙ idle_held x.maker x.count (λ q. omega arith) in
    let waits_now : (i : ℕ) → times_at i p.waiting ≡ times_at i (c.part r).waiting + cond (found == 1) (one_if (a == i)) 0 = λ i. at_more (found == 1) i h (c.part r).waiting in
    let idle_new : one_if (n == 0) ≡ one_if (found == 1) = dite (ℕ_discrete found 1)
    (λ q. ap one_if (eq-eqb n 0 (let z : found ≡ 1 = q in omega arith)) ∙ sym (ap one_if (eq-eqb found 1 q)))
    (λ q. ap one_if (ne_eqb n 0 (λ z. q (omega arith))) ∙ sym (ap one_if (ne_eqb found 1 q))) in
    recounts c s a n r p refl refl refl refl refl refl
    (part_moves c d r p s lt refl refl refl
    (λ i nz. let tw = at_without a i (c.part r).held e.1 in count c s a n x is i (λ q. q + times_at i (c.part r).held ≡ count_at (c.cell i) + times_at i (without_at a (c.part r).held))
    (λ q. let k : count_at (c.cell i) ≡ count_at (c.cell a) = ap (λ j. count_at (c.cell j)) q in let u : one_if (a == i) ≡ 1 = ap one_if (eq-eqb a i (sym q)) in omega arith)
    (λ ne. let u : one_if (a == i) ≡ 0 = ap one_if (ne_eqb a i (λ q. ne (sym q))) in omega arith))
    (λ i. let wn = waits_now i in idle c s a n x is i (λ q. q + times_at i (c.part r).waiting ≡ idle_at (c.cell i) + times_at i p.waiting)
    (λ q. let k : idle_at (c.cell i) ≡ idle_at (c.cell a) = ap (λ j. idle_at (c.cell j)) q in
    let u : cond (found == 1) (one_if (a == i)) 0 ≡ one_if (found == 1) = ap (λ (z : ℕ). cond (found == 1) z 0) (ap one_if (eq-eqb a i (sym q))) in omega arith)
    (λ ne. let u : cond (found == 1) (one_if (a == i)) 0 ≡ 0 = ap (λ (z : ℕ). cond (found == 1) z 0) (ap one_if (ne_eqb a i (λ q. ne (sym q)))) ∙ both_zero (found == 1) in omega arith))
    (making c s a n) (same_here c d r s lt (maker c s a n x is t.3)) (same_else c d r (maker c s a n x is t.3)) (nowhere c s a n)
    (let z = s.counts.addresses r in let y = at_fewer a 0 (c.part r).held in omega arith)
    (s.counts.few r)
    (λ i. count c s a n x is i (λ q. (q ≤ c.opening.rings) ⊎ (q + (c.part r).shared ≤ count_at (c.cell i) + (c.part r).shared))
    (λ q. let k : count_at (c.cell i) ≡ count_at (c.cell a) = ap (λ j. count_at (c.cell j)) q in inr (omega arith)) (λ _. inr (omega arith)))
    (s.counts.named r))
    (copies c s a n r p lt (s.copies.making r lt)
    (lifted c s a n (without_at a (c.part r).held) (all_without (IsCopy c.cell) a (c.part r).held (s.copies.held r lt)))
    (all_more (IsCopy (put c.cell a (with_count n (c.cell a)))) (found == 1) h (c.part r).waiting (lifted c s a n (c.part r).waiting (s.copies.waiting r lt)) (clause_is c a x (put c.cell a (with_count n (c.cell a))) is (keeps c s a n))))
