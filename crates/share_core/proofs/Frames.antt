-- What an event leaves sound if it does not touch it.
use Rattle.std.proofs.Common.{◌≡◌, ◌≢◌, ◌⊎◌, ℕ, ◌+◌, ◌<◌, ◌≤◌, ◌==◌, Bool, true, false, List, [], ◌∷◌, ◌++◌, length, map, All, Option, Some, None, refl, sym, ap, ◌∙◌, subst, inr, ⊎_elim, arith, append_assoc, length-append}
use mathlib.Core.Path.{Path}
use Rattle.sat_words.specs.Literal.{Literal, opposite}
use Rattle.sat_words.specs.Clause.{has, same_set}
use Rattle.rup_model.specs.declared.journal.Entry.{Entry}
use Rattle.rup_model.specs.Basics.{put, EachAfter, one_if}
use Rattle.rup_model.specs.Rup.{rup}
use Rattle.rup_model.specs.Log.{alive}
use Rattle.rup_model.specs.Journal.{ring_of, Book, book_after, book, lines, LogSound, is_ring, IsFresh, IsSpaced}
use Rattle.std.specs.List.{zip}
use Rattle.std.proofs.lemmas.Bool.{and_parts}
use Rattle.std.proofs.lemmas.List.{drop_all, drop-append-le}
use Rattle.rup_model.specs.Opening.{IsLong, start_clauses}
use Rattle.rup_model.specs.Hints.{numbered, hinted}
use Rattle.rup_model.specs.NumberedLines.{IsHinted}
use Rattle.rup_model.proofs.Hinting.{follows as hinted_rup, over_more}
use Rattle.rup_model.proofs.Lists.{In, In_has, In_append, In_append_left, In_map, map_In, In_Contains}
use Rattle.rup_model.proofs.Sums.{at_put, put_here, put_else}
use Rattle.rup_model.proofs.Sequences.{each_last}
use Rattle.rup_model.proofs.Covers.{same_self}
use Rattle.rup_model.proofs.Numbers.{clause_below, journal_matches, book_last, rup_alive_sets}
use Rattle.rup_model.proofs.Additions.{ended_more, told_more}
use Rattle.rup_model.proofs.Told.{told_alive}
use Rattle.sat_words.specs.declared.shared.TheConstants.{MAX_ENTRIES}
use Rattle.share_core.specs.declared.event.TheConstants.{MAX_SHARES}
use Rattle.share_core.specs.declared.event.Stop.{Stop}
use Rattle.share_core.specs.declared.stored.ClauseAt.{ClauseAt}
use Rattle.share_core.specs.declared.stored.Cell.{Cell}
use Rattle.share_core.specs.State.{times_at, CoreOpening, opening_of, later, ArePaired, Part, State, count_at, number_at, lits_at, maker_at, clause_at}
use Rattle.share_core.specs.Learning.{known, known_clauses, follows}
use Rattle.share_core.specs.Events.{noted}
use Rattle.share_core.specs.Sound.{idle_at, Counts, IsCopy, CopiesSound, CellsSound, SlotsSound, JournalSound, FreshSound, UnitsSound, StopSound, Sound}
use Rattle.share_core.proofs.ClauseLists.{all_in, all_last}
use Rattle.share_core.proofs.Counting.{counts_moved, slots_some}
use Rattle.share_core.proofs.Knowing.{numbered_in}
use Rattle.share_core.proofs.Pairs.{paired_stay, paired_front, paired_in}
use Rattle.share_core.proofs.Copies.{Keeps, keeps_same, copies_all}
use Rattle.share_core.proofs.Slots.{puts_same, slots_kept}

-- What a ring knows is alive

-- the units that it has seen have their numbers
pub seen_paired : (c : State) (r : ℕ) → Sound c → ArePaired (book c.opening.formula c.journal) (c.part r).seen (c.part r).numbers
seen_paired c r s =
    let us = s.units.seen r in
    let ns = s.units.numbered r in
    paired_front (book c.opening.formula c.journal) (c.part r).seen us.0 (c.part r).numbers ns.0
    (subst (λ (q : List ℕ). ArePaired (book c.opening.formula c.journal) ((c.part r).seen ++ us.0) q) ns.1 (subst (λ (q : List Literal). ArePaired (book c.opening.formula c.journal) q c.numbers) us.1 s.units.paired)) ns.2

-- each number that it knows names its clause
pub known_named : (c : State) (r : ℕ) → Sound c → r < c.opening.rings → (n : ℕ) (d : List Literal) → In (n, d) (known (c.part r)) → (book c.opening.formula c.journal).clause n ≡ Some d
known_named c r s lt n d k = ⊎_elim
    (λ (h : In (n, d) (map (λ (q : ClauseAt). (q.number, q.lits)) (c.part r).held)). (let t = map_In (λ (q : ClauseAt). (q.number, q.lits)) (c.part r).held (n, d) h in
    let x = all_in (IsCopy c.cell) (c.part r).held t.0 t.1 (s.copies.held r lt) in
    named (t.0.number, t.0.lits) t.2 (ap b.clause (sym x.2) ∙ s.cells.alive t.0.address x.0 x.1 ∙ ap (λ (q : List Literal). Some q) x.3)))
    (λ (h : In (n, d) (map (λ (u : Literal × ℕ). (u.1, u.0 ∷ [])) (zip (c.part r).seen (c.part r).numbers))). (let t = map_In (λ (u : Literal × ℕ). (u.1, u.0 ∷ [])) (zip (c.part r).seen (c.part r).numbers) (n, d) h in
    named (t.0.1, t.0.0 ∷ []) t.2 (paired_in b (c.part r).seen (c.part r).numbers t.0 (seen_paired c r s) t.1)))
    (In_append (map (λ (q : ClauseAt). (q.number, q.lits)) (c.part r).held) (map (λ (u : Literal × ℕ). (u.1, u.0 ∷ [])) (zip (c.part r).seen (c.part r).numbers)) (n, d) k)
  where
    b : Book
    b = book c.opening.formula c.journal

    named : (p : ℕ × List Literal) → p ≡ (n, d) → b.clause p.0 ≡ Some p.1 → b.clause n ≡ Some d
    named p e h = subst (λ (q : ℕ × List Literal). b.clause q.0 ≡ Some q.1) e h

known_alive : (c : State) (r : ℕ) → Sound c → r < c.opening.rings → (d : List Literal) → In d (known_clauses (c.part r))
    → (n : ℕ) × (e : List Literal) × ((book c.opening.formula c.journal).clause n ≡ Some e) × (same_set d e ≡ true)
known_alive c r s lt d k = ⊎_elim
    (λ (h : In d (map (λ (q : ClauseAt). q.lits) (c.part r).held)). (let t = map_In (λ (q : ClauseAt). q.lits) (c.part r).held d h in
    let x = all_in (IsCopy c.cell) (c.part r).held t.0 t.1 (s.copies.held r lt) in
    (x.0.number, d, s.cells.alive t.0.address x.0 x.1 ∙ ap (λ (q : List Literal). Some q) (x.3 ∙ t.2), same_self d)))
    (λ (h : In d (map (λ (l : Literal). l ∷ []) (c.part r).seen)). (let t = map_In (λ (l : Literal). l ∷ []) (c.part r).seen d h in
    let rest = s.units.seen r in
    let listed = s.units.told t.0 (ap (λ (q : List Literal). has q t.0) rest.1 ∙ In_has ((c.part r).seen ++ rest.0) t.0 (In_append_left (c.part r).seen rest.0 t.0 t.1)) in
    subst (λ (q : List Literal). (n : ℕ) × (e : List Literal) × ((book c.opening.formula c.journal).clause n ≡ Some e) × (same_set q e ≡ true)) t.2 (told_alive c.opening.formula c.journal t.0 s.log.log.fits listed)))
    (In_append (map (λ (q : ClauseAt). q.lits) (c.part r).held) (map (λ (l : Literal). l ∷ []) (c.part r).seen) d k)

-- what hints show over it, they show over all that is alive
pub follows_hinted : (c : State) (r : ℕ) (lits : List Literal) (hints : List ℕ) → Sound c → r < c.opening.rings → hinted (numbered (known (c.part r))) lits hints ≡ true → hinted (book c.opening.formula c.journal).clause lits hints ≡ true
follows_hinted c r lits hints s lt h = over_more (numbered (known (c.part r))) (book c.opening.formula c.journal).clause (λ n d is. known_named c r s lt n d (numbered_in (known (c.part r)) n d is)) hints (has (map opposite lits)) h

pub follows_alive : (c : State) (r : ℕ) (lits : List Literal) (hints : List ℕ) → Sound c → r < c.opening.rings → follows c.opening.hinted (c.part r) lits hints ≡ true
    → rup (alive c.opening.formula (lines c.opening.formula c.journal)) lits ≡ true
follows_alive c r lits hints s lt f = by c.opening.hinted f
  where
    b : Book
    b = book c.opening.formula c.journal

    all : List (List Literal)
    all = alive c.opening.formula (lines c.opening.formula c.journal)

    under : List (List Literal)
    under = map (λ (k : ℕ × List Literal). k.1) (known (c.part r))

    under_alive : (d : List Literal) → In d under → (n : ℕ) × (e : List Literal) × (b.clause n ≡ Some e) × (same_set d e ≡ true)
    under_alive d i = let t = map_In (λ (k : ℕ × List Literal). k.1) (known (c.part r)) d i in
        (t.0.0, d, known_named c r s lt t.0.0 t.0.1 t.1 ∙ ap (λ (q : List Literal). Some q) t.2, same_self d)

    by : (h : Bool) → follows h (c.part r) lits hints ≡ true → rup all lits ≡ true
    by true g = rup_alive_sets b all under lits (journal_matches c.opening.formula c.journal s.log.log.fits) under_alive
        (hinted_rup (numbered (known (c.part r))) under lits hints
        (λ n d is. In_Contains under d (In_map (λ (k : ℕ × List Literal). k.1) (known (c.part r)) (n, d) (numbered_in (known (c.part r)) n d is))) g)
    by false g = rup_alive_sets b all (known_clauses (c.part r)) lits (journal_matches c.opening.formula c.journal s.log.log.fits) (known_alive c r s lt) (and_parts (length hints == 0) (rup (known_clauses (c.part r)) lits) g).1

-- the hints of such an addition
pub adds_hinted : (c : State) (r : ℕ) (lits : List Literal) (hints : List ℕ) → Sound c → r < c.opening.rings → follows c.opening.hinted (c.part r) lits hints ≡ true → c.opening.hinted ≡ true
    → hinted (book c.opening.formula c.journal).clause lits hints ≡ true
adds_hinted c r lits hints s lt f h = follows_hinted c r lits hints s lt (subst (λ (b : Bool). follows b (c.part r) lits hints ≡ true) h f)

-- One more entry

-- each unit that has a number has it after the entry
abbrev pub KeepsUnits : Book → Entry → Type 0
KeepsUnits b e = (n : ℕ) (l : Literal) → b.clause n ≡ Some (l ∷ []) → (book_after b e).clause n ≡ Some (l ∷ [])

pub units_stay : (c : State) (e : Entry) → Sound c → ((n : ℕ) → n < (book c.opening.formula c.journal).next → (book_after (book c.opening.formula c.journal) e).clause n ≡ (book c.opening.formula c.journal).clause n)
    → KeepsUnits (book c.opening.formula c.journal) e
units_stay c e s same_low n l is = same_low n (clause_below (book c.opening.formula c.journal) (alive c.opening.formula (lines c.opening.formula c.journal)) n (l ∷ []) (journal_matches c.opening.formula c.journal s.log.log.fits) is) ∙ is

pub later_more : (o : CoreOpening) (J : List Entry) (e : Entry) → JournalSound o J → later o (J ++ e ∷ []) ≡ later o J ++ e ∷ []
later_more o J e h = drop-append-le (length o.journal) J (e ∷ []) (let n = ap (λ (K : List Entry). length K) h.begins.1 in let k = length-append o.journal h.begins.0 in omega arith)

-- the opening's journal and the entries after it
pub later_is : (o : CoreOpening) (J K : List Entry) → J ≡ o.journal ++ K → later o J ≡ K
later_is o J K e = ap (later o) e ∙ drop-append-le (length o.journal) o.journal K (omega arith) ∙ ap (λ (L : List Entry). L ++ K) (drop_all (length o.journal) o.journal (omega arith))

pub later_whole : (o : CoreOpening) (J : List Entry) → JournalSound o J → o.journal ++ later o J ≡ J
later_whole o J h = ap (λ (K : List Entry). o.journal ++ K) (later_is o J h.begins.0 h.begins.1) ∙ sym h.begins.1

pub journal_more : (o : CoreOpening) (J : List Entry) (e : Entry) → JournalSound o J → LogSound o.formula (J ++ e ∷ []) → length J < MAX_ENTRIES → ring_of e < o.rings → (o.hinted ≡ true → IsHinted o.formula J e)
    → JournalSound o (J ++ e ∷ [])
journal_more o J e h log room lt new = record {
  log = log;
  room = let q = length-append J (e ∷ []) in omega arith;
  begins = let b = h.begins in (b.0 ++ e ∷ [], ap (λ (K : List Entry). K ++ e ∷ []) b.1 ∙ append_assoc o.journal b.0 (e ∷ []), all_last (λ (x : Entry). ring_of x < o.rings) b.0 e b.2 lt);
  hints = λ is. subst (EachAfter (IsHinted o.formula) o.journal) (sym (later_more o J e h)) (each_last (IsHinted o.formula) o.journal (later o J) e (h.hints is) (subst (λ (K : List Entry). IsHinted o.formula K e) (sym (later_whole o J h)) (new is)));
}

fresh_last : (starts : List (List Literal)) (J : List Entry) (e : Entry) → FreshSound starts J → IsFresh starts J e → IsSpaced J e → FreshSound starts (J ++ e ∷ [])
fresh_last starts J e h f s = record {
  fresh = each_last (IsFresh starts) [] J e h.fresh f;
  spaced = each_last IsSpaced [] J e h.spaced s;
}

pub fresh_more : (o : CoreOpening) (J : List Entry) (e : Entry) → JournalSound o J → FreshSound (start_clauses (opening_of o)) (later o J) → IsFresh (start_clauses (opening_of o)) (later o J) e → IsSpaced (later o J) e → FreshSound (start_clauses (opening_of o)) (later o (J ++ e ∷ []))
fresh_more o J e log h f s = subst (FreshSound (start_clauses (opening_of o))) (sym (later_more o J e log)) (fresh_last (start_clauses (opening_of o)) (later o J) e h f s)

units_more : (F : List (List Literal)) (J : List Entry) (units : List Literal) (numbers : List ℕ) (part : ℕ → Part) (e : Entry) → KeepsUnits (book F J) e → UnitsSound F J units numbers part → UnitsSound F (J ++ e ∷ []) units numbers part
units_more F J units numbers part e keep h = record {
  paired = subst (λ (b : Book). ArePaired b units numbers) (sym (book_last F J e)) (paired_stay (book F J) (book_after (book F J) e) units numbers keep h.paired);
  told = λ l i. told_more F J (e ∷ []) l (h.told l i);
  distinct = h.distinct;
  seen = h.seen;
  numbered = h.numbered;
}

pub stop_more : (F : List (List Literal)) (J : List Entry) (n : ℕ) (stop : Option Stop) (e : Entry) → StopSound F J n stop → StopSound F (J ++ e ∷ []) n stop
stop_more F J n stop e h = record { refuted = λ s is k. ended_more F J (e ∷ []) (h.refuted s is k); kinds = h.kinds }

-- Cells

-- each new cell is an old one with another count, and its clause is alive as before
pub cells_kept : (b b' : Book) (f f' : ℕ → Option Cell) → CellsSound b f
    → ((i : ℕ) (x : Cell) → f' i ≡ Some x → (y : Cell) × (f i ≡ Some y) × (y.number ≡ x.number) × (y.lits ≡ x.lits) × (b'.clause x.number ≡ b.clause x.number))
    → CellsSound b' f'
cells_kept b b' f f' h old = record {
  alive = λ a x is. let t = old a x is in t.4 ∙ ap b.clause (sym t.2) ∙ h.alive a t.0 t.1 ∙ ap (λ (q : List Literal). Some q) t.3;
  shape = λ a x is. let t = old a x is in subst IsLong t.3 (h.shape a t.0 t.1);
  own = λ i j x y isx isy e. let s = old i x isx in let t = old j y isy in h.own i j s.0 t.0 s.1 t.1 (s.2 ∙ e ∙ sym t.2);
}

-- a journal entry that touches no cell
pub cells_same : (c : State) (e : Entry) → Sound c → ((n : ℕ) → n < (book c.opening.formula c.journal).next → (book_after (book c.opening.formula c.journal) e).clause n ≡ (book c.opening.formula c.journal).clause n)
    → CellsSound (book c.opening.formula (noted c e)) c.cell
cells_same c e s same_low =
    let b : Book = book c.opening.formula c.journal in
    subst (λ (q : Book). CellsSound q c.cell) (sym (book_last c.opening.formula c.journal e))
    (cells_kept b (book_after b e) c.cell c.cell s.cells
    (λ i x is. (x, is, refl, refl, same_low x.number (clause_below b (alive c.opening.formula (lines c.opening.formula c.journal)) x.number x.lits (journal_matches c.opening.formula c.journal s.log.log.fits) (s.cells.alive i x is)))))

-- Counts

-- nothing that is counted changes
pub counts_same : (o : CoreOpening) (c d : State) → Counts o c → Path (ℕ → Option Cell) d.cell c.cell → Path (ℕ → Bool) d.granted c.granted → Path (ℕ → Part) d.part c.part → Path (ℕ → ℕ) d.slot c.slot → Counts o d
counts_same o c d s dc dg dp ds = subst (λ (q : State). Counts o q)
    (λ j. record { opening = d.opening; journal = d.journal; cell = sym dc j; granted = sym dg j; part = sym dp j; slot = sym ds j; units = d.units; numbers = d.numbers; turn = d.turn; stop = d.stop; drawn = d.drawn })
    (record { counts = s.counts; waits = s.waits; making = s.making; makes = s.makes; nowhere = s.nowhere; addresses = s.addresses; few = s.few; bounded = s.bounded; named = s.named })

-- one part and cells change
pub part_moves : (c d : State) (r : ℕ) (p : Part) → Sound c → r < c.opening.rings → Path (ℕ → Part) d.part (put c.part r p) → Path (ℕ → Bool) d.granted c.granted → Path (ℕ → ℕ) d.slot c.slot
    → ((b : ℕ) → b ≢ 0 → count_at (d.cell b) + times_at b (c.part r).held ≡ count_at (c.cell b) + times_at b p.held)
    → ((b : ℕ) → idle_at (d.cell b) + times_at b (c.part r).waiting ≡ idle_at (c.cell b) + times_at b p.waiting)
    → ((a : ℕ) (x : Cell) (i : ℕ) → d.cell a ≡ Some x → x.maker ≡ Some i → (x.count ≡ 0) × (i < c.opening.rings))
    → ((b : ℕ) → times_at b p.making ≡ one_if (is_ring r (maker_at (d.cell b)))) → ((i b : ℕ) → i ≢ r → one_if (is_ring i (maker_at (d.cell b))) ≡ one_if (is_ring i (maker_at (c.cell b))))
    → d.cell 0 ≡ None → times_at 0 p.held ≡ 0 → p.shared ≤ MAX_SHARES
    → ((b : ℕ) → (count_at (d.cell b) ≤ c.opening.rings) ⊎ (count_at (d.cell b) + (c.part r).shared ≤ count_at (c.cell b) + p.shared))
    → p.ring ≡ r
    → Counts c.opening d
part_moves c d r p s lt dp dg ds balance waits making makes_here makes_else nowhere address few bounded named = counts_moved c.opening c d r 0 (c.slot 0) (c.granted r) p s.counts (record {
  ring = lt;
  place = slots_some c.opening s.opens;
  part_here = (λ j. dp j r) ∙ put_here c.part r p;
  part_else = λ i n. (λ j. dp j i) ∙ put_else c.part r p i n;
  granted_here = λ j. dg j r;
  granted_else = λ i n j. dg j i;
  slot_here = λ j. ds j 0;
  slot_else = λ i n j. ds j i;
  balance = λ b nz. let e = balance b nz in omega arith;
  waits = waits;
  making = making;
  makes_here = makes_here;
  makes_else = makes_else;
  nowhere = nowhere;
  address = address;
  few = few;
  bounded = bounded;
  named = named;
})

pub same_here : (c d : State) (r : ℕ) → Sound c → r < c.opening.rings → ((b : ℕ) → maker_at (d.cell b) ≡ maker_at (c.cell b)) → (b : ℕ) → times_at b (c.part r).making ≡ one_if (is_ring r (maker_at (d.cell b)))
same_here c d r s lt same b = let e = same b in s.counts.makes r b lt ∙ (λ j. one_if (is_ring r (sym e j)))

pub same_else : (c d : State) (r : ℕ) → ((b : ℕ) → maker_at (d.cell b) ≡ maker_at (c.cell b)) → (i b : ℕ) → i ≢ r → one_if (is_ring i (maker_at (d.cell b))) ≡ one_if (is_ring i (maker_at (c.cell b)))
same_else c d r same i b n = let e = same b in (λ j. one_if (is_ring i (e j)))

-- only a part changes, and not what is counted in it
pub part_only : (c d : State) (r : ℕ) (p : Part) → Sound c → r < c.opening.rings → Path (ℕ → Option Cell) d.cell c.cell → Path (ℕ → Part) d.part (put c.part r p) → Path (ℕ → Bool) d.granted c.granted → Path (ℕ → ℕ) d.slot c.slot
    → Path (List ClauseAt) p.held (c.part r).held → Path (List ClauseAt) p.making (c.part r).making → Path (List ClauseAt) p.waiting (c.part r).waiting → p.shared ≡ (c.part r).shared → p.ring ≡ r → Counts c.opening d
part_only c d r p s lt dc dp dg ds held making waiting shared ring = part_moves c d r p s lt dp dg ds
    (λ b nz. let n : count_at (d.cell b) ≡ count_at (c.cell b) = (λ j. count_at (dc j b)) in let h : times_at b p.held ≡ times_at b (c.part r).held = (λ j. times_at b (held j)) in omega arith)
    (λ b. let n : idle_at (d.cell b) ≡ idle_at (c.cell b) = (λ j. idle_at (dc j b)) in let h : times_at b p.waiting ≡ times_at b (c.part r).waiting = (λ j. times_at b (waiting j)) in omega arith)
    (λ a x i is. s.counts.making a x i ((λ j. sym dc j a) ∙ is))
    (λ b. (λ j. times_at b (making j)) ∙ same_here c d r s lt (λ k j. maker_at (dc j k)) b) (same_else c d r (λ k j. maker_at (dc j k)))
    ((λ j. dc j 0) ∙ s.counts.nowhere)
    ((λ j. times_at 0 (held j)) ∙ s.counts.addresses r)
    (let q = s.counts.few r in omega arith)
    (λ b. let n : count_at (d.cell b) ≡ count_at (c.cell b) = (λ j. count_at (dc j b)) in inr (omega arith))
    ring

-- One part

pub part_slots : (c d : State) (r : ℕ) (p : Part) → Sound c → Path (ℕ → ℕ) d.slot c.slot → Path (ℕ → Part) d.part (put c.part r p) → p.puts ≡ (c.part r).puts → SlotsSound c.opening d
part_slots c d r p s ds dp same = slots_kept c.opening c d s.slots ds (λ i. (λ j. (dp j i).puts) ∙ puts_same c r p same i)

pub copies_put : (c : State) (r : ℕ) (p : Part) → Sound c → All (IsCopy c.cell) p.held → All (IsCopy c.cell) p.making → All (IsCopy c.cell) p.waiting → CopiesSound c.opening.rings c.cell (put c.part r p)
copies_put c r p s held making waiting = copies_all c.opening.rings c.cell c.cell c.part r p s.copies (keeps_same c.cell) held making waiting

-- the lists are fronts of the listed units and of their numbers, as long as one another
abbrev pub HasSeen : State → List Literal → List ℕ → Type 0
HasSeen c us ns = ((rest : List Literal) × (c.units ≡ us ++ rest)) × ((rest : List ℕ) × (c.numbers ≡ ns ++ rest) × (length ns ≡ length us))

pub has_seen : (c : State) (r : ℕ) → Sound c → HasSeen c (c.part r).seen (c.part r).numbers
has_seen c r s = (s.units.seen r, s.units.numbered r)

pub units_part : (c : State) (r : ℕ) (p : Part) → Sound c → HasSeen c p.seen p.numbers → UnitsSound c.opening.formula c.journal c.units c.numbers (put c.part r p)
units_part c r p s h = record {
  paired = s.units.paired;
  told = s.units.told;
  distinct = s.units.distinct;
  seen = λ i. at_put c.part r p (λ (q : Part). (rest : List Literal) × (c.units ≡ q.seen ++ rest)) i (λ _. h.0) (λ _. s.units.seen i);
  numbered = λ i. at_put c.part r p (λ (q : Part). (rest : List ℕ) × (c.numbers ≡ q.numbers ++ rest) × (length q.numbers ≡ length q.seen)) i (λ _. h.1) (λ _. s.units.numbered i);
}

pub units_written : (c : State) (r : ℕ) (p : Part) (e : Entry) → Sound c → KeepsUnits (book c.opening.formula c.journal) e → HasSeen c p.seen p.numbers → UnitsSound c.opening.formula (noted c e) c.units c.numbers (put c.part r p)
units_written c r p e s keep h = units_more c.opening.formula c.journal c.units c.numbers (put c.part r p) e keep (units_part c r p s h)

-- a known cell is as the rings have it
pub clause_is : (c : State) (a : ℕ) (x : Cell) (f' : ℕ → Option Cell) → c.cell a ≡ Some x → ((b : ℕ) → Keeps c.cell f' b) → IsCopy f' (clause_at c a)
clause_is c a x f' is keep = let t = keep a x is in (t.0, t.1, t.2 ∙ sym (ap number_at is), t.3 ∙ sym (ap lits_at is))
