-- Additions and reductions keep the state sound.
use Rattle.std.proofs.Common.{◌≡◌, ◌⊎◌, ℕ, ◌+◌, ◌<◌, ◌≤◌, Bool, true, cond, List, [], ◌∷◌, ◌++◌, length, Option, Some, refl, sym, ap, ◌∙◌, subst, inl, inr, arith, ne_eqb, true≢false}
use Rattle.std.proofs.lemmas.Bool.{and_parts}
use Rattle.sat_words.specs.Literal.{Literal}
use Rattle.sat_words.specs.Clause.{clause_of, two_or_more}
use Rattle.rup_model.specs.declared.journal.TheConstants.{RULER_RING}
use Rattle.rup_model.specs.declared.journal.Kind.{Kind}
use Rattle.rup_model.specs.declared.journal.Kind.TheVariants.{Ruler, Learn, Derive, UnitLine}
use Rattle.rup_model.specs.declared.journal.Addition.{Addition}
use Rattle.rup_model.specs.declared.journal.Entry.{Entry}
use Rattle.rup_model.specs.declared.journal.Entry.TheVariants.{Add, Reduce as ReduceEntry}
use Rattle.rup_model.specs.Basics.{put, one_if}
use Rattle.rup_model.specs.Log.{alive}
use Rattle.rup_model.specs.Journal.{ring_of, Book, book_after, book, spelled, lines, is_learn, is_ring, fresh, IsFresh, IsSpaced}
use Rattle.rup_model.specs.Opening.{IsLong, start_clauses}
use Rattle.rup_model.proofs.Sums.{at_put, put_here, put_else}
use Rattle.rup_model.proofs.Numbers.{clause_below, journal_matches, book_last}
use Rattle.rup_model.proofs.JournalSteps.{not_added, log_adds, log_reduces}
use Rattle.share_core.specs.declared.event.Event.TheVariants.{AddClause, AddUnit, AddEmpty, Reduce}
use Rattle.share_core.specs.declared.stored.ClauseAt.{ClauseAt}
use Rattle.share_core.specs.declared.stored.Cell.{Cell}
use Rattle.share_core.specs.State.{times_at, opening_of, later, Part, State, count_at, maker_at}
use Rattle.share_core.specs.Learning.{follows, may_learn, MayAddClause, MayAddUnit, ticket_after, after_learn}
use Rattle.share_core.specs.Enabled.{Writes, IsEnabled}
use Rattle.share_core.specs.Events.{addition_of, wrote_part, made_part, written, after}
use Rattle.share_core.specs.Sound.{idle_at, IsCopy, CellsSound, JournalSound, TicketsSound, Sound}
use Rattle.share_core.proofs.ClauseLists.{at_both, at_here, at_else, all_last}
use Rattle.share_core.proofs.Counting.{some_same, none_some, not_made, made_by, made_else, idle_made, starts_kept}
use Rattle.share_core.proofs.Copies.{Keeps, lift, copies_all}
use Rattle.share_core.proofs.Slots.{puts_same, slots_kept}
use Rattle.share_core.proofs.Own.{owned_more}
use Rattle.share_core.proofs.Tickets.{tickets_added, tickets_noted}
use Rattle.share_core.proofs.Whole.{whole_more, whole_begun, few_added}
use Rattle.share_core.proofs.Frames.{follows_alive, adds_hinted, units_stay, journal_more, fresh_more, stop_more, cells_same, part_moves, part_only, part_slots, copies_put, has_seen, units_written}

-- What may be added is fresh if it is learned

may_fresh : (c : State) (r : ℕ) (kind : Kind) (lits : List Literal) → MayAddClause c.opening c.journal (c.part r) r kind lits → is_learn kind ≡ true → may_learn c.opening c.journal (c.part r) r lits ≡ true
may_fresh c r Ruler lits may is = absurd may
may_fresh c r Learn lits may is = may
may_fresh c r Derive lits may is = absurd (true≢false (sym is))
may_fresh c r UnitLine lits may is = absurd may

may_fresh_unit : (c : State) (r : ℕ) (kind : Kind) (lits : List Literal) → MayAddUnit c.opening c.journal (c.part r) r kind lits → is_learn kind ≡ true → may_learn c.opening c.journal (c.part r) r lits ≡ true
may_fresh_unit c r Ruler lits may is = absurd may
may_fresh_unit c r Learn lits may is = may
may_fresh_unit c r Derive lits may is = absurd may
may_fresh_unit c r UnitLine lits may is = absurd (true≢false (sym is))

-- with a ticket, and it is fresh
may_new : (c : State) (r : ℕ) (lits : List Literal) → may_learn c.opening c.journal (c.part r) r lits ≡ true → fresh (start_clauses (opening_of c.opening)) (later c.opening c.journal) r lits ≡ true
may_new c r lits h = (and_parts (c.part r).ticket (fresh (start_clauses (opening_of c.opening)) (later c.opening c.journal) r lits) h).1

may_spend : (c : State) (r : ℕ) (lits : List Literal) → may_learn c.opening c.journal (c.part r) r lits ≡ true → (c.part r).ticket ≡ true
may_spend c r lits h = (and_parts (c.part r).ticket (fresh (start_clauses (opening_of c.opening)) (later c.opening c.journal) r lits) h).0

-- Spelling

-- a deletion spells a ring's clause as the ring added it
pub own_spelling : (c : State) (x : Addition) → Sound c → x.ring < c.opening.rings → spelled x ≡ x.lits
own_spelling c x s lt = let few = s.opens.few_rings in (λ j. cond (ne_eqb x.ring RULER_RING (λ q. omega arith) j) (clause_of x.lits) x.lits)

-- Entries that touch no cell

add_low : (b : Book) (x : Addition) (n : ℕ) → n < b.next → (book_after b (Add x)).clause n ≡ b.clause n
add_low b x n lt = put_else b.clause b.next _ n (λ e. omega arith)

-- an entry of ring r that touches no cell
writes : (c : State) (r : ℕ) (t : Bool) (e : Entry) → Sound c → r < c.opening.rings → ring_of e ≡ r → JournalSound c.opening (c.journal ++ e ∷ [])
    → ((n : ℕ) → n < (book c.opening.formula c.journal).next → (book_after (book c.opening.formula c.journal) e).clause n ≡ (book c.opening.formula c.journal).clause n)
    → ((n : ℕ) (k : List Literal) → two_or_more k ≡ true → (book_after (book c.opening.formula c.journal) e).clause n ≡ Some k → (book c.opening.formula c.journal).clause n ≡ Some k)
    → IsFresh (start_clauses (opening_of c.opening)) (later c.opening c.journal) e → IsSpaced (later c.opening c.journal) e
    → TicketsSound c.opening c.drawn (put c.part r (wrote_part (length c.journal) e (record (c.part r) { ticket = t }))) → Sound (written c r (record (c.part r) { ticket = t }) e)
writes c r t e s lt own log low few fresh spaced tickets =
    let d : State = written c r (record (c.part r) { ticket = t }) e in
    let p : Part = wrote_part (length c.journal) e (record (c.part r) { ticket = t }) in
    record {
      opens = s.opens;
      counts = part_only c d r p s lt refl refl refl refl refl refl refl refl (s.counts.named r);
      starts = s.starts;
      copies = copies_put c r p s (s.copies.held r lt) (s.copies.making r lt) (s.copies.waiting r lt);
      cells = cells_same c e s low;
      whole = whole_more c.opening c.journal c.cell e s.whole few;
      slots = part_slots c d r p s refl refl refl;
      log = log;
      entries = owned_more c.opening c r e p s.entries own refl;
      freshness = fresh_more c.opening c.journal e s.log s.freshness fresh spaced;
      units = units_written c r p e s (units_stay c e s low) (has_seen c r s);
      turns = s.turns;
      stops = stop_more c.opening.formula c.journal c.opening.rings c.stop e s.stops;
      tickets = tickets;
    }

-- an addition that follows from what the ring knows keeps the journal
added : (c : State) (r : ℕ) (kind : Kind) (lits : List Literal) (hints : List ℕ) → Sound c → r < c.opening.rings → Writes c r → follows c.opening.hinted (c.part r) lits hints ≡ true → JournalSound c.opening (c.journal ++ addition_of c r kind lits hints ∷ [])
added c r kind lits hints s lt w f =
    let x : Addition = record { ring = r; number = (book c.opening.formula c.journal).next; lits = lits; kind = kind; hints = hints } in
    journal_more c.opening c.journal (Add x) s.log (log_adds c.opening.formula c.journal s.log.log x refl (follows_alive c r lits hints s lt f) (not_added c.opening.formula c.journal w.going)) w.room lt (adds_hinted c r lits hints s lt f)

pub adds_unit : (c : State) (r : ℕ) (kind : Kind) (l : Literal) (hints : List ℕ) → Sound c → IsEnabled c (AddUnit r kind l hints) → Sound (after c (AddUnit r kind l hints))
adds_unit c r kind l hints s e =
    let x : Addition = record { ring = r; number = (book c.opening.formula c.journal).next; lits = l ∷ []; kind = kind; hints = hints } in
    writes c r (ticket_after kind (c.part r).ticket) (Add x) s e.0 refl (added c r kind (l ∷ []) hints s e.0 e.1 e.3) (add_low (book c.opening.formula c.journal) x) (few_added c.opening c.journal x (λ two. true≢false (sym two ∙ ap two_or_more (own_spelling c x s e.0)))) (λ is. may_new c r (l ∷ []) (may_fresh_unit c r kind (l ∷ []) e.2 is)) tt
    (tickets_added c.opening c.drawn c.part r (wrote_part (length c.journal) (Add x) (after_learn kind (c.part r))) s.tickets (length c.journal) x refl (λ is. may_spend c r (l ∷ []) (may_fresh_unit c r kind (l ∷ []) e.2 is)) refl refl refl)

pub adds_empty : (c : State) (r : ℕ) (hints : List ℕ) → Sound c → IsEnabled c (AddEmpty r hints) → Sound (after c (AddEmpty r hints))
adds_empty c r hints s e =
    let x : Addition = record { ring = r; number = (book c.opening.formula c.journal).next; lits = []; kind = Derive; hints = hints } in
    writes c r (c.part r).ticket (Add x) s e.0 refl (added c r Derive [] hints s e.0 e.1 e.2) (add_low (book c.opening.formula c.journal) x) (few_added c.opening c.journal x (λ two. true≢false (sym two ∙ ap two_or_more (own_spelling c x s e.0)))) (λ h. absurd (true≢false (sym h))) tt
    (tickets_added c.opening c.drawn c.part r (wrote_part (length c.journal) (Add x) (after_learn Derive (c.part r))) s.tickets (length c.journal) x refl (λ is. absurd (true≢false (sym is))) refl refl refl)

pub reduces : (c : State) (r : ℕ) → Sound c → IsEnabled c (Reduce r) → Sound (after c (Reduce r))
reduces c r s e = writes c r (c.part r).ticket (ReduceEntry r) s e.0 refl (journal_more c.opening c.journal (ReduceEntry r) s.log (log_reduces c.opening.formula c.journal s.log.log r (not_added c.opening.formula c.journal e.1.going)) e.1.room e.0 (λ _. tt)) (λ n lt. refl) (λ n k two is. is) tt e.2
    (tickets_noted c.opening c.drawn c.part r (wrote_part (length c.journal) (ReduceEntry r) (c.part r)) s.tickets (length c.journal) (ReduceEntry r) refl refl refl refl)

-- A clause with its cell

pub adds_clause : (c : State) (r : ℕ) (kind : Kind) (lits : List Literal) (hints : List ℕ) (a : ℕ) → Sound c → IsEnabled c (AddClause r kind lits hints a) → Sound (after c (AddClause r kind lits hints a))
adds_clause c r kind lits hints a s e =
    let J = c.journal in
    let F = c.opening.formula in
    let b : Book = book F J in
    let x : Addition = record { ring = r; number = b.next; lits = lits; kind = kind; hints = hints } in
    let new : Cell = record { lits = lits; number = b.next; count = 0; maker = Some r } in
    let d : State = after c (AddClause r kind lits hints a) in
    let h : ClauseAt = record { address = a; number = b.next; lits = lits } in
    let p : Part = made_part h (length J) (Add x) (after_learn kind (c.part r)) in
    let lt = e.0 in
    let w = e.1 in
    let none = e.4 in
    let f' : ℕ → Option Cell = put c.cell a (Some new) in
    let idle_old : idle_at (c.cell a) ≡ 0 = ap idle_at none in
    let count_old : count_at (c.cell a) ≡ 0 = ap count_at none in
    let maker_old : (i : ℕ) → one_if (is_ring i (maker_at (c.cell a))) ≡ 0 = λ i. not_made i (maker_at (c.cell a)) (ap maker_at none) in
    let stays : (i : ℕ) (y : Cell) → c.cell i ≡ Some y → f' i ≡ Some y = λ i y is. put_else c.cell a (Some new) i (λ q. none_some y (sym none ∙ ap c.cell (sym q) ∙ is)) ∙ is in
    let keep : (i : ℕ) → Keeps c.cell f' i = λ i y is. (y, stays i y is, refl, refl) in
    let m = journal_matches F J s.log.log.fits in
    record {
      opens = s.opens;
      counts = part_moves c d r p s lt refl refl refl
          (λ i nz. at_put c.cell a (Some new) (λ (q : Option Cell). count_at q + times_at i (c.part r).held ≡ count_at (c.cell i) + times_at i (c.part r).held) i (λ q. let k : count_at (c.cell i) ≡ count_at (c.cell a) = ap (λ n. count_at (c.cell n)) q in omega arith) (λ _. refl))
          (λ i. at_put c.cell a (Some new) (λ (q : Option Cell). idle_at q + times_at i (c.part r).waiting ≡ idle_at (c.cell i) + times_at i (c.part r).waiting) i (λ q. let k : idle_at (c.cell i) ≡ idle_at (c.cell a) = ap (λ n. idle_at (c.cell n)) q in let z = idle_made new r refl in omega arith) (λ _. refl))
          (λ i y n. at_put c.cell a (Some new) (λ (q : Option Cell). q ≡ Some y → y.maker ≡ Some n → (y.count ≡ 0) × (n < c.opening.rings)) i
          (λ q is mk. let same_y : new ≡ y = some_same new y is in let k : r ≡ n = some_same r n (ap (λ (z : Cell). z.maker) same_y ∙ mk) in (sym (ap (λ (z : Cell). z.count) same_y), omega arith))
          (λ ne is mk. s.counts.making i y n is mk))
          (λ i. let m0 = at_both i (c.part r).making (h ∷ []) in let k0 = s.counts.makes r i lt in at_put c.cell a (Some new) (λ (q : Option Cell). times_at i ((c.part r).making ++ h ∷ []) ≡ one_if (is_ring r (maker_at q))) i
          (λ q. let u = at_here h i (sym q) in let v = made_by r (Some r) refl in
          let z : one_if (is_ring r (maker_at (c.cell i))) ≡ 0 = (λ j. one_if (is_ring r (maker_at (c.cell (q j))))) ∙ maker_old r in omega arith)
          (λ ne. let u = at_else h i (λ q. ne (sym q)) in omega arith))
          (λ i k ne. at_put c.cell a (Some new) (λ (q : Option Cell). one_if (is_ring i (maker_at q)) ≡ one_if (is_ring i (maker_at (c.cell k)))) k
          (λ q. made_else r i (Some r) refl ne ∙ sym ((λ j. one_if (is_ring i (maker_at (c.cell (q j))))) ∙ maker_old i))
          (λ _. refl))
          (put_else c.cell a (Some new) 0 (λ q. e.5 (sym q)) ∙ s.counts.nowhere)
          (s.counts.addresses r) (s.counts.few r)
          (λ i. at_put c.cell a (Some new) (λ (q : Option Cell). (count_at q ≤ c.opening.rings) ⊎ (count_at q + (c.part r).shared ≤ count_at (c.cell i) + (c.part r).shared)) i (λ _. inl (omega arith)) (λ _. inr (omega arith)))
          (s.counts.named r);
      starts = starts_kept c.opening c d s.opens s.counts s.starts (λ i q. q) (λ i y is z pos. (y, stays i y is, z, refl, refl));
      copies = copies_all c.opening.rings c.cell f' c.part r p s.copies keep
          (lift c.cell f' (c.part r).held (λ y _. keep y.address) (s.copies.held r lt))
          (all_last (IsCopy f') (c.part r).making h (lift c.cell f' (c.part r).making (λ y _. keep y.address) (s.copies.making r lt)) (new, put_here c.cell a (Some new), refl, refl))
          (lift c.cell f' (c.part r).waiting (λ y _. keep y.address) (s.copies.waiting r lt));
      cells = subst (λ (q : Book). CellsSound q f') (sym (book_last F J (Add x))) (record {
        alive = λ i y. at_put c.cell a (Some new) (λ (q : Option Cell). q ≡ Some y → (book_after b (Add x)).clause y.number ≡ Some y.lits) i
            (λ q is. (let same_y : new ≡ y = some_same new y is in subst (λ (z : Cell). (book_after b (Add x)).clause z.number ≡ Some z.lits) same_y (put_here b.clause b.next _ ∙ ap (λ (k : List Literal). Some k) (own_spelling c x s lt))))
            (λ ne is. add_low b x y.number (clause_below b (alive F (lines F J)) y.number y.lits m (s.cells.alive i y is)) ∙ s.cells.alive i y is);
        shape = λ i y. at_put c.cell a (Some new) (λ (q : Option Cell). q ≡ Some y → IsLong y.lits) i
            (λ q is. subst (λ (z : Cell). IsLong z.lits) (some_same new y is) e.3)
            (λ ne is. s.cells.shape i y is);
        own = λ i j y z. at_put c.cell a (Some new) (λ (q : Option Cell). q ≡ Some y → f' j ≡ Some z → y.number ≡ z.number → i ≡ j) i
            (λ hi isy. at_put c.cell a (Some new) (λ (q : Option Cell). q ≡ Some z → y.number ≡ z.number → i ≡ j) j
            (λ hj isz n. hi ∙ sym hj)
            (λ nj isz n. absurd (let k : b.next ≡ y.number = ap (λ (t : Cell). t.number) (some_same new y isy) in let q = clause_below b (alive F (lines F J)) z.number z.lits m (s.cells.alive j z isz) in omega arith)))
            (λ ni isy. at_put c.cell a (Some new) (λ (q : Option Cell). q ≡ Some z → y.number ≡ z.number → i ≡ j) j
            (λ hj isz n. absurd (let k : b.next ≡ z.number = ap (λ (t : Cell). t.number) (some_same new z isz) in let q = clause_below b (alive F (lines F J)) y.number y.lits m (s.cells.alive i y isy) in omega arith))
            (λ nj isz n. s.cells.own i j y z isy isz n));
      });
      whole = whole_begun c.opening J c.cell a x new s.whole none refl;
      slots = slots_kept c.opening c d s.slots refl (puts_same c r p refl);
      log = added c r kind lits hints s lt w e.6;
      entries = owned_more c.opening c r (Add x) p s.entries refl refl;
      freshness = fresh_more c.opening J (Add x) s.log s.freshness (λ is. may_new c r lits (may_fresh c r kind lits e.2 is)) tt;
      units = units_written c r p (Add x) s (units_stay c (Add x) s (add_low b x)) (has_seen c r s);
      turns = s.turns;
      stops = stop_more F J c.opening.rings c.stop (Add x) s.stops;
      tickets = tickets_added c.opening c.drawn c.part r p s.tickets (length J) x refl (λ is. may_spend c r lits (may_fresh c r kind lits e.2 is)) refl refl refl;
    }
