-- Deletions, start clauses and units that pass the tests begin a round.
use Rattle.std.proofs.Common.{◌≡◌, ◌≢◌, ℕ, zero, suc, ◌+◌, ◌^◌, ◌<◌, ◌≤◌, ◌==◌, nat_eq, Bool, true, false, not, ◌||◌, ◌&&◌, List, [], ◌∷◌, ◌++◌, map, length, get_or, Option, Some, None, refl, sym, ap, ◌∙◌, subst, arith, eq-eqb, ne_eqb, true≢false, append-nil, append_assoc, length-append}
use Rattle.std.specs.List.{list_any, list_all, AllByRecursion, IsDistinct}
use Rattle.std.specs.Option.{unwrap_or}
use Rattle.std.proofs.lemmas.Bool.{and_parts, and_from, or_parts}
use Rattle.std.proofs.lemmas.List.Folds.{list_all-append}
use Rattle.std.proofs.lemmas.List.Sums.{AllPass-from_list_all}
use mathlib.Core.Logic.{dite}
use native.Mathlib.Decide.{ℕ_discrete}
use Rattle.sat_words.specs.Literal.{Literal}
use Rattle.sat_words.specs.Clause.{distinct_lits, is_empty, two_or_more}
use Rattle.sat_words.specs.declared.shared.TheConstants.{MAX_ENTRIES}
use Rattle.rup_model.specs.declared.journal.TheConstants.{RULER_RING}
use Rattle.rup_model.specs.declared.journal.Round.{Round as RoundStart}
use Rattle.rup_model.specs.declared.journal.Entry.{Entry}
use Rattle.rup_model.specs.declared.journal.Entry.TheVariants.{Del, Round}
use Rattle.rup_model.specs.Basics.{one_if}
use Rattle.rup_model.specs.Journal.{Book, book, added, is_told, is_ring}
use Rattle.rup_model.specs.Opening.{Start, IsStart}
use Rattle.rup_model.proofs.Lists.{In, map_In, all_In}
use Rattle.rup_model.proofs.Units.{two_same}
use Rattle.rup_model.proofs.Additions.{added-append}
use Rattle.rup_model.proofs.JournalSteps.{log_dels, log_rounds}
use Rattle.rup_model.proofs.ProgramOpening.{All_from_In}
use Rattle.share_core.specs.declared.round_line.RoundLine.{RoundLine}
use Rattle.share_core.specs.declared.round_line.RoundLine.TheVariants.{Add as RoundAdd, Del as RoundDel}
use Rattle.share_core.specs.declared.stored.ClauseAt.{ClauseAt}
use Rattle.share_core.specs.declared.stored.Cell.{Cell}
use Rattle.share_core.specs.declared.ring.RingState.{RingState}
use Rattle.share_core.specs.State.{times_at, unit_lits, unit_numbers, ArePaired, maker_at}
use Rattle.share_core.specs.Guards.{is_long}
use Rattle.share_core.specs.Machine.{CoreData, state_of, Kept, no_ring}
use Rattle.share_core.specs.NextRound.{has_lits, is_spare, IsEntryOf, AreEntriesOf, IsInOrder, numbers_of, start_in, round_journal, NoneBuilt, is_deletion, IsDeletion, IsGoing, AreDeleted, may_start, stand_apart, MayBegin}
use Rattle.share_core.proofs.ClauseLists.{all_last}
use Rattle.share_core.proofs.Deciding.{long_from}
use Rattle.share_core.proofs.Rounding.{entries_count}

-- Start clauses

not_true : (b : Bool) → not b ≡ true → b ≡ false
not_true true h = absurd (true≢false (sym h))
not_true false h = refl

absent : (a : ℕ) (n : ℕ) (hs : List ClauseAt) → list_any (λ (h : ClauseAt). (h.address == a) || (h.number == n)) hs ≡ false → times_at a hs ≡ 0
absent a n [] e = refl
absent a n (h ∷ hs) e =
    let p = or_parts ((h.address == a) || (h.number == n)) (list_any (λ (x : ClauseAt). (x.address == a) || (x.number == n)) hs) e in
    let q : one_if (h.address == a) ≡ 0 = ap one_if (or_parts (h.address == a) (h.number == n) p.0).0 in
    let r = absent a n hs p.1 in omega arith

once : (hs : List ClauseAt) → stand_apart hs ≡ true → (a : ℕ) → times_at a hs ≤ 1
once [] e a = omega arith
once (h ∷ hs) e a =
    let p = and_parts (not (list_any (λ (x : ClauseAt). (x.address == h.address) || (x.number == h.number)) hs)) (stand_apart hs) e in
    let r = once hs p.1 a in
    dite (ℕ_discrete h.address a)
    (λ q. let z : times_at a hs ≡ 0 = ap (λ (k : ℕ). times_at k hs) (sym q) ∙ absent h.address h.number hs (not_true _ p.0) in let o : one_if (h.address == a) ≡ 1 = ap one_if (eq-eqb h.address a q) in omega arith)
    (λ n. let o : one_if (h.address == a) ≡ 0 = ap one_if (ne_eqb h.address a n) in omega arith)

abbrev pub numbers : List ClauseAt → List ℕ
numbers hs = map (λ (s : Start). s.number) (map (λ (s : ClauseAt). record { number = s.number; lits = s.lits }) hs)

other_number : (a n : ℕ) (hs : List ClauseAt) → list_any (λ (h : ClauseAt). (h.address == a) || (h.number == n)) hs ≡ false → AllByRecursion (λ (m : ℕ). nat_eq n m ≡ false) (numbers hs)
other_number a n [] e = tt
other_number a n (h ∷ hs) e =
    let p = or_parts ((h.address == a) || (h.number == n)) (list_any (λ (x : ClauseAt). (x.address == a) || (x.number == n)) hs) e in
    let q = (or_parts (h.address == a) (h.number == n) p.0).1 in
    (ne_eqb n h.number (λ s. true≢false (sym (eq-eqb h.number n (sym s)) ∙ q)), other_number a n hs p.1)

distinct : (hs : List ClauseAt) → stand_apart hs ≡ true → IsDistinct nat_eq (numbers hs)
unfolding IsDistinct
distinct [] e = tt
distinct (h ∷ hs) e =
    let p = and_parts (not (list_any (λ (x : ClauseAt). (x.address == h.address) || (x.number == h.number)) hs)) (stand_apart hs) e in
    (other_number h.address h.number hs (not_true _ p.0), distinct hs p.1)

-- a long clause under a number is alive
alive_long : (o : Option (List Literal)) → is_long (unwrap_or o []) ≡ true → o ≡ Some (unwrap_or o [])
alive_long None h = absurd (true≢false (sym h))
alive_long (Some c) h = refl

start_fits : (b : Book) (start : List (ℕ × ℕ)) → list_all may_start (map (start_in b) start) ≡ true → (s : Start) → In s (map (λ (t : ClauseAt). record { number = t.number; lits = t.lits }) (map (start_in b) start)) → IsStart b s
start_fits b start all s i =
    let t = map_In (λ (t : ClauseAt). record { number = t.number; lits = t.lits }) (map (start_in b) start) s i in
    let p = map_In (start_in b) start t.0 t.1 in
    let f = and_parts (not (t.0.address == 0)) (is_long t.0.lits) (all_In may_start (map (start_in b) start) t.0 all t.1) in
    let own : is_long (unwrap_or (b.clause p.0.1) []) ≡ true = ap (λ (h : ClauseAt). is_long h.lits) p.2 ∙ f.1 in
    subst (IsStart b) (ap (λ (h : ClauseAt). record { number = h.number; lits = h.lits }) p.2 ∙ t.2)
    (record { alive = alive_long (b.clause p.0.1) own; shape = long_from (unwrap_or (b.clause p.0.1) []) own })

placed_there : (ss : List ClauseAt) → list_all may_start ss ≡ true → (h : ClauseAt) → In h ss → h.address ≢ 0
placed_there ss all h i z =
    let f = and_parts (not (h.address == 0)) (is_long h.lits) (all_In may_start ss h all i) in
    true≢false (sym f.0 ∙ ap not (eq-eqb h.address 0 z))

-- Deletions

entries_more : (F : List (List Literal)) (J : List Entry) (kept : List ℕ) (L : List RoundLine) (E : List Entry) (l : RoundLine) (e : Entry) → AreEntriesOf F J kept L E → IsEntryOf (book F (J ++ E)) kept l e → AreEntriesOf F J kept (L ++ l ∷ []) (E ++ e ∷ [])
entries_more F J kept [] [] l e h x = (subst (λ (M : List Entry). IsEntryOf (book F M) kept l e) (append-nil J) x, tt)
entries_more F J kept [] (f ∷ E) l e h x = absurd h
entries_more F J kept (k ∷ L) [] l e h x = absurd h
entries_more F J kept (k ∷ L) (f ∷ E) l e h x = (h.0, entries_more F (J ++ f ∷ []) kept L E l e h.1 (subst (λ (M : List Entry). IsEntryOf (book F M) kept l e) (sym (append_assoc J (f ∷ []) E)) x))

going_more : (F : List (List Literal)) (K : List Entry) (kept : List ℕ) (c : List Literal) (n : ℕ) → two_or_more c ≡ true → is_spare (book F K) kept c n ≡ true → IsGoing F K → IsGoing F (K ++ Del RULER_RING n ∷ [])
going_more F K kept c n two spare g = by ((book F K).clause n) refl (and_parts (not (list_any (λ m. m == n) kept)) (has_lits c ((book F K).clause n)) spare).1
  where
    by : (o : Option (List Literal)) → (book F K).clause n ≡ o → has_lits c o ≡ true → IsGoing F (K ++ Del RULER_RING n ∷ [])
    by None is h = absurd (true≢false (sym h))
    by (Some d) is h = (log_dels F K g.0 RULER_RING n d is (two_same c d h two) g.1, ap (list_any is_empty) (added-append K (Del RULER_RING n ∷ []) ∙ append-nil (added K)) ∙ g.1)

-- no line yet
pub deleted_none : (F : List (List Literal)) (J : List Entry) (kept : List ℕ) → AreDeleted F J kept [] J
deleted_none F J kept = record { entries = []; grows = sym (append-nil J); are = tt; ordered = λ k d lt. absurd (omega arith); only = refl; going = λ g. g }

-- one line more
pub deleted_more : (F : List (List Literal)) (J : List Entry) (kept : List ℕ) (L : List RoundLine) (K : List Entry) (l : RoundLine) (n : ℕ) → AreDeleted F J kept L K → IsDeletion (book F K) kept l n → AreDeleted F J kept (L ++ l ∷ []) (K ++ Del RULER_RING n ∷ [])
deleted_more F J kept L K (RoundAdd c hints) n h x = absurd x
deleted_more F J kept L K (RoundDel m c) n h x =
    let spare : is_spare (book F K) kept c n ≡ true = subst (λ (k : ℕ). is_spare (book F K) kept c k ≡ true) x.0 x.3 in
    record {
      entries = h.entries ++ Del RULER_RING n ∷ [];
      grows = ap (λ (M : List Entry). M ++ Del RULER_RING n ∷ []) h.grows ∙ append_assoc J h.entries (Del RULER_RING n ∷ []);
      are = entries_more F J kept L h.entries (RoundDel m c) (Del RULER_RING n) h.are (ap (λ (k : ℕ). Del RULER_RING k) (sym x.0), subst (λ (M : List Entry). is_spare (book F M) kept c m ≡ true) h.grows x.3);
      ordered = all_last IsInOrder L (RoundDel m c) h.ordered x.1;
      only = list_all-append is_deletion L (RoundDel m c ∷ []) ∙ and_from _ _ h.only refl;
      going = λ g. going_more F K kept c n x.2 spare (h.going g);
    }

-- Rings

making_none : (xs : List RingState) (r : ℕ) → list_all (λ (x : RingState). length x.making == 0) xs ≡ true → r < length xs → (get_or xs r no_ring).making ≡ []
making_none [] r h lt = absurd (omega arith)
making_none (x ∷ xs) zero h lt = empty x.making (and_parts (length x.making == 0) _ h).0
  where
    empty : (hs : List ClauseAt) → (length hs == 0) ≡ true → hs ≡ []
    empty [] e = refl
    empty (s ∷ hs) e = absurd (true≢false (sym e ∙ ne_eqb (length (s ∷ hs)) 0 (λ q. omega arith)))
making_none (x ∷ xs) (suc r) h lt = making_none xs r (and_parts (length x.making == 0) _ h).1 (omega arith)

none_built : (d : CoreData) → Kept d → list_all (λ (x : RingState). length x.making == 0) d.rings ≡ true → NoneBuilt (state_of d)
none_built d k still a = by ((state_of d).cell a) refl
  where
    made : (x : Cell) (r : ℕ) → (state_of d).cell a ≡ Some x → x.maker ≡ Some r → ⊥
    made x r is own =
        let lt = (k.sound.counts.making a x r is own).1 in
        let one = k.sound.counts.makes r a lt in
        let here : one_if (is_ring r (maker_at ((state_of d).cell a))) ≡ 1 = (λ j. one_if (is_ring r (maker_at (is j)))) ∙ ap (λ (m : Option ℕ). one_if (is_ring r m)) own ∙ ap one_if (eq-eqb r r refl) in
        let none : times_at a (get_or d.rings r no_ring).making ≡ 0 = ap (times_at a) (making_none d.rings r still lt) in omega arith

    of : (x : Cell) → (state_of d).cell a ≡ Some x → (o : Option ℕ) → x.maker ≡ o → maker_at (Some x) ≡ None
    of x is None own = own
    of x is (Some r) own = absurd (made x r is own)

    by : (o : Option Cell) → (state_of d).cell a ≡ o → maker_at ((state_of d).cell a) ≡ None
    by None is = ap maker_at is
    by (Some x) is = ap maker_at is ∙ of x is x.maker refl

-- All of it

begins_at : (d : CoreData) (L : List RoundLine) (start : List (ℕ × ℕ)) (units : List (Literal × ℕ)) (limit : ℕ) (K : List Entry) → Kept d → list_all (λ (x : RingState). length x.making == 0) d.rings ≡ true
    → list_any is_empty (added d.journal) ≡ false → limit ≤ 2 ^ 63 → (h : AreDeleted d.formula d.journal (numbers_of start) L K) → let M : List Entry = round_journal d.journal h.entries start (unit_lits units) in length M ≤ MAX_ENTRIES
    → list_all may_start (map (start_in (book d.formula M)) start) ≡ true → stand_apart (map (start_in (book d.formula M)) start) ≡ true → list_all (is_told d.formula M) (unit_lits units) ≡ true → distinct_lits (unit_lits units) ≡ true
    → ArePaired (book d.formula M) (unit_lits units) (unit_numbers units) → MayBegin (state_of d) L start units limit
begins_at d L start units limit K k still going few h room fit apart told once_each pairs =
    let M : List Entry = round_journal d.journal h.entries start (unit_lits units) in
    let ss : List ClauseAt = map (start_in (book d.formula M)) start in
    let o = k.sound.opens in
    let g = h.going (k.sound.log.log, going) in
    let x : RoundStart = record { starts = numbers_of start; units = unit_lits units } in
    let log = log_rounds d.formula K g.0 x g.1 in
    let same : K ++ Round x ∷ [] ≡ M = ap (λ (N : List Entry). N ++ Round x ∷ []) h.grows in
    let more : list_any is_empty (added (K ++ Round x ∷ [])) ≡ false = ap (list_any is_empty) (added-append K (Round x ∷ []) ∙ append-nil (added K)) ∙ g.1 in
    let all = subst (IsGoing d.formula) same (log, more) in
    record {
      built = none_built d k still;
      ordered = h.ordered;
      opens = (
        h.entries,
        record {
          entries = h.are;
          opens = record {
            some_ring = o.some_ring;
            few_rings = o.few_rings;
            some_slot = o.some_slot;
            few_slots = o.few_slots;
            opens = record {
              fits = all.0.fits;
              accepted = all.0.accepted;
              going = all.1;
              starts = All_from_In _ _ (start_fits (book d.formula M) start fit);
              numbers = distinct ss apart;
              told = AllPass-from_list_all (is_told d.formula M) (unit_lits units) told;
              distinct = once_each;
            };
            room = room;
            placed = All_from_In _ _ (placed_there ss fit);
            apart = once ss apart;
            paired = pairs;
            limited = few;
          };
        },
      );
    }

pub may_from : (d : CoreData) (L : List RoundLine) (start : List (ℕ × ℕ)) (units : List (Literal × ℕ)) (limit : ℕ) (K M : List Entry) (ss : List ClauseAt) → Kept d → list_all (λ (x : RingState). length x.making == 0) d.rings ≡ true
    → list_any is_empty (added d.journal) ≡ false → limit ≤ 2 ^ 63 → AreDeleted d.formula d.journal (numbers_of start) L K → M ≡ K ++ Round (record { starts = numbers_of start; units = unit_lits units }) ∷ [] → length M ≤ MAX_ENTRIES
    → ss ≡ map (start_in (book d.formula M)) start → list_all may_start ss ≡ true → stand_apart ss ≡ true → list_all (is_told d.formula M) (unit_lits units) ≡ true → distinct_lits (unit_lits units) ≡ true
    → ArePaired (book d.formula M) (unit_lits units) (unit_numbers units) → MayBegin (state_of d) L start units limit
may_from d L start units limit K M ss k still going few h pushed room starts fit apart told once_each pairs =
    let Ms : M ≡ round_journal d.journal h.entries start (unit_lits units) = pushed ∙ ap (λ (N : List Entry). N ++ Round (record { starts = numbers_of start; units = unit_lits units }) ∷ []) h.grows in
    let sss : ss ≡ map (start_in (book d.formula (round_journal d.journal h.entries start (unit_lits units)))) start = starts ∙ ap (λ (N : List Entry). map (start_in (book d.formula N)) start) Ms in
    begins_at d L start units limit K k still going few h (subst (λ (N : List Entry). length N ≤ MAX_ENTRIES) Ms room) (subst (λ (xs : List ClauseAt). list_all may_start xs ≡ true) sss fit)
    (subst (λ (xs : List ClauseAt). stand_apart xs ≡ true) sss apart) (subst (λ (N : List Entry). list_all (is_told d.formula N) (unit_lits units) ≡ true) Ms told) once_each
    (subst (λ (N : List Entry). ArePaired (book d.formula N) (unit_lits units) (unit_numbers units)) Ms pairs)

-- the deletions are as many as the lines
pub deleted_room : (F : List (List Literal)) (J : List Entry) (kept : List ℕ) (L : List RoundLine) (K : List Entry) → AreDeleted F J kept L K → length K ≡ length J + length L
deleted_room F J kept L K h = let a = ap length h.grows in let b = length-append J h.entries in let n = entries_count F kept J L h.entries h.are in omega arith

-- the tests are the conditions
pub may_fit : (d : CoreData) (L : List RoundLine) (start : List (ℕ × ℕ)) (units : List (Literal × ℕ)) (limit : ℕ) (G : List (List Literal)) (J K M : List Entry) (kept ns : List ℕ) (us : List Literal) (ss : List ClauseAt) → Kept d
    → list_all (λ (x : RingState). length x.making == 0) d.rings ≡ true → list_any is_empty (added d.journal) ≡ false → limit ≤ 2 ^ 63 → length d.journal + length L < MAX_ENTRIES → G ≡ d.formula → J ≡ d.journal → kept ≡ numbers_of start
    → AreDeleted G J kept L K → ns ≡ numbers_of start → us ≡ unit_lits units → M ≡ K ++ Round (record { starts = ns; units = us }) ∷ [] → ss ≡ map (start_in (book G M)) start
    → (list_all may_start ss && (stand_apart ss && (list_all (is_told G M) (unit_lits units) && distinct_lits (unit_lits units)))) ≡ true → ArePaired (book G M) (unit_lits units) (unit_numbers units) → MayBegin (state_of d) L start units limit
may_fit d L start units limit G J K M kept ns us ss k still going few small Gs Js keeps h nss uss pushed starts all pairs =
    let x : AreDeleted d.formula d.journal (numbers_of start) L K = subst (λ (ms : List ℕ). AreDeleted d.formula d.journal ms L K) keeps (subst (λ (N : List Entry). AreDeleted d.formula N kept L K) Js (subst (λ (H : List (List Literal)). AreDeleted H J kept L K) Gs h)) in
    let ps : M ≡ K ++ Round (record { starts = numbers_of start; units = unit_lits units }) ∷ [] = pushed ∙ (λ j. K ++ Round (record { starts = nss j; units = uss j }) ∷ []) in
    let n = deleted_room d.formula d.journal (numbers_of start) L K x in
    let m = ap length ps in
    let l = length-append K (Round (record { starts = numbers_of start; units = unit_lits units }) ∷ []) in
    let a = and_parts (list_all may_start ss) _ all in
    let b = and_parts (stand_apart ss) _ a.1 in
    let t = and_parts (list_all (is_told G M) (unit_lits units)) (distinct_lits (unit_lits units)) b.1 in
    may_from d L start units limit K M ss k still going few x ps (omega arith) (starts ∙ ap (λ (H : List (List Literal)). map (start_in (book H M)) start) Gs) a.0 b.0 (subst (λ (H : List (List Literal)). list_all (is_told H M) (unit_lits units) ≡ true) Gs t.0) t.1
    (subst (λ (H : List (List Literal)). ArePaired (book H M) (unit_lits units) (unit_numbers units)) Gs pairs)
