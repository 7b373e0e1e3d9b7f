-- What the ruler's lines become is told by the lines alone.
use Rattle.std.proofs.Common.{◌≡◌, ℕ, zero, suc, ◌+◌, ◌<◌, ◌≤◌, ◌==◌, not, true, false, List, [], ◌∷◌, ◌++◌, All, map, length, take, get_or, Option, Some, None, Result, Ok, Err, IfOk, refl, sym, ap, ◌∙◌, subst, arith, true≢false, append-nil, append_assoc, length-append, cond}
use Rattle.std.specs.declared.alloc.AllocError.{AllocError}
use Rattle.std.specs.List.{list_any, slice_get}
use Rattle.std.proofs.lemmas.Bool.{and_parts}
use Rattle.std.proofs.lemmas.List.{take_all, take_more, map-append}
use Rattle.std.proofs.lemmas.List.Elements.{All-head, All-tail}
use Rattle.std.specs.Option.{option_map, unwrap_or}
use Rattle.sat_words.specs.Literal.{Literal}
use Rattle.sat_words.specs.Clause.{InOrder, clause_of}
use Rattle.sat_words.specs.declared.line.Line.{Line}
use Rattle.sat_words.specs.declared.line.Line.TheVariants.{Del as DelLine}
use Rattle.sat_words.proofs.Insertion.{clause_of_in_order, clause_of_alike}
use Rattle.rup_model.specs.declared.journal.Entry.{Entry}
use Rattle.rup_model.specs.declared.journal.Entry.TheVariants.{Round}
use Rattle.rup_model.specs.declared.journal.Round.{Round as RoundStart}
use Rattle.rup_model.specs.Journal.{formula_clause, Book, book_after, book, lines, lines_after}
use Rattle.rup_model.proofs.Covers.{same_has}
use Rattle.rup_model.proofs.Numbers.{lines_last}
use Rattle.sat_words.specs.declared.shared.TheConstants.{MAX_ENTRIES}
use Rattle.share_core.specs.declared.stored.ClauseAt.{ClauseAt}
use Rattle.share_core.specs.declared.round_line.RoundLine.{RoundLine}
use Rattle.share_core.specs.declared.round_line.RoundLine.TheVariants.{Add as RoundAdd, Del as RoundDel}
use Rattle.share_core.specs.State.{CoreOpening, unit_lits, unit_numbers, State, opened}
use Rattle.share_core.specs.Machine.{CoreData, state_of}
use Rattle.share_core.specs.NextRound.{line_of, has_lits, entry_of, IsEntryOf, AreEntriesOf, IsInOrder, numbers_of, start_in, round_journal, next_opening, IsNextRound}

-- The clauses under a number

-- the clause under a number, as the formula keeps it
pub given_at : (F : List (List Literal)) (n k : ℕ) (d : List Literal) → n ≡ suc k → k < length F → InOrder (get_or F k d) → Some (get_or F k d) ≡ formula_clause F n
given_at F n k d e lt o = at F k lt o ∙ ap (formula_clause F) (sym e)
  where
    at : (G : List (List Literal)) (i : ℕ) → i < length G → InOrder (get_or G i d) → Some (get_or G i d) ≡ option_map clause_of (slice_get G i)
    at [] i lt o = absurd (omega arith)
    at (c ∷ G) zero lt o = ap (λ (q : List Literal). Some q) (sym (clause_of_in_order c o))
    at (c ∷ G) (suc i) lt o = at G i (omega arith) o

-- a round spells its start clauses in order, and leaves the others
pub round_spells : (b : Book) (x : RoundStart) (n : ℕ) (c : Option (List Literal)) → list_any (λ m. m == n) x.starts ≡ true → c ≡ b.clause n → option_map clause_of c ≡ (book_after b (Round x)).clause n
round_spells b x n c is e = ap (option_map clause_of) e ∙ (λ j. cond (sym is j) (option_map clause_of (b.clause n)) (b.clause n))

pub round_leaves : (b : Book) (x : RoundStart) (n : ℕ) (c : Option (List Literal)) → list_any (λ m. m == n) x.starts ≡ false → c ≡ b.clause n → c ≡ (book_after b (Round x)).clause n
round_leaves b x n c is e = e ∙ (λ j. cond (sym is j) (option_map clause_of (b.clause n)) (b.clause n))

-- Entries of lines

-- the entry of the line at a place
pub entry_at : (F : List (List Literal)) (kept : List ℕ) (J : List Entry) (L : List RoundLine) (E : List Entry) (i : ℕ) (d : RoundLine) → AreEntriesOf F J kept L E → i < length L
    → (e : Entry) × (take (suc i) E ≡ take i E ++ e ∷ []) × IsEntryOf (book F (J ++ take i E)) kept (get_or L i d) e
entry_at F kept J [] E i d h lt = absurd (omega arith)
entry_at F kept J (l ∷ L) [] i d h lt = absurd h
entry_at F kept J (l ∷ L) (e ∷ E) zero d h lt = (e, refl, subst (λ (K : List Entry). IsEntryOf (book F K) kept l e) (sym (append-nil J)) h.0)
entry_at F kept J (l ∷ L) (e ∷ E) (suc i) d h lt = let t = entry_at F kept (J ++ e ∷ []) L E i d h.1 (omega arith) in
    (t.0, ap (λ (K : List Entry). e ∷ K) t.1, subst (λ (K : List Entry). IsEntryOf (book F K) kept (get_or L i d) t.0) (append_assoc J (e ∷ []) (take i E)) t.2)

-- there are as many entries as lines
pub entries_count : (F : List (List Literal)) (kept : List ℕ) (J : List Entry) (L : List RoundLine) (E : List Entry) → AreEntriesOf F J kept L E → length E ≡ length L
entries_count F kept J [] [] h = refl
entries_count F kept J [] (e ∷ E) h = absurd h
entries_count F kept J (l ∷ L) [] h = absurd h
entries_count F kept J (l ∷ L) (e ∷ E) h = let r = entries_count F kept (J ++ e ∷ []) L E h.1 in omega arith

-- the next entry is that of the next line
pub entry_next : (F : List (List Literal)) (kept : List ℕ) (J K : List Entry) (L : List RoundLine) (i : ℕ) (l : RoundLine) (e : Entry) (E : List Entry) → AreEntriesOf F J kept L E → i < length L → l ≡ get_or L i l
    → K ≡ J ++ take i E → e ≡ entry_of (book F K) l → K ++ e ∷ [] ≡ J ++ take (i + 1) E
entry_next F kept J K L i l e E h lt at is own =
    let t = entry_at F kept J L E i l h lt in
    let z : suc i ≡ i + 1 = omega arith in
    let same : e ≡ t.0 = own ∙ (λ j. entry_of (book F (is j)) (at j)) ∙ sym t.2.0 in
    (λ j. is j ++ same j ∷ []) ∙ append_assoc J (take i E) (t.0 ∷ []) ∙ ap (λ (M : List Entry). J ++ M) (sym t.1 ∙ ap (λ (k : ℕ). take k E) z)

-- all entries are there once all lines are
pub entries_end : (F : List (List Literal)) (kept : List ℕ) (J : List Entry) (L : List RoundLine) (i : ℕ) (E : List Entry) → AreEntriesOf F J kept L E → length L ≤ i → take i E ≡ E
entries_end F kept J L i E h le = let n = entries_count F kept J L E h in take_all i E (omega arith)

-- one more line is told
pub line_next : (T U V : List Line) (L : List RoundLine) (i : ℕ) (l : RoundLine) (k : Line) → i < length L → l ≡ get_or L i l → k ≡ line_of l → U ≡ T ++ map line_of (take i L) → V ≡ U ++ k ∷ [] → V ≡ T ++ map line_of (take (i + 1) L)
line_next T U V L i l k lt at same is more =
    let next : take (i + 1) L ≡ take i L ++ l ∷ [] = take_more L i l lt ∙ (λ j. take i L ++ sym at j ∷ []) in
    more ∙ (λ j. is j ++ same j ∷ []) ∙ append_assoc T (map line_of (take i L)) (line_of l ∷ [])
    ∙ ap (λ (M : List Line). T ++ M) (sym (ap (map line_of) next ∙ map-append line_of (take i L) (l ∷ [])))

-- What the entries tell

-- the line of a line's entry is that line
told_entry : (b : Book) (kept : List ℕ) (l : RoundLine) (e : Entry) → IsEntryOf b kept l e → IsInOrder l → lines_after b e ≡ line_of l ∷ []
told_entry b kept (RoundAdd c hints) e h s = ap (lines_after b) h.0
told_entry b kept (RoundDel n c) e h s = ap (lines_after b) h.0 ∙ by (b.clause n) (and_parts (not (list_any (λ m. m == n) kept)) (has_lits c (b.clause n)) h.1).1
  where
    by : (o : Option (List Literal)) → has_lits c o ≡ true → ◌≡◌ {A = List Line} (DelLine (clause_of (unwrap_or o [])) ∷ []) (DelLine c ∷ [])
    by None q = absurd (true≢false (sym q))
    by (Some d) q = ap (λ (x : List Literal). DelLine x ∷ []) (clause_of_alike d c (λ l. sym (same_has c d q l)) ∙ s)

-- the lines of the entries are these lines
pub told_lines : (F : List (List Literal)) (kept : List ℕ) (J : List Entry) (L : List RoundLine) (E : List Entry) → AreEntriesOf F J kept L E → All IsInOrder L → lines F (J ++ E) ≡ lines F J ++ map line_of L
told_lines F kept J [] [] h s = ap (lines F) (append-nil J) ∙ sym (append-nil (lines F J))
told_lines F kept J [] (e ∷ E) h s = absurd h
told_lines F kept J (l ∷ L) [] h s = absurd h
told_lines F kept J (l ∷ L) (e ∷ E) h s =
    ap (lines F) (sym (append_assoc J (e ∷ []) E))
    ∙ told_lines F kept (J ++ e ∷ []) L E h.1 (All-tail IsInOrder l L s)
    ∙ (λ j. lines_last F J e j ++ map line_of L)
    ∙ (λ j. (lines F J ++ told_entry (book F J) kept l e h.0 (All-head IsInOrder l L s) j) ++ map line_of L)
    ∙ append_assoc (lines F J) (line_of l ∷ []) (map line_of L)

-- and the beginning of a round tells nothing
pub told_round : (F : List (List Literal)) (kept : List ℕ) (J : List Entry) (L : List RoundLine) (E : List Entry) (x : RoundStart) → AreEntriesOf F J kept L E → All IsInOrder L → lines F ((J ++ E) ++ Round x ∷ []) ≡ lines F J ++ map line_of L
told_round F kept J L E x h s = lines_last F (J ++ E) (Round x) ∙ append-nil (lines F (J ++ E)) ∙ told_lines F kept J L E h s

-- The opening of the next round

-- there is room for as many entries as lines
pub round_room : (c : State) (L : List RoundLine) (start : List (ℕ × ℕ)) (units : List (Literal × ℕ)) (limit : ℕ) (E : List Entry) → IsNextRound c L start units limit E → length c.journal + length L ≤ MAX_ENTRIES
round_room c L start units limit E h =
    let r = h.opens.room in
    let n = entries_count c.opening.formula (numbers_of start) c.journal L E h.entries in
    let a = length-append c.journal E in
    let b = length-append (c.journal ++ E) (Round (record { starts = numbers_of start; units = unit_lits units }) ∷ []) in
    omega arith

-- what has these parts is the opening
pub round_opens : (c : State) (start : List (ℕ × ℕ)) (units : List (Literal × ℕ)) (limit : ℕ) (E : List Entry) (R : ℕ) (ns : List ℕ) (us : List Literal) (J K M : List Entry) (F : List (List Literal)) (ss : List ClauseAt)
    → R ≡ c.opening.rings → J ≡ c.journal ++ E → ns ≡ numbers_of start → us ≡ unit_lits units → K ≡ J ++ Round (record { starts = ns; units = us }) ∷ [] → F ≡ c.opening.formula → M ≡ K → ss ≡ map (start_in (book F M)) start
    → ◌≡◌ {A = CoreOpening} (record { formula = c.opening.formula; rings = R; depth = c.opening.depth; journal = K; starts = ss; units = unit_lits units; numbers = unit_numbers units; limit = limit; hinted = c.opening.hinted }) (next_opening c E start units limit)
round_opens c start units limit E R ns us J K M F ss rings added numbers listed pushed formula same starts =
    let Ks : K ≡ round_journal c.journal E start (unit_lits units) = pushed ∙ (λ j. added j ++ Round (record { starts = numbers j; units = listed j }) ∷ []) in
    let all : ss ≡ map (start_in (book c.opening.formula (round_journal c.journal E start (unit_lits units)))) start = starts ∙ (λ j. map (start_in (book (formula j) ((same ∙ Ks) j))) start) in
    λ j. record { formula = c.opening.formula; rings = rings j; depth = c.opening.depth; journal = Ks j; starts = all j; units = unit_lits units; numbers = unit_numbers units; limit = limit; hinted = c.opening.hinted }

-- the lines of what is opened are those of its opening
pub opened_lines : (r : Result CoreData AllocError) (o : CoreOpening) (L : List Line) → IfOk r (λ core. state_of core ≡ opened o) → lines o.formula o.journal ≡ L → IfOk r (λ core. lines core.formula core.journal ≡ L)
opened_lines (Ok d) o L is told = (λ j. lines (is j).opening.formula (is j).journal) ∙ told
opened_lines (Err e) o L is told = tt

-- equal clauses have the same entries
pub entries_from : (F G : List (List Literal)) (J : List Entry) (kept : List ℕ) (L : List RoundLine) (E : List Entry) → G ≡ F → AreEntriesOf F J kept L E → AreEntriesOf G J kept L E
entries_from F G J kept L E f h = subst (λ (H : List (List Literal)). AreEntriesOf H J kept L E) (sym f) h

-- there is room for the journal that begins the round
pub round_fits : (c : State) (L : List RoundLine) (start : List (ℕ × ℕ)) (units : List (Literal × ℕ)) (limit : ℕ) (E : List Entry) (ns : List ℕ) (us : List Literal) (J K M : List Entry) → IsNextRound c L start units limit E
    → J ≡ c.journal ++ E → ns ≡ numbers_of start → us ≡ unit_lits units → K ≡ J ++ Round (record { starts = ns; units = us }) ∷ [] → M ≡ K → length M ≤ MAX_ENTRIES
round_fits c L start units limit E ns us J K M h added numbers listed pushed same =
    subst (λ (N : List Entry). length N ≤ MAX_ENTRIES) (sym (same ∙ pushed ∙ (λ j. added j ++ Round (record { starts = numbers j; units = listed j }) ∷ []))) h.opens.room
