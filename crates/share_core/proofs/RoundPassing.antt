-- What begins a round passes the tests.
use Rattle.std.proofs.Common.{◌≡◌, ◌≢◌, ℕ, zero, suc, ◌+◌, ◌^◌, ◌<◌, ◌≤◌, ◌==◌, nat_eq, Bool, true, false, not, ◌||◌, ◌&&◌, List, [], ◌∷◌, ◌++◌, map, length, take, get_or, Option, Some, None, refl, sym, ap, ◌∙◌, subst, inl, arith, eq-eqb, ne_eqb, true≢false, append-nil, append_assoc, length-append}
use Rattle.std.specs.List.{list_any, list_all, All, AllByRecursion, IsDistinct}
use Rattle.std.proofs.lemmas.Bool.{and_parts, and_from, or_parts}
use Rattle.std.proofs.lemmas.List.Elements.{All-tail}
use Rattle.std.proofs.lemmas.List.Folds.{list_any-append}
use Rattle.std.proofs.lemmas.List.Sums.{list_all-from_AllPass}
use mathlib.Core.Logic.{dite}
use native.Mathlib.Decide.{ℕ_discrete}
use Rattle.sat_words.specs.Literal.{Literal}
use Rattle.sat_words.specs.Clause.{distinct_lits, is_empty, two_or_more}
use Rattle.sat_words.specs.declared.shared.TheConstants.{MAX_ENTRIES}
use Rattle.rup_model.specs.declared.journal.TheConstants.{RULER_RING}
use Rattle.rup_model.specs.declared.journal.Entry.{Entry}
use Rattle.rup_model.specs.declared.journal.Entry.TheVariants.{Del, Round}
use Rattle.rup_model.specs.Basics.{EachAfter, one_if}
use Rattle.rup_model.specs.Journal.{Book, book, added, is_told, is_ring, IsFit}
use Rattle.rup_model.specs.Opening.{Start, IsStart}
use Rattle.rup_model.proofs.Additions.{added-append}
use Rattle.rup_model.proofs.Covers.{same_back}
use Rattle.rup_model.proofs.Units.{two_same}
use Rattle.share_core.specs.declared.round_line.RoundLine.{RoundLine}
use Rattle.share_core.specs.declared.round_line.RoundLine.TheVariants.{Add as RoundAdd, Del as RoundDel}
use Rattle.share_core.specs.declared.stored.ClauseAt.{ClauseAt}
use Rattle.share_core.specs.declared.ring.RingState.{RingState}
use Rattle.share_core.specs.State.{times_at, unit_lits, unit_numbers, ArePaired, maker_at}
use Rattle.share_core.specs.Machine.{CoreData, state_of, Kept, no_ring}
use Rattle.share_core.specs.NextRound.{has_lits, is_spare, AreEntriesOf, IsInOrder, numbers_of, start_in, NoneBuilt, is_deletion, IsDeletion, AreDeletions, AreDeleted, may_start, stand_apart, MayBegin}
use Rattle.share_core.proofs.ClauseLists.{all_in}
use Rattle.share_core.proofs.Deciding.{long_back}
use Rattle.share_core.proofs.Rounding.{entries_count}
use Rattle.share_core.proofs.RoundFitting.{numbers}

-- Rings

none_at : (hs : List ClauseAt) → ((a : ℕ) → times_at a hs ≡ 0) → (length hs == 0) ≡ true
none_at [] z = refl
none_at (h ∷ hs) z = absurd (let q = z h.address in let o : one_if (h.address == h.address) ≡ 1 = ap one_if (eq-eqb h.address h.address refl) in omega arith)

all_empty : (xs : List RingState) → ((r : ℕ) → r < length xs → (length (get_or xs r no_ring).making == 0) ≡ true) → list_all (λ (x : RingState). length x.making == 0) xs ≡ true
all_empty [] h = refl
all_empty (x ∷ xs) h = and_from _ _ (h 0 (omega arith)) (all_empty xs (λ r lt. h (suc r) (omega arith)))

still_from : (d : CoreData) → Kept d → NoneBuilt (state_of d) → list_all (λ (x : RingState). length x.making == 0) d.rings ≡ true
still_from d k none = all_empty d.rings (λ r lt. none_at (get_or d.rings r no_ring).making (λ a.
    let one : times_at a (get_or d.rings r no_ring).making ≡ one_if (is_ring r (maker_at ((state_of d).cell a))) = k.sound.counts.makes r a lt in
    one ∙ ap (λ (m : Option ℕ). one_if (is_ring r m)) (none a)))

-- Deletions

each_rest : (P : List Entry → Entry → Type 0) (before es fs : List Entry) → EachAfter P before (es ++ fs) → EachAfter P (before ++ es) fs
each_rest P before [] fs h = subst (λ (b : List Entry). EachAfter P b fs) (sym (append-nil before)) h
each_rest P before (e ∷ es) fs h = subst (λ (b : List Entry). EachAfter P b fs) (append_assoc before (e ∷ []) es) (each_rest P (before ++ e ∷ []) es fs h.1)

two_from : (o : Option (List Literal)) (c : List Literal) → has_lits c o ≡ true → (d : List Literal) × (o ≡ Some d) × (two_or_more d ≡ true) → two_or_more c ≡ true
two_from None c h f = absurd (true≢false (sym h))
two_from (Some x) c h f =
    let e : Some x ≡ Some f.0 = f.1 in let same : x ≡ f.0 = cc in
    two_same x c (same_back c x h) (subst (λ (d : List Literal). two_or_more d ≡ true) (sym same) f.2)

deletions_from : (F : List (List Literal)) (J : List Entry) (kept : List ℕ) (L : List RoundLine) (E R : List Entry) → AreEntriesOf F J kept L E → All IsInOrder L → list_all is_deletion L ≡ true
    → EachAfter (λ before e. IsFit (book F before) e) J (E ++ R) → AreDeletions F J kept L
deletions_from F J kept [] E R h o d f = tt
deletions_from F J kept (l ∷ L) [] R h o d f = absurd h
deletions_from F J kept (RoundAdd c hints ∷ L) (e ∷ E) R h o d f = absurd (true≢false (sym (and_parts false (list_all is_deletion L) d).0))
deletions_from F J kept (RoundDel n c ∷ L) (e ∷ E) R h o d f =
    let is : e ≡ Del RULER_RING n = h.0.0 in
    let spare : is_spare (book F J) kept c n ≡ true = h.0.1 in
    let fit : IsFit (book F J) (Del RULER_RING n) = subst (IsFit (book F J)) is f.0 in
    let lits = (and_parts (not (list_any (λ m. m == n) kept)) (has_lits c ((book F J).clause n)) spare).1 in
    let two : two_or_more c ≡ true = two_from ((book F J).clause n) c lits fit.names in
    let more = deletions_from F (J ++ Del RULER_RING n ∷ []) kept L E R (subst (λ (x : Entry). AreEntriesOf F (J ++ x ∷ []) kept L E) is h.1) (All-tail IsInOrder (RoundDel n c) L o)
    (and_parts true (list_all is_deletion L) d).1 (subst (λ (x : Entry). EachAfter (λ before e. IsFit (book F before) e) (J ++ x ∷ []) (E ++ R)) is f.1) in
    (n, (refl, all_in IsInOrder (RoundDel n c ∷ L) (RoundDel n c) (inl refl) o, two, spare), more)

-- the line at a place, after those before it
pub deletion_at : (F : List (List Literal)) (J : List Entry) (kept : List ℕ) (L : List RoundLine) (i : ℕ) (l : RoundLine) (E : List Entry) → AreDeletions F J kept L → AreEntriesOf F J kept (take i L) E → i < length L
    → (n : ℕ) × IsDeletion (book F (J ++ E)) kept (get_or L i l) n
deletion_at F J kept [] i l E d h lt = absurd (omega arith)
deletion_at F J kept (k ∷ L) zero l [] d h lt = (d.0, subst (λ (M : List Entry). IsDeletion (book F M) kept k d.0) (sym (append-nil J)) d.1)
deletion_at F J kept (k ∷ L) zero l (e ∷ E) d h lt = absurd h
deletion_at F J kept (k ∷ L) (suc i) l [] d h lt = absurd h
deletion_at F J kept (RoundAdd c hints ∷ L) (suc i) l (e ∷ E) d h lt = absurd d.1
deletion_at F J kept (RoundDel m c ∷ L) (suc i) l (e ∷ E) d h lt =
    let is : Del RULER_RING d.0 ≡ e = ap (λ (k : ℕ). Del RULER_RING k) (sym d.1.0) ∙ sym h.0.0 in
    let more = deletion_at F (J ++ e ∷ []) kept L i l E (subst (λ (x : Entry). AreDeletions F (J ++ x ∷ []) kept L) is d.2) h.1 (omega arith) in
    (more.0, subst (λ (M : List Entry). IsDeletion (book F M) kept (get_or L i l) more.0) (append_assoc J (e ∷ []) E) more.1)

entries_same : (F : List (List Literal)) (J : List Entry) (kept : List ℕ) (L : List RoundLine) (D E : List Entry) → AreEntriesOf F J kept L D → AreEntriesOf F J kept L E → D ≡ E
entries_same F J kept [] [] [] g h = refl
entries_same F J kept [] (d ∷ D) E g h = absurd g
entries_same F J kept [] [] (e ∷ E) g h = absurd h
entries_same F J kept (l ∷ L) [] E g h = absurd g
entries_same F J kept (l ∷ L) (d ∷ D) [] g h = absurd h
entries_same F J kept (l ∷ L) (d ∷ D) (e ∷ E) g h =
    let is : d ≡ e = g.0.0 ∙ sym h.0.0 in
    let rest = entries_same F (J ++ e ∷ []) kept L D E (subst (λ (x : Entry). AreEntriesOf F (J ++ x ∷ []) kept L D) is g.1) h.1 in (λ j. is j ∷ rest j)

-- Start clauses

starts_pass : (b : Book) (ss : List ClauseAt) → All (IsStart b) (map (λ (s : ClauseAt). record { number = s.number; lits = s.lits }) ss) → All (λ (s : ClauseAt). s.address ≢ 0) ss → list_all may_start ss ≡ true
starts_pass b [] h p = refl
starts_pass b (s ∷ ss) h p =
    let t : Start = record { number = s.number; lits = s.lits } in
    let ts : List Start = map (λ (s : ClauseAt). record { number = s.number; lits = s.lits }) ss in
    let here : IsStart b t = all_in (IsStart b) (t ∷ ts) t (inl refl) h in
    let placed : s.address ≢ 0 = all_in (λ (x : ClauseAt). x.address ≢ 0) (s ∷ ss) s (inl refl) p in
    and_from _ _ (and_from _ _ (ap not (ne_eqb s.address 0 placed)) (long_back s.lits here.shape)) (starts_pass b ss (All-tail (IsStart b) t ts h) (All-tail (λ (x : ClauseAt). x.address ≢ 0) s ss p))

neither : (x y : Bool) → x ≡ false → y ≡ false → (x || y) ≡ false
neither true y p q = absurd (true≢false p)
neither false y p q = q

other_address : (a : ℕ) (h : ClauseAt) → one_if (h.address == a) ≡ 0 → (h.address == a) ≡ false
other_address a h z = dite (ℕ_discrete h.address a) (λ e. absurd (let o : one_if (h.address == a) ≡ 1 = ap one_if (eq-eqb h.address a e) in omega arith)) (λ n. ne_eqb h.address a n)

other_number : (n m : ℕ) → nat_eq n m ≡ false → (m == n) ≡ false
other_number n m f = dite (ℕ_discrete m n) (λ e. absurd (true≢false (sym (eq-eqb n m (sym e)) ∙ f))) (λ d. ne_eqb m n d)

none_among : (a n : ℕ) (hs : List ClauseAt) → times_at a hs ≡ 0 → AllByRecursion (λ (m : ℕ). nat_eq n m ≡ false) (numbers hs) → list_any (λ (h : ClauseAt). (h.address == a) || (h.number == n)) hs ≡ false
none_among a n [] t d = refl
none_among a n (h ∷ hs) t d =
    neither _ _ (neither _ _ (other_address a h (omega arith)) (other_number n h.number d.0)) (none_among a n hs (omega arith) d.1)

apart_from : (hs : List ClauseAt) → ((a : ℕ) → times_at a hs ≤ 1) → IsDistinct nat_eq (numbers hs) → stand_apart hs ≡ true
unfolding IsDistinct
apart_from [] t d = refl
apart_from (h ∷ hs) t d =
    let o : one_if (h.address == h.address) ≡ 1 = ap one_if (eq-eqb h.address h.address refl) in
    let here : times_at h.address hs ≡ 0 = (let q = t h.address in omega arith) in
    and_from _ _ (ap not (none_among h.address h.number hs here d.0)) (apart_from hs (λ a. let q = t a in omega arith) d.1)

-- All of it

-- start clauses and units fit after the journal
abbrev pub FitAfter : List (List Literal) → List Entry → List ClauseAt → List (Literal × ℕ) → Type 0
FitAfter F M ss units = ((list_all may_start ss && (stand_apart ss && (list_all (is_told F M) (unit_lits units) && distinct_lits (unit_lits units)))) ≡ true) × ArePaired (book F M) (unit_lits units) (unit_numbers units)

-- what the tests ask, of deletions after which the round begins
pub record Passes (d : CoreData) (L : List RoundLine) (start : List (ℕ × ℕ)) (units : List (Literal × ℕ)) (limit : ℕ) : Type 0 where
  pub still : list_all (λ (x : RingState). length x.making == 0) d.rings ≡ true
  pub going : list_any is_empty (added d.journal) ≡ false
  pub few : limit ≤ 2 ^ 63
  pub small : length d.journal + length L < MAX_ENTRIES
  pub deletions : AreDeletions d.formula d.journal (numbers_of start) L
  pub fits : (K : List Entry) → AreDeleted d.formula d.journal (numbers_of start) L K → let M : List Entry = K ++ Round (record { starts = numbers_of start; units = unit_lits units }) ∷ [] in FitAfter d.formula M (map (start_in (book d.formula M)) start) units

pub passes : (d : CoreData) (L : List RoundLine) (start : List (ℕ × ℕ)) (units : List (Literal × ℕ)) (limit : ℕ) → Kept d → list_all is_deletion L ≡ true → MayBegin (state_of d) L start units limit → Passes d L start units limit
passes d L start units limit k only m =
    let E : List Entry = m.opens.0 in
    let n = m.opens.1 in
    let o = n.opens in
    let x : Entry = Round (record { starts = numbers_of start; units = unit_lits units }) in
    let M : List Entry = (d.journal ++ E) ++ x ∷ [] in
    let room : length M ≤ MAX_ENTRIES = o.room in
    let a = length-append (d.journal ++ E) (x ∷ []) in
    let b = length-append d.journal E in
    let c = entries_count d.formula (numbers_of start) d.journal L E n.entries in
    let none : list_any is_empty (added M) ≡ false = o.opens.going in
    let apart : list_any is_empty (added d.journal ++ added (E ++ x ∷ [])) ≡ false = ap (list_any is_empty) (sym (added-append d.journal (E ++ x ∷ [])) ∙ ap added (sym (append_assoc d.journal E (x ∷ [])))) ∙ none in
    let fit : EachAfter (λ before e. IsFit (book d.formula before) e) [] (d.journal ++ (E ++ x ∷ [])) = subst (λ (N : List Entry). EachAfter (λ before e. IsFit (book d.formula before) e) [] N) (append_assoc d.journal E (x ∷ [])) o.opens.fits in
    let ss : List ClauseAt = map (start_in (book d.formula M)) start in
    record {
      still = still_from d k m.built;
      going = (or_parts (list_any is_empty (added d.journal)) (list_any is_empty (added (E ++ x ∷ []))) (sym (list_any-append is_empty (added d.journal) (added (E ++ x ∷ []))) ∙ apart)).0;
      few = o.limited;
      small = omega arith;
      deletions = deletions_from d.formula d.journal (numbers_of start) L E (x ∷ []) n.entries m.ordered only (each_rest (λ before e. IsFit (book d.formula before) e) [] d.journal (E ++ x ∷ []) fit);
      fits = λ K h.
          let same : M ≡ K ++ x ∷ [] = ap (λ (N : List Entry). N ++ x ∷ []) (ap (λ (D : List Entry). d.journal ++ D) (entries_same d.formula d.journal (numbers_of start) L E h.entries n.entries h.are) ∙ sym h.grows) in
          subst (λ (N : List Entry). FitAfter d.formula N (map (start_in (book d.formula N)) start) units) same
          (and_from _ _ (starts_pass (book d.formula M) ss o.opens.starts o.placed) (and_from _ _ (apart_from ss o.apart o.opens.numbers) (and_from _ _ (list_all-from_AllPass (is_told d.formula M) (unit_lits units) o.opens.told) o.opens.distinct)), o.paired);
    }

-- the same of the lists that the tests read
pub fits_read : (d : CoreData) (L : List RoundLine) (start : List (ℕ × ℕ)) (units : List (Literal × ℕ)) (limit : ℕ) (G : List (List Literal)) (J K M : List Entry) (kept ns : List ℕ) (us : List Literal) (ss : List ClauseAt) → Passes d L start units limit
    → G ≡ d.formula → J ≡ d.journal → kept ≡ numbers_of start → AreDeleted G J kept L K → ns ≡ numbers_of start → us ≡ unit_lits units → M ≡ K ++ Round (record { starts = ns; units = us }) ∷ [] → ss ≡ map (start_in (book G M)) start → FitAfter G M ss units
fits_read d L start units limit G J K M kept ns us ss p Gs Js keeps h nss uss pushed starts =
    let x : AreDeleted d.formula d.journal (numbers_of start) L K = subst (λ (ms : List ℕ). AreDeleted d.formula d.journal ms L K) keeps (subst (λ (N : List Entry). AreDeleted d.formula N kept L K) Js (subst (λ (H : List (List Literal)). AreDeleted H J kept L K) Gs h)) in
    let ps : M ≡ K ++ Round (record { starts = numbers_of start; units = unit_lits units }) ∷ [] = pushed ∙ (λ j. K ++ Round (record { starts = nss j; units = uss j }) ∷ []) in
    let here : FitAfter d.formula M (map (start_in (book d.formula M)) start) units = subst (λ (N : List Entry). FitAfter d.formula N (map (start_in (book d.formula N)) start) units) (sym ps) (p.fits K x) in
    let there : FitAfter G M (map (start_in (book G M)) start) units = subst (λ (H : List (List Literal)). FitAfter H M (map (start_in (book H M)) start) units) (sym Gs) here in
    subst (λ (hs : List ClauseAt). FitAfter G M hs units) (sym starts) there

pub deletions_read : (d : CoreData) (L : List RoundLine) (start : List (ℕ × ℕ)) (units : List (Literal × ℕ)) (limit : ℕ) (G : List (List Literal)) (J : List Entry) (kept : List ℕ) → Passes d L start units limit
    → G ≡ d.formula → J ≡ d.journal → kept ≡ numbers_of start → AreDeletions G J kept L
deletions_read d L start units limit G J kept p Gs Js keeps =
    subst (λ (ms : List ℕ). AreDeletions G J ms L) (sym keeps) (subst (λ (N : List Entry). AreDeletions G N (numbers_of start) L) (sym Js) (subst (λ (H : List (List Literal)). AreDeletions H d.journal (numbers_of start) L) (sym Gs) p.deletions))
