-- A unit that an entry adds keeps its number.
use Rattle.std.proofs.Common.{◌≡◌, ℕ, ◌<◌, ◌==◌, Bool, true, false, List, [], ◌∷◌, sym, ap, ◌∙◌, subst, inl, inr, arith, true≢false, if◌then◌else◌, Some, None}
use Rattle.std.specs.List.{list_any, fold}
use Rattle.std.specs.Option.{option_map}
use Rattle.sat_words.specs.Literal.{Literal}
use Rattle.sat_words.specs.Clause.{clause_of, two_or_more}
use Rattle.rup_model.specs.declared.journal.TheConstants.{RULER_RING}
use Rattle.rup_model.specs.declared.journal.Addition.{Addition}
use Rattle.rup_model.specs.declared.journal.Entry.{Entry}
use Rattle.rup_model.specs.declared.journal.Entry.TheVariants.{Add, Del, Reduce, Round}
use Rattle.rup_model.specs.Journal.{Book, book, book_after, formula_book, spelled, IsFit, Fits}
use Rattle.rup_model.proofs.Lists.{In}
use Rattle.rup_model.proofs.Sequences.{EachState, to_states}
use Rattle.rup_model.proofs.Sums.{put_here, put_else}
use Rattle.share_core.proofs.Counting.{some_same}

-- the number of a unit is none that an entry deletes
unit_stays : (b : Book) (e : Entry) (n : ℕ) (l : Literal) → IsFit b e → n < b.next → b.clause n ≡ Some (l ∷ []) → ((book_after b e).clause n ≡ Some (l ∷ [])) × (n < (book_after b e).next)
unit_stays b (Add x) n l fit low is = (put_else b.clause b.next (Some (spelled x)) n (λ q. omega arith) ∙ is, omega arith)
unit_stays b (Del r m) n l fit low is = let t = fit.names in (
  put_else b.clause m None n (λ q. true≢false (sym t.2 ∙ ap two_or_more (some_same t.0 (l ∷ []) (sym t.1 ∙ ap b.clause (sym q) ∙ is)))) ∙ is,
  low,
)
unit_stays b (Reduce r) n l fit low is = (is, low)
unit_stays b (Round x) n l fit low is = (by (list_any (λ (m : ℕ). m == n) x.starts), low)
  where
    by : (t : Bool) → (if t then option_map clause_of (b.clause n) else b.clause n) ≡ Some (l ∷ [])
    by true = ap (option_map clause_of) is
    by false = is

units_stay : (b : Book) (J : List Entry) (n : ℕ) (l : Literal) → EachState book_after IsFit b J → n < b.next → b.clause n ≡ Some (l ∷ []) → (fold book_after b J).clause n ≡ Some (l ∷ [])
units_stay b [] n l fits low is = is
units_stay b (e ∷ J) n l fits low is = let t = unit_stays b e n l fits.0 low is in units_stay (book_after b e) J n l fits.1 t.1 t.0

-- how it is spelled does not matter
unit_spelled : (x : Addition) (l : Literal) → x.lits ≡ l ∷ [] → spelled x ≡ l ∷ []
unit_spelled x l is = by (x.ring == RULER_RING)
  where
    by : (t : Bool) → (if t then clause_of x.lits else x.lits) ≡ l ∷ []
    by true = ap clause_of is
    by false = is

unit_from : (b : Book) (J : List Entry) (x : Addition) (l : Literal) → EachState book_after IsFit b J → In (Add x) J → x.lits ≡ l ∷ [] → (fold book_after b J).clause x.number ≡ Some (l ∷ [])
unit_from b [] x l fits i is = absurd i
unit_from b (e ∷ J) x l fits (inl same) is =
    let first : IsFit b (Add x) = subst (IsFit b) same fits.0 in
    let number : x.number ≡ b.next = first.numbered in
    let here : (book_after b (Add x)).clause x.number ≡ Some (l ∷ []) = ap (book_after b (Add x)).clause number ∙ put_here b.clause b.next (Some (spelled x)) ∙ ap (λ (c : List Literal). Some c) (unit_spelled x l is) in
    let low : x.number < (book_after b (Add x)).next = omega arith in
    subst (λ (y : Entry). (fold book_after (book_after b y) J).clause x.number ≡ Some (l ∷ [])) (sym same)
    (units_stay (book_after b (Add x)) J x.number l (subst (λ (y : Entry). EachState book_after IsFit (book_after b y) J) same fits.1) low here)
unit_from b (e ∷ J) x l fits (inr i) is = unit_from (book_after b e) J x l fits.1 i is

pub unit_numbered : (F : List (List Literal)) (J : List Entry) (x : Addition) (l : Literal) → Fits F J → In (Add x) J → x.lits ≡ l ∷ [] → (book F J).clause x.number ≡ Some (l ∷ [])
unit_numbered F J x l fits i is = unit_from (formula_book F) J x l (to_states book_after IsFit (formula_book F) [] J fits) i is
