-- Each start clause and each later addition of two literals or more that is alive is the clause of a cell.
use Rattle.std.proofs.Common.{◌≡◌, ℕ, true, List, [], ◌∷◌, ◌++◌, Option, Some, None, sym, ap, ◌∙◌}
use Rattle.sat_words.specs.Literal.{Literal}
use Rattle.sat_words.specs.Clause.{two_or_more}
use Rattle.rup_model.specs.declared.journal.Entry.{Entry}
use Rattle.rup_model.specs.declared.journal.Entry.TheVariants.{Add, Del}
use Rattle.rup_model.specs.declared.journal.Addition.{Addition}
use Rattle.rup_model.specs.Basics.{put}
use Rattle.rup_model.specs.Journal.{book_after, book, spelled}
use Rattle.rup_model.proofs.Sums.{at_put, put_here, put_else}
use Rattle.rup_model.proofs.Numbers.{book_last}
use Rattle.share_core.specs.declared.stored.Cell.{Cell}
use Rattle.share_core.specs.State.{CoreOpening}
use Rattle.share_core.specs.Sound.{AllInCells}
use Rattle.share_core.proofs.Counting.{none_some, some_same}
use Rattle.share_core.proofs.Copies.{Keeps}

-- cells keep their numbers
pub whole_kept : (o : CoreOpening) (J : List Entry) (f f' : ℕ → Option Cell) → AllInCells o J f → ((a : ℕ) → Keeps f f' a) → AllInCells o J f'
whole_kept o J f f' h keep n c shared alive two = let t = h n c shared alive two in let y = keep t.0 t.1 t.2 in (t.0, y.0, y.1, y.2 ∙ t.3)

-- one more entry, which adds no such clause
pub whole_more : (o : CoreOpening) (J : List Entry) (f : ℕ → Option Cell) (e : Entry) → AllInCells o J f
    → ((n : ℕ) (c : List Literal) → two_or_more c ≡ true → (book_after (book o.formula J) e).clause n ≡ Some c → (book o.formula J).clause n ≡ Some c)
    → AllInCells o (J ++ e ∷ []) f
whole_more o J f e h same n c shared alive two = h n c shared (same n c two (ap (λ b. b.clause n) (sym (book_last o.formula J e)) ∙ alive)) two

-- an addition with fewer literals
pub few_added : (o : CoreOpening) (J : List Entry) (x : Addition) → (two_or_more (spelled x) ≡ true → ⊥)
    → (n : ℕ) (c : List Literal) → two_or_more c ≡ true → (book_after (book o.formula J) (Add x)).clause n ≡ Some c → (book o.formula J).clause n ≡ Some c
few_added o J x few n c two = at_put (book o.formula J).clause (book o.formula J).next (Some (spelled x)) (λ (q : Option (List Literal)). q ≡ Some c → (book o.formula J).clause n ≡ Some c) n
    (λ e is. absurd (few (ap two_or_more (some_same (spelled x) c is) ∙ two)))
    (λ ne is. is)

-- an addition with its cell
pub whole_begun : (o : CoreOpening) (J : List Entry) (f : ℕ → Option Cell) (a : ℕ) (x : Addition) (new : Cell) → AllInCells o J f → f a ≡ None → new.number ≡ (book o.formula J).next
    → AllInCells o (J ++ Add x ∷ []) (put f a (Some new))
whole_begun o J f a x new h free number n c shared alive two =
    at_put (book o.formula J).clause (book o.formula J).next (Some (spelled x)) (λ (q : Option (List Literal)). q ≡ Some c → (b : ℕ) × (y : Cell) × (put f a (Some new) b ≡ Some y) × (y.number ≡ n)) n
    (λ e is. (a, new, put_here f a (Some new), number ∙ sym e))
    (λ ne is. (let t = h n c shared is two in (t.0, t.1, put_else f a (Some new) t.0 (λ q. none_some t.1 (sym free ∙ ap f (sym q) ∙ t.2)) ∙ t.2, t.3)))
    (ap (λ b. b.clause n) (sym (book_last o.formula J (Add x))) ∙ alive)

-- a deletion with its cell
pub whole_buried : (o : CoreOpening) (J : List Entry) (f : ℕ → Option Cell) (r a k : ℕ) (x : Cell) → AllInCells o J f → f a ≡ Some x → k ≡ x.number
    → AllInCells o (J ++ Del r k ∷ []) (put f a None)
whole_buried o J f r a k x h is number n c shared alive two =
    let none : Option (List Literal) = None in
    at_put (book o.formula J).clause k none (λ (q : Option (List Literal)). q ≡ Some c → (b : ℕ) × (y : Cell) × (put f a None b ≡ Some y) × (y.number ≡ n)) n
    (λ e gone. absurd (none_some c gone))
    (λ ne still. (let t = h n c shared still two in
    (t.0, t.1, put_else f a None t.0 (λ q. ne (sym t.3 ∙ ap (λ (y : Cell). y.number) (some_same t.1 x (sym t.2 ∙ ap f q ∙ is)) ∙ sym number)) ∙ t.2, t.3)))
    (ap (λ b. b.clause n) (sym (book_last o.formula J (Del r k))) ∙ alive)
