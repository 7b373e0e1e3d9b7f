-- What scans of a journal find.
use Rattle.std.proofs.Common.{◌≡◌, ℕ, suc, ◌+◌, ◌<◌, ◌≤◌, ◌&&◌, ◌||◌, Bool, true, false, not, map, List, [], ◌∷◌, ◌++◌, length, take, get_or, fold, refl, sym, ap, ◌∙◌, arith}
use Rattle.std.specs.List.{list_any, list_all}
use Rattle.std.proofs.lemmas.List.{take_more}
use Rattle.std.proofs.lemmas.List.Folds.{list_any-append}
use Rattle.sat_words.specs.Literal.{Literal, same}
use Rattle.sat_words.specs.Clause.{has, is_empty, same_set, includes}
use Rattle.rup_model.specs.declared.journal.Entry.{Entry}
use Rattle.rup_model.specs.declared.journal.Entry.TheVariants.{Add, Del, Reduce, Round}
use Rattle.rup_model.specs.Journal.{added, additions, Book, formula_book, book_after, book, ended, is_told, recent_after, recent, fresh}
use Rattle.rup_model.proofs.Sequences.{fold_last}
use Rattle.rup_model.specs.Opening.{Start, start_clauses}
use Rattle.share_core.specs.declared.stored.ClauseAt.{ClauseAt}
use Rattle.share_core.specs.State.{CoreOpening, opening_of, later, Part}
use Rattle.share_core.specs.Machine.{adds}

-- the items up to the next
pub next_taken : {X : Type 0} (xs : List X) (i : ℕ) (x : X) → i < length xs → x ≡ get_or xs i x → take (i + 1) xs ≡ take i xs ++ x ∷ []
next_taken {X} xs i x lt at = take_more xs i x lt ∙ ap (λ (y : X). take i xs ++ y ∷ []) (sym at)

or_false : (x : Bool) → (x || false) ≡ x
or_false true = refl
or_false false = refl

pub any_added : (p : List Literal → Bool) (J : List Entry) → list_any p (added J) ≡ list_any (adds p) J
any_added p [] = refl
any_added p (Add x ∷ J) = (λ j. sym (or_false (p x.lits)) j || any_added p J j)
any_added p (Del r n ∷ J) = any_added p J
any_added p (Reduce r ∷ J) = any_added p J
any_added p (Round x ∷ J) = any_added p J

pub given_or_added : (p : List Literal → Bool) (F : List (List Literal)) (J : List Entry) → list_any p (F ++ added J) ≡ (list_any p F || list_any (adds p) J)
given_or_added p F J = list_any-append p F (added J) ∙ ap (λ (b : Bool). list_any p F || b) (any_added p J)

pub ended_parts : (F : List (List Literal)) (J : List Entry) → ended F J ≡ (list_any is_empty F || list_any (adds is_empty) J)
ended_parts F J = given_or_added is_empty F J

pub told_parts : (F : List (List Literal)) (J : List Entry) (l : Literal) → is_told F J l ≡ (list_any (same_set (l ∷ [])) F || list_any (adds (same_set (l ∷ []))) J)
told_parts F J l = given_or_added (same_set (l ∷ [])) F J

swapped : (x y : Bool) → (x && (y && true)) ≡ (y && x)
swapped true true = refl
swapped true false = refl
swapped false true = refl
swapped false false = refl

pub unit_parts : (l : Literal) (c : List Literal) → same_set (l ∷ []) c ≡ (has c l && list_all (λ k. same k l) c)
unit_parts l c = swapped (list_all (has (l ∷ [])) c) (has c l) ∙ ap (λ (b : Bool). has c l && b) (each c)
  where
    each : (d : List Literal) → list_all (has (l ∷ [])) d ≡ list_all (λ k. same k l) d
    each [] = refl
    each (k ∷ d) = λ i. or_false (same k l) i && each d i

pub recent_next : (r : ℕ) (J : List Entry) (e : Entry) → recent r (J ++ e ∷ []) ≡ recent_after r (recent r J) e
recent_next r J e = fold_last (recent_after r) [] J e

one_more : (b : Book) (e : Entry) → (book_after b e).next ≡ b.next + length (additions (e ∷ []))
one_more b (Add x) = omega arith
one_more b (Del r n) = omega arith
one_more b (Reduce r) = omega arith
one_more b (Round x) = omega arith

-- the next number is one more than there are clauses and additions
pub next_few : (F : List (List Literal)) (J : List Entry) → (book F J).next ≤ suc (length F) + length J
next_few F J = from (formula_book F) J
  where
    from : (b : Book) (K : List Entry) → (fold book_after b K).next ≤ b.next + length K
    from b [] = omega arith
    from b (Add x ∷ K) = let r = from (book_after b (Add x)) K in omega arith
    from b (Del q n ∷ K) = let r = from (book_after b (Del q n)) K in omega arith
    from b (Reduce q ∷ K) = let r = from (book_after b (Reduce q)) K in omega arith
    from b (Round x ∷ K) = let r = from (book_after b (Round x)) K in omega arith

-- what may be learned includes neither a start clause nor what the ring learned
pub learn_parts : (o : CoreOpening) (J : List Entry) (p : Part) (r : ℕ) (lits : List Literal) → fresh (start_clauses (opening_of o)) (later o J) r lits ≡ not (list_any (λ (h : ClauseAt). includes lits h.lits) o.starts || list_any (includes lits) (recent r (later o J)))
learn_parts o J p r lits = ap not (list_any-append (includes lits) (start_clauses (opening_of o)) (recent r (later o J)) ∙ ap (λ (b : Bool). b || list_any (includes lits) (recent r (later o J))) (each o.starts))
  where
    each : (ss : List ClauseAt) → list_any (includes lits) (map (λ (s : Start). s.lits) (map (λ (s : ClauseAt). record { number = s.number; lits = s.lits }) ss)) ≡ list_any (λ (h : ClauseAt). includes lits h.lits) ss
    each [] = refl
    each (s ∷ ss) = ap (λ (b : Bool). includes lits s.lits || b) (each ss)
