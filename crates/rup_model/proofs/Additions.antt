-- What entries add, and what more entries leave as it was.
use Rattle.std.proofs.Common.{◌≡◌, ℕ, ◌==◌, ◌&&◌, Bool, true, List, [], ◌∷◌, ◌++◌, map, sym, ap, ◌∙◌, append_assoc}
use Rattle.std.specs.List.{list_any, filter}
use Rattle.std.proofs.lemmas.List.{map-append}
use Rattle.std.proofs.lemmas.List.Elements.{filter-append, filter_map-append}
use Rattle.std.proofs.lemmas.List.Folds.{list_any-append}
use Rattle.std.proofs.lemmas.Bool.{or_left}
use Rattle.sat_words.specs.Literal.{Literal}
use Rattle.sat_words.specs.Clause.{same_set, is_empty}
use Rattle.rup_model.specs.declared.journal.Addition.{Addition}
use Rattle.rup_model.specs.declared.journal.Entry.{Entry}
use Rattle.rup_model.specs.Journal.{addition, additions, added, ended, is_told, is_learn, learned}

pub additions-append : (J K : List Entry) → additions (J ++ K) ≡ additions J ++ additions K
additions-append J K = filter_map-append addition J K

pub added-append : (J K : List Entry) → added (J ++ K) ≡ added J ++ added K
added-append J K = ap (map (λ (x : Addition). x.lits)) (additions-append J K) ∙ map-append (λ (x : Addition). x.lits) (additions J) (additions K)

pub learned-append : (r : ℕ) (J K : List Entry) → learned r (J ++ K) ≡ learned r J ++ learned r K
learned-append r J K =
    let p : Addition → Bool = λ x. (x.ring == r) && is_learn x.kind in
    ap (λ (xs : List Addition). map (λ (x : Addition). x.lits) (filter p xs)) (additions-append J K)
    ∙ ap (map (λ (x : Addition). x.lits)) (filter-append p (additions J) (additions K))
    ∙ map-append (λ (x : Addition). x.lits) (filter p (additions J)) (filter p (additions K))

-- a test that a given or added clause passes
given_more : (p : List Literal → Bool) (F : List (List Literal)) (J K : List Entry) → list_any p (F ++ added J) ≡ true → list_any p (F ++ added (J ++ K)) ≡ true
given_more p F J K h =
    ap (λ (G : List (List Literal)). list_any p (F ++ G)) (added-append J K)
    ∙ ap (list_any p) (sym (append_assoc F (added J) (added K)))
    ∙ list_any-append p (F ++ added J) (added K) ∙ or_left _ _ h

pub ended_more : (F : List (List Literal)) (J K : List Entry) → ended F J ≡ true → ended F (J ++ K) ≡ true
ended_more F J K h = given_more is_empty F J K h

pub told_more : (F : List (List Literal)) (J K : List Entry) (l : Literal) → is_told F J l ≡ true → is_told F (J ++ K) l ≡ true
told_more F J K l h = given_more (same_set (l ∷ [])) F J K h
