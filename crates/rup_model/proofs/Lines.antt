-- Numbered lines, entry by entry, and without their numbers and hints.
use Rattle.std.proofs.Common.{◌≡◌, ◌∙◌, ℕ, List, [], ◌∷◌, ◌++◌, map, Option, Some, None, refl, ap, sym, append_assoc, append-nil}
use Rattle.std.specs.List.{fold}
use Rattle.std.specs.Option.{option_map, option_to_list}
use Rattle.std.proofs.lemmas.List.{map-append}
use Rattle.sat_words.specs.Literal.{Literal}
use Rattle.rup_model.specs.declared.journal.Addition.{Addition}
use Rattle.rup_model.specs.declared.journal.Entry.{Entry}
use Rattle.rup_model.specs.Journal.{Book, addition, deletion, ring_of, formula_book, book_after, line_of_addition, line_of_deletion, lines_after, lines_from, lines}
use Rattle.rup_model.specs.NumberedLines.{NumberedLine, line_of, numbered_addition, numbered_deletion, numbered_after, numbered_from, numbered_lines}

-- what may be added and what may be deleted, by the ring
of_both : (b : Book) (r : ℕ) (x : Option Addition) (n : Option ℕ)
    → map line_of (option_to_list (option_map numbered_addition x) ++ option_to_list (option_map (numbered_deletion b r) n))
    ≡ option_to_list (option_map line_of_addition x) ++ option_to_list (option_map (line_of_deletion b r) n)
of_both b r None None = refl
of_both b r None (Some n) = refl
of_both b r (Some x) None = refl
of_both b r (Some x) (Some n) = refl

pub numbered_after_lines : (b : Book) (e : Entry) → map line_of (numbered_after b e) ≡ lines_after b e
numbered_after_lines b e = of_both b (ring_of e) (addition e) (deletion e)

pub numbered_from_lines : (b : Book) (J : List Entry) → map line_of (numbered_from b J) ≡ lines_from b J
numbered_from_lines b [] = refl
numbered_from_lines b (e ∷ J) =
    map-append line_of (numbered_after b e) (numbered_from (book_after b e) J)
    ∙ (λ i. numbered_after_lines b e i ++ numbered_from_lines (book_after b e) J i)

pub numbered_lines_lines : (F : List (List Literal)) (J : List Entry) → map line_of (numbered_lines F J) ≡ lines F J
numbered_lines_lines F J = numbered_from_lines (formula_book F) J

-- one entry more, which has these lines there
pub numbered_from_next : (b : Book) (J : List Entry) (e : Entry) (L : List NumberedLine) → numbered_after (fold book_after b J) e ≡ L
    → numbered_from b (J ++ e ∷ []) ≡ numbered_from b J ++ L
numbered_from_next b [] e L has = append-nil (numbered_after b e) ∙ has
numbered_from_next b (y ∷ J) e L has =
    ap (λ (K : List NumberedLine). numbered_after b y ++ K) (numbered_from_next (book_after b y) J e L has)
    ∙ sym (append_assoc (numbered_after b y) (numbered_from (book_after b y) J) L)

-- an entry that has one line with its number has the line
pub one_line : (b : Book) (e : Entry) (x : NumberedLine) → numbered_after b e ≡ x ∷ [] → lines_after b e ≡ line_of x ∷ []
one_line b e x one = sym (numbered_after_lines b e) ∙ ap (λ (L : List NumberedLine). map line_of L) one

-- and one without a line has none with a number
of_none : (b : Book) (r : ℕ) (x : Option Addition) (n : Option ℕ)
    → option_to_list (option_map line_of_addition x) ++ option_to_list (option_map (line_of_deletion b r) n) ≡ []
    → option_to_list (option_map numbered_addition x) ++ option_to_list (option_map (numbered_deletion b r) n) ≡ []
of_none b r None None none = refl
of_none b r None (Some n) none = absurd (let no : ⊥ = cc in no)
of_none b r (Some x) n none = absurd (let no : ⊥ = cc in no)

pub no_line : (b : Book) (e : Entry) → lines_after b e ≡ [] → numbered_after b e ≡ []
no_line b e none = of_none b (ring_of e) (addition e) (deletion e) none
