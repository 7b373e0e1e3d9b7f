-- Worked journals: what the definitions say of them, by computation.
use Rattle.std.proofs.Common.{◌≡◌, ℕ, true, false, List, [], ◌∷◌, ◌++◌, ap, refl}
use Rattle.sat_words.specs.Literal.{Literal}
use Rattle.std.specs.Option.{unwrap_or}
use Rattle.sat_words.specs.declared.line.Line.TheVariants.{Add as AddLine, Del as DelLine}
use Rattle.rup_model.specs.Rounds.{Rounds, rounds}
use Rattle.rup_model.specs.Rup.{rup, conflicts}
use Rattle.rup_model.specs.Log.{copies, alive, Accepted}
use Rattle.rup_model.specs.declared.journal.Kind.{Kind}
use Rattle.rup_model.specs.declared.journal.Kind.TheVariants.{Ruler, Learn}
use Rattle.rup_model.specs.declared.journal.Round.{Round as RoundStart}
use Rattle.rup_model.specs.declared.journal.Entry.{Entry}
use Rattle.rup_model.specs.declared.journal.Entry.TheVariants.{Add, Del, Reduce, Round}
use Rattle.rup_model.specs.Journal.{respelled, book, lines, learned, recent, fresh, is_told}
use Rattle.rup_model.specs.Opening.{program_opening, is_new, ruler_part, rings_part}

abbrev pos : ℕ → Literal
pos v = record { var = v; neg = false }

abbrev minus : ℕ → Literal
minus v = record { var = v; neg = true }

abbrev adds : ℕ → ℕ → Kind → List Literal → Entry
adds r n k c = Add (record { ring = r; number = n; lits = c; kind = k; hints = [] })

-- three clauses, all of which hold if 2 is true
abbrev three : List (List Literal)
three = (pos 1 ∷ pos 2 ∷ pos 3 ∷ []) ∷ (pos 1 ∷ pos 2 ∷ minus 3 ∷ []) ∷ (minus 1 ∷ pos 2 ∷ []) ∷ []

-- two rings learn the same clause, one of them deletes its own copy, the other learns a unit
abbrev two_copies : List Entry
two_copies = adds 0 4 Learn (pos 2 ∷ pos 1 ∷ []) ∷ adds 1 5 Learn (pos 1 ∷ pos 2 ∷ []) ∷ Del 0 4 ∷ []

abbrev and_a_unit : List Entry
and_a_unit = two_copies ++ adds 1 6 Learn (pos 2 ∷ []) ∷ []

-- a deletion spells a ring's clause as the ring added it
two_copies_lines : lines three and_a_unit ≡ AddLine (pos 2 ∷ pos 1 ∷ []) ∷ AddLine (pos 1 ∷ pos 2 ∷ []) ∷ DelLine (pos 2 ∷ pos 1 ∷ []) ∷ AddLine (pos 2 ∷ []) ∷ []
two_copies_lines = refl

one_copy_left : copies (pos 1 ∷ pos 2 ∷ []) (alive three (lines three two_copies)) ≡ 1
one_copy_left = refl

two_copies_accepted : Accepted three (lines three and_a_unit)
unfolding rup conflicts Rounds rounds
two_copies_accepted = (refl, (refl, (refl, (refl, tt))))

-- what a ring learned counts until it reduces
learned_by_one : learned 1 and_a_unit ≡ (pos 1 ∷ pos 2 ∷ []) ∷ (pos 2 ∷ []) ∷ []
learned_by_one = refl

recent_after_reduce : recent 1 (and_a_unit ++ Reduce 1 ∷ []) ≡ []
recent_after_reduce = refl

not_fresh : fresh [] and_a_unit 1 (pos 2 ∷ minus 4 ∷ []) ≡ false
not_fresh = refl

fresh_once_reduced : fresh [] (and_a_unit ++ Reduce 1 ∷ []) 1 (pos 2 ∷ minus 4 ∷ []) ≡ true
fresh_once_reduced = refl

unit_told : is_told three and_a_unit (pos 2) ≡ true
unit_told = refl

-- a clause that holds a unit of the ring itself is not new, also once it is fresh
not_new : is_new (program_opening three []) (and_a_unit ++ Reduce 1 ∷ []) 1 (pos 2 ∷ minus 4 ∷ []) ≡ false
not_new = refl

-- the ruler makes the third clause longer by its own variable, deletes the first, and a ring goes on
abbrev rulers : List Entry
rulers = adds 16 4 Ruler (pos 3 ∷ pos 1 ∷ pos 3 ∷ []) ∷ Del 16 1 ∷ adds 16 5 Ruler (pos 2 ∷ []) ∷ []

-- a deletion spells the ruler's clause in the order of `Clause`
rulers_lines : lines three (rulers ++ Del 0 4 ∷ []) ≡ AddLine (pos 3 ∷ pos 1 ∷ pos 3 ∷ []) ∷ DelLine (pos 1 ∷ pos 2 ∷ pos 3 ∷ []) ∷ AddLine (pos 2 ∷ []) ∷ DelLine (pos 1 ∷ pos 3 ∷ []) ∷ []
rulers_lines = refl

rulers_starts : (program_opening three rulers).starts ≡ record { number = 2; lits = pos 1 ∷ pos 2 ∷ minus 3 ∷ [] } ∷ record { number = 3; lits = minus 1 ∷ pos 2 ∷ [] } ∷ record { number = 4; lits = pos 1 ∷ pos 3 ∷ [] } ∷ []
rulers_starts = refl

rulers_units : (program_opening three rulers).units ≡ pos 2 ∷ []
rulers_units = refl

rulers_end : ruler_part (rulers ++ two_copies) ≡ rulers
rulers_end = refl

rings_begin : rings_part (rulers ++ two_copies) ≡ two_copies
rings_begin = refl

-- a ring's lemma, deleted by that ring and by the ruler
abbrev lemma : List Entry
lemma = adds 0 4 Learn (pos 3 ∷ pos 1 ∷ pos 2 ∷ []) ∷ []

ring_deletes : lines three (lemma ++ Del 0 4 ∷ []) ≡ AddLine (pos 3 ∷ pos 1 ∷ pos 2 ∷ []) ∷ DelLine (pos 3 ∷ pos 1 ∷ pos 2 ∷ []) ∷ []
ring_deletes = refl

ruler_deletes : lines three (lemma ++ Del 16 4 ∷ []) ≡ AddLine (pos 3 ∷ pos 1 ∷ pos 2 ∷ []) ∷ DelLine (pos 1 ∷ pos 2 ∷ pos 3 ∷ []) ∷ []
ruler_deletes = refl

-- the ring deletes it after a round began with it, or with another clause
kept_lemma : (x : RoundStart) → x.starts ≡ 2 ∷ 4 ∷ [] → lines three (lemma ++ Round x ∷ Del 0 4 ∷ []) ≡ AddLine (pos 3 ∷ pos 1 ∷ pos 2 ∷ []) ∷ DelLine (pos 1 ∷ pos 2 ∷ pos 3 ∷ []) ∷ []
kept_lemma x is = ap (λ (ns : List ℕ). AddLine (pos 3 ∷ pos 1 ∷ pos 2 ∷ []) ∷ DelLine (unwrap_or (respelled ns (book three lemma).clause 4) []) ∷ []) is

other_kept : (x : RoundStart) → x.starts ≡ 2 ∷ [] → lines three (lemma ++ Round x ∷ Del 0 4 ∷ []) ≡ AddLine (pos 3 ∷ pos 1 ∷ pos 2 ∷ []) ∷ DelLine (pos 3 ∷ pos 1 ∷ pos 2 ∷ []) ∷ []
other_kept x is = ap (λ (ns : List ℕ). AddLine (pos 3 ∷ pos 1 ∷ pos 2 ∷ []) ∷ DelLine (unwrap_or (respelled ns (book three lemma).clause 4) []) ∷ []) is
