-- Want of room: the clause that comes next needs more words than the longest free range has.
use Rattle.std.specs.Prelude.{◌≡◌, ◌⊎◌, ℕ, ◌+◌, ◌<◌, ◌≤◌, true, List, map, ◌++◌, length, Some}
use Rattle.sat_words.specs.Literal.{Literal}
use Rattle.sat_words.specs.Clause.{includes}
use Rattle.sat_words.specs.declared.shared.TheConstants.{MAX_ENTRIES}
use Rattle.clause_cell.specs.Packing.{words_for}
use Rattle.clause_cell.specs.Free.{largest}
use Rattle.rup_model.specs.declared.journal.Entry.{Entry}
use Rattle.rup_model.specs.Rup.{rup}
use Rattle.rup_model.specs.Log.{alive}
use Rattle.rup_model.specs.Journal.{book, lines, fresh}
use Rattle.rup_model.specs.Opening.{Start, IsLong, start_clauses}
use Rattle.share_core.specs.declared.part.CoreOpening.{CoreOpening}
use Rattle.share_core.specs.State.{opening_of, later}
use Rattle.share_rule.specs.declared.Layout.{Layout}
use Rattle.share_rule.specs.Layout.{InVars}
use Rattle.share_rule.specs.Room.{room}

-- one of the rings may learn the clause after this journal: it contains no start clause and nothing that this ring learned after
-- the opening since it last reduced
abbrev pub IsFreshForSome : CoreOpening → List Entry → List Literal → Type 0
IsFreshForSome o J c = (r : ℕ) × (r < o.rings) × (fresh (start_clauses (opening_of o)) (later o J) r c ≡ true)

-- all its literals are in one clause that is alive after this journal
abbrev pub IsPartOfAlive : CoreOpening → List Entry → List Literal → Type 0
IsPartOfAlive o J c = (n : ℕ) × (d : List Literal) × ((book o.formula J).clause n ≡ Some d) × (includes d c ≡ true)

-- the clause may come next after this journal: two literals or more without opposites on the layout's variables, RUP over what is
-- alive, and fresh for a ring or a part of a clause that is alive
pub record MayCome (l : Layout) (o : CoreOpening) (J : List Entry) (c : List Literal) : Type 0 where
  pub long : IsLong c
  pub on : InVars l c
  pub valid : rup (alive o.formula (lines o.formula J)) c ≡ true
  pub cause : IsFreshForSome o J c ⊎ IsPartOfAlive o J c

-- such a clause needs so many words, and the longest free range after this journal has fewer
pub record IsTightAt (l : Layout) (o : CoreOpening) (J : List Entry) (need most : ℕ) : Type 0 where
  pub clause : List Literal
  pub next : MayCome l o J clause
  pub need_is : need ≡ words_for (length clause)
  pub most_is : most ≡ largest (room l o J).holes
  pub short : most < need

-- it was so after a front of the journal that has what stood before the rings began; or the journal is full, and the numbers count entries
abbrev pub IsTight : Layout → CoreOpening → List Entry → ℕ → ℕ → Type 0
IsTight l o J need most =
    ((front rest : List Entry) × (J ≡ front ++ rest) × (length o.journal ≤ length front) × IsTightAt l o front need most)
    ⊎ ((MAX_ENTRIES ≤ length J) × (need ≡ MAX_ENTRIES + 1) × (most ≡ MAX_ENTRIES))

-- the start clauses, each with its number
abbrev pub numbered : List Start → List (ℕ × List Literal)
numbered ss = map (λ (s : Start). (s.number, s.lits)) ss
