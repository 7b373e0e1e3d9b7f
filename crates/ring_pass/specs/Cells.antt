-- What the building of a cell leaves.
use Rattle.std.specs.Prelude.{◌≡◌, ℕ, List, [], ◌∷◌}
use Rattle.sat_words.specs.Literal.{Literal}
use Rattle.rup_model.specs.declared.journal.Kind.{Kind}
use Rattle.share_rule.specs.declared.note.Note.TheVariants.{Clause, Unit as UnitNote}
use Rattle.share_rule.specs.declared.view.View.{View}
use Rattle.share_rule.specs.Turns.{next_number}
use Rattle.share_rule.specs.Views.{only}
use Rattle.ring_pass.specs.Writes.{Wrote}

-- nothing changed but what the ring has stored
pub record Stored (v w : View) : Type 0 where
  pub parts : w.parts ≡ record (only v) { stored = (only w).stored } ∷ []
  pub layout : w.layout ≡ v.layout
  pub opening : w.opening ≡ v.opening
  pub stop : w.stop ≡ v.stop
  pub looks : w.looks ≡ v.looks

-- the ring wrote the line of a clause with this number
pub record WroteClause (v w : View) (kind : Kind) (lits : List Literal) (hints : List ℕ) (glue a number : ℕ) : Type 0 where
  pub wrote : Wrote v w (Clause kind lits hints glue a)
  pub number_is : number ≡ next_number v.opening wrote.journal

-- it wrote the line of a unit with this number
pub record WroteUnitLine (v w : View) (kind : Kind) (lit : Literal) (hints : List ℕ) (number : ℕ) : Type 0 where
  pub wrote : Wrote v w (UnitNote kind lit hints)
  pub number_is : number ≡ next_number v.opening wrote.journal
