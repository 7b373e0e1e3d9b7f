-- What the book of the log accounts for.
use Rattle.std.specs.Prelude.{◌≡◌, ℕ, suc, Bool, false, List, length, Option, Some, is_some}
use Rattle.sat_words.specs.Literal.{Literal}
use Rattle.sat_words.specs.declared.line.Line.{Line}
use Rattle.sat_words.specs.Formats.{has_hints}
use Rattle.clause_cell.specs.declared.holes.Hole.{Hole}
use Rattle.rup_model.specs.declared.journal.Entry.{Entry}
use Rattle.rup_model.specs.Journal.{book, ended, lines}
use Rattle.share_core.specs.declared.part.CoreOpening.{CoreOpening}
use Rattle.share_rule.specs.declared.Layout.{Layout}
use Rattle.share_rule.specs.declared.view.BookOrigin.{BookOrigin}
use Rattle.share_rule.specs.Room.{room}

-- how many entries stand, the last number given, whether the empty clause does, whether a write has failed, the free words,
-- and the lines if they are kept
pub record Account : Type 0 where
  pub entries : ℕ
  pub last : ℕ
  pub ended : Bool
  pub broken : Bool
  pub holes : List Hole
  pub kept : Option (List Line)

module _ {B : Type 0} (account : B → Account) (written : B → BookOrigin → Layout → List (List Literal) → List Entry → Type 0) where
  -- since its origin the book has come to this journal; after a failed write its lines say no more
  pub record HasLog (b : B) (w : BookOrigin) (l : Layout) (F : List (List Literal)) (J : List Entry) : Type 0 where
    pub entries : (account b).entries ≡ length J
    pub last : suc (account b).last ≡ (book F J).next
    pub keeps : is_some (account b).kept ≡ w.keeps
    pub kept : (account b).broken ≡ false → (ls : List Line) → (account b).kept ≡ Some ls → ls ≡ lines F J
    pub sink : written b w l F J

  -- it says whether the log is ended and whether a write has failed; unless one has, its holes are those that the journal
  -- leaves; additions have hints exactly if its format has
  pub record StandsFor (b : B) (w : BookOrigin) (l : Layout) (o : CoreOpening) (J : List Entry) (fault : Bool) : Type 0 where
    pub log : HasLog b w l o.formula J
    pub ended : (account b).ended ≡ ended o.formula J
    pub holes : (account b).broken ≡ false → (account b).holes ≡ (room l o J).holes
    pub faulty : (account b).broken ≡ fault
    pub hinted : o.hinted ≡ has_hints w.format
