-- What the steps of the log tell.
use Rattle.std.specs.Prelude.{◌≡◌, ◌≢◌, ℕ, ◌∷◌, Bool, true, List, Option, Some}
use Rattle.atomic_table.specs.Table.{Me, Step, rest}
use Rattle.rup_model.specs.declared.journal.Entry.{Entry}
use Rattle.share_core.specs.declared.part.CoreOpening.{CoreOpening}
use Rattle.share_rule.specs.declared.view.BookOrigin.{BookOrigin}
use Rattle.share_rule.specs.declared.Layout.{Layout}
use Rattle.share_rule.specs.declared.note.Note.{Note}
use Rattle.share_rule.specs.declared.view.Refusal.{Refusal}
use Rattle.share_rule.specs.declared.view.View.{View}
use Rattle.share_rule.specs.Seen.{Seen}
use Rattle.share_rule.specs.Views.{only}
use Rattle.share_rule.specs.Turns.{after_take, after_miss, after_give}
use Rattle.share_rule.specs.Told.{Knows}

-- if the word was as guessed the turn was free and is the ring's, with the book, which stands for the journal that the
-- ring then has; a write that it was told of has failed, and a lone ring is told of no failed write but its own. Elsewhere
-- nothing changed
pub record Took {B : Type 0} (stands : B → BookOrigin → Layout → CoreOpening → List Entry → Bool → Type 0) (free new : ℕ) (m m' : Me (Option B) View) : Type 0 where
  pub journal : List Entry
  pub failed : Bool
  pub book : B
  pub out : m'.1 ≡ (0, Some book) ∷ m.1
  pub view : m'.0 ≡ after_take free new journal failed m.0
  pub stood : stands book m.0.origin m.0.layout m.0.opening journal failed
  pub still : (only m.0).failed ≡ true → failed ≡ true
  pub alone : m.0.opening.rings ≡ 1 → failed ≡ true → (only m.0).failed ≡ true
  pub seen : Seen (after_take free new journal failed m.0)

-- either
abbrev pub takes_turn : {B : Type 0} → (B → BookOrigin → Layout → CoreOpening → List Entry → Bool → Type 0) → Step (Option B) → Me (Option B) View → ℕ → Me (Option B) View → Type 0
takes_turn stands st m n m' = (n ≡ st.first → Took stands st.first st.second m m') × (n ≢ st.first → Knows (after_miss st.first st.second n m.0) m m')

-- the notes of the turn stand in the journal, and the book is at home
abbrev pub gives_turn : {B : Type 0} → List Note → Option Refusal → Bool → Step (Option B) → Me (Option B) View → ℕ → Me (Option B) View → Type 0
gives_turn ns x failed st m n m' = (m'.1 ≡ rest m.1) × (m'.0 ≡ after_give ns x failed m.0) × Seen (after_give ns x failed m.0)
