-- What each step tells.
use Rattle.std.specs.Prelude.{◌≡◌, ℕ, ◌∷◌, Option, None}
use Rattle.atomic_table.specs.Table.{Me, Step, rest}
use Rattle.share_core.specs.declared.part.CoreOpening.{CoreOpening}
use Rattle.share_core.specs.State.{times_at}
use Rattle.share_rule.specs.declared.view.BookOrigin.{BookOrigin}
use Rattle.share_rule.specs.declared.view.View.{View}
use Rattle.share_rule.specs.Layout.{grant_at}
use Rattle.share_rule.specs.Views.{IsWord, only, taken_view, first_view}
use Rattle.share_rule.specs.Steps.{after_grant, after_share, after_drop, after_load, after_store, after_open}
use Rattle.share_rule.specs.Seen.{Seen}

module _ {S : Type 0} where
  -- the pass knows this afterwards, which some enabled events leave, and no slot moved
  abbrev pub Knows : View → Me S View → Me S View → Type 0
  Knows v m m' = (m'.1 ≡ m.1) × (m'.0 ≡ v) × Seen v

  -- the word was 1, and the pass has the ring
  abbrev pub took_grant : Step S → Me S View → ℕ → Me S View → Type 0
  took_grant st m n m' = (r : ℕ) → st.word ≡ grant_at r → Knows (after_grant r m.0) m m' × (n ≡ 1)

  -- one count more is held
  abbrev pub shared : Step S → Me S View → ℕ → Me S View → Type 0
  shared st m n m' = Knows (after_share st.word n m.0) m m'

  -- one less is; what was found says whether it was the last; it is how often the ring held the cell, if there is no
  -- other ring
  abbrev pub dropped : Step S → Me S View → ℕ → Me S View → Type 0
  dropped st m n m' = Knows (after_drop st.word n m.0) m m' × (m.0.opening.rings ≡ 1 → n ≡ times_at st.word (only m.0).core.held)

  -- the word was read; of a cell that is held it is as the pass knows it
  abbrev pub loaded : Step S → Me S View → ℕ → Me S View → Type 0
  loaded st m n m' = Knows (after_load st.word n m.0) m m' × IsWord m.0 st.word n

  -- a word of a cell under construction is stored
  abbrev pub stored : Step S → Me S View → ℕ → Me S View → Type 0
  stored st m n m' = Knows (after_store st.word st.first m.0) m m'

  -- what was built is held
  abbrev pub opened_cell : Step S → Me S View → ℕ → Me S View → Type 0
  opened_cell st m n m' = Knows (after_open st.word m.0) m m'

  -- a look tells only what every step does
  abbrev pub looked : Step S → Me S View → ℕ → Me S View → Type 0
  looked st m n m' = Knows (after_load st.word n m.0) m m'

  -- the table is open, and its first pass has all rights
  abbrev pub opened_table : CoreOpening → BookOrigin → Step S → Me S View → ℕ → Me S View → Type 0
  opened_table o w st m n m' = (m'.1 ≡ rest m.1) × (m'.0 ≡ first_view m.0.layout o w) × Seen (first_view m.0.layout o w)

-- the slot is out, with nothing in it
abbrev pub began : {B : Type 0} → Step (Option B) → Me (Option B) View → ℕ → Me (Option B) View → Type 0
began st m n m' = (m'.0 ≡ taken_view m.0.layout) × (m'.1 ≡ (0, None) ∷ m.1)
