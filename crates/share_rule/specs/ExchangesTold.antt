-- What puts, gets and stops tell.
use Rattle.std.specs.Prelude.{◌≡◌, ◌≢◌, ℕ, ◌<◌, Contains}
use Rattle.atomic_table.specs.Table.{Me, Step}
use Rattle.share_core.specs.declared.stored.ClauseAt.{ClauseAt}
use Rattle.share_rule.specs.declared.view.View.{View}
use Rattle.share_rule.specs.Views.{only}
use Rattle.share_rule.specs.Exchanges.{slot_word, KeepsGlues, after_put, after_get, stop_of, MayFind, after_look, after_set}
use Rattle.share_rule.specs.Told.{Knows}

module _ {S : Type 0} where
  -- whichever slot the word is, the clause at the address that came out is held with its glue; the ring gave it before
  abbrev pub did_put : Step S → Me S View → ℕ → Me S View → Type 0
  did_put st m n m' = (to class place : ℕ) → to < m.0.opening.rings → class < 4 → place < m.0.opening.depth → st.word ≡ slot_word m.0 (only m.0).core.ring to class place
      → (h : ClauseAt) × (g : ℕ) × Knows (after_put to class place st.first h g m.0) m m' × (h.address ≡ n) × KeepsGlues h g (only m.0) × (n ≢ 0 → Contains (only m.0).gave h)

  -- the same of what another ring gave
  abbrev pub did_get : Step S → Me S View → ℕ → Me S View → Type 0
  did_get st m n m' = (from class place : ℕ) → from < m.0.opening.rings → class < 4 → place < m.0.opening.depth → st.word ≡ slot_word m.0 from (only m.0).core.ring class place
      → (h : ClauseAt) × (g : ℕ) × Knows (after_get from class place h g m.0) m m' × (h.address ≡ n) × KeepsGlues h g (only m.0)

  -- the stop that stands, if any
  abbrev pub looked_at_stop : Step S → Me S View → ℕ → Me S View → Type 0
  looked_at_stop st m n m' = Knows (after_look n m.0) m m' × MayFind m.0 (stop_of n)

  -- the ring's stop stands where none stood, else the one that did
  abbrev pub did_set : Step S → Me S View → ℕ → Me S View → Type 0
  did_set st m n m' = Knows (after_set st.second n m.0) m m' × MayFind m.0 (stop_of n)
