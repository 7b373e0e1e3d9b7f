-- A cell that the ring builds, word by word.
use Rattle.std.proofs.Common.{◌≡◌, ℕ, ◌+◌, ◌<◌, if◌then◌else◌, List, [], ◌∷◌, length, refl, sym, ap, subst, ◌∙◌, arith, Some, eq-eqb, ne_eqb}
use mathlib.Core.Logic.{dite}
use native.Mathlib.Decide.{ℕ_discrete}
use Rattle.sat_words.specs.Literal.{Literal}
use Rattle.clause_cell.specs.Packing.{words_for, cell_word}
use Rattle.share_core.specs.State.{times_at}
use Rattle.share_rule.specs.declared.view.RingPart.{RingPart}
use Rattle.share_rule.specs.declared.view.StoredWord.{StoredWord}
use Rattle.share_rule.specs.declared.view.View.{View}
use Rattle.share_rule.specs.Steps.{store_part, after_store}
use Rattle.share_rule.specs.Views.{only, stored_at, making_of, clause_in, glue_in, IsBuilding, IsBuilt}
use Rattle.ring_pass.specs.Cells.{Stored}
use Rattle.ring_pass.proofs.Stays.{only_is, one_is, one_changed}

pub stored_none : (v : View) → v.parts ≡ only v ∷ [] → Stored v v
stored_none v one = record { parts = one; layout = refl; opening = refl; stop = refl; looks = refl }

pub stored_is : (v w : View) → Stored v w → only w ≡ record (only v) { stored = (only w).stored }
stored_is v w s = only_is w (record (only v) { stored = (only w).stored }) s.parts

pub stored_one : (v w : View) → Stored v w → w.parts ≡ only w ∷ []
stored_one v w s = one_is w (record (only v) { stored = (only w).stored }) s.parts

-- one more word
module _ (u v w : View) (place word : ℕ) (s : Stored u v) (is : w ≡ after_store place word v) where
  next_parts : w.parts ≡ store_part place word (only v) ∷ []
  next_parts = one_changed (store_part place word) v w (stored_one u v s) (ap (λ (y : View). y.parts) is)

  pub next_words : (only w).stored ≡ record { place = place; word = word } ∷ (only v).stored
  next_words = ap (λ (y : RingPart). y.stored) (only_is w (store_part place word (only v)) next_parts)

  pub stored_next : Stored u w
  stored_next = record {
    parts = next_parts ∙ (λ i. record (stored_is u v s i) { stored = sym next_words i } ∷ []);
    layout = ap (λ (y : View). y.layout) is ∙ s.layout;
    opening = ap (λ (y : View). y.opening) is ∙ s.opening;
    stop = ap (λ (y : View). y.stop) is ∙ s.stop;
    looks = ap (λ (y : View). y.looks) is ∙ s.looks;
  }

-- what the ring builds stays
pub stored_building : (v w : View) (a : ℕ) → Stored v w → IsBuilding a v → IsBuilding a w
stored_building v w a s h = (stored_one v w s, subst (λ (y : RingPart). 0 < times_at a y.core.making) (sym (stored_is v w s)) h.1)

pub stored_making : (v w : View) (a : ℕ) → Stored v w → making_of a w ≡ making_of a v
stored_making v w a s = ap (λ (y : RingPart). clause_in a y.core.making) (stored_is v w s)

-- the words so far
abbrev pub HasWords : (stored : List StoredWord) (a number glue : ℕ) → List Literal → ℕ → Type 0
HasWords ss a number glue lits i = (k : ℕ) → 0 < k → k < i → stored_at (a + k) ss ≡ Some (cell_word number glue lits k)

pub words_next : (ss : List StoredWord) (a number glue : ℕ) (lits : List Literal) (i word : ℕ) → word ≡ cell_word number glue lits i → HasWords ss a number glue lits i → HasWords (record { place = a + i; word = word } ∷ ss) a number glue lits (i + 1)
words_next ss a number glue lits i word is words k low high = dite (ℕ_discrete k i)
    (λ e. (λ j. if eq-eqb (a + i) (a + k) (let x : a + i ≡ a + k = omega arith in x) j then Some word else stored_at (a + k) ss) ∙ ap (λ (n : ℕ). Some n) (is ∙ ap (cell_word number glue lits) (sym e)))
    (λ ne. (λ j. if ne_eqb (a + i) (a + k) (λ e. ne (let x : k ≡ i = omega arith in x)) j then Some word else stored_at (a + k) ss) ∙ words k low (omega arith))

-- all of them
pub words_all : (v w : View) (a number glue : ℕ) (lits : List Literal) → Stored v w → (making_of a v).number ≡ number → (making_of a v).lits ≡ lits → glue_in number (only v).glues ≡ glue → HasWords (only w).stored a number glue lits (words_for (length lits)) → IsBuilt a w
words_all v w a number glue lits s number_is lits_is glue_is words i low high =
    let making = stored_making v w a s in
    let numbers : (making_of a w).number ≡ number = ap (λ h. h.number) making ∙ number_is in
    let literals : (making_of a w).lits ≡ lits = ap (λ h. h.lits) making ∙ lits_is in
    let glues : glue_in (making_of a w).number (only w).glues ≡ glue = (λ j. glue_in (numbers j) (stored_is v w s j).glues) ∙ glue_is in
    words i low (subst (λ (ls : List Literal). i < words_for (length ls)) literals high) ∙ (λ j. Some (cell_word (sym numbers j) (sym glues j) (sym literals j) i))
