-- The words of cells are read back.
use Rattle.std.proofs.Common.{◌≡◌, ℕ, zero, suc, ◌+◌, ◌/◌, ◌%◌, ◌^◌, ◌<◌, ◌≤◌, List, [], ◌∷◌, length, refl, sym, ap, ◌∙◌, arith, Some}
use Rattle.std.specs.Prelude.{slice_index}
use mathlib.Core.Option.{some, some-injective, some-ne-none}
use lib.ListN.{get_elem?}
use Rattle.sat_words.specs.Literal.{Literal}
use Rattle.sat_words.specs.Clause.{clause_of}
use Rattle.clause_cell.specs.Packing.{words_for, half}
use Rattle.clause_cell.proofs.Packed.{low_half, high_half}
use Rattle.rup_model.specs.Journal.{book}
use Rattle.share_core.specs.declared.stored.Cell.{Cell}
use Rattle.share_core.specs.State.{State}
use Rattle.share_core.specs.Events.{listed_number}
use Rattle.share_core.proofs.Pairs.{paired_long}
use Rattle.share_rule.specs.declared.Layout.{Layout}
use Rattle.share_rule.specs.Layout.{unit_at, number_at}
use Rattle.share_rule.specs.Cells.{Spells}
use Rattle.share_rule.specs.Rests.{rest_of, IsAtEnd, HasLits}
use Rattle.share_rule.proofs.Decoding.{Decoded, decoded, decoded_unit}
use Rattle.share_rule.proofs.Literals.{few_distinct}
use Rattle.share_rule.proofs.Rooms.{places_stand}

pub item_is : (xs : List ℕ) (i a : ℕ) → get_elem? xs i ≡ some a → slice_index xs i ≡ a
item_is [] i a e = absurd (some-ne-none a (sym e))
item_is (x ∷ xs) zero a e = some-injective x a e
item_is (x ∷ xs) (suc i) a e = item_is xs i a e

-- what is read of a cell
pub record CellRead (ws : List ℕ) (a : ℕ) (glue : ℕ → ℕ) (x : Cell) : Type 0 where
  pub ends : a + words_for (length x.lits) ≤ length ws
  pub number_is : slice_index ws (a + 1) ≡ x.number
  pub size_is : slice_index ws (a + 2) % 2 ^ 32 ≡ length x.lits
  pub glue_is : slice_index ws (a + 2) / 2 ^ 32 ≡ glue x.number
  pub lits : HasLits ws a (length x.lits) x.lits

pub cell_read : (l : Layout) (c : State) (glue : ℕ → ℕ) (ws : List ℕ) (a : ℕ) (x : Cell) → IsAtEnd l c glue ws → c.cell a ≡ Some x → CellRead ws a glue x
cell_read l c glue ws a x e there =
    let stands = places_stand l e.small c e.sound e.places in
    let spells : Spells ws a x.number (glue x.number) x.lits = e.words.cell_is a x there (e.built a x there) in
    let inside = (stands.inside a x there).1 in
    let wide = e.words.wide in
    let vars = e.places.small in
    let few = few_distinct l.vars x.lits (e.sound.cells.shape a x there).distinct (e.places.vars a x there) in
    let ends : a + words_for (length x.lits) ≤ length ws = omega arith in
    record {
      ends = ends;
      number_is = spells.number_is;
      size_is = ap (λ (n : ℕ). n % 2 ^ 32) spells.head_is ∙ low_half (length x.lits) (glue x.number) (omega arith);
      glue_is = ap (λ (n : ℕ). n / 2 ^ 32) spells.head_is ∙ high_half (length x.lits) (glue x.number) (omega arith);
      lits = record {
        size_is = refl;
        ends = ends;
        words = spells.lits_are;
        named = λ j d lt. (let t = e.places.vars a x there j d lt in let hi = t.1 in (t.0, omega arith));
      };
    }

pub same_rest : (number glue : ℕ) (clause : List Literal) (g : ℕ → ℕ) (x : Cell) → number ≡ x.number → clause ≡ clause_of x.lits → glue ≡ g x.number → record { number = number; clause = clause; glue = glue } ≡ rest_of g x
same_rest number glue clause g x n c e = λ i. record { number = n i; clause = c i; glue = e i }

pub lit_read : (ws : List ℕ) (cell size place word code : ℕ) (lits : List Literal) → HasLits ws cell size lits → place < size → word ≡ slice_index ws (cell + 3 + place / 2) → code ≡ half word place → Decoded lits place code
lit_read ws cell size place word code lits h lt is e =
    let size_is = h.size_is in
    decoded (record { rings = 0; vars = 2 ^ 30; words = 0; depth = 0; conflicts = 0 }) lits place word code (omega arith) h.named (omega arith) (is ∙ h.words (place / 2) (omega arith)) e

-- a listed unit is read
pub unit_read : (l : Layout) (c : State) (glue : ℕ → ℕ) (ws : List ℕ) (place listed word : ℕ) → IsAtEnd l c glue ws → listed ≡ slice_index ws 2 → place < listed → word ≡ slice_index ws (unit_at l place) → Decoded c.units place word
unit_read l c glue ws place listed word e listed_is lt is =
    let all = e.words.listed_is in
    decoded_unit l c.units place word e.places.small e.places.units (omega arith) (is ∙ e.words.unit_is place (omega arith))

-- its number is read
pub number_read : (l : Layout) (c : State) (glue : ℕ → ℕ) (ws : List ℕ) (place listed word : ℕ) → IsAtEnd l c glue ws → listed ≡ slice_index ws 2 → place < listed → word ≡ slice_index ws (number_at l place) → word ≡ listed_number c.numbers place
number_read l c glue ws place listed word e listed_is lt is =
    let all = e.words.listed_is in
    is ∙ e.words.number_is place (omega arith)

-- there are as many numbers as units
pub numbers_long : (l : Layout) (c : State) (glue : ℕ → ℕ) (ws : List ℕ) → IsAtEnd l c glue ws → length c.numbers ≡ length c.units
numbers_long l c glue ws e = paired_long (book c.opening.formula c.journal) c.units c.numbers e.sound.units.paired

-- a clause has not too many literals
pub few_lits : (l : Layout) (c : State) (glue : ℕ → ℕ) (ws : List ℕ) (a : ℕ) (x : Cell) → IsAtEnd l c glue ws → c.cell a ≡ Some x → length x.lits ≤ 2 ^ 31
few_lits l c glue ws a x e there =
    let vars = e.places.small in
    let few = few_distinct l.vars x.lits (e.sound.cells.shape a x there).distinct (e.places.vars a x there) in
    omega arith
