-- Literals are read from the words of cells.
use Rattle.std.proofs.Common.{◌≡◌, ℕ, zero, suc, ◌+◌, ◌*◌, ◌/◌, ◌%◌, ◌^◌, ◌<◌, ◌≤◌, ◌==◌, Bool, true, false, List, [], ◌∷◌, length, get_or, All, refl, ap, ◌∙◌, arith, eq-eqb, ne_eqb}
use Rattle.std.specs.Prelude.{map, slice_index_or, if◌then◌else◌}
use Rattle.sat_words.specs.Literal.{Literal, code_of}
use Rattle.share_rule.specs.declared.Layout.{Layout}
use Rattle.clause_cell.proofs.Packed.{half_is}
use Rattle.clause_cell.specs.Packing.{code_at, lit_word, half}
use Rattle.share_rule.specs.Views.{lit_in}
use Rattle.share_rule.specs.Layout.{InVars}

bit_small : (b : Bool) → (if b then 1 else 0) ≤ 1
bit_small true = omega arith
bit_small false = omega arith

var_of : (v : ℕ) (b : Bool) → (2 * v + (if b then 1 else 0)) / 2 ≡ v
var_of v true = omega arith
var_of v false = omega arith

neg_of : (v : ℕ) (b : Bool) → ((2 * v + (if b then 1 else 0)) % 2 == 1) ≡ b
neg_of v true = eq-eqb ((2 * v + 1) % 2) 1 (omega arith)
neg_of v false = ne_eqb ((2 * v + 0) % 2) 1 (λ e. omega arith)

pub literal_is : (k : Literal) → record { var = code_of k / 2; neg = code_of k % 2 == 1 } ≡ k
literal_is k = λ i. record { var = var_of k.var k.neg i; neg = neg_of k.var k.neg i }

small_codes : (l : Layout) (lits : List Literal) → l.vars ≤ 2 ^ 30 → InVars l lits → All (λ k. code_of k < 2 ^ 32) lits
small_codes l lits few vars j d lt = let v = (vars j d lt).1 in let b = bit_small (get_or lits j d).neg in omega arith

code_is : (lits : List Literal) (i : ℕ) → i < length lits → code_at lits i ≡ code_of (lit_in lits i)
code_is [] i lt = absurd (omega arith)
code_is (k ∷ lits) zero lt = refl
code_is (k ∷ lits) (suc i) lt = code_is lits i (omega arith)

lit_bounds : (l : Layout) (lits : List Literal) (i : ℕ) → l.vars ≤ 2 ^ 30 → InVars l lits → i < length lits → (1 ≤ (lit_in lits i).var) × ((lit_in lits i).var ≤ 2 ^ 30)
lit_bounds l lits i few vars lt = let t = vars i (record { var = 0; neg = false }) lt in let hi = t.1 in (t.0, omega arith)

-- what the code in a cell's word says
pub record Decoded (lits : List Literal) (i code : ℕ) : Type 0 where
  pub low : 1 ≤ code / 2
  pub high : code / 2 ≤ 2 ^ 30
  pub literal : record { var = code / 2; neg = code % 2 == 1 } ≡ lit_in lits i

-- what a listed unit's code says
pub decoded_unit : (l : Layout) (units : List Literal) (i code : ℕ) → l.vars ≤ 2 ^ 30 → InVars l units → i < length units → code ≡ slice_index_or (map code_of units) i 0 → Decoded units i code
decoded_unit l units i code few vars lt e =
    let is : code ≡ code_of (lit_in units i) = e ∙ code_is units i lt in
    let b = lit_bounds l units i few vars lt in
    let lo = b.0 in
    let hi = b.1 in
    let v : code / 2 ≡ (lit_in units i).var = ap (λ k. k / 2) is ∙ var_of (lit_in units i).var (lit_in units i).neg in
    record { low = omega arith; high = omega arith; literal = (λ j. record { var = is j / 2; neg = is j % 2 == 1 }) ∙ literal_is (lit_in units i) }

pub decoded : (l : Layout) (lits : List Literal) (i n code : ℕ) → l.vars ≤ 2 ^ 30 → InVars l lits → i < length lits → n ≡ lit_word lits (i / 2) → code ≡ half n i → Decoded lits i code
decoded l lits i n code few vars lt word e =
    let is : code ≡ code_of (lit_in lits i) = e ∙ ap (λ w. half w i) word ∙ half_is lits i (small_codes l lits few vars) ∙ code_is lits i lt in
    let b = lit_bounds l lits i few vars lt in
    let lo = b.0 in
    let hi = b.1 in
    let v : code / 2 ≡ (lit_in lits i).var = ap (λ k. k / 2) is ∙ var_of (lit_in lits i).var (lit_in lits i).neg in
    record { low = omega arith; high = omega arith; literal = (λ j. record { var = is j / 2; neg = is j % 2 == 1 }) ∙ literal_is (lit_in lits i) }
