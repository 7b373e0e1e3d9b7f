-- The code of a unit gives the unit.
use Rattle.std.proofs.Common.{◌≡◌, ◌∙◌, ℕ, ◌+◌, ◌*◌, ◌/◌, ◌%◌, ◌≤◌, ◌==◌, Bool, true, false, [], ◌∷◌, ap, arith, eq-eqb, ne_eqb, if◌then◌else◌}
use Rattle.sat_words.specs.Literal.{Literal, code_of}
use Rattle.rup_model.specs.Basics.{one_if}
use Rattle.share_rule.specs.declared.Layout.{Layout}
use Rattle.share_rule.specs.Layout.{InVars}

var_of : (v : ℕ) (b : Bool) → (2 * v + (if b then 1 else 0)) / 2 ≡ v
var_of v true = omega arith
var_of v false = omega arith

neg_of : (v : ℕ) (b : Bool) → ((2 * v + (if b then 1 else 0)) % 2 == 1) ≡ b
neg_of v true = eq-eqb ((2 * v + 1) % 2) 1 (omega arith)
neg_of v false = ne_eqb ((2 * v + 0) % 2) 1 (λ e. omega arith)

literal_is : (k : Literal) → record { var = code_of k / 2; neg = code_of k % 2 == 1 } ≡ k
literal_is k = λ i. record { var = var_of k.var k.neg i; neg = neg_of k.var k.neg i }

-- what is read as a unit's code gives the unit
pub record UnitCode (vars code : ℕ) (lit : Literal) : Type 0 where
  pub low : 1 ≤ code / 2
  pub high : code / 2 ≤ vars
  pub literal : record { var = code / 2; neg = code % 2 == 1 } ≡ lit

pub unit_code : (l : Layout) (lit : Literal) (code : ℕ) → InVars l (lit ∷ []) → code ≡ code_of lit → UnitCode l.vars code lit
unit_code l lit code h e =
    let v = h 0 lit (omega arith) in
    let lo = v.0 in
    let hi = v.1 in
    let b = bit lit.neg in
    record {
      low = omega arith;
      high = omega arith;
      literal = ap (λ (n : ℕ). record { var = n / 2; neg = n % 2 == 1 }) e ∙ literal_is lit;
    }
  where
    bit : (n : Bool) → one_if n ≤ 1
    bit true = omega arith
    bit false = omega arith
