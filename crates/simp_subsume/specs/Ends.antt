-- What subsumption leaves.
use Rattle.std.specs.Prelude.{◌≡◌, ◌≢◌, ℕ, true, false, List, Contains, Result, Ok, Err}
use Rattle.sat_words.specs.Literal.{Literal}
use Rattle.sat_words.specs.Clause.{has, includes}
use Rattle.drat_text.specs.declared.stop.LineStop.{LineStop}
use Rattle.simp_base.specs.WorkState.{WorkState, known}
use Rattle.simp_base.specs.Causes.{HasCause}
use Rattle.simp_base.specs.Lifted.{Lifted}
use Rattle.simp_base.specs.declared.work.Run.{Run}
use Rattle.simp_base.specs.declared.work.Run.TheVariants.{Done, Refuted}
use Rattle.simp_base.specs.Parts.{takes_part}
use Rattle.simp_subsume.specs.Related.{IsUnrelated}

-- of two clauses that take part none is contained in the other, neither as it is nor with one literal negated
abbrev pub IsReduced : List (ℕ × List Literal) → Type 0
IsReduced cs = (m n : ℕ) (c d : List Literal) → Contains cs (m, c) → Contains cs (n, d) → m ≢ n → takes_part c ≡ true → takes_part d ≡ true → IsUnrelated c d

-- each of the first clauses contains one of the second
abbrev pub EachContains : List (List Literal) → List (List Literal) → Type 0
EachContains F G = (c : List Literal) → Contains F c → (d : List Literal) × Contains G d × (includes c d ≡ true)

-- each of the second clauses is contained in one of the first
abbrev pub EachContained : List (List Literal) → List (List Literal) → Type 0
EachContained F G = (d : List Literal) → Contains G d → (c : List Literal) × Contains F c × (includes c d ≡ true)

-- the clauses that take no part stay, each under its number: tautologies, and clauses of one literal
abbrev pub PassesOthers : WorkState → WorkState → Type 0
PassesOthers old new = (n : ℕ) (c : List Literal) → takes_part c ≡ false → Contains old.clauses (n, c) → Contains new.clauses (n, c)

-- no clause is contained in another one, and those that take no part stay; what was known contains something that is known, and what is known is a part of
-- something that was; each unit is still listed; nothing came to the stack, and models lift
pub record Subsumed (old new : WorkState) : Type 0 where
  pub reduced : IsReduced new.clauses
  pub passed : PassesOthers old new
  pub covered : EachContains (known old) (known new)
  pub parts : EachContained (known old) (known new)
  pub vars : new.vars ≡ old.vars
  pub units : (l : Literal) → has old.units l ≡ true → has new.units l ≡ true
  pub stack : new.stack ≡ old.stack
  pub lifted : Lifted old new
  pub going : new.ended ≡ false
  pub unspent : new.output.spent ≡ false
  pub quiet : new.output.faults ≡ old.output.faults

-- how a run ends: it refutes nothing
abbrev pub Ends : WorkState → WorkState → Result Run LineStop → Type 0
Ends old new (Ok Done) = Subsumed old new
Ends old new (Ok Refuted) = ⊥
Ends old new (Err stop) = HasCause old new stop
