-- From where what is kept of a clause can be traced, once the walk over its literals has ended.
use Rattle.std.specs.Prelude.{ℕ, ◌≤◌, List, IsSome}
use Rattle.sat_words.specs.Literal.{Literal}
use Rattle.sat_words.specs.declared.shared.Cref.{Cref}
use Rattle.ring_port.specs.PortState.{PortState, clause_at, held_at, lits_at}
use Rattle.ring_trail.specs.TrailData.{TrailData, IsTrueOn, IsPlaceOf}
use Rattle.analyze.specs.Tracing.{CanTraceClause, CanTraceLiteral}
use Rattle.vivify.specs.declared.ending.Ending.{Ending}
use Rattle.vivify.specs.declared.ending.Ending.TheVariants.{Conflict, True, Taken}

-- from a clause that is held
pub record FromClause (s : PortState) (t : TrailData) (kept : List Literal) (a : ℕ) : Type 0 where
  pub held : IsSome (held_at s a)
  pub can : CanTraceClause (clause_at s) t.steps kept (lits_at s a)

-- from a literal that is true
pub record FromLiteral (s : PortState) (t : TrailData) (kept : List Literal) (l : Literal) : Type 0 where
  pub in_range : l.var ≤ t.vars
  pub true_now : IsTrueOn t.steps l
  pub can : (p : ℕ) → IsPlaceOf t.steps l.var p → CanTraceLiteral (clause_at s) t.steps kept p

-- from where the walk over the clause ended
abbrev pub CanTrace : PortState → TrailData → List Literal → Cref → Ending → Type 0
CanTrace s t kept c (Conflict d) = FromClause s t kept d.address
CanTrace s t kept c (True l) = FromLiteral s t kept l
CanTrace s t kept c Taken = FromClause s t kept c.address
