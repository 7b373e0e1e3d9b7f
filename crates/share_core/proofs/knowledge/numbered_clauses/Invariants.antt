use Rattle.std.proofs.Common.{◌≡◌, map, take}
use Rattle.share_core.specs.declared.stored.ClauseAt.{ClauseAt}
use Rattle.share_core.proofs.knowledge.numbered_clauses.Given as goal

abbrev pub invariant-loop-h : goal.invariant-loop-h
invariant-loop-h l = l.known.items ≡ map (λ (h : ClauseAt). (h.number, h.lits)) (take l.h-index l.held)
