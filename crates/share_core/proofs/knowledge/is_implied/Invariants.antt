use Rattle.std.proofs.Common.{◌≡◌, ◌++◌, ◌∷◌, [], map, take}
use Rattle.sat_words.specs.Literal.{Literal}
use Rattle.share_core.specs.declared.stored.ClauseAt.{ClauseAt}
use Rattle.share_core.proofs.knowledge.is_implied.Given as goal

abbrev pub invariant-loop-h : goal.invariant-loop-h
invariant-loop-h l = l.known.items ≡ map (λ (h : ClauseAt). h.lits) (take l.h-index l.held)

abbrev pub invariant-loop-unit : goal.invariant-loop-unit
invariant-loop-unit l = l.known.items ≡ map (λ (h : ClauseAt). h.lits) l.held ++ map (λ (k : Literal). k ∷ []) (take l.unit-index l.seen)
