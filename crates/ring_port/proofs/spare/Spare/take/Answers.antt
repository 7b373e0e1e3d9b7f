use Rattle.std.proofs.Common.{◌≡◌, sym, ap, subst, ◌∙◌, [], true, List}
use Rattle.std.specs.Option.{unwrap_or}
use Rattle.std.specs.declared.option.Option.{Option}
use Rattle.clause_cell.specs.declared.holes.Hole.{Hole}
use Rattle.clause_cell.specs.Free.{is_apart}
use Rattle.clause_cell.proofs.Ranges.{taken_apart}
use Rattle.ring_port.specs.Spare.{IsTaken}
use Rattle.ring_port.proofs.Spares.{is_taken}
use Rattle.ring_port.proofs.spare.Spare.take.Goals as goal

pub invariant_of-self : goal.invariant_of-self
invariant_of-self c =
    let apart : is_apart 0 c.in-Some.holes ≡ true = subst (λ (o : Option (List Hole)). is_apart 0 (unwrap_or o []) ≡ true) c.in-Some.is c.self.invariant in
    ap (is_apart 0) c.in-Ok.ensures.left ∙ taken_apart 0 c.args.need c.in-Some.holes apart

pub returns-in-Ok-clause-taken : goal.returns-in-Ok-clause-taken
returns-in-Ok-clause-taken c =
    let apart : is_apart 0 c.in-Some.holes ≡ true = subst (λ (o : Option (List Hole)). is_apart 0 (unwrap_or o []) ≡ true) c.in-Some.is c.self.invariant in
    let here : c.in-Some.holes ≡ c.args.self.now = sym (ap (λ (o : Option (List Hole)). unwrap_or o []) c.in-Some.is) ∙ c.self.view_is in
    subst (λ (hs : List Hole). IsTaken hs c.take.new.self c.in-Ok.first c.args.need) here
    (subst (λ (hs : List Hole). IsTaken c.in-Some.holes hs c.in-Ok.first c.args.need) (sym c.in-Ok.ensures.left)
    (is_taken c.in-Some.holes c.args.need c.in-Ok.first c.requires apart c.in-Ok.ensures.found))
