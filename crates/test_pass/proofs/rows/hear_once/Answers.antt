use Rattle.std.proofs.Common.{◌∙◌, ap, sym, subst, Option}
use Rattle.std.specs.Prelude.{◌≡◌, IfSome}
use Rattle.ring_port.specs.PortState.{Holding, PortState, held_at, head_of, lits_at}
use Rattle.test_pass.proofs.Row.{heads_stay, lits_stay}
use Rattle.test_pass.proofs.rows.hear_once.Goals as goal

pub returns-clause-lits : goal.returns-clause-lits
returns-clause-lits g c =
    let a = c.in-Some.found.address in
    let looked = rw c.in-None.is at c.in_ok-hear.ensures.polled in
    ap (λ (s : PortState). lits_at s a) looked ∙ lits_stay (g.P.Port.state c.read_pair.new.port) 0 a ∙ ap (λ (s : PortState). lits_at s a) c.in_ok-head.ensures.same ∙ c.in_ok-head.ensures.lits

pub returns-clause-head : goal.returns-clause-head
returns-clause-head g c =
    let a = c.in-Some.found.address in
    let head = c.in_ok-head.head in
    let looked = rw c.in-None.is at c.in_ok-hear.ensures.polled in
    let same = ap (λ (s : PortState). held_at s a) looked ∙ heads_stay (g.P.Port.state c.read_pair.new.port) 0 a ∙ ap (λ (s : PortState). held_at s a) c.in_ok-head.ensures.same in
    subst (λ (o : Option Holding). IfSome o (λ h. head ≡ head_of h)) (sym same) c.in_ok-head.ensures.head
