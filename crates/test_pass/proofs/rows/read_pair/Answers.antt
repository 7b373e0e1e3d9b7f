use Rattle.std.proofs.Common.{◌≡◌, ◌∙◌, Some, sym, subst}
use Rattle.std.specs.Prelude.{slice_get}
use Rattle.ring_port.specs.PortState.{PortState, lits_at}
use Rattle.test_pass.proofs.Row.{two_read}
use Rattle.test_pass.proofs.rows.read_pair.Goals as goal

pub returns-clause-lits : goal.returns-clause-lits
returns-clause-lits g c =
    let a = c.args.c.address in
    let head = c.head-head in
    let first = c.read_lit-first in
    let second = c.read_lit-second in
    two_read (lits_at (g.P.Port.state c.args.port.now) a) first.result second.result (sym head.ensures.size ∙ c.if-head-ne2.false)
    (subst (λ (s : PortState). slice_get (lits_at s a) 0 ≡ Some first.result) head.ensures.same first.ensures.value)
    (subst (λ (s : PortState). slice_get (lits_at s a) 1 ≡ Some second.result) (first.ensures.same ∙ head.ensures.same) second.ensures.value)
