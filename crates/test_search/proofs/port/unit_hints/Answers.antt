use Rattle.std.proofs.Common.{◌∙◌, ◌∷◌, [], ℕ, List, sym, subst}
use Rattle.ring_port.specs.Port.{AreHints}
use Rattle.test_search.proofs.PortCalls.{unit_hint}
use Rattle.test_search.proofs.port.unit_hints.Goals as goal

pub returns : goal.returns
returns g c =
    let s = g.P.Port.state c.args.port.now in
    subst (λ (ns : List ℕ). AreHints s (c.args.unit ∷ []) ns) (sym c.in_ok-from_slice.ensures.items)
    (unit_hint s c.args.unit c.in-Some.number (sym c.has_hints.ensures.value ∙ c.if-not-has_hints.false) c.has_hints.ensures.port c.in-Some.ensures.told)
