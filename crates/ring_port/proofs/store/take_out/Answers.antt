use Rattle.std.proofs.Common.{◌∙◌, sym, ap}
use Rattle.std.specs.List.{position}
use Rattle.sat_words.specs.declared.shared.Cref.{Cref}
use Rattle.std.proofs.Common.{List, ◌==◌}
use Rattle.ring_port.proofs.Stretches.{taken_out, none_out}
use Rattle.ring_port.proofs.store.take_out.Goals as goal

pub returns-in-Some : goal.returns-in-Some
returns-in-Some c =
    c.remove.ensures.items
    ∙ taken_out c.args.refs.now.items c.args.address c.in-Some.place (record { address = 0 })
    (ap (λ (cs : List Cref). position (λ x. x.address == c.args.address) cs) (sym c.as_slice.ensures.value) ∙ sym c.place_of.ensures ∙ c.in-Some.is)

pub returns-in_default : goal.returns-in_default
returns-in_default c =
    none_out c.args.refs.now.items c.args.address
    (ap (λ (cs : List Cref). position (λ x. x.address == c.args.address) cs) (sym c.as_slice.ensures.value) ∙ sym c.place_of.ensures ∙ c.in_default.is)
