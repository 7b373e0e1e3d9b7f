use Rattle.std.proofs.Common.{◌∷◌, [], IsSome, sym}
use Rattle.std.proofs.lemmas.List.Elements.{All-from_recursion}
use Rattle.sat_words.specs.declared.shared.Cref.{Cref}
use Rattle.ring_port.specs.PortState.{PortState, held_at}
use Rattle.test_ring.proofs.ReductionRow.{has_source, elsewhere, held_on, held_beside}
use Rattle.test_ring.proofs.reusing.reuse_words.Goals as goal

pub give_up-requires-clause-no_start : goal.give_up-requires-clause-no_start
give_up-requires-clause-no_start g c =
    let s1 : PortState = g.P.Port.state c.copy_one.new.port in
    λ e. elsewhere s1 0 c.in_ok-second.second.address (has_source s1 c.in_ok-first.ensures.row) c.in_ok-second.ensures.fresh (sym e)

pub give_up-requires-clause-held : goal.give_up-requires-clause-held
give_up-requires-clause-held g c =
    held_on (g.P.Port.state c.copy_one-2.new.port) (g.P.Port.state c.copy_one-3.new.port) c.in_ok-second.second.address c.in_ok-third.ensures.kept c.in_ok-second.ensures.held

pub read_copies-requires : goal.read_copies-requires
read_copies-requires g c =
    let s1 : PortState = g.P.Port.state c.copy_one.new.port in
    let s2 : PortState = g.P.Port.state c.copy_one-2.new.port in
    let s3 : PortState = g.P.Port.state c.copy_one-3.new.port in
    let s4 : PortState = g.P.Port.state c.give_up.new.port in
    let s5 : PortState = g.P.Port.state c.copy_one-4.new.port in
    let s6 : PortState = g.P.Port.state c.copy_one-5.new.port in
    let a = c.in_ok-first.first.address in
    let b = c.in_ok-second.second.address in
    let d = c.in_ok-third.third.address in
    let a2 = held_on s1 s2 a c.in_ok-second.ensures.kept c.in_ok-first.ensures.held in
    let a4 = held_beside s3 s4 a b c.in_ok-give_up.ensures (elsewhere s1 a b c.in_ok-first.ensures.held c.in_ok-second.ensures.fresh) (held_on s2 s3 a c.in_ok-third.ensures.kept a2) in
    let d4 = held_beside s3 s4 d b c.in_ok-give_up.ensures (λ e. elsewhere s2 b d c.in_ok-second.ensures.held c.in_ok-third.ensures.fresh (sym e)) c.in_ok-third.ensures.held in
    let last = c.in_ok-fifth.ensures.kept in
    All-from_recursion (λ (x : Cref). IsSome (held_at s6 x.address)) (c.in_ok-first.first ∷ c.in_ok-third.third ∷ c.in_ok-fourth.fourth ∷ c.in_ok-fifth.fifth ∷ [])
    (held_on s5 s6 a last (held_on s4 s5 a c.in_ok-fourth.ensures.kept a4), (held_on s5 s6 d last (held_on s4 s5 d c.in_ok-fourth.ensures.kept d4), (held_on s5 s6 c.in_ok-fourth.fourth.address last c.in_ok-fourth.ensures.held, (c.in_ok-fifth.ensures.held, tt))))
