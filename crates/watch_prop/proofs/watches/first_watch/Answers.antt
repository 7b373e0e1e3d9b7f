use Rattle.std.proofs.Common.{◌≡◌, ℕ, ◌<◌, Some, nat_eq, true, subst, sym, ◌∙◌, length, arith, IsSome}
use Rattle.std.specs.List.{slice_get}
use Rattle.std.proofs.lemmas.Bool.Decides.{nat_tests}
use Rattle.sat_words.specs.Literal.{Literal}
use Rattle.rup_model.specs.Opening.{IsLong}
use Rattle.ring_port.specs.PortState.{PortState, IsPort, held_at, lits_at}
use Rattle.ring_port.proofs.Holdings.{held_is_kept}
use Rattle.watch_prop.proofs.Ranks.{has_at, two_apart}
use Rattle.watch_prop.proofs.watches.first_watch.Goals as goal

shape : (s : PortState) (a : ℕ) → IsPort s → IsSome (held_at s a) → IsLong (lits_at s a)
shape s a port held = (held_is_kept s a port held).0

read : (s r : PortState) (a i : ℕ) (l : Literal) → s ≡ r → slice_get (lits_at s a) i ≡ Some l → slice_get (lits_at r a) i ≡ Some l
read s r a i l e q = subst (λ (f : PortState). slice_get (lits_at f a) i ≡ Some l) e q

pub read_lit-first-requires-clause-inside : goal.read_lit-first-requires-clause-inside
read_lit-first-requires-clause-inside g c =
    let n = (shape (g.P.Port.state c.args.port.now) c.args.c.address c.vars-vars.ensures.port c.requires).long in
    subst (λ (s : PortState). 0 < length (lits_at s c.args.c.address)) (sym c.shape-size.ensures.same) (omega arith)

pub read_lit-second-requires-clause-inside : goal.read_lit-second-requires-clause-inside
read_lit-second-requires-clause-inside g c =
    let n = (shape (g.P.Port.state c.args.port.now) c.args.c.address c.vars-vars.ensures.port c.requires).long in
    subst (λ (s : PortState). 1 < length (lits_at s c.args.c.address)) (sym (c.read_lit-first.ensures.same ∙ c.shape-size.ensures.same)) (omega arith)

two : (n : ℕ) → nat_eq n 2 ≡ true → n ≡ 2
two n e = grind (arith, nat_tests)

pub returns-clause-pair : goal.returns-clause-pair
returns-clause-pair g c =
    let s = g.P.Port.state c.args.port.now in
    let a = c.args.c.address in
    let lits = lits_at s a in
    let long = shape s a c.vars-vars.ensures.port c.requires in
    let e = read _ s a 0 c.read_lit-first.result c.shape-size.ensures.same c.read_lit-first.ensures.value in
    let f = read _ s a 1 c.read_lit-second.result (c.read_lit-first.ensures.same ∙ c.shape-size.ensures.same) c.read_lit-second.ensures.value in
    record {
      first = has_at lits 0 c.read_lit-first.result e;
      second = has_at lits 1 c.read_lit-second.result f;
      apart = two_apart lits c.read_lit-first.result c.read_lit-second.result long.distinct e f;
      only = λ q. sym c.shape-size.ensures.size ∙ two c.shape-size.result.size q;
    }
