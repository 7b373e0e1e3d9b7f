use Rattle.std.proofs.Common.{◌≡◌, ◌∙◌, List, length, sym, ap, arith, subst, Some, false, Bool}
use Rattle.std.specs.Prelude.{IsSome, slice_get}
use Rattle.std.proofs.lemmas.Option.{get_or_from_slice_get}
use Rattle.sat_words.specs.Literal.{Literal}
use Rattle.sat_words.specs.Values.{is_open}
use Rattle.ring_port.specs.PortState.{PortState, held_at, lits_at}
use Rattle.sat_words.proofs.Finding.{found, none_found, none_more}
use Rattle.ring_port.proofs.port.Port.find_open.Goals as goal

abbrev no_lit : Literal
no_lit = record { var = 0; neg = false }

pub read_lit-lit-requires-clause-held : goal.read_lit-lit-requires-clause-held
read_lit-lit-requires-clause-held g c = subst (λ (s : PortState). IsSome (held_at s c.args.c.address)) (sym c.loop-i.invariant.same) c.requires

pub read_lit-lit-requires-clause-inside : goal.read_lit-lit-requires-clause-inside
read_lit-lit-requires-clause-inside g c =
    let same = ap (λ (s : PortState). length (lits_at s c.args.c.address)) c.loop-i.invariant.same in
    let lt = c.loop-i-test.true in
    let size = c.head-size.ensures.size in
    omega arith

pub loop-i-preserved : goal.loop-i-preserved
loop-i-preserved g c =
    let lits : List Literal = lits_at (g.Self.Port.state c.args.self.now) c.args.c.address in
    let p : Literal → Bool = is_open c.args.values.now c.args.other in
    let at : slice_get lits c.loop-i.i ≡ Some c.read_lit-lit.result = subst (λ (s : PortState). slice_get (lits_at s c.args.c.address) c.loop-i.i ≡ Some c.read_lit-lit.result) c.loop-i.invariant.same c.read_lit-lit.ensures.value in
    let is = get_or_from_slice_get lits c.loop-i.i c.read_lit-lit.result no_lit at in
    record {
      same = c.read_lit-lit.ensures.same ∙ c.loop-i.invariant.same;
      port = c.read_lit-lit.ensures.port;
      none = none_more p lits no_lit c.loop-i.i c.loop-i.invariant.none (ap p is ∙ sym c.is_open.ensures ∙ c.if-is_open.false);
    }

pub returns-then-is_open-clause-first : goal.returns-then-is_open-clause-first
returns-then-is_open-clause-first g c =
    let lits : List Literal = lits_at (g.Self.Port.state c.args.self.now) c.args.c.address in
    let p : Literal → Bool = is_open c.args.values.now c.args.other in
    let at : slice_get lits c.loop-i.i ≡ Some c.read_lit-lit.result = subst (λ (s : PortState). slice_get (lits_at s c.args.c.address) c.loop-i.i ≡ Some c.read_lit-lit.result) c.loop-i.invariant.same c.read_lit-lit.ensures.value in
    let is = get_or_from_slice_get lits c.loop-i.i c.read_lit-lit.result no_lit at in
    let lt = c.loop-i-test.true in
    let size = c.head-size.ensures.size in
    ap Some (sym is) ∙ sym (found p lits c.loop-i.i no_lit c.loop-i.invariant.none (omega arith) (ap p is ∙ sym c.is_open.ensures ∙ c.if-is_open.true))

pub returns-clause-first : goal.returns-clause-first
returns-clause-first g c =
    let lits : List Literal = lits_at (g.Self.Port.state c.args.self.now) c.args.c.address in
    let p : Literal → Bool = is_open c.args.values.now c.args.other in
    let done = c.loop-i-test.false in
    let size = c.head-size.ensures.size in
    sym (none_found p lits no_lit (λ k lt. c.loop-i.invariant.none k (omega arith)))
