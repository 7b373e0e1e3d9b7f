use Rattle.std.proofs.Common.{◌≡◌, ◌∙◌, length, Some, subst, ap, sym, inl, inr, arith}
use Rattle.std.specs.List.{slice_get}
use Rattle.sat_words.specs.Literal.{Literal, IsOn}
use Rattle.ring_port.specs.PortState.{PortState, lits_at}
use Rattle.ring_port.proofs.Holdings.{held_is_kept}
use Rattle.ring_trail.specs.TrailData.{IsTrueOn, IsFalseOn}
use Rattle.watch_prop.proofs.ListsLemmas.{cases_eq}
use Rattle.watch_prop.proofs.Ranks.{at_has, has_at, same_there}
use Rattle.ring_run.proofs.Marked.{all_at}
use Rattle.ring_run.proofs.Resting.{opposite_false, true_is_not}
use Rattle.ring_run.proofs.vivification.is_true.Goals as goal

pub is_false-requires : goal.is_false-requires
is_false-requires g c =
    let s = g.P.Port.state c.args.port.now in
    let at : slice_get (lits_at s c.args.c.address) c.loop-i.i ≡ Some c.read_lit-lit.result = subst (λ (x : PortState). slice_get (lits_at x c.args.c.address) c.loop-i.i ≡ Some c.read_lit-lit.result) c.loop-i.invariant.same c.read_lit-lit.ensures.value in
    let on = all_at (IsOn s.vars) (lits_at s c.args.c.address) c.loop-i.i c.read_lit-lit.result ((held_is_kept s c.args.c.address c.requires.port c.requires.held).1) at in
    let var = ap (λ (l : Literal). l.var) c.not.ensures in
    omega (arith, on.high, var, c.requires.vars)

pub returns-then-is_false-clause-yes : goal.returns-then-is_false-clause-yes
returns-then-is_false-clause-yes g c = λ _.
    (let s = g.P.Port.state c.args.port.now in
    let at : slice_get (lits_at s c.args.c.address) c.loop-i.i ≡ Some c.read_lit-lit.result = subst (λ (x : PortState). slice_get (lits_at x c.args.c.address) c.loop-i.i ≡ Some c.read_lit-lit.result) c.loop-i.invariant.same c.read_lit-lit.ensures.value in
    (c.read_lit-lit.result, has_at (lits_at s c.args.c.address) c.loop-i.i c.read_lit-lit.result at, opposite_false c.args.trail.now.steps c.read_lit-lit.result (subst (IsFalseOn c.args.trail.now.steps) c.not.ensures (c.is_false.ensures.0 c.if-is_false.true))))

pub loop-i-preserved : goal.loop-i-preserved
loop-i-preserved g c =
    let s = g.P.Port.state c.args.port.now in
    let lits = lits_at s c.args.c.address in
    let at : slice_get lits c.loop-i.i ≡ Some c.read_lit-lit.result = subst (λ (x : PortState). slice_get (lits_at x c.args.c.address) c.loop-i.i ≡ Some c.read_lit-lit.result) c.loop-i.invariant.same c.read_lit-lit.ensures.value in
    record {
      same = c.read_lit-lit.ensures.same ∙ c.loop-i.invariant.same;
      size = c.loop-i.invariant.size;
      none_yet = λ p k lt e.
          elim (cases_eq p c.loop-i.i) as (λ _. IsTrueOn c.args.trail.now.steps k → ⊥) [
            | inr ne ↦ c.loop-i.invariant.none_yet p k (omega arith) e
            | inl q ↦ subst (λ (m : Literal). IsTrueOn c.args.trail.now.steps m → ⊥) (sym (same_there lits p c.loop-i.i k c.read_lit-lit.result q e at))
                (true_is_not c.args.trail.now.steps c.read_lit-lit.result c.not.result c.is_false.result c.not.ensures c.is_false.ensures.1 c.if-is_false.false)
          ];
    }

pub returns-clause-no : goal.returns-clause-no
returns-clause-no g c = λ _ k there.
    (let lits = lits_at (g.P.Port.state c.args.port.now) c.args.c.address in
    let n : c.loop-i.i ≡ length lits = omega (arith, c.loop-i.invariant.size) in
    let t = at_has lits k there in
    c.loop-i.invariant.none_yet t.0 k (omega (arith, t.1, n)) t.2)
