use Rattle.std.proofs.Common.{◌≡◌, ℕ, ◌+◌, Some, sym, subst, ◌∙◌}
use Rattle.std.specs.List.{slice_get}
use Rattle.sat_words.specs.Literal.{Literal}
use Rattle.ring_port.specs.PortState.{PortState, lits_at}
use Rattle.watch_prop.specs.Choice.{IsBest}
use Rattle.watch_prop.specs.declared.choice.Best.{Best}
use Rattle.watch_prop.proofs.Ranks.{IsBest-start, IsBest-step}
use Rattle.watch_prop.proofs.choice.choose.Goals as goal

read : (s r : PortState) (a i : ℕ) (l : Literal) → s ≡ r → slice_get (lits_at s a) i ≡ Some l → slice_get (lits_at r a) i ≡ Some l
read s r a i l e q = subst (λ (f : PortState). slice_get (lits_at f a) i ≡ Some l) e q

pub loop-i-init : goal.loop-i-init
loop-i-init g c =
    let s = g.P.Port.state c.args.port.now in
    let lits = lits_at s c.args.clause.address in
    let e1 = read _ s c.args.clause.address 0 c.read_lit-first.result c.shape-size.ensures.same c.read_lit-first.ensures.value in
    let s1 = c.read_lit-first.ensures.same ∙ c.shape-size.ensures.same in
    let e2 = read _ s c.args.clause.address 1 c.read_lit-second.result s1 c.read_lit-second.ensures.value in
    record {
      same = c.read_lit-second.ensures.same ∙ s1;
      size = c.shape-size.ensures.size;
      best = subst (λ (b : Best). IsBest c.args.trail.now lits 2 b) (sym c.start-best.ensures)
          (IsBest-start c.args.trail.now lits c.read_lit-first.result c.rank.result c.read_lit-second.result c.rank-2.result c.requires.long.distinct e1 e2 c.rank.ensures c.rank-2.ensures);
    }

pub loop-i-preserved : goal.loop-i-preserved
loop-i-preserved g c =
    let s = g.P.Port.state c.args.port.now in
    let lits = lits_at s c.args.clause.address in
    let e = read _ s c.args.clause.address c.loop-i.i c.read_lit-lit.result c.loop-i.invariant.same c.read_lit-lit.ensures.value in
    record {
      same = c.read_lit-lit.ensures.same ∙ c.loop-i.invariant.same;
      size = c.loop-i.invariant.size;
      best = subst (λ (b : Best). IsBest c.args.trail.now lits (c.loop-i.i + 1) b) (sym c.better-best.ensures)
          (IsBest-step c.args.trail.now lits c.loop-i.i c.loop-i.best c.read_lit-lit.result c.rank-in-loop-i.result c.requires.long.distinct e c.rank-in-loop-i.ensures c.loop-i.invariant.best);
    }
