use Rattle.std.proofs.Common.{◌≡◌, ◌∙◌, ◌<◌, ℕ, ap, arith, length, unwrap_or}
use Rattle.ring_port.specs.PortState.{lits_at}
use Rattle.ring_trail.specs.TrailData.{level_of}
use Rattle.analyze.specs.Levels.{level_of_lit}
use Rattle.analyze.proofs.Chains.{lit_read}
use Rattle.analyze.proofs.LevelLemmas.{clause_level-more, false_var_in_range}
use Rattle.analyze.proofs.walk.level_of_clause.Goals as goal

pub level-requires : goal.level-requires
level-requires g c =
    let read = lit_read (lits_at (g.P.Port.state c.args.port.now) c.args.c.address) c.loop-i.i c.read_lit-lit.result (rw c.loop-i.invariant.same at c.read_lit-lit.ensures.value) in
    omega (arith, c.var.ensures.value, false_var_in_range c.args.trail.now c.read_lit-lit.result c.len-places.ensures.trail (c.requires.conflict c.read_lit-lit.result read.has_lit))

pub loop-i-preserved : goal.loop-i-preserved
loop-i-preserved g c =
    let i = c.loop-i.invariant in
    let lits = lits_at (g.P.Port.state c.args.port.now) c.args.c.address in
    let read = lit_read lits c.loop-i.i c.read_lit-lit.result (rw i.same at c.read_lit-lit.ensures.value) in
    let lt : c.loop-i.i < length lits = omega (arith, i.size) in
    let m = clause_level-more c.args.trail.now.steps lits c.loop-i.i c.read_lit-lit.result lt in
    let here : c.unwrap_or.result ≡ level_of_lit c.args.trail.now.steps c.read_lit-lit.result =
    c.unwrap_or.ensures ∙ ap (λ o. unwrap_or o 0) c.level.ensures ∙ ap (λ (v : ℕ). unwrap_or (level_of c.args.trail.now.steps v) 0) c.var.ensures.value in
    let there = ap (level_of_lit c.args.trail.now.steps) (read.at c.read_lit-lit.result) in
    record {
      same = c.read_lit-lit.ensures.same ∙ i.same;
      size = i.size;
      level = omega (arith, m, here, there, c.max-most.ensures, i.level);
    }
