use Rattle.std.proofs.Common.{◌∙◌, List, ap}
use Rattle.std.specs.List.{count_by}
use Rattle.sat_words.specs.Truth.{lit_true}
use Rattle.ring_walk.specs.declared.tally.Count.{Count}
use Rattle.ring_walk.specs.Tally.{is_by}
use Rattle.ring_walk.specs.WalkData.{WalkData, broken_under}
use Rattle.ring_walk.proofs.Truths.{soles_are}
use Rattle.ring_walk.proofs.walker.Walker.broken_by.Goals as goal

pub returns : goal.returns
returns c =
    let w = c.self.inside in
    c.broken_by.ensures
    ∙ ap (λ (cs : List Count). count_by (is_by c.args.var) cs) c.self.invariant.counts
    ∙ soles_are (lit_true w.kept.values) c.args.var w.clauses.now
    ∙ ap (λ (d : WalkData). broken_under d.clauses d.values c.args.var) c.self.view_is
