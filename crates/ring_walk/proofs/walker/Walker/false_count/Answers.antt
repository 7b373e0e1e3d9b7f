use Rattle.std.proofs.Common.{◌∙◌, List, ap}
use Rattle.std.specs.List.{count_by}
use Rattle.sat_words.specs.Truth.{lit_true}
use Rattle.ring_walk.specs.declared.tally.Count.{Count}
use Rattle.ring_walk.specs.Tally.{is_false}
use Rattle.ring_walk.specs.WalkData.{WalkData, false_under}
use Rattle.ring_walk.proofs.Truths.{falses_are}
use Rattle.ring_walk.proofs.walker.Walker.false_count.Goals as goal

pub returns-clause-count : goal.returns-clause-count
returns-clause-count c =
    let w = c.self.inside in
    c.false_count.ensures.falses
    ∙ ap (λ (cs : List Count). count_by is_false cs) c.self.invariant.counts
    ∙ falses_are (lit_true w.kept.values) w.clauses.now
    ∙ ap (λ (d : WalkData). false_under d.clauses d.values) c.self.view_is
