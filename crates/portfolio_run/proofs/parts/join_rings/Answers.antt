use Rattle.std.proofs.Common.{◌++◌, List, ◌∙◌, sym, ap}
use Rattle.ring_pass.specs.RingState.{home_of}
use Rattle.ring_run.specs.declared.job.End.TheVariants.{Spent}
use Rattle.share_rule.specs.declared.view.RingPart.{RingPart}
use Rattle.portfolio_run.specs.Held.{no_counts}
use Rattle.portfolio_run.specs.Seats.{all_parts}
use Rattle.portfolio_run.proofs.Gathering.{all_rest, have_run}
use Rattle.portfolio_run.proofs.parts.join_rings.Goals as goal

pub gather-requires-clause-passes : goal.gather-requires-clause-passes
gather-requires-clause-passes g c =
    let run = c.split_rings.ensures.run in
    all_rest c.args.table.now c.split_rings.new.passes.items (λ i d lt. (run i d (Spent, no_counts) lt).has)

pub returns : goal.returns
returns g c =
    let e = c.split_rings.ensures in
    let h = c.gather.ensures in
    let first = c.args.first.now in
    let passes = c.split_rings.new.passes.items in
    have_run c.args.table.now first.me.0 (home_of first) c.args.plan.now c.gather.new.first passes c.split_rings.new.ends.items first.me.0.stop h.first h.same
    (h.parts ∙ ap (λ (ps : List RingPart). ps ++ all_parts passes) c.requires.first.1) h.stop (e.many.0 ∙ c.requires.many) (e.many.1 ∙ sym e.many.0) e.run
