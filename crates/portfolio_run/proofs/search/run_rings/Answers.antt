use Rattle.std.proofs.Common.{List, map, ◌∙◌, ap}
use Rattle.ring_run.specs.declared.job.Counts.{Counts}
use Rattle.ring_run.specs.declared.job.End.{End}
use Rattle.ring_pass.specs.RingState.{home_of}
use Rattle.portfolio_run.proofs.Gathering.{mended_ends, run_looked}
use Rattle.portfolio_run.proofs.search.run_rings.Goals as goal

pub decide-requires-clause-mended : goal.decide-requires-clause-mended
decide-requires-clause-mended g c =
    let first = c.args.first.now in
    mended_ends c.args.table.now first.me.0 (home_of first) c.args.plan.now c.join_rings.new.first c.join_rings.new.ends.items c.args.formula.now.vars c.args.stack.now c.requires.first.0.0.2 c.requires.more c.requires.fits c.join_rings.ensures

pub returns : goal.returns
returns g c =
    let first = c.args.first.now in
    let e = c.decide.ensures in
    record {
      ends = c.join_rings.new.ends.items;
      run = run_looked c.args.table.now first.me.0 (home_of first) c.args.plan.now c.join_rings.new.first c.decide.new.first c.join_rings.new.ends.items e.first e.same.0 e.same.1 e.ends c.join_rings.ensures;
      tally_is = c.note_counts.ensures ∙ ap (λ (es : List (End × Counts)). map (λ (e : End × Counts). e.1) es) c.as_slice.ensures.value;
      decided = e.decided;
    }
