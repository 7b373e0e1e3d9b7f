use Rattle.std.proofs.Common.{rules, ◌≡◌, ◌≤◌, ap, ◌∙◌, ◌++◌, length, ◌+◌, subst}
use Rattle.io_edge.specs.Bytes.{IsFront}
use Rattle.io_edge.specs.Causes.{Rose}
use Rattle.drat_text.specs.declared.blocks.TheConstants.{BLOCK}
use Rattle.drat_text.specs.Gathered.{Gathered, bytes_in}
use Rattle.drat_text.proofs.Gathering.{broke}
use Rattle.drat_text.proofs.blocks.Blocks.append.Goals as goal

pub returns-in-Err : goal.returns-in-Err
returns-in-Err g c =
    let pushed : Gathered g.row.S.Denot = record { waiting = c.args.self.now.waiting ++ c.split_at.result.0.now; sink = c.args.self.now.sink } in
    let whole : c.split_at.result.0.now ++ c.split_at.result.1.now ≡ c.args.bytes.now = search rules in
    let full : BLOCK ≤ length c.args.self.now.waiting + length c.args.bytes.now = search rules in
    let front = subst (λ (a : Gathered g.row.S.Denot). IsFront (g.S.Sink.written c.write_out.new.self.sink) (bytes_in g.S.Sink.written a)) c.push-2.ensures c.in-Err.ensures.front in
    let sink = ap (λ (a : Gathered g.row.S.Denot). a.sink) c.push-2.ensures in
    broke g.S.Sink.written g.S.Sink.flushed g.S.Sink.target g.S.Sink.faults c.args.self.now c.write_out.new.self
    c.split_at.result.0.now c.split_at.result.1.now c.args.bytes.now
    whole full front c.write_out.ensures.nothing
    (subst (λ (a : g.row.S.Denot). g.S.Sink.faults a ≤ g.S.Sink.faults c.write_out.new.self.sink) sink c.in-Err.ensures.cause.later)
    (subst (λ (a : g.row.S.Denot). Rose (g.S.Sink.faults a) (g.S.Sink.faults c.write_out.new.self.sink)) sink c.in-Err.ensures.cause.failed)
    (c.in-Err.ensures.flushed ∙ ap g.S.Sink.flushed sink) (c.in-Err.ensures.target ∙ ap g.S.Sink.target sink)
