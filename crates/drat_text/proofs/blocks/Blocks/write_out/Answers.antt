use Rattle.std.proofs.Common.{rules}
use Rattle.io_edge.proofs.Growth.{front_grown}
use Rattle.drat_text.proofs.blocks.Blocks.write_out.Goals as goal
use Rattle.drat_text.proofs.blocks.Blocks.write_out.Goals.{in-Ok, in-Err}

pub returns-clause-front : goal.returns-clause-front
returns-clause-front g c = elim c.match-written.branch [
  | in-Ok w ↦ rw w.result-is tt
  | in-Err w ↦ rw w.result-is
      (front_grown (g.S.Sink.written c.args.self.now.sink) (g.S.Sink.written c.write_all_of-written.new.sink) c.args.self.now.waiting w.in-Err.field-0.taken (search rules))
]
