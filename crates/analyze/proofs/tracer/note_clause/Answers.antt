use Rattle.std.proofs.Common.{◌∙◌, ◌<◌, length, arith}
use Rattle.ring_port.specs.PortState.{lits_at}
use Rattle.analyze.specs.declared.tracer.Note.TheVariants.{Noted}
use Rattle.analyze.proofs.Chains.{lit_read}
use Rattle.analyze.proofs.Noting.{HasNoted-more}
use Rattle.analyze.proofs.tracer.note_clause.Goals as goal

pub loop-i-preserved : goal.loop-i-preserved
loop-i-preserved g c =
    let i = c.loop-i.invariant in
    let lits = lits_at (g.P.Port.state c.args.port.now) c.args.c.address in
    let read = lit_read lits c.loop-i.i c.read_lit-lit.result (rw i.same at c.read_lit-lit.ensures.value) in
    let lt : c.loop-i.i < length lits = omega (arith, i.size) in
    record {
      same = c.read_lit-lit.ensures.same ∙ i.same;
      size = i.size;
      noting = c.note_lit.ensures.noting;
      noted = HasNoted-more c.args.trail.now.steps Noted c.args.table.now c.loop-i.table c.note_lit.new.table lits c.loop-i.i c.read_lit-lit.result lt i.noted (rw (read.at c.read_lit-lit.result) c.note_lit.ensures.noted);
    }
