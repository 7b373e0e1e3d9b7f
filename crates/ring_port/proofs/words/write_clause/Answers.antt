use Rattle.ring_port.proofs.Stretches.{put_written}
use Rattle.ring_port.proofs.words.write_clause.Goals as goal

pub returns : goal.returns
returns c =
    put_written c.args.words.now.items c.write_lits.new.words.items c.args.first c.args.number c.args.glue c.head_word.result c.args.lits.now c.requires.few c.read_vars.ensures c.requires.fits c.head_word.ensures
    c.write_lits.ensures.long c.write_lits.ensures.there c.write_lits.ensures.others
