use Rattle.share_rule.specs.Views.{only}
use Rattle.test_tables.proofs.Gathering.{none_of_two}
use Rattle.test_tables.proofs.rings.close_two.Goals as goal

pub close_round-requires-clause-built : goal.close_round-requires-clause-built
close_round-requires-clause-built g c =
    none_of_two c.args.first.me.0.parts c.gather.new.first.me.0.parts c.gather-2.new.first.me.0.parts (only c.args.one.pass.me.0) (only c.args.zero.pass.me.0)
    c.gather.ensures.2 c.gather-2.ensures.2 c.requires.first.1 c.requires.built.1 c.requires.built.0
