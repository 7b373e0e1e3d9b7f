use Rattle.share_rule.specs.Views.{only}
use Rattle.test_pass.proofs.Row.{none_more}
use Rattle.test_pass.proofs.ports.join_ring.Goals as goal

pub returns-clause-built : goal.returns-clause-built
returns-clause-built g c = none_more c.args.first.now.me.0.parts c.gather.new.first.me.0.parts (only c.into_pass-pass.result.me.0) c.gather.ensures.2 c.into_pass-pass.ensures.built
