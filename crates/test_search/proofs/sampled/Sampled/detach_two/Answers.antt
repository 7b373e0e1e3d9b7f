use Rattle.ring_port.specs.PortState.{lits_at}
use Rattle.test_ports.specs.Sample.{sample_state}
use Rattle.test_search.proofs.SampledLemmas.{other_sampled}
use Rattle.test_search.proofs.sampled.Sampled.detach_two.Goals as goal

pub returns-clause-sampled : goal.returns-clause-sampled
returns-clause-sampled c =
    let t = c.args.self.now.trail in
    other_sampled c.args.self.now.watches c.detach_all.new.self t c.requires.sampled c.requires.bare c.detach_all.ensures.vars (c.detach_all.ensures.watched (lits_at sample_state) t c.requires.sampled.watched)
