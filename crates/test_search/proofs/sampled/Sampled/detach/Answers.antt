use Rattle.std.proofs.Common.{◌∙◌, ap}
use Rattle.sat_words.specs.declared.shared.Cref.{Cref}
use Rattle.watch_prop.specs.WatchData.{attached, without}
use Rattle.test_search.proofs.SampledLemmas.{held_at_place, other_sampled}
use Rattle.test_search.proofs.sampled.Sampled.detach.Goals as goal

pub detach-requires-clause-held : goal.detach-requires-clause-held
detach-requires-clause-held c = held_at_place c.args.clause c.address_of.result c.address_of.ensures

pub returns-clause-sampled : goal.returns-clause-sampled
returns-clause-sampled c =
    let t = c.args.self.now.trail in
    other_sampled c.args.self.now.watches c.detach.new.self t c.requires.sampled c.requires.bare c.detach.ensures.vars (c.detach.ensures.watched t c.requires.sampled.watched)

pub returns-clause-attached : goal.returns-clause-attached
returns-clause-attached c = c.detach.ensures.attached c.args.self.now.trail c.requires.sampled.watched ∙ ap (λ (x : Cref). without (attached c.args.self.now.watches) x.address) c.address_of.ensures
