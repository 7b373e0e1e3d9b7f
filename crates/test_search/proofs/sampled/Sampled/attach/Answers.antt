use Rattle.std.proofs.Common.{◌∙◌, ◌++◌, ◌∷◌, [], ap}
use Rattle.sat_words.specs.declared.shared.Cref.{Cref}
use Rattle.watch_prop.specs.WatchData.{attached}
use Rattle.test_search.proofs.SampledLemmas.{held_at_place, more_sampled}
use Rattle.test_search.proofs.sampled.Sampled.attach.Goals as goal

pub attach-requires-clause-held : goal.attach-requires-clause-held
attach-requires-clause-held c = held_at_place c.args.clause c.address_of.result c.address_of.ensures

pub returns-clause-sampled : goal.returns-clause-sampled
returns-clause-sampled c =
    let w = c.args.self.now.watches in
    let t = c.args.self.now.trail in
    more_sampled w c.attach.new.self t c.address_of.result c.requires c.attach.ensures.vars c.in_ok-attach.ensures.attached (c.attach.ensures.watched t c.requires.watched)

pub returns-clause-attached : goal.returns-clause-attached
returns-clause-attached c = c.in_ok-attach.ensures.attached ∙ ap (λ (x : Cref). attached c.args.self.now.watches ++ x ∷ []) c.address_of.ensures
