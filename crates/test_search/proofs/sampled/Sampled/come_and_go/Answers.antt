use Rattle.std.proofs.Common.{◌∙◌, ◌++◌, ◌∷◌, [], List, ap}
use Rattle.sat_words.specs.declared.shared.Cref.{Cref}
use Rattle.watch_prop.specs.WatchData.{attached, without}
use Rattle.test_search.specs.declared.sampled.SampleClause.TheVariants.{Third}
use Rattle.test_search.specs.Sampled.{cref_of}
use Rattle.test_search.proofs.SampledLemmas.{come_and_gone}
use Rattle.test_search.proofs.sampled.Sampled.come_and_go.Goals as goal

pub loop-done-preserved : goal.loop-done-preserved
loop-done-preserved c =
    let i = c.loop-done.invariant in
    record {
      sampled = c.detach.ensures.sampled;
      attached = c.detach.ensures.attached ∙ ap (λ (cs : List Cref). without cs 3) (c.in_ok-attach.ensures.attached ∙ ap (λ (cs : List Cref). cs ++ cref_of Third ∷ []) i.attached)
          ∙ come_and_gone c.loop-done._done (attached c.args.self.now.watches);
      trail = c.detach.ensures.trail ∙ c.attach.ensures.trail ∙ i.trail;
    }
