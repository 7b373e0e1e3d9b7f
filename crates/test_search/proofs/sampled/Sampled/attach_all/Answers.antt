use Rattle.std.proofs.Common.{◌∙◌, ◌++◌, ◌∷◌, [], List, ap, sym, take, map, append_assoc}
use Rattle.std.specs.List.{slice_index_or}
use Rattle.std.proofs.lemmas.List.{take_more, map-append}
use Rattle.sat_words.specs.declared.shared.Cref.{Cref}
use Rattle.watch_prop.specs.WatchData.{attached}
use Rattle.test_search.specs.declared.sampled.SampleClause.{SampleClause}
use Rattle.test_search.specs.declared.sampled.SampleClause.TheVariants.{First}
use Rattle.test_search.specs.Sampled.{cref_of}
use Rattle.test_search.proofs.sampled.Sampled.attach_all.Goals as goal

pub loop-clause-preserved : goal.loop-clause-preserved
loop-clause-preserved c =
    let i = c.loop-clause.invariant in
    let all = c.args.clauses.now in
    let k = c.loop-clause.clause-index in
    let before = attached c.args.self.now.watches in
    let at : SampleClause = slice_index_or all k First in
    record {
      sampled = c.attach.ensures.sampled;
      attached = c.in_ok-attach.ensures.attached ∙ ap (λ (cs : List Cref). cs ++ cref_of at ∷ []) i.attached
          ∙ append_assoc before (map cref_of (take k all)) (cref_of at ∷ [])
          ∙ ap (λ (cs : List Cref). before ++ cs) (sym (map-append cref_of (take k all) (at ∷ [])))
          ∙ ap (λ (xs : List SampleClause). before ++ map cref_of xs) (sym (take_more all k First c.loop-clause-test.true));
      trail = c.attach.ensures.trail ∙ i.trail;
    }
