use Rattle.std.proofs.Common.{◌∙◌, ◌++◌, ◌∷◌, [], ℕ, List, ap, sym, map, take, append_assoc}
use Rattle.std.specs.List.{slice_index_or}
use Rattle.std.proofs.lemmas.List.{take_more}
use Rattle.test_ring.specs.Glues.{glue_at}
use Rattle.test_ring.proofs.ReductionRow.{glue_pushed}
use Rattle.test_ring.proofs.reducing.add_lemmas.Goals as goal

pub loop-glue-preserved : goal.loop-glue-preserved
loop-glue-preserved g c =
    let i = c.loop-glue.invariant in
    let all = c.args.glues.now in
    let k = c.loop-glue.glue-index in
    let at : ℕ = slice_index_or all k 0 in
    let before = map (glue_at (g.P.Port.state c.args.port.now)) c.args.lemmas.now.items in
    let e = c.in_ok-add_lemma.ensures in
    record {
      lemmas = e.lemmas;
      glues = glue_pushed (g.P.Port.state c.loop-glue.port) (g.P.Port.state c.add_lemma.new.port) c.loop-glue.watches c.add_lemma.new.watches c.loop-glue.lemmas.items c.add_lemma.new.lemmas.items at e.added e.kept i.lemmas.are.held
          ∙ ap (λ (ns : List ℕ). ns ++ at ∷ []) i.glues
          ∙ append_assoc before (take k all) (at ∷ [])
          ∙ ap (λ (ns : List ℕ). before ++ ns) (sym (take_more all k 0 c.loop-glue-test.true));
    }
