use Rattle.std.proofs.Common.{◌∙◌, ◌++◌, ◌∷◌, [], List, map, sym, ap, subst}
use Rattle.sat_words.specs.declared.shared.Cref.{Cref}
use Rattle.ring_port.specs.PortState.{PortState, lits_at}
use Rattle.ring_trail.specs.declared.step.TrailStep.{TrailStep}
use Rattle.ring_trail.specs.TrailData.{TrailData}
use Rattle.reduce_db.specs.Reduction.{WasReduced}
use Rattle.test_ring.specs.Glues.{glue_at}
use Rattle.test_ring.specs.ReductionRow.{HasLemmas}
use Rattle.test_ring.proofs.ReductionRow.{no_lemma, fresh_trail}
use Rattle.test_ring.proofs.reducing.reduce_five.Goals as goal

pub add_lemmas-requires : goal.add_lemmas-requires
add_lemmas-requires g c =
    let s = g.P.Port.state c.args.port.now in
    let w = c.in_ok-watches.watches in
    let t = c.in_ok-trail.trail in
    subst (HasLemmas s w t) (sym c.new-lemmas.ensures.items)
    (no_lemma s w t c.requires c.in_ok-watches.ensures.vars c.in_ok-watches.ensures.none (c.in_ok-watches.ensures.watched (lits_at s) t (ap (λ (u : TrailData). u.vars) c.in_ok-trail.ensures.empty) (fresh_trail t c.in_ok-trail.ensures.empty)))

pub returns-clause-reduced : goal.returns-clause-reduced
returns-clause-reduced g c =
    let s = g.P.Port.state c.args.port.now in
    let m = g.P.Port.state c.add_lemmas.new.port in
    let r = g.P.Port.state c.reduce.new.port in
    let v = c.add_lemmas.new.watches in
    let w = c.reduce.new.watches in
    let five = c.add_lemmas.new.lemmas.items in
    let left = c.reduce.new.lemmas.items in
    record {
      before = m;
      v = v;
      w = w;
      lemmas = five;
      left = left;
      five = c.in_ok-add_lemmas.ensures.glues ∙ ap (λ (cs : List Cref). map (glue_at s) cs ++ 9 ∷ 3 ∷ 5 ∷ 3 ∷ 4 ∷ []) c.new-lemmas.ensures.items;
      reduced = subst (λ (z : PortState). WasReduced m z v w [] five left) (sym c.glues_of.ensures.same)
          (subst (λ (steps : List TrailStep). WasReduced m r v w steps five left) (ap (λ (u : TrailData). u.steps) c.in_ok-trail.ensures.empty) c.in-Ok.ensures.reduced);
      glues_are = c.in_ok-glues.ensures.glues ∙ ap (map (glue_at r)) c.as_slice.ensures.value ∙ ap (λ (z : PortState). map (glue_at z) left) (sym c.glues_of.ensures.same);
    }
