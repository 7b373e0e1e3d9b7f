use Rattle.std.proofs.Common.{◌≡◌, ◌∙◌, ◌++◌, ◌∷◌, [], ℕ, List, get_or, IsSome, sym, ap, subst}
use Rattle.std.proofs.lemmas.List.{map_more}
use Rattle.sat_words.specs.declared.shared.Cref.{Cref}
use Rattle.ring_port.specs.PortState.{PortState, held_at}
use Rattle.test_ring.specs.Glues.{glue_at}
use Rattle.test_ring.proofs.Glues.{IsHeadAt, glue_told}
use Rattle.test_ring.proofs.reducing.glues_of.Goals as goal

abbrev no_cref : Cref
no_cref = record { address = 0 }

pub head-requires : goal.head-requires
head-requires g c = subst (λ (s : PortState). IsSome (held_at s (get_or c.args.lemmas.now c.loop-c.c-index no_cref).address)) (sym c.loop-c.invariant.0) (c.requires c.loop-c.c-index no_cref c.loop-c-test.true)

pub loop-c-preserved : goal.loop-c-preserved
loop-c-preserved g c =
    let s = g.P.Port.state c.args.port.now in
    let x : Cref = get_or c.args.lemmas.now c.loop-c.c-index no_cref in
    let same = c.loop-c.invariant.0 in
    let held : IsSome (held_at s x.address) = c.requires c.loop-c.c-index no_cref c.loop-c-test.true in
    let told : c.head.result.glue ≡ glue_at s x = glue_told s x c.head.result held (subst (λ (t : PortState). IsHeadAt t x c.head.result) same c.head.ensures.value) in (
      c.head.ensures.same ∙ same,
      c.in_ok-push.ensures.items ∙ ap (λ (n : ℕ). c.loop-c.glues.items ++ n ∷ []) told ∙ ap (λ (ns : List ℕ). ns ++ glue_at s x ∷ []) c.loop-c.invariant.1 ∙ sym (map_more (glue_at s) c.args.lemmas.now c.loop-c.c-index no_cref c.loop-c-test.true),
    )
