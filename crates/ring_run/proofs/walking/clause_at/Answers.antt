use Rattle.std.proofs.Common.{◌≡◌, ◌∙◌, ◌∷◌, [], Some, sym, subst}
use Rattle.std.specs.Prelude.{slice_get}
use Rattle.std.proofs.lemmas.Slice.{pushed}
use Rattle.ring_port.specs.PortState.{PortState, lits_at}
use Rattle.ring_run.proofs.WalkLemmas.{take_read}
use Rattle.ring_run.proofs.walking.clause_at.Goals as goal

pub loop-i-preserved : goal.loop-i-preserved
loop-i-preserved g c =
    let s = g.P.Port.state c.args.port.now in
    let a = c.args.clause.address in
    let read : slice_get (lits_at s a) c.loop-i.i ≡ Some c.read_lit.result = subst (λ (x : PortState). slice_get (lits_at x a) c.loop-i.i ≡ Some c.read_lit.result) c.loop-i.invariant.same c.read_lit.ensures.value in
    record {
      same = c.read_lit.ensures.same ∙ c.loop-i.invariant.same;
      size = c.loop-i.invariant.size;
      lits = pushed (c.read_lit.result ∷ []) c.loop-i.invariant.lits c.in_ok-push.was c.push.ensures.items ∙ sym (take_read (lits_at s a) c.loop-i.i c.read_lit.result read);
    }
