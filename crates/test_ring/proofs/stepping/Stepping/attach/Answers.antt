use Rattle.std.proofs.Common.{◌∙◌, ◌++◌, ◌∷◌, [], List, ap, sym, subst, take, append_assoc}
use Rattle.std.specs.List.{slice_index_or}
use Rattle.std.proofs.lemmas.List.{take_more}
use Rattle.sat_words.specs.declared.shared.Cref.{Cref}
use Rattle.ring_port.specs.PortState.{PortState, lits_at}
use Rattle.ring_trail.specs.TrailData.{TrailData}
use Rattle.watch_prop.specs.WatchData.{attached}
use Rattle.watch_prop.specs.Watched.{Watched}
use Rattle.test_ring.specs.Stepping.{IsStepping}
use Rattle.test_ring.proofs.SteppingLemmas.{attached_stepping}
use Rattle.test_ring.proofs.stepping.Stepping.attach.Goals as goal

pub loop-clause-preserved : goal.loop-clause-preserved
loop-clause-preserved g c =
    let i = c.loop-clause.invariant in
    let all = c.args.clauses.now in
    let k = c.loop-clause.clause-index in
    let at : Cref = slice_index_or all k (record { address = 0 }) in
    let before = attached c.args.self.now.watches in
    let t = c.args.self.now.trail in
    record {
      same = c.attach.ensures.same ∙ i.same;
      trail = i.trail;
      vars = c.attach.ensures.vars ∙ i.vars;
      clauses = c.in_ok-attach.ensures.attached ∙ ap (λ (cs : List Cref). cs ++ at ∷ []) i.clauses
          ∙ append_assoc before (take k all) (at ∷ [])
          ∙ ap (λ (cs : List Cref). before ++ cs) (sym (take_more all k (record { address = 0 }) c.loop-clause-test.true));
      watched = subst (λ (s : PortState). Watched c.attach.new.self (lits_at s) t) i.same
          (c.attach.ensures.watched t (subst (λ (s : PortState). Watched c.loop-clause.self.watches (lits_at s) t) (sym i.same) i.watched));
    }

pub returns-clause-stepping : goal.returns-clause-stepping
returns-clause-stepping g c =
    let i = c.loop-clause.invariant in
    let p = c.requires.stepping in
    subst (λ (t : TrailData). IsStepping (g.P.Port.state c.args.port.now) c.loop-clause.self.watches t) (sym i.trail)
    (attached_stepping (g.P.Port.state c.args.port.now) c.args.self.now.watches c.loop-clause.self.watches c.args.self.now.trail c.requires.bare p.trail i.watched)
