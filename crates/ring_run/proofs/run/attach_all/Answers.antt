use Rattle.std.proofs.Common.{◌∙◌, ◌++◌, ◌∷◌, [], List, ap, sym, subst, take, append_assoc}
use Rattle.std.specs.List.{slice_index_or}
use Rattle.std.proofs.lemmas.List.{take_more}
use Rattle.sat_words.specs.declared.shared.Cref.{Cref}
use Rattle.ring_port.specs.PortState.{PortState, lits_at}
use Rattle.watch_prop.specs.WatchData.{attached}
use Rattle.watch_prop.specs.Watched.{Watched}
use Rattle.ring_run.proofs.run.attach_all.Goals as goal

pub loop-clause-preserved : goal.loop-clause-preserved
loop-clause-preserved g c =
    let i = c.loop-clause.invariant in
    let all = c.args.clauses.now in
    let at : Cref = slice_index_or all c.loop-clause.clause-index (record { address = 0 }) in
    record {
      same = c.attach.ensures.same ∙ i.same;
      vars = c.attach.ensures.vars ∙ i.vars;
      clauses = c.in_ok-attach.ensures.attached ∙ ap (λ (cs : List Cref). cs ++ at ∷ []) i.clauses
          ∙ append_assoc (attached c.args.watches.now) (take c.loop-clause.clause-index all) (at ∷ [])
          ∙ ap (λ (cs : List Cref). attached c.args.watches.now ++ cs) (sym (take_more all c.loop-clause.clause-index (record { address = 0 }) c.loop-clause-test.true));
      watched = λ t w. subst (λ (s : PortState). Watched c.attach.new.self (lits_at s) t) i.same
          (c.attach.ensures.watched t (subst (λ (s : PortState). Watched c.loop-clause.watches (lits_at s) t) (sym i.same) (i.watched t w)));
    }
