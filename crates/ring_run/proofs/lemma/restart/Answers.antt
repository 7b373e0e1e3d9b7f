use Rattle.std.proofs.Common.{◌≡◌, ◌∙◌, ◌++◌, ap, sym, subst, arith}
use Rattle.std.specs.Option.{option_to_list}
use Rattle.ring_port.specs.PortState.{lits_at}
use Rattle.watch_prop.specs.WatchData.{WatchData, attached}
use Rattle.watch_prop.specs.Watched.{Watched}
use Rattle.ring_run.specs.declared.ring.Ring.{Ring}
use Rattle.ring_run.proofs.lemma.restart.Goals as goal

pub returns-clause-restarted : goal.returns-clause-restarted
returns-clause-restarted g c =
    let s = g.P.Port.state c.args.port.now in
    let same : c.go_back.new.ring.watches ≡ c.args.ring.now.watches = ap (λ (r : Ring). r.watches) c.go_back.ensures.same in
    record {
      went = c.go_back.ensures.went (omega arith);
      phases = c.go_back.ensures.phases;
      clauses = c.in_ok-attach_lemma.ensures.attached ∙ ap (λ (w : WatchData). attached w ++ option_to_list c.args.address) same;
      listed = record {
        lemmas = c.in_ok-attach_lemma.ensures.listed ∙ ap (λ (r : Ring). r.lemmas.items ++ option_to_list c.args.address) c.go_back.ensures.same;
        imports = ap (λ (r : Ring). r.imports.items) c.go_back.ensures.same;
        last_start = ap (λ (r : Ring). r.last_start) c.go_back.ensures.same;
        reductions = ap (λ (r : Ring). r.reductions) c.go_back.ensures.same;
        reduced_at = ap (λ (r : Ring). r.reduced_at) c.go_back.ensures.same;
        next_probe = ap (λ (r : Ring). r.next_probe) c.go_back.ensures.same;
      };
      written = ap (λ (r : Ring). r.written) c.go_back.ensures.same;
      watched = λ t w. c.in_ok-attach_lemma.ensures.watched t (subst (λ (x : WatchData). Watched x (lits_at s) t) (sym same) w);
    }
