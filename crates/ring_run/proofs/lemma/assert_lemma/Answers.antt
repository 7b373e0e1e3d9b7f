use Rattle.std.proofs.Common.{◌≡◌, ◌∙◌, ◌++◌, ap, sym, subst, get_or, List, None}
use Rattle.std.specs.Option.{option_to_list}
use Rattle.sat_words.specs.Literal.{Literal}
use Rattle.ring_port.specs.PortState.{lits_at}
use Rattle.ring_trail.specs.TrailData.{value_of, assigned}
use Rattle.watch_prop.specs.WatchData.{WatchData, attached}
use Rattle.watch_prop.specs.Watched.{Watched}
use Rattle.ring_run.specs.declared.ring.Ring.{Ring}
use Rattle.ring_run.specs.Course.{WentBack}
use Rattle.ring_run.proofs.Standing.{no_value}
use Rattle.ring_run.proofs.lemma.assert_lemma.Goals as goal

pub assign-requires-clause-free : goal.assign-requires-clause-free
assign-requires-clause-free g c =
    let a = c.requires.can in
    let first : c.index-lits-0.result ≡ a.first = c.index-lits-0.is ∙ ap (λ (ls : List Literal). get_or ls 0 c.index-lits-0.result) a.parts in
    let went : WentBack c.args.ring.now.trail c.go_back.new.ring.trail c.args.back = c.go_back.ensures.went a.level in
    subst (λ (l : Literal). value_of c.go_back.new.ring.trail.steps l.var ≡ None) (sym first) (no_value c.go_back.new.ring.trail.steps a.first.var (a.free c.go_back.new.ring.trail went))

pub returns-clause-asserted : goal.returns-clause-asserted
returns-clause-asserted g c =
    let a = c.requires.can in
    let s = g.P.Port.state c.args.port.now in
    let first : c.index-lits-0.result ≡ a.first = c.index-lits-0.is ∙ ap (λ (ls : List Literal). get_or ls 0 c.index-lits-0.result) a.parts in
    let same : c.go_back.new.ring.watches ≡ c.args.ring.now.watches = ap (λ (r : Ring). r.watches) c.go_back.ensures.same in
    record {
      middle = c.go_back.new.ring.trail;
      went = c.go_back.ensures.went a.level;
      first = a.first;
      rest = a.rest;
      parts = a.parts;
      trail = c.assign.ensures.step ∙ ap (λ (l : Literal). assigned c.go_back.new.ring.trail l c.args.address) first;
      shape = c.assign.ensures.trail;
      phases = c.go_back.ensures.phases;
      clauses = c.in_ok-attach_lemma.ensures.attached ∙ ap (λ (w : WatchData). attached w ++ option_to_list c.args.address) same;
      listed = record {
        lemmas = c.in_ok-attach_lemma.ensures.listed ∙ ap (λ (r : Ring). r.lemmas.items ++ option_to_list c.args.address) c.go_back.ensures.same;
        imports = ap (λ (r : Ring). r.imports.items) c.go_back.ensures.same;
        last_start = ap (λ (r : Ring). r.last_start) c.go_back.ensures.same;
        reductions = ap (λ (r : Ring). r.reductions) c.go_back.ensures.same;
        reduced_at = ap (λ (r : Ring). r.reduced_at) c.go_back.ensures.same;
        next_probe = ap (λ (r : Ring). r.next_probe) c.go_back.ensures.same;
      };
      written = ap (λ (r : Ring). r.written) c.go_back.ensures.same;
      watched = λ t w. c.in_ok-attach_lemma.ensures.watched t (subst (λ (x : WatchData). Watched x (lits_at s) t) (sym same) w);
    }
