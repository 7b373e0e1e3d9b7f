use Rattle.std.proofs.Common.{◌∙◌, ◌-◌, ℕ, subst, sym, ap, arith, map, inl, inr, slice_index_or}
use Rattle.std.proofs.lemmas.List.{get_or_default}
use Rattle.sat_words.specs.declared.shared.Cref.{Cref}
use Rattle.ring_port.specs.PortState.{PortState, IsPort, lits_at}
use Rattle.watch_prop.proofs.ListsLemmas.{cases_eq}
use Rattle.rup_model.proofs.Lists.{In_Contains, In_map, In_get_or}
use Rattle.ring_run.specs.Searching.{IsHeldBy}
use Rattle.ring_run.specs.Strategy.{AreMarked, AreMarkedBy}
use Rattle.ring_run.proofs.Marked.{occur_more}
use Rattle.ring_run.proofs.variables.active_of.Goals as goal

pub mark_clause-requires-clause-port : goal.mark_clause-requires-clause-port
mark_clause-requires-clause-port g c = subst IsPort (sym c.loop-clause.invariant.same) c.requires.port

pub mark_clause-requires-clause-held : goal.mark_clause-requires-clause-held
mark_clause-requires-clause-held g c =
    subst (λ (s : PortState). IsHeldBy s (slice_index_or c.args.clauses.now c.loop-clause.clause-index (record { address = 0 }))) (sym c.loop-clause.invariant.same)
    (c.requires.held c.loop-clause.clause-index (record { address = 0 }) c.loop-clause-test.true)

pub mark_clause-requires-clause-vars : goal.mark_clause-requires-clause-vars
mark_clause-requires-clause-vars g c = c.loop-clause.invariant.len ∙ c.requires.vars ∙ ap (λ (s : PortState). s.vars) (sym c.loop-clause.invariant.same)

pub loop-clause-preserved : goal.loop-clause-preserved
loop-clause-preserved g c =
    let i = c.loop-clause.invariant in
    let all = c.args.clauses.now in
    let s = g.P.Port.state c.args.port.now in
    let at : Cref = slice_index_or all c.loop-clause.clause-index (record { address = 0 }) in
    let here : AreMarked c.mark_clause.new.marks.items (lits_at s at.address) = subst (λ (x : PortState). AreMarked c.mark_clause.new.marks.items (lits_at x at.address)) i.same c.mark_clause.ensures.all in
    record {
      same = c.mark_clause.ensures.same ∙ i.same;
      len = c.mark_clause.ensures.len ∙ i.len;
      only = occur_more c.loop-clause.marks.items c.mark_clause.new.marks.items (map (λ (x : Cref). lits_at s x.address) all) (lits_at s at.address) i.only
          (In_Contains (map (λ (x : Cref). lits_at s x.address) all) (lits_at s at.address) (In_map (λ (x : Cref). lits_at s x.address) all at (In_get_or all c.loop-clause.clause-index (record { address = 0 }) c.loop-clause-test.true)))
          (subst (λ (x : PortState). AreMarkedBy c.loop-clause.marks.items c.mark_clause.new.marks.items (lits_at x at.address)) i.same c.mark_clause.ensures.only);
      first = λ p d lt inside.
          elim (cases_eq p c.loop-clause.clause-index) as (λ _. AreMarked c.mark_clause.new.marks.items (lits_at s (slice_index_or all p d).address)) [
            | inl is ↦ subst (λ (x : Cref). AreMarked c.mark_clause.new.marks.items (lits_at s x.address))
                (sym (ap (λ (k : ℕ). slice_index_or all k d) is ∙ get_or_default all c.loop-clause.clause-index d (record { address = 0 }) c.loop-clause-test.true)) here
            | inr ne ↦ λ l h. c.mark_clause.ensures.more (l.var - 1) (i.first p d (omega arith) inside l h)
          ];
    }

pub returns-clause-all : goal.returns-clause-all
returns-clause-all g c = λ d there.
    let all = c.args.clauses.now in
    subst (λ (x : Cref). AreMarked c.loop-clause.marks.items (lits_at (g.P.Port.state c.args.port.now) x.address)) there.2
    (c.loop-clause.invariant.first there.0 d (omega (arith, there.1, c.loop-clause-test.false)) there.1)

pub returns-clause-same : goal.returns-clause-same
returns-clause-same g c = c.loop-clause.invariant.same
