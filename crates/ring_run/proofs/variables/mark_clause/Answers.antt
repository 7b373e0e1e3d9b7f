use Rattle.std.proofs.Common.{◌≡◌, ◌∙◌, ◌<◌, ◌-◌, ℕ, true, false, length, slice_set, slice_index_or, Some, subst, ap, sym, inl, inr, arith}
use Rattle.std.specs.List.{slice_get}
use Rattle.std.proofs.lemmas.List.{length-set}
use Rattle.sat_words.specs.Literal.{Literal, IsOn}
use Rattle.ring_port.specs.PortState.{PortState, lits_at}
use Rattle.ring_port.proofs.Holdings.{held_is_kept}
use Rattle.watch_prop.proofs.ListsLemmas.{cases_eq}
use Rattle.watch_prop.proofs.Ranks.{at_has, has_at, same_there}
use Rattle.ring_run.proofs.Marked.{all_at, more_set, set_there, marked_set}
use Rattle.ring_run.proofs.variables.mark_clause.Goals as goal

pub index_mut-requires : goal.index_mut-requires
index_mut-requires g c =
    let s = g.P.Port.state c.args.port.now in
    let at : slice_get (lits_at s c.args.clause.address) c.loop-i.i ≡ Some c.read_lit-lit.result = subst (λ (x : PortState). slice_get (lits_at x c.args.clause.address) c.loop-i.i ≡ Some c.read_lit-lit.result) c.loop-i.invariant.same c.read_lit-lit.ensures.value in
    let on = all_at (IsOn s.vars) (lits_at s c.args.clause.address) c.loop-i.i c.read_lit-lit.result ((held_is_kept s c.args.clause.address c.requires.port c.requires.held).1) at in
    omega (arith, on.low, on.high, c.var.ensures.value, c.loop-i.invariant.len, c.requires.vars)

pub loop-i-preserved : goal.loop-i-preserved
loop-i-preserved g c =
    let s = g.P.Port.state c.args.port.now in
    let lits = lits_at s c.args.clause.address in
    let at : slice_get lits c.loop-i.i ≡ Some c.read_lit-lit.result = subst (λ (x : PortState). slice_get (lits_at x c.args.clause.address) c.loop-i.i ≡ Some c.read_lit-lit.result) c.loop-i.invariant.same c.read_lit-lit.ensures.value in
    let on = all_at (IsOn s.vars) lits c.loop-i.i c.read_lit-lit.result ((held_is_kept s c.args.clause.address c.requires.port c.requires.held).1) at in
    let inside : c.var.result - 1 < length c.loop-i.marks.items = omega (arith, on.low, on.high, c.var.ensures.value, c.loop-i.invariant.len, c.requires.vars) in
    record {
      same = c.read_lit-lit.ensures.same ∙ c.loop-i.invariant.same;
      size = c.loop-i.invariant.size;
      len = length-set c.loop-i.marks.items (c.var.result - 1) true ∙ c.loop-i.invariant.len;
      more = λ j h. more_set c.loop-i.marks.items (c.var.result - 1) inside j (c.loop-i.invariant.more j h);
      only = marked_set c.args.marks.now.items c.loop-i.marks.items lits c.read_lit-lit.result (c.var.result - 1) c.loop-i.invariant.only (has_at lits c.loop-i.i c.read_lit-lit.result at) (omega (arith, on.low, c.var.ensures.value));
      first = λ p k lt e.
          elim (cases_eq p c.loop-i.i) as (λ _. slice_index_or (slice_set c.loop-i.marks.items (c.var.result - 1) true) (k.var - 1) false ≡ true) [
            | inr ne ↦ more_set c.loop-i.marks.items (c.var.result - 1) inside (k.var - 1) (c.loop-i.invariant.first p k (omega arith) e)
            | inl q ↦ set_there c.loop-i.marks.items (c.var.result - 1) (k.var - 1) inside
                (ap (λ (n : ℕ). n - 1) (ap (λ (l : Literal). l.var) (same_there lits p c.loop-i.i k c.read_lit-lit.result q e at) ∙ sym c.var.ensures.value))
          ];
    }

pub returns-clause-all : goal.returns-clause-all
returns-clause-all g c = λ k there.
    let lits = lits_at (g.P.Port.state c.args.port.now) c.args.clause.address in
    let n : c.loop-i.i ≡ length lits = omega (arith, c.loop-i.invariant.size) in
    let t = at_has lits k there in
    c.loop-i.invariant.first t.0 k (omega (arith, t.1, n)) t.2
