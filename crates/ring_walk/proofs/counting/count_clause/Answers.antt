use Rattle.std.proofs.Common.{◌≡◌, ◌∙◌, ℕ, ◌+◌, true, false, List, take, sym, ap, arith}
use Rattle.std.proofs.Math.ListN.{set}
use Rattle.std.proofs.lemmas.List.{get_or-set_same, set-set}
use Rattle.sat_words.specs.Truth.{lit_true}
use Rattle.ring_walk.specs.declared.tally.Count.{Count}
use Rattle.ring_walk.specs.Tally.{TallyData, count_at, nothing, raised}
use Rattle.ring_walk.specs.Truths.{count_of}
use Rattle.ring_walk.proofs.CountLemmas.{count_yes, count_no, few_of, small_sum_of}
use Rattle.ring_walk.proofs.counting.count_clause.Goals as goal
use Rattle.ring_walk.proofs.counting.count_clause.Goals.{In-loop-lit, then-truth_of_lit, else-truth_of_lit}

-- the count of the clause so far
so_far : (c : In-loop-lit) → count_at c.loop-lit.tally.counts c.args.clause ≡ count_of (lit_true c.args.values.now) (take c.loop-lit.lit-index c.args.lits.now)
so_far c =
    let n = count_of (lit_true c.args.values.now) (take c.loop-lit.lit-index c.args.lits.now) in
    ap (λ (cs : List Count). count_at cs c.args.clause) c.loop-lit.invariant.counts ∙ get_or-set_same c.args.tally.now.counts c.args.clause n nothing c.requires.low

pub raise-requires-clause-few : goal.raise-requires-clause-few
raise-requires-clause-few c =
    let e = ap (λ (x : Count). x.trues) (so_far (goal.at.raise-requires-clause-few c).In-loop-lit) in
    let f = few_of (lit_true c.args.values.now) c.args.tally.now.vars c.args.lits.now c.loop-lit.lit-index c.requires.small c.requires.ordered c.requires.on in
    omega arith

pub raise-requires-clause-small : goal.raise-requires-clause-small
raise-requires-clause-small c =
    let e = ap (λ (x : Count). x.sum) (so_far (goal.at.raise-requires-clause-small c).In-loop-lit) in
    let f = small_sum_of (lit_true c.args.values.now) c.args.tally.now.vars c.args.lits.now c.loop-lit.lit-index c.requires.small c.requires.ordered c.requires.on in
    let v = c.var.ensures.high in
    omega arith

pub loop-lit-preserved : goal.loop-lit-preserved
loop-lit-preserved c =
    let T = lit_true c.args.values.now in
    let lits = c.args.lits.now in
    let k = c.loop-lit.lit-index in
    let l = c.lit-item.result in
    let cs = c.args.tally.now.counts in
    let i = c.args.clause in
    elim c.if-truth_of_lit.branch [
      | then-truth_of_lit w ↦ (
          let y : T l ≡ true = sym c.truth_of_lit.ensures ∙ w.if-truth_of_lit.true in
          let now : w.raise.new.self.counts ≡ set cs i (count_of T (take (k + 1) lits)) =
          w.raise.ensures.counts
          ∙ ap (λ (x : Count). set c.loop-lit.tally.counts i (raised x w.var.result)) (so_far (goal.at.loop-lit-preserved c).In-loop-lit)
          ∙ ap (λ (v : ℕ). set c.loop-lit.tally.counts i (raised (count_of T (take k lits)) v)) w.var.ensures.value
          ∙ ap (λ (x : Count). set c.loop-lit.tally.counts i x) (sym (count_yes T lits k l c.loop-lit-test.true c.lit-item.is y))
          ∙ ap (λ (xs : List Count). set xs i (count_of T (take (k + 1) lits))) c.loop-lit.invariant.counts
          ∙ set-set cs i (count_of T (take k lits)) (count_of T (take (k + 1) lits)) in
          record {
            vars = ap (λ (t : TallyData). t.vars) w.tally-is ∙ w.raise.ensures.vars ∙ c.loop-lit.invariant.vars;
            counts = ap (λ (t : TallyData). t.counts) w.tally-is ∙ now;
          })
      | else-truth_of_lit w ↦ (
          let n : T l ≡ false = sym c.truth_of_lit.ensures ∙ w.if-truth_of_lit.false in
          record {
            vars = ap (λ (t : TallyData). t.vars) w.tally-is ∙ c.loop-lit.invariant.vars;
            counts = ap (λ (t : TallyData). t.counts) w.tally-is ∙ c.loop-lit.invariant.counts ∙ ap (λ (x : Count). set cs i x) (sym (count_no T lits k l c.loop-lit-test.true c.lit-item.is n));
          })
    ]
