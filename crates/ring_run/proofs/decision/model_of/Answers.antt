use Rattle.std.proofs.Common.{◌≡◌, ◌∙◌, ◌<◌, ◌≤◌, ◌+◌, ◌-◌, ℕ, Bool, true, not, List, length, length-set, slice_set, sym, subst, ap, arith}
use Rattle.sat_words.specs.Literal.{Literal}
use Rattle.sat_words.specs.Truth.{lit_true}
use Rattle.ring_trail.specs.TrailData.{lit_at}
use Rattle.ring_run.proofs.Models.{OnlyTrue, only_set, true_set}
use Rattle.ring_run.proofs.decision.model_of.Goals as goal

pub loop-place-preserved : goal.loop-place-preserved
loop-place-preserved c =
    let t = c.args.trail.now in
    let a = c.loop-place.model in
    let n = c.loop-place.place in
    let m = c.lit_at-lit.result in
    let set : c.set.new.self ≡ slice_set a (m.var - 1) (not m.neg) = c.set.ensures ∙ ap (λ (v : ℕ). slice_set a (v - 1) (not c.is_neg.result)) c.var.ensures.value ∙ ap (λ (b : Bool). slice_set a (m.var - 1) (not b)) c.is_neg.ensures in
    let inside : n < length t.steps = omega (arith, c.loop-place-test.true, c.len-place-end.ensures.len) in
    let var : m.var ≡ (lit_at t.steps n).var = ap (λ (l : Literal). l.var) c.lit_at-lit.ensures in
    let low : 1 ≤ m.var = omega (arith, c.requires.low n inside, var) in
    let high : m.var ≤ length a = omega (arith, c.requires.high n inside, var, c.loop-place.invariant.long) in
    record {
      long = ap (λ (b : List Bool). length b) set ∙ length-set a (m.var - 1) (not m.neg) ∙ c.loop-place.invariant.long;
      true_so_far = subst (λ (b : List Bool). (p : ℕ) → p < n + 1 → lit_true b (lit_at t.steps p) ≡ true) (sym set) (true_set a t n m c.requires inside c.lit_at-lit.ensures low high c.loop-place.invariant.true_so_far);
      only = subst (λ (b : List Bool). OnlyTrue b t.steps (n + 1)) (sym set) (only_set a t.steps n m c.loop-place.invariant.only c.lit_at-lit.ensures low high);
    }
