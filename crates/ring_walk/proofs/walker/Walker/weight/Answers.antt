use Rattle.std.proofs.Common.{◌≡◌, ◌∙◌, ℕ, ◌-◌, Bool, false, sym, ap, arith}
use Rattle.std.specs.Prelude.{◌^◌, ◌/◌, min, if◌then◌else◌}
use Rattle.sat_words.specs.Truth.{value_of}
use Rattle.ring_walk.specs.WalkData.{WalkData, broken_under}
use Rattle.ring_walk.proofs.Drawing.{halved}
use Rattle.ring_walk.proofs.walker.Walker.weight.Goals as goal

pub returns-clause-value : goal.returns-clause-value
returns-clause-value c =
    let w = c.args.self.now in
    let v = c.args.lit.var in
    let b = broken_under w.clauses w.values v in
    let free : value_of w.fixed v ≡ false = ap (λ (d : WalkData). value_of d.fixed v) (sym c.self.view_is) ∙ ap (value_of c.self.inside.fixed) (sym c.var.ensures.value) ∙ sym c.value.ensures ∙ c.if-value.false in
    let broken : c.broken_by.result ≡ b = c.broken_by.ensures ∙ ap (broken_under w.clauses w.values) c.var-2.ensures.value in
    ap (λ (n : ℕ). 65536 / 2 ^ n) (c.min.ensures ∙ ap (λ (n : ℕ). min n 16) broken)
    ∙ halved (min b 16) (omega arith)
    ∙ sym (ap (λ (t : Bool). if t then 0 else 2 ^ (16 - min b 16)) free)
