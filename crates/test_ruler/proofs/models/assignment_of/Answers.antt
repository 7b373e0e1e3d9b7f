use Rattle.std.proofs.Common.{◌≡◌, ◌∙◌, ◌+◌, ◌-◌, ◌/◌, ◌%◌, ◌==◌, ◌++◌, ℕ, Bool, List, refl, ap, subst, length, take, arith}
use Rattle.std.proofs.lemmas.List.{length-set}
use Rattle.test_ruler.specs.Models.{assignment, bits_from}
use Rattle.test_ruler.proofs.Numbered.{bits_more, bits_done}
use Rattle.test_ruler.proofs.models.assignment_of.Goals as goal

pub loop-index-preserved : goal.loop-index-preserved
loop-index-preserved c =
    let l = c.loop-index in
    let i : ℕ = l.index in
    record {
      long = ap (λ (xs : List Bool). length xs) c.set.ensures ∙ length-set l.values (i + 1 - 1) (l.rest % 2 == 1) ∙ l.invariant.long;
      bits = ap (λ (xs : List Bool). take (i + 1) xs ++ bits_from (6 - (i + 1)) (l.rest / 2)) c.set.ensures
          ∙ bits_more l.values i l.rest (i + 1 - 1) (l.rest % 2 == 1) (assignment c.args.number) l.invariant.long c.loop-index-test.true (omega arith) refl l.invariant.bits;
    }

pub returns : goal.returns
returns c =
    let l = c.loop-index in
    let low = c.loop-index-test.false in
    let high = l.auto.index-end in
    let last : l.index ≡ 6 = omega (arith, low, high) in
    bits_done l.values l.rest (assignment c.args.number) l.invariant.long
    (subst (λ (k : ℕ). take k l.values ++ bits_from (6 - k) l.rest ≡ assignment c.args.number) last l.invariant.bits)
