use Rattle.std.proofs.Common.{◌≡◌, ◌∙◌, ℕ, ◌+◌, suc, false, length, drop, get_or, cond, Some, None, sym, ap, arith, add-one}
use Rattle.sat_words.specs.Literal.{Literal}
use Rattle.simp_add.specs.Alike.{same_list}
use Rattle.simp_add.proofs.OneMore.{other_length, differs_at, rest_of}
use Rattle.simp_add.proofs.one_more.one_more.Goals as goal

pub returns-then-more-fewer : goal.returns-then-more-fewer
returns-then-more-fewer c = sym (other_length c.args.fewer.now c.args.more.now (λ e. let ne = c.if-more-fewer.true in omega arith))

pub returns-else-are_equal : goal.returns-else-are_equal
returns-else-are_equal c =
    let fewer = c.args.fewer.now in let more = c.args.more.now in let p = c.common_length-place.result in
    let none : Literal = record { var = 0; neg = false } in
    let long : length more ≡ suc (length fewer) = (let e = c.if-more-fewer.false in omega arith) in
    let apart : same_list (drop p fewer) (drop (suc p) more) ≡ false = ap (λ (n : ℕ). same_list (drop p fewer) (drop n more)) (sym (add-one p))
    ∙ (let a = sym (rest_of fewer p) in let b = sym (rest_of more (p + 1)) in λ i. same_list (a i) (b i)) ∙ sym c.are_equal.ensures ∙ c.if-are_equal.false in
    sym (sym c.common_length-place.ensures.rest ∙ differs_at fewer more p none c.common_length-place.ensures.within long (c.common_length-place.ensures.differs none) ∙ ap (λ b. cond b (Some (get_or more p none)) None) apart)
