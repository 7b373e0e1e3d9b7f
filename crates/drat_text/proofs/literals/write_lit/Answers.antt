use Rattle.std.proofs.Common.{◌∙◌, ◌++◌, ◌+◌, ℕ, [], take, set, codes, cond, ap, arith, refl}
use Rattle.std.specs.Fmt.{decimal}
use Rattle.std.proofs.lemmas.List.{take_more_set}
use Rattle.sat_words.specs.Literal.{lit_text}
use Rattle.drat_text.proofs.Words.{two_words, sign_and_digits}
use Rattle.drat_text.proofs.literals.write_lit.Goals as goal

pub returns-clause-written : goal.returns-clause-written
returns-clause-written c =
    let front = take c.args.at c.args.bytes.now in
    let lit = c.args.lit in
    let end = c.write_number-end.result in
    let bytes = c.write_number-end.new.bytes in
    two_words front (take end bytes) (take (end + 1) (set bytes end 32)) (lit_text lit) (codes " ") (lit_text lit ++ codes " ")
    (two_words front (take c.write_sign-first.result c.write_sign-first.new.bytes) (take end bytes) (cond lit.neg (codes "-") []) (decimal c.var.result) (lit_text lit)
    c.write_sign-first.ensures.written c.write_number-end.ensures.written (ap (λ (v : ℕ). cond lit.neg (codes "-") [] ++ decimal v) c.var.ensures.value ∙ sign_and_digits lit))
    (take_more_set bytes end 32 (omega arith)) refl
