use Rattle.std.proofs.Common.{◌∙◌, sym, ap, subst, List, [], ℕ, get_or, Contains, arith}
use Rattle.sat_words.specs.Literal.{Literal, opposite, code_of}
use Rattle.simp_base.specs.Tables.{ClauseData}
use Rattle.simp_base.proofs.clause_table.ClauseTable.noted_against.Goals as goal

pub returns-then-code-len : goal.returns-then-code-len
returns-then-code-len c = record {
  every = λ n d i h. subst (λ (xs : List ℕ). Contains xs n) (sym (c.of.ensures ∙ ap (λ (l : Literal). get_or c.self.inside.occurrences (code_of l) []) c.not-against.ensures))
      (c.self.invariant.noted n d (opposite c.args.lit) (subst (λ (t : ClauseData). Contains t.clauses (n, d)) (sym c.self.view_is) i) h);
}

pub returns-else-code-len : goal.returns-else-code-len
returns-else-code-len c = record {
  every = λ n d i h.
      (let lt = c.self.invariant.inside n d (opposite c.args.lit) (subst (λ (t : ClauseData). Contains t.clauses (n, d)) (sym c.self.view_is) i) h in
      let e = ap code_of c.not-against.ensures in
      absurd (omega (arith, c.if-code-len.false, c.code.ensures, e, c.len.ensures, c.self.inside.alone.ok, lt)));
}
