use Rattle.std.proofs.Common.{◌≡◌, ◌∙◌, ◌+◌, sym, ap, subst, List, ℕ, [], ◌∷◌, ◌++◌, take, arith}
use Rattle.std.specs.List.{All}
use Rattle.sat_words.specs.Literal.{Literal, IsOn}
use Rattle.sat_words.specs.Clause.{clause_of}
use Rattle.simp_base.specs.WorkState.{numbered}
use Rattle.simp_base.proofs.Begin.{copy_on, numbered_more}
use Rattle.simp_base.proofs.TableLemmas.{codes_on}
use Rattle.simp_base.proofs.beginning.table_of.Goals as goal

pub make_ready-requires : goal.make_ready-requires
make_ready-requires c =
    let vars = c.args.formula.now.vars in
    let F = c.clauses-clauses.result.now in
    let x : List Literal = c.index-clauses-i.result in
    let on : All (All (IsOn vars)) F = subst (All (All (IsOn vars))) (sym c.clauses-clauses.ensures) c.requires.on in
    codes_on vars c.loop-i.table.codes c.lits-in-loop-i.result.now
    (copy_on vars F c.loop-i.i x c.lits-in-loop-i.result.now on c.loop-i-test.true c.index-clauses-i.is (c.lits-in-loop-i.ensures.value ∙ c.in_ok-copy.ensures.value ∙ ap clause_of c.lits.ensures.value))
    c.loop-i.invariant.2

pub push-requires-clause-codes : goal.push-requires-clause-codes
push-requires-clause-codes c =
    let vars = c.args.formula.now.vars in
    let F = c.clauses-clauses.result.now in
    let x : List Literal = c.index-clauses-i.result in
    let on : All (All (IsOn vars)) F = subst (All (All (IsOn vars))) (sym c.clauses-clauses.ensures) c.requires.on in
    codes_on vars c.make_ready.new.self.codes c.in_ok-copy.copy
    (copy_on vars F c.loop-i.i x c.in_ok-copy.copy on c.loop-i-test.true c.index-clauses-i.is (c.in_ok-copy.ensures.value ∙ ap clause_of c.lits.ensures.value))
    (c.make_ready.ensures.same.codes ∙ c.loop-i.invariant.2)

pub loop-i-preserved : goal.loop-i-preserved
loop-i-preserved c =
    let F = c.clauses-clauses.result.now in
    let i = c.loop-i.i in
    let x : List Literal = c.index-clauses-i.result in
    let n : i + 1 ≡ 1 + i = omega arith in
    let same = c.make_ready.ensures.same in (
      c.push.ensures.clauses ∙ ap (λ (cs : List (ℕ × List Literal)). cs ++ (i + 1, c.in_ok-copy.copy) ∷ []) (same.clauses ∙ c.loop-i.invariant.0)
          ∙ (λ k. numbered 1 (take i F) ++ (n k, (c.in_ok-copy.ensures.value ∙ ap clause_of (c.lits.ensures.value ∙ c.index-clauses-i.is)) k) ∷ [])
          ∙ sym (numbered_more 1 F i x c.loop-i-test.true),
      omega (arith, c.push.ensures.next, same.next, c.loop-i.invariant.1),
      c.push.ensures.codes ∙ same.codes ∙ c.loop-i.invariant.2,
    )
