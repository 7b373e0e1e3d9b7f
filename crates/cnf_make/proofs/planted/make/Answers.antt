use Rattle.std.proofs.Common.{◌≡◌, ◌∙◌, ℕ, ◌+◌, ◌++◌, All, Bool, List, [], ◌∷◌, sym, ap, arith, append-nil, subst}
use Rattle.sat_words.specs.Literal.{Literal, IsOn}
use Rattle.sat_words.specs.Clause.{clause_of}
use Rattle.sat_words.specs.FormulaData.{FormulaData}
use Rattle.sat_words.specs.Truth.{formula_true}
use Rattle.random_bits.specs.Bits.{rest_from}
use Rattle.cnf_make.specs.Made.{made_vars, made_clauses, draw_of, planted, hidden, source, clauses_from}
use Rattle.cnf_make.proofs.Clauses.{clauses-zero, clauses-next, clauses-true}
use Rattle.cnf_make.proofs.OnVariables.{pushed}
use Rattle.cnf_make.proofs.planted.make.Goals as goal

pub loop-i-preserved : goal.loop-i-preserved
loop-i-preserved c =
    let n = c.args.number in
    let h = hidden n in
    let g = c.loop-i.generator in
    let k = c.draw_clause-lits.new.generator in
    let before = rest_from (source n) made_vars in
    let v : c.in_ok-values.values.items ≡ h = c.loop-i.invariant.values in
    let ce : c.in_ok-from_lits.field-0 ≡ clause_of (planted h (draw_of g))
    = c.in_ok-from_lits.ensures.value ∙ ap clause_of c.draw_clause-lits.ensures.lits ∙ ap (λ (x : List Bool). clause_of (planted x (draw_of g))) v in
    let p = c.in_ok-push.ensures.ok in
    let next : (m : ℕ) → clauses_from h before (c.loop-i._i + 1 + m) ≡ (c.loop-i.formula.clauses ++ c.in_ok-from_lits.field-0 ∷ []) ++ clauses_from h k m
    = clauses-next h before g k c.loop-i.formula.clauses c.in_ok-from_lits.field-0 c.loop-i._i ce c.draw_clause-lits.ensures.rest c.loop-i.invariant.clauses in
    record {
      values = v;
      vars = ap (λ (f : FormulaData). f.vars) p ∙ c.loop-i.invariant.vars;
      on = subst (λ (xs : List (List Literal)). All (All (IsOn made_vars)) xs) (sym (ap (λ (f : FormulaData). f.clauses) p))
          (pushed h (draw_of g) c.loop-i.formula.clauses c.in_ok-from_lits.field-0 c.loop-i.invariant.on ce);
      clauses = subst (λ (xs : List (List Literal)). (m : ℕ) → clauses_from h before (c.loop-i._i + 1 + m) ≡ xs ++ clauses_from h k m) (sym (ap (λ (f : FormulaData). f.clauses) p)) next;
    }

pub returns-clause-made : goal.returns-clause-made
returns-clause-made c =
    let n = c.args.number in
    let h = hidden n in
    let before = rest_from (source n) made_vars in
    let e : c.loop-i._i + 0 ≡ made_clauses = omega (arith, c.loop-i-test.false, c.loop-i.auto) in
    let all : c.loop-i.formula.clauses ≡ clauses_from h before made_clauses
    = sym (ap (clauses_from h before) (sym e) ∙ c.loop-i.invariant.clauses 0 ∙ ap (λ (xs : List (List Literal)). c.loop-i.formula.clauses ++ xs) (clauses-zero h c.loop-i.generator) ∙ append-nil c.loop-i.formula.clauses) in
    λ i. record { vars = c.loop-i.invariant.vars i; clauses = all i }

pub returns-clause-planted : goal.returns-clause-planted
returns-clause-planted c =
    let n = c.args.number in
    ap (λ (f : FormulaData). formula_true (hidden n) f.clauses) (returns-clause-made c)
    ∙ clauses-true (hidden n) c.a_clause_is_a_set.ensures.members c.truth_is_of_the_set.ensures made_clauses (rest_from (source n) made_vars)

pub returns-clause-on : goal.returns-clause-on
returns-clause-on c = subst (λ (n : ℕ). All (All (IsOn n)) c.loop-i.formula.clauses) (sym c.loop-i.invariant.vars) c.loop-i.invariant.on
