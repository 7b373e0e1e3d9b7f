use Rattle.std.proofs.Common.{◌≡◌, ◌∙◌, ◌+◌, ◌<◌, ℕ, Bool, true, false, List, length, take, get_or, sym, ap, subst, arith}
use Rattle.std.specs.Prelude.{if◌then◌else◌}
use Rattle.sat_words.specs.Literal.{Literal}
use Rattle.sat_words.specs.Truth.{clause_true}
use Rattle.top_call.specs.Answer.{satisfied}
use Rattle.top_call.proofs.Satisfied.{none_counted, next_counted}
use Rattle.top_call.proofs.remarks.satisfied.Goals as goal
use Rattle.top_call.proofs.remarks.satisfied.Goals.{then-clause_true, else-clause_true}

pub loop-clause-init : goal.loop-clause-init
loop-clause-init c = record { all = c.clauses-clause-items.ensures; counted = sym (none_counted c.args.model.now); small = omega arith }

pub loop-clause-preserved : goal.loop-clause-preserved
loop-clause-preserved c =
    let model : List Bool = c.args.model.now in
    let cs : List (List Literal) = c.args.formula.now.clauses in
    let i : ℕ = c.loop-clause.clause-index in
    let item : List Literal = c.clause-item.result in
    let done : ℕ = satisfied model (take i cs) in
    let h = c.loop-clause.invariant in
    let next : satisfied model (take (i + 1) cs) ≡ (if clause_true model item then done + 1 else done) =
    next_counted model cs i item (subst (λ (xs : List (List Literal)). i < length xs) h.all c.loop-clause-test.true) (subst (λ (xs : List (List Literal)). item ≡ get_or xs i item) h.all c.clause-item.is) in
    let chosen : (b : Bool) → clause_true model item ≡ b → satisfied model (take (i + 1) cs) ≡ (if b then done + 1 else done) = λ b e. next ∙ ap (λ (x : Bool). if x then done + 1 else done) e in
    elim c.if-clause_true.branch [
      | then-clause_true w ↦ record {
        all = h.all;
        counted = w.count-is ∙ ap (λ (n : ℕ). n + 1) h.counted ∙ sym (chosen true (sym c.clause_true.ensures ∙ w.if-clause_true.true));
        small = let less = h.small in let is = w.count-is in omega (arith, less, is);
      }
      | else-clause_true w ↦ record {
        all = h.all;
        counted = w.count-is ∙ h.counted ∙ sym (chosen false (sym c.clause_true.ensures ∙ w.if-clause_true.false));
        small = let less = h.small in let is = w.count-is in omega (arith, less, is);
      }
    ]
