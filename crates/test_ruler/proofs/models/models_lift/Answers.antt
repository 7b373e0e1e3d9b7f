use Rattle.std.proofs.Common.{◌≡◌, ◌∙◌, ℕ, Bool, List, ◌&&◌, sym, ap, arith}
use Rattle.std.specs.Bool.{beq}
use Rattle.sat_words.specs.Truth.{formula_true}
use Rattle.test_ruler.specs.Models.{assignment, is_model, is_lifted, each_below, some_below}
use Rattle.test_ruler.proofs.Below.{each_zero, some_zero, each_more, some_more, each_broken, each_at}
use Rattle.test_ruler.proofs.Numbered.{implied}
use Rattle.test_ruler.proofs.models.models_lift.Goals as goal

pub loop-number-init : goal.loop-number-init
loop-number-init c = record { lifted = each_zero _; before = sym (some_zero _); after = sym (some_zero _) }

pub loop-number-preserved : goal.loop-number-preserved
loop-number-preserved c =
    let l = c.loop-number in
    let i = l.invariant in
    let F = c.args.formula.now.clauses in
    let cs = c.args.clauses.now in
    let units = c.args.units.now in
    let lifts : ℕ → Bool = λ n. is_lifted F cs units c.args.stack.now (assignment n) in
    let holds : ℕ → Bool = λ n. formula_true (assignment n) F in
    let fits : ℕ → Bool = λ n. is_model (assignment n) cs units in
    let values = c.in_ok-values.ensures in
    record {
      lifted = each_more l.number lifts i.lifted (ap (is_lifted F cs units c.args.stack.now) (sym values) ∙ sym c.is_lifted.ensures ∙ c.if-not-is_lifted.false);
      before = some_more l.number holds l.before c.formula_true-before.result i.before (c.formula_true-before.ensures ∙ ap (λ (a : List Bool). formula_true a F) values);
      after = some_more l.number fits l.after c.is_model_of-after.result i.after (c.is_model_of-after.ensures ∙ ap (λ (a : List Bool). is_model a cs units) values);
    }

pub returns-then-not-is_lifted-clause-exact : goal.returns-then-not-is_lifted-clause-exact
returns-then-not-is_lifted-clause-exact c =
    let l = c.loop-number in
    let F = c.args.formula.now.clauses in
    let cs = c.args.clauses.now in
    let units = c.args.units.now in
    let lifts : ℕ → Bool = λ n. is_lifted F cs units c.args.stack.now (assignment n) in
    let same : Bool = beq (some_below 64 (λ n. formula_true (assignment n) F)) (some_below 64 (λ n. is_model (assignment n) cs units)) in
    let no = ap (is_lifted F cs units c.args.stack.now) (sym c.in_ok-values.ensures) ∙ sym c.is_lifted.ensures ∙ c.if-not-is_lifted.true in
    ap (λ (b : Bool). b && same) (sym (each_broken 64 l.number lifts c.loop-number-test.true no))

pub returns-clause-exact : goal.returns-clause-exact
returns-clause-exact c =
    let l = c.loop-number in
    let i = l.invariant in
    let F = c.args.formula.now.clauses in
    let cs = c.args.clauses.now in
    let units = c.args.units.now in
    let lifts : ℕ → Bool = λ n. is_lifted F cs units c.args.stack.now (assignment n) in
    let holds : ℕ → Bool = λ n. formula_true (assignment n) F in
    let fits : ℕ → Bool = λ n. is_model (assignment n) cs units in
    let end : l.number ≡ 64 = omega (arith, c.loop-number-test.false, l.auto) in
    (λ j. beq ((i.before ∙ ap (λ (n : ℕ). some_below n holds) end) j) ((i.after ∙ ap (λ (n : ℕ). some_below n fits) end) j))
    ∙ ap (λ (b : Bool). b && beq (some_below 64 holds) (some_below 64 fits)) (sym (ap (λ (n : ℕ). each_below n lifts) (sym end) ∙ i.lifted))

pub returns-clause-lifted : goal.returns-clause-lifted
returns-clause-lifted c =
    let l = c.loop-number in
    let F = c.args.formula.now.clauses in
    let cs = c.args.clauses.now in
    let units = c.args.units.now in
    let lifts : ℕ → Bool = λ n. is_lifted F cs units c.args.stack.now (assignment n) in
    let end : l.number ≡ 64 = omega (arith, c.loop-number-test.false, l.auto) in
    λ yes n lt model. implied _ _ (each_at 64 n lifts (ap (λ (k : ℕ). each_below k lifts) (sym end) ∙ l.invariant.lifted) lt) model
