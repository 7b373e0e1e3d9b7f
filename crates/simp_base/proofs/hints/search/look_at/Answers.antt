use Rattle.std.proofs.Common.{◌≡◌, ◌∙◌, ◌<◌, ◌++◌, [], ◌∷◌, List, sym, refl, subst, Some, None, true, arith}
use Rattle.sat_words.specs.Literal.{Literal, opposite, code_of}
use Rattle.rup_model.specs.Rounds.{falsifies}
use Rattle.rup_model.proofs.Lists.{has_In, all_In}
use Rattle.std.proofs.lemmas.Bool.{false≢true}
use Rattle.simp_base.specs.Search.{true_set, IsSettled, Forces, WereLookedAt}
use Rattle.simp_base.specs.declared.hints.trail.Step.{Step}
use Rattle.simp_base.proofs.Lists.{All_In}
use Rattle.simp_base.proofs.TrueSet.{by_place}
use Rattle.simp_base.proofs.GoingOn.{goes_on_same, goes_on_more, settled_now, falsified_at, looked_at_one}
use Rattle.simp_base.proofs.hints.search.look_at.Goals as goal

pub returns-in_default-clause-looked : goal.returns-in_default-clause-looked
returns-in_default-clause-looked c =
    let cells = c.args.clauses.now.clauses in let steps = c.args.trail.now.steps in
    looked_at_one cells steps steps c.args.number (goes_on_same cells steps) (λ d h. absurd (c.in_default.ensures.none d h))

pub push-requires : goal.push-requires
push-requires c =
    let cells = c.args.clauses.now.clauses in let steps = c.args.trail.now.steps in let lit : Literal = c.in-Forced.lit in
    let f : Forces (true_set cells steps) c.in-Some.clause.now lit = subst (λ x. Forces (true_set cells steps) x lit) c.lits.ensures.value c.in-Forced.ensures in
    record {
      code = (let lt = All_In (λ (l : Literal). code_of l < c.args.clauses.now.codes) c.in-Some.clause.now lit c.in-Some.ensures.codes (has_In c.in-Some.clause.now lit f.has_lit) in omega (arith, lt, c.requires.wide));
      free = λ p lt e. false≢true (sym f.yet ∙ by_place cells steps lit p lt e);
    }

pub returns-in-Falsified-clause-looked : goal.returns-in-Falsified-clause-looked
returns-in-Falsified-clause-looked c =
    let cells = c.args.clauses.now.clauses in let steps = c.args.trail.now.steps in let d : List Literal = c.in-Some.clause.now in
    record {
      goes_on = goes_on_same cells steps;
      ends = falsified_at cells steps c.args.number d c.in-Some.ensures.some
          (λ k i. all_In (λ j. true_set cells steps (opposite j)) d k (subst (λ x. falsifies (true_set cells steps) x ≡ true) c.lits.ensures.value c.in-Falsified.ensures) (has_In d k i));
    }

pub returns-in-Settled-clause-looked : goal.returns-in-Settled-clause-looked
returns-in-Settled-clause-looked c =
    let cells = c.args.clauses.now.clauses in let steps = c.args.trail.now.steps in
    looked_at_one cells steps steps c.args.number (goes_on_same cells steps)
    (λ d h. subst (IsSettled (true_set cells steps)) (c.lits.ensures.value ∙ sym (c.in-Some.ensures.only d h)) c.in-Settled.ensures)

pub returns-in_ok-push-in-Forced-clause-looked : goal.returns-in_ok-push-in-Forced-clause-looked
returns-in_ok-push-in-Forced-clause-looked c =
    let cells = c.args.clauses.now.clauses in let steps = c.args.trail.now.steps in let lit : Literal = c.in-Forced.lit in let d : List Literal = c.in-Some.clause.now in
    let f : Forces (true_set cells steps) d lit = subst (λ x. Forces (true_set cells steps) x lit) c.lits.ensures.value c.in-Forced.ensures in
    let s : Step = record { lit = lit; reason = Some c.args.number } in
    subst (λ new. WereLookedAt cells steps new (c.args.number ∷ []) None) (sym c.in_ok-push-in-Forced.ensures.ok)
    (looked_at_one cells steps (steps ++ s ∷ []) c.args.number (goes_on_more cells steps s c.args.number refl d c.in-Some.ensures.some f)
    (λ e h. subst (IsSettled (true_set cells (steps ++ s ∷ []))) (sym (c.in-Some.ensures.only e h)) (settled_now cells steps s c.args.number refl d c.in-Some.ensures.some f)))
