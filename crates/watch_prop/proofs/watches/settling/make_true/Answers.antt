use Rattle.std.proofs.Common.{◌∙◌, Some, sym, ap, refl, subst, length, arith, ◌∷◌, []}
use Rattle.std.proofs.lemmas.Bool.{false≢true}
use Rattle.std.proofs.lemmas.List.{length-append, get_or_push}
use Rattle.ring_trail.specs.declared.step.TrailStep.{TrailStep}
use Rattle.ring_trail.specs.TrailData.{TrailData, no_step}
use Rattle.ring_trail.specs.Closed.{TrueWithin}
use Rattle.ring_trail.proofs.Causes.{IsReasoned-forced}
use Rattle.ring_trail.proofs.Truths.{neither, no_value}
use Rattle.watch_prop.specs.Propagation.{attached_at, HasReasons}
use Rattle.watch_prop.proofs.watches.settling.make_true.Goals as goal

pub assign-requires-clause-free : goal.assign-requires-clause-free
assign-requires-clause-free c =
    let steps = c.args.trail.now.steps in
    no_value steps c.args.lit.var (neither steps c.args.lit (λ p. false≢true (sym c.if-not-is_true.true ∙ c.is_true.ensures.1 p)) c.requires.not_false)

pub returns-then-not-is_true-clause-reasons : goal.returns-then-not-is_true-clause-reasons
returns-then-not-is_true-clause-reasons c cs s d held forces old =
    subst (λ (t : TrailData). HasReasons cs s t.steps) (sym c.assign.ensures.step)
    (IsReasoned-forced (attached_at cs s) s.seen c.args.trail.now c.args.lit c.args.clause d old held forces)

pub returns-then-not-is_true-clause-made : goal.returns-then-not-is_true-clause-made
returns-then-not-is_true-clause-made c =
    let t = c.args.trail.now in
    let s : TrailStep = record { lit = c.args.lit; level = t.level; reason = Some c.args.clause } in
    let here = get_or_push t.steps s no_step (length t.steps) refl in
    subst (λ (u : TrailData). TrueWithin u.steps u.level c.args.lit) (sym c.assign.ensures.step)
    record { place = length t.steps; in_range = omega (arith, length-append t.steps (s ∷ [])); true_there = ap (λ (x : TrailStep). x.lit) here; level = omega (arith, ap (λ (x : TrailStep). x.level) here) }

pub returns-then-not-is_true-clause-still : goal.returns-then-not-is_true-clause-still
returns-then-not-is_true-clause-still c h = absurd (false≢true (sym c.if-not-is_true.true ∙ c.is_true.ensures.1 h))
