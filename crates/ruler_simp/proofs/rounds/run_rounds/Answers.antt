use Rattle.std.proofs.Common.{◌≡◌, ◌∙◌, ◌<◌, ◌+◌, ◌-◌, ℕ, suc, ap, sym, subst, arith, Ok}
use Rattle.sat_words.specs.Formats.{has_hints}
use Rattle.ruler_simp.specs.Passes.{WereRun, round_passes}
use Rattle.ruler_simp.proofs.Turning.{Turns, turns_next, turns_last, turns_end}
use Rattle.ruler_simp.proofs.rounds.run_rounds.Goals as goal

less : (n i : ℕ) → i < n → n - i ≡ suc (n - (i + 1))
less n i lt = omega arith

pub run_round-requires-clause-plain : goal.run_round-requires-clause-plain
run_round-requires-clause-plain g c added = ap has_hints c.loop-done.invariant.format ∙ c.requires.plain added

pub loop-done-preserved : goal.loop-done-preserved
loop-done-preserved g c =
    let n = c.args.schedule.rounds in let additions = c.args.schedule.additions in let i = c.loop-done.done in let start = c.args.work.now in let now = c.loop-done.work in let new = c.run_round.new.work in
    turns_next additions n (n - (i + 1)) start now new (subst (λ (m : ℕ). Turns additions n m start now) (less n i c.loop-done-test.true) c.loop-done.invariant)
    (subst (λ r. WereRun (round_passes additions) now new r) (c.in-Ok-Done.is ∙ ap Ok c.in-Ok-Done.field-0-is) c.run_round.ensures.ran) c.run_round.ensures.work
    (λ e. c.if-line_count-before.false (c.line_count.ensures ∙ e ∙ sym c.line_count-before.ensures))

pub returns-then-line_count-before-clause-ran : goal.returns-then-line_count-before-clause-ran
returns-then-line_count-before-clause-ran g c =
    let n = c.args.schedule.rounds in let additions = c.args.schedule.additions in let i = c.loop-done.done in let start = c.args.work.now in let now = c.loop-done.work in let new = c.run_round.new.work in
    turns_last additions n (n - (i + 1)) start now new _ (subst (λ (m : ℕ). Turns additions n m start now) (less n i c.loop-done-test.true) c.loop-done.invariant)
    (subst (λ r. WereRun (round_passes additions) now new r) (c.in-Ok-Done.is ∙ ap Ok c.in-Ok-Done.field-0-is) c.run_round.ensures.ran)
    (λ _. sym c.line_count.ensures ∙ c.if-line_count-before.true ∙ c.line_count-before.ensures)

pub returns-in-Ok-Refuted-clause-ran : goal.returns-in-Ok-Refuted-clause-ran
returns-in-Ok-Refuted-clause-ran g c =
    let n = c.args.schedule.rounds in let additions = c.args.schedule.additions in let i = c.loop-done.done in let start = c.args.work.now in let now = c.loop-done.work in let new = c.run_round.new.work in
    turns_last additions n (n - (i + 1)) start now new _ (subst (λ (m : ℕ). Turns additions n m start now) (less n i c.loop-done-test.true) c.loop-done.invariant)
    (subst (λ r. WereRun (round_passes additions) now new r) (c.in-Ok-Refuted.is ∙ ap Ok c.in-Ok-Refuted.field-0-is) c.run_round.ensures.ran)
    (λ e. absurd (let none : ⊥ = cc in none))

pub returns-in-Err-clause-ran : goal.returns-in-Err-clause-ran
returns-in-Err-clause-ran g c =
    let n = c.args.schedule.rounds in let additions = c.args.schedule.additions in let i = c.loop-done.done in let start = c.args.work.now in let now = c.loop-done.work in let new = c.run_round.new.work in
    turns_last additions n (n - (i + 1)) start now new _ (subst (λ (m : ℕ). Turns additions n m start now) (less n i c.loop-done-test.true) c.loop-done.invariant)
    (subst (λ r. WereRun (round_passes additions) now new r) c.in-Err.is c.run_round.ensures.ran)
    (λ e. absurd (let none : ⊥ = cc in none))

pub returns-clause-ran : goal.returns-clause-ran
returns-clause-ran g c =
    turns_end c.args.schedule.additions c.args.schedule.rounds (c.args.schedule.rounds - c.loop-done.done) c.args.work.now c.loop-done.work (let h = c.loop-done-test.false in omega arith) c.loop-done.invariant
