use Rattle.std.proofs.Common.{◌∙◌, refl, sym}
use Rattle.share_core.specs.Machine.{data_of, state_of}
use Rattle.share_core.proofs.Deciding.{enabled_from, enabled_to}
use Rattle.share_core.proofs.Stepping.{kept_after}
use Rattle.share_core.proofs.progress.Progress.step.Goals as goal

pub returns-then-not-branch-clause-steps : goal.returns-then-not-branch-clause-steps
returns-then-not-branch-clause-steps c = (enabled_to (state_of (data_of c.args.origin.now c.args.self.now)) c.args.event.now (sym c.in_ok-is_enabled.ensures ∙ c.if-not-branch.true), refl)

pub make-requires-clause-enabled : goal.make-requires-clause-enabled
make-requires-clause-enabled c = enabled_from (state_of (data_of c.args.origin.now c.args.self.now)) c.args.event.now (sym c.in_ok-is_enabled.ensures ∙ c.if-not-branch.false)

pub returns-clause-steps : goal.returns-clause-steps
returns-clause-steps c = (enabled_from (state_of (data_of c.args.origin.now c.args.self.now)) c.args.event.now (sym c.in_ok-is_enabled.ensures ∙ c.if-not-branch.false), c.in_ok-make.ensures.after)

pub returns-clause-kept : goal.returns-clause-kept
returns-clause-kept c = kept_after (data_of c.args.origin.now c.args.self.now) (data_of c.args.origin.now c.make.new.self) c.args.event.now c.requires
    (enabled_from (state_of (data_of c.args.origin.now c.args.self.now)) c.args.event.now (sym c.in_ok-is_enabled.ensures ∙ c.if-not-branch.false)) c.in_ok-make.ensures.after c.in_ok-make.ensures.logged c.in_ok-make.ensures.wide

pub is_enabled-requires : goal.is_enabled-requires
is_enabled-requires c = c.requires.sound.log.room
