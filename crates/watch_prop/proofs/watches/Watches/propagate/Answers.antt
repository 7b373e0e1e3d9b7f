use Rattle.std.proofs.Common.{◌≡◌, ◌<◌, ◌≤◌, ◌+◌, ◌*◌, ℕ, List, refl, sym, subst, length, arith}
use Rattle.ring_port.specs.PortState.{PortState, lits_at}
use Rattle.ring_trail.specs.TrailData.{TrailData}
use Rattle.watch_prop.specs.declared.propagated.Propagated.{Propagated}
use Rattle.watch_prop.specs.WatchData.{attached}
use Rattle.watch_prop.specs.Layout.{HaveGrown}
use Rattle.watch_prop.specs.Advancing.{HasAdvanced}
use Rattle.watch_prop.specs.Watched.{Watched}
use Rattle.watch_prop.specs.Propagation.{IsConflict, IsQuiet}
use Rattle.watch_prop.proofs.Quiets.{quiet-same, quiet-conflict}
use Rattle.watch_prop.specs.Visiting.{IsAllSettled, IsEnd}
use Rattle.watch_prop.proofs.Advancing.{advanced_reasons, advanced_trans, came_to}
use Rattle.watch_prop.proofs.watches.Watches.propagate.Given.{Over}
use Rattle.watch_prop.proofs.watches.Watches.propagate.Goals.{After-run, After-watch_waiting}
use Rattle.watch_prop.proofs.watches.Watches.propagate.Goals as goal

pub watch_waiting-requires-clause-watched : goal.watch_waiting-requires-clause-watched
watch_waiting-requires-clause-watched g c = c.tidy.ensures.watched (lits_at (g.P.Port.state c.args.port.now)) c.args.trail.now c.requires.watched

-- what settling and running keep
both : (g : Over) (c : After-run g) → HasAdvanced (g.P.Port.state c.args.port.now) c.tidy.new.self c.run.new.self c.args.trail.now c.run.new.trail
both g c = advanced_trans _ _ _ _ _ _ c.watch_waiting.ensures.same c.watch_waiting.ensures.kept _ _ c.run.ensures.kept

pub run-requires-clause-reasons : goal.run-requires-clause-reasons
run-requires-clause-reasons g c = advanced_reasons _ _ _ _ _ _ c.watch_waiting.ensures.same c.watch_waiting.ensures.kept

pub returns-in_ok-run-in-Quiet-clause-propagated : goal.returns-in_ok-run-in-Quiet-clause-propagated
returns-in_ok-run-in-Quiet-clause-propagated g c =
    let lits = lits_at (g.P.Port.state c.args.port.now) in
    let all : c.watch_waiting.new.self.settled ≡ length c.watch_waiting.new.self.slots
    = subst (λ (o : Propagated). IsAllSettled c.watch_waiting.new.self lits c.watch_waiting.new.trail o) c.in-Quiet.is c.in_ok-clause.ensures.settled in
    came_to c.watch_waiting.new.self c.run.new.self lits c.run.new.trail c.in_ok-run-in-Quiet.field-0 all c.run.ensures.len c.run.ensures.settled
    (subst (λ (s : PortState). Watched c.run.new.self (lits_at s) c.run.new.trail) c.watch_waiting.ensures.same c.run.ensures.kept.watched)
    (subst (λ (s : PortState). IsEnd c.run.new.self (lits_at s) c.run.new.trail c.in_ok-run-in-Quiet.field-0) c.watch_waiting.ensures.same c.in_ok-run-in-Quiet.ensures.ended)

pub returns-in_err-run-in-Quiet-clause-grown : goal.returns-in_err-run-in-Quiet-clause-grown
returns-in_err-run-in-Quiet-clause-grown g c = (both g (goal.at.returns-in_err-run-in-Quiet-clause-grown g c).After-run).grown

pub returns-in_ok-run-in-Quiet-clause-grown : goal.returns-in_ok-run-in-Quiet-clause-grown
returns-in_ok-run-in-Quiet-clause-grown g c = (both g (goal.at.returns-in_ok-run-in-Quiet-clause-grown g c).After-run).grown

pub returns-in_err-run-in-Quiet-clause-reasons : goal.returns-in_err-run-in-Quiet-clause-reasons
returns-in_err-run-in-Quiet-clause-reasons g c = rw (← c.tidy.ensures.attached) (both g (goal.at.returns-in_err-run-in-Quiet-clause-reasons g c).After-run).reasons

pub returns-in_ok-run-in-Quiet-clause-reasons : goal.returns-in_ok-run-in-Quiet-clause-reasons
returns-in_ok-run-in-Quiet-clause-reasons g c = rw (← c.tidy.ensures.attached) (both g (goal.at.returns-in_ok-run-in-Quiet-clause-reasons g c).After-run).reasons

-- nothing is made true where nothing was left to propagate
quiet_tidied : (g : Over) (c : After-watch_waiting g) → IsQuiet c.args.self.now (lits_at (g.P.Port.state c.args.port.now)) c.args.trail.now → IsQuiet c.tidy.new.self (lits_at (g.P.Port.state c.args.port.now)) c.args.trail.now
quiet_tidied g c quiet = quiet-same c.args.self.now c.tidy.new.self (lits_at (g.P.Port.state c.args.port.now)) c.args.trail.now c.args.trail.now c.tidy.ensures.attached refl quiet

pub returns-in_err-clause-clause-still : goal.returns-in_err-clause-clause-still
returns-in_err-clause-clause-still g c = λ quiet. c.watch_waiting.ensures.kept.still (quiet_tidied g (goal.at.returns-in_err-clause-clause-still g c).After-watch_waiting quiet)

pub returns-in-Conflict-clause-still : goal.returns-in-Conflict-clause-still
returns-in-Conflict-clause-still g c = λ quiet. c.watch_waiting.ensures.kept.still (quiet_tidied g (goal.at.returns-in-Conflict-clause-still g c).After-watch_waiting quiet)

pub returns-in_err-run-in-Quiet-clause-still : goal.returns-in_err-run-in-Quiet-clause-still
returns-in_err-run-in-Quiet-clause-still g c = λ quiet. (both g (goal.at.returns-in_err-run-in-Quiet-clause-still g c).After-run).still (quiet_tidied g (goal.at.returns-in_err-run-in-Quiet-clause-still g c).After-watch_waiting quiet)

pub returns-in_ok-run-in-Quiet-clause-still : goal.returns-in_ok-run-in-Quiet-clause-still
returns-in_ok-run-in-Quiet-clause-still g c = λ quiet. (both g (goal.at.returns-in_ok-run-in-Quiet-clause-still g c).After-run).still (quiet_tidied g (goal.at.returns-in_ok-run-in-Quiet-clause-still g c).After-watch_waiting quiet)

-- and no clause waits
pub returns-in_ok-run-in-Quiet-clause-settled : goal.returns-in_ok-run-in-Quiet-clause-settled
returns-in_ok-run-in-Quiet-clause-settled g c = λ quiet.
    let lits = lits_at (g.P.Port.state c.args.port.now) in
    let all : c.watch_waiting.new.self.settled ≡ length c.watch_waiting.new.self.slots
    = subst (λ (o : Propagated). IsAllSettled c.watch_waiting.new.self lits c.watch_waiting.new.trail o) c.in-Quiet.is c.in_ok-clause.ensures.settled in
    omega (arith, all, c.run.ensures.len, c.run.ensures.settled)

pub returns-in-Conflict-clause-settled : goal.returns-in-Conflict-clause-settled
returns-in-Conflict-clause-settled g c = λ quiet.
    let s = g.P.Port.state c.args.port.now in
    let w = c.watch_waiting.new.self in
    let t = c.args.trail.now in
    let k = c.watch_waiting.ensures.kept in
    let before = quiet_tidied g (goal.at.returns-in-Conflict-clause-settled g c).After-watch_waiting quiet in
    let same = k.still before in
    let bad : IsConflict w (lits_at s) c.watch_waiting.new.trail c.in-Conflict.clause
    = subst (λ (o : Propagated). IsAllSettled w (lits_at s) c.watch_waiting.new.trail o) c.in-Conflict.is c.in_ok-clause.ensures.settled in
    absurd (quiet-conflict w (lits_at s) t c.in-Conflict.clause c.decision_level-lawful.ensures.trail
    (quiet-same c.tidy.new.self w (lits_at s) t t k.clauses refl before)
    (subst (λ (u : TrailData). IsConflict w (lits_at s) u c.in-Conflict.clause) same bad))

pub run-requires-clause-watched : goal.run-requires-clause-watched
run-requires-clause-watched g c =
    subst (λ (s : PortState). Watched c.watch_waiting.new.self (lits_at s) c.watch_waiting.new.trail) (sym c.watch_waiting.ensures.same) c.watch_waiting.ensures.kept.watched

-- Rooms

grown_then : (g : Over) (c : After-watch_waiting g) (rooms : List ℕ) → HaveGrown c.tidy.new.self.rooms rooms → 0 < c.args.self.now.size → length c.args.self.now.slots ≤ 2 * length (attached c.args.self.now) + length c.args.self.now.lists → HaveGrown c.args.self.now.rooms rooms
grown_then g c rooms h some few = subst (λ (rs : List ℕ). HaveGrown rs rooms) (c.tidy.ensures.rooms some few) h

pub returns-in_err-clause-clause-rooms : goal.returns-in_err-clause-clause-rooms
returns-in_err-clause-clause-rooms g c = grown_then g (goal.at.returns-in_err-clause-clause-rooms g c).After-watch_waiting _ c.watch_waiting.ensures.kept.rooms

pub returns-in-Conflict-clause-rooms : goal.returns-in-Conflict-clause-rooms
returns-in-Conflict-clause-rooms g c = grown_then g (goal.at.returns-in-Conflict-clause-rooms g c).After-watch_waiting _ c.watch_waiting.ensures.kept.rooms

pub returns-in_err-run-in-Quiet-clause-rooms : goal.returns-in_err-run-in-Quiet-clause-rooms
returns-in_err-run-in-Quiet-clause-rooms g c = grown_then g (goal.at.returns-in_err-run-in-Quiet-clause-rooms g c).After-watch_waiting _ (both g (goal.at.returns-in_err-run-in-Quiet-clause-rooms g c).After-run).rooms

pub returns-in_ok-run-in-Quiet-clause-rooms : goal.returns-in_ok-run-in-Quiet-clause-rooms
returns-in_ok-run-in-Quiet-clause-rooms g c = grown_then g (goal.at.returns-in_ok-run-in-Quiet-clause-rooms g c).After-watch_waiting _ (both g (goal.at.returns-in_ok-run-in-Quiet-clause-rooms g c).After-run).rooms

pub returns-in_err-run-in-Quiet-clause-watched : goal.returns-in_err-run-in-Quiet-clause-watched
returns-in_err-run-in-Quiet-clause-watched g c = (both g (goal.at.returns-in_err-run-in-Quiet-clause-watched g c).After-run).watched

pub returns-in_ok-run-in-Quiet-clause-watched : goal.returns-in_ok-run-in-Quiet-clause-watched
returns-in_ok-run-in-Quiet-clause-watched g c = (both g (goal.at.returns-in_ok-run-in-Quiet-clause-watched g c).After-run).watched
