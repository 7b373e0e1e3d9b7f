use Rattle.std.proofs.Common.{◌∙◌, sym, refl, Some, Result, Ok, Err, IfOk}
use Rattle.ring_port.specs.PortState.{lits_at}
use Rattle.watch_prop.specs.declared.propagated.Propagated.{Propagated}
use Rattle.watch_prop.specs.Aside.{but}
use Rattle.watch_prop.proofs.Asides.{others-len}
use Rattle.watch_prop.proofs.Advancing.{came_to}
use Rattle.watch_prop.proofs.watches.Watches.propagate_without.Goals as goal

if_ok : {E : Type 0} (P Q : Propagated → Type 0) → ((o : Propagated) → P o → Q o) → (r : Result Propagated E) → IfOk r P → IfOk r Q
if_ok P Q f (Ok o) k = f o k
if_ok P Q f (Err e) k = k

pub returns-clause-aside : goal.returns-clause-aside
returns-clause-aside g c = λ t. c.run.ensures.passed.watched c.args.c t refl

pub returns-clause-propagated : goal.returns-clause-propagated
returns-clause-propagated g c =
    let lits = lits_at (g.P.Port.state c.args.port.now) in
    let v = but (Some c.args.c) c.args.self.now in
    let w = but (Some c.args.c) c.run.new.self in
    let old = others-len (Some c.args.c) c.args.self.now.slots in
    let new = others-len (Some c.args.c) c.run.new.self.slots in
    if_ok _ _ (λ o end. came_to v w lits c.run.new.trail o (c.requires.settled ∙ sym old) (new ∙ c.run.ensures.len ∙ sym old) c.run.ensures.settled c.run.ensures.kept.watched end)
    c.run.result c.run.ensures.ended
