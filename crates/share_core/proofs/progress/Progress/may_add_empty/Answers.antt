use Rattle.std.proofs.Common.{◌≡◌, ◌∙◌, Bool, [], IfOk, sym, subst}
use Rattle.share_core.specs.State.{State}
use Rattle.share_core.specs.Learning.{follows}
use Rattle.share_core.specs.Guards.{writes}
use Rattle.share_core.specs.Machine.{data_of, state_of}
use Rattle.share_core.proofs.Conjunctions.{one_more}
use Rattle.share_core.proofs.progress.Progress.may_add_empty.Goals as goal

pub returns : goal.returns
returns c =
    let d : State = state_of (data_of c.args.origin.now c.args.self.now) in
    subst (λ (b : Bool). IfOk c.follows.result (λ yes. yes ≡ b)) (one_more (writes d c.args.ring) (follows d.opening.hinted (d.part c.args.ring) [] c.args.hints.now) (sym c.writes.ensures ∙ c.if-not-writes.false)) c.follows.ensures
