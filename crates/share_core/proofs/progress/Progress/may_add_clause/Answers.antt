use Rattle.std.proofs.Common.{◌≡◌, ◌∙◌, ◌==◌, Bool, IfOk, not, sym, subst}
use Rattle.std.specs.Option.{is_none}
use Rattle.share_core.specs.State.{State}
use Rattle.share_core.specs.Learning.{follows}
use Rattle.share_core.specs.Guards.{writes, may_add, is_long}
use Rattle.share_core.specs.Machine.{data_of, state_of}
use Rattle.share_core.proofs.Conjunctions.{five_more}
use Rattle.share_core.proofs.progress.Progress.may_add_clause.Goals as goal

pub returns : goal.returns
returns c =
    let d : State = state_of (data_of c.args.origin.now c.args.self.now) in
    subst (λ (b : Bool). IfOk c.follows.result (λ yes. yes ≡ b))
    (five_more (writes d c.args.ring) (may_add d c.args.ring c.args.kind c.args.lits.now) (is_long c.args.lits.now) (is_none (d.cell c.args.address)) (not (c.args.address == 0)) (follows d.opening.hinted (d.part c.args.ring) c.args.lits.now c.args.hints.now)
    (sym c.may_build.ensures ∙ c.if-not-may_build.false)) c.follows.ensures
