use Rattle.std.proofs.Common.{◌≡◌, ◌∙◌, ◌+◌, ℕ, true, List, [], sym, ap, subst}
use Rattle.circular_buffer.specs.Buffer.{Buffer}
use Rattle.restart_plan.specs.Plan.{Restarting, IsRestarting, is_due}
use Rattle.restart_plan.proofs.Restarting.{IsRestarting-restarted}
use Rattle.restart_plan.proofs.restarts.Restarts.due.Goals as goal

pub invariant_of-self : goal.invariant_of-self
invariant_of-self c =
    let e = c.clear.ensures in
    let w : c.clear.new.self.items ≡ [] = ap (λ (b : Buffer ℕ). b.items) e in
    let d = c.is_due-due.ensures in
    let k = c.if-due.true in
    let r : Restarting = record { odd = c.self.inside.odd; made = c.self.inside.made; since = c.self.inside.since; window = c.self.inside.window.items; sum = c.self.inside.sum; count = c.self.inside.count } in
    let due : is_due r ≡ true = subst (λ (x : Restarting). is_due x ≡ true) (sym c.self.view_is) (sym d ∙ k) in
    (ap (λ (b : Buffer ℕ). b.capacity) e ∙ c.self.invariant.0, subst (λ (xs : List ℕ). IsRestarting (record r { made = r.made + 1; since = 0; window = xs })) (sym w) (IsRestarting-restarted r c.self.invariant.1 due))
