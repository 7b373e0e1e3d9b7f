-- What a put leaves of what is held.
use Rattle.std.proofs.Common.{◌≡◌, ◌≢◌, ℕ, ◌<◌, ◌≤◌, ◌==◌, List, [], ◌∷◌, sym, ap, subst, arith, ne_eqb}
use mathlib.Core.Logic.{dite}
use native.Mathlib.Decide.{ℕ_discrete}
use Rattle.rup_model.specs.Basics.{one_if}
use Rattle.share_core.specs.declared.stored.ClauseAt.{ClauseAt}
use Rattle.share_core.specs.declared.stored.PutNote.{PutNote}
use Rattle.share_core.specs.State.{times_at, without_at, with_cell}
use Rattle.share_core.proofs.ClauseLists.{at_some, at_some_zero, at_without}
use Rattle.share_rule.specs.declared.view.View.{View}
use Rattle.share_rule.specs.Views.{only}
use Rattle.share_rule.specs.Exchanges.{gave_part, after_put}
use Rattle.pool_exchange.proofs.Places.{held_there}

-- what a ring held of other cells it holds after a put
pub put_keeps : (to class place a : ℕ) (h : ClauseAt) (g : ℕ) (v w : View) → v.parts ≡ only v ∷ [] → w ≡ after_put to class place a h g v → 0 < times_at a (only v).core.held → (b : ℕ) → b ≢ a → 0 < times_at b (only v).core.held → 0 < times_at b (only w).core.held
put_keeps to class place a h g v w one is has b ne there =
    let n : PutNote = record { to = to; class = class; place = place; address = a } in
    let xs : List ClauseAt = without_at a (only v).core.held in
    let t = at_without a b (only v).core.held has in
    let z : one_if (a == b) ≡ 0 = ap one_if (ne_eqb a b (λ e. ne (sym e))) in
    let more : times_at b xs ≤ times_at b (with_cell h xs) = dite (ℕ_discrete b 0)
    (λ e. let k = at_some_zero h xs in subst (λ (m : ℕ). times_at m xs ≤ times_at m (with_cell h xs)) (sym e) (omega arith))
    (λ some. let k = at_some h b xs some in omega arith) in
    (held_there (gave_part n h g) v w b one (ap (λ (u : View). u.parts) is) (omega arith)).1
