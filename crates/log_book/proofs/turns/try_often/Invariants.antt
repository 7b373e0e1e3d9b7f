use Rattle.std.proofs.Common.{◌≡◌, []}
use Rattle.share_rule.specs.Passes.{IsPassOf}
use Rattle.log_book.specs.Turns.{HasMissed}
use Rattle.log_book.proofs.turns.try_often.Given as goal

abbrev pub invariant-loop : goal.invariant-loop
invariant-loop g l = IsPassOf l.initial.table l.pass × (l.pass.id ≡ l.initial.pass.id) × (l.pass.me.1 ≡ []) × HasMissed l.initial.pass.me.0 l.pass.me.0
