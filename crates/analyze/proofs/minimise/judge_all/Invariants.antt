use Rattle.std.proofs.Common.{◌≡◌, ◌<◌, ℕ, true, nat_eq, take, drop}
use Rattle.std.specs.Set.{is_member}
use Rattle.std.specs.Vec.{vec_capacity}
use Rattle.ring_port.specs.PortState.{clause_at}
use Rattle.ring_trail.specs.TrailData.{level_at}
use Rattle.analyze.specs.Minimising.{IsJudged, is_known}
use Rattle.analyze.proofs.minimise.judge_all.Given as goal

abbrev pub invariant-loop-place : goal.invariant-loop-place
invariant-loop-place g l = record {
  same : g.P.Port.state l.port ≡ g.P.Port.state l.fn.port;
  judged : IsJudged (clause_at (g.P.Port.state l.fn.port)) l.trail.steps l.trail.vars l.marks.values l.minimisation.table;
  found : (p : ℕ) → is_member nat_eq (take l.place-index l.marks.touched) p ≡ true → level_at l.trail.steps p < l.level → is_known l.minimisation.table.values p ≡ true;
  ahead : (p : ℕ) → is_member nat_eq (drop l.place-index l.marks.touched) p ≡ true → is_known l.minimisation.table.values p ≡ true → ⊥;
  waiting_room : vec_capacity l.minimisation.waiting ≡ vec_capacity l.fn.minimisation.waiting;
}
