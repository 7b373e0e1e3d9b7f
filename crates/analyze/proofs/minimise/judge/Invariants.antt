use Rattle.std.proofs.Common.{◌≡◌, ◌⊎◌, ℕ, true, length}
use Rattle.std.specs.Vec.{vec_capacity}
use Rattle.ring_port.specs.PortState.{clause_at}
use Rattle.analyze.specs.Marks.{marked}
use Rattle.analyze.specs.Minimising.{IsJudged, is_known}
use Rattle.analyze.proofs.Frames.{IsFrame, AreFalling, IsRooted, left_to_do}
use Rattle.analyze.proofs.minimise.judge.Given as goal

abbrev pub invariant-frames : goal.invariant-frames
invariant-frames g l = record {
  same : g.P.Port.state l.port ≡ g.P.Port.state l.fn.port;
  judged : IsJudged (clause_at (g.P.Port.state l.fn.port)) l.trail.steps l.trail.vars l.marks l.minimisation.table;
  here : IsFrame (clause_at (g.P.Port.state l.fn.port)) l.trail.steps l.marks l.minimisation.table.values l.root l.frame;
  frames : AreFalling (IsFrame (clause_at (g.P.Port.state l.fn.port)) l.trail.steps l.marks l.minimisation.table.values l.root) (length l.trail.steps) l.minimisation.waiting.items l.frame.place;
  rooted : IsRooted l.root l.minimisation.waiting.items l.frame.place;
  kept : (p : ℕ) → is_known l.fn.minimisation.table.values p ≡ true → is_known l.minimisation.table.values p ≡ true;
  others : (p : ℕ) → marked l.marks p ≡ true → is_known l.minimisation.table.values p ≡ true → (p ≡ l.root) ⊎ (is_known l.fn.minimisation.table.values p ≡ true);
  waiting_room : vec_capacity l.minimisation.waiting ≡ vec_capacity l.fn.minimisation.waiting;
}

abbrev pub decreases-frames : goal.decreases-frames
decreases-frames g l = left_to_do l.trail.vars (length l.minimisation.table.touched) l.frame.place
