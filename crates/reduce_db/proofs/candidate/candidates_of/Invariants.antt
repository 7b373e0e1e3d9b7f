use Rattle.std.proofs.Common.{◌≡◌, List, map, take}
use Rattle.ring_trail.specs.declared.step.TrailStep.{TrailStep}
use Rattle.reduce_db.specs.Ranking.{AreReasons, candidate_of}
use Rattle.reduce_db.proofs.candidate.candidates_of.Given as goal

abbrev pub invariant-loop-c : goal.invariant-loop-c
invariant-loop-c g l = record {
  same : g.P.Port.state l.port ≡ g.P.Port.state l.fn.port;
  found : (steps : List TrailStep) → AreReasons steps l.reasons → l.candidates.items ≡ map (candidate_of (g.P.Port.state l.fn.port) steps) (take l.c-index l.lemmas);
}
