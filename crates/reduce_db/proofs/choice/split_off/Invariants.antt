use Rattle.std.proofs.Common.{◌≡◌, Option, not, map, filter, take}
use Rattle.sat_words.specs.declared.shared.Cref.{Cref}
use Rattle.reduce_db.specs.declared.candidate.Candidate.{Candidate}
use Rattle.reduce_db.specs.Ranking.{is_dropped}
use Rattle.reduce_db.proofs.choice.split_off.Given as goal

abbrev pub invariant-loop-i : goal.invariant-loop-i
invariant-loop-i l = record {
  kept : (f : Cref → Option Candidate) → l.candidates ≡ map f l.lemmas → l.kept.items ≡ filter (λ c. not (is_dropped l.first (f c))) (take l.i l.lemmas);
  dropped : (f : Cref → Option Candidate) → l.candidates ≡ map f l.lemmas → l.dropped.items ≡ filter (λ c. is_dropped l.first (f c)) (take l.i l.lemmas);
}
