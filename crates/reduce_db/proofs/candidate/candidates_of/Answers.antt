use Rattle.std.proofs.Common.{◌≡◌, ◌∙◌, ℕ, ◌<◌, ◌+◌, ◌++◌, ◌∷◌, [], List, Option, length, map, take, get_or, IsSome, sym, ap, subst}
use Rattle.std.proofs.lemmas.List.{take_all, map_more}
use Rattle.sat_words.specs.declared.shared.Cref.{Cref}
use Rattle.ring_port.specs.PortState.{PortState, held_at}
use Rattle.ring_trail.specs.declared.step.TrailStep.{TrailStep}
use Rattle.reduce_db.specs.Ranking.{candidate_of}
use Rattle.reduce_db.specs.declared.candidate.Candidate.{Candidate}
use Rattle.reduce_db.proofs.candidate.candidates_of.Goals as goal

abbrev no_cref : Cref
no_cref = record { address = 0 }

found_more : (r s : PortState) (steps : List TrailStep) (lemmas : List Cref) (i : ℕ) (xs ys : List (Option Candidate)) (x : Option Candidate) → r ≡ s → i < length lemmas → ys ≡ xs ++ x ∷ [] → x ≡ candidate_of r steps (get_or lemmas i record { address = 0 })
    → xs ≡ map (candidate_of s steps) (take i lemmas) → ys ≡ map (candidate_of s steps) (take (i + 1) lemmas)
found_more r s steps lemmas i xs ys x same lt grown is before =
    grown ∙ ap (λ (zs : List (Option Candidate)). zs ++ x ∷ []) before
    ∙ ap (λ (y : Option Candidate). map (candidate_of s steps) (take i lemmas) ++ y ∷ []) (subst (λ (q : PortState). x ≡ candidate_of q steps (get_or lemmas i record { address = 0 })) same is)
    ∙ sym (map_more (candidate_of s steps) lemmas i record { address = 0 } lt)

pub candidate_of-candidate-requires-clause-held : goal.candidate_of-candidate-requires-clause-held
candidate_of-candidate-requires-clause-held g c = subst (λ (s : PortState). IsSome (held_at s (get_or c.args.lemmas.now c.loop-c.c-index no_cref).address)) (sym c.loop-c.invariant.same) (c.requires.held c.loop-c.c-index no_cref c.loop-c-test.true)

pub loop-c-preserved : goal.loop-c-preserved
loop-c-preserved g c = record {
  same = c.candidate_of-candidate.ensures.same ∙ c.loop-c.invariant.same;
  found = λ steps are. found_more (g.P.Port.state c.loop-c.port) (g.P.Port.state c.args.port.now) steps c.args.lemmas.now c.loop-c.c-index c.loop-c.candidates.items c.push.new.self.items c.candidate_of-candidate.result
      c.loop-c.invariant.same c.loop-c-test.true c.in_ok-push.ensures.items (c.candidate_of-candidate.ensures.candidate steps are) (c.loop-c.invariant.found steps are);
}

pub returns-clause-candidates : goal.returns-clause-candidates
returns-clause-candidates g c = λ steps are. c.loop-c.invariant.found steps are ∙ ap (map (candidate_of (g.P.Port.state c.args.port.now) steps)) (take_all c.loop-c.c-index c.args.lemmas.now c.loop-c-test.false)
