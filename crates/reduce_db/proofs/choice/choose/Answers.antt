use Rattle.std.proofs.Common.{◌∙◌, List, Option, length, sym, ap, subst}
use Rattle.std.proofs.lemmas.List.{length-map}
use Rattle.reduce_db.specs.declared.candidate.Candidate.{Candidate}
use Rattle.reduce_db.specs.Ranking.{AreReasons, AreSpread, IsHalf, only_some, candidate_of}
use Rattle.reduce_db.proofs.Choosing.{spread_of, choice_is}
use Rattle.reduce_db.proofs.choice.choose.Goals as goal

pub first_to_go-requires : goal.first_to_go-requires
first_to_go-requires g c =
    let s = g.P.Port.state c.args.port.now in
    let steps = c.args.trail.now.steps in
    let are = subst (AreReasons steps) (sym c.as_slice.ensures.value) c.in_ok-reasons.ensures in
    let is = c.as_slice-2.ensures.value ∙ c.in_ok-candidates.ensures.candidates steps are in
    subst (λ (cs : List (Option Candidate)). AreSpread (only_some cs)) (sym is) (spread_of s steps c.args.lemmas.now c.requires.distinct)

pub split_off-requires : goal.split_off-requires
split_off-requires g c =
    let s = g.P.Port.state c.args.port.now in
    let steps = c.args.trail.now.steps in
    let are = subst (AreReasons steps) (sym c.as_slice.ensures.value) c.in_ok-reasons.ensures in
    let is = c.as_slice-3.ensures.value ∙ c.in_ok-candidates.ensures.candidates steps are in
    ap (λ (cs : List (Option Candidate)). length cs) is ∙ length-map c.args.lemmas.now (candidate_of s steps)

pub returns-clause-choice : goal.returns-clause-choice
returns-clause-choice g c =
    let s = g.P.Port.state c.args.port.now in
    let steps = c.args.trail.now.steps in
    let are = subst (AreReasons steps) (sym c.as_slice.ensures.value) c.in_ok-reasons.ensures in
    let was = c.as_slice-2.ensures.value ∙ c.in_ok-candidates.ensures.candidates steps are in
    let is = c.as_slice-3.ensures.value ∙ c.in_ok-candidates.ensures.candidates steps are in
    let half = subst (λ (cs : List (Option Candidate)). IsHalf (only_some cs) c.in_ok-first.first) was c.in_ok-first.ensures in
    choice_is s steps c.args.lemmas.now c.in_ok-choice.choice.kept.items c.in_ok-choice.choice.dropped.items c.in_ok-first.first half
    (c.in_ok-choice.ensures.kept (candidate_of s steps) is) (c.in_ok-choice.ensures.dropped (candidate_of s steps) is)
