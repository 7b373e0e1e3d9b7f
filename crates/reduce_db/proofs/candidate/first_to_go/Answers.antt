use Rattle.std.proofs.Common.{◌∙◌, ◌-◌, ◌/◌, ◌++◌, ◌∷◌, [], List, None, length, sym, ap, subst}
use Rattle.std.specs.Global.{Vec}
use Rattle.std.specs.List.{slice_get}
use Rattle.std.specs.List.Sorted.{IsPermutation}
use Rattle.std.proofs.lemmas.List.{take_all}
use Rattle.reduce_db.specs.Ranking.{only_some}
use Rattle.reduce_db.specs.declared.candidate.Candidate.{Candidate}
use Rattle.reduce_db.proofs.Halves.{half_of, some_more, none_more}
use Rattle.reduce_db.proofs.candidate.first_to_go.Goals as goal
use Rattle.reduce_db.proofs.candidate.first_to_go.Goals.{in-Some+in_ok-push-in-Some, in-None}

pub loop-candidate-preserved : goal.loop-candidate-preserved
loop-candidate-preserved c =
    let cs = c.args.candidates.now in
    let i = c.loop-candidate.candidate-index in
    elim c.match-candidate.branch [
      | in-Some+in_ok-push-in-Some w ↦
          ap (λ (v : Vec Candidate). v.items) w.in_order-is ∙ w.in_ok-push-in-Some.ensures.items ∙ ap (λ (xs : List Candidate). xs ++ w.in-Some.candidate ∷ []) c.loop-candidate.invariant
          ∙ sym (some_more cs i None w.in-Some.candidate c.loop-candidate-test.true w.in-Some.is)
      | in-None w ↦
          ap (λ (v : Vec Candidate). v.items) w.in_order-is ∙ c.loop-candidate.invariant
          ∙ sym (none_more cs i None c.loop-candidate-test.true w.in-None.is)
    ]

pub returns : goal.returns
returns c =
    let xs = c.sort_unstable.new.self.items in
    let all = c.loop-candidate.invariant ∙ ap only_some (take_all c.loop-candidate.candidate-index c.args.candidates.now c.loop-candidate-test.false) in
    half_of (only_some c.args.candidates.now) xs c.first_of_last_half.result c.requires
    (subst (λ (ys : List Candidate). IsPermutation ys xs) all c.sort_unstable.ensures.permutation)
    c.sort_unstable.ensures.sorted
    (c.first_of_last_half.ensures ∙ ap (λ (ys : List Candidate). slice_get ys (length ys - length ys / 2)) c.as_slice.ensures.value)
