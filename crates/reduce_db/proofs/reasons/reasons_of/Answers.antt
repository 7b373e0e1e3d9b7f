use Rattle.std.proofs.Common.{◌≡◌, ◌∙◌, ℕ, ◌<◌, ◌++◌, ◌∷◌, [], List, length, take, sym, ap, subst, arith}
use Rattle.std.specs.Global.{Vec}
use Rattle.std.specs.List.Sorted.{IsPermutation}
use Rattle.std.proofs.lemmas.List.{take_all}
use Rattle.std.proofs.lemmas.List.Sorted.{IsNonDecreasingBy-from_sort}
use Rattle.reduce_db.proofs.Marks.{marks, marks_some, marks_none, reasons_are}
use Rattle.reduce_db.proofs.reasons.reasons_of.Goals as goal
use Rattle.reduce_db.proofs.reasons.reasons_of.Goals.{in-Some+in_ok-push-in-Some, in-None}

pub loop-place-preserved : goal.loop-place-preserved
loop-place-preserved c =
    let steps = c.args.trail.now.steps in
    let n = c.len-place-end.ensures.len in
    let lt : c.loop-place.place < length steps = (let q = c.loop-place-test.true in omega (arith, n, q)) in
    elim c.match-reason_at.branch [
      | in-Some+in_ok-push-in-Some w ↦
          ap (λ (v : Vec ℕ). v.items) w.reasons-is ∙ w.in_ok-push-in-Some.ensures.items ∙ ap (λ (xs : List ℕ). xs ++ w.in-Some.reason.address ∷ []) c.loop-place.invariant
          ∙ sym (marks_some steps c.loop-place.place w.in-Some.reason lt (sym c.reason_at.ensures ∙ w.in-Some.is))
      | in-None w ↦
          ap (λ (v : Vec ℕ). v.items) w.reasons-is ∙ c.loop-place.invariant
          ∙ sym (marks_none steps c.loop-place.place lt (sym c.reason_at.ensures ∙ w.in-None.is))
    ]

pub returns : goal.returns
returns c =
    let steps = c.args.trail.now.steps in
    let n = c.len-place-end.ensures.len in
    let all : take c.loop-place.place steps ≡ steps = take_all c.loop-place.place steps (let q = c.loop-place-test.false in omega (arith, n, q)) in
    reasons_are steps c.sort_unstable.new.self.items
    (subst (λ (xs : List ℕ). IsPermutation xs c.sort_unstable.new.self.items) (c.loop-place.invariant ∙ ap marks all) c.sort_unstable.ensures.permutation)
    (IsNonDecreasingBy-from_sort (λ (x : ℕ). x) c.sort_unstable.new.self.items c.sort_unstable.ensures.sorted)
