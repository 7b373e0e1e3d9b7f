use Rattle.std.proofs.Common.{◌+◌, ◌∙◌, nat_eq, drop, refl, sym, ap, arith, inl, inr}
use Rattle.std.specs.Set.{is_member}
use Rattle.std.proofs.lemmas.Bool.{false≢true}
use Rattle.analyze.proofs.Judging.{IsJudged-none, known-none}
use Rattle.analyze.proofs.Parts.{touched_in_range, distinct_ahead, member_ahead, member_drop, found_more}
use Rattle.analyze.proofs.minimise.judge_all.Goals.{then-level_at-level, else-level_at-level}
use Rattle.analyze.proofs.minimise.judge_all.Goals as goal

pub loop-place-init : goal.loop-place-init
loop-place-init g c = record {
  same = refl;
  judged = rw c.requires.blank (IsJudged-none _ c.args.trail.now _);
  found = λ p y low. absurd (false≢true y);
  ahead = λ p y k. false≢true (sym (known-none c.args.trail.now.vars p) ∙ (rw c.requires.blank at k));
  waiting_room = refl;
}

pub level_at-requires : goal.level_at-requires
level_at-requires g c =
    let lt = rw c.touched-place-items.ensures at c.loop-place-test.true in
    rw c.touched-place-items.ensures (touched_in_range c.args.trail.now _ _ c.requires.shape c.requires.marking c.loop-place.place-index 0 lt)

pub loop-place-preserved : goal.loop-place-preserved
loop-place-preserved g c =
    let i = c.loop-place.invariant in
    let ps = c.args.marks.now.touched in
    let at = c.loop-place.place-index in
    let lt = rw c.touched-place-items.ensures at c.loop-place-test.true in
    let k = c.requires.marking in
    elim c.if-level_at-level.branch [
      | then-level_at-level w ↦ (
          let others = rw (w.values.ensures, c.touched-place-items.ensures) at w.judge.ensures.others in
          record {
            same = rw w.port-is (w.judge.ensures.same ∙ i.same);
            judged = rw w.minimisation-is (rw (i.same, w.values.ensures) at w.judge.ensures.judged);
            found = rw w.minimisation-is (found_more c.args.trail.now.steps c.args.level at ps _ _ lt i.found w.judge.ensures.kept (λ _. rw c.touched-place-items.ensures at w.judge.ensures.found));
            ahead = rw w.minimisation-is (λ p y now.
                elim (others p (sym (k.listed p) ∙ member_drop ps (at + 1) p y) now) as (λ _. ⊥) [
                  | inl e ↦ distinct_ahead ps at k.distinct lt (ap (is_member nat_eq (drop (at + 1) ps)) (sym e) ∙ y)
                  | inr old ↦ i.ahead p (member_ahead ps at p lt y) old
                ]);
            waiting_room = rw w.minimisation-is (w.judge.ensures.waiting_room ∙ i.waiting_room);
          })
      | else-level_at-level w ↦ record {
        same = rw w.port-is i.same;
        judged = rw w.minimisation-is i.judged;
        found = rw w.minimisation-is (found_more c.args.trail.now.steps c.args.level at ps _ _ lt i.found (λ p y. y)
            (λ low. absurd (let e = rw c.touched-place-items.ensures at c.level_at.ensures in let no = w.if-level_at-level.false in omega arith)));
        ahead = rw w.minimisation-is (λ p y. i.ahead p (member_ahead ps at p lt y));
        waiting_room = rw w.minimisation-is i.waiting_room;
      }
    ]
