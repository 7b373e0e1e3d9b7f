use Rattle.std.proofs.Common.{◌≡◌, ◌∙◌, ◌⊎◌, sym, ap, inl, inr, true, arith, length, length-append}
use Rattle.std.proofs.lemmas.Bool.{cases_eq, false≢true}
use Rattle.analyze.specs.Marks.{marked}
use Rattle.analyze.specs.Minimising.{is_known}
use Rattle.analyze.proofs.Frames.{AreFalling-push, AreFalling-pop, AreFalling-few, AreFalling-above, AreFalling-map, IsRooted-push, IsRooted-pop, left_to_do-found}
use Rattle.analyze.proofs.Judging.{IsScanned-none, IsFrame-set, IsJudged-set, room_judged, known_before, known_now}
use Rattle.analyze.proofs.minimise.judge.Goals as goal

pub push_reserved-requires : goal.push_reserved-requires
push_reserved-requires g c =
    let i = c.frames.invariant in
    let few = AreFalling-few _ _ _ _ i.frames in
    omega (arith, few, i.waiting_room, c.requires.waiting_room, c.requires.shape.short)

pub frames-preserved-in-Waits : goal.frames-preserved-in-Waits
frames-preserved-in-Waits g c =
    let i = c.frames.invariant in
    let scan = rw (i.same, c.values.ensures) at c.in-Waits.ensures.scan in
    record {
      same = c.in-Waits.ensures.same ∙ i.same;
      judged = i.judged;
      here = record { above = scan.0.above; own = inr scan.0.not_marked; unknown = scan.0.unknown; scanned = IsScanned-none _ _ _ _ _ };
      frames = rw c.push_reserved.ensures.items (AreFalling-push _ _ _ (record { place = c.frames.frame.place; next = c.in-Waits.next }) _
          (record { above = i.here.above; own = i.here.own; unknown = i.here.unknown; scanned = scan.1 }) scan.0.before i.frames);
      rooted = rw c.push_reserved.ensures.items (IsRooted-push _ _ (record { place = c.frames.frame.place; next = c.in-Waits.next }) _ i.rooted);
      kept = i.kept;
      others = i.others;
      waiting_room = c.push_reserved.ensures.capacity ∙ i.waiting_room;
    }

pub mark-requires-clause-room : goal.mark-requires-clause-room
mark-requires-clause-room g c =
    let i = c.frames.invariant in
    let few = room_judged _ c.args.trail.now _ _ c.requires.shape i.judged c.frames.frame.place (AreFalling-above _ _ _ _ i.frames) i.here.unknown c.in-Found.removability in
    omega (arith, few, i.judged.size)

pub returns-in_default-clause-judged : goal.returns-in_default-clause-judged
returns-in_default-clause-judged g c =
    let i = c.frames.invariant in
    rw c.mark.ensures
    (IsJudged-set _ c.args.trail.now _ _ c.requires.shape i.judged c.frames.frame.place (AreFalling-above _ _ _ _ i.frames) i.here.unknown c.in-Found.removability (rw (i.same, c.values.ensures) at c.in-Found.ensures.scan))

pub frames-smaller : goal.frames-smaller
frames-smaller g c =
    let i = c.frames.invariant in
    let few = room_judged _ c.args.trail.now _ _ c.requires.shape i.judged c.frames.frame.place (AreFalling-above _ _ _ _ i.frames) i.here.unknown c.in-Found.removability in
    let popped = AreFalling-pop _ _ _ _ _ (rw c.in-Some.ensures.items at i.frames) in
    let parent = AreFalling-above _ _ _ _ popped.2 in
    rw (c.mark.ensures, length-append)
    (left_to_do-found c.args.trail.now.vars (length c.frames.minimisation.table.touched) c.frames.frame.place c.in-Some.parent.place few (omega (arith, parent, c.requires.shape.short)))

pub frames-preserved : goal.frames-preserved
frames-preserved g c =
    let i = c.frames.invariant in
    let here = AreFalling-above _ _ _ _ i.frames in
    let follows = rw (i.same, c.values.ensures) at c.in-Found.ensures.scan in
    let popped = AreFalling-pop _ _ _ _ _ (rw c.in-Some.ensures.items at i.frames) in
    record {
      same = c.in-Found.ensures.same ∙ i.same;
      judged = rw c.mark.ensures (IsJudged-set _ c.args.trail.now _ _ c.requires.shape i.judged c.frames.frame.place here i.here.unknown c.in-Found.removability follows);
      here = rw c.mark.ensures (IsFrame-set _ c.args.trail.now _ _ c.requires.shape i.judged c.frames.frame.place here i.here.unknown c.in-Found.removability c.args.root c.in-Some.parent popped.1 popped.0);
      frames = rw c.mark.ensures (AreFalling-map _ _ _ _ _
          (λ f b x. IsFrame-set _ c.args.trail.now _ _ c.requires.shape i.judged c.frames.frame.place here i.here.unknown c.in-Found.removability c.args.root f (let over = popped.1 in omega arith) x) popped.2);
      rooted = IsRooted-pop _ _ c.in-Some.parent c.frames.frame.place (rw c.in-Some.ensures.items at i.rooted);
      kept = λ p y. rw c.mark.ensures (known_now _ c.args.trail.now _ _ c.requires.shape i.judged c.frames.frame.place here i.here.unknown c.in-Found.removability follows p (i.kept p y));
      others = λ p m y. elim (cases_eq p c.frames.frame.place) as (λ _. (p ≡ c.args.root) ⊎ (is_known c.args.minimisation.now.table.values p ≡ true)) [
        | inl e ↦ elim i.here.own as (λ _. (p ≡ c.args.root) ⊎ (is_known c.args.minimisation.now.table.values p ≡ true)) [
          | inl root ↦ inl (e ∙ root)
          | inr off ↦ absurd (false≢true (sym off ∙ ap (marked c.args.marks.now) (sym e) ∙ m))
        ]
        | inr ne ↦ i.others p m (known_before _ c.args.trail.now _ _ c.requires.shape i.judged c.frames.frame.place here i.here.unknown c.in-Found.removability p ne (rw c.mark.ensures at y))
      ];
      waiting_room = c.pop.ensures.capacity ∙ i.waiting_room;
    }
