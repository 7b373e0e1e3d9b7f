use Rattle.std.proofs.Common.{◌∙◌, ◌∷◌, [], ℕ, Bool, true, sym, ap, subst, get_or}
use Rattle.sat_words.specs.Literal.{opposite}
use Rattle.simp_elim.specs.Resolution.{occurs, resolved_with}
use Rattle.simp_elim.specs.Bounds.{Extends}
use Rattle.simp_elim.specs.Occurring.{clause_at}
use Rattle.simp_elim.proofs.Within.{second_more, second_stops}
use Rattle.simp_elim.proofs.Counting.{found_at, at_is, at_place}
use Rattle.simp_elim.proofs.resolution.add_resolvents.Goals as goal

pub unreachable-requires : goal.unreachable-requires
unreachable-requires g c =
    let s = c.requires.others (get_or c.args.others.now c.loop-other.other-index 0) (at_place c.args.others.now c.loop-other.other-index c.loop-other-test.true) in
    c.in_default.ensures.none s.0 s.1

pub add_resolvent-requires-clause-second : goal.add_resolvent-requires-clause-second
add_resolvent-requires-clause-second g c =
    let w = c.args.work.now in let n : ℕ = get_or c.args.others.now c.loop-other.other-index 0 in
    ap (occurs (opposite c.args.on)) c.lits.ensures.value
    ∙ (found_at w (opposite c.args.on) c.in-Some.ensures.work c.args.others.now c.requires.others n (at_place c.args.others.now c.loop-other.other-index c.loop-other-test.true) c.in-Some.second.now c.in-Some.ensures.some).0

pub returns-then-not-branch : goal.returns-then-not-branch
returns-then-not-branch g c =
    let w = c.args.work.now in let i = c.loop-other.other-index in let others = c.args.others.now in let n : ℕ = get_or others i 0 in let x = c.args.on in let first = c.args.first.now in
    second_stops c.args.most c.args.made.now.items c.loop-other.made.items c.add_resolvent.new.made.items x (clause_at w.clauses) others i c.lits.result.now c.loop-other-test.true
    (at_is w.clauses c.in-Some.ensures.work.numbers n c.in-Some.second.now c.in-Some.ensures.some ∙ sym c.lits.ensures.value) first c.add_resolvent.new.made.items c.loop-other.invariant
    (subst (λ (b : Bool). Extends c.args.most c.loop-other.made.items (resolved_with x (c.lits.result.now ∷ []) first) c.add_resolvent.new.made.items b) c.if-not-branch.true c.in_ok-add_resolvent.ensures)

pub loop-other-preserved : goal.loop-other-preserved
loop-other-preserved g c =
    let w = c.args.work.now in let i = c.loop-other.other-index in let others = c.args.others.now in let n : ℕ = get_or others i 0 in let x = c.args.on in let first = c.args.first.now in
    second_more c.args.most c.args.made.now.items c.loop-other.made.items c.add_resolvent.new.made.items x (clause_at w.clauses) others i c.lits.result.now c.loop-other-test.true
    (at_is w.clauses c.in-Some.ensures.work.numbers n c.in-Some.second.now c.in-Some.ensures.some ∙ sym c.lits.ensures.value) first true c.loop-other.invariant
    (subst (λ (b : Bool). Extends c.args.most c.loop-other.made.items (resolved_with x (c.lits.result.now ∷ []) first) c.add_resolvent.new.made.items b) c.if-not-branch.false c.in_ok-add_resolvent.ensures)
