use Rattle.std.proofs.Common.{◌∙◌, [], ℕ, Bool, true, sym, ap, subst, get_or, map}
use Rattle.simp_elim.specs.Resolution.{occurs, resolved_with}
use Rattle.simp_elim.specs.Bounds.{Extends}
use Rattle.simp_elim.specs.Occurring.{clause_at}
use Rattle.simp_elim.proofs.Within.{first_more, first_stops}
use Rattle.simp_elim.proofs.Counting.{found_at, at_is, at_place}
use Rattle.simp_elim.proofs.resolution.resolvents.Goals as goal

pub unreachable-requires : goal.unreachable-requires
unreachable-requires g c =
    let s = c.requires.firsts (get_or c.args.firsts.now c.loop-first.first-index 0) (at_place c.args.firsts.now c.loop-first.first-index c.loop-first-test.true) in
    c.in_default.ensures.none s.0 s.1

pub add_resolvents-requires-clause-first : goal.add_resolvents-requires-clause-first
add_resolvents-requires-clause-first g c =
    let w = c.args.work.now in let n : ℕ = get_or c.args.firsts.now c.loop-first.first-index 0 in
    ap (occurs c.args.on) c.lits.ensures.value
    ∙ (found_at w c.args.on c.in-Some.ensures.work c.args.firsts.now c.requires.firsts n (at_place c.args.firsts.now c.loop-first.first-index c.loop-first-test.true) c.in-Some.clause.now c.in-Some.ensures.some).0

pub returns-then-not-branch : goal.returns-then-not-branch
returns-then-not-branch g c =
    let w = c.args.work.now in let i = c.loop-first.first-index in let firsts = c.args.firsts.now in let n : ℕ = get_or firsts i 0 in let x = c.args.on in
    let N = map (clause_at w.clauses) c.args.seconds.now in
    first_stops c.args.most [] c.loop-first.made.items c.add_resolvents.new.made.items x (clause_at w.clauses) firsts i c.lits.result.now c.loop-first-test.true
    (at_is w.clauses c.in-Some.ensures.work.numbers n c.in-Some.clause.now c.in-Some.ensures.some ∙ sym c.lits.ensures.value) N [] c.loop-first.invariant
    (subst (λ (b : Bool). Extends c.args.most c.loop-first.made.items (resolved_with x N c.lits.result.now) c.add_resolvents.new.made.items b) c.if-not-branch.true c.in_ok-add_resolvents.ensures)

pub loop-first-preserved : goal.loop-first-preserved
loop-first-preserved g c =
    let w = c.args.work.now in let i = c.loop-first.first-index in let firsts = c.args.firsts.now in let n : ℕ = get_or firsts i 0 in let x = c.args.on in
    let N = map (clause_at w.clauses) c.args.seconds.now in
    first_more c.args.most [] c.loop-first.made.items c.add_resolvents.new.made.items x (clause_at w.clauses) firsts i c.lits.result.now c.loop-first-test.true
    (at_is w.clauses c.in-Some.ensures.work.numbers n c.in-Some.clause.now c.in-Some.ensures.some ∙ sym c.lits.ensures.value) N true c.loop-first.invariant
    (subst (λ (b : Bool). Extends c.args.most c.loop-first.made.items (resolved_with x N c.lits.result.now) c.add_resolvents.new.made.items b) c.if-not-branch.false c.in_ok-add_resolvents.ensures)
