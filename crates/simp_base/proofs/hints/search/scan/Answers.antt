use Rattle.std.proofs.Common.{◌≡◌, ◌∙◌, ◌<◌, ◌∷◌, [], ℕ, List, length, map, sym, ap, subst, get_or, arith, Some, None}
use Rattle.std.proofs.lemmas.List.{get_or-map, length-map}
use Rattle.sat_words.specs.Literal.{Literal}
use Rattle.simp_base.specs.Search.{WereLookedAt}
use Rattle.simp_base.proofs.Seeing.{seen_more, seen_found, seen_all, scanned}
use Rattle.simp_base.proofs.hints.search.scan.Goals as goal

pub returns-in-Some-clause-scanned : goal.returns-in-Some-clause-scanned
returns-in-Some-clause-scanned c =
    let cells = c.args.clauses.now.clauses in let i = c.loop-pair.pair-index in let numbers = map (λ (p : ℕ × List Literal). p.0) cells in
    scanned cells c.args.trail.now.steps c.look_at.new.trail.steps (Some c.in-Some.found)
    (seen_found cells c.args.trail.now.steps c.loop-pair.trail.steps numbers i c.loop-pair.invariant.seen c.look_at.new.trail.steps (c.pair-item.result.0 ∷ []) c.in-Some.found
    (subst (WereLookedAt cells c.loop-pair.trail.steps c.look_at.new.trail.steps (c.pair-item.result.0 ∷ [])) c.in-Some.is c.in_ok-found.ensures.looked))

pub loop-pair-preserved : goal.loop-pair-preserved
loop-pair-preserved c =
    let cells = c.args.clauses.now.clauses in let i = c.loop-pair.pair-index in let numbers = map (λ (p : ℕ × List Literal). p.0) cells in
    let lt : i < length cells = omega (arith, c.loop-pair-test.true, ap length c.as_slice-pair-items.ensures) in
    let here : c.pair-item.result ≡ get_or cells i c.pair-item.result = c.pair-item.is ∙ ap (λ cs. get_or cs i c.pair-item.result) c.as_slice-pair-items.ensures in
    let read : c.pair-item.result.0 ≡ get_or numbers i 0 = ap (λ (p : ℕ × List Literal). p.0) here ∙ sym (get_or-map (λ (p : ℕ × List Literal). p.0) cells i c.pair-item.result 0 lt) in
    record {
      seen = seen_more cells c.args.trail.now.steps c.loop-pair.trail.steps numbers i c.loop-pair.invariant.seen c.look_at.new.trail.steps c.pair-item.result.0 read
          (subst (WereLookedAt cells c.loop-pair.trail.steps c.look_at.new.trail.steps (c.pair-item.result.0 ∷ [])) c.in_default.is c.in_ok-found.ensures.looked);
      codes = c.look_at.ensures.codes ∙ c.loop-pair.invariant.codes;
    }

pub returns-clause-scanned : goal.returns-clause-scanned
returns-clause-scanned c =
    let cells = c.args.clauses.now.clauses in let numbers = map (λ (p : ℕ × List Literal). p.0) cells in
    scanned cells c.args.trail.now.steps c.loop-pair.trail.steps None
    (seen_all cells c.args.trail.now.steps c.loop-pair.trail.steps numbers c.loop-pair.pair-index c.loop-pair.invariant.seen
    (omega (arith, c.loop-pair-test.false, length-map cells (λ (p : ℕ × List Literal). p.0), ap length c.as_slice-pair-items.ensures)))
