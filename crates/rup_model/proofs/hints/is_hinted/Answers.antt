use Rattle.std.proofs.Common.{◌∙◌, ◌<◌, ◌+◌, false, map, drop, get_or, Bool, List, sym, ap, length, arith}
use Rattle.std.specs.Option.{option_and_then, option_map_or}
use Rattle.sat_words.specs.Literal.{Literal}
use Rattle.sat_words.specs.Clause.{has}
use Rattle.rup_model.specs.Rounds.{falsifies}
use Rattle.rup_model.specs.Hints.{numbered, forced, hinted_from}
use Rattle.rup_model.proofs.HintReading.{reads_last, reads_none, stops_at, goes_on, set_pushed}
use Rattle.rup_model.proofs.hints.is_hinted.Goals as goal

pub returns-then-i-hints : goal.returns-then-i-hints
returns-then-i-hints g c =
    c.ends_by.ensures
    ∙ ap (λ (xs : List Literal). option_map_or (falsifies (has xs)) (numbered (map (λ p. (p.0, g.C.Literals.lits p.1)) c.args.clauses.now) (get_or c.args.hints.now c.loop-i.i 0)) false) c.as_slice.ensures.value
    ∙ sym (reads_last (numbered (map (λ p. (p.0, g.C.Literals.lits p.1)) c.args.clauses.now)) (has c.loop-i.trues.items) c.args.hints.now c.loop-i.i c.loop-i-test.true c.if-i-hints.true) ∙ c.loop-i.invariant

pub returns-in-None : goal.returns-in-None
returns-in-None g c =
    let lt : c.loop-i.i + 1 < length c.args.hints.now = omega arith in
    let named = ap (λ (xs : List Literal). option_and_then (forced (has xs)) (numbered (map (λ p. (p.0, g.C.Literals.lits p.1)) c.args.clauses.now) (get_or c.args.hints.now c.loop-i.i 0))) (sym c.as_slice-in-loop-i.ensures.value) in
    sym (stops_at (numbered (map (λ p. (p.0, g.C.Literals.lits p.1)) c.args.clauses.now)) (has c.loop-i.trues.items) c.args.hints.now c.loop-i.i lt (named ∙ sym c.forced_by.ensures ∙ c.in-None.is)) ∙ c.loop-i.invariant

pub loop-i-preserved : goal.loop-i-preserved
loop-i-preserved g c =
    let lt : c.loop-i.i + 1 < length c.args.hints.now = omega arith in
    let named = ap (λ (xs : List Literal). option_and_then (forced (has xs)) (numbered (map (λ p. (p.0, g.C.Literals.lits p.1)) c.args.clauses.now) (get_or c.args.hints.now c.loop-i.i 0))) (sym c.as_slice-in-loop-i.ensures.value) in
    ap (λ (xs : List Literal). hinted_from (numbered (map (λ p. (p.0, g.C.Literals.lits p.1)) c.args.clauses.now)) (has xs) (drop (c.loop-i.i + 1) c.args.hints.now)) c.in_ok-push-in-Some.ensures.items
    ∙ ap (λ (A : Literal → Bool). hinted_from (numbered (map (λ p. (p.0, g.C.Literals.lits p.1)) c.args.clauses.now)) A (drop (c.loop-i.i + 1) c.args.hints.now)) (set_pushed c.loop-i.trues.items c.in-Some.lit)
    ∙ sym (goes_on (numbered (map (λ p. (p.0, g.C.Literals.lits p.1)) c.args.clauses.now)) (has c.loop-i.trues.items) c.args.hints.now c.loop-i.i c.in-Some.lit lt (named ∙ sym c.forced_by.ensures ∙ c.in-Some.is))
    ∙ c.loop-i.invariant

pub returns : goal.returns
returns g c =
    sym (reads_none (numbered (map (λ p. (p.0, g.C.Literals.lits p.1)) c.args.clauses.now)) (has c.loop-i.trues.items) c.args.hints.now c.loop-i.i c.loop-i-test.false) ∙ c.loop-i.invariant
