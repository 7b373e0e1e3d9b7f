use Rattle.std.proofs.Common.{◌∙◌, ◌++◌, ◌∷◌, [], ℕ, List, take, sym, subst}
use Rattle.std.proofs.lemmas.List.{take_more}
use Rattle.sat_words.specs.Literal.{Literal}
use Rattle.share_rule.proofs.Contiguous.{Laid, laid_more, laid_all, no_place}
use Rattle.share_rule.proofs.first_words.place_starts.Goals as goal

pub loop-clause-preserved : goal.loop-clause-preserved
loop-clause-preserved c =
    let old = c.loop-clause in
    let new = c.place_one.new in
    let done = take old.clause-index c.args.start.now in
    let s = c.clause-item.result in
    let more = take_more c.args.start.now old.clause-index s c.loop-clause-test.true ∙ (λ i. done ++ sym c.clause-item.is i ∷ []) in
    subst (λ (xs : List (ℕ × List Literal)). Laid c.args.layout c.args.words.now.items xs new.words.items new.holes new.cells.items) (sym more)
    (laid_more c.args.layout c.args.words.now.items done s old.words.items new.words.items old.holes new.holes old.cells.items new.cells.items old.invariant c.in-Ok.ensures.found c.in-Ok.ensures.holes c.in-Ok.ensures.words)

pub returns-clause-holes : goal.returns-clause-holes
returns-clause-holes c = laid_all c.args.layout c.args.start.now c.loop-clause.clause-index c.args.words.now.items c.loop-clause.words.items c.loop-clause.holes c.loop-clause.cells.items c.loop-clause-test.false c.loop-clause.invariant

pub returns-in-Err-clause-stopped : goal.returns-in-Err-clause-stopped
returns-in-Err-clause-stopped c = no_place c.args.layout c.args.start.now c.loop-clause.clause-index c.clause-item.result c.args.words.now.items c.loop-clause.words.items c.loop-clause.holes c.loop-clause.cells.items c.in-Err.stop
    c.loop-clause-test.true c.clause-item.is c.loop-clause.invariant c.in-Err.ensures.none
