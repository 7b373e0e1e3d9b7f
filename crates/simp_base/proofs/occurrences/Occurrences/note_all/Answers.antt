use Rattle.std.proofs.Common.{◌<◌, sym, subst, get_or, ℕ, List, [], length, Contains, arith}
use Rattle.sat_words.specs.Literal.{Literal, code_of}
use Rattle.simp_base.proofs.Noting.{noted_more, there_set}
use Rattle.simp_base.proofs.occurrences.Occurrences.note_all.Goals as goal

pub loop-lit-preserved : goal.loop-lit-preserved
loop-lit-preserved c =
    let old = c.args.self.now in let now = c.loop-lit.self in let l : Literal = c.lit-item.result in let n = c.args.number in
    let inside : code_of l < length old = subst (λ (x : Literal). code_of x < length old) (sym c.lit-item.is) (c.requires c.loop-lit.lit-index l c.loop-lit-test.true) in
    let here : code_of l < length now = (let w = c.loop-lit.invariant.kept.wide in omega arith) in
    noted_more old now c.note.new.self c.args.lits.now c.loop-lit.lit-index n l c.loop-lit-test.true c.lit-item.is c.loop-lit.invariant c.note.ensures.kept
    (subst (λ (s : List (List ℕ)). Contains (get_or s (code_of l) []) n) (sym c.in_ok-note.ensures.ok) (there_set now (code_of l) n here))
