use Rattle.rand_pcg.specs.Lcg.{Lcg}
use Rattle.std.proofs.Common.{◌≡◌, ◌∙◌, ℕ, ◌+◌, ◌++◌, List, Result, Ok, Err, IfOk, OnOk, append-nil, sym, ap, subst, arith}
use Rattle.random_bits.specs.Bits.{word_of, rest_of}
use Rattle.sat_words.specs.Literal.{Literal}
use Rattle.sat_words.specs.Clause.{clause_of}
use Rattle.test_ruler.specs.Draws.{size_of, lits_from, behind_lits}
use Rattle.test_ruler.proofs.Drawing.{lits_zero, lits_next, behind_next}
use Rattle.test_ruler.proofs.draws.draw_clause.Goals as goal

ok_where : {T E : Type 0} {P : Type 0} (r : Result T E) → P → OnOk r P
ok_where (Ok x) p = p
ok_where (Err x) p = tt

pub loop-index-preserved : goal.loop-index-preserved
loop-index-preserved c =
    let l = c.loop-index in
    let start = rest_of c.args.words.now in
    record {
      lits = subst (λ (xs : List Literal). (m : ℕ) → lits_from start (l._index + 1 + m) ≡ xs ++ lits_from c.draw_lit.new.words m) (sym c.in_ok-push.ensures.items)
          (lits_next start l.words c.draw_lit.new.words l.lits.items c.draw_lit.result l._index c.draw_lit.ensures.lit c.draw_lit.ensures.rest l.invariant.lits);
      behind = behind_next start l.words c.draw_lit.new.words l._index c.draw_lit.ensures.rest l.invariant.behind;
    }

pub returns-clause-clause : goal.returns-clause-clause
returns-clause-clause c =
    let l = c.loop-index in
    let start = rest_of c.args.words.now in
    let word = ap (λ (p : ℕ × Lcg). p.0) c.next_word.ensures in
    let count : l._index + 0 ≡ c.clause_size-size.result = omega (arith, c.loop-index-test.false, l.auto) in
    let size : l._index + 0 ≡ size_of (word_of c.args.words.now) = count ∙ c.clause_size-size.ensures ∙ ap size_of word in
    let all : lits_from start (size_of (word_of c.args.words.now)) ≡ l.lits.items
    = ap (lits_from start) (sym size) ∙ l.invariant.lits 0 ∙ ap (λ (xs : List Literal). l.lits.items ++ xs) (lits_zero l.words).0 ∙ append-nil l.lits.items in
    subst (λ (xs : List Literal). IfOk c.from_lits.result (λ clause. clause ≡ clause_of xs)) (c.as_slice.ensures.value ∙ sym all) c.from_lits.ensures.value

pub returns-clause-rest : goal.returns-clause-rest
returns-clause-rest c =
    let l = c.loop-index in
    let start = rest_of c.args.words.now in
    let word = ap (λ (p : ℕ × Lcg). p.0) c.next_word.ensures in
    let count : l._index + 0 ≡ c.clause_size-size.result = omega (arith, c.loop-index-test.false, l.auto) in
    let size : l._index + 0 ≡ size_of (word_of c.args.words.now) = count ∙ c.clause_size-size.ensures ∙ ap size_of word in
    let all : l.words ≡ behind_lits start (size_of (word_of c.args.words.now)) = sym (ap (behind_lits start) (sym size) ∙ l.invariant.behind 0 ∙ (lits_zero l.words).1) in
    ok_where c.from_lits.result all
