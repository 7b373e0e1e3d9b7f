use Rattle.rand_pcg.specs.Lcg.{Lcg}
use Rattle.std.proofs.Common.{◌≡◌, ◌∙◌, ℕ, ◌+◌, ◌%◌, ◌++◌, List, append-nil, sym, ap, subst, arith}
use Rattle.random_bits.specs.Bits.{word_of, rest_of}
use Rattle.sat_words.specs.Literal.{Literal}
use Rattle.sat_words.specs.FormulaData.{FormulaData}
use Rattle.test_ruler.specs.Draws.{source, clauses_from}
use Rattle.test_ruler.proofs.Drawing.{clauses_zero, clauses_next}
use Rattle.test_ruler.proofs.draws.draw_formula.Goals as goal

pub loop-index-preserved : goal.loop-index-preserved
loop-index-preserved c =
    let l = c.loop-index in
    let start = rest_of (source c.args.number) in
    let p = c.in_ok-push.ensures.ok in
    let k = c.draw_clause.new.words in
    record {
      vars = ap (λ (f : FormulaData). f.vars) p ∙ l.invariant.vars;
      clauses = subst (λ (xs : List (List Literal)). (m : ℕ) → clauses_from start (l._index + 1 + m) ≡ xs ++ clauses_from k m) (sym (ap (λ (f : FormulaData). f.clauses) p))
          (clauses_next start l.words k l.formula.clauses c.in_ok-draw_clause.field-0 l._index c.in_ok-draw_clause.ensures.clause c.in_ok-draw_clause.ensures.rest l.invariant.clauses);
    }

pub returns : goal.returns
returns c =
    let l = c.loop-index in
    let start = rest_of (source c.args.number) in
    let word : c.next_word.result ≡ word_of (source c.args.number) = ap (λ (p : ℕ × Lcg). p.0) c.next_word.ensures ∙ ap word_of c.new-words.ensures in
    let end : l._index + 0 ≡ 4 + c.next_word.result % 16 = omega (arith, c.loop-index-test.false, l.auto) in
    let count : l._index + 0 ≡ 4 + word_of (source c.args.number) % 16 = end ∙ ap (λ (w : ℕ). 4 + w % 16) word in
    let all : l.formula.clauses ≡ clauses_from start (4 + word_of (source c.args.number) % 16)
    = sym (ap (clauses_from start) (sym count) ∙ l.invariant.clauses 0 ∙ ap (λ (xs : List (List Literal)). l.formula.clauses ++ xs) (clauses_zero l.words) ∙ append-nil l.formula.clauses) in
    λ i. record { vars = l.invariant.vars i; clauses = all i }
