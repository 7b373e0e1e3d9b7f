use Rattle.std.proofs.Common.{◌≡◌, ◌∙◌, ℕ, ◌+◌, List, length, get_or, sym, ap, subst, arith, rules}
use Rattle.std.proofs.lemmas.List.{get_or_read}
use Rattle.std.proofs.lemmas.List.Sums.{sum_by_more}
use Rattle.ring_walk.specs.Occurrences.{codes_of, rank, AreStarts, AreNamed}
use Rattle.ring_walk.proofs.occurrences.occurrences_of.Goals as goal
use Rattle.ring_walk.proofs.occurrences.occurrences_of.Goals.{In_ok-starts}

spaced : (c : In_ok-starts) → AreStarts (codes_of c.args.vars) c.in_ok-starts.starts.items (λ x. rank c.args.clauses.now x (length c.args.clauses.now))
spaced c =
    let sizes = c.in_ok-sizes.sizes.items in
    let same = c.as_slice.ensures.value in
    let long : length c.as_slice.result.now ≡ codes_of c.args.vars = ap (λ (xs : List ℕ). length xs) same ∙ c.in_ok-sizes.ensures.len in
    let len = c.in_ok-starts.ensures.len in
    record {
      wide = omega arith;
      next = λ x low.
          let here = c.in_ok-starts.ensures.each x (omega arith) in
          let then_is = c.in_ok-starts.ensures.each (x + 1) (omega arith) in
          let more = sum_by_more (λ (n : ℕ). n) c.as_slice.result.now x 0 (omega arith) in
          let at = ap (λ (xs : List ℕ). get_or xs x 0) same in
          let size = c.in_ok-sizes.ensures.each x low in
          omega arith;
    }

pub named_of-requires-clause-starts : goal.named_of-requires-clause-starts
named_of-requires-clause-starts c =
    subst (λ (xs : List ℕ). AreStarts (codes_of c.args.vars) xs (λ x. rank c.args.clauses.now x (length c.args.clauses.now))) (sym c.as_slice-2.ensures.value)
    (spaced (goal.at.named_of-requires-clause-starts c).In_ok-starts)

pub returns : goal.returns
returns c =
    let s = spaced (goal.at.returns c).In_ok-starts in
    let starts = c.in_ok-starts.starts.items in
    let wide = s.wide in
    let size = c.in_ok-sizes.ensures.len in
    let len : c.len.result ≡ codes_of c.args.vars = search rules in
    let total : c.index-total.result.now ≡ get_or starts c.len.result 0 = get_or_read starts c.len.result c.index-total.result.now (omega arith) (search rules) 0 in
    let end = ap (λ (n : ℕ). get_or starts n 0) len in
    let long = c.in_ok-named.ensures.len in
    record {
      spaced = s;
      ends = omega arith;
      each = subst (λ (xs : List ℕ). AreNamed c.args.clauses.now (codes_of c.args.vars) xs c.in_ok-named.named.items (length c.args.clauses.now)) c.as_slice-2.ensures.value c.in_ok-named.ensures.named;
    }
