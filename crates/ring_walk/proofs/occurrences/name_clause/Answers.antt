use Rattle.std.proofs.Common.{◌≡◌, ◌∙◌, ℕ, ◌+◌, ◌<◌, List, length, get_or, ap, arith, rules}
use Rattle.std.specs.Prelude.{◌^◌}
use Rattle.std.proofs.Math.ListN.{set}
use Rattle.std.proofs.lemmas.List.{get_or_read, length-set, take_all}
use Rattle.sat_words.specs.Literal.{Literal, code_of}
use Rattle.ring_walk.specs.Occurrences.{times}
use Rattle.ring_walk.proofs.Filling.{counted, inside, kept_more, added_more, times_within}
use Rattle.ring_walk.proofs.Spacing.{climb}
use Rattle.ring_walk.proofs.occurrences.name_clause.Goals as goal
use Rattle.ring_walk.proofs.occurrences.name_clause.Goals.{After-index}

own : (c : After-index) → code_of c.lit-item.result < length c.args.filled.now.items
own c = search rules

code : (c : After-index) → c.code-code.result ≡ code_of c.lit-item.result
code c = c.code-code.ensures

read : (c : After-index) → c.index.result.now ≡ get_or c.loop-lit.filled.items (code_of c.lit-item.result) 0
read c = let o = own c in let len = c.loop-lit.invariant.len in get_or_read c.loop-lit.filled.items (code_of c.lit-item.result) c.index.result.now (omega arith) (search rules) 0

place : (c : After-index) → get_or c.args.starts.now c.code-code.result 0 + c.index.result.now ≡ get_or c.args.starts.now (code_of c.lit-item.result) 0 + get_or c.loop-lit.filled.items (code_of c.lit-item.result) 0
place c = let r = read c in let e = ap (λ (x : ℕ). get_or c.args.starts.now x 0) (code c) in omega arith

in_named : (c : After-index) → get_or c.args.starts.now (code_of c.lit-item.result) 0 + get_or c.loop-lit.filled.items (code_of c.lit-item.result) 0 < length c.loop-lit.named.items
in_named c =
    let F0 = c.args.filled.now.items in
    let n = inside c.args.starts.now F0 c.loop-lit.filled.items c.args.named.now.items c.loop-lit.named.items c.args.lits.now c.loop-lit.lit-index c.lit-item.result c.args.clause c.loop-lit-test.true c.lit-item.is (own c) c.requires.room c.loop-lit.invariant.filled
    (length c.args.named.now.items) c.requires.ends (climb c.args.starts.now (length F0) (λ x low. let r = c.requires.room x low in omega arith)) in
    let len = c.loop-lit.invariant.named_len in
    omega arith

pub index_mut-requires : goal.index_mut-requires
index_mut-requires c =
    let at = (goal.at.index_mut-requires c).After-index in
    let n = in_named at in
    let p = place at in
    omega arith

pub overflow_add-index_mut : goal.overflow_add-index_mut
overflow_add-index_mut c =
    let at = (goal.at.overflow_add-index_mut c).After-index in
    let l = c.lit-item.result in
    let F = c.loop-lit.filled.items in
    let o = own at in
    let len = c.loop-lit.invariant.len in
    let there : c.index_mut-in-loop-lit.result.now ≡ get_or F (code_of l) 0 = get_or_read F (code_of l) c.index_mut-in-loop-lit.result.now (omega arith) (search rules) 0 in
    let was = c.loop-lit.invariant.filled (code_of l) o in
    let within = times_within c.args.lits.now c.loop-lit.lit-index l c.loop-lit-test.true c.lit-item.is in
    let few = c.requires.few (code_of l) o in
    let small : c.index_mut-in-loop-lit.result.now + 1 < 2 ^ 32 = omega arith in
    search rules

pub loop-lit-preserved : goal.loop-lit-preserved
loop-lit-preserved c =
    let at = (goal.at.loop-lit-preserved c).After-index in
    let l = c.lit-item.result in
    let S = c.args.starts.now in
    let F0 = c.args.filled.now.items in
    let F = c.loop-lit.filled.items in
    let N = c.loop-lit.named.items in
    let N0 = c.args.named.now.items in
    let lits = c.args.lits.now in
    let k = c.loop-lit.lit-index in
    let o = own at in
    let len = c.loop-lit.invariant.len in
    let there : c.index_mut-in-loop-lit.result.now ≡ get_or F (code_of l) 0 = get_or_read F (code_of l) c.index_mut-in-loop-lit.result.now (omega arith) (search rules) 0 in
    let p = get_or S c.code-code.result 0 + c.index.result.now in
    let q = get_or S (code_of l) 0 + get_or F (code_of l) 0 in
    let same : set F c.code-code.result (c.index_mut-in-loop-lit.result.now + 1) ≡ set F (code_of l) (get_or F (code_of l) 0 + 1) =
    ap (λ (x : ℕ). set F x (c.index_mut-in-loop-lit.result.now + 1)) (code at) ∙ ap (λ (n : ℕ). set F (code_of l) (n + 1)) there in
    let named : set N p c.args.clause ≡ set N q c.args.clause = ap (λ (n : ℕ). set N n c.args.clause) (place at) in
    record {
      len = length-set F c.code-code.result (c.index_mut-in-loop-lit.result.now + 1) ∙ len;
      named_len = length-set N p c.args.clause ∙ c.loop-lit.invariant.named_len;
      filled = λ x low. ap (λ (xs : List ℕ). get_or xs x 0) same ∙ counted F0 F lits k l c.loop-lit-test.true c.lit-item.is len o c.loop-lit.invariant.filled x low;
      kept = λ x r low lt. ap (λ (xs : List ℕ). get_or xs (get_or S x 0 + r) 0) named
          ∙ kept_more S F0 F N0 N lits k l c.args.clause c.loop-lit-test.true c.lit-item.is o c.requires.room c.loop-lit.invariant.filled c.loop-lit.invariant.kept x r low lt;
      added = λ x r low from to. ap (λ (xs : List ℕ). get_or xs (get_or S x 0 + r) 0) named
          ∙ added_more S F0 F N0 N lits k l c.args.clause c.loop-lit-test.true c.lit-item.is o c.requires.room c.loop-lit.invariant.filled (in_named at) c.loop-lit.invariant.added x r low from to;
    }

pub returns-clause-filled : goal.returns-clause-filled
returns-clause-filled c = λ x low. c.loop-lit.invariant.filled x low ∙ ap (λ (ls : List Literal). get_or c.args.filled.now.items x 0 + times x ls) (take_all c.loop-lit.lit-index c.args.lits.now (search rules))

pub returns-clause-added : goal.returns-clause-added
returns-clause-added c = λ x r low from to.
    let e = ap (λ (ls : List Literal). times x ls) (take_all c.loop-lit.lit-index c.args.lits.now (search rules)) in
    c.loop-lit.invariant.added x r low from (omega arith)
