use Rattle.std.proofs.Common.{◌≡◌, ◌∙◌, ◌+◌, ◌<◌, [], length, get_or, ap, arith, rules}
use Rattle.std.proofs.lemmas.List.{get_or_default}
use Rattle.ring_walk.specs.Occurrences.{codes_of, times}
use Rattle.ring_walk.proofs.Ranking.{rank_next, rank_small, rank_up, named_more}
use Rattle.ring_walk.proofs.occurrences.named_of.Goals as goal
use Rattle.ring_walk.proofs.occurrences.named_of.Goals.{After-lits}

lits_is : (c : After-lits) → c.lits.result.now ≡ get_or c.args.clauses.now c.loop-i.i []
lits_is c = c.lits.ensures.value ∙ c.index-clauses-i.is ∙ get_or_default c.args.clauses.now c.loop-i.i c.index-clauses-i.result [] (search rules)

in_range : (c : After-lits) → c.loop-i.i < length c.args.clauses.now
in_range c = search rules

pub name_clause-requires-clause-room : goal.name_clause-requires-clause-room
name_clause-requires-clause-room c = λ x low.
    let at = (goal.at.name_clause-requires-clause-room c).After-lits in
    let G = c.args.clauses.now in
    let i = c.loop-i.i in
    let lt = in_range at in
    let len = c.loop-i.invariant.filled_len in
    let was = c.loop-i.invariant.filled x (omega arith) in
    let next = rank_next G x i lt in
    let e = ap (times x) (lits_is at) in
    let up = rank_up G x (i + 1) (length G) (omega arith) in
    let s = c.requires.starts.next x (omega arith) in
    omega arith

pub name_clause-requires-clause-few : goal.name_clause-requires-clause-few
name_clause-requires-clause-few c = λ x low.
    let at = (goal.at.name_clause-requires-clause-few c).After-lits in
    let G = c.args.clauses.now in
    let i = c.loop-i.i in
    let lt = in_range at in
    let len = c.loop-i.invariant.filled_len in
    let was = c.loop-i.invariant.filled x (omega arith) in
    let next = rank_next G x i lt in
    let e = ap (times x) (lits_is at) in
    let small = rank_small G x (i + 1) c.requires.ordered in
    let few = c.requires.few in
    omega arith

pub loop-i-preserved : goal.loop-i-preserved
loop-i-preserved c =
    let at = (goal.at.loop-i-preserved c).After-lits in
    let G = c.args.clauses.now in
    let i = c.loop-i.i in
    let lt = in_range at in
    let len = c.loop-i.invariant.filled_len in
    let lits = lits_is at in
    record {
      len = c.name_clause.ensures.named_len ∙ c.loop-i.invariant.len;
      filled_len = c.name_clause.ensures.len ∙ len;
      filled = λ x low.
          let was = c.loop-i.invariant.filled x low in
          let next = rank_next G x i lt in
          let e = ap (times x) lits in
          let n = c.name_clause.ensures.filled x (omega arith) in
          omega arith;
      named = named_more G (codes_of c.args.vars) c.args.starts.now c.loop-i.named.items c.name_clause.new.named.items c.loop-i.filled.items i lt c.loop-i.invariant.filled
          (λ x r low. c.name_clause.ensures.kept x r (omega arith))
          (λ x r low from to. c.name_clause.ensures.added x r (omega arith) from (let e = ap (times x) lits in omega arith))
          c.loop-i.invariant.named;
    }
