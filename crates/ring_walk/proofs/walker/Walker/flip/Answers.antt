use Rattle.std.proofs.Common.{◌≡◌, ◌∙◌, ℕ, ◌-◌, ◌≤◌, Bool, not, List, length, sym, ap, subst, arith, All}
use Rattle.std.proofs.lemmas.List.{length-set}
use Rattle.sat_words.specs.Literal.{Literal, IsOn, opposite}
use Rattle.sat_words.specs.Truth.{value_of, lit_true}
use Rattle.ring_walk.specs.KeptData.{KeptData, turned}
use Rattle.ring_walk.specs.Occurrences.{AreOccurrences}
use Rattle.ring_walk.specs.Truths.{counts_of, IsFlip}
use Rattle.ring_walk.specs.WalkData.{WalkData}
use Rattle.ring_walk.proofs.Ordered.{code_low}
use Rattle.ring_walk.proofs.Ranking.{room_of, ends}
use Rattle.ring_walk.proofs.Values.{false_lit, true_then}
use Rattle.ring_walk.proofs.Turning.{flips, few_now, small_now}
use Rattle.ring_walk.proofs.walker.Walker.flip.Goals as goal
use Rattle.ring_walk.proofs.walker.Walker.flip.Goals.{After-new-lit, After-of-2}

in_range : (c : After-new-lit) → c.args.var ≤ c.self.inside.tally.vars
in_range c = let h = c.requires.high in let v = c.self.invariant.vars in let e = ap (λ (d : WalkData). length d.values) c.self.view_is in omega arith

lit_is : (c : After-new-lit) → c.new-lit.result ≡ false_lit c.self.inside.kept.values c.args.var
lit_is c = c.new-lit.ensures ∙ ap (λ (b : Bool). record { var = c.args.var; neg = b }) (c.value.ensures ∙ ap (λ (a : List Bool). value_of a c.args.var) c.values.ensures)

on_vars : (c : After-new-lit) → IsOn c.self.inside.tally.vars c.new-lit.result
on_vars c = subst (IsOn c.self.inside.tally.vars) (sym (lit_is c)) (record { low = c.requires.low; high = in_range c })

pub of-requires-clause-ends : goal.of-requires-clause-ends
of-requires-clause-ends c =
    let at = (goal.at.of-requires-clause-ends c).After-new-lit in
    let w = c.self.inside in
    ends w.tally.vars w.clauses.now w.occurrences.starts.items w.occurrences.named.items c.self.invariant.occurrences c.new-lit.result (code_low w.tally.vars c.new-lit.result (on_vars at))

pub of-requires-2-clause-ends : goal.of-requires-2-clause-ends
of-requires-2-clause-ends c =
    let at = (goal.at.of-requires-2-clause-ends c).After-new-lit in
    let w = c.self.inside in
    let on : IsOn w.tally.vars c.not.result = subst (IsOn w.tally.vars) (sym c.not.ensures) (record { low = (on_vars at).low; high = (on_vars at).high }) in
    ends w.tally.vars w.clauses.now w.occurrences.starts.items w.occurrences.named.items c.self.invariant.occurrences c.not.result (code_low w.tally.vars c.not.result on)

up_is : (c : After-of-2) → c.of.result.now ≡ room_of c.self.inside.occurrences.starts.items c.self.inside.occurrences.named.items (false_lit c.self.inside.kept.values c.args.var)
up_is c =
    let o = c.self.inside.occurrences in
    c.of.ensures ∙ ap (room_of o.starts.items o.named.items) (lit_is (goal.at.flip-requires-clause-known c).After-new-lit)

down_is : (c : After-of-2) → c.of-2.result.now ≡ room_of c.self.inside.occurrences.starts.items c.self.inside.occurrences.named.items (opposite (false_lit c.self.inside.kept.values c.args.var))
down_is c =
    let o = c.self.inside.occurrences in
    c.of-2.ensures ∙ ap (room_of o.starts.items o.named.items) (c.not.ensures ∙ ap opposite (lit_is (goal.at.flip-requires-clause-known c).After-new-lit))

known : (c : After-of-2) → IsFlip c.self.inside.tally c.of.result.now c.of-2.result.now c.args.var c.self.inside.clauses.now (lit_true c.self.inside.kept.values) (false_lit c.self.inside.kept.values c.args.var)
known c =
    let w = c.self.inside in
    flips w.tally w.clauses.now w.kept.values w.occurrences.starts.items w.occurrences.named.items c.args.var c.self.invariant.on c.self.invariant.ordered c.self.invariant.counts c.self.invariant.occurrences
    c.requires.low (in_range (goal.at.flip-requires-clause-known c).After-new-lit) c.of.result.now c.of-2.result.now (up_is c) (down_is c)

pub flip-requires-clause-known : goal.flip-requires-clause-known
flip-requires-clause-known c = (c.self.inside.clauses.now, lit_true c.self.inside.kept.values, false_lit c.self.inside.kept.values c.args.var, known c)

pub flip-requires-clause-few : goal.flip-requires-clause-few
flip-requires-clause-few c =
    let w = c.self.inside in
    few_now w.tally w.clauses.now w.kept.values w.occurrences.starts.items w.occurrences.named.items c.args.var c.self.invariant.on c.self.invariant.ordered c.self.invariant.counts c.self.invariant.occurrences
    c.requires.low (in_range (goal.at.flip-requires-clause-few c).After-new-lit) c.self.invariant.small

pub flip-requires-clause-small : goal.flip-requires-clause-small
flip-requires-clause-small c =
    let w = c.self.inside in
    small_now w.tally w.clauses.now w.kept.values w.occurrences.starts.items w.occurrences.named.items c.args.var c.self.invariant.on c.self.invariant.ordered c.self.invariant.counts c.self.invariant.occurrences
    c.requires.low (in_range (goal.at.flip-requires-clause-small c).After-new-lit) c.self.invariant.small

pub invariant_of-self : goal.invariant_of-self
invariant_of-self c =
    let w = c.self.inside in
    let v = c.args.var in
    let a = w.kept.values in
    let G = w.clauses.now in
    let vars = c.flip.ensures.vars in
    let high = in_range (goal.at.invariant_of-self c).After-new-lit in
    let long = c.self.invariant.vars in
    let now : c.flip-2.new.self.values ≡ turned a v = ap (λ (k : KeptData). k.values) c.flip-2.ensures in
    let small = c.self.invariant.small in
    record {
      small = omega arith;
      vars = ap (λ (b : List Bool). length b) now ∙ length-set a (v - 1) (not (value_of a v)) ∙ long ∙ sym vars;
      on = subst (λ (n : ℕ). All (All (IsOn n)) G) (sym vars) c.self.invariant.on;
      ordered = c.self.invariant.ordered;
      counts = c.flip.ensures.counts G (lit_true a) (false_lit a v) (known (goal.at.invariant_of-self c).After-of-2)
          ∙ ap (λ (T : Literal → Bool). counts_of T G) (sym (true_then a v c.requires.low (omega arith)))
          ∙ ap (λ (b : List Bool). counts_of (lit_true b) G) (sym now);
      occurrences = subst (λ (n : ℕ). AreOccurrences n G w.occurrences.starts.items w.occurrences.named.items) (sym vars) c.self.invariant.occurrences;
    }
