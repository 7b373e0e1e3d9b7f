use Rattle.std.proofs.Common.{◌≡◌, ◌∙◌, ℕ, ◌+◌, Bool, false, List, length, sym, ap, subst, arith, rules}
use Rattle.ring_walk.specs.KeptData.{differs}
use Rattle.ring_walk.specs.Listed.{AreListed}
use Rattle.ring_walk.proofs.Values.{same_values}
use Rattle.ring_walk.proofs.Keeping.{listed-none, differs-self, passing-none}
use Rattle.ring_walk.proofs.kept.Kept.new.Goals as goal
use Rattle.ring_walk.proofs.kept.Kept.new.Goals.{In_ok-best}

copied : (c : In_ok-best) → c.in_ok-best.best ≡ c.args.values
copied c =
    let len = c.in_ok-best.ensures.len in
    same_values c.in_ok-best.best c.args.values (search rules) (λ v le. c.in_ok-best.ensures.each v (omega arith))

pub returns-clause-best : goal.returns-clause-best
returns-clause-best c = copied c

pub invariant_of-result : goal.invariant_of-result
invariant_of-result c =
    let same = copied c in
    let none : (v : ℕ) → differs c.in_ok-best.best c.args.values v ≡ false = λ v. ap (λ (a : List Bool). differs a c.args.values v) same ∙ differs-self c.args.values v in
    record {
      small = c.requires;
      same = ap (λ (a : List Bool). length a) same;
      listed = subst (λ (xs : List ℕ). AreListed (differs c.in_ok-best.best c.args.values) (length c.args.values + 1) xs c.resize.new.self.items) (sym c.in_ok-changed.ensures.items)
          (listed-none (differs c.in_ok-best.best c.args.values) (length c.args.values + 1) c.resize.new.self.items (search rules) none);
      many = ap (λ (xs : List ℕ). length xs) c.in_ok-changed.ensures.items ∙ sym (passing-none (differs c.in_ok-best.best c.args.values) (length c.args.values + 1) none);
      room = search rules;
    }
