use Rattle.std.proofs.Common.{◌≡◌, ◌*◌, ◌+◌, ap, ◌∙◌, replicate}
use Rattle.sat_words.specs.declared.values.Truth.TheVariants.{Open}
use Rattle.sat_words.specs.ByCode.{values_of}
use Rattle.sat_words.proofs.ByCode.{all_open}
use Rattle.sat_words.proofs.values.Values.new.Goals as goal
use Rattle.sat_words.proofs.values.Values.new.Goals.{In_ok-vec}

opened : (c : In_ok-vec) → c.in_ok-vec.field-0.items ≡ replicate (2 * (c.args.vars + 1)) Open
opened c = (c.in_ok-vec.ensures {u = tt}).items_if_clones_equal (λ y e. e)

pub invariant_of-result : goal.invariant_of-result
invariant_of-result c = rw (opened c) (all_open (c.args.vars + 1)).0

pub returns : goal.returns
returns c = ap values_of (opened c) ∙ (all_open (c.args.vars + 1)).1
