use Rattle.std.proofs.Common.{◌≡◌, ◌*◌, ap, ◌∙◌, length, replicate, arith}
use Rattle.sat_words.specs.declared.values.Truth.TheVariants.{Open}
use Rattle.sat_words.specs.ByCode.{values_of}
use Rattle.sat_words.proofs.ByCode.{length_paired, all_open}
use Rattle.sat_words.proofs.values.Values.clear.Goals as goal
use Rattle.sat_words.proofs.values.Values.clear.Goals.{After-fill}

opened : (c : After-fill) → c.fill.new.self.items ≡ replicate (2 * length c.args.self.now) Open
opened c =
    let n = ap length c.self.view_is in
    let m = length_paired c.self.inside.by_code.items c.self.invariant in
    c.fill.ensures.items (λ y e. e) ∙ ap (λ k. replicate k Open) (omega (arith, n, m))

pub invariant_of-self : goal.invariant_of-self
invariant_of-self c = rw (opened c) (all_open (length c.args.self.now)).0

pub returns : goal.returns
returns c = ap values_of (opened c) ∙ (all_open (length c.args.self.now)).1
