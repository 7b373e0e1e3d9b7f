use Rattle.std.proofs.Common.{◌≡◌, ◌∙◌, ◌+◌, ◌-◌, ◌++◌, ◌%◌, ℕ, List, take, set, ap, arith}
use Rattle.std.specs.Prelude.{◌/◌}
use Rattle.std.proofs.lemmas.List.{take_more_set}
use Rattle.drat_text.specs.Binary.{groups}
use Rattle.drat_text.proofs.SevenBits.{fits_five, groups_next, groups_end}
use Rattle.drat_text.proofs.groups.write_groups.Goals as goal

pub loop-rest-init : goal.loop-rest-init
loop-rest-init c =
    let here : c.args.at + 0 ≡ c.args.at = omega arith in
    record {
      low = omega arith;
      fits = fits_five c.args.number (omega arith);
      whole = ap (λ (n : ℕ). take n c.args.bytes.now ++ groups 5 c.args.number) here;
    }

pub loop-rest-preserved : goal.loop-rest-preserved
loop-rest-preserved c =
    let l = c.loop-rest in
    let at = c.args.at + l.size in
    let all = take c.args.at c.args.bytes.now ++ groups 5 c.args.number in
    let next = groups_next l.size l.rest (take at l.bytes) all l.invariant.low (omega arith) l.invariant.fits l.invariant.whole in
    let more : c.args.at + (l.size + 1) ≡ at + 1 = omega arith in
    let one = l.rest % 128 + 128 in
    record {
      low = next.0;
      fits = next.1;
      whole = ap (λ (n : ℕ). take n (set l.bytes at one) ++ groups (5 - (l.size + 1)) (l.rest / 128)) more
          ∙ ap (λ (bs : List ℕ). bs ++ groups (5 - (l.size + 1)) (l.rest / 128)) (take_more_set l.bytes at one (omega arith)) ∙ next.2;
    }

pub returns-clause-written : goal.returns-clause-written
returns-clause-written c =
    let l = c.loop-rest in
    let at = c.args.at + l.size in
    take_more_set l.bytes at l.rest (omega arith)
    ∙ groups_end l.size l.rest (take at l.bytes) (take c.args.at c.args.bytes.now ++ groups 5 c.args.number) l.invariant.low (omega arith) l.invariant.whole
