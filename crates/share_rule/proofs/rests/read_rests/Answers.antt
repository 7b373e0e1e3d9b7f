use Rattle.std.proofs.Common.{rules}
use Rattle.std.specs.Mem.Slots.{slots_items}
use Rattle.std.proofs.lemmas.List.Sorted.{IsNonDecreasingBy-from_sort_by_key}
use Rattle.share_rule.specs.declared.rests.Rest.{Rest}
use Rattle.share_rule.proofs.Reading.{rests_sorted}
use Rattle.share_rule.proofs.rests.read_rests.Goals as goal

pub returns : goal.returns
returns g c = λ core glue at holes.
    rests_sorted c.args.layout core glue (slots_items c.args.table.now.words) c.in_ok-rests.rests.items c.sort_unstable_by_key.new.self.items at
    (c.in_ok-rests.ensures core glue at holes)
    c.sort_unstable_by_key.ensures.permutation
    (IsNonDecreasingBy-from_sort_by_key (λ (x : Rest). x.number) _ c.sort_unstable_by_key.ensures.sorted (λ a r q k. search rules))
