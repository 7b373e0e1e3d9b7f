use Rattle.std.proofs.Common.{refl, sym}
use Rattle.clause_cell.proofs.Starting.{len_at, len_none}
use Rattle.clause_cell.proofs.sorted.len_from.Goals as goal

pub returns-then-begins_at : goal.returns-then-begins_at
returns-then-begins_at c =
    let at = c.if-begins_at.ensures.yes refl in
    sym (len_at c.args.first 0 c.args.items.now c.before-i.result c.requires c.before-i.ensures.front at.0 at.1)

pub returns : goal.returns
returns c = sym (len_none c.args.first 0 c.args.items.now c.before-i.result c.requires c.before-i.ensures.front c.before-i.ensures.bound c.before-i.ensures.stop (c.if-begins_at.ensures.no refl))
