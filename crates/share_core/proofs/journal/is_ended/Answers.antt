use Rattle.std.proofs.Common.{◌≡◌, ◌||◌, Bool, false, sym, ap, ◌∙◌}
use Rattle.std.specs.List.{list_any}
use Rattle.sat_words.specs.Clause.{is_empty}
use Rattle.share_core.specs.Machine.{adds}
use Rattle.share_core.proofs.Scans.{ended_parts}
use Rattle.share_core.proofs.journal.is_ended.Goals as goal

pub returns-else-has_empty : goal.returns-else-has_empty
returns-else-has_empty c =
    let none : list_any is_empty c.args.clauses.now ≡ false = sym c.has_empty.ensures ∙ c.if-has_empty.false in
    c.some_adds_empty.ensures ∙ sym (ended_parts c.args.clauses.now c.args.journal.now ∙ ap (λ (b : Bool). b || list_any (adds is_empty) c.args.journal.now) none)
