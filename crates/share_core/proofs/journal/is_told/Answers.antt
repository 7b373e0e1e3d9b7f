use Rattle.std.proofs.Common.{◌≡◌, ◌||◌, ◌∷◌, [], Bool, false, sym, ap, ◌∙◌}
use Rattle.std.specs.List.{list_any}
use Rattle.sat_words.specs.Clause.{same_set}
use Rattle.share_core.specs.Machine.{adds}
use Rattle.share_core.proofs.Scans.{told_parts}
use Rattle.share_core.proofs.journal.is_told.Goals as goal

pub returns-else-has_unit : goal.returns-else-has_unit
returns-else-has_unit c =
    let none : list_any (same_set (c.args.lit ∷ [])) c.args.clauses.now ≡ false = sym c.has_unit.ensures ∙ c.if-has_unit.false in
    c.some_adds_unit.ensures ∙ sym (told_parts c.args.clauses.now c.args.journal.now c.args.lit ∙ ap (λ (b : Bool). b || list_any (adds (same_set (c.args.lit ∷ []))) c.args.journal.now) none)
