-- A log that is ended refutes the formula.
use Rattle.std.proofs.Common.{◌≡◌, true, ◌||◌, sym, ap, ◌∙◌}
use Rattle.std.specs.List.{list_any}
use Rattle.std.proofs.lemmas.List.Folds.{list_any-append}
use Rattle.sat_words.specs.Clause.{is_empty}
use Rattle.rup_model.specs.Log.{Refutes}
use Rattle.rup_model.specs.Journal.{added, lines}
use Rattle.rup_model.proofs.Refuting.{added_empty_refutes}
use Rattle.ring_port.specs.PortState.{PortState}
use Rattle.ring_port.specs.Log.{Origin, StandsOver, journal_of}

pub ended_refutes : (o : Origin) (s : PortState) → StandsOver o s → s.ended ≡ true → Refutes o.formula (lines o.formula (journal_of o s))
ended_refutes o s h end =
    let some : list_any is_empty (added (journal_of o s)) ≡ true =
    sym (ap (λ b. b || list_any is_empty (added (journal_of o s))) h.given) ∙ sym (list_any-append is_empty o.formula (added (journal_of o s))) ∙ sym h.ended ∙ end in
    added_empty_refutes o.formula (journal_of o s) h.sound some
