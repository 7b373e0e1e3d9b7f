use Rattle.std.proofs.Common.{◌≡◌, ◌∙◌, ◌++◌, ◌∷◌, [], get_or, refl, sym, ap, subst}
use Rattle.std.specs.Vec.{with_item}
use Rattle.rup_model.specs.declared.journal.Addition.{Addition}
use Rattle.rup_model.specs.declared.journal.Entry.TheVariants.{Add}
use Rattle.share_core.specs.declared.ring.RingState.{RingState}
use Rattle.share_core.specs.declared.progress.Progress.{Progress}
use Rattle.share_core.specs.Machine.{CoreData, data_of, state_of, Logged}
use Rattle.share_core.proofs.Shown.{kept_longer, lines_added}
use Rattle.share_core.proofs.Lookups.{tell_shown}
use Rattle.share_core.proofs.progress.Progress.add_unit.Goals as goal

pub returns-clause-after : goal.returns-clause-after
returns-clause-after c =
    let d : CoreData = data_of c.args.origin.now c.args.self.now in
    let m : RingState = c.index_mut-own.result.now in
    let after = c.in_ok-note_addition.ensures.after in
    let own : m ≡ get_or d.rings c.args.ring m = c.index_mut-own.ensures.value ∙ ap (λ (p : Progress). get_or p.rings.items c.args.ring m) after in
    ap (λ (p : Progress). state_of (data_of c.args.origin.now (record p { rings = with_item p.rings c.args.ring (record m { ticket = c.ticket_after-own.result }) }))) after
    ∙ tell_shown d c.args.ring m c.requires.enabled.0 own (kept_longer d c.requires.kept) c.args.kind (c.args.lit ∷ []) c.args.hints.now c.in_ok-note_addition.field-0 c.ticket_after-own.result
    (c.args.self.now.journal ++ Add (record { ring = c.args.ring; number = c.in_ok-note_addition.field-0; lits = c.args.lit ∷ []; kind = c.args.kind; hints = c.args.hints.now }) ∷ []) c.in_ok-note_addition.ensures.number c.ticket_after-own.ensures refl

pub returns-clause-logged : goal.returns-clause-logged
returns-clause-logged c =
    let x : Addition = record { ring = c.args.ring; number = c.in_ok-note_addition.field-0; lits = c.args.lit ∷ []; kind = c.args.kind; hints = c.args.hints.now } in
    subst (λ (p : Progress). Logged (data_of c.args.origin.now (record p { rings = c.args.self.now.rings }))) (sym c.in_ok-note_addition.ensures.after)
    (lines_added c.args.origin.now.formula.clauses c.args.self.now.journal x c.args.self.now.lines c.requires.kept.logged)
