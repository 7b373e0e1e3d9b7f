use Rattle.std.proofs.Common.{◌∙◌, ◌++◌, ◌∷◌, [], refl, sym, ap, subst}
use Rattle.rup_model.specs.declared.journal.Kind.TheVariants.{Derive}
use Rattle.rup_model.specs.declared.journal.Addition.{Addition}
use Rattle.rup_model.specs.declared.journal.Entry.TheVariants.{Add}
use Rattle.share_core.specs.declared.progress.Progress.{Progress}
use Rattle.share_core.specs.Events.{addition_of}
use Rattle.share_core.specs.Machine.{CoreData, data_of, state_of, Logged}
use Rattle.share_core.proofs.Shown.{kept_longer, lines_added}
use Rattle.share_core.proofs.Lookups.{lone_shown}
use Rattle.share_core.proofs.progress.Progress.add_empty.Goals as goal

pub returns-clause-after : goal.returns-clause-after
returns-clause-after c =
    let d : CoreData = data_of c.args.origin.now c.args.self.now in
    let n = c.in_ok-note_addition.ensures.number in
    ap (λ (p : Progress). state_of (data_of c.args.origin.now p)) c.in_ok-note_addition.ensures.after
    ∙ lone_shown d c.args.ring (addition_of (state_of d) c.args.ring Derive [] c.args.hints.now)
    (d.journal ++ Add (record { ring = c.args.ring; number = c.in_ok-note_addition.field-0; lits = []; kind = Derive; hints = c.args.hints.now }) ∷ [])
    (kept_longer d c.requires.kept) refl (λ j. d.journal ++ Add (record { ring = c.args.ring; number = n j; lits = []; kind = Derive; hints = c.args.hints.now }) ∷ [])

pub returns-clause-logged : goal.returns-clause-logged
returns-clause-logged c =
    let x : Addition = record { ring = c.args.ring; number = c.in_ok-note_addition.field-0; lits = []; kind = Derive; hints = c.args.hints.now } in
    subst (λ (p : Progress). Logged (data_of c.args.origin.now p)) (sym c.in_ok-note_addition.ensures.after)
    (lines_added c.args.origin.now.formula.clauses c.args.self.now.journal x c.args.self.now.lines c.requires.kept.logged)
