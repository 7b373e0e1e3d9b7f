use Rattle.std.proofs.Common.{◌≡◌, ◌∙◌, ◌++◌, ◌∷◌, [], List, Some, get_or, refl, sym, ap}
use Rattle.std.specs.Vec.{with_item}
use Rattle.sat_words.specs.Literal.{Literal}
use Rattle.rup_model.specs.declared.journal.Addition.{Addition}
use Rattle.rup_model.specs.declared.journal.Entry.TheVariants.{Add}
use Rattle.rup_model.specs.Journal.{lines}
use Rattle.share_core.specs.declared.ring.RingState.{RingState}
use Rattle.share_core.specs.declared.progress.Progress.{Progress}
use Rattle.share_core.specs.Machine.{CoreData, data_of, state_of}
use Rattle.share_core.proofs.Shown.{kept_longer, lines_added}
use Rattle.share_core.proofs.Lookups.{begin_shown}
use Rattle.share_core.proofs.progress.Progress.add_clause.Goals as goal

pub returns-clause-after : goal.returns-clause-after
returns-clause-after c =
    let d : CoreData = data_of c.args.origin.now c.args.self.now in
    let m : RingState = c.index_mut-own.result.now in
    let after = c.in_ok-number.ensures.after in
    let own : m ≡ get_or d.rings c.args.ring m = c.index_mut-own.ensures.value ∙ ap (λ (p : Progress). get_or p.rings.items c.args.ring m) after in
    let cells : c.push.new.self.items ≡ d.cells ++ record { address = c.args.address; cell = record { lits = c.args.lits.now; number = c.in_ok-number.number; count = 0; maker = Some c.args.ring } } ∷ [] =
    c.in_ok-push.ensures.items
    ∙ ap (λ (p : Progress). p.cells.items ++ record { address = c.args.address; cell = record { lits = c.in_ok-from_slice.field-0; number = c.in_ok-number.number; count = 0; maker = Some c.args.ring } } ∷ []) after
    ∙ ap (λ (ls : List Literal). d.cells ++ record { address = c.args.address; cell = record { lits = ls; number = c.in_ok-number.number; count = 0; maker = Some c.args.ring } } ∷ []) c.in_ok-from_slice.ensures in
    let making : c.push-2.new.self ≡ m.making ++ record { address = c.args.address; number = c.in_ok-number.number; lits = c.args.lits.now } ∷ [] =
    c.in_ok-push-2.ensures ∙ ap (λ (ls : List Literal). m.making ++ record { address = c.args.address; number = c.in_ok-number.number; lits = ls } ∷ []) c.in_ok-from_slice-2.ensures in
    ap (λ (p : Progress). state_of (data_of c.args.origin.now (record p { cells = c.push.new.self; rings = with_item p.rings c.args.ring (record m { making = c.push-2.new.self; ticket = c.ticket_after-own.result }) }))) after
    ∙ begin_shown d c.args.ring m c.requires.enabled.0 own (kept_longer d c.requires.kept) c.args.kind c.args.lits.now c.args.hints.now c.args.address c.in_ok-number.number c.push-2.new.self c.ticket_after-own.result c.push.new.self.items
    (c.args.self.now.journal ++ Add (record { ring = c.args.ring; number = c.in_ok-number.number; lits = c.args.lits.now; kind = c.args.kind; hints = c.args.hints.now }) ∷ []) c.in_ok-number.ensures.number c.requires.enabled.4 c.ticket_after-own.ensures making cells refl

pub returns-clause-logged : goal.returns-clause-logged
returns-clause-logged c =
    let x : Addition = record { ring = c.args.ring; number = c.in_ok-number.number; lits = c.args.lits.now; kind = c.args.kind; hints = c.args.hints.now } in
    let after = c.in_ok-number.ensures.after in
    ap (λ (p : Progress). p.lines) after
    ∙ lines_added c.args.origin.now.formula.clauses c.args.self.now.journal x c.args.self.now.lines c.requires.kept.logged
    ∙ ap (λ (p : Progress). lines c.args.origin.now.formula.clauses p.journal) (sym after)
