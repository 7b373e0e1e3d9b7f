use Rattle.std.proofs.Common.{◌≡◌, ◌∙◌, ◌++◌, List, IfOk, map, sym, ap, subst}
use Rattle.sat_words.specs.declared.line.Line.{Line}
use Rattle.rup_model.specs.declared.journal.Entry.{Entry}
use Rattle.rup_model.specs.Journal.{lines}
use Rattle.share_core.specs.State.{CoreOpening, unit_lits, unit_numbers, IsCoreOpening, opened}
use Rattle.share_core.specs.Machine.{CoreData, data_of, state_of}
use Rattle.share_core.specs.NextRound.{line_of, numbers_of, IsNextRound, next_opening}
use Rattle.share_core.proofs.Rounding.{told_round, round_room, round_opens, round_fits, entries_from, opened_lines}
use Rattle.share_core.proofs.running.Core.next_round.Goals as goal

-- there are entries for the lines
pub note_lines-requires : goal.note_lines-requires
note_lines-requires c =
    let some = subst (λ (x : CoreData). (E : List Entry) × IsNextRound (state_of x) c.args.lines.now c.args.start.now c.args.units.now c.args.limit E) (sym c.self.view_is) c.requires.opens in
    round_room (state_of (data_of c.self.inside.origin c.self.inside.progress)) c.args.lines.now c.args.start.now c.args.units.now c.args.limit some.0 some.1

pub starts_in-requires : goal.starts_in-requires
starts_in-requires c =
    let d : CoreData = data_of c.self.inside.origin c.self.inside.progress in
    let some = subst (λ (x : CoreData). (E : List Entry) × IsNextRound (state_of x) c.args.lines.now c.args.start.now c.args.units.now c.args.limit E) (sym c.self.view_is) c.requires.opens in
    let added : c.note_lines.new.journal ≡ d.journal ++ some.0 = c.in_ok-note_lines.ensures.entries (numbers_of c.args.start.now) some.0
    (entries_from d.formula c.clauses.result.now d.journal (numbers_of c.args.start.now) c.args.lines.now some.0 c.clauses.ensures some.1.entries) in
    round_fits (state_of d) c.args.lines.now c.args.start.now c.args.units.now c.args.limit some.0 c.in_ok-from_slice.field-0 c.in_ok-from_slice-2.field-0 c.note_lines.new.journal c.push.new.self c.as_slice-3.result.now some.1
    added (c.in_ok-from_slice.ensures ∙ c.as_slice.ensures.value ∙ c.in_ok-kept.ensures) (c.in_ok-from_slice-2.ensures ∙ c.as_slice-2.ensures ∙ c.in_ok-listed.ensures) c.in_ok-push.ensures c.as_slice-3.ensures

-- what is opened
opening : (c : goal.After-len) → CoreOpening
opening c = record { formula = c.self.inside.origin.formula.clauses; rings = c.len.result; depth = c.self.inside.origin.depth; journal = c.push.new.self; starts = c.in_ok-starts.starts; units = unit_lits c.args.units.now; numbers = unit_numbers c.args.units.now; limit = c.args.limit; hinted = c.self.inside.origin.hinted }

opening_is : (c : goal.After-len) (E : List Entry) → IsNextRound (state_of (data_of c.self.inside.origin c.self.inside.progress)) c.args.lines.now c.args.start.now c.args.units.now c.args.limit E
    → opening c ≡ next_opening (state_of (data_of c.self.inside.origin c.self.inside.progress)) E c.args.start.now c.args.units.now c.args.limit
unfolding opening
opening_is c E h =
    let d : CoreData = data_of c.self.inside.origin c.self.inside.progress in
    let added : c.note_lines.new.journal ≡ d.journal ++ E = c.in_ok-note_lines.ensures.entries (numbers_of c.args.start.now) E
    (entries_from d.formula c.clauses.result.now d.journal (numbers_of c.args.start.now) c.args.lines.now E c.clauses.ensures h.entries) in
    round_opens (state_of d) c.args.start.now c.args.units.now c.args.limit E c.len.result c.in_ok-from_slice.field-0 c.in_ok-from_slice-2.field-0 c.note_lines.new.journal c.push.new.self c.as_slice-3.result.now c.clauses-2.result.now c.in_ok-starts.starts
    (c.len.ensures ∙ c.self.inside.progress.rings.ok.0) added (c.in_ok-from_slice.ensures ∙ c.as_slice.ensures.value ∙ c.in_ok-kept.ensures) (c.in_ok-from_slice-2.ensures ∙ c.as_slice-2.ensures ∙ c.in_ok-listed.ensures)
    c.in_ok-push.ensures c.clauses-2.ensures c.as_slice-3.ensures c.in_ok-starts.ensures

some_opening : (c : goal.After-len) → (E : List Entry) × IsNextRound (state_of (data_of c.self.inside.origin c.self.inside.progress)) c.args.lines.now c.args.start.now c.args.units.now c.args.limit E
some_opening c = subst (λ (x : CoreData). (E : List Entry) × IsNextRound (state_of x) c.args.lines.now c.args.start.now c.args.units.now c.args.limit E) (sym c.self.view_is) c.requires.opens

pub opened-requires-clause-opens : goal.opened-requires-clause-opens
unfolding opening
opened-requires-clause-opens c = let some = some_opening c in subst IsCoreOpening (sym (opening_is c some.0 some.1)) some.1.opens

told_all : (c : goal.After-len) → lines (opening c).formula (opening c).journal ≡ lines c.self.inside.origin.formula.clauses c.self.inside.progress.journal ++ map line_of c.args.lines.now
unfolding opening
told_all c =
    let some = some_opening c in
    let d : CoreData = data_of c.self.inside.origin c.self.inside.progress in
    ap (λ (o : CoreOpening). lines o.formula o.journal) (opening_is c some.0 some.1)
    ∙ told_round d.formula (numbers_of c.args.start.now) d.journal c.args.lines.now some.0 (record { starts = numbers_of c.args.start.now; units = unit_lits c.args.units.now }) some.1.entries c.requires.ordered

pub opened-requires-clause-told : goal.opened-requires-clause-told
unfolding opening
opened-requires-clause-told c = c.in_ok-note_lines.ensures.told ∙ ap (λ (L : List Line). L ++ map line_of c.args.lines.now) c.self.invariant.logged ∙ sym (told_all c)

-- once it is opened
end_is : (c : goal.After-drop-origin-5) (E : List Entry) → IsNextRound (state_of (data_of c.self.inside.origin c.self.inside.progress)) c.args.lines.now c.args.start.now c.args.units.now c.args.limit E
    → IfOk c.opened.result (λ core. state_of core ≡ opened (next_opening (state_of (data_of c.self.inside.origin c.self.inside.progress)) E c.args.start.now c.args.units.now c.args.limit))
end_is c E h =
    let d : CoreData = data_of c.self.inside.origin c.self.inside.progress in
    let added : c.note_lines.new.journal ≡ d.journal ++ E = c.in_ok-note_lines.ensures.entries (numbers_of c.args.start.now) E
    (entries_from d.formula c.clauses.result.now d.journal (numbers_of c.args.start.now) c.args.lines.now E c.clauses.ensures h.entries) in
    let is = round_opens (state_of d) c.args.start.now c.args.units.now c.args.limit E c.len.result c.in_ok-from_slice.field-0 c.in_ok-from_slice-2.field-0 c.note_lines.new.journal c.push.new.self c.as_slice-3.result.now c.clauses-2.result.now c.in_ok-starts.starts
    (c.len.ensures ∙ c.self.inside.progress.rings.ok.0) added (c.in_ok-from_slice.ensures ∙ c.as_slice.ensures.value ∙ c.in_ok-kept.ensures) (c.in_ok-from_slice-2.ensures ∙ c.as_slice-2.ensures ∙ c.in_ok-listed.ensures)
    c.in_ok-push.ensures c.clauses-2.ensures c.as_slice-3.ensures c.in_ok-starts.ensures in
    subst (λ (o : CoreOpening). IfOk c.opened.result (λ core. state_of core ≡ opened o)) is c.opened.ensures

pub returns-clause-opened : goal.returns-clause-opened
returns-clause-opened c = subst
    (λ (x : CoreData). (E : List Entry) → IsNextRound (state_of x) c.args.lines.now c.args.start.now c.args.units.now c.args.limit E → IfOk c.opened.result (λ core. state_of core ≡ opened (next_opening (state_of x) E c.args.start.now c.args.units.now c.args.limit)))
    c.self.view_is (end_is c)

pub returns-clause-told : goal.returns-clause-told
returns-clause-told c =
    let d : CoreData = data_of c.self.inside.origin c.self.inside.progress in
    let some = subst (λ (x : CoreData). (E : List Entry) × IsNextRound (state_of x) c.args.lines.now c.args.start.now c.args.units.now c.args.limit E) (sym c.self.view_is) c.requires.opens in
    opened_lines c.opened.result (next_opening (state_of d) some.0 c.args.start.now c.args.units.now c.args.limit) (lines c.args.self.formula c.args.self.journal ++ map line_of c.args.lines.now) (end_is c some.0 some.1)
    (told_round d.formula (numbers_of c.args.start.now) d.journal c.args.lines.now some.0 (record { starts = numbers_of c.args.start.now; units = unit_lits c.args.units.now }) some.1.entries c.requires.ordered
    ∙ ap (λ (x : CoreData). lines x.formula x.journal ++ map line_of c.args.lines.now) c.self.view_is)
