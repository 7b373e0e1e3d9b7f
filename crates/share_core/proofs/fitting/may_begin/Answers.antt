use Rattle.std.proofs.Common.{◌≡◌, ◌∙◌, ◌+◌, ◌∷◌, [], ◌<◌, ◌^◌, ◌≤◌, ◌==◌, ◌&&◌, List, length, map, true, false, true≢false, sym, ap, subst, arith, length-append}
use Rattle.std.specs.List.{list_any, list_all}
use Rattle.sat_words.specs.declared.shared.TheConstants.{MAX_ENTRIES}
use Rattle.sat_words.specs.Literal.{Literal}
use Rattle.sat_words.specs.Clause.{distinct_lits, is_empty}
use Rattle.rup_model.specs.declared.journal.Entry.{Entry}
use Rattle.rup_model.specs.declared.journal.Entry.TheVariants.{Round}
use Rattle.rup_model.specs.Journal.{book, added, is_told}
use Rattle.share_core.specs.declared.ring.RingState.{RingState}
use Rattle.share_core.specs.State.{unit_lits, unit_numbers, ArePaired}
use Rattle.share_core.specs.Machine.{CoreData, data_of, adds}
use Rattle.share_core.specs.NextRound.{start_in, may_start, stand_apart}
use Rattle.share_core.proofs.Scans.{any_added}
use Rattle.share_core.proofs.RoundFitting.{may_fit, deleted_room}
use Rattle.share_core.proofs.RoundPassing.{FitAfter, Passes, passes, deletions_read, fits_read}
use Rattle.share_core.proofs.fitting.may_begin.Goals as goal
use Rattle.share_core.proofs.fitting.may_begin.Goals.{then-not-is_still-via-then-not-is_still, then-not-is_still-via-else-not-is_still+then-some_adds_empty, then-not-is_still-via-else-not-is_still+else-some_adds_empty+then-limit, then-not-is_still-via-else-not-is_still+else-some_adds_empty+else-limit+then-len-ge-MAX_ENTRIES, then-not-is_still-via-else-not-is_still+else-some_adds_empty+else-limit+else-len-ge-MAX_ENTRIES+then-lines-len}

pub starts_in-requires : goal.starts_in-requires
starts_in-requires c =
    let h = c.in_ok-note_deletions.ensures.noted c.if-not-branch.false in
    let n = deleted_room c.clauses-clauses.result.now c.in_ok-journal.journal c.as_slice-2.result.now c.args.lines.now c.note_deletions.new.journal h in
    let s = ap length c.as_slice-5.ensures in
    let p = ap length c.in_ok-push.ensures in
    let l = length-append c.note_deletions.new.journal (Round (record { starts = c.in_ok-from_slice.field-0; units = c.in_ok-from_slice-2.field-0 }) ∷ []) in
    let a = c.len.ensures in
    let b = c.len-else-len-ge-MAX_ENTRIES.ensures in
    let few = c.if-len-ge-MAX_ENTRIES.false in
    let less = c.if-lines-len.false in omega arith

pub are_paired-requires : goal.are_paired-requires
are_paired-requires c =
    let h = c.in_ok-note_deletions.ensures.noted c.if-not-branch.false in
    let n = deleted_room c.clauses-clauses.result.now c.in_ok-journal.journal c.as_slice-2.result.now c.args.lines.now c.note_deletions.new.journal h in
    let s = ap length c.as_slice-6.ensures in
    let p = ap length c.in_ok-push.ensures in
    let l = length-append c.note_deletions.new.journal (Round (record { starts = c.in_ok-from_slice.field-0; units = c.in_ok-from_slice-2.field-0 }) ∷ []) in
    let a = c.len.ensures in
    let b = c.len-else-len-ge-MAX_ENTRIES.ensures in
    let few = c.if-len-ge-MAX_ENTRIES.false in
    let less = c.if-lines-len.false in omega arith

pub returns-clause-sound : goal.returns-clause-sound
returns-clause-sound c all =
    let d : CoreData = data_of c.args.origin.now c.args.progress.now in
    let G : List (List Literal) = c.clauses-clauses.result.now in
    let M : List Entry = c.push.new.self in
    let still : list_all (λ (x : RingState). length x.making == 0) d.rings ≡ true = ap (list_all (λ (x : RingState). length x.making == 0)) (sym c.as_slice.ensures.value) ∙ sym c.is_still.ensures ∙ c.if-not-is_still.false in
    let journal : c.as_slice-else-not-is_still.result.now ≡ d.journal = c.as_slice-else-not-is_still.ensures ∙ c.in_ok-journal.ensures in
    let going : list_any is_empty (added d.journal) ≡ false = any_added is_empty d.journal ∙ ap (list_any (adds is_empty)) (sym journal) ∙ sym c.some_adds_empty.ensures ∙ c.if-some_adds_empty.false in
    let few : c.args.limit ≤ 2 ^ 63 = (let x = c.if-limit.false in omega arith) in
    let same = ap length c.in_ok-journal.ensures in
    let a = c.len.ensures in
    let b = c.len-else-len-ge-MAX_ENTRIES.ensures in
    let some = c.if-len-ge-MAX_ENTRIES.false in
    let less = c.if-lines-len.false in
    let small : length d.journal + length c.args.lines.now < MAX_ENTRIES = omega arith in
    let listed : c.in_ok-listed.listed ≡ unit_lits c.args.units.now = c.in_ok-listed.ensures in
    let fits : (list_all may_start c.in_ok-starts.starts && (stand_apart c.in_ok-starts.starts && (list_all (is_told G M) (unit_lits c.args.units.now) && distinct_lits (unit_lits c.args.units.now)))) ≡ true =
    (λ j. list_all may_start (sym c.as_slice-8.ensures j) && (stand_apart (sym c.as_slice-8.ensures j) && (list_all (is_told G (sym c.as_slice-7.ensures j)) (sym (c.as_slice-9.ensures ∙ listed) j) && distinct_lits (sym (c.as_slice-9.ensures ∙ listed) j))))
    ∙ sym c.all_fit.ensures ∙ all in
    let pairs : ArePaired (book G M) (unit_lits c.args.units.now) (unit_numbers c.args.units.now) =
    subst (λ (N : List Entry). ArePaired (book G N) (unit_lits c.args.units.now) (unit_numbers c.args.units.now)) c.as_slice-6.ensures (c.in_ok-are_paired.ensures.paired c.if-not-branch-2.false) in
    may_fit d c.args.lines.now c.args.start.now c.args.units.now c.args.limit G c.in_ok-journal.journal c.note_deletions.new.journal M c.as_slice-2.result.now c.in_ok-from_slice.field-0 c.in_ok-from_slice-2.field-0 c.in_ok-starts.starts c.requires
    still going few small c.clauses-clauses.ensures c.in_ok-journal.ensures (c.as_slice-2.ensures.value ∙ c.in_ok-kept.ensures) (c.in_ok-note_deletions.ensures.noted c.if-not-branch.false)
    (c.in_ok-from_slice.ensures ∙ c.as_slice-3.ensures.value ∙ c.in_ok-kept.ensures) (c.in_ok-from_slice-2.ensures ∙ c.as_slice-4.ensures ∙ listed) c.in_ok-push.ensures
    (c.in_ok-starts.ensures ∙ ap (λ (N : List Entry). map (start_in (book G N)) c.args.start.now) c.as_slice-5.ensures) fits pairs

pub returns-clause-deletions : goal.returns-clause-deletions
returns-clause-deletions c _ = (c.in_ok-note_deletions.ensures.noted c.if-not-branch.false).only

pub returns-then-not-is_still-clause-each : goal.returns-then-not-is_still-clause-each
returns-then-not-is_still-clause-each c only may =
    let d : CoreData = data_of c.args.origin.now c.args.progress.now in
    let p : Passes d c.args.lines.now c.args.start.now c.args.units.now c.args.limit = passes d c.args.lines.now c.args.start.now c.args.units.now c.args.limit c.requires only may in
    let few = p.few in
    let small = p.small in
    let same = ap length c.in_ok-journal.ensures in
    elim c.then-not-is_still.branch [
      | then-not-is_still-via-then-not-is_still w ↦ absurd (true≢false (sym p.still ∙ ap (list_all (λ (x : RingState). length x.making == 0)) (sym c.as_slice.ensures.value) ∙ sym c.is_still.ensures ∙ w.if-not-is_still.true))
      | then-not-is_still-via-else-not-is_still+then-some_adds_empty w ↦
          absurd (true≢false (sym w.if-some_adds_empty.true ∙ w.some_adds_empty.ensures ∙ ap (list_any (adds is_empty)) (w.as_slice-else-not-is_still.ensures ∙ c.in_ok-journal.ensures) ∙ sym (any_added is_empty d.journal) ∙ p.going))
      | then-not-is_still-via-else-not-is_still+else-some_adds_empty+then-limit w ↦ absurd (let x = w.if-limit.true in omega arith)
      | then-not-is_still-via-else-not-is_still+else-some_adds_empty+else-limit+then-len-ge-MAX_ENTRIES w ↦ absurd (let a = w.len.ensures in let x = w.if-len-ge-MAX_ENTRIES.true in omega arith)
      | then-not-is_still-via-else-not-is_still+else-some_adds_empty+else-limit+else-len-ge-MAX_ENTRIES+then-lines-len w ↦
          absurd (let a = w.len.ensures in let b = w.len-else-len-ge-MAX_ENTRIES.ensures in let some = w.if-len-ge-MAX_ENTRIES.false in let x = w.if-lines-len.true in omega arith)
    ]

pub returns-then-not-branch-clause-each : goal.returns-then-not-branch-clause-each
returns-then-not-branch-clause-each c only may =
    let d : CoreData = data_of c.args.origin.now c.args.progress.now in
    let p : Passes d c.args.lines.now c.args.start.now c.args.units.now c.args.limit = passes d c.args.lines.now c.args.start.now c.args.units.now c.args.limit c.requires only may in
    let all = deletions_read d c.args.lines.now c.args.start.now c.args.units.now c.args.limit c.clauses-clauses.result.now c.in_ok-journal.journal c.as_slice-2.result.now p c.clauses-clauses.ensures c.in_ok-journal.ensures (c.as_slice-2.ensures.value ∙ c.in_ok-kept.ensures) in
    absurd (true≢false (sym (c.in_ok-note_deletions.ensures.each all) ∙ c.if-not-branch.true))

pub returns-then-not-branch-2-clause-each : goal.returns-then-not-branch-2-clause-each
returns-then-not-branch-2-clause-each c only may =
    let d : CoreData = data_of c.args.origin.now c.args.progress.now in
    let G : List (List Literal) = c.clauses-clauses.result.now in
    let M : List Entry = c.push.new.self in
    let p : Passes d c.args.lines.now c.args.start.now c.args.units.now c.args.limit = passes d c.args.lines.now c.args.start.now c.args.units.now c.args.limit c.requires only may in
    let fit : FitAfter G M c.in_ok-starts.starts c.args.units.now = fits_read d c.args.lines.now c.args.start.now c.args.units.now c.args.limit G c.in_ok-journal.journal c.note_deletions.new.journal M c.as_slice-2.result.now c.in_ok-from_slice.field-0 c.in_ok-from_slice-2.field-0 c.in_ok-starts.starts p
    c.clauses-clauses.ensures c.in_ok-journal.ensures (c.as_slice-2.ensures.value ∙ c.in_ok-kept.ensures) (c.in_ok-note_deletions.ensures.noted c.if-not-branch.false)
    (c.in_ok-from_slice.ensures ∙ c.as_slice-3.ensures.value ∙ c.in_ok-kept.ensures) (c.in_ok-from_slice-2.ensures ∙ c.as_slice-4.ensures ∙ c.in_ok-listed.ensures) c.in_ok-push.ensures
    (c.in_ok-starts.ensures ∙ ap (λ (N : List Entry). map (start_in (book G N)) c.args.start.now) c.as_slice-5.ensures) in
    let pairs = subst (λ (N : List Entry). ArePaired (book G N) (unit_lits c.args.units.now) (unit_numbers c.args.units.now)) (sym c.as_slice-6.ensures) fit.1 in
    absurd (true≢false (sym (c.in_ok-are_paired.ensures.each pairs) ∙ c.if-not-branch-2.true))

pub returns-clause-each : goal.returns-clause-each
returns-clause-each c only may =
    let d : CoreData = data_of c.args.origin.now c.args.progress.now in
    let G : List (List Literal) = c.clauses-clauses.result.now in
    let M : List Entry = c.push.new.self in
    let p : Passes d c.args.lines.now c.args.start.now c.args.units.now c.args.limit = passes d c.args.lines.now c.args.start.now c.args.units.now c.args.limit c.requires only may in
    let listed : c.in_ok-listed.listed ≡ unit_lits c.args.units.now = c.in_ok-listed.ensures in
    let fit : FitAfter G M c.in_ok-starts.starts c.args.units.now = fits_read d c.args.lines.now c.args.start.now c.args.units.now c.args.limit G c.in_ok-journal.journal c.note_deletions.new.journal M c.as_slice-2.result.now c.in_ok-from_slice.field-0 c.in_ok-from_slice-2.field-0 c.in_ok-starts.starts p
    c.clauses-clauses.ensures c.in_ok-journal.ensures (c.as_slice-2.ensures.value ∙ c.in_ok-kept.ensures) (c.in_ok-note_deletions.ensures.noted c.if-not-branch.false)
    (c.in_ok-from_slice.ensures ∙ c.as_slice-3.ensures.value ∙ c.in_ok-kept.ensures) (c.in_ok-from_slice-2.ensures ∙ c.as_slice-4.ensures ∙ listed) c.in_ok-push.ensures
    (c.in_ok-starts.ensures ∙ ap (λ (N : List Entry). map (start_in (book G N)) c.args.start.now) c.as_slice-5.ensures) in
    c.all_fit.ensures
    ∙ (λ j. list_all may_start (c.as_slice-8.ensures j) && (stand_apart (c.as_slice-8.ensures j) && (list_all (is_told G (c.as_slice-7.ensures j)) ((c.as_slice-9.ensures ∙ listed) j) && distinct_lits ((c.as_slice-9.ensures ∙ listed) j))))
    ∙ fit.0
