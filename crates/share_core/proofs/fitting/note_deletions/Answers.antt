use Rattle.std.proofs.Common.{◌≡◌, ◌∙◌, ◌++◌, ◌∷◌, [], List, Option, None, Some, ℕ, IfSome, length, take, sym, ap, subst, arith}
use Rattle.std.proofs.lemmas.List.{take_all, take_more, length-take-le}
use Rattle.share_core.specs.declared.round_line.RoundLine.{RoundLine}
use Rattle.rup_model.specs.declared.journal.Entry.{Entry}
use Rattle.rup_model.specs.Journal.{book}
use Rattle.share_core.specs.NextRound.{IsDeletion, AreDeleted}
use Rattle.share_core.proofs.RoundFitting.{deleted_none, deleted_more, deleted_room}
use Rattle.share_core.proofs.RoundPassing.{deletion_at}
use Rattle.share_core.proofs.fitting.note_deletions.Goals as goal

pub loop-line-init : goal.loop-line-init
loop-line-init c = deleted_none c.args.clauses.now c.args.journal.now c.args.kept.now

pub deleted_by-requires : goal.deleted_by-requires
deleted_by-requires c =
    let n = deleted_room c.args.clauses.now c.args.journal.now c.args.kept.now (take c.loop-line.line-index c.args.lines.now) c.loop-line.journal c.loop-line.invariant in
    let t = length-take-le c.loop-line.line-index c.args.lines.now c.loop-line.auto.line-index-end in
    let e = ap length c.as_slice.ensures in
    let r = c.requires in
    let b = c.loop-line-test.true in omega arith

pub loop-line-preserved : goal.loop-line-preserved
loop-line-preserved c =
    let F = c.args.clauses.now in
    let i = c.loop-line.line-index in
    let J = c.args.journal.now in
    let own : IsDeletion (book F c.as_slice.result.now) c.args.kept.now c.line-item.result c.in-Some.number =
    subst (λ (o : Option ℕ). IfSome o (λ n. IsDeletion (book F c.as_slice.result.now) c.args.kept.now c.line-item.result n)) c.in-Some.is c.in_ok-number.ensures.found in
    let here : IsDeletion (book F c.loop-line.journal) c.args.kept.now c.line-item.result c.in-Some.number =
    subst (λ (K : List Entry). IsDeletion (book F K) c.args.kept.now c.line-item.result c.in-Some.number) c.as_slice.ensures own in
    let more = deleted_more F J c.args.kept.now (take i c.args.lines.now) c.loop-line.journal c.line-item.result c.in-Some.number c.loop-line.invariant here in
    let next = take_more c.args.lines.now i c.line-item.result c.loop-line-test.true ∙ ap (λ (l : RoundLine). take i c.args.lines.now ++ l ∷ []) (sym c.line-item.is) in
    subst (λ (L : List RoundLine). AreDeleted F J c.args.kept.now L c.push.new.self) (sym next)
    (subst (AreDeleted F J c.args.kept.now (take i c.args.lines.now ++ c.line-item.result ∷ [])) (sym c.in_ok-push.ensures) more)

pub returns-in_default-clause-each : goal.returns-in_default-clause-each
returns-in_default-clause-each c all =
    let F = c.args.clauses.now in
    let J = c.args.journal.now in
    let at = deletion_at F J c.args.kept.now c.args.lines.now c.loop-line.line-index c.line-item.result c.loop-line.invariant.entries all c.loop-line.invariant.are c.loop-line-test.true in
    let here : IsDeletion (book F c.as_slice.result.now) c.args.kept.now c.line-item.result at.0 =
    subst (λ (K : List Entry). IsDeletion (book F K) c.args.kept.now c.line-item.result at.0) (sym (c.as_slice.ensures ∙ c.loop-line.invariant.grows))
    (subst (λ (l : RoundLine). IsDeletion (book F (J ++ c.loop-line.invariant.entries)) c.args.kept.now l at.0) (sym c.line-item.is) at.1) in
    let none : None ≡ Some at.0 = sym c.in_default.is ∙ c.in_ok-number.ensures.each at.0 here in absurd (cc)

pub returns-clause-noted : goal.returns-clause-noted
returns-clause-noted c _ = subst (λ (L : List RoundLine). AreDeleted c.args.clauses.now c.args.journal.now c.args.kept.now L c.loop-line.journal) (take_all c.loop-line.line-index c.args.lines.now c.loop-line-test.false) c.loop-line.invariant
