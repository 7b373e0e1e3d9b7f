use Rattle.std.proofs.Common.{◌≡◌, ◌||◌, ◌∙◌, Bool, List, not, true, false, sym, ap}
use Rattle.std.specs.List.{list_any}
use Rattle.sat_words.specs.Clause.{includes}
use Rattle.rup_model.specs.declared.journal.Entry.{Entry}
use Rattle.rup_model.specs.Journal.{recent}
use Rattle.share_core.specs.declared.stored.ClauseAt.{ClauseAt}
use Rattle.share_core.specs.State.{later, State}
use Rattle.share_core.specs.Machine.{data_of, state_of}
use Rattle.share_core.proofs.Scans.{learn_parts}
use Rattle.share_core.proofs.progress.Progress.is_fresh.Goals as goal

pub returns-then-not-includes_some : goal.returns-then-not-includes_some
returns-then-not-includes_some c =
    let d : State = state_of (data_of c.args.origin.now c.args.self.now) in
    let starts : list_any (λ (h : ClauseAt). includes c.args.lits.now h.lits) c.args.origin.now.starts ≡ false = ap (list_any (λ (h : ClauseAt). includes c.args.lits.now h.lits)) (sym c.as_slice.ensures) ∙ sym c.includes_some.ensures ∙ c.if-not-includes_some.true in
    ap not (c.repeats_recent.ensures ∙ ap (λ (J : List Entry). list_any (includes c.args.lits.now) (recent c.args.ring J)) c.later.ensures)
    ∙ sym (learn_parts d.opening d.journal (d.part c.args.ring) c.args.ring c.args.lits.now ∙ ap (λ (b : Bool). not (b || list_any (includes c.args.lits.now) (recent c.args.ring (later d.opening d.journal)))) starts)

pub returns-else-not-includes_some : goal.returns-else-not-includes_some
returns-else-not-includes_some c =
    let d : State = state_of (data_of c.args.origin.now c.args.self.now) in
    let starts : list_any (λ (h : ClauseAt). includes c.args.lits.now h.lits) c.args.origin.now.starts ≡ true = ap (list_any (λ (h : ClauseAt). includes c.args.lits.now h.lits)) (sym c.as_slice.ensures) ∙ sym c.includes_some.ensures ∙ c.if-not-includes_some.false in
    ap not c.if-not-includes_some.false
    ∙ sym (learn_parts d.opening d.journal (d.part c.args.ring) c.args.ring c.args.lits.now ∙ ap (λ (b : Bool). not (b || list_any (includes c.args.lits.now) (recent c.args.ring (later d.opening d.journal)))) starts)
