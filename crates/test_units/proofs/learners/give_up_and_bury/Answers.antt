use Rattle.std.proofs.Common.{◌≡◌, ◌∙◌, ℕ, ◌<◌, List, sym, ap, subst}
use Rattle.std.specs.Prelude.{slice_index_or}
use Rattle.share_core.specs.declared.stored.ClauseAt.{ClauseAt}
use Rattle.share_core.specs.State.{times_at}
use Rattle.share_rule.specs.declared.view.RingPart.{RingPart}
use Rattle.share_rule.specs.declared.view.View.{View}
use Rattle.share_rule.specs.Views.{only, no_part, clause_in, clause_of}
use Rattle.share_rule.specs.Steps.{after_drop}
use Rattle.test_units.proofs.Burying.{taken_core, one_waits, dropped_waits, held_there}
use Rattle.test_units.proofs.Giving.{buried, not_buried}
use Rattle.test_units.proofs.learners.give_up_and_bury.Goals as goal

pub bury-requires-clause-note : goal.bury-requires-clause-note
bury-requires-clause-note g c =
    let a : ℕ = c.args.cell.address in
    let v : View = c.read_pair.new.ring.pass.me.0 in
    let w : View = c.drop_count.new.pass.me.0 in
    let same : only v ≡ only c.args.ring.now.pass.me.0 = ap (λ (ps : List RingPart). slice_index_or ps 0 no_part) c.read_pair.ensures.same.1 in
    let p = c.in-Last.ensures.part in
    let d = dropped_waits v w a c.read_pair.ensures.ring.one (ap (λ (q : RingPart). q.core.waiting) same ∙ c.requires.none) (p.1 ∙ ap (λ (n : ℕ). after_drop a n v) p.2) in
    let k = taken_core g.S.Sink.written g.S.Sink.flushed g.S.Sink.target g.S.Sink.faults w c.take_turn-turn.new.pass.me.0 c.take_turn-turn.result d.1 c.take_turn-turn.ensures.turn in
    let there = held_there v a (subst (λ (q : RingPart). 0 < times_at a q.core.held) (sym same) c.requires.held) in
    subst (λ (hs : List ClauseAt). 0 < times_at a hs) (sym (ap (λ q. q.waiting) k ∙ d.0)) (one_waits a (clause_of a v) there).0

pub bury-requires-clause-number : goal.bury-requires-clause-number
bury-requires-clause-number g c =
    let a : ℕ = c.args.cell.address in
    let v : View = c.read_pair.new.ring.pass.me.0 in
    let w : View = c.drop_count.new.pass.me.0 in
    let same : only v ≡ only c.args.ring.now.pass.me.0 = ap (λ (ps : List RingPart). slice_index_or ps 0 no_part) c.read_pair.ensures.same.1 in
    let p = c.in-Last.ensures.part in
    let d = dropped_waits v w a c.read_pair.ensures.ring.one (ap (λ (q : RingPart). q.core.waiting) same ∙ c.requires.none) (p.1 ∙ ap (λ (n : ℕ). after_drop a n v) p.2) in
    let k = taken_core g.S.Sink.written g.S.Sink.flushed g.S.Sink.target g.S.Sink.faults w c.take_turn-turn.new.pass.me.0 c.take_turn-turn.result d.1 c.take_turn-turn.ensures.turn in
    let there = held_there v a (subst (λ (q : RingPart). 0 < times_at a q.core.held) (sym same) c.requires.held) in
    c.in-Some.ensures.number
    ∙ sym (ap (λ (hs : List ClauseAt). (clause_in a hs).number) (ap (λ q. q.waiting) k ∙ d.0) ∙ ap (λ (h : ClauseAt). h.number) (one_waits a (clause_of a v) there).1 ∙ ap (λ (q : RingPart). (clause_in a q.core.held).number) same)

pub bury-requires-clause-clause : goal.bury-requires-clause-clause
bury-requires-clause-clause g c =
    let a : ℕ = c.args.cell.address in
    let v : View = c.read_pair.new.ring.pass.me.0 in
    let w : View = c.drop_count.new.pass.me.0 in
    let same : only v ≡ only c.args.ring.now.pass.me.0 = ap (λ (ps : List RingPart). slice_index_or ps 0 no_part) c.read_pair.ensures.same.1 in
    let p = c.in-Last.ensures.part in
    let d = dropped_waits v w a c.read_pair.ensures.ring.one (ap (λ (q : RingPart). q.core.waiting) same ∙ c.requires.none) (p.1 ∙ ap (λ (n : ℕ). after_drop a n v) p.2) in
    let k = taken_core g.S.Sink.written g.S.Sink.flushed g.S.Sink.target g.S.Sink.faults w c.take_turn-turn.new.pass.me.0 c.take_turn-turn.result d.1 c.take_turn-turn.ensures.turn in
    let there = held_there v a (subst (λ (q : RingPart). 0 < times_at a q.core.held) (sym same) c.requires.held) in
    c.as_slice.ensures ∙ c.in-Some.ensures.lits
    ∙ sym (ap (λ (hs : List ClauseAt). (clause_in a hs).lits) (ap (λ q. q.waiting) k ∙ d.0) ∙ ap (λ (h : ClauseAt). h.lits) (one_waits a (clause_of a v) there).1 ∙ ap (λ (q : RingPart). (clause_in a q.core.held).lits) same)

pub returns-in-Ok-clause-deleted : goal.returns-in-Ok-clause-deleted
returns-in-Ok-clause-deleted g c =
    let a : ℕ = c.args.cell.address in
    let v : View = c.read_pair.new.ring.pass.me.0 in
    let p = c.in-Last.ensures.part in
    let k = c.take_turn-turn.ensures.turn in
    buried g.S.Sink.written g.S.Sink.flushed g.S.Sink.target g.S.Sink.faults c.args.ring.now.pass.me.0 v c.drop_count.new.pass.me.0 c.take_turn-turn.new.pass.me.0 c.give_turn.new.pass.me.0 c.take_turn-turn.result c.bury.new.self _ a
    (ap (λ (ps : List RingPart). slice_index_or ps 0 no_part) c.read_pair.ensures.same.1) c.read_pair.ensures.ring.one c.requires.none c.requires.held (p.1 ∙ ap (λ (n : ℕ). after_drop a n v) p.2) k c.in-Ok.ensures.added.noted k.taken.turn.writing.0 c.give_turn.ensures.turn

pub returns-in-Err-clause-deleted : goal.returns-in-Err-clause-deleted
returns-in-Err-clause-deleted g c =
    let a : ℕ = c.args.cell.address in
    let v : View = c.read_pair.new.ring.pass.me.0 in
    let p = c.in-Last.ensures.part in
    let k = c.take_turn-turn.ensures.turn in
    not_buried g.S.Sink.written g.S.Sink.flushed g.S.Sink.target g.S.Sink.faults c.args.ring.now.pass.me.0 v c.drop_count.new.pass.me.0 c.take_turn-turn.new.pass.me.0 c.give_turn-in-Err.new.pass.me.0 c.take_turn-turn.result c.bury.new.self _ a p.0
    (ap (λ (ps : List RingPart). slice_index_or ps 0 no_part) c.read_pair.ensures.same.1) c.read_pair.ensures.ring.one p.1 k c.in-Err.ensures.stopped.noted k.taken.turn.writing.0 c.give_turn-in-Err.ensures.turn
