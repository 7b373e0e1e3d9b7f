use Rattle.std.proofs.Common.{◌≡◌, ◌+◌, ap, sym, ◌∙◌, subst, List, Contains}
use Rattle.sat_words.specs.Literal.{Literal}
use Rattle.drat_text.specs.LineState.{LineState}
use Rattle.drat_text.specs.LineOut.{PutLine, deleted_line}
use Rattle.simp_base.specs.WorkState.{WorkState, unit_lits}
use Rattle.simp_base.specs.Calls.{Deleted}
use Rattle.simp_base.proofs.Keeping.{work_deleted, deleted_by, kept_not_put_at}
use Rattle.simp_base.proofs.Held.{held_less}
use Rattle.simp_base.proofs.work.Work.take_clause.Goals as goal

pub unreachable-requires : goal.unreachable-requires
unreachable-requires g c = c.in_default.ensures.none c.requires.alive.0 (subst (λ (w : WorkState). Contains w.clauses (c.args.number, c.requires.alive.0)) (sym c.self.view_is) c.requires.alive.1)

pub invariant_of-self : goal.invariant_of-self
invariant_of-self g c =
    let i = c.self.inside in
    let w : WorkState = record { vars = i.vars; unheld = i.unheld; clauses = i.clauses.clauses; units = unit_lits i.units.items; stack = i.stack; ended = i.ended; output = g.L.LineOut.told i.output } in
    let b = g.L.LineOut.told c.del.new.self in
    let put = c.in-Ok.ensures.put in
    let last : b.last ≡ w.output.last = ap (λ (s : LineState). s.last) put.state in
    let alive : Contains w.clauses (c.args.number, c.requires.alive.0) = subst (λ (s : WorkState). Contains s.clauses (c.args.number, c.requires.alive.0)) (sym c.self.view_is) c.requires.alive.1 in (
      work_deleted w c.self.invariant.0 c.args.number c.requires.alive.0 c.lits.result.now b alive c.requires.alive.2 put c.remove.new.self.clauses c.remove.ensures.clauses,
      c.remove.ensures.next ∙ c.self.invariant.1 ∙ ap (λ n. n + 1) (sym last),
      c.remove.ensures.codes ∙ c.self.invariant.2,
      c.self.invariant.3,
      ap (λ n. n + 1) c.self.invariant.4 ∙ sym (ap (λ (s : LineState). s.entries) put.state),
      held_less w.clauses c.self.invariant.0.numbers c.args.number c.requires.alive.0 alive c.requires.alive.2 c.remove.new.self.clauses c.remove.ensures.clauses i.units.items c.self.invariant.5,
    )

pub returns-in-Ok-clause-work : goal.returns-in-Ok-clause-work
returns-in-Ok-clause-work g c = (invariant_of-self g c).0

pub returns-in-Ok-clause-deleted : goal.returns-in-Ok-clause-deleted
returns-in-Ok-clause-deleted g c =
    let i = c.self.inside in
    let w : WorkState = record { vars = i.vars; unheld = i.unheld; clauses = i.clauses.clauses; units = unit_lits i.units.items; stack = i.stack; ended = i.ended; output = g.L.LineOut.told i.output } in
    let b = g.L.LineOut.told c.del.new.self in
    let clause = c.in-Some.clause.now in
    let put : PutLine w.output b (deleted_line w.output c.args.number clause) = subst (λ (x : List Literal). PutLine w.output b (deleted_line w.output c.args.number x)) c.lits.ensures.value c.in-Ok.ensures.put in
    subst (λ s. Deleted s (record w { clauses = c.remove.new.self.clauses; output = b }) c.args.number) c.self.view_is
    (deleted_by w c.self.invariant.0 c.args.number clause c.in-Some.ensures.some c.remove.new.self.clauses c.remove.ensures.clauses b put)

pub invariant_of-self-in-Err : goal.invariant_of-self-in-Err
invariant_of-self-in-Err g c =
    let i = c.self.inside in
    let w : WorkState = record { vars = i.vars; unheld = i.unheld; clauses = i.clauses.clauses; units = unit_lits i.units.items; stack = i.stack; ended = i.ended; output = g.L.LineOut.told i.output } in
    let b = g.L.LineOut.told c.del.new.self in
    let kept = kept_not_put_at w b (deleted_line w.output c.args.number c.lits.result.now) c.in-Err.stop c.self.invariant.0 c.in-Err.ensures.put in (
      kept.0,
      c.self.invariant.1 ∙ ap (λ n. n + 1) (sym kept.1),
      c.self.invariant.2,
      c.self.invariant.3,
      c.self.invariant.4 ∙ sym kept.2,
      c.self.invariant.5,
    )

pub returns-in-Err-clause-work : goal.returns-in-Err-clause-work
returns-in-Err-clause-work g c = (invariant_of-self-in-Err g c).0
