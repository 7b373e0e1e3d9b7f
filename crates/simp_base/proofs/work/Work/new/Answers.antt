use Rattle.std.proofs.Common.{◌≡◌, sym, subst, arith, false, []}
use Rattle.drat_text.specs.LineState.{LineState}
use Rattle.simp_base.specs.WorkState.{WorkState, IsWork, AreHeld, begun, unit_lits}
use Rattle.simp_base.specs.Log.{Stands}
use Rattle.simp_base.proofs.Begin.{begun_work, begun_stands}
use Rattle.simp_base.proofs.work.Work.new.Goals as goal

pub invariant_of-result : goal.invariant_of-result
invariant_of-result g c =
    let F = c.args.formula.now in
    let out : LineState = g.L.LineOut.told c.args.output in
    let w : WorkState = record { vars = c.vars-2.result; unheld = 0; clauses = c.in-Ok.clauses.clauses; units = unit_lits c.in-Ok-new.units.items; stack = c.new-3.result; ended = false; output = out } in
    let e : begun F out ≡ w = sym (λ i. record { vars = c.vars-2.ensures i; unheld = 0; clauses = c.in-Ok.ensures.clauses i; units = unit_lits (c.in-Ok-new.ensures.items i); stack = c.new-3.ensures i; ended = false; output = out }) in (
      subst IsWork e (begun_work F out c.requires.last c.requires.on),
      omega (arith, c.in-Ok.ensures.next, c.requires.last),
      omega (arith, c.in-Ok.ensures.codes, c.vars-2.ensures),
      omega (arith, c.in-Ok-new.ensures.codes, c.vars.ensures, c.vars-2.ensures),
      sym c.requires.blank,
      subst (AreHeld c.in-Ok.clauses.clauses) (sym c.in-Ok-new.ensures.items) (λ k d lt. absurd (omega arith)),
    )

pub returns-clause-work : goal.returns-clause-work
returns-clause-work g c = (invariant_of-result g c).0

pub returns-clause-stands : goal.returns-clause-stands
returns-clause-stands g c =
    let F = c.args.formula.now in
    let out : LineState = g.L.LineOut.told c.args.output in
    let w : WorkState = record { vars = c.vars-2.result; unheld = 0; clauses = c.in-Ok.clauses.clauses; units = unit_lits c.in-Ok-new.units.items; stack = c.new-3.result; ended = false; output = out } in
    let e : begun F out ≡ w = sym (λ i. record { vars = c.vars-2.ensures i; unheld = 0; clauses = c.in-Ok.ensures.clauses i; units = unit_lits (c.in-Ok-new.ensures.items i); stack = c.new-3.ensures i; ended = false; output = out }) in
    subst (Stands (record { formula = F.clauses; journal = []; output = out }) []) e (begun_stands F out c.requires.unspent c.requires.blank c.requires.last)
