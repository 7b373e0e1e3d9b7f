use Rattle.std.proofs.Common.{◌≡◌, ◌∙◌, ℕ, sym, subst, arith, false, [], List}
use Rattle.std.specs.List.{All}
use Rattle.sat_words.specs.Literal.{Literal, IsOn}
use Rattle.drat_text.specs.LineState.{LineState}
use Rattle.simp_base.specs.WorkState.{WorkState, IsWork, AreHeld, resumed, unit_lits}
use Rattle.simp_base.specs.Log.{Stands}
use Rattle.simp_base.proofs.Held.{of_lits}
use Rattle.simp_base.proofs.Resuming.{resumed_work, resumed_stands}
use Rattle.simp_base.proofs.work.Work.again.Goals as goal

pub table_over-requires-clause-given : goal.table_over-requires-clause-given
table_over-requires-clause-given g c =
    let out : LineState = g.L.LineOut.told c.args.output in
    let kept = resumed_work c.args.formula.now.clauses c.args.vars c.args.clauses.items c.args.units.items c.args.stack out c.requires.resumes.0 c.requires.resumes.1 in
    λ k d lt. (let le = kept.given k d lt in let last = c.requires.last in omega arith)

pub table_over-requires-clause-on : goal.table_over-requires-clause-on
table_over-requires-clause-on g c =
    let out : LineState = g.L.LineOut.told c.args.output in
    (resumed_work c.args.formula.now.clauses c.args.vars c.args.clauses.items c.args.units.items c.args.stack out c.requires.resumes.0 c.requires.resumes.1).clauses_on

pub over-requires : goal.over-requires
over-requires g c =
    let out : LineState = g.L.LineOut.told c.args.output in
    subst (λ (us : List (Literal × ℕ)). All (λ u. IsOn c.args.vars u.0) us) (sym c.as_slice.ensures.value)
    (of_lits (IsOn c.args.vars) c.args.units.items (resumed_work c.args.formula.now.clauses c.args.vars c.args.clauses.items c.args.units.items c.args.stack out c.requires.resumes.0 c.requires.resumes.1).units_on)

pub invariant_of-result : goal.invariant_of-result
invariant_of-result g c =
    let out : LineState = g.L.LineOut.told c.args.output in
    let w : WorkState = record { vars = c.args.vars; unheld = c.args.vars; clauses = c.in-Ok.clauses.clauses; units = unit_lits c.in-Ok-over.units.items; stack = c.args.stack; ended = false; output = out } in
    let e : resumed c.args.vars c.args.clauses.items c.args.units.items c.args.stack out ≡ w =
    sym (λ i. record { vars = c.args.vars; unheld = c.args.vars; clauses = c.in-Ok.ensures.clauses i; units = unit_lits ((c.in-Ok-over.ensures.items ∙ c.as_slice.ensures.value) i); stack = c.args.stack; ended = false; output = out }) in (
      subst IsWork e (resumed_work c.args.formula.now.clauses c.args.vars c.args.clauses.items c.args.units.items c.args.stack out c.requires.resumes.0 c.requires.resumes.1),
      omega (arith, c.in-Ok.ensures.next, c.requires.last),
      c.in-Ok.ensures.codes,
      c.in-Ok-over.ensures.codes,
      c.requires.entries,
      subst (λ (s : List (ℕ × List Literal) × List (Literal × ℕ)). AreHeld s.0 s.1) (λ k. (sym c.in-Ok.ensures.clauses k, sym (c.in-Ok-over.ensures.items ∙ c.as_slice.ensures.value) k)) c.requires.resumes.1.units_held,
    )

pub returns-clause-work : goal.returns-clause-work
returns-clause-work g c =
    let out : LineState = g.L.LineOut.told c.args.output in
    let w : WorkState = record { vars = c.args.vars; unheld = c.args.vars; clauses = c.in-Ok.clauses.clauses; units = unit_lits c.in-Ok-over.units.items; stack = c.args.stack; ended = false; output = out } in
    let e : resumed c.args.vars c.args.clauses.items c.args.units.items c.args.stack out ≡ w =
    sym (λ i. record { vars = c.args.vars; unheld = c.args.vars; clauses = c.in-Ok.ensures.clauses i; units = unit_lits ((c.in-Ok-over.ensures.items ∙ c.as_slice.ensures.value) i); stack = c.args.stack; ended = false; output = out }) in
    subst IsWork e (resumed_work c.args.formula.now.clauses c.args.vars c.args.clauses.items c.args.units.items c.args.stack out c.requires.resumes.0 c.requires.resumes.1)

pub returns-clause-stands : goal.returns-clause-stands
returns-clause-stands g c = λ J r. (
    let F = c.args.formula.now.clauses in
    let out : LineState = g.L.LineOut.told c.args.output in
    let w : WorkState = record { vars = c.args.vars; unheld = c.args.vars; clauses = c.in-Ok.clauses.clauses; units = unit_lits c.in-Ok-over.units.items; stack = c.args.stack; ended = false; output = out } in
    let e : resumed c.args.vars c.args.clauses.items c.args.units.items c.args.stack out ≡ w =
    sym (λ i. record { vars = c.args.vars; unheld = c.args.vars; clauses = c.in-Ok.ensures.clauses i; units = unit_lits ((c.in-Ok-over.ensures.items ∙ c.as_slice.ensures.value) i); stack = c.args.stack; ended = false; output = out }) in
    subst (Stands (record { formula = F; journal = J; output = out }) []) e
    (resumed_stands F c.args.vars c.args.clauses.items c.args.units.items c.args.stack out c.requires.unspent J r))
