use Rattle.std.proofs.Common.{sym, ap, subst}
use Rattle.sat_words.specs.Literal.{IsOn}
use Rattle.std.specs.List.{All}
use Rattle.simp_base.specs.WorkState.{WorkState, unit_lits}
use Rattle.simp_base.specs.Log.{Stands}
use Rattle.simp_base.proofs.Keeping.{work_pushed}
use Rattle.simp_base.proofs.Steps.{stands_pushed}
use Rattle.simp_base.proofs.work.Work.push_fix.Goals as goal

pub invariant_of-self-2 : goal.invariant_of-self-2
invariant_of-self-2 g c =
    let i = c.self.inside in
    let w : WorkState = record { vars = i.vars; unheld = i.unheld; clauses = i.clauses.clauses; units = unit_lits i.units.items; stack = i.stack; ended = i.ended; output = g.L.LineOut.told i.output } in
    let on : All (IsOn i.vars) c.args.clause = subst (λ (s : WorkState). All (IsOn s.vars) c.args.clause) (sym c.self.view_is) c.requires.on in
    (work_pushed w c.self.invariant.0 c.args.lit c.args.clause c.requires.holds on c.push.new.self c.in-Ok.ensures.ok, c.self.invariant.1, c.self.invariant.2, c.self.invariant.3, c.self.invariant.4, c.self.invariant.5)

pub returns-clause-work : goal.returns-clause-work
returns-clause-work g c = (invariant_of-self-2 g c).0

pub returns-clause-log : goal.returns-clause-log
returns-clause-log g c =
    let i = c.self.inside in
    let w : WorkState = record { vars = i.vars; unheld = i.unheld; clauses = i.clauses.clauses; units = unit_lits i.units.items; stack = i.stack; ended = i.ended; output = g.L.LineOut.told i.output } in
    record {
      vars = ap (λ (s : WorkState). s.vars) c.self.view_is;
      format = ap (λ (s : WorkState). s.output.format) c.self.view_is;
      stands = λ o mine h. stands_pushed o mine w (subst (Stands o mine) (sym c.self.view_is) h) c.push.new.self;
    }
