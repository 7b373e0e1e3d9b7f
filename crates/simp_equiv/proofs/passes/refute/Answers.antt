use Rattle.std.proofs.Common.{◌≡◌, ◌∙◌, ℕ, true, sym, ap, subst, [], ◌∷◌}
use Rattle.sat_words.specs.Literal.{Literal, opposite}
use Rattle.rup_model.specs.Rup.{rup}
use Rattle.rup_model.proofs.Lists.{Contains_In}
use Rattle.simp_base.specs.WorkState.{WorkState, known, lists, has_unit}
use Rattle.simp_base.proofs.LiftSteps.{logs_along}
use Rattle.simp_equiv.specs.Graphs.{Connected}
use Rattle.simp_equiv.specs.Implications.{Implied}
use Rattle.drat_text.specs.LineState.{LineState}
use Rattle.simp_base.specs.Calls.{Added}
use Rattle.simp_equiv.specs.Ends.{Ended}
use Rattle.simp_equiv.specs.Rewritten.{GoesOn, Grown}
use Rattle.std.specs.Prelude.{Ok}
use Rattle.simp_equiv.proofs.Follows.{negation_follows, empty_follows, reaches_over}
use Rattle.simp_equiv.proofs.Growing.{in_known, known_grows, was_listed}
use Rattle.simp_equiv.proofs.passes.refute.Goals as goal

unit_follows : (w : WorkState) (l : Literal) → Connected (Implied w) l (opposite l) → rup (known w) (opposite l ∷ []) ≡ true
unit_follows w l c = negation_follows (has_unit w) (known w) l (reaches_over (has_unit w) (lists w.clauses) (known w) (in_known w) l (opposite l) c.there)

conflict_follows : (old new : WorkState) (l : Literal) → Connected (Implied old) l (opposite l) → Grown old new (opposite l ∷ []) → rup (known new) [] ≡ true
conflict_follows old new l c g =
    empty_follows (has_unit old) (known new) l g.there.0
    (reaches_over (has_unit old) (lists old.clauses) (known new) (λ d h. known_grows old new g.stay g.on.units d (in_known old d h)) (opposite l) l c.back)
    (Contains_In (known new) g.there.0 g.there.1) g.there.2

pub unit-requires-clause-rup : goal.unit-requires-clause-rup
unit-requires-clause-rup g c = subst (λ (k : Literal). rup (known c.args.work.now) (k ∷ []) ≡ true) (sym c.not.ensures) (unit_follows c.args.work.now c.args.lit c.requires.clash)

-- the empty clause was added after the unit
ended : (old mid new : WorkState) (number : ℕ) → GoesOn old mid → Added mid new [] number → Ended old new
ended old mid new number g h = record {
  ended = ap (λ (w : WorkState). w.ended) h.state;
  unspent = ap (λ (s : LineState). s.spent) h.line.put.state ∙ g.unspent;
  quiet = ap (λ (s : LineState). s.faults) h.line.put.state ∙ g.quiet;
}

pub add_rup-requires-clause-rup : goal.add_rup-requires-clause-rup
add_rup-requires-clause-rup g c =
    let old = c.args.work.now in let new = c.unit.new.self in
    conflict_follows old new c.args.lit c.requires.clash
    (subst (λ (k : Literal). Grown old new (k ∷ [])) c.not.ensures
    (was_listed old new c.not.result c.requires.going c.requires.unspent c.in_ok-unit.ensures.work (_, c.in_ok-unit.ensures.log.entries) (Ok c.in_ok-unit.field-0) c.in_ok-unit.ensures.listed))

pub returns-in_err-add_rup-clause-log : goal.returns-in_err-add_rup-clause-log
returns-in_err-add_rup-clause-log g c = logs_along c.args.work.now c.unit.new.self c.add_rup.new.self (_, c.in_ok-unit.ensures.log.entries) (_, c.in_err-add_rup.ensures.log.entries)

pub returns-clause-log : goal.returns-clause-log
returns-clause-log g c = logs_along c.args.work.now c.unit.new.self c.add_rup.new.self (_, c.in_ok-unit.ensures.log.entries) (_, c.in_ok-add_rup.ensures.log.entries)

pub returns-clause-ends : goal.returns-clause-ends
returns-clause-ends g c =
    let old = c.args.work.now in let mid = c.unit.new.self in let new = c.add_rup.new.self in
    let grown : Grown old mid (c.not.result ∷ []) = was_listed old mid c.not.result c.requires.going c.requires.unspent c.in_ok-unit.ensures.work (_, c.in_ok-unit.ensures.log.entries) (Ok c.in_ok-unit.field-0) c.in_ok-unit.ensures.listed in
    ended old mid new c.in_ok-add_rup.field-0 grown.on c.in_ok-add_rup.ensures.added
