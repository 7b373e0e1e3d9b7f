use Rattle.std.proofs.Common.{◌≡◌, ◌+◌, ap, sym, ◌∙◌, subst, ℕ, true, false, List, ◌∷◌, [], ◌++◌, arith}
use Rattle.std.specs.Prelude.{Err}
use Rattle.std.specs.List.{All}
use Rattle.sat_words.specs.Literal.{Literal, IsOn}
use Rattle.sat_words.specs.Clause.{clause_of, has_opposites}
use Rattle.sat_words.specs.Formats.{has_hints}
use Rattle.rup_model.specs.Rup.{rup}
use Rattle.drat_text.specs.LineState.{LineState}
use Rattle.simp_base.specs.WorkState.{WorkState, IsWork, HaveOwnNumbers, AreHeld, known, lists, unit_lits}
use Rattle.simp_base.specs.Calls.{AddedLine, WasAddedLine}
use Rattle.simp_base.proofs.Keeping.{work_added, clause_of_on, kept_not_added}
use Rattle.simp_base.proofs.Held.{held_more}
use Rattle.simp_base.proofs.Known.{rup_held}
use Rattle.simp_base.proofs.TableLemmas.{codes_on}
use Rattle.simp_base.proofs.work.Work.put_clause.Goals as goal

pub make_ready-requires : goal.make_ready-requires
make_ready-requires g c =
    let i = c.self.inside in
    let on : All (IsOn i.vars) c.args.lits.now = subst (λ (s : WorkState). All (IsOn s.vars) c.args.lits.now) (sym c.self.view_is) c.requires.on in
    let same : c.lits.result.now ≡ clause_of c.args.lits.now = c.lits.ensures.value ∙ c.in-Ok.ensures.value in
    codes_on i.vars i.clauses.codes c.lits.result.now (subst (All (IsOn i.vars)) (sym same) (clause_of_on i.vars c.args.lits.now on)) c.self.invariant.2

pub push-requires-clause-codes : goal.push-requires-clause-codes
push-requires-clause-codes g c =
    let i = c.self.inside in
    let on : All (IsOn i.vars) c.args.lits.now = subst (λ (s : WorkState). All (IsOn s.vars) c.args.lits.now) (sym c.self.view_is) c.requires.on in
    codes_on i.vars c.make_ready.new.self.codes c.in-Ok.clause (subst (All (IsOn i.vars)) (sym c.in-Ok.ensures.value) (clause_of_on i.vars c.args.lits.now on)) (c.make_ready.ensures.same.codes ∙ c.self.invariant.2)

pub add_line-added-requires-clause-codes : goal.add_line-added-requires-clause-codes
add_line-added-requires-clause-codes g c =
    let i = c.self.inside in
    let on : All (IsOn i.vars) c.args.lits.now = subst (λ (s : WorkState). All (IsOn s.vars) c.args.lits.now) (sym c.self.view_is) c.requires.on in
    codes_on i.vars c.make_ready.new.self.codes c.args.lits.now on (c.make_ready.ensures.same.codes ∙ c.self.invariant.2)

pub add_line-added-requires-clause-own : goal.add_line-added-requires-clause-own
add_line-added-requires-clause-own g c = subst HaveOwnNumbers (sym c.make_ready.ensures.same.clauses) c.self.invariant.0.numbers

pub add_line-added-requires-clause-rup : goal.add_line-added-requires-clause-rup
add_line-added-requires-clause-rup g c h =
    let i = c.self.inside in
    let w : WorkState = record { vars = i.vars; unheld = i.unheld; clauses = i.clauses.clauses; units = unit_lits i.units.items; stack = i.stack; ended = i.ended; output = g.L.LineOut.told i.output } in
    let follows = subst (λ (s : WorkState). has_hints s.output.format ≡ true → (rup (known s) c.args.lits.now ≡ true) × (has_opposites c.args.lits.now ≡ false)) (sym c.self.view_is) c.requires.rup h in
    (subst (λ (cs : List (ℕ × List Literal)). rup (lists cs) c.args.lits.now ≡ true) (sym c.make_ready.ensures.same.clauses) (rup_held w c.self.invariant.0 c.args.lits.now follows.0), follows.1)

pub invariant_of-self-in-Ok-added : goal.invariant_of-self-in-Ok-added
invariant_of-self-in-Ok-added g c =
    let i = c.self.inside in
    let w : WorkState = record { vars = i.vars; unheld = i.unheld; clauses = i.clauses.clauses; units = unit_lits i.units.items; stack = i.stack; ended = i.ended; output = g.L.LineOut.told i.output } in
    let on : All (IsOn i.vars) c.args.lits.now = subst (λ (s : WorkState). All (IsOn s.vars) c.args.lits.now) (sym c.self.view_is) c.requires.on in
    let b : LineState = g.L.LineOut.told c.add_line-added.new.output in
    let n : ℕ = c.in-Ok-added.number in
    let line : AddedLine w.output b w.clauses c.args.lits.now n = subst (λ (cs : List (ℕ × List Literal)). AddedLine w.output b cs c.args.lits.now n) c.make_ready.ensures.same.clauses c.in-Ok-added.ensures in
    let now : c.push.new.self.clauses ≡ w.clauses ++ (n, clause_of c.args.lits.now) ∷ [] = c.push.ensures.clauses ∙ (λ k. c.make_ready.ensures.same.clauses k ++ (n, c.in-Ok.ensures.value k) ∷ []) in
    let last : b.last ≡ w.output.last + 1 = ap (λ (s : LineState). s.last) line.put.state in (
      work_added w c.self.invariant.0 c.args.lits.now on n b line c.push.new.self.clauses now _,
      omega (arith, c.push.ensures.next, c.make_ready.ensures.same.next, c.self.invariant.1, last),
      c.push.ensures.codes ∙ c.make_ready.ensures.same.codes ∙ c.self.invariant.2,
      c.self.invariant.3,
      ap (λ k. k + 1) c.self.invariant.4 ∙ sym (ap (λ (s : LineState). s.entries) line.put.state),
      subst (λ (cs : List (ℕ × List Literal)). AreHeld cs i.units.items) (sym now) (held_more w.clauses (n, clause_of c.args.lits.now) i.units.items c.self.invariant.5),
    )

pub invariant_of-self-in-Err-added : goal.invariant_of-self-in-Err-added
invariant_of-self-in-Err-added g c =
    let i = c.self.inside in
    let w : WorkState = record { vars = i.vars; unheld = i.unheld; clauses = i.clauses.clauses; units = unit_lits i.units.items; stack = i.stack; ended = i.ended; output = g.L.LineOut.told i.output } in
    let b : LineState = g.L.LineOut.told c.add_line-added.new.output in
    let line = subst (λ (cs : List (ℕ × List Literal)). WasAddedLine w.output b cs c.args.lits.now (Err c.in-Err.stop)) c.make_ready.ensures.same.clauses c.in-Err.ensures in
    let kept = kept_not_added w b c.args.lits.now c.in-Err.stop c.self.invariant.0 line in (
      subst (λ (cs : List (ℕ × List Literal)). IsWork (record w { clauses = cs; output = b })) (sym c.make_ready.ensures.same.clauses) kept.0,
      c.make_ready.ensures.same.next ∙ c.self.invariant.1 ∙ ap (λ n. n + 1) (sym kept.1),
      c.make_ready.ensures.same.codes ∙ c.self.invariant.2,
      c.self.invariant.3,
      c.self.invariant.4 ∙ sym kept.2,
      subst (λ (cs : List (ℕ × List Literal)). AreHeld cs i.units.items) (sym c.make_ready.ensures.same.clauses) c.self.invariant.5,
    )

pub invariant_of-self : goal.invariant_of-self
invariant_of-self g c =
    let i = c.self.inside in
    let w : WorkState = record { vars = i.vars; unheld = i.unheld; clauses = i.clauses.clauses; units = unit_lits i.units.items; stack = i.stack; ended = i.ended; output = g.L.LineOut.told i.output } in
    let cs = c.make_ready.ensures.same.clauses in (
      subst (λ (cells : List (ℕ × List Literal)). IsWork (record w { clauses = cells })) (sym cs) c.self.invariant.0,
      c.make_ready.ensures.same.next ∙ c.self.invariant.1,
      c.make_ready.ensures.same.codes ∙ c.self.invariant.2,
      c.self.invariant.3,
      c.self.invariant.4,
      subst (λ (cells : List (ℕ × List Literal)). AreHeld cells i.units.items) (sym cs) c.self.invariant.5,
    )
