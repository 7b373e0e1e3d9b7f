use Rattle.std.proofs.Common.{◌≡◌, ◌∙◌, ◌+◌, true, false, ap, sym, subst, ℕ, List, arith}
use Rattle.std.specs.Prelude.{Result, Ok, Err, OnOk, OnErr}
use Rattle.std.specs.Result.{is_err}
use Rattle.std.proofs.lemmas.Bool.{true≢false}
use Rattle.sat_words.specs.Literal.{Literal}
use Rattle.simp_base.specs.WorkState.{WorkState, IsWork, AreHeld, lists, unit_lits}
use Rattle.simp_base.proofs.TableLemmas.{each_codes_on}
use Rattle.simp_base.proofs.Widening.{work_wider, one_more}
use Rattle.simp_base.proofs.work.Work.widen.Goals as goal

pub widen-requires : goal.widen-requires
widen-requires g c =
    let i = c.self.inside in
    each_codes_on i.vars i.clauses.codes (lists i.clauses.clauses) c.self.invariant.0.clauses_on c.self.invariant.2

-- an answer that is no error
taken : {E : Type 0} (P : Type 0) (r : Result (Unit {0}) E) → is_err r ≡ false → OnOk r P → P
taken P (Ok done) e p = p
taken P (Err stop) e p = absurd (true≢false e)

-- and one that is
refused : {E : Type 0} (P : Type 0) (r : Result (Unit {0}) E) → is_err r ≡ true → OnErr r P → P
refused P (Ok done) e p = absurd (true≢false (sym e))
refused P (Err stop) e p = p

pub invariant_of-self-2 : goal.invariant_of-self-2
invariant_of-self-2 g c =
    let i = c.self.inside in
    let w : WorkState = record { vars = i.vars; unheld = i.unheld; clauses = i.clauses.clauses; units = unit_lits i.units.items; stack = i.stack; ended = i.ended; output = g.L.LineOut.told i.output } in
    let cs = c.widen.ensures.clauses in
    let us = c.widen-2.ensures.items ∙ c.make_code_room.ensures.items in
    let next = c.widen.ensures.next in
    let first = taken (c.widen.new.self.codes ≡ i.clauses.codes + 2) c.widen.result (sym c.is_err-2.ensures.value ∙ c.if-is_err-2.false) c.widen.ensures.ok in
    let second = c.widen-2.ensures.codes ∙ ap (λ n. n + 2) c.make_code_room.ensures.codes in (
      subst (λ (s : List (ℕ × List Literal) × List (Literal × ℕ)). IsWork (record w { vars = i.vars + 1; clauses = s.0; units = unit_lits s.1 })) (λ k. (sym cs k, sym us k)) (work_wider w (i.vars + 1) (one_more w) c.self.invariant.0),
      next ∙ c.self.invariant.1,
      omega (arith, first, c.self.invariant.2),
      omega (arith, second, c.self.invariant.3),
      c.self.invariant.4,
      subst (λ (s : List (ℕ × List Literal) × List (Literal × ℕ)). AreHeld s.0 s.1) (λ k. (sym cs k, sym us k)) c.self.invariant.5,
    )

pub invariant_of-self : goal.invariant_of-self
invariant_of-self g c =
    let i = c.self.inside in
    let w : WorkState = record { vars = i.vars; unheld = i.unheld; clauses = i.clauses.clauses; units = unit_lits i.units.items; stack = i.stack; ended = i.ended; output = g.L.LineOut.told i.output } in
    let us = c.make_code_room.ensures.items in (
      subst (λ (items : List (Literal × ℕ)). IsWork (record w { units = unit_lits items })) (sym us) c.self.invariant.0,
      c.self.invariant.1,
      c.self.invariant.2,
      c.make_code_room.ensures.codes ∙ c.self.invariant.3,
      c.self.invariant.4,
      subst (AreHeld i.clauses.clauses) (sym us) c.self.invariant.5,
    )

pub invariant_of-self-then-is_err-2 : goal.invariant_of-self-then-is_err-2
invariant_of-self-then-is_err-2 g c =
    let i = c.self.inside in
    let w : WorkState = record { vars = i.vars; unheld = i.unheld; clauses = i.clauses.clauses; units = unit_lits i.units.items; stack = i.stack; ended = i.ended; output = g.L.LineOut.told i.output } in
    let cs = c.widen.ensures.clauses in
    let us = c.make_code_room.ensures.items in
    let next = c.widen.ensures.next in
    let codes = refused (c.widen.new.self.codes ≡ i.clauses.codes) c.widen.result (sym c.is_err-2.ensures.value ∙ c.if-is_err-2.true) c.widen.ensures.err in (
      subst (λ (s : List (ℕ × List Literal) × List (Literal × ℕ)). IsWork (record w { clauses = s.0; units = unit_lits s.1 })) (λ k. (sym cs k, sym us k)) c.self.invariant.0,
      next ∙ c.self.invariant.1,
      codes ∙ c.self.invariant.2,
      c.make_code_room.ensures.codes ∙ c.self.invariant.3,
      c.self.invariant.4,
      subst (λ (s : List (ℕ × List Literal) × List (Literal × ℕ)). AreHeld s.0 s.1) (λ k. (sym cs k, sym us k)) c.self.invariant.5,
    )
