use Rattle.std.proofs.Common.{◌≡◌, ◌+◌, true, false, ap, sym, ◌∙◌, subst, ℕ, List, ◌∷◌, [], ◌++◌, arith}
use Rattle.std.specs.Prelude.{Err}
use Rattle.sat_words.specs.Literal.{Literal, IsOn}
use Rattle.sat_words.specs.Clause.{has}
use Rattle.rup_model.specs.Rup.{rup}
use Rattle.drat_text.specs.LineState.{LineState}
use Rattle.simp_base.specs.WorkState.{WorkState, IsWork, HaveOwnNumbers, AreHeld, known, lists, is_alive_unit, unit_lits}
use Rattle.simp_base.specs.Calls.{AddedLine, IsListed, WasAddedLine}
use Rattle.simp_base.proofs.Keeping.{work_listed, work_listed_line, listed_silent, listed_line, kept_not_added}
use Rattle.simp_base.proofs.Lists.{Contains_last}
use Rattle.simp_base.proofs.Held.{alone_alive, none_alive, held_listed, held_more, unit_lits_more}
use Rattle.simp_base.proofs.Known.{rup_held, lone_opposites}
use Rattle.simp_base.proofs.work.Work.list.Goals as goal

pub invariant_of-self-in-Some : goal.invariant_of-self-in-Some
invariant_of-self-in-Some g c =
    let i = c.self.inside in
    let w : WorkState = record { vars = i.vars; unheld = i.unheld; clauses = i.clauses.clauses; units = unit_lits i.units.items; stack = i.stack; ended = i.ended; output = g.L.LineOut.told i.output } in
    let on : IsOn i.vars c.args.lit = subst (λ (s : WorkState). IsOn s.vars c.args.lit) (sym c.self.view_is) c.requires.on in
    let new : has (unit_lits i.units.items) c.args.lit ≡ false = sym c.is_listed.ensures ∙ c.if-is_listed.false in
    let now : c.push.new.self.items ≡ i.units.items ++ (c.args.lit, c.in-Some.number) ∷ [] = c.push.ensures.items ∙ ap (λ us. us ++ (c.args.lit, c.in-Some.number) ∷ []) c.make_room.ensures.items in
    let lits = ap unit_lits now ∙ unit_lits_more i.units.items c.args.lit c.in-Some.number in (
      work_listed w c.self.invariant.0 c.args.lit on new (alone_alive i.clauses.clauses c.in-Some.number c.args.lit c.in-Some.ensures) (unit_lits c.push.new.self.items) lits,
      c.self.invariant.1,
      c.self.invariant.2,
      c.push.ensures.codes ∙ c.make_room.ensures.codes ∙ c.self.invariant.3,
      c.self.invariant.4,
      subst (AreHeld i.clauses.clauses) (sym now) (held_listed i.clauses.clauses i.units.items c.args.lit c.in-Some.number c.self.invariant.5 c.in-Some.ensures),
    )

pub returns-in-Some-clause-work : goal.returns-in-Some-clause-work
returns-in-Some-clause-work g c = (invariant_of-self-in-Some g c).0

pub add_line-added-requires-clause-own : goal.add_line-added-requires-clause-own
add_line-added-requires-clause-own g c = subst HaveOwnNumbers (sym c.make_ready.ensures.same.clauses) c.self.invariant.0.numbers

pub add_line-added-requires-clause-rup : goal.add_line-added-requires-clause-rup
add_line-added-requires-clause-rup g c h =
    let i = c.self.inside in
    let w : WorkState = record { vars = i.vars; unheld = i.unheld; clauses = i.clauses.clauses; units = unit_lits i.units.items; stack = i.stack; ended = i.ended; output = g.L.LineOut.told i.output } in
    let follows : rup (known w) (c.args.lit ∷ []) ≡ true = subst (λ (s : WorkState). rup (known s) (c.args.lit ∷ []) ≡ true) (sym c.self.view_is) c.requires.rup in
    (subst (λ (cs : List (ℕ × List Literal)). rup (lists cs) (c.args.lit ∷ []) ≡ true) (sym c.make_ready.ensures.same.clauses) (rup_held w c.self.invariant.0 (c.args.lit ∷ []) follows), lone_opposites c.args.lit)

pub invariant_of-self-in-Ok-added : goal.invariant_of-self-in-Ok-added
invariant_of-self-in-Ok-added g c =
    let i = c.self.inside in
    let w : WorkState = record { vars = i.vars; unheld = i.unheld; clauses = i.clauses.clauses; units = unit_lits i.units.items; stack = i.stack; ended = i.ended; output = g.L.LineOut.told i.output } in
    let on : IsOn i.vars c.args.lit = subst (λ (s : WorkState). IsOn s.vars c.args.lit) (sym c.self.view_is) c.requires.on in
    let new : has (unit_lits i.units.items) c.args.lit ≡ false = sym c.is_listed.ensures ∙ c.if-is_listed.false in
    let b : LineState = g.L.LineOut.told c.add_line-added.new.output in
    let n : ℕ = c.in-Ok-added.number in
    let line : AddedLine w.output b w.clauses (c.args.lit ∷ []) n = subst (λ (cs : List (ℕ × List Literal)). AddedLine w.output b cs (c.args.lit ∷ []) n) c.make_ready.ensures.same.clauses c.in-Ok-added.ensures in
    let cells : c.push-in-Ok-added.new.self.clauses ≡ w.clauses ++ (n, c.args.lit ∷ []) ∷ [] = c.push-in-Ok-added.ensures.clauses ∙ (λ k. c.make_ready.ensures.same.clauses k ++ (n, c.in-Ok.ensures.value k) ∷ []) in
    let items : c.push-in-Ok-added-2.new.self.items ≡ i.units.items ++ (c.args.lit, n) ∷ [] = c.push-in-Ok-added-2.ensures.items ∙ ap (λ us. us ++ (c.args.lit, n) ∷ []) c.make_room.ensures.items in
    let last : b.last ≡ w.output.last + 1 = ap (λ (s : LineState). s.last) line.put.state in (
      work_listed_line w c.self.invariant.0 c.args.lit on b n c.push-in-Ok-added.new.self.clauses (unit_lits c.push-in-Ok-added-2.new.self.items) new line cells
          (ap unit_lits items ∙ unit_lits_more i.units.items c.args.lit n),
      omega (arith, c.push-in-Ok-added.ensures.next, c.make_ready.ensures.same.next, c.self.invariant.1, last),
      c.push-in-Ok-added.ensures.codes ∙ c.make_ready.ensures.same.codes ∙ c.self.invariant.2,
      c.push-in-Ok-added-2.ensures.codes ∙ c.make_room.ensures.codes ∙ c.self.invariant.3,
      ap (λ n. n + 1) c.self.invariant.4 ∙ sym (ap (λ (s : LineState). s.entries) line.put.state),
      subst (λ (s : List (ℕ × List Literal) × List (Literal × ℕ)). AreHeld s.0 s.1) (λ k. (sym cells k, sym items k))
          (held_listed (w.clauses ++ (n, c.args.lit ∷ []) ∷ []) i.units.items c.args.lit n (held_more w.clauses (n, c.args.lit ∷ []) i.units.items c.self.invariant.5) (Contains_last w.clauses (n, c.args.lit ∷ []))),
    )

pub returns-in-Ok-added-clause-work : goal.returns-in-Ok-added-clause-work
returns-in-Ok-added-clause-work g c = (invariant_of-self-in-Ok-added g c).0

pub invariant_of-self-in-Err-added : goal.invariant_of-self-in-Err-added
invariant_of-self-in-Err-added g c =
    let i = c.self.inside in
    let w : WorkState = record { vars = i.vars; unheld = i.unheld; clauses = i.clauses.clauses; units = unit_lits i.units.items; stack = i.stack; ended = i.ended; output = g.L.LineOut.told i.output } in
    let b : LineState = g.L.LineOut.told c.add_line-added.new.output in
    let line = subst (λ (cs : List (ℕ × List Literal)). WasAddedLine w.output b cs (c.args.lit ∷ []) (Err c.in-Err.stop)) c.make_ready.ensures.same.clauses c.in-Err.ensures in
    let kept = kept_not_added w b (c.args.lit ∷ []) c.in-Err.stop c.self.invariant.0 line in (
      subst (λ (s : List (ℕ × List Literal) × List (Literal × ℕ)). IsWork (record w { clauses = s.0; units = unit_lits s.1; output = b })) (λ k. (sym c.make_ready.ensures.same.clauses k, sym c.make_room.ensures.items k)) kept.0,
      c.make_ready.ensures.same.next ∙ c.self.invariant.1 ∙ ap (λ n. n + 1) (sym kept.1),
      c.make_ready.ensures.same.codes ∙ c.self.invariant.2,
      c.make_room.ensures.codes ∙ c.self.invariant.3,
      c.self.invariant.4 ∙ sym kept.2,
      subst (λ (s : List (ℕ × List Literal) × List (Literal × ℕ)). AreHeld s.0 s.1) (λ k. (sym c.make_ready.ensures.same.clauses k, sym c.make_room.ensures.items k)) c.self.invariant.5,
    )

pub returns-in-Err-clause-work : goal.returns-in-Err-clause-work
returns-in-Err-clause-work g c = (invariant_of-self-in-Err-added g c).0

pub invariant_of-self : goal.invariant_of-self
invariant_of-self g c =
    let i = c.self.inside in
    let w : WorkState = record { vars = i.vars; unheld = i.unheld; clauses = i.clauses.clauses; units = unit_lits i.units.items; stack = i.stack; ended = i.ended; output = g.L.LineOut.told i.output } in
    let us = c.make_room.ensures.items in (
      subst (λ (items : List (Literal × ℕ)). IsWork (record w { units = unit_lits items })) (sym us) c.self.invariant.0,
      c.self.invariant.1,
      c.self.invariant.2,
      c.make_room.ensures.codes ∙ c.self.invariant.3,
      c.self.invariant.4,
      subst (AreHeld i.clauses.clauses) (sym us) c.self.invariant.5,
    )

pub returns-in-Some-clause-listed : goal.returns-in-Some-clause-listed
returns-in-Some-clause-listed g c =
    let i = c.self.inside in
    let w : WorkState = record { vars = i.vars; unheld = i.unheld; clauses = i.clauses.clauses; units = unit_lits i.units.items; stack = i.stack; ended = i.ended; output = g.L.LineOut.told i.output } in
    let n : ℕ = c.in-Some.number in
    let new : has (unit_lits i.units.items) c.args.lit ≡ false = sym c.is_listed.ensures ∙ c.if-is_listed.false in
    let now : c.push.new.self.items ≡ i.units.items ++ (c.args.lit, n) ∷ [] = c.push.ensures.items ∙ ap (λ us. us ++ (c.args.lit, n) ∷ []) c.make_room.ensures.items in
    subst (λ (s : WorkState). IsListed (has s.units c.args.lit) (is_alive_unit s c.args.lit) s (record w { units = unit_lits c.push.new.self.items }) c.args.lit) c.self.view_is
    (listed_silent w c.args.lit (unit_lits c.push.new.self.items) new (alone_alive i.clauses.clauses n c.args.lit c.in-Some.ensures) (ap unit_lits now ∙ unit_lits_more i.units.items c.args.lit n))

pub invariant_of-self-in_default-from_lits : goal.invariant_of-self-in_default-from_lits
invariant_of-self-in_default-from_lits g c =
    let i = c.self.inside in
    let w : WorkState = record { vars = i.vars; unheld = i.unheld; clauses = i.clauses.clauses; units = unit_lits i.units.items; stack = i.stack; ended = i.ended; output = g.L.LineOut.told i.output } in
    let us = c.make_room.ensures.items in (
      subst (λ (items : List (Literal × ℕ)). IsWork (record w { units = unit_lits items })) (sym us) c.self.invariant.0,
      c.self.invariant.1,
      c.self.invariant.2,
      c.make_room.ensures.codes ∙ c.self.invariant.3,
      c.self.invariant.4,
      subst (AreHeld i.clauses.clauses) (sym us) c.self.invariant.5,
    )

pub invariant_of-self-then-is_err-2 : goal.invariant_of-self-then-is_err-2
invariant_of-self-then-is_err-2 g c =
    let i = c.self.inside in
    let w : WorkState = record { vars = i.vars; unheld = i.unheld; clauses = i.clauses.clauses; units = unit_lits i.units.items; stack = i.stack; ended = i.ended; output = g.L.LineOut.told i.output } in
    let cs = c.make_ready.ensures.same.clauses in
    let us = c.make_room.ensures.items in (
      subst (λ (s : List (ℕ × List Literal) × List (Literal × ℕ)). IsWork (record w { clauses = s.0; units = unit_lits s.1 })) (λ k. (sym cs k, sym us k)) c.self.invariant.0,
      c.make_ready.ensures.same.next ∙ c.self.invariant.1,
      c.make_ready.ensures.same.codes ∙ c.self.invariant.2,
      c.make_room.ensures.codes ∙ c.self.invariant.3,
      c.self.invariant.4,
      subst (λ (s : List (ℕ × List Literal) × List (Literal × ℕ)). AreHeld s.0 s.1) (λ k. (sym cs k, sym us k)) c.self.invariant.5,
    )

pub returns-in-Ok-added-clause-listed : goal.returns-in-Ok-added-clause-listed
returns-in-Ok-added-clause-listed g c =
    let i = c.self.inside in
    let w : WorkState = record { vars = i.vars; unheld = i.unheld; clauses = i.clauses.clauses; units = unit_lits i.units.items; stack = i.stack; ended = i.ended; output = g.L.LineOut.told i.output } in
    let new : has (unit_lits i.units.items) c.args.lit ≡ false = sym c.is_listed.ensures ∙ c.if-is_listed.false in
    let b : LineState = g.L.LineOut.told c.add_line-added.new.output in
    let n : ℕ = c.in-Ok-added.number in
    let line : AddedLine w.output b w.clauses (c.args.lit ∷ []) n = subst (λ (cs : List (ℕ × List Literal)). AddedLine w.output b cs (c.args.lit ∷ []) n) c.make_ready.ensures.same.clauses c.in-Ok-added.ensures in
    let cells : c.push-in-Ok-added.new.self.clauses ≡ w.clauses ++ (n, c.args.lit ∷ []) ∷ [] = c.push-in-Ok-added.ensures.clauses ∙ (λ k. c.make_ready.ensures.same.clauses k ++ (n, c.in-Ok.ensures.value k) ∷ []) in
    let items : c.push-in-Ok-added-2.new.self.items ≡ i.units.items ++ (c.args.lit, n) ∷ [] = c.push-in-Ok-added-2.ensures.items ∙ ap (λ us. us ++ (c.args.lit, n) ∷ []) c.make_room.ensures.items in
    subst (λ (s : WorkState). IsListed (has s.units c.args.lit) (is_alive_unit s c.args.lit) s (record w { clauses = c.push-in-Ok-added.new.self.clauses; units = unit_lits c.push-in-Ok-added-2.new.self.items; output = b }) c.args.lit) c.self.view_is
    (listed_line w c.args.lit b n c.push-in-Ok-added.new.self.clauses (unit_lits c.push-in-Ok-added-2.new.self.items) new (none_alive i.clauses.clauses c.args.lit c.in_default.ensures) line cells (ap unit_lits items ∙ unit_lits_more i.units.items c.args.lit n))
