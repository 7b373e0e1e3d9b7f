-- How a run ends.
use Rattle.std.proofs.Common.{◌≡◌, ◌&&◌, ◌||◌, ℕ, Bool, true, false, not, true≢false, refl, List, [], ◌∷◌, sym, ap, subst, ◌∙◌, ⊎_elim, Option, Contains, arith, append-nil}
use Rattle.std.specs.Prelude.{Result, Ok, Err}
use Rattle.std.proofs.lemmas.Bool.{and_from, or_left, not_from_false}
use Rattle.sat_words.specs.Literal.{Literal, opposite, same}
use Rattle.sat_words.specs.Values.{is_true}
use Rattle.sat_words.proofs.Members.{same-refl, same-true}
use Rattle.rup_model.specs.Status.{IsSettled}
use Rattle.sat_words.specs.Clause.{has, has_opposites}
use Rattle.rup_model.proofs.Lists.{In, In_any, In_all, In_has, has_In, In_append, map_In, In_Contains}
use Rattle.drat_text.specs.declared.stop.LineStop.{LineStop}
use Rattle.simp_base.specs.WorkState.{WorkState, known, lists, unit_clauses, is_only}
use Rattle.simp_base.specs.Lifted.{Lifted}
use Rattle.simp_base.specs.Log.{KeepsLog}
use Rattle.simp_base.specs.declared.work.Run.{Run}
use Rattle.simp_base.specs.declared.work.Run.TheVariants.{Done, Refuted}
use Rattle.simp_base.specs.Causes.{HasCause}
use Rattle.simp_base.proofs.Stopping.{cause_after}
use Rattle.simp_base.proofs.Weaken.{weaker}
use Rattle.simp_base.proofs.LiftSteps.{lifted_along, logs_along}
use Rattle.simp_base.proofs.Lists.{In_All}
use Rattle.simp_base.proofs.Keeping.{only_told}
use Rattle.simp_units.specs.Ends.{IsFree, Cleaned, Ends, EndsRefuted}
use Rattle.simp_units.specs.Progress.{IsUnitsClause, Progress, Propagated, Falsified}
use Rattle.simp_units.specs.Tidied.{Tidied, WasCleaned}
use Rattle.simp_base.proofs.Known.{known_alive, unit_among}

-- propagation needs no fix
lifted_progress : (old new : WorkState) (a : List (Option Bool)) → Progress old new a → Lifted old new
lifted_progress old new a p = record {
  fixes = [];
  stack = p.stack ∙ sym (append-nil old.stack);
  lifts = λ m t. weaker m (known old) (known new) (λ c i. (c, more c i, In_all (has c) c (λ l j. In_has c l j))) t;
}
  where
    more : (c : List Literal) → In c (known old) → In c (known new)
    more c i = ⊎_elim
        (λ (k : In c (lists old.clauses)). (let t = map_In (λ (x : ℕ × List Literal). x.1) old.clauses c k in subst (λ d. In d (known new)) t.2 (known_alive new t.0.0 t.0.1 (p.stay t.0.0 t.0.1 (In_Contains old.clauses t.0 t.1)))))
        (λ (k : In c (unit_clauses old.units)). (let t = map_In (λ (l : Literal). l ∷ []) old.units c k in subst (λ d. In d (known new)) t.2 (unit_among new t.0 (has_In new.units t.0 (p.units t.0 (In_has old.units t.0 t.1))))))
        (In_append (lists old.clauses) (unit_clauses old.units) c i)

-- the literal of a settled unit clause is true
lone : (a : List (Option Bool)) (l : Literal) → IsSettled a (l ∷ []) → is_true a l ≡ true
lone a l s =
    let self = same-refl l in
    s.closed l (and_from _ _ (or_left (same l l) false self) (and_from _ _ (not_from_false _ (by (is_true a (opposite l)) s.open_yet)) (and_from _ _ (or_left (same l l) (is_true a (opposite l)) self) refl)))
  where
    by : (b : Bool) → (b && true) ≡ false → b ≡ false
    by true e = e
    by false e = refl

-- a literal alone has no opposite beside it
alone_plain : (l : Literal) → has_opposites (l ∷ []) ≡ false
alone_plain l = by (same (opposite l) l) refl
  where
    other : (b : Bool) → not b ≡ b → ⊥
    other true e = true≢false (sym e)
    other false e = true≢false e

    by : (b : Bool) → same (opposite l) l ≡ b → has_opposites (l ∷ []) ≡ false
    by true e = absurd (other l.neg (ap (λ (k : Literal). k.neg) (same-true (opposite l) l e)))
    by false e = ap (λ (b : Bool). (b || false) || false) e

cleaned_from : (old mid new : WorkState) (a : List (Option Bool)) → Propagated old mid a → Tidied mid new a [] → Cleaned old new
cleaned_from old mid new a p t = record {
  open_yet = p.open_yet;
  units = λ l. ap (λ us. has us l) t.units ∙ p.units l;
  free = In_All (IsFree new.units) (lists new.clauses) (λ c i. free_of c (map_In (λ (x : ℕ × List Literal). x.1) new.clauses c i));
  passed = λ n c both. (
    λ k. (t.passed n c both).0 (p.progress.stay n c k),
    λ k. ⊎_elim
        (λ (was : Contains old.clauses (n, c)). was)
        (λ (u : IsUnitsClause mid.units c). absurd (true≢false (sym both ∙ ap has_opposites u.alone ∙ alone_plain u.lit)))
        (p.progress.came n c ((t.passed n c both).1 k)),
  );
  lifted = lifted_along old mid new (lifted_progress old mid a p.progress) t.lifted;
  vars = (let a = p.set.range in let b = t.set.range in let v = p.progress.vars in omega arith);
  going = t.set.going;
  unspent = t.set.unspent;
  quiet = t.quiet ∙ p.progress.quiet;
  alone = λ l h. (
      let i = In_any (is_only l) (lists new.clauses) h in
      let m = map_In (λ (x : ℕ × List Literal). x.1) new.clauses i.0 i.1 in
      t.set.same l ∙ lone a l (subst (IsSettled a) (m.2 ∙ only_told l i.0 i.2) (t.settled m.0.0 m.0.1 (In_Contains new.clauses m.0 m.1))));
}
  where
    free_of : (c : List Literal) → (x : ℕ × List Literal) × In x new.clauses × (x.1 ≡ c) → IsFree new.units c
    free_of c k = ⊎_elim
        (λ (f : IsFree new.units k.0.1). subst (IsFree new.units) k.2 f)
        (λ (m : Contains [] k.0.0). (let z = m.1 in absurd (omega arith)))
        (t.free k.0.0 k.0.1 (In_Contains new.clauses k.0 k.1))

-- after propagation: all was cleaned
pub ends_done : (old mid new : WorkState) (a : List (Option Bool)) → Propagated old mid a → WasCleaned mid new a (Ok tt) → Ends old new (Ok Done) × KeepsLog old new
ends_done old mid new a p t = (cleaned_from old mid new a p t, logs_along old mid new p.log t.log)

-- or not
pub ends_stopped : (old mid new : WorkState) (a : List (Option Bool)) (stop : LineStop) → Propagated old mid a → HasCause mid new stop × KeepsLog mid new → HasCause old new stop × KeepsLog old new
ends_stopped old mid new a stop p h = (cause_after old mid new stop p.progress.quiet h.0, logs_along old mid new p.log h.1)

-- a clause is falsified
pub ends_refuted : (old mid new : WorkState) → Falsified old mid → KeepsLog mid new → (result : Result Run LineStop) → EndsRefuted mid new result → Ends old new result × KeepsLog old new
ends_refuted old mid new f log (Ok Done) h = absurd h
ends_refuted old mid new f log (Ok Refuted) h = (record { falsified = f.falsified; ended = record { ended = h.ended; unspent = h.unspent; quiet = h.quiet ∙ f.quiet } }, logs_along old mid new f.log log)
ends_refuted old mid new f log (Err stop) h = (cause_after old mid new stop f.quiet h, logs_along old mid new f.log log)
