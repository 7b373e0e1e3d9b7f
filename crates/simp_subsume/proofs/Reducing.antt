-- What is known gets shorter.
use Rattle.std.proofs.Common.{◌≡◌, ◌≢◌, ℕ, ◌<◌, true, false, List, [], ◌∷◌, refl, sym, ap, subst, ◌∙◌, ⊎_elim, append-nil, arith, inl, inr}
use mathlib.Core.Logic.{dite}
use native.Mathlib.Decide.{ℕ_discrete}
use Rattle.std.specs.List.{Contains}
use Rattle.std.proofs.lemmas.Bool.{true≢false}
use Rattle.sat_words.specs.Literal.{Literal}
use Rattle.sat_words.specs.Clause.{has, includes}
use Rattle.rup_model.proofs.Lists.{In, In_has, has_In, In_append, map_In, Contains_In, In_Contains}
use Rattle.drat_text.specs.LineState.{LineState}
use Rattle.simp_base.specs.WorkState.{WorkState, IsWork, known, lists, unit_clauses}
use Rattle.simp_base.specs.Calls.{Deleted}
use Rattle.simp_base.specs.Lifted.{Lifted}
use Rattle.simp_base.specs.Log.{KeepsLog}
use Rattle.simp_base.specs.Parts.{takes_part}
use Rattle.simp_base.proofs.Known.{known_alive, unit_among, nothing_logged}
use Rattle.simp_base.proofs.LiftSteps.{logs_along}
use Rattle.simp_base.proofs.Removal.{same_number}
use Rattle.simp_base.proofs.Weaken.{weaker}
use Rattle.simp_subsume.specs.Compared.{Reduces, Grown}
use Rattle.simp_subsume.proofs.Relating.{subsumes_in, in_subsumes}

-- Clauses in clauses

pub includes_self : (c : List Literal) → includes c c ≡ true
includes_self c = in_subsumes c c (λ k h. h)

includes_along : (c d e : List Literal) → includes c d ≡ true → includes d e ≡ true → includes c e ≡ true
includes_along c d e f g = in_subsumes e c (λ k h. subsumes_in d c f k (subsumes_in e d g k h))

-- what is known: a clause alive, or a unit
pub known_by : (P : List Literal → Type 0) (w : WorkState) → ((n : ℕ) (c : List Literal) → Contains w.clauses (n, c) → P c) → ((l : Literal) → has w.units l ≡ true → P (l ∷ [])) → (c : List Literal) → In c (known w) → P c
known_by P w f g c i = ⊎_elim
    (λ (k : In c (lists w.clauses)). (let t = map_In (λ (x : ℕ × List Literal). x.1) w.clauses c k in subst P t.2 (f t.0.0 t.0.1 (In_Contains w.clauses t.0 t.1))))
    (λ (k : In c (unit_clauses w.units)). (let t = map_In (λ (l : Literal). l ∷ []) w.units c k in subst P t.2 (g t.0 (In_has w.units t.0 t.1))))
    (In_append (lists w.clauses) (unit_clauses w.units) c i)

pub alive_known : (w : WorkState) (n : ℕ) (c : List Literal) → Contains w.clauses (n, c) → Contains (known w) c
alive_known w n c h = In_Contains (known w) c (known_alive w n c h)

pub unit_known : (w : WorkState) (l : Literal) → has w.units l ≡ true → Contains (known w) (l ∷ [])
unit_known w l h = In_Contains (known w) (l ∷ []) (unit_among w l (has_In w.units l h))

-- Works

pub reduces_self : (w : WorkState) → w.ended ≡ false → w.output.spent ≡ false → IsWork w → Reduces w w
reduces_self w going unspent kept = record {
  going = going;
  unspent = unspent;
  work = kept;
  quiet = refl;
  vars = refl;
  units = λ l h. h;
  stack = refl;
  passed = λ n c none h. h;
  covered = λ c h. (c, h, includes_self c);
  parts = λ c h. (c, h, includes_self c);
  later = omega arith;
  numbered = λ n c i. inl i;
  log = nothing_logged w;
}

pub reduces_along : (a b c : WorkState) → Reduces a b → Reduces b c → Reduces a c
reduces_along a b c f g = record {
  going = g.going;
  unspent = g.unspent;
  work = g.work;
  quiet = g.quiet ∙ f.quiet;
  stack = g.stack ∙ f.stack;
  vars = g.vars ∙ f.vars;
  units = λ l h. g.units l (f.units l h);
  passed = λ n c none h. g.passed n c none (f.passed n c none h);
  covered = λ x h. (let t = f.covered x h in let u = g.covered t.0 t.1 in (u.0, u.1, includes_along x t.0 u.0 t.2 u.2));
  parts = λ x h. (let t = g.parts x h in let u = f.parts t.0 t.1 in (u.0, u.1, includes_along u.0 t.0 x u.2 t.2));
  later = (let p = f.later in let q = g.later in omega arith);
  numbered = λ n x i. ⊎_elim
      (λ (j : Contains b.clauses (n, x)). f.numbered n x j)
      (λ (q : b.output.last < n). inr (let p = f.later in omega arith))
      (g.numbered n x i);
  log = logs_along a b c f.log g.log;
}

-- models lift with nothing on the stack
pub lifted_reduced : (old new : WorkState) → Reduces old new → Lifted old new
lifted_reduced old new r = record {
  fixes = [];
  stack = r.stack ∙ sym (append-nil old.stack);
  lifts = λ a t. weaker a (known old) (known new) (λ c i. (let u = r.covered c (In_Contains (known old) c i) in (u.0, Contains_In (known new) u.0 u.1, u.2))) t;
}

-- a clause that contains something that is known afterwards was deleted
pub reduces_deleted : (old new : WorkState) → old.ended ≡ false → old.output.spent ≡ false → IsWork old → IsWork new → KeepsLog old new → (number : ℕ) (h : Deleted old new number)
    → takes_part h.clause ≡ true → (e : List Literal) → Contains (known new) e → includes h.clause e ≡ true → Reduces old new
reduces_deleted old new going unspent was kept log number h part e among inside = record {
  going = ap (λ (w : WorkState). w.ended) h.state ∙ going;
  unspent = ap (λ (s : LineState). s.spent) h.put.state ∙ unspent;
  work = kept;
  quiet = ap (λ (s : LineState). s.faults) h.put.state;
  stack = ap (λ (w : WorkState). w.stack) h.state;
  vars = ap (λ (w : WorkState). w.vars) h.state;
  units = λ l i. ap (λ (w : WorkState). has w.units l) h.state ∙ i;
  passed = λ n x none i. dite (ℕ_discrete n number)
      (λ (q : n ≡ number). absurd (true≢false (sym part ∙ ap takes_part (same_number old.clauses was.numbers number h.clause x h.alive (subst (λ (m : ℕ). Contains old.clauses (m, x)) q i)) ∙ none)))
      (λ (ne : n ≢ number). (h.others n x).1 (i, ne));
  covered = λ c k. known_by (λ x. (d : List Literal) × Contains (known new) d × (includes x d ≡ true)) old
      (λ n x i. dite (ℕ_discrete n number)
      (λ (q : n ≡ number). (e, among, subst (λ y. includes y e ≡ true) (same_number old.clauses was.numbers number h.clause x h.alive (subst (λ (m : ℕ). Contains old.clauses (m, x)) q i)) inside))
      (λ (ne : n ≢ number). (x, alive_known new n x ((h.others n x).1 (i, ne)), includes_self x)))
      (λ l i. (l ∷ [], unit_known new l (ap (λ us. has us l) (ap (λ (w : WorkState). w.units) h.state) ∙ i), includes_self (l ∷ [])))
      c (Contains_In (known old) c k);
  parts = λ c k. known_by (λ x. (d : List Literal) × Contains (known old) d × (includes d x ≡ true)) new
      (λ n x i. (x, alive_known old n x ((h.others n x).0 i).0, includes_self x))
      (λ l i. (l ∷ [], unit_known old l (ap (λ us. has us l) (sym (ap (λ (w : WorkState). w.units) h.state)) ∙ i), includes_self (l ∷ [])))
      c (Contains_In (known new) c k);
  later = (let e : new.output.last ≡ old.output.last = ap (λ (s : LineState). s.last) h.put.state in omega arith);
  numbered = λ n x i. inl ((h.others n x).0 i).0;
  log = log;
}

-- a part of a clause alive came
pub reduces_grown : (old new : WorkState) (lits : List Literal) → IsWork new → Grown old new lits → (number : ℕ) (d : List Literal) → Contains old.clauses (number, d) → ((k : Literal) → has lits k ≡ true → has d k ≡ true) → Reduces old new
reduces_grown old new lits kept g number d alive inside = record {
  going = g.going;
  unspent = g.unspent;
  work = kept;
  quiet = g.quiet;
  stack = g.stack;
  vars = g.vars;
  units = g.units_stay;
  passed = λ n x none i. g.stay n x i;
  covered = λ c k. known_by (λ x. (d : List Literal) × Contains (known new) d × (includes x d ≡ true)) old
      (λ n x i. (x, alive_known new n x (g.stay n x i), includes_self x))
      (λ l i. (l ∷ [], unit_known new l (g.units_stay l i), includes_self (l ∷ [])))
      c (Contains_In (known old) c k);
  parts = λ c k. known_by (λ x. (d : List Literal) × Contains (known old) d × (includes d x ≡ true)) new
      (λ n x i. ⊎_elim
      (λ (j : Contains old.clauses (n, x)). (x, alive_known old n x j, includes_self x))
      (λ (j : (old.output.last < n) × ((l : Literal) → has x l ≡ has lits l)). (d, alive_known old number d alive, in_subsumes x d (λ l h. inside l (sym (j.1 l) ∙ h))))
      (g.came n x i))
      (λ l i. ⊎_elim
      (λ (j : has old.units l ≡ true). (l ∷ [], unit_known old l j, includes_self (l ∷ [])))
      (λ (j : lits ≡ l ∷ []). (d, alive_known old number d alive, in_subsumes (l ∷ []) d (λ m h. inside m (ap (λ x. has x m) j ∙ h))))
      (g.units_came l i))
      c (Contains_In (known new) c k);
  later = g.later;
  numbered = λ n x i. ⊎_elim
      (λ (j : Contains old.clauses (n, x)). inl j)
      (λ (j : (old.output.last < n) × ((l : Literal) → has x l ≡ has lits l)). inr j.0)
      (g.came n x i);
  log = g.log;
}
