-- A clause comes, and works go on.
use Rattle.std.proofs.Common.{◌≡◌, ℕ, Bool, true, false, List, [], ◌∷◌, ◌++◌, refl, sym, ap, subst, ◌∙◌, inl, inr, ⊎_elim, ◌<◌, length, get_or, drop, add-one, ◌+◌}
use Rattle.std.proofs.Math.Seq.{drop-cons}
use Rattle.std.specs.List.{Contains}
use Rattle.std.specs.Prelude.{Result, Ok, Err}
use Rattle.sat_words.specs.Literal.{Literal}
use Rattle.sat_words.specs.Clause.{has, is_empty, clause_of}
use Rattle.sat_words.proofs.Insertion.{has-clause_of}
use Rattle.rup_model.proofs.Lists.{In, In_has, has_In, In_append, In_append_left, In_append_right, map_In, Contains_In, In_Contains}
use Rattle.drat_text.specs.LineState.{LineState}
use Rattle.drat_text.specs.declared.stop.LineStop.{LineStop}
use Rattle.simp_base.specs.WorkState.{WorkState, IsWork, lists, unit_clauses, known, is_alive_unit}
use Rattle.simp_base.specs.Calls.{Added, IsListed, WasListed}
use Rattle.simp_base.specs.Log.{KeepsLog}
use Rattle.simp_base.proofs.Known.{known_alive, unit_among, nothing_logged, Grew, grew}
use Rattle.simp_base.proofs.LiftSteps.{logs_along}
use Rattle.simp_base.proofs.Stopping.{not_added_cause, cause_after}
use Rattle.simp_base.proofs.Lists.{Contains_left, Contains_last, Contains_apart}
use Rattle.simp_equiv.specs.Rewritten.{GoesOn, Grown, WasGrown}
use Rattle.simp_base.specs.Causes.{HasCause}

-- The rest of a list, with its first

pub front : (numbers : List ℕ) (i : ℕ) → i < length numbers → drop i numbers ≡ get_or numbers i 0 ∷ drop (i + 1) numbers
front numbers i lt = drop-cons numbers i 0 lt ∙ ap (λ j. get_or numbers i 0 ∷ drop j numbers) (sym (add-one i))

-- Works

pub goes_self : (w : WorkState) → w.ended ≡ false → w.output.spent ≡ false → IsWork w → GoesOn w w
goes_self w going unspent kept = record {
  going = going;
  unspent = unspent;
  work = kept;
  quiet = refl;
  stack = refl;
  vars = refl;
  units = λ l h. h;
  log = nothing_logged w;
}

pub goes_along : (a b c : WorkState) → GoesOn a b → GoesOn b c → GoesOn a c
goes_along a b c f g = record {
  going = g.going;
  unspent = g.unspent;
  work = g.work;
  quiet = g.quiet ∙ f.quiet;
  stack = g.stack ∙ f.stack;
  vars = g.vars ∙ f.vars;
  units = λ l h. g.units l (f.units l h);
  log = logs_along a b c f.log g.log;
}

-- Stops

-- a call in the middle was refused
pub stopped_after : (start now new : WorkState) (stop : LineStop) → GoesOn start now → HasCause now new stop × KeepsLog now new → HasCause start new stop × KeepsLog start new
stopped_after start now new stop g h = (cause_after start now new stop g.quiet h.0, logs_along start now new g.log h.1)

-- what is known: a clause alive, or a unit
pub known_by : (P : List Literal → Type 0) (w : WorkState) → ((n : ℕ) (c : List Literal) → Contains w.clauses (n, c) → P c) → ((l : Literal) → has w.units l ≡ true → P (l ∷ [])) → (c : List Literal) → In c (known w) → P c
known_by P w f g c i = ⊎_elim
    (λ (k : In c (lists w.clauses)). (let t = map_In (λ (x : ℕ × List Literal). x.1) w.clauses c k in subst P t.2 (f t.0.0 t.0.1 (In_Contains w.clauses t.0 t.1))))
    (λ (k : In c (unit_clauses w.units)). (let t = map_In (λ (l : Literal). l ∷ []) w.units c k in subst P t.2 (g t.0 (In_has w.units t.0 t.1))))
    (In_append (lists w.clauses) (unit_clauses w.units) c i)

pub alive_known : (w : WorkState) (n : ℕ) (c : List Literal) → Contains w.clauses (n, c) → Contains (known w) c
alive_known w n c h = In_Contains (known w) c (known_alive w n c h)

pub unit_known : (w : WorkState) (l : Literal) → has w.units l ≡ true → Contains (known w) (l ∷ [])
unit_known w l h = In_Contains (known w) (l ∷ []) (unit_among w l (has_In w.units l h))

pub in_known : (w : WorkState) (c : List Literal) → Contains (lists w.clauses) c → Contains (known w) c
in_known w c h = In_Contains (known w) c (In_append_left (lists w.clauses) (unit_clauses w.units) c (Contains_In (lists w.clauses) c h))

-- if no clause and no unit is gone, all is known that was
pub known_grows : (old new : WorkState) → ((n : ℕ) (c : List Literal) → Contains old.clauses (n, c) → Contains new.clauses (n, c)) → ((l : Literal) → has old.units l ≡ true → has new.units l ≡ true)
    → (c : List Literal) → Contains (known old) c → Contains (known new) c
known_grows old new stay units c h =
    known_by (λ x. Contains (known new) x) old (λ n x i. alive_known new n x (stay n x i)) (λ l i. unit_known new l (units l i)) c (Contains_In (known old) c h)

-- Clauses that come

pub grown_added : (old new : WorkState) (lits : List Literal) (number : ℕ) → old.output.spent ≡ false → is_empty lits ≡ false → IsWork new → Added old new lits number → KeepsLog old new → Grown old new lits
grown_added old new lits number unspent some kept h log =
    let clauses : new.clauses ≡ old.clauses ++ (number, clause_of lits) ∷ [] = ap (λ (w : WorkState). w.clauses) h.state in
    let units : new.units ≡ old.units = ap (λ (w : WorkState). w.units) h.state in
    record {
      on = record {
        going = ap (λ (w : WorkState). w.ended) h.state ∙ some;
        unspent = ap (λ (s : LineState). s.spent) h.line.put.state ∙ unspent;
        work = kept;
        quiet = ap (λ (s : LineState). s.faults) h.line.put.state;
        stack = ap (λ (w : WorkState). w.stack) h.state;
        vars = ap (λ (w : WorkState). w.vars) h.state;
        units = λ l i. ap (λ us. has us l) units ∙ i;
        log = log;
      };
      stay = λ n c i. subst (λ (cs : List (ℕ × List Literal)). Contains cs (n, c)) (sym clauses) (Contains_left old.clauses ((number, clause_of lits) ∷ []) (n, c) i);
      came = λ n c i. ⊎_elim
          (λ (k : Contains old.clauses (n, c)). inl k)
          (λ (q : ◌≡◌ {A = ℕ × List Literal} (number, clause_of lits) (n, c)). inr (λ l. ap (λ (x : ℕ × List Literal). has x.1 l) (sym q) ∙ has-clause_of lits l))
          (Contains_apart old.clauses (number, clause_of lits) (n, c) (subst (λ (cs : List (ℕ × List Literal)). Contains cs (n, c)) clauses i));
      there = (clause_of lits, alive_known new number (clause_of lits) (subst (λ (cs : List (ℕ × List Literal)). Contains cs (number, clause_of lits)) (sym clauses) (Contains_last old.clauses (number, clause_of lits))), has-clause_of lits);
    }

grown_listed : (old new : WorkState) (l : Literal) → old.ended ≡ false → old.output.spent ≡ false → IsWork new → (b : Bool) → has old.units l ≡ b → IsListed b (is_alive_unit old l) old new l → KeepsLog old new → Grown old new (l ∷ [])
grown_listed old new l going unspent kept true e h log = record {
  on = record {
    going = ap (λ (w : WorkState). w.ended) h ∙ going;
    unspent = ap (λ (w : WorkState). w.output.spent) h ∙ unspent;
    work = kept;
    quiet = ap (λ (w : WorkState). w.output.faults) h;
    stack = ap (λ (w : WorkState). w.stack) h;
    vars = ap (λ (w : WorkState). w.vars) h;
    units = λ k i. ap (λ (w : WorkState). has w.units k) h ∙ i;
    log = log;
  };
  stay = λ n c i. subst (λ (w : WorkState). Contains w.clauses (n, c)) (sym h) i;
  came = λ n c i. inl (subst (λ (w : WorkState). Contains w.clauses (n, c)) h i);
  there = (l ∷ [], unit_known new l (ap (λ (w : WorkState). has w.units l) h ∙ e), λ k. refl);
}
grown_listed old new l going unspent kept false e h log =
    let g : Grew old new l = grew old new l false (is_alive_unit old l) refl h in
    record {
      on = record {
        going = g.ended ∙ going;
        unspent = g.spent ∙ unspent;
        work = kept;
        quiet = g.faults;
        stack = g.stack;
        vars = g.vars;
        units = λ k i. subst (λ us. has us k ≡ true) (sym g.units) (In_has (old.units ++ l ∷ []) k (In_append_left old.units (l ∷ []) k (has_In old.units k i)));
        log = log;
      };
      stay = λ n c i. subst (λ (cs : List (ℕ × List Literal)). Contains cs (n, c)) (sym g.clauses) (Contains_left old.clauses g.extra (n, c) i);
      came = λ n c i. ⊎_elim
          (λ (k : In {X = ℕ × List Literal} (n, c) old.clauses). inl (In_Contains old.clauses (n, c) k))
          (λ (k : In {X = ℕ × List Literal} (n, c) g.extra). inr (λ m. ap (λ x. has x m) (g.alone (n, c) k)))
          (In_append old.clauses g.extra (n, c) (subst (λ (cs : List (ℕ × List Literal)). In {X = ℕ × List Literal} (n, c) cs) g.clauses (Contains_In new.clauses (n, c) i)));
      there = (l ∷ [], unit_known new l (subst (λ us. has us l ≡ true) (sym g.units) (In_has (old.units ++ l ∷ []) l (In_append_right old.units (l ∷ []) l (inl refl)))), λ k. refl);
    }

pub was_listed : (old new : WorkState) (l : Literal) → old.ended ≡ false → old.output.spent ≡ false → IsWork new → KeepsLog old new → (result : Result (Unit {0}) LineStop) → WasListed old new l result → WasGrown old new (l ∷ []) result
was_listed old new l going unspent kept log (Ok done) h = grown_listed old new l going unspent kept (has old.units l) refl h log
was_listed old new l going unspent kept log (Err stop) h = (not_added_cause old new (l ∷ []) stop going h, log)
