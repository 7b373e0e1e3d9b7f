-- What is known of a work.
use Rattle.std.proofs.Common.{◌≡◌, ◌⊎◌, ℕ, ◌<◌, ◌≤◌, arith, false, true, List, [], ◌∷◌, ◌++◌, refl, sym, ap, ◌∙◌, subst, inl, inr, Bool, not, ◌≢◌, ◌||◌, Contains, append-nil, ◌+◌, ne_eqb}
use Rattle.std.proofs.lemmas.Bool.{true≢false}
use Rattle.sat_words.specs.Literal.{Literal, IsOn, code_of}
use Rattle.sat_words.specs.Clause.{has_opposites}
use Rattle.rup_model.specs.Rup.{rup}
use Rattle.rup_model.proofs.Growth.{rup_more}
use Rattle.rup_model.proofs.Lists.{In, In_any, In_map, map_In, In_append, In_append_left, In_append_right, Contains_In, In_Contains}
use Rattle.std.specs.List.{All}
use Rattle.drat_text.specs.LineState.{LineState}
use Rattle.simp_base.specs.WorkState.{WorkState, IsWork, known, lists, unit_clauses, is_only, is_alive_unit}
use Rattle.simp_base.specs.Calls.{IsListed}
use Rattle.simp_base.specs.Log.{KeepsLog, Stands}
use Rattle.simp_base.proofs.Lists.{All_In}
use Rattle.simp_base.proofs.Keeping.{only_told}

pub known_alive : (w : WorkState) (n : ℕ) (c : List Literal) → Contains w.clauses (n, c) → In c (known w)
known_alive w n c h = In_append_left (lists w.clauses) (unit_clauses w.units) c (In_map (λ (x : ℕ × List Literal). x.1) w.clauses (n, c) (Contains_In w.clauses (n, c) h))

pub unit_among : (w : WorkState) (u : Literal) → In u w.units → In (u ∷ []) (known w)
unit_among w u i = In_append_right (lists w.clauses) (unit_clauses w.units) (u ∷ []) (In_map (λ l. l ∷ []) w.units u i)

pub on_alive : (w : WorkState) → IsWork w → (n : ℕ) (c : List Literal) → Contains w.clauses (n, c) → (k : Literal) → In k c → IsOn w.vars k
on_alive w kept n c h k i =
    All_In (IsOn w.vars) c k (All_In (All (IsOn w.vars)) (lists w.clauses) c kept.clauses_on (In_map (λ (x : ℕ × List Literal). x.1) w.clauses (n, c) (Contains_In w.clauses (n, c) h))) i

pub nothing_logged : (w : WorkState) → KeepsLog w w
nothing_logged w = ([], record { vars = refl; format = refl; stands = λ o mine h. subst (λ es. Stands o es w) (sym (append-nil mine)) h })

pub first_or_rest : (q : ℕ) (rest : List ℕ) (p : ℕ) → Contains (q ∷ rest) p → (q ≡ p) ⊎ Contains rest p
first_or_rest q rest p h = elim (Contains_In (q ∷ rest) p h) as (λ _. (q ≡ p) ⊎ Contains rest p) [ inl e ↦ inl e | inr i ↦ inr (In_Contains rest p i) ]

-- What listing a new unit does

pub record Grew (old new : WorkState) (k : Literal) : Type 0 where
  pub units : new.units ≡ old.units ++ k ∷ []
  pub extra : List (ℕ × List Literal)
  pub alone : (x : ℕ × List Literal) → In x extra → x.1 ≡ k ∷ []
  pub later : old.output.last ≤ new.output.last
  pub late : (x : ℕ × List Literal) → In x extra → old.output.last < x.0
  pub clauses : new.clauses ≡ old.clauses ++ extra
  pub vars : new.vars ≡ old.vars
  pub stack : new.stack ≡ old.stack
  pub ended : new.ended ≡ old.ended
  pub spent : new.output.spent ≡ old.output.spent
  pub faults : new.output.faults ≡ old.output.faults

pub grew : (old new : WorkState) (k : Literal) (b alive : Bool) → b ≡ false → IsListed b alive old new k → Grew old new k
grew old new k true alive e h = absurd (true≢false e)
grew old new k false true e h = record {
  units = ap (λ (w : WorkState). w.units) h;
  extra = [];
  alone = λ x i. absurd i;
  later = (let e : new.output.last ≡ old.output.last = ap (λ (w : WorkState). w.output.last) h in omega arith);
  late = λ x i. absurd i;
  clauses = ap (λ (w : WorkState). w.clauses) h ∙ sym (append-nil old.clauses);
  vars = ap (λ (w : WorkState). w.vars) h;
  stack = ap (λ (w : WorkState). w.stack) h;
  ended = ap (λ (w : WorkState). w.ended) h;
  spent = ap (λ (w : WorkState). w.output.spent) h;
  faults = ap (λ (w : WorkState). w.output.faults) h;
}
grew old new k false false e h = record {
  units = ap (λ (w : WorkState). w.units) h.state;
  extra = (h.number, k ∷ []) ∷ [];
  alone = one;
  later = (let e : new.output.last ≡ old.output.last + 1 = ap (λ (s : LineState). s.last) h.line.put.state in omega arith);
  late = after;
  clauses = ap (λ (w : WorkState). w.clauses) h.state;
  vars = ap (λ (w : WorkState). w.vars) h.state;
  stack = ap (λ (w : WorkState). w.stack) h.state;
  ended = ap (λ (w : WorkState). w.ended) h.state;
  spent = ap (λ (s : LineState). s.spent) h.line.put.state;
  faults = ap (λ (s : LineState). s.faults) h.line.put.state;
}
  where
    one : (x : ℕ × List Literal) → In x ((h.number, k ∷ []) ∷ []) → x.1 ≡ k ∷ []
    one x (inl q) = sym (ap (λ (y : ℕ × List Literal). y.1) q)
    one x (inr i) = absurd i

    after : (x : ℕ × List Literal) → In x ((h.number, k ∷ []) ∷ []) → old.output.last < x.0
    after x (inl q) = let given = h.line.given in let e : h.number ≡ x.0 = ap (λ (y : ℕ × List Literal). y.0) q in omega arith
    after x (inr i) = absurd i

-- Hints

-- a clause follows from the clauses held alone, since those of the units are among them
pub rup_held : (w : WorkState) → IsWork w → (lits : List Literal) → rup (known w) lits ≡ true → rup (lists w.clauses) lits ≡ true
rup_held w kept lits = rup_more (known w) (lists w.clauses) lits among
  where
    among : (d : List Literal) → In d (known w) → In d (lists w.clauses)
    among d i = elim (In_append (lists w.clauses) (unit_clauses w.units) d i) as (λ _. In d (lists w.clauses)) [
      | inl held ↦ held
      | inr unit ↦ (
          let t = map_In (λ l. l ∷ []) w.units d unit in
          let u = In_any (is_only t.0) (lists w.clauses) (All_In (λ l. is_alive_unit w l ≡ true) w.units t.0 kept.units_held t.1) in
          subst (λ (x : List Literal). In x (lists w.clauses)) (only_told t.0 u.0 u.2 ∙ t.2) u.1)
    ]

-- a literal alone has no opposite beside it
pub lone_opposites : (l : Literal) → has_opposites (l ∷ []) ≡ false
lone_opposites l = ap (λ b. (b || false) || false) (ne_eqb _ _ (away l.neg))
  where
    away : (n : Bool) → code_of (record { var = l.var; neg = not n }) ≢ code_of (record { var = l.var; neg = n })
    away true e = let z = e in omega (arith, z)
    away false e = let z = e in omega (arith, z)
