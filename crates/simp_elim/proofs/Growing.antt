-- Clauses come, and works go on.
use Rattle.std.proofs.Common.{◌≡◌, ℕ, Bool, true, false, List, [], ◌∷◌, ◌++◌, map, refl, sym, ap, subst, ◌∙◌, inl, inr, ◌⊎◌, ⊎_elim, append_assoc, append-nil}
use Rattle.std.specs.List.{Contains, list_any, All}
use Rattle.std.specs.Prelude.{Result, Ok, Err}
use Rattle.std.proofs.lemmas.Bool.{true≢false, or_left}
use Rattle.sat_words.specs.Literal.{Literal, IsOn, same}
use Rattle.sat_words.specs.Clause.{has, is_empty, InOrder}
use Rattle.sat_words.proofs.Insertion.{clause_of_in_order}
use Rattle.sat_words.proofs.Members.{same-refl, same-true}
use Rattle.rup_model.proofs.Growth.{rup_more}
use Rattle.simp_base.proofs.Lists.{Contains_left, Contains_last}
use Rattle.rup_model.proofs.Lists.{In, In_has, has_In, any_In, In_any, In_map, map_In, In_append, In_append_left, In_append_right, Contains_In, In_Contains}
use Rattle.drat_text.specs.LineState.{LineState}
use Rattle.drat_text.specs.declared.stop.LineStop.{LineStop}
use Rattle.simp_base.specs.WorkState.{WorkState, IsWork, lists, unit_clauses, known, is_only, is_alive_unit}
use Rattle.simp_base.specs.Calls.{Added, IsListed, WasListed}
use Rattle.simp_base.specs.Log.{KeepsLog}
use Rattle.simp_base.proofs.Keeping.{only_told}
use Rattle.simp_base.proofs.Known.{known_alive, unit_among, nothing_logged}
use Rattle.simp_base.proofs.LiftSteps.{logs_along}
use Rattle.simp_base.proofs.Stopping.{not_added_cause, cause_after}
use Rattle.simp_elim.specs.Stages.{GoesOn, Stops, Grown, WasGrown, CanCome}

-- Works

pub goes_self : (w : WorkState) → w.ended ≡ false → w.output.spent ≡ false → IsWork w → GoesOn w w
goes_self w going unspent kept = record {
  going = going;
  unspent = unspent;
  work = kept;
  quiet = refl;
  vars = refl;
  log = nothing_logged w;
}

pub goes_along : (a b c : WorkState) → GoesOn a b → GoesOn b c → GoesOn a c
goes_along a b c f g = record {
  going = g.going;
  unspent = g.unspent;
  work = g.work;
  quiet = g.quiet ∙ f.quiet;
  vars = g.vars ∙ f.vars;
  log = logs_along a b c f.log g.log;
}

-- a call in the middle was refused
pub stopped_after : (start now new : WorkState) (stop : LineStop) → GoesOn start now → Stops now new stop → Stops start new stop
stopped_after start now new stop g h = (cause_after start now new stop g.quiet h.0, logs_along start now new g.log h.1)

-- what is known: a clause alive, or a unit
pub known_by : (P : List Literal → Type 0) (w : WorkState) → ((n : ℕ) (c : List Literal) → Contains w.clauses (n, c) → P c) → ((l : Literal) → has w.units l ≡ true → P (l ∷ [])) → (c : List Literal) → In c (known w) → P c
known_by P w f g c i = ⊎_elim
    (λ (k : In c (lists w.clauses)). (let t = map_In (λ (x : ℕ × List Literal). x.1) w.clauses c k in subst P t.2 (f t.0.0 t.0.1 (In_Contains w.clauses t.0 t.1))))
    (λ (k : In c (unit_clauses w.units)). (let t = map_In (λ (l : Literal). l ∷ []) w.units c k in subst P t.2 (g t.0 (In_has w.units t.0 t.1))))
    (In_append (lists w.clauses) (unit_clauses w.units) c i)

pub unit_known : (w : WorkState) (l : Literal) → has w.units l ≡ true → In (l ∷ []) (known w)
unit_known w l h = unit_among w l (has_In w.units l h)

-- Units among clauses

pub unit_alive : (w : WorkState) (l : Literal) → is_alive_unit w l ≡ true → (n : ℕ) × Contains w.clauses (n, l ∷ [])
unit_alive w l h =
    let t = In_any (is_only l) (lists w.clauses) h in
    let m = map_In (λ (x : ℕ × List Literal). x.1) w.clauses t.0 t.1 in
    let is : m.0.1 ≡ l ∷ [] = m.2 ∙ only_told l t.0 t.2 in
    (m.0.0, subst (λ (c : List Literal). Contains w.clauses (m.0.0, c)) is (In_Contains w.clauses m.0 m.1))

pub alive_unit : (w : WorkState) (l : Literal) (n : ℕ) → Contains w.clauses (n, l ∷ []) → is_alive_unit w l ≡ true
alive_unit w l n h = any_In (is_only l) (lists w.clauses) (l ∷ []) (In_map (λ (x : ℕ × List Literal). x.1) w.clauses (n, l ∷ []) (Contains_In w.clauses (n, l ∷ []) h)) (same-refl l)

-- Lists of clauses

pub map_append : {X Y : Type 0} (f : X → Y) (xs ys : List X) → map f (xs ++ ys) ≡ map f xs ++ map f ys
map_append f [] ys = refl
map_append f (x ∷ xs) ys = ap (λ (zs : List _). f x ∷ zs) (map_append f xs ys)

any_left : {X : Type 0} (p : X → Bool) (xs ys : List X) → list_any p xs ≡ true → list_any p (xs ++ ys) ≡ true
any_left p xs ys h = let t = In_any p xs h in any_In p (xs ++ ys) t.0 (In_append_left xs ys t.0 t.1) t.2

any_right : {X : Type 0} (p : X → Bool) (xs ys : List X) → list_any p ys ≡ true → list_any p (xs ++ ys) ≡ true
any_right p xs ys h = let t = In_any p ys h in any_In p (xs ++ ys) t.0 (In_append_right xs ys t.0 t.1) t.2

any_either : {X : Type 0} (p : X → Bool) (xs ys : List X) → list_any p (xs ++ ys) ≡ true → (list_any p xs ≡ true) ⊎ (list_any p ys ≡ true)
any_either p xs ys h =
    let t = In_any p (xs ++ ys) h in
    elim (In_append xs ys t.0 t.1) as (λ _. (list_any p xs ≡ true) ⊎ (list_any p ys ≡ true)) [
      | inl i ↦ inl (any_In p xs t.0 i t.2)
      | inr i ↦ inr (any_In p ys t.0 i t.2)
    ]

-- Clauses that come, one after another

pub grown_none : (w : WorkState) → w.ended ≡ false → w.output.spent ≡ false → IsWork w → Grown w w []
grown_none w going unspent kept = record {
  on = goes_self w going unspent kept;
  stack = refl;
  more = [];
  clauses = sym (append-nil w.clauses);
  are = refl;
  kept = λ l h. h;
  came = λ l h. inl h;
  listed = λ l h. absurd (true≢false (sym h));
}

pub grown_along : (a b c : WorkState) (xs ys : List (List Literal)) → Grown a b xs → Grown b c ys → Grown a c (xs ++ ys)
grown_along a b c xs ys f g = record {
  on = goes_along a b c f.on g.on;
  stack = g.stack ∙ f.stack;
  more = f.more ++ g.more;
  clauses = g.clauses ∙ ap (λ (cs : List (ℕ × List Literal)). cs ++ g.more) f.clauses ∙ append_assoc a.clauses f.more g.more;
  are = map_append (λ (x : ℕ × List Literal). x.1) f.more g.more ∙ ap (λ (zs : List (List Literal)). zs ++ lists g.more) f.are ∙ ap (λ (zs : List (List Literal)). xs ++ zs) g.are;
  kept = λ l h. g.kept l (f.kept l h);
  came = λ l h. elim (g.came l h) as (λ _. (has a.units l ≡ true) ⊎ (list_any (is_only l) (xs ++ ys) ≡ true)) [
    | inr i ↦ inr (any_right (is_only l) xs ys i)
    | inl i ↦ elim (f.came l i) as (λ _. (has a.units l ≡ true) ⊎ (list_any (is_only l) (xs ++ ys) ≡ true)) [
      | inl j ↦ inl j
      | inr j ↦ inr (any_left (is_only l) xs ys j)
    ]
  ];
  listed = λ l h. elim (any_either (is_only l) xs ys h) as (λ _. has c.units l ≡ true) [
    | inl i ↦ g.kept l (f.listed l i)
    | inr i ↦ g.listed l i
  ];
}

-- what could be added still can
pub grown_stay : (a b : WorkState) (xs : List (List Literal)) → Grown a b xs → (n : ℕ) (c : List Literal) → Contains a.clauses (n, c) → Contains b.clauses (n, c)
grown_stay a b xs g n c h = subst (λ (cs : List (ℕ × List Literal)). Contains cs (n, c)) (sym g.clauses) (Contains_left a.clauses g.more (n, c) h)

pub comes_later : (a b : WorkState) (xs : List (List Literal)) (c : List Literal) → Grown a b xs → CanCome a c → CanCome b c
comes_later a b xs c g h = record {
  follows = rup_more (known a) (known b) c (λ x i. known_by (λ y. In y (known b)) a (λ n y j. known_alive b n y (grown_stay a b xs g n y j)) (λ l j. unit_known b l (g.kept l j)) x i) h.follows;
  no_opposites = h.no_opposites;
  some = h.some;
  on = subst (λ v. All (IsOn v) c) (sym g.on.vars) h.on;
  ordered = h.ordered;
}

-- One clause

-- it came, and no unit was listed
pub record Came (old mid : WorkState) (lits : List Literal) : Type 0 where
  pub on : GoesOn old mid
  pub stack : mid.stack ≡ old.stack
  pub number : ℕ
  pub clauses : mid.clauses ≡ old.clauses ++ (number, lits) ∷ []
  pub units : mid.units ≡ old.units

pub came_added : (old mid : WorkState) (lits : List Literal) (number : ℕ) → old.output.spent ≡ false → is_empty lits ≡ false → InOrder lits → IsWork mid → Added old mid lits number → KeepsLog old mid → Came old mid lits
came_added old mid lits number unspent some ordered kept h log = record {
  on = record {
    going = ap (λ (w : WorkState). w.ended) h.state ∙ some;
    unspent = ap (λ (s : LineState). s.spent) h.line.put.state ∙ unspent;
    work = kept;
    quiet = ap (λ (s : LineState). s.faults) h.line.put.state;
    vars = ap (λ (w : WorkState). w.vars) h.state;
    log = log;
  };
  stack = ap (λ (w : WorkState). w.stack) h.state;
  number = number;
  clauses = ap (λ (w : WorkState). w.clauses) h.state ∙ ap (λ (c : List Literal). old.clauses ++ (number, c) ∷ []) (clause_of_in_order lits ordered);
  units = ap (λ (w : WorkState). w.units) h.state;
}

-- it is no single literal
pub grown_long : (old mid : WorkState) (lits : List Literal) → Came old mid lits → ((l : Literal) → is_only l lits ≡ false) → Grown old mid (lits ∷ [])
grown_long old mid lits g long = record {
  on = g.on;
  stack = g.stack;
  more = (g.number, lits) ∷ [];
  clauses = g.clauses;
  are = refl;
  kept = λ l i. ap (λ us. has us l) g.units ∙ i;
  came = λ l i. inl (ap (λ us. has us l) (sym g.units) ∙ i);
  listed = λ l i. absurd (let t = In_any (is_only l) (lits ∷ []) i in none l t.0 t.1 t.2);
}
  where
    none : (l : Literal) (c : List Literal) → In c (lits ∷ []) → is_only l c ≡ true → ⊥
    none l c (inl e) q = true≢false (sym q ∙ ap (is_only l) (sym e) ∙ long l)
    none l c (inr i) q = absurd i

-- what listing a unit whose clause is alive does
record ListedAlive (old new : WorkState) (k : Literal) : Type 0 where
  clauses : new.clauses ≡ old.clauses
  stack : new.stack ≡ old.stack
  vars : new.vars ≡ old.vars
  ended : new.ended ≡ old.ended
  output : new.output ≡ old.output
  kept : (l : Literal) → has old.units l ≡ true → has new.units l ≡ true
  came : (l : Literal) → has new.units l ≡ true → (has old.units l ≡ true) ⊎ (k ≡ l)
  there : has new.units k ≡ true

listed_alive : (old new : WorkState) (k : Literal) (b alive : Bool) → has old.units k ≡ b → alive ≡ true → IsListed b alive old new k → ListedAlive old new k
listed_alive old new k true alive e a h = record {
  clauses = ap (λ (w : WorkState). w.clauses) h;
  stack = ap (λ (w : WorkState). w.stack) h;
  vars = ap (λ (w : WorkState). w.vars) h;
  ended = ap (λ (w : WorkState). w.ended) h;
  output = ap (λ (w : WorkState). w.output) h;
  kept = λ l i. ap (λ (w : WorkState). has w.units l) h ∙ i;
  came = λ l i. inl (ap (λ (w : WorkState). has w.units l) (sym h) ∙ i);
  there = ap (λ (w : WorkState). has w.units k) h ∙ e;
}
listed_alive old new k false false e a h = absurd (true≢false (sym a))
listed_alive old new k false true e a h = record {
  clauses = ap (λ (w : WorkState). w.clauses) h;
  stack = ap (λ (w : WorkState). w.stack) h;
  vars = ap (λ (w : WorkState). w.vars) h;
  ended = ap (λ (w : WorkState). w.ended) h;
  output = ap (λ (w : WorkState). w.output) h;
  kept = λ l i. ap (λ (w : WorkState). has w.units l) h ∙ In_has (old.units ++ k ∷ []) l (In_append_left old.units (k ∷ []) l (has_In old.units l i));
  came = λ l i. either l (In_append old.units (k ∷ []) l (has_In (old.units ++ k ∷ []) l (ap (λ (w : WorkState). has w.units l) (sym h) ∙ i)));
  there = ap (λ (w : WorkState). has w.units k) h ∙ In_has (old.units ++ k ∷ []) k (In_append_right old.units (k ∷ []) k (inl refl));
}
  where
    either : (l : Literal) → In l old.units ⊎ In l (k ∷ []) → (has old.units l ≡ true) ⊎ (k ≡ l)
    either l (inl i) = inl (In_has old.units l i)
    either l (inr (inl q)) = inr q
    either l (inr (inr z)) = absurd z

-- it is, and is listed then
pub grown_unit : (old mid new : WorkState) (k : Literal) → Came old mid (k ∷ []) → IsListed (has mid.units k) (is_alive_unit mid k) mid new k → IsWork new → KeepsLog mid new → Grown old new ((k ∷ []) ∷ [])
grown_unit old mid new k g h kept log =
    let alive : is_alive_unit mid k ≡ true = alive_unit mid k g.number (subst (λ (cs : List (ℕ × List Literal)). Contains cs (g.number, k ∷ [])) (sym g.clauses) (Contains_last old.clauses (g.number, k ∷ []))) in
    let t = listed_alive mid new k (has mid.units k) (is_alive_unit mid k) refl alive h in
    record {
      on = record {
        going = t.ended ∙ g.on.going;
        unspent = ap (λ (s : LineState). s.spent) t.output ∙ g.on.unspent;
        work = kept;
        quiet = ap (λ (s : LineState). s.faults) t.output ∙ g.on.quiet;
        vars = t.vars ∙ g.on.vars;
        log = logs_along old mid new g.on.log log;
      };
      stack = t.stack ∙ g.stack;
      more = (g.number, k ∷ []) ∷ [];
      clauses = t.clauses ∙ g.clauses;
      are = refl;
      kept = λ l i. t.kept l (ap (λ us. has us l) g.units ∙ i);
      came = λ l i. elim (t.came l i) as (λ _. (has old.units l ≡ true) ⊎ (list_any (is_only l) ((k ∷ []) ∷ []) ≡ true)) [
        | inl j ↦ inl (ap (λ us. has us l) (sym g.units) ∙ j)
        | inr e ↦ inr (or_left (same k l) false (ap (same k) (sym e) ∙ same-refl k))
      ];
      listed = λ l i. only l (In_any (is_only l) ((k ∷ []) ∷ []) i) t.there;
    }
  where
    only : (l : Literal) → ((c : List Literal) × In c ((k ∷ []) ∷ []) × (is_only l c ≡ true)) → has new.units k ≡ true → has new.units l ≡ true
    only l (c, inl e, q) th = ap (has new.units) (sym (same-true k l (ap (is_only l) e ∙ q))) ∙ th
    only l (c, inr z, q) th = absurd z

pub was_grown_unit : (old mid new : WorkState) (k : Literal) → Came old mid (k ∷ []) → IsWork new → KeepsLog mid new → (result : Result (Unit {0}) LineStop) → WasListed mid new k result → WasGrown old new ((k ∷ []) ∷ []) result
was_grown_unit old mid new k g kept log (Ok done) h = grown_unit old mid new k g h kept log
was_grown_unit old mid new k g kept log (Err stop) h = stopped_after old mid new stop g.on (not_added_cause mid new (k ∷ []) stop g.on.going h, log)
