-- Clauses that are deleted or made shorter once the units are propagated.
use Rattle.std.proofs.Common.{◌≡◌, ◌≢◌, ◌⊎◌, ℕ, suc, ◌+◌, ◌≤◌, ◌||◌, ◌==◌, Bool, true, false, not, cond, List, [], ◌∷◌, length, filter, get_or, refl, sym, ap, subst, ◌∙◌, inl, inr, ⊎_elim, Option, Contains, arith, append-nil}
use Rattle.std.specs.List.{list_any, All}
use Rattle.std.proofs.lemmas.Bool.{or_right, and_from, cases_Bool, true≢false, false≢true}
use Rattle.std.proofs.lemmas.Bool.Decides.{nat_tests}
use Rattle.std.proofs.lemmas.List.{map-append}
use Rattle.std.specs.Prelude.{Result, Ok, Err}
use Rattle.sat_words.specs.Literal.{Literal, IsOn, opposite, same}
use Rattle.drat_text.specs.LineOut.{deleted_line}
use Rattle.sat_words.specs.Clause.{has, includes, has_opposites, clause_of, is_empty}
use Rattle.sat_words.proofs.Insertion.{has-clause_of}
use Rattle.sat_words.specs.Values.{is_true, is_value, value_of}
use Rattle.rup_model.specs.Rounds.{falsifies}
use Rattle.rup_model.specs.Rup.{rup}
use Rattle.rup_model.specs.Status.{IsSettled}
use Rattle.rup_model.proofs.Lists.{In, In_any, any_In, none_In, all_In, In_all, In_has, has_In, In_append, In_append_left, In_append_right, In_get_or, Contains_In}
use Rattle.rup_model.proofs.RoundsLemmas.{forces-parts}
use Rattle.drat_text.specs.LineState.{LineState}
use Rattle.drat_text.specs.declared.stop.LineStop.{LineStop}
use Rattle.simp_base.specs.WorkState.{WorkState, IsWork, known, lists, unit_clauses}
use Rattle.simp_base.specs.Calls.{Added, Deleted, WasDeleted}
use Rattle.simp_base.specs.Lifted.{Lifted}
use Rattle.simp_base.specs.Log.{KeepsLog}
use Rattle.simp_base.proofs.Weaken.{weaker, lifted_deleted}
use Rattle.simp_base.specs.Causes.{HasCause}
use Rattle.simp_base.proofs.Stopping.{not_put_cause, cause_after}
use Rattle.simp_base.proofs.Filters.{In_filter, filter_In}
use Rattle.simp_base.proofs.LiftSteps.{lifted_along, lifted_self, logs_along}
use Rattle.simp_base.proofs.Lists.{All_In, Contains_left, Contains_last, Contains_apart}
use Rattle.simp_base.proofs.Removal.{same_number}
use Rattle.simp_units.specs.Ends.{is_fixed, IsFree}
use Rattle.simp_units.specs.Progress.{IsSet}
use Rattle.simp_units.specs.Tidied.{left_of, IsUntouched, IsWhole, IsPart, IsLeft, IsLeftAt, Tidied, WasTidied}
use Rattle.simp_units.specs.declared.clean.Remainder.{Remainder}
use Rattle.simp_units.specs.declared.clean.Remainder.TheVariants.{Whole, Nothing, Part}
use Rattle.simp_units.proofs.Forcing.{shortened_follows}
use Rattle.simp_base.proofs.Known.{first_or_rest, known_alive, unit_among, on_alive, nothing_logged}

not_true : (b : Bool) → not b ≡ true → b ≡ false
not_true true h = absurd (false≢true h)
not_true false h = refl

-- of two lists with the same literals
opposites_alike : (c d : List Literal) → ((l : Literal) → has d l ≡ has c l) → has_opposites c ≡ false → has_opposites d ≡ false
opposites_alike c d alike none = elim (cases_Bool (has_opposites d)) as (λ _. has_opposites d ≡ false) [
  | inl h ↦ (
      let t = In_any (λ l. has d (opposite l)) d h in
      absurd (true≢false (sym (any_In (λ l. has c (opposite l)) c t.0 (has_In c t.0 (sym (alike t.0) ∙ In_has d t.0 t.1)) (sym (alike (opposite t.0)) ∙ t.2)) ∙ none)))
  | inr f ↦ f
]

-- What has no value is no unit's

module _ (w : WorkState) (a : List (Option Bool)) (s : IsSet w a) where
  untouched_free : (l : Literal) → is_true a l ≡ false → is_true a (opposite l) ≡ false → is_fixed w.units l.var ≡ false
  untouched_free l off none = elim (cases_Bool (is_fixed w.units l.var)) as (λ _. is_fixed w.units l.var ≡ false) [
    | inl h ↦ (
        let t = In_any (λ u. u.var == l.var) w.units h in
        let e : t.0.var ≡ l.var = grind (arith, nat_tests, t.2) in
        let on : is_value (value_of a l.var) (not t.0.neg) ≡ true = ap (λ (v : ℕ). is_value (value_of a v) (not t.0.neg)) (sym e) ∙ sym (s.same t.0) ∙ In_has w.units t.0 t.1 in
        ⊎_elim
        (λ (q : is_true a l ≡ true). absurd (true≢false (sym q ∙ off)))
        (λ (q : is_true a (opposite l) ≡ true). absurd (true≢false (sym q ∙ none)))
        (either (value_of a l.var) t.0.neg l.neg on))
    | inr n ↦ n
  ]
    where
      either : (x : Option Bool) (b d : Bool) → is_value x (not b) ≡ true → (is_value x (not d) ≡ true) ⊎ (is_value x (not (not d)) ≡ true)
      either x true true h = inl h
      either x false false h = inl h
      either x true false h = inr h
      either x false true h = inr h

  pub free_if_untouched : (c : List Literal) → IsUntouched a c → All (λ l. is_fixed w.units l.var ≡ false) c
  free_if_untouched c all k d lt = untouched_free (get_or c k d) (all k d lt).0 (all k d lt).1

-- What is left of a settled clause is settled

pub settled_alike : (a : List (Option Bool)) (c d : List Literal) → ((l : Literal) → has d l ≡ has c l) → IsSettled a c → IsSettled a d
settled_alike a c d alike s = record {
  open_yet = elim (cases_Bool (falsifies (is_true a) d)) as (λ _. falsifies (is_true a) d ≡ false) [
    | inl bad ↦ absurd (true≢false (sym (In_all (λ k. is_true a (opposite k)) c (λ k i. all_In (λ k. is_true a (opposite k)) d k bad (has_In d k (alike k ∙ In_has c k i)))) ∙ s.open_yet))
    | inr fine ↦ fine
  ];
  closed = λ l f. (let p = forces-parts (is_true a) l d f in
      s.closed l (and_from _ _ (sym (alike l) ∙ p.0) (and_from _ _ (ap not p.1) (In_all (λ k. same l k || is_true a (opposite k)) c (λ k i. all_In (λ k. same l k || is_true a (opposite k)) d k p.2 (has_In d k (alike k ∙ In_has c k i)))))));
}

pub left_settled : (a : List (Option Bool)) (c : List Literal) → IsSettled a c → IsSettled a (left_of a c)
left_settled a c s = record {
  open_yet = elim (cases_Bool (falsifies (is_true a) (left_of a c))) as (λ _. falsifies (is_true a) (left_of a c) ≡ false) [
    | inl bad ↦ absurd (true≢false (sym (In_all (λ k. is_true a (opposite k)) c (λ k i. elim (cases_Bool (is_true a (opposite k))) as (λ _. is_true a (opposite k) ≡ true) [
      | inl t ↦ t
      | inr n ↦ all_In (λ k. is_true a (opposite k)) (left_of a c) k bad (In_filter (λ l. not (is_true a (opposite l))) c k i (ap not n))
    ])) ∙ s.open_yet))
    | inr fine ↦ fine
  ];
  closed = λ l f. (let p = forces-parts (is_true a) l (left_of a c) f in
      s.closed l (and_from _ _ (In_has c l (filter_In (λ l. not (is_true a (opposite l))) c l (has_In (left_of a c) l p.0)).0) (and_from _ _ (ap not p.1)
      (In_all (λ k. same l k || is_true a (opposite k)) c (λ k i. elim (cases_Bool (is_true a (opposite k))) as (λ _. (same l k || is_true a (opposite k)) ≡ true) [
        | inl t ↦ or_right _ _ t
        | inr n ↦ all_In (λ k. same l k || is_true a (opposite k)) (left_of a c) k p.2 (In_filter (λ l. not (is_true a (opposite l))) c k i (ap not n))
      ])))));
}

-- something is left of it
pub left_some : (a : List (Option Bool)) (c : List Literal) → IsSettled a c → is_empty (left_of a c) ≡ false
left_some a c s = by (left_of a c) (left_settled a c s).open_yet
  where
    by : (r : List Literal) → falsifies (is_true a) r ≡ false → is_empty r ≡ false
    by [] h = absurd (true≢false h)
    by (l ∷ r) h = refl

-- Models lift

-- an addition needs no fix
pub lifted_added : (old new : WorkState) (lits : List Literal) (number : ℕ) → Added old new lits number → Lifted old new
lifted_added old new lits number h = record {
  fixes = [];
  stack = ap (λ (w : WorkState). w.stack) h.state ∙ sym (append-nil old.stack);
  lifts = λ m t. weaker m (known old) (known new) (λ c i. (c, more c i, itself c)) t;
}
  where
    itself : (c : List Literal) → includes c c ≡ true
    itself c = In_all (has c) c (λ l i. In_has c l i)

    more : (c : List Literal) → In c (known old) → In c (known new)
    more c i = ⊎_elim
        (λ (k : In c (lists old.clauses)). In_append_left (lists new.clauses) (unit_clauses new.units) c (subst (λ cs. In c (lists cs)) (sym (ap (λ (w : WorkState). w.clauses) h.state)) (subst (In c) (sym (map-append (λ (x : ℕ × List Literal). x.1) old.clauses ((number, clause_of lits) ∷ []))) (In_append_left (lists old.clauses) (clause_of lits ∷ []) c k))))
        (λ (k : In c (unit_clauses old.units)). In_append_right (lists new.clauses) (unit_clauses new.units) c (subst (λ us. In c (unit_clauses us)) (sym (ap (λ (w : WorkState). w.units) h.state)) k))
        (In_append (lists old.clauses) (unit_clauses old.units) c i)

-- a clause with a true literal may be deleted
pub lifted_true : (old new : WorkState) (a : List (Option Bool)) → IsSet old a → (number : ℕ) (h : Deleted old new number) (u : Literal) → has h.clause u ≡ true → is_true a u ≡ true → Lifted old new
lifted_true old new a s number h u hu t =
    lifted_deleted old new number h (u ∷ [])
    (unit_among new u (subst (λ us. In u us) (sym (ap (λ (w : WorkState). w.units) h.state)) (has_In old.units u (s.same u ∙ t))))
    (and_from _ _ hu refl)
    (λ n c k e. same_number old.clauses s.work.numbers number c h.clause (subst (λ (m : ℕ). Contains old.clauses (m, c)) e k) h.alive)

-- a clause that contains one that is alive afterwards may be deleted
pub lifted_within : (old new : WorkState) → IsWork old → (number : ℕ) (h : Deleted old new number) (r : List Literal) → In r (known new) → ((l : Literal) → In l r → has h.clause l ≡ true) → Lifted old new
lifted_within old new kept number h r among inside =
    lifted_deleted old new number h r among (In_all (has h.clause) r inside)
    (λ n c k e. same_number old.clauses kept.numbers number c h.clause (subst (λ (m : ℕ). Contains old.clauses (m, c)) e k) h.alive)

-- One clause

-- a whole clause is free of units
pub tidied_whole : (start w : WorkState) (a : List (Option Bool)) (number : ℕ) (rest : List ℕ) → ((c : List Literal) → Contains w.clauses (number, c) → IsWhole a c) → Tidied start w a (number ∷ rest) → Tidied start w a rest
tidied_whole start w a number rest whole t = record {
  set = t.set;
  quiet = t.quiet;
  units = t.units;
  lifted = t.lifted;
  passed = t.passed;
  settled = t.settled;
  free = λ n c h. ⊎_elim
      (λ (f : IsFree w.units c). inl f)
      (λ (m : Contains (number ∷ rest) n). ⊎_elim
      (λ (e : number ≡ n). inl (λ two none. free_if_untouched w a t.set c (whole c (subst (λ (j : ℕ). Contains w.clauses (j, c)) (sym e) h) two none)))
      (λ (r : Contains rest n). inr r)
      (first_or_rest number rest n m))
      (t.free n c h);
  log = t.log;
}

-- the clause, which is no tautology, is deleted
pub tidied_deleted : (start old new : WorkState) (a : List (Option Bool)) (number : ℕ) (rest : List ℕ) (h : Deleted old new number) → has_opposites h.clause ≡ false → Lifted old new → IsWork new → KeepsLog old new → Tidied start old a (number ∷ rest) → Tidied start new a rest
tidied_deleted start old new a number rest h plain lifted kept log t =
    let units : new.units ≡ old.units = ap (λ (w : WorkState). w.units) h.state in
    record {
      set = record {
        same = λ l. ap (λ us. has us l) units ∙ t.set.same l;
        range = t.set.range ∙ ap (λ v. v + 1) (sym (ap (λ (w : WorkState). w.vars) h.state));
        going = ap (λ (w : WorkState). w.ended) h.state ∙ t.set.going;
        unspent = ap (λ (s : LineState). s.spent) h.put.state ∙ t.set.unspent;
        work = kept;
      };
      quiet = ap (λ (s : LineState). s.faults) h.put.state ∙ t.quiet;
      units = units ∙ t.units;
      lifted = lifted_along start old new t.lifted lifted;
      passed = λ n c both. (
        λ k. (h.others n c).1 ((t.passed n c both).0 k, λ e. apart n c both e ((t.passed n c both).0 k)),
        λ k. (t.passed n c both).1 ((h.others n c).0 k).0,
      );
      settled = λ n c k. t.settled n c ((h.others n c).0 k).0;
      free = λ n c k. (let was = (h.others n c).0 k in ⊎_elim
          (λ (f : IsFree old.units c). inl (subst (λ us. IsFree us c) (sym units) f))
          (λ (m : Contains (number ∷ rest) n). ⊎_elim
          (λ (e : number ≡ n). absurd (was.1 (sym e)))
          (λ (r : Contains rest n). inr r)
          (first_or_rest number rest n m))
          (t.free n c was.0));
      log = logs_along start old new t.log log;
    }
  where
    apart : (n : ℕ) (c : List Literal) → has_opposites c ≡ true → n ≡ number → Contains old.clauses (n, c) → ⊥
    apart n c both e k =
        let same_clause : c ≡ h.clause = same_number old.clauses t.set.work.numbers number c h.clause (subst (λ (m : ℕ). Contains old.clauses (m, c)) e k) h.alive in
        true≢false (sym both ∙ ap has_opposites same_clause ∙ plain)

-- what is left of a clause is added
pub tidied_added : (start old new : WorkState) (a : List (Option Bool)) (numbers : List ℕ) (lits : List Literal) (made : ℕ) → Added old new lits made → has_opposites (clause_of lits) ≡ false → IsSettled a lits → is_empty lits ≡ false
    → ((l : Literal) → has lits l ≡ true → (is_true a l ≡ false) × (is_true a (opposite l) ≡ false)) → IsWork new → KeepsLog old new → Tidied start old a numbers → Tidied start new a numbers
tidied_added start old new a numbers lits made h plain settled some untouched kept log t =
    let units : new.units ≡ old.units = ap (λ (w : WorkState). w.units) h.state in
    let set : IsSet new a = record {
      same = λ l. ap (λ us. has us l) units ∙ t.set.same l;
      range = t.set.range ∙ ap (λ v. v + 1) (sym (ap (λ (w : WorkState). w.vars) h.state));
      going = ap (λ (w : WorkState). w.ended) h.state ∙ some;
      unspent = ap (λ (s : LineState). s.spent) h.line.put.state ∙ t.set.unspent;
      work = kept;
    } in
    record {
      set = set;
      quiet = ap (λ (s : LineState). s.faults) h.line.put.state ∙ t.quiet;
      units = units ∙ t.units;
      lifted = lifted_along start old new t.lifted (lifted_added old new lits made h);
      passed = λ n c both. (
        λ k. subst (λ (cs : List (ℕ × List Literal)). Contains cs (n, c)) (sym (ap (λ (w : WorkState). w.clauses) h.state)) (Contains_left old.clauses ((made, clause_of lits) ∷ []) (n, c) ((t.passed n c both).0 k)),
        λ k. ⊎_elim
            (λ (was : Contains old.clauses (n, c)). (t.passed n c both).1 was)
            (λ (q : ◌≡◌ {A = ℕ × List Literal} (made, clause_of lits) (n, c)). absurd (true≢false (sym both ∙ ap (λ (x : ℕ × List Literal). has_opposites x.1) (sym q) ∙ plain)))
            (apart n c k),
      );
      settled = λ n c k. ⊎_elim
          (λ (was : Contains old.clauses (n, c)). t.settled n c was)
          (λ (q : ◌≡◌ {A = ℕ × List Literal} (made, clause_of lits) (n, c)). subst (IsSettled a) (ap (λ (x : ℕ × List Literal). x.1) q) (settled_alike a lits (clause_of lits) (has-clause_of lits) settled))
          (apart n c k);
      free = λ n c k. ⊎_elim
          (λ (was : Contains old.clauses (n, c)). ⊎_elim
          (λ (f : IsFree old.units c). inl (subst (λ us. IsFree us c) (sym units) f))
          (λ (m : Contains numbers n). inr m)
          (t.free n c was))
          (λ (q : ◌≡◌ {A = ℕ × List Literal} (made, clause_of lits) (n, c)). inl (subst (IsFree new.units) (ap (λ (x : ℕ × List Literal). x.1) q) (λ two none. free_if_untouched new a set (clause_of lits)
          (λ i d lt. untouched (get_or (clause_of lits) i d) (sym (has-clause_of lits (get_or (clause_of lits) i d)) ∙ In_has (clause_of lits) (get_or (clause_of lits) i d) (In_get_or (clause_of lits) i d lt))))))
          (apart n c k);
      log = logs_along start old new t.log log;
    }
  where
    apart : (n : ℕ) (c : List Literal) → Contains new.clauses (n, c) → Contains old.clauses (n, c) ⊎ (◌≡◌ {A = ℕ × List Literal} (made, clause_of lits) (n, c))
    apart n c k = Contains_apart old.clauses (made, clause_of lits) (n, c) (subst (λ (cs : List (ℕ × List Literal)). Contains cs (n, c)) (ap (λ (w : WorkState). w.clauses) h.state) k)

-- at the start all are to be gone through
pub tidied_start : (w : WorkState) (a : List (Option Bool)) (numbers : List ℕ) → IsSet w a → ((n : ℕ) (c : List Literal) → Contains w.clauses (n, c) → IsSettled a c) → ((n : ℕ) (c : List Literal) → Contains w.clauses (n, c) → Contains numbers n) → Tidied w w a numbers
tidied_start w a numbers s settled every = record {
  set = s;
  quiet = refl;
  units = refl;
  lifted = lifted_self w;
  passed = λ n c both. (λ k. k, λ k. k);
  settled = settled;
  free = λ n c h. inr (every n c h);
  log = nothing_logged w;
}

-- What is left

filter_le : {X : Type 0} (p : X → Bool) (xs : List X) → length (filter p xs) ≤ length xs
filter_le p [] = omega arith
filter_le {X} p (y ∷ ys) = by (p y) (filter_le p ys)
  where
    by : (b : Bool) → length (filter p ys) ≤ length ys → length (cond b (y ∷ filter p ys) (filter p ys)) ≤ suc (length ys)
    by true le = omega arith
    by false le = omega arith

filter_all : {X : Type 0} (p : X → Bool) (xs : List X) → length (filter p xs) ≡ length xs → (x : X) → In x xs → p x ≡ true
filter_all p [] e x i = absurd i
filter_all {X} p (y ∷ ys) e x i = by (p y) refl e i (λ f h. filter_all p ys f x h)
  where
    by : (b : Bool) → p y ≡ b → length (cond b (y ∷ filter p ys) (filter p ys)) ≡ suc (length ys) → In x (y ∷ ys) → (length (filter p ys) ≡ length ys → In x ys → p x ≡ true) → p x ≡ true
    by true q f (inl h) r = sym (ap p h) ∙ q
    by true q f (inr h) r = let g : length (filter p ys) ≡ length ys = omega (arith, f) in r g h
    by false q f h r = let le = filter_le p ys in absurd (omega (arith, f, le))

-- nothing was taken away
pub whole_if_all : (a : List (Option Bool)) (c : List Literal) → length (left_of a c) ≡ length c → list_any (is_true a) c ≡ false → IsUntouched a c
whole_if_all a c same_length none k d lt =
    let i = In_get_or c k d lt in
    (none_In (is_true a) c (get_or c k d) none i, not_true (is_true a (opposite (get_or c k d))) (filter_all (λ l. not (is_true a (opposite l))) c same_length (get_or c k d) i))

pub left_is : (w : WorkState) (a : List (Option Bool)) (number : ℕ) (c : List Literal) → IsWork w → Contains w.clauses (number, c) → (what : Remainder) → IsLeft a c what → IsLeftAt w a number what
left_is w a number c kept alive Whole h = λ d i. subst (IsWhole a) (same_number w.clauses kept.numbers number c d alive i) h
left_is w a number c kept alive Nothing h = (c, alive, h)
left_is w a number c kept alive (Part rest) h = (c, alive, h)

module _ (w : WorkState) (a : List (Option Bool)) (s : IsSet w a) (number : ℕ) (c : List Literal) (alive : Contains w.clauses (number, c)) where
  pub part_follows : rup (known w) (left_of a c) ≡ true
  part_follows = shortened_follows (known w) w.units a (unit_among w) s.same c (left_of a c) (known_alive w number c alive)
      (λ k i. elim (cases_Bool (is_true a (opposite k))) as (λ _. (has (left_of a c) k ≡ true) ⊎ (is_true a (opposite k) ≡ true)) [
        | inl t ↦ inr t
        | inr n ↦ inl (In_has (left_of a c) k (In_filter (λ l. not (is_true a (opposite l))) c k i (ap not n)))
      ])

  pub part_inside : (l : Literal) → has (left_of a c) l ≡ true → In l c
  part_inside l h = (filter_In (λ k. not (is_true a (opposite k))) c l (has_In (left_of a c) l h)).0

  pub part_on : All (IsOn w.vars) (left_of a c)
  part_on k d lt = on_alive w s.work number c alive (get_or (left_of a c) k d) (part_inside (get_or (left_of a c) k d) (In_has (left_of a c) (get_or (left_of a c) k d) (In_get_or (left_of a c) k d lt)))

  pub part_proper : has_opposites c ≡ false → has_opposites (left_of a c) ≡ false
  part_proper none = elim (cases_Bool (has_opposites (left_of a c))) as (λ _. has_opposites (left_of a c) ≡ false) [
    | inl h ↦ (
        let t = In_any (λ l. has (left_of a c) (opposite l)) (left_of a c) h in
        absurd (true≢false (sym (any_In (λ l. has c (opposite l)) c t.0 (part_inside t.0 (In_has (left_of a c) t.0 t.1)) (In_has c (opposite t.0) (part_inside (opposite t.0) t.2))) ∙ none)))
    | inr f ↦ f
  ]

  pub part_untouched : list_any (is_true a) c ≡ false → (l : Literal) → has (left_of a c) l ≡ true → (is_true a l ≡ false) × (is_true a (opposite l) ≡ false)
  part_untouched none l h = (none_In (is_true a) c l none (part_inside l h), not_true (is_true a (opposite l)) (filter_In (λ k. not (is_true a (opposite k))) c l (has_In (left_of a c) l h)).1)

-- a clause with a true literal was to be deleted
pub tidied_nothing : (old new : WorkState) (a : List (Option Bool)) (number : ℕ) (c : List Literal) → IsSet old a → Contains old.clauses (number, c) → has_opposites c ≡ false → list_any (is_true a) c ≡ true → IsWork new → KeepsLog old new
    → (result : Result (Unit {0}) LineStop) → WasDeleted old new number result → WasTidied old new a number result
tidied_nothing old new a number c s alive plain holds kept log (Ok done) h =
    let u = In_any (is_true a) c holds in
    let same_clause : c ≡ h.clause = same_number old.clauses s.work.numbers number c h.clause alive h.alive in
    λ start rest t. tidied_deleted start old new a number rest h (ap has_opposites (sym same_clause) ∙ plain) (lifted_true old new a s number h u.0 (subst (λ d. has d u.0 ≡ true) same_clause (In_has c u.0 u.1)) u.2) kept log t
tidied_nothing old new a number c s alive plain holds kept log (Err stop) h = (not_put_cause old new (deleted_line old.output _ h.clause) stop s.going h.left, log)

-- what is left was added, and the clause was to be deleted
module _ (old mid new : WorkState) (a : List (Option Bool)) (number : ℕ) (c lits : List Literal) (made : ℕ) (s : IsSet old a) (alive : Contains old.clauses (number, c)) (part : IsPart a c lits) (settled : IsSettled a c)
    (added : Added old mid lits made) (kept_mid : IsWork mid) (log_mid : KeepsLog old mid) (kept : IsWork new) (log : KeepsLog mid new) where
  alive_mid : Contains mid.clauses (number, c)
  alive_mid = subst (λ (cs : List (ℕ × List Literal)). Contains cs (number, c)) (sym (ap (λ (w : WorkState). w.clauses) added.state)) (Contains_left old.clauses ((made, clause_of lits) ∷ []) (number, c) alive)

  made_mid : Contains mid.clauses (made, clause_of lits)
  made_mid = subst (λ (cs : List (ℕ × List Literal)). Contains cs (made, clause_of lits)) (sym (ap (λ (w : WorkState). w.clauses) added.state)) (Contains_last old.clauses (made, clause_of lits))

  apart : made ≢ number
  apart e = let g = All_In (λ (x : ℕ × List Literal). x.0 ≤ old.output.last) old.clauses (number, c) s.work.given (Contains_In old.clauses (number, c) alive) in let n = added.line.given in omega arith

  shown : IsSettled a lits
  shown = subst (IsSettled a) (sym part.is) (left_settled a c settled)

  plain : has_opposites (clause_of lits) ≡ false
  plain = opposites_alike lits (clause_of lits) (has-clause_of lits) (ap has_opposites part.is ∙ part_proper old a s number c alive part.no_opposites)

  pub tidied_part : (result : Result (Unit {0}) LineStop) → WasDeleted mid new number result → WasTidied old new a number result
  tidied_part (Ok done) h =
      let same_clause : c ≡ h.clause = same_number mid.clauses kept_mid.numbers number c h.clause alive_mid h.alive in
      let lifted : Lifted mid new = lifted_within mid new kept_mid number h (clause_of lits) (known_alive new made (clause_of lits) ((h.others made (clause_of lits)).1 (made_mid, apart)))
      (λ l i. subst (λ d. has d l ≡ true) same_clause (In_has c l (part_inside old a s number c alive l (subst (λ d. has d l ≡ true) part.is (sym (has-clause_of lits l) ∙ In_has (clause_of lits) l i))))) in
      λ start rest t. tidied_deleted start mid new a number rest h (ap has_opposites (sym same_clause) ∙ part.no_opposites) lifted kept log
      (tidied_added start old mid a (number ∷ rest) lits made added plain shown (ap is_empty part.is ∙ left_some a c settled)
      (λ l k. part_untouched old a s number c alive part.open_yet l (subst (λ d. has d l ≡ true) part.is k)) kept_mid log_mid t)
  tidied_part (Err stop) h = (cause_after old mid new stop (ap (λ (s : LineState). s.faults) added.line.put.state) (not_put_cause mid new (deleted_line mid.output _ h.clause) stop (ap (λ (w : WorkState). w.ended) added.state ∙ ap is_empty part.is ∙ left_some a c settled) h.left), logs_along old mid new log_mid log)

-- a call in the middle was refused
pub stopped_tidying : (start now new : WorkState) (a : List (Option Bool)) (rest : List ℕ) (stop : LineStop) → Tidied start now a rest → HasCause now new stop × KeepsLog now new → HasCause start new stop × KeepsLog start new
stopped_tidying start now new a rest stop t h = (cause_after start now new stop t.quiet h.0, logs_along start now new t.log h.1)
