-- Clauses that were replaced are deleted.
use Rattle.std.proofs.Common.{◌≡◌, ℕ, ◌<◌, Bool, true, false, not, List, [], ◌∷◌, map, length, refl, sym, ap, subst, ◌∙◌, inl, inr, ⊎_elim, arith}
use Rattle.std.specs.List.{Contains, list_any}
use Rattle.std.specs.Prelude.{Result, Ok, Err}
use Rattle.std.proofs.lemmas.Bool.{and_parts, and_from, or_left, or_right, cases_Bool, true≢false, cases_lt}
use Rattle.sat_words.specs.Literal.{Literal, same}
use Rattle.sat_words.specs.Clause.{has, has_opposites, two_or_more}
use Rattle.drat_text.specs.LineOut.{deleted_line}
use Rattle.sat_words.proofs.Members.{same-true, same-refl}
use Rattle.rup_model.proofs.Lists.{In, any_In, In_any, In_has, has_In, In_map, map_In, Contains_In}
use Rattle.drat_text.specs.LineState.{LineState}
use Rattle.drat_text.specs.declared.stop.LineStop.{LineStop}
use Rattle.simp_base.specs.WorkState.{WorkState, IsWork, known, lists, has_unit, is_unit, is_alive_unit, is_only}
use Rattle.simp_base.specs.Calls.{Deleted, WasDeleted}
use Rattle.simp_base.specs.Log.{KeepsLog}
use Rattle.simp_base.proofs.Known.{first_or_rest}
use Rattle.simp_base.proofs.Long.{two_if_long}
use Rattle.simp_base.proofs.Removal.{same_number}
use Rattle.simp_equiv.specs.Implications.{Implied, StandsFor}
use Rattle.simp_base.specs.Parts.{takes_part}
use Rattle.simp_equiv.specs.Replacements.{is_moved, is_replaced, to_replace, Becomes, was_true, is_true, stays, Comes}
use Rattle.simp_equiv.specs.Rewritten.{AreInOrder, GoesOn, IsReplacedAt, Adding, Removing, Removed, WasRemoved}
use Rattle.simp_base.proofs.Stopping.{not_put_cause}
use Rattle.simp_equiv.proofs.Growing.{goes_self, goes_along, known_by, alive_known, unit_known}
use Rattle.simp_equiv.proofs.Adding.{In_numbers}
use Rattle.simp_equiv.proofs.Tabled.{step_or_stay}

-- Literals that stand for themselves

pub refuted : (b : Bool) → (b ≡ true → ⊥) → b ≡ false
refuted true f = absurd (f refl)
refuted false f = refl

same_bool : (a b : Bool) → (a ≡ true → b ≡ true) → (b ≡ true → a ≡ true) → a ≡ b
same_bool true b f g = sym (f refl)
same_bool false true f g = g refl
same_bool false false f g = refl

-- a literal for which no other one stands
pub not_moved : (sin : Literal → Literal) (l : Literal) → is_moved sin l ≡ false → sin l ≡ l
not_moved sin l e = same-true (sin l) l (negated (same (sin l) l) e)
  where
    negated : (b : Bool) → not b ≡ false → b ≡ true
    negated true e = refl
    negated false e = absurd (true≢false e)

own_not_moved : (sin : Literal → Literal) (l : Literal) → sin l ≡ l → is_moved sin l ≡ true → ⊥
own_not_moved sin l e m = true≢false (sym m ∙ ap not (ap (λ (x : Literal). same x l) e ∙ same-refl l))

-- a clause whose literals stand for themselves is as it was
own_alike : (sin : Literal → Literal) (c : List Literal) → ((l : Literal) → In l c → sin l ≡ l) → (l : Literal) → has c l ≡ has (map sin c) l
own_alike sin c own l = same_bool (has c l) (has (map sin c) l)
    (λ h. In_has (map sin c) l (subst (λ (x : Literal). In x (map sin c)) (own l (has_In c l h)) (In_map sin c l (has_In c l h))))
    (λ h. let m = map_In sin c l (has_In (map sin c) l h) in In_has c l (subst (λ (x : Literal). In x c) (sym (own m.0 m.1) ∙ m.2) m.1))

-- and is not replaced
pub own_not_replaced : (sin : Literal → Literal) (c : List Literal) → ((l : Literal) → has c l ≡ true → sin l ≡ l) → is_replaced sin c ≡ true → ⊥
own_not_replaced sin c own r =
    let m = In_any (is_moved sin) c (and_parts (takes_part c) (list_any (is_moved sin) c) r).1 in
    own_not_moved sin m.0 (own m.0 (In_has c m.0 m.1)) m.2

-- what stands for a literal stands for itself
image_own : (sin : Literal → Literal) → ((l : Literal) → sin (sin l) ≡ sin l) → (c d : List Literal) → ((l : Literal) → has d l ≡ has (map sin c) l) → (l : Literal) → has d l ≡ true → sin l ≡ l
image_own sin settled c d alike l h =
    let m = map_In sin c l (has_In (map sin c) l (sym (alike l) ∙ h)) in
    ap sin (sym m.2) ∙ settled m.0 ∙ m.2

-- How it begins

-- what stands for a unit is the unit
unit_fixed : (w : WorkState) (l : Literal) → is_unit w l ≡ true → has_unit w l.var ≡ true
unit_fixed w l = by l.neg
  where
    by : (b : Bool) → is_unit w (record { var = l.var; neg = b }) ≡ true → has_unit w l.var ≡ true
    by true h = or_right (is_unit w (record { var = l.var; neg = false })) _ h
    by false h = or_left _ (is_unit w (record { var = l.var; neg = true })) h

fixed_own : (w : WorkState) (sin : Literal → Literal) → ((l : Literal) → StandsFor (Implied w) l (sin l)) → (l : Literal) → is_unit w l ≡ true → sin l ≡ l
fixed_own w sin stands l u = elim (step_or_stay (Implied w) l (sin l) (stands l).connected.there.through (stands l).connected.there.walk) as (λ _. sin l ≡ l) [
  | inl e ↦ sym e
  | inr s ↦ absurd (true≢false (sym (unit_fixed w l u) ∙ s.1.free))
]

module _ (start now : WorkState) (sin : Literal → Literal) (numbers : List ℕ) (settled : (l : Literal) → sin (sin l) ≡ sin l) (stands : (l : Literal) → StandsFor (Implied start) l (sin l)) (ordered : AreInOrder start.clauses)
    (whole : numbers ≡ to_replace sin start.clauses) (t : Adding start now sin []) where
  -- a clause with all its literals as they were
  stays_alive : (n : ℕ) (c : List Literal) → Contains start.clauses (n, c) → ((l : Literal) → In l c → sin l ≡ l) → Becomes sin c (known now)
  stays_alive n c h own = stays c (alive_known now n c (t.stay n c h)) (own_alike sin c own)

  alone : (n : ℕ) (c : List Literal) → Contains start.clauses (n, c) → length c < 2 → Becomes sin c (known now)
  alone n [] h lt = stays_alive n [] h (λ l i. absurd i)
  alone n (k ∷ []) h lt =
      let u : is_unit start k ≡ true = or_right (has start.units k) _ (any_In (is_only k) (lists start.clauses) (k ∷ []) (In_map (λ (x : ℕ × List Literal). x.1) start.clauses (n, k ∷ []) (Contains_In start.clauses (n, k ∷ []) h)) (same-refl k)) in
      stays_alive n (k ∷ []) h (λ l i. one l i (fixed_own start sin stands k u))
    where
      one : (l : Literal) → In l (k ∷ []) → sin k ≡ k → sin l ≡ l
      one l (inl e) own = subst (λ (x : Literal). sin x ≡ x) e own
      one l (inr i) own = absurd i
  alone n (k ∷ j ∷ c) h lt = absurd (omega arith)

  became_alive : (n : ℕ) (c : List Literal) → Contains start.clauses (n, c) → Becomes sin c (known now)
  became_alive n c h = elim (cases_Bool (is_replaced sin c)) as (λ _. Becomes sin c (known now)) [
    | inl r ↦ ⊎_elim (λ (b : Becomes sin c (known now)). b) (λ (i : Contains [] n). (let lt = i.1 in absurd (omega arith))) (t.became n c h r)
    | inr r ↦ elim (cases_Bool (has_opposites c)) as (λ _. Becomes sin c (known now)) [
      | inl o ↦ was_true o
      | inr o ↦ elim (cases_lt (length c) 2) as (λ _. Becomes sin c (known now)) [
        | inl lt ↦ alone n c h lt
        | inr le ↦ stays_alive n c h (λ l i. not_moved sin l (refuted (is_moved sin l) (λ m.
            true≢false (sym (and_from (takes_part c) (list_any (is_moved sin) c) (and_from (two_or_more c) (not (has_opposites c)) (two_if_long c (ordered n c h) le) (ap not o)) (any_In (is_moved sin) c l i m)) ∙ r))))
      ]
    ]
  ]

  became_unit : (l : Literal) → has start.units l ≡ true → Becomes sin (l ∷ []) (known now)
  became_unit l h = stays (l ∷ []) (unit_known now l (t.on.units l h)) (own_alike sin (l ∷ []) (λ k i. one k i (fixed_own start sin stands l (or_left _ (is_alive_unit start l) h))))
    where
      one : (k : Literal) → In k (l ∷ []) → sin l ≡ l → sin k ≡ k
      one k (inl e) own = subst (λ (x : Literal). sin x ≡ x) e own
      one k (inr i) own = absurd i

  pub removing_start : Removing start now sin numbers
  removing_start = record {
    on = t.on;
    settled = settled;
    stay = λ n c q h. t.stay n c h;
    came = t.came;
    became = λ c h. known_by (λ x. Becomes sin x (known now)) start became_alive became_unit c (Contains_In (known start) c h);
    left = λ n c h r. ⊎_elim
        (λ (i : Contains start.clauses (n, c)). subst (λ (ns : List ℕ). Contains ns n) (sym whole) (In_numbers sin start.clauses n c i r))
        (λ (m : Comes sin (lists start.clauses) c). absurd (own_not_replaced sin c (image_own sin settled m.clause c m.same) r))
        (t.came n c h);
  }

-- One after another

module _ (old new : WorkState) (sin : Literal → Literal) (n : ℕ) (c : List Literal) (kept : IsWork old) (kept_new : IsWork new) (going : old.ended ≡ false) (unspent : old.output.spent ≡ false) (log : KeepsLog old new)
    (alive : Contains old.clauses (n, c)) (r : is_replaced sin c ≡ true) where
  removed_on : Deleted old new n → GoesOn old new
  removed_on h = record {
    going = ap (λ (w : WorkState). w.ended) h.state ∙ going;
    unspent = ap (λ (s : LineState). s.spent) h.put.state ∙ unspent;
    work = kept_new;
    quiet = ap (λ (s : LineState). s.faults) h.put.state;
    stack = ap (λ (w : WorkState). w.stack) h.state;
    vars = ap (λ (w : WorkState). w.vars) h.state;
    units = λ l i. ap (λ (w : WorkState). has w.units l) h.state ∙ i;
    log = log;
  }

  -- a clause whose literals stand for themselves is another one
  still_known : (h : Deleted old new n) (d : List Literal) → ((l : Literal) → has d l ≡ true → sin l ≡ l) → Contains (known old) d → Contains (known new) d
  still_known h d own i = known_by (λ x. ((l : Literal) → has x l ≡ true → sin l ≡ l) → Contains (known new) x) old
      (λ m x j f. alive_known new m x ((h.others m x).1 (
        j,
        λ e. own_not_replaced sin c (subst (λ (y : List Literal). (l : Literal) → has y l ≡ true → sin l ≡ l)
            (same_number old.clauses kept.numbers n x c (subst (λ (k : ℕ). Contains old.clauses (k, x)) e j) alive) f) r,
      )))
      (λ l j f. unit_known new l (ap (λ (w : WorkState). has w.units l) h.state ∙ j))
      d (Contains_In (known old) d i) own

  still_became : (h : Deleted old new n) → ((l : Literal) → sin (sin l) ≡ sin l) → (x : List Literal) → Becomes sin x (known old) → Becomes sin x (known new)
  still_became h settled x (was_true e) = was_true e
  still_became h settled x (is_true e) = is_true e
  still_became h settled x (stays d i alike) = stays d (still_known h d (image_own sin settled x d alike) i) alike

  removed : Deleted old new n → Removed old new sin n
  removed h = record {
    on = removed_on h;
    kept = λ start rest t. record {
      on = goes_along start old new t.on (removed_on h);
      settled = t.settled;
      stay = λ m x q i. let j = t.stay m x q i in (h.others m x).1 (
        j,
        λ e. true≢false (sym (ap (is_replaced sin) (same_number old.clauses kept.numbers n x c (subst (λ (k : ℕ). Contains old.clauses (k, x)) e j) alive) ∙ r) ∙ q),
      );
      came = λ m x i. t.came m x ((h.others m x).0 i).0;
      became = λ x i. still_became h t.settled x (t.became x i);
      left = λ m x i q. ⊎_elim
          (λ (e : n ≡ m). absurd (((h.others m x).0 i).1 (sym e)))
          (λ (j : Contains rest m). j)
          (first_or_rest n rest m (t.left m x ((h.others m x).0 i).0 q));
    };
  }

  pub was_removed : (result : Result (Unit {0}) LineStop) → WasDeleted old new n result → WasRemoved old new sin n result
  was_removed (Ok done) h = removed h
  was_removed (Err stop) h = (not_put_cause old new (deleted_line old.output _ h.clause) stop going h.left, log)

-- nothing is to be deleted
pub removed_none : (w : WorkState) (sin : Literal → Literal) (n : ℕ) → w.ended ≡ false → w.output.spent ≡ false → IsWork w → IsReplacedAt w sin n false → Removed w w sin n
removed_none w sin n going unspent kept none = record {
  on = goes_self w going unspent kept;
  kept = λ start rest t. record {
    on = t.on;
    settled = t.settled;
    stay = t.stay;
    came = t.came;
    became = t.became;
    left = λ m x i q. ⊎_elim
        (λ (e : n ≡ m). absurd (true≢false (sym q ∙ none x (subst (λ (k : ℕ). Contains w.clauses (k, x)) (sym e) i))))
        (λ (j : Contains rest m). j)
        (first_or_rest n rest m (t.left m x i q));
  };
}
