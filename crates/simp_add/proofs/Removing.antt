-- Clauses are deleted by their numbers.
use Rattle.std.proofs.Common.{◌≡◌, ◌∙◌, ℕ, ◌+◌, ◌<◌, ◌==◌, true, false, List, [], ◌∷◌, ◌++◌, map, length, take, get_or, sym, refl, ap, subst, arith, inl, inr, ◌⊎◌, ⊎_elim, Contains, length-append}
use Rattle.std.specs.Prelude.{Result, Ok, Err}
use Rattle.std.specs.List.{sum_by, list_any}
use Rattle.std.proofs.lemmas.Bool.{cases_Bool, true≢false, eq-eqb}
use Rattle.std.proofs.lemmas.Bool.Decides.{eqb_tells}
use Rattle.std.proofs.lemmas.List.Sums.{sum_by-append}
use Rattle.std.proofs.lemmas.List.{take_more}
use Rattle.std.proofs.lemmas.List.Elements.{Contains-append_left, Contains-append_right, Contains-append_cases}
use Rattle.sat_words.specs.Literal.{Literal}
use Rattle.drat_text.specs.LineOut.{deleted_line}
use Rattle.rup_model.specs.declared.journal.Entry.{Entry}
use Rattle.rup_model.proofs.Lists.{In, In_any, none_In, Contains_In, In_Contains}
use Rattle.drat_text.specs.LineState.{LineState}
use Rattle.drat_text.specs.declared.stop.LineStop.{LineStop}
use Rattle.simp_base.specs.WorkState.{WorkState, IsWork}
use Rattle.simp_base.specs.Calls.{ruler_deletes, on_ok, Deleted, WasDeleted}
use Rattle.simp_base.specs.Log.{Continues}
use Rattle.simp_base.proofs.Stopping.{not_put_cause}
use Rattle.simp_base.proofs.Widening.{continues_grows}
use Rattle.simp_add.specs.Rule.{Distinct}
use Rattle.simp_add.specs.Stages.{Removed, WasRemoved}
use Rattle.simp_add.proofs.Growing.{goes_self, goes_along, continues_self, continues_along}

-- Lists

pub member : (xs : List ℕ) (n : ℕ) → Contains xs n ⊎ (Contains xs n → ⊥)
member xs n = elim (cases_Bool (list_any (λ (m : ℕ). m == n) xs)) as (λ _. Contains xs n ⊎ (Contains xs n → ⊥)) [
  | inl e ↦ (let t = In_any (λ (m : ℕ). m == n) xs e in inl (In_Contains xs n (subst (λ (m : ℕ). In m xs) (is t.0 t.2) t.1)))
  | inr e ↦ inr (λ h. true≢false (sym (eq-eqb n n refl) ∙ none_In (λ (m : ℕ). m == n) xs n e (Contains_In xs n h)))
]
  where
    is : (m : ℕ) → (m == n) ≡ true → m ≡ n
    is m h = elim (eqb_tells m n) as (λ _. m ≡ n) [ inl t ↦ t.1 | inr f ↦ absurd (true≢false (sym h ∙ f.0)) ]

pub only : (n m : ℕ) → Contains (n ∷ []) m → n ≡ m
only n m h = ⊎_elim (λ (e : n ≡ m). e) (λ (z : In m []). absurd z) (Contains_In (n ∷ []) m h)

pub distinct_append : (xs ys : List ℕ) → Distinct xs → Distinct ys → ((n : ℕ) → Contains xs n → Contains ys n → ⊥) → Distinct (xs ++ ys)
distinct_append [] ys d e apart = e
distinct_append (x ∷ xs) ys d e apart = (
  λ h. ⊎_elim (λ (i : Contains xs x). d.0 i) (λ (i : Contains ys x). apart x (In_Contains (x ∷ xs) x (inl refl)) i) (Contains-append_cases xs ys x h),
  distinct_append xs ys d.1 e (λ n h. apart n (In_Contains (x ∷ xs) n (inr (Contains_In xs n h)))),
)

map_append : (xs ys : List ℕ) → map ruler_deletes (xs ++ ys) ≡ map ruler_deletes xs ++ map ruler_deletes ys
map_append [] ys = refl
map_append (x ∷ xs) ys = ap (λ (es : List Entry). ruler_deletes x ∷ es) (map_append xs ys)

ones : {X : Type 0} (xs : List X) → sum_by (λ (x : X). 1) xs ≡ length xs
ones [] = refl
ones {X} (x ∷ xs) = let a = sum_by-append (λ (x : X). 1) (x ∷ []) xs in let b = ones xs in omega arith

-- Nothing

pub removed_nothing : (w : WorkState) → w.ended ≡ false → w.output.spent ≡ false → IsWork w → Removed w w []
removed_nothing w going unspent kept = record {
  on = goes_self w going unspent kept;
  vars = refl;
  gone = [];
  log = continues_self w;
  once = tt;
  named = λ n. (λ h. absurd (Contains_In [] n h), λ h. h.0);
  clauses = λ n c. (λ h. (h, λ i. Contains_In [] n i), λ h. h.0);
  count = omega arith;
}

-- no clause has the number
pub removed_none : (w : WorkState) (n : ℕ) → w.ended ≡ false → w.output.spent ≡ false → IsWork w → ((c : List Literal) → Contains w.clauses (n, c) → ⊥) → Removed w w (n ∷ [])
removed_none w n going unspent kept none = record {
  on = goes_self w going unspent kept;
  vars = refl;
  gone = [];
  log = continues_self w;
  once = tt;
  named = λ m. (λ h. absurd (Contains_In [] m h), λ h. absurd (none h.1.0 (subst (λ (k : ℕ). Contains w.clauses (k, h.1.0)) (sym (only n m h.0)) h.1.1)));
  clauses = λ m c. (λ h. (h, λ i. none c (subst (λ (k : ℕ). Contains w.clauses (k, c)) (sym (only n m i)) h)), λ h. h.0);
  count = omega arith;
}

-- one
removed_one : (old new : WorkState) (n : ℕ) → old.ended ≡ false → old.output.spent ≡ false → IsWork new → Deleted old new n → Continues (ruler_deletes n ∷ []) old new → Removed old new (n ∷ [])
removed_one old new n going unspent kept h log = record {
  on = record {
    going = ap (λ (w : WorkState). w.ended) h.state ∙ going;
    unspent = ap (λ (s : LineState). s.spent) h.put.state ∙ unspent;
    work = kept;
    quiet = ap (λ (s : LineState). s.faults) h.put.state;
    units = ap (λ (w : WorkState). w.units) h.state;
    stack = ap (λ (w : WorkState). w.stack) h.state;
  };
  vars = ap (λ (w : WorkState). w.vars) h.state;
  gone = n ∷ [];
  log = log;
  once = (λ i. Contains_In [] n i, tt);
  named = λ m. (λ i. (i, (h.clause, subst (λ (k : ℕ). Contains old.clauses (k, h.clause)) (only n m i) h.alive)), λ i. i.0);
  clauses = λ m c. (
    λ i. (((h.others m c).0 i).0, λ j. ((h.others m c).0 i).1 (sym (only n m j))),
    λ i. (h.others m c).1 (i.0, λ e. i.1 (In_Contains (n ∷ []) m (inl (sym e)))),
  );
  count =
      (let a = h.each.weighs (λ (x : ℕ × List Literal). 1) in
      let b = ones old.clauses in
      let c = ones ((n, h.clause) ∷ new.clauses) in
      omega arith);
}

pub was_removed : (old new : WorkState) (n : ℕ) (result : Result (Unit {0}) LineStop) → old.ended ≡ false → old.output.spent ≡ false → IsWork new → WasDeleted old new n result → Continues (on_ok result (ruler_deletes n ∷ [])) old new → WasRemoved old new (n ∷ []) result
was_removed old new n (Ok done) going unspent kept h log = removed_one old new n going unspent kept h log
was_removed old new n (Err stop) going unspent kept h log = (not_put_cause old new (deleted_line old.output _ h.clause) stop going h.left, ([], continues_grows [] old new log))

-- one after another
pub removed_along : (a b c : WorkState) (xs ys : List ℕ) → Removed a b xs → Removed b c ys → Removed a c (xs ++ ys)
removed_along a b c xs ys f g = record {
  on = goes_along a b c f.on g.on;
  vars = g.vars ∙ f.vars;
  gone = f.gone ++ g.gone;
  log = subst (λ (es : List Entry). Continues es a c) (sym (map_append f.gone g.gone)) (continues_along (map ruler_deletes f.gone) (map ruler_deletes g.gone) a b c f.log g.log);
  once = distinct_append f.gone g.gone f.once g.once (λ n h i. (let p = (f.named n).0 h in let q = (g.named n).0 i in ((f.clauses n q.1.0).0 q.1.1).1 p.0));
  named = λ n. (
    λ h. ⊎_elim
        (λ (i : Contains f.gone n). (let p = (f.named n).0 i in (Contains-append_left xs ys n p.0, p.1)))
        (λ (i : Contains g.gone n). (let p = (g.named n).0 i in (Contains-append_right xs ys n p.0, (p.1.0, ((f.clauses n p.1.0).0 p.1.1).0))))
        (Contains-append_cases f.gone g.gone n h),
    λ h. elim (member xs n) as (λ _. Contains (f.gone ++ g.gone) n) [
      | inl i ↦ Contains-append_left f.gone g.gone n ((f.named n).1 (i, h.1))
      | inr away ↦ Contains-append_right f.gone g.gone n ((g.named n).1 (⊎_elim (λ (i : Contains xs n). absurd (away i)) (λ (i : Contains ys n). i) (Contains-append_cases xs ys n h.0), (h.1.0, (f.clauses n h.1.0).1 (h.1.1, away))))
    ],
  );
  clauses = λ n x. (
    λ h. (let p = (g.clauses n x).0 h in let q = (f.clauses n x).0 p.0 in (q.0, λ i. ⊎_elim (λ (j : Contains xs n). q.1 j) (λ (j : Contains ys n). p.1 j) (Contains-append_cases xs ys n i))),
    λ h. (g.clauses n x).1 ((f.clauses n x).1 (h.0, λ j. h.1 (Contains-append_left xs ys n j)), λ j. h.1 (Contains-append_right xs ys n j)),
  );
  count = (let p = f.count in let q = g.count in let r = length-append f.gone g.gone in omega arith);
}

pub removed_next : (a b c : WorkState) (numbers : List ℕ) (i : ℕ) → i < length numbers → Removed a b (take i numbers) → Removed b c (get_or numbers i 0 ∷ []) → Removed a c (take (i + 1) numbers)
removed_next a b c numbers i lt f g = subst (λ (ns : List ℕ). Removed a c ns) (sym (take_more numbers i 0 lt)) (removed_along a b c (take i numbers) (get_or numbers i 0 ∷ []) f g)
