-- Clauses with a variable are deleted.
use Rattle.std.proofs.Common.{◌≡◌, ℕ, ◌+◌, ◌<◌, true, false, List, [], ◌∷◌, ◌++◌, take, get_or, length, refl, sym, ap, subst, ◌∙◌, inl, inr, ⊎_elim, append_assoc, arith}
use Rattle.std.specs.List.{Contains, sum_by}
use Rattle.std.specs.Prelude.{Result, Ok, Err}
use Rattle.std.proofs.lemmas.Bool.{true≢false, and_from}
use Rattle.std.proofs.lemmas.List.Folds.{list_all-append}
use Rattle.std.proofs.lemmas.List.Sums.{sum_by-append}
use Rattle.sat_words.specs.Literal.{Literal}
use Rattle.drat_text.specs.LineOut.{deleted_line}
use Rattle.rup_model.proofs.Lists.{In_Contains, Contains_In}
use Rattle.drat_text.specs.LineState.{LineState}
use Rattle.drat_text.specs.declared.stop.LineStop.{LineStop}
use Rattle.simp_base.specs.WorkState.{WorkState, IsWork, lists}
use Rattle.simp_base.specs.Calls.{Deleted, WasDeleted}
use Rattle.simp_base.specs.Log.{KeepsLog}
use Rattle.simp_base.proofs.Known.{first_or_rest}
use Rattle.simp_base.proofs.Removal.{same_number}
use Rattle.simp_base.proofs.Stopping.{not_put_cause}
use Rattle.simp_elim.specs.Resolution.{mentions}
use Rattle.simp_elim.specs.Stages.{Removing, Removed, WasRemoved}
use Rattle.simp_elim.proofs.Growing.{goes_self, goes_along}
use Rattle.simp_elim.proofs.Multisets.{sum_cons, same_map}
use Rattle.simp_elim.proofs.Within.{take_next}

-- nothing is deleted
pub removed_nothing : (w : WorkState) → w.ended ≡ false → w.output.spent ≡ false → IsWork w → Removed w w []
removed_nothing w going unspent kept = record {
  on = goes_self w going unspent kept;
  stack = refl;
  units = refl;
  fewer = λ n c h. h;
  kept = λ start l rest t. t;
}

-- no clause has the number
pub removed_none : (w : WorkState) (n : ℕ) → w.ended ≡ false → w.output.spent ≡ false → IsWork w → ((c : List Literal) → Contains w.clauses (n, c) → ⊥) → Removed w w (n ∷ [])
removed_none w n going unspent kept none = record {
  on = goes_self w going unspent kept;
  stack = refl;
  units = refl;
  fewer = λ m c h. h;
  kept = λ start l rest t. record {
    gone = t.gone;
    each = t.each;
    mentioned = t.mentioned;
    stay = t.stay;
    left = λ m c i q. ⊎_elim
        (λ (e : n ≡ m). absurd (none c (subst (λ (k : ℕ). Contains w.clauses (k, c)) (sym e) i)))
        (λ (j : Contains rest m). j)
        (first_or_rest n rest m (t.left m c i q));
    named = λ m c i. t.named m c (In_Contains (n ∷ rest) m (inr (Contains_In rest m i)));
  };
}

-- one clause is deleted
module _ (old new : WorkState) (n : ℕ) (kept : IsWork old) (kept_new : IsWork new) (going : old.ended ≡ false) (unspent : old.output.spent ≡ false) (log : KeepsLog old new) where
  module _ (h : Deleted old new n) where
    removing_one : (start : WorkState) (l : Literal) (rest : List ℕ) → Removing start old l (n ∷ rest) → Removing start new l rest
    removing_one start l rest t = record {
      gone = t.gone ++ h.clause ∷ [];
      each = record {
        weighs = λ g.
            let a = t.each.weighs g in
            let b = sum_by-append g t.gone (lists old.clauses) in
            let c : sum_by g (lists old.clauses) ≡ sum_by g (h.clause ∷ lists new.clauses) = (same_map (λ (x : ℕ × List Literal). x.1) old.clauses ((n, h.clause) ∷ new.clauses) h.each).weighs g in
            let d = sum_cons g h.clause (lists new.clauses) in
            let e = sum_by-append g (t.gone ++ h.clause ∷ []) (lists new.clauses) in
            let f = sum_by-append g t.gone (h.clause ∷ []) in
            let k = sum_cons g h.clause [] in
            omega (arith, a, b, c, d, e, f, k);
      };
      mentioned = list_all-append (mentions l) t.gone (h.clause ∷ []) ∙ and_from _ _ t.mentioned (and_from _ true has_it refl);
      stay = λ m c i q. (h.others m c).1 (
        t.stay m c i q,
        λ e. true≢false (sym has_it ∙ ap (mentions l) (sym (same_number old.clauses kept.numbers n c h.clause (subst (λ (k : ℕ). Contains old.clauses (k, c)) e (t.stay m c i q)) h.alive)) ∙ q),
      );
      left = λ m c i q. ⊎_elim
          (λ (e : n ≡ m). absurd (((h.others m c).0 i).1 (sym e)))
          (λ (j : Contains rest m). j)
          (first_or_rest n rest m (t.left m c ((h.others m c).0 i).0 q));
      named = λ m c i j. t.named m c (In_Contains (n ∷ rest) m (inr (Contains_In rest m i))) ((h.others m c).0 j).0;
    }
      where
        has_it : mentions l h.clause ≡ true
        has_it = t.named n h.clause (In_Contains (n ∷ rest) n (inl refl)) h.alive

    removed_one : Removed old new (n ∷ [])
    removed_one = record {
      on = record {
        going = ap (λ (w : WorkState). w.ended) h.state ∙ going;
        unspent = ap (λ (s : LineState). s.spent) h.put.state ∙ unspent;
        work = kept_new;
        quiet = ap (λ (s : LineState). s.faults) h.put.state;
        vars = ap (λ (w : WorkState). w.vars) h.state;
        log = log;
      };
      stack = ap (λ (w : WorkState). w.stack) h.state;
      units = ap (λ (w : WorkState). w.units) h.state;
      fewer = λ m c i. ((h.others m c).0 i).0;
      kept = removing_one;
    }

  pub was_removed : (result : Result (Unit {0}) LineStop) → WasDeleted old new n result → WasRemoved old new (n ∷ []) result
  was_removed (Ok done) h = removed_one h
  was_removed (Err stop) h = (not_put_cause old new (deleted_line old.output _ h.clause) stop going h.left, log)

-- one after another
pub removed_along : (a b c : WorkState) (xs ys : List ℕ) → Removed a b xs → Removed b c ys → Removed a c (xs ++ ys)
removed_along a b c xs ys f g = record {
  on = goes_along a b c f.on g.on;
  stack = g.stack ∙ f.stack;
  units = g.units ∙ f.units;
  fewer = λ n x i. f.fewer n x (g.fewer n x i);
  kept = λ start l rest t. g.kept start l rest (f.kept start l (ys ++ rest) (subst (λ (ns : List ℕ). Removing start a l ns) (append_assoc xs ys rest) t));
}

pub removed_next : (a b c : WorkState) (numbers : List ℕ) (i : ℕ) → i < length numbers → Removed a b (take i numbers) → Removed b c (get_or numbers i 0 ∷ []) → Removed a c (take (i + 1) numbers)
removed_next a b c numbers i lt f g = subst (λ (ns : List ℕ). Removed a c ns) (sym (take_next numbers i 0 lt)) (removed_along a b c (take i numbers) (get_or numbers i 0 ∷ []) f g)
