-- One clause is compared with another one.
use Rattle.std.proofs.Common.{◌≡◌, ◌≢◌, ◌⊎◌, ℕ, ◌<◌, ◌≤◌, true, false, List, [], ◌∷◌, sym, ap, subst, ◌∙◌, inl, inr, ⊎_elim, arith}
use Rattle.std.specs.List.{Contains}
use Rattle.std.specs.Prelude.{Result, Ok, Err}
use Rattle.sat_words.specs.Literal.{Literal}
use Rattle.sat_words.specs.Clause.{has, includes}
use Rattle.drat_text.specs.LineOut.{deleted_line}
use Rattle.rup_model.proofs.Lists.{Contains_In}
use Rattle.drat_text.specs.declared.stop.LineStop.{LineStop}
use Rattle.simp_base.specs.WorkState.{WorkState, IsWork, known}
use Rattle.simp_base.specs.Calls.{Deleted, WasDeleted}
use Rattle.simp_base.specs.Causes.{HasCause}
use Rattle.simp_base.specs.Log.{KeepsLog}
use Rattle.simp_base.proofs.Known.{first_or_rest}
use Rattle.simp_base.proofs.LiftSteps.{logs_along}
use Rattle.simp_base.proofs.Lists.{All_In}
use Rattle.simp_base.proofs.Removal.{same_number}
use Rattle.simp_base.proofs.Stopping.{not_put_cause, cause_after}
use Rattle.simp_base.specs.Parts.{takes_part}
use Rattle.simp_subsume.specs.Related.{IsUnrelated}
use Rattle.simp_subsume.specs.Compared.{Subsumes, Strengthens, Reduces, Grown, IsLoaded, IsReducedBelow, Comparing, WasCompared}
use Rattle.simp_subsume.proofs.Relating.{part_parts, in_subsumes, unrelated_part, unrelated_left}
use Rattle.simp_subsume.proofs.Reducing.{reduces_along, reduces_deleted, reduces_grown, alive_known, unit_known}
use Rattle.simp_subsume.proofs.Growing.{rest_inside}

-- a clause that came is a part of this one, and the clause at hand is of no use to it
record CamePart (last : ℕ) (c d : List Literal) (q : ℕ) (f : List Literal) : Type 0 where
  late : last < q
  inside : (k : Literal) → has f k ≡ true → has d k ≡ true
  apart : IsUnrelated c f

-- the clause with this number is gone, and a part of it came at most
record Replaced (old new : WorkState) (c : List Literal) (m : ℕ) (d : List Literal) : Type 0 where
  reduces : Reduces old new
  gone : (q : ℕ) (f : List Literal) → Contains new.clauses (q, f) → q ≢ m
  came : (q : ℕ) (f : List Literal) → Contains new.clauses (q, f) → Contains old.clauses (q, f) ⊎ CamePart old.output.last c d q f
  stay : (q : ℕ) (f : List Literal) → Contains old.clauses (q, f) → q ≢ m → Contains new.clauses (q, f)

given_low : (w : WorkState) → IsWork w → (n : ℕ) (c : List Literal) → Contains w.clauses (n, c) → n ≤ w.output.last
given_low w kept n c h = All_In (λ (x : ℕ × List Literal). x.0 ≤ w.output.last) w.clauses (n, c) kept.given (Contains_In w.clauses (n, c) h)

compared_replaced : (start old new : WorkState) (n m : ℕ) (c d : List Literal) (rest : List ℕ) → IsWork old → takes_part d ≡ true → Contains old.clauses (m, d) → m ≢ n → Replaced old new c m d → Comparing start old n c (m ∷ rest) → Comparing start new n c rest
compared_replaced start old new n m c d rest kept part alive ne r t = record {
  reduces = reduces_along start old new t.reduces r.reduces;
  alive = r.stay n c t.alive (λ e. ne (sym e));
  before = before;
  apart = apart;
}
  where
    before : IsReducedBelow new n
    before p q e f ep fq apart_numbers lt te tf = ⊎_elim
        (λ (old_e : Contains old.clauses (p, e)). ⊎_elim
        (λ (old_f : Contains old.clauses (q, f)). t.before p q e f old_e old_f apart_numbers lt te tf)
        (λ (k : CamePart old.output.last c d q f). unrelated_part e d f k.inside (t.before p m e d old_e alive (r.gone p e ep) lt te part))
        (r.came q f fq))
        (λ (k : CamePart old.output.last c d p e). (let late = k.late in let low = given_low old kept n c t.alive in absurd (omega arith)))
        (r.came p e ep)

    apart : (q : ℕ) (f : List Literal) → Contains new.clauses (q, f) → q ≢ n → takes_part f ≡ true → IsUnrelated c f ⊎ Contains rest q
    apart q f fq other tf = ⊎_elim
        (λ (old_f : Contains old.clauses (q, f)). ⊎_elim
        (λ (u : IsUnrelated c f). inl u)
        (λ (i : Contains (m ∷ rest) q). ⊎_elim
        (λ (e : m ≡ q). absurd (r.gone q f fq (sym e)))
        (λ (j : Contains rest q). inr j)
        (first_or_rest m rest q i))
        (t.apart q f old_f other tf))
        (λ (k : CamePart old.output.last c d q f). inl k.apart)
        (r.came q f fq)

-- nothing is to be done
pub compared_staying : (w : WorkState) (n m : ℕ) (c : List Literal) → ((d : List Literal) → Contains w.clauses (m, d) → m ≢ n → takes_part d ≡ true → IsUnrelated c d) → (start : WorkState) (rest : List ℕ) → Comparing start w n c (m ∷ rest) → Comparing start w n c rest
compared_staying w n m c stays start rest t = record {
  reduces = t.reduces;
  alive = t.alive;
  before = t.before;
  apart = λ q f fq other tf. ⊎_elim
      (λ (u : IsUnrelated c f). inl u)
      (λ (i : Contains (m ∷ rest) q). ⊎_elim
      (λ (e : m ≡ q). inl (stays f (subst (λ (j : ℕ). Contains w.clauses (j, f)) (sym e) fq) (λ x. other (sym e ∙ x)) tf))
      (λ (j : Contains rest q). inr j)
      (first_or_rest m rest q i))
      (t.apart q f fq other tf);
}

-- the other clause goes
pub was_compared_going : (old new : WorkState) (n m : ℕ) (c d : List Literal) → old.ended ≡ false → old.output.spent ≡ false → IsWork old → IsWork new → KeepsLog old new → IsLoaded old n c → Contains old.clauses (m, d) → m ≢ n → Subsumes c d
    → (result : Result (Unit {0}) LineStop) → WasDeleted old new m result → WasCompared old new n c m result
was_compared_going old new n m c d going unspent was kept log loaded alive ne s (Ok done) h =
    λ start rest t. compared_replaced start old new n m c d rest was s.part alive ne (record {
      reduces = reduces_deleted old new going unspent was kept log m h (ap takes_part (sym (same_number old.clauses was.numbers m d h.clause alive h.alive)) ∙ s.part) c (alive_known new n c ((h.others n c).1 (loaded.alive, λ e. ne (sym e))))
          (subst (λ x. includes x c ≡ true) (same_number old.clauses was.numbers m d h.clause alive h.alive) s.subsumes);
      gone = λ q f i. ((h.others q f).0 i).1;
      came = λ q f i. inl ((h.others q f).0 i).0;
      stay = λ q f i other. (h.others q f).1 (i, other);
    }) t
was_compared_going old new n m c d going unspent was kept log loaded alive ne s (Err stop) h = (not_put_cause old new (deleted_line old.output _ h.clause) stop going h.left, log)

-- a part of the other clause came, and it goes
module _ (old mid new : WorkState) (n m : ℕ) (c d rest : List Literal) (was : IsWork old) (kept_mid : IsWork mid) (kept : IsWork new) (log : KeepsLog mid new) (loaded : IsLoaded old n c) (alive : Contains old.clauses (m, d)) (ne : m ≢ n)
    (s : Strengthens c d rest) (g : Grown old mid rest) where
  inside : (k : Literal) → has rest k ≡ true → has d k ≡ true
  inside = rest_inside old was n m c d rest loaded alive s

  in_part : (f : List Literal) → ((l : Literal) → has f l ≡ has rest l) → (k : Literal) → has f k ≡ true → has d k ≡ true
  in_part f alike k h = inside k (sym (alike k) ∙ h)

  late_apart : (q : ℕ) → old.output.last < q → q ≢ m
  late_apart q late e = let low = given_low old was m d alive in omega arith

  -- what is known afterwards
  left_known : (h : Deleted mid new m) → (e : List Literal) × Contains (known new) e × (includes d e ≡ true)
  left_known h = by g.there
    where
      by : ((q : ℕ) × (f : List Literal) × Contains mid.clauses (q, f) × (old.output.last < q) × ((l : Literal) → has f l ≡ has rest l)) ⊎ ((l : Literal) × (has mid.units l ≡ true) × (rest ≡ l ∷ [])) → (e : List Literal) × Contains (known new) e × (includes d e ≡ true)
      by (inl t) = (t.1, alive_known new t.0 t.1 ((h.others t.0 t.1).1 (t.2, late_apart t.0 t.3)), in_subsumes t.1 d (in_part t.1 t.4))
      by (inr t) = (t.0 ∷ [], unit_known new t.0 (ap (λ us. has us t.0) (ap (λ (w : WorkState). w.units) h.state) ∙ t.1), in_subsumes (t.0 ∷ []) d (λ k i. inside k (ap (λ x. has x k) t.2 ∙ i)))

  replaced : (h : Deleted mid new m) → Replaced old new c m d
  replaced h =
      let e = left_known h in
      record {
        reduces = reduces_along old mid new (reduces_grown old mid rest kept_mid g m d alive inside)
            (reduces_deleted mid new g.going g.unspent kept_mid kept log m h (ap takes_part (sym (same_number mid.clauses kept_mid.numbers m d h.clause (g.stay m d alive) h.alive)) ∙ s.part) e.0 e.1 (subst (λ x. includes x e.0 ≡ true) (same_number mid.clauses kept_mid.numbers m d h.clause (g.stay m d alive) h.alive) e.2));
        gone = λ q f i. ((h.others q f).0 i).1;
        came = λ q f i. ⊎_elim
            (λ (j : Contains old.clauses (q, f)). inl j)
            (λ (j : (old.output.last < q) × ((l : Literal) → has f l ≡ has rest l)). inr (record {
              late = j.0;
              inside = in_part f j.1;
              apart = unrelated_left c d f s.lit (part_parts d s.part).1 s.strengthens (λ k. j.1 k ∙ ap (λ x. has x k) s.is);
            }))
            (g.came q f ((h.others q f).0 i).0);
        stay = λ q f i other. (h.others q f).1 (g.stay q f i, other);
      }

  pub was_compared_shrinking : (result : Result (Unit {0}) LineStop) → WasDeleted mid new m result → WasCompared old new n c m result
  was_compared_shrinking (Ok done) h = λ start numbers t. compared_replaced start old new n m c d numbers was s.part alive ne (replaced h) t
  was_compared_shrinking (Err stop) h = (cause_after old mid new stop g.quiet (not_put_cause mid new (deleted_line mid.output _ h.clause) stop g.going h.left), logs_along old mid new g.log log)

-- Clauses one after another

-- a call in the middle was refused
pub stopped_comparing : (start now new : WorkState) (n : ℕ) (c : List Literal) (rest : List ℕ) (stop : LineStop) → Comparing start now n c rest → HasCause now new stop × KeepsLog now new → HasCause start new stop × KeepsLog start new
stopped_comparing start now new n c rest stop t h = (cause_after start now new stop t.reduces.quiet h.0, logs_along start now new t.reduces.log h.1)
