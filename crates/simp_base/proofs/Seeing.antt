-- Clauses that are looked at one after another.
use Rattle.std.proofs.Common.{◌≡◌, ◌≢◌, inl, inr, ℕ, ◌+◌, ◌<◌, ◌≤◌, true, List, [], ◌∷◌, length, get_or, map, refl, sym, ap, ◌∙◌, subst, arith, Option, Some, None, Contains}
use mathlib.Core.Logic.{dite}
use native.Mathlib.Decide.{ℕ_discrete}
use Rattle.std.proofs.lemmas.List.{get_or_default}
use Rattle.sat_words.specs.Literal.{Literal, opposite}
use Rattle.sat_words.specs.Clause.{has}
use Rattle.rup_model.proofs.Lists.{In_map, Contains_In, In_Contains}
use Rattle.simp_base.specs.Hinting.{lit_at}
use Rattle.simp_base.specs.Search.{true_set, IsSettled, IsWaiting, GoesOn, WereLookedAt, WereScanned, WasSpread}
use Rattle.simp_base.specs.declared.hints.trail.Step.{Step}
use Rattle.simp_base.proofs.GoingOn.{goes_on_same, goes_on_along, waits_from}

-- the clauses with the first i numbers were
pub record Seen (cells : List (ℕ × List Literal)) (old now : List Step) (numbers : List ℕ) (i : ℕ) : Type 0 where
  pub goes_on : GoesOn cells old now
  pub seen : (k : ℕ) → k < i → (c : List Literal) → Contains cells (get_or numbers k 0, c) → IsWaiting cells now (length old) c

pub seen_none : (cells : List (ℕ × List Literal)) (steps : List Step) (numbers : List ℕ) → Seen cells steps steps numbers 0
seen_none cells steps numbers = record { goes_on = goes_on_same cells steps; seen = λ k lt. absurd (omega arith) }

module _ (cells : List (ℕ × List Literal)) (old now : List Step) (numbers : List ℕ) (i : ℕ) (s : Seen cells old now numbers i) where
  pub seen_more : (new : List Step) (number : ℕ) → number ≡ get_or numbers i 0 → WereLookedAt cells now new (number ∷ []) None → Seen cells old new numbers (i + 1)
  seen_more new number is w = record {
    goes_on = goes_on_along cells old now new s.goes_on w.goes_on;
    seen = λ k lt c h. dite (ℕ_discrete k i)
        (λ (e : k ≡ i). waits_from cells new (length old) (length now) c s.goes_on.longer
        (w.ends number c (In_Contains (number ∷ []) number (inl refl)) (subst (λ m. Contains cells (m, c)) (ap (λ j. get_or numbers j 0) e ∙ sym is) h)))
        (λ (ne : k ≢ i). w.goes_on.waits (length old) c s.goes_on.longer (s.seen k (omega (arith, lt, ne)) c h));
  }

  pub seen_found : (new : List Step) (ns : List ℕ) (number : ℕ) → WereLookedAt cells now new ns (Some number) → WereLookedAt cells old new numbers (Some number)
  seen_found new ns number w = record { goes_on = goes_on_along cells old now new s.goes_on w.goes_on; ends = w.ends }

  pub seen_all : length numbers ≤ i → WereLookedAt cells old now numbers None
  seen_all le = record {
    goes_on = s.goes_on;
    ends = λ n c k h. (let a : k.0 < i = omega (arith, k.1, le) in s.seen k.0 a c (subst (λ m. Contains cells (m, c)) (sym (same_read k.0 n k.1 k.2)) h));
  }
    where
      same_read : (p n : ℕ) → p < length numbers → get_or numbers p n ≡ n → get_or numbers p 0 ≡ n
      same_read p n lt e = get_or_default numbers p 0 n lt ∙ e

-- all clauses were, by their numbers
pub scanned : (cells : List (ℕ × List Literal)) (old new : List Step) (found : Option ℕ) → WereLookedAt cells old new (map (λ p. p.0) cells) found → WereScanned cells old new found
scanned cells old new (Some n) w = record { goes_on = w.goes_on; ends = w.ends }
scanned cells old new None w = record {
  goes_on = w.goes_on;
  ends = λ n c h. w.ends n c (In_Contains (map (λ p. p.0) cells) n (In_map (λ (p : ℕ × List Literal). p.0) cells (n, c) (Contains_In cells (n, c) h))) h;
}

-- the clauses that had to wait wait for steps from this place on alone
pub record Spread (cells : List (ℕ × List Literal)) (old now : List Step) (from next : ℕ) : Type 0 where
  pub goes_on : GoesOn cells old now
  pub within : next ≤ length now
  pub waits : (n : ℕ) (c : List Literal) → Contains cells (n, c) → IsWaiting cells old from c → IsWaiting cells now next c

pub spread_none : (cells : List (ℕ × List Literal)) (steps : List Step) (from : ℕ) → from ≤ length steps → Spread cells steps steps from from
spread_none cells steps from le = record { goes_on = goes_on_same cells steps; within = le; waits = λ n c h w. w }

module _ (cells : List (ℕ × List Literal)) (old now : List Step) (from next : ℕ) (s : Spread cells old now from next) where
  pub spread_more : (new : List Step) (lit : Literal) (numbers : List ℕ) → next < length now → lit_at now next ≡ lit
      → ((n : ℕ) (c : List Literal) → Contains cells (n, c) → has c (opposite lit) ≡ true → Contains numbers n) → WereLookedAt cells now new numbers None → Spread cells old new from (next + 1)
  spread_more new lit numbers lt is every w = record {
    goes_on = goes_on_along cells old now new s.goes_on w.goes_on;
    within = (let m = w.goes_on.longer in omega arith);
    waits = λ n c h u. by n c h (s.waits n c h u);
  }
    where
      by : (n : ℕ) (c : List Literal) → Contains cells (n, c) → IsWaiting cells now next c → IsWaiting cells new (next + 1) c
      by n c h (inl q) = w.goes_on.waits (next + 1) c (omega arith) (inl q)
      by n c h (inr p) = dite (ℕ_discrete p.place next)
          (λ (e : p.place ≡ next). waits_from cells new (next + 1) (length now) c (omega arith)
          (w.ends n c (every n c h (subst (λ l. has c (opposite l) ≡ true) (ap (λ j. lit_at now j) e ∙ is) p.has_false)) h))
          (λ (ne : p.place ≢ next). w.goes_on.waits (next + 1) c (omega arith)
          (inr (record { place = p.place; not_before = (let a = p.not_before in omega (arith, a, ne)); inside = p.inside; has_false = p.has_false })))

  pub spread_found : (new : List Step) (ns : List ℕ) (number : ℕ) → WereLookedAt cells now new ns (Some number) → WasSpread cells old new from (Some number)
  spread_found new ns number w = record { goes_on = goes_on_along cells old now new s.goes_on w.goes_on; ends = w.ends }

  pub spread_all : length now ≤ next → WasSpread cells old now from None
  spread_all le = record { goes_on = s.goes_on; ends = λ n c h w. by c (s.waits n c h w) }
    where
      by : (c : List Literal) → IsWaiting cells now next c → IsSettled (true_set cells now) c
      by c (inl q) = q
      by c (inr p) = let a = p.not_before in let b = p.inside in absurd (omega (arith, a, b, le))
