-- What hints of a ring show, they show over all that is alive in the log.
use Rattle.std.proofs.Common.{◌≡◌, ℕ, ◌==◌, cond, Bool, true, false, List, [], ◌∷◌, map, ap, subst, inl, inr, ⊎_elim, Some, refl}
use Rattle.std.specs.List.{find}
use Rattle.std.specs.Option.{option_map}
use Rattle.std.specs.Prelude.{is_some}
use Rattle.std.specs.Option.{unwrap_or}
use Rattle.std.proofs.lemmas.Bool.{false≢true, eqb-true}
use Rattle.sat_words.specs.Literal.{Literal, opposite}
use Rattle.sat_words.specs.Clause.{has}
use Rattle.rup_model.specs.Hints.{numbered, hinted, HintsFit}
use Rattle.rup_model.specs.Journal.{book}
use Rattle.rup_model.proofs.Lists.{In, In_append, map_In}
use Rattle.rup_model.proofs.Hinting.{over_more}
use Rattle.ring_port.specs.PortState.{Holding, PortState, known_at}
use Rattle.ring_port.specs.Port.{AreHints}
use Rattle.ring_port.specs.Log.{Origin, StandsOver, journal_of}
use Rattle.ring_port.proofs.Holdings.{All_In}

-- a clause that a list has under a number is in it
pub numbered_in : (cs : List (ℕ × List Literal)) (n : ℕ) (d : List Literal) → numbered cs n ≡ Some d → In (n, d) cs
numbered_in [] n d h = absurd (false≢true (ap is_some h))
numbered_in (p ∷ cs) n d h = by (p.0 == n) refl h (numbered_in cs n d)
  where
    by : (b : Bool) → (p.0 == n) ≡ b → option_map (λ (q : ℕ × List Literal). q.1) (cond b (Some p) (find (λ q. q.0 == n) cs)) ≡ Some d → (numbered cs n ≡ Some d → In (n, d) cs) → In (n, d) (p ∷ cs)
    by true e is rest = inl (λ j. (eqb-true p.0 n e j, ap (λ o. unwrap_or o d) is j))
    by false e is rest = inr (rest is)

module _ (o : Origin) (s : PortState) (h : StandsOver o s) where
  -- in a log with hints, what the port names is alive under its number
  named_alive : s.hinted ≡ true → (n : ℕ) (d : List Literal) → In (n, d) (known_at s) → (book o.formula (journal_of o s)).clause n ≡ Some d
  named_alive q n d i =
      ⊎_elim
      (λ k.
      (let t = map_In (λ (x : Holding). (x.number, x.lits)) s.held (n, d) k in
      at (t.0.number, t.0.lits) t.2 (All_In (λ x. (book o.formula (journal_of o s)).clause x.number ≡ Some x.lits) s.held t.0 h.held t.1)))
      (λ k.
      (let t = map_In (λ (u : Literal × ℕ). (u.1, u.0 ∷ [])) s.told (n, d) k in
      at (t.0.1, t.0.0 ∷ []) t.2 (All_In (λ u. (book o.formula (journal_of o s)).clause u.1 ≡ Some (u.0 ∷ [])) s.told t.0 (h.told q) t.1)))
      (In_append (map (λ (x : Holding). (x.number, x.lits)) s.held) (map (λ (u : Literal × ℕ). (u.1, u.0 ∷ [])) s.told) (n, d) i)
    where
      at : (p : ℕ × List Literal) → p ≡ (n, d) → (book o.formula (journal_of o s)).clause p.0 ≡ Some p.1 → (book o.formula (journal_of o s)).clause n ≡ Some d
      at p e is = subst (λ (z : ℕ × List Literal). (book o.formula (journal_of o s)).clause z.0 ≡ Some z.1) e is

  pub hints_alive : (lits : List Literal) (hints : List ℕ) → AreHints s lits hints → s.hinted ≡ true → hinted (book o.formula (journal_of o s)).clause lits hints ≡ true
  hints_alive lits hints fit q =
      over_more (numbered (known_at s)) (book o.formula (journal_of o s)).clause (λ n d is. named_alive q n d (numbered_in (known_at s) n d is)) hints (has (map opposite lits))
      (subst (λ (b : Bool). HintsFit b (numbered (known_at s)) lits hints) q fit)
