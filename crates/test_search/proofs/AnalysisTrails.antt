-- The trails of the tests of analysis, over the small port.
use Rattle.std.proofs.Common.{◌≡◌, ◌∙◌, ℕ, zero, suc, ◌<◌, Bool, true, false, [], Some, sym, refl, ap, inl, inr, ◌⊎◌, arith}
use Rattle.std.specs.Option.{option_map}
use Rattle.sat_words.specs.Literal.{Literal, opposite}
use Rattle.rup_model.proofs.Lists.{In, has_In}
use Rattle.ring_port.specs.PortState.{Holding, held_at, clause_at}
use Rattle.ring_trail.specs.TrailData.{TrailData, FalseBefore, IsFalseClause, lit_at, level_at, decided, assigned}
use Rattle.ring_trail.specs.Reasoned.{WasUnit, IsForced, IsSeen, IsDecision, IsReasoned}
use Rattle.test_ports.specs.Sample.{lit, first, second, third, sample_state}
use Rattle.test_search.specs.Sampled.{sample_steps}
use Rattle.test_ports.proofs.Sample.{held_first, held_second, held_third}

pub steps_are : (n : Bool) (a : ℕ) (t0 t1 t2 t3 t4 : TrailData) → t0 ≡ record { vars = 5; level = 0; steps = []; done = 0 } → t1 ≡ decided t0 (lit 1 false) → t2 ≡ assigned t1 (lit 2 false) (Some (record { address = 1 }))
    → t3 ≡ decided t2 (lit 4 false) → t4 ≡ assigned t3 (lit 5 n) (Some (record { address = a })) → t4.steps ≡ sample_steps n a
steps_are n a t0 t1 t2 t3 t4 e0 e1 e2 e3 e4 =
    ap (λ (t : TrailData). t.steps)
    (e4 ∙ ap (λ (t : TrailData). assigned t (lit 5 n) (Some (record { address = a })))
    (e3 ∙ ap (λ (t : TrailData). decided t (lit 4 false))
    (e2 ∙ ap (λ (t : TrailData). assigned t (lit 2 false) (Some (record { address = 1 })))
    (e1 ∙ ap (λ (t : TrailData). decided t (lit 1 false)) e0))))

false_at : (n : Bool) (a m p : ℕ) (k l : Literal) → p < m → lit_at (sample_steps n a) p ≡ opposite k → k ≡ l → FalseBefore (sample_steps n a) m l
false_at n a m p k l lt e s = record { place = p; before = lt; false_there = e ∙ ap opposite s }

-- if 5 is true the third clause is false, and where it is false the second one
pub third_false : IsFalseClause (sample_steps false 2) third.lits
third_false l h = by (has_In third.lits l h)
  where
    by : In l third.lits → FalseBefore (sample_steps false 2) 4 l
    by (inl e) = false_at false 2 4 2 (lit 4 true) l (omega arith) refl e
    by (inr (inl e)) = false_at false 2 4 1 (lit 2 true) l (omega arith) refl e
    by (inr (inr (inl e))) = false_at false 2 4 3 (lit 5 true) l (omega arith) refl e
    by (inr (inr (inr e))) = absurd e

pub second_false : IsFalseClause (sample_steps true 3) second.lits
second_false l h = by (has_In second.lits l h)
  where
    by : In l second.lits → FalseBefore (sample_steps true 3) 4 l
    by (inl e) = false_at true 3 4 2 (lit 4 true) l (omega arith) refl e
    by (inr (inl e)) = false_at true 3 4 0 (lit 1 true) l (omega arith) refl e
    by (inr (inr (inl e))) = false_at true 3 4 3 (lit 5 false) l (omega arith) refl e
    by (inr (inr (inr e))) = absurd e

unit_first : (n : Bool) (a : ℕ) → WasUnit (sample_steps n a) 1 first.lits
unit_first n a = record { has_lit = refl; others = λ k h. by k (has_In first.lits k h) }
  where
    by : (k : Literal) → In k first.lits → (k ≡ lit 2 false) ⊎ FalseBefore (sample_steps n a) 1 k
    by k (inl e) = inr (false_at n a 1 0 (lit 1 true) k (omega arith) refl e)
    by k (inr (inl e)) = inl (sym e)
    by k (inr (inr e)) = absurd e

unit_second : WasUnit (sample_steps false 2) 3 second.lits
unit_second = record { has_lit = refl; others = λ k h. by k (has_In second.lits k h) }
  where
    by : (k : Literal) → In k second.lits → (k ≡ lit 5 false) ⊎ FalseBefore (sample_steps false 2) 3 k
    by k (inl e) = inr (false_at false 2 3 2 (lit 4 true) k (omega arith) refl e)
    by k (inr (inl e)) = inr (false_at false 2 3 0 (lit 1 true) k (omega arith) refl e)
    by k (inr (inr (inl e))) = inl (sym e)
    by k (inr (inr (inr e))) = absurd e

unit_third : WasUnit (sample_steps true 3) 3 third.lits
unit_third = record { has_lit = refl; others = λ k h. by k (has_In third.lits k h) }
  where
    by : (k : Literal) → In k third.lits → (k ≡ lit 5 true) ⊎ FalseBefore (sample_steps true 3) 3 k
    by k (inl e) = inr (false_at true 3 3 2 (lit 4 true) k (omega arith) refl e)
    by k (inr (inl e)) = inr (false_at true 3 3 1 (lit 2 true) k (omega arith) refl e)
    by k (inr (inr (inl e))) = inl (sym e)
    by k (inr (inr (inr e))) = absurd e

-- the reasons are held
reasoned_by : (n : Bool) (a : ℕ) (h : Holding) → held_at sample_state a ≡ Some h → WasUnit (sample_steps n a) 3 h.lits → IsReasoned (clause_at sample_state) sample_state.seen (sample_steps n a)
reasoned_by n a h held unit = record { caused = by }
  where
    by : (p : ℕ) → p < 4 → IsForced (clause_at sample_state) (sample_steps n a) p ⊎ (IsSeen sample_state.seen (sample_steps n a) p ⊎ IsDecision (sample_steps n a) p)
    by zero lt = inr (inr (record { none = refl; above = omega arith; first = λ q l. absurd (omega arith) }))
    by (suc zero) lt = inl (record {
      reason = record { address = 1 };
      lits = first.lits;
      reason_is = refl;
      held_is = ap (option_map (λ (k : Holding). k.lits)) (held_first 0 false);
      unit = unit_first n a;
    })
    by (suc (suc zero)) lt = inr (inr (record { none = refl; above = omega arith; first = lower }))
      where
        lower : (q : ℕ) → q < 2 → level_at (sample_steps n a) q < 2
        lower zero l = omega arith
        lower (suc zero) l = omega arith
        lower (suc (suc q)) l = absurd (omega arith)
    by (suc (suc (suc zero))) lt = inl (record {
      reason = record { address = a };
      lits = h.lits;
      reason_is = refl;
      held_is = ap (option_map (λ (k : Holding). k.lits)) held;
      unit = unit;
    })
    by (suc (suc (suc (suc p)))) lt = absurd (omega arith)

pub reasoned_second : IsReasoned (clause_at sample_state) sample_state.seen (sample_steps false 2)
reasoned_second = reasoned_by false 2 second (held_second 0 false) unit_second

pub reasoned_third : IsReasoned (clause_at sample_state) sample_state.seen (sample_steps true 3)
reasoned_third = reasoned_by true 3 third (held_third 0 false) unit_third
