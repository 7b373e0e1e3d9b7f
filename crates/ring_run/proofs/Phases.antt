-- The values that are saved where the trail goes back.
use Rattle.std.proofs.Common.{◌≡◌, ◌∙◌, ℕ, zero, suc, ◌<◌, ◌≤◌, ◌+◌, true, false, nat_lt, List, Bool, [], ◌∷◌, length, drop, ap, sym, refl, arith}
use Rattle.std.proofs.lemmas.Bool.Decides.{nat_tests}
use Rattle.std.proofs.lemmas.List.{drop_all}
use Rattle.ring_trail.specs.declared.step.TrailStep.{TrailStep}
use Rattle.ring_trail.specs.TrailData.{TrailData, IsTrail, level_at}
use Rattle.ring_decide.specs.DeciderData.{DeciderData}
use Rattle.ring_run.specs.Strategy.{saved, steps_above, saved_above}

lt_true : (m n : ℕ) → m < n → nat_lt m n ≡ true
lt_true m n h = grind (arith, nat_tests)

lt_false : (m n : ℕ) → n ≤ m → nat_lt m n ≡ false
lt_false m n h = grind (arith, nat_tests)

-- the steps above a level, if a place parts them from the others
above_drop : (k : ℕ) (steps : List TrailStep) (m : ℕ) → ((p : ℕ) → p < m → p < length steps → level_at steps p ≤ k) → ((p : ℕ) → m ≤ p → p < length steps → k < level_at steps p) → steps_above k steps ≡ drop m steps
above_drop k [] zero low high = refl
above_drop k [] (suc m) low high = refl
above_drop k (s ∷ steps) zero low high =
    rw (lt_true k s.level (high 0 (omega arith) (omega arith)))
    (ap (λ xs. s ∷ xs) (above_drop k steps zero (λ p h q. absurd (omega arith)) (λ p h q. high (suc p) (omega arith) (omega arith))))
above_drop k (s ∷ steps) (suc m) low high =
    rw (lt_false k s.level (low 0 (omega arith) (omega arith))) (above_drop k steps m (λ p h q. low (suc p) (omega arith) (omega arith)) (λ p h q. high (suc p) (omega arith) (omega arith)))

-- no step is above the present level, and nothing is saved
pub saved_none : (d : DeciderData) (t : TrailData) (k : ℕ) → IsTrail t → t.level ≤ k → d ≡ saved_above d t.steps k
saved_none d t k shape le = ap (λ (steps : List TrailStep). record d { phase = saved d.phase steps }) (sym none)
  where
    none : steps_above k t.steps ≡ []
    none = above_drop k t.steps (length t.steps) (λ p lt h. let w = shape.within p h in omega arith) (λ p ge h. absurd (omega arith)) ∙ drop_all (length t.steps) t.steps (omega arith)

-- the values from the start of the next level on were saved
pub saved_all : (d e : DeciderData) (steps : List TrailStep) (k start p : ℕ) → length steps ≤ p → e.active ≡ d.active → saved e.phase (drop p steps) ≡ saved d.phase (drop start steps) → ((q : ℕ) → q < start → level_at steps q < k + 1)
    → ((q : ℕ) → start ≤ q → q < length steps → k + 1 ≤ level_at steps q) → e ≡ saved_above d steps k
saved_all d e steps k start p far active rest below above =
    ap (λ (bs : List Bool). let x : DeciderData = record { active = bs; phase = e.phase } in x) active
    ∙ ap (λ (bs : List Bool). let x : DeciderData = record { active = d.active; phase = bs } in x) phase
  where
    none : drop p steps ≡ []
    none = drop_all p steps far

    parts : steps_above k steps ≡ drop start steps
    parts = above_drop k steps start (λ q lt h. let b = below q lt in omega arith) (λ q ge h. let a = above q ge h in omega arith)

    phase : e.phase ≡ saved d.phase (steps_above k steps)
    phase = ap (saved e.phase) (sym none) ∙ rest ∙ ap (saved d.phase) (sym parts)
