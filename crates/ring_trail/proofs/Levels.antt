-- Levels and their starts.
use Rattle.std.proofs.Common.{◌≡◌, ℕ, zero, suc, ◌<◌, ◌≤◌, ◌+◌, ◌-◌, true, false, List, [], ◌∷◌, ◌++◌, length, get_or, take, nat_le, nat_lt, sym, refl, ap, subst, ◌∙◌, inl, inr, arith}
use Rattle.std.proofs.lemmas.Bool.{cases_lt}
use Rattle.std.proofs.lemmas.Bool.Decides.{nat_tests}
use Rattle.std.proofs.lemmas.List.{length-append, length-take-le, get_or_append_left, get_or_push, get_or-take, take_all}
use Rattle.ring_trail.specs.declared.step.TrailStep.{TrailStep}
use Rattle.ring_trail.specs.TrailData.{no_step, level_at, up_to, start_of}
use Rattle.ring_trail.specs.Inside.{Parts}

-- each start of a table parts the steps
abbrev pub AllPart : List TrailStep → List ℕ → Type 0
AllPart steps starts = (k : ℕ) → k < length starts → Parts steps k (get_or starts k 0)

-- no level is above this one
abbrev pub UpTo : List TrailStep → ℕ → Type 0
UpTo steps n = (p : ℕ) → p < length steps → level_at steps p ≤ n

level-old : (steps : List TrailStep) (s : TrailStep) (p : ℕ) → p < length steps → level_at (steps ++ s ∷ []) p ≡ level_at steps p
level-old steps s p h = ap (λ (x : TrailStep). x.level) (get_or_append_left steps (s ∷ []) no_step p h)

level-new : (steps : List TrailStep) (s : TrailStep) (p : ℕ) → p ≡ length steps → level_at (steps ++ s ∷ []) p ≡ s.level
level-new steps s p e = ap (λ (x : TrailStep). x.level) (get_or_push steps s no_step p (sym e))

Parts-push : (steps : List TrailStep) (k start : ℕ) (s : TrailStep) → Parts steps k start → k < s.level → Parts (steps ++ s ∷ []) k start
Parts-push steps k start s h lt =
    let n = length-append steps (s ∷ []) in
    record {
      low = omega (arith, n, h.low);
      many = h.many;
      at = level-old steps s start h.low ∙ h.at;
      below = λ p q. (let l = h.low in let e = level-old steps s p (omega arith) in let b = h.below p q in omega arith);
      above = λ p q r.
          elim (cases_lt p (length steps)) as (λ _. k < level_at (steps ++ s ∷ []) p) [
            | inl l ↦ (let e = level-old steps s p l in let a = h.above p q l in omega arith)
            | inr g ↦ (let e = level-new steps s p (omega (arith, n)) in omega arith)
          ];
    }

Parts-new : (steps : List TrailStep) (k : ℕ) (s : TrailStep) → UpTo steps k → k ≤ length steps → s.level ≡ k + 1 → Parts (steps ++ s ∷ []) k (length steps)
Parts-new steps k s all few eq =
    let n = length-append steps (s ∷ []) in
    record {
      low = omega (arith, n);
      many = few;
      at = level-new steps s (length steps) refl ∙ eq;
      below = λ p q. (let e = level-old steps s p q in let b = all p q in omega arith);
      above = λ p q r. (let e = level-new steps s p (omega (arith, n)) in omega arith);
    }

-- the start of a lower level is below that of a higher one
Parts-lower : (steps : List TrailStep) (j k start keep : ℕ) → Parts steps j start → Parts steps k keep → j < k → start < keep
Parts-lower steps j k start keep h g lt =
    elim (cases_lt start keep) as (λ _. start < keep) [
      | inl l ↦ l
      | inr ge ↦ absurd (omega (arith, h.at, g.above start ge h.low))
    ]

Parts-take : (steps : List TrailStep) (j k start keep : ℕ) → Parts steps j start → Parts steps k keep → j < k → Parts (take keep steps) j start
Parts-take steps j k start keep h g lt =
    let l = Parts-lower steps j k start keep h g lt in
    let n = length-take-le keep steps (omega (arith, g.low)) in
    record {
      low = omega (arith, n);
      many = h.many;
      at = ap (λ (x : TrailStep). x.level) (get_or-take keep steps start no_step l) ∙ h.at;
      below = λ p q. subst (λ (x : TrailStep). x.level ≤ j) (sym (get_or-take keep steps p no_step (omega arith))) (h.below p q);
      above = λ p q r. subst (λ (x : TrailStep). j < x.level) (sym (get_or-take keep steps p no_step (omega (arith, n)))) (h.above p q (omega (arith, n, g.low)));
    }

le_true : (m n : ℕ) → m ≤ n → nat_le m n ≡ true
le_true m n h = grind (arith, nat_tests)

le_false : (m n : ℕ) → n < m → nat_le m n ≡ false
le_false m n h = grind (arith, nat_tests)

lt_true : (m n : ℕ) → m < n → nat_lt m n ≡ true
lt_true m n h = grind (arith, nat_tests)

lt_false : (m n : ℕ) → n ≤ m → nat_lt m n ≡ false
lt_false m n h = grind (arith, nat_tests)

-- the steps up to a level, if a place parts them from the others
pub up_to-take : (k : ℕ) (steps : List TrailStep) (m : ℕ) → ((p : ℕ) → p < m → p < length steps → level_at steps p ≤ k) → ((p : ℕ) → m ≤ p → p < length steps → k < level_at steps p) → up_to k steps ≡ take m steps
up_to-take k [] zero low high = refl
up_to-take k [] (suc m) low high = refl
up_to-take k (s ∷ steps) zero low high =
    rw (le_false s.level k (high 0 (omega arith) (omega arith))) (up_to-take k steps zero (λ p h q. absurd (omega arith)) (λ p h q. high (suc p) (omega arith) (omega arith)))
up_to-take k (s ∷ steps) (suc m) low high =
    rw (le_true s.level k (low 0 (omega arith) (omega arith))) (ap (λ xs. s ∷ xs) (up_to-take k steps m (λ p h q. low (suc p) (omega arith) (omega arith)) (λ p h q. high (suc p) (omega arith) (omega arith))))

-- as many steps are of lower levels
pub start_of-parts : (k : ℕ) (steps : List TrailStep) (m : ℕ) → m ≤ length steps → ((p : ℕ) → p < m → level_at steps p < k) → ((p : ℕ) → m ≤ p → p < length steps → k ≤ level_at steps p) → start_of steps k ≡ m
start_of-parts k [] m le low high = omega arith
start_of-parts k (s ∷ steps) zero le low high =
    let e = lt_false s.level k (high 0 (omega arith) (omega arith)) in
    let r = start_of-parts k steps zero (omega arith) (λ p h. absurd (omega arith)) (λ p h q. high (suc p) (omega arith) (omega arith)) in
    rw e (omega (arith, r))
start_of-parts k (s ∷ steps) (suc m) le low high =
    let e = lt_true s.level k (low 0 (omega arith)) in
    let r = start_of-parts k steps m (omega arith) (λ p h. low (suc p) (omega arith)) (λ p h q. high (suc p) (omega arith) (omega arith)) in
    rw e (omega (arith, r))

pub up_to-Parts : (k : ℕ) (steps : List TrailStep) (start : ℕ) → Parts steps k start → up_to k steps ≡ take start steps
up_to-Parts k steps start h = up_to-take k steps start (λ p q r. h.below p q) (λ p q r. h.above p q r)

pub start_of-Parts : (k : ℕ) (steps : List TrailStep) (start : ℕ) → Parts steps k start → start_of steps (k + 1) ≡ start
start_of-Parts k steps start h = start_of-parts (k + 1) steps start (omega (arith, h.low)) (λ p q. let b = h.below p q in omega arith) (λ p q r. let a = h.above p q r in omega arith)

pub start_of-zero : (steps : List TrailStep) → start_of steps 0 ≡ 0
start_of-zero steps = start_of-parts 0 steps 0 (omega arith) (λ p q. absurd (omega arith)) (λ p q r. omega arith)

pub up_to-all : (k : ℕ) (steps : List TrailStep) → UpTo steps k → up_to k steps ≡ steps
up_to-all k steps h = up_to-take k steps (length steps) (λ p q r. h p r) (λ p q r. absurd (omega arith)) ∙ take_all (length steps) steps (omega arith)

pub few : (steps : List TrailStep) (starts : List ℕ) → AllPart steps starts → length starts ≤ length steps
few steps starts h =
    elim (cases_lt 0 (length starts)) as (λ _. length starts ≤ length steps) [
      | inl l ↦ (let p = h (length starts - 1) (omega arith) in omega (arith, p.low, p.many))
      | inr z ↦ omega arith
    ]

-- with one more step at the last level
pub AllPart-push : (steps : List TrailStep) (starts : List ℕ) (s : TrailStep) → AllPart steps starts → length starts ≤ s.level → AllPart (steps ++ s ∷ []) starts
AllPart-push steps starts s h le k lt = Parts-push steps k (get_or starts k 0) s (h k lt) (omega arith)

-- with one more level
pub AllPart-decide : (steps : List TrailStep) (starts : List ℕ) (s : TrailStep) → AllPart steps starts → UpTo steps (length starts) → s.level ≡ length starts + 1 → AllPart (steps ++ s ∷ []) (starts ++ length steps ∷ [])
AllPart-decide steps starts s h all eq k lt =
    elim (cases_lt k (length starts)) as (λ _. Parts (steps ++ s ∷ []) k (get_or (starts ++ length steps ∷ []) k 0)) [
      | inl l ↦ rw (get_or_append_left starts (length steps ∷ []) 0 k l) (Parts-push steps k (get_or starts k 0) s (h k l) (omega arith))
      | inr g ↦ (
          let e : k ≡ length starts = omega (arith, length-append starts (length steps ∷ [])) in
          rw (get_or_push starts (length steps) 0 k (sym e)) (Parts-new steps k s (λ p q. let r = all p q in omega arith) (omega (arith, few steps starts h)) (omega arith)))
    ]

pub UpTo-push : (steps : List TrailStep) (n : ℕ) (s : TrailStep) → UpTo steps n → s.level ≤ n → UpTo (steps ++ s ∷ []) n
UpTo-push steps n s h le p lt =
    elim (cases_lt p (length steps)) as (λ _. level_at (steps ++ s ∷ []) p ≤ n) [
      | inl l ↦ (let e = level-old steps s p l in let b = h p l in omega arith)
      | inr g ↦ (let e = level-new steps s p (omega (arith, length-append steps (s ∷ []))) in omega arith)
    ]

-- back to a lower level
pub AllPart-back : (steps : List TrailStep) (starts : List ℕ) (k : ℕ) → AllPart steps starts → k < length starts → AllPart (take (get_or starts k 0) steps) (take k starts)
AllPart-back steps starts k h lt j l =
    let n = length-take-le k starts (omega arith) in
    let m : j < k = omega (arith, n) in
    rw (get_or-take k starts j 0 m)
    (Parts-take steps j k (get_or starts j 0) (get_or starts k 0) (h j (omega arith)) (h k lt) m)

pub UpTo-back : (steps : List TrailStep) (k start : ℕ) → Parts steps k start → UpTo (take start steps) k
UpTo-back steps k start h p lt =
    let q : p < start = omega (arith, length-take-le start steps (omega (arith, h.low))) in
    subst (λ (x : TrailStep). x.level ≤ k) (sym (get_or-take start steps p no_step q)) (h.below p q)
