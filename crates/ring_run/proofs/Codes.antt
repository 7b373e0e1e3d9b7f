-- The codes of literals once round, and the turns that these have.
use Rattle.std.proofs.Common.{◌≡◌, ◌∙◌, ◌⊎◌, ℕ, zero, suc, ◌+◌, ◌-◌, ◌*◌, ◌<◌, ◌≤◌, ◌&&◌, if◌then◌else◌, Bool, true, false, List, [], ◌∷◌, ◌++◌, sym, subst, ap, refl, arith, inl, inr, append-nil}
use Rattle.std.specs.Prelude.{nat_le, nat_lt, filter}
use Rattle.std.specs.List.{range_with_len}
use Rattle.std.proofs.lemmas.Bool.{cases_lt}
use Rattle.std.proofs.lemmas.Bool.Decides.{nat_tests, leb_tells}
use Rattle.ring_port.specs.PortState.{PortState}
use Rattle.ring_run.specs.Renewal.{Point, round_from, most_probes, code_on, TookCode, ProbedEach, ProbedRound}
use Rattle.ring_run.specs.Halting.{HaltsAtCode, HaltsProbing, HaltsInRound}
use Rattle.ring_run.specs.declared.job.End.{End}

pub le_true : (a b : ℕ) → a ≤ b → nat_le a b ≡ true
le_true a b h = grind (arith, leb_tells, h)

pub le_false : (a b : ℕ) → b < a → nat_le a b ≡ false
le_false a b h = grind (arith, leb_tells, h)

lt_true : (a b : ℕ) → a < b → nat_lt a b ≡ true
lt_true a b h = grind (arith, nat_tests)

lt_false : (a b : ℕ) → b ≤ a → nat_lt a b ≡ false
lt_false a b h = grind (arith, nat_tests)

-- Codes, one after the other

-- the code of a literal on the variables
code_inside : (vars code : ℕ) → 2 ≤ code → code ≤ 2 * vars + 1 → code_on vars code ≡ code
code_inside vars code low high =
    ap (λ (b : Bool). if b && nat_le code (2 * vars + 1) then code else 2) (le_true 2 code low)
    ∙ ap (λ (b : Bool). if b then code else 2) (le_true code (2 * vars + 1) high)

pub code_below : (vars code : ℕ) → code < 2 → code_on vars code ≡ 2
code_below vars code low = ap (λ (b : Bool). if b && nat_le code (2 * vars + 1) then code else 2) (le_false 2 code low)

pub code_above : (vars code : ℕ) → 2 * vars + 1 < code → code_on vars code ≡ 2
code_above vars code high = ap (λ (b : Bool). if nat_le 2 code && b then code else 2) (le_false code (2 * vars + 1) high) ∙ neither (nat_le 2 code)
  where
    neither : (b : Bool) → (if b && false then code else 2) ≡ 2
    neither true = refl
    neither false = refl

pub code_there : (vars code : ℕ) → 2 ≤ code → code ≤ 2 * vars + 1 → code_on vars code ≡ code
code_there vars code low high = code_inside vars code low high

code_least : (vars : ℕ) → code_on vars 2 ≡ 2
code_least vars = either (nat_le 2 2 && nat_le 2 (2 * vars + 1)) 2
  where
    either : (b : Bool) (n : ℕ) → (if b then n else n) ≡ n
    either true n = refl
    either false n = refl

-- so many codes from this one on, each after the one before, and the least one after the greatest
abbrev pub codes_from : (vars code n : ℕ) → List ℕ
codes_from vars code zero = []
codes_from vars code (suc n) = code_on vars code ∷ codes_from vars (code_on vars code + 1) n

codes_up : (vars n a : ℕ) → 2 ≤ a → a + n ≤ 2 * vars + 2 → codes_from vars a n ≡ range_with_len a n
codes_up vars zero a low high = refl
codes_up vars (suc n) a low high =
    ap (λ (c : ℕ). c ∷ codes_from vars (c + 1) n) (code_inside vars a low (omega (arith, high)))
    ∙ ap (λ (cs : List ℕ). a ∷ cs) (codes_up vars n (a + 1) (omega (arith, low)) (omega (arith, high)))

codes_over : (vars m n k a : ℕ) → k ≡ n + m → 2 ≤ a → a + n ≡ 2 * vars + 2 → codes_from vars a k ≡ range_with_len a n ++ codes_from vars (2 * vars + 2) m
codes_over vars m zero k a whole low is =
    let there : a ≡ 2 * vars + 2 = omega (arith, is) in
    let many : k ≡ m = omega (arith, whole) in
    ap (λ (c : ℕ). codes_from vars c k) there ∙ ap (codes_from vars (2 * vars + 2)) many
codes_over vars m (suc n) zero a whole low is = absurd (omega (arith, whole))
codes_over vars m (suc n) (suc k) a whole low is =
    ap (λ (c : ℕ). c ∷ codes_from vars (c + 1) k) (code_inside vars a low (omega (arith, is)))
    ∙ ap (λ (cs : List ℕ). a ∷ cs) (codes_over vars m n k (a + 1) (omega (arith, whole)) (omega (arith, low)) (omega (arith, is)))

codes_anew : (vars m a : ℕ) → code_on vars a ≡ 2 → codes_from vars a m ≡ codes_from vars 2 m
codes_anew vars zero a is = refl
codes_anew vars (suc m) a is = ap (λ (c : ℕ). c ∷ codes_from vars (c + 1) m) (is ∙ sym (code_least vars))

pub codes_next : (vars code n i : ℕ) → i < n → codes_from vars code (n - i) ≡ code_on vars code ∷ codes_from vars (code_on vars code + 1) (n - (i + 1))
codes_next vars code n i lt = let e : n - i ≡ suc (n - (i + 1)) = omega (arith, lt) in ap (codes_from vars code) e

pub codes_none : (vars code n i : ℕ) → n ≤ i → codes_from vars code (n - i) ≡ []
codes_none vars code n i le = let e : n - i ≡ zero = omega (arith, le) in ap (codes_from vars code) e

-- Those from a code on, and those below it

from_drop : (code a : ℕ) (cs : List ℕ) → a < code → filter (λ c. nat_le code c) (a ∷ cs) ≡ filter (λ c. nat_le code c) cs
from_drop code a cs lt = ap (λ (b : Bool). if b then a ∷ filter (λ c. nat_le code c) cs else filter (λ c. nat_le code c) cs) (le_false code a lt)

from_keep : (code a : ℕ) (cs : List ℕ) → code ≤ a → filter (λ c. nat_le code c) (a ∷ cs) ≡ a ∷ filter (λ c. nat_le code c) cs
from_keep code a cs le = ap (λ (b : Bool). if b then a ∷ filter (λ c. nat_le code c) cs else filter (λ c. nat_le code c) cs) (le_true code a le)

below_drop : (code a : ℕ) (cs : List ℕ) → code ≤ a → filter (λ c. nat_lt c code) (a ∷ cs) ≡ filter (λ c. nat_lt c code) cs
below_drop code a cs le = ap (λ (b : Bool). if b then a ∷ filter (λ c. nat_lt c code) cs else filter (λ c. nat_lt c code) cs) (lt_false a code le)

below_keep : (code a : ℕ) (cs : List ℕ) → a < code → filter (λ c. nat_lt c code) (a ∷ cs) ≡ a ∷ filter (λ c. nat_lt c code) cs
below_keep code a cs lt = ap (λ (b : Bool). if b then a ∷ filter (λ c. nat_lt c code) cs else filter (λ c. nat_lt c code) cs) (lt_true a code lt)

all_from : (code n a : ℕ) → code ≤ a → filter (λ c. nat_le code c) (range_with_len a n) ≡ range_with_len a n
all_from code zero a le = refl
all_from code (suc n) a le = from_keep code a (range_with_len (a + 1) n) le ∙ ap (λ (cs : List ℕ). a ∷ cs) (all_from code n (a + 1) (omega (arith, le)))

none_from : (code n a : ℕ) → a + n ≤ code → filter (λ c. nat_le code c) (range_with_len a n) ≡ []
none_from code zero a le = refl
none_from code (suc n) a le = from_drop code a (range_with_len (a + 1) n) (omega (arith, le)) ∙ none_from code n (a + 1) (omega (arith, le))

none_below : (code n a : ℕ) → code ≤ a → filter (λ c. nat_lt c code) (range_with_len a n) ≡ []
none_below code zero a le = refl
none_below code (suc n) a le = below_drop code a (range_with_len (a + 1) n) le ∙ none_below code n (a + 1) (omega (arith, le))

all_below : (code n a : ℕ) → a + n ≤ code → filter (λ c. nat_lt c code) (range_with_len a n) ≡ range_with_len a n
all_below code zero a le = refl
all_below code (suc n) a le = below_keep code a (range_with_len (a + 1) n) (omega (arith, le)) ∙ ap (λ (cs : List ℕ). a ∷ cs) (all_below code n (a + 1) (omega (arith, le)))

upper_part : (code m n k a : ℕ) → k ≡ n + m → a + n ≡ code → filter (λ c. nat_le code c) (range_with_len a k) ≡ range_with_len code m
upper_part code m zero k a whole is =
    let there : a ≡ code = omega (arith, is) in
    let many : k ≡ m = omega (arith, whole) in
    all_from code k a (omega (arith, is)) ∙ ap (λ (c : ℕ). range_with_len c k) there ∙ ap (range_with_len code) many
upper_part code m (suc n) zero a whole is = absurd (omega (arith, whole))
upper_part code m (suc n) (suc k) a whole is =
    from_drop code a (range_with_len (a + 1) k) (omega (arith, is)) ∙ upper_part code m n k (a + 1) (omega (arith, whole)) (omega (arith, is))

lower_part : (code m n k a : ℕ) → k ≡ n + m → a + n ≡ code → filter (λ c. nat_lt c code) (range_with_len a k) ≡ range_with_len a n
lower_part code m zero k a whole is = none_below code k a (omega (arith, is))
lower_part code m (suc n) zero a whole is = absurd (omega (arith, whole))
lower_part code m (suc n) (suc k) a whole is =
    below_keep code a (range_with_len (a + 1) k) (omega (arith, is)) ∙ ap (λ (cs : List ℕ). a ∷ cs) (lower_part code m n k (a + 1) (omega (arith, whole)) (omega (arith, is)))

-- once round
pub round_is : (vars code : ℕ) → round_from vars code ≡ codes_from vars code (2 * vars)
round_is vars code = elim (cases_lt code 2) as (λ _. round_from vars code ≡ codes_from vars code (2 * vars)) [
  | inl low ↦ (
      ap (λ (cs : List ℕ). cs ++ filter (λ c. nat_lt c code) (range_with_len 2 (2 * vars))) (all_from code (2 * vars) 2 (omega (arith, low)))
      ∙ ap (λ (cs : List ℕ). range_with_len 2 (2 * vars) ++ cs) (none_below code (2 * vars) 2 (omega (arith, low)))
      ∙ append-nil (range_with_len 2 (2 * vars))
      ∙ sym (codes_up vars (2 * vars) 2 (omega arith) (omega arith))
      ∙ sym (codes_anew vars (2 * vars) code (code_below vars code low)))
  | inr some ↦ (elim (cases_lt (2 * vars + 2) code) as (λ _. round_from vars code ≡ codes_from vars code (2 * vars)) [
    | inl high ↦ (
        ap (λ (cs : List ℕ). cs ++ filter (λ c. nat_lt c code) (range_with_len 2 (2 * vars))) (none_from code (2 * vars) 2 (omega (arith, high)))
        ∙ all_below code (2 * vars) 2 (omega (arith, high))
        ∙ sym (codes_up vars (2 * vars) 2 (omega arith) (omega arith))
        ∙ sym (codes_anew vars (2 * vars) code (code_above vars code (omega (arith, high)))))
    | inr inside ↦ (
        let n : ℕ = code - 2 in
        let m : ℕ = 2 * vars + 2 - code in
        let first : 2 + n ≡ code = omega (arith, some) in
        let whole : 2 * vars ≡ n + m = omega (arith, some, inside) in
        ap (λ (cs : List ℕ). cs ++ filter (λ c. nat_lt c code) (range_with_len 2 (2 * vars))) (upper_part code m n (2 * vars) 2 whole first)
        ∙ ap (λ (cs : List ℕ). range_with_len code m ++ cs) (lower_part code m n (2 * vars) 2 whole first)
        ∙ sym (codes_over vars n m (2 * vars) code (omega (arith, whole)) some (omega (arith, inside))
        ∙ ap (λ (cs : List ℕ). range_with_len code m ++ cs) (codes_anew vars n (2 * vars + 2) (code_above vars (2 * vars + 2) (omega arith)) ∙ codes_up vars n 2 (omega arith) (omega (arith, some, inside)))))
  ])
]

-- Turns

-- one turn, and the others
pub took_code : (p m q : Point) (c left rest : ℕ) (codes : List ℕ) (code next : ℕ) → 1 ≤ left → TookCode p m c left rest → ProbedEach m q rest codes (c + 1) next → ProbedEach p q left (c ∷ codes) code next
took_code p m q c zero rest codes code next some took later = absurd (omega (arith, some))
took_code p m q c (suc left) rest codes code next some (inl k) later =
    inl (k.0, subst (λ (n : ℕ). ProbedEach p q n codes (c + 1) next) k.2 (subst (λ (x : Point). ProbedEach x q rest codes (c + 1) next) k.1 later))
took_code p m q c (suc left) rest codes code next some (inr k) later =
    let same : rest ≡ left = (let is = k.2 in omega (arith, is)) in
    inr (k.0, m, k.1, subst (λ (n : ℕ). ProbedEach m q n codes (c + 1) next) same later)

-- no other
pub took_none : (p : Point) (left : ℕ) (codes : List ℕ) (code : ℕ) → (left ≡ 0) ⊎ (codes ≡ []) → ProbedEach p p left codes code code
took_none p zero codes code over = (refl, refl)
took_none p (suc left) [] code over = (refl, refl)
took_none p (suc left) (c ∷ codes) code (inl none) = absurd (omega (arith, none))
took_none p (suc left) (c ∷ codes) code (inr none) = absurd cc

pub halted_here : (p : Point) (u : PortState) (c left : ℕ) (codes : List ℕ) (end : End) → 1 ≤ left → HaltsAtCode p u c end → HaltsProbing p u left (c ∷ codes) end
halted_here p u c zero codes end some how = absurd (omega (arith, some))
halted_here p u c (suc left) codes end some how = inr (inl how)

pub halted_later : (p m : Point) (u : PortState) (c left rest : ℕ) (codes : List ℕ) (end : End) → 1 ≤ left → TookCode p m c left rest → HaltsProbing m u rest codes end → HaltsProbing p u left (c ∷ codes) end
halted_later p m u c zero rest codes end some took later = absurd (omega (arith, some))
halted_later p m u c (suc left) rest codes end some (inl k) later =
    inl (k.0, subst (λ (n : ℕ). HaltsProbing p u n codes end) k.2 (subst (λ (x : Point). HaltsProbing x u rest codes end) k.1 later))
halted_later p m u c (suc left) rest codes end some (inr k) later =
    let same : rest ≡ left = (let is = k.2 in omega (arith, is)) in
    inr (inr (k.0, m, k.1, subst (λ (n : ℕ). HaltsProbing m u n codes end) same later))

-- Whatever the turns that are left come to, all of them come to

abbrev pub GoesRound : (p m : Point) (code : ℕ) (left : ℕ) → (codes : List ℕ) → (now : ℕ) → Type 0
GoesRound p m code left codes now =
    ((q : Point) (next : ℕ) → ProbedEach m q left codes now next → ProbedRound p q code next) × ((u : PortState) (end : End) → HaltsProbing m u left codes end → HaltsInRound p u code end)

pub round_begun : (p : Point) (code : ℕ) → GoesRound p p code most_probes (codes_from p.trail.vars code (2 * p.trail.vars - 0)) code
round_begun p code =
    let vars = p.trail.vars in
    let whole : 2 * vars - 0 ≡ 2 * vars = omega arith in
    let same : codes_from vars code (2 * vars - 0) ≡ round_from vars code = ap (codes_from vars code) whole ∙ sym (round_is vars code) in
    (λ q next all. subst (λ (cs : List ℕ). ProbedEach p q most_probes cs code next) same all, λ u end all. subst (λ (cs : List ℕ). HaltsProbing p u most_probes cs end) same all)

pub round_on : (p m q : Point) (vars code left rest now i : ℕ) → i < 2 * vars → 1 ≤ left → TookCode m q (code_on vars now) left rest → GoesRound p m code left (codes_from vars now (2 * vars - i)) now
    → GoesRound p q code rest (codes_from vars (code_on vars now + 1) (2 * vars - (i + 1))) (code_on vars now + 1)
round_on p m q vars code left rest now i lt some took k =
    let c = code_on vars now in
    let codes = codes_from vars (c + 1) (2 * vars - (i + 1)) in
    let same : codes_from vars now (2 * vars - i) ≡ c ∷ codes = codes_next vars now (2 * vars) i lt in (
      λ r next all. k.0 r next (subst (λ (cs : List ℕ). ProbedEach m r left cs now next) (sym same) (took_code m q r c left rest codes now next some took all)),
      λ u end all. k.1 u end (subst (λ (cs : List ℕ). HaltsProbing m u left cs end) (sym same) (halted_later m q u c left rest codes end some took all)),
    )

pub round_over : (p m : Point) (vars code left now i : ℕ) → (left ≡ 0) ⊎ (2 * vars ≤ i) → GoesRound p m code left (codes_from vars now (2 * vars - i)) now → ProbedRound p m code now
round_over p m vars code left now i (inl none) k = k.0 m now (took_none m left (codes_from vars now (2 * vars - i)) now (inl none))
round_over p m vars code left now i (inr le) k = k.0 m now (took_none m left (codes_from vars now (2 * vars - i)) now (inr (codes_none vars now (2 * vars) i le)))

pub round_halted : (p m : Point) (u : PortState) (vars code left now i : ℕ) (end : End) → i < 2 * vars → 1 ≤ left → HaltsAtCode m u (code_on vars now) end → GoesRound p m code left (codes_from vars now (2 * vars - i)) now → HaltsInRound p u code end
round_halted p m u vars code left now i end lt some how k =
    let c = code_on vars now in
    let codes = codes_from vars (c + 1) (2 * vars - (i + 1)) in
    k.1 u end (subst (λ (cs : List ℕ). HaltsProbing m u left cs end) (sym (codes_next vars now (2 * vars) i lt)) (halted_here m u c left codes end some how))
