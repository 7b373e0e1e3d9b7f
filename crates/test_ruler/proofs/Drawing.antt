-- One literal or one clause more that was drawn.
use Rattle.std.proofs.Common.{◌≡◌, ◌∙◌, ℕ, suc, ◌+◌, List, [], ◌∷◌, ◌++◌, refl, sym, ap, arith, append_assoc}
use Rattle.rand_pcg.specs.Lcg.{Lcg}
use Rattle.random_bits.specs.Bits.{rest_of}
use Rattle.sat_words.specs.Literal.{Literal}
use Rattle.test_ruler.specs.Draws.{lit_of, lits_from, behind_lits, next_clause, behind_clause, clauses_from}

pub lits_zero : (g : Lcg) → (lits_from g 0 ≡ []) × (behind_lits g 0 ≡ g)
unfolding lits_from behind_lits
lits_zero g = (refl, refl)

lits_suc : (g : Lcg) (n : ℕ) → lits_from g (suc n) ≡ lit_of g ∷ lits_from (rest_of (rest_of g)) n
unfolding lits_from
lits_suc g n = refl

behind_suc : (g : Lcg) (n : ℕ) → behind_lits g (suc n) ≡ behind_lits (rest_of (rest_of g)) n
unfolding behind_lits
behind_suc g n = refl

pub clauses_zero : (g : Lcg) → clauses_from g 0 ≡ []
unfolding clauses_from
clauses_zero g = refl

clauses_suc : (g : Lcg) (n : ℕ) → clauses_from g (suc n) ≡ next_clause g ∷ clauses_from (behind_clause g) n
unfolding clauses_from
clauses_suc g n = refl

-- one more of a list whose rest is drawn from here
more : {X : Type 0} (list : Lcg → ℕ → List X) (x : X) (start g k : Lcg) (done : List X) (i : ℕ) → ((n : ℕ) → list g (suc n) ≡ x ∷ list k n)
    → ((m : ℕ) → list start (i + m) ≡ done ++ list g m) → (m : ℕ) → list start (i + 1 + m) ≡ (done ++ x ∷ []) ++ list k m
more list x start g k done i next before m =
    let e : i + 1 + m ≡ i + suc m = omega arith in
    ap (list start) e ∙ before (suc m) ∙ ap (λ xs. done ++ xs) (next m) ∙ sym (append_assoc done (x ∷ []) (list k m))

pub lits_next : (start g k : Lcg) (done : List Literal) (lit : Literal) (i : ℕ) → lit ≡ lit_of g → k ≡ rest_of (rest_of g) → ((m : ℕ) → lits_from start (i + m) ≡ done ++ lits_from g m) → (m : ℕ) → lits_from start (i + 1 + m) ≡ (done ++ lit ∷ []) ++ lits_from k m
lits_next start g k done lit i is rest = more lits_from lit start g k done i (λ n. lits_suc g n ∙ (λ j. sym is j ∷ lits_from (sym rest j) n))

pub behind_next : (start g k : Lcg) (i : ℕ) → k ≡ rest_of (rest_of g) → ((m : ℕ) → behind_lits start (i + m) ≡ behind_lits g m) → (m : ℕ) → behind_lits start (i + 1 + m) ≡ behind_lits k m
behind_next start g k i rest before m =
    let e : i + 1 + m ≡ i + suc m = omega arith in
    ap (behind_lits start) e ∙ before (suc m) ∙ behind_suc g m ∙ ap (λ (x : Lcg). behind_lits x m) (sym rest)

pub clauses_next : (start g k : Lcg) (done : List (List Literal)) (c : List Literal) (i : ℕ) → c ≡ next_clause g → k ≡ behind_clause g → ((m : ℕ) → clauses_from start (i + m) ≡ done ++ clauses_from g m) → (m : ℕ) → clauses_from start (i + 1 + m) ≡ (done ++ c ∷ []) ++ clauses_from k m
clauses_next start g k done c i is rest = more clauses_from c start g k done i (λ n. clauses_suc g n ∙ (λ j. sym is j ∷ clauses_from (sym rest j) n))
