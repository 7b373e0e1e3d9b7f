-- The bits of a generator, word by word.
use Rattle.std.proofs.Common.{◌≡◌, ◌∙◌, ℕ, zero, suc, ◌+◌, ◌%◌, ◌==◌, Bool, List, [], ◌∷◌, ◌++◌, length, refl, sym, ap, arith, append_assoc}
use Rattle.rand_pcg.specs.Lcg.{Lcg}
use Rattle.rand_pcg.specs.Pcg.{pcg32}
use Rattle.random_bits.specs.Bits.{bits_from, rest_from, word_of, rest_of}

pub bits-length : (g : Lcg) (n : ℕ) → length (bits_from g n) ≡ n
unfolding bits_from
bits-length g zero = refl
bits-length g (suc n) = let r = bits-length (rest_of g) n in omega arith

pub bits-zero : (g : Lcg) → bits_from g 0 ≡ []
unfolding bits_from
bits-zero g = refl

bits-suc : (g : Lcg) (n : ℕ) → bits_from g (suc n) ≡ (word_of g % 2 == 1) ∷ bits_from (rest_of g) n
unfolding bits_from
bits-suc g n = refl

pub rest-zero : (g : Lcg) → rest_from g 0 ≡ g
unfolding rest_from
rest-zero g = refl

rest-suc : (g : Lcg) (n : ℕ) → rest_from g (suc n) ≡ rest_from (rest_of g) n
unfolding rest_from
rest-suc g n = refl

-- one word more was taken
pub bits-next : (start g h : Lcg) (done : List Bool) (w i : ℕ) → (w, h) ≡ pcg32 g → ((m : ℕ) → bits_from start (i + m) ≡ done ++ bits_from g m) → (m : ℕ) → bits_from start (i + 1 + m) ≡ (done ++ (w % 2 == 1) ∷ []) ++ bits_from h m
bits-next start g h done w i e before m =
    let k : i + 1 + m ≡ i + suc m = omega arith in
    let wv : w ≡ word_of g = ap (λ (p : ℕ × Lcg). p.0) e in
    let hv : h ≡ rest_of g = ap (λ (p : ℕ × Lcg). p.1) e in
    ap (bits_from start) k ∙ before (suc m) ∙ ap (λ (xs : List Bool). done ++ xs) (bits-suc g m)
    ∙ ap (λ (x : ℕ). done ++ (x % 2 == 1) ∷ bits_from (rest_of g) m) (sym wv)
    ∙ ap (λ (x : Lcg). done ++ (w % 2 == 1) ∷ bits_from x m) (sym hv)
    ∙ sym (append_assoc done ((w % 2 == 1) ∷ []) (bits_from h m))

pub rest-next : (start g h : Lcg) (w i : ℕ) → (w, h) ≡ pcg32 g → ((m : ℕ) → rest_from start (i + m) ≡ rest_from g m) → (m : ℕ) → rest_from start (i + 1 + m) ≡ rest_from h m
rest-next start g h w i e before m =
    let k : i + 1 + m ≡ i + suc m = omega arith in
    let hv : h ≡ rest_of g = ap (λ (p : ℕ × Lcg). p.1) e in
    ap (rest_from start) k ∙ before (suc m) ∙ rest-suc g m ∙ ap (λ (x : Lcg). rest_from x m) (sym hv)
