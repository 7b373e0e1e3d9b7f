-- The text of a line shows which line it is, and where it ends.
use Rattle.std.proofs.Common.{◌≡◌, ◌∙◌, ℕ, suc, ◌<◌, ◌≤◌, ◌^◌, All, List, [], ◌∷◌, ◌++◌, refl, ap, sym, arith, length, length-append, append_assoc, codes}
use Rattle.sat_words.specs.Literal.{Literal, IsOn, lit_text}
use Rattle.sat_words.specs.declared.line.Line.{Line}
use Rattle.sat_words.specs.declared.line.Line.TheVariants.{Add, Del}
use Rattle.drat_text.specs.Text.{lits_text, line_text, IsSpelled}
use Rattle.drat_text.proofs.Tokens.{IsToken, lit_text_is_token, token_ends, same_from_lit_text}

-- what holds of all holds of those after the first
pub others : {X : Type 0} (P : X → Type 0) (x : X) (xs : List X) → All P (x ∷ xs) → All P xs
others P x xs all = λ k d low. all (suc k) d (omega arith)

pub small : (l : Literal) (c : List Literal) → All (IsOn (2 ^ 30)) (l ∷ c) → l.var < 2 ^ 64
small l c all = let on = all 0 l (omega arith) in omega (arith, on.high)

pub first_is_token : (l : Literal) (c : List Literal) → All (IsOn (2 ^ 30)) (l ∷ c) → IsToken (lit_text l)
first_is_token l c all = lit_text_is_token l (small l c all)

pub lits_text_first : (l : Literal) (c : List Literal) (s : List ℕ) → lits_text (l ∷ c) ++ s ≡ lit_text l ++ 32 ∷ (lits_text c ++ s)
lits_text_first l c s =
    append_assoc (lit_text l ++ 32 ∷ []) (lits_text c) s ∙ append_assoc (lit_text l) (32 ∷ []) (lits_text c ++ s)

-- a byte and a newline don't begin with a token and a space
pub end_is_no_token : (mark newline space : ℕ) (xs s t : List ℕ) → space < mark → newline < space → space < 33 → IsToken xs → mark ∷ newline ∷ s ≡ xs ++ space ∷ t → ⊥
end_is_no_token mark newline space [] s t p q r h e = let same : mark ≡ space = cc in absurd (omega arith)
end_is_no_token mark newline space (x ∷ []) s t p q r h e = let same : newline ≡ space = cc in absurd (omega arith)
end_is_no_token mark newline space (x ∷ y ∷ xs) s t p q r (above, below, (above2, below2, rest)) e = let same : newline ≡ y = cc in absurd (omega arith)

-- a token and a space don't begin with a byte as high as `d`
token_has_no_d : (space d : ℕ) (xs s t : List ℕ) → space < d → 100 ≤ d → IsToken xs → xs ++ space ∷ s ≡ d ∷ t → ⊥
token_has_no_d space d [] s t p q h e = let same : space ≡ d = cc in absurd (omega arith)
token_has_no_d space d (x ∷ xs) s t p q (above, below, rest) e = let same : x ≡ d = cc in absurd (omega arith)

same_lits : (c d : List Literal) (s t : List ℕ) → All (IsOn (2 ^ 30)) c → All (IsOn (2 ^ 30)) d
    → lits_text c ++ 48 ∷ 10 ∷ s ≡ lits_text d ++ 48 ∷ 10 ∷ t → (c ≡ d) × (s ≡ t)
same_lits [] [] s t p q e = (refl, cc)
same_lits [] (m ∷ d) s t p q e =
    absurd (end_is_no_token 48 10 32 (lit_text m) s _ (omega arith) (omega arith) (omega arith) (first_is_token m d q) (e ∙ lits_text_first m d (48 ∷ 10 ∷ t)))
same_lits (l ∷ c) [] s t p q e =
    absurd (end_is_no_token 48 10 32 (lit_text l) t _ (omega arith) (omega arith) (omega arith) (first_is_token l c p) (sym e ∙ lits_text_first l c (48 ∷ 10 ∷ s)))
same_lits (l ∷ c) (m ∷ d) s t p q e =
    let split = sym (lits_text_first l c (48 ∷ 10 ∷ s)) ∙ e ∙ lits_text_first m d (48 ∷ 10 ∷ t) in
    let both = token_ends (lit_text l) (lit_text m) _ _ (first_is_token l c p) (first_is_token m d q) split in
    let rest = same_lits c d s t (others (IsOn (2 ^ 30)) l c p) (others (IsOn (2 ^ 30)) m d q) both.1 in
    let first : l ≡ m = same_from_lit_text l m (small l c p) (small m d q) both.0 in
    let more : c ≡ d = rest.0 in
    (cc, rest.1)

pub lits_have_no_d : (mark d : ℕ) (c : List Literal) (s t : List ℕ) → mark < d → 100 ≤ d → All (IsOn (2 ^ 30)) c → lits_text c ++ mark ∷ s ≡ d ∷ t → ⊥
lits_have_no_d mark d [] s t p q on e = let same : mark ≡ d = cc in absurd (omega arith)
lits_have_no_d mark d (l ∷ c) s t p q on e =
    token_has_no_d 32 d (lit_text l) _ t (omega arith) q (first_is_token l c on) (sym (lits_text_first l c (mark ∷ s)) ∙ e)

pub line_ends : (c : List Literal) (s : List ℕ) → (lits_text c ++ codes "0\n") ++ s ≡ lits_text c ++ 48 ∷ 10 ∷ s
line_ends c s = append_assoc (lits_text c) (48 ∷ 10 ∷ []) s

pub same_line : (a b : Line) (s t : List ℕ) → IsSpelled a → IsSpelled b
    → line_text a ++ s ≡ line_text b ++ t → (a ≡ b) × (s ≡ t)
same_line (Add c) (Add d) s t p q e =
    let both = same_lits c d s t p q (sym (line_ends c s) ∙ e ∙ line_ends d t) in
    (ap (λ (lits : List Literal). Add lits) both.0, both.1)
same_line (Del c) (Del d) s t p q e =
    let rest : (lits_text c ++ codes "0\n") ++ s ≡ (lits_text d ++ codes "0\n") ++ t = cc in
    let both = same_lits c d s t p q (sym (line_ends c s) ∙ rest ∙ line_ends d t) in
    (ap (λ (lits : List Literal). Del lits) both.0, both.1)
same_line (Add c) (Del d) s t p q e = absurd (lits_have_no_d 48 100 c _ _ (omega arith) (omega arith) p (sym (line_ends c s) ∙ e))
same_line (Del c) (Add d) s t p q e = absurd (lits_have_no_d 48 100 d _ _ (omega arith) (omega arith) q (sym (line_ends d t) ∙ sym e))

lits_end : (c : List Literal) (s : List ℕ) → 0 < length ((lits_text c ++ codes "0\n") ++ s)
lits_end c s = simp length-append (omega arith)

pub line_has_bytes : (a : Line) (s : List ℕ) → [] ≡ line_text a ++ s → ⊥
line_has_bytes (Add c) s e = let none : 0 ≡ length ((lits_text c ++ codes "0\n") ++ s) = ap length e in absurd (omega (arith, lits_end c s))
line_has_bytes (Del c) s e = cc
