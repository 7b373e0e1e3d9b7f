-- The bytes of a line in binary show which line it is, and where it ends.
use Rattle.std.proofs.Common.{◌≡◌, ◌∙◌, ℕ, ◌<◌, ◌≤◌, ◌^◌, All, Bool, true, false, List, [], ◌∷◌, ◌++◌, refl, ap, sym, arith, append_assoc}
use Rattle.std.proofs.lemmas.Bool.{eq-eqb}
use Rattle.sat_words.specs.Literal.{Literal, IsOn, code_of}
use Rattle.sat_words.specs.declared.line.Line.{Line}
use Rattle.sat_words.specs.declared.line.Line.TheVariants.{Add, Del}
use Rattle.sat_words.proofs.Members.{same-true}
use Rattle.drat_text.specs.Text.{IsSpelled}
use Rattle.drat_text.specs.Binary.{lit_bytes, lits_bytes, marked_bytes, line_bytes}
use Rattle.drat_text.proofs.SevenBits.{Fits, fits_five, same_groups, no_zero}
use Rattle.drat_text.proofs.Unique.{others}

code_low : (b : Bool) (v : ℕ) → 1 ≤ v → v ≤ 2 ^ 30 → (1 ≤ code_of (record { var = v; neg = b })) × (code_of (record { var = v; neg = b }) < 2 ^ 35)
code_low true v low high = (omega arith, omega arith)
code_low false v low high = (omega arith, omega arith)

first_on : (l : Literal) (c : List Literal) → All (IsOn (2 ^ 30)) (l ∷ c) → (1 ≤ code_of l) × Fits 5 (code_of l)
first_on l c all = let on = all 0 l (omega arith) in let b = code_low l.neg l.var on.low on.high in (b.0, fits_five (code_of l) b.1)

same_lits : (c d : List Literal) (s t : List ℕ) → All (IsOn (2 ^ 30)) c → All (IsOn (2 ^ 30)) d → lits_bytes c ++ 0 ∷ s ≡ lits_bytes d ++ 0 ∷ t → (c ≡ d) × (s ≡ t)
same_lits [] [] s t p q e = (refl, cc)
same_lits [] (m ∷ d) s t p q e = let on = first_on m d q in absurd (no_zero 5 (code_of m) s (lits_bytes d ++ 0 ∷ t) on.0 on.1 (e ∙ append_assoc (lit_bytes m) (lits_bytes d) (0 ∷ t)))
same_lits (l ∷ c) [] s t p q e = let on = first_on l c p in absurd (no_zero 5 (code_of l) t (lits_bytes c ++ 0 ∷ s) on.0 on.1 (sym e ∙ append_assoc (lit_bytes l) (lits_bytes c) (0 ∷ s)))
same_lits (l ∷ c) (m ∷ d) s t p q e =
    let both = same_groups 5 (code_of l) (code_of m) (lits_bytes c ++ 0 ∷ s) (lits_bytes d ++ 0 ∷ t) (first_on l c p).1 (first_on m d q).1
    (sym (append_assoc (lit_bytes l) (lits_bytes c) (0 ∷ s)) ∙ e ∙ append_assoc (lit_bytes m) (lits_bytes d) (0 ∷ t)) in
    let rest = same_lits c d s t (others (IsOn (2 ^ 30)) l c p) (others (IsOn (2 ^ 30)) m d q) both.1 in
    let first : l ≡ m = same-true l m (eq-eqb (code_of l) (code_of m) both.0) in
    let more : c ≡ d = rest.0 in
    (cc, rest.1)

same_marked : (mark : ℕ) (c d : List Literal) (s t : List ℕ) → All (IsOn (2 ^ 30)) c → All (IsOn (2 ^ 30)) d → marked_bytes mark c ++ s ≡ marked_bytes mark d ++ t → (c ≡ d) × (s ≡ t)
same_marked mark c d s t p q e =
    let tail : (lits_bytes c ++ 0 ∷ []) ++ s ≡ (lits_bytes d ++ 0 ∷ []) ++ t = cc in
    same_lits c d s t p q (sym (append_assoc (lits_bytes c) (0 ∷ []) s) ∙ tail ∙ append_assoc (lits_bytes d) (0 ∷ []) t)

pub same_line : (a b : Line) (s t : List ℕ) → IsSpelled a → IsSpelled b → line_bytes a ++ s ≡ line_bytes b ++ t → (a ≡ b) × (s ≡ t)
same_line (Add c) (Add d) s t p q e = let both = same_marked 97 c d s t p q e in (ap (λ (lits : List Literal). Add lits) both.0, both.1)
same_line (Del c) (Del d) s t p q e = let both = same_marked 100 c d s t p q e in (ap (λ (lits : List Literal). Del lits) both.0, both.1)
same_line (Add c) (Del d) s t p q e = let first : ◌≡◌ {A = ℕ} 97 100 = cc in absurd (omega arith)
same_line (Del c) (Add d) s t p q e = let first : ◌≡◌ {A = ℕ} 100 97 = cc in absurd (omega arith)

pub line_has_bytes : (a : Line) (s : List ℕ) → [] ≡ line_bytes a ++ s → ⊥
line_has_bytes (Add c) s e = cc
line_has_bytes (Del c) s e = cc
