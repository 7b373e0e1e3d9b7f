-- Bytes are a text or have one first bad line.
use Rattle.std.proofs.Common.{◌≡◌, ◌∙◌, ℕ, ◌+◌, List, [], ◌∷◌, ◌++◌, length, refl, ap, sym, arith, append_assoc, append-nil}
use Rattle.sat_words.specs.declared.line.Line.{Line}
use Rattle.drat_text.specs.Text.{line_text, text, IsSpelled, CanBeSpelled}
use Rattle.drat_text.specs.Read.{IsTextOf, BeginsWithLine, IsBadLine}
use Rattle.drat_text.proofs.Unique.{others, same_line, line_has_bytes}

begins : (x : Line) (more bytes : List ℕ) → IsSpelled x → bytes ≡ line_text x ++ more → BeginsWithLine bytes
begins x more bytes on e = record { line = x; more = more; spelled = on; split = e }

first_on : (x : Line) (L : List Line) → CanBeSpelled (x ∷ L) → IsSpelled x
first_on x L p = p 0 x (omega arith)

-- two splits of the same bytes into lines and what begins with none
one_split : (L M : List Line) (r s : List ℕ) → CanBeSpelled L → CanBeSpelled M → text L ++ r ≡ text M ++ s → (BeginsWithLine r → ⊥) → (BeginsWithLine s → ⊥) → (L ≡ M) × (r ≡ s)
one_split [] [] r s p q e bad worse = (refl, e)
one_split [] (b ∷ M) r s p q e bad worse = absurd (bad (begins b (text M ++ s) r (first_on b M q) (e ∙ append_assoc (line_text b) (text M) s)))
one_split (a ∷ L) [] r s p q e bad worse = absurd (worse (begins a (text L ++ r) s (first_on a L p) (sym e ∙ append_assoc (line_text a) (text L) r)))
one_split (a ∷ L) (b ∷ M) r s p q e bad worse =
    let split = sym (append_assoc (line_text a) (text L) r) ∙ e ∙ append_assoc (line_text b) (text M) s in
    let both = same_line a b (text L ++ r) (text M ++ s) (first_on a L p) (first_on b M q) split in
    let more = one_split L M r s (others IsSpelled a L p) (others IsSpelled b M q) both.1 bad worse in
    (ap (λ (x : Line). x ∷ L) both.0 ∙ ap (λ (xs : List Line). b ∷ xs) more.0, more.1)

pub never_both : (L : List Line) (bytes : List ℕ) (number : ℕ) → IsTextOf L bytes → IsBadLine bytes number → ⊥
never_both L bytes number t b =
    let same = one_split L b.lines [] b.rest t.spelled b.spelled (append-nil (text L) ∙ sym t.is ∙ b.split) (λ x. line_has_bytes x.line x.more x.split) b.bad in
    let none : 0 ≡ length b.rest = ap (λ (xs : List ℕ). length xs) same.1 in
    omega (arith, b.some)

pub one_bad : (bytes : List ℕ) (m n : ℕ) → IsBadLine bytes m → IsBadLine bytes n → m ≡ n
one_bad bytes m n a b =
    let same = one_split a.lines b.lines a.rest b.rest a.spelled b.spelled (sym a.split ∙ b.split) a.bad b.bad in
    a.before ∙ ap (λ (L : List Line). length L + 1) same.0 ∙ sym b.before
