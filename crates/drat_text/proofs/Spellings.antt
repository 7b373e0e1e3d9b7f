-- In one format of DRAT, bytes determine the lines.
use Rattle.std.proofs.Common.{◌≡◌, ◌∙◌, ℕ, false, List, [], ◌∷◌, ◌++◌, map, refl, sym, arith, append-nil}
use Rattle.std.proofs.lemmas.Bool.{false≢true}
use Rattle.sat_words.specs.Formats.{has_hints}
use Rattle.sat_words.specs.declared.line.ProofFormat.{ProofFormat}
use Rattle.sat_words.specs.declared.line.ProofFormat.TheVariants.{Text, Binary, Lrat}
use Rattle.rup_model.specs.NumberedLines.{NumberedLine, line_of}
use Rattle.drat_text.specs.Text.{IsSpelled, CanBeSpelled}
use Rattle.drat_text.specs.Spelling.{spelling, proof_bytes}
use Rattle.drat_text.proofs.Unique.{others}
use Rattle.drat_text.proofs.Unique as text
use Rattle.drat_text.proofs.BinaryUnique as binary

same_line : (f : ProofFormat) (a b : NumberedLine) (s t : List ℕ) → has_hints f ≡ false → IsSpelled (line_of a) → IsSpelled (line_of b)
    → spelling f a ++ s ≡ spelling f b ++ t → (line_of a ≡ line_of b) × (s ≡ t)
same_line Text a b s t none = text.same_line (line_of a) (line_of b) s t
same_line Binary a b s t none = binary.same_line (line_of a) (line_of b) s t
same_line Lrat a b s t none = absurd (false≢true (sym none))

line_has_bytes : (f : ProofFormat) (a : NumberedLine) (s : List ℕ) → has_hints f ≡ false → [] ≡ spelling f a ++ s → ⊥
line_has_bytes Text a s none = text.line_has_bytes (line_of a) s
line_has_bytes Binary a s none = binary.line_has_bytes (line_of a) s
line_has_bytes Lrat a s none = absurd (false≢true (sym none))

pub same_lines : (f : ProofFormat) (K M : List NumberedLine) → has_hints f ≡ false → CanBeSpelled (map line_of K) → CanBeSpelled (map line_of M)
    → proof_bytes f K ≡ proof_bytes f M → map line_of K ≡ map line_of M
same_lines f [] [] none p q e = refl
same_lines f [] (b ∷ M) none p q e = absurd (line_has_bytes f b (proof_bytes f M) none e)
same_lines f (a ∷ K) [] none p q e = absurd (line_has_bytes f a (proof_bytes f K) none (sym e))
same_lines f (a ∷ K) (b ∷ M) none p q e =
    let both = same_line f a b (proof_bytes f K) (proof_bytes f M) none (p 0 (line_of a) (omega arith)) (q 0 (line_of b) (omega arith)) e in
    let first : line_of a ≡ line_of b = both.0 in
    let rest : map line_of K ≡ map line_of M =
    same_lines f K M none (others IsSpelled (line_of a) (map line_of K) p) (others IsSpelled (line_of b) (map line_of M) q) both.1 in
    cc

pub no_front : (f : ProofFormat) (a b : NumberedLine) (rest : List ℕ) → has_hints f ≡ false → IsSpelled (line_of a) → IsSpelled (line_of b)
    → spelling f a ++ rest ≡ spelling f b → line_of a ≡ line_of b
no_front f a b rest none p q e = (same_line f a b rest [] none p q (e ∙ sym (append-nil (spelling f b)))).0
