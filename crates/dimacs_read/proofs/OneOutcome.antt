-- A text gives one outcome.
use Rattle.std.proofs.Common.{◌≡◌, ◌∙◌, ℕ, ◌+◌, ◌<◌, ◌^◌, List, [], ◌∷◌, ◌++◌, length, sym, ap, refl, arith, length-append}
use Rattle.std.specs.Prelude.{Ok, Err}
use Rattle.sat_words.specs.FormulaData.{FormulaData}
use Rattle.dimacs_read.specs.Grammar.{Outcome, Fault, outcome}
use Rattle.dimacs_read.specs.Input.{Shows, separator, IsLong, Gives, Short, Determined, Long}

long_text : (text front : List ℕ) (byte : ℕ) → IsLong text front byte → 2 ^ 33 < length text
long_text text front byte long =
    let whole : length text ≡ length front + length (byte ∷ long.more) = ap length long.split ∙ length-append front (byte ∷ long.more) in
    omega (arith, long.limit)

-- what stands behind two fronts of one length
same_front : (f g : List ℕ) (a b : ℕ) (s t : List ℕ) → length f ≡ length g → f ++ a ∷ s ≡ g ++ b ∷ t → (f ≡ g) × (a ≡ b)
same_front [] [] a b s t e h = (refl, cc)
same_front [] (y ∷ g) a b s t e h = absurd (omega (arith, e))
same_front (x ∷ f) [] a b s t e h = absurd (omega (arith, e))
same_front (x ∷ f) (y ∷ g) a b s t e h =
    let first : x ≡ y = cc in
    let others : f ++ a ∷ s ≡ g ++ b ∷ t = cc in
    let lengths : length f ≡ length g = omega (arith, e) in
    let both = same_front f g a b s t lengths others in
    let fronts : f ≡ g = both.0 in
    (cc, both.1)

same_cut : (text f g : List ℕ) (a b : ℕ) → IsLong text f a → IsLong text g b → (f ≡ g) × (a ≡ b)
same_cut text f g a b p q = same_front f g a b p.more q.more (p.limit ∙ sym q.limit) (sym p.split ∙ q.split)

same_shown : (f g : List ℕ) (a b : ℕ) (o p : Outcome) → (f ≡ g) × (a ≡ b) → Shows (f ++ separator a) o → Shows (g ++ separator b) p → o ≡ p
same_shown f g a b o p same h k =
    let texts : f ++ separator a ≡ g ++ separator b = λ i. same.0 i ++ separator (same.1 i) in
    sym (h []) ∙ ap (λ (t : List ℕ). outcome (t ++ [])) texts ∙ k []

moved : (f g : List ℕ) (a b : ℕ) (o : Outcome) → (f ≡ g) × (a ≡ b) → Shows (f ++ separator a) o → Shows (g ++ separator b) o
moved f g a b o same h more = ap (λ (t : List ℕ). outcome (t ++ more)) (sym (λ i. same.0 i ++ separator (same.1 i))) ∙ h more

pub gives_one : (text : List ℕ) (o p : Outcome) → Gives text o → Gives text p → o ≡ p
gives_one text o p (Short few is) (Short few2 is2) = sym is ∙ is2
gives_one text o p (Short few is) (Determined g b long shown) = absurd (omega (arith, long_text text g b long))
gives_one text o p (Short few is) (Long g b long none is2) = absurd (omega (arith, long_text text g b long))
gives_one text o p (Determined f a long shown) (Short few is) = absurd (omega (arith, long_text text f a long))
gives_one text o p (Determined f a long shown) (Determined g b long2 shown2) = same_shown f g a b o p (same_cut text f g a b long long2) shown shown2
gives_one text o p (Determined f a long shown) (Long g b long2 none is2) = absurd (none o (moved f g a b o (same_cut text f g a b long long2) shown))
gives_one text o p (Long f a long none is) (Short few is2) = absurd (omega (arith, long_text text f a long))
gives_one text o p (Long f a long none is) (Determined g b long2 shown2) = absurd (none p (moved g f b a p (same_cut text g f b a long2 long) shown2))
gives_one text o p (Long f a long none is) (Long g b long2 none2 is2) =
    let same = same_cut text f g a b long long2 in
    let fronts : f ≡ g = same.0 in
    cc

pub apart : (formula : FormulaData) (place : Fault) (a b : Outcome) → a ≡ Ok formula → b ≡ Err place → a ≡ b → ⊥
apart formula place a b first second same = cc

pub same_formula : (f g : FormulaData) (a b : Outcome) → a ≡ Ok f → b ≡ Ok g → a ≡ b → f ≡ g
same_formula f g a b first second same = cc

pub same_place : (p q : Fault) (a b : Outcome) → a ≡ Err p → b ≡ Err q → a ≡ b → p ≡ q
same_place p q a b first second same = cc
