-- Room that was wanted once.
use Rattle.std.proofs.Common.{◌≡◌, ℕ, ◌<◌, List, [], ◌∷◌, ◌++◌, refl, sym, ap, subst, ◌∙◌, inl, inr, arith, append_assoc, length-append}
use Rattle.sat_words.specs.Literal.{Literal}
use Rattle.rup_model.specs.declared.journal.Entry.{Entry}
use Rattle.rup_model.specs.Opening.{program_opening}
use Rattle.share_core.specs.declared.part.CoreOpening.{CoreOpening}
use Rattle.share_rule.specs.declared.Layout.{Layout}
use Rattle.share_rule.specs.FirstWords.{starts_of, IsNoHole}
use Rattle.share_rule.specs.Tight.{IsTight, numbered}

-- a longer journal has the same front
pub tight_more : (l : Layout) (o : CoreOpening) (J K : List Entry) (need most : ℕ) → IsTight l o J need most → IsTight l o (J ++ K) need most
tight_more l o J K need most (inl h) = inl (h.0, h.1 ++ K, ap (λ (I : List Entry). I ++ K) h.2 ∙ append_assoc h.0 h.1 K, h.3, h.4)
tight_more l o J K need most (inr h) = inr (let n = length-append J K in let k = h.0 in omega (arith, n, k), h.1, h.2)

-- what is needed is more than what there is
pub tight_short : (l : Layout) (o : CoreOpening) (J : List Entry) (need most : ℕ) → IsTight l o J need most → most < need
tight_short l o J need most (inl h) = h.4.short
tight_short l o J need most (inr h) = let n = h.1 in let m = h.2 in omega (arith, n, m)

-- clauses with their numbers
numbered_starts : (ss : List (ℕ × List Literal)) → numbered (starts_of ss) ≡ ss
numbered_starts [] = refl
numbered_starts (s ∷ ss) = ap (λ (ks : List (ℕ × List Literal)). s ∷ ks) (numbered_starts ss)

starts_are : (F : List (List Literal)) (J0 : List Entry) (ss : List (ℕ × List Literal)) → starts_of ss ≡ (program_opening F J0).starts → ss ≡ numbered (program_opening F J0).starts
starts_are F J0 ss same = sym (numbered_starts ss) ∙ ap numbered same

-- if the start clauses are the program's, one of them finds no hole if one of those does
pub program_no_hole : (F : List (List Literal)) (l : Layout) (J0 : List Entry) (ss : List (ℕ × List Literal)) (need most : ℕ) → starts_of ss ≡ (program_opening F J0).starts → IsNoHole l ss need most → IsNoHole l (numbered (program_opening F J0).starts) need most
program_no_hole F l J0 ss need most same h = subst (λ (ks : List (ℕ × List Literal)). IsNoHole l ks need most) (starts_are F J0 ss same) h
