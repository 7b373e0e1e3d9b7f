-- The literals of a line, or its hints, spelled one by one.
use Rattle.std.proofs.Common.{◌≡◌, ◌∙◌, ℕ, ◌+◌, ◌<◌, List, [], ◌∷◌, ◌++◌, length, get_or, take, drop, take-append-drop, append_assoc, append-nil, ap, sym}
use Rattle.std.specs.List.{flat_map}
use Rattle.std.proofs.lemmas.List.{take_more}
use Rattle.std.proofs.lemmas.List.Concat.{flat_map-append}

module _ {X : Type 0} (word : X → List ℕ) (lits : List X) (i : ℕ) (lit : X) (low : i < length lits) (is : lit ≡ get_or lits i lit) where
  -- the literals before a place, and one more
  pub words_more : flat_map word (take (i + 1) lits) ≡ flat_map word (take i lits) ++ word lit
  words_more =
      ap (flat_map word) (take_more lits i lit low ∙ ap (λ (x : X). take i lits ++ x ∷ []) (sym is))
      ∙ flat_map-append word (take i lits) (lit ∷ [])
      ∙ ap (λ (xs : List ℕ). flat_map word (take i lits) ++ xs) (append-nil (word lit))

  -- the literals before a place, the one there, and those after it
  pub words_split : flat_map word lits ≡ (flat_map word (take i lits) ++ word lit) ++ flat_map word (drop (i + 1) lits)
  words_split =
      ap (flat_map word) (sym (take-append-drop (i + 1) lits)) ∙ flat_map-append word (take (i + 1) lits) (drop (i + 1) lits)
      ∙ ap (λ (xs : List ℕ). xs ++ flat_map word (drop (i + 1) lits)) words_more

  -- the same with the one there before the rest of the line
  pub words_at : (end : List ℕ) → flat_map word lits ++ end ≡ flat_map word (take i lits) ++ (word lit ++ (flat_map word (drop (i + 1) lits) ++ end))
  words_at end =
      ap (λ (xs : List ℕ). xs ++ end) words_split
      ∙ append_assoc (flat_map word (take i lits) ++ word lit) (flat_map word (drop (i + 1) lits)) end
      ∙ append_assoc (flat_map word (take i lits)) (word lit) (flat_map word (drop (i + 1) lits) ++ end)
