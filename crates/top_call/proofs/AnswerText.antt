-- The values on their way to a sink: some of their text was written, some waits in the piece, and some words are left.
use Rattle.std.proofs.Common.{◌≡◌, ◌∙◌, ℕ, suc, ◌+◌, ◌-◌, ◌<◌, ◌≤◌, ◌^◌, min, List, [], ◌∷◌, ◌++◌, length, map, codes, append_assoc, refl, ap, sym, subst, arith, Bool}
use Rattle.std.specs.declared.option.Option.{Option}
use Rattle.std.specs.List.{range_with_len}
use Rattle.sat_words.specs.Literal.{lit_text}
use Rattle.io_edge.specs.Bytes.{GrowsBy}
use Rattle.drat_text.specs.Cut.{WasCut}
use Rattle.drat_text.specs.PieceCut.{PieceWasCut}
use Rattle.drat_text.proofs.Progress.{Progress, progress_none, progress_pushed, progress_written, progress_cut, progress_renamed}
use Rattle.top_call.specs.Answer.{true_literal, value_words, wrapped}

-- the words of the values from a variable to the last
abbrev pub words_from : ℕ → ℕ → List Bool → List (List ℕ)
words_from var vars model = map (λ v. lit_text (true_literal model v)) (range_with_len var (vars + 1 - var)) ++ codes "0" ∷ []

pub words_from-one : (vars : ℕ) (model : List Bool) → words_from 1 vars model ≡ value_words vars model
words_from-one vars model =
    let all : vars + 1 - 1 ≡ vars = omega arith in
    ap (λ (n : ℕ). map (λ v. lit_text (true_literal model v)) (range_with_len 1 n) ++ codes "0" ∷ []) all

pub words_from-next : (var vars : ℕ) (model : List Bool) → var < vars + 1
    → words_from var vars model ≡ lit_text (true_literal model var) ∷ words_from (var + 1) vars model
words_from-next var vars model low =
    let one_more : vars + 1 - var ≡ suc (vars + 1 - (var + 1)) = omega arith in
    ap (λ (n : ℕ). map (λ v. lit_text (true_literal model v)) (range_with_len var n) ++ codes "0" ∷ []) one_more

pub words_from-end : (var vars : ℕ) (model : List Bool) → vars + 1 ≤ var → words_from var vars model ≡ codes "0" ∷ []
words_from-end var vars model high =
    let none : vars + 1 - var ≡ 0 = omega arith in
    ap (λ (n : ℕ). map (λ v. lit_text (true_literal model v)) (range_with_len var n) ++ codes "0" ∷ []) none

pub record Printing (start now : Option (List ℕ)) (text piece : List ℕ) (used taken : ℕ) (rest : List (List ℕ)) : Type 0 where
  pub line : List ℕ
  pub progress : Progress start now line piece taken
  pub split : line ++ wrapped used rest ≡ text

pub printing_begun : (start : Option (List ℕ)) (head line : List ℕ) (used : ℕ) (rest : List (List ℕ)) → Printing start start (head ++ (line ++ wrapped used rest)) (head ++ line) used 0 rest
printing_begun start head line used rest = record { line = head ++ line; progress = progress_none start (head ++ line); split = append_assoc head line (wrapped used rest) }

-- a word was put into the piece
pub printing_put : (start now : Option (List ℕ)) (text piece piece2 : List ℕ) (used used2 taken : ℕ) (word : List ℕ) (rest : List (List ℕ))
    → Printing start now text piece used taken (word ∷ rest) → piece2 ++ wrapped used2 rest ≡ piece ++ wrapped used (word ∷ rest)
    → Printing start now text piece2 used2 taken rest
printing_put start now text piece piece2 used used2 taken word rest p e =
    let written = p.progress.written in
    record {
      line = written ++ piece2;
      progress = record { written = written; whole = refl; grown = p.progress.grown; told = p.progress.told };
      split = append_assoc written piece2 (wrapped used2 rest) ∙ ap (λ (xs : List ℕ). written ++ xs) e
          ∙ sym (append_assoc written piece (wrapped used (word ∷ rest)))
          ∙ ap (λ (xs : List ℕ). xs ++ wrapped used (word ∷ rest)) p.progress.whole ∙ p.split;
    }

-- the piece was written
pub printing_written : (start now after : Option (List ℕ)) (text piece : List ℕ) (used taken count : ℕ) (rest : List (List ℕ))
    → Printing start now text piece used taken rest → GrowsBy now after piece → count ≡ min (taken + length piece) (2 ^ 64 - 1)
    → Printing start after text [] used count rest
printing_written start now after text piece used taken count rest p grown told =
    record { line = p.line; progress = progress_written start now after p.line piece taken count p.progress grown told; split = p.split }

-- the write of the piece stopped
pub printing_cut : (start now after : Option (List ℕ)) (text piece : List ℕ) (used taken count : ℕ) (rest : List (List ℕ))
    → Printing start now text piece used taken rest → PieceWasCut taken now after piece count → WasCut start after text count
printing_cut start now after text piece used taken count rest p stop =
    subst (λ (all : List ℕ). WasCut start after all count) p.split (progress_cut start now after p.line piece (wrapped used rest) taken count p.progress stop)

-- the same under other names
pub printing_renamed : (start now after : Option (List ℕ)) (text piece piece2 : List ℕ) (used taken taken2 : ℕ) (rest rest2 : List (List ℕ))
    → Printing start now text piece used taken rest → after ≡ now → piece2 ≡ piece → taken2 ≡ taken → rest2 ≡ rest
    → Printing start after text piece2 used taken2 rest2
printing_renamed start now after text piece piece2 used taken taken2 rest rest2 p a b d e = record {
  line = p.line;
  progress = progress_renamed start now after p.line p.line piece piece2 taken taken2 p.progress a refl b d;
  split = ap (λ (words : List (List ℕ)). p.line ++ wrapped used words) e ∙ p.split;
}

-- after the last value the `0` and a newline were put
pub printing_last : (start now : Option (List ℕ)) (text piece piece2 piece3 : List ℕ) (used used2 taken var vars : ℕ) (model : List Bool)
    → Printing start now text piece used taken (words_from var vars model) → vars + 1 ≤ var
    → piece2 ++ wrapped used2 [] ≡ piece ++ wrapped used (codes "0" ∷ []) → piece3 ≡ piece2 ++ codes "\n"
    → Progress start now text piece3 taken
printing_last start now text piece piece2 piece3 used used2 taken var vars model p high zero newline =
    let words = words_from var vars model in
    let before = printing_renamed start now now text piece piece used taken taken words (codes "0" ∷ []) p refl refl refl (sym (words_from-end var vars model high)) in
    let put = printing_put start now text piece piece2 used used2 taken (codes "0") [] before zero in
    progress_renamed start now now (put.line ++ codes "\n") text (piece2 ++ codes "\n") piece3 taken taken
    (progress_pushed start now put.line piece2 (codes "\n") taken put.progress) refl (sym put.split) newline refl
