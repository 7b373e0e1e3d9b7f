-- The text of lines that are joined, and of one more line.
use Rattle.std.proofs.Common.{◌≡◌, ◌∙◌, ℕ, List, [], ◌∷◌, ◌++◌, ap, append-nil}
use Rattle.std.proofs.lemmas.List.Concat.{flat_map-append}
use Rattle.sat_words.specs.declared.line.Line.{Line}
use Rattle.drat_text.specs.Text.{line_text, text}

pub text-append : (L M : List Line) → text (L ++ M) ≡ text L ++ text M
text-append L M = flat_map-append line_text L M

pub text-push : (L : List Line) (line : Line) → text (L ++ line ∷ []) ≡ text L ++ line_text line
text-push L line = text-append L (line ∷ []) ∙ ap (λ (last : List ℕ). text L ++ last) (append-nil (line_text line))
