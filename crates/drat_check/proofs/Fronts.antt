-- One line more after the first ones of a log.
use Rattle.std.proofs.Common.{◌≡◌, ◌∙◌, ℕ, ◌+◌, ◌<◌, true, false, List, [], ◌∷◌, ◌++◌, length, take, drop, get_or, append_assoc, sym, ap, subst, arith}
use Rattle.std.proofs.lemmas.List.{take_more, length-take-le, take-append-drop}
use Rattle.sat_words.specs.Literal.{Literal}
use Rattle.sat_words.specs.declared.line.Line.{Line}
use Rattle.rup_model.specs.Log.{alive_after, alive, is_valid, Accepted}
use Rattle.rup_model.proofs.Sequences.{fold_last, each_last}
use Rattle.drat_check.specs.Verdict.{IsFirstBad}

module _ (F : List (List Literal)) (L : List Line) (i : ℕ) (d : Line) (lt : i < length L) where
  more : take (i + 1) L ≡ take i L ++ get_or L i d ∷ []
  more = take_more L i d lt

  pub alive_more : alive_after (alive F (take i L)) (get_or L i d) ≡ alive F (take (i + 1) L)
  alive_more = sym (fold_last alive_after F (take i L) (get_or L i d)) ∙ ap (alive F) (sym more)

  pub accepted_more : Accepted F (take i L) → is_valid (alive F (take i L)) (get_or L i d) ≡ true → Accepted F (take (i + 1) L)
  accepted_more good valid = subst (Accepted F) (sym more) (each_last (λ before x. is_valid (alive F before) x ≡ true) [] (take i L) (get_or L i d) good valid)

  pub first_bad : Accepted F (take i L) → is_valid (alive F (take i L)) (get_or L i d) ≡ false → IsFirstBad F L (i + 1)
  first_bad good bad = record {
    before = take i L;
    line = get_or L i d;
    behind = drop (i + 1) L;
    lines = sym (take-append-drop (i + 1) L) ∙ ap (λ (K : List Line). K ++ drop (i + 1) L) more ∙ append_assoc (take i L) (get_or L i d ∷ []) (drop (i + 1) L);
    number = ap (λ (n : ℕ). n + 1) (sym (length-take-le i L (omega arith)));
    good = good;
    bad = bad;
  }
