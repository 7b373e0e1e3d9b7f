-- The entries of a ring with their places are its own entries, in order.
use Rattle.std.proofs.Common.{◌≡◌, ◌∙◌, ◌==◌, ◌+◌, ℕ, Bool, true, false, cond, List, [], ◌∷◌, ◌++◌, length, map, drop, refl, sym, ap}
use Rattle.std.proofs.Math.Seq.{drop-append_seam}
use Rattle.rup_model.specs.declared.journal.Entry.{Entry}
use Rattle.rup_model.specs.Journal.{ring_of}
use Rattle.share_core.specs.declared.part.Placed.{Placed}
use Rattle.share_core.specs.Sound.{placed}
use Rattle.portfolio_run.proofs.Interleaving.{own}

pub placed_own : (r k : ℕ) (J : List Entry) → map (λ (p : Placed). p.entry) (placed r k J) ≡ own r J
placed_own r k [] = refl
placed_own r k (e ∷ J) = by (ring_of e == r) (placed_own r (k + 1) J)
  where
    by : (t : Bool) → map (λ (p : Placed). p.entry) (placed r (k + 1) J) ≡ own r J → map (λ (p : Placed). p.entry) (cond t (record { place = k; entry = e } ∷ placed r (k + 1) J) (placed r (k + 1) J)) ≡ cond t (e ∷ own r J) (own r J)
    by true rest = ap (λ (es : List Entry). e ∷ es) rest
    by false rest = rest

-- what follows the same front is the same
pub same_rest : (I J K L : List Entry) → J ≡ I ++ K → J ≡ I ++ L → K ≡ L
same_rest I J K L e f = sym (drop-append_seam I K) ∙ ap (drop (length I)) (sym e ∙ f) ∙ drop-append_seam I L
