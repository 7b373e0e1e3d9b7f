-- What a ring of the tests knows when it begins.
use Rattle.std.proofs.Common.{◌≡◌, ◌∙◌, ℕ, zero, suc, ◌≤◌, ◌<◌, get_or, true, List, [], ◌∷◌, ap, refl, arith, false}
use Rattle.std.specs.Prelude.{slice_index_or, Option}
use Rattle.sat_words.specs.Literal.{Literal}
use Rattle.atomic_table.specs.declared.shared.Seat.{Seat}
use Rattle.rup_model.specs.Rounds.{Rounds, rounds}
use Rattle.rup_model.specs.Rup.{rup, conflicts}
use Rattle.share_core.specs.declared.part.CoreOpening.{CoreOpening}
use Rattle.share_core.specs.Learning.{follows}
use Rattle.share_rule.specs.declared.Shared.{Shared}
use Rattle.share_rule.specs.declared.view.RingPart.{RingPart}
use Rattle.share_rule.specs.declared.view.View.{View}
use Rattle.share_rule.specs.FirstWords.{starts_at}
use Rattle.share_rule.specs.Steps.{new_part}
use Rattle.share_rule.specs.Views.{only, no_part}
use Rattle.test_tables.specs.Samples.{IsRing}
use Rattle.test_units.specs.Samples.{IsWriter, plus, three}

-- 2 follows from the three clauses
two_follows : (o : CoreOpening) (a ring : ℕ) → follows false (new_part (record o { starts = starts_at a three }) ring).core (plus 2 ∷ []) [] ≡ true
unfolding rup conflicts Rounds rounds
two_follows o a ring = refl

-- so a ring that holds them may write it
pub new_writer : {B : Type 0} (t : Shared B) (p : Seat (Option B) View) (ring : ℕ) (o : CoreOpening) (a : ℕ) → IsRing t p ring → p.me.0.parts ≡ new_part o ring ∷ [] → p.me.0.opening.hinted ≡ false → o.starts ≡ starts_at a three → 2 ≤ t.layout.vars → IsWriter t p ring (plus 2)
new_writer t p ring o a is parts plain starts few =
    let one : only p.me.0 ≡ new_part o ring = ap (λ (ps : List RingPart). slice_index_or ps 0 no_part) parts in
    record {
      is_ring = is;
      plain = plain;
      follows_is = ap (λ (q : RingPart). follows false q.core (plus 2 ∷ []) []) one ∙ (λ i. follows false (new_part (record o { starts = starts i }) ring).core (plus 2 ∷ []) []) ∙ two_follows o a ring;
      on = λ i k lt. by i k lt;
    }
  where
    by : (i : ℕ) (k : Literal) → i < 1 → (1 ≤ (get_or (plus 2 ∷ []) i k).var) × ((get_or (plus 2 ∷ []) i k).var ≤ t.layout.vars)
    by zero k lt = (omega arith, few)
    by (suc i) k lt = absurd (omega arith)
