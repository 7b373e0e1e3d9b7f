-- What a ring knows after it has counted the listed units and seen one more.
use Rattle.std.proofs.Common.{◌≡◌, ◌∙◌, ◌<◌, ℕ, [], ◌∷◌, ◌++◌, List, length, length-append, refl, sym, ap, arith}
use Rattle.std.specs.Prelude.{slice_index_or}
use lib.ListN.{get_elem?}
use Rattle.sat_words.specs.Literal.{Literal}
use Rattle.share_core.specs.Events.{listed_number}
use Rattle.share_core.proofs.Leaving.{left_sound}
use Rattle.share_rule.specs.declared.view.RingPart.{RingPart}
use Rattle.share_rule.specs.declared.view.View.{View}
use Rattle.share_rule.specs.Seen.{Seen, IsPart}
use Rattle.share_rule.specs.Units.{count_part, see_part, after_count, after_see}
use Rattle.share_rule.specs.Views.{only, no_part}
use Rattle.share_rule.proofs.UnitWords.{only_changed, numbers_seen}

last_number : (ns : List ℕ) (n : ℕ) → listed_number (ns ++ n ∷ []) (length ns) ≡ n
last_number [] n = refl
last_number (m ∷ ns) n = last_number ns n

module _ (v : View) (one : v.parts ≡ only v ∷ []) (n : ℕ) where
  pub counted : only (after_count n v) ≡ count_part n (only v)
  counted = ap (λ (ps : List RingPart). slice_index_or ps 0 no_part) (only_changed (count_part n) v one)

  pub counted_one : (after_count n v).parts ≡ only (after_count n v) ∷ []
  counted_one = only_changed (count_part n) v one ∙ (λ i. sym counted i ∷ [])

  module _ (lit : Literal) (number : ℕ) where
    pub saw : only (after_see lit number (after_count n v)) ≡ see_part lit number (count_part n (only v))
    saw = ap (λ (ps : List RingPart). slice_index_or ps 0 no_part) (only_changed (see_part lit number) (after_count n v) counted_one) ∙ ap (see_part lit number) counted

    pub saw_one : (after_see lit number (after_count n v)).parts ≡ only (after_see lit number (after_count n v)) ∷ []
    saw_one = only_changed (see_part lit number) (after_count n v) counted_one ∙ (λ i. see_part lit number (counted i) ∷ []) ∙ (λ i. sym saw i ∷ [])

    -- the unit is the last that it has seen
    pub saw_more : length (only v).core.seen < length (only (after_see lit number (after_count n v))).core.seen
    saw_more =
        let more = ap (λ (p : RingPart). length p.core.seen) saw in
        let size = length-append (only v).core.seen (lit ∷ []) in
        omega arith

    -- and the number is the last of the numbers
    pub saw_number : Seen v → listed_number (only (after_see lit number (after_count n v))).core.numbers (length (only v).core.seen) ≡ number
    saw_number s =
        let part : IsPart v.layout s.core s.glue (only v) = s.parts 0 (only v) (ap (λ ps. get_elem? ps 0) one) in
        let many = (numbers_seen v.layout s.core (left_sound s.core.opening s.core s.left) s.glue (only v) part).2 in
        (λ i. listed_number (saw i).core.numbers (sym many i)) ∙ last_number (only v).core.numbers number
