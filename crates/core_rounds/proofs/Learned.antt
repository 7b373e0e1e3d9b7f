-- How much is learned in journals.
use Rattle.std.proofs.Common.{◌≡◌, ◌∙◌, ℕ, zero, suc, ◌+◌, ◌-◌, ◌<◌, ◌≤◌, ◌==◌, ◌&&◌, Bool, true, false, cond, List, [], ◌∷◌, ◌++◌, length, map, All, Option, Some, None, IfSome, refl, ap, arith, length-append}
use Rattle.std.specs.List.{filter}
use Rattle.std.proofs.lemmas.Bool.{true≢false}
use Rattle.std.proofs.Math.Nat.{le-min, min-le_right}
use Rattle.sat_words.specs.Literal.{Literal}
use Rattle.rup_model.specs.declared.journal.Round.{Round as RoundStart}
use Rattle.rup_model.specs.declared.journal.Addition.{Addition}
use Rattle.rup_model.specs.declared.journal.Entry.{Entry}
use Rattle.rup_model.specs.declared.journal.Entry.TheVariants.{Add, Del, Reduce, Round}
use Rattle.rup_model.specs.Basics.{below}
use Rattle.rup_model.specs.Journal.{additions, learned, is_learn}
use Rattle.rup_model.specs.Opening.{is_rulers}
use Rattle.rup_model.proofs.Additions.{learned-append}
use Rattle.rup_model.proofs.Parts.{rulers_kind}
use Rattle.rup_model.proofs.Sums.{below_same, below_none}
use Rattle.core_rounds.specs.InRounds.{learned_by, round_limit}

-- Journals one after another

below_both : (n : ℕ) (F G : ℕ → ℕ) → below n (λ i. F i + G i) ≡ below n F + below n G
below_both zero F G = omega arith
below_both (suc n) F G = let r = below_both n F G in omega arith

pub learned_more : (rings : ℕ) (J K : List Entry) → learned_by rings (J ++ K) ≡ learned_by rings J + learned_by rings K
learned_more rings J K =
    below_same rings (λ r. length (learned r J) + length (learned r K)) (λ r. length (learned r (J ++ K)))
    (λ r lt. ap (λ (cs : List (List Literal)). length cs) (learned-append r J K) ∙ length-append (learned r J) (learned r K))
    ∙ below_both rings (λ r. length (learned r J)) (λ r. length (learned r K))

-- The ruler learns nothing

without : (x : Addition) (others : List Addition) (t u : Bool) → u ≡ false → map (λ (y : Addition). y.lits) others ≡ [] → map (λ (y : Addition). y.lits) (cond (t && u) (x ∷ others) others) ≡ []
without x others true true e none = absurd (true≢false e)
without x others true false e none = none
without x others false u e none = none

pub rulers_learned : (r : ℕ) (J : List Entry) → All (λ e. is_rulers e ≡ true) J → learned r J ≡ []
rulers_learned r [] rulers = refl
rulers_learned r (Add x ∷ J) rulers =
    without x (filter (λ (y : Addition). (y.ring == r) && is_learn y.kind) (additions J)) (x.ring == r) (is_learn x.kind) (rulers_kind x (rulers 0 (Add x) (omega arith))) (rulers_learned r J (λ k d lt. rulers (suc k) d (omega arith)))
rulers_learned r (Del q n ∷ J) rulers = rulers_learned r J (λ k d lt. rulers (suc k) d (omega arith))
rulers_learned r (Reduce q ∷ J) rulers = rulers_learned r J (λ k d lt. rulers (suc k) d (omega arith))
rulers_learned r (Round x ∷ J) rulers = rulers_learned r J (λ k d lt. rulers (suc k) d (omega arith))

none_more : (rings : ℕ) (J K : List Entry) → ((r : ℕ) → learned r K ≡ []) → learned_by rings (J ++ K) ≡ learned_by rings J
none_more rings J K none =
    let both = learned_more rings J K in
    let nothing : learned_by rings K ≡ 0 = below_none rings (λ r. length (learned r K)) (λ r lt. ap (λ (cs : List (List Literal)). length cs) (none r)) in omega (arith, both, nothing)

pub rulers_more : (rings : ℕ) (J rest : List Entry) → All (λ e. is_rulers e ≡ true) rest → learned_by rings (J ++ rest) ≡ learned_by rings J
rulers_more rings J rest rulers = none_more rings J rest (λ r. rulers_learned r rest rulers)

-- nor is anything learned where a round begins
pub round_more : (rings : ℕ) (J : List Entry) (s : RoundStart) → learned_by rings (J ++ Round s ∷ []) ≡ learned_by rings J
round_more rings J s = none_more rings J (Round s ∷ []) (λ r. refl)

-- Limits

pub limit_some : (every : Option ℕ) (most done : ℕ) → IfSome every (λ k. 1 ≤ k) → done < most → 1 ≤ round_limit every most done
limit_some None most done some left = omega arith
limit_some (Some k) most done some left = le-min some (let q : 1 ≤ most - done = omega arith in q)

pub limit_left : (every : Option ℕ) (most done : ℕ) → round_limit every most done ≤ most - done
limit_left None most done = omega arith
limit_left (Some k) most done = min-le_right k (most - done)
