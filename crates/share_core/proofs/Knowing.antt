-- Clauses found under their numbers, and the tests of what follows.
use Rattle.std.proofs.Common.{◌≡◌, ℕ, ◌==◌, ◌&&◌, Bool, true, false, cond, List, [], ◌∷◌, length, Some, refl, ap, inl, inr, eqb-true}
use Rattle.std.specs.List.{find}
use Rattle.std.specs.Option.{option_map}
use Rattle.sat_words.specs.Literal.{Literal}
use Rattle.rup_model.specs.Rup.{rup}
use Rattle.rup_model.specs.Hints.{numbered}
use Rattle.rup_model.proofs.Lists.{In}
use Rattle.share_core.specs.State.{Part}
use Rattle.share_core.specs.Learning.{known_clauses, follows}
use Rattle.share_core.proofs.Counting.{none_some, some_same}

-- what is found under a number stands in the list with it
pub numbered_in : (cs : List (ℕ × List Literal)) (n : ℕ) (d : List Literal) → numbered cs n ≡ Some d → In (n, d) cs
numbered_in [] n d h = absurd (none_some d h)
numbered_in (p ∷ cs) n d h = by (p.0 == n) refl h (numbered_in cs n d)
  where
    by : (b : Bool) → (p.0 == n) ≡ b → option_map (λ (q : ℕ × List Literal). q.1) (cond b (Some p) (find (λ q. q.0 == n) cs)) ≡ Some d → (numbered cs n ≡ Some d → In (n, d) cs) → In (n, d) (p ∷ cs)
    by true e k rest = inl (λ j. (eqb-true p.0 n e j, some_same p.1 d k j))
    by false e k rest = inr (rest k)

-- the test of a log without hints
pub follows_plain : (p : Part) (lits : List Literal) (hints : List ℕ) → (length hints == 0) ≡ true → follows false p lits hints ≡ rup (known_clauses p) lits
follows_plain p lits hints none = ap (λ (b : Bool). b && rup (known_clauses p) lits) none

pub follows_unless : (p : Part) (lits : List Literal) (hints : List ℕ) → (length hints == 0) ≡ false → follows false p lits hints ≡ false
follows_unless p lits hints some = ap (λ (b : Bool). b && rup (known_clauses p) lits) some
