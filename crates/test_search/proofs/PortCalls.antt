-- What the tests of the port in memory show of their calls.
use Rattle.std.proofs.Common.{◌≡◌, ℕ, zero, suc, Bool, true, Some, Contains, List, [], ◌∷◌, refl, sym, subst, ◌∙◌, arith}
use Rattle.std.specs.declared.option.Option.{Option}
use Rattle.std.specs.List.{All, IsDistinct}
use Rattle.std.proofs.lemmas.Bool.{or_left, or_right, and_from}
use Rattle.sat_words.specs.Literal.{Literal, opposite}
use Rattle.sat_words.specs.Clause.{has}
use Rattle.sat_words.proofs.Members.{same-refl}
use Rattle.rup_model.specs.Rup.{rup}
use Rattle.rup_model.specs.Hints.{numbered, hinted, hinted_from, HintsFit}
use Rattle.rup_model.specs.Journal.{book, is_told}
use Rattle.rup_model.proofs.Covers.{same_self}
use Rattle.rup_model.proofs.Lists.{Contains_In, has_In}
use Rattle.rup_model.proofs.Derivation.{conflicts_from_derivation}
use Rattle.drat_text.specs.LineState.{LineState}
use Rattle.ring_port.specs.PortState.{PortState, IsPort, IsOn, known, known_at}
use Rattle.ring_port.specs.Port.{AreHints, TookUnit}
use Rattle.rup_model.specs.Opening.{Start}
use Rattle.ring_port.specs.PlainPort.{ArePaired, CanOpen}
use Rattle.ring_port.proofs.Holdings.{All_In, seen_is_known}

-- one clause of one literal opens a search from its unit
pub opens_unit : (ss : List Start) (us : List (Literal × ℕ)) (l : Literal) (out : LineState) → ss ≡ [] → us ≡ (l, 1) ∷ [] → out.entries ≡ 0 → out.last ≡ 1 → CanOpen ss us out
unfolding IsDistinct
opens_unit ss us l out none one entries last = subst (λ (ts : List Start). CanOpen ts us out) (sym none) (subst (λ (vs : List (Literal × ℕ)). CanOpen [] vs out) (sym one) (record {
  clauses = (l ∷ []) ∷ [];
  journal = [];
  over = record {
    opens = record {
      rulers_part = record { rulers = λ k d lt. absurd (omega arith); going = refl; fits = tt; accepted = tt };
      starts = λ k d lt. absurd (omega arith);
      numbers = tt;
      told = told;
      distinct = refl;
    };
    lines = record { entries = entries; last = (let n = last in omega arith) };
    paired = λ hinted. paired;
  };
}))
  where
    told : All (λ k. is_told ((l ∷ []) ∷ []) [] k ≡ true) (l ∷ [])
    told zero d lt = or_left _ _ (same_self (l ∷ []))
    told (suc k) d lt = absurd (omega arith)

    paired : ArePaired (book ((l ∷ []) ∷ []) []) ((l, 1) ∷ [])
    paired zero d lt = refl
    paired (suc k) d lt = absurd (omega arith)

-- a unit that was given is seen, so that it follows, and is on the variables
pub given_seen : (s t : PortState) (l : Literal) → TookUnit s t l → has t.seen l ≡ true
given_seen s t l took = took.sees l ∙ or_right _ _ (same-refl l)

pub seen_follows : (t : PortState) (l : Literal) → has t.seen l ≡ true → rup (known t) (l ∷ []) ≡ true
unfolding rup
seen_follows t l h = or_right _ _ (conflicts_from_derivation (known t) (opposite l ∷ []) [] (l ∷ []) tt (seen_is_known t l h) (and_from _ _ (or_left _ _ (same-refl (opposite l))) refl))

pub seen_on : (t : PortState) (l : Literal) → IsPort t → has t.seen l ≡ true → IsOn t.vars l
seen_on t l port h = All_In (IsOn t.vars) t.seen l port.seen (has_In t.seen l h)

-- Hints

-- a clause of one literal alone shows that it follows
one_shows : (at : ℕ → Option (List Literal)) (n : ℕ) (l : Literal) → at n ≡ Some (l ∷ []) → hinted at (l ∷ []) (n ∷ []) ≡ true
unfolding hinted_from
one_shows at n l is = rw is (and_from _ _ (or_left _ _ (same-refl (opposite l))) refl)

pub unit_hint : (s : PortState) (l : Literal) (n : ℕ) → s.hinted ≡ true → IsPort s → Contains s.told (l, n) → AreHints s (l ∷ []) (n ∷ [])
unit_hint s l n is port there =
    subst (λ (b : Bool). HintsFit b (numbered (known_at s)) (l ∷ []) (n ∷ [])) (sym is)
    (one_shows (numbered (known_at s)) n l (All_In (λ (u : Literal × ℕ). numbered (known_at s) u.1 ≡ Some (u.0 ∷ [])) s.told (l, n) (port.named is).told (Contains_In s.told (l, n) there)))
