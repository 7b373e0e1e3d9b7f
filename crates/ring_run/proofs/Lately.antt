-- What a ring learned since it last reduced is held, or is a unit that is seen.
use Rattle.std.proofs.Common.{◌≡◌, ◌∙◌, ℕ, inl, inr, true, List, [], ◌∷◌, ◌++◌, Contains, Some, None, IsSome, refl, subst, ap}
use Rattle.std.specs.declared.option.Option.{Option}
use Rattle.std.specs.Option.{option_map}
use Rattle.sat_words.specs.Literal.{Literal}
use Rattle.sat_words.specs.Clause.{has}
use Rattle.rup_model.specs.declared.journal.Addition.{Addition}
use Rattle.rup_model.specs.declared.journal.Entry.{Entry}
use Rattle.rup_model.specs.declared.journal.Entry.TheVariants.{Add}
use Rattle.rup_model.specs.Journal.{recent}
use Rattle.rup_model.proofs.Lists.{Contains_In, In_Contains}
use Rattle.ring_port.specs.PortState.{PortState, Holding, held_at}
use Rattle.ring_port.specs.Port.{KeepsHeld}
use Rattle.ring_run.specs.Ended.{IsHeldOrSeen, HoldsRecent}
use Rattle.ring_run.proofs.Remembering.{recent_cases}

-- no unit is forgotten
abbrev pub SeesMore : PortState → PortState → Type 0
SeesMore s u = (l : Literal) → has s.seen l ≡ true → has u.seen l ≡ true

pub sees_same : (s u : PortState) → u.seen ≡ s.seen → SeesMore s u
sees_same s u is l h = ap (λ (ls : List Literal). has ls l) is ∙ h

some_there : (o : Option Holding) (c : List Literal) → option_map (λ (h : Holding). h.lits) o ≡ Some c → IsSome o
some_there (Some h) c e = refl
some_there None c e = absurd (let f : None ≡ Some c = e in cc)

still_there : (s u : PortState) → KeepsHeld s u → SeesMore s u → (c : List Literal) → IsHeldOrSeen s c → IsHeldOrSeen u c
still_there s u kept more c (inl h) =
    inl (record { address = h.address; there = ap (option_map (λ (k : Holding). k.lits)) (kept h.address (some_there (held_at s h.address) c h.there)) ∙ h.there })
still_there s u kept more c (inr h) = inr (record { lit = h.lit; unit = h.unit; seen = more h.lit h.seen })

-- if nothing was learned
pub lately_as : (s u : PortState) → recent u.ring u.mine ≡ recent s.ring s.mine → KeepsHeld s u → SeesMore s u → HoldsRecent s → HoldsRecent u
lately_as s u same kept more p c there = still_there s u kept more c (p c (subst (λ (G : List (List Literal)). Contains G c) same there))

-- if nothing was written
pub lately_same : (s u : PortState) → u.ring ≡ s.ring → u.mine ≡ s.mine → KeepsHeld s u → SeesMore s u → HoldsRecent s → HoldsRecent u
lately_same s u ring mine kept more p = lately_as s u (ap (λ (r : ℕ). recent r u.mine) ring ∙ ap (recent s.ring) mine) kept more p

-- if nothing was learned since
pub lately_none : (u : PortState) → recent u.ring u.mine ≡ [] → HoldsRecent u
lately_none u none c there = absurd (Contains_In [] c (subst (λ (G : List (List Literal)). Contains G c) none there))

-- if a clause was added that is held, or a unit that is seen
pub lately_more : (s u : PortState) (x : Addition) → u.ring ≡ s.ring → u.mine ≡ s.mine ++ Add x ∷ [] → KeepsHeld s u → SeesMore s u → IsHeldOrSeen u x.lits → HoldsRecent s → HoldsRecent u
lately_more s u x ring mine kept more own p c there =
    elim (recent_cases s.ring s.mine x c (Contains_In (recent s.ring (s.mine ++ Add x ∷ [])) c
    (subst (λ (r : ℕ). Contains (recent r (s.mine ++ Add x ∷ [])) c) ring (subst (λ (J : List Entry). Contains (recent u.ring J) c) mine there)))) as (λ _. IsHeldOrSeen u c) [
      | inl old ↦ still_there s u kept more c (p c (In_Contains (recent s.ring s.mine) c old))
      | inr is ↦ subst (IsHeldOrSeen u) is own
    ]
