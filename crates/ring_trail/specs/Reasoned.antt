-- Trails whose literals have their causes among the clauses that are held and the units that were seen.
-- What is held is a look-up by address; so ports and plain lists serve alike.
use Rattle.std.specs.Prelude.{◌≡◌, ℕ, ◌<◌, true, ◌⊎◌, List, length, Option, None, Some}
use Rattle.sat_words.specs.Literal.{Literal}
use Rattle.sat_words.specs.Clause.{has}
use Rattle.sat_words.specs.declared.shared.Cref.{Cref}
use Rattle.ring_trail.specs.declared.step.TrailStep.{TrailStep}
use Rattle.ring_trail.specs.TrailData.{FalseBefore, lit_at, level_at, reason_at}

-- the literals of the clause at an address, if one is held there
abbrev pub Held : Type 0
Held = ℕ → Option (List Literal)

-- the clause has this literal, and its other literals were false before this place
pub record ForcesAt (steps : List TrailStep) (p : ℕ) (l : Literal) (c : List Literal) : Type 0 where
  pub has_lit : has c l ≡ true
  pub others : (k : Literal) → has c k ≡ true → (k ≡ l) ⊎ FalseBefore steps p k

-- the clause was unit when the literal at this place became true: it has that literal, and its others were false before
abbrev pub WasUnit : List TrailStep → ℕ → List Literal → Type 0
WasUnit steps p c = ForcesAt steps p (lit_at steps p) c

-- the literal's reason is held, and was unit
pub record IsForced (held : Held) (steps : List TrailStep) (p : ℕ) : Type 0 where
  pub reason : Cref
  pub lits : List Literal
  pub reason_is : reason_at steps p ≡ Some reason
  pub held_is : held reason.address ≡ Some lits
  pub unit : WasUnit steps p lits

-- the literal is at level 0, and its unit was seen
pub record IsSeen (seen : List Literal) (steps : List TrailStep) (p : ℕ) : Type 0 where
  pub level : level_at steps p ≡ 0
  pub seen_is : has seen (lit_at steps p) ≡ true

-- the literal was decided: it has no reason, and is the first of its level, which is above 0
pub record IsDecision (steps : List TrailStep) (p : ℕ) : Type 0 where
  pub none : reason_at steps p ≡ None
  pub above : 0 < level_at steps p
  pub first : (q : ℕ) → q < p → level_at steps q < level_at steps p

-- each literal that wasn't decided has a held reason that was unit, or is at level 0 with its unit seen
pub record IsReasoned (held : Held) (seen : List Literal) (steps : List TrailStep) : Type 0 where
  pub caused : (p : ℕ) → p < length steps → IsForced held steps p ⊎ (IsSeen seen steps p ⊎ IsDecision steps p)

-- each clause held in one that is a reason is held in the other with the same literals, or the reason is at level 0 and its unit seen
abbrev pub KeepsReasons : Held → Held → List Literal → List TrailStep → Type 0
KeepsReasons held more seen steps =
    (p : ℕ) (c : Cref) (d : List Literal) → p < length steps → reason_at steps p ≡ Some c → held c.address ≡ Some d
    → (more c.address ≡ Some d) ⊎ IsSeen seen steps p
