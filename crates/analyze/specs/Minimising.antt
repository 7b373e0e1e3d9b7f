-- What minimisation finds of places: a place is judged once it is found removable or needed.
use Rattle.std.specs.Prelude.{◌≡◌, ℕ, ◌<◌, ◌&&◌, Bool, true, false, not, ◌⊎◌, List, [], ◌∷◌, length, take, filter, nat_eq, nat_lt, None}
use Rattle.std.specs.List.{slice_index_or, IsDistinct}
use Rattle.std.specs.Set.{is_member}
use Rattle.sat_words.specs.Literal.{Literal}
use Rattle.ring_trail.specs.declared.step.TrailStep.{TrailStep}
use Rattle.ring_trail.specs.TrailData.{FalseBefore, lit_at, level_at, reason_at}
use Rattle.ring_trail.specs.Reasoned.{Held}
use Rattle.analyze.specs.Walk.{MakesFalse}
use Rattle.analyze.specs.MarksData.{MarksData}
use Rattle.analyze.specs.Marks.{marked}
use Rattle.analyze.specs.Removable.{IsReasonOf, RestsOn}
use Rattle.analyze.specs.declared.minimise.Removability.{Removability}
use Rattle.analyze.specs.declared.minimise.Removability.TheVariants.{Unknown, Removable, Needed}
use Rattle.analyze.specs.declared.minimise.Look.{Look}
use Rattle.analyze.specs.declared.minimise.Look.TheVariants.{Settled, Blocked, Depends}
use Rattle.analyze.specs.declared.minimise.Scan.{Scan}
use Rattle.analyze.specs.declared.minimise.Scan.TheVariants.{Found, Waits}

-- what is found of a place
abbrev pub removability_at : List Removability → ℕ → Removability
removability_at vs p = slice_index_or vs p Unknown

-- the test whether it is judged
abbrev pub is_found : Removability → Bool
is_found Unknown = false
is_found Removable = true
is_found Needed = true

-- the test whether it is removable
abbrev pub is_removable : Removability → Bool
is_removable Unknown = false
is_removable Removable = true
is_removable Needed = false

-- the test whether a place is judged
abbrev pub is_known : List Removability → ℕ → Bool
is_known vs p = is_found (removability_at vs p)

-- the place is marked or removable
abbrev pub IsSettled : List Bool → List Removability → ℕ → Type 0
IsSettled ms vs q = (marked ms q ≡ true) ⊎ (removability_at vs q ≡ Removable)

-- each place before p that makes the clause false is settled
abbrev pub AllSettled : List TrailStep → List Bool → List Removability → ℕ → List Literal → Type 0
AllSettled steps ms vs p c = (q : ℕ) → q < p → MakesFalse steps c q → IsSettled ms vs q

-- one before p that makes the clause false is needed and not marked
pub record IsBlockedBy (steps : List TrailStep) (ms : List Bool) (vs : List Removability) (p : ℕ) (c : List Literal) : Type 0 where
  pub place : ℕ
  pub before : place < p
  pub falsifies : MakesFalse steps c place
  pub not_marked : marked ms place ≡ false
  pub needed : removability_at vs place ≡ Needed

-- the literal is the one at this place, or is false before it
abbrev pub CanLook : List TrailStep → ℕ → Literal → Type 0
CanLook steps p k = (k ≡ lit_at steps p) ⊎ FalseBefore steps p k

-- a place above level 0, before p, that is neither marked nor judged
pub record IsOpenPlace (steps : List TrailStep) (ms : List Bool) (vs : List Removability) (p q : ℕ) : Type 0 where
  pub before : q < p
  pub above : 0 < level_at steps q
  pub not_marked : marked ms q ≡ false
  pub unknown : removability_at vs q ≡ Unknown

-- what a literal of the reason of place p says of p
abbrev pub IsLook : List TrailStep → List Bool → List Removability → ℕ → Literal → Look → Type 0
IsLook steps ms vs p k Settled = AllSettled steps ms vs p (k ∷ [])
IsLook steps ms vs p k Blocked = IsBlockedBy steps ms vs p (k ∷ [])
IsLook steps ms vs p k (Depends q) = IsOpenPlace steps ms vs p q

-- the first n literals of the place's reason, if it has one, are settled
abbrev pub IsScanned : Held → List TrailStep → List Bool → List Removability → ℕ → ℕ → Type 0
IsScanned held steps ms vs p n = (c : List Literal) → IsReasonOf held steps p c → AllSettled steps ms vs p (take n c)

-- the place has a held reason whose other literals are all settled
abbrev pub IsCleared : Held → List TrailStep → List Bool → List Removability → ℕ → Type 0
IsCleared held steps ms vs p = RestsOn held steps (IsSettled ms vs) p

-- the place has no reason, or its reason has a literal that is needed and not marked
abbrev pub IsBlocked : Held → List TrailStep → List Bool → List Removability → ℕ → Type 0
IsBlocked held steps ms vs p = (reason_at steps p ≡ None) ⊎ ((c : List Literal) × IsReasonOf held steps p c × IsBlockedBy steps ms vs p c)

-- what is found of the place follows from what was found of earlier places
abbrev pub Follows : Held → List TrailStep → List Bool → List Removability → ℕ → Removability → Type 0
Follows held steps ms vs p Unknown = ⊥
Follows held steps ms vs p Removable = IsCleared held steps ms vs p
Follows held steps ms vs p Needed = IsBlocked held steps ms vs p

-- what the scan of a place's reason came to
abbrev pub IsScan : Held → List TrailStep → List Bool → List Removability → ℕ → Scan → Type 0
IsScan held steps ms vs p (Found v) = Follows held steps ms vs p v
IsScan held steps ms vs p (Waits q n) = IsOpenPlace steps ms vs p q × IsScanned held steps ms vs p n

-- each judged place is listed once, and what is found of it follows from what was found of earlier places
pub record IsJudged (held : Held) (steps : List TrailStep) (vars : ℕ) (ms : List Bool) (vs : MarksData Removability) : Type 0 where
  pub blank : vs.blank ≡ Unknown
  pub size : length vs.values ≡ vars
  pub in_range : (p : ℕ) → is_known vs.values p ≡ true → p < length steps
  pub listed : (p : ℕ) → is_member nat_eq vs.touched p ≡ is_known vs.values p
  pub distinct : IsDistinct nat_eq vs.touched
  pub cleared : (p : ℕ) → removability_at vs.values p ≡ Removable → IsCleared held steps ms vs.values p
  pub blocked : (p : ℕ) → removability_at vs.values p ≡ Needed → IsBlocked held steps ms vs.values p

-- the test whether a place is of a lower level and not removable
abbrev pub is_kept : List TrailStep → ℕ → List Removability → ℕ → Bool
is_kept steps m vs p = nat_lt (level_at steps p) m && not (is_removable (removability_at vs p))

-- the places of a list that are so
abbrev pub kept_of : List TrailStep → ℕ → List Removability → List ℕ → List ℕ
kept_of steps m vs touched = filter (is_kept steps m vs) touched
