-- The places whose scans wait for an earlier place.
use Rattle.std.proofs.Common.{◌≡◌, ℕ, suc, ◌+◌, ◌-◌, ◌*◌, ◌<◌, ◌≤◌, ◌⊎◌, Bool, false, List, [], ◌∷◌, ◌++◌, length, arith}
use Rattle.std.proofs.Math.Nat.{suc-mul}
use Rattle.ring_trail.specs.declared.step.TrailStep.{TrailStep}
use Rattle.ring_trail.specs.TrailData.{level_at}
use Rattle.ring_trail.specs.Reasoned.{Held}
use Rattle.analyze.specs.Marks.{marked}
use Rattle.analyze.specs.Minimising.{removability_at, IsScanned}
use Rattle.analyze.specs.declared.minimise.Removability.{Removability}
use Rattle.analyze.specs.declared.minimise.Removability.TheVariants.{Unknown}
use Rattle.analyze.specs.declared.minimise.Frame.{Frame}

-- the root, or a place without a mark: it is not judged yet, and the first literals of its reason are settled
pub record IsFrame (held : Held) (steps : List TrailStep) (ms : List Bool) (vs : List Removability) (root : ℕ) (f : Frame) : Type 0 where
  pub above : 0 < level_at steps f.place
  pub own : (f.place ≡ root) ⊎ (marked ms f.place ≡ false)
  pub unknown : removability_at vs f.place ≡ Unknown
  pub scanned : IsScanned held steps ms vs f.place f.next

-- the frames have the property, and their places fall strictly, from below b down to above p
abbrev pub AreFalling : (Frame → Type 0) → ℕ → List Frame → ℕ → Type 0
AreFalling P b [] p = p < b
AreFalling P b (f ∷ fs) p = (f.place < b) × P f × AreFalling P f.place fs p

pub AreFalling-push : (P : Frame → Type 0) (b : ℕ) (fs : List Frame) (f : Frame) (p : ℕ) → P f → p < f.place → AreFalling P b fs f.place → AreFalling P b (fs ++ f ∷ []) p
AreFalling-push P b [] f p y lt h = (h, y, lt)
AreFalling-push P b (g ∷ fs) f p y lt h = (h.0, h.1, AreFalling-push P g.place fs f p y lt h.2)

pub AreFalling-pop : (P : Frame → Type 0) (b : ℕ) (fs : List Frame) (f : Frame) (p : ℕ) → AreFalling P b (fs ++ f ∷ []) p → P f × (p < f.place) × AreFalling P b fs f.place
AreFalling-pop P b [] f p h = (h.1, h.2, h.0)
AreFalling-pop P b (g ∷ fs) f p h = let r = AreFalling-pop P g.place fs f p h.2 in (r.0, r.1, (h.0, h.1, r.2))

-- there are at most as many as places
pub AreFalling-few : (P : Frame → Type 0) (b : ℕ) (fs : List Frame) (p : ℕ) → AreFalling P b fs p → p + length fs < b
AreFalling-few P b [] p h = omega arith
AreFalling-few P b (f ∷ fs) p h = let r = AreFalling-few P f.place fs p h.2 in let a = h.0 in omega arith

-- all are above the last place
pub AreFalling-above : (P : Frame → Type 0) (b : ℕ) (fs : List Frame) (p : ℕ) → AreFalling P b fs p → p < b
AreFalling-above P b fs p h = let r = AreFalling-few P b fs p h in omega arith

-- a property that follows at all places above the last one
pub AreFalling-map : (P Q : Frame → Type 0) (b : ℕ) (fs : List Frame) (p : ℕ) → ((f : Frame) → p < f.place → P f → Q f) → AreFalling P b fs p → AreFalling Q b fs p
AreFalling-map P Q b [] p g h = h
AreFalling-map P Q b (f ∷ fs) p g h = (h.0, g f (AreFalling-above P f.place fs p h.2) h.1, AreFalling-map P Q f.place fs p g h.2)

-- the first of the places is the root
abbrev pub IsRooted : ℕ → List Frame → ℕ → Type 0
IsRooted r [] p = p ≡ r
IsRooted r (f ∷ fs) p = f.place ≡ r

pub IsRooted-push : (r : ℕ) (fs : List Frame) (f : Frame) (p : ℕ) → IsRooted r fs f.place → IsRooted r (fs ++ f ∷ []) p
IsRooted-push r [] f p e = e
IsRooted-push r (g ∷ fs) f p e = e

pub IsRooted-pop : (r : ℕ) (fs : List Frame) (f : Frame) (p : ℕ) → IsRooted r (fs ++ f ∷ []) p → IsRooted r fs f.place
IsRooted-pop r [] f p e = e
IsRooted-pop r (g ∷ fs) f p e = e

-- what is left to do: it falls with the place while none is judged, and with each that is judged, wherever the place is then
abbrev pub left_to_do : ℕ → ℕ → ℕ → ℕ
left_to_do vars found place = (vars - found) * suc vars + place

pub left_to_do-found : (vars n p q : ℕ) → n < vars → q ≤ vars → left_to_do vars (n + 1) q < left_to_do vars n p
left_to_do-found vars n p q h le = by (vars - (n + 1)) (vars - n) (omega arith)
  where
    by : (a b : ℕ) → b ≡ suc a → a * suc vars + q < b * suc vars + p
    by a b e = let k = suc-mul a (suc vars) in rw e (omega (arith, k))
