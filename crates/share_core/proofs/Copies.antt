-- What rings know of cells stays true.
use Rattle.std.proofs.Common.{◌≡◌, ◌≢◌, ℕ, zero, suc, ◌+◌, ◌<◌, ◌≤◌, List, All, Option, Some, refl, ap, ◌∙◌, arith}
use mathlib.Core.Logic.{dite}
use native.Mathlib.Decide.{ℕ_discrete}
use Rattle.rup_model.specs.Basics.{put, below}
use Rattle.rup_model.proofs.Lists.{In}
use Rattle.rup_model.proofs.Sums.{at_put, below_at}
use Rattle.share_core.specs.declared.stored.ClauseAt.{ClauseAt}
use Rattle.share_core.specs.declared.stored.Cell.{Cell}
use Rattle.share_core.specs.State.{times_at, Part}
use Rattle.share_core.specs.Sound.{IsCopy, CopiesSound}
use Rattle.share_core.proofs.ClauseLists.{at_in, all_map}

-- a cell there keeps its number and literals
abbrev pub Keeps : (ℕ → Option Cell) → (ℕ → Option Cell) → ℕ → Type 0
Keeps f f' a = (x : Cell) → f a ≡ Some x → (y : Cell) × (f' a ≡ Some y) × (y.number ≡ x.number) × (y.lits ≡ x.lits)

pub keeps_same : (f : ℕ → Option Cell) (a : ℕ) → Keeps f f a
keeps_same f a x is = (x, is, refl, refl)

pub lift : (f f' : ℕ → Option Cell) (hs : List ClauseAt) → ((h : ClauseAt) → In h hs → Keeps f f' h.address) → All (IsCopy f) hs → All (IsCopy f') hs
lift f f' hs keep all = all_map (IsCopy f) (IsCopy f') hs (λ h i k. let t = keep h i k.0 k.1 in (t.0, t.1, t.2 ∙ k.2, t.3 ∙ k.3)) all

-- where an address does not stand in a list, all its cells have another
pub lift_without : (f f' : ℕ → Option Cell) (a : ℕ) (hs : List ClauseAt) → times_at a hs ≡ 0 → ((b : ℕ) → b ≢ a → Keeps f f' b) → All (IsCopy f) hs → All (IsCopy f') hs
lift_without f f' a hs none keep all = lift f f' hs (λ h i. keep h.address (λ e. let some = at_in hs h i in let q : times_at h.address hs ≡ times_at a hs = ap (λ (b : ℕ). times_at b hs) e in omega arith)) all

pub copies_all : (n : ℕ) (f f' : ℕ → Option Cell) (part : ℕ → Part) (r : ℕ) (p : Part) → CopiesSound n f part → ((a : ℕ) → Keeps f f' a) → All (IsCopy f') p.held → All (IsCopy f') p.making → All (IsCopy f') p.waiting → CopiesSound n f' (put part r p)
copies_all n f f' part r p s keep held making waiting = record {
  held = λ i lt. at_put part r p (λ (q : Part). All (IsCopy f') q.held) i (λ _. held) (λ _. lift f f' (part i).held (λ h _. keep h.address) (s.held i lt));
  making = λ i lt. at_put part r p (λ (q : Part). All (IsCopy f') q.making) i (λ _. making) (λ _. lift f f' (part i).making (λ h _. keep h.address) (s.making i lt));
  waiting = λ i lt. at_put part r p (λ (q : Part). All (IsCopy f') q.waiting) i (λ _. waiting) (λ _. lift f f' (part i).waiting (λ h _. keep h.address) (s.waiting i lt));
}

pub below_two : (n i k : ℕ) (F : ℕ → ℕ) → i < n → k < n → i ≢ k → F i + F k ≤ below n F
below_two zero i k F a b ne = absurd (omega arith)
below_two (suc n) i k F a b ne = dite (ℕ_discrete i n)
    (λ e. let q : F i ≡ F n = ap F e in let r = below_at n k F (omega arith) in omega arith)
    (λ ni. dite (ℕ_discrete k n)
    (λ e. let q : F k ≡ F n = ap F e in let r = below_at n i F (omega arith) in omega arith)
    (λ nk. let r = below_two n i k F (omega arith) (omega arith) ne in omega arith))
