-- What a ring holds after it shares and drops.
use Rattle.std.proofs.Common.{◌≡◌, ◌≢◌, ℕ, ◌+◌, ◌-◌, ◌^◌, ◌<◌, ◌==◌, Bool, List, [], ◌∷◌, ◌++◌, min, refl, sym, ap, ◌∙◌, subst, arith, eq-eqb, ne_eqb, cond}
use Rattle.std.specs.Prelude.{slice_index_or}
use mathlib.Core.Logic.{dite}
use native.Mathlib.Decide.{ℕ_discrete}
use Rattle.rup_model.specs.Basics.{one_if}
use Rattle.share_core.specs.declared.stored.ClauseAt.{ClauseAt}
use Rattle.share_core.specs.State.{times_at, without_at}
use Rattle.share_rule.specs.declared.view.RingPart.{RingPart}
use Rattle.share_rule.specs.declared.view.View.{View}
use Rattle.share_rule.specs.Views.{only, no_part}
use Rattle.share_rule.specs.Steps.{on_first, share_part, drop_part, after_share, after_drop}
use Rattle.share_rule.proofs.Lists.{first_at}
use Rattle.test_table.specs.Counts.{lasts_after}

only_changed : (f : RingPart → RingPart) (v u : View) → v.parts ≡ only v ∷ [] → u.parts ≡ on_first f v.parts → (u.parts ≡ only u ∷ []) × (only u ≡ f (only v))
only_changed f v u one is =
    let e : u.parts ≡ f (only v) ∷ [] = is ∙ ap (on_first f) one in
    let o : only u ≡ f (only v) = ap (λ (ps : List RingPart). slice_index_or ps 0 no_part) e in
    (e ∙ (λ i. sym o i ∷ []), o)

times_more : (a : ℕ) (hs : List ClauseAt) (h : ClauseAt) → h.address ≡ a → times_at a (hs ++ h ∷ []) ≡ times_at a hs + 1
times_more a [] h e = let z : one_if (h.address == a) ≡ 1 = ap one_if (eq-eqb h.address a e) in omega arith
times_more a (x ∷ hs) h e = let k = times_more a hs h e in omega arith

times_less : (a : ℕ) (hs : List ClauseAt) → 0 < times_at a hs → times_at a (without_at a hs) + 1 ≡ times_at a hs
times_less a [] h = absurd (omega arith)
times_less a (x ∷ hs) h = dite (ℕ_discrete x.address a)
    (λ e. let z : one_if (x.address == a) ≡ 1 = ap one_if (eq-eqb x.address a e) in subst (λ t. times_at a (cond t hs (x ∷ without_at a hs)) + 1 ≡ times_at a (x ∷ hs)) (sym (eq-eqb x.address a e)) (omega arith))
    (λ ne. let z : one_if (x.address == a) ≡ 0 = ap one_if (ne_eqb x.address a ne) in let k = times_less a hs (omega arith) in
    subst (λ t. times_at a (cond t hs (x ∷ without_at a hs)) + 1 ≡ times_at a (x ∷ hs)) (sym (ne_eqb x.address a ne)) (omega arith))

-- what stays of a ring's part
pub record Stays (v w : View) (a more : ℕ) : Type 0 where
  pub one : w.parts ≡ only w ∷ []
  pub times : times_at a (only w).core.held + 1 ≡ times_at a (only v).core.held + more
  pub ring : (only w).core.ring ≡ (only v).core.ring
  pub turn : (only w).turn ≡ (only v).turn

pub shared_stays : (v w : View) (a n : ℕ) → v.parts ≡ only v ∷ [] → 0 < times_at a (only v).core.held → w ≡ after_share a n v → Stays v w a 2 × ((only w).core.shared ≡ (only v).core.shared + 1)
shared_stays v w a n one holds is =
    let c = only_changed (share_part a) v w one (ap (λ (u : View). u.parts) is) in
    let f = first_at a (only v).core.held holds in
    let t = times_more a (only v).core.held _ f.1 in
    let h : times_at a (only w).core.held ≡ times_at a (only v).core.held + 1 = ap (λ (p : RingPart). times_at a p.core.held) c.1 ∙ t in
    (record { one = c.0; times = omega arith; ring = ap (λ (p : RingPart). p.core.ring) c.1; turn = ap (λ (p : RingPart). p.turn) c.1 }, ap (λ (p : RingPart). p.core.shared) c.1)

pub dropped_stays : (v w : View) (a n : ℕ) → v.parts ≡ only v ∷ [] → 0 < times_at a (only v).core.held → w ≡ after_drop a n v → Stays v w a 0 × ((only w).core.shared ≡ (only v).core.shared)
dropped_stays v w a n one holds is =
    let c = only_changed (drop_part a n) v w one (ap (λ (u : View). u.parts) is) in
    let f = first_at a (only v).core.held holds in
    let t = times_less a (only v).core.held holds in
    let h : times_at a (only w).core.held ≡ times_at a (without_at a (only v).core.held) = ap (λ (p : RingPart). times_at a p.core.held) c.1 ∙ ap (λ (b : ℕ). times_at a (without_at b (only v).core.held)) f.1 in
    (record { one = c.0; times = omega arith; ring = ap (λ (p : RingPart). p.core.ring) c.1; turn = ap (λ (p : RingPart). p.turn) c.1 }, ap (λ (p : RingPart). p.core.shared) c.1)

-- whether it was the last is counted
pub lasts_left : (found n : ℕ) → found ≢ 1 → n ≡ lasts_after found n
lasts_left found n ne = subst (λ (b : Bool). n ≡ cond b (min (n + 1) (2 ^ 64 - 1)) n) (sym (ne_eqb found 1 ne)) refl

pub lasts_last : (found n m : ℕ) → found ≡ 1 → m ≡ min (n + 1) (2 ^ 64 - 1) → m ≡ lasts_after found n
lasts_last found n m e is = subst (λ (b : Bool). m ≡ cond b (min (n + 1) (2 ^ 64 - 1)) n) (sym (eq-eqb found 1 e)) is
