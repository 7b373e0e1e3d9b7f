-- Rights that are handed out, passes that are begun, and those that are gathered.
use Rattle.std.proofs.Common.{◌≡◌, ◌≢◌, ℕ, ◌+◌, ◌<◌, ◌≤◌, ◌==◌, List, [], ◌∷◌, ◌++◌, length, get_or, append_assoc, refl, sym, ap, ◌∙◌, subst, arith, ne_eqb, Option}
use Rattle.std.proofs.lemmas.List.{get_or_append_left, get_or-append-add}
use mathlib.Core.Logic.{dite}
use native.Mathlib.Decide.{ℕ_discrete}
use Rattle.rup_model.specs.Basics.{one_if}
use Rattle.atomic_table.specs.declared.shared.Seat.{Seat}
use Rattle.share_rule.specs.declared.Shared.{Shared}
use Rattle.share_rule.specs.declared.view.View.{View}
use Rattle.share_rule.specs.declared.view.RingPart.{RingPart}
use Rattle.share_core.specs.declared.part.CoreOpening.{CoreOpening}
use Rattle.share_rule.specs.Passes.{IsPassOf, IsSamePass}
use Rattle.share_rule.specs.Steps.{new_part, after_load, without_right, joined}
use Rattle.share_rule.specs.Views.{times_in, without_in}
use Rattle.share_rule.proofs.Lists.{times_without, times_both}
use Rattle.portfolio_run.specs.Seats.{IsSameTable, IsBegun, AreBegun, HasRightsFrom, IsAtRest}
use Rattle.portfolio_run.proofs.Each.{EachFrom, each_last}

-- the other rights stay
pub other_right : (r q : ℕ) (rights : List ℕ) → 0 < times_in r rights → r < q → 0 < times_in q rights → 0 < times_in q (without_in r rights)
other_right r q rights has lt there = let t = times_without r q rights has in let z : one_if (r == q) ≡ 0 = ap one_if (ne_eqb r q (λ e. omega arith)) in omega arith

pub same_still : (v : View) → IsSameTable v v
same_still v = record { layout = refl; opening = refl; origin = refl }

pub same_back : (u v : View) → IsSameTable u v → IsSameTable v u
same_back u v a = record { layout = sym a.layout; opening = sym a.opening; origin = sym a.origin }

pub same_both : (u v w : View) → IsSameTable u v → IsSameTable v w → IsSameTable u w
same_both u v w a b = record { layout = b.layout ∙ a.layout; opening = b.opening ∙ a.opening; origin = b.origin ∙ a.origin }

-- of the first pass
pub same_split : (v w : View) (ring found : ℕ) → w ≡ after_load 0 found (without_right ring v) → IsSameTable v w
same_split v w ring found is = record { layout = ap (λ (u : View). u.layout) is; opening = ap (λ (u : View). u.opening) is; origin = ap (λ (u : View). u.origin) is }

-- and of one that took another in
pub same_join : (u v w x : View) (found : ℕ) → IsSameTable u v → w ≡ after_load 0 found (joined v x) → IsSameTable u w
same_join u v w x found same is = same_both u v w same (record { layout = ap (λ (y : View). y.layout) is; opening = ap (λ (y : View). y.opening) is; origin = ap (λ (y : View). y.origin) is })

-- the rights to the other grants are left
pub rights_left : (v w : View) (ring found r : ℕ) → w ≡ after_load 0 found (without_right ring v) → 0 < times_in ring v.rights → ring < r → 0 < times_in r v.rights → 0 < times_in r w.rights
rights_left v w ring found r is has lt there = subst (λ (u : View). 0 < times_in r u.rights) (sym is) (other_right ring r v.rights has lt there)

-- the next ring
pub rights_next : {B : Type 0} (t : Shared B) (p q : Seat (Option B) View) (ring found : ℕ) → HasRightsFrom t p ring → ring < p.me.0.opening.rings → IsPassOf t q → IsSamePass p q → q.me.0 ≡ after_load 0 found (without_right ring p.me.0) → HasRightsFrom t q (ring + 1)
rights_next t p q ring found at below pass seat is =
    let rings = ap (λ (u : View). u.opening.rings) is in
    record {
      pass = pass;
      slots = seat.1 ∙ at.slots;
      none = ap (λ (u : View). u.parts) is ∙ at.none;
      rights = λ r le lt. rights_left p.me.0 q.me.0 ring found r is (at.rights ring (omega arith) below) (omega arith) (at.rights r (omega arith) (omega arith));
    }

pub one_longer : {A : Type 0} (xs : List A) (x : A) → length (xs ++ x ∷ []) ≡ length xs + 1
one_longer [] x = refl
one_longer (y ∷ xs) x = let k = one_longer xs x in omega arith

-- the pass has the first rings, each just begun, and the rights to the grants of all others
pub record HasFirst {B : Type 0} (t : Shared B) (v : View) (p : Seat (Option B) View) (ring : ℕ) : Type 0 where
  pub pass : IsAtRest t p
  pub same : IsSameTable v p.me.0
  pub many : length p.me.0.parts ≡ ring
  pub parts : EachFrom (λ (i : ℕ) (x : RingPart). x ≡ new_part v.opening i) 0 p.me.0.parts
  pub rights : (r : ℕ) → ring ≤ r → r < v.opening.rings → 0 < times_in r p.me.0.rights

pub first_none : {B : Type 0} (t : Shared B) (p : Seat (Option B) View) → HasRightsFrom t p 0 → HasFirst t p.me.0 p 0
first_none t p at = record {
  pass = (at.pass, at.slots);
  same = same_still p.me.0;
  many = ap length at.none;
  parts = subst (EachFrom (λ (i : ℕ) (x : RingPart). x ≡ new_part p.me.0.opening i) 0) (sym at.none) tt;
  rights = at.rights;
}

pub first_next : {B : Type 0} (t : Shared B) (v : View) (p q : Seat (Option B) View) (ring : ℕ) → HasFirst t v p ring → IsAtRest t q → IsSameTable p.me.0 q.me.0 → q.me.0.parts ≡ p.me.0.parts ++ new_part p.me.0.opening ring ∷ [] → ((r : ℕ) → ring < r → 0 < times_in r p.me.0.rights → 0 < times_in r q.me.0.rights) → HasFirst t v q (ring + 1)
first_next t v p q ring at rest same parts rights =
    let P : ℕ → RingPart → Type 0 = λ i x. x ≡ new_part v.opening i in
    let x = new_part p.me.0.opening ring in
    let many = at.many in
    let now : P ring x = ap (λ (o : CoreOpening). new_part o ring) at.same.opening in
    record {
      pass = rest;
      same = same_both v p.me.0 q.me.0 at.same same;
      many = ap length parts ∙ one_longer p.me.0.parts x ∙ ap (λ (n : ℕ). n + 1) at.many;
      parts = subst (EachFrom P 0) (sym parts) (each_last P 0 ring p.me.0.parts x (omega arith) at.parts now);
      rights = λ r le lt. rights r (omega arith) (at.rights r (omega arith) lt);
    }

-- of two that are joined, the first's rights are there
pub rights_both : (v w x : View) (found r : ℕ) → w ≡ after_load 0 found (joined v x) → 0 < times_in r v.rights → 0 < times_in r w.rights
rights_both v w x found r is there =
    let sum = times_both r v.rights x.rights in
    subst (λ (u : View). 0 < times_in r u.rights) (sym is) (let more : 0 < times_in r (v.rights ++ x.rights) = omega arith in more)

-- one ring more is begun
pub begun_more : {B : Type 0} (t : Shared B) (v : View) (ps : List (Seat (Option B) View)) (n : ℕ) (p : Seat (Option B) View) → length ps ≡ n → AreBegun t v ps → IsBegun t v n p → AreBegun t v (ps ++ p ∷ [])
begun_more {B} t v ps n p many each last i d lt = dite (ℕ_discrete i n)
    (λ e. let q : i ≡ length ps + 0 = omega arith in
    subst (λ (k : ℕ). IsBegun t v k (get_or (ps ++ p ∷ []) i d)) (sym e)
    (subst (λ (x : Seat (Option B) View). IsBegun t v n x) (sym (ap (λ (k : ℕ). get_or (ps ++ p ∷ []) k d) q ∙ get_or-append-add ps (p ∷ []) 0 d)) last))
    (λ ne. let small : i < length ps = short ps p i n lt many ne in
    subst (λ (x : Seat (Option B) View). IsBegun t v i x) (sym (get_or_append_left ps (p ∷ []) d i small)) (each i d small))
  where
    short : {A : Type 0} (xs : List A) (x : A) (j m : ℕ) → j < length (xs ++ x ∷ []) → length xs ≡ m → j ≢ m → j < length xs
    short xs x j m below is other = let k = one_longer xs x in omega arith

-- what is gathered, with the first of the others
pub parts_more : (old now : List RingPart) (p : List RingPart) (rest whole : List RingPart) → now ≡ old ++ p → whole ≡ p ++ rest → now ++ rest ≡ old ++ whole
parts_more old now p rest whole is all = ap (λ (ps : List RingPart). ps ++ rest) is ∙ append_assoc old p rest ∙ ap (λ (ps : List RingPart). old ++ ps) (sym all)

-- a ring that is begun over a table is so over whatever has the same opening
pub begun_same : {B : Type 0} (t : Shared B) (u v : View) (ring : ℕ) (p : Seat (Option B) View) → IsSameTable u v → IsBegun t v ring p → IsBegun t u ring p
begun_same t u v ring p same b = record {
  pass = b.pass;
  ring_is = b.ring_is ∙ ap (λ (o : CoreOpening). new_part o ring ∷ []) same.opening;
  same = same_both u v p.me.0 same b.same;
  unstopped = b.unstopped;
  unlooked = b.unlooked;
}

pub all_begun : {B : Type 0} (t : Shared B) (u v : View) (ps : List (Seat (Option B) View)) → IsSameTable u v → AreBegun t u ps → AreBegun t v ps
all_begun t u v ps same each i d lt = begun_same t v u i (get_or ps i d) (same_back u v same) (each i d lt)
