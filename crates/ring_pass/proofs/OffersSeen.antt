-- Puts, as a pass sees them.
use Rattle.std.proofs.Common.{◌≡◌, ◌≢◌, ℕ, ◌+◌, ◌<◌, ◌≤◌, List, [], ◌∷◌, ◌++◌, length, refl, sym, ap, subst, ◌∙◌, arith}
use Rattle.std.specs.Prelude.{Contains}
use Rattle.rup_model.proofs.Lists.{In, Contains_In}
use Rattle.share_core.specs.declared.stored.ClauseAt.{ClauseAt}
use Rattle.share_core.specs.State.{times_at}
use Rattle.share_core.proofs.ClauseLists.{all_in, at_in, at_both}
use Rattle.share_rule.specs.declared.view.RingPart.{RingPart}
use Rattle.share_rule.specs.declared.view.View.{View}
use Rattle.share_rule.specs.Exchanges.{KeepsGlues, gave_part, after_put}
use Rattle.share_rule.specs.Seen.{Seen}
use Rattle.share_rule.specs.Steps.{share_part, drop_part, after_share}
use Rattle.share_rule.specs.Views.{only, clause_in, clause_of, IsHolding}
use Rattle.share_rule.proofs.Lists.{first_at}
use Rattle.ring_pass.specs.declared.spares.Spares.{Spares}
use Rattle.ring_pass.specs.declared.waiting.Waiting.{Waiting}
use Rattle.ring_pass.specs.RingState.{AreShort, AreWaiting}
use Rattle.ring_pass.specs.Offering.{CanTakeBack, PutPart, PutFor, GaveBack}
use Rattle.ring_pass.proofs.OffersHere.{OneEach, with_in, put_note, swapped, put_none, put_some, put_both, put_nothing}
use Rattle.ring_pass.proofs.PollsHere.{numbers_apart}
use Rattle.ring_pass.proofs.RingPorts.{copy_of, one_of}
use Rattle.ring_pass.proofs.Stays.{only_is, one_is, one_changed}

-- what a pass's ring holds at one address is one clause
pub each_of : (v : View) (s : Seen v) → v.parts ≡ only v ∷ [] → OneEach (only v).core.held
each_of v s one h k i j e = one_of v s one h k (copy_of v s one h i) (copy_of v s one k j) e

-- What can be taken back

pub back_same : (p q : RingPart) (ws : List Waiting) (room n : ℕ) (s : Spares) → q.core.waiting ≡ p.core.waiting → CanTakeBack p ws room s n → CanTakeBack q ws room s n
back_same p q ws room n s e c = record { waits = subst (AreWaiting ws) (sym e) c.waits; places = c.places; buffers = c.buffers; enough = c.enough }

pub back_fewer : (p : RingPart) (ws : List Waiting) (room n m : ℕ) (s : Spares) → m ≤ n → CanTakeBack p ws room s n → CanTakeBack p ws room s m
back_fewer p ws room n m s le c = record { waits = c.waits; places = (let k = c.places in omega arith); buffers = c.buffers; enough = (let k = c.enough in omega arith) }

-- One put

-- what is shared is held
pub share_holds : (v u : View) (a found : ℕ) → u ≡ after_share a found v → IsHolding a v → IsHolding a u
share_holds v u a found is h =
    let parts : u.parts ≡ share_part a (only v) ∷ [] = one_changed (share_part a) v u h.0 (ap (λ (y : View). y.parts) is) in
    let more = at_both a (only v).core.held (clause_in a (only v).core.held ∷ []) in
    let lt = h.1 in
    (one_is u (share_part a (only v)) parts, subst (λ (y : RingPart). 0 < times_at a y.core.held) (sym (only_is u (share_part a (only v)) parts)) (omega arith))

module _ (v u w : View) (sv : Seen v) (sw : Seen w) (to class place a found : ℕ) (x : ClauseAt) (g : ℕ) (one : v.parts ≡ only v ∷ []) (lt : 0 < times_at a (only v).core.held) (shares : u ≡ after_share a found v)
    (puts : w ≡ after_put to class place a x g u) (keeps : KeepsGlues x g (only u)) where
  shared_parts : u.parts ≡ share_part a (only v) ∷ []
  shared_parts = one_changed (share_part a) v u one (ap (λ (y : View). y.parts) shares)

  shared_one : u.parts ≡ only u ∷ []
  shared_one = one_is u (share_part a (only v)) shared_parts

  shared_is : only u ≡ share_part a (only v)
  shared_is = only_is u (share_part a (only v)) shared_parts

  pub put_parts : w.parts ≡ swapped to class place a x g (only v) ∷ []
  put_parts = one_changed (gave_part (put_note to class place a) x g) u w shared_one (ap (λ (y : View). y.parts) puts) ∙ (λ i. gave_part (put_note to class place a) x g (shared_is i) ∷ [])

  pub put_is : only w ≡ swapped to class place a x g (only v)
  put_is = only_is w (swapped to class place a x g (only v)) put_parts

  pub put_one : w.parts ≡ only w ∷ []
  put_one = one_is w (swapped to class place a x g (only v)) put_parts

  pub put_layout : w.layout ≡ v.layout
  put_layout = ap (λ (y : View). y.layout) puts ∙ ap (λ (y : View). y.layout) shares

  pub put_opening : w.opening ≡ v.opening
  put_opening = ap (λ (y : View). y.opening) puts ∙ ap (λ (y : View). y.opening) shares

  pub put_stop : w.stop ≡ v.stop
  put_stop = ap (λ (y : View). y.stop) puts ∙ ap (λ (y : View). y.stop) shares

  pub put_looks : w.looks ≡ v.looks
  put_looks = ap (λ (y : View). y.looks) puts ∙ ap (λ (y : View). y.looks) shares

  pub put_waiting : (only w).core.waiting ≡ (only v).core.waiting
  put_waiting = ap (λ (y : RingPart). y.core.waiting) put_is

  put_each : OneEach (swapped to class place a x g (only v)).core.held
  put_each = subst (λ (y : RingPart). OneEach y.core.held) put_is (each_of w sw put_one)

  put_keeps : KeepsGlues x g (share_part a (only v))
  put_keeps = subst (KeepsGlues x g) shared_is keeps

  there : x.address ≢ 0 → In x (swapped to class place a x g (only v)).core.held
  there ne = with_in x _ ne

  put_apart : x.address ≢ 0 → (k : ClauseAt) → In k (only v).core.waiting → k.number ≢ x.number
  put_apart ne k i = numbers_apart w sw put_one x k (subst (λ (y : RingPart). In x y.core.held) (sym put_is) (there ne)) (subst (In k) (sym put_waiting) i)

  -- nothing came back
  pub nothing_back : x.address ≡ 0 → PutFor v w class place a (to ∷ [])
  nothing_back e = record {
    one = put_one;
    part = subst (λ (y : RingPart). PutPart (only v) y class place a (to ∷ [])) (sym put_is) (put_none (only v) to class place a x g lt (each_of v sv one) put_each put_keeps put_apart e);
    layout = put_layout;
    opening = put_opening;
    stop = put_stop;
    looks = put_looks;
  }

  -- a clause did, and its count was given up
  pub given_back : (z : View) (n : ℕ) → x.address ≢ 0 → GaveBack w z x.address n → PutFor v z class place a (to ∷ [])
  given_back z n ne gave =
      let parts : z.parts ≡ drop_part x.address n (swapped to class place a x g (only v)) ∷ [] = gave.parts ∙ (λ i. drop_part x.address n (put_is i) ∷ []) in
      record {
        one = one_is z (drop_part x.address n (swapped to class place a x g (only v))) parts;
        part = subst (λ (y : RingPart). PutPart (only v) y class place a (to ∷ [])) (sym (only_is z (drop_part x.address n (swapped to class place a x g (only v))) parts))
            (put_some (only v) to class place a x g lt (each_of v sv one) put_each put_keeps put_apart n ne);
        layout = gave.layout ∙ put_layout;
        opening = gave.opening ∙ put_opening;
        stop = gave.stop ∙ put_stop;
        looks = gave.looks ∙ put_looks;
      }

  -- what came back is no longer than what the ring gave
  pub short_back : (n : ℕ) → x.address ≢ 0 → AreShort n (only v).gave → Contains (only u).gave x → length (clause_of x.address w).lits ≤ n
  short_back n ne short among =
      let given : In x (only v).gave = subst (λ (y : RingPart). In x y.gave) shared_is (Contains_In (only u).gave x among) in
      let here : In x (only w).core.held = subst (λ (y : RingPart). In x y.core.held) (sym put_is) (there ne) in
      let f = first_at x.address (only w).core.held (at_in (only w).core.held x here) in
      let same : clause_of x.address w ≡ x = each_of w sw put_one (clause_of x.address w) x f.0 here f.1 in
      subst (λ (h : ClauseAt). length h.lits ≤ n) (sym same) (all_in (λ (h : ClauseAt). length h.lits ≤ n) (only v).gave x given short)

-- Puts one after the other

pub for_none : (v : View) (class place a : ℕ) → v.parts ≡ only v ∷ [] → PutFor v v class place a []
for_none v class place a one = record { one = one; part = put_nothing (only v) class place a; layout = refl; opening = refl; stop = refl; looks = refl }

pub for_both : (u v w : View) (class place a : ℕ) (xs ys : List ℕ) → 0 < times_at a (only u).core.held → PutFor u v class place a xs → PutFor v w class place a ys → PutFor u w class place a (xs ++ ys)
for_both u v w class place a xs ys lt f g = record {
  one = g.one;
  part = put_both (only u) (only v) (only w) class place a xs ys lt f.part g.part;
  layout = g.layout ∙ f.layout;
  opening = g.opening ∙ f.opening;
  stop = g.stop ∙ f.stop;
  looks = g.looks ∙ f.looks;
}

-- what is held stays held, with its clause
pub for_holding : (v w : View) (class place a : ℕ) (tos : List ℕ) → PutFor v w class place a tos → IsHolding a v → IsHolding a w
for_holding v w class place a tos f h = (f.one, let t = f.part.held.times a in let lt = h.1 in omega arith)

pub for_clause : (v w : View) (class place a : ℕ) (tos : List ℕ) → PutFor v w class place a tos → IsHolding a v → clause_of a w ≡ clause_of a v
for_clause v w class place a tos f h = f.part.held.clause a h.1

pub for_ring : (v w : View) (class place a : ℕ) (tos : List ℕ) → PutFor v w class place a tos → (only w).core.ring ≡ (only v).core.ring
for_ring v w class place a tos f = ap (λ (y : RingPart). y.core.ring) f.part.part

pub for_turn : (v w : View) (class place a : ℕ) (tos : List ℕ) → PutFor v w class place a tos → (only w).turn ≡ (only v).turn
for_turn v w class place a tos f = ap (λ (y : RingPart). y.turn) f.part.part

pub for_shared : (v w : View) (class place a : ℕ) (tos : List ℕ) → PutFor v w class place a tos → (only w).core.shared ≡ (only v).core.shared + length tos
for_shared v w class place a tos f = ap (λ (y : RingPart). y.core.shared) f.part.part

pub for_gave : (v w : View) (class place a n : ℕ) (tos : List ℕ) → PutFor v w class place a tos → length (clause_of a v).lits ≤ n → AreShort n (only v).gave → AreShort n (only w).gave
for_gave v w class place a n tos f le short = f.part.gave n le short
