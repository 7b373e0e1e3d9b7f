-- Passes of rings that are split off and joined, and what is known of the elements of a list of rings.
use Rattle.std.proofs.Common.{◌≡◌, ℕ, zero, suc, ◌+◌, ◌<◌, ◌==◌, List, [], ◌∷◌, ◌++◌, map, length, get_or, take, drop, append-nil, refl, sym, ap, ◌∙◌, subst, arith, eq-eqb, ne_eqb, Option, None}
use Rattle.std.proofs.lemmas.List.{drop_all, take_all, get_or_append_left, get_or-append-add}
use mathlib.Core.Logic.{dite}
use native.Mathlib.Decide.{ℕ_discrete}
use Rattle.atomic_table.specs.declared.shared.Seat.{Seat}
use Rattle.sat_words.specs.declared.shared.Cref.{Cref}
use Rattle.share_core.specs.declared.part.CoreOpening.{CoreOpening}
use Rattle.share_rule.specs.declared.Shared.{Shared}
use Rattle.share_rule.specs.FirstWords.{addresses}
use Rattle.share_rule.specs.Passes.{IsPassOf, IsSamePass, NoTurns}
use Rattle.share_rule.specs.Shown.{ring_of}
use Rattle.test_tables.specs.Samples.{IsRing, IsGathered}
use Rattle.rup_model.specs.Basics.{one_if}
use Rattle.share_core.specs.declared.stored.ClauseAt.{ClauseAt}
use Rattle.share_core.specs.State.{times_at}
use Rattle.share_rule.specs.declared.view.RingPart.{RingPart}
use Rattle.share_rule.specs.declared.view.View.{View}
use Rattle.share_rule.specs.Rests.{NoneBuild}
use Rattle.share_rule.specs.Views.{only, times_in, without_in}
use Rattle.share_rule.specs.Steps.{after_load, joined}
use Rattle.share_rule.proofs.Lists.{times_without}

-- the other rights stay
pub other_right : (r q : ℕ) (rights : List ℕ) → 0 < times_in r rights → r < q → 0 < times_in q rights → 0 < times_in q (without_in r rights)
other_right r q rights has lt there = let t = times_without r q rights has in let z : one_if (r == q) ≡ 0 = ap one_if (ne_eqb r q (λ e. omega arith)) in omega arith

-- Passes that are joined

times_end : (r : ℕ) (ps : List RingPart) (p : RingPart) → times_in r (map ring_of (ps ++ p ∷ [])) ≡ times_in r (map ring_of ps) + one_if (ring_of p == r)
times_end r [] p = omega arith
times_end r (q ∷ ps) p = let k = times_end r ps p in omega arith

turns_end : (ps : List RingPart) (p : RingPart) → NoTurns ps → p.turn ≡ None → NoTurns (ps ++ p ∷ [])
turns_end [] p h e = (e, tt)
turns_end (q ∷ ps) p h e = (h.0, turns_end ps p h.1 e)

-- a ring's pass is taken in
pub gathered_more : {B : Type 0} (t : Shared B) (p q other : Seat (Option B) View) (ring : ℕ) → IsGathered t p (ring + 1) → IsRing t other ring → IsPassOf t q → IsSamePass p q → (found : ℕ) → q.me.0 ≡ after_load 0 found (joined p.me.0 other.me.0)
    → IsGathered t q ring × (q.me.0.opening ≡ p.me.0.opening) × (q.me.0.parts ≡ p.me.0.parts ++ only other.me.0 ∷ [])
gathered_more t p q other ring g o pass same found is =
    let one : RingPart = only other.me.0 in
    let parts : q.me.0.parts ≡ p.me.0.parts ++ one ∷ [] = ap (λ (v : View). v.parts) is ∙ ap (λ (ps : List RingPart). p.me.0.parts ++ ps) o.one in
    let opening : q.me.0.opening ≡ p.me.0.opening = ap (λ (v : View). v.opening) is in (
      record {
        pass = pass;
        slots = same.1 ∙ g.slots;
        rings = λ r le lt. subst (λ (ps : List RingPart). 0 < times_in r (map ring_of ps)) (sym parts)
            (let n = times_end r p.me.0.parts one in
            dite (ℕ_discrete r ring)
            (λ e. let z : one_if (ring_of one == r) ≡ 1 = ap one_if (eq-eqb (ring_of one) r (o.ring_is ∙ sym e)) in omega arith)
            (λ ne. let k = g.rings r (omega arith) (subst (λ (c : CoreOpening). r < c.rings) opening lt) in omega arith));
        free = subst NoTurns (sym parts) (turns_end p.me.0.parts one g.free o.free);
      },
      opening,
      parts,
    )

-- a start cell is held by who holds all start clauses
pub start_there : (hs : List ClauseAt) (i : ℕ) (d : Cref) → i < length (addresses hs) → 0 < times_at (get_or (addresses hs) i d).address hs
start_there [] i d lt = absurd (omega arith)
start_there (h ∷ hs) zero d lt = let z : one_if (h.address == h.address) ≡ 1 = ap one_if (eq-eqb h.address h.address refl) in omega arith
start_there (h ∷ hs) (suc i) d lt = let k = start_there hs i d (omega arith) in omega arith

-- elements that tell their places
pub numbers_more : {A : Type 0} (f : A → ℕ) (xs : List A) (x : A) (n : ℕ) → length xs ≡ n → ((i : ℕ) (d : A) → i < n → f (get_or xs i d) ≡ i) → f x ≡ n → (i : ℕ) (d : A) → i < n + 1 → f (get_or (xs ++ x ∷ []) i d) ≡ i
numbers_more f xs x n len each last i d lt = dite (ℕ_discrete i n)
    (λ e. let q : i ≡ length xs + 0 = omega arith in ap (λ k. f (get_or (xs ++ x ∷ []) k d)) q ∙ ap f (get_or-append-add xs (x ∷ []) 0 d) ∙ last ∙ sym e)
    (λ ne. ap f (get_or_append_left xs (x ∷ []) d i (omega arith)) ∙ each i d (omega arith))

-- what a slice of a whole vector writes back
pub written_back : {A : Type 0} (xs ys : List A) (n : ℕ) → length ys ≡ length xs → n ≡ length xs → take n (ys ++ drop (length ys) xs) ≡ ys
written_back {A} xs ys n same all =
    let m : n ≡ length ys = all ∙ sym same in
    ap (λ (zs : List A). take n (ys ++ zs)) (drop_all (length ys) xs (omega arith)) ∙ ap (take n) (append-nil ys) ∙ take_all n ys (omega arith)

-- two rings that build no cell
pub none_of_two : (qs rs ps : List RingPart) (one two : RingPart) → rs ≡ qs ++ one ∷ [] → ps ≡ rs ++ two ∷ [] → qs ≡ [] → one.core.making ≡ [] → two.core.making ≡ [] → NoneBuild ps
none_of_two qs rs ps one two first second none a b = subst NoneBuild (sym (second ∙ ap (λ (xs : List RingPart). xs ++ two ∷ []) (first ∙ ap (λ (xs : List RingPart). xs ++ one ∷ []) none))) (a, (b, tt))
