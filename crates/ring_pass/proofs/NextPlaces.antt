-- The places that the next offers take.
use Rattle.std.proofs.Common.{◌≡◌, ◌≢◌, ℕ, zero, suc, ◌+◌, ◌*◌, ◌%◌, ◌<◌, ◌≤◌, ◌==◌, Bool, true, false, ◌&&◌, cond, List, [], ◌∷◌, ◌++◌, map, length, set, refl, sym, ap, subst, ◌∙◌, arith, eq-eqb, ne_eqb, length-set, get_or-set_same, get_or-set_other, suc-mul}
use Rattle.std.specs.Prelude.{slice_index, slice_set, ◌/◌}
use Rattle.std.proofs.lemmas.List.{map-append}
use Rattle.std.proofs.lemmas.List.Sums.{sum_by-cons, sum_by-append}
use Rattle.std.proofs.lemmas.Nat.{div-add-mod', mod-mul-add, mod_below}
use mathlib.Core.Logic.{dite}
use native.Mathlib.Decide.{ℕ_discrete}
use Rattle.rup_model.specs.Basics.{one_if}
use Rattle.share_core.specs.declared.stored.PutNote.{PutNote}
use Rattle.share_core.specs.declared.part.CoreOpening.{CoreOpening}
use Rattle.share_rule.specs.Views.{times_in}
use Rattle.share_rule.proofs.Lists.{times_both}
use Rattle.ring_port.specs.Exchange.{puts_for}
use Rattle.ring_port.specs.PortState.{Offer}
use Rattle.ring_pass.specs.Offering.{others, puts_for as puts_of}
use Rattle.ring_pass.specs.RingState.{offer_of, AreNext}
use Rattle.ring_pass.proofs.OtherRings.{next_own, next_other}

-- How often a ring stands among the others

times_past : (ring n r : ℕ) → n ≤ r → times_in r (others ring n) ≡ 0
times_past ring zero r le = refl
times_past ring (suc n) r le =
    let up : n + 1 ≡ suc n = omega arith in
    let less = times_past ring n r (omega arith) in
    dite (ℕ_discrete n ring)
    (λ e. let same : times_in r (others ring (suc n)) ≡ times_in r (others ring n) = ap (times_in r) (sym (ap (others ring) up) ∙ next_own ring n e) in omega arith)
    (λ ne.
    let more : times_in r (others ring (suc n)) ≡ times_in r (others ring n ++ n ∷ []) = ap (times_in r) (sym (ap (others ring) up) ∙ next_other ring n ne) in
    let sum = times_both r (others ring n) (n ∷ []) in
    let z : one_if (n == r) ≡ 0 = ap one_if (ne_eqb n r (λ e. omega arith)) in
    omega arith)

-- each other ring once
times_once : (ring n r : ℕ) → r < n → r ≢ ring → times_in r (others ring n) ≡ 1
times_once ring zero r lt other = absurd (omega arith)
times_once ring (suc n) r lt other =
    let up : n + 1 ≡ suc n = omega arith in
    dite (ℕ_discrete n ring)
    (λ e.
    let same : times_in r (others ring (suc n)) ≡ times_in r (others ring n) = ap (times_in r) (sym (ap (others ring) up) ∙ next_own ring n e) in
    let one = times_once ring n r (let ne : r ≢ n = λ q. other (q ∙ e) in omega arith) other in
    omega arith)
    (λ ne.
    let more : times_in r (others ring (suc n)) ≡ times_in r (others ring n ++ n ∷ []) = ap (times_in r) (sym (ap (others ring) up) ∙ next_other ring n ne) in
    let sum = times_both r (others ring n) (n ∷ []) in
    dite (ℕ_discrete n r)
    (λ q. let past = times_past ring n r (omega arith) in let z : one_if (n == r) ≡ 1 = ap one_if (eq-eqb n r q) in omega arith)
    (λ nq. let one = times_once ring n r (let nr : r ≢ n = λ q. nq (sym q) in omega arith) other in let z : one_if (n == r) ≡ 0 = ap one_if (ne_eqb n r nq) in omega arith))

-- What an offer puts

-- a clause put for each of these rings at one place, as the port knows it
abbrev pub offers_at : (class place a : ℕ) → List ℕ → List Offer
offers_at class place a tos = map (λ (r : ℕ). record { ring = r; class = class; place = place; address = a }) tos

pub map_puts : (ns : List PutNote) (class place a : ℕ) (tos : List ℕ) → map offer_of (ns ++ puts_of class place a tos) ≡ map offer_of ns ++ offers_at class place a tos
map_puts [] class place a tos = by tos
  where
    by : (rs : List ℕ) → map offer_of (puts_of class place a rs) ≡ offers_at class place a rs
    by [] = refl
    by (r ∷ rs) = ap (λ (os : List Offer). record { ring = r; class = class; place = place; address = a } ∷ os) (by rs)
map_puts (n ∷ ns) class place a tos = ap (λ (os : List Offer). offer_of n ∷ os) (map_puts ns class place a tos)

and_true : (b : Bool) → one_if (b && true) ≡ one_if b
and_true true = refl
and_true false = refl

and_false : (b : Bool) → one_if (b && false) ≡ 0
and_false true = refl
and_false false = refl

-- of this class as often as a ring stands there
puts_here : (class place a r : ℕ) (tos : List ℕ) → puts_for (offers_at class place a tos) r class ≡ times_in r tos
puts_here class place a r [] = refl
puts_here class place a r (x ∷ tos) =
    let more = sum_by-cons (λ (o : Offer). cond ((o.ring == r) && (o.class == class)) 1 0) (record { ring = x; class = class; place = place; address = a }) (offers_at class place a tos) in
    let one : one_if ((x == r) && (class == class)) ≡ one_if (x == r) = (λ i. one_if ((x == r) && eq-eqb class class refl i)) ∙ and_true (x == r) in
    let rest = puts_here class place a r tos in
    omega arith

-- of another none
puts_else : (class place a r k : ℕ) (tos : List ℕ) → k ≢ class → puts_for (offers_at class place a tos) r k ≡ 0
puts_else class place a r k [] ne = refl
puts_else class place a r k (x ∷ tos) ne =
    let more = sum_by-cons (λ (o : Offer). cond ((o.ring == r) && (o.class == k)) 1 0) (record { ring = x; class = class; place = place; address = a }) (offers_at class place a tos) in
    let none : one_if ((x == r) && (class == k)) ≡ 0 = (λ i. one_if ((x == r) && ne_eqb class k (λ e. ne (sym e)) i)) ∙ and_false (x == r) in
    let rest = puts_else class place a r k tos ne in
    omega arith

puts_both : (ns : List PutNote) (class place a r k : ℕ) (tos : List ℕ) → puts_for (map offer_of (ns ++ puts_of class place a tos)) r k ≡ puts_for (map offer_of ns) r k + puts_for (offers_at class place a tos) r k
puts_both ns class place a r k tos = ap (λ (os : List Offer). puts_for os r k) (map_puts ns class place a tos) ∙ sum_by-append (λ (o : Offer). cond ((o.ring == r) && (o.class == k)) 1 0) (map offer_of ns) (offers_at class place a tos)

-- the same place for all other rings, if each has it next
pub offers_same : (ring n class place a : ℕ) (f : ℕ → ℕ) → ((r : ℕ) → r < n → r ≢ ring → place ≡ f r)
    → offers_at class place a (others ring n) ≡ map (λ (r : ℕ). record { ring = r; class = class; place = f r; address = a }) (others ring n)
offers_same ring zero class place a f each = refl
offers_same ring (suc n) class place a f each =
    let up : n + 1 ≡ suc n = omega arith in
    let less = offers_same ring n class place a f (λ r lt other. each r (omega arith) other) in
    let mk : ℕ → Offer = λ r. record { ring = r; class = class; place = f r; address = a } in
    let same : List ℕ → Type 0 = λ xs. offers_at class place a xs ≡ map mk xs in
    dite (ℕ_discrete n ring)
    (λ e. subst same (sym (sym (ap (others ring) up) ∙ next_own ring n e)) less)
    (λ ne. subst same (sym (sym (ap (others ring) up) ∙ next_other ring n ne))
    (map-append (λ (r : ℕ). record { ring = r; class = class; place = place; address = a }) (others ring n) (n ∷ [])
    ∙ (λ i. less i ++ record { ring = n; class = class; place = each n (let z : n < suc n = omega arith in z) ne i; address = a } ∷ [])
    ∙ sym (map-append mk (others ring n) (n ∷ []))))

-- The next place

mod_step : (q r d : ℕ) → r < d → (r + 1) % d ≡ (q * d + r + 1) % d
mod_step q r d lt = dite (ℕ_discrete (r + 1) d)
    (λ e.
    let s = suc-mul q d in
    let up : q * d + r + 1 ≡ suc q * d + 0 = omega arith in
    let one : r + 1 ≡ 1 * d + 0 = omega arith in
    ap (λ (m : ℕ). m % d) one ∙ mod-mul-add 1 d 0 (omega arith) ∙ sym (mod-mul-add (suc q) d 0 (omega arith)) ∙ ap (λ (m : ℕ). m % d) (sym up))
    (λ ne.
    let up : q * d + r + 1 ≡ q * d + (r + 1) = omega arith in
    let one : r + 1 ≡ 0 * d + (r + 1) = omega arith in
    ap (λ (m : ℕ). m % d) one ∙ mod-mul-add 0 d (r + 1) (omega arith) ∙ sym (mod-mul-add q d (r + 1) (omega arith)) ∙ ap (λ (m : ℕ). m % d) (sym up))

mod_more : (n d : ℕ) → 0 < d → (n % d + 1) % d ≡ (n + 1) % d
mod_more n d some = mod_step (n / d) (n % d) d (mod_below n d some) ∙ ap (λ (m : ℕ). (m + 1) % d) (div-add-mod' n d)

-- after a clause was put for all other rings, the next of its class takes the place after it
pub next_offered : (ring : ℕ) (ns : List PutNote) (o : CoreOpening) (places : List ℕ) (class a : ℕ) → class < 4 → AreNext ring ns o places
    → AreNext ring (ns ++ puts_of class (slice_index places class) a (others ring o.rings)) o (slice_set places class ((slice_index places class + 1) % o.depth))
next_offered ring ns o places class a few h =
    let place : ℕ = slice_index places class in
    let v : ℕ = (place + 1) % o.depth in
    let four = h.four in
    let room : class < length places = omega arith in
    let some : 0 < o.depth = (let lt = h.there class few in omega arith) in
    record {
      four = length-set places class v ∙ h.four;
      there = λ k kt. dite (ℕ_discrete k class)
          (λ e. subst (λ (m : ℕ). slice_index (set places class v) m < o.depth) (sym e) (subst (λ (m : ℕ). m < o.depth) (sym (get_or-set_same places class v 0 room)) (mod_below (place + 1) o.depth some)))
          (λ ne. subst (λ (m : ℕ). m < o.depth) (sym (get_or-set_other places class k v 0 ne)) (h.there k kt));
      next = λ to k lt other kt.
          let old : ℕ = puts_for (map offer_of ns) to class in
          let mine : place ≡ old % o.depth = h.next to class lt other few in
          let both = puts_both ns class place a to class (others ring o.rings) in
          let here = puts_here class place a to (others ring o.rings) in
          let once = times_once ring o.rings to lt other in
          let now : puts_for (map offer_of (ns ++ puts_of class place a (others ring o.rings))) to class ≡ old + 1 = omega arith in
          dite (ℕ_discrete k class)
          (λ e. subst (λ (m : ℕ). slice_index (set places class v) m ≡ puts_for (map offer_of (ns ++ puts_of class place a (others ring o.rings))) to m % o.depth) (sym e)
          (get_or-set_same places class v 0 room ∙ ap (λ (m : ℕ). (m + 1) % o.depth) mine ∙ mod_more old o.depth some ∙ ap (λ (m : ℕ). m % o.depth) (sym now)))
          (λ ne.
          let all = puts_both ns class place a to k (others ring o.rings) in
          let none = puts_else class place a to k (others ring o.rings) ne in
          let stays : puts_for (map offer_of (ns ++ puts_of class place a (others ring o.rings))) to k ≡ puts_for (map offer_of ns) to k = omega arith in
          get_or-set_other places class k v 0 ne ∙ h.next to k lt other kt ∙ ap (λ (m : ℕ). m % o.depth) (sym stays));
    }

-- the next places, if the ring has put nothing more
pub places_stay : {ring ring' : ℕ} {ns ns' : List PutNote} {o : CoreOpening} {places : List ℕ} → ring' ≡ ring → ns' ≡ ns → AreNext ring ns o places → AreNext ring' ns' o places
places_stay {ring} {ring'} {ns} {ns'} {o} {places} same puts h = subst (λ (y : ℕ × List PutNote). AreNext y.0 y.1 o places) (λ i. (sym same i, sym puts i)) h
