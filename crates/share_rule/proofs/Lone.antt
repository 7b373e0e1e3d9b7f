-- If there is one ring, a cell is counted as often as that ring holds it.
use Rattle.std.proofs.Common.{◌≡◌, ◌≢◌, ℕ, ◌+◌, ◌<◌, ◌==◌, true, if◌then◌else◌, List, [], ◌∷◌, fold, refl, sym, ap, ◌∙◌, subst, arith, ne_eqb}
use Rattle.rup_model.specs.Basics.{one_if, below}
use Rattle.rup_model.proofs.Sums.{below_none, at_put}
use Rattle.rup_model.proofs.Sequences.{EachState}
use Rattle.share_core.specs.declared.event.Event.{Event}
use Rattle.share_core.specs.declared.event.Event.TheVariants.{Grant, TakeTurn, GiveTurn, AddClause, AddUnit, AddEmpty, Reduce, OpenCell, Read, Share, DropCount, Bury, Put, Get, Publish, See, Stop, Draw}
use Rattle.share_core.specs.State.{State, times_at, slots, slot_of, opened}
use Rattle.share_core.specs.Enabled.{IsEnabled}
use Rattle.share_core.specs.Events.{after}
use Rattle.share_core.specs.Left.{Left}
use Rattle.share_core.specs.Sound.{reach, counted}
use Rattle.share_core.proofs.Leaving.{enabled_states}

-- all slots are empty, and there is one ring
abbrev IsLone : State → Type 0
IsLone c = (c.opening.rings ≡ 1) × ((s : ℕ) → c.slot s ≡ 0)

-- nobody else is there to put anything for
stays_lone : (c : State) (e : Event) → IsEnabled c e → IsLone c → IsLone (after c e)
stays_lone c (Grant r) on h = h
stays_lone c (TakeTurn r) on h = h
stays_lone c (GiveTurn r) on h = h
stays_lone c (AddClause r kind lits hints a) on h = h
stays_lone c (AddUnit r kind lit hints) on h = h
stays_lone c (AddEmpty r hints) on h = h
stays_lone c (Reduce r) on h = h
stays_lone c (OpenCell r a) on h = h
stays_lone c (Read r a) on h = h
stays_lone c (Share r a) on h = h
stays_lone c (DropCount r a) on h = h
stays_lone c (Bury r a) on h = h
stays_lone c (Put r to k i a) on h = let one = h.0 in let mine : r < c.opening.rings = on.0 in let other : to < c.opening.rings = on.1 in absurd (on.2 (omega arith))
stays_lone c (Get r from k i) on h = (h.0, λ s. at_put c.slot (slot_of c.opening from r k i) 0 (λ (n : ℕ). n ≡ 0) s (λ _. refl) (λ _. h.1 s))
stays_lone c (Publish r lit n) on h = h
stays_lone c (See r) on h = h
stays_lone c (Stop r kind) on h = h
stays_lone c (Draw r) on h = h

each_lone : (c : State) (es : List Event) → EachState after IsEnabled c es → IsLone c → IsLone (fold after c es)
each_lone c [] on h = h
each_lone c (e ∷ es) on h = each_lone (after c e) es on.1 (stays_lone c e on.0 h)

slots_empty : (c : State) → Left c.opening c → c.opening.rings ≡ 1 → (s : ℕ) → c.slot s ≡ 0
slots_empty c l one = subst (λ (d : State). (s : ℕ) → d.slot s ≡ 0) l.leaves (each_lone (opened c.opening) l.events (enabled_states (opened c.opening) l.events l.enabled) (one, λ _. refl)).1

pub counted_alone : (c : State) (r a : ℕ) → Left c.opening c → c.opening.rings ≡ 1 → r < c.opening.rings → c.granted r ≡ true → a ≢ 0 → counted c.opening c a ≡ times_at a (c.part r).held
counted_alone c r a l one lt granted some =
    let none : below (slots c.opening) (λ s. one_if (c.slot s == a)) ≡ 0 =
    below_none (slots c.opening) (λ s. one_if (c.slot s == a)) (λ s _. ap one_if (ne_eqb (c.slot s) a (λ e. some (sym e ∙ slots_empty c l one s)))) in
    let is_zero : r ≡ 0 = omega arith in
    let mine : below c.opening.rings (λ i. reach c.opening (c.granted i) (c.part i).held a) ≡ reach c.opening (c.granted 0) (c.part 0).held a =
    ap (λ (n : ℕ). below n (λ i. reach c.opening (c.granted i) (c.part i).held a)) one ∙ nothing (reach c.opening (c.granted 0) (c.part 0).held a) in
    let here : reach c.opening (c.granted 0) (c.part 0).held a ≡ times_at a (c.part r).held =
    ap (λ (i : ℕ). reach c.opening (c.granted i) (c.part i).held a) (sym is_zero)
    ∙ (λ i. times_at a (c.part r).held + (if granted i then 0 else times_at a c.opening.starts))
    ∙ nothing (times_at a (c.part r).held) in
    omega arith
  where
    nothing : (n : ℕ) → n + 0 ≡ n
    nothing n = omega arith
