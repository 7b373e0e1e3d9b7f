-- What an event leaves to the rings that do not take it.
use Rattle.std.proofs.Common.{◌≡◌, ◌≢◌, ℕ, ◌+◌, true, List, [], ◌∷◌, ◌++◌, length, fold, count_by, Option, Some, None, refl, sym, ap, ◌∙◌, inl, inr, arith, eq-eqb, ne_eqb, append-nil, append_assoc}
use Rattle.std.proofs.lemmas.List.Sums.{sum_by-cons}
use Rattle.sat_words.specs.Literal.{Literal}
use Rattle.rup_model.specs.Basics.{put, one_if}
use Rattle.rup_model.proofs.Lists.{In}
use Rattle.rup_model.proofs.Sums.{at_put, put_else}
use Rattle.share_core.specs.declared.event.Event.{Event}
use Rattle.share_core.specs.declared.event.Event.TheVariants.{Grant, TakeTurn, GiveTurn, AddClause, AddUnit, AddEmpty, Reduce, OpenCell, Read, Share, DropCount, Bury, Put, Get, Publish, See, Stop, Draw}
use Rattle.share_core.specs.declared.event.Stop.{Stop as StopWord}
use Rattle.share_core.specs.State.{Part, State}
use Rattle.share_core.specs.Events.{first_stop, unit_at, listed_number, seen_part, shared_part, after}
use Rattle.share_core.specs.State.{clause_at}
use Rattle.share_core.specs.Left.{ring_of, AreOthers, shares}
use Rattle.share_core.proofs.ClauseLists.{all_in}
use Rattle.share_core.proofs.Counting.{none_some, some_same}

-- Parts and grants

pub event_else : (c : State) (i : ℕ) (e : Event) → ring_of e ≢ i → (after c e).part i ≡ c.part i
event_else c i (Grant r) ne = put_else c.part r _ i (λ q. ne (sym q))
event_else c i (TakeTurn r) ne = refl
event_else c i (GiveTurn r) ne = refl
event_else c i (AddClause r kind lits hints a) ne = put_else c.part r _ i (λ q. ne (sym q))
event_else c i (AddUnit r kind l hints) ne = put_else c.part r _ i (λ q. ne (sym q))
event_else c i (AddEmpty r hints) ne = put_else c.part r _ i (λ q. ne (sym q))
event_else c i (Reduce r) ne = put_else c.part r _ i (λ q. ne (sym q))
event_else c i (OpenCell r a) ne = put_else c.part r _ i (λ q. ne (sym q))
event_else c i (Read r a) ne = refl
event_else c i (Share r a) ne = put_else c.part r _ i (λ q. ne (sym q))
event_else c i (DropCount r a) ne = put_else c.part r _ i (λ q. ne (sym q))
event_else c i (Bury r a) ne = put_else c.part r _ i (λ q. ne (sym q))
event_else c i (Put r to k l a) ne = put_else c.part r _ i (λ q. ne (sym q))
event_else c i (Get r from k l) ne = put_else c.part r _ i (λ q. ne (sym q))
event_else c i (Publish r l n) ne = put_else c.part r _ i (λ q. ne (sym q))
event_else c i (See r) ne = put_else c.part r _ i (λ q. ne (sym q))
event_else c i (Stop r kind) ne = refl
event_else c i (Draw r) ne = put_else c.part r _ i (λ q. ne (sym q))

pub event_grant : (c : State) (i : ℕ) (e : Event) → ring_of e ≢ i → (after c e).granted i ≡ c.granted i
event_grant c i (Grant r) ne = put_else c.granted r true i (λ q. ne (sym q))
event_grant c i (TakeTurn r) ne = refl
event_grant c i (GiveTurn r) ne = refl
event_grant c i (AddClause r kind lits hints a) ne = refl
event_grant c i (AddUnit r kind l hints) ne = refl
event_grant c i (AddEmpty r hints) ne = refl
event_grant c i (Reduce r) ne = refl
event_grant c i (OpenCell r a) ne = refl
event_grant c i (Read r a) ne = refl
event_grant c i (Share r a) ne = refl
event_grant c i (DropCount r a) ne = refl
event_grant c i (Bury r a) ne = refl
event_grant c i (Put r to k l a) ne = refl
event_grant c i (Get r from k l) ne = refl
event_grant c i (Publish r l n) ne = refl
event_grant c i (See r) ne = refl
event_grant c i (Stop r kind) ne = refl
event_grant c i (Draw r) ne = refl

-- none of the list is the ring's
abbrev pub Others : ℕ → List Event → Type 0
Others r es = (e : Event) → In e es → ring_of e ≢ r

pub others_in : (r : ℕ) (es : List Event) → AreOthers r es → Others r es
others_in r es h e i = all_in (λ (x : Event). ring_of x ≢ r) es e i h

pub run_else : (r : ℕ) (es : List Event) (c : State) → Others r es → (fold after c es).part r ≡ c.part r
run_else r [] c h = refl
run_else r (e ∷ es) c h = run_else r es (after c e) (λ x i. h x (inr i)) ∙ event_else c r e (h e (inl refl))

pub run_grant : (r : ℕ) (es : List Event) (c : State) → Others r es → (fold after c es).granted r ≡ c.granted r
run_grant r [] c h = refl
run_grant r (e ∷ es) c h = run_grant r es (after c e) (λ x i. h x (inr i)) ∙ event_grant c r e (h e (inl refl))

-- The stop

event_stop : (c : State) (s : StopWord) (e : Event) → c.stop ≡ Some s → (after c e).stop ≡ Some s
event_stop c s (Grant r) is = is
event_stop c s (TakeTurn r) is = is
event_stop c s (GiveTurn r) is = is
event_stop c s (AddClause r kind lits hints a) is = is
event_stop c s (AddUnit r kind l hints) is = is
event_stop c s (AddEmpty r hints) is = is
event_stop c s (Reduce r) is = is
event_stop c s (OpenCell r a) is = is
event_stop c s (Read r a) is = is
event_stop c s (Share r a) is = is
event_stop c s (DropCount r a) is = is
event_stop c s (Bury r a) is = is
event_stop c s (Put r to k l a) is = is
event_stop c s (Get r from k l) is = is
event_stop c s (Publish r l n) is = is
event_stop c s (See r) is = is
event_stop c s (Stop r kind) is = ap (λ (q : Option StopWord). first_stop q (record { kind = kind; ring = r })) is
event_stop c s (Draw r) is = is

pub run_stop : (s : StopWord) (es : List Event) (c : State) → c.stop ≡ Some s → (fold after c es).stop ≡ Some s
run_stop s [] c is = is
run_stop s (e ∷ es) c is = run_stop s es (after c e) (event_stop c s e is)

pub stop_set : (c : State) (s : StopWord) (e : Event) → c.stop ≡ None → (after c e).stop ≡ Some s → e ≡ Stop s.ring s.kind
stop_set c s (Grant r) none is = absurd (none_some s (sym none ∙ is))
stop_set c s (TakeTurn r) none is = absurd (none_some s (sym none ∙ is))
stop_set c s (GiveTurn r) none is = absurd (none_some s (sym none ∙ is))
stop_set c s (AddClause r kind lits hints a) none is = absurd (none_some s (sym none ∙ is))
stop_set c s (AddUnit r kind l hints) none is = absurd (none_some s (sym none ∙ is))
stop_set c s (AddEmpty r hints) none is = absurd (none_some s (sym none ∙ is))
stop_set c s (Reduce r) none is = absurd (none_some s (sym none ∙ is))
stop_set c s (OpenCell r a) none is = absurd (none_some s (sym none ∙ is))
stop_set c s (Read r a) none is = absurd (none_some s (sym none ∙ is))
stop_set c s (Share r a) none is = absurd (none_some s (sym none ∙ is))
stop_set c s (DropCount r a) none is = absurd (none_some s (sym none ∙ is))
stop_set c s (Bury r a) none is = absurd (none_some s (sym none ∙ is))
stop_set c s (Put r to k l a) none is = absurd (none_some s (sym none ∙ is))
stop_set c s (Get r from k l) none is = absurd (none_some s (sym none ∙ is))
stop_set c s (Publish r l n) none is = absurd (none_some s (sym none ∙ is))
stop_set c s (See r) none is = absurd (none_some s (sym none ∙ is))
stop_set c s (Stop r kind) none is =
    let new : StopWord = record { kind = kind; ring = r } in
    ap (λ (q : StopWord). Stop q.ring q.kind) (some_same new s (sym (ap (λ (q : Option StopWord). first_stop q new) none) ∙ is))
stop_set c s (Draw r) none is = absurd (none_some s (sym none ∙ is))

-- Units

abbrev Grows : {X : Type 0} → List X → List X → Type 0
Grows {X} us vs = (more : List X) × (vs ≡ us ++ more)

grows_none : {X : Type 0} (us : List X) → Grows us us
grows_none us = ([], sym (append-nil us))

grows_two : {X : Type 0} (us vs ws : List X) → Grows us vs → Grows vs ws → Grows us ws
grows_two {X} us vs ws g h = (g.0 ++ h.0, h.1 ∙ ap (λ (xs : List X). xs ++ h.0) g.1 ∙ append_assoc us g.0 h.0)

event_units : (c : State) (e : Event) → Grows c.units (after c e).units
event_units c (Grant r) = grows_none c.units
event_units c (TakeTurn r) = grows_none c.units
event_units c (GiveTurn r) = grows_none c.units
event_units c (AddClause r kind lits hints a) = grows_none c.units
event_units c (AddUnit r kind l hints) = grows_none c.units
event_units c (AddEmpty r hints) = grows_none c.units
event_units c (Reduce r) = grows_none c.units
event_units c (OpenCell r a) = grows_none c.units
event_units c (Read r a) = grows_none c.units
event_units c (Share r a) = grows_none c.units
event_units c (DropCount r a) = grows_none c.units
event_units c (Bury r a) = grows_none c.units
event_units c (Put r to k l a) = grows_none c.units
event_units c (Get r from k l) = grows_none c.units
event_units c (Publish r l n) = (l ∷ [], refl)
event_units c (See r) = grows_none c.units
event_units c (Stop r kind) = grows_none c.units
event_units c (Draw r) = grows_none c.units

pub run_units : (es : List Event) (c : State) → (more : List Literal) × ((fold after c es).units ≡ c.units ++ more)
run_units [] c = grows_none c.units
run_units (e ∷ es) c = grows_two c.units (after c e).units (fold after c (e ∷ es)).units (event_units c e) (run_units es (after c e))

-- a part with more units seen
seen_put : (c : State) (r i : ℕ) (p : Part) → Grows (c.part r).seen p.seen → Grows (c.part i).seen (put c.part r p i).seen
seen_put c r i p h = at_put c.part r p (λ (q : Part). Grows (c.part i).seen q.seen) i
    (λ e. (h.0, h.1 ∙ ap (λ (k : ℕ). (c.part k).seen ++ h.0) (sym e)))
    (λ ne. grows_none (c.part i).seen)

event_seen : (c : State) (i : ℕ) (e : Event) → Grows (c.part i).seen ((after c e).part i).seen
event_seen c i (Grant r) = seen_put c r i _ (grows_none (c.part r).seen)
event_seen c i (TakeTurn r) = grows_none (c.part i).seen
event_seen c i (GiveTurn r) = grows_none (c.part i).seen
event_seen c i (AddClause r kind lits hints a) = seen_put c r i _ (grows_none (c.part r).seen)
event_seen c i (AddUnit r kind l hints) = seen_put c r i _ (grows_none (c.part r).seen)
event_seen c i (AddEmpty r hints) = seen_put c r i _ (grows_none (c.part r).seen)
event_seen c i (Reduce r) = seen_put c r i _ (grows_none (c.part r).seen)
event_seen c i (OpenCell r a) = seen_put c r i _ (grows_none (c.part r).seen)
event_seen c i (Read r a) = grows_none (c.part i).seen
event_seen c i (Share r a) = seen_put c r i _ (grows_none (c.part r).seen)
event_seen c i (DropCount r a) = seen_put c r i _ (grows_none (c.part r).seen)
event_seen c i (Bury r a) = seen_put c r i _ (grows_none (c.part r).seen)
event_seen c i (Put r to k l a) = seen_put c r i _ (grows_none (c.part r).seen)
event_seen c i (Get r from k l) = seen_put c r i _ (grows_none (c.part r).seen)
event_seen c i (Publish r l n) = seen_put c r i (seen_part l n (c.part r)) (l ∷ [], refl)
event_seen c i (See r) =
    let k : ℕ = length (c.part r).seen in
    seen_put c r i (seen_part (unit_at c.units k) (listed_number c.numbers k) (c.part r)) (unit_at c.units k ∷ [], refl)
event_seen c i (Stop r kind) = grows_none (c.part i).seen
event_seen c i (Draw r) = seen_put c r i _ (grows_none (c.part r).seen)

pub run_seen : (i : ℕ) (es : List Event) (c : State) → (more : List Literal) × (((fold after c es).part i).seen ≡ (c.part i).seen ++ more)
run_seen i [] c = grows_none (c.part i).seen
run_seen i (e ∷ es) c = grows_two (c.part i).seen ((after c e).part i).seen ((fold after c (e ∷ es)).part i).seen (event_seen c i e) (run_seen i es (after c e))

event_numbers : (c : State) (e : Event) → Grows c.numbers (after c e).numbers
event_numbers c (Grant r) = grows_none c.numbers
event_numbers c (TakeTurn r) = grows_none c.numbers
event_numbers c (GiveTurn r) = grows_none c.numbers
event_numbers c (AddClause r kind lits hints a) = grows_none c.numbers
event_numbers c (AddUnit r kind l hints) = grows_none c.numbers
event_numbers c (AddEmpty r hints) = grows_none c.numbers
event_numbers c (Reduce r) = grows_none c.numbers
event_numbers c (OpenCell r a) = grows_none c.numbers
event_numbers c (Read r a) = grows_none c.numbers
event_numbers c (Share r a) = grows_none c.numbers
event_numbers c (DropCount r a) = grows_none c.numbers
event_numbers c (Bury r a) = grows_none c.numbers
event_numbers c (Put r to k l a) = grows_none c.numbers
event_numbers c (Get r from k l) = grows_none c.numbers
event_numbers c (Publish r l n) = (n ∷ [], refl)
event_numbers c (See r) = grows_none c.numbers
event_numbers c (Stop r kind) = grows_none c.numbers
event_numbers c (Draw r) = grows_none c.numbers

pub run_numbers : (es : List Event) (c : State) → (more : List ℕ) × ((fold after c es).numbers ≡ c.numbers ++ more)
run_numbers [] c = grows_none c.numbers
run_numbers (e ∷ es) c = grows_two c.numbers (after c e).numbers (fold after c (e ∷ es)).numbers (event_numbers c e) (run_numbers es (after c e))

-- a part with more numbers seen
number_put : (c : State) (r i : ℕ) (p : Part) → Grows (c.part r).numbers p.numbers → Grows (c.part i).numbers (put c.part r p i).numbers
number_put c r i p h = at_put c.part r p (λ (q : Part). Grows (c.part i).numbers q.numbers) i
    (λ e. (h.0, h.1 ∙ ap (λ (k : ℕ). (c.part k).numbers ++ h.0) (sym e)))
    (λ ne. grows_none (c.part i).numbers)

event_seen_numbers : (c : State) (i : ℕ) (e : Event) → Grows (c.part i).numbers ((after c e).part i).numbers
event_seen_numbers c i (Grant r) = number_put c r i _ (grows_none (c.part r).numbers)
event_seen_numbers c i (TakeTurn r) = grows_none (c.part i).numbers
event_seen_numbers c i (GiveTurn r) = grows_none (c.part i).numbers
event_seen_numbers c i (AddClause r kind lits hints a) = number_put c r i _ (grows_none (c.part r).numbers)
event_seen_numbers c i (AddUnit r kind l hints) = number_put c r i _ (grows_none (c.part r).numbers)
event_seen_numbers c i (AddEmpty r hints) = number_put c r i _ (grows_none (c.part r).numbers)
event_seen_numbers c i (Reduce r) = number_put c r i _ (grows_none (c.part r).numbers)
event_seen_numbers c i (OpenCell r a) = number_put c r i _ (grows_none (c.part r).numbers)
event_seen_numbers c i (Read r a) = grows_none (c.part i).numbers
event_seen_numbers c i (Share r a) = number_put c r i _ (grows_none (c.part r).numbers)
event_seen_numbers c i (DropCount r a) = number_put c r i _ (grows_none (c.part r).numbers)
event_seen_numbers c i (Bury r a) = number_put c r i _ (grows_none (c.part r).numbers)
event_seen_numbers c i (Put r to k l a) = number_put c r i _ (grows_none (c.part r).numbers)
event_seen_numbers c i (Get r from k l) = number_put c r i _ (grows_none (c.part r).numbers)
event_seen_numbers c i (Publish r l n) = number_put c r i (seen_part l n (c.part r)) (n ∷ [], refl)
event_seen_numbers c i (See r) =
    let k : ℕ = length (c.part r).seen in
    number_put c r i (seen_part (unit_at c.units k) (listed_number c.numbers k) (c.part r)) (listed_number c.numbers k ∷ [], refl)
event_seen_numbers c i (Stop r kind) = grows_none (c.part i).numbers
event_seen_numbers c i (Draw r) = number_put c r i _ (grows_none (c.part r).numbers)

pub run_seen_numbers : (i : ℕ) (es : List Event) (c : State) → (more : List ℕ) × (((fold after c es).part i).numbers ≡ (c.part i).numbers ++ more)
run_seen_numbers i [] c = grows_none (c.part i).numbers
run_seen_numbers i (e ∷ es) c = grows_two (c.part i).numbers ((after c e).part i).numbers ((fold after c (e ∷ es)).part i).numbers (event_seen_numbers c i e) (run_seen_numbers i es (after c e))

-- Shares

shared_put : (c : State) (r i : ℕ) (p : Part) → p.shared ≡ (c.part r).shared → (put c.part r p i).shared ≡ (c.part i).shared
shared_put c r i p same = at_put c.part r p (λ (q : Part). q.shared ≡ (c.part i).shared) i (λ e. same ∙ ap (λ (k : ℕ). (c.part k).shared) (sym e)) (λ ne. refl)

abbrev one_share : ℕ → Event → ℕ
one_share i e = one_if (shares i e)

none_shared : (c : State) (r i : ℕ) (p : Part) → p.shared ≡ (c.part r).shared → (put c.part r p i).shared ≡ (c.part i).shared + 0
none_shared c r i p same = let e = shared_put c r i p same in omega arith

event_shared : (c : State) (i : ℕ) (e : Event) → ((after c e).part i).shared ≡ (c.part i).shared + one_share i e
event_shared c i (Grant r) = none_shared c r i _ refl
event_shared c i (TakeTurn r) = omega arith
event_shared c i (GiveTurn r) = omega arith
event_shared c i (AddClause r kind lits hints a) = none_shared c r i _ refl
event_shared c i (AddUnit r kind l hints) = none_shared c r i _ refl
event_shared c i (AddEmpty r hints) = none_shared c r i _ refl
event_shared c i (Reduce r) = none_shared c r i _ refl
event_shared c i (OpenCell r a) = none_shared c r i _ refl
event_shared c i (Read r a) = omega arith
event_shared c i (Share r a) = at_put c.part r (shared_part (clause_at c a) (c.part r)) (λ (q : Part). q.shared ≡ (c.part i).shared + one_share i (Share r a)) i
    (λ e. let u : one_share i (Share r a) ≡ 1 = ap one_if (eq-eqb r i (sym e)) in let k : (c.part r).shared ≡ (c.part i).shared = ap (λ (n : ℕ). (c.part n).shared) (sym e) in omega arith)
    (λ ne. let u : one_share i (Share r a) ≡ 0 = ap one_if (ne_eqb r i (λ q. ne (sym q))) in omega arith)
event_shared c i (DropCount r a) = none_shared c r i _ refl
event_shared c i (Bury r a) = none_shared c r i _ refl
event_shared c i (Put r to k l a) = none_shared c r i _ refl
event_shared c i (Get r from k l) = none_shared c r i _ refl
event_shared c i (Publish r l n) = none_shared c r i _ refl
event_shared c i (See r) = none_shared c r i _ refl
event_shared c i (Stop r kind) = omega arith
event_shared c i (Draw r) = none_shared c r i _ refl

pub run_shared : (i : ℕ) (es : List Event) (c : State) → ((fold after c es).part i).shared ≡ (c.part i).shared + count_by (shares i) es
run_shared i [] c = omega arith
run_shared i (e ∷ es) c = let h = run_shared i es (after c e) in let k = event_shared c i e in let s : count_by (shares i) (e ∷ es) ≡ one_share i e + count_by (shares i) es = sum_by-cons (λ (x : Event). one_if (shares i x)) e es in omega arith
