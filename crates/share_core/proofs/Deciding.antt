-- An event is enabled exactly if its test says so.
use Rattle.std.proofs.Common.{◌≡◌, ◌≢◌, ℕ, ◌+◌, ◌<◌, ◌≤◌, ◌==◌, ltb, leb, Bool, true, false, not, ◌&&◌, ◌||◌, List, [], ◌∷◌, length, Option, Some, None, refl, sym, ap, ◌∙◌, ⊎_elim, arith, eq-eqb, ne_eqb, eqb-true, true≢false, ltb-true, lt-ltb}
use Rattle.std.specs.Option.{is_none}
use Rattle.std.proofs.lemmas.Bool.{and_parts, and_from, or_left, or_right, or_cases}
use mathlib.Core.Logic.{dite}
use native.Mathlib.Decide.{ℕ_discrete}
use Rattle.sat_words.specs.Literal.{Literal, same}
use Rattle.sat_words.specs.Clause.{has, distinct_lits, has_opposites}
use Rattle.rup_model.specs.declared.journal.TheConstants.{LEARNED_PER_REDUCTION}
use Rattle.rup_model.specs.declared.journal.Kind.{Kind}
use Rattle.rup_model.specs.declared.journal.Kind.TheVariants.{Ruler, Learn, Derive, UnitLine}
use Rattle.rup_model.specs.Basics.{one_if}
use Rattle.sat_words.proofs.Members.{same-true, same-refl}
use Rattle.rup_model.specs.Journal.{book, ended, is_ring, recent}
use Rattle.rup_model.specs.Opening.{IsLong}
use Rattle.sat_words.specs.declared.shared.TheConstants.{MAX_ENTRIES}
use Rattle.share_core.specs.declared.event.TheConstants.{MAX_SHARES}
use Rattle.share_core.specs.declared.event.Event.{Event}
use Rattle.share_core.specs.declared.event.Event.TheVariants.{Grant, TakeTurn, GiveTurn, AddClause, AddUnit, AddEmpty, Reduce, OpenCell, Read, Share, DropCount, Bury, Put, Get, Publish, See, Stop, Draw}
use Rattle.share_core.specs.declared.stored.ClauseAt.{ClauseAt}
use Rattle.share_core.specs.State.{times_at, later, State}
use Rattle.share_core.specs.Learning.{MayAddClause, MayAddUnit}
use Rattle.share_core.specs.Enabled.{Writes, IsEnabled}
use Rattle.share_core.specs.Machine.{has_at}
use Rattle.share_core.specs.Guards.{is_long, is_unit, writes, may_add, may_tell, is_enabled}

-- a fact and its test
record Tests (b : Bool) (P : Type 0) : Type 0 where
  yes : b ≡ true → P
  back : P → b ≡ true

both : (a b : Bool) (P Q : Type 0) → Tests a P → Tests b Q → Tests (a && b) (P × Q)
both a b P Q s t = record { yes = λ h. let p = and_parts a b h in (s.yes p.0, t.yes p.1); back = λ h. and_from _ _ (s.back h.0) (t.back h.1) }

other : (a : Bool) (P Q : Type 0) → Tests a P → (P → Q) → (Q → P) → Tests a Q
other a P Q s f g = record { yes = λ h. f (s.yes h); back = λ q. s.back (g q) }

itself : (b : Bool) → Tests b (b ≡ true)
itself b = record { yes = λ h. h; back = λ h. h }

never : (P : Type 0) → (P → ⊥) → Tests false P
never P f = record { yes = λ h. absurd (true≢false (sym h)); back = λ p. absurd (f p) }

negated : (b : Bool) → Tests (not b) (b ≡ false)
negated true = record { yes = λ h. absurd (true≢false (sym h)); back = λ h. absurd (true≢false h) }
negated false = record { yes = λ h. refl; back = λ h. refl }

below : (m n : ℕ) → Tests (ltb m n) (m < n)
below m n = record { yes = λ h. ltb-true m n h; back = λ h. lt-ltb m n h }

at_most : (m n : ℕ) → Tests (leb m n) (m ≤ n)
at_most m n = record { yes = λ h. grind (arith, h); back = λ h. grind (arith, h) }

equal : (m n : ℕ) → Tests (m == n) (m ≡ n)
equal m n = record { yes = λ h. eqb-true m n h; back = λ h. eq-eqb m n h }

differ : (m n : ℕ) → Tests (not (m == n)) (m ≢ n)
differ m n = record {
  yes = λ h e. true≢false (sym h ∙ ap not (eq-eqb m n e));
  back = λ ne. ap not (ne_eqb m n ne);
}

stands : (a : ℕ) (hs : List ClauseAt) → Tests (has_at a hs) (0 < times_at a hs)
stands a [] = never (0 < times_at a []) (λ h. omega arith)
stands a (h ∷ hs) = by (h.address == a) (stands a hs)
  where
    by : (b : Bool) → Tests (has_at a hs) (0 < times_at a hs) → Tests (b || has_at a hs) (0 < one_if b + times_at a hs)
    by true t = record { yes = λ _. omega arith; back = λ _. refl }
    by false t = record { yes = λ q. (let k = t.yes q in omega arith); back = λ q. t.back (omega arith) }

empty : {X : Type 0} (q : Option X) → Tests (is_none q) (q ≡ None)
empty None = record { yes = λ _. refl; back = λ _. refl }
empty (Some x) = never (Some x ≡ None) (λ e. cc)

turn_of : (r : ℕ) (q : Option ℕ) → Tests (is_ring r q) (q ≡ Some r)
turn_of r None = never (None ≡ Some r) (λ e. cc)
turn_of r (Some t) = record {
  yes = λ h. ap (λ (k : ℕ). Some k) (eqb-true t r h);
  back = λ e. eq-eqb t r (cc);
}

long : (c : List Literal) → Tests (is_long c) (IsLong c)
long c = other (is_long c) ((2 ≤ length c) × ((distinct_lits c ≡ true) × (has_opposites c ≡ false))) (IsLong c)
    (both (leb 2 (length c)) (distinct_lits c && not (has_opposites c)) (2 ≤ length c) ((distinct_lits c ≡ true) × (has_opposites c ≡ false)) (at_most 2 (length c))
    (both (distinct_lits c) (not (has_opposites c)) (distinct_lits c ≡ true) (has_opposites c ≡ false) (itself (distinct_lits c)) (negated (has_opposites c))))
    (λ h. record { long = h.0; distinct = h.1.0; no_opposites = h.1.1 })
    (λ h. (h.long, (h.distinct, h.no_opposites)))

writing : (c : State) (r : ℕ) → Tests (writes c r) ((r < c.opening.rings) × Writes c r)
writing c r =
    let e = ended c.opening.formula c.journal in
    other (writes c r) ((r < c.opening.rings) × ((c.turn ≡ Some r) × ((e ≡ false) × (length c.journal < MAX_ENTRIES)))) ((r < c.opening.rings) × Writes c r)
    (both _ _ _ _ (below r c.opening.rings) (both _ _ _ _ (turn_of r c.turn) (both _ _ _ _ (negated e) (below (length c.journal) MAX_ENTRIES))))
    (λ h. (h.0, record { turn = h.1.0; going = h.1.1.0; room = h.1.1.1 }))
    (λ h. (h.0, (h.1.turn, (h.1.going, h.1.room))))

adding : (c : State) (r : ℕ) (kind : Kind) (lits : List Literal) → Tests (may_add c r kind lits) (MayAddClause c.opening c.journal (c.part r) r kind lits)
adding c r Ruler lits = never ⊥ (λ h. h)
adding c r Learn lits = itself _
adding c r Derive lits = itself _
adding c r UnitLine lits = never ⊥ (λ h. h)

telling : (c : State) (r : ℕ) (kind : Kind) (lits : List Literal) → Tests (may_tell c r kind lits) (MayAddUnit c.opening c.journal (c.part r) r kind lits)
telling c r Ruler lits = never ⊥ (λ h. h)
telling c r Learn lits = itself _
telling c r Derive lits = never ⊥ (λ h. h)
telling c r UnitLine lits = record { yes = λ _. tt; back = λ _. refl }

lone : (l : Literal) (q : Option (List Literal)) → Tests (is_unit l q) (q ≡ Some (l ∷ []))
lone l None = never (None ≡ Some (l ∷ [])) (λ e. cc)
lone l (Some []) = never (Some [] ≡ Some (l ∷ [])) (λ e. cc)
lone l (Some (k ∷ [])) = record {
  yes = λ h. ap (λ (m : Literal). Some (m ∷ [])) (sym (same-true l k h));
  back = λ e. let q : k ≡ l = cc in ap (same l) q ∙ same-refl l;
}
lone l (Some (k ∷ m ∷ c)) = never (Some (k ∷ m ∷ c) ≡ Some (l ∷ [])) (λ e. cc)

implied : (k : ℕ) (b : Bool) → Tests (not (k == 2) || b) (k ≡ 2 → b ≡ true)
implied k b = record {
  yes = λ h e. ⊎_elim (λ (n : not (k == 2) ≡ true). absurd (true≢false (sym n ∙ ap not (eq-eqb k 2 e)))) (λ (t : b ≡ true). t) (or_cases (not (k == 2)) b h);
  back = λ f. dite (ℕ_discrete k 2) (λ e. or_right _ _ (f e)) (λ n. or_left _ _ (ap not (ne_eqb k 2 n)));
}

-- of every event
decides : (c : State) (e : Event) → Tests (is_enabled c e) (IsEnabled c e)
decides c (Grant r) = both _ _ _ _ (below r c.opening.rings) (negated (c.granted r))
decides c (TakeTurn r) = both _ _ _ _ (below r c.opening.rings) (empty c.turn)
decides c (GiveTurn r) = both _ _ _ _ (below r c.opening.rings) (turn_of r c.turn)
decides c (AddClause r kind lits hints a) = other _ _ _
    (both _ _ _ _ (writing c r) (both _ _ _ _ (adding c r kind lits) (both _ _ _ _ (long lits) (both _ _ _ _ (empty (c.cell a)) (both _ _ _ _ (differ a 0) (itself _))))))
    (λ h. (h.0.0, h.0.1, h.1.0, h.1.1.0, h.1.1.1.0, h.1.1.1.1.0, h.1.1.1.1.1))
    (λ h. ((h.0, h.1), (h.2, (h.3, (h.4, (h.5, h.6))))))
decides c (AddUnit r kind lit hints) = other _ _ _ (both _ _ _ _ (writing c r) (both _ _ _ _ (telling c r kind (lit ∷ [])) (itself _))) (λ h. (h.0.0, h.0.1, h.1.0, h.1.1)) (λ h. ((h.0, h.1), (h.2, h.3)))
decides c (AddEmpty r hints) = other _ _ _ (both _ _ _ _ (writing c r) (itself _)) (λ h. (h.0.0, h.0.1, h.1)) (λ h. ((h.0, h.1), h.2))
decides c (Reduce r) = other _ _ _ (both _ _ _ _ (writing c r) (at_most LEARNED_PER_REDUCTION (length (recent r (later c.opening c.journal))))) (λ h. (h.0.0, h.0.1, h.1)) (λ h. ((h.0, h.1), h.2))
decides c (OpenCell r a) = both _ _ _ _ (below r c.opening.rings) (stands a (c.part r).making)
decides c (Read r a) = both _ _ _ _ (below r c.opening.rings) (stands a (c.part r).held)
decides c (Share r a) = other _ _ _ (both _ _ _ _ (both _ _ _ _ (below r c.opening.rings) (stands a (c.part r).held)) (below (c.part r).shared MAX_SHARES)) (λ h. (h.0.0, h.0.1, h.1)) (λ h. ((h.0, h.1), h.2))
decides c (DropCount r a) = both _ _ _ _ (below r c.opening.rings) (stands a (c.part r).held)
decides c (Bury r a) = other _ _ _ (both _ _ _ _ (writing c r) (stands a (c.part r).waiting)) (λ h. (h.0.0, h.0.1, h.1)) (λ h. ((h.0, h.1), h.2))
decides c (Put r to k l a) = other _ _ _
    (both _ _ _ _ (both _ _ _ _ (below r c.opening.rings) (both _ _ _ _ (below to c.opening.rings) (both _ _ _ _ (differ to r) (both _ _ _ _ (below k 4) (below l c.opening.depth))))) (stands a (c.part r).held))
    (λ h. (h.0.0, h.0.1.0, h.0.1.1.0, h.0.1.1.1.0, h.0.1.1.1.1, h.1)) (λ h. ((h.0, (h.1, (h.2, (h.3, h.4)))), h.5))
decides c (Get r from k l) = other _ _ _
    (both _ _ _ _ (below r c.opening.rings) (both _ _ _ _ (below from c.opening.rings) (both _ _ _ _ (differ from r) (both _ _ _ _ (below k 4) (below l c.opening.depth)))))
    (λ h. (h.0, h.1.0, h.1.1.0, h.1.1.1.0, h.1.1.1.1)) (λ h. (h.0, (h.1, (h.2, (h.3, h.4)))))
decides c (Publish r lit n) = other _ _ _
    (both _ _ _ _ (below r c.opening.rings) (both _ _ _ _ (turn_of r c.turn)
    (both _ _ _ _ (equal (length (c.part r).seen) (length c.units)) (both _ _ _ _ (negated (has c.units lit)) (lone lit ((book c.opening.formula c.journal).clause n))))))
    (λ h. (h.0, h.1.0, h.1.1.1.1, h.1.1.0, h.1.1.1.0)) (λ h. (h.0, (h.1, (h.3, (h.4, h.2)))))
decides c (See r) = both _ _ _ _ (below r c.opening.rings) (below (length (c.part r).seen) (length c.units))
decides c (Stop r kind) = other _ _ _
    (both _ _ _ _ (below r c.opening.rings) (both _ _ _ _ (at_most 1 kind) (both _ _ _ _ (at_most kind 5) (implied kind (ended c.opening.formula c.journal)))))
    (λ h. (h.0, h.1.0, h.1.1.0, h.1.1.1)) (λ h. (h.0, (h.1, (h.2, h.3))))
decides c (Draw r) = other _ _ _ (both _ _ _ _ (below r c.opening.rings) (both _ _ _ _ (negated (c.part r).ticket) (at_most (c.part r).found c.opening.limit))) (λ h. (h.0, h.1.0, h.1.1)) (λ h. (h.0, (h.1, h.2)))

pub enabled_from : (c : State) (e : Event) → is_enabled c e ≡ true → IsEnabled c e
enabled_from c e h = (decides c e).yes h

pub enabled_to : (c : State) (e : Event) → is_enabled c e ≡ false → IsEnabled c e → ⊥
enabled_to c e h p = true≢false (sym ((decides c e).back p) ∙ h)

pub long_from : (c : List Literal) → is_long c ≡ true → IsLong c
long_from c h = (long c).yes h

pub long_back : (c : List Literal) → IsLong c → is_long c ≡ true
long_back c h = (long c).back h

pub unit_from : (l : Literal) (q : Option (List Literal)) → is_unit l q ≡ true → q ≡ Some (l ∷ [])
unit_from l q h = (lone l q).yes h

pub unit_back : (l : Literal) (q : Option (List Literal)) → q ≡ Some (l ∷ []) → is_unit l q ≡ true
unit_back l q h = (lone l q).back h
