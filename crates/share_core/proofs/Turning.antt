-- While one ring has the turn.
use Rattle.std.proofs.Common.{◌≡◌, ◌≢◌, ℕ, ◌<◌, ◌≤◌, Bool, true, false, List, [], ◌∷◌, length, fold, Option, Some, None, refl, sym, ap, ◌∙◌, subst, inl, inr}
use Rattle.sat_words.specs.Literal.{Literal}
use Rattle.sat_words.specs.Clause.{has}
use Rattle.rup_model.specs.declared.journal.TheConstants.{LEARNED_PER_REDUCTION}
use Rattle.rup_model.specs.declared.journal.Entry.{Entry}
use Rattle.rup_model.specs.Basics.{put}
use Rattle.rup_model.specs.Journal.{book, ended, recent}
use Rattle.rup_model.proofs.Sums.{at_put}
use Rattle.rup_model.proofs.Sequences.{EachState}
use Rattle.sat_words.specs.declared.shared.TheConstants.{MAX_ENTRIES}
use Rattle.share_core.specs.declared.event.TheConstants.{MAX_SHARES}
use Rattle.share_core.specs.declared.event.Event.{Event}
use Rattle.share_core.specs.declared.event.Event.TheVariants.{Grant, TakeTurn, GiveTurn, AddClause, AddUnit, AddEmpty, Reduce, OpenCell, Read, Share, DropCount, Bury, Put, Get, Publish, See, Stop, Draw}
use Rattle.share_core.specs.declared.stored.Cell.{Cell}
use Rattle.share_core.specs.State.{times_at, CoreOpening, later, Part, State}
use Rattle.share_core.specs.Learning.{follows, MayAddClause, MayAddUnit}
use Rattle.share_core.specs.Enabled.{Writes, IsEnabled}
use Rattle.share_core.specs.Events.{with_count, after}
use Rattle.share_core.specs.Left.{ring_of}
use Rattle.share_core.proofs.Counting.{none_some, some_same}
use Rattle.share_core.proofs.Steps.{event_opening}
use Rattle.share_core.proofs.Others.{event_else, event_grant, Others}

-- what an event of another ring leaves as it was
record Quiet (r : ℕ) (c d : State) : Type 0 where
  journal : d.journal ≡ c.journal
  units : d.units ≡ c.units
  numbers : d.numbers ≡ c.numbers
  turn : d.turn ≡ Some r
  free : (a : ℕ) → c.cell a ≡ None → d.cell a ≡ None

-- nobody else has the turn
not_two : (t : Option ℕ) (r q : ℕ) → t ≡ Some r → t ≡ Some q → q ≡ r
not_two t r q a b = some_same q r (sym b ∙ a)

counted_free : (c : State) (a n b : ℕ) → c.cell b ≡ None → put c.cell a (with_count n (c.cell a)) b ≡ None
counted_free c a n b is = at_put c.cell a (with_count n (c.cell a)) (λ (q : Option Cell). q ≡ None) b
    (λ e. ap (with_count n) (ap c.cell (sym e) ∙ is))
    (λ ne. is)

quiet : (c : State) (r : ℕ) (e : Event) → c.turn ≡ Some r → ring_of e ≢ r → IsEnabled c e → Quiet r c (after c e)
quiet c r (Grant q) t ne h = record { journal = refl; units = refl; numbers = refl; turn = t; free = λ a is. is }
quiet c r (TakeTurn q) t ne h = absurd (none_some r (sym h.1 ∙ t))
quiet c r (GiveTurn q) t ne h = absurd (ne (not_two c.turn r q t h.1))
quiet c r (AddClause q kind lits hints a) t ne h = absurd (ne (not_two c.turn r q t h.1.turn))
quiet c r (AddUnit q kind l hints) t ne h = absurd (ne (not_two c.turn r q t h.1.turn))
quiet c r (AddEmpty q hints) t ne h = absurd (ne (not_two c.turn r q t h.1.turn))
quiet c r (Reduce q) t ne h = absurd (ne (not_two c.turn r q t h.1.turn))
quiet c r (OpenCell q a) t ne h = record { journal = refl; units = refl; numbers = refl; turn = t; free = counted_free c a _ }
quiet c r (Read q a) t ne h = record { journal = refl; units = refl; numbers = refl; turn = t; free = λ b is. is }
quiet c r (Share q a) t ne h = record { journal = refl; units = refl; numbers = refl; turn = t; free = counted_free c a _ }
quiet c r (DropCount q a) t ne h = record { journal = refl; units = refl; numbers = refl; turn = t; free = counted_free c a _ }
quiet c r (Bury q a) t ne h = absurd (ne (not_two c.turn r q t h.1.turn))
quiet c r (Put q to k l a) t ne h = record { journal = refl; units = refl; numbers = refl; turn = t; free = λ b is. is }
quiet c r (Get q from k l) t ne h = record { journal = refl; units = refl; numbers = refl; turn = t; free = λ b is. is }
quiet c r (Publish q l n) t ne h = absurd (ne (not_two c.turn r q t h.1))
quiet c r (See q) t ne h = record { journal = refl; units = refl; numbers = refl; turn = t; free = λ b is. is }
quiet c r (Stop q kind) t ne h = record { journal = refl; units = refl; numbers = refl; turn = t; free = λ b is. is }
quiet c r (Draw q) t ne h = record { journal = refl; units = refl; numbers = refl; turn = t; free = λ b is. is }

-- over lists
pub run_quiet : (r : ℕ) (es : List Event) (c : State) → c.turn ≡ Some r → Others r es → EachState after IsEnabled c es
    → ((fold after c es).journal ≡ c.journal) × ((fold after c es).units ≡ c.units) × ((fold after c es).numbers ≡ c.numbers) × ((fold after c es).turn ≡ Some r)
run_quiet r [] c t others h = (refl, refl, refl, t)
run_quiet r (e ∷ es) c t others h =
    let q = quiet c r e t (others e (inl refl)) h.0 in
    let k = run_quiet r es (after c e) q.turn (λ x i. others x (inr i)) h.1 in
    (k.0 ∙ q.journal, k.1 ∙ q.units, k.2 ∙ q.numbers, k.3)

-- Guards rest on what stays

module _ (c d : State) (opening : d.opening ≡ c.opening) (journal : d.journal ≡ c.journal) (units : d.units ≡ c.units) (turn : d.turn ≡ c.turn) (q : ℕ) (part : d.part q ≡ c.part q) where
  still_ring : (r : ℕ) → r < c.opening.rings → r < d.opening.rings
  still_ring r h = subst (λ (o : CoreOpening). r < o.rings) (sym opening) h

  still_ended : (b : Bool) → ended c.opening.formula c.journal ≡ b → ended d.opening.formula d.journal ≡ b
  still_ended b h = (λ j. ended (opening j).formula (journal j)) ∙ h

  still_writes : Writes c q → Writes d q
  still_writes h = record {
    turn = turn ∙ h.turn;
    going = still_ended false h.going;
    room = subst (λ (J : List Entry). length J < MAX_ENTRIES) (sym journal) h.room;
  }

  -- what the ring has
  of_part : (P : Part → Type 0) → P (c.part q) → P (d.part q)
  of_part P h = subst P (sym part) h

  -- what is said of opening, journal and part
  of_three : (P : CoreOpening → List Entry → Part → Type 0) → P c.opening c.journal (c.part q) → P d.opening d.journal (d.part q)
  of_three P h = of_part (P d.opening d.journal) (subst (λ (J : List Entry). P d.opening J (c.part q)) (sym journal) (subst (λ (o : CoreOpening). P o c.journal (c.part q)) (sym opening) h))

  still_held : (a : ℕ) → 0 < times_at a (c.part q).held → 0 < times_at a (d.part q).held
  still_held a h = of_part (λ (p : Part). 0 < times_at a p.held) h

  still_follows : (lits : List Literal) (hints : List ℕ) → follows c.opening.hinted (c.part q) lits hints ≡ true → follows d.opening.hinted (d.part q) lits hints ≡ true
  still_follows lits hints h = of_three (λ (o : CoreOpening) (K : List Entry) (p : Part). follows o.hinted p lits hints ≡ true) h

  still_units : (P : List Literal → List Literal → Type 0) → P (c.part q).seen c.units → P (d.part q).seen d.units
  still_units P h = of_part (λ (p : Part). P p.seen d.units) (subst (P (c.part q).seen) (sym units) h)

stays : (c d : State) (e : Event) → d.opening ≡ c.opening → d.journal ≡ c.journal → d.units ≡ c.units → d.turn ≡ c.turn → d.part (ring_of e) ≡ c.part (ring_of e) → d.granted (ring_of e) ≡ c.granted (ring_of e)
    → ((a : ℕ) → c.cell a ≡ None → d.cell a ≡ None) → IsEnabled c e → IsEnabled d e
stays c d (Grant r) o J u t p g f h = (still_ring c d o J u t r p r h.0, g ∙ h.1)
stays c d (TakeTurn r) o J u t p g f h = (still_ring c d o J u t r p r h.0, t ∙ h.1)
stays c d (GiveTurn r) o J u t p g f h = (still_ring c d o J u t r p r h.0, t ∙ h.1)
stays c d (AddClause r kind lits hints a) o J u t p g f h = (
  still_ring c d o J u t r p r h.0,
  still_writes c d o J u t r p h.1,
  of_three c d o J u t r p (λ (w : CoreOpening) (K : List Entry) (x : Part). MayAddClause w K x r kind lits) h.2,
  h.3,
  f a h.4,
  h.5,
  still_follows c d o J u t r p lits hints h.6,
)
stays c d (AddUnit r kind l hints) o J u t p g f h = (
  still_ring c d o J u t r p r h.0,
  still_writes c d o J u t r p h.1,
  of_three c d o J u t r p (λ (w : CoreOpening) (K : List Entry) (x : Part). MayAddUnit w K x r kind (l ∷ [])) h.2,
  still_follows c d o J u t r p (l ∷ []) hints h.3,
)
stays c d (AddEmpty r hints) o J u t p g f h = (still_ring c d o J u t r p r h.0, still_writes c d o J u t r p h.1, still_follows c d o J u t r p [] hints h.2)
stays c d (Reduce r) o J u t p g f h = (still_ring c d o J u t r p r h.0, still_writes c d o J u t r p h.1, of_three c d o J u t r p (λ (w : CoreOpening) (K : List Entry) (x : Part). LEARNED_PER_REDUCTION ≤ length (recent r (later w K))) h.2)
stays c d (OpenCell r a) o J u t p g f h = (still_ring c d o J u t r p r h.0, of_part c d o J u t r p (λ (x : Part). 0 < times_at a x.making) h.1)
stays c d (Read r a) o J u t p g f h = (still_ring c d o J u t r p r h.0, still_held c d o J u t r p a h.1)
stays c d (Share r a) o J u t p g f h = (still_ring c d o J u t r p r h.0, still_held c d o J u t r p a h.1, of_part c d o J u t r p (λ (x : Part). x.shared < MAX_SHARES) h.2)
stays c d (DropCount r a) o J u t p g f h = (still_ring c d o J u t r p r h.0, still_held c d o J u t r p a h.1)
stays c d (Bury r a) o J u t p g f h = (still_ring c d o J u t r p r h.0, still_writes c d o J u t r p h.1, of_part c d o J u t r p (λ (x : Part). 0 < times_at a x.waiting) h.2)
stays c d (Put r to k l a) o J u t p g f h = (still_ring c d o J u t r p r h.0, still_ring c d o J u t r p to h.1, h.2, h.3, subst (λ (w : CoreOpening). l < w.depth) (sym o) h.4, still_held c d o J u t r p a h.5)
stays c d (Get r from k l) o J u t p g f h = (still_ring c d o J u t r p r h.0, still_ring c d o J u t r p from h.1, h.2, h.3, subst (λ (w : CoreOpening). l < w.depth) (sym o) h.4)
stays c d (Publish r l n) o J u t p g f h = (
  still_ring c d o J u t r p r h.0,
  t ∙ h.1,
  (λ j. (book (o j).formula (J j)).clause n) ∙ h.2,
  still_units c d o J u t r p (λ (s us : List Literal). length s ≡ length us) h.3,
  (λ j. has (u j) l) ∙ h.4,
)
stays c d (See r) o J u t p g f h = (still_ring c d o J u t r p r h.0, still_units c d o J u t r p (λ (s us : List Literal). length s < length us) h.1)
stays c d (Stop r kind) o J u t p g f h = (still_ring c d o J u t r p r h.0, h.1, h.2, λ k. still_ended c d o J u t r p true (h.3 k))
stays c d (Draw r) o J u t p g f h = (still_ring c d o J u t r p r h.0, of_part c d o J u t r p (λ (x : Part). x.ticket ≡ false) h.1, still_limit h.2)
  where
    still_limit : (c.part r).found ≤ c.opening.limit → (d.part r).found ≤ d.opening.limit
    still_limit k = subst (λ (w : CoreOpening). (d.part r).found ≤ w.limit) (sym o) (of_part c d o J u t r p (λ (x : Part). x.found ≤ c.opening.limit) k)

pub run_stays : (e : Event) (es : List Event) (c : State) → c.turn ≡ Some (ring_of e) → Others (ring_of e) es → EachState after IsEnabled c es → IsEnabled c e → IsEnabled (fold after c es) e
run_stays e [] c t others h enabled = enabled
run_stays e (x ∷ es) c t others h enabled =
    let ne = others x (inl refl) in
    let q = quiet c (ring_of e) x t ne h.0 in
    run_stays e es (after c x) q.turn (λ y i. others y (inr i)) h.1
    (stays c (after c x) e (event_opening c x) q.journal q.units (q.turn ∙ sym t) (event_else c (ring_of e) x ne) (event_grant c (ring_of e) x ne) q.free enabled)
