-- What the rings of the worked row know at each of its steps.
use Rattle.std.proofs.Common.{◌≡◌, ◌∙◌, ℕ, zero, suc, ◌==◌, ◌≤◌, ◌<◌, Bool, true, false, List, [], ◌∷◌, ◌++◌, map, get_or, sym, ap, refl, subst, arith, eq-eqb, cond}
use Rattle.std.specs.Prelude.{slice_index_or, not, ◌&&◌, Option}
use Rattle.std.specs.List.{list_any}
use Rattle.sat_words.specs.Literal.{Literal}
use Rattle.sat_words.specs.Clause.{includes}
use Rattle.atomic_table.specs.declared.shared.Seat.{Seat}
use Rattle.rup_model.specs.Basics.{one_if}
use Rattle.rup_model.specs.declared.journal.Addition.{Addition}
use Rattle.rup_model.specs.declared.journal.Kind.TheVariants.{Learn}
use Rattle.rup_model.specs.declared.journal.Entry.TheVariants.{Add}
use Rattle.rup_model.specs.Journal.{fresh}
use Rattle.rup_model.specs.Opening.{IsLong, start_clauses}
use Rattle.rup_model.specs.Rounds.{Rounds, rounds}
use Rattle.rup_model.specs.Rup.{rup, conflicts}
use Rattle.share_core.specs.declared.part.CoreOpening.{CoreOpening}
use Rattle.share_core.specs.declared.part.Part.{Part}
use Rattle.share_core.specs.declared.part.Placed.{Placed}
use Rattle.share_core.specs.declared.stored.ClauseAt.{ClauseAt}
use Rattle.share_core.specs.State.{opening_of, times_at, blank}
use Rattle.share_core.specs.Events.{granted_part, wrote_part}
use Rattle.share_core.specs.Learning.{follows, after_learn}
use Rattle.share_rule.specs.declared.Shared.{Shared}
use Rattle.share_rule.specs.declared.view.RingPart.{RingPart}
use Rattle.share_rule.specs.declared.view.View.{View}
use Rattle.share_rule.specs.FirstWords.{starts_at}
use Rattle.share_rule.specs.Tickets.{MayDraw}
use Rattle.share_rule.specs.Views.{only, no_part}
use Rattle.test_tables.specs.Samples.{IsRing}
use Rattle.test_units.specs.Doings.{DrewTicket}
use Rattle.test_units.specs.Samples.{IsBeginner, IsLearner, IsPairHolder, WroteLast, plus, three, pair, drawn_part, pair_part}

-- an opening that has the three clauses
abbrev small : CoreOpening → ℕ → CoreOpening
small o from = record o { starts = starts_at from three }

small_is : (o : CoreOpening) (from : ℕ) → o.starts ≡ starts_at from three → o ≡ small o from
small_is o from e = λ i. record o { starts = e i }

pair_follows : (o : CoreOpening) (from r f : ℕ) → follows false (drawn_part (small o from) r true f) pair [] ≡ true
unfolding rup conflicts Rounds rounds
pair_follows o from r f = refl

pair_new : (o : CoreOpening) (from r : ℕ) → fresh (start_clauses (opening_of (small o from))) [] r pair ≡ true
pair_new o from r = refl

unit_follows : (o : CoreOpening) (from r a n i f : ℕ) → follows false (pair_part (small o from) r a n i true f) (plus 2 ∷ []) [] ≡ true
unfolding rup conflicts Rounds rounds
unit_follows o from r a n i f = refl

pub long_pair : IsLong pair
long_pair = record { long = omega arith; distinct = refl; no_opposites = refl }

pair_on : (vars : ℕ) → 2 ≤ vars → (i : ℕ) (k : Literal) → i < 2 → (1 ≤ (get_or pair i k).var) × ((get_or pair i k).var ≤ vars)
pair_on vars few zero k lt = (omega arith, omega arith)
pair_on vars few (suc zero) k lt = (omega arith, few)
pair_on vars few (suc (suc i)) k lt = absurd (omega arith)

unit_on : (vars : ℕ) → 2 ≤ vars → (i : ℕ) (k : Literal) → i < 1 → (1 ≤ (get_or (plus 2 ∷ []) i k).var) × ((get_or (plus 2 ∷ []) i k).var ≤ vars)
unit_on vars few zero k lt = (omega arith, few)
unit_on vars few (suc i) k lt = absurd (omega arith)

core_begun : {B : Type 0} (t : Shared B) (p : Seat (Option B) View) (ring : ℕ) → IsBeginner t p ring → (only p.me.0).core ≡ granted_part p.me.0.opening (blank ring)
core_begun t p ring h = ap (λ (ps : List RingPart). (slice_index_or ps 0 no_part).core) h.parts_are

-- it may draw
pub begun_draws : {B : Type 0} (t : Shared B) (p : Seat (Option B) View) (ring : ℕ) → IsBeginner t p ring → MayDraw p.me.0
begun_draws t p ring h =
    let core = core_begun t p ring h in
    record {
      one = h.is_ring.one;
      none = ap (λ (q : Part). q.ticket) core;
      found = (let none = ap (λ (q : Part). q.found) core in omega arith);
    }

-- a ring that began, and drew a ticket, may learn the pair
pub may_learn_pair : {B : Type 0} (t : Shared B) (p q : Seat (Option B) View) (ring : ℕ) → IsBeginner t p ring → IsRing t q ring → q.me.0.opening ≡ p.me.0.opening → DrewTicket p.me.0 q.me.0 → IsLearner t q ring pair × ((only q.me.0).core.making ≡ [])
may_learn_pair t p q ring h r opening drew =
    let o : CoreOpening = p.me.0.opening in
    let core : (only q.me.0).core ≡ drawn_part o ring true drew.found = drew.core_is ∙ ap (λ (x : Part). record x { ticket = true; found = drew.found }) (core_begun t p ring h) in
    let is : o ≡ small o h.from = small_is o h.from h.starts_are in (
      record {
        is_ring = r;
        plain = ap (λ (w : CoreOpening). w.hinted) opening ∙ h.plain;
        follows_is = ap (λ (x : Part). follows false x pair []) core ∙ ap (λ (w : CoreOpening). follows false (drawn_part w ring true drew.found) pair []) is ∙ pair_follows o h.from ring drew.found;
        ticket_is = ap (λ (x : Part). x.ticket) core;
        new_is = (λ i. fresh (start_clauses (opening_of (opening i))) (map (λ (w : Placed). w.entry) (core i).wrote) ring pair) ∙ ap (λ (w : CoreOpening). fresh (start_clauses (opening_of w)) [] ring pair) is ∙ pair_new o h.from ring;
        on = pair_on t.layout.vars h.vars;
      },
      ap (λ (x : Part). x.making) core,
    )

-- a ring that learned the pair may draw again
pub holder_draws : {B : Type 0} (t : Shared B) (p : Seat (Option B) View) (ring a : ℕ) → IsPairHolder t p ring a false → MayDraw p.me.0
holder_draws t p ring a h = record {
  one = h.is_ring.one;
  none = ap (λ (q : Part). q.ticket) h.core_is;
  found = subst (λ (q : Part). q.found ≤ p.me.0.opening.limit) (sym h.core_is) h.left;
}

pub holder_drew : {B : Type 0} (t : Shared B) (p q : Seat (Option B) View) (ring a : ℕ) → IsPairHolder t p ring a false → IsRing t q ring → q.me.0.opening ≡ p.me.0.opening → DrewTicket p.me.0 q.me.0 → IsPairHolder t q ring a true
holder_drew t p q ring a h r opening drew = record {
  is_ring = r;
  number = h.number;
  place = h.place;
  found = drew.found;
  left = subst (λ (o : CoreOpening). drew.found ≤ o.limit) (sym opening) drew.left;
  core_is = drew.core_is ∙ ap (λ (x : Part). record x { ticket = true; found = drew.found }) h.core_is ∙ (λ j. pair_part (sym opening j) ring a h.number h.place true drew.found);
  from = h.from;
  starts_are = ap (λ (o : CoreOpening). o.starts) opening ∙ h.starts_are;
  plain = ap (λ (o : CoreOpening). o.hinted) opening ∙ h.plain;
  vars = h.vars;
}

-- the new clause is no part of the unit, whoever wrote it
unit_new : (o : CoreOpening) (from r a n i f : ℕ) → fresh (start_clauses (opening_of (small o from))) (map (λ (w : Placed). w.entry) (pair_part (small o from) r a n i true f).wrote) r (plus 2 ∷ []) ≡ true
unit_new o from r a n i f = by (r == r)
  where
    by : (b : Bool) → not (list_any (includes (plus 2 ∷ [])) (start_clauses (opening_of (small o from)) ++ ([] ++ map (λ (x : Addition). x.lits) (cond (b && true) (record { ring = r; number = n; lits = pair; kind = Learn; hints = [] } ∷ []) [])))) ≡ true
    by true = refl
    by false = refl

-- a ring that holds the pair may learn the unit with a ticket, and holds the pair's cell, and nothing waits
pub may_learn_unit : {B : Type 0} (t : Shared B) (p : Seat (Option B) View) (ring a : ℕ) → IsPairHolder t p ring a true → IsLearner t p ring (plus 2 ∷ [])
may_learn_unit t p ring a h =
    let o : CoreOpening = p.me.0.opening in
    let is : o ≡ small o h.from = small_is o h.from h.starts_are in
    record {
      is_ring = h.is_ring;
      plain = h.plain;
      follows_is = ap (λ (q : Part). follows false q (plus 2 ∷ []) []) h.core_is ∙ ap (λ (w : CoreOpening). follows false (pair_part w ring a h.number h.place true h.found) (plus 2 ∷ []) []) is ∙ unit_follows o h.from ring a h.number h.place h.found;
      ticket_is = ap (λ (q : Part). q.ticket) h.core_is;
      new_is = ap (λ (q : Part). fresh (start_clauses (opening_of o)) (map (λ (w : Placed). w.entry) q.wrote) ring (plus 2 ∷ [])) h.core_is ∙ ap (λ (w : CoreOpening). fresh (start_clauses (opening_of w)) (map (λ (x : Placed). x.entry) (pair_part w ring a h.number h.place true h.found).wrote) ring (plus 2 ∷ [])) is ∙ unit_new o h.from ring a h.number h.place h.found;
      on = unit_on t.layout.vars h.vars;
    }

times_last : (hs : List ClauseAt) (h : ClauseAt) → 0 < times_at h.address (hs ++ h ∷ [])
times_last [] h = let z : one_if (h.address == h.address) ≡ 1 = ap one_if (eq-eqb h.address h.address refl) in omega arith
times_last (x ∷ hs) h = let k = times_last hs h in omega arith

pub holds_pair : {B : Type 0} (t : Shared B) (p : Seat (Option B) View) (ring a : ℕ) (ticket : Bool) → IsPairHolder t p ring a ticket → (0 < times_at a (only p.me.0).core.held) × ((only p.me.0).core.waiting ≡ []) × ((only p.me.0).core.seen ≡ [])
holds_pair t p ring a ticket h = (
  subst (λ (q : Part). 0 < times_at a q.held) (sym h.core_is) (times_last ([] ++ p.me.0.opening.starts) (record { address = a; number = h.number; lits = pair })),
  ap (λ (q : Part). q.waiting) h.core_is,
  ap (λ (q : Part). q.seen) h.core_is,
)

-- after the unit's line it is the last, and no unit is seen yet
pub unit_told : (q p : Part) (o : CoreOpening) (ring a n i m j f : ℕ) → p ≡ pair_part o ring a n i true f → q ≡ wrote_part j (Add (record { ring = ring; number = m; lits = plus 2 ∷ []; kind = Learn; hints = [] })) (after_learn Learn p)
    → WroteLast ring (plus 2) m q × (q.seen ≡ [])
unit_told q p o ring a n i m j f had is = (
  (j, p.wrote, ap (λ (x : Part). x.wrote) is),
  ap (λ (x : Part). x.seen) is ∙ ap (λ (x : Part). x.seen) had,
)

pub two_on : (vars : ℕ) → 2 ≤ vars → (i : ℕ) (k : Literal) → i < 1 → (1 ≤ (get_or (plus 2 ∷ []) i k).var) × ((get_or (plus 2 ∷ []) i k).var ≤ vars)
two_on = unit_on
