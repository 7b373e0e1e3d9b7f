-- A ring with its pass is a port.
use Rattle.std.proofs.Common.{◌^◌, ◌≡◌, ◌≢◌, ℕ, zero, suc, ◌<◌, ◌≤◌, Bool, true, false, not, ◌&&◌, if◌then◌else◌, List, [], ◌∷◌, ◌++◌, map, length, take, refl, sym, ap, subst, ◌∙◌, arith, Some, None, IfSome, IsSome, Option, ◌==◌, eq-eqb, ne_eqb}
use Rattle.std.specs.List.{All, Contains, find, slice_get, zip}
use Rattle.std.specs.Option.{option_map, option_map_or, is_none}
use Rattle.std.proofs.lemmas.Bool.{false≢true}
use mathlib.Core.Logic.{dite}
use native.Mathlib.Decide.{ℕ_discrete}
use lib.ListN.{get_elem?}
use Rattle.sat_words.specs.Literal.{Literal}
use Rattle.sat_words.specs.Clause.{has}
use Rattle.sat_words.specs.declared.shared.Cref.{Cref}
use Rattle.sat_words.specs.declared.shared.Head.{Head}
use Rattle.rup_model.specs.Basics.{one_if}
use Rattle.rup_model.specs.Hints.{numbered}
use Rattle.rup_model.specs.Opening.{IsLong, IsStart}
use Rattle.rup_model.specs.Journal.{book}
use Rattle.rup_model.proofs.Lists.{In, Contains_In, map_In, In_map, In_append_left, In_append_right, In_Contains}
use Rattle.rup_model.proofs.ProgramOpening.{All_from_In}
use Rattle.rup_model.proofs.Sums.{below_at}
use Rattle.atomic_table.specs.declared.shared.Seat.{Seat}
use Rattle.share_core.specs.declared.event.Stop.{Stop as CoreStop}
use Rattle.share_core.specs.declared.stored.ClauseAt.{ClauseAt}
use Rattle.share_core.specs.declared.stored.Cell.{Cell}
use Rattle.share_core.specs.declared.part.Part.{Part}
use Rattle.share_core.specs.declared.part.CoreOpening.{CoreOpening}
use Rattle.share_core.specs.State.{IsCoreOpening, State, opened, opening_of, times_at, count_at}
use Rattle.share_core.specs.Learning.{known as core_known}
use Rattle.share_core.specs.Sound.{Sound, IsCopy, counted, reach, idle_at}
use Rattle.share_core.proofs.ClauseLists.{all_in, at_in}
use Rattle.share_core.proofs.Counting.{some_same, none_some, waiting_cell}
use Rattle.share_core.proofs.Frames.{known_named}
use Rattle.share_core.proofs.Leaving.{left_sound}
use Rattle.share_core.proofs.Others.{run_units}
use Rattle.share_rule.specs.declared.Shared.{Shared}
use Rattle.share_rule.specs.declared.view.GlueAt.{GlueAt}
use Rattle.share_rule.specs.declared.view.RingPart.{RingPart}
use Rattle.share_rule.specs.declared.view.View.{View}
use Rattle.share_rule.specs.Layout.{InVars}
use Rattle.share_rule.specs.Views.{only, glue_in, start_glues, clause_in, clause_of, lit_in}
use Rattle.share_rule.specs.Passes.{IsPassOf}
use Rattle.share_rule.specs.Seen.{Seen, IsPart}
use Rattle.ring_port.specs.PortState.{Holding, IsPort, IsKept, IsOn, IsStop, AreApart, AreNumbered, held_at, known_at, lits_at, head_of}
use Rattle.ring_pass.specs.RingState.{home_of, Own, kept, holding_of, stop_as, without_kept, port_of, IsOwn}
use Rattle.ring_pass.proofs.NumbersHere.{numbered_found, zip_In}
use Rattle.ring_pass.proofs.Units.{filter_In, take_In, front_left}

-- Held clauses

-- a clause that is held is found as the pass has it
found_at : (gs : List GlueAt) (hs : List ClauseAt) (a : ℕ) → IsSome (find (λ h. h.address == a) (map (holding_of gs) hs))
    → (0 < times_at a hs) × (find (λ h. h.address == a) (map (holding_of gs) hs) ≡ Some (holding_of gs (clause_in a hs)))
found_at gs [] a h = absurd (false≢true h)
found_at gs (x ∷ hs) a h = dite (ℕ_discrete x.address a)
    (λ e. (
      let o : one_if (x.address == a) ≡ 1 = ap one_if (eq-eqb x.address a e) in omega arith,
      (λ i. if eq-eqb x.address a e i then Some (holding_of gs x) else find (λ k. k.address == a) (map (holding_of gs) hs)) ∙ (λ i. Some (holding_of gs (if sym (eq-eqb x.address a e) i then x else clause_in a hs))),
    ))
    (λ ne.
    let here : find (λ k. k.address == a) (map (holding_of gs) (x ∷ hs)) ≡ find (λ k. k.address == a) (map (holding_of gs) hs) = (λ i. if ne_eqb x.address a ne i then Some (holding_of gs x) else find (λ k. k.address == a) (map (holding_of gs) hs)) in
    let t = found_at gs hs a (subst (λ (o : Option Holding). IsSome o) here h) in
    let q = t.0 in
    (omega arith, here ∙ t.1 ∙ (λ i. Some (holding_of gs (if sym (ne_eqb x.address a ne) i then x else clause_in a hs)))))

-- if an address is held, a clause is found there
some_at : (gs : List GlueAt) (hs : List ClauseAt) (a : ℕ) → 0 < times_at a hs → IsSome (find (λ h. h.address == a) (map (holding_of gs) hs))
some_at gs [] a h = absurd (omega arith)
some_at gs (x ∷ hs) a h = dite (ℕ_discrete x.address a)
    (λ e. subst (λ (b : Bool). IsSome (if b then Some (holding_of gs x) else find (λ k. k.address == a) (map (holding_of gs) hs))) (sym (eq-eqb x.address a e)) refl)
    (λ ne. let z : one_if (x.address == a) ≡ 0 = ap one_if (ne_eqb x.address a ne) in
    subst (λ (b : Bool). IsSome (if b then Some (holding_of gs x) else find (λ k. k.address == a) (map (holding_of gs) hs))) (sym (ne_eqb x.address a ne)) (some_at gs hs a (omega arith)))

-- and none if it is not
none_at : (gs : List GlueAt) (hs : List ClauseAt) (a : ℕ) → times_at a hs ≡ 0 → find (λ h. h.address == a) (map (holding_of gs) hs) ≡ None
none_at gs [] a h = refl
none_at gs (x ∷ hs) a h = dite (ℕ_discrete x.address a)
    (λ e. let o : one_if (x.address == a) ≡ 1 = ap one_if (eq-eqb x.address a e) in absurd (omega arith))
    (λ ne. (λ i. if ne_eqb x.address a ne i then Some (holding_of gs x) else find (λ k. k.address == a) (map (holding_of gs) hs)) ∙ none_at gs hs a (let z : one_if (x.address == a) ≡ 0 = ap one_if (ne_eqb x.address a ne) in omega arith))

-- so is what the port holds
pub held_here : (v : View) (o : Own) (a : ℕ) → IsSome (held_at (port_of v o) a) → (0 < times_at a (only v).core.held) × (held_at (port_of v o) a ≡ Some (holding_of (only v).glues (clause_of a v)))
unfolding held_at
held_here v o a h = found_at (only v).glues (only v).core.held a h

pub there_here : (v : View) (o : Own) (a : ℕ) → 0 < times_at a (only v).core.held → IsSome (held_at (port_of v o) a)
unfolding held_at
there_here v o a h = some_at (only v).glues (only v).core.held a h

pub nothing_here : (v : View) (o : Own) (a : ℕ) → times_at a (only v).core.held ≡ 0 → held_at (port_of v o) a ≡ None
unfolding held_at
nothing_here v o a h = none_at (only v).glues (only v).core.held a h

-- what hints may name is what the ring knows
known_same : (gs : List GlueAt) (hs : List ClauseAt) → map {B = ℕ × List Literal} (λ (h : Holding). (h.number, h.lits)) (map (holding_of gs) hs) ≡ map {B = ℕ × List Literal} (λ (h : ClauseAt). (h.number, h.lits)) hs
known_same gs [] = refl
known_same gs (h ∷ hs) = ap (λ (cs : List (ℕ × List Literal)). (h.number, h.lits) ∷ cs) (known_same gs hs)

pub known_is : (v : View) (o : Own) → known_at (port_of v o) ≡ core_known (only v).core
known_is v o = ap (λ (cs : List (ℕ × List Literal)). cs ++ map {B = ℕ × List Literal} (λ (u : Literal × ℕ). (u.1, u.0 ∷ [])) (zip (only v).core.seen (only v).core.numbers)) (known_same (only v).glues (only v).core.held)

-- clauses of which no address stands twice
apart_of : (gs : List GlueAt) (hs : List ClauseAt) → ((a : ℕ) → times_at a hs ≤ 1) → AreApart (map (holding_of gs) hs)
apart_of gs [] h = tt
apart_of gs (x ∷ hs) h = (
  All_from_In (λ (k : Holding). k.address ≢ x.address) (map (holding_of gs) hs) (λ k i e.
      let t = map_In (holding_of gs) hs k i in
      let here = subst (λ (b : ℕ). 0 < times_at b hs) (ap (λ (y : Holding). y.address) t.2 ∙ e) (at_in hs t.0 t.1) in
      let o : one_if (x.address == x.address) ≡ 1 = ap one_if (eq-eqb x.address x.address refl) in
      let few = h x.address in
      absurd (omega arith)),
  apart_of gs hs (λ a. let few = h a in omega arith),
)

idle_few : (q : Option Cell) → idle_at q ≤ 1
idle_few None = omega arith
idle_few (Some x) = by (is_none x.maker && (x.count == 0))
  where
    by : (b : Bool) → one_if b ≤ 1
    by true = omega arith
    by false = omega arith

module _ (v : View) (s : Seen v) (one : v.parts ≡ only v ∷ []) where
  sound_of : Sound s.core
  sound_of = left_sound s.core.opening s.core s.left

  pub part_of : IsPart v.layout s.core s.glue (only v)
  part_of = s.parts 0 (only v) (ap (λ (ps : List RingPart). get_elem? ps 0) one)

  on_of : (lits : List Literal) → InVars v.layout lits → All (IsOn v.layout.vars) lits
  on_of lits h = All_from_In (IsOn v.layout.vars) lits (λ l i. let t = all_in (λ (k : Literal). (1 ≤ k.var) × (k.var ≤ v.layout.vars)) lits l i h in record { low = t.0; high = t.1 })

  -- what is held or waits is a copy of a cell
  pub copy_of : (h : ClauseAt) → In h (only v).core.held → IsCopy s.core.cell h
  copy_of h i = all_in (IsCopy s.core.cell) (s.core.part (only v).core.ring).held h (subst (λ (q : Part). In h q.held) part_of.part i) (sound_of.copies.held (only v).core.ring part_of.ring)

  pub waiting_copy : (h : ClauseAt) → In h (only v).core.waiting → IsCopy s.core.cell h
  waiting_copy h i = all_in (IsCopy s.core.cell) (s.core.part (only v).core.ring).waiting h (subst (λ (q : Part). In h q.waiting) part_of.part i) (sound_of.copies.waiting (only v).core.ring part_of.ring)

  pub kept_of : (gs : List GlueAt) (h : ClauseAt) → IsCopy s.core.cell h → IsKept v.layout.vars (holding_of gs h)
  kept_of gs h c = record {
    shape = subst IsLong c.3 (sound_of.cells.shape h.address c.0 c.1);
    on = on_of h.lits (subst (InVars v.layout) c.3 (s.standing.vars h.address c.0 c.1));
  }

  -- copies at one address are one clause
  pub one_of : (h k : ClauseAt) → IsCopy s.core.cell h → IsCopy s.core.cell k → h.address ≡ k.address → h ≡ k
  one_of h k c d e =
      let x : c.0 ≡ d.0 = some_same c.0 d.0 (sym c.1 ∙ ap s.core.cell e ∙ d.1) in
      let number : h.number ≡ k.number = sym c.2 ∙ ap (λ (y : Cell). y.number) x ∙ d.2 in
      let lits : h.lits ≡ k.lits = sym c.3 ∙ ap (λ (y : Cell). y.lits) x ∙ d.3 in
      λ z. record { address = e z; number = number z; lits = lits z }

  -- what waits is not held
  pub waits_free : (a : ℕ) → 0 < times_at a (only v).core.waiting → times_at a (only v).core.held ≡ 0
  waits_free a h =
      let r : ℕ = (only v).core.ring in
      let c : State = s.core in
      let there : 0 < times_at a (c.part r).waiting = subst (λ (q : Part). 0 < times_at a q.waiting) part_of.part h in
      let t = waiting_cell c.opening c sound_of.counts r a part_of.ring there in
      let some : a ≢ 0 = λ e. none_some t.0 (sym sound_of.counts.nowhere ∙ ap c.cell (sym e) ∙ t.1) in
      let none : counted c.opening c a ≡ 0 = sym (sound_of.counts.counts a some) ∙ ap count_at t.1 ∙ t.2 in
      let le = below_at c.opening.rings r (λ i. reach c.opening (c.granted i) (c.part i).held a) part_of.ring in
      subst (λ (q : Part). times_at a q.held ≡ 0) (sym part_of.part) (omega arith)

  -- and waits once
  waits_once : (a : ℕ) → times_at a (only v).core.waiting ≤ 1
  waits_once a =
      let r : ℕ = (only v).core.ring in
      let c : State = s.core in
      let le = below_at c.opening.rings r (λ i. times_at a (c.part i).waiting) part_of.ring in
      let is = sound_of.counts.waits a in
      let few = idle_few (c.cell a) in
      subst (λ (q : Part). times_at a q.waiting ≤ 1) (sym part_of.part) (omega arith)

  start_of : (gs : List GlueAt) (h : ClauseAt) → In h v.opening.starts → IsKept v.layout.vars (holding_of gs h)
  start_of gs h i =
      let opens : IsCoreOpening s.core.opening = sound_of.opens in
      let j : In h s.core.opening.starts = subst (λ (o : CoreOpening). In h o.starts) s.opening i in
      let start = all_in (IsStart (book s.core.opening.formula s.core.opening.journal)) (opening_of s.core.opening).starts (record { number = h.number; lits = h.lits }) (In_map (λ (k : ClauseAt). record { number = k.number; lits = k.lits }) s.core.opening.starts h j) opens.opens.starts in
      record { shape = start.shape; on = on_of h.lits (all_in (λ (k : ClauseAt). InVars v.layout k.lits) s.core.opening.starts h j s.standing.starts) }

  pub unit_on : (l : Literal) → In l s.core.units → IsOn v.layout.vars l
  unit_on l i = let t = all_in (λ (k : Literal). (1 ≤ k.var) × (k.var ≤ v.layout.vars)) s.core.units l i s.standing.units in record { low = t.0; high = t.1 }

  -- what the ring has seen is listed, and so is what the opening lists
  pub seen_listed : (l : Literal) → In l (only v).core.seen → In l s.core.units
  seen_listed l i =
      let t = sound_of.units.seen (only v).core.ring in
      subst (In l) (sym t.1) (In_append_left (s.core.part (only v).core.ring).seen t.0 l (subst (λ (q : Part). In l q.seen) part_of.part i))

  opening_listed : (l : Literal) → In l v.opening.units → In l s.core.units
  opening_listed l i =
      let o : CoreOpening = s.core.opening in
      let t = run_units s.left.events (opened o) in
      let is : s.core.units ≡ o.units ++ t.0 = ap (λ (c : State). c.units) (sym s.left.leaves) ∙ t.1 in
      subst (In l) (sym is) (In_append_left o.units t.0 l (subst (λ (p : CoreOpening). In l p.units) s.opening i))

  stop_on : (x : Option CoreStop) → v.stop ≡ x → IfSome (option_map stop_as x) (IsStop v.opening.rings)
  stop_on None e = tt
  stop_on (Some t) e = let k = sound_of.stops.kinds t (s.stops.stands t e) in record { low = k.0; high = k.1; of_ring = subst (λ (o : CoreOpening). t.ring < o.rings) (sym s.opening) k.2 }

  -- a number that the port knows names its clause
  named_here : (o : Own) (n : ℕ) (d : List Literal) → In (n, d) (core_known (only v).core) → numbered (known_at (port_of v o)) n ≡ Some d
  named_here o n d i =
      let r : ℕ = (only v).core.ring in
      let names : (k : ℕ) (c : List Literal) → In (k, c) (core_known (only v).core) → (book s.core.opening.formula s.core.journal).clause k ≡ Some c = λ k c j. known_named s.core r sound_of part_of.ring k c (subst (λ (q : Part). In (k, c) (core_known q)) part_of.part j) in
      ap (λ (cs : List (ℕ × List Literal)). numbered cs n) (known_is v o) ∙ numbered_found (book s.core.opening.formula s.core.journal).clause (core_known (only v).core) names n d i

  -- a unit that was seen is told with its number
  pub unit_alive : (l : Literal) (n : ℕ) → In (l, n) (zip (only v).core.seen (only v).core.numbers) → (book s.core.opening.formula s.core.journal).clause n ≡ Some (l ∷ [])
  unit_alive l n i =
      let r : ℕ = (only v).core.ring in
      let p : Part = (only v).core in
      let j : In (n, l ∷ []) (core_known p) = In_append_right (map {B = ℕ × List Literal} (λ (h : ClauseAt). (h.number, h.lits)) p.held) (map {B = ℕ × List Literal} (λ (u : Literal × ℕ). (u.1, u.0 ∷ [])) (zip p.seen p.numbers)) (n, l ∷ []) (In_map {Y = ℕ × List Literal} (λ (u : Literal × ℕ). (u.1, u.0 ∷ [])) (zip p.seen p.numbers) (l, n) i) in
      known_named s.core r sound_of part_of.ring n (l ∷ []) (subst (λ (q : Part). In (n, l ∷ []) (core_known q)) part_of.part j)

  -- as many numbers as units
  pub numbers_long : length (only v).core.numbers ≡ length (only v).core.seen
  numbers_long = subst (λ (q : Part). length q.numbers ≡ length q.seen) (sym part_of.part) (sound_of.units.numbered (only v).core.ring).2

  are_numbered : (o : Own) → AreNumbered (port_of v o)
  are_numbered o =
      let p : Part = (only v).core in
      let gs : List GlueAt = (only v).glues in
      let told : List (Literal × ℕ) = zip p.seen p.numbers in
      record {
        held = All_from_In (λ (h : Holding). numbered (known_at (port_of v o)) h.number ≡ Some h.lits) (map (holding_of gs) p.held) (λ h i.
            let t = map_In (holding_of gs) p.held h i in
            subst (λ (k : Holding). numbered (known_at (port_of v o)) k.number ≡ Some k.lits) t.2
            (named_here o t.0.number t.0.lits (In_append_left (map {B = ℕ × List Literal} (λ (k : ClauseAt). (k.number, k.lits)) p.held) (map {B = ℕ × List Literal} (λ (u : Literal × ℕ). (u.1, u.0 ∷ [])) told) (t.0.number, t.0.lits) (In_map {Y = ℕ × List Literal} (λ (k : ClauseAt). (k.number, k.lits)) p.held t.0 t.1))));
        told = All_from_In (λ (u : Literal × ℕ). numbered (known_at (port_of v o)) u.1 ≡ Some (u.0 ∷ [])) told (λ u i.
            named_here o u.1 (u.0 ∷ []) (In_append_right (map {B = ℕ × List Literal} (λ (k : ClauseAt). (k.number, k.lits)) p.held) (map {B = ℕ × List Literal} (λ (x : Literal × ℕ). (x.1, x.0 ∷ [])) told) (u.1, u.0 ∷ []) (In_map {Y = ℕ × List Literal} (λ (x : Literal × ℕ). (x.1, x.0 ∷ [])) told u i)));
        seen = All_from_In (λ (l : Literal). (n : ℕ) × Contains told (l, n)) (without_kept (kept o) p.seen) (λ l i.
            let t = zip_In p.seen p.numbers l numbers_long (filter_In (λ k. not (has (kept o) k)) p.seen l i) in
            (t.0, In_Contains told (l, t.0) t.1));
      }

  pub is_port : (o : Own) → IsOwn (only v) o → IsPort (port_of v o)
  is_port o own =
      let gs : List GlueAt = (only v).glues in
      let held : List ClauseAt = (only v).core.held in
      let waiting : List ClauseAt = (only v).core.waiting in
      let seen : List Literal = (only v).core.seen in
      let starts : List ClauseAt = v.opening.starts in
      record {
        held = All_from_In (IsKept v.layout.vars) (map (holding_of gs) held) (λ h i. let t = map_In (holding_of gs) held h i in subst (IsKept v.layout.vars) t.2 (kept_of gs t.0 (copy_of t.0 t.1)));
        one = λ h k hi ki e.
            let t = map_In (holding_of gs) held h (Contains_In (map (holding_of gs) held) h hi) in
            let u = map_In (holding_of gs) held k (Contains_In (map (holding_of gs) held) k ki) in
            let same : t.0 ≡ u.0 = one_of t.0 u.0 (copy_of t.0 t.1) (copy_of u.0 u.1) (ap (λ (y : Holding). y.address) t.2 ∙ e ∙ sym (ap (λ (y : Holding). y.address) u.2)) in
            sym t.2 ∙ ap (holding_of gs) same ∙ u.2;
        waiting = All_from_In (IsKept v.layout.vars) (map (holding_of gs) waiting) (λ h i. let t = map_In (holding_of gs) waiting h i in subst (IsKept v.layout.vars) t.2 (kept_of gs t.0 (waiting_copy t.0 t.1)));
        apart = All_from_In (λ (h : Holding). held_at (port_of v o) h.address ≡ None) (map (holding_of gs) waiting) (λ h i.
            let t = map_In (holding_of gs) waiting h i in
            subst (λ (k : Holding). held_at (port_of v o) k.address ≡ None) t.2 (nothing_here v o t.0.address (waits_free t.0.address (at_in waiting t.0 t.1))));
        once = apart_of gs waiting waits_once;
        taken = All_from_In (λ (a : ℕ). IsSome (held_at (port_of v o) a)) (map (λ (c : Cref). c.address) o.taken) (λ a i.
            let t = map_In (λ (c : Cref). c.address) o.taken a i in
            subst (λ (b : ℕ). IsSome (held_at (port_of v o) b)) t.2 (there_here v o t.0.address (all_in (λ (c : Cref). 0 < times_at c.address held) o.taken t.0 t.1 own.taken)));
        given = All_from_In (λ (l : Literal). has (without_kept (kept o) seen) l ≡ true) (take o.passed o.arrived) (λ l i.
            front_left o.passed o.arrived seen l own.distinct i (all_in (λ (k : Literal). has seen k ≡ true) o.arrived l (take_In o.passed o.arrived l i) own.told));
        start = All_from_In (IsKept v.layout.vars) (map (holding_of (start_glues starts)) starts) (λ h i. let t = map_In (holding_of (start_glues starts)) starts h i in subst (IsKept v.layout.vars) t.2 (start_of (start_glues starts) t.0 t.1));
        seen = All_from_In (IsOn v.layout.vars) (without_kept (kept o) seen) (λ l i. unit_on l (seen_listed l (filter_In (λ k. not (has (kept o) k)) seen l i)));
        opening = All_from_In (IsOn v.layout.vars) v.opening.units (λ l i. unit_on l (opening_listed l i));
        stop = stop_on v.stop refl;
        ring = subst (λ (q : CoreOpening). (only v).core.ring < q.rings) (sym s.opening) part_of.ring;
        deep = subst (λ (q : CoreOpening). 1 ≤ q.depth) (sym s.opening) sound_of.opens.some_slot;
        few = subst (λ (q : CoreOpening). q.limit < 2 ^ 64) (sym s.opening) (let le = sound_of.opens.limited in omega arith);
        named = λ _. are_numbered o;
      }

-- there is a ring at least, and the layout says how many there are
pub rings_here : (v : View) (s : Seen v) → v.parts ≡ only v ∷ [] → (1 ≤ v.opening.rings) × (v.layout.rings ≡ v.opening.rings)
rings_here v s one =
    let same = ap (λ (o : CoreOpening). o.rings) s.opening in
    let some = (left_sound s.core.opening s.core s.left).opens.some_ring in
    (omega arith, s.standing.rings ∙ sym same)

-- What the port finds

-- the literals that the port finds are those that the pass has
pub lits_here : (v : View) (o : Own) (a : ℕ) → IsSome (held_at (port_of v o) a) → lits_at (port_of v o) a ≡ (clause_of a v).lits
lits_here v o a h = ap (λ (x : Option Holding). option_map_or (λ k. k.lits) x []) (held_here v o a h).1

pub head_here : (v : View) (o : Own) (a : ℕ) (x : Head) → IsSome (held_at (port_of v o) a) → x.size ≡ length (clause_of a v).lits → x.number ≡ (clause_of a v).number → x.glue ≡ glue_in (clause_of a v).number (only v).glues
    → IfSome (held_at (port_of v o) a) (λ h. x ≡ head_of h)
head_here v o a x h size number glue = subst (λ (y : Option Holding). IfSome y (λ k. x ≡ head_of k)) (sym (held_here v o a h).1) (λ i. record { size = size i; glue = glue i; number = number i })

pub lit_here : (lits : List Literal) (i : ℕ) → i < length lits → slice_get lits i ≡ Some (lit_in lits i)
lit_here [] i lt = absurd (omega arith)
lit_here (x ∷ xs) zero lt = refl
lit_here (x ∷ xs) (suc i) lt = lit_here xs i (omega arith)

-- The table's name

-- passes of one table have one name
pub home_same : {B : Type 0} (t : Shared B) (p q : Seat (Option B) View) → IsPassOf t p → IsPassOf t q → home_of q ≡ home_of p
home_same t p q a b =
    let id : q.table_id ≡ p.table_id = b.0 ∙ sym a.0 in
    let lay : q.me.0.layout ≡ p.me.0.layout = b.2 ∙ sym a.2 in
    λ i. (lay i).rings ∷ (lay i).vars ∷ (lay i).words ∷ (lay i).depth ∷ (lay i).conflicts ∷ (id i).words ∷ (id i).slots ∷ (id i).views_name ∷ (id i).atom ∷ (id i).block ∷ (id i).offset ∷ (id i).slot_names
