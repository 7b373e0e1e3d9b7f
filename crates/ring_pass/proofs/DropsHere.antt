-- What the port says after a count is given up.
use Rattle.std.proofs.Common.{◌≡◌, ◌≢◌, ℕ, zero, suc, ◌+◌, ◌-◌, ◌<◌, ◌≤◌, ◌==◌, Bool, true, false, if◌then◌else◌, List, [], ◌∷◌, ◌++◌, map, length, refl, sym, ap, subst, ◌∙◌, inl, inr, arith, Option, Some, None, IsSome, eq-eqb, ne_eqb, length-append}
use Rattle.std.specs.List.{All}
use Rattle.std.specs.Option.{option_map}
use Rattle.std.specs.Prelude.{Result, Ok, Err, OnOk, is_err}
use Rattle.std.proofs.lemmas.Bool.{false≢true}
use mathlib.Core.Logic.{dite}
use native.Mathlib.Decide.{ℕ_discrete}
use Rattle.sat_words.specs.Literal.{Literal}
use Rattle.sat_words.specs.Clause.{has}
use Rattle.sat_words.specs.declared.shared.Cref.{Cref}
use Rattle.rup_model.specs.Basics.{one_if}
use Rattle.rup_model.proofs.Lists.{In, In_map, none_In}
use Rattle.rup_model.proofs.ProgramOpening.{All_from_In}
use Rattle.atomic_table.specs.declared.shared.Seat.{Seat}
use Rattle.share_core.specs.declared.stored.ClauseAt.{ClauseAt}
use Rattle.share_core.specs.declared.part.CoreOpening.{CoreOpening}
use Rattle.share_core.specs.State.{times_at, without_at}
use Rattle.share_core.proofs.ClauseLists.{all_in, at_without, at_both}
use Rattle.share_rule.specs.declared.Shared.{Shared}
use Rattle.share_rule.specs.declared.view.GlueAt.{GlueAt}
use Rattle.share_rule.specs.declared.view.RingPart.{RingPart}
use Rattle.share_rule.specs.declared.view.View.{View}
use Rattle.share_rule.specs.Passes.{IsPassOf, IsSamePass}
use Rattle.share_rule.specs.Steps.{drop_part, after_drop}
use Rattle.share_rule.specs.Views.{only, clause_in, clause_of}
use Rattle.share_rule.proofs.Lists.{first_at}
use Rattle.ring_port.specs.Deleting.{without_one, IsNotTaken, DroppedOnce}
use Rattle.ring_port.specs.PortState.{Holding, PortState, held_at}
use Rattle.ring_pass.specs.Giving.{unless_cell}
use Rattle.ring_pass.specs.declared.waiting.Waiting.{Waiting}
use Rattle.ring_pass.specs.RingState.{Own, port_with, port_of, home_of, holding_of, IsOwn, IsRingPass, IsWaiting, AreWaiting, HasRoom, HasUnits, pending}
use Rattle.ring_pass.proofs.CanOffers.{unless_same}
use Rattle.ring_pass.proofs.PollsHere.{port_step, map_last}
use Rattle.ring_pass.proofs.RingPorts.{held_here, there_here, nothing_here, waits_free}
use Rattle.ring_pass.proofs.Stays.{only_is, one_is, one_changed, ring_changes, name_stays, units_keep}

-- Lists

map_without : (gs : List GlueAt) (hs : List ClauseAt) (a : ℕ) → map (holding_of gs) (without_at a hs) ≡ without_one (map (holding_of gs) hs) a
map_without gs [] a = refl
map_without gs (x ∷ hs) a = by (x.address == a) (map_without gs hs a)
  where
    by : (b : Bool) → map (holding_of gs) (without_at a hs) ≡ without_one (map (holding_of gs) hs) a
        → map (holding_of gs) (if b then hs else x ∷ without_at a hs) ≡ (if b then map (holding_of gs) hs else holding_of gs x ∷ without_one (map (holding_of gs) hs) a)
    by true e = refl
    by false e = ap (λ (ks : List Holding). holding_of gs x ∷ ks) e

pub are_last : (ws : List Waiting) (hs : List ClauseAt) (w : Waiting) (h : ClauseAt) → AreWaiting ws hs → IsWaiting w h → AreWaiting (ws ++ w ∷ []) (hs ++ h ∷ [])
are_last [] [] w h all one = (one, tt)
are_last [] (k ∷ hs) w h all one = absurd all
are_last (x ∷ ws) [] w h all one = absurd all
are_last (x ∷ ws) (k ∷ hs) w h all one = (all.0, are_last ws hs w h all.1 one)

times_behind : (a : ℕ) (hs : List ClauseAt) (h : ClauseAt) → h.address ≡ a → 0 < times_at a (hs ++ h ∷ [])
times_behind a hs h e = let k = at_both a hs (h ∷ []) in let z : one_if (h.address == a) ≡ 1 = ap one_if (eq-eqb h.address a e) in omega arith

-- Parts

-- where it was not the last count
pub left_part : (a n : ℕ) (p : RingPart) → n ≢ 1 → drop_part a n p ≡ record p { core = record p.core { held = without_at (clause_in a p.core.held).address p.core.held } }
left_part a n p ne i = record p { core = record p.core { held = without_at (clause_in a p.core.held).address p.core.held; waiting = if ne_eqb n 1 ne i then p.core.waiting ++ clause_in a p.core.held ∷ [] else p.core.waiting } }

-- where it was
pub last_part : (a n : ℕ) (p : RingPart) → n ≡ 1 → drop_part a n p ≡ record p { core = record p.core { held = without_at (clause_in a p.core.held).address p.core.held; waiting = p.core.waiting ++ clause_in a p.core.held ∷ [] } }
last_part a n p e i = record p { core = record p.core { held = without_at (clause_in a p.core.held).address p.core.held; waiting = if eq-eqb n 1 e i then p.core.waiting ++ clause_in a p.core.held ∷ [] else p.core.waiting } }

own_drops : (p : RingPart) (o : Own) (a n : ℕ) (last : Option Cref) (home : List ℕ) → 0 < times_at a p.core.held → All (λ (c : Cref). c.address ≢ a) o.taken → IsOwn p o → IsOwn (drop_part a n p) (record o { last = last; home = home })
own_drops p o a n last home has apart own =
    let f = first_at a p.core.held has in
    let h : ClauseAt = clause_in a p.core.held in
    let there : 0 < times_at h.address p.core.held = subst (λ (b : ℕ). 0 < times_at b p.core.held) (sym f.1) has in
    record {
      passed = own.passed;
      distinct = own.distinct;
      told = own.told;
      taken = All_from_In (λ (c : Cref). 0 < times_at c.address (without_at h.address p.core.held)) o.taken (λ c i.
          let lt = all_in (λ (x : Cref). 0 < times_at x.address p.core.held) o.taken c i own.taken in
          let ne = all_in (λ (x : Cref). x.address ≢ a) o.taken c i apart in
          let t = at_without h.address c.address p.core.held there in
          let z : one_if (h.address == c.address) ≡ 0 = ap one_if (ne_eqb h.address c.address (λ e. ne (sym e ∙ f.1))) in
          omega arith);
      ended_is = own.ended_is;
      refused_is = own.refused_is;
      faulty_is = own.faulty_is;
      making = own.making;
      listed = own.listed;
    }

-- what was not taken is not among what was
not_taken : (s : PortState) (o : Own) (a : ℕ) → s.taken ≡ map (λ (c : Cref). c.address) o.taken → IsNotTaken s a → All (λ (c : Cref). c.address ≢ a) o.taken
not_taken s o a is none = All_from_In (λ (c : Cref). c.address ≢ a) o.taken (λ c i e.
    false≢true (sym (none_In (λ (b : ℕ). b == a) s.taken c.address none (subst (In c.address) (sym is) (In_map (λ (x : Cref). x.address) o.taken c i))) ∙ eq-eqb c.address a e))

-- of several counts at an address some are left
several : (a : ℕ) (hs : List ClauseAt) → 0 < times_at a hs → times_at a hs ≢ 1 → 0 < times_at a (without_at (clause_in a hs).address hs)
several a hs has more =
    let f = first_at a hs has in
    let h : ClauseAt = clause_in a hs in
    let t = at_without h.address a hs (subst (λ (b : ℕ). 0 < times_at b hs) (sym f.1) has) in
    let z : one_if (h.address == a) ≡ 1 = ap one_if (eq-eqb h.address a f.1) in
    by (times_at a hs) (times_at a (without_at h.address hs)) (omega arith) more
  where
    by : (n k : ℕ) → k + 1 ≡ n → n ≢ 1 → 0 < k
    by n zero e ne = absurd (ne (omega arith))
    by n (suc k) e ne = omega arith

-- For a ring with its pass

pub ring_drops : {B : Type 0} {t : Shared B} {p : Seat (Option B) View} {n : ℕ} {st : List Cref} {o : Own} (q : Seat (Option B) View) (a m : ℕ) (last : Option Cref) → IsRingPass t p n st o → IsPassOf t q → IsSamePass p q → q.me.0 ≡ after_drop a m p.me.0 → 0 < times_at a (only p.me.0).core.held
    → All (λ (c : Cref). c.address ≢ a) o.taken → IsRingPass t q n st (record o { last = last; home = home_of q })
ring_drops {B} {t} {p} {n} {st} {o} q a m last r pass same is has apart =
    ring_changes q (drop_part a m (only p.me.0)) (record o { last = last; home = home_of q }) r pass same (ap (λ (u : View). u.opening) is) (one_changed (drop_part a m) p.me.0 q.me.0 r.one (ap (λ (u : View). u.parts) is)) refl refl refl
    (own_drops (only p.me.0) o a m last (home_of q) has apart r.own) r.alone_is refl (λ m. m)

pub port_drops : {B : Type 0} {t : Shared B} {p : Seat (Option B) View} {n : ℕ} {st : List Cref} {o : Own} (q : Seat (Option B) View) (s : PortState) (a m : ℕ) (last : Option Cref) → last ≡ unless_cell o.last a → IsRingPass t p n st o → IsPassOf t q → port_of p.me.0 o ≡ s → q.me.0 ≡ after_drop a m p.me.0 → 0 < times_at a (only p.me.0).core.held
    → (p.me.0.opening.rings ≡ 1 → m ≢ 1 → times_at a (only p.me.0).core.held ≢ 1) → DroppedOnce s (port_of q.me.0 (record o { last = last; home = home_of q })) a
port_drops {B} {t} {p} {n} {st} {o} q s a m last ended r pass view is has lone =
    let v : View = p.me.0 in
    let w : View = q.me.0 in
    let part : RingPart = only v in
    let h : ClauseAt = clause_in a part.core.held in
    let f = first_at a part.core.held has in
    let parts : w.parts ≡ drop_part a m part ∷ [] = one_changed (drop_part a m) v w r.one (ap (λ (u : View). u.parts) is) in
    let o' : Own = record o { last = last; home = home_of q } in
    let there : held_at (port_of v o) a ≡ Some (holding_of part.glues h) = (held_here v o a (there_here v o a has)).1 in
    let state : port_of w o' ≡ port_with v (drop_part a m part) (record o { last = unless_cell o.last a }) = port_step v w (drop_part a m part) o' parts (ap (λ (u : View). u.layout) is) (ap (λ (u : View). u.opening) is) (ap (λ (u : View). u.stop) is) (ap (λ (u : View). u.looks) is) ∙ (λ i. port_with v (drop_part a m part) (record o { last = ended i; home = name_stays q r pass i })) in
    let held : (port_with v (drop_part a m part) o).held ≡ without_one (port_of v o).held a = ap (λ (b : ℕ). map (holding_of part.glues) (without_at b part.core.held)) f.1 ∙ map_without part.glues part.core.held a in
    let more : m ≡ 1 → (port_of w o').waiting ≡ (port_of v o).waiting ++ holding_of part.glues h ∷ [] = λ e.
    ap (λ (y : PortState). y.waiting) state ∙ ap (λ (y : RingPart). map (holding_of part.glues) y.core.waiting) (last_part a m part e) ∙ map_last part.glues part.core.waiting h in
    subst (λ (y : PortState). DroppedOnce y (port_of w o') a) view (record {
      clause = holding_of part.glues h;
      there = there;
      alone = λ one none. dite (ℕ_discrete m 1) more (λ ne. absurd (false≢true (subst (λ (k : Option Holding). IsSome k) none (there_here w o' a (still w part parts refl ne one)))));
      waits = dite (ℕ_discrete m 1)
          (λ e.
          let x : RingPart = record part { core = record part.core { held = without_at h.address part.core.held; waiting = part.core.waiting ++ h ∷ [] } } in
          let now : only w ≡ x = only_is w (drop_part a m part) parts ∙ last_part a m part e in
          let waits : 0 < times_at a (only w).core.waiting = subst (λ (y : RingPart). 0 < times_at a y.core.waiting) (sym now) (times_behind a part.core.waiting h f.1) in
          inr (
            more e,
            nothing_here w o' a (waits_free w pass.3 (one_is w (drop_part a m part) parts) a waits),
          ))
          (λ ne. inl (ap (λ (y : PortState). y.waiting) state ∙ ap (λ (y : RingPart). map (holding_of part.glues) y.core.waiting) (left_part a m part ne)));
      state = λ i. record (state i) { held = (ap (λ (y : PortState). y.held) state ∙ held) i; waiting = (port_of w o').waiting; last = (ap (option_map (λ (c : Cref). c.address)) ended ∙ unless_same o.last a) i };
    })
  where
    -- a lone ring that gave up one count of several still holds the clause
    still : (w : View) (y : RingPart) → w.parts ≡ drop_part a m y ∷ [] → y ≡ only p.me.0 → m ≢ 1 → p.me.0.opening.rings ≡ 1 → 0 < times_at a (only w).core.held
    still w y parts mine ne one = subst (λ (z : RingPart). 0 < times_at a z.core.held) (sym (only_is w (drop_part a m y) parts ∙ left_part a m y ne))
        (several a y.core.held (subst (λ (z : RingPart). 0 < times_at a z.core.held) (sym mine) has) (subst (λ (z : RingPart). times_at a z.core.held ≢ 1) (sym mine) (lone one ne)))

-- Room

-- in a larger vector
pub room_grows : (p : RingPart) (rings : ℕ) (last : Option Cref) (ws ws' : List Waiting) (room room' : ℕ) → HasRoom p rings last ws room → ws' ≡ ws → room ≤ room' → HasRoom p rings last ws' room'
room_grows p rings last ws ws' room room' m e le = subst (λ (xs : List Waiting). HasRoom p rings last xs room') (sym e) (record { waits = m.waits; places = (let k = m.places in omega arith); few = m.few })

pub room_left : (v w : View) (a n : ℕ) (last : Option Cref) (ws : List Waiting) (room : ℕ) → v.parts ≡ only v ∷ [] → w ≡ after_drop a n v → n ≢ 1 → HasRoom (only v) v.opening.rings last ws room → HasRoom (only w) w.opening.rings last ws room
room_left v w a n last ws room one is ne m =
    let now = only_is w (drop_part a n (only v)) (one_changed (drop_part a n) v w one (ap (λ (u : View). u.parts) is)) ∙ left_part a n (only v) ne in
    subst (λ (o : CoreOpening). HasRoom (only w) o.rings last ws room) (sym (ap (λ (u : View). u.opening) is))
    (subst (λ (y : RingPart). HasRoom y v.opening.rings last ws room) (sym now) (record { waits = m.waits; places = m.places; few = m.few }))

pub pending_few : (rings : ℕ) (last : Option Cref) → pending rings last ≤ rings - 1
pending_few rings None = omega arith
pending_few rings (Some c) = omega arith

pub room_last : (v w : View) (a n : ℕ) (last : Option Cref) (ws ws' : List Waiting) (room : ℕ) (x : Waiting) → v.parts ≡ only v ∷ [] → w ≡ after_drop a n v → n ≡ 1 → IsWaiting x (clause_of a v) → ws' ≡ ws ++ x ∷ [] → 1 ≤ v.opening.rings → length ws + v.opening.rings ≤ room
    → HasRoom (only v) v.opening.rings last ws room → HasRoom (only w) w.opening.rings last ws' room
room_last v w a n last ws ws' room x one is e waits more some large m =
    let now = only_is w (drop_part a n (only v)) (one_changed (drop_part a n) v w one (ap (λ (u : View). u.parts) is)) ∙ last_part a n (only v) e in
    let long = length-append ws (x ∷ []) in
    let few = pending_few v.opening.rings last in
    subst (λ (o : CoreOpening). HasRoom (only w) o.rings last ws' room) (sym (ap (λ (u : View). u.opening) is))
    (subst (λ (y : RingPart). HasRoom y v.opening.rings last ws' room) (sym now)
    (subst (λ (xs : List Waiting). HasRoom (record (only v) { core = record (only v).core { held = without_at (clause_in a (only v).core.held).address (only v).core.held; waiting = (only v).core.waiting ++ clause_of a v ∷ [] } }) v.opening.rings last xs room) (sym more) (record {
      waits = are_last ws (only v).core.waiting x (clause_of a v) m.waits waits;
      places = omega arith;
      few = m.few;
    })))

pub units_drops : (v w : View) (a n : ℕ) (seen : List Literal) (x y : ℕ) → v.parts ≡ only v ∷ [] → w ≡ after_drop a n v → HasUnits (only v) v.layout.vars seen x y → HasUnits (only w) w.layout.vars seen x y
units_drops v w a n seen x y one is u =
    units_keep v w seen x y (ap (λ (p : RingPart). p.core.seen) (only_is w (drop_part a n (only v)) (one_changed (drop_part a n) v w one (ap (λ (z : View). z.parts) is)))) (ap (λ (z : View). z.layout) is) u

-- what was not taken, for a ring with its pass
pub ring_not_taken : {B : Type 0} {t : Shared B} {p : Seat (Option B) View} {n : ℕ} {st : List Cref} {o : Own} (s : PortState) (a : ℕ) → IsRingPass t p n st o → port_of p.me.0 o ≡ s → IsNotTaken s a → All (λ (c : Cref). c.address ≢ a) o.taken
ring_not_taken {B} {t} {p} {n} {st} {o} s a r view h = not_taken s o a (ap (λ (y : PortState). y.taken) (sym view)) h

-- what holds where a call did not fail
pub on_ok : {T E : Type 0} (r : Result T E) (P : Type 0) (b : Bool) → b ≡ is_err r → b ≡ false → OnOk r P → P
on_ok (Ok x) P b e f h = h
on_ok (Err x) P b e f h = absurd (false≢true (sym f ∙ e))
