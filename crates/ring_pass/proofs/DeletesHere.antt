-- Deletions of the clauses that wait.
use Rattle.std.proofs.Common.{◌≡◌, ℕ, zero, suc, ◌<◌, ◌≤◌, Bool, true, false, List, [], ◌∷◌, ◌++◌, map, length, take, drop, refl, sym, ap, subst, ◌∙◌, arith, Option, None, length-append, append-nil}
use Rattle.std.proofs.lemmas.List.{length-map}
use Rattle.std.specs.List.{All}
use Rattle.sat_words.specs.Literal.{Literal}
use Rattle.sat_words.specs.Clause.{has}
use Rattle.sat_words.specs.declared.shared.Cref.{Cref}
use Rattle.rup_model.specs.declared.journal.Entry.{Entry}
use Rattle.rup_model.specs.declared.journal.Entry.TheVariants.{Del}
use Rattle.atomic_table.specs.declared.shared.Seat.{Seat}
use Rattle.share_core.specs.declared.part.CoreOpening.{CoreOpening}
use Rattle.share_core.specs.declared.part.Part.{Part}
use Rattle.share_core.specs.declared.part.Placed.{Placed}
use Rattle.share_core.specs.declared.stored.ClauseAt.{ClauseAt}
use Rattle.share_core.specs.State.{times_at}
use Rattle.share_rule.specs.declared.Shared.{Shared}
use Rattle.share_rule.specs.declared.view.GlueAt.{GlueAt}
use Rattle.share_rule.specs.declared.view.RingPart.{RingPart}
use Rattle.share_rule.specs.declared.view.View.{View}
use Rattle.share_rule.specs.Passes.{IsPassOf}
use Rattle.share_rule.specs.Turns.{IsFree, give_part}
use Rattle.share_rule.specs.Views.{only}
use Rattle.log_book.specs.declared.stop.TurnStop.{TurnStop}
use Rattle.ring_port.specs.declared.stops.PortStop.{PortStop}
use Rattle.ring_port.specs.Deleting.{deletions, TidiedUpTo, TidiedSome}
use Rattle.ring_port.specs.Port.{is_usable}
use Rattle.ring_port.specs.PortState.{PortState}
use Rattle.ring_pass.specs.declared.waiting.Waiting.{Waiting}
use Rattle.ring_pass.specs.Deletions.{deletions_of, Deleted, DeletedSome}
use Rattle.ring_pass.specs.Refusals.{port_stop, refused_after, ended_after, answer_noted}
use Rattle.ring_pass.specs.RingState.{Own, holding_of, port_with, port_of, home_of, IsOwn, AreWaiting, IsRingPass, HasRoom, HasUnits}
use Rattle.ring_pass.specs.Writes.{entries_of, sheet_with}
use Rattle.ring_pass.proofs.PollsHere.{port_step}
use Rattle.ring_pass.proofs.RingPorts.{rings_here}
use Rattle.ring_pass.proofs.NumbersHere.{numbers_keep}
use Rattle.ring_pass.proofs.Stays.{only_is, one_is, units_keep}
use Rattle.ring_pass.proofs.TurnsHere.{refused_here, room_refused, units_refused, ring_turns, end_refused, fault_refused, fault_alone, answer_here}
use Rattle.std.specs.Option.{option_map}
use Rattle.ring_pass.proofs.AllListed.{AddNone, listed_more}

-- Lists

pub are_length : (ws : List Waiting) (hs : List ClauseAt) → AreWaiting ws hs → length ws ≡ length hs
are_length [] [] a = refl
are_length [] (h ∷ hs) a = absurd a
are_length (w ∷ ws) [] a = absurd a
are_length (w ∷ ws) (h ∷ hs) a = let e = are_length ws hs a.1 in omega arith

pub are_drop : (k : ℕ) (ws : List Waiting) (hs : List ClauseAt) → AreWaiting ws hs → AreWaiting (drop k ws) (drop k hs)
are_drop zero ws hs a = a
are_drop (suc k) [] [] a = a
are_drop (suc k) [] (h ∷ hs) a = absurd a
are_drop (suc k) (w ∷ ws) [] a = absurd a
are_drop (suc k) (w ∷ ws) (h ∷ hs) a = are_drop k ws hs a.1

map_drop : (gs : List GlueAt) (k : ℕ) (hs : List ClauseAt) → map (holding_of gs) (drop k hs) ≡ drop k (map (holding_of gs) hs)
map_drop gs zero hs = refl
map_drop gs (suc k) [] = refl
map_drop gs (suc k) (h ∷ hs) = map_drop gs k hs

dels_take : (gs : List GlueAt) (r k : ℕ) (hs : List ClauseAt) → deletions_of r (take k hs) ≡ deletions r (take k (map (holding_of gs) hs))
dels_take gs r zero hs = refl
dels_take gs r (suc k) [] = refl
dels_take gs r (suc k) (h ∷ hs) = ap (λ (es : List Entry). Del r h.number ∷ es) (dels_take gs r k hs)

-- One after another

-- none yet
pub deleted_none : (v : View) → v.parts ≡ only v ∷ [] → (only v).turn ≡ None → Deleted v v 0
deleted_none v one free = record {
  part = only v;
  parts = one;
  layout = refl;
  opening = refl;
  stop = refl;
  looks = refl;
  core = refl;
  glues = refl;
  gave = refl;
  polls = refl;
  caught_up = refl;
  turn = free;
  refused = refl;
  waiting = refl;
  wrote = sym (append-nil (entries_of (only v)));
  going = λ lt. absurd (omega arith);
  ended_is = λ e. e;
  failed_is = λ e. e;
  failed_was = λ e. e;
}

-- the ring is free between turns
pub deleted_free : (v w : View) (k r : ℕ) → Deleted v w k → r ≡ (only v).core.ring → IsFree w × (r ≡ (only w).core.ring)
deleted_free v w k r d e =
    let now : only w ≡ d.part = only_is w d.part d.parts in
    ((one_is w d.part d.parts, ap (λ (q : RingPart). q.turn) now ∙ d.turn), e ∙ sym (ap (λ (q : RingPart). q.core.ring) now ∙ ap (λ (c : Part). c.ring) d.core))

-- The port

-- while some are deleted
pub tidied_here : (v w : View) (o : Own) (k : ℕ) (home : List ℕ) → IsOwn (only v) o → Deleted v w k → home ≡ o.home → TidiedUpTo (port_of v o) (port_of w (record o { home = home })) k
tidied_here v w o k home own d hm = record {
  going = λ some. cases o.ended own.ended_is (d.going some);
  state = port_step v w d.part (record o { home = home }) d.parts d.layout d.opening d.stop d.looks
      ∙ (λ i. port_with v (record d.part { core = d.core i; glues = d.glues i; polls = d.polls i; caught_up = d.caught_up i }) (record o { home = hm i }))
      ∙ (λ i. record (port_of v o) { waiting = waiting i; mine = mine i });
}
  where
    cases : (b : Bool) → (b ≡ true → (only v).ended ≡ true) → (only v).ended ≡ false → b ≡ false
    cases true f e = sym (f refl) ∙ e
    cases false f e = refl

    waiting : map (holding_of (only v).glues) d.part.core.waiting ≡ drop k (port_of v o).waiting
    waiting = ap (map (holding_of (only v).glues)) d.waiting ∙ map_drop (only v).glues k (only v).core.waiting

    mine : entries_of d.part ≡ (port_of v o).mine ++ deletions (only v).core.ring (take k (port_of v o).waiting)
    mine = d.wrote ∙ ap (λ (es : List Entry). entries_of (only v) ++ es) (dels_take (only v).glues (only v).core.ring k (only v).core.waiting)

-- they add no unit
deletions_none : (r : ℕ) (hs : List ClauseAt) → AddNone (deletions_of r hs)
deletions_none r [] l = refl
deletions_none r (h ∷ hs) l = deletions_none r hs l

-- what is kept beside stays
own_deleted : (v : View) (o : Own) (p : RingPart) (home : List ℕ) → p.core ≡ record (only v).core { waiting = p.core.waiting; wrote = p.core.wrote } → ((only v).ended ≡ true → p.ended ≡ true) → ((only v).failed ≡ true → p.failed ≡ true) → p.refused ≡ (only v).refused → (hs : List ClauseAt) → entries_of p ≡ entries_of (only v) ++ deletions_of (only v).core.ring hs → IsOwn (only v) o → IsOwn p (record o { home = home })
own_deleted v o p home core end fail refused hs wrote own = record {
  passed = own.passed;
  distinct = own.distinct;
  told = subst (λ (ls : List Literal). All (λ l. has ls l ≡ true) o.arrived) (sym (ap (λ (c : Part). c.seen) core)) own.told;
  taken = subst (λ (hs : List ClauseAt). All (λ c. 0 < times_at c.address hs) o.taken) (sym (ap (λ (c : Part). c.held) core)) own.taken;
  ended_is = λ e. end (own.ended_is e);
  refused_is = own.refused_is ∙ ap (option_map answer_noted) (sym refused);
  faulty_is = λ e. fail (own.faulty_is e);
  making = ap (λ (c : Part). c.making) core ∙ own.making;
  listed = listed_more (only v) p (deletions_of (only v).core.ring hs) wrote (ap (λ (c : Part). c.seen) core) (deletions_none (only v).core.ring hs) own.listed;
}

pub ring_deleted : {B : Type 0} {t : Shared B} {p : Seat (Option B) View} {n : ℕ} {st : List Cref} {o : Own} (q : Seat (Option B) View) (k : ℕ) → IsRingPass t p n st o → IsPassOf t q → q.id ≡ p.id → q.me.1 ≡ [] → Deleted p.me.0 q.me.0 k → IsRingPass t q n st (record o { home = home_of q })
ring_deleted {B} {t} {p} {n} {st} {o} q k r pass id slots d = ring_turns q d.part (record o { home = home_of q }) r pass id slots d.opening d.parts (ap (λ (c : Part). c.ring) d.core) d.turn refl (own_deleted p.me.0 o d.part (home_of q) d.core d.ended_is d.failed_is d.refused (take k (only p.me.0).core.waiting) d.wrote r.own)
    (λ lone e. r.alone_is lone (d.failed_was e))
    refl
    (numbers_keep (ap (λ (c : Part). c.seen) d.core) (ap (λ (c : Part). c.numbers) d.core) refl)

-- fewer wait, in as much room
pub room_deleted : (v w : View) (k : ℕ) (last : Option Cref) (ws ws' : List Waiting) (room room' : ℕ) → Deleted v w k → ws' ≡ drop k ws → room' ≡ room → HasRoom (only v) v.opening.rings last ws room → HasRoom (only w) w.opening.rings last ws' room'
room_deleted v w k last ws ws' room room' d is same m =
    subst (λ (o : CoreOpening). HasRoom (only w) o.rings last ws' room') (sym d.opening) (subst (λ (y : RingPart). HasRoom y v.opening.rings last ws' room') (sym (only_is w d.part d.parts)) (record {
      waits = subst (λ (y : List Waiting × List ClauseAt). AreWaiting y.0 y.1) (λ i. (sym is i, sym d.waiting i)) (are_drop k ws (only v).core.waiting m.waits);
      places = (let p = m.places in let s = fewer k ws in let l = ap length is in omega arith);
      few = (let f = m.few in
          let s = ap (λ (c : Part). c.shared) d.core in
          let l = ap length d.wrote in
          let l1 = length-append (entries_of (only v)) (deletions_of (only v).core.ring (take k (only v).core.waiting)) in
          let m1 = length-map (only v).core.wrote (λ (e : Placed). e.entry) in
          let m2 = length-map d.part.core.wrote (λ (e : Placed). e.entry) in
          omega arith);
    }))
  where
    fewer : (j : ℕ) (xs : List Waiting) → length (drop j xs) ≤ length xs
    fewer zero xs = omega arith
    fewer (suc j) [] = omega arith
    fewer (suc j) (x ∷ xs) = let e = fewer j xs in omega arith

pub units_deleted : (v w : View) (k : ℕ) (seen : List Literal) (a b : ℕ) → Deleted v w k → HasUnits (only v) v.layout.vars seen a b → HasUnits (only w) w.layout.vars seen a b
units_deleted v w k seen a b d m = units_keep v w seen a b (ap (λ (p : RingPart). p.core.seen) (only_is w d.part d.parts) ∙ ap (λ (c : Part). c.seen) d.core) d.layout m

-- After a refusal

-- at the ring, before what was refused
own_middle : (v m : View) (o : Own) (k : ℕ) → Deleted v m k → IsOwn (only v) o → IsOwn (only m) o
own_middle v m o k d own = subst (λ (p : RingPart). IsOwn p o) (sym (only_is m d.part d.parts)) (own_deleted v o d.part o.home d.core d.ended_is d.failed_is d.refused (take k (only v).core.waiting) d.wrote own)

pub tidied_some : {B : Type 0} {t : Shared B} {p : Seat (Option B) View} {n : ℕ} {st : List Cref} {u : View} {many k : ℕ} {e : TurnStop} (o : Own) (s : PortState) (kept : Option PortStop) (over : Bool) (stop : PortStop) (home : List ℕ) → port_of p.me.0 o ≡ s → IsRingPass t p n st o → is_usable s.refused ≡ true → DeletedSome p.me.0 u many k e
    → many ≡ length (only p.me.0).core.waiting → kept ≡ refused_after e o.refused → over ≡ ended_after e o.ended → stop ≡ port_stop e → home ≡ o.home → TidiedSome s (port_of u (record o { refused = kept; ended = over; home = home })) stop
tidied_some {B} {t} {p} {n} {st} {u} {many} {k} {e} o s kept over stop home view r usable d all kp b t' hm =
    let v : View = p.me.0 in
    let m : View = d.middle in
    let long = length-map (only v).core.waiting (holding_of (only v).glues) in
    let lt = d.some in
    let rings : m.opening.rings ≡ v.opening.rings = ap (λ (x : CoreOpening). x.rings) d.first.opening in
    let some : 1 ≤ m.opening.rings = (let one = (rings_here v r.pass.3 r.one).0 in omega arith) in
    let was : m.opening.rings ≡ 1 → (only m).failed ≡ true → is_usable o.refused ≡ false = λ lone f. r.alone_is (sym rings ∙ lone) (d.first.failed_was (ap (λ (x : RingPart). x.failed) (sym (only_is m d.first.part d.first.parts)) ∙ f)) in
    subst (λ (y : PortState × Option PortStop × Bool × PortStop). TidiedSome y.0 (port_of u (record o { refused = y.1; ended = y.2; home = home })) y.3) (λ i. (view i, sym kp i, sym b i, sym t' i)) (record {
      many = k;
      some = omega arith;
      middle = port_of m o;
      first = tidied_here v m o k o.home r.own d.first refl;
      refused = refused_here m u o e home (own_middle v m o k d.first r.own) (ap (λ (y : PortState). is_usable y.refused) view ∙ usable) was some d.refused hm;
    })

pub ring_some : {B : Type 0} {t : Shared B} {p : Seat (Option B) View} {n : ℕ} {st : List Cref} {o : Own} (q : Seat (Option B) View) (many k : ℕ) (e : TurnStop) (kept : Option PortStop) (over : Bool) → IsRingPass t p n st o → is_usable o.refused ≡ true → IsPassOf t q → q.id ≡ p.id → q.me.1 ≡ [] → DeletedSome p.me.0 q.me.0 many k e → kept ≡ refused_after e o.refused → over ≡ ended_after e o.ended
    → IsRingPass t q n st (record o { refused = kept; ended = over; home = home_of q })
ring_some {B} {t} {p} {n} {st} {o} q many k e kept over r usable pass id slots d a b =
    let m : View = d.middle in
    let w = d.refused in
    let own = own_middle p.me.0 m o k d.first r.own in
    let ring : (only m).core.ring ≡ (only p.me.0).core.ring = ap (λ (x : RingPart). x.core.ring) (only_is m d.first.part d.first.parts) ∙ ap (λ (c : Part). c.ring) d.first.core in
    ring_turns q (give_part m.opening (sheet_with w.journal (only m)) w.refused w.failed (only m)) (record o { refused = kept; ended = over; home = home_of q }) r pass id slots (w.gave.opening ∙ d.first.opening) w.gave.parts ring refl refl
    (record { passed = own.passed; distinct = own.distinct; told = own.told; taken = own.taken; ended_is = λ x. end_refused m o w.journal e own w.why (sym b ∙ x); refused_is = a ∙ answer_here m q.me.0 o e own w; faulty_is = λ x. fault_refused m q.me.0 o e own w (ap is_usable (sym a) ∙ x); making = own.making; listed = own.listed })
    (λ lone f. ap is_usable a ∙ fault_alone m q.me.0 o e usable (λ f'. r.alone_is lone (d.first.failed_was (ap (λ (x : RingPart). x.failed) (sym (only_is m d.first.part d.first.parts)) ∙ f'))) w (ap (λ (x : CoreOpening). x.rings) d.first.opening ∙ lone) f)
    refl
    (numbers_keep (ap (λ (x : RingPart). x.core.seen) (only_is m d.first.part d.first.parts) ∙ ap (λ (c : Part). c.seen) d.first.core) (ap (λ (x : RingPart). x.core.numbers) (only_is m d.first.part d.first.parts) ∙ ap (λ (c : Part). c.numbers) d.first.core) refl)

pub room_some : (v u : View) (many k : ℕ) (e : TurnStop) (last : Option Cref) (ws ws' : List Waiting) (room room' : ℕ) → DeletedSome v u many k e → ws' ≡ drop k ws → room' ≡ room → HasRoom (only v) v.opening.rings last ws room → HasRoom (only u) u.opening.rings last ws' room'
room_some v u many k e last ws ws' room room' d is same m = room_refused d.middle u e last ws' room' d.refused (room_deleted v d.middle k last ws ws' room room' d.first is same m)

pub units_some : (v u : View) (many k : ℕ) (e : TurnStop) (seen : List Literal) (a b : ℕ) → DeletedSome v u many k e → HasUnits (only v) v.layout.vars seen a b → HasUnits (only u) u.layout.vars seen a b
units_some v u many k e seen a b d m = units_refused d.middle u e seen a b d.refused (units_deleted v d.middle k seen a b d.first m)

-- all are deleted
pub tidied_all : {v u : View} {k : ℕ} (o : Own) (s : PortState) (home : List ℕ) → port_of v o ≡ s → IsOwn (only v) o → Deleted v u k → k ≡ length (only v).core.waiting → home ≡ o.home → TidiedUpTo s (port_of u (record o { home = home })) (length s.waiting)
tidied_all {v} {u} {k} o s home view own d all hm =
    let long : k ≡ length (port_of v o).waiting = all ∙ sym (length-map (only v).core.waiting (holding_of (only v).glues)) in
    subst (λ (y : PortState). TidiedUpTo y (port_of u (record o { home = home })) (length y.waiting)) view (subst (λ (m : ℕ). TidiedUpTo (port_of v o) (port_of u (record o { home = home })) m) long (tidied_here v u o k home own d hm))

pub none_left : (ws : List Waiting) (k : ℕ) → k ≡ length ws → drop k ws ≡ []
none_left [] zero e = refl
none_left [] (suc k) e = refl
none_left (w ∷ ws) zero e = absurd (omega arith)
none_left (w ∷ ws) (suc k) e = none_left ws k (omega arith)
