-- What a turn of the log leaves of a ring with its pass.
use Rattle.io_edge.specs.declared.edge.Sink.{Ghosts}
use mathlib.Core.Logic.{dite}
use native.Mathlib.Decide.{ℕ_discrete}
use Rattle.std.proofs.Common.{◌≡◌, ◌≢◌, ℕ, ◌<◌, ◌≤◌, Bool, true, false, not, ◌&&◌, ◌||◌, List, [], ◌∷◌, ◌++◌, map, length, refl, sym, ap, subst, ◌∙◌, inl, inr, arith, Option, Some, None, length-append}
use Rattle.std.specs.Prelude.{slice_index_or, Result, Ok, Err, OnOk, IfOk, IfErr}
use Rattle.std.specs.List.{All, list_any}
use Rattle.std.specs.Option.{option_map}
use Rattle.std.proofs.lemmas.Bool.{true≢false, or_left, or_right}
use Rattle.sat_words.specs.declared.shared.Cref.{Cref}
use Rattle.sat_words.specs.Literal.{Literal}
use Rattle.sat_words.specs.Clause.{includes}
use Rattle.rup_model.specs.declared.journal.TheConstants.{LEARNED_PER_REDUCTION}
use Rattle.rup_model.specs.declared.journal.Entry.{Entry}
use Rattle.rup_model.specs.declared.journal.Kind.{Kind}
use Rattle.rup_model.specs.declared.journal.Kind.TheVariants.{Ruler, Learn, Derive, UnitLine}
use Rattle.rup_model.specs.Opening.{start_clauses}
use Rattle.rup_model.specs.declared.journal.Entry.TheVariants.{Reduce as ReduceEntry}
use Rattle.rup_model.specs.Journal.{ended, recent}
use Rattle.atomic_table.specs.declared.shared.Seat.{Seat}
use Rattle.share_core.specs.declared.part.CoreOpening.{CoreOpening}
use Rattle.share_core.specs.declared.part.Part.{Part}
use Rattle.share_core.specs.declared.part.Placed.{Placed}
use Rattle.share_core.specs.Learning.{ticket_after, MayAddUnit}
use Rattle.share_core.specs.State.{times_at, opening_of, later}
use Rattle.share_core.proofs.Leaving.{left_sound}
use Rattle.share_core.proofs.Plainly.{recent_own}
use Rattle.share_rule.specs.declared.Layout.{Layout}
use Rattle.share_rule.specs.declared.Shared.{Shared}
use Rattle.share_rule.specs.declared.note.Note.{Note}
use Rattle.share_rule.specs.declared.note.Note.TheVariants.{Reduce, Unit as UnitNote}
use Rattle.share_rule.specs.declared.view.Refusal.{Refusal}
use Rattle.share_rule.specs.declared.view.RingPart.{RingPart}
use Rattle.share_rule.specs.declared.view.View.{View}
use Rattle.share_rule.specs.Passes.{IsPassOf}
use Rattle.share_rule.specs.Seen.{Seen, IsPart}
use Rattle.share_rule.specs.Steps.{on_first}
use Rattle.share_rule.specs.Turns.{Sheet, next_number, MayNote, journal_in, sheet_after, written_of, take_part, give_part, after_give, newer}
use Rattle.share_rule.specs.Views.{only, no_part}
use Rattle.share_rule.proofs.Moves.{turn_is}
use Rattle.log_book.specs.declared.stop.TurnStop.{TurnStop}
use Rattle.log_book.specs.declared.stop.TurnStop.TheVariants.{Ended, Broken, NoHole, Memory, ProofFault}
use Rattle.log_book.specs.declared.turn.Turn.{Turn}
use Rattle.log_book.specs.Books.{AreAlike}
use Rattle.log_book.specs.Turns.{WasTaken, IsTurn, Grown, Refused as TurnRefused, MayNext, IsCause, IsAddCause, noted_as, sheet}
use Rattle.ring_port.specs.declared.stops.PortStop.{PortStop}
use Rattle.ring_port.specs.declared.stops.PortStop.TheVariants as port
use Rattle.ring_port.specs.Port as ports
use Rattle.ring_port.specs.Port.{HasReason, after_refusal, Refused, is_fault, is_usable}
use Rattle.ring_port.specs.PortState.{PortState}
use Rattle.ring_port.specs.Reducing.{NotedReduce}
use Rattle.ring_pass.specs.declared.waiting.Waiting.{Waiting}
use Rattle.ring_pass.specs.Refusals.{port_stop, refused_after, ended_after, answer_noted}
use Rattle.ring_pass.specs.Cells.{WroteUnitLine}
use Rattle.ring_pass.specs.Writes.{entries_of, own_opening, sheet_with, KnowsJournal, GaveTurn, Wrote, IsWhy, TellsFault, WroteNone}
use Rattle.ring_pass.specs.Numbers.{HasNumbers}
use Rattle.ring_pass.specs.RingState.{Own, port_with, port_of, home_of, IsOwn, IsRingPass, HasRoom, HasUnits, AreWaiting}
use Rattle.ring_pass.proofs.PollsHere.{port_step}
use Rattle.ring_pass.proofs.RingPorts.{part_of, rings_here}
use Rattle.ring_pass.proofs.Stays.{only_is, one_is, ring_changes, units_keep}
use Rattle.ring_pass.proofs.AllListed.{listed_last}

-- The turn is taken

-- the pass's ring has it, with this journal, after tries that missed it
pub record HasTurn (v w : View) (J : List Entry) (failed : Bool) : Type 0 where
  pub parts : w.parts ≡ take_part J failed (only v) ∷ []
  pub layout : w.layout ≡ v.layout
  pub opening : w.opening ≡ v.opening
  pub stop : w.stop ≡ v.stop
  pub looks : w.looks ≡ v.looks

pub turn_taken : {S : Type 0} {d : Ghosts S} {written flushed target : S → Option (List ℕ)} {faults : S → ℕ} {v w : View} {t : Turn S d} → v.parts ≡ only v ∷ [] → (h : WasTaken written flushed target faults v w t) → HasTurn v w h.taken.book.journal t.book.log.lines.spent
turn_taken {S} {d} {written} {flushed} {target} {faults} {v} {w} {t} one h =
    let b = h.taken.book in
    let same : only h.before ≡ only v = ap (λ (ps : List RingPart). slice_index_or ps 0 no_part) h.missed.parts in
    record {
      parts = ap (λ (u : View). u.parts) b.view ∙ ap (on_first (take_part b.journal t.book.log.lines.spent)) (h.missed.parts ∙ one);
      layout = ap (λ (u : View). u.layout) b.view ∙ h.missed.layout;
      opening = ap (λ (u : View). u.opening) b.view ∙ h.missed.opening;
      stop = ap (λ (u : View). u.stop) b.view ∙ h.missed.stop;
      looks = ap (λ (u : View). u.looks) b.view ∙ h.missed.looks;
    }

-- it knows of a failed write what the book tells with it
pub failed_taken : {S : Type 0} {d : Ghosts S} {written flushed target : S → Option (List ℕ)} {faults : S → ℕ} {v w : View} {t t' : Turn S d} (J : List Entry) → (h : WasTaken written flushed target faults v w t) → HasTurn v w J t.book.log.lines.spent → IsTurn written flushed target faults w t'
    → (only v).failed ≡ true → t'.book.log.lines.spent ≡ true
failed_taken {S} {d} {written} {flushed} {target} {faults} {v} {w} {t} {t'} J h has turn e =
    let before : (only h.before).failed ≡ true = ap (λ (ps : List RingPart). (slice_index_or ps 0 no_part).failed) h.missed.parts ∙ e in
    let told : (only w).failed ≡ t.book.log.lines.spent = ap (λ (p : RingPart). p.failed) (only_is w (take_part J t.book.log.lines.spent (only v)) has.parts) in
    turn.refused.1 (told ∙ h.taken.book.still before)

-- and a lone ring finds the book broken only if it was known so
pub alone_taken : {S : Type 0} {d : Ghosts S} {written flushed target : S → Option (List ℕ)} {faults : S → ℕ} {v w : View} {t : Turn S d} → WasTaken written flushed target faults v w t → v.opening.rings ≡ 1 → t.book.log.lines.spent ≡ true → (only v).failed ≡ true
alone_taken {S} {d} {written} {flushed} {target} {faults} {v} {w} {t} h lone e =
    ap (λ (ps : List RingPart). (slice_index_or ps 0 no_part).failed) (sym h.missed.parts) ∙ h.taken.book.alone (ap (λ (o : CoreOpening). o.rings) h.missed.opening ∙ lone) e

-- its sheet then
pub sheet_taken : (v w : View) (J : List Entry) (failed : Bool) (ns : List Note) → HasTurn v w J failed → written_of w ns ≡ sheet_after v.opening (only v).core.ring (sheet_with J (only v)) ns
sheet_taken v w J failed ns h i =
    let is : only w ≡ take_part J failed (only v) = only_is w (take_part J failed (only v)) h.parts in
    sheet_after (h.opening i) (is i).core.ring (record { journal = journal_in (is i).turn; part = (is i).core; glues = (is i).glues }) ns

-- what it knows of the journal
pub journal_known : (v w : View) (J : List Entry) (failed : Bool) → HasTurn v w J failed → Seen w → KnowsJournal v J
journal_known v w J failed h s =
    let p : RingPart = only v in
    let x : RingPart = take_part J failed p in
    let k : IsPart w.layout s.core s.glue x = subst (IsPart w.layout s.core s.glue) (only_is w x h.parts) (part_of w s (one_is w x h.parts)) in
    let same : J ≡ s.core.journal = turn_is s.core p.core.ring (record { journal = J }) (sym k.turn) in
    let opening : v.opening ≡ s.core.opening = sym h.opening ∙ s.opening in
    record {
      ended_is = λ e. (λ i. ended (opening i).formula (same i)) ∙ k.ended_is e;
      recent_is = (λ i. recent p.core.ring (later (opening i) (same i))) ∙ recent_own s.core p.core.ring (left_sound s.core.opening s.core s.left) k.ring ∙ ap (λ (q : Part). recent p.core.ring (map (λ (e : Placed). e.entry) q.wrote)) (sym k.part);
    }

-- The turn is given back

pub turn_given : (v w u : View) (J : List Entry) (was : Bool) (ns ms : List Note) (x : Option Refusal) (failed : Bool) → HasTurn v w J was → u ≡ after_give ms x failed w → ms ≡ ns → ((only v).failed ≡ true → failed ≡ true) → GaveTurn v u J ns x failed
turn_given v w u J was ns ms x failed h is same still = record {
  parts = ap (λ (y : View). y.parts) is ∙ (λ i. on_first (give_part (h.opening i) (sheet_taken v w J was ms h i) x failed) (h.parts i)) ∙ (λ i. give_part v.opening (sheet_after v.opening (only v).core.ring (sheet_with J (only v)) (same i)) x failed (only v) ∷ []);
  layout = ap (λ (y : View). y.layout) is ∙ h.layout;
  opening = ap (λ (y : View). y.opening) is ∙ h.opening;
  stop = ap (λ (y : View). y.stop) is ∙ h.stop;
  looks = ap (λ (y : View). y.looks) is ∙ h.looks;
  still = still;
}

-- the pass is the ring's again, with this part
pub ring_turns : {B : Type 0} {t : Shared B} {p : Seat (Option B) View} {n : ℕ} {st : List Cref} {o : Own} (q : Seat (Option B) View) (x : RingPart) (o' : Own) → IsRingPass t p n st o → IsPassOf t q → q.id ≡ p.id → q.me.1 ≡ []
    → q.me.0.opening ≡ p.me.0.opening → q.me.0.parts ≡ x ∷ [] → x.core.ring ≡ (only p.me.0).core.ring → x.turn ≡ None → o'.home ≡ home_of q → IsOwn x o' → (p.me.0.opening.rings ≡ 1 → x.failed ≡ true → is_usable o'.refused ≡ false)
    → o'.hinted ≡ o.hinted → (HasNumbers (only p.me.0).core.seen (only p.me.0).core.numbers p.me.0.layout.vars o.numbers → HasNumbers x.core.seen x.core.numbers p.me.0.layout.vars o'.numbers) → IsRingPass t q n st o'
ring_turns {B} {t} {p} {n} {st} {o} q x o' r pass id slots opening is ring turn home own alone tells numbers = ring_changes q x o' r pass (id, slots ∙ sym r.slots) opening is ring (turn ∙ sym r.free) home own alone tells numbers

-- its room is as it was, if nothing else waits and it wrote no less
pub room_turns : (v u : View) (x : RingPart) (last : Option Cref) (ws : List Waiting) (room : ℕ) → u.opening ≡ v.opening → u.parts ≡ x ∷ [] → x.core.waiting ≡ (only v).core.waiting → x.core.shared ≡ (only v).core.shared → length (only v).core.wrote ≤ length x.core.wrote
    → HasRoom (only v) v.opening.rings last ws room → HasRoom (only u) u.opening.rings last ws room
room_turns v u x last ws room opening is waiting shared more m =
    subst (λ (o : CoreOpening). HasRoom (only u) o.rings last ws room) (sym opening) (subst (λ (y : RingPart). HasRoom y v.opening.rings last ws room) (sym (only_is u x is)) (record {
      waits = subst (AreWaiting ws) (sym waiting) m.waits;
      places = m.places;
      few = let k = m.few in omega arith;
    }))

pub units_turns : (v u : View) (x : RingPart) (seen : List Literal) (a b : ℕ) → u.layout ≡ v.layout → u.parts ≡ x ∷ [] → x.core.seen ≡ (only v).core.seen → HasUnits (only v) v.layout.vars seen a b → HasUnits (only u) u.layout.vars seen a b
units_turns v u x seen a b layout is e m = units_keep v u seen a b (ap (λ (y : RingPart). y.core.seen) (only_is u x is) ∙ e) layout m

-- Refusals

-- if nothing was written before
journal_taken : {S : Type 0} {d : Ghosts S} (v w : View) (t : Turn S d) (J : List Entry) (failed : Bool) → HasTurn v w J failed → t.noted.items ≡ [] → (sheet w t).journal ≡ J
journal_taken v w t J failed h none = ap (λ (ns : List Note). (written_of w ns).journal) none ∙ ap (λ (s : Sheet). s.journal) (sheet_taken v w J failed [] h)

-- what is left of the book if the turn wrote none
fault_same : {S : Type 0} {d : Ghosts S} (t t' : Turn S d) (e : TurnStop) → is_fault (port_stop e) ≡ false → (e ≢ ProofFault → AreAlike t.book t'.book) → t'.book.log.lines.spent ≡ t.book.log.lines.spent
fault_same t t' e quiet alike = ap (λ k. k.spent) (alike (λ q. true≢false (sym (ap (λ (y : TurnStop). is_fault (port_stop y)) q) ∙ quiet))).lines

broken_same : {S : Type 0} {d : Ghosts S} (t t' : Turn S d) → (Broken ≢ ProofFault → AreAlike t.book t'.book) → t'.book.log.lines.spent ≡ t.book.log.lines.spent
broken_same t t' alike = ap (λ k. k.spent) (alike (λ q. cc q)).lines

-- why a turn wrote nothing more behind this journal
pub cause_tells : {S : Type 0} {d : Ghosts S} (faults : S → ℕ) (v w : View) (t t' : Turn S d) (K : List Entry) (e : TurnStop) → ended v.opening.formula K ≡ ended w.opening.formula (sheet w t).journal → (e ≢ ProofFault → AreAlike t.book t'.book) → IsCause faults w t t' e
    → IsWhy v.opening K e × TellsFault e t.book.log.lines.spent t'.book.log.lines.spent
cause_tells faults v w t t' K e same alike c = by e alike c
  where
    by : (x : TurnStop) → (x ≢ ProofFault → AreAlike t.book t'.book) → IsCause faults w t t' x → IsWhy v.opening K x × TellsFault x t.book.log.lines.spent t'.book.log.lines.spent
    by Ended a k = (same ∙ k, fault_same t t' Ended refl a)
    by Broken a k = (same ∙ k.0, (k.1, broken_same t t' a ∙ k.1))
    by (NoHole need most) a k = ((same ∙ k.0, let x = k.3 in let y = k.4 in omega arith), (k.1, fault_same t t' (NoHole need most) refl a ∙ k.1))
    by Memory a k = (same ∙ k.0.going, (k.1, fault_same t t' Memory refl a ∙ k.1))
    by ProofFault a k = (same ∙ k.0.going, (k.1, k.2))

pub cause_why : {S : Type 0} {d : Ghosts S} (faults : S → ℕ) (v w : View) (t t' : Turn S d) (J : List Entry) (failed : Bool) (e : TurnStop) → HasTurn v w J failed → t.noted.items ≡ [] → (e ≢ ProofFault → AreAlike t.book t'.book) → IsCause faults w t t' e
    → IsWhy v.opening J e × TellsFault e t.book.log.lines.spent t'.book.log.lines.spent
cause_why faults v w t t' J failed e h none alike c = cause_tells faults v w t t' J e (λ i. ended (sym h.opening i).formula (sym (journal_taken v w t J failed h none) i)) alike c

pub add_cause_why : {S : Type 0} {d : Ghosts S} (faults : S → ℕ) (v w : View) (t t' : Turn S d) (J : List Entry) (failed : Bool) (size : ℕ) (e : TurnStop) → HasTurn v w J failed → t.noted.items ≡ [] → (e ≢ ProofFault → AreAlike t.book t'.book) → IsAddCause faults w t t' size e
    → IsWhy v.opening J e × TellsFault e t.book.log.lines.spent t'.book.log.lines.spent
add_cause_why faults v w t t' J failed size e h none alike c = by e alike c
  where
    same : ended v.opening.formula J ≡ ended w.opening.formula (sheet w t).journal
    same i = ended (sym h.opening i).formula (sym (journal_taken v w t J failed h none) i)

    by : (x : TurnStop) → (x ≢ ProofFault → AreAlike t.book t'.book) → IsAddCause faults w t t' size x → IsWhy v.opening J x × TellsFault x t.book.log.lines.spent t'.book.log.lines.spent
    by Ended a k = (same ∙ k, fault_same t t' Ended refl a)
    by Broken a k = (same ∙ k.0, (k.1, broken_same t t' a ∙ k.1))
    by (NoHole need most) a (inl k) = ((same ∙ k.0, let x = k.3 in let y = k.4 in omega arith), (k.1, fault_same t t' (NoHole need most) refl a ∙ k.1))
    by (NoHole need most) a (inr k) = ((same ∙ k.0.going, k.4), (k.1, fault_same t t' (NoHole need most) refl a ∙ k.1))
    by Memory a k = (same ∙ k.0.0.going, (k.0.1, fault_same t t' Memory refl a ∙ k.0.1))
    by ProofFault a k = (same ∙ k.0.0.going, (k.0.1, k.0.2))

-- the ring knows no more of the log's end than is so
pub not_ended : (v : View) (J : List Entry) → KnowsJournal v J → ended v.opening.formula J ≡ false → (only v).ended ≡ false
not_ended v J k going = by (only v).ended k.ended_is
  where
    by : (b : Bool) → (b ≡ true → ended v.opening.formula J ≡ true) → b ≡ false
    by true h = absurd (true≢false (sym (h refl) ∙ going))
    by false h = refl

-- nor does the port
pub port_going : (v : View) (o : Own) (J : List Entry) → IsOwn (only v) o → KnowsJournal v J → ended v.opening.formula J ≡ false → o.ended ≡ false
port_going v o J own k going = by o.ended own.ended_is
  where
    by : (b : Bool) → (b ≡ true → (only v).ended ≡ true) → b ≡ false
    by true h = absurd (true≢false (sym (h refl) ∙ not_ended v J k going))
    by false h = refl

-- The port, if the turn wrote nothing

-- if the ring finds the log broken, another one has broken it
two_rings : (v u : View) (refused : Option PortStop) (w : WroteNone v u Broken) → is_usable refused ≡ true → (v.opening.rings ≡ 1 → (only v).failed ≡ true → is_usable refused ≡ false) → 1 ≤ v.opening.rings → 2 ≤ v.opening.rings
two_rings v u refused w usable was some = dite (ℕ_discrete v.opening.rings 1) (λ lone. absurd (true≢false (sym usable ∙ was lone (w.alone lone w.fault.0)))) (λ more. omega arith)

pub refused_here : (v u : View) (o : Own) (e : TurnStop) (home : List ℕ) → IsOwn (only v) o → is_usable o.refused ≡ true → (v.opening.rings ≡ 1 → (only v).failed ≡ true → is_usable o.refused ≡ false) → 1 ≤ v.opening.rings → WroteNone v u e → home ≡ o.home
    → Refused (port_of v o) (port_of u (record o { refused = refused_after e o.refused; ended = ended_after e o.ended; home = home })) (port_stop e)
refused_here v u o e home own usable was some w hm = record { reason = by_reason e w; state = port_step v u new o' w.gave.parts w.gave.layout w.gave.opening w.gave.stop w.gave.looks ∙ by_state e }
  where
    new : RingPart
    new = give_part v.opening (sheet_with w.journal (only v)) w.refused w.failed (only v)

    o' : Own
    o' = record o { refused = refused_after e o.refused; ended = ended_after e o.ended; home = home }

    by_reason : (y : TurnStop) → WroteNone v u y → HasReason (port_of v o) (port_stop y)
    by_reason Ended h = tt
    by_reason Broken h = (port_going v o h.journal own h.knows h.why, two_rings v u o.refused h usable was some)
    by_reason (NoHole need most) h = (port_going v o h.journal own h.knows h.why.0, h.why.1)
    by_reason Memory h = tt
    by_reason ProofFault h = port_going v o h.journal own h.knows h.why

    by_state : (y : TurnStop) → port_with v new (record o { refused = refused_after y o.refused; ended = ended_after y o.ended; home = home }) ≡ after_refusal (port_of v o) None (port_stop y)
    by_state Ended i = record (port_of v o) { refused = Some port.Ended; ended = true; home = hm i }
    by_state Broken i = record (port_of v o) { refused = Some port.Broken; home = hm i }
    by_state (NoHole need most) i = record (port_of v o) { refused = Some (port.NoHole (record { need = need; largest = most })); home = hm i }
    by_state Memory i = record (port_of v o) { home = hm i }
    by_state ProofFault i = record (port_of v o) { refused = Some port.ProofFault; home = hm i }

-- as a call tells it
pub refused_as : {B : Type 0} {t : Shared B} {p : Seat (Option B) View} {n : ℕ} {st : List Cref} {u : View} {e : TurnStop} (o : Own) (s : PortState) (kept : Option PortStop) (over : Bool) (stop : PortStop) (home : List ℕ) → port_of p.me.0 o ≡ s → IsRingPass t p n st o → is_usable s.refused ≡ true → WroteNone p.me.0 u e
    → kept ≡ refused_after e o.refused → over ≡ ended_after e o.ended → stop ≡ port_stop e → home ≡ o.home → Refused s (port_of u (record o { refused = kept; ended = over; home = home })) stop
refused_as {B} {t} {p} {n} {st} {u} {e} o s kept over stop home view r usable w k b t' hm =
    subst (λ (y : PortState × Option PortStop × Bool × PortStop). Refused y.0 (port_of u (record o { refused = y.1; ended = y.2; home = home })) y.3) (λ i. (view i, sym k i, sym b i, sym t' i))
    (refused_here p.me.0 u o e home r.own (ap (λ (y : PortState). is_usable y.refused) view ∙ usable) r.alone_is (rings_here p.me.0 r.pass.3 r.one).0 w hm)

-- the ring knows of the end what the port does
pub end_refused : (v : View) (o : Own) (J : List Entry) (e : TurnStop) → IsOwn (only v) o → IsWhy v.opening J e → ended_after e o.ended ≡ true → ((only v).ended || ended v.opening.formula J) ≡ true
end_refused v o J Ended own why k = or_right (only v).ended (ended v.opening.formula J) why
end_refused v o J Broken own why k = or_left (only v).ended (ended v.opening.formula J) (own.ended_is k)
end_refused v o J (NoHole need most) own why k = or_left (only v).ended (ended v.opening.formula J) (own.ended_is k)
end_refused v o J Memory own why k = or_left (only v).ended (ended v.opening.formula J) (own.ended_is k)
end_refused v o J ProofFault own why k = or_left (only v).ended (ended v.opening.formula J) (own.ended_is k)

-- the turn notes in the ring's part what the port answers
newer_answer : (old : Option Refusal) (kept : Option PortStop) (e : TurnStop) → kept ≡ option_map answer_noted old → refused_after e kept ≡ option_map answer_noted (newer (noted_as e None) old)
newer_answer old kept Ended h = refl
newer_answer old kept Broken h = refl
newer_answer old kept (NoHole need most) h = refl
newer_answer old kept Memory h = h
newer_answer old kept ProofFault h = refl

pub answer_here : (v u : View) (o : Own) (e : TurnStop) → IsOwn (only v) o → (w : WroteNone v u e) → refused_after e o.refused ≡ option_map answer_noted (newer w.refused (only v).refused)
answer_here v u o e own w = newer_answer (only v).refused o.refused e own.refused_is ∙ ap (λ (x : Option Refusal). option_map answer_noted (newer x (only v).refused)) (sym w.noted)

-- and the ring knows of a failed write
told_of : (e : TurnStop) (was failed : Bool) → TellsFault e was failed → is_fault (port_stop e) ≡ true → failed ≡ true
told_of Ended was failed h k = absurd (true≢false (sym k))
told_of Broken was failed h k = h.1
told_of (NoHole need most) was failed h k = absurd (true≢false (sym k))
told_of Memory was failed h k = absurd (true≢false (sym k))
told_of ProofFault was failed h k = h.1

pub fault_refused : (v u : View) (o : Own) (e : TurnStop) → IsOwn (only v) o → (w : WroteNone v u e) → is_usable (refused_after e o.refused) ≡ false → w.failed ≡ true
fault_refused v u o Ended own w k = absurd (true≢false k)
fault_refused v u o Broken own w k = told_of Broken w.was w.failed w.fault refl
fault_refused v u o (NoHole need most) own w k = absurd (true≢false k)
fault_refused v u o Memory own w k = w.gave.still (own.faulty_is k)
fault_refused v u o ProofFault own w k = told_of ProofFault w.was w.failed w.fault refl

-- a write that failed before the turn, or in it, where that was not the answer
told_before : (e : TurnStop) (was failed : Bool) → TellsFault e was failed → is_fault (port_stop e) ≡ false → failed ≡ true → was ≡ true
told_before Ended was failed h k f = sym h ∙ f
told_before Broken was failed h k f = h.0
told_before (NoHole need most) was failed h k f = absurd (true≢false (sym f ∙ h.1))
told_before Memory was failed h k f = absurd (true≢false (sym f ∙ h.1))
told_before ProofFault was failed h k f = absurd (true≢false k)

-- a lone ring that is told of a failed write by then was refused for a fault
pub fault_alone : (v u : View) (o : Own) (e : TurnStop) → is_usable o.refused ≡ true → ((only v).failed ≡ true → is_usable o.refused ≡ false) → (w : WroteNone v u e) → v.opening.rings ≡ 1 → w.failed ≡ true → is_usable (refused_after e o.refused) ≡ false
fault_alone v u o Ended usable was w lone f = absurd (true≢false (sym usable ∙ was (w.alone lone (told_before Ended w.was w.failed w.fault refl f))))
fault_alone v u o Broken usable was w lone f = refl
fault_alone v u o (NoHole need most) usable was w lone f = absurd (true≢false (sym f ∙ w.fault.1))
fault_alone v u o Memory usable was w lone f = absurd (true≢false (sym f ∙ w.fault.1))
fault_alone v u o ProofFault usable was w lone f = refl

pub ring_refused : {B : Type 0} {t : Shared B} {p : Seat (Option B) View} {n : ℕ} {st : List Cref} {o : Own} (q : Seat (Option B) View) (e : TurnStop) (kept : Option PortStop) (over : Bool) → IsRingPass t p n st o → is_usable o.refused ≡ true → IsPassOf t q → q.id ≡ p.id → q.me.1 ≡ [] → WroteNone p.me.0 q.me.0 e → kept ≡ refused_after e o.refused → over ≡ ended_after e o.ended
    → IsRingPass t q n st (record o { refused = kept; ended = over; home = home_of q })
ring_refused {B} {t} {p} {n} {st} {o} q e kept over r usable pass id slots h a b =
    ring_turns q (give_part p.me.0.opening (sheet_with h.journal (only p.me.0)) h.refused h.failed (only p.me.0)) (record o { refused = kept; ended = over; home = home_of q }) r pass id slots h.gave.opening h.gave.parts refl refl refl
    (record { passed = r.own.passed; distinct = r.own.distinct; told = r.own.told; taken = r.own.taken; ended_is = λ k. end_refused p.me.0 o h.journal e r.own h.why (sym b ∙ k); refused_is = a ∙ answer_here p.me.0 q.me.0 o e r.own h; faulty_is = λ k. fault_refused p.me.0 q.me.0 o e r.own h (ap is_usable (sym a) ∙ k); making = r.own.making; listed = r.own.listed })
    (λ lone f. ap is_usable a ∙ fault_alone p.me.0 q.me.0 o e usable (r.alone_is lone) h lone f)
    refl
    (λ m. m)

pub room_refused : (v u : View) (e : TurnStop) (last : Option Cref) (ws : List Waiting) (room : ℕ) → WroteNone v u e → HasRoom (only v) v.opening.rings last ws room → HasRoom (only u) u.opening.rings last ws room
room_refused v u e last ws room h m = room_turns v u (give_part v.opening (sheet_with h.journal (only v)) h.refused h.failed (only v)) last ws room h.gave.opening h.gave.parts refl refl (omega arith) m

pub units_refused : (v u : View) (e : TurnStop) (seen : List Literal) (a b : ℕ) → WroteNone v u e → HasUnits (only v) v.layout.vars seen a b → HasUnits (only u) u.layout.vars seen a b
units_refused v u e seen a b h m = units_turns v u (give_part v.opening (sheet_with h.journal (only v)) h.refused h.failed (only v)) seen a b h.gave.layout h.gave.parts refl m

-- What a turn writes

-- the note may be written next, in a turn that has none
pub may_next : {S : Type 0} {d : Ghosts S} (v w : View) (t : Turn S d) (J : List Entry) (failed : Bool) (n : Note) → HasTurn v w J failed → t.noted.items ≡ [] → MayNote v.layout v.opening (only v).core.ring J (only v).core n → MayNext w t n
may_next v w t J failed n h none may = subst (λ (y : Layout × CoreOpening × ℕ × Sheet). MayNote y.0 y.1 y.2 y.3.journal y.3.part n) (λ i. (sym h.layout i, sym h.opening i, sym ring i, sym is i)) may
  where
    ring : (only w).core.ring ≡ (only v).core.ring
    ring = ap (λ (p : RingPart). p.core.ring) (only_is w (take_part J failed (only v)) h.parts)

    is : sheet w t ≡ sheet_with J (only v)
    is = ap (written_of w) none ∙ sheet_taken v w J failed [] h

-- a turn with one note
pub wrote_one : {S : Type 0} {d : Ghosts S} {written flushed target : S → Option (List ℕ)} {faults : S → ℕ} {v w : View} {t t' : Turn S d} (u : View) (n : Note) → v.parts ≡ only v ∷ [] → (h : WasTaken written flushed target faults v w t) → Seen w → Grown written flushed target faults w t t' n
    → u ≡ after_give t'.noted.items t'.refused t'.book.log.lines.spent w → Wrote v u n
wrote_one {S} {d} {written} {flushed} {target} {faults} {v} {w} {t} {t'} u n one h s g is =
    let has : HasTurn v w h.taken.book.journal t.book.log.lines.spent = turn_taken one h in
    let J : List Entry = h.taken.book.journal in
    let noted : t'.noted.items ≡ n ∷ [] = g.noted ∙ ap (λ (ns : List Note). ns ++ n ∷ []) h.taken.noted in
    record {
      journal = J;
      refused = t'.refused;
      failed = t'.book.log.lines.spent;
      knows = journal_known v w J t.book.log.lines.spent has s;
      gave = turn_given v w u J t.book.log.lines.spent (n ∷ []) t'.noted.items t'.refused t'.book.log.lines.spent has is noted (failed_taken J h has g.turn);
      going = (λ i. ended (sym has.opening i).formula (sym (journal_taken v w t J t.book.log.lines.spent has h.taken.noted) i)) ∙ g.going.0.going;
      whole = g.whole;
      quiet = g.refused ∙ h.taken.refused;
    }

-- with a unit, under the number that it was given
pub wrote_unit_line : {S : Type 0} {d : Ghosts S} {written flushed target : S → Option (List ℕ)} {faults : S → ℕ} {v w : View} {t t' : Turn S d} (u : View) (kind : Kind) (lit : Literal) (hints : List ℕ) (number : ℕ) → v.parts ≡ only v ∷ [] → (h : WasTaken written flushed target faults v w t) → Seen w → Grown written flushed target faults w t t' (UnitNote kind lit hints)
    → u ≡ after_give t'.noted.items t'.refused t'.book.log.lines.spent w → number ≡ next_number w.opening (sheet w t).journal → WroteUnitLine v u kind lit hints number
unfolding wrote_one
wrote_unit_line {S} {d} {written} {flushed} {target} {faults} {v} {w} {t} {t'} u kind lit hints number one h s g is n_is =
    let has : HasTurn v w h.taken.book.journal t.book.log.lines.spent = turn_taken one h in
    record {
      wrote = wrote_one u (UnitNote kind lit hints) one h s g is;
      number_is = n_is ∙ (λ i. next_number (has.opening i) (journal_taken v w t h.taken.book.journal t.book.log.lines.spent has h.taken.noted i));
    }

-- what holds of a number that was answered
pub ok_number : {T E : Type 0} {G : Type 0} {P Q : T → Type 0} (r : Result T E) → (G → (x : T) → Q x → P x) → OnOk r G → IfOk r Q → IfOk r P
ok_number (Ok x) f g q = f g x q
ok_number (Err e) f g q = tt

-- a turn with none
pub wrote_none : {S : Type 0} {d : Ghosts S} {written flushed target : S → Option (List ℕ)} {faults : S → ℕ} {v w : View} {t t' : Turn S d} (u : View) (e : TurnStop) → v.parts ≡ only v ∷ [] → (h : WasTaken written flushed target faults v w t) → Seen w → TurnRefused written flushed target faults w t t' e
    → IsWhy v.opening h.taken.book.journal e × TellsFault e t.book.log.lines.spent t'.book.log.lines.spent → u ≡ after_give t'.noted.items t'.refused t'.book.log.lines.spent w → WroteNone v u e
wrote_none {S} {d} {written} {flushed} {target} {faults} {v} {w} {t} {t'} u e one h s r why is =
    let has : HasTurn v w h.taken.book.journal t.book.log.lines.spent = turn_taken one h in
    let J : List Entry = h.taken.book.journal in
    record {
      journal = J;
      refused = t'.refused;
      was = t.book.log.lines.spent;
      failed = t'.book.log.lines.spent;
      knows = journal_known v w J t.book.log.lines.spent has s;
      gave = turn_given v w u J t.book.log.lines.spent [] t'.noted.items t'.refused t'.book.log.lines.spent has is (r.noted ∙ h.taken.noted) (failed_taken J h has r.turn);
      why = why.0;
      noted = r.refused ∙ ap (noted_as e) h.taken.refused;
      fault = why.1;
      before = λ f. h.taken.book.still (ap (λ (ps : List RingPart). (slice_index_or ps 0 no_part).failed) h.missed.parts ∙ f);
      alone = λ lone f. alone_taken h lone f;
    }

-- a reduction may be noted if the ring has learned enough
pub may_reduce : (v : View) (J : List Entry) → KnowsJournal v J → LEARNED_PER_REDUCTION ≤ length (recent (only v).core.ring (entries_of (only v))) → LEARNED_PER_REDUCTION ≤ length (recent (only v).core.ring (later v.opening J))
may_reduce v J k h = subst (λ (cs : List (List Literal)). LEARNED_PER_REDUCTION ≤ length cs) (sym k.recent_is) h

-- a unit may be added if it is fresh to the ring's own entries
pub may_add_unit : (v : View) (J : List Entry) (kind : Kind) (lit : Literal) → KnowsJournal v J → MayAddUnit (own_opening v) (entries_of (only v)) (only v).core (only v).core.ring kind (lit ∷ []) → MayAddUnit v.opening J (only v).core (only v).core.ring kind (lit ∷ [])
may_add_unit v J Ruler lit k h = h
may_add_unit v J Learn lit k h = (λ i. (only v).core.ticket && not (list_any (includes (lit ∷ [])) (start_clauses (opening_of v.opening) ++ k.recent_is i))) ∙ h
may_add_unit v J Derive lit k h = h
may_add_unit v J UnitLine lit k h = h

-- Results

pub ok_map : {T E : Type 0} {P Q : Type 0} (r : Result T E) → (P → Q) → OnOk r P → OnOk r Q
ok_map (Ok x) f h = f h
ok_map (Err e) f h = h

pub on_either : {T E : Type 0} {P R : Type 0} {Q : E → Type 0} (r : Result T E) → (P → R) → ((e : E) → Q e → R) → OnOk r P → IfErr r Q → R
on_either (Ok x) f k h j = f h
on_either (Err e) f k h j = k e j

pub err_map : {T E : Type 0} {P Q R : E → Type 0} (r : Result T E) → ((e : E) → P e → Q e → R e) → IfErr r P → IfErr r Q → IfErr r R
err_map (Ok x) f h k = tt
err_map (Err e) f h k = f e h k

-- Entries

pub mine_last : (ws : List Placed) (w : Placed) → map (λ (e : Placed). e.entry) (ws ++ w ∷ []) ≡ map (λ (e : Placed). e.entry) ws ++ w.entry ∷ []
mine_last [] w = refl
mine_last (y ∷ ws) w = ap (λ (es : List Entry). y.entry ∷ es) (mine_last ws w)

-- Tickets

-- the port tells a ticket as the ring's part does
pub ticket_as : (kind : Kind) (t : Bool) → ticket_after kind t ≡ ports.ticket_after kind t
ticket_as Ruler t = refl
ticket_as Learn t = refl
ticket_as Derive t = refl
ticket_as UnitLine t = refl

-- Reductions

-- the ring's part then
abbrev pub reduced_part : View → List Entry → Option Refusal → Bool → RingPart
reduced_part v J x failed = give_part v.opening (sheet_after v.opening (only v).core.ring (sheet_with J (only v)) (Reduce ∷ [])) x failed (only v)

pub reduced_here : (v u : View) (o : Own) (ts : List Cref) (home : List ℕ) → IsOwn (only v) o → (h : Wrote v u Reduce) → ts ≡ [] → home ≡ o.home → NotedReduce (port_of v o) (port_of u (record o { taken = ts; home = home }))
reduced_here v u o ts home own h none hm = record {
  going = port_going v o h.journal own h.knows h.going;
  state = port_step v u (reduced_part v h.journal h.refused h.failed) (record o { taken = ts; home = home }) h.gave.parts h.gave.layout h.gave.opening h.gave.stop h.gave.looks
      ∙ (λ i. record (port_of v o) { mine = mine_last (only v).core.wrote (record { place = length h.journal; entry = ReduceEntry (only v).core.ring }) i; taken = map (λ (c : Cref). c.address) (none i); home = hm i });
}

-- as the call tells it
pub reduced_as : {v u : View} (o : Own) (s : PortState) (ts : List Cref) (home : List ℕ) → port_of v o ≡ s → IsOwn (only v) o → Wrote v u Reduce → ts ≡ [] → home ≡ o.home → NotedReduce s (port_of u (record o { taken = ts; home = home }))
reduced_as {v} {u} o s ts home view own h none hm = subst (λ (y : PortState). NotedReduce y (port_of u (record o { taken = ts; home = home }))) view (reduced_here v u o ts home own h none hm)

pub ring_reduced : {B : Type 0} {t : Shared B} {p : Seat (Option B) View} {n : ℕ} {st : List Cref} {o : Own} (q : Seat (Option B) View) (ts : List Cref) → IsRingPass t p n st o → IsPassOf t q → q.id ≡ p.id → q.me.1 ≡ [] → Wrote p.me.0 q.me.0 Reduce → ts ≡ [] → IsRingPass t q n st (record o { taken = ts; home = home_of q })
ring_reduced {B} {t} {p} {n} {st} {o} q ts r pass id slots h none =
    ring_turns q (reduced_part p.me.0 h.journal h.refused h.failed) (record o { taken = ts; home = home_of q }) r pass id slots h.gave.opening h.gave.parts refl refl refl (record {
      passed = r.own.passed;
      distinct = r.own.distinct;
      told = r.own.told;
      taken = subst (λ (cs : List Cref). All (λ c. 0 < times_at c.address (only p.me.0).core.held) cs) (sym none) (λ k d lt. absurd (omega arith));
      ended_is = λ e. or_left (only p.me.0).ended (ended p.me.0.opening.formula (h.journal ++ ReduceEntry (only p.me.0).core.ring ∷ [])) (r.own.ended_is e);
      refused_is = r.own.refused_is ∙ ap (λ (x : Option Refusal). option_map answer_noted (newer x (only p.me.0).refused)) (sym h.quiet);
      faulty_is = λ e. h.gave.still (r.own.faulty_is e);
      making = r.own.making;
      listed = listed_last (only p.me.0) (reduced_part p.me.0 h.journal h.refused h.failed) (record { place = length h.journal; entry = ReduceEntry (only p.me.0).core.ring }) refl refl (λ l. refl) r.own.listed;
    })
    (λ _ e. absurd (true≢false (sym e ∙ h.whole)))
    refl
    (λ m. m)

pub room_reduced : (v u : View) (last : Option Cref) (ws : List Waiting) (room : ℕ) → Wrote v u Reduce → HasRoom (only v) v.opening.rings last ws room → HasRoom (only u) u.opening.rings last ws room
room_reduced v u last ws room h m =
    let long = length-append (only v).core.wrote (record { place = length h.journal; entry = ReduceEntry (only v).core.ring } ∷ []) in
    room_turns v u (reduced_part v h.journal h.refused h.failed) last ws room h.gave.opening h.gave.parts refl refl (omega arith) m

pub units_reduced : (v u : View) (seen : List Literal) (a b : ℕ) → Wrote v u Reduce → HasUnits (only v) v.layout.vars seen a b → HasUnits (only u) u.layout.vars seen a b
units_reduced v u seen a b h m = units_turns v u (reduced_part v h.journal h.refused h.failed) seen a b h.gave.layout h.gave.parts refl m
