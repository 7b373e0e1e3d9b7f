-- What is kept of a port in memory, and what its calls find.
use Rattle.std.proofs.Common.{◌≡◌, ◌≢◌, ℕ, suc, ◌+◌, ◌<◌, ◌≤◌, ◌^◌, ◌==◌, true, List, [], ◌∷◌, ◌++◌, length, take, drop, get_or, sym, refl, ap, subst, ◌∙◌, inl, inr, arith, Some, None, IsSome, IfSome, cond, eq-eqb, ne_eqb, false}
use Rattle.std.specs.List.{All, slice_get, find, list_any}
use Rattle.std.specs.Prelude.{is_some, Result, Ok, Err}
use Rattle.std.specs.Option.{option_or, unwrap_or}
use Rattle.std.proofs.lemmas.List.Folds.{find-append, list_any-append}
use Rattle.std.specs.declared.option.Option.{Option}
use Rattle.std.proofs.lemmas.Bool.{false≢true, true≢false, or_left}
use Rattle.std.proofs.lemmas.List.Elements.{All-append, All-take}
use Rattle.sat_words.specs.Literal.{Literal, same}
use Rattle.sat_words.specs.Clause.{has}
use Rattle.sat_words.specs.declared.shared.Cref.{Cref}
use Rattle.sat_words.specs.declared.shared.Head.{Head}
use Rattle.sat_words.specs.declared.shared.Stop.{Stop}
use Rattle.sat_words.specs.declared.shared.TheConstants.{STOP_SAT, STOP_MEMORY}
use Rattle.rup_model.specs.declared.journal.Kind.{Kind}
use Rattle.rup_model.specs.NumberedLines.{NumberedLine}
use Rattle.drat_text.specs.LineState.{LineState}
use Rattle.ring_port.specs.declared.draw.Tickets.{Tickets}
use Rattle.ring_port.specs.declared.stops.PortStop.{PortStop}
use Rattle.ring_port.specs.declared.stops.PortStop.TheVariants.{Ended, Broken, ProofFault, NoHole, Memory}
use Rattle.rup_model.proofs.Lists.{In, Contains_In}
use Rattle.ring_port.specs.PortState.{Holding, PortState, AreApart, IsPort, IsKept, IsOn, IsStop, held_at, head_of, lits_in}
use Rattle.ring_port.specs.Port.{KeepsHeld, WroteUnit, Refused, after_refusal}
use Rattle.ring_port.specs.OwnLog.{LogData, AddedEntry, NotPut, WasReduced}
use Rattle.ring_port.specs.PlainPort.{PlainData, PlainView, state_of, IsOwnStop, IsPlain, HasNumber, HasNumbers, told_with}
use Rattle.ring_port.specs.Deleting.{without_one, DroppedOnce}
use Rattle.ring_port.proofs.Holdings.{found_in_front, All_In}
use Rattle.ring_port.proofs.LogSteps.{one_All}
use Rattle.ring_port.proofs.Naming.{numbered_all, numbers_later, numbers_fewer, numbers_held, numbers_told}
use Rattle.ring_port.proofs.Dropping.{is_at, none_at, never_at, found_address, find_In, apart_pushed, All_without, apart_without, without_in, find_other, gone, still_none}

-- equal ports have equal states
pub state_is : {v w : PlainView} → v ≡ w → v.state ≡ w.state
state_is e = ap (λ (v : PlainView). v.state) e

own_stop : (o : Option Stop) → IfSome o IsOwnStop → IfSome o (IsStop 1)
own_stop None h = tt
own_stop (Some x) h = record { low = h.low; high = h.high; of_ring = (let e = h.own in omega arith) }

-- one address has one clause
one_at : (hs : List Holding) → AreApart hs → (x y : Holding) → In x hs → In y hs → x.address ≡ y.address → x ≡ y
one_at [] apart x y m n e = absurd m
one_at (h ∷ hs) apart x y (inl e) (inl f) same = sym e ∙ f
one_at (h ∷ hs) apart x y (inl e) (inr n) same = absurd (All_In (λ k. k.address ≢ h.address) hs y apart.0 n (sym same ∙ ap (λ k. k.address) (sym e)))
one_at (h ∷ hs) apart x y (inr m) (inl f) same = absurd (All_In (λ k. k.address ≢ h.address) hs x apart.0 m (same ∙ ap (λ k. k.address) (sym f)))
one_at (h ∷ hs) apart x y (inr m) (inr n) same = one_at hs apart.1 x y m n same

-- a port in memory is a port
pub plain_port : (p : PlainData) → IsPlain p → IsPort (state_of p)
unfolding held_at
plain_port p h = record {
  held = h.held;
  one = λ a b ha hb same. one_at p.held h.apart a b (Contains_In p.held a ha) (Contains_In p.held b hb) same;
  waiting = h.waiting;
  apart = h.dropped;
  once = h.once;
  taken = λ k d lt. absurd (omega arith);
  given = λ k d lt. (list_any-append (same (get_or p.given k d)) (take p.passed p.opening) p.written ∙ or_left _ _ (h.given k d lt));
  start = h.start;
  seen = All-append (IsOn p.vars) (take p.passed p.opening) p.written (All-take (IsOn p.vars) p.passed p.opening h.opening) h.written;
  opening = h.opening;
  stop = own_stop p.stop h.stop;
  ring = omega arith;
  deep = omega arith;
  few = h.few;
  named = λ q. (let n = h.numbers q in numbered_all (state_of p) p.log.output.last p.opening p.written n
      (All-append (HasNumber p.told) (take p.passed p.opening) p.written (All-take (HasNumber p.told) p.passed p.opening n.listed) n.wrote));
}

-- the number is the next, and given last
abbrev pub IsNext : ℕ → ℕ → ℕ → Type 0
IsNext before after number = (number ≡ before + 1) × (after ≡ before + 1)

-- a line that was not put leaves the number given last
pub last_kept : (old new : LogData) (x : NumberedLine) (stop : PortStop) → NotPut old new x stop → new.output.last ≡ old.output.last
last_kept old new x Ended why = ap (λ (g : LogData). g.output.last) why.1
last_kept old new x Broken why = absurd why
last_kept old new x ProofFault why = ap (λ (g : LineState). g.last) why.put.state
last_kept old new x (NoHole lack) why = ap (λ (g : LogData). g.output.last) why.state
last_kept old new x Memory why = ap (λ (g : LogData). g.output.last) why

pub same_last : {before after : ℕ} → after ≡ before → before ≤ after
same_last e = omega arith

pub reduced_last : (old new : LogData) (result : Result (Unit {0}) PortStop) → WasReduced old new result → new.output.last ≡ old.output.last
reduced_last old new (Ok done) did = ap (λ (g : LogData). g.output.last) did.state
reduced_last old new (Err stop) over = ap (λ (g : LogData). g.output.last) over.state

-- a clause that was added has the next
pub next_given : (old new : LogData) (lits : List Literal) (kind : Kind) (hints : List ℕ) (number : ℕ) → AddedEntry old new lits kind hints number → IsNext old.output.last new.output.last number
next_given old new lits kind hints number added = (added.given, ap (λ (g : LineState). g.last) added.put.state)

-- what is looked up
pub at_address : (s : PortState) (a : ℕ) → IsSome (held_at s a) → IsSome (find (is_at a) s.held)
unfolding held_at
at_address s a some = some

pub looked_up : (s : PortState) (a : ℕ) → held_at s a ≡ find (λ h. h.address == a) s.held
unfolding held_at
looked_up s a = refl

-- the clause that is held at an address
pub held_clause : (hs : List Holding) (a : ℕ) → IsSome (find (is_at a) hs) → (x : Holding) × (find (is_at a) hs ≡ Some x)
held_clause hs a some = by (find (is_at a) hs) refl some
  where
    by : (o : Option Holding) → find (is_at a) hs ≡ o → IsSome o → (x : Holding) × (find (is_at a) hs ≡ Some x)
    by None e none = absurd (false≢true none)
    by (Some x) e here = (x, e)

-- none is held at an address that none has
pub free_of : (s : PortState) (a : ℕ) → All (λ h. h.address ≢ a) s.held → held_at s a ≡ None
unfolding held_at
free_of s a all = none_at s.held a all

pub waits_nowhere : (hs : List Holding) (a : ℕ) → All (λ h. h.address ≢ a) hs → list_any (λ h. h.address == a) hs ≡ false
waits_nowhere [] a all = refl
waits_nowhere (x ∷ hs) a all = rw (ne_eqb x.address a (all 0 x (omega arith))) (waits_nowhere hs a (λ k d lt. all (suc k) d (omega arith)))

-- of the log the number given last alone is a part of what is kept
pub plain_log : (p : PlainData) → IsPlain p → (g : LogData) (last : Option Cref) → p.log.output.last ≤ g.output.last → IsPlain (record p { log = g; last = last })
plain_log p h g last le = record { held = h.held; waiting = h.waiting; start = h.start; apart = h.apart; dropped = h.dropped; once = h.once; opening = h.opening; distinct = h.distinct; passed = h.passed; given = h.given; given_room = h.given_room; written = h.written; stop = h.stop; few = h.few; numbers = λ q. numbers_later p.log.output.last p.held p.told p.opening p.written (h.numbers q) g.output.last le }

-- nor is how often no stop was found
pub plain_looked : (p : PlainData) → IsPlain p → (k : ℕ) → IsPlain (record p { looks = k })
plain_looked p h k = record { held = h.held; waiting = h.waiting; start = h.start; apart = h.apart; dropped = h.dropped; once = h.once; opening = h.opening; distinct = h.distinct; passed = h.passed; given = h.given; given_room = h.given_room; written = h.written; stop = h.stop; few = h.few; numbers = h.numbers }

-- nor is how often no unit was left
pub plain_caught : (p : PlainData) → IsPlain p → (k : ℕ) → IsPlain (record p { caught_up = k })
plain_caught p h k = record { held = h.held; waiting = h.waiting; start = h.start; apart = h.apart; dropped = h.dropped; once = h.once; opening = h.opening; distinct = h.distinct; passed = h.passed; given = h.given; given_room = h.given_room; written = h.written; stop = h.stop; few = h.few; numbers = h.numbers }

-- nor are the tickets, but for their number
pub plain_tickets : (p : PlainData) → IsPlain p → (ti : Tickets) → ti.limit ≡ p.tickets.limit → IsPlain (record p { tickets = ti })
plain_tickets p h ti same = record { held = h.held; waiting = h.waiting; start = h.start; apart = h.apart; dropped = h.dropped; once = h.once; opening = h.opening; distinct = h.distinct; passed = h.passed; given = h.given; given_room = h.given_room; written = h.written; stop = h.stop; few = subst (λ (n : ℕ). n < 2 ^ 64) (sym same) h.few; numbers = h.numbers }

-- a stop of its own is set
pub plain_stopped : (p : PlainData) → IsPlain p → (kind : ℕ) → STOP_SAT ≤ kind → kind ≤ STOP_MEMORY → IsPlain (record p { stop = Some (record { kind = kind; ring = 0 }) })
plain_stopped p h kind low high = record { held = h.held; waiting = h.waiting; start = h.start; apart = h.apart; dropped = h.dropped; once = h.once; opening = h.opening; distinct = h.distinct; passed = h.passed; given = h.given; given_room = h.given_room; written = h.written; stop = record { low = low; high = high; own = refl }; few = h.few; numbers = h.numbers }

-- more units are given
pub plain_given : (p : PlainData) → IsPlain p → (n : ℕ) (ls : List Literal) (r : ℕ) → n ≤ length p.opening → All (λ l. has (take n p.opening) l ≡ true) ls → length p.opening ≤ n + r
    → IsPlain (record p { passed = n; given = ls; given_room = r })
plain_given p h n ls r le all room = record { held = h.held; waiting = h.waiting; start = h.start; apart = h.apart; dropped = h.dropped; once = h.once; opening = h.opening; distinct = h.distinct; passed = le; given = all; given_room = room; written = h.written; stop = h.stop; few = h.few; numbers = h.numbers }

-- a unit more
pub plain_unit : (p : PlainData) → IsPlain p → (l : Literal) → IsOn p.vars l → (g : LogData) (number : ℕ) → IsNext p.log.output.last g.output.last number → (last : Option Cref) (ti : Tickets) → ti.limit ≡ p.tickets.limit
    → IsPlain (record p { written = p.written ++ l ∷ []; told = told_with p.hinted p.told l number; log = g; last = last; tickets = ti })
plain_unit p h l on g number next last ti same = record {
  held = h.held;
  waiting = h.waiting;
  start = h.start;
  apart = h.apart;
  dropped = h.dropped;
  once = h.once;
  opening = h.opening;
  distinct = h.distinct;
  passed = h.passed;
  given = h.given;
  given_room = h.given_room;
  written = All-append (IsOn p.vars) p.written (l ∷ []) h.written (one_All (IsOn p.vars) l on);
  stop = h.stop;
  few = subst (λ (n : ℕ). n < 2 ^ 64) (sym same) h.few;
  numbers = λ q. subst (λ (m : ℕ). HasNumbers m p.held (told_with p.hinted p.told l number) p.opening (p.written ++ l ∷ [])) (sym next.1)
      (numbers_told p.log.output.last p.held p.told p.opening p.written (h.numbers q) p.hinted q l number next.0);
}

-- the port with one clause more
abbrev pub pushed_data : PlainData → Holding → LogData → Option Cref → Tickets → PlainData
pushed_data p x g last ti = record p { held = p.held ++ x ∷ []; log = g; last = last; tickets = ti }

pub plain_pushed : (p : PlainData) → IsPlain p → (x : Holding) → IsKept p.vars x → All (λ h. h.address ≢ x.address) p.held → All (λ h. h.address ≢ x.address) p.waiting → (g : LogData) → IsNext p.log.output.last g.output.last x.number → (last : Option Cref) (ti : Tickets) → ti.limit ≡ p.tickets.limit → IsPlain (pushed_data p x g last ti)
plain_pushed p h x kept not_held not_waiting g next last ti same = record {
  held = All-append (IsKept p.vars) p.held (x ∷ []) h.held (one_All (IsKept p.vars) x kept);
  waiting = h.waiting;
  start = h.start;
  apart = apart_pushed p.held x h.apart not_held;
  dropped = λ k d lt. (
      let y = get_or p.waiting k d in
      none_at (p.held ++ x ∷ []) y.address
      (All-append (λ z. z.address ≢ y.address) p.held (x ∷ []) (never_at p.held y.address (h.dropped k d lt)) (one_All (λ z. z.address ≢ y.address) x (λ e. not_waiting k d lt (sym e)))));
  once = h.once;
  opening = h.opening;
  distinct = h.distinct;
  passed = h.passed;
  given = h.given;
  given_room = h.given_room;
  written = h.written;
  stop = h.stop;
  few = subst (λ (n : ℕ). n < 2 ^ 64) (sym same) h.few;
  numbers = λ q. subst (λ (m : ℕ). HasNumbers m (p.held ++ x ∷ []) p.told p.opening p.written) (sym next.1)
      (numbers_held p.log.output.last p.held p.told p.opening p.written (h.numbers q) x next.0);
}

-- a clause less, which waits
abbrev pub dropped_data : PlainData → ℕ → Holding → PlainData
dropped_data p a x = record p { held = without_one p.held a; waiting = p.waiting ++ x ∷ [] }

pub plain_dropped : (p : PlainData) → IsPlain p → (a : ℕ) (x : Holding) → find (is_at a) p.held ≡ Some x → (last : Option Cref) → IsPlain (record (dropped_data p a x) { last = last })
plain_dropped p h a x held last = record {
  held = All_without (IsKept p.vars) p.held a h.held;
  waiting = All-append (IsKept p.vars) p.waiting (x ∷ []) h.waiting (one_All (IsKept p.vars) x (All_In (IsKept p.vars) p.held x h.held (find_In (is_at a) p.held x held)));
  start = h.start;
  apart = apart_without p.held a h.apart;
  dropped = All-append (λ k. find (is_at k.address) (without_one p.held a) ≡ None) p.waiting (x ∷ [])
      (λ k d lt. still_none p.held a (get_or p.waiting k d).address (h.dropped k d lt))
      (one_All (λ k. find (is_at k.address) (without_one p.held a) ≡ None) x (ap (λ b. find (is_at b) (without_one p.held a)) at ∙ gone p.held a h.apart));
  once = apart_pushed p.waiting x h.once others;
  opening = h.opening;
  distinct = h.distinct;
  passed = h.passed;
  given = h.given;
  given_room = h.given_room;
  written = h.written;
  stop = h.stop;
  few = h.few;
  numbers = λ q. numbers_fewer p.log.output.last p.held p.told p.opening p.written (h.numbers q) (without_one p.held a) (λ k m. without_in p.held a k m);
}
  where
    at : x.address ≡ a
    at = found_address p.held a x held

    others : All (λ k. k.address ≢ x.address) p.waiting
    others k d lt e = none_some (sym (ap (λ b. find (is_at b) p.held) (e ∙ at) ∙ held) ∙ h.dropped k d lt)
      where
        none_some : Some x ≡ None → ⊥
        none_some q = true≢false (ap is_some q)

-- the first that waits
pub first_waits : (hs : List Holding) (x : Holding) → slice_get hs 0 ≡ Some x → hs ≡ x ∷ drop 1 hs
first_waits [] x e = absurd (false≢true (ap is_some e))
first_waits (h ∷ hs) x e = ap (λ k. k ∷ hs) (ap (λ o. unwrap_or o h) e)

pub some_waits : (hs : List Holding) → 1 ≤ length hs → (x : Holding) × (slice_get hs 0 ≡ Some x)
some_waits [] some = absurd (omega arith)
some_waits (h ∷ hs) some = (h, refl)

-- one that waits less
pub plain_deleted : (p : PlainData) → IsPlain p → (x : Holding) (xs : List Holding) (g : LogData) → p.log.output.last ≤ g.output.last → p.waiting ≡ x ∷ xs → IsPlain (record p { waiting = xs; log = g })
plain_deleted p h x xs g le first =
    let kept : All (IsKept p.vars) (x ∷ xs) = subst (All (IsKept p.vars)) first h.waiting in
    let none : All (λ k. find (is_at k.address) p.held ≡ None) (x ∷ xs) = subst (All (λ k. find (is_at k.address) p.held ≡ None)) first h.dropped in
    record {
      held = h.held;
      waiting = λ k d lt. kept (suc k) d (omega arith);
      start = h.start;
      apart = h.apart;
      dropped = λ k d lt. none (suc k) d (omega arith);
      once = (subst AreApart first h.once).1;
      opening = h.opening;
      distinct = h.distinct;
      passed = h.passed;
      given = h.given;
      given_room = h.given_room;
      written = h.written;
      stop = h.stop;
      few = h.few;
      numbers = λ q. numbers_later p.log.output.last p.held p.told p.opening p.written (h.numbers q) g.output.last le;
    }

-- what is held stays held when a clause is pushed
pub kept_pushed : (s t : PortState) (x : Holding) → t.held ≡ s.held ++ x ∷ [] → KeepsHeld s t
unfolding held_at
kept_pushed s t x e a some = ap (find (λ h. h.address == a)) e ∙ found_in_front (λ h. h.address == a) s.held (x ∷ []) some

-- a look-up sees nothing but what is held
pub same_lookup : (s t : PortState) (a : ℕ) → t.held ≡ s.held → held_at t a ≡ held_at s a
unfolding held_at
same_lookup s t a e = ap (find (λ h. h.address == a)) e

-- a clause is found where it was pushed
pub found_pushed : (s t : PortState) (x : Holding) → t.held ≡ s.held ++ x ∷ [] → held_at s x.address ≡ None → held_at t x.address ≡ Some x
unfolding held_at
found_pushed s t x e none = ap (find (λ h. h.address == x.address)) e ∙ find-append (λ h. h.address == x.address) s.held (x ∷ []) ∙ ap (λ q. option_or q (find (λ h. h.address == x.address) (x ∷ []))) none ∙ ap (λ b. cond b (Some x) None) (eq-eqb x.address x.address refl)

-- the head of a clause that is found, and its size
pub size_of : (q : Option Holding) (r : Head) → IsSome q → IfSome q (λ h. r ≡ head_of h) → r.size ≡ length (lits_in q)
size_of None r some is = absurd (false≢true some)
size_of (Some h) r some is = ap (λ x. x.size) is

-- a refusal leaves what is held
pub refused_held : (s : PortState) (out : Option LineState) (stop : PortStop) → (after_refusal s out stop).held ≡ s.held
refused_held s out Ended = refl
refused_held s out Broken = refl
refused_held s out ProofFault = refl
refused_held s out (NoHole lack) = refl
refused_held s out Memory = refl

pub kept_refused : (s t : PortState) (stop : PortStop) → Refused s t stop → KeepsHeld s t
kept_refused s t stop refused a some = same_lookup s t a (ap (λ u. u.held) refused.state ∙ refused_held s t.output stop)

pub kept_unit : (s t : PortState) (l : Literal) (kind : Kind) (last : Option ℕ) → WroteUnit s t l kind last → KeepsHeld s t
kept_unit s t l kind last wrote a some = same_lookup s t a (ap (λ u. u.held) wrote.state)

-- a clause that is dropped leaves the others
pub dropped_others : (old new : PortState) (a b : ℕ) → DroppedOnce old new a → b ≢ a → held_at new b ≡ held_at old b
unfolding held_at
dropped_others old new a b k ne = ap (λ (s : PortState). held_at s b) k.state ∙ find_other old.held a b ne
