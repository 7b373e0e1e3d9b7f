-- What the calls of a port in memory keep of the one journal behind it.
use Rattle.std.proofs.Common.{◌≡◌, ◌≢◌, ℕ, ◌+◌, ◌-◌, ◌≤◌, ◌||◌, inl, inr, ⊎_elim, drop, Bool, true, false, not, List, [], ◌∷◌, ◌++◌, length, take, sym, refl, ap, subst, ◌∙◌, arith, Some, None, Result, Ok, Err, IsSome, append_assoc, append-nil, length-append}
use Rattle.std.specs.List.{All, Contains, find}
use Rattle.rup_model.proofs.Lists.{In, In_append, In_Contains, Contains_In}
use Rattle.std.specs.Option.{option_map}
use Rattle.std.specs.declared.option.Option.{Option}
use Rattle.std.proofs.lemmas.Bool.{not-true, or_right, false≢true}
use Rattle.std.proofs.lemmas.List.{get_or-append-add}
use Rattle.std.proofs.lemmas.List.Elements.{All-append, All-take}
use Rattle.sat_words.specs.Literal.{Literal, same}
use Rattle.sat_words.specs.Clause.{is_empty, has}
use Rattle.sat_words.proofs.Members.{same-true, same-refl}
use Rattle.rup_model.proofs.Covers.{both_true}
use Rattle.std.proofs.lemmas.List.Folds.{list_any-append}
use Rattle.sat_words.specs.declared.shared.Cref.{Cref}
use Rattle.sat_words.specs.declared.shared.Stop.{Stop}
use Rattle.drat_text.specs.LineOut.{added_line, deleted_line}
use Rattle.rup_model.specs.declared.journal.Kind.{Kind}
use Rattle.rup_model.specs.declared.journal.Kind.TheVariants.{Learn}
use Rattle.rup_model.specs.declared.journal.Entry.TheVariants.{Del}
use Rattle.rup_model.specs.Rup.{rup}
use Rattle.rup_model.specs.Journal.{book, is_told}
use Rattle.rup_model.proofs.Additions.{told_more}
use Rattle.ring_port.specs.declared.draw.Tickets.{Tickets}
use Rattle.ring_port.specs.declared.stops.PortStop.{PortStop}
use Rattle.ring_port.specs.declared.stops.PortStop.TheVariants.{Ended, Broken, ProofFault, NoHole, Memory}
use Rattle.ring_port.specs.PortState.{Holding, PortState, AreApart, IsKept, IsOn, held_at, known}
use Rattle.ring_port.specs.Port.{is_usable, entry_of, holding_of, last_after, ticket_after, AddedClause, WroteUnit, AreHints, EndsWith}
use Rattle.ring_port.specs.Log.{Origin, Keeps, StandsOver, KeepsLog, journal_of}
use Rattle.ring_port.specs.OwnLog.{LogData, AddedEntry, DeletedEntry, NotPut, WasReduced, own_entry}
use Rattle.ring_port.specs.PlainPort.{PlainData, state_of, IsPlain, told_with}
use Rattle.ring_port.specs.Exchange.{OfferedAs}
use Rattle.ring_port.specs.Deleting.{without_one, unless_at, deletions, DroppedOnce, TidiedUpTo}
use Rattle.ring_port.proofs.Holdings.{All_In}
use Rattle.ring_port.proofs.Dropping.{is_at, find_In, never_at, gone, without_in, All_without}
use Rattle.ring_port.proofs.PlainLemmas.{pushed_data, dropped_data, free_of, waits_nowhere, found_pushed, same_lookup}
use Rattle.ring_port.proofs.LogSteps.{one_All, or_none, output_of, held_next, told_alive_next, added_here, all_told_next, told_here, ended_next, ended_stays, number_is, stands_after, stands_failed, stands_with, numbers_next, sound_last, caused_same}
use Rattle.ring_port.proofs.Deletions.{numbered_is, sound_without, stands_deleted, stands_dropped}
use Rattle.ring_port.proofs.Hinted.{hints_alive}
use Rattle.ring_port.proofs.Reductions.{stands_reduced}

some_literal : (lits : List Literal) → 2 ≤ length lits → is_empty lits ≡ false
some_literal [] long = absurd (omega arith)
some_literal (l ∷ lits) long = refl

unspent_of : (o : Origin) (p : PlainData) → StandsOver o (state_of p) → is_usable p.log.refused ≡ true → p.log.output.spent ≡ false
unspent_of o p h usable = not-true p.log.output.spent (sym (output_of o (state_of p) p.log.output h refl).usable ∙ usable)

-- the tickets
pub tickets_keep : (p : PlainData) (ti : Tickets) → KeepsLog (state_of p) (state_of (record p { tickets = ti }))
tickets_keep p ti o h =
    let was = output_of o (state_of p) p.log.output h refl in
    record {
      opens = h.opens;
      given = h.given;
      sound = h.sound;
      of_ring = h.of_ring;
      on = h.on;
      ended = h.ended;
      held = h.held;
      waiting = h.waiting;
      numbers = h.numbers;
      seen = h.seen;
      told = h.told;
      hints = h.hints;
      output = record {
        entries = was.entries;
        last = was.last;
        hinted = was.hinted;
        usable = was.usable;
        caused = caused_same (state_of p) (state_of (record p { tickets = ti })) p.log.output p.log.refused refl was.caused;
        whole = was.whole;
        short = was.short;
        target = was.target;
        flushed = was.flushed;
      };
    }

-- the line of a unit
pub unit_keeps : (p : PlainData) (r : ℕ) (g : LogData) (l : Literal) (kind : Kind) (number : ℕ) (hints : List ℕ) (last : Option Cref) (ti : Tickets)
    → is_usable p.log.refused ≡ true → IsOn p.vars l → rup (known (state_of p)) (l ∷ []) ≡ true → AreHints (state_of p) (l ∷ []) hints → AddedEntry (record p.log { room = r }) g (l ∷ []) kind hints number
    → KeepsLog (state_of p) (state_of (record p { written = p.written ++ l ∷ []; told = told_with p.hinted p.told l number; log = g; last = last; tickets = ti }))
unit_keeps p r g l kind number hints last ti usable on follows fit added o h =
    let s = state_of p in
    let next = number_is o s h refl (l ∷ []) kind number hints fit follows added.going (one_All (IsOn p.vars) l on) p.log.output g.output refl (unspent_of o p h usable) added.given added.put in
    let grown = o.journal ++ (p.log.mine ++ own_entry number (l ∷ []) kind hints ∷ []) in
    let seen = subst (λ (ls : List Literal). All (λ k. is_told o.formula grown k ≡ true) ls) (append_assoc (take p.passed p.opening) p.written (l ∷ []))
    (All-append (λ k. is_told o.formula grown k ≡ true) (take p.passed p.opening ++ p.written) (l ∷ [])
    (all_told_next o s h refl (l ∷ []) kind number hints (take p.passed p.opening ++ p.written) h.seen)
    (one_All (λ k. is_told o.formula grown k ≡ true) l (told_here o s h refl (l ∷ []) kind number hints l refl))) in
    let told : p.hinted ≡ true → All (λ u. (book o.formula grown).clause u.1 ≡ Some (u.0 ∷ [])) (told_with p.hinted p.told l number) = λ q.
    subst (λ (b : Bool). All (λ u. (book o.formula grown).clause u.1 ≡ Some (u.0 ∷ [])) (told_with b p.told l number)) (sym q)
    (All-append (λ u. (book o.formula grown).clause u.1 ≡ Some (u.0 ∷ [])) p.told ((l, number) ∷ [])
    (told_alive_next o s h refl (l ∷ []) kind number hints p.told (h.told q))
    (one_All (λ u. (book o.formula grown).clause u.1 ≡ Some (u.0 ∷ [])) (l, number) (added_here o s h refl (l ∷ []) kind number hints next))) in
    tickets_keep (record p { written = p.written ++ l ∷ []; told = told_with p.hinted p.told l number; log = g; last = last }) ti o
    (subst (λ k. StandsOver o (state_of (record p { written = p.written ++ l ∷ []; told = told_with p.hinted p.told l number; log = k; last = last }))) (sym added.state)
    (stands_after o s h refl (l ∷ []) kind number hints fit follows added.going (one_All (IsOn p.vars) l on) p.log.output g.output refl (unspent_of o p h usable) added.given added.put
    p.held (take p.passed p.opening ++ (p.written ++ l ∷ [])) (told_with p.hinted p.told l number) (option_map (λ c. c.address) last) p.log.ended
    (held_next o s h refl (l ∷ []) kind number hints) seen told (h.ended ∙ sym (ended_stays o s h refl (l ∷ []) kind number hints refl)) h.numbers))

-- the line of a longer clause
pub clause_keeps : (p : PlainData) (r : ℕ) (g : LogData) (lits : List Literal) (kind : Kind) (number glue address : ℕ) (hints : List ℕ) (last : Option Cref) (ti : Tickets) → IsPlain p
    → is_usable p.log.refused ≡ true → 2 ≤ length lits → All (IsOn p.vars) lits → rup (known (state_of p)) lits ≡ true → AreHints (state_of p) lits hints → AddedEntry (record p.log { room = r }) g lits kind hints number
    → KeepsLog (state_of p) (state_of (pushed_data p (record { address = address; number = number; glue = glue; lits = lits }) g last ti))
clause_keeps p r g lits kind number glue address hints last ti plain usable long on follows fit added o h =
    let s = state_of p in
    let x : Holding = record { address = address; number = number; glue = glue; lits = lits } in
    let next = number_is o s h refl lits kind number hints fit follows added.going on p.log.output g.output refl (unspent_of o p h usable) added.given added.put in
    let held = All-append (λ c. (book o.formula (o.journal ++ (p.log.mine ++ own_entry number lits kind hints ∷ []))).clause c.number ≡ Some c.lits) p.held (x ∷ []) (held_next o s h refl lits kind number hints)
    (one_All (λ c. (book o.formula (o.journal ++ (p.log.mine ++ own_entry number lits kind hints ∷ []))).clause c.number ≡ Some c.lits) x (added_here o s h refl lits kind number hints next)) in
    let pushed : LogData → PortState = λ k. state_of (record p { held = p.held ++ x ∷ []; log = k; last = last }) in
    tickets_keep (record p { held = p.held ++ x ∷ []; log = g; last = last }) ti o
    (subst (λ k. StandsOver o (pushed k)) (sym added.state)
    (stands_after o s h refl lits kind number hints fit follows added.going on p.log.output g.output refl (unspent_of o p h usable) added.given added.put
    (p.held ++ x ∷ []) (take p.passed p.opening ++ p.written) p.told (option_map (λ c. c.address) last) p.log.ended
    held (all_told_next o s h refl lits kind number hints (take p.passed p.opening ++ p.written) h.seen)
    (λ q. told_alive_next o s h refl lits kind number hints p.told (h.told q))
    (h.ended ∙ sym (ended_stays o s h refl lits kind number hints (some_literal lits long)))
    (numbers_next o s h refl lits kind number hints x next (pushed (record p.log { output = g.output; mine = p.log.mine ++ own_entry number lits kind hints ∷ []; room = g.room })) refl refl)))

-- the empty clause
pub empty_keeps : (p : PlainData) (r : ℕ) (g : LogData) (kind : Kind) (number : ℕ) (hints : List ℕ)
    → is_usable p.log.refused ≡ true → rup (known (state_of p)) [] ≡ true → AreHints (state_of p) [] hints → AddedEntry (record p.log { room = r }) g [] kind hints number
    → KeepsLog (state_of p) (state_of (record p { log = record g { ended = true } }))
empty_keeps p r g kind number hints usable follows fit added o h =
    let s = state_of p in
    let none : All (IsOn p.vars) [] = λ k d lt. absurd (omega arith) in
    subst (λ k. StandsOver o (state_of (record p { log = record k { ended = true } }))) (sym added.state)
    (stands_after o s h refl [] kind number hints fit follows added.going none p.log.output g.output refl (unspent_of o p h usable) added.given added.put
    p.held (take p.passed p.opening ++ p.written) p.told (option_map (λ c. c.address) p.last) true
    (held_next o s h refl [] kind number hints) (all_told_next o s h refl [] kind number hints (take p.passed p.opening ++ p.written) h.seen)
    (λ q. told_alive_next o s h refl [] kind number hints p.told (h.told q))
    (sym (ended_next o s h refl [] kind number hints ∙ or_right _ _ refl)) h.numbers)

-- no line
pub refused_keeps : (p : PlainData) (r : ℕ) (g : LogData) (lits : List Literal) (hints : List ℕ) (stop : PortStop)
    → is_usable p.log.refused ≡ true → All (IsOn p.vars) lits → rup (known (state_of p)) lits ≡ true → AreHints (state_of p) lits hints → NotPut (record p.log { room = r }) g (added_line p.log.output lits hints) stop
    → KeepsLog (state_of p) (state_of (record p { log = g }))
refused_keeps p r g lits hints Ended usable on follows fit why o h =
    subst (λ k. StandsOver o (state_of (record p { log = k }))) (sym why.1)
    (stands_with o (state_of p) h p.log.output refl (take p.passed p.opening ++ p.written) p.given (length p.opening - p.passed) p.stop p.looks (Some Ended) p.log.ended
    h.seen (sym (ap not (unspent_of o p h usable))) refl why.0)
refused_keeps p r g lits hints Broken usable on follows fit why o h = absurd why
refused_keeps p r g lits hints ProofFault usable on follows fit why o h =
    subst (λ k. StandsOver o (state_of (record p { log = k }))) (sym why.state)
    (stands_failed o (state_of p) h (entry_of (state_of p) (p.log.output.last + 1) lits Learn hints) (added_line p.log.output lits hints) refl
    (sound_last o (state_of p) h refl lits Learn (p.log.output.last + 1) hints follows why.going (sym (output_of o (state_of p) p.log.output h refl).last))
    (hints_alive o (state_of p) h lits hints fit) on p.log.output g.output refl (unspent_of o p h usable) why.put)
refused_keeps p r g lits hints (NoHole lack) usable on follows fit why o h =
    subst (λ k. StandsOver o (state_of (record p { log = k }))) (sym why.state)
    (stands_with o (state_of p) h p.log.output refl (take p.passed p.opening ++ p.written) p.given (length p.opening - p.passed) p.stop p.looks (Some (NoHole lack)) p.log.ended
    h.seen (sym (ap not (unspent_of o p h usable))) refl (why.full, why.needed, why.found))
refused_keeps p r g lits hints Memory usable on follows fit why o h = subst (λ k. StandsOver o (state_of (record p { log = k }))) (sym why) h

-- the note of a reduction
pub reduce_keeps : (p : PlainData) (r : ℕ) (g : LogData) (result : Result (Unit {0}) PortStop) → is_usable p.log.refused ≡ true → WasReduced (record p.log { room = r }) g result
    → KeepsLog (state_of p) (state_of (record p { log = g }))
reduce_keeps p r g (Ok done) usable reduced o h =
    subst (λ k. StandsOver o (state_of (record p { log = k }))) (sym reduced.state) (stands_reduced o (state_of p) h reduced.going usable)
reduce_keeps p r g (Err stop) usable over o h =
    subst (λ k. StandsOver o (state_of (record p { log = k }))) (sym over.state)
    (stands_with o (state_of p) h p.log.output refl (take p.passed p.opening ++ p.written) p.given (length p.opening - p.passed) p.stop p.looks (Some Ended) p.log.ended
    h.seen (sym (ap not (unspent_of o p h usable))) refl over.over)

-- a unit of the opening that is given
pub given_keeps : (p : PlainData) (n : ℕ) (ls : List Literal) (r : ℕ) → KeepsLog (state_of p) (state_of (record p { passed = n; given = ls; given_room = r }))
given_keeps p n ls r o h =
    let was = output_of o (state_of p) p.log.output h refl in
    let told : All (λ k. is_told o.formula (journal_of o (state_of p)) k ≡ true) p.opening = λ k d lt. told_more o.formula o.journal p.log.mine _ (h.opens.told k d lt) in
    let front = take p.passed p.opening in
    let written : All (λ k. is_told o.formula (journal_of o (state_of p)) k ≡ true) p.written = λ k d lt.
    subst (λ l. is_told o.formula (journal_of o (state_of p)) l ≡ true) (get_or-append-add front p.written k d)
    (h.seen (length front + k) d (let e = length-append front p.written in omega arith)) in
    stands_with o (state_of p) h p.log.output refl (take n p.opening ++ p.written) ls (length p.opening - n) p.stop p.looks p.log.refused p.log.ended
    (All-append (λ k. is_told o.formula (journal_of o (state_of p)) k ≡ true) (take n p.opening) p.written (All-take (λ k. is_told o.formula (journal_of o (state_of p)) k ≡ true) n p.opening told) written) was.usable refl was.caused

-- which clause was learned last
pub last_keeps : (p : PlainData) (la : Option Cref) → KeepsLog (state_of p) (state_of (record p { last = la }))
last_keeps p la o h =
    let was = output_of o (state_of p) p.log.output h refl in
    record {
      opens = h.opens;
      given = h.given;
      sound = h.sound;
      of_ring = h.of_ring;
      on = h.on;
      ended = h.ended;
      held = h.held;
      waiting = h.waiting;
      numbers = h.numbers;
      seen = h.seen;
      told = h.told;
      hints = h.hints;
      output = record {
        entries = was.entries;
        last = was.last;
        hinted = was.hinted;
        usable = was.usable;
        caused = caused_same (state_of p) (state_of (record p { last = la })) p.log.output p.log.refused refl was.caused;
        whole = was.whole;
        short = was.short;
        target = was.target;
        flushed = was.flushed;
      };
    }

-- a look that found no unit left
pub caught_keeps : (p : PlainData) (k : ℕ) → KeepsLog (state_of p) (state_of (record p { caught_up = k }))
caught_keeps p k o h =
    let was = output_of o (state_of p) p.log.output h refl in
    record {
      opens = h.opens;
      given = h.given;
      sound = h.sound;
      of_ring = h.of_ring;
      on = h.on;
      ended = h.ended;
      held = h.held;
      waiting = h.waiting;
      numbers = h.numbers;
      seen = h.seen;
      told = h.told;
      hints = h.hints;
      output = record {
        entries = was.entries;
        last = was.last;
        hinted = was.hinted;
        usable = was.usable;
        caused = caused_same (state_of p) (state_of (record p { caught_up = k })) p.log.output p.log.refused refl was.caused;
        whole = was.whole;
        short = was.short;
        target = was.target;
        flushed = was.flushed;
      };
    }

-- a look at the stop, and a stop that is set
pub looked_keeps : (p : PlainData) (st : Option Stop) (k : ℕ) → KeepsLog (state_of p) (state_of (record p { stop = st; looks = k }))
looked_keeps p st k o h =
    let was = output_of o (state_of p) p.log.output h refl in
    stands_with o (state_of p) h p.log.output refl (take p.passed p.opening ++ p.written) p.given (length p.opening - p.passed) st k p.log.refused p.log.ended h.seen was.usable refl was.caused

same_swap : (k l : Literal) → same k l ≡ same l k
same_swap k l =
    both_true (same k l) (same l k)
    (λ e. subst (λ x. same x k ≡ true) (same-true k l e) (same-refl k))
    (λ e. subst (λ x. same x l ≡ true) (same-true l k e) (same-refl l))

-- what the line of a unit did to the port
pub unit_put : (p : PlainData) (r : ℕ) (g : LogData) (l : Literal) (kind : Kind) (number : ℕ) (hints : List ℕ) (last : Option Cref) (ti : Tickets)
    → ti ≡ record p.tickets { in_hand = ticket_after kind p.tickets.in_hand } → AddedEntry (record p.log { room = r }) g (l ∷ []) kind hints number
    → WroteUnit (state_of p) (state_of (record p { written = p.written ++ l ∷ []; told = told_with p.hinted p.told l number; log = g; last = last; tickets = ti })) l kind (option_map (λ c. c.address) last)
unit_put p r g l kind number hints last ti used added =
    let front = take p.passed p.opening in
    let grown : LogData = record p.log { room = g.room; output = g.output; mine = p.log.mine ++ own_entry number (l ∷ []) kind hints ∷ [] } in
    let put : LogData → Tickets → PortState = λ k u. state_of (record p { written = p.written ++ l ∷ []; told = told_with p.hinted p.told l number; log = k; last = last; tickets = u }) in
    record {
      number = number;
      hints = hints;
      going = added.going;
      sees = λ k.
          ap (λ ls. has ls k) (sym (append_assoc front p.written (l ∷ [])))
          ∙ list_any-append (same k) (front ++ p.written) (l ∷ [])
          ∙ ap (λ b. has (front ++ p.written) k || b) (or_none (same k l) ∙ same_swap k l);
      looked = omega arith;
      state = ap (λ k. put k ti) added.state ∙ ap (put grown) used;
    }

-- the entry of a line that stands ends the ring's
pub ends_with : (p : PlainData) (r : ℕ) (g : LogData) (lits : List Literal) (kind : Kind) (hints : List ℕ) (number : ℕ) → AddedEntry (record p.log { room = r }) g lits kind hints number
    → (log : LogData) → log.mine ≡ g.mine → EndsWith (state_of (record p { log = log })) hints
ends_with p r g lits kind hints number added log mine = (p.log.mine, number, lits, kind, mine ∙ ap (λ (k : LogData). k.mine) added.state)

-- there is no ring to offer a clause to
pub offer_did : (p : PlainData) (class : Option ℕ) (a : ℕ) → IsSome class → OfferedAs (state_of p) (state_of (record p { last = None })) class a
offer_did p None a some = absurd (false≢true some)
offer_did p (Some class) a some = record {
  back = [];
  few = omega arith;
  same = λ b. same_lookup (state_of p) (state_of (record p { last = None })) b refl;
  often = λ b. refl;
  state = λ i. record (state_of (record p { last = None })) { waiting = sym (append-nil (p.waiting)) i };
}

-- what a longer clause did to the port
pub clause_put : (p : PlainData) → (r : ℕ) (g : LogData) (lits : List Literal) (kind : Kind) (number glue : ℕ) (hints : List ℕ) (c : Cref) (last : Option Cref) (ti : Tickets)
    → All (λ h. h.address ≢ c.address) p.held → All (λ h. h.address ≢ c.address) p.waiting
    → 2 ≤ length lits → option_map (λ x. x.address) last ≡ last_after kind (option_map (λ x. x.address) p.last) c.address → ti ≡ record p.tickets { in_hand = ticket_after kind p.tickets.in_hand } → AddedEntry (record p.log { room = r }) g lits kind hints number
    → AddedClause (state_of p) (state_of (pushed_data p (holding_of c number glue lits) g last ti)) lits glue kind c
clause_put p r g lits kind number glue hints c last ti not_held not_waiting long is used added =
    let x : Holding = holding_of c number glue lits in
    let grown : LogData = record p.log { room = g.room; output = g.output; mine = p.log.mine ++ own_entry number lits kind hints ∷ [] } in
    let none : held_at (state_of p) c.address ≡ None = free_of (state_of p) c.address not_held in
    record {
      number = number;
      hints = hints;
      going = added.going;
      long = long;
      free = record { not_held = none; not_waiting = waits_nowhere p.waiting c.address not_waiting };
      there = found_pushed (state_of p) (state_of (pushed_data p x g last ti)) x refl none;
      state = ap (λ k. state_of (pushed_data p x k last ti)) added.state
          ∙ ap (λ u. state_of (pushed_data p x grown last u)) used
          ∙ (λ i. record (state_of (pushed_data p x grown last (record p.tickets { in_hand = ticket_after kind p.tickets.in_hand }))) { last = is i });
    }

-- a clause is dropped, and waits
module _ (p : PlainData) (plain : IsPlain p) (a : ℕ) (x : Holding) (held : find (is_at a) p.held ≡ Some x) where
  drop_waits : KeepsLog (state_of p) (state_of (dropped_data p a x))
  drop_waits o h =
      let among : In x p.held = find_In (is_at a) p.held x held in
      let P : Holding → Type 0 = λ k. (book o.formula (journal_of o (state_of p))).clause k.number ≡ Some k.lits in
      stands_dropped o (state_of p) h (without_one p.held a) (p.waiting ++ x ∷ []) keeps
      (All_without P p.held a h.held)
      (All-append P p.waiting (x ∷ []) h.waiting (one_All P x (All_In P p.held x h.held among)))
    where
      keeps : (y : Holding) → Keeps (record (state_of p) { held = without_one p.held a; waiting = p.waiting ++ x ∷ [] }) y → Keeps (state_of p) y
      keeps y (inl m) = inl (In_Contains p.held y (without_in p.held a y (Contains_In (without_one p.held a) y m)))
      keeps y (inr m) = ⊎_elim (λ k. inr (In_Contains p.waiting y k)) (λ k. last k) (In_append p.waiting (x ∷ []) y (Contains_In (p.waiting ++ x ∷ []) y m))
        where
          last : In y (x ∷ []) → Keeps (state_of p) y
          last (inl e) = inl (subst (Contains p.held) e (In_Contains p.held x (find_In (is_at a) p.held x held)))
          last (inr k) = absurd k

  pub drop_keeps : (last : Option Cref) → KeepsLog (state_of p) (state_of (record (dropped_data p a x) { last = last }))
  drop_keeps last o h = last_keeps (dropped_data p a x) last o (drop_waits o h)

  pub drop_did : (last : Option Cref) → option_map (λ k. k.address) last ≡ unless_at (option_map (λ k. k.address) p.last) a
      → DroppedOnce (state_of p) (state_of (record (dropped_data p a x) { last = last })) a
  unfolding held_at
  drop_did last is = record {
    clause = x;
    there = held;
    waits = inr (refl, gone p.held a plain.apart);
    alone = λ one none. refl;
    state = λ i. record (state_of (dropped_data p a x)) { last = is i };
  }

-- the first clause that waits is deleted
module _ (p : PlainData) (plain : IsPlain p) (x : Holding) (xs : List Holding) (first : p.waiting ≡ x ∷ xs) (r : ℕ) (g : LogData) (usable : is_usable p.log.refused ≡ true) where
  kept_x : IsKept p.vars x
  kept_x = (subst (All (IsKept p.vars)) first plain.waiting) 0 x (omega arith)

  not_held : All (λ k. k ≢ x) p.held
  not_held k d lt e = never_at p.held x.address ((subst (All (λ y. find (is_at y.address) p.held ≡ None)) first plain.dropped) 0 x (omega arith)) k d lt (ap (λ y. y.address) e)

  waits_once : All (λ k. k ≢ x) xs
  waits_once k d lt e = (subst AreApart first plain.once).0 k d lt (ap (λ y. y.address) e)

  pub deletion_keeps : DeletedEntry (record p.log { room = r }) g x.lits x.number → KeepsLog (state_of p) (state_of (record p { waiting = xs; log = g }))
  deletion_keeps did o h =
      subst (λ k. StandsOver o (state_of (record p { waiting = xs; log = k }))) (sym did.state)
      (stands_deleted o (state_of p) h refl x xs first kept_x.shape did.going not_held waits_once p.log.output g.output refl (unspent_of o p h usable) did.put)

  pub deletion_did : DeletedEntry (record p.log { room = r }) g x.lits x.number → TidiedUpTo (state_of p) (state_of (record p { waiting = xs; log = g })) 1
  deletion_did did = record {
    going = λ some. did.going;
    state = ap (λ k. state_of (record p { waiting = xs; log = k })) did.state
        ∙ (λ i. record (state_of p) { waiting = drop 1 (sym first i); mine = p.log.mine ++ deletions 0 (take 1 (sym first i)); output = Some g.output });
  }

  pub deletion_refused : (stop : PortStop) → NotPut (record p.log { room = r }) g (deleted_line p.log.output x.number x.lits) stop → KeepsLog (state_of p) (state_of (record p { log = g }))
  deletion_refused Ended why o h =
      subst (λ k. StandsOver o (state_of (record p { log = k }))) (sym why.1)
      (stands_with o (state_of p) h p.log.output refl (take p.passed p.opening ++ p.written) p.given (length p.opening - p.passed) p.stop p.looks (Some Ended) p.log.ended
      h.seen (sym (ap not (unspent_of o p h usable))) refl why.0)
  deletion_refused Broken why o h = absurd why
  deletion_refused ProofFault why o h =
      subst (λ k. StandsOver o (state_of (record p { log = k }))) (sym why.state)
      (stands_failed o (state_of p) h (Del 0 x.number) (deleted_line p.log.output x.number x.lits)
      (numbered_is o (state_of p) h refl x xs first kept_x.shape why.going p.log.output.last (let l = (output_of o (state_of p) p.log.output h refl).last in omega arith))
      (sound_without o (state_of p) h refl x xs first kept_x.shape why.going) (λ q. tt) kept_x.on p.log.output g.output refl (unspent_of o p h usable) why.put)
  deletion_refused (NoHole lack) why o h =
      subst (λ k. StandsOver o (state_of (record p { log = k }))) (sym why.state)
      (stands_with o (state_of p) h p.log.output refl (take p.passed p.opening ++ p.written) p.given (length p.opening - p.passed) p.stop p.looks (Some (NoHole lack)) p.log.ended
      h.seen (sym (ap not (unspent_of o p h usable))) refl (why.full, why.needed, why.found))
  deletion_refused Memory why o h = subst (λ k. StandsOver o (state_of (record p { log = k }))) (sym why) h
