-- A unit is listed.
use Rattle.io_edge.specs.declared.edge.Sink.{Ghosts}
use Rattle.std.proofs.Common.{◌≡◌, ℕ, ◌+◌, ◌*◌, ◌<◌, ◌≤◌, ◌==◌, Bool, true, false, ◌||◌, if◌then◌else◌, List, [], ◌∷◌, ◌++◌, map, length, refl, sym, ap, subst, ◌∙◌, inl, inr, arith, Some, None, Option}
use Rattle.std.specs.Prelude.{IfSome}
use Rattle.std.specs.List.{All}
use Rattle.std.specs.Option.{is_some}
use Rattle.std.proofs.lemmas.Bool.{false≢true, or_left, or_right}
use Rattle.sat_words.specs.Literal.{Literal, same, code_of}
use Rattle.sat_words.specs.Clause.{has, distinct_lits}
use Rattle.sat_words.proofs.Members.{same-true}
use Rattle.rup_model.specs.declared.journal.Entry.{Entry}
use Rattle.rup_model.specs.declared.journal.Addition.{Addition}
use Rattle.rup_model.specs.declared.journal.Entry.TheVariants.{Add}
use Rattle.rup_model.specs.Journal.{book, ended, ring_of}
use Rattle.rup_model.proofs.Lists.{In, has_In, In_has, In_append_right, Contains_In}
use Rattle.share_core.specs.declared.part.CoreOpening.{CoreOpening}
use Rattle.share_core.specs.declared.part.Part.{Part}
use Rattle.share_core.specs.declared.part.Placed.{Placed}
use Rattle.share_core.specs.Sound.{placed}
use Rattle.share_core.proofs.ClauseLists.{all_map}
use Rattle.share_core.proofs.Leaving.{left_sound}
use Rattle.share_rule.specs.declared.Layout.{Layout}
use Rattle.share_rule.specs.declared.note.Note.{Note}
use Rattle.share_rule.specs.declared.view.BookOrigin.{BookOrigin}
use Rattle.share_rule.specs.declared.view.Refusal.{Refusal}
use Rattle.share_rule.specs.declared.view.RingPart.{RingPart}
use Rattle.share_rule.specs.declared.view.View.{View}
use Rattle.share_rule.specs.Layout.{InVars}
use Rattle.share_rule.specs.Seen.{Seen, IsPart, IsRefused}
use Rattle.share_rule.specs.Steps.{on_first}
use Rattle.share_rule.specs.Turns.{MayWrite, journal_in, sheet_of, written_of, take_part, give_part, after_give, newer}
use Rattle.share_rule.specs.Units.{MayPublish, unit_part, number_part, list_part, after_unit, after_number, after_list}
use Rattle.share_rule.specs.Views.{only}
use Rattle.share_rule.proofs.Listing.{publish_room}
use Rattle.share_rule.proofs.Moves.{turn_is}
use Rattle.log_book.specs.declared.turn.Turn.{Turn}
use Rattle.log_book.specs.Turns.{IsTurn, Stands, sheet}
use Rattle.ring_pass.specs.Sights.{SawRest, MayList, ListedOne, Listed, HasNumbered}
use Rattle.ring_pass.specs.Writes.{entries_of}
use Rattle.unit_share.proofs.Numbered.{unit_numbered}
use Rattle.ring_pass.specs.RingState.{HasUnits}
use Rattle.ring_pass.proofs.RingPorts.{part_of}
use Rattle.ring_pass.proofs.SeenHere.{new_sees, seen_distinct, rest_distinct}
use Rattle.ring_pass.proofs.Stays.{only_is, one_is, units_keep}
use Rattle.ring_pass.proofs.TurnsHere.{HasTurn}
use Rattle.ring_pass.proofs.Units.{head_else}

-- One unit

pub may_publish : {lit : Literal} {number : ℕ} {v : View} → MayList lit number v → has (only v).core.seen lit ≡ false → MayPublish lit number v
may_publish {lit} {number} {v} m new = record { writing = m.writing; whole = m.whole; told = m.told; new = new; vars = m.vars }

-- it was listed
pub listed_before : {lit : Literal} {number : ℕ} {v : View} {seen : List Literal} → MayList lit number v → seen ≡ (only v).core.seen → has (only v).core.seen lit ≡ true → ListedOne v v seen lit
listed_before {lit} {number} {v} {seen} m is there = record {
  part = only v;
  parts = m.writing.0;
  layout = refl;
  opening = refl;
  origin = refl;
  stop = refl;
  looks = refl;
  core = refl;
  glues = refl;
  gave = refl;
  polls = refl;
  caught_up = refl;
  turn = refl;
  refused = refl;
  ended = refl;
  failed = refl;
  seen_is = is;
  sees = λ k. by k (same lit k) refl;
}
  where
    plain : (a : Bool) → a ≡ (a || false)
    plain true = refl
    plain false = refl

    by : (k : Literal) (b : Bool) → same lit k ≡ b → has (only v).core.seen k ≡ (has (only v).core.seen k || b)
    by k true h = subst (λ (z : Literal). has (only v).core.seen z ≡ true) (same-true lit k h) there ∙ sym (or_right (has (only v).core.seen k) true refl)
    by k false h = plain (has (only v).core.seen k)

-- it is listed now
pub listed_now : {lit : Literal} {v w : View} {seen seen' : List Literal} (number : ℕ) → v.parts ≡ only v ∷ [] → w ≡ after_list lit number (after_number number (after_unit (code_of lit) v)) → seen ≡ (only v).core.seen → seen' ≡ seen ++ lit ∷ [] → ListedOne v w seen' lit
listed_now {lit} {v} {w} {seen} {seen'} number one is all more = record {
  part = list_part lit number (number_part number (unit_part (code_of lit) (only v)));
  parts = ap (λ (u : View). u.parts) is ∙ ap (λ (ps : List RingPart). on_first (list_part lit number) (on_first (number_part number) (on_first (unit_part (code_of lit)) ps))) one;
  layout = ap (λ (u : View). u.layout) is;
  opening = ap (λ (u : View). u.opening) is;
  origin = ap (λ (u : View). u.origin) is;
  stop = ap (λ (u : View). u.stop) is;
  looks = ap (λ (u : View). u.looks) is;
  core = refl;
  glues = refl;
  gave = refl;
  polls = refl;
  caught_up = refl;
  turn = refl;
  refused = refl;
  ended = refl;
  failed = refl;
  seen_is = more ∙ ap (λ (ls : List Literal). ls ++ lit ∷ []) all;
  sees = new_sees (only v).core.seen lit;
}

pub listed_place : {lit : Literal} {number : ℕ} (v : View) → Seen v → MayPublish lit number v → length (only v).core.seen < 2 * v.layout.vars
listed_place {lit} {number} v s m = publish_room lit number v s m

-- What the ring wrote stands in the log

from_placed : (r i : ℕ) (K : List Entry) (e : Entry) → In e (map (λ (x : Placed). x.entry) (placed r i K)) → In e K
from_placed r i [] e h = h
from_placed r i (k ∷ K) e h = by (from_placed r (i + 1) K e) (ring_of k == r) h
  where
    by : (In e (map (λ (x : Placed). x.entry) (placed r (i + 1) K)) → In e K) → (b : Bool) → In e (map (λ (x : Placed). x.entry) (if b then record { place = i; entry = k } ∷ placed r (i + 1) K else placed r (i + 1) K)) → In e (k ∷ K)
    by again true (inl q) = inl q
    by again true (inr q) = inr (again q)
    by again false q = inr (again q)

pub told_here : (v w : View) (J : List Entry) (failed : Bool) (lit : Literal) (number : ℕ) → HasTurn v w J failed → Seen w → HasNumbered (only v) lit number → (book v.opening.formula J).clause number ≡ Some (lit ∷ [])
told_here v w J failed lit number h s wrote =
    let p : RingPart = only v in
    let x : RingPart = take_part J failed p in
    let k : IsPart w.layout s.core s.glue x = subst (IsPart w.layout s.core s.glue) (only_is w x h.parts) (part_of w s (one_is w x h.parts)) in
    let same_journal : J ≡ s.core.journal = turn_is s.core p.core.ring (record { journal = J }) (sym k.turn) in
    let sound = left_sound s.core.opening s.core s.left in
    let r : ℕ = p.core.ring in
    let K : List Entry = sound.entries.0 in
    let J0 : List Entry = s.core.opening.journal in
    let mine : p.core.wrote ≡ placed r (length J0) K = ap (λ (c : Part). c.wrote) k.part ∙ sound.entries.2 r k.ring in
    let a : Addition = record { ring = r; number = number; lits = lit ∷ []; kind = wrote.0; hints = wrote.1 } in
    let own : In (Add a) (map (λ (y : Placed). y.entry) (placed r (length J0) K)) = subst (λ (ws : List Placed). In (Add a) (map (λ (y : Placed). y.entry) ws)) mine (Contains_In (entries_of p) (Add a) wrote.2) in
    let there : In (Add a) s.core.journal = subst (In (Add a)) (sym sound.entries.1) (In_append_right J0 K (Add a) (from_placed r (length J0) K (Add a) own)) in
    (λ i. (book ((sym h.opening ∙ s.opening) i).formula (same_journal i)).clause number) ∙ unit_numbered s.core.opening.formula s.core.journal a lit sound.log.log.fits there refl

pub may_list : (v w u : View) (J : List Entry) (failed : Bool) (lit : Literal) (number : ℕ) (seen arrived arrived' : List Literal) → HasTurn v w J failed → Seen w → SawRest w u seen arrived arrived' → HasNumbered (only v) lit number → InVars v.layout (lit ∷ []) → MayList lit number u
may_list v w u J failed lit number seen arrived arrived' h s rest wrote on =
    let saw = rest.saw in
    let turn : (only u).turn ≡ Some (record { journal = J }) = ap (λ (p : RingPart). p.turn) (only_is u saw.part saw.parts) ∙ saw.turn ∙ ap (λ (p : RingPart). p.turn) (only_is w (take_part J failed (only v)) h.parts) in
    record {
      writing = (one_is u saw.part saw.parts, (record { journal = J }, turn));
      whole = (rest.whole ∙ ap (λ (p : RingPart). is_some p.turn) (only_is w (take_part J failed (only v)) h.parts), rest.listed);
      told = (λ i. (book ((saw.opening ∙ h.opening) i).formula (journal_in (turn i))).clause number) ∙ told_here v w J failed lit number h s wrote;
      vars = subst (λ (l : Layout). InVars l (lit ∷ [])) (sym (saw.layout ∙ h.layout)) on;
    }

-- The turn stays

pub turn_still : {S : Type 0} {d : Ghosts S} {written flushed target : S → Option (List ℕ)} {faults : S → ℕ} {w : View} {t : Turn S d} (u : View) (p : RingPart) → IsTurn written flushed target faults w t → t.noted.items ≡ [] → t.refused ≡ None → u.parts ≡ p ∷ [] → p.turn ≡ (only w).turn → p.failed ≡ (only w).failed
    → u.origin ≡ w.origin → u.layout ≡ w.layout → u.opening ≡ w.opening → IsTurn written flushed target faults u t
turn_still {S} {d} {written} {flushed} {target} {faults} {w} {t} u p h none quiet parts turn failed origin layout opening =
    let now : only u ≡ p = only_is u p parts in
    let turns : (only u).turn ≡ (only w).turn = ap (λ (q : RingPart). q.turn) now ∙ turn in
    let journal : (sheet u t).journal ≡ (sheet w t).journal = ap (λ (ns : List Note). (written_of u ns).journal) none ∙ ap journal_in turns ∙ sym (ap (λ (ns : List Note). (written_of w ns).journal) none) in
    record {
      writing = (one_is u p parts, (h.writing.1.0, turns ∙ h.writing.1.1));
      may = subst (λ (ns : List Note). MayWrite u ns) (sym none) tt;
      refused = (subst (λ (x : Option Refusal). IfSome x (λ y. IsRefused u.layout u.opening (written_of u t.noted.items).journal t.book.log.lines.spent y)) (sym quiet) tt, λ e. h.refused.1 (sym (ap (λ (q : RingPart). q.failed) now ∙ failed) ∙ e));
      stands = subst (λ (y : BookOrigin × Layout × CoreOpening × List Entry). Stands written flushed target faults t.book y.0 y.1 y.2 y.3 t.book.log.lines.spent) (λ i. (sym origin i, sym layout i, sym opening i, sym journal i)) h.stands;
    }

-- All together

-- the back of a list without repeats has nothing of the front
back_else : (xs ys : List Literal) (k : Literal) → distinct_lits (xs ++ ys) ≡ true → has ys k ≡ true → has xs k ≡ false
back_else [] ys k d h = refl
back_else (x ∷ xs) ys k d h = by (back_else xs ys k (rest_distinct 1 (x ∷ xs ++ ys) d) h) (has (x ∷ xs) k) refl
  where
    apart : has (xs ++ ys) x ≡ false
    apart = head_else x (xs ++ ys) d

    among : has xs k ≡ false → In k (x ∷ xs) → ⊥
    among again (inl is) = false≢true (sym apart ∙ subst (λ (z : Literal). has (xs ++ ys) z ≡ true) (sym is) (In_has (xs ++ ys) k (In_append_right xs ys k (has_In ys k h))))
    among again (inr i) = false≢true (sym again ∙ In_has xs k i)

    by : has xs k ≡ false → (b : Bool) → has (x ∷ xs) k ≡ b → has (x ∷ xs) k ≡ false
    by again true e = absurd (among again (has_In (x ∷ xs) k e))
    by again false e = e

-- the ring's part once the turn is given back with no note
abbrev pub quiet_part : View → Option Refusal → Bool → RingPart
quiet_part v x failed = give_part v.opening (sheet_of v) x failed (only v)

pub listed_all : (v w m n u : View) (J : List Entry) (was : Bool) (lit : Literal) (seen seen' arrived arrived' : List Literal) (ms : List Note) (x : Option Refusal) (failed : Bool) → HasTurn v w J was → SawRest w m seen arrived arrived' → Seen m → ListedOne m n seen' lit → u ≡ after_give ms x failed n → ms ≡ [] → x ≡ None
    → ((only v).failed ≡ true → failed ≡ true) → (v.opening.rings ≡ 1 → failed ≡ true → (only v).failed ≡ true) → Listed v u arrived arrived' lit
listed_all v w m n u J was lit seen seen' arrived arrived' ms x failed h rest s one is none quiet still alone =
    let saw = rest.saw in
    let at_w : only w ≡ take_part J was (only v) = only_is w (take_part J was (only v)) h.parts in
    let at_m : only m ≡ saw.part = only_is m saw.part saw.parts in
    let at_n : only n ≡ one.part = only_is n one.part one.parts in
    let seen_w : (only w).core.seen ≡ (only v).core.seen = ap (λ (p : RingPart). p.core.seen) at_w in
    let core_m : (only m).core ≡ record (only v).core { seen = (only w).core.seen ++ saw.news; numbers = (only w).core.numbers ++ saw.numbers } = ap (λ (p : RingPart). p.core) at_m ∙ saw.core ∙ (λ i. record (at_w i).core { seen = (only w).core.seen ++ saw.news; numbers = (only w).core.numbers ++ saw.numbers }) in
    let seen_m : (only m).core.seen ≡ (only v).core.seen ++ saw.news = ap (λ (c : Part). c.seen) core_m ∙ ap (λ (ls : List Literal). ls ++ saw.news) seen_w in
    let core_n : (only n).core ≡ record (only m).core { seen = (only n).core.seen; numbers = (only n).core.numbers } = subst (λ (p : RingPart). p.core ≡ record (only m).core { seen = p.core.seen; numbers = p.core.numbers }) (sym at_n) one.core in
    let sees : (k : Literal) → has (only n).core.seen k ≡ (has (only m).core.seen k || same lit k) = λ k. ap (λ (p : RingPart). has p.core.seen k) at_n ∙ one.sees k in
    record {
      news = saw.news;
      part = quiet_part n x failed;
      parts = ap (λ (y : View). y.parts) is ∙ (λ i. on_first (give_part n.opening (written_of n (none i)) x failed) (one_is n one.part one.parts i));
      layout = ap (λ (y : View). y.layout) is ∙ one.layout ∙ saw.layout ∙ h.layout;
      opening = ap (λ (y : View). y.opening) is ∙ one.opening ∙ saw.opening ∙ h.opening;
      stop = ap (λ (y : View). y.stop) is ∙ one.stop ∙ saw.stop ∙ h.stop;
      looks = ap (λ (y : View). y.looks) is ∙ one.looks ∙ saw.looks ∙ h.looks;
      core = core_n ∙ (λ i. record (core_m i) { seen = (only n).core.seen; numbers = (only n).core.numbers });
      glues = ap (λ (p : RingPart). p.glues) at_n ∙ one.glues ∙ ap (λ (p : RingPart). p.glues) at_m ∙ saw.glues ∙ ap (λ (p : RingPart). p.glues) at_w;
      gave = ap (λ (p : RingPart). p.gave) at_n ∙ one.gave ∙ ap (λ (p : RingPart). p.gave) at_m ∙ saw.gave ∙ ap (λ (p : RingPart). p.gave) at_w;
      polls = ap (λ (p : RingPart). p.polls) at_n ∙ one.polls ∙ ap (λ (p : RingPart). p.polls) at_m ∙ saw.polls ∙ ap (λ (p : RingPart). p.polls) at_w;
      caught_up = subst (λ (y : ℕ × ℕ). y.0 ≤ y.1) (λ i. (ap (λ (p : RingPart). p.caught_up) at_w i, sym (ap (λ (p : RingPart). p.caught_up) at_n ∙ one.caught_up ∙ ap (λ (p : RingPart). p.caught_up) at_m) i)) saw.caught_up;
      turn = refl;
      refused = ap (λ (y : Option Refusal). newer y (only n).refused) quiet ∙ ap (λ (p : RingPart). p.refused) at_n ∙ one.refused ∙ ap (λ (p : RingPart). p.refused) at_m ∙ saw.refused ∙ ap (λ (p : RingPart). p.refused) at_w;
      ended_is = λ e. or_left (only n).ended (ended n.opening.formula (sheet_of n).journal) (ap (λ (p : RingPart). p.ended) at_n ∙ one.ended ∙ ap (λ (p : RingPart). p.ended) at_m ∙ saw.ended ∙ ap (λ (p : RingPart). p.ended) at_w ∙ e);
      failed_is = still;
      alone = alone;
      sees = λ k. sees k ∙ ap (λ (ls : List Literal). has ls k || same lit k) seen_m;
      apart = λ k e. back_else (only v).core.seen saw.news k (subst (λ (ls : List Literal). distinct_lits ls ≡ true) seen_m (seen_distinct m s (one_is m saw.part saw.parts))) e;
      arrived_is = saw.arrived_is;
      distinct = saw.distinct;
      told = all_map (λ (l : Literal). has (only m).core.seen l ≡ true) (λ (l : Literal). has (only n).core.seen l ≡ true) arrived' (λ l i e. sees l ∙ or_left (has (only m).core.seen l) (same lit l) e)
          (subst (λ (p : RingPart). All (λ l. has p.core.seen l ≡ true) arrived') (sym at_m) saw.told);
    }

pub units_listed : (m n u : View) (lit : Literal) (seen seen' : List Literal) (a b a' : ℕ) (ms : List Note) (x : Option Refusal) (failed : Bool) → HasUnits (only m) m.layout.vars seen a b → ListedOne m n seen' lit → a' ≡ a → u ≡ after_give ms x failed n → ms ≡ [] → HasUnits (only u) u.layout.vars seen' a' b
units_listed m n u lit seen seen' a b a' ms x failed units one same_room is none =
    let at_n : only n ≡ one.part = only_is n one.part one.parts in
    let parts : u.parts ≡ quiet_part n x failed ∷ [] = ap (λ (y : View). y.parts) is ∙ (λ i. on_first (give_part n.opening (written_of n (none i)) x failed) (one_is n one.part one.parts i)) in
    let vars : u.layout.vars ≡ m.layout.vars = ap (λ (y : View). y.layout.vars) is ∙ ap (λ (l : Layout). l.vars) one.layout in
    let r1 = units.seen_room_is in
    let r2 = units.arrived_room_is in
    record {
      all = one.seen_is ∙ sym (ap (λ (p : RingPart). p.core.seen) (only_is u (quiet_part n x failed) parts) ∙ ap (λ (p : RingPart). p.core.seen) at_n);
      seen_room_is = omega arith;
      arrived_room_is = omega arith;
    }

-- with the turn the ring has seen what it had before
pub turn_seen : (v w : View) (J : List Entry) (failed : Bool) (seen arrived : List Literal) (a b : ℕ) → HasTurn v w J failed → HasUnits (only v) v.layout.vars seen a b → All (λ l. has (only v).core.seen l ≡ true) arrived
    → HasUnits (only w) w.layout.vars seen a b × All (λ l. has (only w).core.seen l ≡ true) arrived
turn_seen v w J failed seen arrived a b h units told =
    let is : (only w).core.seen ≡ (only v).core.seen = ap (λ (p : RingPart). p.core.seen) (only_is w (take_part J failed (only v)) h.parts) in
    (units_keep v w seen a b is h.layout units, subst (λ (ls : List Literal). All (λ l. has ls l ≡ true) arrived) (sym is) told)
