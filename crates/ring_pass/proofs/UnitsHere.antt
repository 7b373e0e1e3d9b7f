-- The unit that the port writes.
use Rattle.std.proofs.Common.{◌≡◌, ℕ, zero, suc, ◌-◌, ◌<◌, ◌≤◌, Bool, true, false, not, ◌&&◌, ◌||◌, List, [], ◌∷◌, ◌++◌, length, get_or, take, drop, refl, sym, ap, subst, ◌∙◌, inl, inr, arith, Option, None, length-append}
use Rattle.std.specs.List.{All, zip}
use Rattle.std.specs.Prelude.{min, ◌^◌}
use Rattle.std.proofs.lemmas.Bool.{false≢true, true≢false, or_left, or_right}
use Rattle.std.proofs.lemmas.List.Folds.{list_any-append}
use Rattle.sat_words.specs.Literal.{Literal, same}
use Rattle.sat_words.specs.Clause.{has, distinct_lits}
use Rattle.sat_words.specs.declared.shared.Cref.{Cref}
use Rattle.sat_words.proofs.Members.{same-refl, same-true}
use Rattle.rup_model.specs.declared.journal.Entry.{Entry}
use Rattle.rup_model.specs.declared.journal.Entry.TheVariants.{Add}
use Rattle.rup_model.specs.declared.journal.Kind.{Kind}
use Rattle.rup_model.specs.declared.journal.Kind.TheVariants.{Learn, UnitLine}
use Rattle.rup_model.specs.Journal.{ended}
use Rattle.rup_model.proofs.Lists.{In, has_In, In_has, In_append_right, In_Contains}
use Rattle.rup_model.proofs.ProgramOpening.{All_from_In}
use Rattle.atomic_table.specs.declared.shared.Seat.{Seat}
use Rattle.share_core.specs.declared.part.CoreOpening.{CoreOpening}
use Rattle.share_core.specs.declared.part.Part.{Part}
use Rattle.share_core.specs.declared.stored.ClauseAt.{ClauseAt}
use Rattle.share_core.specs.State.{times_at}
use Rattle.share_core.proofs.ClauseLists.{all_in}
use Rattle.share_rule.specs.declared.Layout.{Layout}
use Rattle.share_rule.specs.declared.Shared.{Shared}
use Rattle.share_rule.specs.declared.note.Note.TheVariants.{Unit as UnitNote}
use Rattle.share_rule.specs.declared.view.Refusal.{Refusal}
use Rattle.share_rule.specs.declared.view.RingPart.{RingPart}
use Rattle.share_rule.specs.declared.view.View.{View}
use Rattle.share_rule.specs.Layout.{InVars}
use Rattle.share_rule.specs.Passes.{IsPassOf}
use Rattle.share_rule.specs.Turns.{IsFree, next_number, sheet_after, give_part, newer}
use Rattle.share_rule.specs.Views.{only}
use Rattle.ring_port.specs.Port.{WroteUnit, EndsWith, Sees}
use Rattle.ring_port.specs.PortState.{PortState, IsOn}
use Rattle.ring_pass.specs.declared.waiting.Waiting.{Waiting}
use Rattle.ring_pass.specs.RingState.{Own, kept, without_kept, port_with, port_of, home_of, IsOwn, IsRingPass, HasRoom, HasUnits, CanOffer}
use Rattle.ring_pass.specs.declared.spares.Spares.{Spares}
use Rattle.std.specs.Option.{option_map}
use Rattle.ring_pass.proofs.CanOffers.{offer_turns}
use Rattle.ring_pass.specs.Sights.{Listed, LeftOut, HasNumbered}
use Rattle.ring_pass.specs.Cells.{WroteUnitLine}
use Rattle.ring_pass.specs.Writes.{entries_of, sheet_with, Wrote}
use Rattle.ring_pass.proofs.EndsHere.{ends_here}
use Rattle.ring_pass.proofs.PollsHere.{port_step}
use Rattle.ring_pass.proofs.SeenHere.{less_counted, filter_passes, rest_distinct}
use Rattle.ring_pass.specs.Numbers.{KnowsNumbers, KeepsNumbers}
use Rattle.ring_pass.proofs.NumbersHere.{numbers_keep}
use Rattle.ring_pass.proofs.Stays.{only_is, one_is, numbers_then}
use Rattle.ring_pass.proofs.TurnsHere.{mine_last, ticket_as, port_going, ring_turns, room_turns, units_turns}
use Rattle.ring_pass.proofs.Units.{filter_In, In_filter, head_else}
use Rattle.ring_pass.specs.Refusals.{answer_noted}
use Rattle.ring_pass.proofs.AllListed.{listed_unit}

-- The line

-- the ring's part after it
abbrev pub unit_line : View → List Entry → Kind → Literal → List ℕ → Option Refusal → Bool → RingPart
unit_line v J kind lit hints x failed = give_part v.opening (sheet_after v.opening (only v).core.ring (sheet_with J (only v)) (UnitNote kind lit hints ∷ [])) x failed (only v)

abbrev pub unit_entry : View → List Entry → Kind → Literal → List ℕ → Entry
unit_entry v J kind lit hints = Add (record { ring = (only v).core.ring; number = next_number v.opening J; lits = lit ∷ []; kind = kind; hints = hints })

pub line_is : {v u : View} {kind : Kind} {lit : Literal} {hints : List ℕ} (h : Wrote v u (UnitNote kind lit hints)) → only u ≡ unit_line v h.journal kind lit hints h.refused h.failed
line_is {v} {u} {kind} {lit} {hints} h = only_is u (unit_line v h.journal kind lit hints h.refused h.failed) h.gave.parts

pub line_free : {v u : View} {kind : Kind} {lit : Literal} {hints : List ℕ} (r : ℕ) → Wrote v u (UnitNote kind lit hints) → r ≡ (only v).core.ring → IsFree u × (r ≡ (only u).core.ring)
line_free {v} {u} {kind} {lit} {hints} r h e =
    let x : RingPart = unit_line v h.journal kind lit hints h.refused h.failed in
    ((one_is u x h.gave.parts, ap (λ (p : RingPart). p.turn) (line_is h)), e ∙ sym (ap (λ (p : RingPart). p.core.ring) (line_is h)))

-- the ring wrote it under this number
pub line_numbered : {v u : View} {kind : Kind} {lit : Literal} {hints : List ℕ} {number : ℕ} → WroteUnitLine v u kind lit hints number → HasNumbered (only u) lit number
line_numbered {v} {u} {kind} {lit} {hints} {number} h =
    let w : Wrote v u (UnitNote kind lit hints) = h.wrote in
    let e : Entry = unit_entry v w.journal kind lit hints in
    let is : entries_of (only u) ≡ entries_of (only v) ++ e ∷ [] = ap entries_of (line_is w) ∙ mine_last (only v).core.wrote (record { place = length w.journal; entry = e }) in
    let there : In e (entries_of (only u)) = subst (In e) (sym is) (In_append_right (entries_of (only v)) (e ∷ []) e (inl refl)) in
    let ring : (only v).core.ring ≡ (only u).core.ring = sym (ap (λ (p : RingPart). p.core.ring) (line_is w)) in (
      kind,
      hints,
      In_Contains (entries_of (only u)) (Add (record { ring = (only u).core.ring; number = number; lits = lit ∷ []; kind = kind; hints = hints }))
          (subst (λ (y : ℕ × ℕ). In (Add (record { ring = y.0; number = y.1; lits = lit ∷ []; kind = kind; hints = hints })) (entries_of (only u))) (λ i. (ring i, sym h.number_is i)) there),
    )

pub line_units : {v u : View} {kind : Kind} {lit : Literal} {hints : List ℕ} (seen : List Literal) (a b : ℕ) → Wrote v u (UnitNote kind lit hints) → HasUnits (only v) v.layout.vars seen a b → HasUnits (only u) u.layout.vars seen a b
line_units {v} {u} {kind} {lit} {hints} seen a b h m = units_turns v u (unit_line v h.journal kind lit hints h.refused h.failed) seen a b h.gave.layout h.gave.parts refl m

pub line_numbers : {v u : View} {kind : Kind} {lit : Literal} {hints : List ℕ} (table : List ℕ) → Wrote v u (UnitNote kind lit hints) → KnowsNumbers v table → KnowsNumbers u table
line_numbers {v} {u} {kind} {lit} {hints} table h m =
    let is = line_is h in
    numbers_keep (ap (λ (p : RingPart). p.core.seen) is) (ap (λ (p : RingPart). p.core.numbers) is) (ap (λ (y : Layout). y.vars) h.gave.layout) m

pub line_told : {v u : View} {kind : Kind} {lit : Literal} {hints : List ℕ} (arrived : List Literal) → Wrote v u (UnitNote kind lit hints) → All (λ l. has (only v).core.seen l ≡ true) arrived → All (λ l. has (only u).core.seen l ≡ true) arrived
line_told {v} {u} {kind} {lit} {hints} arrived h told = subst (λ (p : RingPart). All (λ l. has p.core.seen l ≡ true) arrived) (sym (line_is h)) told

pub line_room : {v u : View} {kind : Kind} {lit : Literal} {hints : List ℕ} (last : Option Cref) (ws : List Waiting) (room : ℕ) → Wrote v u (UnitNote kind lit hints) → HasRoom (only v) v.opening.rings last ws room → HasRoom (only u) u.opening.rings last ws room
line_room {v} {u} {kind} {lit} {hints} last ws room h m =
    let long = length-append (only v).core.wrote (record { place = length h.journal; entry = unit_entry v h.journal kind lit hints } ∷ []) in
    room_turns v u (unit_line v h.journal kind lit hints h.refused h.failed) last ws room h.gave.opening h.gave.parts refl refl (omega arith) m

pub line_on : {v u : View} {kind : Kind} {lit : Literal} {hints : List ℕ} → Wrote v u (UnitNote kind lit hints) → InVars v.layout (lit ∷ []) → InVars u.layout (lit ∷ [])
line_on {v} {u} {kind} {lit} {hints} h on = subst (λ (l : Layout). InVars l (lit ∷ [])) (sym h.gave.layout) on

pub unit_on : (v : View) (o : Own) (s : PortState) (lit : Literal) → port_of v o ≡ s → IsOn s.vars lit → InVars v.layout (lit ∷ [])
unit_on v o s lit view on = subst (λ (y : PortState). IsOn y.vars lit → InVars v.layout (lit ∷ [])) view (λ h. All_from_In (λ (k : Literal). (1 ≤ k.var) × (k.var ≤ v.layout.vars)) (lit ∷ []) (λ k i. by k i h)) on
  where
    by : (k : Literal) → In k (lit ∷ []) → IsOn v.layout.vars lit → (1 ≤ k.var) × (k.var ≤ v.layout.vars)
    by k (inl e) h = subst (λ (z : Literal). (1 ≤ z.var) × (z.var ≤ v.layout.vars)) e (h.low, h.high)
    by k (inr i) h = absurd i

-- What is seen then

has_kept : (ks seen : List Literal) (k : Literal) → has (without_kept ks seen) k ≡ (has seen k && not (has ks k))
has_kept ks seen k = by (has seen k) (has ks k) refl refl
  where
    into : (b : Bool) → (b ≡ true → ⊥) → b ≡ false
    into true h = absurd (h refl)
    into false h = refl

    by : (a b : Bool) → has seen k ≡ a → has ks k ≡ b → has (without_kept ks seen) k ≡ (a && not b)
    by true true ea eb = into (has (without_kept ks seen) k) (λ e. false≢true (sym (ap not eb) ∙ filter_passes (λ l. not (has ks l)) seen k (has_In (without_kept ks seen) k e)))
    by true false ea eb = In_has (without_kept ks seen) k (In_filter (λ l. not (has ks l)) seen k (has_In seen k ea) (ap not eb))
    by false true ea eb = into (has (without_kept ks seen) k) (λ e. false≢true (sym ea ∙ In_has seen k (filter_In (λ l. not (has ks l)) seen k (has_In (without_kept ks seen) k e))))
    by false false ea eb = into (has (without_kept ks seen) k) (λ e. false≢true (sym ea ∙ In_has seen k (filter_In (λ l. not (has ks l)) seen k (has_In (without_kept ks seen) k e))))

-- seen before, new, kept before, and the unit itself
weigh : (s n d e : Bool) → (n ≡ true → s ≡ false) → (((s || n) || e) && not ((d || n) && not e)) ≡ ((s && not d) || e)
weigh true true d e f = absurd (false≢true (sym (f refl)))
weigh true false true true f = refl
weigh true false true false f = refl
weigh true false false true f = refl
weigh true false false false f = refl
weigh false true true true f = refl
weigh false true true false f = refl
weigh false true false true f = refl
weigh false true false false f = refl
weigh false false true true f = refl
weigh false false true false f = refl
weigh false false false true f = refl
weigh false false false false f = refl

drop_front : (n : ℕ) (xs ys : List Literal) → n ≤ length xs → drop n (xs ++ ys) ≡ drop n xs ++ ys
drop_front zero xs ys le = refl
drop_front (suc n) [] ys le = absurd (omega arith)
drop_front (suc n) (x ∷ xs) ys le = drop_front n xs ys (omega arith)

take_front : (n : ℕ) (xs ys : List Literal) → n ≤ length xs → take n (xs ++ ys) ≡ take n xs
take_front zero xs ys le = refl
take_front (suc n) [] ys le = absurd (omega arith)
take_front (suc n) (x ∷ xs) ys le = ap (λ (zs : List Literal). x ∷ zs) (take_front n xs ys (omega arith))

-- for lists: the unit is listed, what is new is kept, and the unit is not
pub sees_written : (seen seen' arrived news arrived' last : List Literal) (passed : ℕ) (lit : Literal) → ((k : Literal) → has seen' k ≡ (has (seen ++ news) k || same lit k)) → ((k : Literal) → has news k ≡ true → has seen k ≡ false) → passed ≤ length arrived → arrived' ≡ arrived ++ news → LeftOut passed lit arrived' last
    → Sees (without_kept (drop passed arrived) seen) (without_kept (drop passed last) seen') lit
sees_written seen seen' arrived news arrived' last passed lit sees apart le is out k =
    let d : has (drop passed arrived') k ≡ (has (drop passed arrived) k || has news k) = ap (λ (ls : List Literal). has (drop passed ls) k) is ∙ ap (λ (ls : List Literal). has ls k) (drop_front passed arrived news le) ∙ list_any-append (same k) (drop passed arrived) news in
    let a : has seen' k ≡ ((has seen k || has news k) || same lit k) = sees k ∙ ap (λ (b : Bool). b || same lit k) (list_any-append (same k) seen news) in
    has_kept (drop passed last) seen' k
    ∙ (λ i. a i && not (out.rest k i))
    ∙ (λ i. ((has seen k || has news k) || same lit k) && not (d i && not (same lit k)))
    ∙ weigh (has seen k) (has news k) (has (drop passed arrived) k) (same lit k) (apart k)
    ∙ (λ i. sym (has_kept (drop passed arrived) seen k) i || same lit k)

-- The port

pub unit_put : {v w u : View} {kind : Kind} {lit : Literal} {hints : List ℕ} {arrived' last : List Literal} (o : Own) (home : List ℕ) (cell : Option Cref) → IsOwn (only v) o → Wrote v w (UnitNote kind lit hints) → Listed w u o.arrived arrived' lit → LeftOut o.passed lit arrived' last → home ≡ o.home
    → WroteUnit (port_of v o) (port_of u (record o { arrived = last; last = cell; home = home })) lit kind (option_map (λ (c : Cref). c.address) cell)
unit_put {v} {w} {u} {kind} {lit} {hints} {arrived'} {last} o home cell own h l out hm = record {
  number = next_number v.opening h.journal;
  hints = hints;
  going = port_going v o h.journal own h.knows h.going;
  sees = subst (λ (ls : List Literal). Sees (without_kept (kept o) seen) (without_kept (drop o.passed last) ls) lit) (sym now)
      (sees_written seen l.part.core.seen o.arrived l.news arrived' last o.passed lit (λ k. l.sees k ∙ ap (λ (ls : List Literal). has (ls ++ l.news) k || same lit k) before) (λ k e. ap (λ (ls : List Literal). has ls k) (sym before) ∙ l.apart k e) own.passed l.arrived_is out);
  looked = less_counted (2 ^ 64 - 1) (only v).caught_up (only u).caught_up more;
  state = q ∙ (λ i. record (port_with v line o') { ticket = ticket_as kind (only v).core.ticket i; seen = without_kept (drop o.passed last) (sym now i); told = zip (sym now i) (sym now_numbers i); given = given i; caught_up = min (sym caught i) (2 ^ 64 - 1); mine = mine_last (only v).core.wrote (record { place = length h.journal; entry = unit_entry v h.journal kind lit hints }) i; home = hm i });
}
  where
    seen : List Literal
    seen = (only v).core.seen

    line : RingPart
    line = unit_line v h.journal kind lit hints h.refused h.failed

    o' : Own
    o' = record o { arrived = last; last = cell; home = home }

    before : (only w).core.seen ≡ seen
    before = ap (λ (p : RingPart). p.core.seen) (line_is h)

    now : (only u).core.seen ≡ l.part.core.seen
    now = ap (λ (p : RingPart). p.core.seen) (only_is u l.part l.parts)

    now_numbers : (only u).core.numbers ≡ l.part.core.numbers
    now_numbers = ap (λ (p : RingPart). p.core.numbers) (only_is u l.part l.parts)

    core : l.part.core ≡ record line.core { seen = l.part.core.seen; numbers = l.part.core.numbers }
    core = l.core ∙ (λ i. record (line_is h i).core { seen = l.part.core.seen; numbers = l.part.core.numbers })

    given : take o.passed last ≡ take o.passed o.arrived
    given = out.front ∙ ap (take o.passed) l.arrived_is ∙ take_front o.passed o.arrived l.news own.passed

    caught : (only u).caught_up ≡ l.part.caught_up
    caught = ap (λ (p : RingPart). p.caught_up) (only_is u l.part l.parts)

    more : (only v).caught_up ≤ (only u).caught_up
    more = subst (λ (y : ℕ × ℕ). y.0 ≤ y.1) (λ i. (ap (λ (p : RingPart). p.caught_up) (line_is h) i, sym caught i)) l.caught_up

    q : port_of u o' ≡ record (port_with v line o') { seen = without_kept (drop o.passed last) l.part.core.seen; told = zip l.part.core.seen l.part.core.numbers; caught_up = min l.part.caught_up (2 ^ 64 - 1) }
    q = port_step v u l.part o' l.parts (l.layout ∙ h.gave.layout) (l.opening ∙ h.gave.opening) (l.stop ∙ h.gave.stop) (l.looks ∙ h.gave.looks)
        ∙ (λ i. port_with v (record l.part { core = core i; glues = (l.glues ∙ ap (λ (p : RingPart). p.glues) (line_is h)) i; polls = (l.polls ∙ ap (λ (p : RingPart). p.polls) (line_is h)) i }) o')

-- as a call tells it
pub unit_as : {v w u : View} {lit : Literal} {hints : List ℕ} {arrived' last : List Literal} (o : Own) (s : PortState) (home : List ℕ) → port_of v o ≡ s → IsOwn (only v) o → Wrote v w (UnitNote UnitLine lit hints) → Listed w u o.arrived arrived' lit → LeftOut o.passed lit arrived' last → home ≡ o.home
    → WroteUnit s (port_of u (record o { arrived = last; home = home })) lit UnitLine s.last
unit_as {v} {w} {u} {lit} {hints} {arrived'} {last} o s home view own h l out hm = subst (λ (y : PortState). WroteUnit y (port_of u (record o { arrived = last; home = home })) lit UnitLine y.last) view (unit_put o home o.last own h l out hm)

pub learned_as : {v w u : View} {lit : Literal} {hints : List ℕ} {arrived' last : List Literal} (o : Own) (s : PortState) (home : List ℕ) → port_of v o ≡ s → IsOwn (only v) o → Wrote v w (UnitNote Learn lit hints) → Listed w u o.arrived arrived' lit → LeftOut o.passed lit arrived' last → home ≡ o.home
    → WroteUnit s (port_of u (record o { arrived = last; last = None; home = home })) lit Learn None
learned_as {v} {w} {u} {lit} {hints} {arrived'} {last} o s home view own h l out hm = subst (λ (y : PortState). WroteUnit y (port_of u (record o { arrived = last; last = None; home = home })) lit Learn None) view (unit_put o home None own h l out hm)

-- its line is the ring's last
pub unit_ends : {v w u : View} {kind : Kind} {lit : Literal} {hints : List ℕ} {arrived arrived' : List Literal} → Wrote v w (UnitNote kind lit hints) → Listed w u arrived arrived' lit → (o : Own) → EndsWith (port_of u o) hints
unit_ends {v} {w} {u} {kind} {lit} {hints} {arrived} {arrived'} h l o =
    let now = only_is u l.part l.parts in
    let ring : (only v).core.ring ≡ (only u).core.ring = sym (ap (λ (p : RingPart). p.core.ring) now ∙ ap (λ (c : Part). c.ring) l.core ∙ ap (λ (p : RingPart). p.core.ring) (line_is h)) in
    ends_here u o (only v).core.wrote (length h.journal) (next_number v.opening h.journal) (lit ∷ []) kind hints
    (ap (λ (p : RingPart). p.core.wrote) now ∙ ap (λ (c : Part). c.wrote) l.core ∙ ap (λ (p : RingPart). p.core.wrote) (line_is h)
    ∙ (λ i. (only v).core.wrote ++ record { place = length h.journal; entry = Add (record { ring = ring i; number = next_number v.opening h.journal; lits = lit ∷ []; kind = kind; hints = hints }) } ∷ []))

-- what was seen before is seen still
unit_sees : {v w u : View} {kind : Kind} {lit : Literal} {hints : List ℕ} {arrived arrived' : List Literal} (h : Wrote v w (UnitNote kind lit hints)) (l : Listed w u arrived arrived' lit) (k : Literal) → has (only v).core.seen k ≡ true → has l.part.core.seen k ≡ true
unit_sees {v} {w} {u} {kind} {lit} {hints} {arrived} {arrived'} h l k e =
    l.sees k
    ∙ or_left (has ((only w).core.seen ++ l.news) k) (same lit k) (list_any-append (same k) (only w).core.seen l.news ∙ or_left (has (only w).core.seen k) (has l.news k) (ap (λ (p : RingPart). has p.core.seen k) (line_is h) ∙ e))

-- and so is the unit
unit_seen : {v w u : View} {kind : Kind} {lit : Literal} {hints : List ℕ} {arrived arrived' : List Literal} (h : Wrote v w (UnitNote kind lit hints)) (l : Listed w u arrived arrived' lit) → has l.part.core.seen lit ≡ true
unit_seen {v} {w} {u} {kind} {lit} {hints} {arrived} {arrived'} h l =
    l.sees lit ∙ or_right (has ((only w).core.seen ++ l.news) lit) (same lit lit) (same-refl lit)

pub ring_unit : {B : Type 0} {t : Shared B} {p : Seat (Option B) View} {n : ℕ} {st : List Cref} {o : Own} {w : View} {kind : Kind} {lit : Literal} {hints : List ℕ} {arrived' last : List Literal} (q : Seat (Option B) View) (cell : Option Cref) (table : List ℕ) → IsRingPass t p n st o → IsPassOf t q → q.id ≡ p.id → q.me.1 ≡ [] → Wrote p.me.0 w (UnitNote kind lit hints) → Listed w q.me.0 o.arrived arrived' lit → LeftOut o.passed lit arrived' last
    → KeepsNumbers w q.me.0 o.numbers table → IsRingPass t q n st (record o { arrived = last; last = cell; numbers = table; home = home_of q })
ring_unit {B} {t} {p} {n} {st} {o} {w} {kind} {lit} {hints} {arrived'} {last} q cell table r pass id slots h l out keeps =
    let line : RingPart = unit_line p.me.0 h.journal kind lit hints h.refused h.failed in
    let is : only w ≡ line = line_is h in
    let core : l.part.core ≡ record (only w).core { seen = l.part.core.seen; numbers = l.part.core.numbers } = l.core in
    ring_turns q l.part (record o { arrived = last; last = cell; numbers = table; home = home_of q }) r pass id slots (l.opening ∙ h.gave.opening) l.parts (ap (λ (c : Part). c.ring) core ∙ ap (λ (x : RingPart). x.core.ring) is) l.turn refl (record {
      passed = out.passed_is;
      distinct = out.distinct;
      told = All_from_In (λ (x : Literal). has l.part.core.seen x ≡ true) last (λ x i. all_in (λ (y : Literal). has l.part.core.seen y ≡ true) arrived' x (has_In arrived' x (out.among x (In_has last x i))) l.told);
      taken = subst (λ (hs : List ClauseAt). All (λ c. 0 < times_at c.address hs) o.taken) (sym (ap (λ (c : Part). c.held) core ∙ ap (λ (x : RingPart). x.core.held) is)) r.own.taken;
      ended_is = λ e. l.ended_is (ap (λ (x : RingPart). x.ended) is ∙ or_left (only p.me.0).ended (ended p.me.0.opening.formula (h.journal ++ unit_entry p.me.0 h.journal kind lit hints ∷ [])) (r.own.ended_is e));
      refused_is = r.own.refused_is ∙ ap (option_map answer_noted) (sym (l.refused ∙ ap (λ (x : RingPart). x.refused) is ∙ ap (λ (x : Option Refusal). newer x (only p.me.0).refused) h.quiet));
      faulty_is = λ e. l.failed_is (ap (λ (x : RingPart). x.failed) is ∙ h.gave.still (r.own.faulty_is e));
      making = ap (λ (c : Part). c.making) core ∙ ap (λ (x : RingPart). x.core.making) is ∙ r.own.making;
      listed = listed_unit (only p.me.0) l.part (record { place = length h.journal; entry = unit_entry p.me.0 h.journal kind lit hints }) lit (ap (λ (c : Part). c.wrote) core ∙ ap (λ (x : RingPart). x.core.wrote) is) refl (unit_sees h l) (unit_seen h l) r.own.listed;
    })
    (λ lone e. absurd (true≢false (sym (l.alone (ap (λ (x : CoreOpening). x.rings) h.gave.opening ∙ lone) e) ∙ ap (λ (x : RingPart). x.failed) is ∙ h.whole)))
    refl
    (λ m.
    let vars = ap (λ (y : Layout). y.vars) h.gave.layout in
    numbers_keep refl refl (sym vars) (numbers_then w q.me.0 l.part o.numbers table l.parts l.layout keeps (line_numbers o.numbers h m)))

pub room_unit : {v w u : View} {kind : Kind} {lit : Literal} {hints : List ℕ} {arrived arrived' : List Literal} (last : Option Cref) (ws : List Waiting) (room : ℕ) → Wrote v w (UnitNote kind lit hints) → Listed w u arrived arrived' lit → HasRoom (only v) v.opening.rings last ws room → HasRoom (only u) u.opening.rings last ws room
room_unit {v} {w} {u} {kind} {lit} {hints} {arrived} {arrived'} last ws room h l m =
    let wrote = ap (λ (c : Part). length c.wrote) l.core in
    room_turns w u l.part last ws room l.opening l.parts (ap (λ (c : Part). c.waiting) l.core) (ap (λ (c : Part). c.shared) l.core) (omega arith) (line_room last ws room h m)

-- no fewer arrived
pub arrived_passed : {w u : View} {lit : Literal} {arrived arrived' : List Literal} → Listed w u arrived arrived' lit → length arrived ≤ length arrived'
arrived_passed {w} {u} {lit} {arrived} {arrived'} l = let e = ap length l.arrived_is in let m = length-append arrived l.news in omega arith

-- One unit left out

pub left_none : (passed : ℕ) (lit : Literal) (xs : List Literal) → passed ≤ length xs → distinct_lits xs ≡ true → has (drop passed xs) lit ≡ false → LeftOut passed lit xs xs
left_none passed lit xs le d none = record { front = refl; rest = λ k. by k (same lit k) refl; passed_is = le; distinct = d; among = λ k e. e }
  where
    plain : (a : Bool) → a ≡ (a && true)
    plain true = refl
    plain false = refl

    away : (a : Bool) → a ≡ false → a ≡ (a && false)
    away true e = e
    away false e = refl

    by : (k : Literal) (b : Bool) → same lit k ≡ b → has (drop passed xs) k ≡ (has (drop passed xs) k && not b)
    by k true e = away (has (drop passed xs) k) (ap (has (drop passed xs)) (sym (same-true lit k e)) ∙ none)
    by k false e = plain (has (drop passed xs) k)

-- where it stands at no place from there on
pub none_from : (n : ℕ) (xs : List Literal) (l d : Literal) → ((j : ℕ) → n ≤ j → j < length xs → same l (get_or xs j d) ≡ false) → has (drop n xs) l ≡ false
none_from zero [] l d h = refl
none_from (suc n) [] l d h = refl
none_from zero (x ∷ xs) l d h = by (none_from zero xs l d (λ j le lt. h (suc j) (omega arith) (omega arith))) (same l x) (h 0 (omega arith) (omega arith))
  where
    by : has xs l ≡ false → (b : Bool) → b ≡ false → (b || has xs l) ≡ false
    by again true e = absurd (false≢true (sym e))
    by again false e = again
none_from (suc n) (x ∷ xs) l d h = none_from n xs l d (λ j le lt. h (suc j) (omega arith) (omega arith))

mix : (a b c : Bool) → (a ≡ true → c ≡ false) → (a || (b && not c)) ≡ ((a || b) && not c)
mix true b true f = absurd (false≢true (sym (f refl)))
mix true b false f = refl
mix false b c f = refl

-- it is not the other one
not_same : (x y k : Literal) (zs : List Literal) → has zs y ≡ false → In x zs → same k y ≡ true → same x k ≡ false
not_same x y k zs none i e = by (same x k) refl
  where
    by : (b : Bool) → same x k ≡ b → same x k ≡ false
    by true t = absurd (false≢true (sym none ∙ subst (λ (z : Literal). has zs z ≡ true) (same-true x k t ∙ same-true k y e) (In_has zs x i)))
    by false t = t

at_In : (i : ℕ) (xs : List Literal) (x : Literal) → i < length xs → x ≡ get_or xs i x → In x xs
at_In i [] x lt e = absurd (omega arith)
at_In zero (y ∷ xs) x lt e = inl (sym e)
at_In (suc i) (y ∷ xs) x lt e = inr (at_In i xs x (omega arith) e)

first_out : (x : Literal) (ys : List Literal) → distinct_lits (x ∷ ys) ≡ true → LeftOut 0 x (x ∷ ys) ys
first_out x ys d = record { front = refl; rest = λ k. by k (same x k) refl (has ys k) refl; passed_is = omega arith; distinct = rest_distinct 1 (x ∷ ys) d; among = λ k e. or_right (same k x) (has ys k) e }
  where
    none : has ys x ≡ false
    none = head_else x ys d

    other : (k : Literal) → same x k ≡ false → same k x ≡ false
    other k e = is (same k x) refl
      where
        is : (b : Bool) → same k x ≡ b → same k x ≡ false
        is true t = absurd (false≢true (sym e ∙ subst (λ (z : Literal). same x z ≡ true) (sym (same-true k x t)) (same-refl x)))
        is false t = t

    off : (a : Bool) → false ≡ (a && false)
    off true = refl
    off false = refl

    on : (a b : Bool) → a ≡ false → b ≡ ((a || b) && true)
    on true b e = absurd (false≢true (sym e))
    on false true e = refl
    on false false e = refl

    by : (k : Literal) (s : Bool) → same x k ≡ s → (h : Bool) → has ys k ≡ h → has ys k ≡ ((same k x || has ys k) && not s)
    by k true e h t = (ap (has ys) (sym (same-true x k e)) ∙ none) ∙ off (same k x || has ys k)
    by k false e h t = on (same k x) (has ys k) (other k e)

stays_distinct : (y : Literal) (ys zs : List Literal) → has ys y ≡ false → ((k : Literal) → has zs k ≡ true → has ys k ≡ true) → distinct_lits zs ≡ true → distinct_lits (y ∷ zs) ≡ true
stays_distinct y ys zs none among d = by (has zs y) refl
  where
    by : (b : Bool) → has zs y ≡ b → (not b && distinct_lits zs) ≡ true
    by true e = absurd (false≢true (sym none ∙ among y e))
    by false e = d

one_more : (y : Literal) (ys zs : List Literal) (k : Literal) → (has zs k ≡ true → has ys k ≡ true) → has (y ∷ zs) k ≡ true → has (y ∷ ys) k ≡ true
one_more y ys zs k f e = by (same k y) e
  where
    by : (b : Bool) → (b || has zs k) ≡ true → (b || has ys k) ≡ true
    by true h = refl
    by false h = f h

-- after another one
later_out : (n : ℕ) (x y : Literal) (ys zs : List Literal) → has ys y ≡ false → In x ys → LeftOut n x ys zs → LeftOut 0 x ys zs → LeftOut 0 x (y ∷ ys) (y ∷ zs)
later_out n x y ys zs none i l m = record {
  front = refl;
  rest = λ k. ap (λ (b : Bool). same k y || b) (m.rest k) ∙ mix (same k y) (has ys k) (same x k) (not_same x y k ys none i);
  passed_is = omega arith;
  distinct = stays_distinct y ys zs none m.among m.distinct;
  among = λ k e. one_more y ys zs k (m.among k) e;
}

pub left_one : (n i : ℕ) (xs : List Literal) (x : Literal) → n ≤ i → i < length xs → x ≡ get_or xs i x → distinct_lits xs ≡ true → LeftOut n x xs (take i xs ++ drop (suc i) xs)
left_one n i [] x le lt e d = absurd (omega arith)
left_one zero zero (y ∷ ys) x le lt e d = subst (λ (z : Literal). LeftOut 0 z (y ∷ ys) ys) (sym e) (first_out y ys d)
left_one (suc n) zero (y ∷ ys) x le lt e d = absurd (omega arith)
left_one zero (suc i) (y ∷ ys) x le lt e d =
    let m = left_one zero i ys x (omega arith) (omega arith) e (rest_distinct 1 (y ∷ ys) d) in
    later_out 0 x y ys (take i ys ++ drop (suc i) ys) (head_else y ys d) (at_In i ys x (omega arith) e) m m
left_one (suc n) (suc i) (y ∷ ys) x le lt e d =
    let m = left_one n i ys x (omega arith) (omega arith) e (rest_distinct 1 (y ∷ ys) d) in
    let p = m.passed_is in
    record {
      front = ap (λ (zs : List Literal). y ∷ zs) m.front;
      rest = m.rest;
      passed_is = omega arith;
      distinct = stays_distinct y ys (take i ys ++ drop (suc i) ys) (head_else y ys d) m.among m.distinct;
      among = λ k f. one_more y ys (take i ys ++ drop (suc i) ys) k (m.among k) f;
    }

-- the next offer takes no memory still
pub offer_unit : {v w u : View} {kind : Kind} {lit : Literal} {hints : List ℕ} {arrived arrived' : List Literal} (last : Option Cref) (s : Spares) → Wrote v w (UnitNote kind lit hints) → Listed w u arrived arrived' lit → CanOffer (only v) v.opening last s → CanOffer (only u) u.opening last s
offer_unit {v} {w} {u} {kind} {lit} {hints} {arrived} {arrived'} last s h l r =
    offer_turns v u l.part last s (l.opening ∙ h.gave.opening) l.parts (ap (λ (c : Part). c.held) l.core ∙ ap (λ (x : RingPart). x.core.held) (line_is h)) (l.gave ∙ ap (λ (x : RingPart). x.gave) (line_is h)) (ap (λ (c : Part). c.ring) l.core ∙ ap (λ (x : RingPart). x.core.ring) (line_is h)) (ap (λ (c : Part). c.puts) l.core ∙ ap (λ (x : RingPart). x.core.puts) (line_is h)) r
