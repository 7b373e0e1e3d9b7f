-- What follows from what the port may use, and the end of the log.
use Rattle.std.proofs.Common.{◌≡◌, ℕ, Bool, true, false, not, List, [], ◌∷◌, ◌++◌, map, length, refl, sym, ap, subst, ◌∙◌, ⊎_elim, arith, Option, length-append}
use Rattle.std.specs.List.{list_any}
use Rattle.std.proofs.lemmas.Bool.{true≢false, or_right}
use Rattle.std.proofs.lemmas.List.Folds.{list_any-append}
use Rattle.sat_words.specs.Literal.{Literal}
use Rattle.sat_words.specs.Clause.{has, is_empty}
use Rattle.sat_words.specs.declared.shared.Cref.{Cref}
use Rattle.rup_model.specs.declared.journal.Entry.{Entry}
use Rattle.rup_model.specs.declared.journal.Entry.TheVariants.{Add}
use Rattle.rup_model.specs.declared.journal.Kind.{Kind}
use Rattle.rup_model.specs.declared.journal.Kind.TheVariants.{Derive}
use Rattle.rup_model.specs.Journal.{added, ended}
use Rattle.rup_model.specs.Hints.{numbered, hinted, HintsFit}
use Rattle.rup_model.specs.Rup.{rup}
use Rattle.rup_model.proofs.Additions.{added-append}
use Rattle.rup_model.proofs.Growth.{Among, rup_more}
use Rattle.rup_model.proofs.Lists.{In, In_map, map_In, In_append, In_append_left, In_append_right}
use Rattle.atomic_table.specs.declared.shared.Seat.{Seat}
use Rattle.share_core.specs.declared.stored.ClauseAt.{ClauseAt}
use Rattle.share_core.specs.Learning.{follows, known_clauses}
use Rattle.share_core.specs.declared.part.Placed.{Placed}
use Rattle.share_rule.specs.declared.Shared.{Shared}
use Rattle.share_rule.specs.declared.note.Note.TheVariants.{Empty}
use Rattle.share_rule.specs.declared.view.Refusal.{Refusal}
use Rattle.share_rule.specs.declared.view.RingPart.{RingPart}
use Rattle.share_rule.specs.declared.view.View.{View}
use Rattle.share_rule.specs.Passes.{IsPassOf}
use Rattle.share_rule.specs.Turns.{next_number, sheet_after, give_part, newer}
use Rattle.share_rule.specs.Views.{only}
use Rattle.ring_port.specs.Port.{EndedLog, AreHints, EndsWith}
use Rattle.ring_port.specs.PortState.{Holding, PortState, known, known_at}
use Rattle.ring_pass.specs.declared.waiting.Waiting.{Waiting}
use Rattle.ring_pass.specs.RingState.{Own, kept, holding_of, port_of, home_of, IsOwn, IsRingPass, HasRoom, HasUnits}
use Rattle.ring_pass.specs.Writes.{sheet_with, Wrote}
use Rattle.ring_pass.proofs.RingPorts.{known_is}
use Rattle.ring_pass.proofs.Stays.{only_is}
use Rattle.ring_pass.proofs.PollsHere.{port_step}
use Rattle.ring_pass.proofs.TurnsHere.{mine_last, port_going, ring_turns, room_turns, units_turns}
use Rattle.ring_pass.proofs.Units.{filter_In}
use Rattle.ring_pass.specs.Refusals.{answer_noted}
use Rattle.std.specs.Option.{option_map}
use Rattle.ring_pass.proofs.AllListed.{listed_last}

-- What the port may use

-- the ring may use it too
known_here : (v : View) (o : Own) → Among (known (port_of v o)) (known_clauses (only v).core)
unfolding known
known_here v o x i = ⊎_elim held seen (In_append (map (λ (h : Holding). h.lits) (port_of v o).held) (map (λ (l : Literal). l ∷ []) (port_of v o).seen) x i)
  where
    held : In x (map (λ (h : Holding). h.lits) (port_of v o).held) → In x (known_clauses (only v).core)
    held j =
        let t = map_In (λ (h : Holding). h.lits) (port_of v o).held x j in
        let u = map_In (holding_of (only v).glues) (only v).core.held t.0 t.1 in
        subst (λ (c : List Literal). In c (known_clauses (only v).core)) (ap (λ (h : Holding). h.lits) u.2 ∙ t.2)
        (In_append_left (map (λ (h : ClauseAt). h.lits) (only v).core.held) (map (λ (l : Literal). l ∷ []) (only v).core.seen) u.0.lits (In_map (λ (h : ClauseAt). h.lits) (only v).core.held u.0 u.1))

    seen : In x (map (λ (l : Literal). l ∷ []) (port_of v o).seen) → In x (known_clauses (only v).core)
    seen j =
        let t = map_In (λ (l : Literal). l ∷ []) (port_of v o).seen x j in
        let k = filter_In (λ l. not (has (kept o) l)) (only v).core.seen t.0 t.1 in
        subst (λ (c : List Literal). In c (known_clauses (only v).core)) t.2
        (In_append_right (map (λ (h : ClauseAt). h.lits) (only v).core.held) (map (λ (l : Literal). l ∷ []) (only v).core.seen) (t.0 ∷ []) (In_map (λ (l : Literal). l ∷ []) (only v).core.seen t.0 k))

-- what hints show over it, or what follows from it in a log without hints, follows for the ring
pub follows_here : (v : View) (o : Own) (s : PortState) (lits : List Literal) (hints : List ℕ) → port_of v o ≡ s → AreHints s lits hints → rup (known s) lits ≡ true → follows v.opening.hinted (only v).core lits hints ≡ true
follows_here v o s lits hints view fit h = by v.opening.hinted (subst (λ (y : PortState). AreHints y lits hints) (sym view) fit) (subst (λ (y : PortState). rup (known y) lits ≡ true) (sym view) h)
  where
    by : (b : Bool) → HintsFit b (numbered (known_at (port_of v o))) lits hints → rup (known (port_of v o)) lits ≡ true → follows b (only v).core lits hints ≡ true
    by true k r = subst (λ (cs : List (ℕ × List Literal)). hinted (numbered cs) lits hints ≡ true) (known_is v o) k
    by false k r = (λ i. follows false (only v).core lits (k i)) ∙ rup_more (known (port_of v o)) (known_clauses (only v).core) lits (known_here v o) r

-- An entry with its hints

-- what was written last ends the port's entries
pub ends_here : (w : View) (o : Own) (ws : List Placed) (place number : ℕ) (lits : List Literal) (kind : Kind) (hints : List ℕ) → (only w).core.wrote ≡ ws ++ record { place = place; entry = Add (record { ring = (only w).core.ring; number = number; lits = lits; kind = kind; hints = hints }) } ∷ [] → EndsWith (port_of w o) hints
ends_here w o ws place number lits kind hints is = (
  map (λ (e : Placed). e.entry) ws,
  number,
  lits,
  kind,
  ap (map (λ (e : Placed). e.entry)) is ∙ mine_last ws (record { place = place; entry = Add (record { ring = (only w).core.ring; number = number; lits = lits; kind = kind; hints = hints }) }),
)

-- The empty clause

abbrev pub ended_part : View → List Entry → List ℕ → Option Refusal → Bool → RingPart
ended_part v J hints x failed = give_part v.opening (sheet_after v.opening (only v).core.ring (sheet_with J (only v)) (Empty hints ∷ [])) x failed (only v)

abbrev empty_entry : View → List Entry → List ℕ → Entry
empty_entry v J hints = Add (record { ring = (only v).core.ring; number = next_number v.opening J; lits = []; kind = Derive; hints = hints })

-- it ends the log
over : (v : View) (J : List Entry) (hints : List ℕ) → ended v.opening.formula (J ++ empty_entry v J hints ∷ []) ≡ true
over v J hints =
    let F : List (List Literal) = v.opening.formula in
    ap (λ (G : List (List Literal)). list_any is_empty (F ++ G)) (added-append J (empty_entry v J hints ∷ []))
    ∙ list_any-append is_empty F (added J ++ [] ∷ []) ∙ or_right (list_any is_empty F) (list_any is_empty (added J ++ [] ∷ [])) (list_any-append is_empty (added J) ([] ∷ []) ∙ or_right (list_any is_empty (added J)) true refl)

pub ended_as : {v u : View} {hints : List ℕ} (o : Own) (s : PortState) (home : List ℕ) → port_of v o ≡ s → IsOwn (only v) o → Wrote v u (Empty hints) → home ≡ o.home → EndedLog s (port_of u (record o { ended = true; home = home }))
ended_as {v} {u} {hints} o s home view own h hm = subst (λ (y : PortState). EndedLog y (port_of u (record o { ended = true; home = home }))) view (record {
  number = next_number v.opening h.journal;
  hints = hints;
  going = port_going v o h.journal own h.knows h.going;
  state = port_step v u (ended_part v h.journal hints h.refused h.failed) (record o { ended = true; home = home }) h.gave.parts h.gave.layout h.gave.opening h.gave.stop h.gave.looks
      ∙ (λ i. record (port_of v o) { mine = mine_last (only v).core.wrote (record { place = length h.journal; entry = empty_entry v h.journal hints }) i; ended = true; home = hm i });
})

pub ended_ends : {v u : View} {hints : List ℕ} → Wrote v u (Empty hints) → (o : Own) → EndsWith (port_of u o) hints
ended_ends {v} {u} {hints} h o =
    let now = only_is u (ended_part v h.journal hints h.refused h.failed) h.gave.parts in
    let ring : (only v).core.ring ≡ (only u).core.ring = sym (ap (λ (p : RingPart). p.core.ring) now) in
    ends_here u o (only v).core.wrote (length h.journal) (next_number v.opening h.journal) [] Derive hints
    (ap (λ (p : RingPart). p.core.wrote) now
    ∙ (λ i. (only v).core.wrote ++ record { place = length h.journal; entry = Add (record { ring = ring i; number = next_number v.opening h.journal; lits = []; kind = Derive; hints = hints }) } ∷ []))

pub ring_ended : {B : Type 0} {t : Shared B} {p : Seat (Option B) View} {n : ℕ} {st : List Cref} {o : Own} {hints : List ℕ} (q : Seat (Option B) View) → IsRingPass t p n st o → IsPassOf t q → q.id ≡ p.id → q.me.1 ≡ [] → Wrote p.me.0 q.me.0 (Empty hints) → IsRingPass t q n st (record o { ended = true; home = home_of q })
ring_ended {B} {t} {p} {n} {st} {o} {hints} q r pass id slots h =
    ring_turns q (ended_part p.me.0 h.journal hints h.refused h.failed) (record o { ended = true; home = home_of q }) r pass id slots h.gave.opening h.gave.parts refl refl refl (record {
      passed = r.own.passed;
      distinct = r.own.distinct;
      told = r.own.told;
      taken = r.own.taken;
      ended_is = λ e. or_right (only p.me.0).ended (ended p.me.0.opening.formula (h.journal ++ empty_entry p.me.0 h.journal hints ∷ [])) (over p.me.0 h.journal hints);
      refused_is = r.own.refused_is ∙ ap (λ (x : Option Refusal). option_map answer_noted (newer x (only p.me.0).refused)) (sym h.quiet);
      faulty_is = λ e. h.gave.still (r.own.faulty_is e);
      making = r.own.making;
      listed = listed_last (only p.me.0) (ended_part p.me.0 h.journal hints h.refused h.failed) (record { place = length h.journal; entry = empty_entry p.me.0 h.journal hints }) refl refl (λ l. refl) r.own.listed;
    })
    (λ _ e. absurd (true≢false (sym e ∙ h.whole)))
    refl
    (λ m. m)

pub room_ended : {hints : List ℕ} (v u : View) (last : Option Cref) (ws : List Waiting) (room : ℕ) → Wrote v u (Empty hints) → HasRoom (only v) v.opening.rings last ws room → HasRoom (only u) u.opening.rings last ws room
room_ended {hints} v u last ws room h m =
    let long = length-append (only v).core.wrote (record { place = length h.journal; entry = empty_entry v h.journal hints } ∷ []) in
    room_turns v u (ended_part v h.journal hints h.refused h.failed) last ws room h.gave.opening h.gave.parts refl refl (omega arith) m

pub units_ended : {hints : List ℕ} (v u : View) (seen : List Literal) (a b : ℕ) → Wrote v u (Empty hints) → HasUnits (only v) v.layout.vars seen a b → HasUnits (only u) u.layout.vars seen a b
units_ended {hints} v u seen a b h m = units_turns v u (ended_part v h.journal hints h.refused h.failed) seen a b h.gave.layout h.gave.parts refl m
