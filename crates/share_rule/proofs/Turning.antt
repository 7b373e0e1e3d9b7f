-- Taking the turn and giving it back keep the rule.
use Rattle.std.proofs.Common.{◌≡◌, ℕ, ◌+◌, ◌*◌, ◌%◌, ◌<◌, ◌≤◌, ◌==◌, Bool, true, false, List, [], ◌∷◌, length, set, refl, sym, ap, ◌∙◌, subst, inl, inr, arith, true≢false, length-set, get_or-set_other, get_or-set_same, Option, Some, None}
use Rattle.std.specs.Prelude.{slice_index, slice_index_or, map, fold, ◌||◌, if◌then◌else◌, IfSome}
use mathlib.Core.Option.{some, some-injective, some-ne-none}
use mathlib.Core.Option as maybe
use lib.ListN.{get_elem?}
use Rattle.rup_model.specs.Basics.{one_if}
use prog.Atomic.{either}
use Rattle.atomic_table.specs.Table.{State as Table, Me, Act, keeps, takes, gives, step, stepped as table_stepped, Valid, carried_after, Allows}
use Rattle.atomic_table.proofs.Lists.{set_here, exchanged}
use Rattle.sat_words.specs.Literal.{Literal, code_of}
use Rattle.rup_model.specs.declared.journal.Entry.{Entry}
use Rattle.share_core.specs.declared.event.Event.TheVariants.{TakeTurn, GiveTurn}
use Rattle.share_core.specs.declared.part.CoreOpening.{CoreOpening}
use Rattle.share_core.specs.declared.part.Part.{Part}
use Rattle.share_core.specs.declared.stored.Cell.{Cell}
use Rattle.share_core.specs.State.{State}
use Rattle.share_core.specs.Events.{after, listed_number}
use Rattle.share_core.specs.Sound.{Sound}
use Rattle.share_core.proofs.Counting.{some_same, none_some}
use Rattle.share_rule.specs.declared.view.BookOrigin.{BookOrigin}
use Rattle.share_rule.specs.declared.Layout.{Layout}
use Rattle.share_rule.specs.declared.rule.Key.{Key}
use Rattle.share_rule.specs.declared.note.Note.{Note}
use Rattle.share_rule.specs.declared.view.Refusal.{Refusal}
use Rattle.share_rule.specs.declared.view.Taken.{Taken}
use Rattle.share_rule.specs.declared.view.RingPart.{RingPart}
use Rattle.share_rule.specs.declared.view.StoredWord.{StoredWord}
use Rattle.share_rule.specs.declared.view.View.{View}
use Rattle.share_rule.specs.Layout.{grant_at, unit_at, number_at, slot_at, ticket_at}
use Rattle.share_rule.specs.Cells.{Spells}
use Rattle.share_core.specs.declared.event.Stop.{Stop}
use Rattle.rup_model.specs.Journal.{ended}
use Rattle.share_core.proofs.Leaving.{left_sound, left_one}
use Rattle.share_rule.specs.declared.view.Refusal.TheVariants.{Ended}
use Rattle.share_rule.specs.Steps.{on_first}
use Rattle.share_rule.specs.Views.{only, own_stop, is_ready}
use Rattle.share_rule.specs.Seen.{Stands, IsPart, IsStopOf, HasGiven, Seen, turn_of, IsRefused}
use Rattle.share_rule.specs.Shown.{Words, Fits, Shown, Shows, IsStored, IsOut, UnitOut, turn_number, ring_of, KnowsFault}
use Rattle.share_rule.specs.Turns.{event_of, sheet_after, AllNoted, journal_in, IsFree, IsWriting, sheet_of, written_of, MayWrite, WasRefused, newer, take_part, give_part, after_take, after_miss, after_give}
use Rattle.share_rule.specs.TurnsTold.{takes_turn, gives_turn}
use Rattle.share_rule.proofs.Parts.{cell_below, is_open, standing_of, seen_of}
use Rattle.share_rule.proofs.Words.{spells_else, none_out, turn_out}
use Rattle.share_rule.proofs.Sheets.{Beside, Noted, IsSheet, noted_given}
use Rattle.share_rule.proofs.Noting.{all_notes}
use Rattle.share_rule.proofs.Telling.{told_one, only_told, told_here}
use Rattle.share_rule.proofs.Moves.{one_ring, told_own, turn_some, turn_none, turn_other, turn_is, turn_has, given_same, stops_same, moved_with, refused_more, looked}
use Rattle.share_rule.proofs.Lists.{at_in, set_itself}

-- the first word changes, and cells that are not open
pub turn_words : (l : Layout) (c d : State) (glue glue' : ℕ → ℕ) (ws : List ℕ) (n : ℕ) → Stands l c → Words l c glue ws → n ≡ 256 * length d.journal + turn_number d.turn
    → d.stop ≡ c.stop → d.units ≡ c.units → d.numbers ≡ c.numbers → ((i : ℕ) → d.granted i ≡ c.granted i) → ((i : ℕ) → d.slot i ≡ c.slot i) → d.drawn ≡ c.drawn
    → ((a : ℕ) (x : Cell) → d.cell a ≡ Some x → x.maker ≡ None → (c.cell a ≡ Some x) × (glue' x.number ≡ glue x.number))
    → Words l d glue' (set ws 0 n)
turn_words l c d glue glue' ws n st w n_is stop units numbers grants slots_are drawn cells =
    let wide = w.wide in
    let in_ws : 0 < length ws = omega arith in
    record {
      wide = length-set ws 0 n ∙ w.wide;
      turn_is = get_or-set_same ws 0 n 0 in_ws ∙ n_is;
      stop_is = get_or-set_other ws 0 1 n 0 (λ e. omega arith) ∙ w.stop_is ∙ ap Rattle.share_rule.specs.Shown.stop_number (sym stop);
      listed_is = get_or-set_other ws 0 2 n 0 (λ e. omega arith) ∙ w.listed_is ∙ ap (λ (us : List Literal). length us) (sym units);
      grant_is = λ i lt. get_or-set_other ws 0 (grant_at i) n 0 (λ e. omega arith) ∙ w.grant_is i lt ∙ (λ k. one_if (Rattle.std.specs.Prelude.not (sym (grants i) k)));
      unit_is = λ k lt. get_or-set_other ws 0 (unit_at l k) n 0 (λ e. omega arith) ∙ w.unit_is k (subst (λ (us : List Literal). k < length us) units lt) ∙ ap (λ (us : List Literal). slice_index_or (map code_of us) k 0) (sym units);
      slot_is = λ k lt. get_or-set_other ws 0 (slot_at l k) n 0 (λ e. omega arith) ∙ w.slot_is k lt ∙ sym (slots_are k);
      ticket_is = get_or-set_other ws 0 (ticket_at l) n 0 (λ e. omega arith) ∙ w.ticket_is ∙ sym drawn;
      number_is = λ k lt. get_or-set_other ws 0 (number_at l k) n 0 (λ e. omega arith) ∙ w.number_is k (subst (λ (us : List Literal). k < length us) units lt) ∙ ap (λ (ns : List ℕ). listed_number ns k) (sym numbers);
      count_is = λ b y e o. let q = cells b y e o in let at = (st.inside b y q.0).0 in get_or-set_other ws 0 b n 0 (λ e. omega arith) ∙ w.count_is b y q.0 o;
      cell_is = λ b y e o. let q = cells b y e o in let at = (st.inside b y q.0).0 in
          subst (λ (g : ℕ). Spells (set ws 0 n) b y.number g y.lits) (sym q.1) (spells_else ws 0 n b y.number (glue y.number) y.lits (λ i some it z. omega arith) (w.cell_is b y q.0 o));
    }

-- what rings stored stays if the cells stay that they build
pub turn_stored : (l : Layout) (c d : State) (ws : List ℕ) (n i : ℕ) (ss : List StoredWord) → Stands l c → ((a j : ℕ) (x : Cell) → c.cell a ≡ Some x → x.maker ≡ Some j → d.cell a ≡ Some x) → IsStored c ws i ss → IsStored d (set ws 0 n) i ss
turn_stored l c d ws n i ss st built h = record {
  words = λ w m e. let b = h.inside w m e in let lo = b.4 in let at = (st.inside b.0 b.1 b.2).0 in get_or-set_other ws 0 w n 0 (λ q. omega arith) ∙ h.words w m e;
  inside = λ w m e. let b = h.inside w m e in (b.0, b.1, built b.0 i b.1 b.2 b.3, b.3, b.4, b.5);
}

free_turn : (t : Option ℕ) (n len rings : ℕ) → n ≡ 256 * len + turn_number t → n % 256 ≡ 0 → ((q : ℕ) → t ≡ Some q → q < rings) → rings ≤ 16 → t ≡ None
free_turn None n len rings e low few le = refl
free_turn (Some q) n len rings e low few le = let k = few q refl in absurd (omega arith)

module _ {S : Type 0} (stands : S → BookOrigin → Layout → CoreOpening → List Entry → Bool → Type 0) (k : Key) where
  -- what a step tells of the view that it leaves
  pub told_out : (s : Table (Option S) View) (ws : List ℕ) (hs : List (maybe.Option (Option S))) (id : ℕ) (v w : View) → get_elem? s.views id ≡ some v → is_ready w.stage ≡ true
      → Shows stands k.layout (record { words = ws; homes = hs; views = set s.views id w }) → Seen w
  told_out s ws hs id v w at ready next = seen_of stands k.layout (record { words = ws; homes = hs; views = set s.views id w }) id w next (set_here s.views id w (at_in s.views id v at)) ready

  taken_next : (s : Table (Option S) View) (h : Shows stands k.layout s) (id free new : ℕ) (v : View) → get_elem? s.views id ≡ some v → is_ready v.stage ≡ true → IsFree v → h.core.turn ≡ None
      → new ≡ 256 * length h.core.journal + (ring_of (only v) + 1)
      → (m : Shows stands k.layout (record { words = set s.words 0 new; homes = set s.homes 0 maybe.none; views = set s.views id (after_take free new h.core.journal h.fault v) })) × (m.core ≡ after h.core (TakeTurn (ring_of (only v))))
  taken_next s h id free new v at ready free_pass none new_is =
      let l : Layout = k.layout in
      let c : State = h.core in
      let p : RingPart = only v in
      let r : ℕ = ring_of p in
      let mine = one_ring l c h.glue h.owner id v (h.each id v at) free_pass.0 in
      let part : IsPart l c h.glue p = mine.0 in
      let d : State = after c (TakeTurn r) in
      let st : Stands l c = standing_of stands l s h in
      let own = h.stored id v 0 p at (ap (λ ps. get_elem? ps 0) free_pass.0) in
      let knew : KnowsFault h.fault p = h.faults id v 0 p at (ap (λ ps. get_elem? ps 0) free_pass.0) in
      moved_with stands l s h d h.glue id v (after_take free new c.journal h.fault v) (take_part c.journal h.fault p) (set s.words 0 new) (set s.homes 0 maybe.none) at
      (left_one c.opening c (TakeTurn r) h.left (part.ring, none))
      (record { rings = h.places.rings; depth = h.places.depth; limit = h.places.limit; small = h.places.small; words = h.places.words; only = h.places.only; tiled = h.places.tiled; vars = h.places.vars; starts = h.places.starts; entries = h.places.entries; units = h.places.units; few = h.places.few; first = h.places.first })
      (turn_words l c d h.glue h.glue s.words new st h.words new_is refl refl refl (λ _. refl) (λ _. refl) refl (λ a x is o. (is, refl)))
      (record {
        opening = refl;
        granted = λ _ _. refl;
        part = λ _ _. refl;
        turn = λ i ne. turn_other d r i refl ne ∙ sym (turn_none c i none);
        units = omega arith;
        kept_turn = λ i _ e. absurd (none_some i (sym none ∙ e));
        refused = λ _ _ x e. e;
        own = λ _ _. refl;
        stop_stays = λ _ e. e;
        stop_new = λ _ e. inl e;
        ends = λ e. e;
        given = λ i gave _ _ given. given_same c d i gave refl (λ _. refl) (λ _. refl) given;
        glue_kept = λ n lt. refl;
      })
      (λ _. refl) h.fault (λ e. absurd (none_some r (sym e))) free_pass.0 refl (ap (on_first (take_part c.journal h.fault)) free_pass.0) refl refl refl refl refl
      (stops_same c.stop v (after_take free new c.journal h.fault v) (take_part c.journal h.fault p) free_pass.0 (ap (on_first (take_part c.journal h.fault)) free_pass.0) refl refl (h.each id v at).stops)
      (record { ring = part.ring; part = part.part; glues = part.glues; made_glues = part.made_glues; turn = sym (turn_some d r refl); listed = part.listed; whole = λ e. absurd (true≢false (sym e)); refused = λ x e. refused_more l c.opening c.journal p.failed h.fault knew.told x (part.refused x e); set = part.set; ended_is = part.ended_is; given = given_same c d r p.gave refl (λ _. refl) (λ _. refl) part.given })
      (λ y ne z. (turn_stored l c d s.words new (ring_of y) y.stored st (λ _ _ _ is _. is) z.0, turn_out l c d s.words (set s.words 0 new) y (λ e. none_some (ring_of y) (sym none ∙ e)) z.1))
      (turn_stored l c d s.words new r p.stored st (λ _ _ _ is _. is) own.0, turn_out l c d s.words (set s.words 0 new) p (λ e. none_some r (sym none ∙ e)) own.1)
      (λ _ _ _ z. z) (record { told = λ e. e; taken = λ t _ e. e })
      (λ e. told_here s.views id v (after_take free new c.journal h.fault v) at (told_one (after_take free new c.journal h.fault v).parts (take_part c.journal h.fault p) (ap (on_first (take_part c.journal h.fault)) free_pass.0) e))

  -- nobody has the turn where the word tells so
  is_free_turn : (s : Table (Option S) View) (h : Shows stands k.layout s) (free : ℕ) → slice_index s.words 0 ≡ free → free % 256 ≡ 0 → h.core.turn ≡ None
  is_free_turn s h free is low = let c : State = h.core in free_turn c.turn free (length c.journal) c.opening.rings (sym is ∙ h.words.turn_is) low (λ q z. (h.turned q z).0) h.left.opens.few_rings

  pub take_next : (s : Table (Option S) View) (h : Shows stands k.layout s) (id free : ℕ) (v : View) → get_elem? s.views id ≡ some v → is_ready v.stage ≡ true → IsFree v → slice_index s.words 0 ≡ free → free % 256 ≡ 0
      → (m : Shows stands k.layout (record { words = set s.words 0 (free + (ring_of (only v) + 1)); homes = set s.homes 0 maybe.none; views = set s.views id (after_take free (free + (ring_of (only v) + 1)) h.core.journal h.fault v) })) × (m.core ≡ after h.core (TakeTurn (ring_of (only v))))
  take_next s h id free v at ready free_pass is low =
      let none : h.core.turn ≡ None = is_free_turn s h free is low in
      let zero_turn : turn_number h.core.turn ≡ 0 = ap turn_number none in
      let n_is = h.words.turn_is in
      taken_next s h id free (free + (ring_of (only v) + 1)) v at ready free_pass none (omega arith)

  pub miss_next : (s : Table (Option S) View) (h : Shows stands k.layout s) (id free new : ℕ) (v : View) → get_elem? s.views id ≡ some v → is_ready v.stage ≡ true
      → (m : Shows stands k.layout (record { words = set s.words 0 (slice_index s.words 0); homes = s.homes; views = set s.views id (after_miss free new (slice_index s.words 0) v) })) × (m.core ≡ h.core)
  miss_next s h id free new v at ready =
      let w : View = after_miss free new (slice_index s.words 0) v in
      subst (λ (ws : List ℕ). (m : Shows stands k.layout (record { words = ws; homes = s.homes; views = set s.views id w })) × (m.core ≡ h.core)) (sym (set_itself s.words 0))
      (looked stands k.layout s h id v w at refl refl refl refl refl refl (h.each id v at).stops)

  -- a lone ring is told of no failed write but its own
  told_alone : (s : Table (Option S) View) (h : Shows stands k.layout s) (id : ℕ) (v : View) → get_elem? s.views id ≡ some v → v.parts ≡ only v ∷ [] → v.opening ≡ h.core.opening
      → v.opening.rings ≡ 1 → h.fault ≡ true → (only v).failed ≡ true
  told_alone s h id v at one opening lone fault =
      let mine = one_ring k.layout h.core h.glue h.owner id v (h.each id v at) one in
      let rings : h.core.opening.rings ≡ 1 = ap (λ (o : CoreOpening). o.rings) (sym opening) ∙ lone in
      let here = mine.0.ring in
      only_told v.parts (only v) one (told_own stands k.layout s h id v at (λ r lt. let same : r ≡ ring_of (only v) = omega arith in ap h.owner same ∙ mine.1) (h.teller fault))

  pub takes_it : (slots id : ℕ) (me : Me (Option S) View) (free new : ℕ) → is_ready me.0.stage ≡ true → IsFree me.0 → free % 256 ≡ 0 → new ≡ free + (ring_of (only me.0) + 1)
      → Allows (Shown stands k) slots id me 0 (λ n. either (n == free) new n) (takes_turn stands (step slots 0 free new maybe.none) me)
  takes_it slots id me free new ready free_pass low new_is s shown wide at small =
      let l : Layout = k.layout in
      let v : View = me.0 in
      let h : Shows stands l s = is_open stands k s id v shown at ready in
      let c : State = h.core in
      let n : ℕ = slice_index s.words 0 in
      let t = (h.each id v at).told ready in
      exchanged n free new (λ m. (w : View) × (a : Act (Option S)) × Valid s.homes me.1 a × Shown stands k (table_stepped s 0 m id me.1 w a) × takes_turn stands (step slots 0 free new maybe.none) me n (w, carried_after me.1 a))
      (λ e.
      let n_is = h.words.turn_is in
      let none : c.turn ≡ None = is_free_turn s h free e low in
      let zero_turn : turn_number c.turn ≡ 0 = ap turn_number none in
      let home = h.home none in
      let b : S = home.0 in
      let w : View = after_take free new c.journal h.fault v in
      let next = taken_next s h id free new v at ready free_pass none (omega arith) in (
        w,
        takes 0 (Some b),
        home.1,
        inr next.0,
        (
          (λ _. record {
            journal = c.journal;
            failed = h.fault;
            book = b;
            out = refl;
            view = refl;
            stood = subst (λ (y : BookOrigin × (Layout × CoreOpening)). stands b y.0 y.1.0 y.1.1 c.journal h.fault) (λ i. (sym (h.origins id v at ready) i, (sym t.0 i, sym t.1 i))) home.2;
            still = (h.faults id v 0 (only v) at (ap (λ ps. get_elem? ps 0) free_pass.0)).told;
            alone = told_alone s h id v at free_pass.0 t.1;
            seen = told_out s (set s.words 0 new) (set s.homes 0 maybe.none) id v w at ready next.0;
          }),
          (λ ne. absurd (ne e)),
        ),
      ))
      (λ ne.
      let w : View = after_miss free new n v in
      let next = miss_next s h id free new v at ready in
      (w, keeps, tt, inr next.0, ((λ e. absurd (ne e)), (λ _. (refl, refl, told_out s (set s.words 0 n) s.homes id v w at ready next.0)))))

  -- the sheet of a ring that has the turn is the core's
  sheet_is : (c : State) (glue : ℕ → ℕ) (v : View) (t : Taken) → IsPart k.layout c glue (only v) → (only v).turn ≡ Some t → (c.turn ≡ Some (ring_of (only v))) × IsSheet c glue (ring_of (only v)) (sheet_of v)
  sheet_is c glue v t part has =
      let is : turn_of c (ring_of (only v)) ≡ Some t = sym part.turn ∙ has in
      (turn_has c (ring_of (only v)) t is, record { journal = ap journal_in has ∙ turn_is c (ring_of (only v)) t is; part = part.part; held_glues = part.glues; made_glues = part.made_glues })

  pub give_next : (s : Table (Option S) View) (h : Shows stands k.layout s) (id : ℕ) (v : View) (b : S) (ns : List Note) (x : Option Refusal) (failed : Bool) → 0 < length s.homes → get_elem? s.views id ≡ some v → is_ready v.stage ≡ true → IsWriting v
      → MayWrite v ns → WasRefused v ns x failed → stands b v.origin v.layout v.opening (written_of v ns).journal failed
      → (m : Shows stands k.layout (record { words = set s.words 0 (256 * length (written_of v ns).journal); homes = set s.homes 0 (some (Some b)); views = set s.views id (after_give ns x failed v) }))
      × (m.core.journal ≡ (written_of v ns).journal) × (m.core ≡ after (fold after h.core (map (event_of (ring_of (only v))) ns)) (GiveTurn (ring_of (only v))))
  give_next s h id v b ns x failed room at ready writing may cause stood =
      let l : Layout = k.layout in
      let c : State = h.core in
      let p : RingPart = only v in
      let r : ℕ = ring_of p in
      let mine = one_ring l c h.glue h.owner id v (h.each id v at) writing.0 in
      let part : IsPart l c h.glue p = mine.0 in
      let on = sheet_is c h.glue v writing.1.0 part writing.1.1 in
      let t = (h.each id v at).told ready in
      let may' : AllNoted l c.opening r (sheet_of v) ns = subst (λ (y : Layout × CoreOpening). AllNoted y.0 y.1 r (sheet_of v) ns) (λ i. (t.0 i, t.1 i)) may in
      let all : Noted l r c h.glue ns (sheet_after c.opening r (sheet_of v) ns) = all_notes l h.small r ns c h.glue (sheet_of v) h.left h.places part.ring on.0 on.1 may' in
      let sheet_same : sheet_after c.opening r (sheet_of v) ns ≡ written_of v ns = (λ i. sheet_after (sym t.1 i) r (sheet_of v) ns) in
      let m : State = all.core in
      let sheet : IsSheet m all.glue' r (written_of v ns) = subst (IsSheet m all.glue' r) sheet_same all.sheet in
      let beside : Beside r c m h.glue all.glue' = all.beside in
      let turn : m.turn ≡ Some r = beside.turn ∙ on.0 in
      let d : State = after m (GiveTurn r) in
      let st : Stands l c = standing_of stands l s h in
      let n : ℕ = 256 * length (written_of v ns).journal in
      let n_is : n ≡ 256 * length d.journal + 0 = let q = ap (λ (J : List Entry). length J) sheet.journal in omega arith in
      let lt : r < m.opening.rings = subst (λ (o : CoreOpening). r < o.rings) (sym beside.opening) part.ring in
      let own = h.stored id v 0 p at (ap (λ ps. get_elem? ps 0) writing.0) in
      let sound : Sound c = left_sound c.opening c h.left in
      let below = cell_below c sound in
      let same_ring : (written_of v ns).part.ring ≡ r = ap (λ (q : Part). q.ring) sheet.part ∙ (left_sound m.opening m all.left).counts.named r in
      let knew : KnowsFault h.fault p = h.faults id v 0 p at (ap (λ ps. get_elem? ps 0) writing.0) in
      let still : h.fault ≡ true → failed ≡ true = λ e. cause.1 (knew.taken writing.1.0 writing.1.1 e) in
      let next = moved_with stands l s h d all.glue' id v (after_give ns x failed v) (give_part v.opening (written_of v ns) x failed p) (set s.words 0 n) (set s.homes 0 (some (Some b))) at
      (left_one m.opening m (GiveTurn r) all.left (lt, turn))
      (record { rings = all.places.rings; depth = all.places.depth; limit = all.places.limit; small = all.places.small; words = all.places.words; only = all.places.only; tiled = all.places.tiled; vars = all.places.vars; starts = all.places.starts; entries = all.places.entries; units = all.places.units; few = all.places.few; first = all.places.first })
      (turn_words l c d h.glue all.glue' s.words n st h.words n_is beside.stop beside.units beside.numbers beside.granted beside.slot beside.drawn
      (λ a y is o. let was = beside.open_cells a y is o in (was, beside.glue_else y.number (below a y was))))
      (record {
        opening = beside.opening;
        granted = λ i _. beside.granted i;
        part = beside.others;
        turn = λ i ne. turn_none d i refl ∙ sym (turn_other c r i on.0 ne);
        units = let q = ap (λ (us : List Literal). length us) beside.units in omega arith;
        kept_turn = λ i ne e. absurd (ne (some_same i r (sym e ∙ on.0)));
        refused = beside.refused;
        own = λ i _. ap (own_stop i) beside.stop;
        stop_stays = λ t e. beside.stop ∙ e;
        stop_new = λ t e. inl (sym beside.stop ∙ e);
        ends = beside.refused l failed Ended;
        given = λ i gave _ lt' given. noted_given r c m h.glue all.glue' i gave sound beside lt' given;
        glue_kept = beside.glue_else;
      })
      beside.granted failed
      (λ _. (b, set_here s.homes 0 (some (Some b)) room, subst (λ (y : BookOrigin × (Layout × (CoreOpening × List Entry))). stands b y.0 y.1.0 y.1.1.0 y.1.1.1 failed) (λ i. (h.origins id v at ready i, (t.0 i, ((t.1 ∙ sym beside.opening) i, sheet.journal i)))) stood))
      writing.0 refl (ap (on_first (give_part v.opening (written_of v ns) x failed)) writing.0) same_ring refl refl refl refl
      (subst (λ (o : Option Stop). IsStopOf o v.stop (on_first (give_part v.opening (written_of v ns) x failed) v.parts)) (sym beside.stop) (stops_same c.stop v (after_give ns x failed v) (give_part v.opening (written_of v ns) x failed p) writing.0 (ap (on_first (give_part v.opening (written_of v ns) x failed)) writing.0) refl refl (h.each id v at).stops))
      (record {
        ring = subst (λ (q : ℕ). q < m.opening.rings) (sym same_ring) lt;
        part = sheet.part ∙ ap m.part (sym same_ring);
        glues = sheet.held_glues;
        made_glues = sheet.made_glues;
        turn = sym (turn_none d (written_of v ns).part.ring refl);
        listed = let q = ap (λ (us : List Literal). length us) beside.units in let g = part.listed in omega arith;
        whole = λ e. absurd (true≢false (sym e));
        refused = refusals l d.opening d.journal x p.refused (subst (λ (y : Layout × (CoreOpening × List Entry)). IfSome x (λ z. IsRefused y.0 y.1.0 y.1.1 failed z)) (λ i. (t.0 i, ((t.1 ∙ sym beside.opening) i, sheet.journal i))) cause.0) (λ y e. refused_more l d.opening d.journal p.failed failed cause.1 y (beside.refused l p.failed y (part.refused y e)));
        set = part.set ∙ (λ i. own_stop (sym same_ring i) (sym beside.stop i));
        ended_is = λ e. now_ended d.opening d.journal p.ended (λ was. beside.refused l failed Ended (part.ended_is was)) (ap (λ (b : Bool). p.ended || b) (λ i. ended ((beside.opening ∙ sym t.1) i).formula (sym sheet.journal i)) ∙ e);
        given = subst (λ (i : ℕ). HasGiven d i p.gave) (sym same_ring) (noted_given r c m h.glue all.glue' r p.gave sound beside part.ring part.given);
      })
      (λ y ne z. (turn_stored l c d s.words n (ring_of y) y.stored st beside.built z.0, turn_out l c d s.words (set s.words 0 n) y (λ e. ne (some_same (ring_of y) r (sym e ∙ on.0))) z.1))
      (subst (λ (q : ℕ). IsStored d (set s.words 0 n) q p.stored) (sym same_ring) (turn_stored l c d s.words n r p.stored st beside.built own.0), none_out l d (set s.words 0 n) (give_part v.opening (written_of v ns) x failed p) refl refl)
      (λ y ne is z. record { told = λ e. still (z.told e); taken = λ t' e _. absurd (none_some t' (sym (turn_none d (ring_of y) refl) ∙ sym is.turn ∙ e)) })
      (record { told = λ e. e; taken = λ t' e _. absurd (none_some t' e) })
      (λ e. told_here s.views id v (after_give ns x failed v) at (told_one (after_give ns x failed v).parts (give_part v.opening (written_of v ns) x failed p) (ap (on_first (give_part v.opening (written_of v ns) x failed)) writing.0) e)) in
      (next.0, ap (λ (q : State). q.journal) next.1 ∙ sym sheet.journal, next.1 ∙ ap (λ (q : State). after q (GiveTurn r)) all.runs)
    where
      now_ended : (o : CoreOpening) (K : List Entry) (was : Bool) → (was ≡ true → ended o.formula K ≡ true) → (was || ended o.formula K) ≡ true → ended o.formula K ≡ true
      now_ended o K true before e = before refl
      now_ended o K false before e = e

      refusals : (l : Layout) (o : CoreOpening) (K : List Entry) (x y : Option Refusal) → IfSome x (λ z. IsRefused l o K failed z) → ((z : Refusal) → y ≡ Some z → IsRefused l o K failed z) → (z : Refusal) → newer x y ≡ Some z → IsRefused l o K failed z
      refusals l o K None y cause old z e = old z e
      refusals l o K (Some w) y cause old z e = subst (IsRefused l o K failed) (some_same w z e) cause

  gives_at : (slots id : ℕ) (v : View) (b : S) (ns : List Note) (x : Option Refusal) (failed : Bool) → slots ≡ 1 → is_ready v.stage ≡ true → IsWriting v
      → MayWrite v ns → WasRefused v ns x failed → stands b v.origin v.layout v.opening (written_of v ns).journal failed
      → Allows (Shown stands k) slots id (v, (0, Some b) ∷ []) 0 (λ _. 256 * length (written_of v ns).journal)
      (λ _. gives_turn ns x failed (step slots 0 (256 * length (written_of v ns).journal) 0 maybe.none) (v, (0, Some b) ∷ []) (256 * length (written_of v ns).journal))
  gives_at slots id v b ns x failed one ready writing may cause stood s shown wide at small =
      let h : Shows stands k.layout s = is_open stands k s id v shown at ready in
      let next = give_next s h id v b ns x failed (omega arith) at ready writing may cause stood in
      (after_give ns x failed v, gives, tt, inr next.0, (refl, refl, told_out s (set s.words 0 (256 * length (written_of v ns).journal)) (set s.homes 0 (some (Some b))) id v (after_give ns x failed v) at ready next.0))

  pub gives_it : (slots id : ℕ) (me : Me (Option S) View) (b : S) (ns : List Note) (x : Option Refusal) (failed : Bool) (new : ℕ) → slots ≡ 1 → is_ready me.0.stage ≡ true → me.1 ≡ (0, Some b) ∷ [] → IsWriting me.0
      → MayWrite me.0 ns → WasRefused me.0 ns x failed → stands b me.0.origin me.0.layout me.0.opening (written_of me.0 ns).journal failed → new ≡ 256 * length (written_of me.0 ns).journal
      → Allows (Shown stands k) slots id me 0 (λ _. new) (λ _. gives_turn ns x failed (step slots 0 new 0 maybe.none) me new)
  gives_it slots id me b ns x failed new one ready out writing may cause stood new_is =
      subst (λ (y : List (ℕ × Option S) × ℕ). Allows (Shown stands k) slots id (me.0, y.0) 0 (λ _. y.1) (λ _. gives_turn ns x failed (step slots 0 y.1 0 maybe.none) (me.0, y.0) y.1)) (λ i. (sym out i, sym new_is i))
      (gives_at slots id me.0 b ns x failed one ready writing may cause stood)
