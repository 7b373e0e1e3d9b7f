-- What stays of the rule when one pass and the part of one ring move.
use Rattle.std.proofs.Common.{◌≡◌, ◌≢◌, ◌⊎◌, inl, ℕ, zero, suc, ◌<◌, ◌≤◌, ◌==◌, ◌&&◌, Bool, true, not, List, [], ◌∷◌, map, length, All, set, refl, sym, ap, ◌∙◌, subst, ⊎_elim, arith, eq-eqb, ne_eqb, eqb-true, true≢false, length-set, Option, Some, None}
use Rattle.std.specs.Prelude.{Contains, if◌then◌else◌}
use mathlib.Core.Option.{some, some-injective, some-ne-none}
use mathlib.Core.Option as maybe
use mathlib.Core.Logic.{dite}
use native.Mathlib.Decide.{ℕ_discrete}
use lib.ListN.{get_elem?}
use Rattle.atomic_table.specs.Table.{State as Table}
use Rattle.atomic_table.proofs.Lists.{at_set}
use Rattle.rup_model.specs.declared.journal.Entry.{Entry}
use Rattle.rup_model.specs.Basics.{one_if}
use Rattle.share_core.specs.State.{State, clause_at, slot_of}
use Rattle.share_core.specs.declared.part.CoreOpening.{CoreOpening}
use Rattle.share_core.specs.declared.part.Part.{Part}
use Rattle.share_rule.specs.declared.view.BookOrigin.{BookOrigin}
use Rattle.share_rule.specs.declared.Layout.{Layout}
use Rattle.share_rule.specs.declared.view.RingPart.{RingPart}
use Rattle.share_rule.specs.declared.view.View.{View}
use Rattle.share_core.specs.declared.event.Stop.{Stop}
use Rattle.share_rule.specs.Views.{times_in, only, glue_in, own_stop, is_ready, in_draft}
use Rattle.share_rule.specs.Seen.{IsPart, IsStopOf, HasGiven, turn_of, IsRefused}
use Rattle.share_core.specs.Left.{Left}
use Rattle.share_rule.specs.declared.view.Refusal.{Refusal}
use Rattle.share_rule.specs.declared.view.Refusal.TheVariants.{Ended, Broken, ProofFault, NoHole}
use Rattle.rup_model.specs.Journal.{book, ended, is_ring}
use Rattle.share_core.specs.declared.stored.ClauseAt.{ClauseAt}
use Rattle.share_core.specs.Sound.{Sound, IsCopy}
use Rattle.share_core.proofs.ClauseLists.{all_in, all_map}
use Rattle.share_core.proofs.Counting.{some_same, none_some}
use Rattle.share_rule.specs.declared.view.Taken.{Taken}
use Rattle.sat_words.specs.Literal.{Literal}
use Rattle.share_core.proofs.Leaving.{left_sound}
use Rattle.share_rule.proofs.Parts.{cell_below, number_below}
use Rattle.share_rule.specs.Room.{Places}
use Rattle.share_rule.specs.Tight.{IsTight}
use Rattle.share_rule.specs.Shown.{Words, Fits, Shows, IsHome, IsOut, KnowsFault, SomeTold, WasTold, ring_of}
use Rattle.share_rule.proofs.Telling.{told_one, only_told, still_told}
use Rattle.share_rule.proofs.Lists.{both_true, times_at_part, off}

-- the owner of a part's ring
pub part_owner : (l : Layout) (c : State) (glue owner : ℕ → ℕ) (j : ℕ) (v : View) (i : ℕ) (p : RingPart) → Fits l c glue owner j v → get_elem? v.parts i ≡ some p → (ring_of p < c.opening.rings) × (owner (ring_of p) ≡ j) × (c.granted (ring_of p) ≡ true)
part_owner l c glue owner j v i p f at =
    let here = (f.parts i p at).ring in
    let n = times_at_part v.parts i p at in
    let k = f.owned (ring_of p) here in
    let both = both_true (owner (ring_of p) == j) (c.granted (ring_of p)) (omega arith) in
    (here, eqb-true (owner (ring_of p)) j both.0, both.1)

-- the pass's one ring
pub one_ring : (l : Layout) (c : State) (glue owner : ℕ → ℕ) (id : ℕ) (v : View) → Fits l c glue owner id v → v.parts ≡ only v ∷ []
    → IsPart l c glue (only v) × (owner (ring_of (only v)) ≡ id) × (c.granted (ring_of (only v)) ≡ true)
one_ring l c glue owner id v f is =
    let at : get_elem? v.parts 0 ≡ some (only v) = ap (λ ps. get_elem? ps 0) is in
    let o = part_owner l c glue owner id v 0 (only v) f at in
    (f.parts 0 (only v) at, o.1, o.2)

-- the ring that was known is the pass's if the pass has all rings
pub told_own : {S : Type 0} (stands : S → BookOrigin → Layout → CoreOpening → List Entry → Bool → Type 0) (l : Layout) (s : Table (Option S) View) (h : Shows stands l s) (id : ℕ) (v : View) → get_elem? s.views id ≡ some v
    → ((r : ℕ) → r < h.core.opening.rings → h.owner r ≡ id) → WasTold s.views → SomeTold v.parts
told_own stands l s h id v at own t =
    let o = part_owner l h.core h.glue h.owner t.0 t.1 t.3.0 t.3.1 (h.each t.0 t.1 t.2) t.3.2 in
    let here : t.0 ≡ id = sym o.1 ∙ own (ring_of t.3.1) o.0 in
    subst (λ (u : View). SomeTold u.parts) (some-injective t.1 v (sym t.2 ∙ ap (get_elem? s.views) here ∙ at)) t.3

-- who has the turn
pub turn_some : (c : State) (i : ℕ) → c.turn ≡ Some i → turn_of c i ≡ Some (record { journal = c.journal })
turn_some c i e = (λ k. if is_ring i (e k) then Some (record { journal = c.journal }) else None) ∙ (λ k. if eq-eqb i i refl k then Some (record { journal = c.journal }) else None)

pub turn_none : (c : State) (i : ℕ) → c.turn ≡ None → turn_of c i ≡ None
turn_none c i e = λ k. if is_ring i (e k) then Some (record { journal = c.journal }) else None

pub turn_other : (c : State) (r i : ℕ) → c.turn ≡ Some r → i ≢ r → turn_of c i ≡ None
turn_other c r i e ne = (λ k. if is_ring i (e k) then Some (record { journal = c.journal }) else None) ∙ (λ k. if ne_eqb r i (λ q. ne (sym q)) k then Some (record { journal = c.journal }) else None)

pub turn_has : (c : State) (i : ℕ) (t : Taken) → turn_of c i ≡ Some t → c.turn ≡ Some i
turn_has c i t = by c.turn
  where
    by : (m : Option ℕ) → (if is_ring i m then Some (record { journal = c.journal }) else None) ≡ Some t → m ≡ Some i
    by None e = absurd (none_some t e)
    by (Some q) e = dite (ℕ_discrete q i)
        (λ x. ap (λ (y : ℕ). Some y) x)
        (λ ne. absurd (none_some t ((λ k. if sym (ne_eqb q i ne) k then Some (record { journal = c.journal }) else None) ∙ e)))

-- and what is taken is the journal
pub turn_is : (c : State) (i : ℕ) (t : Taken) → turn_of c i ≡ Some t → t.journal ≡ c.journal
turn_is c i t e = sym (ap (λ (x : Taken). x.journal) (some_same (record { journal = c.journal }) t (sym (turn_some c i (turn_has c i t e)) ∙ e)))

-- the turn is the same if turn and journal are
pub turn_same : (c d : State) (i : ℕ) → d.journal ≡ c.journal → d.turn ≡ c.turn → turn_of d i ≡ turn_of c i
turn_same c d i j t = λ k. if is_ring i (t k) then Some (record { journal = j k }) else None

pub refused_same : (l : Layout) (c d : State) → d.opening ≡ c.opening → d.journal ≡ c.journal → (failed : Bool) (x : Refusal) → IsRefused l c.opening c.journal failed x → IsRefused l d.opening d.journal failed x
refused_same l c d o j failed Ended e = (λ i. ended (o i).formula (j i)) ∙ e
refused_same l c d o j failed Broken h = h
refused_same l c d o j failed ProofFault h = h
refused_same l c d o j failed (NoHole need most) h = subst (λ (y : CoreOpening × List Entry). IsTight l y.0 y.1 need most) (λ i. (sym o i, sym j i)) h

-- a ring that is told of a failed write was refused for as good a cause
pub refused_more : (l : Layout) (o : CoreOpening) (J : List Entry) (was now : Bool) → (was ≡ true → now ≡ true) → (x : Refusal) → IsRefused l o J was x → IsRefused l o J now x
refused_more l o J was now more Ended e = e
refused_more l o J was now more Broken e = more e
refused_more l o J was now more ProofFault e = more e
refused_more l o J was now more (NoHole need most) h = h

-- what slots have is the same if slots and clauses are
pub given_same : (c d : State) (i : ℕ) (gave : List ClauseAt) → d.opening ≡ c.opening → ((k : ℕ) → d.slot k ≡ c.slot k) → ((a : ℕ) → clause_at d a ≡ clause_at c a) → HasGiven c i gave → HasGiven d i gave
given_same c d i gave same slots clauses h = subst
    (λ (o : CoreOpening). (to class place : ℕ) → to < o.rings → class < 4 → place < o.depth → d.slot (slot_of o i to class place) ≢ 0 → Contains gave (clause_at d (d.slot (slot_of o i to class place)))) (sym same)
    (λ to class place lt few at some. let k : ℕ = slot_of c.opening i to class place in
    subst (λ (h' : ClauseAt). Contains gave h') (sym (ap (clause_at d) (slots k) ∙ clauses (c.slot k))) (h to class place lt few at (λ e. some (slots k ∙ e))))

-- what another stop leaves of the pass's
pub stops_same : (o : Option Stop) (v w : View) (q : RingPart) → v.parts ≡ only v ∷ [] → w.parts ≡ q ∷ [] → w.stop ≡ v.stop → q.set ≡ (only v).set → IsStopOf o v.stop v.parts → IsStopOf o w.stop w.parts
stops_same o v w q one wp ws set f = record { stands = λ t e. f.stands t (sym ws ∙ e); own = by }
  where
    by : (i : ℕ) (p : RingPart) → get_elem? w.parts i ≡ some p → (t : Stop) → p.set ≡ Some t → w.stop ≡ Some t
    by zero p at t e = ws ∙ f.own 0 (only v) (ap (λ ps. get_elem? ps 0) one) t (sym set ∙ ap (λ (x : RingPart). x.set) (some-injective q p (ap (λ ps. get_elem? ps 0) (sym wp) ∙ at)) ∙ e)
    by (suc i) p at t e = absurd (some-ne-none p (sym at ∙ ap (λ ps. get_elem? ps (suc i)) wp))

-- whose part it is, and what the ring has with the turn
abbrev pub with_turn : RingPart → ℕ × (Option Taken × Bool)
with_turn p = (ring_of p, (p.turn, p.failed))

-- where the words lie, and what the book was
abbrev pub ground : View → Layout × BookOrigin
ground v = (v.layout, v.origin)

-- Another ring's part

-- what a step of ring r leaves alone
pub record Frame (r : ℕ) (c d : State) (glue glue' : ℕ → ℕ) : Type 0 where
  pub opening : d.opening ≡ c.opening
  pub granted : (i : ℕ) → i ≢ r → d.granted i ≡ c.granted i
  pub part : (i : ℕ) → i ≢ r → d.part i ≡ c.part i
  pub turn : (i : ℕ) → i ≢ r → turn_of d i ≡ turn_of c i
  pub units : length c.units ≤ length d.units
  pub kept_turn : (i : ℕ) → i ≢ r → c.turn ≡ Some i → (d.turn ≡ Some i) × (length d.units ≡ length c.units)
  pub refused : (l : Layout) (failed : Bool) (x : Refusal) → IsRefused l c.opening c.journal failed x → IsRefused l d.opening d.journal failed x
  pub own : (i : ℕ) → i ≢ r → own_stop i d.stop ≡ own_stop i c.stop
  pub stop_stays : (t : Stop) → c.stop ≡ Some t → d.stop ≡ Some t
  pub stop_new : (t : Stop) → d.stop ≡ Some t → (c.stop ≡ Some t) ⊎ (t.ring ≡ r)
  pub ends : ended c.opening.formula c.journal ≡ true → ended d.opening.formula d.journal ≡ true
  pub given : (i : ℕ) (gave : List ClauseAt) → i ≢ r → i < c.opening.rings → HasGiven c i gave → HasGiven d i gave
  pub glue_kept : (n : ℕ) → n < (book c.opening.formula c.journal).next → glue' n ≡ glue n

-- if journal, turn, units, stop, slots and glues stay, and the clauses of cells
pub record Stays (c d : State) : Type 0 where
  pub opening : d.opening ≡ c.opening
  pub journal : d.journal ≡ c.journal
  pub turn : d.turn ≡ c.turn
  pub units : d.units ≡ c.units
  pub stop : d.stop ≡ c.stop
  pub slots : (k : ℕ) → d.slot k ≡ c.slot k
  pub clauses : (a : ℕ) → clause_at d a ≡ clause_at c a

pub frame_of : (r : ℕ) (c d : State) (glue : ℕ → ℕ) → Stays c d → ((i : ℕ) → i ≢ r → d.granted i ≡ c.granted i) → ((i : ℕ) → i ≢ r → d.part i ≡ c.part i) → Frame r c d glue glue
frame_of r c d glue s g p = record {
  opening = s.opening;
  granted = g;
  part = p;
  turn = λ i ne. turn_same c d i s.journal s.turn;
  units = let q = ap (λ (us : List Literal). length us) s.units in omega arith;
  kept_turn = λ i ne e. (s.turn ∙ e, ap (λ (us : List Literal). length us) s.units);
  refused = λ l. refused_same l c d s.opening s.journal;
  own = λ i ne. ap (own_stop i) s.stop;
  stop_stays = λ t e. s.stop ∙ e;
  stop_new = λ t e. inl (sym s.stop ∙ e);
  ends = λ e. (λ i. ended (s.opening i).formula (s.journal i)) ∙ e;
  given = λ i gave ne lt h. given_same c d i gave s.opening s.slots s.clauses h;
  glue_kept = λ n lt. refl;
}

-- another ring's part stays
pub part_else : (l : Layout) (r : ℕ) (c d : State) (glue glue' : ℕ → ℕ) (p : RingPart) → Sound c → Frame r c d glue glue' → ring_of p ≢ r → IsPart l c glue p → IsPart l d glue' p
part_else l r c d glue glue' p sound f ne h =
    let below : (xs : List ClauseAt) → All (IsCopy c.cell) xs → All (λ k. glue_in k.number p.glues ≡ glue k.number) xs → All (λ k. glue_in k.number p.glues ≡ glue' k.number) xs =
    λ xs copies was. all_map (λ (k : ClauseAt). glue_in k.number p.glues ≡ glue k.number) (λ (k : ClauseAt). glue_in k.number p.glues ≡ glue' k.number) xs
    (λ x i e. e ∙ sym (f.glue_kept x.number (let copy = all_in (IsCopy c.cell) xs x i copies in let low = cell_below c sound x.address copy.0 copy.1 in let q : copy.0.number ≡ x.number = copy.2 in omega arith))) was in
    record {
      ring = subst (λ (o : CoreOpening). ring_of p < o.rings) (sym f.opening) h.ring;
      part = h.part ∙ sym (f.part (ring_of p) ne);
      glues = below p.core.held (subst (λ (q : Part). All (IsCopy c.cell) q.held) (sym h.part) (sound.copies.held (ring_of p) h.ring)) h.glues;
      made_glues = below p.core.making (subst (λ (q : Part). All (IsCopy c.cell) q.making) (sym h.part) (sound.copies.making (ring_of p) h.ring)) h.made_glues;
      turn = h.turn ∙ sym (f.turn (ring_of p) ne);
      listed = let u = f.units in let k = h.listed in omega arith;
      whole = λ e. let w = h.whole e in let k = f.kept_turn (ring_of p) ne w.0 in (k.0, k.1 ∙ w.1);
      refused = λ x e. f.refused l p.failed x (h.refused x e);
      set = h.set ∙ sym (f.own (ring_of p) ne);
      ended_is = λ e. f.ends (h.ended_is e);
      given = f.given (ring_of p) p.gave ne h.ring h.given;
    }

module _ {S : Type 0} (stands : S → BookOrigin → Layout → CoreOpening → List Entry → Bool → Type 0) (l : Layout) where
  -- one pass moves, and the part and the grant of one ring of its own, and homes
  pub acted : (s : Table (Option S) View) (h : Shows stands l s) (d : State) (glue' : ℕ → ℕ) (id r : ℕ) (v w : View) (ws : List ℕ) (hs : List (maybe.Option (Option S))) → get_elem? s.views id ≡ some v
      → Left d.opening d → Places l d → Words l d glue' ws → Frame r h.core d h.glue glue' → h.owner r ≡ id → r < d.opening.rings → d.granted r ≡ true
      → (fault : Bool) → IsHome stands h.origin l d fault (record { words = ws; homes = hs; views = set s.views id w }) → Fits l d glue' h.owner id w → (is_ready w.stage ≡ true → w.origin ≡ h.origin)
      → ((p : RingPart) → ring_of p ≢ r → IsOut l h.core s.words p → IsOut l d ws p) → ((i : ℕ) (p : RingPart) → get_elem? w.parts i ≡ some p → IsOut l d ws p)
      → ((p : RingPart) → ring_of p ≢ r → IsPart l d glue' p → KnowsFault h.fault p → KnowsFault fault p) → ((i : ℕ) (p : RingPart) → get_elem? w.parts i ≡ some p → KnowsFault fault p) → (fault ≡ true → WasTold (set s.views id w))
      → (n : Shows stands l (record { words = ws; homes = hs; views = set s.views id w })) × (n.core ≡ d)
  acted s h d glue' id r v w ws hs at left st words frame own inside now fault home fit from keep mine others knows teller =
      let sound : Sound h.core = left_sound h.core.opening h.core h.left in
      let same : d.opening ≡ h.core.opening = frame.opening in (
        record {
          core = d;
          left = left;
          small = h.small;
          places = st;
          glue = glue';
          owner = h.owner;
          words = words;
          fresh = λ i closed. dite (ℕ_discrete i r)
              (λ e. absurd (true≢false (sym now ∙ ap d.granted (sym e) ∙ closed)))
              (λ n. frame.part i n ∙ h.fresh i (sym (frame.granted i n) ∙ closed));
          stopper = λ t is. ⊎_elim
              (λ (q : h.core.stop ≡ Some t). dite (ℕ_discrete t.ring r) (λ e. ap d.granted e ∙ now) (λ n. frame.granted t.ring n ∙ h.stopper t q))
              (λ (q : t.ring ≡ r). ap d.granted q ∙ now)
              (frame.stop_new t is);
          turned = λ i is. dite (ℕ_discrete i r)
              (λ e. (subst (λ (q : ℕ). q < d.opening.rings) (sym e) inside, ap d.granted e ∙ now))
              (λ n. let t = h.turned i (turn_has h.core i (record { journal = d.journal }) (sym (frame.turn i n) ∙ turn_some d i is)) in (subst (λ (o : CoreOpening). i < o.rings) (sym same) t.0, frame.granted i n ∙ t.1));
          start_glues = subst (λ (o : CoreOpening). All (λ k. glue' k.number ≡ 0) o.starts) (sym same)
              (all_map (λ (k : ClauseAt). h.glue k.number ≡ 0) (λ (k : ClauseAt). glue' k.number ≡ 0) h.core.opening.starts (λ x i e. frame.glue_kept x.number (number_below h.core sound x i) ∙ e) h.start_glues);
          owners = λ i lt. let o = h.owners i (subst (λ (o : CoreOpening). i < o.rings) same lt) in let n : length (set s.views id w) ≡ length s.views = length-set s.views id w in omega arith;
          fault = fault;
          origin = h.origin;
          home = home;
          origins = λ j u is ready. ⊎_elim
              (λ (x : (j ≡ id) × (w ≡ u)). ap (λ (y : View). y.origin) (sym x.1) ∙ from (ap (λ (y : View). is_ready y.stage) x.1 ∙ ready))
              (λ (x : (j ≢ id) × (get_elem? s.views j ≡ some u)). h.origins j u x.1 ready)
              (at_set s.views id j w u is);
          teller = teller;
          faults = λ j u i p is e. ⊎_elim
              (λ (x : (j ≡ id) × (w ≡ u)). knows i p (ap (λ (y : View). get_elem? y.parts i) x.1 ∙ e))
              (λ (x : (j ≢ id) × (get_elem? s.views j ≡ some u)). let f : Fits l h.core h.glue h.owner j u = h.each j u x.1 in
              let ne : ring_of p ≢ r = λ q. x.0 (sym (part_owner l h.core h.glue h.owner j u i p f e).1 ∙ ap h.owner q ∙ own) in
              others p ne (part_else l r h.core d h.glue glue' p sound frame ne (f.parts i p e)) (h.faults j u i p x.1 e))
              (at_set s.views id j w u is);
          each = λ j u is. ⊎_elim
              (λ (x : (j ≡ id) × (w ≡ u)). subst (λ (y : ℕ × View). Fits l d glue' h.owner y.0 y.1) (λ i. (sym x.0 i, x.1 i)) fit)
              (λ (x : (j ≢ id) × (get_elem? s.views j ≡ some u)). let f : Fits l h.core h.glue h.owner j u = h.each j u x.1 in record {
                rights = λ i lt. f.rights i (subst (λ (o : CoreOpening). i < o.rings) same lt) ∙ dite (ℕ_discrete i r)
                    (λ e. let o : h.owner i ≡ id = ap h.owner e ∙ own in off (h.owner i) j (not (h.core.granted i)) (λ q. x.0 (sym q ∙ o)) ∙ sym (off (h.owner i) j (not (d.granted i)) (λ q. x.0 (sym q ∙ o))))
                    (λ n k. one_if ((h.owner i == j) && not (sym (frame.granted i n) k)));
                owned = λ i lt. f.owned i (subst (λ (o : CoreOpening). i < o.rings) same lt) ∙ dite (ℕ_discrete i r)
                    (λ e. let o : h.owner i ≡ id = ap h.owner e ∙ own in off (h.owner i) j (h.core.granted i) (λ q. x.0 (sym q ∙ o)) ∙ sym (off (h.owner i) j (d.granted i) (λ q. x.0 (sym q ∙ o))))
                    (λ n k. one_if ((h.owner i == j) && sym (frame.granted i n) k));
                settled = f.settled;
                stops = record { stands = λ t e. frame.stop_stays t (f.stops.stands t e); own = f.stops.own };
                told = λ op. let t = f.told op in (t.0, t.1 ∙ sym same);
                parts = λ i y e. let p = part_owner l h.core h.glue h.owner j u i y f e in part_else l r h.core d h.glue glue' y sound frame (λ q. x.0 (sym p.1 ∙ ap h.owner q ∙ own)) (f.parts i y e);
              })
              (at_set s.views id j w u is);
          stored = λ j u i p is e. ⊎_elim
              (λ (x : (j ≡ id) × (w ≡ u)). mine i p (ap (λ (y : View). get_elem? y.parts i) x.1 ∙ e))
              (λ (x : (j ≢ id) × (get_elem? s.views j ≡ some u)). keep p (λ q. x.0 (sym (part_owner l h.core h.glue h.owner j u i p (h.each j u x.1) e).1 ∙ ap h.owner q ∙ own)) (h.stored j u i p x.1 e))
              (at_set s.views id j w u is);
        },
        refl,
      )

  -- the same if the pass has that one ring, and the grants stay
  pub moved_with : (s : Table (Option S) View) (h : Shows stands l s) (d : State) (glue' : ℕ → ℕ) (id : ℕ) (v w : View) (q : RingPart) (ws : List ℕ) (hs : List (maybe.Option (Option S))) → get_elem? s.views id ≡ some v
      → Left d.opening d → Places l d → Words l d glue' ws → Frame (ring_of (only v)) h.core d h.glue glue' → ((i : ℕ) → d.granted i ≡ h.core.granted i)
      → (fault : Bool) → IsHome stands h.origin l d fault (record { words = ws; homes = hs; views = set s.views id w }) → v.parts ≡ only v ∷ [] → w.rights ≡ v.rights → w.parts ≡ q ∷ [] → ring_of q ≡ ring_of (only v) → ground w ≡ ground v → w.opening ≡ v.opening → is_ready w.stage ≡ is_ready v.stage → in_draft w.stage ≡ in_draft v.stage → IsStopOf d.stop w.stop w.parts → IsPart l d glue' q
      → ((p : RingPart) → ring_of p ≢ ring_of (only v) → IsOut l h.core s.words p → IsOut l d ws p) → IsOut l d ws q
      → ((p : RingPart) → ring_of p ≢ ring_of (only v) → IsPart l d glue' p → KnowsFault h.fault p → KnowsFault fault p) → KnowsFault fault q → (fault ≡ true → WasTold (set s.views id w))
      → (n : Shows stands l (record { words = ws; homes = hs; views = set s.views id w })) × (n.core ≡ d)
  moved_with s h d glue' id v w q ws hs at left st words frame grants fault home vp wr wp qr wl wo wop wd stops part keep own others knows teller =
      let r : ℕ = ring_of (only v) in
      let same : d.opening ≡ h.core.opening = frame.opening in
      let fit : Fits l h.core h.glue h.owner id v = h.each id v at in
      let mine = one_ring l h.core h.glue h.owner id v fit vp in
      let rings : map ring_of w.parts ≡ map ring_of v.parts = ap (map ring_of) wp ∙ (λ i. qr i ∷ []) ∙ ap (map ring_of) (sym vp) in
      acted s h d glue' id r v w ws hs at left st words frame mine.1 (subst (λ (o : CoreOpening). r < o.rings) (sym same) (mine.0).ring) (grants r ∙ mine.2) fault home (record {
        rights = λ i lt. ap (times_in i) wr ∙ fit.rights i (subst (λ (o : CoreOpening). i < o.rings) same lt) ∙ (λ k. one_if ((h.owner i == id) && not (sym (grants i) k)));
        owned = λ i lt. ap (times_in i) rings ∙ fit.owned i (subst (λ (o : CoreOpening). i < o.rings) same lt) ∙ (λ k. one_if ((h.owner i == id) && sym (grants i) k));
        settled = wd ∙ fit.settled;
        stops = stops;
        told = λ op. let t = fit.told (sym wop ∙ op) in (ap (λ q. q.0) wl ∙ t.0, wo ∙ t.1 ∙ sym same);
        parts = λ i y e. only_part i y e;
      }) (λ op. ap (λ q. q.1) wl ∙ h.origins id v at (sym wop ∙ op)) keep (λ i y e. only_stored i y e) others (λ i y e. only_knows i y e) teller
    where
      only_part : (i : ℕ) (y : RingPart) → get_elem? w.parts i ≡ some y → IsPart l d glue' y
      only_part zero y e = subst (IsPart l d glue') (some-injective q y (ap (λ ps. get_elem? ps 0) (sym wp) ∙ e)) part
      only_part (suc i) y e = absurd (some-ne-none y (sym e ∙ ap (λ ps. get_elem? ps (suc i)) wp))

      only_stored : (i : ℕ) (y : RingPart) → get_elem? w.parts i ≡ some y → IsOut l d ws y
      only_stored zero y e = subst (IsOut l d ws) (some-injective q y (ap (λ ps. get_elem? ps 0) (sym wp) ∙ e)) own
      only_stored (suc i) y e = absurd (some-ne-none y (sym e ∙ ap (λ ps. get_elem? ps (suc i)) wp))

      only_knows : (i : ℕ) (y : RingPart) → get_elem? w.parts i ≡ some y → KnowsFault fault y
      only_knows zero y e = subst (KnowsFault fault) (some-injective q y (ap (λ ps. get_elem? ps 0) (sym wp) ∙ e)) knows
      only_knows (suc i) y e = absurd (some-ne-none y (sym e ∙ ap (λ ps. get_elem? ps (suc i)) wp))

  -- the same if the ring neither takes the turn nor gives it back
  pub moved : (s : Table (Option S) View) (h : Shows stands l s) (d : State) (glue' : ℕ → ℕ) (id : ℕ) (v w : View) (q : RingPart) (ws : List ℕ) (hs : List (maybe.Option (Option S))) → get_elem? s.views id ≡ some v
      → Left d.opening d → Places l d → Words l d glue' ws → Frame (ring_of (only v)) h.core d h.glue glue' → ((i : ℕ) → d.granted i ≡ h.core.granted i)
      → IsHome stands h.origin l d h.fault (record { words = ws; homes = hs; views = set s.views id w }) → v.parts ≡ only v ∷ [] → w.rights ≡ v.rights → w.parts ≡ q ∷ [] → with_turn q ≡ with_turn (only v) → ground w ≡ ground v → w.opening ≡ v.opening → is_ready w.stage ≡ is_ready v.stage → in_draft w.stage ≡ in_draft v.stage → IsStopOf d.stop w.stop w.parts → IsPart l d glue' q
      → ((p : RingPart) → ring_of p ≢ ring_of (only v) → IsOut l h.core s.words p → IsOut l d ws p) → IsOut l d ws q
      → (n : Shows stands l (record { words = ws; homes = hs; views = set s.views id w })) × (n.core ≡ d)
  moved s h d glue' id v w q ws hs at left st words frame grants home vp wr wp qt wl wo wop wd stops part keep own =
      let was : KnowsFault h.fault (only v) = h.faults id v 0 (only v) at (ap (λ ps. get_elem? ps 0) vp) in
      moved_with s h d glue' id v w q ws hs at left st words frame grants h.fault home vp wr wp (ap (λ t. t.0) qt) wl wo wop wd stops part keep own (λ _ _ _ z. z) (record {
        told = λ e. was.told (ap (λ t. t.1.1) (sym qt) ∙ e);
        taken = λ t e f. ap (λ t. t.1.1) qt ∙ was.taken t (ap (λ t. t.1.0) (sym qt) ∙ e) f;
      })
      (λ f. still_told s.views id v w at (λ t. told_one w.parts q wp (ap (λ t. t.1.1) qt ∙ only_told v.parts (only v) vp t)) (h.teller f))

  -- one pass looks: its rights and parts stay
  pub looked : (s : Table (Option S) View) (h : Shows stands l s) (id : ℕ) (v w : View) → get_elem? s.views id ≡ some v
      → w.rights ≡ v.rights → w.parts ≡ v.parts → ground w ≡ ground v → w.opening ≡ v.opening → is_ready w.stage ≡ is_ready v.stage → in_draft w.stage ≡ in_draft v.stage → IsStopOf h.core.stop w.stop w.parts
      → (n : Shows stands l (record { words = s.words; homes = s.homes; views = set s.views id w })) × (n.core ≡ h.core)
  looked s h id v w at wr wp wl wo wop wd stops = (
    record {
      core = h.core;
      left = h.left;
      small = h.small;
      places = h.places;
      glue = h.glue;
      owner = h.owner;
      words = h.words;
      fresh = h.fresh;
      stopper = h.stopper;
      turned = h.turned;
      start_glues = h.start_glues;
      owners = λ i lt. let o = h.owners i lt in let n : length (set s.views id w) ≡ length s.views = length-set s.views id w in omega arith;
      fault = h.fault;
      origin = h.origin;
      home = h.home;
      origins = λ j u is ready. ⊎_elim
          (λ (x : (j ≡ id) × (w ≡ u)). ap (λ (y : View). y.origin) (sym x.1) ∙ ap (λ q. q.1) wl ∙ h.origins id v at (sym wop ∙ ap (λ (y : View). is_ready y.stage) x.1 ∙ ready))
          (λ (x : (j ≢ id) × (get_elem? s.views j ≡ some u)). h.origins j u x.1 ready)
          (at_set s.views id j w u is);
      teller = λ f. still_told s.views id v w at (subst SomeTold (sym wp)) (h.teller f);
      faults = λ j u i p is e. ⊎_elim
          (λ (x : (j ≡ id) × (w ≡ u)). h.faults id v i p at (ap (λ ps. get_elem? ps i) (sym wp) ∙ ap (λ (y : View). get_elem? y.parts i) x.1 ∙ e))
          (λ (x : (j ≢ id) × (get_elem? s.views j ≡ some u)). h.faults j u i p x.1 e)
          (at_set s.views id j w u is);
      each = λ j u is. ⊎_elim
          (λ (x : (j ≡ id) × (w ≡ u)). let f = h.each id v at in subst (λ (y : ℕ × View). Fits l h.core h.glue h.owner y.0 y.1) (λ i. (sym x.0 i, x.1 i)) (record {
            rights = λ i lt. ap (times_in i) wr ∙ f.rights i lt;
            owned = λ i lt. ap (λ ps. times_in i (map ring_of ps)) wp ∙ f.owned i lt;
            settled = wd ∙ f.settled;
            stops = stops;
            told = λ op. let t = f.told (sym wop ∙ op) in (ap (λ q. q.0) wl ∙ t.0, wo ∙ t.1);
            parts = λ i y e. f.parts i y (ap (λ ps. get_elem? ps i) (sym wp) ∙ e);
          }))
          (λ (x : (j ≢ id) × (get_elem? s.views j ≡ some u)). h.each j u x.1)
          (at_set s.views id j w u is);
      stored = λ j u i p is e. ⊎_elim
          (λ (x : (j ≡ id) × (w ≡ u)). h.stored id v i p at (ap (λ ps. get_elem? ps i) (sym wp) ∙ ap (λ (y : View). get_elem? y.parts i) x.1 ∙ e))
          (λ (x : (j ≢ id) × (get_elem? s.views j ≡ some u)). h.stored j u i p x.1 e)
          (at_set s.views id j w u is);
    },
    refl,
  )
