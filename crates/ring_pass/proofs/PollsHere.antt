-- What the port says after a look into another ring's slot.
use Rattle.std.proofs.Common.{◌≡◌, ◌≢◌, ℕ, suc, ◌+◌, ◌<◌, ◌==◌, Bool, true, false, if◌then◌else◌, List, [], ◌∷◌, ◌++◌, map, refl, sym, ap, subst, ◌∙◌, inl, arith, Option, Some, None, eq-eqb, ne_eqb}
use Rattle.std.specs.Prelude.{Ok}
use Rattle.std.specs.List.{All}
use Rattle.std.proofs.lemmas.List.{map-append}
use Rattle.sat_words.specs.Literal.{Literal}
use Rattle.sat_words.specs.declared.shared.Cref.{Cref}
use Rattle.rup_model.specs.Basics.{one_if}
use Rattle.rup_model.proofs.Lists.{In, In_append_right}
use Rattle.rup_model.proofs.ProgramOpening.{All_from_In}
use Rattle.atomic_table.specs.declared.shared.Seat.{Seat}
use Rattle.share_core.specs.declared.stored.ClauseAt.{ClauseAt}
use Rattle.share_core.specs.declared.part.CoreOpening.{CoreOpening}
use Rattle.share_core.specs.State.{times_at}
use Rattle.share_core.proofs.ClauseLists.{all_last, all_map, at_both, at_in}
use Rattle.share_core.proofs.Leaving.{left_sound}
use Rattle.share_rule.specs.declared.Shared.{Shared}
use Rattle.share_rule.specs.Passes.{IsPassOf, IsSamePass}
use Rattle.share_rule.specs.declared.view.GlueAt.{GlueAt}
use Rattle.share_rule.specs.declared.view.Poll.{Poll}
use Rattle.share_rule.specs.declared.view.RingPart.{RingPart}
use Rattle.share_rule.specs.declared.view.View.{View}
use Rattle.share_rule.specs.Views.{only, glue_in}
use Rattle.share_rule.specs.Seen.{Seen}
use Rattle.share_rule.specs.Exchanges.{KeepsGlues, took_part, after_get}
use Rattle.pool_exchange.specs.Found.{IsFound}
use Rattle.ring_port.specs.PortState.{Holding, PortState, IsKept, held_at, one_more}
use Rattle.ring_port.specs.Port.{KeepsHeld}
use Rattle.ring_port.specs.Exchange.{Polled}
use Rattle.ring_port.proofs.Holdings.{found_in_front}
use Rattle.ring_pass.specs.declared.waiting.Waiting.{Waiting}
use Rattle.ring_pass.specs.Numbers.{HasNumbers}
use Rattle.ring_pass.specs.RingState.{Own, port_with, port_of, home_of, holding_of, slot_of, looks_before, IsOwn, IsRingPass, HasRoom, HasUnits}
use Rattle.ring_pass.proofs.RingPorts.{copy_of, kept_of, waiting_copy, waits_free}
use Rattle.ring_pass.proofs.Stays.{only_is, one_is, one_changed, ring_changes, name_stays, units_keep}

-- Glues

-- of clauses that are held or wait, only copies of one cell have one number
pub numbers_apart : (w : View) (s : Seen w) → w.parts ≡ only w ∷ [] → (h k : ClauseAt) → In h (only w).core.held → In k (only w).core.waiting → k.number ≢ h.number
numbers_apart w s one h k i j e =
    let c = copy_of w s one h i in
    let d = waiting_copy w s one k j in
    let at : h.address ≡ k.address = (left_sound s.core.opening s.core s.left).cells.own h.address k.address c.0 d.0 c.1 d.1 (c.2 ∙ sym e ∙ sym d.2) in
    let there = at_in (only w).core.held h i in
    let none : times_at h.address (only w).core.held ≡ 0 = waits_free w s one h.address (subst (λ (a : ℕ). 0 < times_at a (only w).core.waiting) (sym at) (at_in (only w).core.waiting k j)) in
    absurd (omega arith)

glue_else : (n m g : ℕ) (gs : List GlueAt) → n ≢ m → glue_in n (record { number = m; glue = g } ∷ gs) ≡ glue_in n gs
glue_else n m g gs ne i = if ne_eqb m n (λ e. ne (sym e)) i then g else glue_in n gs

pub map_last : (gs : List GlueAt) (hs : List ClauseAt) (x : ClauseAt) → map (holding_of gs) (hs ++ x ∷ []) ≡ map (holding_of gs) hs ++ holding_of gs x ∷ []
map_last gs [] x = refl
map_last gs (y ∷ hs) x = ap (λ (ks : List Holding). holding_of gs y ∷ ks) (map_last gs hs x)

pub map_same : (gs gs' : List GlueAt) (hs : List ClauseAt) → All (λ k. glue_in k.number gs' ≡ glue_in k.number gs) hs → map (holding_of gs') hs ≡ map (holding_of gs) hs
map_same gs gs' [] h = refl
map_same gs gs' (y ∷ hs) h = λ i. record { address = y.address; number = y.number; glue = h 0 y (omega arith) i; lits = y.lits } ∷ map_same gs gs' hs (λ k d lt. h (suc k) d (omega arith)) i

map_crefs : (cs : List Cref) (x : Cref) → map (λ (y : Cref). y.address) (cs ++ x ∷ []) ≡ map (λ (y : Cref). y.address) cs ++ x.address ∷ []
map_crefs [] x = refl
map_crefs (y ∷ cs) x = ap (λ (ks : List ℕ). y.address ∷ ks) (map_crefs cs x)

-- Parts

-- the poll of a slot
abbrev poll_of : (from class place : ℕ) → RingPart → Poll
poll_of from class place p = record { from = from; class = class; place = place; caught_up = p.caught_up }

-- the slot is noted
abbrev noted_part : (from class place : ℕ) → RingPart → RingPart
noted_part from class place p = record p { polls = p.polls ++ poll_of from class place p ∷ [] }

-- if nothing came out
none_part : (from class place : ℕ) (h : ClauseAt) (g : ℕ) (p : RingPart) → h.address ≡ 0 → took_part from class place h g p ≡ noted_part from class place p
none_part from class place h g p zero_at = let at : (h.address == 0) ≡ true = eq-eqb h.address 0 zero_at in λ i. record (noted_part from class place p) {
  core = record p.core { held = if at i then p.core.held else p.core.held ++ h ∷ [] };
  glues = if at i then p.glues else record { number = h.number; glue = g } ∷ p.glues;
}

-- if a clause did
abbrev with_one : (from class place : ℕ) → ClauseAt → ℕ → RingPart → RingPart
with_one from class place h g p = record (noted_part from class place p) { core = record p.core { held = p.core.held ++ h ∷ [] }; glues = record { number = h.number; glue = g } ∷ p.glues }

some_part : (from class place : ℕ) (h : ClauseAt) (g : ℕ) (p : RingPart) → h.address ≢ 0 → took_part from class place h g p ≡ with_one from class place h g p
some_part from class place h g p some_at = let at : (h.address == 0) ≡ false = ne_eqb h.address 0 some_at in λ i. record (noted_part from class place p) {
  core = record p.core { held = if at i then p.core.held else p.core.held ++ h ∷ [] };
  glues = if at i then p.glues else record { number = h.number; glue = g } ∷ p.glues;
}

-- what came out, and the part of the ring
abbrev pub after_part : (from class place : ℕ) → ClauseAt → ℕ → Option Cref → RingPart → RingPart
after_part from class place h g None p = noted_part from class place p
after_part from class place h g (Some c) p = with_one from class place h g p

pub part_after : (from class place : ℕ) (h : ClauseAt) (g : ℕ) (r : Option Cref) (p : RingPart) → IsFound h.address r → took_part from class place h g p ≡ after_part from class place h g r p
part_after from class place h g None p f = none_part from class place h g p f
part_after from class place h g (Some c) p f = some_part from class place h g p f.0

-- the port, by its parts
pub port_step : (v w : View) (x : RingPart) (o : Own) → w.parts ≡ x ∷ [] → w.layout ≡ v.layout → w.opening ≡ v.opening → w.stop ≡ v.stop → w.looks ≡ v.looks → port_of w o ≡ port_with v x o
port_step v w x o e l op st lk i = port_with (record v { layout = l i; opening = op i; stop = st i; looks = lk i }) (only_is w x e i) o

-- What is kept

-- what was taken, and what came out
abbrev pub taken_after : Option Cref → List Cref → List Cref
taken_after None cs = cs
taken_after (Some c) cs = cs ++ c ∷ []

own_with : (from class place : ℕ) (h : ClauseAt) (g : ℕ) (r : Option Cref) (p : RingPart) (o : Own) (k : ℕ) (home : List ℕ) → IsFound h.address r → IsOwn p o → IsOwn (after_part from class place h g r p) (record o { polled = k; taken = taken_after r o.taken; home = home })
own_with from class place h g None p o k home f own = record { passed = own.passed; distinct = own.distinct; told = own.told; taken = own.taken; ended_is = own.ended_is; refused_is = own.refused_is; faulty_is = own.faulty_is; making = own.making; listed = own.listed }
own_with from class place h g (Some c) p o k home f own =
    let more : (a : ℕ) → times_at a (p.core.held ++ h ∷ []) ≡ times_at a p.core.held + times_at a (h ∷ []) = λ a. at_both a p.core.held (h ∷ []) in
    record {
      passed = own.passed;
      distinct = own.distinct;
      told = own.told;
      taken = all_last (λ (x : Cref). 0 < times_at x.address (p.core.held ++ h ∷ [])) o.taken c
          (all_map (λ (x : Cref). 0 < times_at x.address p.core.held) (λ (x : Cref). 0 < times_at x.address (p.core.held ++ h ∷ [])) o.taken (λ x i lt. let m = more x.address in omega arith) own.taken)
          (let m = more c.address in let here : one_if (h.address == c.address) ≡ 1 = ap one_if (eq-eqb h.address c.address (sym f.1)) in omega arith);
      ended_is = own.ended_is;
      refused_is = own.refused_is;
      faulty_is = own.faulty_is;
      making = own.making;
      listed = own.listed;
    }

pub own_after : (from class place : ℕ) (h : ClauseAt) (g : ℕ) (r : Option Cref) (p : RingPart) (o : Own) (k : ℕ) (ts : List Cref) (home : List ℕ) → IsFound h.address r → IsOwn p o → ts ≡ taken_after r o.taken → IsOwn (after_part from class place h g r p) (record o { polled = k; taken = ts; home = home })
own_after from class place h g r p o k ts home f own e = subst (λ (cs : List Cref). IsOwn (after_part from class place h g r p) (record o { polled = k; taken = cs; home = home })) (sym e) (own_with from class place h g r p o k home f own)

pub room_after : (from class place : ℕ) (h : ClauseAt) (g : ℕ) (r : Option Cref) (p : RingPart) (rings : ℕ) (last : Option Cref) (ws : List Waiting) (room : ℕ) → HasRoom p rings last ws room → HasRoom (after_part from class place h g r p) rings last ws room
room_after from class place h g None p rings last ws room m = record { waits = m.waits; places = m.places; few = m.few }
room_after from class place h g (Some c) p rings last ws room m = record { waits = m.waits; places = m.places; few = m.few }

-- The port

pub polled_here : (v w : View) (s : Seen w) (o : Own) (k : ℕ) (ts : List Cref) (home : List ℕ) (from class place : ℕ) (h : ClauseAt) (g : ℕ) (r : Option Cref) → v.parts ≡ only v ∷ [] → w.parts ≡ after_part from class place h g r (only v) ∷ [] → w.layout ≡ v.layout → w.opening ≡ v.opening → w.stop ≡ v.stop → w.looks ≡ v.looks
    → IsFound h.address r → KeepsGlues h g (only v) → k ≡ one_more o.polled → ts ≡ taken_after r o.taken → home ≡ o.home → Polled (port_of v o) (port_of w (record o { polled = k; taken = ts; home = home })) from class place (Ok r)
polled_here v w s o k ts home from class place h g None one is lay op st lk f keeps more taken hm =
    port_step v w (noted_part from class place (only v)) (record o { polled = k; taken = ts; home = home }) is lay op st lk
    ∙ (λ i. port_with v (noted_part from class place (only v)) (record o { polled = more i; taken = taken i; home = hm i }))
    ∙ (λ i. record (port_of v o) { polled = one_more o.polled; polls = map-append slot_of (only v).polls (poll_of from class place (only v) ∷ []) i; polls_after = map-append looks_before (only v).polls (poll_of from class place (only v) ∷ []) i })
polled_here v w s o k ts home from class place h g (Some c) one is lay op st lk f keeps more taken hm =
    let p : RingPart = only v in
    let gs : List GlueAt = record { number = h.number; glue = g } ∷ p.glues in
    let now : w.parts ≡ only w ∷ [] = one_is w (with_one from class place h g p) is in
    let part : only w ≡ with_one from class place h g p = only_is w (with_one from class place h g p) is in
    let there : In h (only w).core.held = subst (λ (q : RingPart). In h q.core.held) (sym part) (In_append_right p.core.held (h ∷ []) h (inl refl)) in
    let held_glues : All (λ x. glue_in x.number gs ≡ glue_in x.number p.glues) p.core.held = subst (λ (b : Bool). All (λ x. glue_in x.number (if b then p.glues else gs) ≡ glue_in x.number p.glues) p.core.held) (ne_eqb h.address 0 f.0) keeps in
    let waiting_glues : All (λ x. glue_in x.number gs ≡ glue_in x.number p.glues) p.core.waiting = All_from_In (λ (x : ClauseAt). glue_in x.number gs ≡ glue_in x.number p.glues) p.core.waiting
    (λ x i. glue_else x.number h.number g p.glues (numbers_apart w s now h x there (subst (λ (q : RingPart). In x q.core.waiting) (sym part) i))) in
    record {
      clause = holding_of gs h;
      address = sym f.1;
      kept = subst (λ (n : ℕ). IsKept n (holding_of gs h)) (λ i. (lay i).vars) (kept_of w s now gs h (copy_of w s now h there));
      state = port_step v w (with_one from class place h g p) (record o { polled = k; taken = ts; home = home }) is lay op st lk
          ∙ (λ i. port_with v (with_one from class place h g p) (record o { polled = more i; taken = taken i; home = hm i }))
          ∙ (λ i. record (port_of v o) {
            held = (map_last gs p.core.held h ∙ (λ j. map_same p.glues gs p.core.held held_glues j ++ holding_of gs h ∷ [])) i;
            waiting = map_same p.glues gs p.core.waiting waiting_glues i;
            polled = one_more o.polled;
            polls = map-append slot_of p.polls (poll_of from class place p ∷ []) i;
            polls_after = map-append looks_before p.polls (poll_of from class place p ∷ []) i;
            taken = map_crefs o.taken c i;
          });
    }

-- what was held stays held
pub polled_keeps : (s t : PortState) (from class place : ℕ) (r : Option Cref) → Polled s t from class place (Ok r) → KeepsHeld s t
unfolding held_at
polled_keeps s t from class place None is a h = ap (λ (x : PortState). held_at x a) is
polled_keeps s t from class place (Some c) is a h = ap (λ (x : PortState). held_at x a) is.state ∙ found_in_front (λ k. k.address == a) s.held (is.clause ∷ []) h

-- For a ring with its pass

pub got_parts : (v w : View) (from class place : ℕ) (h : ClauseAt) (g : ℕ) (r : Option Cref) → v.parts ≡ only v ∷ [] → w ≡ after_get from class place h g v → IsFound h.address r → w.parts ≡ after_part from class place h g r (only v) ∷ []
got_parts v w from class place h g r one is f = one_changed (took_part from class place h g) v w one (ap (λ (u : View). u.parts) is) ∙ (λ i. part_after from class place h g r (only v) f i ∷ [])

pub ring_polls : {B : Type 0} {t : Shared B} {p : Seat (Option B) View} {n : ℕ} {st : List Cref} {o : Own} (q : Seat (Option B) View) (from class place : ℕ) (h : ClauseAt) (g : ℕ) (x : Option Cref) (k : ℕ) (ts : List Cref) → IsRingPass t p n st o → IsPassOf t q → IsSamePass p q
    → q.me.0 ≡ after_get from class place h g p.me.0 → IsFound h.address x → ts ≡ taken_after x o.taken → IsRingPass t q n st (record o { polled = k; taken = ts; home = home_of q })
ring_polls {B} {t} {p} {n} {st} {o} q from class place h g x k ts r pass same is f e =
    ring_changes q (after_part from class place h g x (only p.me.0)) (record o { polled = k; taken = ts; home = home_of q }) r pass same (ap (λ (u : View). u.opening) is) (got_parts p.me.0 q.me.0 from class place h g x r.one is f)
    (by_ring x) (by_turn x) refl (own_after from class place h g x (only p.me.0) o k ts (home_of q) f r.own e) (λ lone failed. r.alone_is lone (sym (by_failed x) ∙ failed)) refl (by_numbers x)
  where
    by_numbers : (y : Option Cref) → HasNumbers (only p.me.0).core.seen (only p.me.0).core.numbers p.me.0.layout.vars o.numbers → HasNumbers (after_part from class place h g y (only p.me.0)).core.seen (after_part from class place h g y (only p.me.0)).core.numbers p.me.0.layout.vars o.numbers
    by_numbers None m = m
    by_numbers (Some c) m = m

    by_ring : (y : Option Cref) → (after_part from class place h g y (only p.me.0)).core.ring ≡ (only p.me.0).core.ring
    by_ring None = refl
    by_ring (Some c) = refl

    by_turn : (y : Option Cref) → (after_part from class place h g y (only p.me.0)).turn ≡ (only p.me.0).turn
    by_turn None = refl
    by_turn (Some c) = refl

    by_failed : (y : Option Cref) → (after_part from class place h g y (only p.me.0)).failed ≡ (only p.me.0).failed
    by_failed None = refl
    by_failed (Some c) = refl

pub room_polls : (v w : View) (from class place : ℕ) (h : ClauseAt) (g : ℕ) (x : Option Cref) (last : Option Cref) (ws : List Waiting) (room : ℕ) → v.parts ≡ only v ∷ [] → w ≡ after_get from class place h g v → IsFound h.address x
    → HasRoom (only v) v.opening.rings last ws room → HasRoom (only w) w.opening.rings last ws room
room_polls v w from class place h g x last ws room one is f m =
    subst (λ (o : CoreOpening). HasRoom (only w) o.rings last ws room) (sym (ap (λ (u : View). u.opening) is))
    (subst (λ (y : RingPart). HasRoom y v.opening.rings last ws room) (sym (only_is w (after_part from class place h g x (only v)) (got_parts v w from class place h g x one is f))) (room_after from class place h g x (only v) v.opening.rings last ws room m))

pub units_polls : (v w : View) (from class place : ℕ) (h : ClauseAt) (g : ℕ) (x : Option Cref) (seen : List Literal) (a b : ℕ) → v.parts ≡ only v ∷ [] → w ≡ after_get from class place h g v → IsFound h.address x → HasUnits (only v) v.layout.vars seen a b → HasUnits (only w) w.layout.vars seen a b
units_polls v w from class place h g x seen a b one is f u =
    units_keep v w seen a b (ap (λ (p : RingPart). p.core.seen) (only_is w (after_part from class place h g x (only v)) (got_parts v w from class place h g x one is f)) ∙ by x) (ap (λ (y : View). y.layout) is) u
  where
    by : (y : Option Cref) → (after_part from class place h g y (only v)).core.seen ≡ (only v).core.seen
    by None = refl
    by (Some c) = refl

pub port_polls : {B : Type 0} {t : Shared B} {p : Seat (Option B) View} {n : ℕ} {st : List Cref} {o : Own} (q : Seat (Option B) View) (s : PortState) (from class place : ℕ) (h : ClauseAt) (g : ℕ) (x : Option Cref) (k : ℕ) (ts : List Cref) → IsRingPass t p n st o → IsPassOf t q → port_of p.me.0 o ≡ s
    → q.me.0 ≡ after_get from class place h g p.me.0 → IsFound h.address x → KeepsGlues h g (only p.me.0) → k ≡ one_more o.polled → ts ≡ taken_after x o.taken → Polled s (port_of q.me.0 (record o { polled = k; taken = ts; home = home_of q })) from class place (Ok x)
port_polls {B} {t} {p} {n} {st} {o} q s from class place h g x k ts r pass view is f keeps more e =
    subst (λ (y : PortState). Polled y (port_of q.me.0 (record o { polled = k; taken = ts; home = home_of q })) from class place (Ok x)) view
    (polled_here p.me.0 q.me.0 pass.3 o k ts (home_of q) from class place h g x r.one (got_parts p.me.0 q.me.0 from class place h g x r.one is f) (ap (λ (u : View). u.layout) is) (ap (λ (u : View). u.opening) is) (ap (λ (u : View). u.stop) is) (ap (λ (u : View). u.looks) is) f keeps more e (name_stays q r pass))
