-- That the next offer takes no memory, step by step.
use Rattle.std.proofs.Common.{◌≡◌, ◌≢◌, ℕ, ◌<◌, ◌≤◌, ◌==◌, if◌then◌else◌, List, [], ◌∷◌, ◌++◌, length, refl, sym, ap, subst, ◌∙◌, arith, Option, Some, None, IfSome, eq-eqb, ne_eqb, Bool, true, false}
use Rattle.std.specs.Option.{option_map}
use mathlib.Core.Logic.{dite}
use native.Mathlib.Decide.{ℕ_discrete}
use Rattle.sat_words.specs.declared.shared.Cref.{Cref}
use Rattle.rup_model.specs.Basics.{one_if}
use Rattle.share_core.specs.declared.stored.ClauseAt.{ClauseAt}
use Rattle.share_core.specs.declared.part.CoreOpening.{CoreOpening}
use Rattle.share_core.specs.State.{times_at, without_at}
use Rattle.share_core.proofs.ClauseLists.{at_without, at_both}
use Rattle.share_rule.specs.declared.view.RingPart.{RingPart}
use Rattle.share_rule.specs.declared.view.View.{View}
use Rattle.share_rule.specs.Exchanges.{after_get}
use Rattle.share_rule.specs.Steps.{drop_part, after_drop}
use Rattle.share_rule.specs.Views.{only, clause_in}
use Rattle.share_rule.proofs.Lists.{first_at}
use Rattle.pool_exchange.specs.Found.{IsFound}
use Rattle.ring_port.specs.Deleting.{unless_at}
use Rattle.ring_pass.specs.declared.spares.Spares.{Spares}
use Rattle.ring_pass.specs.declared.waiting.Waiting.{Waiting}
use Rattle.ring_pass.specs.Giving.{unless_cell}
use Rattle.ring_pass.specs.Looks.{OnlyLooked}
use Rattle.ring_pass.specs.RingState.{AreShort, HasRoom, CanOffer, pending}
use Rattle.ring_pass.proofs.NextPlaces.{places_stay}
use Rattle.ring_pass.proofs.OffersHere.{first_front}
use Rattle.ring_pass.proofs.PollsHere.{after_part, got_parts}
use Rattle.ring_pass.proofs.Stays.{only_is, only_same, one_changed}

-- what may be offered next is held, and short
abbrev IsNext : RingPart → ℕ → Option Cref → Type 0
IsNext p longest last = IfSome last (λ c. (0 < times_at c.address p.core.held) × (length (clause_in c.address p.core.held).lits ≤ longest))

-- Looks

pub offer_stays : (v w : View) (last : Option Cref) (s : Spares) → OnlyLooked v w → CanOffer (only v) v.opening last s → CanOffer (only w) w.opening last s
offer_stays v w last s h r = subst (λ (p : RingPart). CanOffer p w.opening last s) (sym (only_same v w h)) (subst (λ (o : CoreOpening). CanOffer (only v) o last s) (sym h.opening) r)

-- Drops

pub unless_same : (last : Option Cref) (a : ℕ) → option_map (λ (c : Cref). c.address) (unless_cell last a) ≡ unless_at (option_map (λ (c : Cref). c.address) last) a
unless_same None a = refl
unless_same (Some c) a = by (c.address == a)
  where
    by : (b : Bool) → option_map (λ (x : Cref). x.address) (if b then None else Some c) ≡ (if b then None else Some c.address)
    by true = refl
    by false = refl

pending_less : (rings a : ℕ) (last : Option Cref) → pending rings (unless_cell last a) ≤ pending rings last
pending_less rings a None = omega arith
pending_less rings a (Some c) = by (c.address == a)
  where
    by : (b : Bool) → pending rings (if b then None else Some c) ≤ pending rings (Some c)
    by true = omega arith
    by false = omega arith

room_unless : (p : RingPart) (rings a room : ℕ) (last : Option Cref) (ws : List Waiting) → HasRoom p rings last ws room → HasRoom p rings (unless_cell last a) ws room
room_unless p rings a room last ws h = let less = pending_less rings a last in record { waits = h.waits; places = (let k = h.places in omega arith); few = (let k = h.few in omega arith) }

-- in the words of the field
pub room_ends : (p : RingPart) (rings a room : ℕ) (last now : Option Cref) (ws : List Waiting) → now ≡ unless_cell last a → HasRoom p rings last ws room → HasRoom p rings now ws room
room_ends p rings a room last now ws e h = subst (λ (l : Option Cref). HasRoom p rings l ws room) (sym e) (room_unless p rings a room last ws h)

first_without : (a b : ℕ) (hs : List ClauseAt) → b ≢ a → clause_in b (without_at a hs) ≡ clause_in b hs
first_without a b [] ne = refl
first_without a b (h ∷ hs) ne = dite (ℕ_discrete h.address a)
    (λ e. (λ i. clause_in b (if eq-eqb h.address a e i then hs else h ∷ without_at a hs)) ∙ (λ i. if sym (ne_eqb h.address b (λ f. ne (sym f ∙ e))) i then h else clause_in b hs))
    (λ no. (λ i. clause_in b (if ne_eqb h.address a no i then hs else h ∷ without_at a hs)) ∙ (λ i. if h.address == b then h else first_without a b hs ne i))

next_drops : (p : RingPart) (a n longest : ℕ) (last : Option Cref) → 0 < times_at a p.core.held → IsNext p longest last → IsNext (drop_part a n p) longest (unless_cell last a)
next_drops p a n longest None lt next = tt
next_drops p a n longest (Some c) lt next = dite (ℕ_discrete c.address a)
    (λ e. subst (λ (b : Bool). IsNext (drop_part a n p) longest (if b then None else Some c)) (sym (eq-eqb c.address a e)) tt)
    (λ ne.
    let at = (first_at a p.core.held lt).1 in
    let t = at_without a c.address p.core.held lt in
    let z : one_if (a == c.address) ≡ 0 = ap one_if (ne_eqb a c.address (λ e. ne (sym e))) in
    let some = next.0 in
    subst (λ (b : Bool). IsNext (drop_part a n p) longest (if b then None else Some c)) (sym (ne_eqb c.address a ne))
    (subst (λ (b : ℕ). (0 < times_at c.address (without_at b p.core.held)) × (length (clause_in c.address (without_at b p.core.held)).lits ≤ longest)) (sym at)
    (omega arith, subst (λ (h : ClauseAt). length h.lits ≤ longest) (sym (first_without a c.address p.core.held ne)) next.1)))

pub offer_drops : (v w : View) (a n : ℕ) (last now : Option Cref) (s : Spares) → now ≡ unless_cell last a → v.parts ≡ only v ∷ [] → w ≡ after_drop a n v → 0 < times_at a (only v).core.held → CanOffer (only v) v.opening last s → CanOffer (only w) w.opening now s
offer_drops v w a n last now s ended one is lt r =
    let part = only_is w (drop_part a n (only v)) (one_changed (drop_part a n) v w one (ap (λ (u : View). u.parts) is)) in
    let less = pending_less v.opening.rings a last in
    let enough = r.enough in
    subst (λ (l : Option Cref). CanOffer (only w) w.opening l s) (sym ended)
    (subst (λ (o : CoreOpening). CanOffer (only w) o (unless_cell last a) s) (sym (ap (λ (u : View). u.opening) is))
    (subst (λ (y : RingPart). CanOffer y v.opening (unless_cell last a) s) (sym part)
    (record { buffers = r.buffers; enough = omega arith; gave = r.gave; next = next_drops (only v) a n s.longest last lt r.next; places = r.places })))

-- Looks into slots

next_more : (p : RingPart) (h : ClauseAt) (longest : ℕ) (last : Option Cref) → IsNext p longest last → IfSome last (λ c. (0 < times_at c.address (p.core.held ++ h ∷ [])) × (length (clause_in c.address (p.core.held ++ h ∷ [])).lits ≤ longest))
next_more p h longest None next = tt
next_more p h longest (Some c) next =
    let more = at_both c.address p.core.held (h ∷ []) in
    let some = next.0 in
    (omega arith, subst (λ (k : ClauseAt). length k.lits ≤ longest) (sym (first_front c.address p.core.held (h ∷ []) next.0)) next.1)

offer_after : (from class place : ℕ) (h : ClauseAt) (g : ℕ) (x : Option Cref) (p : RingPart) (o : CoreOpening) (last : Option Cref) (s : Spares) → CanOffer p o last s → CanOffer (after_part from class place h g x p) o last s
offer_after from class place h g None p o last s r = record { buffers = r.buffers; enough = r.enough; gave = r.gave; next = r.next; places = r.places }
offer_after from class place h g (Some c) p o last s r = record { buffers = r.buffers; enough = r.enough; gave = r.gave; next = next_more p h s.longest last r.next; places = r.places }

pub offer_polls : (v w : View) (from class place : ℕ) (h : ClauseAt) (g : ℕ) (x : Option Cref) (last : Option Cref) (s : Spares) → v.parts ≡ only v ∷ [] → w ≡ after_get from class place h g v → IsFound h.address x → CanOffer (only v) v.opening last s → CanOffer (only w) w.opening last s
offer_polls v w from class place h g x last s one is f r =
    subst (λ (o : CoreOpening). CanOffer (only w) o last s) (sym (ap (λ (u : View). u.opening) is))
    (subst (λ (y : RingPart). CanOffer y v.opening last s) (sym (only_is w (after_part from class place h g x (only v)) (got_parts v w from class place h g x one is f))) (offer_after from class place h g x (only v) v.opening last s r))

-- Steps that leave what is held and given

pub offer_turns : (v w : View) (x : RingPart) (last : Option Cref) (s : Spares) → w.opening ≡ v.opening → w.parts ≡ x ∷ [] → x.core.held ≡ (only v).core.held → x.gave ≡ (only v).gave → x.core.ring ≡ (only v).core.ring → x.core.puts ≡ (only v).core.puts → CanOffer (only v) v.opening last s → CanOffer (only w) w.opening last s
offer_turns v w x last s opening is held gave ring puts r =
    subst (λ (o : CoreOpening). CanOffer (only w) o last s) (sym opening) (subst (λ (y : RingPart). CanOffer y v.opening last s) (sym (only_is w x is)) (record {
      buffers = r.buffers;
      enough = r.enough;
      gave = subst (AreShort s.longest) (sym gave) r.gave;
      next = subst (λ (hs : List ClauseAt). IfSome last (λ c. (0 < times_at c.address hs) × (length (clause_in c.address hs).lits ≤ s.longest))) (sym held) r.next;
      places = places_stay ring puts r.places;
    }))
