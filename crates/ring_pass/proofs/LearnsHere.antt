-- What the port says after a clause was learned.
use Rattle.std.proofs.Common.{◌≡◌, ℕ, ◌+◌, ◌-◌, ◌<◌, ◌≤◌, ◌==◌, ◌&&◌, true, not, List, [], ◌∷◌, ◌++◌, map, length, get_or, refl, sym, ap, subst, ◌∙◌, arith, Option, Some, None, IfSome, eq-eqb, length-append}
use Rattle.std.specs.Prelude.{All}
use Rattle.std.specs.List.{list_any}
use Rattle.sat_words.specs.Literal.{Literal}
use Rattle.sat_words.specs.Clause.{includes}
use Rattle.sat_words.specs.declared.shared.Cref.{Cref}
use Rattle.rup_model.specs.Basics.{one_if}
use Rattle.rup_model.specs.declared.journal.Kind.{Kind}
use Rattle.rup_model.specs.declared.journal.Kind.TheVariants.{Learn}
use Rattle.rup_model.specs.Journal.{recent}
use Rattle.rup_model.specs.Opening.{start_clauses}
use Rattle.share_core.specs.declared.part.Part.{Part}
use Rattle.share_core.specs.declared.part.CoreOpening.{CoreOpening}
use Rattle.share_core.specs.declared.stored.ClauseAt.{ClauseAt}
use Rattle.share_core.specs.Learning.{may_learn}
use Rattle.share_core.specs.State.{times_at, opening_of}
use Rattle.share_core.proofs.ClauseLists.{all_map, at_both}
use Rattle.share_rule.specs.declared.view.GlueAt.{GlueAt}
use Rattle.share_rule.specs.declared.view.RingPart.{RingPart}
use Rattle.share_rule.specs.declared.view.View.{View}
use Rattle.share_rule.specs.Seen.{Seen}
use Rattle.share_rule.specs.Views.{only, clause_in, start_glues}
use Rattle.ring_port.specs.Port.{IsClause, IsFreshClause, WroteUnit, LearnedUnit, KeepsHeld}
use Rattle.ring_port.specs.PortState.{Holding, PortState, IsOn, held_at}
use Rattle.ring_pass.specs.declared.spares.Spares.{Spares}
use Rattle.ring_pass.specs.declared.waiting.Waiting.{Waiting}
use Rattle.ring_pass.specs.Adding.{Added, clause_with, placed_line}
use Rattle.ring_pass.specs.RingState.{Own, port_of, holding_of, HasRoom, AreNext, CanOffer, AreShort, AreWaiting, IsBuffer}
use Rattle.ring_pass.proofs.NextPlaces.{places_stay}
use Rattle.ring_pass.specs.Writes.{entries_of, own_opening}
use Rattle.ring_pass.proofs.DerivesHere.{last_found}
use Rattle.ring_pass.proofs.DropsHere.{pending_few}
use Rattle.ring_pass.proofs.OfferedHere.{rings_few}
use Rattle.ring_pass.proofs.Stays.{only_is}

-- What may be learned

starts_same : (gs : List GlueAt) (hs : List ClauseAt) (o : CoreOpening) → map (λ (h : Holding). h.lits) (map (holding_of gs) hs) ≡ start_clauses (opening_of (record o { starts = hs }))
starts_same gs [] o = refl
starts_same gs (h ∷ hs) o = ap (λ (cs : List (List Literal)). h.lits ∷ cs) (starts_same gs hs o)

-- with a ticket, what is fresh to the port is fresh to the ring's own entries
pub may_learn_here : (v : View) (o : Own) (s : PortState) (lits : List Literal) → port_of v o ≡ s → s.ticket ≡ true → IsFreshClause s lits → may_learn (own_opening v) (entries_of (only v)) (only v).core (only v).core.ring lits ≡ true
may_learn_here v o s lits view ticket h =
    let has : (only v).core.ticket ≡ true = ap (λ (y : PortState). y.ticket) view ∙ ticket in
    let f : IsFreshClause (port_of v o) lits = subst (λ (y : PortState). IsFreshClause y lits) (sym view) h in
    (λ i. has i && not (list_any (includes lits) (sym (starts_same (start_glues v.opening.starts) v.opening.starts v.opening) i ++ recent (only v).core.ring (entries_of (only v))))) ∙ f.own

-- Room

pub room_learns : {hints : List ℕ} (v w : View) (seen : Seen v) (lits : List Literal) (glue : ℕ) (c : Cref) (last : Option Cref) (ws ws' : List Waiting) (room room' : ℕ) → Added v w Learn lits hints glue c.address → ws' ≡ ws → length ws' + v.opening.rings ≤ room' → HasRoom (only v) v.opening.rings last ws room → HasRoom (only w) w.opening.rings (Some c) ws' room'
room_learns {hints} v w seen lits glue c last ws ws' room room' f same large m =
    let shared = ap (λ (k : Part). k.shared) f.core in
    let wrote = ap (λ (k : Part). length k.wrote) f.core in
    let long = length-append (only v).core.wrote (placed_line f.place (only v).core.ring f.number lits Learn hints ∷ []) in
    let few = m.few in
    let rings = rings_few v seen in
    subst (λ (o : CoreOpening). HasRoom (only w) o.rings (Some c) ws' room') (sym f.opening) (subst (λ (y : RingPart). HasRoom y v.opening.rings (Some c) ws' room') (sym (only_is w f.part f.parts)) (record {
      waits = subst (λ (xs : List Waiting). AreWaiting xs f.part.core.waiting) (sym same) (subst (AreWaiting ws) (sym (ap (λ (k : Part). k.waiting) f.core)) m.waits);
      places = omega arith;
      few = omega arith;
    }))

short_more : (n m : ℕ) (hs : List ClauseAt) → n ≤ m → AreShort n hs → AreShort m hs
short_more n m hs le short = all_map (λ (h : ClauseAt). length h.lits ≤ n) (λ (h : ClauseAt). length h.lits ≤ m) hs (λ h i k. omega arith) short

pub offer_learns : {hints : List ℕ} (v w : View) (lits : List Literal) (glue : ℕ) (c : Cref) (last : Option Cref) (s s' : Spares) → Added v w Learn lits hints glue c.address → All (IsBuffer s'.longest) s'.buffers.items → v.opening.rings - 1 ≤ length s'.buffers.items → length lits ≤ s'.longest → s.longest ≤ s'.longest → s'.places ≡ s.places → CanOffer (only v) v.opening last s
    → CanOffer (only w) w.opening (Some c) s'
offer_learns {hints} v w lits glue c last s s' f buffers enough short longer same r =
    let h : ClauseAt = clause_with c.address f.number lits in
    let one : one_if (c.address == c.address) ≡ 1 = ap one_if (eq-eqb c.address c.address refl) in
    let both = at_both c.address (only v).core.held (clause_with c.address f.number lits ∷ []) in
    subst (λ (o : CoreOpening). CanOffer (only w) o (Some c) s') (sym f.opening) (subst (λ (y : RingPart). CanOffer y v.opening (Some c) s') (sym (only_is w f.part f.parts)) (record {
      buffers = buffers;
      enough = enough;
      gave = subst (AreShort s'.longest) (sym f.gave) (short_more s.longest s'.longest (only v).gave longer r.gave);
      next = subst (λ (hs : List ClauseAt). (0 < times_at c.address hs) × (length (clause_in c.address hs).lits ≤ s'.longest)) (sym (ap (λ (k : Part). k.held) f.core)) (
        omega arith,
        subst (λ (k : ClauseAt). length k.lits ≤ s'.longest) (sym (last_found c.address (only v).core.held (clause_with c.address f.number lits) refl f.not_held)) short,
      );
      places = places_stay (ap (λ (k : Part). k.ring) f.core) (ap (λ (k : Part). k.puts) f.core) (subst (AreNext (only v).core.ring (only v).core.puts v.opening) (sym same) r.places);
    }))

-- with more buffers, which are longer
pub offer_larger : (p : RingPart) (o : CoreOpening) (last : Option Cref) (s s' : Spares) → All (IsBuffer s'.longest) s'.buffers.items → o.rings - 1 ≤ length s'.buffers.items → s.longest ≤ s'.longest → s'.places ≡ s.places → CanOffer p o last s → CanOffer p o last s'
offer_larger p o last s s' buffers enough longer same r = record {
  buffers = buffers;
  enough = (let few = pending_few o.rings last in omega arith);
  gave = short_more s.longest s'.longest p.gave longer r.gave;
  next = by last r.next;
  places = subst (AreNext p.core.ring p.core.puts o) (sym same) r.places;
}
  where
    by : (l : Option Cref) → IfSome l (λ c. (0 < times_at c.address p.core.held) × (length (clause_in c.address p.core.held).lits ≤ s.longest)) → IfSome l (λ c. (0 < times_at c.address p.core.held) × (length (clause_in c.address p.core.held).lits ≤ s'.longest))
    by None h = tt
    by (Some c) h = (h.0, let le = h.1 in omega arith)

-- Units

-- what was learned last is offered no more
pub room_none : {p : RingPart} {rings : ℕ} {ws : List Waiting} {room : ℕ} (last : Option Cref) → HasRoom p rings last ws room → HasRoom p rings None ws room
room_none last m = record { waits = m.waits; places = (let k = m.places in omega arith); few = (let k = m.few in omega arith) }

pub offer_none : {p : RingPart} {o : CoreOpening} {s : Spares} (last : Option Cref) → CanOffer p o last s → CanOffer p o None s
offer_none last r = record { buffers = r.buffers; enough = omega arith; gave = r.gave; next = tt; places = r.places }

pub unit_keeps : {s t : PortState} {l : Literal} {kind : Kind} {last : Option ℕ} → WroteUnit s t l kind last → KeepsHeld s t
unfolding held_at
unit_keeps is a h = ap (λ (x : PortState). held_at x a) is.state

-- a clause of one literal
pub one_lit : (lits : List Literal) (x : Literal) → length lits ≡ 1 → x ≡ get_or lits 0 x → lits ≡ x ∷ []
one_lit [] x e is = absurd (omega arith)
one_lit (y ∷ []) x e is = ap (λ (z : Literal). z ∷ []) (sym is)
one_lit (y ∷ z ∷ ls) x e is = absurd (omega arith)

pub one_on : {vars : ℕ} {lits : List Literal} {x : Literal} → lits ≡ x ∷ [] → IsClause vars lits → IsOn vars x
one_on {vars} {lits} {x} e c = subst (λ (ls : List Literal). All (IsOn vars) ls) e c.on 0 x (omega arith)

pub unit_learned : {s t : PortState} {lits : List Literal} {x : Literal} → lits ≡ x ∷ [] → WroteUnit s t x Learn None → LearnedUnit s t lits
unit_learned {s} {t} {lits} {x} e w = record { lit = x; unit = e; wrote = w }
