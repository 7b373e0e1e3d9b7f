-- What the port says after an offer.
use Rattle.std.proofs.Common.{◌≡◌, ◌≢◌, ℕ, suc, ◌+◌, ◌-◌, ◌*◌, ◌%◌, ◌<◌, ◌≤◌, ◌==◌, Bool, true, false, ◌&&◌, nat_le, if◌then◌else◌, List, [], ◌∷◌, ◌++◌, map, length, refl, sym, ap, subst, ◌∙◌, arith, Option, Some, None, IfSome, IsSome, length-append}
use Rattle.std.specs.Prelude.{All, count_by, fold, slice_index, slice_set}
use Rattle.std.specs.Option.{option_map, option_and_then}
use Rattle.std.proofs.lemmas.Bool.{false≢true}
use Rattle.std.proofs.lemmas.Bool.Decides.{leb_tells}
use mathlib.Core.Logic.{dite}
use native.Mathlib.Decide.{ℕ_discrete}
use Rattle.sat_words.specs.Literal.{Literal}
use Rattle.sat_words.specs.Clause.{has}
use Rattle.sat_words.specs.declared.shared.Cref.{Cref}
use Rattle.sat_words.specs.declared.shared.Head.{Head}
use Rattle.sat_words.specs.declared.shared.TheConstants.{MAX_ENTRIES}
use Rattle.rup_model.specs.Basics.{one_if}
use Rattle.rup_model.specs.declared.journal.Entry.{Entry}
use Rattle.rup_model.specs.Journal.{ring_of}
use Rattle.rup_model.proofs.ProgramOpening.{All_from_In}
use Rattle.atomic_table.specs.declared.shared.Seat.{Seat}
use Rattle.share_core.specs.declared.event.TheConstants.{MAX_SHARES}
use Rattle.share_core.specs.declared.stored.ClauseAt.{ClauseAt}
use Rattle.share_core.specs.declared.stored.PutNote.{PutNote}
use Rattle.share_core.specs.declared.part.CoreOpening.{CoreOpening}
use Rattle.share_core.specs.declared.part.Part.{Part}
use Rattle.share_core.specs.State.{times_at}
use Rattle.share_core.specs.Sound.{placed}
use Rattle.share_core.proofs.ClauseLists.{all_in}
use Rattle.share_core.proofs.Counting.{none_some}
use Rattle.share_core.proofs.Leaving.{left_sound}
use Rattle.share_rule.specs.declared.Layout.{Layout}
use Rattle.share_rule.specs.declared.Shared.{Shared}
use Rattle.share_rule.specs.declared.view.GlueAt.{GlueAt}
use Rattle.share_rule.specs.declared.view.RingPart.{RingPart}
use Rattle.share_rule.specs.declared.view.View.{View}
use Rattle.share_rule.specs.Passes.{IsPassOf, IsSamePass}
use Rattle.share_rule.specs.Seen.{Seen}
use Rattle.share_rule.specs.Views.{only, clause_in, clause_of, glue_in}
use Rattle.ring_port.specs.Exchange.{class_of, class_at, next_place, Offered, OfferedAs}
use Rattle.ring_port.specs.PortState.{Holding, Offer, PortState, held_at}
use Rattle.ring_pass.specs.declared.spares.Spares.{Spares}
use Rattle.ring_pass.specs.declared.waiting.Waiting.{Waiting}
use Rattle.ring_pass.specs.Offering.{others, puts_for, CanTakeBack, PutFor}
use Rattle.ring_pass.specs.RingState.{Own, port_with, port_of, home_of, holding_of, offer_of, IsOwn, IsRingPass, AreShort, HasRoom, AreNext, CanOffer, pending, HasListed}
use Rattle.ring_pass.proofs.NumbersHere.{numbers_keep}
use Rattle.ring_pass.proofs.NextPlaces.{offers_at, map_puts, offers_same, next_offered}
use Rattle.ring_pass.proofs.OtherRings.{others_fewer}
use Rattle.ring_pass.proofs.PollsHere.{map_same}
use Rattle.ring_pass.proofs.RingPorts.{part_of, rings_here, held_here, there_here, nothing_here}
use Rattle.ring_pass.proofs.Stays.{ring_changes, name_stays}
use Rattle.ring_pass.specs.Refusals.{answer_noted}

-- Lists

map_both : (gs : List GlueAt) (xs ys : List ClauseAt) → map (holding_of gs) (xs ++ ys) ≡ map (holding_of gs) xs ++ map (holding_of gs) ys
map_both gs [] ys = refl
map_both gs (x ∷ xs) ys = ap (λ (ks : List Holding). holding_of gs x ∷ ks) (map_both gs xs ys)

map_long : (gs : List GlueAt) (xs : List ClauseAt) → length (map (holding_of gs) xs) ≡ length xs
map_long gs [] = refl
map_long gs (x ∷ xs) = ap suc (map_long gs xs)

-- how often the port holds a clause is how often the ring does
times_from : (gs : List GlueAt) (hs : List ClauseAt) (a k : ℕ) → fold (λ n (h : Holding). n + one_if (h.address == a)) k (map (holding_of gs) hs) ≡ k + times_at a hs
times_from gs [] a k = omega arith
times_from gs (h ∷ hs) a k = times_from gs hs a (k + one_if (h.address == a)) ∙ (let e : (k + one_if (h.address == a)) + times_at a hs ≡ k + (one_if (h.address == a) + times_at a hs) = omega arith in e)

times_here : (gs : List GlueAt) (hs : List ClauseAt) (a : ℕ) → count_by (λ h. h.address == a) (map (holding_of gs) hs) ≡ times_at a hs
times_here gs hs a = times_from gs hs a 0 ∙ (let e : 0 + times_at a hs ≡ times_at a hs = omega arith in e)

-- The port

module _ (v w : View) (o : Own) (home : List ℕ) (class place a : ℕ) (tos : List ℕ) (f : PutFor v w class place a tos) where
  same_clause : (b : ℕ) → 0 < times_at b (only v).core.held → holding_of (only w).glues (clause_of b w) ≡ holding_of (only v).glues (clause_of b v)
  same_clause b lt =
      let cl = f.part.held.clause b lt in
      let glue = ap (λ (h : ClauseAt). glue_in h.number (only w).glues) cl ∙ f.part.held.glue b lt in
      λ i. record { address = (cl i).address; number = (cl i).number; glue = glue i; lits = (cl i).lits }

  same_at : (b : ℕ) → held_at (port_of w (record o { last = None; home = home })) b ≡ held_at (port_of v o) b
  same_at b =
      let t = f.part.held.times b in
      dite (ℕ_discrete (times_at b (only v).core.held) 0)
      (λ z. nothing_here w (record o { last = None; home = home }) b (t ∙ z) ∙ sym (nothing_here v o b z))
      (λ nz.
      let lt : 0 < times_at b (only v).core.held = omega arith in
      (held_here w (record o { last = None; home = home }) b (there_here w (record o { last = None; home = home }) b (omega arith))).1 ∙ ap (λ (h : Holding). Some h) (same_clause b lt) ∙ sym (held_here v o b (there_here v o b lt)).1)

  pub offered_here : home ≡ o.home → tos ≡ others (only v).core.ring v.opening.rings → ((r : ℕ) → r < v.opening.rings → r ≢ (only v).core.ring → place ≡ next_place (port_of v o) r class)
      → Offered (port_of v o) (port_of w (record o { last = None; home = home })) class a
  offered_here hm is next = record {
    back = map (holding_of (only w).glues) f.part.back;
    few = (let few = f.part.few in let long = map_long (only w).glues f.part.back in let e = ap length is in omega arith);
    same = same_at;
    often = λ b. times_here (only w).glues (only w).core.held b ∙ f.part.held.times b ∙ sym (times_here (only v).glues (only v).core.held b);
    state = (λ i. port_with (record v { layout = f.layout i; opening = f.opening i; stop = f.stop i; looks = f.looks i }) (f.part.part i) (record o { last = None; home = hm i }))
        ∙ (λ i. record (port_of v o) {
          held = map (holding_of (only w).glues) (only w).core.held;
          shared = (only v).core.shared + length (is i);
          puts = (map_puts (only v).core.puts class place a tos ∙ ap (λ (rs : List ℕ). map offer_of (only v).core.puts ++ offers_at class place a rs) is
              ∙ ap (λ (os : List Offer). map offer_of (only v).core.puts ++ os) (offers_same (only v).core.ring v.opening.rings class place a (λ r. next_place (port_of v o) r class) next)) i;
          waiting = (map_both (only w).glues (only v).core.waiting f.part.back ∙ ap (λ (hs : List Holding). hs ++ map (holding_of (only w).glues) f.part.back) (map_same (only v).glues (only w).glues (only v).core.waiting f.part.glues)) i;
          last = None;
        });
  }

  pub own_offers : IsOwn (only v) o → IsOwn (only w) (record o { last = None; home = home })
  own_offers own =
      let seen = ap (λ (y : RingPart). y.core.seen) f.part.part in
      record {
        passed = own.passed;
        distinct = own.distinct;
        told = subst (λ (ls : List Literal). All (λ l. has ls l ≡ true) o.arrived) (sym seen) own.told;
        taken = All_from_In (λ (c : Cref). 0 < times_at c.address (only w).core.held) o.taken (λ c i.
            let t = f.part.held.times c.address in
            let lt = all_in (λ (x : Cref). 0 < times_at x.address (only v).core.held) o.taken c i own.taken in
            omega arith);
        ended_is = λ e. ap (λ (y : RingPart). y.ended) f.part.part ∙ own.ended_is e;
        refused_is = own.refused_is ∙ ap (λ (y : RingPart). option_map answer_noted y.refused) (sym f.part.part);
        faulty_is = λ e. ap (λ (y : RingPart). y.failed) f.part.part ∙ own.faulty_is e;
        making = ap (λ (y : RingPart). y.core.making) f.part.part ∙ own.making;
        listed = subst HasListed (sym f.part.part) own.listed;
      }

-- The class

pub class_small : (size glue k : ℕ) → class_of size glue ≡ Some k → k < 4
class_small size glue k e = by (size == 2) e
  where
    small : (b : Bool) → nat_le glue 2 ≡ b → (if b then glue else 3) < 4
    small true le = grind (arith, leb_tells, le)
    small false le = omega arith

    inner : (b : Bool) → (if b then Some (if nat_le glue 2 then glue else 3) else None) ≡ Some k → k < 4
    inner true f = subst (λ (o : Option ℕ). IfSome o (λ n. n < 4)) f (small (nat_le glue 2) refl)
    inner false f = absurd (none_some k f)

    by : (b : Bool) → (if b then Some 0 else if nat_le 3 size && (nat_le 1 glue && nat_le glue 6) then Some (if nat_le glue 2 then glue else 3) else None) ≡ Some k → k < 4
    by true f = subst (λ (o : Option ℕ). IfSome o (λ n. n < 4)) f (omega arith)
    by false f = inner (nat_le 3 size && (nat_le 1 glue && nat_le glue 6)) f

-- the class of what is held is that of its head
pub class_here : (v : View) (o : Own) (s : PortState) (a : ℕ) (x : Head) → port_of v o ≡ s → IsSome (held_at s a) → x.size ≡ length (clause_of a v).lits → x.glue ≡ glue_in (clause_of a v).number (only v).glues → class_at s a ≡ class_of x.size x.glue
class_here v o s a x is there size glue =
    let there' : IsSome (held_at (port_of v o) a) = subst (λ (y : PortState). IsSome (held_at y a)) (sym is) there in
    ap (λ (y : PortState). class_at y a) (sym is) ∙ ap (option_and_then (λ (h : Holding). class_of (length h.lits) h.glue)) (held_here v o a there').1 ∙ (λ i. class_of (sym size i) (sym glue i))

-- Room

placed_few : (r i : ℕ) (J : List Entry) → length (placed r i J) ≤ length J
placed_few r i [] = omega arith
placed_few r i (e ∷ J) = by (ring_of e == r) (placed_few r (i + 1) J)
  where
    by : (b : Bool) → length (placed r (i + 1) J) ≤ length J → length (if b then record { place = i; entry = e } ∷ placed r (i + 1) J else placed r (i + 1) J) ≤ suc (length J)
    by true le = omega arith
    by false le = omega arith

-- a ring has written no more than there are entries
pub wrote_few : (v : View) (s : Seen v) → v.parts ≡ only v ∷ [] → length (only v).core.wrote ≤ MAX_ENTRIES
wrote_few v s one =
    let p = part_of v s one in
    let sound = left_sound s.core.opening s.core s.left in
    let t = sound.entries in
    let wrote = ap (λ (q : Part). length q.wrote) p.part ∙ ap length (t.2 (only v).core.ring p.ring) in
    let few = placed_few (only v).core.ring (length s.core.opening.journal) t.0 in
    let all = ap length t.1 ∙ length-append s.core.opening.journal t.0 in
    let room = sound.log.room in
    omega arith

-- there are 16 rings at most
pub rings_few : (v : View) (s : Seen v) → v.opening.rings ≤ 16
rings_few v s =
    let few = (left_sound s.core.opening s.core s.left).opens.few_rings in
    let same = ap (λ (o : CoreOpening). o.rings) s.opening in
    omega arith

pub ring_below : (v : View) (s : Seen v) → v.parts ≡ only v ∷ [] → (only v).core.ring < v.opening.rings
ring_below v s one = let p = part_of v s one in let same = ap (λ (o : CoreOpening). o.rings) s.opening in let lt = p.ring in omega arith

last_cell : (last : Option Cref) (a : ℕ) → option_map (λ (c : Cref). c.address) last ≡ Some a → (c : Cref) × (last ≡ Some c) × (c.address ≡ a)
last_cell None a e = absurd (none_some a e)
last_cell (Some c) a e = (c, refl, subst (λ (o : Option ℕ). IfSome o (λ n. c.address ≡ n)) e refl)

-- the room that was taken for the offer
pub record HasOffer (v : View) (ws : List Waiting) (room : ℕ) (s : Spares) (a : ℕ) : Type 0 where
  pub shares : (only v).core.shared + length (others (only v).core.ring v.opening.rings) ≤ 15 * length (only v).core.wrote
  pub many : (only v).core.shared + length (others (only v).core.ring v.opening.rings) ≤ MAX_SHARES
  pub short : AreShort s.longest (only v).gave × (length (clause_of a v).lits ≤ s.longest)
  pub back : CanTakeBack (only v) ws room s (length (others (only v).core.ring v.opening.rings))
  pub places : AreNext (only v).core.ring (only v).core.puts v.opening s.places

pub has_offer : (v : View) (seen : Seen v) (ws : List Waiting) (room : ℕ) (s : Spares) (last : Option Cref) (a : ℕ) → v.parts ≡ only v ∷ [] → option_map (λ (c : Cref). c.address) last ≡ Some a → HasRoom (only v) v.opening.rings last ws room → CanOffer (only v) v.opening last s → HasOffer v ws room s a
has_offer v seen ws room s last a one is h c =
    let t = last_cell last a is in
    let fewer = others_fewer (only v).core.ring v.opening.rings (ring_below v seen one) in
    let pend : pending v.opening.rings last ≡ v.opening.rings - 1 = ap (pending v.opening.rings) t.1 in
    let few = h.few in
    let places = h.places in
    let enough = c.enough in
    let wrote = wrote_few v seen one in
    let next = subst (λ (l : Option Cref). IfSome l (λ x. (0 < times_at x.address (only v).core.held) × (length (clause_in x.address (only v).core.held).lits ≤ s.longest))) t.1 c.next in
    record {
      shares = omega arith;
      many = omega arith;
      short = (c.gave, subst (λ (b : ℕ). length (clause_of b v).lits ≤ s.longest) t.2 next.1);
      back = record { waits = h.waits; places = omega arith; buffers = c.buffers; enough = omega arith };
      places = c.places;
    }

-- For a ring with its pass

pub ring_offers : {B : Type 0} {t : Shared B} {p : Seat (Option B) View} {n : ℕ} {st : List Cref} {o : Own} (q : Seat (Option B) View) (class place a : ℕ) (tos : List ℕ) → IsRingPass t p n st o → IsPassOf t q → IsSamePass p q → PutFor p.me.0 q.me.0 class place a tos
    → IsRingPass t q n st (record o { last = None; home = home_of q })
ring_offers {B} {t} {p} {n} {st} {o} q class place a tos r pass same f =
    ring_changes q (only q.me.0) (record o { last = None; home = home_of q }) r pass same f.opening f.one (ap (λ (y : RingPart). y.core.ring) f.part.part) (ap (λ (y : RingPart). y.turn) f.part.part) refl
    (own_offers p.me.0 q.me.0 o (home_of q) class place a tos f r.own) (λ lone e. r.alone_is lone (ap (λ (y : RingPart). y.failed) (sym f.part.part) ∙ e))
    refl
    (numbers_keep (ap (λ (y : RingPart). y.core.seen) f.part.part) (ap (λ (y : RingPart). y.core.numbers) f.part.part) refl)

pub room_offers : (v w : View) (class place a : ℕ) (tos : List ℕ) (ws : List Waiting) (room : ℕ) (s : Spares) → PutFor v w class place a tos → (only v).core.shared + length tos ≤ 15 * length (only v).core.wrote → CanTakeBack (only w) ws room s 0 → HasRoom (only w) w.opening.rings None ws room
room_offers v w class place a tos ws room s f few back =
    let shared = ap (λ (y : RingPart). y.core.shared) f.part.part in
    let wrote = ap (λ (y : RingPart). length y.core.wrote) f.part.part in
    let places = back.places in
    record { waits = back.waits; places = omega arith; few = omega arith }

pub offer_offers : (v w : View) (class place a : ℕ) (tos : List ℕ) (ws : List Waiting) (room : ℕ) (s s' : Spares) (places : List ℕ) → class < 4 → place ≡ slice_index s.places class → tos ≡ others (only v).core.ring v.opening.rings → AreNext (only v).core.ring (only v).core.puts v.opening s.places
    → places ≡ slice_set s.places class ((place + 1) % v.opening.depth) → PutFor v w class place a tos → AreShort s.longest (only v).gave × (length (clause_of a v).lits ≤ s.longest) → s'.longest ≡ s.longest → CanTakeBack (only w) ws room s' 0
    → CanOffer (only w) w.opening None (record s' { places = places })
offer_offers v w class place a tos ws room s s' places few place_is all next moved f short same back = record {
  buffers = back.buffers;
  enough = omega arith;
  gave = subst (λ (n : ℕ). AreShort n (only w).gave) (sym same) (f.part.gave s.longest short.1 short.0);
  next = tt;
  places =
      let ring : (only w).core.ring ≡ (only v).core.ring = ap (λ (y : RingPart). y.core.ring) f.part.part in
      let puts : (only w).core.puts ≡ (only v).core.puts ++ puts_for class place a tos = ap (λ (y : RingPart). y.core.puts) f.part.part in
      let now = next_offered (only v).core.ring (only v).core.puts v.opening s.places class a few next in
      subst (λ (y : (ℕ × List PutNote) × (CoreOpening × List ℕ)). AreNext y.0.0 y.0.1 y.1.0 y.1.1)
      (λ i. ((sym ring i, (ap (λ (x : ℕ × List ℕ). (only v).core.puts ++ puts_for class x.0 a x.1) (λ j. (sym place_is j, sym all j)) ∙ sym puts) i), (sym f.opening i, (ap (λ (n : ℕ). slice_set s.places class ((n + 1) % v.opening.depth)) (sym place_is) ∙ sym moved) i))) now;
}

pub port_offers : {B : Type 0} {t : Shared B} {p : Seat (Option B) View} {n : ℕ} {st : List Cref} {o : Own} (q : Seat (Option B) View) (s : PortState) (class place a : ℕ) (k : Option ℕ) (tos : List ℕ) → k ≡ Some class → tos ≡ others (only p.me.0).core.ring p.me.0.opening.rings → ((r : ℕ) → r < p.me.0.opening.rings → r ≢ (only p.me.0).core.ring → place ≡ next_place (port_of p.me.0 o) r class) → IsRingPass t p n st o → IsPassOf t q → port_of p.me.0 o ≡ s → PutFor p.me.0 q.me.0 class place a tos
    → OfferedAs s (port_of q.me.0 (record o { last = None; home = home_of q })) k a
port_offers {B} {t} {p} {n} {st} {o} q s class place a k tos is all next r pass view f =
    subst (λ (x : Option ℕ). OfferedAs s (port_of q.me.0 (record o { last = None; home = home_of q })) x a) (sym is)
    (subst (λ (y : PortState). Offered y (port_of q.me.0 (record o { last = None; home = home_of q })) class a) view
    (offered_here p.me.0 q.me.0 o (home_of q) class place a tos f (name_stays q r pass) all next))

-- the other rings, by the table's layout
pub rings_same : (v : View) (seen : Seen v) (ring : ℕ) (l : Layout) → v.parts ≡ only v ∷ [] → ring ≡ (only v).core.ring → v.layout ≡ l → others ring l.rings ≡ others (only v).core.ring v.opening.rings
rings_same v seen ring l one mine lay = λ i. others (mine i) ((ap (λ (k : Layout). k.rings) (sym lay) ∙ (rings_here v seen one).1) i)

-- and the slots
pub depth_same : (v : View) (seen : Seen v) (l : Layout) → v.layout ≡ l → v.opening.depth ≡ l.depth
depth_same v seen l lay = ap (λ (o : CoreOpening). o.depth) seen.opening ∙ sym seen.standing.depth ∙ ap (λ (k : Layout). k.depth) lay

pub some_not_none : (x : Option ℕ) → x ≡ None → IsSome x → ⊥
some_not_none None e h = false≢true h
some_not_none (Some k) e h = none_some k (sym e)
