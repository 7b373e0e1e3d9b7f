-- If a ring looks for clauses of other rings, from import to import.
use Rattle.std.proofs.Common.{◌≡◌, ◌∙◌, ℕ, ◌+◌, ◌-◌, ◌≤◌, ◌<◌, ◌==◌, not, Bool, true, false, List, [], ◌∷◌, ◌++◌, filter, cond, sym, subst, ap, arith, refl, append-nil, append_assoc, eq-eqb, ne_eqb, inl, inr}
use Rattle.std.specs.Prelude.{◌≢◌, ◌⊎◌, suc, zero, if◌then◌else◌}
use Rattle.std.specs.List.{range_with_len, flat_map}
use Rattle.std.proofs.lemmas.List.Elements.{filter-append}
use Rattle.std.proofs.lemmas.List.FromFn.{map-range_with_len_more}
use Rattle.std.proofs.lemmas.Grind.{flat_map-append}
use Rattle.sat_words.specs.declared.shared.Stop.{Stop}
use Rattle.ring_port.specs.PortState.{PortState, Slot, one_more}
use Rattle.ring_port.proofs.Beginnings.{range_more}
use Rattle.ring_run.specs.Ended.{places_of, slots_of, import_slots, rounds, LookedAlong, HasImported, ImportsBy, IsTidy, IsHalted}
use Rattle.ring_run.specs.Searching.{OffersNothing}
use Rattle.ring_run.specs.Course.{imports_of, HasImportedBy, HasTidied}
use Rattle.ring_run.specs.declared.course.Next.{Next}
use Rattle.ring_run.specs.declared.course.Next.TheVariants.{Go, Finish}
use Rattle.restart_plan.specs.Plan.{Restarting}
use Rattle.ring_run.specs.declared.ring.Ring.{Ring}
use Rattle.ring_run.specs.declared.job.End.{End}
use Rattle.ring_run.specs.declared.job.End.TheVariants.{Sat, Refuted, Spent, Stopped, NoHole, ProofFault, Memory}
use Rattle.ring_run.proofs.Polling.{others_below, SamePolls, same_nothing}

-- Fronts

-- a list that stands first in the other
abbrev pub IsFront : List Slot → List Slot → Type 0
IsFront xs ys = (rest : List Slot) × (xs ++ rest ≡ ys)

pub front_then : (xs ys zs : List Slot) → IsFront xs ys → IsFront ys zs → IsFront xs zs
front_then xs ys zs p q = (p.0 ++ q.0, sym (append_assoc xs p.0 q.0) ∙ ap (λ (ws : List Slot). ws ++ q.0) p.1 ∙ q.1)

pub front_more : (ws xs ys : List Slot) → IsFront xs ys → IsFront (ws ++ xs) (ws ++ ys)
front_more ws xs ys p = (p.0, append_assoc ws xs p.0 ∙ ap (λ (zs : List Slot). ws ++ zs) p.1)

pub front_first : (xs ys : List Slot) → IsFront xs (xs ++ ys)
front_first xs ys = (ys, refl)

pub front_as : (xs ys zs : List Slot) → ys ≡ zs → IsFront xs ys → IsFront xs zs
front_as xs ys zs is p = (p.0, p.1 ∙ is)

pub along_front : (s u : PortState) (xs slots : List Slot) → u.polls ≡ s.polls ++ xs → IsFront xs slots → LookedAlong s u slots
along_front s u xs slots is front = record { looked = xs; left = front.0; polls = is; parts = front.1 }

pub along_none : (s u : PortState) (slots : List Slot) → u.polls ≡ s.polls → LookedAlong s u slots
along_none s u slots is = record { looked = []; left = slots; polls = is ∙ sym (append-nil s.polls); parts = refl }

pub along_all : (s u : PortState) (slots : List Slot) → u.polls ≡ s.polls ++ slots → LookedAlong s u slots
along_all s u slots is = record { looked = slots; left = []; polls = is; parts = append-nil slots }

-- after some slots, into others
pub along_then : (s m u : PortState) (done xs slots : List Slot) → m.polls ≡ s.polls ++ done → LookedAlong m u xs → IsFront (done ++ xs) slots → LookedAlong s u slots
along_then s m u done xs slots is d front =
    along_front s u (done ++ d.looked) slots (d.polls ∙ ap (λ (ws : List Slot). ws ++ d.looked) is ∙ append_assoc s.polls done d.looked)
    (front_then (done ++ d.looked) (done ++ xs) slots (front_more done d.looked xs (d.left, d.parts)) front)

pub looked_then : (s m u : PortState) (done xs slots : List Slot) → m.polls ≡ s.polls ++ done → u.polls ≡ m.polls ++ xs → slots ≡ done ++ xs → u.polls ≡ s.polls ++ slots
looked_then s m u done xs slots is after parts =
    after ∙ ap (λ (ws : List Slot). ws ++ xs) is ∙ append_assoc s.polls done xs ∙ ap (λ (ws : List Slot). s.polls ++ ws) (sym parts)

-- a list that grows from number to number begins with what it was at each lesser one
ahead : (below : ℕ → List Slot) (next : ℕ → List Slot) → ((n : ℕ) → below (n + 1) ≡ below n ++ next n) → (n k : ℕ) → IsFront (below n) (below (n + k))
ahead below next more n zero = ([], append-nil (below n) ∙ ap below (let e : n ≡ n + zero = omega arith in e))
ahead below next more n (suc k) =
    front_then (below n) (below (n + k)) (below (n + suc k)) (ahead below next more n k)
    (next (n + k), sym (more (n + k)) ∙ ap below (let e : (n + k) + 1 ≡ n + suc k = omega arith in e))

front_below : (below : ℕ → List Slot) (next : ℕ → List Slot) → ((n : ℕ) → below (n + 1) ≡ below n ++ next n) → (n all : ℕ) → n ≤ all → IsFront (below n) (below all)
front_below below next more n all le =
    front_as (below n) (below (n + (all - n))) (below all) (ap below (let e : n + (all - n) ≡ all = omega (arith, le) in e)) (ahead below next more n (all - n))

-- Place by place

abbrev pub slot : (ring class place : ℕ) → Slot
slot ring class place = record { ring = ring; class = class; place = place }

-- the slots of the places below a number
abbrev pub places_below : (ring class n : ℕ) → List Slot
places_below ring class n = places_of n ring class

pub place_more : (ring class n : ℕ) → places_below ring class (n + 1) ≡ places_below ring class n ++ slot ring class n ∷ []
place_more ring class n = map-range_with_len_more (slot ring class) 0 n n (omega arith)

pub places_front : (depth ring class n : ℕ) → n ≤ depth → IsFront (places_below ring class n) (places_of depth ring class)
places_front depth ring class n le = front_below (places_below ring class) (λ p. slot ring class p ∷ []) (place_more ring class) n depth le

-- the slot at a place stands next
pub place_front : (depth ring class n : ℕ) → n < depth → IsFront (places_below ring class n ++ slot ring class n ∷ []) (places_of depth ring class)
place_front depth ring class n lt = subst (λ (xs : List Slot). IsFront xs (places_of depth ring class)) (place_more ring class n) (places_front depth ring class (n + 1) (omega (arith, lt)))

pub places_all : (depth ring class n : ℕ) → n ≡ depth → places_below ring class n ≡ places_of depth ring class
places_all depth ring class n is = ap (places_below ring class) is

-- Class by class

-- the slots of the classes below a number
abbrev pub classes_below : (depth ring n : ℕ) → List Slot
classes_below depth ring n = flat_map (places_of depth ring) (range_with_len 0 n)

pub class_more : (depth ring n : ℕ) → classes_below depth ring (n + 1) ≡ classes_below depth ring n ++ places_of depth ring n
class_more depth ring n =
    ap (flat_map (places_of depth ring)) (sym (range_more n)) ∙ flat_map-append (places_of depth ring) (range_with_len 0 n) (n ∷ [])
    ∙ ap (λ (xs : List Slot). classes_below depth ring n ++ xs) (append-nil (places_of depth ring n))

pub classes_front : (depth ring n : ℕ) → n ≤ 4 → IsFront (classes_below depth ring n) (slots_of depth ring)
classes_front depth ring n le = front_below (classes_below depth ring) (places_of depth ring) (class_more depth ring) n 4 le

-- the slots of a class stand next
pub class_front : (depth ring n : ℕ) → n < 4 → IsFront (classes_below depth ring n ++ places_of depth ring n) (slots_of depth ring)
class_front depth ring n lt = subst (λ (xs : List Slot). IsFront xs (slots_of depth ring)) (class_more depth ring n) (classes_front depth ring (n + 1) (omega (arith, lt)))

pub classes_all : (depth ring n : ℕ) → n ≡ 4 → classes_below depth ring n ≡ slots_of depth ring
classes_all depth ring n is = ap (classes_below depth ring) is

-- Ring by ring

-- the slots of the other rings below a number
abbrev pub round_below : (depth ring n : ℕ) → List Slot
round_below depth ring n = flat_map (slots_of depth) (others_below ring n)

-- the slots of a ring, unless it is the ring itself
abbrev slots_if_other : (depth ring n : ℕ) → List Slot
slots_if_other depth ring n = flat_map (slots_of depth) (cond (not (n == ring)) (n ∷ []) [])

round_more : (depth ring n : ℕ) → round_below depth ring (n + 1) ≡ round_below depth ring n ++ slots_if_other depth ring n
round_more depth ring n =
    let p : ℕ → Bool = λ r. not (r == ring) in
    ap (λ (ns : List ℕ). flat_map (slots_of depth) (filter p ns)) (sym (range_more n)) ∙ ap (flat_map (slots_of depth)) (filter-append p (range_with_len 0 n) (n ∷ []))
    ∙ flat_map-append (slots_of depth) (filter p (range_with_len 0 n)) (filter p (n ∷ []))

pub round_other : (depth ring n : ℕ) → n ≢ ring → round_below depth ring (n + 1) ≡ round_below depth ring n ++ slots_of depth n
round_other depth ring n other =
    round_more depth ring n ∙ ap (λ (b : Bool). round_below depth ring n ++ flat_map (slots_of depth) (cond (not b) (n ∷ []) [])) (ne_eqb n ring other)
    ∙ ap (λ (xs : List Slot). round_below depth ring n ++ xs) (append-nil (slots_of depth n))

pub round_own : (depth ring n : ℕ) → n ≡ ring → round_below depth ring (n + 1) ≡ round_below depth ring n
round_own depth ring n is =
    round_more depth ring n ∙ ap (λ (b : Bool). round_below depth ring n ++ flat_map (slots_of depth) (cond (not b) (n ∷ []) [])) (eq-eqb n ring is) ∙ append-nil (round_below depth ring n)

pub round_front : (depth ring n rings : ℕ) → n ≤ rings → IsFront (round_below depth ring n) (round_below depth ring rings)
round_front depth ring n rings le = front_below (round_below depth ring) (slots_if_other depth ring) (round_more depth ring) n rings le

-- the slots of another ring stand next
pub ring_front : (depth ring n rings : ℕ) → n ≢ ring → n < rings → IsFront (round_below depth ring n ++ slots_of depth n) (round_below depth ring rings)
ring_front depth ring n rings other lt =
    subst (λ (xs : List Slot). IsFront xs (round_below depth ring rings)) (round_other depth ring n other) (round_front depth ring (n + 1) rings (omega (arith, lt)))

-- Import by import

pub slots_same : (s u : PortState) → u.ring ≡ s.ring → u.rings ≡ s.rings → u.depth ≡ s.depth → import_slots u ≡ import_slots s
slots_same s u ring rings depth =
    ap (λ (r : ℕ). round_below u.depth r u.rings) ring ∙ ap (round_below u.depth s.ring) rings ∙ ap (λ (d : ℕ). round_below d s.ring s.rings) depth

rounds_next : (m n : ℕ) (xs : List Slot) → m ≡ suc n → rounds m xs ≡ rounds n xs ++ xs
unfolding rounds
rounds_next m n xs is = ap (λ (k : ℕ). rounds k xs) is

rounds_more : (n : ℕ) (xs : List Slot) → rounds (n + 1) xs ≡ rounds n xs ++ xs
rounds_more n xs = rounds_next (n + 1) n xs (omega arith)

rounds_none : (xs : List Slot) → rounds 0 xs ≡ []
unfolding rounds
rounds_none xs = refl

rounds_ahead : (n k : ℕ) (xs : List Slot) → IsFront (rounds n xs) (rounds (n + k) xs)
rounds_ahead n zero xs = ([], append-nil (rounds n xs) ∙ ap (λ (m : ℕ). rounds m xs) (let e : n ≡ n + zero = omega arith in e))
rounds_ahead n (suc k) xs =
    front_then (rounds n xs) (rounds (n + k) xs) (rounds (n + suc k) xs) (rounds_ahead n k xs)
    (xs, sym (rounds_more (n + k) xs) ∙ ap (λ (m : ℕ). rounds m xs) (let e : (n + k) + 1 ≡ n + suc k = omega arith in e))

rounds_front : (n m : ℕ) (xs : List Slot) → n ≤ m → IsFront (rounds n xs) (rounds m xs)
rounds_front n m xs le = front_as (rounds n xs) (rounds (n + (m - n)) xs) (rounds m xs) (ap (λ (k : ℕ). rounds k xs) (let e : n + (m - n) ≡ m = omega (arith, le) in e)) (rounds_ahead n (m - n) xs)

-- before anything was imported
pub imports_none : (s u : PortState) → u ≡ s → HasImported s u 0
imports_none s u is = subst (λ (x : PortState). HasImported s x 0) (sym is) (record { polls = sym (append-nil s.polls) ∙ ap (λ (xs : List Slot). s.polls ++ xs) (sym (rounds_none (import_slots s))); caught_up = omega arith })

-- a ring that has imported nothing since
pub imports_as : (start s u : PortState) (n : ℕ) → SamePolls s u → HasImported start s n → HasImported start u n
imports_as start s u n p h = record {
  polls = p.polls ∙ h.polls ∙ ap (λ (xs : List Slot). start.polls ++ rounds n xs) (sym (slots_same s u p.ring p.rings p.depth));
  caught_up = omega (arith, h.caught_up, p.caught_up);
}

pub imports_same : (start s u : PortState) (n : ℕ) → OffersNothing s u → HasImported start s n → HasImported start u n
imports_same start s u n p h = imports_as start s u n (same_nothing s u p) h

pub imports_count : (start s : PortState) (n m : ℕ) → n ≡ m → HasImported start s n → HasImported start s m
imports_count start s n m is h = subst (HasImported start s) is h

-- one import more
pub imports_more : (start s u : PortState) (n : ℕ) → u.ring ≡ s.ring → u.rings ≡ s.rings → u.depth ≡ s.depth → HasImported start s n → u.polls ≡ s.polls ++ import_slots s → u.caught_up ≡ one_more s.caught_up → HasImported start u (n + 1)
imports_more start s u n ring rings depth h looked caught_up = record {
  polls = looked_then start s u (rounds n (import_slots s)) (import_slots s) (rounds (n + 1) (import_slots s)) h.polls looked (rounds_more n (import_slots s))
      ∙ ap (λ (xs : List Slot). start.polls ++ rounds (n + 1) xs) (sym (slots_same s u ring rings depth));
  caught_up = omega (arith, h.caught_up, caught_up);
}

-- or a part of it
pub imports_part : (start s u : PortState) (n : ℕ) → u.ring ≡ s.ring → u.rings ≡ s.rings → u.depth ≡ s.depth → HasImported start s n → LookedAlong s u (import_slots s) → LookedAlong start u (rounds (n + 1) (import_slots u))
imports_part start s u n ring rings depth h along =
    let S = import_slots s in
    subst (λ (xs : List Slot). LookedAlong start u (rounds (n + 1) xs)) (sym (slots_same s u ring rings depth))
    (along_then start s u (rounds n S) S (rounds (n + 1) S) h.polls along ([], append-nil (rounds n S ++ S) ∙ sym (rounds_more n S)))

pub imports_along : (start s : PortState) (n m : ℕ) → n ≤ m → HasImported start s n → LookedAlong start s (rounds m (import_slots s))
imports_along start s n m le h = along_front start s (rounds n (import_slots s)) (rounds m (import_slots s)) h.polls (rounds_front n m (import_slots s) le)

imports_bound : (made : ℕ) (b : Bool) → (if b then made else made + 1) ≤ made + 1
imports_bound made true = omega arith
imports_bound made false = omega arith

-- At the end

pub imports_halted : (start s : PortState) (made : ℕ) (end : End) → IsHalted end → LookedAlong start s (rounds (1 + made) (import_slots s)) → ImportsBy start s made end
imports_halted start s made (Sat a) h p = absurd h
imports_halted start s made Refuted h p = p
imports_halted start s made Spent h p = absurd h
imports_halted start s made (Stopped x) h p = p
imports_halted start s made (NoHole lack) h p = p
imports_halted start s made ProofFault h p = p
imports_halted start s made Memory h p = p

-- no more than was to be imported
pub imports_over : (start s : PortState) (ring : Ring) → HasImported start s (imports_of ring) → LookedAlong start s (rounds (1 + ring.restarts.made) (import_slots s))
imports_over start s ring h = imports_along start s (imports_of ring) (1 + ring.restarts.made) (let b = imports_bound ring.restarts.made ring.import_due in omega (arith, b)) h

-- and as much if no import is yet to be
pub imports_whole : (start s : PortState) (ring : Ring) → ring.import_due ≡ false → HasImported start s (imports_of ring) → HasImported start s (1 + ring.restarts.made)
imports_whole start s ring settled h =
    imports_count start s (imports_of ring) (1 + ring.restarts.made) (ap (λ (b : Bool). if b then ring.restarts.made else ring.restarts.made + 1) settled ∙ (let e : ring.restarts.made + 1 ≡ 1 + ring.restarts.made = omega arith in e)) h

-- each end allows what is as much
pub imports_end : (start s : PortState) (made : ℕ) (end : End) → HasImported start s (1 + made) → ImportsBy start s made end
imports_end start s made end h = by end
  where
    along : LookedAlong start s (rounds (1 + made) (import_slots s))
    along = imports_along start s (1 + made) (1 + made) (omega arith) h

    by : (x : End) → ImportsBy start s made x
    by (Sat a) = h
    by Refuted = along
    by Spent = h
    by (Stopped x) = along
    by (NoHole lack) = along
    by ProofFault = along
    by Memory = along

-- a ring that counts as many restarts, and has as much to import
pub importing_same : (start s u : PortState) (old new : Ring) → OffersNothing s u → new.restarts ≡ old.restarts → new.import_due ≡ old.import_due → HasImported start s (imports_of old) → HasImported start u (imports_of new)
importing_same start s u old new nothing restarts import_due h = imports_count start u (imports_of old) (imports_of new) (sym is) (imports_same start s u (imports_of old) nothing h)
  where
    is : imports_of new ≡ imports_of old
    is =
        ap (λ (b : Bool). if b then new.restarts.made else new.restarts.made + 1) import_due
        ∙ ap (λ (r : Restarting). if old.import_due then r.made else r.made + 1) restarts

-- if no import is yet to be, and the search goes on or ends
pub imported_settled : (start s : PortState) (ring : Ring) (course : Next) → ring.import_due ≡ false → HasImported start s (imports_of ring) → HasImportedBy start s ring course
imported_settled start s ring Go settled h = h
imported_settled start s ring (Finish end) settled h = imports_end start s ring.restarts.made end (imports_whole start s ring settled h)

-- before the first import
pub imports_none_yet : (s u : PortState) → u ≡ s → LookedAlong s u (rounds 1 (import_slots u))
imports_none_yet s u is = along_none s u (rounds 1 (import_slots u)) (ap (λ (x : PortState). x.polls) is)

-- if the stop of an end is set
along_stopped : (start s u : PortState) (n : ℕ) → OffersNothing s u → LookedAlong start s (rounds n (import_slots s)) → LookedAlong start u (rounds n (import_slots u))
along_stopped start s u n p d = record {
  looked = d.looked;
  left = d.left;
  polls = p.polls ∙ d.polls;
  parts = d.parts ∙ ap (λ (xs : List Slot). rounds n xs) (sym (slots_same s u p.ring p.rings p.depth));
}

pub imports_stopped : (start s u : PortState) (made : ℕ) (end result : End) → OffersNothing s u → (result ≡ end) ⊎ ((x : Stop) × (result ≡ Stopped x)) → ImportsBy start s made end → ImportsBy start u made result
imports_stopped start s u made end result nothing (inl is) p = subst (ImportsBy start u made) (sym is) (by end p)
  where
    by : (x : End) → ImportsBy start s made x → ImportsBy start u made x
    by (Sat a) q = imports_same start s u (1 + made) nothing q
    by Refuted q = along_stopped start s u (1 + made) nothing q
    by Spent q = imports_same start s u (1 + made) nothing q
    by (Stopped x) q = along_stopped start s u (1 + made) nothing q
    by (NoHole lack) q = along_stopped start s u (1 + made) nothing q
    by ProofFault q = along_stopped start s u (1 + made) nothing q
    by Memory q = along_stopped start s u (1 + made) nothing q
imports_stopped start s u made end result nothing (inr (x, is)) p = subst (ImportsBy start u made) (sym is) (along_stopped start s u (1 + made) nothing (by end p))
  where
    along : HasImported start s (1 + made) → LookedAlong start s (rounds (1 + made) (import_slots s))
    along h = imports_along start s (1 + made) (1 + made) (omega arith) h

    by : (y : End) → ImportsBy start s made y → LookedAlong start s (rounds (1 + made) (import_slots s))
    by (Sat a) q = along q
    by Refuted q = q
    by Spent q = along q
    by (Stopped z) q = q
    by (NoHole lack) q = q
    by ProofFault q = q
    by Memory q = q

-- Clauses that wait

pub tidy_end : (s : PortState) (end : End) → s.waiting ≡ [] → IsTidy s end
tidy_end s (Sat a) none = none
tidy_end s Refuted none = tt
tidy_end s Spent none = tt
tidy_end s (Stopped x) none = tt
tidy_end s (NoHole lack) none = tt
tidy_end s ProofFault none = tt
tidy_end s Memory none = tt

pub tidy_halted : (s : PortState) (end : End) → IsHalted end → IsTidy s end
tidy_halted s (Sat a) h = absurd h
tidy_halted s Refuted h = tt
tidy_halted s Spent h = tt
tidy_halted s (Stopped x) h = tt
tidy_halted s (NoHole lack) h = tt
tidy_halted s ProofFault h = tt
tidy_halted s Memory h = tt

pub tidy_stopped : (s u : PortState) (end : End) → u.waiting ≡ s.waiting → IsTidy s end → IsTidy u end
tidy_stopped s u (Sat a) same p = same ∙ p
tidy_stopped s u Refuted same p = tt
tidy_stopped s u Spent same p = tt
tidy_stopped s u (Stopped x) same p = tt
tidy_stopped s u (NoHole lack) same p = tt
tidy_stopped s u ProofFault same p = tt
tidy_stopped s u Memory same p = tt

pub tidied_any : (s : PortState) (course : Next) → s.waiting ≡ [] → HasTidied s course
tidied_any s Go none = none
tidied_any s (Finish end) none = tidy_end s end none
