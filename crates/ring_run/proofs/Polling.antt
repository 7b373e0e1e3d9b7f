-- How often a ring has polled, from import to import.
use Rattle.std.proofs.Common.{◌≡◌, ◌∙◌, ℕ, ◌+◌, ◌-◌, ◌*◌, ◌^◌, ◌≤◌, ◌==◌, min, not, Bool, true, false, List, [], ◌∷◌, length, filter, cond, sym, subst, ap, arith, refl, length-append, eq-eqb, ne_eqb, Some, None, Ok, ◌<◌, inl, inr}
use Rattle.std.specs.Prelude.{◌≢◌, ◌⊎◌, suc, zero, if◌then◌else◌}
use Rattle.sat_words.specs.declared.shared.Stop.{Stop}
use Rattle.std.specs.List.{range_with_len}
use Rattle.std.proofs.lemmas.List.Elements.{filter-append}
use Rattle.std.proofs.Math.Nat.{mul-le-mul_left}
use Rattle.ring_port.specs.PortState.{PortState}
use Rattle.ring_port.specs.Exchange.{other_rings}
use Rattle.ring_port.proofs.Beginnings.{range_more}
use Rattle.ring_run.specs.Ended.{polls_of, HasPolled, IsHalted}
use Rattle.ring_run.specs.Searching.{OffersNothing}
use Rattle.ring_run.specs.Course.{IsPolling, imports_of}
use Rattle.ring_run.specs.declared.ring.Ring.{Ring}
use Rattle.ring_run.specs.declared.ring.Place.{Place}
use Rattle.ring_run.specs.declared.job.End.{End}
use Rattle.ring_run.specs.declared.job.End.TheVariants.{Sat, Refuted, Spent, Stopped, NoHole, ProofFault, Memory}
use Rattle.ring_run.proofs.Offering.{others_same, OnlyLent}
use Rattle.restart_plan.specs.Plan.{Restarting, asked, restarted, is_due}
use Rattle.sat_words.specs.Literal.{Literal}
use Rattle.sat_words.specs.declared.shared.Cref.{Cref}
use Rattle.ring_port.specs.Port.{Learned}
use Rattle.std.specs.declared.option.Option.{Option}

-- the other rings below a number
abbrev pub others_below : (ring n : ℕ) → List ℕ
others_below ring n = filter (λ r. not (r == ring)) (range_with_len 0 n)

below_more : (ring n : ℕ) → length (others_below ring (n + 1)) ≡ length (others_below ring n) + length (cond (not (n == ring)) (n ∷ []) [])
below_more ring n =
    let p : ℕ → Bool = λ r. not (r == ring) in
    ap (λ (ns : List ℕ). length (filter p ns)) (sym (range_more n)) ∙ ap length (filter-append p (range_with_len 0 n) (n ∷ [])) ∙ length-append (filter p (range_with_len 0 n)) (filter p (n ∷ []))

pub below_other : (ring n : ℕ) → n ≢ ring → length (others_below ring (n + 1)) ≡ length (others_below ring n) + 1
below_other ring n other = below_more ring n ∙ ap (λ (b : Bool). length (others_below ring n) + length (cond (not b) (n ∷ []) [])) (ne_eqb n ring other)

pub below_own : (ring n : ℕ) → n ≡ ring → length (others_below ring (n + 1)) ≡ length (others_below ring n)
below_own ring n is = below_more ring n ∙ ap (λ (b : Bool). length (others_below ring n) + length (cond (not b) (n ∷ []) [])) (eq-eqb n ring is) ∙ (let none : length (others_below ring n) + 0 ≡ length (others_below ring n) = omega arith in none)

below_grows : (ring n : ℕ) → length (others_below ring n) ≤ length (others_below ring (n + 1))
below_grows ring n = let more = below_more ring n in omega (arith, more)

-- below a number there are no more than below a greater one
below_most : (ring n k : ℕ) → length (others_below ring n) ≤ length (others_below ring (n + k))
below_most ring n zero = subst (λ (m : ℕ). length (others_below ring n) ≤ length (others_below ring m)) (let e : n ≡ n + zero = omega arith in e) (omega arith)
below_most ring n (suc k) =
    let before = below_most ring n k in
    let last = below_grows ring (n + k) in
    subst (λ (m : ℕ). length (others_below ring n) ≤ length (others_below ring m)) (let e : (n + k) + 1 ≡ n + suc k = omega arith in e) (omega (arith, before, last))

pub below_rings : (ring n rings : ℕ) → n ≤ rings → length (others_below ring n) ≤ length (others_below ring rings)
below_rings ring n rings le = subst (λ (m : ℕ). length (others_below ring n) ≤ length (others_below ring m)) (let e : n + (rings - n) ≡ rings = omega arith in e) (below_most ring n (rings - n))

-- a number once more
pub one_more_time : (n k m : ℕ) → m ≡ k + 1 → n * m ≡ n * k + n
one_more_time n k m is = ap (λ (j : ℕ). n * j) is ∙ (let e : n * (k + 1) ≡ n * k + n = omega arith in e)

-- the ring's place is that of the port
abbrev pub place_at : ℕ → ℕ → Place
place_at ring rings = record { ring = ring; rings = rings }

pub place_moved : (p : Place) (s u : PortState) → u.ring ≡ s.ring → u.rings ≡ s.rings → p ≡ record { ring = s.ring; rings = s.rings } → p ≡ record { ring = u.ring; rings = u.rings }
place_moved p s u ring rings is = is ∙ ap (λ (n : ℕ). place_at n s.rings) (sym ring) ∙ ap (place_at u.ring) (sym rings)

-- as many polls are due at a port of the same ring among as many rings, with as many slots
pub polls_moved : (s u : PortState) (k : ℕ) → u.ring ≡ s.ring → u.rings ≡ s.rings → u.depth ≡ s.depth → polls_of u k ≡ polls_of s k
polls_moved s u k ring rings depth =
    ap (λ (n : ℕ). min (4 * u.depth * (n * k)) (2 ^ 64 - 1)) (others_same s u ring rings)
    ∙ ap (λ (d : ℕ). min (4 * d * (length (other_rings s) * k)) (2 ^ 64 - 1)) depth

-- one import more
spread : (m n k : ℕ) → m * (n * (k + 1)) ≡ m * (n * k) + m * n
spread m n k = omega arith

pub imported : (s u : PortState) (k : ℕ) → u.ring ≡ s.ring → u.rings ≡ s.rings → u.depth ≡ s.depth → s.polled ≡ polls_of s k → u.polled ≡ min (s.polled + 4 * s.depth * length (other_rings s)) (2 ^ 64 - 1) → u.polled ≡ polls_of u (k + 1)
imported s u k ring rings depth before after =
    let more = spread (4 * s.depth) (length (other_rings s)) k in
    let here : u.polled ≡ polls_of s (k + 1) = omega (arith, before, after, more) in
    here ∙ sym (polls_moved s u (k + 1) ring rings depth)

pub imported_most : (s u : PortState) (k : ℕ) → u.ring ≡ s.ring → u.rings ≡ s.rings → u.depth ≡ s.depth → s.polled ≡ polls_of s k → u.polled ≤ min (s.polled + 4 * s.depth * length (other_rings s)) (2 ^ 64 - 1) → u.polled ≤ polls_of u (k + 1)
imported_most s u k ring rings depth before after =
    let more = spread (4 * s.depth) (length (other_rings s)) k in
    let here : u.polled ≤ polls_of s (k + 1) = omega (arith, before, after, more) in
    subst (λ (m : ℕ). u.polled ≤ m) (sym (polls_moved s u (k + 1) ring rings depth)) here

-- nothing was polled by this ring of these rings
pub record SamePolls (s u : PortState) : Type 0 where
  pub polled : u.polled ≡ s.polled
  pub polls : u.polls ≡ s.polls
  pub caught_up : min s.caught_up (2 ^ 64 - 1) ≤ u.caught_up
  pub ring : u.ring ≡ s.ring
  pub rings : u.rings ≡ s.rings
  pub depth : u.depth ≡ s.depth

pub same_nothing : (s u : PortState) → OffersNothing s u → SamePolls s u
same_nothing s u p = record { polled = p.polled; polls = p.polls; caught_up = p.caught_up; ring = p.ring; rings = p.rings; depth = p.depth }

pub same_then : (s u w : PortState) → SamePolls s u → SamePolls u w → SamePolls s w
same_then s u w p q = record { polled = q.polled ∙ p.polled; polls = q.polls ∙ p.polls; caught_up = omega (arith, p.caught_up, q.caught_up); ring = q.ring ∙ p.ring; rings = q.rings ∙ p.rings; depth = q.depth ∙ p.depth }

pub same_learned : (s u : PortState) (lits : List Literal) (glue : ℕ) (address : Option Cref) → Learned s u lits glue (Ok address) → SamePolls s u
same_learned s u lits glue (Some c) w = record { polled = ap (λ (x : PortState). x.polled) w.state; polls = ap (λ (x : PortState). x.polls) w.state; caught_up = (let same = ap (λ (x : PortState). x.caught_up) w.state in omega (arith, same)); ring = ap (λ (x : PortState). x.ring) w.state; rings = ap (λ (x : PortState). x.rings) w.state; depth = ap (λ (x : PortState). x.depth) w.state }
same_learned s u lits glue None w = record { polled = ap (λ (x : PortState). x.polled) w.wrote.state; polls = ap (λ (x : PortState). x.polls) w.wrote.state; caught_up = omega (arith, w.wrote.looked); ring = ap (λ (x : PortState). x.ring) w.wrote.state; rings = ap (λ (x : PortState). x.rings) w.wrote.state; depth = ap (λ (x : PortState). x.depth) w.wrote.state }

pub same_lent : (s u : PortState) → OnlyLent s u → SamePolls s u
same_lent s u p = record { polled = ap (λ (x : PortState). x.polled) p.state; polls = ap (λ (x : PortState). x.polls) p.state; caught_up = (let same = ap (λ (x : PortState). x.caught_up) p.state in omega (arith, same)); ring = ap (λ (x : PortState). x.ring) p.state; rings = ap (λ (x : PortState). x.rings) p.state; depth = ap (λ (x : PortState). x.depth) p.state }

-- the counts are those of a port that has not polled since
pub polls_as : (s u : PortState) (k : ℕ) → SamePolls s u → s.polled ≡ polls_of s k → u.polled ≡ polls_of u k
polls_as s u k p is = p.polled ∙ is ∙ sym (polls_moved s u k p.ring p.rings p.depth)

pub polls_same : (s u : PortState) (k : ℕ) → OffersNothing s u → s.polled ≡ polls_of s k → u.polled ≡ polls_of u k
polls_same s u k p is = polls_as s u k (same_nothing s u p) is

pub at_most_polls : (s : PortState) (k m : ℕ) → k ≤ m → s.polled ≡ polls_of s k → s.polled ≤ polls_of s m
at_most_polls s k m le is =
    let n : ℕ = length (other_rings s) in
    let most : 4 * s.depth * (n * k) ≤ 4 * s.depth * (n * m) = mul-le-mul_left (4 * s.depth) (mul-le-mul_left n le) in
    omega (arith, is, most)

imports_bound : (made : ℕ) (b : Bool) → (if b then made else made + 1) ≤ made + 1
imports_bound made true = omega arith
imports_bound made false = omega arith

-- at each end no more than was to be polled
pub polled_over : (s : PortState) (ring : Ring) → s.polled ≡ polls_of s (imports_of ring) → s.polled ≤ polls_of s (1 + ring.restarts.made)
polled_over s ring is = at_most_polls s (imports_of ring) (1 + ring.restarts.made) (let b = imports_bound ring.restarts.made ring.import_due in omega (arith, b)) is

-- and as much if no import is yet to be
pub polled_whole : (s : PortState) (ring : Ring) → ring.import_due ≡ false → s.polled ≡ polls_of s (imports_of ring) → s.polled ≡ polls_of s (1 + ring.restarts.made)
polled_whole s ring settled is =
    is ∙ ap (λ (b : Bool). polls_of s (if b then ring.restarts.made else ring.restarts.made + 1)) settled ∙ ap (polls_of s) (let e : ring.restarts.made + 1 ≡ 1 + ring.restarts.made = omega arith in e)

pub polled_halted : (s : PortState) (made : ℕ) (end : End) → IsHalted end → s.polled ≤ polls_of s (1 + made) → HasPolled s made end
polled_halted s made (Sat a) h le = absurd h
polled_halted s made Refuted h le = le
polled_halted s made Spent h le = absurd h
polled_halted s made (Stopped x) h le = le
polled_halted s made (NoHole lack) h le = le
polled_halted s made ProofFault h le = le
polled_halted s made Memory h le = le

-- at the start
pub polled_none_yet : (s : PortState) → s.polled ≡ 0 → s.polled ≤ polls_of s 1
polled_none_yet s is = omega (arith, is)

pub polling_begin : (s : PortState) (ring : Ring) → s.polled ≡ 0 → ring.place ≡ record { ring = s.ring; rings = s.rings } → ring.import_due ≡ true → ring.restarts.made ≡ 0 → ring.trail.level ≡ 0 → IsPolling s ring
polling_begin s ring none place import_due made level = record {
  place = place;
  polled = none ∙ sym (ap (polls_of s) imports ∙ polls_zero);
  low = λ e. level;
}
  where
    imports : imports_of ring ≡ 0
    imports = ap (λ (b : Bool). if b then ring.restarts.made else ring.restarts.made + 1) import_due ∙ made

    polls_zero : polls_of s 0 ≡ 0
    polls_zero = (let none : 4 * s.depth * (length (other_rings s) * 0) ≡ 0 = omega arith in omega (arith, none))

-- if the stop of an end is set
pub polled_stopped : (s u : PortState) (made : ℕ) (end result : End) → OffersNothing s u → (result ≡ end) ⊎ ((x : Stop) × (result ≡ Stopped x)) → HasPolled s made end → HasPolled u made result
polled_stopped s u made end result nothing (inl is) p = subst (HasPolled u made) (sym is) (by end p)
  where
    same : polls_of u (1 + made) ≡ polls_of s (1 + made)
    same = polls_moved s u (1 + made) nothing.ring nothing.rings nothing.depth

    by : (x : End) → HasPolled s made x → HasPolled u made x
    by (Sat a) q = nothing.polled ∙ q ∙ sym same
    by Refuted q = omega (arith, nothing.polled, q, same)
    by Spent q = nothing.polled ∙ q ∙ sym same
    by (Stopped x) q = omega (arith, nothing.polled, q, same)
    by (NoHole lack) q = omega (arith, nothing.polled, q, same)
    by ProofFault q = omega (arith, nothing.polled, q, same)
    by Memory q = omega (arith, nothing.polled, q, same)
polled_stopped s u made end result nothing (inr (x, is)) p = subst (HasPolled u made) (sym is) (omega (arith, nothing.polled, by end p, same))
  where
    same : polls_of u (1 + made) ≡ polls_of s (1 + made)
    same = polls_moved s u (1 + made) nothing.ring nothing.rings nothing.depth

    by : (x : End) → HasPolled s made x → s.polled ≤ polls_of s (1 + made)
    by (Sat a) q = omega (arith, q)
    by Refuted q = q
    by Spent q = omega (arith, q)
    by (Stopped x) q = q
    by (NoHole lack) q = q
    by ProofFault q = q
    by Memory q = q

-- above level 0 no import is yet to be
pub settled_above : (s : PortState) (ring : Ring) → IsPolling s ring → 0 < ring.trail.level → ring.import_due ≡ false
settled_above s ring p above = by ring.import_due p.low
  where
    by : (b : Bool) → (b ≡ true → ring.trail.level ≡ 0) → b ≡ false
    by true low = absurd (let e = low refl in omega (arith, e, above))
    by false low = refl

-- a ring that has not polled since
pub polling_same : (s u : PortState) (old new : Ring) → OffersNothing s u → new.place ≡ old.place → new.restarts ≡ old.restarts → new.import_due ≡ old.import_due → new.trail.level ≡ old.trail.level → IsPolling s old → IsPolling u new
polling_same s u old new nothing place restarts import_due level p = record {
  place = place ∙ place_moved old.place s u nothing.ring nothing.rings p.place;
  polled = subst (λ (k : ℕ). u.polled ≡ polls_of u k) (sym imports) (polls_same s u (imports_of old) nothing p.polled);
  low = λ e. level ∙ p.low (sym import_due ∙ e);
}
  where
    imports : imports_of new ≡ imports_of old
    imports =
        ap (λ (b : Bool). if b then new.restarts.made else new.restarts.made + 1) import_due
        ∙ ap (λ (r : Restarting). if old.import_due then r.made else r.made + 1) restarts

-- after a lemma, where it was asked whether a restart is due
pub asked_imports : (r : Restarting) (b : Bool) → b ≡ is_due r → (if b then (asked r).made else (asked r).made + 1) ≡ r.made + 1
asked_imports r b is = ap (λ (x : Bool). if x then (asked r).made else (asked r).made + 1) is ∙ by (is_due r)
  where
    by : (x : Bool) → (if x then (if x then restarted r else r).made else (if x then restarted r else r).made + 1) ≡ r.made + 1
    by true = refl
    by false = refl

pub asked_more : (r : Restarting) → r.made ≤ (asked r).made
asked_more r = by (is_due r)
  where
    by : (x : Bool) → r.made ≤ (if x then restarted r else r).made
    by true = omega arith
    by false = omega arith

-- each end allows what is as much
pub polled_end : (s : PortState) (made : ℕ) (end : End) → s.polled ≡ polls_of s (1 + made) → HasPolled s made end
polled_end s made (Sat a) is = is
polled_end s made Refuted is = omega (arith, is)
polled_end s made Spent is = is
polled_end s made (Stopped x) is = omega (arith, is)
polled_end s made (NoHole lack) is = omega (arith, is)
polled_end s made ProofFault is = omega (arith, is)
polled_end s made Memory is = omega (arith, is)
