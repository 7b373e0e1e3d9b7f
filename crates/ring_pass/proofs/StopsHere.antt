-- What the port says of the stop.
use Rattle.std.proofs.Common.{◌≡◌, ◌≢◌, ℕ, ◌+◌, ◌-◌, ◌*◌, List, [], ◌∷◌, refl, sym, ap, subst, ◌∙◌, Option, Some, None, eq-eqb, ne_eqb, if◌then◌else◌}
use Rattle.std.specs.Prelude.{min, ◌^◌, MatchOption}
use Rattle.std.specs.Option.{option_map}
use mathlib.Core.Logic.{dite}
use native.Mathlib.Decide.{ℕ_discrete}
use mathlib.Core.Option.{some}
use lib.ListN.{get_elem?}
use Rattle.sat_words.specs.declared.shared.Cref.{Cref}
use Rattle.sat_words.specs.declared.shared.Stop.{Stop}
use Rattle.atomic_table.specs.declared.shared.Seat.{Seat}
use Rattle.share_core.specs.declared.event.Stop.{Stop as CoreStop}
use Rattle.share_rule.specs.declared.Shared.{Shared}
use Rattle.share_rule.specs.Passes.{IsPassOf}
use Rattle.share_rule.specs.declared.view.RingPart.{RingPart}
use Rattle.share_rule.specs.declared.view.View.{View}
use Rattle.share_rule.specs.Views.{only}
use Rattle.share_rule.specs.Exchanges.{MayFind, stop_of, stop_in, set_part, after_look, after_set, after_win, after_loss}
use Rattle.stop_word.specs.Stops.{core_stop, IsSet, stop_after}
use Rattle.ring_port.specs.PortState.{PortState}
use Rattle.ring_port.specs.Port.{Stands, Looked, SetStop}
use Rattle.sat_words.specs.declared.shared.Set.{Set}
use Rattle.sat_words.specs.declared.shared.Set.TheVariants.{Won, Lost}
use Rattle.ring_pass.specs.RingState.{Own, port_with, port_of, home_of, stop_as, IsRingPass}
use Rattle.ring_pass.proofs.Stays.{only_is, one_changed, name_stays}
use Rattle.ring_pass.proofs.SeenHere.{more_counted}
use Rattle.share_core.proofs.Counting.{none_some}

stands_here : (v : View) (o : Own) (x : Stop) → v.parts ≡ only v ∷ [] → MayFind v (Some (core_stop x)) → Stands (port_of v o) x
stands_here v o x one may = by v.stop may
  where
    by : (y : Option CoreStop) → MatchOption y ((i : ℕ) (p : RingPart) → get_elem? v.parts i ≡ some p → x.ring ≢ p.core.ring) (λ t. core_stop x ≡ t) → MatchOption (option_map stop_as y) (x.ring ≢ (only v).core.ring) (λ t. x ≡ t)
    by None h = h 0 (only v) (ap (λ (ps : List RingPart). get_elem? ps 0) one)
    by (Some t) h = ap stop_as h

-- a word that spells no stop is 0
none_found : (n : ℕ) → stop_of n ≡ None → n ≡ 0
none_found n e = dite (ℕ_discrete n 0) (λ z. z) (λ nz. absurd (none_some (stop_in n) (sym e ∙ (λ i. if ne_eqb n 0 nz i then None else Some (stop_in n)))))

-- a look that finds a stop is not counted
some_found : (v : View) (n : ℕ) (x : CoreStop) → stop_of n ≡ Some x → (after_look n v).looks ≡ v.looks
some_found v n x e = dite (ℕ_discrete n 0)
    (λ z. absurd (none_some x (sym (λ i. if eq-eqb n 0 z i then None else Some (stop_in n)) ∙ e)))
    (λ nz i. if ne_eqb n 0 nz i then v.looks + 1 else v.looks)

-- the port after a look that found none
look_none : (v w : View) (o : Own) (n : ℕ) (home : List ℕ) → w ≡ after_look n v → MayFind v (stop_of n) → w.stop ≡ None → home ≡ o.home → Looked (port_of v o) (port_of w (record o { home = home })) None
look_none v w o n home is may none hm =
    let e : stop_of n ≡ None = ap (λ (u : View). u.stop) (sym is) ∙ none in
    let was : v.stop ≡ None = subst (MayFind v) e may in
    let more : (after_look n v).looks ≡ v.looks + 1 = (λ i. if eq-eqb n 0 (none_found n e) i then v.looks + 1 else v.looks) in (
      ap (option_map stop_as) was,
      (λ i. port_of (is i) (record o { home = hm i }))
          ∙ (λ i. record (port_of v o) { stop = option_map stop_as ((e ∙ sym was) i); looks = (ap (λ (k : ℕ). min k (2 ^ 64 - 1)) more ∙ more_counted (2 ^ 64 - 1) v.looks) i }),
    )

-- and after one that found a stop
look_some : (v w : View) (o : Own) (n : ℕ) (home : List ℕ) (x : Stop) → v.parts ≡ only v ∷ [] → w ≡ after_look n v → MayFind v (stop_of n) → w.stop ≡ Some (core_stop x) → home ≡ o.home → Looked (port_of v o) (port_of w (record o { home = home })) (Some x)
look_some v w o n home x one is may found hm =
    let e : stop_of n ≡ Some (core_stop x) = ap (λ (u : View). u.stop) (sym is) ∙ found in
    (stands_here v o x one (subst (MayFind v) e may), (λ i. port_of (is i) (record o { home = hm i })) ∙ (λ i. record (port_of v o) { stop = option_map stop_as (e i); looks = min (some_found v n (core_stop x) e i) (2 ^ 64 - 1) }))

-- after a try that set it
pub set_won : (v w : View) (o : Own) (kind ring n : ℕ) (home : List ℕ) → v.parts ≡ only v ∷ [] → ring ≡ (only v).core.ring → w ≡ after_set (kind + 8 * ring) n v → n ≡ 0 → MayFind v (stop_of n) → w.stop ≡ Some (record { kind = kind; ring = ring }) → home ≡ o.home
    → SetStop (port_of v o) (port_of w (record o { home = home })) kind Won
set_won v w o kind ring n home one mine is zero may set hm =
    let code : ℕ = kind + 8 * ring in
    let won : w ≡ after_win code v = is ∙ (λ i. after_set code (zero i) v) in
    let was : v.stop ≡ None = subst (λ (m : ℕ). MayFind v (stop_of m)) zero may in
    let part : only w ≡ set_part (stop_in code) (only v) = only_is w (set_part (stop_in code) (only v)) (one_changed (set_part (stop_in code)) v w one (ap (λ (u : View). u.parts) won)) in (
      ap (option_map stop_as) was,
      (λ i. port_with (record v { layout = (won i).layout; opening = (won i).opening; looks = (won i).looks; stop = (set ∙ (λ j. Some (record { kind = kind; ring = mine j }))) i }) (part i) (record o { home = hm i })),
    )

-- and after one that did not
pub set_lost : (v w : View) (o : Own) (kind code n : ℕ) (home : List ℕ) (x : Stop) → v.parts ≡ only v ∷ [] → w ≡ after_set code n v → n ≢ 0 → MayFind v (stop_of n) → w.stop ≡ Some (core_stop x) → home ≡ o.home
    → SetStop (port_of v o) (port_of w (record o { home = home })) kind (Lost x)
set_lost v w o kind code n home x one is there may set hm =
    let lost : w ≡ after_loss code n v = is ∙ (λ i. if ne_eqb n 0 there i then after_win code v else after_loss code n v) in
    let e : stop_of n ≡ Some (core_stop x) = ap (λ (u : View). u.stop) (sym lost) ∙ set in
    (stands_here v o x one (subst (MayFind v) e may), (λ i. port_of (lost i) (record o { home = hm i })) ∙ (λ i. record (port_of v o) { stop = option_map stop_as (e i) }))

-- For a ring with its pass

ring_looks : {B : Type 0} {t : Shared B} {p : Seat (Option B) View} {n : ℕ} {st : List Cref} {o : Own} (q : Seat (Option B) View) (s : PortState) (found : ℕ) (x : Stop) → IsRingPass t p n st o → IsPassOf t q → port_of p.me.0 o ≡ s
    → q.me.0 ≡ after_look found p.me.0 → MayFind p.me.0 (stop_of found) → q.me.0.stop ≡ Some (core_stop x) → Looked s (port_of q.me.0 (record o { home = home_of q })) (Some x)
ring_looks {B} {t} {p} {n} {st} {o} q s found x r pass view is may sees =
    subst (λ (y : PortState). Looked y (port_of q.me.0 (record o { home = home_of q })) (Some x)) view (look_some p.me.0 q.me.0 o found (home_of q) x r.one is may sees (name_stays q r pass))

ring_misses : {B : Type 0} {t : Shared B} {p : Seat (Option B) View} {n : ℕ} {st : List Cref} {o : Own} (q : Seat (Option B) View) (s : PortState) (found : ℕ) → IsRingPass t p n st o → IsPassOf t q → port_of p.me.0 o ≡ s
    → q.me.0 ≡ after_look found p.me.0 → MayFind p.me.0 (stop_of found) → q.me.0.stop ≡ None → Looked s (port_of q.me.0 (record o { home = home_of q })) None
ring_misses {B} {t} {p} {n} {st} {o} q s found r pass view is may sees =
    subst (λ (y : PortState). Looked y (port_of q.me.0 (record o { home = home_of q })) None) view (look_none p.me.0 q.me.0 o found (home_of q) is may sees (name_stays q r pass))

pub ring_looked : {B : Type 0} {t : Shared B} {p : Seat (Option B) View} {n : ℕ} {st : List Cref} {o : Own} (q : Seat (Option B) View) (s : PortState) (found : ℕ) (r : Option Stop) → IsRingPass t p n st o → IsPassOf t q → port_of p.me.0 o ≡ s
    → q.me.0 ≡ after_look found p.me.0 → MayFind p.me.0 (stop_of found) → q.me.0.stop ≡ option_map core_stop r → Looked s (port_of q.me.0 (record o { home = home_of q })) r
ring_looked q s found None r pass view is may sees = ring_misses q s found r pass view is may sees
ring_looked q s found (Some x) r pass view is may sees = ring_looks q s found x r pass view is may sees

pub ring_sets : {B : Type 0} {t : Shared B} {p : Seat (Option B) View} {n : ℕ} {st : List Cref} {o : Own} (q : Seat (Option B) View) (s : PortState) (kind found : ℕ) (a : Set) → IsRingPass t p n st o → IsPassOf t q → port_of p.me.0 o ≡ s
    → q.me.0 ≡ after_set (kind + 8 * n) found p.me.0 → MayFind p.me.0 (stop_of found) → IsSet found a → q.me.0.stop ≡ Some (core_stop (stop_after (record { kind = kind; ring = n }) a)) → SetStop s (port_of q.me.0 (record o { home = home_of q })) kind a
ring_sets {B} {t} {p} {n} {st} {o} q s kind found Won r pass view is may set sees =
    subst (λ (y : PortState). SetStop y (port_of q.me.0 (record o { home = home_of q })) kind Won) view (set_won p.me.0 q.me.0 o kind n found (home_of q) r.one r.ring is set may sees (name_stays q r pass))
ring_sets {B} {t} {p} {n} {st} {o} q s kind found (Lost x) r pass view is may set sees =
    subst (λ (y : PortState). SetStop y (port_of q.me.0 (record o { home = home_of q })) kind (Lost x)) view (set_lost p.me.0 q.me.0 o kind (kind + 8 * n) found (home_of q) x r.one is set.0 may sees (name_stays q r pass))

-- the part after a try to set the stop
pub set_parts : (v w : View) (code n : ℕ) → v.parts ≡ only v ∷ [] → w ≡ after_set code n v → (x : RingPart) × (w.parts ≡ x ∷ []) × (x.core ≡ (only v).core) × (x.ended ≡ (only v).ended) × (x.failed ≡ (only v).failed) × (x.refused ≡ (only v).refused)
set_parts v w code n one is = dite (ℕ_discrete n 0)
    (λ z. (set_part (stop_in code) (only v), one_changed (set_part (stop_in code)) v w one (ap (λ (u : View). u.parts) (is ∙ (λ i. after_set code (z i) v))), refl, refl, refl, refl))
    (λ nz. (only v, ap (λ (u : View). u.parts) (is ∙ (λ i. if ne_eqb n 0 nz i then after_win code v else after_loss code n v)) ∙ one, refl, refl, refl, refl))
