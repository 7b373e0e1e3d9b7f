-- What stays of a ring with its pass, step by step.
use Rattle.std.proofs.Common.{◌≡◌, ℕ, ◌+◌, ◌*◌, ◌<◌, ◌≤◌, true, List, [], ◌∷◌, length, false, refl, sym, ap, subst, ◌∙◌, Option, None, IsSome, IfSome}
use Rattle.std.specs.Prelude.{slice_index_or, All, IsSomeAnd}
use Rattle.std.specs.Option.{option_map}
use Rattle.sat_words.specs.Literal.{Literal}
use Rattle.sat_words.specs.Clause.{has}
use Rattle.sat_words.specs.declared.shared.Cref.{Cref}
use Rattle.sat_words.specs.declared.shared.Head.{Head}
use Rattle.atomic_table.specs.declared.shared.Seat.{Seat}
use Rattle.share_core.specs.State.{times_at}
use Rattle.share_core.specs.declared.part.CoreOpening.{CoreOpening}
use Rattle.share_core.specs.declared.part.Part.{Part}
use Rattle.share_rule.specs.declared.Layout.{Layout}
use Rattle.share_rule.specs.declared.Shared.{Shared}
use Rattle.share_rule.specs.declared.view.RingPart.{RingPart}
use Rattle.share_rule.specs.declared.view.View.{View}
use Rattle.share_rule.specs.FirstWords.{addresses}
use Rattle.share_rule.specs.Passes.{IsPassOf, IsSamePass}
use Rattle.share_rule.specs.Steps.{after_load, on_first}
use Rattle.share_rule.specs.Views.{only, no_part, clause_in, clause_of, glue_in, IsHolding}
use Rattle.drat_text.specs.LineState.{LineState}
use Rattle.ring_port.specs.Log.{KeepsLog, HasLines}
use Rattle.ring_port.specs.Port.{is_usable}
use Rattle.ring_port.specs.PortState.{PortState, IsPort, held_at, lits_at, head_of}
use Rattle.ring_pass.specs.declared.waiting.Waiting.{Waiting}
use Rattle.ring_pass.specs.Looks.{OnlyLooked}
use Rattle.ring_pass.specs.Refusals.{answer_noted}
use Rattle.ring_pass.specs.RingState.{Own, port_with, port_of, home_of, IsOwn, AreWaiting, IsRingPass, HasRoom, HasUnits, pending, HasListed}
use Rattle.ring_pass.specs.Numbers.{HasNumbers, KeepsNumbers}
use Rattle.ring_pass.proofs.NumbersHere.{numbers_keep}
use Rattle.ring_pass.proofs.RingPorts.{is_port, held_here, lits_here, head_here, home_same}

-- Looks

pub only_same : (v w : View) → OnlyLooked v w → only w ≡ only v
only_same v w h = ap (λ (ps : List RingPart). slice_index_or ps 0 no_part) h.parts

pub clause_same : (v w : View) (a : ℕ) → OnlyLooked v w → clause_of a w ≡ clause_of a v
clause_same v w a h = ap (λ (p : RingPart). clause_in a p.core.held) (only_same v w h)

pub loaded : (v w : View) (word found : ℕ) → w ≡ after_load word found v → OnlyLooked v w
loaded v w word found is = record { parts = ap (λ (u : View). u.parts) is; layout = ap (λ (u : View). u.layout) is; opening = ap (λ (u : View). u.opening) is; stop = ap (λ (u : View). u.stop) is; looks = ap (λ (u : View). u.looks) is }

pub looked_both : (u v w : View) → OnlyLooked u v → OnlyLooked v w → OnlyLooked u w
looked_both u v w g h = record { parts = h.parts ∙ g.parts; layout = h.layout ∙ g.layout; opening = h.opening ∙ g.opening; stop = h.stop ∙ g.stop; looks = h.looks ∙ g.looks }

pub loaded_twice : (a b : ℕ) (v w : View) → (found other : ℕ) × (w ≡ after_load b other (after_load a found v)) → OnlyLooked v w
loaded_twice a b v w t = looked_both v (after_load a t.0 v) w (loaded v (after_load a t.0 v) a t.0 refl) (loaded (after_load a t.0 v) w b t.1 t.2)

pub one_same : (v w : View) → OnlyLooked v w → v.parts ≡ only v ∷ [] → w.parts ≡ only w ∷ []
one_same v w h one = h.parts ∙ one ∙ (λ i. sym (only_same v w h) i ∷ [])

pub holding_same : (v w : View) (a : ℕ) → OnlyLooked v w → IsHolding a v → IsHolding a w
holding_same v w a k h = (one_same v w k h.0, subst (λ (p : RingPart). 0 < times_at a p.core.held) (sym (only_same v w k)) h.1)

-- under another name
renamed : (p : RingPart) (o : Own) (home : List ℕ) → IsOwn p o → IsOwn p (record o { home = home })
renamed p o home own = record { passed = own.passed; distinct = own.distinct; told = own.told; taken = own.taken; ended_is = own.ended_is; refused_is = own.refused_is; faulty_is = own.faulty_is; making = own.making; listed = own.listed }

-- what is kept beside a pass
abbrev pub own_in : {B : Type 0} {t : Shared B} {p : Seat (Option B) View} {n : ℕ} {st : List Cref} {o : Own} → IsRingPass t p n st o → Own
own_in {B} {t} {p} {n} {st} {o} r = o

-- the pass is the ring's still
pub ring_stays : {B : Type 0} {t : Shared B} {p : Seat (Option B) View} {n : ℕ} {st : List Cref} {o : Own} (q : Seat (Option B) View) → IsRingPass t p n st o → IsPassOf t q → IsSamePass p q → OnlyLooked p.me.0 q.me.0 → IsRingPass t q n st (record o { home = home_of q })
ring_stays {B} {t} {p} {n} {st} {o} q r pass same looked =
    let e : only p.me.0 ≡ only q.me.0 = sym (only_same p.me.0 q.me.0 looked) in
    record {
      pass = pass;
      slots = same.1 ∙ r.slots;
      one = one_same p.me.0 q.me.0 looked r.one;
      ring = r.ring ∙ ap (λ (x : RingPart). x.core.ring) e;
      free = ap (λ (x : RingPart). x.turn) (sym e) ∙ r.free;
      home = refl;
      hinted = r.hinted ∙ ap (λ (x : CoreOpening). x.hinted) (sym looked.opening);
      numbers = numbers_keep (ap (λ (x : RingPart). x.core.seen) (sym e)) (ap (λ (x : RingPart). x.core.numbers) (sym e)) (ap (λ (l : Layout). l.vars) looked.layout) r.numbers;
      start = r.start ∙ ap (λ (x : CoreOpening). addresses x.starts) (sym looked.opening);
      own = subst (λ (x : RingPart). IsOwn x (record o { home = home_of q })) e (renamed (only p.me.0) o (home_of q) r.own);
      alone_is = λ lone f. r.alone_is (ap (λ (x : CoreOpening). x.rings) (sym looked.opening) ∙ lone) (ap (λ (x : RingPart). x.failed) e ∙ f);
    }

-- and shows the same port
pub port_stays : {B : Type 0} {t : Shared B} {p : Seat (Option B) View} {n : ℕ} {st : List Cref} {o : Own} (q : Seat (Option B) View) → IsRingPass t p n st o → IsPassOf t q → OnlyLooked p.me.0 q.me.0 → port_of q.me.0 (record o { home = home_of q }) ≡ port_of p.me.0 o
port_stays {B} {t} {p} {n} {st} {o} q r pass looked =
    let home : home_of q ≡ o.home = home_same t p q r.pass pass ∙ sym r.home in
    λ i. port_with (record p.me.0 { layout = looked.layout i; opening = looked.opening i; stop = looked.stop i; looks = looked.looks i }) (only_same p.me.0 q.me.0 looked i) (record o { home = home i })

pub room_stays : (v w : View) (last : Option Cref) (ws : List Waiting) (room : ℕ) → OnlyLooked v w → HasRoom (only v) v.opening.rings last ws room → HasRoom (only w) w.opening.rings last ws room
room_stays v w last ws room h r = subst (λ (p : RingPart). HasRoom p w.opening.rings last ws room) (sym (only_same v w h)) (subst (λ (o : CoreOpening). HasRoom (only v) o.rings last ws room) (sym h.opening) r)

-- if the ring has seen nothing more
pub units_keep : (v w : View) (seen : List Literal) (a b : ℕ) → (only w).core.seen ≡ (only v).core.seen → w.layout ≡ v.layout → HasUnits (only v) v.layout.vars seen a b → HasUnits (only w) w.layout.vars seen a b
units_keep v w seen a b e l h = record {
  all = h.all ∙ sym e;
  seen_room_is = subst (λ (y : Layout). 2 * y.vars ≤ a) (sym l) h.seen_room_is;
  arrived_room_is = subst (λ (y : Layout). 2 * y.vars ≤ b) (sym l) h.arrived_room_is;
}

pub units_stay : (v w : View) (seen : List Literal) (a b : ℕ) → OnlyLooked v w → HasUnits (only v) v.layout.vars seen a b → HasUnits (only w) w.layout.vars seen a b
units_stay v w seen a b h u = units_keep v w seen a b (ap (λ (p : RingPart). p.core.seen) (only_same v w h)) h.layout u

-- What a port of the pass is

pub ring_port : {B : Type 0} {t : Shared B} {p : Seat (Option B) View} {n : ℕ} {st : List Cref} {o : Own} → IsRingPass t p n st o → IsPort (port_of p.me.0 o)
ring_port {B} {t} {p} {n} {st} {o} r = is_port p.me.0 r.pass.3 r.one o r.own

-- what the port finds held is held
pub ring_holds : {B : Type 0} {t : Shared B} {p : Seat (Option B) View} {n : ℕ} {st : List Cref} {o : Own} (s : PortState) (a : ℕ) → IsRingPass t p n st o → port_of p.me.0 o ≡ s → IsSome (held_at s a) → IsHolding a p.me.0
ring_holds {B} {t} {p} {n} {st} {o} s a r is h = (r.one, (held_here p.me.0 o a (subst (λ (x : PortState). IsSome (held_at x a)) (sym is) h)).0)

-- as it is
pub lits_found : (v : View) (o : Own) (s : PortState) (a : ℕ) → port_of v o ≡ s → IsSome (held_at s a) → lits_at s a ≡ (clause_of a v).lits
lits_found v o s a is h = ap (λ (x : PortState). lits_at x a) (sym is) ∙ lits_here v o a (subst (λ (x : PortState). IsSome (held_at x a)) (sym is) h)

pub head_found : (v : View) (o : Own) (s : PortState) (a : ℕ) (x : Head) → port_of v o ≡ s → IsSome (held_at s a) → x.size ≡ length (clause_of a v).lits → x.number ≡ (clause_of a v).number → x.glue ≡ glue_in (clause_of a v).number (only v).glues
    → IfSome (held_at s a) (λ h. x ≡ head_of h)
head_found v o s a x is h size number glue = subst (λ (y : PortState). IfSome (held_at y a) (λ h. x ≡ head_of h)) is (head_here v o a x (subst (λ (y : PortState). IsSome (held_at y a)) (sym is) h) size number glue)

-- Steps that change the ring's part

-- the one part of a pass
pub only_is : (w : View) (x : RingPart) → w.parts ≡ x ∷ [] → only w ≡ x
only_is w x e = ap (λ (ps : List RingPart). slice_index_or ps 0 no_part) e

pub one_is : (w : View) (x : RingPart) → w.parts ≡ x ∷ [] → w.parts ≡ only w ∷ []
one_is w x e = e ∙ (λ i. sym (only_is w x e) i ∷ [])

-- the table has the numbers of the units that this part has seen
pub numbers_then : (v w : View) (x : RingPart) (old new : List ℕ) → w.parts ≡ x ∷ [] → w.layout ≡ v.layout → KeepsNumbers v w old new → HasNumbers (only v).core.seen (only v).core.numbers v.layout.vars old → HasNumbers x.core.seen x.core.numbers v.layout.vars new
numbers_then v w x old new is layout keeps m =
    let e : x ≡ only w = sym (only_is w x is) in
    numbers_keep (ap (λ (y : RingPart). y.core.seen) e) (ap (λ (y : RingPart). y.core.numbers) e) (ap (λ (l : Layout). l.vars) (sym layout)) (keeps m)

-- changed, it is still one
pub one_changed : (f : RingPart → RingPart) (v w : View) → v.parts ≡ only v ∷ [] → w.parts ≡ on_first f v.parts → w.parts ≡ f (only v) ∷ []
one_changed f v w one is = is ∙ ap (on_first f) one

-- the pass is the ring's, with this part
pub ring_changes : {B : Type 0} {t : Shared B} {p : Seat (Option B) View} {n : ℕ} {st : List Cref} {o : Own} (q : Seat (Option B) View) (x : RingPart) (o' : Own) → IsRingPass t p n st o → IsPassOf t q → IsSamePass p q
    → q.me.0.opening ≡ p.me.0.opening → q.me.0.parts ≡ x ∷ [] → x.core.ring ≡ (only p.me.0).core.ring → x.turn ≡ (only p.me.0).turn → o'.home ≡ home_of q → IsOwn x o' → (p.me.0.opening.rings ≡ 1 → x.failed ≡ true → is_usable o'.refused ≡ false)
    → o'.hinted ≡ o.hinted → (HasNumbers (only p.me.0).core.seen (only p.me.0).core.numbers p.me.0.layout.vars o.numbers → HasNumbers x.core.seen x.core.numbers p.me.0.layout.vars o'.numbers) → IsRingPass t q n st o'
ring_changes {B} {t} {p} {n} {st} {o} q x o' r pass same opening is ring turn home own alone tells numbers =
    let e : x ≡ only q.me.0 = sym (only_is q.me.0 x is) in
    record {
      pass = pass;
      slots = same.1 ∙ r.slots;
      one = one_is q.me.0 x is;
      ring = r.ring ∙ sym ring ∙ ap (λ (y : RingPart). y.core.ring) e;
      free = ap (λ (y : RingPart). y.turn) (sym e) ∙ turn ∙ r.free;
      home = home;
      hinted = tells ∙ r.hinted ∙ ap (λ (y : CoreOpening). y.hinted) (sym opening);
      numbers = numbers_keep (ap (λ (y : RingPart). y.core.seen) (sym e)) (ap (λ (y : RingPart). y.core.numbers) (sym e)) (ap (λ (l : Layout). l.vars) (pass.2 ∙ sym r.pass.2)) (numbers r.numbers);
      start = r.start ∙ ap (λ (y : CoreOpening). addresses y.starts) (sym opening);
      own = subst (λ (y : RingPart). IsOwn y o') e own;
      alone_is = λ lone f. alone (ap (λ (y : CoreOpening). y.rings) (sym opening) ∙ lone) (ap (λ (y : RingPart). y.failed) e ∙ f);
    }

-- if its part of the core stays, so does what is kept beside
pub own_stays : (p x : RingPart) (o : Own) (home : List ℕ) → x.core ≡ p.core → x.ended ≡ p.ended → x.failed ≡ p.failed → x.refused ≡ p.refused → IsOwn p o → IsOwn x (record o { home = home })
own_stays p x o home e end fail refused own = record {
  passed = own.passed;
  distinct = own.distinct;
  told = subst (λ (k : Part). All (λ l. has k.seen l ≡ true) o.arrived) (sym e) own.told;
  taken = subst (λ (k : Part). All (λ c. 0 < times_at c.address k.held) o.taken) (sym e) own.taken;
  ended_is = λ q. end ∙ own.ended_is q;
  refused_is = own.refused_is ∙ ap (option_map answer_noted) (sym refused);
  faulty_is = λ q. fail ∙ own.faulty_is q;
  making = ap (λ (k : Part). k.making) e ∙ own.making;
  listed = subst (λ (k : Part). HasListed (record p { core = k })) (sym e) own.listed;
}

pub room_steps : (p x : RingPart) (w : View) (rings rings' : ℕ) (last : Option Cref) (ws : List Waiting) (room : ℕ) → w.parts ≡ x ∷ [] → x.core ≡ p.core → rings' ≡ rings → HasRoom p rings last ws room → HasRoom (only w) rings' last ws room
room_steps p x w rings rings' last ws room is e same r =
    subst (λ (m : ℕ). HasRoom (only w) m last ws room) (sym same) (subst (λ (y : RingPart). HasRoom y rings last ws room) (sym (only_is w x is)) (record {
      waits = subst (λ (k : Part). AreWaiting ws k.waiting) (sym e) r.waits;
      places = r.places;
      few = subst (λ (k : Part). k.shared + pending rings last ≤ 15 * length k.wrote) (sym e) r.few;
    }))

-- Logs

-- a port without an output says nothing of it
pub no_output : (s t : PortState) → s.output ≡ None → KeepsLog s t
no_output s t e = λ o st. absurd (subst (λ (q : Option LineState). IsSomeAnd q (HasLines o s)) e st.output)

-- Steps that leave its part of the core

pub port_steps : {B : Type 0} {t : Shared B} {p : Seat (Option B) View} {n : ℕ} {st : List Cref} {o : Own} (q : Seat (Option B) View) (x : RingPart) → IsRingPass t p n st o → IsPassOf t q → q.me.0.parts ≡ x ∷ [] → x.core ≡ (only p.me.0).core → x.ended ≡ (only p.me.0).ended → x.failed ≡ (only p.me.0).failed → x.refused ≡ (only p.me.0).refused → IsPort (port_of q.me.0 (record o { home = home_of q }))
port_steps {B} {t} {p} {n} {st} {o} q x r pass is e end fail refused =
    is_port q.me.0 pass.3 (one_is q.me.0 x is) (record o { home = home_of q }) (subst (λ (y : RingPart). IsOwn y (record o { home = home_of q })) (sym (only_is q.me.0 x is)) (own_stays (only p.me.0) x o (home_of q) e end fail refused r.own))

-- what was taken, in another vector
pub port_retaken : {B : Type 0} {t : Shared B} {p : Seat (Option B) View} {n : ℕ} {st : List Cref} {o : Own} (ts : List Cref) → IsRingPass t p n st o → ts ≡ o.taken → IsPort (port_of p.me.0 (record o { taken = ts }))
port_retaken {B} {t} {p} {n} {st} {o} ts r e = subst (λ (cs : List Cref). IsPort (port_of p.me.0 (record o { taken = cs }))) (sym e) (ring_port r)

-- the name of the table
pub name_stays : {B : Type 0} {t : Shared B} {p : Seat (Option B) View} {n : ℕ} {st : List Cref} {o : Own} (q : Seat (Option B) View) → IsRingPass t p n st o → IsPassOf t q → home_of q ≡ o.home
name_stays {B} {t} {p} {n} {st} {o} q r pass = home_same t p q r.pass pass ∙ sym r.home

-- two looks, one after the other
pub same_both : {B : Type 0} (p q r : Seat (Option B) View) → IsSamePass p q → IsSamePass q r → IsSamePass p r
same_both p q r e f = (f.0 ∙ e.0, f.1 ∙ e.1)
