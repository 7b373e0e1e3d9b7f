-- If slots lie, and that what came out of one is held.
use Rattle.std.proofs.Common.{◌≡◌, ◌≢◌, ℕ, ◌+◌, ◌*◌, ◌<◌, ◌==◌, List, [], ◌∷◌, refl, sym, ap, ◌∙◌, subst, arith, eq-eqb, Option, Some, None}
use Rattle.std.specs.Prelude.{slice_index_or, IfSome}
use lib.ListN.{get_elem?}
use Rattle.sat_words.specs.declared.shared.Cref.{Cref}
use Rattle.rup_model.specs.Basics.{one_if}
use Rattle.share_core.specs.declared.part.CoreOpening.{CoreOpening}
use Rattle.share_core.specs.declared.stored.ClauseAt.{ClauseAt}
use Rattle.share_core.specs.declared.stored.PutNote.{PutNote}
use Rattle.share_core.specs.State.{times_at, without_at, slot_of}
use Rattle.share_core.proofs.Counting.{slot_below}
use Rattle.share_core.proofs.ClauseLists.{at_some}
use Rattle.share_rule.specs.declared.Layout.{Layout}
use Rattle.share_rule.specs.declared.view.RingPart.{RingPart}
use Rattle.share_rule.specs.declared.view.View.{View}
use Rattle.share_rule.specs.Layout.{slot_at, table_words}
use Rattle.share_rule.specs.Views.{only, no_part, IsHolding}
use Rattle.share_rule.specs.Steps.{on_first}
use Rattle.share_rule.specs.Exchanges.{slot_word, gave_part, took_part, after_put, after_get}
use Rattle.share_rule.specs.Seen.{Seen}
use Rattle.pool_exchange.specs.Found.{IsFound}

-- the pass's one ring is one of the layout's, which has the slots of the opening
pub ring_fits : (v : View) (s : Seen v) → v.parts ≡ only v ∷ [] → ((only v).core.ring < v.opening.rings) × (v.layout.rings ≡ v.opening.rings) × (v.layout.depth ≡ v.opening.depth)
ring_fits v s one =
    let p = s.parts 0 (only v) (ap (λ (ps : List RingPart). get_elem? ps 0) one) in
    let same = ap (λ (o : CoreOpening). o.rings) s.opening in
    (subst (λ (n : ℕ). (only v).core.ring < n) (sym same) p.ring, s.standing.rings ∙ sym same, s.standing.depth ∙ sym (ap (λ (o : CoreOpening). o.depth) s.opening))

-- a slot is a word of the table, if its place is counted so
pub slot_lies : (v : View) (s : Seen v) → v.parts ≡ only v ∷ [] → (l : Layout) (from to class place word : ℕ) → v.layout ≡ l → from < v.opening.rings → to < v.opening.rings → class < 4 → place < l.depth
    → word ≡ slot_at l ((4 * (from * l.rings + to) + class) * l.depth + place) → (slot_word v from to class place ≡ word) × (word < table_words l) × (place < v.opening.depth)
slot_lies v s one l from to class place word lay ft to_lt few there is =
    let fits = ring_fits v s one in
    let rings : v.opening.rings ≡ l.rings = sym fits.1 ∙ ap (λ (k : Layout). k.rings) lay in
    let depth : v.opening.depth ≡ l.depth = sym fits.2 ∙ ap (λ (k : Layout). k.depth) lay in
    let here : place < v.opening.depth = subst (λ (n : ℕ). place < n) (sym depth) there in
    let below_all = slot_below v.opening from to class place ft to_lt few here in
    let same : slot_word v from to class place ≡ word = (λ i. slot_at (lay i) ((4 * (from * rings i + to) + class) * depth i + place)) ∙ sym is in
    let in_slots : slot_of v.opening from to class place < 4 * (l.rings * l.rings) * l.depth = subst (λ (n : ℕ × ℕ). slot_of v.opening from to class place < 4 * (n.0 * n.0) * n.1) (λ i. (rings i, depth i)) below_all in
    let at : slot_word v from to class place ≡ slot_at l (slot_of v.opening from to class place) = λ i. slot_at (lay i) (slot_of v.opening from to class place) in
    (same, omega arith, here)

-- what came out is held
pub held_there : (f : RingPart → RingPart) (v w : View) (a : ℕ) → v.parts ≡ only v ∷ [] → w.parts ≡ on_first f v.parts → 0 < times_at a (f (only v)).core.held → IsHolding a w
held_there f v w a one is some =
    let e : w.parts ≡ f (only v) ∷ [] = is ∙ ap (on_first f) one in
    let o : only w ≡ f (only v) = ap (λ (ps : List RingPart). slice_index_or ps 0 no_part) e in
    (e ∙ (λ i. sym o i ∷ []), subst (λ (p : RingPart). 0 < times_at a p.core.held) (sym o) some)

pub put_holds : (to class place a : ℕ) (h : ClauseAt) (g : ℕ) (v w : View) → v.parts ≡ only v ∷ [] → w ≡ after_put to class place a h g v → h.address ≢ 0 → IsHolding h.address w
put_holds to class place a h g v w one is some =
    let n : PutNote = record { to = to; class = class; place = place; address = a } in
    let t = at_some h h.address (without_at a (only v).core.held) some in
    let z : one_if (h.address == h.address) ≡ 1 = ap one_if (eq-eqb h.address h.address refl) in
    held_there (gave_part n h g) v w h.address one (ap (λ (u : View). u.parts) is) (omega arith)

pub get_holds : (from class place : ℕ) (h : ClauseAt) (g : ℕ) (v w : View) → v.parts ≡ only v ∷ [] → w ≡ after_get from class place h g v → h.address ≢ 0 → IsHolding h.address w
get_holds from class place h g v w one is some =
    let t = at_some h h.address (only v).core.held some in
    let z : one_if (h.address == h.address) ≡ 1 = ap one_if (eq-eqb h.address h.address refl) in
    held_there (took_part from class place h g) v w h.address one (ap (λ (u : View). u.parts) is) (omega arith)

-- for whatever is told to have been found
pub found_held : (a : ℕ) (o : Option Cref) (v : View) → IsFound a o → (a ≢ 0 → IsHolding a v) → IfSome o (λ c. IsHolding c.address v)
found_held a None v f h = tt
found_held a (Some c) v f h = subst (λ (b : ℕ). IsHolding b v) (sym f.1) (h f.0)
