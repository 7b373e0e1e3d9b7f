-- The table of units' numbers, as a ring sees units and lists its own.
use Rattle.std.proofs.Common.{◌≡◌, ◌≢◌, ℕ, ◌≤◌, Bool, true, false, is_some, List, [], ◌∷◌, refl, sym, ap, subst, ◌∙◌, inl, arith, Option, Some, None, get_or}
use Rattle.std.specs.Prelude.{MatchOption, slice_set}
use Rattle.std.specs.List.{Contains, zip}
use Rattle.std.proofs.lemmas.Bool.{false≢true}
use Rattle.sat_words.specs.Literal.{Literal, code_of}
use Rattle.sat_words.specs.Clause.{has}
use Rattle.sat_words.specs.declared.shared.Cref.{Cref}
use Rattle.rup_model.specs.declared.journal.Entry.{Entry}
use Rattle.rup_model.proofs.Lists.{In, In_append_right, In_Contains, Contains_In, has_In, In_has}
use Rattle.atomic_table.specs.declared.shared.Seat.{Seat}
use Rattle.share_core.proofs.ClauseLists.{all_in}
use Rattle.share_rule.specs.declared.Layout.{Layout}
use Rattle.share_rule.specs.declared.Shared.{Shared}
use Rattle.share_rule.specs.declared.note.Note.{Note}
use Rattle.share_rule.specs.declared.view.Refusal.{Refusal}
use Rattle.share_rule.specs.declared.view.RingPart.{RingPart}
use Rattle.share_rule.specs.declared.view.View.{View}
use Rattle.share_rule.specs.Seen.{Seen}
use Rattle.share_rule.specs.Steps.{on_first}
use Rattle.share_rule.specs.Turns.{written_of, take_part, give_part, after_give}
use Rattle.share_rule.specs.Units.{MayPublish, count_part, unit_part, number_part, list_part, after_count, after_unit, after_number, after_list}
use Rattle.share_rule.specs.Views.{only}
use Rattle.ring_port.specs.PortState.{PortState}
use Rattle.ring_pass.specs.Numbers.{number_among, HasNumbers, KnowsNumbers, KeepsNumbers}
use Rattle.ring_pass.specs.RingState.{Own, port_of, IsRingPass}
use Rattle.ring_pass.specs.Sights.{after_sight, ListedOne}
use Rattle.ring_pass.proofs.ListsHere.{quiet_part}
use Rattle.ring_pass.proofs.NumbersHere.{zip_In, zip_first, number_in, number_first, numbers_keep, numbers_more, numbers_some}
use Rattle.ring_pass.proofs.RingPorts.{unit_alive, numbers_long}
use Rattle.ring_pass.proofs.SeenHere.{saw_part, saw_parts, saw_fresh, seen_on, all_parts}
use Rattle.ring_pass.proofs.Stays.{only_is, one_is}
use Rattle.ring_pass.proofs.TurnsHere.{HasTurn}

-- the part has seen what another one had
pub numbers_of : (v w : View) (x : RingPart) (table : List ℕ) → w.parts ≡ x ∷ [] → x.core.seen ≡ (only v).core.seen → x.core.numbers ≡ (only v).core.numbers → w.layout.vars ≡ v.layout.vars → KeepsNumbers v w table table
numbers_of v w x table is seen numbers vars h =
    let now = only_is w x is in
    numbers_keep (ap (λ (p : RingPart). p.core.seen) now ∙ seen) (ap (λ (p : RingPart). p.core.numbers) now ∙ numbers) vars h

-- one more unit is seen
pub sees_number : (v w : View) (x : Literal) (u n : ℕ) (old new : List ℕ) → Seen v → Seen w → v.parts ≡ only v ∷ [] → w ≡ after_sight x u n v → new ≡ slice_set old (code_of x) u → KeepsNumbers v w old new
sees_number v w x u n old new s t one is noted h =
    let parts = saw_parts v w x u n one is in
    let now : only w ≡ saw_part x u n (only v) = only_is w (saw_part x u n (only v)) parts in
    let vars = ap (λ (y : View). y.layout.vars) is in
    let there : In x (only w).core.seen = subst (λ (p : RingPart). In x p.core.seen) (sym now) (In_append_right (only v).core.seen (x ∷ []) x (inl refl)) in
    let on = (seen_on w t (one_is w (saw_part x u n (only v)) parts) x there).1 in
    subst (λ (table : List ℕ). HasNumbers (only w).core.seen (only w).core.numbers w.layout.vars table) (sym noted)
    (numbers_keep (ap (λ (p : RingPart). p.core.seen) now) (ap (λ (p : RingPart). p.core.numbers) now) vars (numbers_more x u (numbers_long v s one) (saw_fresh v w x u n one is t) (omega arith) h))

-- none is left
pub sees_no_number : (v w : View) (n : ℕ) (table : List ℕ) → v.parts ≡ only v ∷ [] → w ≡ after_count n v → KeepsNumbers v w table table
sees_no_number v w n table one is h = numbers_of v w (count_part n (only v)) table (all_parts v w n one is) refl refl (ap (λ (y : View). y.layout.vars) is) h

-- one is listed
pub lists_number : (v w : View) (lit : Literal) (number : ℕ) (old new : List ℕ) → Seen v → MayPublish lit number v → w ≡ after_list lit number (after_number number (after_unit (code_of lit) v)) → new ≡ slice_set old (code_of lit) number → KeepsNumbers v w old new
lists_number v w lit number old new s m is noted h =
    let one = m.writing.0 in
    let x : RingPart = list_part lit number (number_part number (unit_part (code_of lit) (only v))) in
    let parts : w.parts ≡ x ∷ [] = ap (λ (u : View). u.parts) is ∙ ap (λ (ps : List RingPart). on_first (list_part lit number) (on_first (number_part number) (on_first (unit_part (code_of lit)) ps))) one in
    let now : only w ≡ x = only_is w x parts in
    let vars = ap (λ (y : View). y.layout.vars) is in
    let on = (all_in (λ (l : Literal). (1 ≤ l.var) × (l.var ≤ v.layout.vars)) (lit ∷ []) lit (inl refl) m.vars).1 in
    subst (λ (table : List ℕ). HasNumbers (only w).core.seen (only w).core.numbers w.layout.vars table) (sym noted)
    (numbers_keep (ap (λ (p : RingPart). p.core.seen) now) (ap (λ (p : RingPart). p.core.numbers) now) vars (numbers_more lit number (numbers_long v s one) m.new on h))

-- the turn is taken
pub turn_numbers : (v w : View) (J : List Entry) (was : Bool) (table : List ℕ) → HasTurn v w J was → KeepsNumbers v w table table
turn_numbers v w J was table h = numbers_of v w (take_part J was (only v)) table h.parts refl refl (ap (λ (l : Layout). l.vars) h.layout)

-- in a turn
pub listed_numbers : (v w m n u : View) (J : List Entry) (was : Bool) (lit : Literal) (seen' : List Literal) (a b c : List ℕ) (ms : List Note) (x : Option Refusal) (failed : Bool) → HasTurn v w J was → KeepsNumbers w m a b → ListedOne m n seen' lit → KeepsNumbers m n b c → u ≡ after_give ms x failed n → ms ≡ [] → KeepsNumbers v u a c
listed_numbers v w m n u J was lit seen' a b c ms x failed h saw one listed is none k =
    let parts : u.parts ≡ quiet_part n x failed ∷ [] = ap (λ (y : View). y.parts) is ∙ (λ i. on_first (give_part n.opening (written_of n (none i)) x failed) (one_is n one.part one.parts i)) in
    numbers_of n u (quiet_part n x failed) c parts refl refl (ap (λ (y : View). y.layout.vars) is)
    (listed (saw (turn_numbers v w J was a h k)))

-- What the table says

-- a number is kept for a unit exactly if it is seen
pub found_seen : (v : View) (l : Literal) (r : Option ℕ) (kept table : List ℕ) → Seen v → v.parts ≡ only v ∷ [] → KnowsNumbers v kept → table ≡ kept → MatchOption r (get_or table (code_of l) 0 ≡ 0) (λ k. (k ≢ 0) × (get_or table (code_of l) 0 ≡ k)) → is_some r ≡ has (only v).core.seen l
found_seen v l r kept table s one numbers same found = by r found (has (only v).core.seen l) refl
  where
    seen : List Literal
    seen = (only v).core.seen

    told : List (Literal × ℕ)
    told = zip (only v).core.seen (only v).core.numbers

    is : get_or table (code_of l) 0 ≡ number_among told l
    is = ap (λ (xs : List ℕ). get_or xs (code_of l) 0) same ∙ numbers.there l

    by : (x : Option ℕ) → MatchOption x (get_or table (code_of l) 0 ≡ 0) (λ k. (k ≢ 0) × (get_or table (code_of l) 0 ≡ k)) → (b : Bool) → has seen l ≡ b → is_some x ≡ b
    by None zero true there =
        let t = zip_In seen (only v).core.numbers l (numbers_long v s one) (has_In seen l there) in
        let m = number_first told l t.0 t.1 in
        absurd (numbers_some s.core.opening.formula s.core.journal m.0 (l ∷ []) (unit_alive v s one l m.0 m.1) (sym m.2 ∙ sym is ∙ zero))
    by None zero false none = refl
    by (Some k) some true there = refl
    by (Some k) some false none = absurd (false≢true (sym none ∙ In_has seen l (zip_first seen (only v).core.numbers l k (number_in told l k some.0 (sym is ∙ some.1)))))

pub unit_told : {B : Type 0} {t : Shared B} {p : Seat (Option B) View} {n : ℕ} {st : List Cref} {o : Own} (s : PortState) (l : Literal) (r : Option ℕ) (table : List ℕ) → IsRingPass t p n st o → port_of p.me.0 o ≡ s → table ≡ o.numbers
    → MatchOption r (get_or table (code_of l) 0 ≡ 0) (λ k. (k ≢ 0) × (get_or table (code_of l) 0 ≡ k)) → MatchOption r ((k : ℕ) → Contains s.told (l, k) → ⊥) (λ k. Contains s.told (l, k))
unit_told {B} {t} {p} {n} {st} {o} s l r table ring view same found = subst (λ (y : PortState). MatchOption r ((k : ℕ) → Contains y.told (l, k) → ⊥) (λ k. Contains y.told (l, k))) view (by r found)
  where
    v : View
    v = p.me.0

    told : List (Literal × ℕ)
    told = zip (only p.me.0).core.seen (only p.me.0).core.numbers

    is : get_or table (code_of l) 0 ≡ number_among told l
    is = ap (λ (xs : List ℕ). get_or xs (code_of l) 0) same ∙ ring.numbers.there l

    by : (x : Option ℕ) → MatchOption x (get_or table (code_of l) 0 ≡ 0) (λ k. (k ≢ 0) × (get_or table (code_of l) 0 ≡ k)) → MatchOption x ((k : ℕ) → Contains told (l, k) → ⊥) (λ k. Contains told (l, k))
    by None zero = λ k c.
        let m = number_first told l k (Contains_In told (l, k) c) in
        numbers_some ring.pass.3.core.opening.formula ring.pass.3.core.journal m.0 (l ∷ []) (unit_alive v ring.pass.3 ring.one l m.0 m.1) (sym m.2 ∙ sym is ∙ zero)
    by (Some k) some = In_Contains told (l, k) (number_in told l k some.0 (sym is ∙ some.1))
