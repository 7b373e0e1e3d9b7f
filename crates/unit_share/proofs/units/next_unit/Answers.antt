use Rattle.share_rule.specs.Books.{StandsFor}
use Rattle.share_rule.specs.Views.{is_ready}
use Rattle.std.proofs.Common.{◌≡◌, ◌∙◌, ◌+◌, ◌*◌, ◌^◌, ◌<◌, ◌≤◌, ℕ, [], ◌∷◌, length, sym, ap, arith, subst}
use Rattle.sat_words.specs.Literal.{Literal, code_of}
use Rattle.share_rule.specs.declared.Layout.{Layout}
use Rattle.share_rule.specs.declared.view.RingPart.{RingPart}
use Rattle.share_rule.specs.declared.view.View.{View}
use Rattle.share_rule.specs.Layout.{unit_at, number_at}
use Rattle.share_rule.specs.Views.{only}
use Rattle.share_rule.specs.Layout.{InVars}
use Rattle.share_rule.specs.Steps.{after_load}
use Rattle.share_core.specs.Events.{listed_number}
use Rattle.share_rule.specs.Units.{count_part, after_count, after_see, next_unit_at}
use Rattle.share_rule.proofs.Listing.{counts_it, sees_it, numbers_read, seen_room, seen_first}
use Rattle.unit_share.proofs.Codes.{UnitCode, unit_code}
use Rattle.unit_share.proofs.Seeing.{counted, counted_one, saw_one, saw_more, saw_number}
use Rattle.unit_share.proofs.units.next_unit.Goals as goal

pub load-listed-requires : goal.load-listed-requires
load-listed-requires g c =
    let table = c.args.table.now in
    let size = table.sized in
    let p = c.requires.pass in
    (p.0, omega arith, counts_it (StandsFor g.B.Ledger.account g.B.Ledger.stands) table.table.shared.key table.table.shared.table_id.slots c.args.pass.now.id c.args.pass.now.me p.1 c.requires.ring.0)

pub unit-word-requires-clause-place : goal.unit-word-requires-clause-place
unit-word-requires-clause-place g c =
    let p = c.requires.pass in
    let few = (seen_room c.args.pass.now.me.0 p.3 c.requires.ring.0).0 in
    let e = c.requires.ring.1 in
    let vars = c.args.table.now.vars in
    let same = ap (λ (l : Layout). l.vars) p.2 in
    let rings = c.args.table.now.rings in
    omega arith

pub number-requires-clause-place : goal.number-requires-clause-place
number-requires-clause-place g c =
    let p = c.requires.pass in
    let few = (seen_room c.args.pass.now.me.0 p.3 c.requires.ring.0).0 in
    let e = c.requires.ring.1 in
    let vars = c.args.table.now.vars in
    let same = ap (λ (l : Layout). l.vars) p.2 in
    omega arith

pub load-code-requires : goal.load-code-requires
load-code-requires g c =
    let table = c.args.table.now in
    let size = table.sized in
    let p = c.requires.pass in
    let v : View = c.args.pass.now.me.0 in
    let few = (seen_room v p.3 c.requires.ring.0).0 in
    let e = c.requires.ring.1 in
    let same = ap (λ (l : Layout). l.vars) p.2 in
    let rings = ap (λ (l : Layout). l.rings) p.2 in
    let x = c.load-listed.ensures in
    let n : ℕ = c.load-listed.result in
    let me = c.load-listed.new.seat.me in
    let is : me.0 ≡ after_count n v = x.2.0.1 in
    let only_is : only (after_count n v) ≡ count_part n (only v) = counted v c.requires.ring.0 n in
    let one : (after_count n v).parts ≡ only (after_count n v) ∷ [] = counted_one v c.requires.ring.0 n in
    let ne = c.if-listed-seen.false in
    let le = x.2.1 in
    let lt : length (only v).core.seen < n = omega arith in
    let most : n ≤ 2 * v.layout.vars = subst (λ (q : RingPart). q.listed ≤ 2 * v.layout.vars) only_is (seen_room (after_count n v) x.2.0.2 one).1 in
    let lt' : length (only (after_count n v)).core.seen < (only (after_count n v)).listed = subst (λ (q : RingPart). length q.core.seen < q.listed) (sym only_is) lt in
    let w_is : 3 + table.layout.rings + c.args.seen ≡ next_unit_at (after_count n v) = subst (λ (q : RingPart). 3 + table.layout.rings + c.args.seen ≡ unit_at v.layout (length q.core.seen)) (sym only_is) (omega arith) in (
      x.0 ∙ p.0,
      rw c.unit-word.ensures (omega arith),
      rw c.unit-word.ensures (sees_it (StandsFor g.B.Ledger.account g.B.Ledger.stands) table.table.shared.key table.table.shared.table_id.slots c.load-listed.new.seat.id me (3 + table.layout.rings + c.args.seen)
          (ap (λ (u : View). is_ready u.stage) is ∙ p.1) (subst (λ (u : View). u.parts ≡ only u ∷ []) (sym is) one) (subst (λ (u : View). length (only u).core.seen < (only u).listed) (sym is) lt') (w_is ∙ ap next_unit_at (sym is))),
    )

pub load-number-requires : goal.load-number-requires
load-number-requires g c =
    let table = c.args.table.now in
    let size = table.sized in
    let p = c.requires.pass in
    let v : View = c.args.pass.now.me.0 in
    let e = c.requires.ring.1 in
    let same = ap (λ (l : Layout). l.vars) p.2 in
    let x = c.load-listed.ensures in
    let n : ℕ = c.load-listed.result in
    let y = c.load-code.ensures in
    let t = y.2 in
    let w : View = after_see t.0 t.1 (after_count n v) in
    let me = c.load-code.new.seat.me in
    let is : me.0 ≡ w = t.4.1 ∙ ap (after_see t.0 t.1) x.2.0.1 in
    let ne = c.if-listed-seen.false in
    let le = x.2.1 in
    let most : n ≤ 2 * v.layout.vars = subst (λ (q : RingPart). q.listed ≤ 2 * v.layout.vars) (counted v c.requires.ring.0 n) (seen_room (after_count n v) x.2.0.2 (counted_one v c.requires.ring.0 n)).1 in
    let lt : c.args.seen < length (only w).core.seen = let more = saw_more v c.requires.ring.0 n t.0 t.1 in omega arith in
    let w_is : number_at table.layout c.args.seen ≡ number_at me.0.layout c.args.seen = ap (λ (l : Layout). number_at l c.args.seen) (sym p.2 ∙ ap (λ (u : View). u.layout) (sym is)) in (
      y.0 ∙ x.0 ∙ p.0,
      rw c.number.ensures (omega arith),
      rw c.number.ensures (numbers_read (StandsFor g.B.Ledger.account g.B.Ledger.stands) table.table.shared.key table.table.shared.table_id.slots c.load-code.new.seat.id me (number_at table.layout c.args.seen) c.args.seen
          (ap (λ (u : View). is_ready u.stage) is ∙ p.1) (subst (λ (u : View). u.parts ≡ only u ∷ []) (sym is) (saw_one v c.requires.ring.0 n t.0 t.1)) (subst (λ (u : View). c.args.seen < length (only u).core.seen) (sym is) lt) w_is),
    )

-- the code that was read
read : (vars : ℕ) (l m : Layout) (lit : Literal) (code : ℕ) → l.vars ≤ vars → m ≡ l → InVars m (lit ∷ []) → code ≡ code_of lit → UnitCode vars code lit
read vars l m lit code few same h e =
    let u = unit_code m lit code h e in
    let le = ap (λ (k : Layout). k.vars) same in
    let hi = u.high in
    record { low = u.low; high = omega arith; literal = u.literal }

pub overflow_cast-code : goal.overflow_cast-code
overflow_cast-code g c =
    let t = c.load-code.ensures.2 in
    let u = read (2 ^ 30) c.args.table.now.layout c.load-listed.new.seat.me.0.layout t.0 c.load-code.result c.args.table.now.vars (ap (λ (v : View). v.layout) c.load-listed.ensures.2.0.1 ∙ c.requires.pass.2) t.3 t.2 in
    let hi = u.high in
    omega arith

pub new-requires-clause-low : goal.new-requires-clause-low
new-requires-clause-low g c =
    let t = c.load-code.ensures.2 in
    (read (2 ^ 30) c.args.table.now.layout c.load-listed.new.seat.me.0.layout t.0 c.load-code.result c.args.table.now.vars (ap (λ (v : View). v.layout) c.load-listed.ensures.2.0.1 ∙ c.requires.pass.2) t.3 t.2).low

pub new-requires-clause-high : goal.new-requires-clause-high
new-requires-clause-high g c =
    let t = c.load-code.ensures.2 in
    (read (2 ^ 30) c.args.table.now.layout c.load-listed.new.seat.me.0.layout t.0 c.load-code.result c.args.table.now.vars (ap (λ (v : View). v.layout) c.load-listed.ensures.2.0.1 ∙ c.requires.pass.2) t.3 t.2).high

pub returns-then-listed-seen-clause-unit : goal.returns-then-listed-seen-clause-unit
returns-then-listed-seen-clause-unit g c =
    let v : View = c.args.pass.now.me.0 in
    let x = c.load-listed.ensures.2 in
    let same : c.load-listed.result ≡ c.args.seen = c.if-listed-seen.true in
    let le = x.2 in
    let e = c.requires.ring.1 in
    (x.0.1 ∙ ap (λ (n : ℕ). after_count n v) same, seen_first v c.requires.pass.3 c.requires.ring.0 (omega arith))

-- one more is seen, and the number is its own
pub returns-clause-unit : goal.returns-clause-unit
returns-clause-unit g c =
    let table = c.args.table.now in
    let p = c.requires.pass in
    let v : View = c.args.pass.now.me.0 in
    let e = c.requires.ring.1 in
    let x = c.load-listed.ensures in
    let n : ℕ = c.load-listed.result in
    let t = c.load-code.ensures.2 in
    let w : View = after_see t.0 t.1 (after_count n v) in
    let me = c.load-code.new.seat.me in
    let is : me.0 ≡ w = t.4.1 ∙ ap (after_see t.0 t.1) x.2.0.1 in
    let z = c.load-number.ensures.2 in
    let r : ℕ = c.load-number.result in
    let ne = c.if-listed-seen.false in
    let le = x.2.1 in
    let lt : c.args.seen < length (only w).core.seen = let more = saw_more v c.requires.ring.0 n t.0 t.1 in omega arith in
    let at : number_at table.layout c.args.seen ≡ number_at v.layout c.args.seen = ap (λ (l : Layout). number_at l c.args.seen) (sym p.2) in
    let there : c.number.result ≡ number_at me.0.layout c.args.seen = c.number.ensures ∙ at ∙ ap (λ (u : View). number_at u.layout c.args.seen) (sym is) in
    let number_is : r ≡ t.1 =
    z.1 c.args.seen (subst (λ (u : View). c.args.seen < length (only u).core.seen) (sym is) lt) there
    ∙ ap (λ (u : View). listed_number (only u).core.numbers c.args.seen) is ∙ ap (listed_number (only w).core.numbers) e ∙ saw_number v c.requires.ring.0 n t.0 t.1 p.3 in
    let lit_is : c.new.result ≡ t.0 = c.new.ensures ∙ (read (2 ^ 30) table.layout c.load-listed.new.seat.me.0.layout t.0 c.load-code.result table.vars (ap (λ (u : View). u.layout) x.2.0.1 ∙ p.2) t.3 t.2).literal in (
      n,
      omega arith,
      z.0.1 ∙ (λ i. after_load ((c.number.ensures ∙ at) i) r (is i)) ∙ (λ i. after_load (number_at v.layout c.args.seen) r (after_see (sym lit_is i) (sym number_is i) (after_count n v))),
    )
