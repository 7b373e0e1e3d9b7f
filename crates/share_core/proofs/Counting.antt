-- The counts under one change: one ring's part and grant, one slot, and cells.
use Rattle.std.proofs.Common.{◌≡◌, ◌≢◌, ◌⊎◌, ℕ, suc, ◌+◌, ◌*◌, ◌<◌, ◌≤◌, ◌==◌, Bool, true, false, cond, ◌&&◌, Option, Some, None, refl, sym, ap, ◌∙◌, subst, inl, inr, ⊎_elim, arith, eq-eqb, ne_eqb, mul-le-mul_right, suc-mul}
use Rattle.std.specs.Option.{is_none}
use mathlib.Core.Logic.{dite}
use native.Mathlib.Decide.{ℕ_discrete}
use Rattle.rup_model.specs.Basics.{below, one_if}
use Rattle.rup_model.specs.Journal.{is_ring}
use Rattle.rup_model.proofs.Sums.{below_put, below_at}
use Rattle.share_core.specs.declared.event.TheConstants.{MAX_SHARES}
use Rattle.share_core.specs.declared.stored.ClauseAt.{ClauseAt}
use Rattle.share_core.specs.declared.stored.Cell.{Cell}
use Rattle.share_core.specs.State.{times_at, CoreOpening, IsCoreOpening, Part, State, count_at, maker_at, slots, slot_of}
use Rattle.share_core.specs.Sound.{reach, counted, idle_at, Counts, IsOpenCopy, StartsOpen}
use Rattle.share_core.proofs.ClauseLists.{at_in, all_in, all_map}

-- Makers

pub some_same : {X : Type 0} (x y : X) → Some x ≡ Some y → x ≡ y
some_same x y e = cc

pub none_some : {X : Type 0} (x : X) → None ≡ Some x → ⊥
none_some x e = cc

-- no maker, or a ring
pub maker_cases : (m : Option ℕ) → (m ≡ None) ⊎ ((r : ℕ) × (m ≡ Some r))
maker_cases None = inl refl
maker_cases (Some r) = inr (r, refl)

pub cell_cases : (q : Option Cell) → (q ≡ None) ⊎ ((x : Cell) × (q ≡ Some x))
cell_cases None = inl refl
cell_cases (Some x) = inr (x, refl)

pub not_made : (r : ℕ) (m : Option ℕ) → m ≡ None → one_if (is_ring r m) ≡ 0
not_made r m e = ap (λ (q : Option ℕ). one_if (is_ring r q)) e

pub made_by : (r : ℕ) (m : Option ℕ) → m ≡ Some r → one_if (is_ring r m) ≡ 1
made_by r m e = ap (λ (q : Option ℕ). one_if (is_ring r q)) e ∙ ap one_if (eq-eqb r r refl)

pub made_else : (r i : ℕ) (m : Option ℕ) → m ≡ Some r → i ≢ r → one_if (is_ring i m) ≡ 0
made_else r i m e ne = ap (λ (q : Option ℕ). one_if (is_ring i q)) e ∙ ap one_if (ne_eqb r i (λ h. ne (sym h)))

pub is_made : (r : ℕ) (m : Option ℕ) → 0 < one_if (is_ring r m) → m ≡ Some r
is_made r None h = absurd (omega arith)
is_made r (Some q) h = dite (ℕ_discrete q r) (λ e. ap (λ (k : ℕ). Some k) e) (λ n. absurd (let z : one_if (q == r) ≡ 0 = ap one_if (ne_eqb q r n) in omega arith))

pub idle_open : (x : Cell) → x.maker ≡ None → one_if (is_none x.maker && (x.count == 0)) ≡ one_if (x.count == 0)
idle_open x e = ap (λ (m : Option ℕ). one_if (is_none m && (x.count == 0))) e

pub idle_made : (x : Cell) (r : ℕ) → x.maker ≡ Some r → one_if (is_none x.maker && (x.count == 0)) ≡ 0
idle_made x r e = ap (λ (m : Option ℕ). one_if (is_none m && (x.count == 0))) e

pub idle_held : (m : Option ℕ) (n : ℕ) → n ≢ 0 → one_if (is_none m && (n == 0)) ≡ 0
idle_held m n h = (λ j. one_if (is_none m && ne_eqb n 0 h j)) ∙ off (is_none m)
  where
    off : (b : Bool) → one_if (b && false) ≡ 0
    off true = refl
    off false = refl

-- What an event changes, and that it balances: the part and grant of ring r, slot k, and cells
pub record Moves (o : CoreOpening) (c d : State) (r k v : ℕ) (g : Bool) (p : Part) : Type 0 where
  pub ring : r < o.rings
  pub place : k < slots o
  pub part_here : d.part r ≡ p
  pub part_else : (i : ℕ) → i ≢ r → d.part i ≡ c.part i
  pub granted_here : d.granted r ≡ g
  pub granted_else : (i : ℕ) → i ≢ r → d.granted i ≡ c.granted i
  pub slot_here : d.slot k ≡ v
  pub slot_else : (i : ℕ) → i ≢ k → d.slot i ≡ c.slot i
  pub balance : (b : ℕ) → b ≢ 0 → count_at (d.cell b) + (reach o (c.granted r) (c.part r).held b + one_if (c.slot k == b)) ≡ count_at (c.cell b) + (reach o g p.held b + one_if (v == b))
  pub waits : (b : ℕ) → idle_at (d.cell b) + times_at b (c.part r).waiting ≡ idle_at (c.cell b) + times_at b p.waiting
  pub making : (a : ℕ) (x : Cell) (i : ℕ) → d.cell a ≡ Some x → x.maker ≡ Some i → (x.count ≡ 0) × (i < o.rings)
  pub makes_here : (b : ℕ) → times_at b p.making ≡ one_if (is_ring r (maker_at (d.cell b)))
  pub makes_else : (i b : ℕ) → i ≢ r → one_if (is_ring i (maker_at (d.cell b))) ≡ one_if (is_ring i (maker_at (c.cell b)))
  pub nowhere : d.cell 0 ≡ None
  pub address : times_at 0 p.held ≡ 0
  pub few : p.shared ≤ MAX_SHARES
  pub bounded : (b : ℕ) → (count_at (d.cell b) ≤ o.rings) ⊎ (count_at (d.cell b) + (c.part r).shared ≤ count_at (c.cell b) + p.shared)
  pub named : p.ring ≡ r

pub counts_moved : (o : CoreOpening) (c d : State) (r k v : ℕ) (g : Bool) (p : Part) → Counts o c → Moves o c d r k v g p → Counts o d
counts_moved o c d r k v g p s m = record {
  counts = λ b nz.
      let F : ℕ → ℕ = λ i. reach o (c.granted i) (c.part i).held b in
      let G : ℕ → ℕ = λ i. reach o (d.granted i) (d.part i).held b in
      let x = below_put o.rings r F G m.ring (λ i n. let e = m.part_else i n in let h = m.granted_else i n in (λ j. reach o (h j) (e j).held b)) in
      let y = below_put (slots o) k (λ i. one_if (c.slot i == b)) (λ i. one_if (d.slot i == b)) m.place (λ i n. let e = m.slot_else i n in (λ j. one_if (e j == b))) in
      let e1 = m.part_here in let e2 = m.granted_here in let e3 = m.slot_here in
      let here : G r ≡ reach o g p.held b = (λ j. reach o (e2 j) (e1 j).held b) in
      let slot : one_if (d.slot k == b) ≡ one_if (v == b) = (λ j. one_if (e3 j == b)) in
      let old = s.counts b nz in
      let bal = m.balance b nz in
      numbers (count_at (d.cell b)) (count_at (c.cell b)) (F r) (one_if (c.slot k == b)) (reach o g p.held b) (one_if (v == b)) (G r) (one_if (d.slot k == b))
      (below o.rings F) (below o.rings G) (below (slots o) (λ i. one_if (c.slot i == b))) (below (slots o) (λ i. one_if (d.slot i == b))) bal here slot x y old;
  waits = λ b.
      let x = below_put o.rings r (λ i. times_at b (c.part i).waiting) (λ i. times_at b (d.part i).waiting) m.ring (λ i n. let e = m.part_else i n in (λ j. times_at b (e j).waiting)) in
      let e1 = m.part_here in
      let here : times_at b (d.part r).waiting ≡ times_at b p.waiting = (λ j. times_at b (e1 j).waiting) in
      let old = s.waits b in
      let w = m.waits b in
      waitings (idle_at (d.cell b)) (idle_at (c.cell b)) (times_at b (c.part r).waiting) (times_at b p.waiting) (times_at b (d.part r).waiting) (below o.rings (λ i. times_at b (c.part i).waiting)) (below o.rings (λ i. times_at b (d.part i).waiting)) w here x old;
  making = m.making;
  makes = λ i b lt. dite (ℕ_discrete i r)
      (λ e. (λ j. times_at b (d.part (e j)).making) ∙ ap (λ (q : Part). times_at b q.making) m.part_here ∙ m.makes_here b ∙ (λ j. one_if (is_ring (sym e j) (maker_at (d.cell b)))))
      (λ n. ap (λ (q : Part). times_at b q.making) (m.part_else i n) ∙ s.makes i b lt ∙ sym (m.makes_else i b n));
  nowhere = m.nowhere;
  addresses = λ i. each (λ (q : Part). times_at 0 q.held ≡ 0) i m.address (s.addresses i);
  few = λ i. each (λ (q : Part). q.shared ≤ MAX_SHARES) i m.few (s.few i);
  bounded = λ b.
      let x = below_put o.rings r (λ i. (c.part i).shared) (λ i. (d.part i).shared) m.ring (λ i n. let e = m.part_else i n in (λ j. (e j).shared)) in
      let e1 = m.part_here in
      let here : (d.part r).shared ≡ p.shared = (λ j. (e1 j).shared) in
      let old = s.bounded b in
      ⊎_elim (λ (q : count_at (d.cell b) ≤ o.rings). omega arith) (λ (q : count_at (d.cell b) + (c.part r).shared ≤ count_at (c.cell b) + p.shared). bounds (count_at (d.cell b)) (count_at (c.cell b)) (c.part r).shared p.shared (d.part r).shared o.rings (below o.rings (λ i. (c.part i).shared)) (below o.rings (λ i. (d.part i).shared)) q here x old) (m.bounded b);
  named = λ i. dite (ℕ_discrete i r) (λ e. ap (λ (j : ℕ). (d.part j).ring) e ∙ ap (λ (q : Part). q.ring) m.part_here ∙ m.named ∙ sym e) (λ n. ap (λ (q : Part). q.ring) (m.part_else i n) ∙ s.named i);
}
  where
    each : (P : Part → Type 0) (i : ℕ) → P p → P (c.part i) → P (d.part i)
    each P i hit miss = dite (ℕ_discrete i r) (λ e. subst P (sym (ap d.part e ∙ m.part_here)) hit) (λ n. subst P (sym (m.part_else i n)) miss)

    numbers : (nd nc fr sc rp sv gr sd F G S T : ℕ) → nd + (fr + sc) ≡ nc + (rp + sv) → gr ≡ rp → sd ≡ sv → G + fr ≡ F + gr → T + sc ≡ S + sd → nc ≡ F + S → nd ≡ G + T
    numbers nd nc fr sc rp sv gr sd F G S T a b c' d' e f = omega arith

    waitings : (nd nc fr rp gr F G : ℕ) → nd + fr ≡ nc + rp → gr ≡ rp → G + fr ≡ F + gr → F ≡ nc → G ≡ nd
    waitings nd nc fr rp gr F G a b c' d' = omega arith

    bounds : (nd nc fr rp gr R F G : ℕ) → nd + fr ≤ nc + rp → gr ≡ rp → G + fr ≡ F + gr → nc ≤ R + F → nd ≤ R + G
    bounds nd nc fr rp gr R F G a b c' d' = omega arith

-- numbers of two digits are below the bound of both
two_below : (q n d p : ℕ) → q < n → p < d → q * d + p < n * d
two_below q n d p a b = let m : suc q * d ≤ n * d = mul-le-mul_right d a in let s = suc-mul q d in omega arith

pub slot_below : (o : CoreOpening) (i j k p : ℕ) → i < o.rings → j < o.rings → k < 4 → p < o.depth → slot_of o i j k p < slots o
slot_below o i j k p a b t u = let n : ℕ = o.rings in let m = two_below i n n j a b in two_below (4 * (i * n + j) + k) (4 * (n * n)) o.depth p (omega arith) u

pub slots_some : (o : CoreOpening) → IsCoreOpening o → 0 < slots o
slots_some o op = let q = slot_below o 0 0 0 0 op.some_ring op.some_ring (omega arith) op.some_slot in omega arith

-- What a ring holds, what a slot has and what waits

module _ (o : CoreOpening) (c : State) (s : Counts o c) where
  some_cell : (q : Option Cell) → 0 < count_at q → (x : Cell) × (q ≡ Some x) × (x.count ≡ count_at q)
  some_cell None h = absurd (omega arith)
  some_cell (Some x) h = (x, refl, refl)

  -- a cell with a count is open
  pub counted_open : (a : ℕ) (x : Cell) → c.cell a ≡ Some x → 0 < x.count → x.maker ≡ None
  counted_open a x is h = ⊎_elim (λ (e : x.maker ≡ None). e) (λ (t : (r : ℕ) × (x.maker ≡ Some r)). absurd (let q = (s.making a x t.0 is t.1).0 in omega arith)) (maker_cases x.maker)

  pub counted_cell : (a : ℕ) → a ≢ 0 → 0 < counted o c a → (x : Cell) × (c.cell a ≡ Some x) × (x.count ≡ counted o c a) × (x.maker ≡ None)
  counted_cell a nz h =
      let e = s.counts a nz in
      let t = some_cell (c.cell a) (omega arith) in
      let n = t.2 in
      (t.0, t.1, n ∙ e, counted_open a t.0 t.1 (omega arith))

  pub held_counted : (r a : ℕ) → r < o.rings → 0 < times_at a (c.part r).held → (a ≢ 0) × (0 < counted o c a)
  held_counted r a lt h =
      let le = below_at o.rings r (λ i. reach o (c.granted i) (c.part i).held a) lt in
      ((λ e. let z = s.addresses r in let q : times_at a (c.part r).held ≡ times_at 0 (c.part r).held = ap (λ (b : ℕ). times_at b (c.part r).held) e in omega arith), omega arith)

  -- what a ring holds is an open cell
  pub held_cell : (r a : ℕ) → r < o.rings → 0 < times_at a (c.part r).held → (x : Cell) × (c.cell a ≡ Some x) × (x.count ≡ counted o c a) × (x.maker ≡ None)
  held_cell r a lt h = let t = held_counted r a lt h in counted_cell a t.0 t.1

  pub slot_cell : (k : ℕ) → k < slots o → c.slot k ≢ 0 → (x : Cell) × (c.cell (c.slot k) ≡ Some x) × (0 < x.count) × (x.maker ≡ None)
  slot_cell k lt nz =
      let a : ℕ = c.slot k in
      let le = below_at (slots o) k (λ i. one_if (c.slot i == a)) lt in
      let e : one_if (c.slot k == a) ≡ 1 = ap one_if (eq-eqb a a refl) in
      let t = counted_cell a nz (omega arith) in
      (t.0, t.1, (let q = t.2 in omega arith), t.3)

  idle_cell : (q : Option Cell) → 0 < idle_at q → (x : Cell) × (q ≡ Some x) × (x.count ≡ 0) × (x.maker ≡ None)
  idle_cell None h = absurd (omega arith)
  idle_cell (Some x) h = (
    x,
    refl,
    dite (ℕ_discrete x.count 0) (λ e. e) (λ n. absurd (let z = idle_held x.maker x.count n in omega arith)),
    ⊎_elim (λ (e : x.maker ≡ None). e) (λ (t : (r : ℕ) × (x.maker ≡ Some r)). absurd (let z = idle_made x t.0 t.1 in omega arith)) (maker_cases x.maker),
  )

  -- what waits is an open cell with count 0
  pub waiting_cell : (r a : ℕ) → r < o.rings → 0 < times_at a (c.part r).waiting → (x : Cell) × (c.cell a ≡ Some x) × (x.count ≡ 0) × (x.maker ≡ None)
  waiting_cell r a lt h =
      let le = below_at o.rings r (λ i. times_at a (c.part i).waiting) lt in
      let e = s.waits a in
      idle_cell (c.cell a) (omega arith)

-- Start cells stay if open cells that are counted keep their clauses

pub starts_kept : (o : CoreOpening) (c d : State) → IsCoreOpening o → Counts o c → StartsOpen o c
    → ((i : ℕ) → d.granted i ≡ false → c.granted i ≡ false)
    → ((a : ℕ) (x : Cell) → c.cell a ≡ Some x → x.maker ≡ None → 0 < x.count → (y : Cell) × (d.cell a ≡ Some y) × (y.maker ≡ None) × (y.number ≡ x.number) × (y.lits ≡ x.lits))
    → StartsOpen o d
starts_kept o c d op s starts grants cells r lt open_now =
    let was = grants r open_now in
    all_map (IsOpenCopy c.cell) (IsOpenCopy d.cell) o.starts
    (λ t i h.
    let a : ℕ = t.address in
    let nz = all_in (λ (q : ClauseAt). q.address ≢ 0) o.starts t i op.placed in
    let some = at_in o.starts t i in
    let le = below_at o.rings r (λ j. reach o (c.granted j) (c.part j).held a) lt in
    let g : cond (c.granted r) 0 (times_at a o.starts) ≡ times_at a o.starts = ap (λ (b : Bool). cond b 0 (times_at a o.starts)) was in
    let e = s.counts a nz in
    let n : count_at (c.cell a) ≡ h.0.count = ap count_at h.1 in
    let k = cells a h.0 h.1 h.2 (omega arith) in
    (k.0, k.1, k.2, k.3 ∙ h.3, k.4 ∙ h.4))
    (starts r lt was)
