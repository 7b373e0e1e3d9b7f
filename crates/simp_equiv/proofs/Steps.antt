-- The steps of the search keep its invariant.
use Rattle.std.proofs.Common.{◌≡◌, ◌≢◌, ℕ, ◌+◌, ◌<◌, ◌≤◌, zero, suc, List, [], ◌∷◌, length, refl, sym, ap, subst, ◌∙◌, inl, inr, ◌⊎◌, arith}
use Rattle.std.specs.List.{slice_index_or}
use Rattle.std.proofs.lemmas.Bool.{cases_lt, cases_eq, cases_order}
use Rattle.simp_equiv.specs.Graphs.{targets, Edge, Walk, Reaches, Connected}
use Rattle.simp_equiv.specs.Searches.{Settled, is_closed, is_open, InCharge, Governed, Searching, first_frame}
use Rattle.simp_equiv.specs.declared.components.Mark.{Mark}
use Rattle.simp_equiv.specs.declared.components.Mark.TheVariants.{New, Open, Closed}
use Rattle.simp_equiv.specs.declared.components.StackFrame.{StackFrame}
use Rattle.simp_equiv.proofs.Ways.{stay, chain, along}

-- What settled nodes need

pub settled_lower : (m : ℕ → Mark) (low lower y : ℕ) → lower ≤ low → Settled m low y → Settled m lower y
settled_lower m low lower y le (is_closed c e) = is_closed c e
settled_lower m low lower y le (is_open q e h) = is_open q e (omega arith)

-- marks that only go forward
abbrev pub Forward : (ℕ → Mark) → (ℕ → Mark) → Type 0
Forward m n = (low y : ℕ) → Settled m low y → Settled n low y

pub charge_forward : (G : List (List ℕ)) (m n : ℕ → Mark) (at to : ℕ → ℕ) (f : StackFrame) (top : ℕ) → Forward m n → ((p : ℕ) → p < top → to p ≡ at p) → InCharge G m at f top → InCharge G n to f top
charge_forward G m n at to f top go same c = record {
  here = same f.place c.within ∙ c.here;
  within = c.within;
  low_place = c.low_place;
  low_reached = subst (λ (x : ℕ). Reaches (Edge G) f.node x) (sym (same f.low (let a = c.low_place in let b = c.within in omega arith))) c.low_reached;
  taken = λ i y h k e. go f.low y (c.taken i y h k e);
  done = λ p a b y e. go f.low y (c.done p a b y (subst (λ (x : ℕ). Edge G x y) (same p b) e));
  lower = λ p a b. let t = c.lower p a b in
      (t.0, t.1, subst (λ (x : ℕ). Reaches (Edge G) x (to t.0)) (sym (same p b)) (subst (λ (x : ℕ). Reaches (Edge G) (at p) x) (sym (same t.0 (let l = t.1 in omega arith))) t.2));
}

pub governed_forward : (G : List (List ℕ)) (m n : ℕ → Mark) (at to : ℕ → ℕ) (fs : List StackFrame) (top : ℕ) → Forward m n → ((p : ℕ) → p < top → to p ≡ at p) → Governed G m at fs top → Governed G n to fs top
governed_forward G m n at to [] top go same g = g
governed_forward G m n at to (f ∷ fs) top go same g =
    (charge_forward G m n at to f top go same g.0, governed_forward G m n at to fs f.place go (λ p h. same p (let a = h in let w = g.0.within in omega arith)) g.1)

-- From each place that the frame is in charge of its own is reached, and so from each lower one

below_reached : (G : List (List ℕ)) (m : ℕ → Mark) (at : ℕ → ℕ) (f : StackFrame) (top : ℕ) → InCharge G m at f top
    → ((p q : ℕ) → p ≤ q → q < top → Reaches (Edge G) (at p) (at q)) → (n p : ℕ) → p < n → p < top → Reaches (Edge G) (at p) (at f.place)
below_reached G m at f top c up zero p h lt = absurd (omega arith)
below_reached G m at f top c up (suc n) p h lt =
    elim (cases_lt f.place p) as (λ _. Reaches (Edge G) (at p) (at f.place)) [
      | inl above ↦ (let t = c.lower p above lt in
          let small : t.0 < n = let s = t.1 in omega arith in
          let low : t.0 < top = let s = t.1 in omega arith in
          chain (Edge G) (at p) (at t.0) (at f.place) t.2 (below_reached G m at f top c up n t.0 small low))
      | inr under ↦ up p f.place under c.within
    ]

pub all_reach : (G : List (List ℕ)) (m : ℕ → Mark) (at : ℕ → ℕ) (f : StackFrame) (fs : List StackFrame) (top closed : ℕ) → Searching G m at top (f ∷ fs) closed → (p : ℕ) → p < top → Reaches (Edge G) (at p) f.node
all_reach G m at f fs top closed s p lt =
    subst (λ (x : ℕ). Reaches (Edge G) (at p) x) s.governed.0.here (below_reached G m at f top s.governed.0 s.upwards (suc p) p (omega arith) lt)

-- A new node is put on the stack

-- marks and stack with one more node
pub record Grown (m n : ℕ → Mark) (at to : ℕ → ℕ) (top v : ℕ) : Type 0 where
  pub fresh : m v ≡ New
  pub marked : n v ≡ Open top
  pub others : (y : ℕ) → y ≢ v → n y ≡ m y
  pub placed : to top ≡ v
  pub under : (p : ℕ) → p < top → to p ≡ at p

grown_forward : (m n : ℕ → Mark) (at to : ℕ → ℕ) (top v : ℕ) → Grown m n at to top v → Forward m n
grown_forward m n at to top v g low y (is_closed c e) = is_closed c (g.others y (λ k. absurd (let h : New ≡ Closed c = sym g.fresh ∙ ap m (sym k) ∙ e in cc)) ∙ e)
grown_forward m n at to top v g low y (is_open q e h) = is_open q (g.others y (λ k. absurd (let h : New ≡ Open q = sym g.fresh ∙ ap m (sym k) ∙ e in cc)) ∙ e) h

open_node : (G : List (List ℕ)) (m n : ℕ → Mark) (at to : ℕ → ℕ) (top v : ℕ) (fs gs : List StackFrame) (closed : ℕ) → Grown m n at to top v
    → Searching G m at top fs closed → ((p : ℕ) → p < top → Reaches (Edge G) (at p) v) → Governed G n to gs top
    → Searching G n to (top + 1) (first_frame v top ∷ gs) closed
open_node G m n at to top v fs gs closed g s reach gov = record {
  placed = placed;
  marked = marked;
  upwards = upwards;
  governed = (fresh, gov);
  numbered = λ w c e. s.numbered w c (old w c e);
  downwards = λ w c e y k. let t = s.downwards w c (old w c e) y k in (t.0, g.others y (not_v y t.0 t.1) ∙ t.1, t.2);
  together = λ w x c e f. s.together w x c (old w c e) (old x c f);
}
  where
    not_v : (y d : ℕ) → m y ≡ Closed d → y ≢ v
    not_v y d e k = let h : New ≡ Closed d = sym g.fresh ∙ ap m (sym k) ∙ e in absurd (cc)

    old : (w c : ℕ) → n w ≡ Closed c → m w ≡ Closed c
    old w c e = sym (g.others w (λ k. let h : Open top ≡ Closed c = sym g.marked ∙ ap n (sym k) ∙ e in absurd (cc))) ∙ e

    placed : (w q : ℕ) → n w ≡ Open q → (q < top + 1) × (to q ≡ w)
    placed w q e =
        elim (cases_eq w v) as (λ _. (q < top + 1) × (to q ≡ w)) [
          | inl k ↦ (let same : Open q ≡ Open top = sym e ∙ ap n k ∙ g.marked in
              let eq : q ≡ top = cc in
              (omega arith, ap to eq ∙ g.placed ∙ sym k))
          | inr ne ↦ (let t = s.placed w q (sym (g.others w ne) ∙ e) in
              let lt : q < top = t.0 in
              (omega arith, g.under q lt ∙ t.1))
        ]

    marked : (q : ℕ) → q < top + 1 → n (to q) ≡ Open q
    marked q lt =
        elim (cases_lt q top) as (λ _. n (to q) ≡ Open q) [
          | inl h ↦ (let was = s.marked q h in
              ap n (g.under q h) ∙ g.others (at q) (λ k. let x : New ≡ Open q = sym g.fresh ∙ ap m (sym k) ∙ was in absurd (cc)) ∙ was)
          | inr h ↦ (let eq : q ≡ top = omega arith in ap n (ap to eq ∙ g.placed) ∙ g.marked ∙ ap Open (sym eq))
        ]

    upwards : (p q : ℕ) → p ≤ q → q < top + 1 → Reaches (Edge G) (to p) (to q)
    upwards p q le lt =
        elim (cases_lt q top) as (λ _. Reaches (Edge G) (to p) (to q)) [
          | inl h ↦ subst (λ (x : ℕ). Reaches (Edge G) x (to q)) (sym (g.under p (omega arith))) (subst (λ (x : ℕ). Reaches (Edge G) (at p) x) (sym (g.under q h)) (s.upwards p q le h))
          | inr h ↦ (let eq : q ≡ top = omega arith in
              elim (cases_lt p top) as (λ _. Reaches (Edge G) (to p) (to q)) [
                | inl k ↦ subst (λ (x : ℕ). Reaches (Edge G) x (to q)) (sym (g.under p k)) (subst (λ (x : ℕ). Reaches (Edge G) (at p) x) (sym (ap to eq ∙ g.placed)) (reach p k))
                | inr k ↦ (let pq : p ≡ q = omega arith in stay (Edge G) (to p) (to q) (ap to pq))
              ])
        ]

    fresh : InCharge G n to (first_frame v top) (top + 1)
    fresh = record {
      here = g.placed;
      within = omega arith;
      low_place = omega arith;
      low_reached = stay (Edge G) v (to top) (sym g.placed);
      taken = λ i y h. absurd (omega arith);
      done = λ p a b. absurd (omega arith);
      lower = λ p a b. absurd (omega arith);
    }

pub start_root : (G : List (List ℕ)) (m n : ℕ → Mark) (at to : ℕ → ℕ) (top v closed : ℕ) → Grown m n at to top v
    → Searching G m at top [] closed → Searching G n to (top + 1) (first_frame v top ∷ []) closed
start_root G m n at to top v closed g s = open_node G m n at to top v [] [] closed g s (λ p h. let e : top ≡ 0 = s.governed in absurd (omega arith)) s.governed

-- the frame with one more edge taken, and this low place
abbrev pub taken_on : StackFrame → ℕ → StackFrame
taken_on f low = record { node = f.node; place = f.place; next = f.next + 1; low = low }

-- one more edge
take_more : (G : List (List ℕ)) (m : ℕ → Mark) (f : StackFrame) (low v : ℕ) → low ≤ f.low
    → ((i y : ℕ) → i < f.next → i < length (targets G f.node) → slice_index_or (targets G f.node) i y ≡ y → Settled m f.low y)
    → v ≡ slice_index_or (targets G f.node) f.next v → Settled m low v
    → (i y : ℕ) → i < f.next + 1 → i < length (targets G f.node) → slice_index_or (targets G f.node) i y ≡ y → Settled m low y
take_more G m f low v le before here now i y h k e =
    elim (cases_lt i f.next) as (λ _. Settled m low y) [
      | inl lt ↦ settled_lower m f.low low y le (before i y lt k e)
      | inr ge ↦ (let eq : i ≡ f.next = omega arith in
          let one : v ≡ y = here ∙ ap (λ (j : ℕ). slice_index_or (targets G f.node) j v) (sym eq) ∙ same_place (targets G f.node) i v y k ∙ e in
          subst (λ (x : ℕ). Settled m low x) one now)
    ]
  where
    same_place : (xs : List ℕ) (i d e : ℕ) → i < length xs → slice_index_or xs i d ≡ slice_index_or xs i e
    same_place [] i d e h = absurd (omega arith)
    same_place (x ∷ xs) zero d e h = refl
    same_place (x ∷ xs) (suc i) d e h = same_place xs i d e (omega arith)

with_taken : (G : List (List ℕ)) (m : ℕ → Mark) (at : ℕ → ℕ) (f : StackFrame) (low top v : ℕ) → InCharge G m at f top → low ≤ f.low → Reaches (Edge G) f.node (at low)
    → v ≡ slice_index_or (targets G f.node) f.next v → Settled m low v → InCharge G m at (taken_on f low) top
with_taken G m at f low top v c le reach here now = record {
  here = c.here;
  within = c.within;
  low_place = let a = c.low_place in omega arith;
  low_reached = reach;
  taken = take_more G m f low v le c.taken here now;
  done = λ p a b y e. settled_lower m f.low low y le (c.done p a b y e);
  lower = c.lower;
}

pub meet_new : (G : List (List ℕ)) (m n : ℕ → Mark) (at to : ℕ → ℕ) (top v : ℕ) (f : StackFrame) (fs : List StackFrame) (closed : ℕ) → Grown m n at to top v
    → Searching G m at top (f ∷ fs) closed → f.next < length (targets G f.node) → v ≡ slice_index_or (targets G f.node) f.next v
    → Searching G n to (top + 1) (first_frame v top ∷ taken_on f f.low ∷ fs) closed
meet_new G m n at to top v f fs closed g s more here =
    let go = grown_forward m n at to top v g in
    let c = charge_forward G m n at to f top go g.under s.governed.0 in
    let low : f.low < top + 1 = let a = c.low_place in let b = c.within in omega arith in
    open_node G m n at to top v (f ∷ fs) (taken_on f f.low ∷ fs) closed g s
    (λ p h. chain (Edge G) (at p) f.node v (all_reach G m at f fs top closed s p h) (along (Edge G) f.node v (f.next, more, sym here))) (
      with_taken G n to f f.low top v c (omega arith) c.low_reached here (is_open top g.marked (omega arith)),
      governed_forward G m n at to fs f.place go (λ p h. g.under p (let w = c.within in omega arith)) s.governed.1,
    )

with_frames : (G : List (List ℕ)) (m : ℕ → Mark) (at : ℕ → ℕ) (top : ℕ) (fs gs : List StackFrame) (closed : ℕ) → Searching G m at top fs closed → Governed G m at gs top → Searching G m at top gs closed
with_frames G m at top fs gs closed s g = record {
  placed = s.placed;
  marked = s.marked;
  upwards = s.upwards;
  governed = g;
  numbered = s.numbered;
  downwards = s.downwards;
  together = s.together;
}

pub meet_open : (G : List (List ℕ)) (m : ℕ → Mark) (at : ℕ → ℕ) (top v q : ℕ) (f : StackFrame) (fs : List StackFrame) (closed : ℕ)
    → Searching G m at top (f ∷ fs) closed → f.next < length (targets G f.node) → v ≡ slice_index_or (targets G f.node) f.next v → m v ≡ Open q
    → (low : ℕ) → low ≤ f.low → low ≤ q → (low ≡ f.low) ⊎ (low ≡ q)
    → Searching G m at top (taken_on f low ∷ fs) closed
meet_open G m at top v q f fs closed s more here marked low le le_q which =
    let c = s.governed.0 in
    let reach : Reaches (Edge G) f.node (at low) = elim which as (λ _. Reaches (Edge G) f.node (at low)) [
      | inl e ↦ subst (λ (x : ℕ). Reaches (Edge G) f.node (at x)) (sym e) c.low_reached
      | inr e ↦ subst (λ (x : ℕ). Reaches (Edge G) f.node x) (sym (ap at e ∙ (s.placed v q marked).1)) (along (Edge G) f.node v (f.next, more, sym here))
    ] in
    with_frames G m at top (f ∷ fs) (taken_on f low ∷ fs) closed s (with_taken G m at f low top v c le reach here (is_open q marked le_q), s.governed.1)

pub meet_closed : (G : List (List ℕ)) (m : ℕ → Mark) (at : ℕ → ℕ) (top v d : ℕ) (f : StackFrame) (fs : List StackFrame) (closed : ℕ)
    → Searching G m at top (f ∷ fs) closed → v ≡ slice_index_or (targets G f.node) f.next v → m v ≡ Closed d
    → Searching G m at top (taken_on f f.low ∷ fs) closed
meet_closed G m at top v d f fs closed s here marked =
    let c = s.governed.0 in
    with_frames G m at top (f ∷ fs) (taken_on f f.low ∷ fs) closed s (with_taken G m at f f.low top v c (omega arith) c.low_reached here (is_closed d marked), s.governed.1)

-- A frame is finished

-- all edges from the places that the frame is in charge of
all_settled : (G : List (List ℕ)) (m : ℕ → Mark) (at : ℕ → ℕ) (f : StackFrame) (top : ℕ) → InCharge G m at f top → length (targets G f.node) ≤ f.next
    → (p : ℕ) → f.place ≤ p → p < top → (y : ℕ) → Edge G (at p) y → Settled m f.low y
all_settled G m at f top c over p le lt y e =
    elim (cases_lt f.place p) as (λ _. Settled m f.low y) [
      | inl above ↦ c.done p above lt y e
      | inr under ↦ (let eq : p ≡ f.place = omega arith in
          let own : Edge G f.node y = subst (λ (x : ℕ). Edge G x y) (ap at eq ∙ c.here) e in
          c.taken own.0 y (let l : own.0 < length (targets G f.node) = own.1 in omega arith) own.1 own.2)
    ]

abbrev pub with_low : StackFrame → ℕ → StackFrame
with_low f low = record { node = f.node; place = f.place; next = f.next; low = low }

-- into the one below
pub finish_into : (G : List (List ℕ)) (m : ℕ → Mark) (at : ℕ → ℕ) (top : ℕ) (f h : StackFrame) (fs : List StackFrame) (closed : ℕ)
    → Searching G m at top (f ∷ h ∷ fs) closed → length (targets G f.node) ≤ f.next → f.low < f.place
    → (low : ℕ) → low ≤ h.low → low ≤ f.low → (low ≡ h.low) ⊎ (low ≡ f.low)
    → Searching G m at top (with_low h low ∷ fs) closed
finish_into G m at top f h fs closed s over less low le_h le_f which =
    let c = s.governed.0 in
    let d = s.governed.1.0 in
    let up : Reaches (Edge G) h.node f.node = subst (λ (x : ℕ). Reaches (Edge G) x f.node) d.here (subst (λ (x : ℕ). Reaches (Edge G) (at h.place) x) c.here (s.upwards h.place f.place (let w = d.within in omega arith) c.within)) in
    with_frames G m at top (f ∷ h ∷ fs) (with_low h low ∷ fs) closed s (
      record {
        here = d.here;
        within = let a = d.within in let b = c.within in omega arith;
        low_place = let a = d.low_place in omega arith;
        low_reached = elim which as (λ _. Reaches (Edge G) h.node (at low)) [
          | inl e ↦ subst (λ (x : ℕ). Reaches (Edge G) h.node (at x)) (sym e) d.low_reached
          | inr e ↦ subst (λ (x : ℕ). Reaches (Edge G) h.node (at x)) (sym e) (chain (Edge G) h.node f.node (at f.low) up c.low_reached)
        ];
        taken = λ i y a b e. settled_lower m h.low low y le_h (d.taken i y a b e);
        done = λ p a b y e.
            elim (cases_lt p f.place) as (λ _. Settled m low y) [
              | inl lt ↦ settled_lower m h.low low y le_h (d.done p a lt y e)
              | inr ge ↦ settled_lower m f.low low y le_f (all_settled G m at f top c over p ge b y e)
            ];
        lower = λ p a b.
            elim (cases_order p f.place) as (λ _. (q : ℕ) × (q < p) × Reaches (Edge G) (at p) (at q)) [
              | inl e ↦ (f.low, omega arith, subst (λ (x : ℕ). Reaches (Edge G) x (at f.low)) (sym (ap at e ∙ c.here)) c.low_reached)
              | inr o ↦ elim o as (λ _. (q : ℕ) × (q < p) × Reaches (Edge G) (at p) (at q)) [
                | inl lt ↦ d.lower p a lt
                | inr gt ↦ c.lower p gt b
              ]
            ];
      },
      s.governed.1.1,
    )

-- a component is closed

pub record ClosedFrom (m n : ℕ → Mark) (place closed : ℕ) : Type 0 where
  pub above : (v q : ℕ) → m v ≡ Open q → place ≤ q → n v ≡ Closed closed
  pub kept : (v q : ℕ) → m v ≡ Open q → q < place → n v ≡ Open q
  pub other : (v : ℕ) → ((q : ℕ) → m v ≢ Open q) → n v ≡ m v

-- what a mark was
data Was (m n : ℕ → Mark) (place closed v : ℕ) : Type 0 where
  was_new : m v ≡ New → n v ≡ New → Was m n place closed v
  was_closed : (c : ℕ) → m v ≡ Closed c → n v ≡ Closed c → Was m n place closed v
  was_kept : (q : ℕ) → m v ≡ Open q → q < place → n v ≡ Open q → Was m n place closed v
  was_above : (q : ℕ) → m v ≡ Open q → place ≤ q → n v ≡ Closed closed → Was m n place closed v

what_was : (m n : ℕ → Mark) (place closed : ℕ) → ClosedFrom m n place closed → (v : ℕ) → Was m n place closed v
what_was m n place closed k v = by (m v) refl
  where
    by : (x : Mark) → m v ≡ x → Was m n place closed v
    by New e = was_new e (k.other v (λ q h. let x : New ≡ Open q = sym e ∙ h in absurd (cc)) ∙ e)
    by (Closed c) e = was_closed c e (k.other v (λ q h. let x : Closed c ≡ Open q = sym e ∙ h in absurd (cc)) ∙ e)
    by (Open q) e =
        elim (cases_lt q place) as (λ _. Was m n place closed v) [
          | inl lt ↦ was_kept q e lt (k.kept v q e lt)
          | inr ge ↦ was_above q e ge (k.above v q e ge)
        ]

pub close_component : (G : List (List ℕ)) (m n : ℕ → Mark) (at to : ℕ → ℕ) (top : ℕ) (f : StackFrame) (fs : List StackFrame) (closed : ℕ)
    → Searching G m at top (f ∷ fs) closed → length (targets G f.node) ≤ f.next → f.place ≤ f.low
    → ClosedFrom m n f.place closed → ((p : ℕ) → p < f.place → to p ≡ at p)
    → Searching G n to f.place fs (closed + 1)
close_component G m n at to top f fs closed s over high k same = record {
  placed = λ v q e. placed v q e (was v);
  marked = λ q h. ap n (same q h) ∙ k.kept (at q) q (s.marked q (let w = c.within in omega arith)) h;
  upwards = λ p q le h. subst (λ (x : ℕ). Reaches (Edge G) x (to q)) (sym (same p (omega arith))) (subst (λ (x : ℕ). Reaches (Edge G) (at p) x) (sym (same q h)) (s.upwards p q le (let w = c.within in omega arith)));
  governed = governed_forward G m n at to fs f.place forward same s.governed.1;
  numbered = λ v d e. numbered v d e (was v);
  downwards = λ v d e y edge. downwards v d e y edge (was v);
  together = λ v w d e g. together v w d e g (was v) (was w);
}
  where
    c : InCharge G m at f top
    c = s.governed.0

    was : (v : ℕ) → Was m n f.place closed v
    was = what_was m n f.place closed k

    forward : Forward m n
    forward low y (is_closed d e) = is_closed d (k.other y (λ q h. let x : Closed d ≡ Open q = sym e ∙ h in absurd (cc)) ∙ e)
    forward low y (is_open q e h) =
        elim (cases_lt q f.place) as (λ _. Settled n low y) [
          | inl lt ↦ is_open q (k.kept y q e lt) h
          | inr ge ↦ is_closed closed (k.above y q e ge)
        ]

    placed : (v q : ℕ) → n v ≡ Open q → Was m n f.place closed v → (q < f.place) × (to q ≡ v)
    placed v q e (was_new a b) = let x : New ≡ Open q = sym b ∙ e in absurd (cc)
    placed v q e (was_closed d a b) = let x : Closed d ≡ Open q = sym b ∙ e in absurd (cc)
    placed v q e (was_above r a g b) = let x : Closed closed ≡ Open q = sym b ∙ e in absurd (cc)
    placed v q e (was_kept r a lt b) =
        let x : Open r ≡ Open q = sym b ∙ e in
        let eq : r ≡ q = cc in
        let lt_q : q < f.place = subst (λ (z : ℕ). z < f.place) eq lt in
        (lt_q, same q lt_q ∙ ap at (sym eq) ∙ (s.placed v r a).1)

    numbered : (v d : ℕ) → n v ≡ Closed d → Was m n f.place closed v → d < closed + 1
    numbered v d e (was_new a b) = let x : New ≡ Closed d = sym b ∙ e in absurd (cc)
    numbered v d e (was_kept r a lt b) = let x : Open r ≡ Closed d = sym b ∙ e in absurd (cc)
    numbered v d e (was_closed r a b) =
        let x : Closed r ≡ Closed d = sym b ∙ e in
        let eq : r ≡ d = cc in
        let lt : r < closed = s.numbered v r a in
        omega arith
    numbered v d e (was_above r a g b) =
        let x : Closed closed ≡ Closed d = sym b ∙ e in
        let eq : closed ≡ d = cc in
        omega arith

    -- where an edge from the component leads
    from_component : (p y : ℕ) → f.place ≤ p → p < top → Edge G (at p) y → (d : ℕ) × (n y ≡ Closed d) × (d ≤ closed)
    from_component p y le lt edge = by (all_settled G m at f top c over p le lt y edge)
      where
        by : Settled m f.low y → (d : ℕ) × (n y ≡ Closed d) × (d ≤ closed)
        by (is_closed d e) = (d, k.other y (λ q h. let x : Closed d ≡ Open q = sym e ∙ h in absurd (cc)) ∙ e, (let lt' : d < closed = s.numbered y d e in omega arith))
        by (is_open q e h) = (closed, k.above y q e (omega arith), omega arith)

    downwards : (v d : ℕ) → n v ≡ Closed d → (y : ℕ) → Edge G v y → Was m n f.place closed v → (r : ℕ) × (n y ≡ Closed r) × (r ≤ d)
    downwards v d e y edge (was_new a b) = let x : New ≡ Closed d = sym b ∙ e in absurd (cc)
    downwards v d e y edge (was_kept r a lt b) = let x : Open r ≡ Closed d = sym b ∙ e in absurd (cc)
    downwards v d e y edge (was_closed r a b) =
        let x : Closed r ≡ Closed d = sym b ∙ e in
        let eq : r ≡ d = cc in
        let t = s.downwards v r a y edge in
        let le : t.0 ≤ r = t.2 in
        (t.0, k.other y (λ q h. let z : Closed t.0 ≡ Open q = sym t.1 ∙ h in absurd (cc)) ∙ t.1, omega arith)
    downwards v d e y edge (was_above r a g b) =
        let x : Closed closed ≡ Closed d = sym b ∙ e in
        let eq : closed ≡ d = cc in
        let p = s.placed v r a in
        let t = from_component r y g p.0 (subst (λ (z : ℕ). Edge G z y) (sym p.1) edge) in
        let le : t.0 ≤ closed = t.2 in
        (t.0, t.1, omega arith)

    together : (v w d : ℕ) → n v ≡ Closed d → n w ≡ Closed d → Was m n f.place closed v → Was m n f.place closed w → Reaches (Edge G) v w
    together v w d e g (was_new a b) z = let x : New ≡ Closed d = sym b ∙ e in absurd (cc)
    together v w d e g (was_kept r a lt b) z = let x : Open r ≡ Closed d = sym b ∙ e in absurd (cc)
    together v w d e g z (was_new a b) = let x : New ≡ Closed d = sym b ∙ g in absurd (cc)
    together v w d e g z (was_kept r a lt b) = let x : Open r ≡ Closed d = sym b ∙ g in absurd (cc)
    together v w d e g (was_closed r a b) (was_closed t a' b') =
        let x : Closed r ≡ Closed d = sym b ∙ e in
        let y : Closed t ≡ Closed d = sym b' ∙ g in
        let eq : t ≡ r = cc in
        s.together v w r a (a' ∙ ap Closed eq)
    together v w d e g (was_closed r a b) (was_above t a' h b') =
        let x : Closed r ≡ Closed d = sym b ∙ e in
        let y : Closed closed ≡ Closed d = sym b' ∙ g in
        let eq : r ≡ closed = cc in
        let lt : r < closed = s.numbered v r a in
        absurd (omega arith)
    together v w d e g (was_above r a h b) (was_closed t a' b') =
        let x : Closed closed ≡ Closed d = sym b ∙ e in
        let y : Closed t ≡ Closed d = sym b' ∙ g in
        let eq : t ≡ closed = cc in
        let lt : t < closed = s.numbered w t a' in
        absurd (omega arith)
    together v w d e g (was_above r a h b) (was_above t a' h' b') =
        let p = s.placed v r a in
        let q = s.placed w t a' in
        subst (λ (z : ℕ). Reaches (Edge G) z w) p.1 (subst (λ (z : ℕ). Reaches (Edge G) (at r) z) q.1
        (chain (Edge G) (at r) (at f.place) (at t)
        (subst (λ (z : ℕ). Reaches (Edge G) (at r) z) (sym c.here) (all_reach G m at f fs top closed s r p.0))
        (s.upwards f.place t h' q.0)))

-- The end: all are closed

pub reached_below : (G : List (List ℕ)) (m : ℕ → Mark) (at : ℕ → ℕ) (closed : ℕ) → Searching G m at 0 [] closed
    → (v w : ℕ) (js : List ℕ) → Walk (Edge G) v js w → (c : ℕ) → m v ≡ Closed c → (d : ℕ) × (m w ≡ Closed d) × (d ≤ c)
reached_below G m at closed s v w [] walk c e = (c, ap m (sym walk) ∙ e, omega arith)
reached_below G m at closed s v w (j ∷ js) walk c e =
    let t = s.downwards v c e j walk.0 in
    let r = reached_below G m at closed s j w js walk.1 t.0 t.1 in
    let a : t.0 ≤ c = t.2 in
    let b : r.0 ≤ t.0 = r.2 in
    (r.0, r.1, omega arith)

pub connected_same : (G : List (List ℕ)) (m : ℕ → Mark) (at : ℕ → ℕ) (closed : ℕ) → Searching G m at 0 [] closed
    → (v w c d : ℕ) → m v ≡ Closed c → m w ≡ Closed d → Connected (Edge G) v w → c ≡ d
connected_same G m at closed s v w c d e f r =
    let a = reached_below G m at closed s v w r.there.through r.there.walk c e in
    let b = reached_below G m at closed s w v r.back.through r.back.walk d f in
    let x : Closed a.0 ≡ Closed d = sym a.1 ∙ f in
    let y : Closed b.0 ≡ Closed c = sym b.1 ∙ e in
    let p : a.0 ≡ d = cc in
    let q : b.0 ≡ c = cc in
    let l : a.0 ≤ c = a.2 in
    let k : b.0 ≤ d = b.2 in
    omega arith

pub same_connected : (G : List (List ℕ)) (m : ℕ → Mark) (at : ℕ → ℕ) (closed : ℕ) → Searching G m at 0 [] closed
    → (v w c : ℕ) → m v ≡ Closed c → m w ≡ Closed c → Connected (Edge G) v w
same_connected G m at closed s v w c e f = record { there = s.together v w c e f; back = s.together w v c f e }
