-- Tickets, as events come.
use Rattle.std.proofs.Common.{◌≡◌, ℕ, zero, suc, ◌+◌, ◌<◌, ◌≤◌, ◌==◌, ◌&&◌, Bool, true, false, cond, List, [], ◌∷◌, ◌++◌, map, length, refl, sym, ap, ◌∙◌, ⊎_elim, arith, eq-eqb, true≢false, length-append}
use Rattle.std.specs.Prelude.{nat_lt, min}
use Rattle.std.proofs.Math.Nat.{min-eq_left, min-eq_right, min-le_right}
use Rattle.std.proofs.lemmas.Bool.Decides.{leb_tells}
use Rattle.std.proofs.lemmas.List.{map-append}
use Rattle.sat_words.specs.Literal.{Literal}
use Rattle.rup_model.specs.declared.journal.Kind.{Kind}
use Rattle.rup_model.specs.declared.journal.Kind.TheVariants.{Ruler, Learn, Derive, UnitLine}
use Rattle.rup_model.specs.declared.journal.Addition.{Addition}
use Rattle.rup_model.specs.declared.journal.Entry.{Entry}
use Rattle.rup_model.specs.declared.journal.Entry.TheVariants.{Add}
use Rattle.rup_model.specs.Basics.{put, below, one_if}
use Rattle.rup_model.specs.Journal.{learned, is_learn}
use Rattle.rup_model.proofs.Additions.{learned-append}
use Rattle.rup_model.proofs.Sums.{at_put, put_here, put_else, below_same, below_put, below_none, below_most}
use Rattle.share_core.specs.State.{CoreOpening, Placed, Part, blank}
use Rattle.share_core.specs.Learning.{ticket_after}
use Rattle.share_core.specs.Events.{drew_part}
use Rattle.share_core.specs.Sound.{tickets_of, TicketsSound}

-- What an entry adds to what a ring learned

learned_last : (r : ℕ) (w : List Placed) (x : Placed) → length (learned r (map (λ (q : Placed). q.entry) (w ++ x ∷ []))) ≡ length (learned r (map (λ (q : Placed). q.entry) w)) + length (learned r (x.entry ∷ []))
learned_last r w x =
    let old : List Entry = map (λ (q : Placed). q.entry) w in
    ap (λ (J : List Entry). length (learned r J)) (map-append (λ (q : Placed). q.entry) w (x ∷ []))
    ∙ ap (λ (cs : List (List Literal)). length cs) (learned-append r old (x.entry ∷ []))
    ∙ length-append (learned r old) (learned r (x.entry ∷ []))

learns_one : (r : ℕ) (x : Addition) → x.ring ≡ r → length (learned r (Add x ∷ [])) ≡ one_if (is_learn x.kind)
learns_one r x e = by (x.ring == r) (is_learn x.kind) (eq-eqb x.ring r e)
  where
    by : (a b : Bool) → a ≡ true → length (map (λ (y : Addition). y.lits) (cond (a && b) (x ∷ []) [])) ≡ one_if b
    by true true h = refl
    by true false h = refl
    by false b h = absurd (true≢false (sym h))

-- a ticket is used up exactly by learning
spends : (kind : Kind) (t : Bool) → (is_learn kind ≡ true → t ≡ true) → one_if (is_learn kind) + one_if (ticket_after kind t) ≡ one_if t
spends Ruler t h = omega arith
spends Learn t h = let e : one_if t ≡ 1 = ap one_if (h refl) in omega arith
spends Derive t h = omega arith
spends UnitLine t h = omega arith

still_there : (kind : Kind) (t : Bool) → ticket_after kind t ≡ true → t ≡ true
still_there Ruler t h = h
still_there Learn t h = absurd (true≢false (sym h))
still_there Derive t h = h
still_there UnitLine t h = h

-- Parts that change

module _ (o : CoreOpening) (drawn : ℕ) (part : ℕ → Part) (r : ℕ) (p : Part) (h : TicketsSound o drawn part) where
  -- neither tickets nor what was learned
  pub tickets_put : tickets_of r p ≡ tickets_of r (part r) → p.found ≡ (part r).found → (p.ticket ≡ true → (part r).ticket ≡ true) → TicketsSound o drawn (put part r p)
  tickets_put same found hand =
      let founds : (i : ℕ) → (put part r p i).found ≡ (part i).found = λ i. at_put part r p (λ (q : Part). q.found ≡ (part i).found) i (λ e. found ∙ ap (λ (k : ℕ). (part k).found) (sym e)) (λ ne. refl) in
      record {
        used = below_same o.rings (λ i. tickets_of i (part i)) (λ i. tickets_of i (put part r p i))
            (λ i lt. at_put part r p (λ (q : Part). tickets_of i q ≡ tickets_of i (part i)) i (λ e. (λ j. tickets_of (e j) p) ∙ same ∙ (λ j. tickets_of (sym e j) (part (sym e j)))) (λ ne. refl))
            ∙ h.used;
        gone =
            let k = below_same o.rings (λ i. one_if (nat_lt o.limit (part i).found)) (λ i. one_if (nat_lt o.limit (put part r p i).found)) (λ i lt. ap (λ (n : ℕ). one_if (nat_lt o.limit n)) (founds i)) in
            let g = h.gone in omega arith;
        found = λ i. (let q = h.found i in let e = founds i in omega arith);
        in_hand = λ i. at_put part r p (λ (q : Part). q.ticket ≡ true → q.found ≤ o.limit) i (λ e t. (let k = h.in_hand r (hand t) in omega arith)) (λ ne t. h.in_hand i t);
      }

  -- an addition by the ring
  pub tickets_added : (n : ℕ) (x : Addition) → x.ring ≡ r → (is_learn x.kind ≡ true → (part r).ticket ≡ true)
      → p.wrote ≡ (part r).wrote ++ record { place = n; entry = Add x } ∷ [] → p.ticket ≡ ticket_after x.kind (part r).ticket → p.found ≡ (part r).found → TicketsSound o drawn (put part r p)
  tickets_added n x own has wrote ticket found = tickets_put
      (let e : Placed = record { place = n; entry = Add x } in
      let a = ap (λ (w : List Placed). length (learned r (map (λ (q : Placed). q.entry) w))) wrote ∙ learned_last r (part r).wrote e in
      let b = learns_one r x own in
      let c = ap one_if ticket in
      let d = spends x.kind (part r).ticket has in omega arith)
      found
      (λ t. still_there x.kind (part r).ticket (sym ticket ∙ t))

  -- another entry of the ring
  pub tickets_noted : (n : ℕ) (e : Entry) → length (learned r (e ∷ [])) ≡ 0 → p.wrote ≡ (part r).wrote ++ record { place = n; entry = e } ∷ [] → p.ticket ≡ (part r).ticket → p.found ≡ (part r).found → TicketsSound o drawn (put part r p)
  tickets_noted n e none wrote ticket found = tickets_put
      (let x : Placed = record { place = n; entry = e } in
      let a = ap (λ (w : List Placed). length (learned r (map (λ (q : Placed). q.entry) w))) wrote ∙ learned_last r (part r).wrote x in
      let c = ap one_if ticket in omega arith)
      found
      (λ t. sym ticket ∙ t)

-- Drawing

min_more : (d n : ℕ) → min (d + 1) n ≡ min d n + one_if (nat_lt d n)
min_more d n = ⊎_elim
    (λ t. let le = t.1 in
    let a : min (d + 1) n ≡ d + 1 = min-eq_left (omega (arith, le)) in
    let b : min d n ≡ d = min-eq_left (omega (arith, le)) in
    let c : one_if (nat_lt d n) ≡ 1 = ap one_if t.0 in omega arith)
    (λ t. let lt = t.1 in
    let a : min (d + 1) n ≡ n = min-eq_right (omega (arith, lt)) in
    let b : min d n ≡ n = min-eq_right (omega (arith, lt)) in
    let c : one_if (nat_lt d n) ≡ 0 = ap one_if t.0 in omega arith)
    (leb_tells (suc d) n)

-- whoever draws finds one left, or none
either : (d n : ℕ) → one_if (nat_lt d n) + one_if (nat_lt n (d + 1)) ≡ 1
either d n = ⊎_elim
    (λ t. let le = t.1 in ⊎_elim (λ u. let gt = u.1 in absurd (omega (arith, le, gt))) (λ u. let b : one_if (nat_lt n (d + 1)) ≡ 0 = ap one_if u.0 in let a : one_if (nat_lt d n) ≡ 1 = ap one_if t.0 in omega arith) (leb_tells (suc n) (d + 1)))
    (λ t. let lt = t.1 in ⊎_elim (λ u. let b : one_if (nat_lt n (d + 1)) ≡ 1 = ap one_if u.0 in let a : one_if (nat_lt d n) ≡ 0 = ap one_if t.0 in omega arith) (λ u. let le = u.1 in absurd (omega (arith, lt, le))) (leb_tells (suc n) (d + 1)))
    (leb_tells (suc d) n)

not_past : (n f : ℕ) → f ≤ n → one_if (nat_lt n f) ≡ 0
not_past n f le = ⊎_elim (λ t. let gt = t.1 in absurd (omega (arith, le, gt))) (λ t. ap one_if t.0) (leb_tells (suc n) f)

below_of : (d n : ℕ) → nat_lt d n ≡ true → d < n
below_of d n h = ⊎_elim (λ t. t.1) (λ t. absurd (true≢false (sym h ∙ t.0))) (leb_tells (suc d) n)

pub tickets_drawn : (o : CoreOpening) (drawn : ℕ) (part : ℕ → Part) (r : ℕ) → TicketsSound o drawn part → r < o.rings → (part r).ticket ≡ false → (part r).found ≤ o.limit
    → TicketsSound o (drawn + 1) (put part r (drew_part o.limit drawn (part r)))
tickets_drawn o drawn part r h lt none few =
    let p : Part = drew_part o.limit drawn (part r) in
    let here : put part r p r ≡ p = put_here part r p in
    let m = min_more drawn o.limit in
    record {
      used =
          (let F : ℕ → ℕ = λ i. tickets_of i (part i) in
          let G : ℕ → ℕ = λ i. tickets_of i (put part r p i) in
          let b = below_put o.rings r F G lt (λ i ne. ap (tickets_of i) (put_else part r p i ne)) in
          let g : G r ≡ tickets_of r p = ap (tickets_of r) here in
          let z : one_if (part r).ticket ≡ 0 = ap one_if none in
          let u = h.used in omega arith);
      gone =
          (let F : ℕ → ℕ = λ i. one_if (nat_lt o.limit (part i).found) in
          let G : ℕ → ℕ = λ i. one_if (nat_lt o.limit (put part r p i).found) in
          let b = below_put o.rings r F G lt (λ i ne. ap (λ (q : Part). one_if (nat_lt o.limit q.found)) (put_else part r p i ne)) in
          let g : G r ≡ one_if (nat_lt o.limit (drawn + 1)) = ap (λ (q : Part). one_if (nat_lt o.limit q.found)) here in
          let f : F r ≡ 0 = not_past o.limit (part r).found few in
          let e = either drawn o.limit in
          let u = h.gone in omega arith);
      found = λ i. at_put part r p (λ (q : Part). q.found ≤ drawn + 1) i (λ _. omega arith) (λ _. (let q = h.found i in omega arith));
      in_hand = λ i. at_put part r p (λ (q : Part). q.ticket ≡ true → q.found ≤ o.limit) i (λ _ t. (let k = below_of drawn o.limit t in omega arith)) (λ _ t. h.in_hand i t);
    }

-- At the opening

pub tickets_none : (o : CoreOpening) → TicketsSound o 0 blank
tickets_none o = record {
  used = below_none o.rings (λ i. tickets_of i (blank i)) (λ i lt. refl) ∙ sym (min-eq_left (omega arith));
  gone = (let a = below_none o.rings (λ i. one_if (nat_lt o.limit (blank i).found)) (λ i lt. not_past o.limit 0 (omega arith)) in let b : min 0 o.limit ≡ 0 = min-eq_left (omega arith) in omega arith);
  found = λ i. omega arith;
  in_hand = λ i t. absurd (true≢false (sym t));
}

-- What they come to

-- if each ring found none left, as many clauses were learned as the limit allows
pub all_used : (o : CoreOpening) (drawn : ℕ) (part : ℕ → Part) → TicketsSound o drawn part → 0 < o.rings → ((r : ℕ) → r < o.rings → o.limit < (part r).found)
    → below o.rings (λ r. length (learned r (map (λ (w : Placed). w.entry) (part r).wrote))) ≡ o.limit
all_used o drawn part h ring past =
    let first = past 0 ring in
    let most = h.found 0 in
    let m : min drawn o.limit ≡ o.limit = min-eq_right (omega (arith, first, most)) in
    let idle : (r : ℕ) → r < o.rings → (part r).ticket ≡ false = λ r lt. not_true (part r).ticket (λ t. let a = h.in_hand r t in let b = past r lt in omega (arith, a, b)) in
    below_same o.rings (λ r. tickets_of r (part r)) (λ r. length (learned r (map (λ (w : Placed). w.entry) (part r).wrote))) (λ r lt. (let z : one_if (part r).ticket ≡ 0 = ap one_if (idle r lt) in omega arith))
    ∙ h.used ∙ m
  where
    not_true : (b : Bool) → (b ≡ true → ⊥) → b ≡ false
    not_true true f = absurd (f refl)
    not_true false f = refl

-- no more clauses are learned than the limit
pub few_used : (o : CoreOpening) (drawn : ℕ) (part : ℕ → Part) → TicketsSound o drawn part → below o.rings (λ r. length (learned r (map (λ (w : Placed). w.entry) (part r).wrote))) ≤ o.limit
few_used o drawn part h =
    let u = h.used in
    let m = min-le_right drawn o.limit in
    let l = fewer o.rings in omega (arith, u, m, l)
  where
    fewer : (n : ℕ) → below n (λ r. length (learned r (map (λ (w : Placed). w.entry) (part r).wrote))) ≤ below n (λ r. tickets_of r (part r))
    fewer zero = omega arith
    fewer (suc n) = let l = fewer n in omega (arith, l)

-- no more are drawn than the limit and the number of rings
pub few_drawn : (o : CoreOpening) (drawn : ℕ) (part : ℕ → Part) → TicketsSound o drawn part → drawn ≤ o.limit + o.rings
few_drawn o drawn part h =
    let g = h.gone in
    let most = below_most o.rings 1 (λ r. one_if (nat_lt o.limit (part r).found)) (λ r. at_most_one (nat_lt o.limit (part r).found)) in
    let m = min-le_right drawn o.limit in omega (arith, g, most, m)
  where
    at_most_one : (b : Bool) → one_if b ≤ 1
    at_most_one true = omega arith
    at_most_one false = omega arith
