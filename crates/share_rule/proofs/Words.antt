-- What one changed word leaves of the others.
use Rattle.std.proofs.Common.{◌≡◌, ◌≢◌, ◌⊎◌, ℕ, ◌+◌, ◌-◌, ◌*◌, ◌<◌, ◌≤◌, Bool, true, false, not, List, [], ◌∷◌, length, set, refl, sym, ap, ◌∙◌, subst, ⊎_elim, inl, inr, arith, length-set, get_or-set_other, get_or-set_same, ne_eqb, true≢false, Option, Some, None}
use Rattle.std.specs.Prelude.{slice_index, if◌then◌else◌}
use mathlib.Core.Logic.{dite}
use native.Mathlib.Decide.{ℕ_discrete}
use Rattle.sat_words.specs.Literal.{Literal}
use Rattle.clause_cell.specs.Packing.{words_for, pair_of}
use Rattle.rup_model.specs.Basics.{put, one_if}
use Rattle.rup_model.proofs.Sums.{put_here, put_else, at_put}
use Rattle.share_core.specs.declared.stored.Cell.{Cell}
use Rattle.share_core.specs.State.{State, number_at, lits_at, clause_at}
use Rattle.share_core.specs.declared.part.Part.{Part}
use Rattle.share_core.specs.Events.{with_count, recounted}
use Rattle.share_core.proofs.Counting.{some_same, none_some}
use Rattle.share_rule.specs.declared.Layout.{Layout}
use Rattle.share_rule.specs.Layout.{grant_at, unit_at, number_at as unit_number_at, slot_at, ticket_at, first_cell, cells_end}
use Rattle.share_rule.specs.Cells.{Spells}
use Rattle.clause_cell.specs.Packing.{lit_word, cell_word}
use Rattle.share_rule.specs.Seen.{Stands}
use Rattle.share_rule.specs.Layout.{InVars}
use Rattle.share_rule.specs.Room.{room, Places}
use Rattle.clause_cell.specs.Free.{range, is_within}
use Rattle.share_rule.specs.Shown.{Words, IsStored, StandsNext, UnitOut, Builds, ring_of}
use Rattle.share_rule.specs.declared.view.RingPart.{RingPart}
use Rattle.share_rule.proofs.Rooms.{within_is}
use Rattle.share_rule.specs.declared.view.StoredWord.{StoredWord}
use Rattle.share_rule.specs.Views.{stored_at}
use Rattle.share_rule.specs.Steps.{stored_else}
use Rattle.std.proofs.lemmas.Bool.Decides.{eqb_tells}

-- a word that is none of a cell's after its count
pub spells_else : (ws : List ℕ) (w v a number glue : ℕ) (lits : List Literal) → ((i : ℕ) → 0 < i → i < words_for (length lits) → w ≢ a + i) → Spells ws a number glue lits → Spells (set ws w v) a number glue lits
spells_else ws w v a number glue lits far s = record {
  number_is = get_or-set_other ws w (a + 1) v 0 (λ e. far 1 (omega arith) (omega arith) (sym e)) ∙ s.number_is;
  head_is = get_or-set_other ws w (a + 2) v 0 (λ e. far 2 (omega arith) (omega arith) (sym e)) ∙ s.head_is;
  lits_are = λ j lt. get_or-set_other ws w (a + 3 + j) v 0 (λ e. far (3 + j) (omega arith) (omega arith) (let q : w ≡ a + (3 + j) = omega arith in q)) ∙ s.lits_are j lt;
}

-- what is stored outside of a range
else_at : (a n w m : ℕ) (ss : List StoredWord) → stored_at w (stored_else a n ss) ≡ Some m → (stored_at w ss ≡ Some m) × (is_within a n w ≡ false)
else_at a n w m [] e = absurd (none_some m e)
else_at a n w m (s ∷ ss) e = by (else_at a n w m ss) (is_within a n s.place) refl
  where
    by : (stored_at w (stored_else a n ss) ≡ Some m → (stored_at w ss ≡ Some m) × (is_within a n w ≡ false)) → (b : Bool) → is_within a n s.place ≡ b → (stored_at w (s ∷ ss) ≡ Some m) × (is_within a n w ≡ false)
    by again true t =
        let r = again ((λ i. stored_at w (if sym t i then stored_else a n ss else s ∷ stored_else a n ss)) ∙ e) in
        ⊎_elim
        (λ u. absurd (true≢false (sym t ∙ ap (is_within a n) u.1 ∙ r.1)))
        (λ u. ((λ i. if u.0 i then Some s.word else stored_at w ss) ∙ r.0, r.1))
        (eqb_tells s.place w)
    by again false t =
        let e' : stored_at w (s ∷ stored_else a n ss) ≡ Some m = (λ i. stored_at w (if sym t i then stored_else a n ss else s ∷ stored_else a n ss)) ∙ e in
        ⊎_elim
        (λ u. ((λ i. if u.0 i then Some s.word else stored_at w ss) ∙ (λ i. if sym u.0 i then Some s.word else stored_at w (stored_else a n ss)) ∙ e', sym (ap (is_within a n) u.1) ∙ t))
        (λ u. let r = again ((λ i. if sym u.0 i then Some s.word else stored_at w (stored_else a n ss)) ∙ e') in ((λ i. if u.0 i then Some s.word else stored_at w ss) ∙ r.0, r.1))
        (eqb_tells s.place w)

-- words that are those of a cell spell it
pub spelled_by : (ws : List ℕ) (a number glue : ℕ) (lits : List Literal) → ((i : ℕ) → 0 < i → i < words_for (length lits) → slice_index ws (a + i) ≡ cell_word number glue lits i) → Spells ws a number glue lits
spelled_by ws a number glue lits h = record {
  number_is = h 1 (omega arith) (omega arith);
  head_is = h 2 (omega arith) (omega arith);
  lits_are = λ j lt. let w : a + 3 + j ≡ a + (3 + j) = omega arith in let z : 3 + j - 3 ≡ j = omega arith in
      ap (slice_index ws) w ∙ h (3 + j) (omega arith) (omega arith)
      ∙ (λ i. if ne_eqb (3 + j) 1 (λ e. omega arith) i then number else if ne_eqb (3 + j) 2 (λ e. omega arith) i then pair_of (length lits) glue else lit_word lits (3 + j - 3))
      ∙ ap (lit_word lits) z;
}

-- the clause of a cell stays if its count changes
pub clause_recounted : (c : State) (r a n : ℕ) (p : Part) (b : ℕ) → clause_at (recounted c r a n p) b ≡ clause_at c b
clause_recounted c r a n p b = at_put c.cell a (with_count n (c.cell a)) (λ (q : Option Cell). record { address = b; number = number_at q; lits = lits_at q } ≡ clause_at c b) b
    (λ e. let k = same (c.cell a) in (λ i. record { address = b; number = (k.0 ∙ ap number_at (ap c.cell (sym e))) i; lits = (k.1 ∙ ap lits_at (ap c.cell (sym e))) i }))
    (λ _. refl)
  where
    same : (q : Option Cell) → (number_at (with_count n q) ≡ number_at q) × (lits_at (with_count n q) ≡ lits_at q)
    same None = (refl, refl)
    same (Some x) = (refl, refl)

-- a cell that has another count
pub recount_cell : (c : State) (a n : ℕ) (x : Cell) → c.cell a ≡ Some x → (b : ℕ) (y : Cell) → put c.cell a (with_count n (c.cell a)) b ≡ Some y
    → ((b ≡ a) × (y ≡ record { lits = x.lits; number = x.number; count = n; maker = None })) ⊎ ((b ≢ a) × (c.cell b ≡ Some y))
recount_cell c a n x is b y e = dite (ℕ_discrete b a)
    (λ q. inl (q, sym (some_same (record { lits = x.lits; number = x.number; count = n; maker = None }) y (ap (with_count n) (sym is) ∙ sym (put_here c.cell a (with_count n (c.cell a))) ∙ ap (put c.cell a (with_count n (c.cell a))) (sym q) ∙ e))))
    (λ ne. inr (ne, sym (put_else c.cell a (with_count n (c.cell a)) b ne) ∙ e))

module _ (l : Layout) (c : State) (st : Stands l c) (a n : ℕ) (x : Cell) (is : c.cell a ≡ Some x) (r : ℕ) (p : Part) where
  -- cells lie as before
  pub places_recounted : Places l c → Places l (recounted c r a n p)
  places_recounted pl = record {
    rings = pl.rings;
    depth = pl.depth;
    limit = pl.limit;
    small = pl.small;
    words = λ b y e. let o = was b y e in subst (λ (k : ℕ × List Literal). (room l c.opening c.journal).words k.0 ≡ Some (range b (words_for (length k.1)))) (λ i. (o.2 i, o.3 i)) (pl.words b o.0 o.1);
    only = λ k q h. (let o = pl.only k q h in let z = now q.first o.0 o.1 in (z.0, z.1, z.2 ∙ o.2));
    tiled = pl.tiled;
    vars = λ b y e. let o = was b y e in subst (λ k. InVars l k) o.3 (pl.vars b o.0 o.1);
    starts = pl.starts;
    entries = pl.entries;
    units = pl.units;
    few = pl.few;
    first = pl.first;
  }
    where
      was : (b : ℕ) (y : Cell) → put c.cell a (with_count n (c.cell a)) b ≡ Some y → (z : Cell) × (c.cell b ≡ Some z) × (z.number ≡ y.number) × (z.lits ≡ y.lits)
      was b y e = ⊎_elim
          (λ (t : (b ≡ a) × (y ≡ record { lits = x.lits; number = x.number; count = n; maker = None })). (x, ap c.cell t.0 ∙ is, ap (λ (k : Cell). k.number) (sym t.1), ap (λ (k : Cell). k.lits) (sym t.1)))
          (λ (t : (b ≢ a) × (c.cell b ≡ Some y)). (y, t.1, refl, refl))
          (recount_cell c a n x is b y e)

      now : (b : ℕ) (z : Cell) → c.cell b ≡ Some z → (y : Cell) × (put c.cell a (with_count n (c.cell a)) b ≡ Some y) × (y.number ≡ z.number)
      now b z e = dite (ℕ_discrete b a)
          (λ q. (record { lits = x.lits; number = x.number; count = n; maker = None }, ap (put c.cell a (with_count n (c.cell a))) q ∙ put_here c.cell a (with_count n (c.cell a)) ∙ ap (with_count n) is, ap (λ (k : Cell). k.number) (some_same x z (sym is ∙ ap c.cell (sym q) ∙ e))))
          (λ ne. (z, put_else c.cell a (with_count n (c.cell a)) b ne ∙ e, refl))

  -- the words with the new count show the cell with it
  pub count_words : (glue : ℕ → ℕ) (ws : List ℕ) → Spells ws a x.number (glue x.number) x.lits → Words l c glue ws → Words l (recounted c r a n p) glue (set ws a n)
  count_words glue ws spells w =
      let at = st.inside a x is in
      let lo : first_cell l ≤ a = at.0 in
      let hi : a + words_for (length x.lits) ≤ cells_end l = at.1 in
      let few = st.few in
      let wide = w.wide in
      let in_ws : a < length ws = omega arith in
      record {
        wide = length-set ws a n ∙ w.wide;
        turn_is = get_or-set_other ws a 0 n 0 (λ e. omega arith) ∙ w.turn_is;
        stop_is = get_or-set_other ws a 1 n 0 (λ e. omega arith) ∙ w.stop_is;
        listed_is = get_or-set_other ws a 2 n 0 (λ e. omega arith) ∙ w.listed_is;
        grant_is = λ i lt. get_or-set_other ws a (grant_at i) n 0 (λ e. omega arith) ∙ w.grant_is i lt;
        unit_is = λ k lt. get_or-set_other ws a (unit_at l k) n 0 (λ e. omega arith) ∙ w.unit_is k lt;
        slot_is = λ k lt. get_or-set_other ws a (slot_at l k) n 0 (λ e. omega arith) ∙ w.slot_is k lt;
        ticket_is = get_or-set_other ws a (ticket_at l) n 0 (λ e. omega arith) ∙ w.ticket_is;
        number_is = λ k kt. get_or-set_other ws a (unit_number_at l k) n 0 (λ e. omega arith) ∙ w.number_is k kt;
        count_is = λ b y e o. ⊎_elim
            (λ (t : (b ≡ a) × (y ≡ record { lits = x.lits; number = x.number; count = n; maker = None })). ap (slice_index (set ws a n)) t.0 ∙ get_or-set_same ws a n 0 in_ws ∙ ap (λ (k : Cell). k.count) (sym t.1))
            (λ (t : (b ≢ a) × (c.cell b ≡ Some y)). get_or-set_other ws a b n 0 t.0 ∙ w.count_is b y t.1 o)
            (recount_cell c a n x is b y e);
        cell_is = λ b y e o. ⊎_elim
            (λ (t : (b ≡ a) × (y ≡ record { lits = x.lits; number = x.number; count = n; maker = None })).
            subst (λ (k : ℕ × Cell). Spells (set ws a n) k.0 k.1.number (glue k.1.number) k.1.lits) (λ i. (sym t.0 i, sym t.1 i))
            (spells_else ws a n a x.number (glue x.number) x.lits (λ i some lt q. omega arith) spells))
            (λ (t : (b ≢ a) × (c.cell b ≡ Some y)). spells_else ws a n b y.number (glue y.number) y.lits
            (λ i some lt q. ⊎_elim (λ (k : b + words_for (length y.lits) ≤ a). absurd (omega arith)) (λ (k : a + words_for (length x.lits) ≤ b). absurd (omega arith)) (st.apart b a y x t.1 is t.0))
            (w.cell_is b y t.1 o))
            (recount_cell c a n x is b y e);
      }

  -- what rings stored for cells other than this stays
  pub recount_stored : (ws : List ℕ) (i : ℕ) (ss : List StoredWord) → ((y : Cell) → c.cell a ≡ Some y → y.maker ≢ Some i) → IsStored c ws i ss → IsStored (recounted c r a n p) (set ws a n) i ss
  recount_stored ws i ss other h = record {
    words = λ w m e. let b = h.inside w m e in let lo = b.4 in let hi = b.5 in
        get_or-set_other ws a w n 0 (λ q. ⊎_elim (λ (k : b.0 + words_for (length b.1.lits) ≤ a). absurd (omega arith)) (λ (k : a + words_for (length x.lits) ≤ b.0). absurd (omega arith))
        (st.apart b.0 a b.1 x b.2 is (λ z. other b.1 (ap c.cell (sym z) ∙ b.2) b.3))) ∙ h.words w m e;
    inside = λ w m e. let b = h.inside w m e in (b.0, b.1, put_else c.cell a (with_count n (c.cell a)) b.0 (λ z. other b.1 (ap c.cell (sym z) ∙ b.2) b.3) ∙ b.2, b.3, b.4, b.5);
  }

  -- what is stored elsewhere stays if the cell is opened
  pub open_stored : (ws : List ℕ) (i : ℕ) (ss : List StoredWord) → IsStored c ws i ss → IsStored (recounted c r a n p) (set ws a n) i (stored_else a (words_for (length x.lits)) ss)
  open_stored ws i ss h = record {
    words = λ w m e. let t = else_at a (words_for (length x.lits)) w m ss e in let b = h.inside w m t.0 in let lo = b.4 in
        get_or-set_other ws a w n 0 (λ q. ⊎_elim (λ (k : b.0 + words_for (length b.1.lits) ≤ a). let hi = b.5 in absurd (omega arith)) (λ (k : a + words_for (length x.lits) ≤ b.0). absurd (omega arith))
        (st.apart b.0 a b.1 x b.2 is (differs w m t.1 b))) ∙ h.words w m t.0;
    inside = λ w m e. let t = else_at a (words_for (length x.lits)) w m ss e in let b = h.inside w m t.0 in
        (b.0, b.1, put_else c.cell a (with_count n (c.cell a)) b.0 (differs w m t.1 b) ∙ b.2, b.3, b.4, b.5);
  }
    where
      differs : (w m : ℕ) → is_within a (words_for (length x.lits)) w ≡ false → (b : Builds c i w) → b.0 ≢ a
      differs w m out b z =
          let same : length b.1.lits ≡ length x.lits = ap (λ (k : Cell). length k.lits) (some_same b.1 x (sym b.2 ∙ ap c.cell z ∙ is)) in
          let lo = b.4 in let hi = b.5 in
          true≢false (sym (within_is a (words_for (length x.lits)) w (omega arith) (omega arith)) ∙ out)

-- the word that a ring stored for the next unit stays
pub unit_kept : (l : Layout) (c d : State) (ws : List ℕ) (w n : ℕ) (p : RingPart) → d.turn ≡ c.turn → d.units ≡ c.units → ((k : ℕ) → k < 2 * l.vars → (unit_at l k ≢ w) × (unit_number_at l k ≢ w)) → UnitOut l c ws p → UnitOut l d (set ws w n) p
unit_kept l c d ws w n p t us far h = (kept (unit_at l) p.unit (λ k lt. (far k lt).0) h.0, kept (unit_number_at l) p.number (λ k lt. (far k lt).1) h.1)
  where
    kept : (at : ℕ → ℕ) (o : Option ℕ) → ((k : ℕ) → k < 2 * l.vars → at k ≢ w) → StandsNext l c ws (ring_of p) (at (length c.units)) o → StandsNext l d (set ws w n) (ring_of p) (at (length d.units)) o
    kept at o clear h = λ m e. let u = h m e in (
      t ∙ u.0,
      subst (λ (xs : List Literal). length xs < 2 * l.vars) (sym us) u.1,
      ap (λ (xs : List Literal). slice_index (set ws w n) (at (length xs))) us ∙ get_or-set_other ws w (at (length c.units)) n 0 (λ q. clear (length c.units) u.1 q) ∙ u.2,
    )

-- a ring that has stored nothing of the next unit has nothing out
pub none_out : (l : Layout) (d : State) (ws : List ℕ) (p : RingPart) → p.unit ≡ None → p.number ≡ None → UnitOut l d ws p
none_out l d ws p no_unit no_number = (λ m e. absurd (none_some m (sym no_unit ∙ e)), λ m e. absurd (none_some m (sym no_number ∙ e)))

-- and so has one that has not the turn
pub turn_out : (l : Layout) (c d : State) (ws xs : List ℕ) (p : RingPart) → c.turn ≢ Some (ring_of p) → UnitOut l c ws p → UnitOut l d xs p
turn_out l c d ws xs p ne h = (λ m e. absurd (ne (h.0 m e).0), λ m e. absurd (ne (h.1 m e).0))

-- one grant changes
pub grant_words : (l : Layout) (c : State) (glue : ℕ → ℕ) (ws : List ℕ) (r : ℕ) (p : Part) → Stands l c → r < l.rings → Words l c glue ws
    → Words l (record c { granted = put c.granted r true; part = put c.part r p }) glue (set ws (grant_at r) 0)
grant_words l c glue ws r p st lt w =
    let few = st.few in
    let wide = w.wide in
    let in_ws : grant_at r < length ws = omega arith in
    record {
      wide = length-set ws (grant_at r) 0 ∙ w.wide;
      turn_is = get_or-set_other ws (grant_at r) 0 0 0 (λ e. omega arith) ∙ w.turn_is;
      stop_is = get_or-set_other ws (grant_at r) 1 0 0 (λ e. omega arith) ∙ w.stop_is;
      listed_is = get_or-set_other ws (grant_at r) 2 0 0 (λ e. omega arith) ∙ w.listed_is;
      grant_is = λ i it. dite (ℕ_discrete i r)
          (λ e. ap (λ k. slice_index (set ws (grant_at r) 0) (grant_at k)) e ∙ get_or-set_same ws (grant_at r) 0 0 in_ws ∙ (λ j. one_if (not (sym (ap (put c.granted r true) e ∙ put_here c.granted r true) j))))
          (λ ne. get_or-set_other ws (grant_at r) (grant_at i) 0 0 (λ e. ne (omega arith)) ∙ w.grant_is i it ∙ (λ j. one_if (not (sym (put_else c.granted r true i ne) j))));
      unit_is = λ k kt. get_or-set_other ws (grant_at r) (unit_at l k) 0 0 (λ e. omega arith) ∙ w.unit_is k kt;
      slot_is = λ k kt. get_or-set_other ws (grant_at r) (slot_at l k) 0 0 (λ e. omega arith) ∙ w.slot_is k kt;
      ticket_is = get_or-set_other ws (grant_at r) (ticket_at l) 0 0 (λ e. omega arith) ∙ w.ticket_is;
      number_is = λ k kt. get_or-set_other ws (grant_at r) (unit_number_at l k) 0 0 (λ e. omega arith) ∙ w.number_is k kt;
      count_is = λ b y e o. let at = (st.inside b y e).0 in get_or-set_other ws (grant_at r) b 0 0 (λ q. omega arith) ∙ w.count_is b y e o;
      cell_is = λ b y e o. let at = (st.inside b y e).0 in spells_else ws (grant_at r) 0 b y.number (glue y.number) y.lits (λ i some it q. omega arith) (w.cell_is b y e o);
    }

-- and where a grant is taken
pub grant_stored : (l : Layout) (c d : State) (ws : List ℕ) (r i : ℕ) (ss : List StoredWord) → Stands l c → r < l.rings → ((a : ℕ) → d.cell a ≡ c.cell a) → IsStored c ws i ss → IsStored d (set ws (grant_at r) 0) i ss
grant_stored l c d ws r i ss st lt same h = record {
  words = λ w m e. let b = h.inside w m e in let lo = b.4 in let at = (st.inside b.0 b.1 b.2).0 in get_or-set_other ws (grant_at r) w 0 0 (λ q. omega arith) ∙ h.words w m e;
  inside = λ w m e. let b = h.inside w m e in (b.0, b.1, same b.0 ∙ b.2, b.3, b.4, b.5);
}

-- a word is stored in a cell that ring r builds
module _ (l : Layout) (c : State) (st : Stands l c) (a : ℕ) (x : Cell) (is : c.cell a ≡ Some x) (r : ℕ) (made : x.maker ≡ Some r) (w n : ℕ) (lo : a < w) (hi : w < a + words_for (length x.lits)) where
  -- it is no word of another cell
  elsewhere : (b : ℕ) (y : Cell) → c.cell b ≡ Some y → b ≢ a → (v : ℕ) → b ≤ v → v < b + words_for (length y.lits) → v ≢ w
  elsewhere b y e ne v from to q = ⊎_elim (λ (k : b + words_for (length y.lits) ≤ a). absurd (omega arith)) (λ (k : a + words_for (length x.lits) ≤ b). absurd (omega arith)) (st.apart b a y x e is ne)

  open_else : (b : ℕ) (y : Cell) → c.cell b ≡ Some y → y.maker ≡ None → b ≢ a
  open_else b y e o q = none_some r (sym o ∙ ap maker_of (some_same y x (sym e ∙ ap c.cell q ∙ is)) ∙ made)
    where
      maker_of : Cell → Option ℕ
      maker_of z = z.maker

  pub store_words : (glue : ℕ → ℕ) (ws : List ℕ) → Words l c glue ws → Words l c glue (set ws w n)
  store_words glue ws ww =
      let begins = (st.inside a x is).0 in
      let ends : a + words_for (length x.lits) ≤ cells_end l = (st.inside a x is).1 in
      let few = st.few in
      record {
        wide = length-set ws w n ∙ ww.wide;
        turn_is = get_or-set_other ws w 0 n 0 (λ e. omega arith) ∙ ww.turn_is;
        stop_is = get_or-set_other ws w 1 n 0 (λ e. omega arith) ∙ ww.stop_is;
        listed_is = get_or-set_other ws w 2 n 0 (λ e. omega arith) ∙ ww.listed_is;
        grant_is = λ i lt. get_or-set_other ws w (grant_at i) n 0 (λ e. omega arith) ∙ ww.grant_is i lt;
        unit_is = λ k lt. get_or-set_other ws w (unit_at l k) n 0 (λ e. omega arith) ∙ ww.unit_is k lt;
        slot_is = λ k lt. get_or-set_other ws w (slot_at l k) n 0 (λ e. omega arith) ∙ ww.slot_is k lt;
        ticket_is = get_or-set_other ws w (ticket_at l) n 0 (λ e. omega arith) ∙ ww.ticket_is;
        number_is = λ k kt. get_or-set_other ws w (unit_number_at l k) n 0 (λ e. omega arith) ∙ ww.number_is k kt;
        count_is = λ b y e o. get_or-set_other ws w b n 0 (elsewhere b y e (open_else b y e o) b (omega arith) (omega arith)) ∙ ww.count_is b y e o;
        cell_is = λ b y e o. spells_else ws w n b y.number (glue y.number) y.lits (λ i some lt q. elsewhere b y e (open_else b y e o) (b + i) (omega arith) (omega arith) (sym q)) (ww.cell_is b y e o);
      }

  -- others' stored words stay
  pub store_else : (ws : List ℕ) (i : ℕ) (ss : List StoredWord) → i ≢ r → IsStored c ws i ss → IsStored c (set ws w n) i ss
  store_else ws i ss ne h = record {
    words = λ v m e. let b = h.inside v m e in let b4 = b.4 in let b5 = b.5 in
        get_or-set_other ws w v n 0 (elsewhere b.0 b.1 b.2 (λ q. ne (some_same i r (sym b.3 ∙ ap maker_of (some_same b.1 x (sym b.2 ∙ ap c.cell q ∙ is)) ∙ made))) v (omega arith) (omega arith)) ∙ h.words v m e;
    inside = h.inside;
  }
    where
      maker_of : Cell → Option ℕ
      maker_of z = z.maker

  -- and the ring's own, with this one
  pub store_own : (ws : List ℕ) (ss : List StoredWord) → w < length ws → IsStored c ws r ss → IsStored c (set ws w n) r (record { place = w; word = n } ∷ ss)
  store_own ws ss in_ws h = record { words = λ v m e. (both v m e).0; inside = λ v m e. (both v m e).1 }
    where
      both : (v m : ℕ) → stored_at v (record { place = w; word = n } ∷ ss) ≡ Some m → (slice_index (set ws w n) v ≡ m) × Builds c r v
      both v m e = ⊎_elim
          (λ t. (
            ap (slice_index (set ws w n)) (sym t.1) ∙ get_or-set_same ws w n 0 in_ws ∙ some_same n m ((λ i. if sym t.0 i then Some n else stored_at v ss) ∙ e),
            subst (Builds c r) t.1 (a, x, is, made, lo, hi),
          ))
          (λ t. let old : stored_at v ss ≡ Some m = (λ i. if sym t.0 i then Some n else stored_at v ss) ∙ e in (get_or-set_other ws w v n 0 (λ q. t.1 (sym q)) ∙ h.words v m old, h.inside v m old))
          (eqb_tells w v)
