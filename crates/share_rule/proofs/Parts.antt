-- What a pass knows of cells.
use Rattle.std.proofs.Common.{◌≡◌, ℕ, zero, suc, ◌+◌, ◌^◌, ◌<◌, ◌≤◌, true, false, List, [], ◌∷◌, length, Option, Some, None, refl, sym, ap, ◌∙◌, subst, ⊎_elim, arith, true≢false, Bool}
use mathlib.Core.Option.{some, some-injective, some-ne-none}
use lib.ListN.{get_elem?}
use Rattle.atomic_table.specs.Table.{State as Table}
use Rattle.rup_model.specs.declared.journal.Entry.{Entry}
use Rattle.clause_cell.specs.Packing.{words_for}
use Rattle.sat_words.specs.Literal.{Literal}
use Rattle.share_core.specs.declared.stored.ClauseAt.{ClauseAt}
use Rattle.share_core.specs.declared.stored.Cell.{Cell}
use Rattle.share_core.specs.State.{times_at, State, clause_at, number_at, lits_at, maker_at}
use Rattle.share_core.specs.declared.part.CoreOpening.{CoreOpening}
use Rattle.share_core.specs.declared.part.Part.{Part}
use Rattle.share_core.specs.Sound.{Sound, IsCopy}
use Rattle.rup_model.specs.Log.{alive}
use Rattle.rup_model.specs.Journal.{book, lines}
use Rattle.rup_model.proofs.Lists.{In}
use Rattle.rup_model.proofs.Numbers.{clause_below, journal_matches}
use Rattle.share_core.proofs.Leaving.{left_sound}
use Rattle.share_core.proofs.Standing.{start_below, next_more}
use Rattle.share_core.proofs.Counting.{held_cell, held_counted, is_made, cell_cases, none_some}
use Rattle.share_core.proofs.ClauseLists.{all_in}
use Rattle.share_rule.specs.declared.view.BookOrigin.{BookOrigin}
use Rattle.share_rule.specs.declared.Layout.{Layout}
use Rattle.share_rule.specs.declared.rule.Key.{Key}
use Rattle.share_rule.specs.declared.view.RingPart.{RingPart}
use Rattle.share_rule.specs.declared.view.View.{View}
use Rattle.share_rule.specs.Layout.{first_cell, cells_end, table_words}
use Rattle.share_rule.specs.Views.{only, clause_in, clause_of, making_of, IsHolding, IsBuilding, is_ready, in_draft}
use Rattle.share_rule.specs.Seen.{Stands, IsPart, Seen}
use Rattle.share_rule.specs.Layout.{InVars}
use Rattle.share_rule.specs.Shown.{Shown, Shows, Draft}
use Rattle.share_rule.specs.Room.{Places}
use Rattle.share_rule.proofs.Lists.{first_at}
use Rattle.share_rule.proofs.Rooms.{places_stand}

-- Numbers

-- the number of a cell's clause is below the next
pub cell_below : (c : State) → Sound c → (a : ℕ) (x : Cell) → c.cell a ≡ Some x → x.number < (book c.opening.formula c.journal).next
cell_below c s a x is = clause_below (book c.opening.formula c.journal) (alive c.opening.formula (lines c.opening.formula c.journal)) x.number x.lits (journal_matches c.opening.formula c.journal s.log.log.fits) (s.cells.alive a x is)

-- and those of start clauses are
pub number_below : (c : State) → Sound c → (h : ClauseAt) → In h c.opening.starts → h.number < (book c.opening.formula c.journal).next
number_below c s h i = let k = start_below c s h i in let l = next_more c s s.log.begins.0 s.log.begins.1 in omega arith

-- What is held

-- a copy of a cell is as the rings know it
pub copy_is : (c : State) (h : ClauseAt) (a : ℕ) → h.address ≡ a → IsCopy c.cell h → h ≡ clause_at c a
copy_is c h a e k =
    let there : c.cell a ≡ Some k.0 = ap c.cell (sym e) ∙ k.1 in
    let number : h.number ≡ number_at (c.cell a) = sym k.2 ∙ sym (ap number_at there) in
    let lits : h.lits ≡ lits_at (c.cell a) = sym k.3 ∙ sym (ap lits_at there) in
    λ i. record { address = e i; number = number i; lits = lits i }

module _ (c : State) (sound : Sound c) (r a : ℕ) (lt : r < c.opening.rings) (held : 0 < times_at a (c.part r).held) where
  -- what a ring holds is an open cell with a count
  pub held_is : (x : Cell) × (c.cell a ≡ Some x) × (x.maker ≡ None) × (0 < x.count)
  held_is = let t = held_cell c.opening c sound.counts r a lt held in let n = (held_counted c.opening c sound.counts r a lt held).1 in let e = t.2 in (t.0, t.1, t.3, omega arith)

  -- a ring knows what it holds as the cell has it
  pub held_clause : clause_in a (c.part r).held ≡ clause_at c a
  held_clause = let f = first_at a (c.part r).held held in
      copy_is c (clause_in a (c.part r).held) a f.1 (all_in (IsCopy c.cell) (c.part r).held (clause_in a (c.part r).held) f.0 (sound.copies.held r lt))

module _ (c : State) (sound : Sound c) (r a : ℕ) (lt : r < c.opening.rings) (making : 0 < times_at a (c.part r).making) where
  -- what a ring builds is a cell under construction by it
  pub building_is : (x : Cell) × (c.cell a ≡ Some x) × (x.maker ≡ Some r)
  building_is =
      let made : maker_at (c.cell a) ≡ Some r = let e = sound.counts.makes r a lt in is_made r (maker_at (c.cell a)) (omega arith) in
      ⊎_elim
      (λ (e : c.cell a ≡ None). absurd (none_some r (sym (ap maker_at e) ∙ made)))
      (λ (t : (x : Cell) × (c.cell a ≡ Some x)). (t.0, t.1, sym (ap maker_at t.1) ∙ made))
      (cell_cases (c.cell a))

  pub building_clause : clause_in a (c.part r).making ≡ clause_at c a
  building_clause = let f = first_at a (c.part r).making making in
      copy_is c (clause_in a (c.part r).making) a f.1 (all_in (IsCopy c.cell) (c.part r).making (clause_in a (c.part r).making) f.0 (sound.copies.making r lt))

-- Views

module _ {S : Type 0} (stands : S → BookOrigin → Layout → CoreOpening → List Entry → Bool → Type 0) where
  -- if a pass is open, the table is
  pub is_open : (k : Key) (s : Table (Option S) View) (id : ℕ) (v : View) → Shown stands k s → get_elem? s.views id ≡ some v → is_ready v.stage ≡ true → Shows stands k.layout s
  is_open k s id v h at op = ⊎_elim
      (λ (d : Draft stands k s). absurd (closed d.view d.closed.1 id (ap (λ (vs : List View). get_elem? vs id) (sym d.views) ∙ at)))
      (λ (t : Shows stands k.layout s). t) h
    where
      closed : (u : View) → is_ready u.stage ≡ false → (i : ℕ) → get_elem? (u ∷ []) i ≡ some v → ⊥
      closed u nr zero e = true≢false (sym op ∙ ap (λ (x : View). is_ready x.stage) (sym (some-injective u v e)) ∙ nr)
      closed u nr (suc i) e = some-ne-none v (sym e)

  -- if a pass is not, neither is the table
  pub is_draft : (k : Key) (s : Table (Option S) View) (id : ℕ) (v : View) → Shown stands k s → get_elem? s.views id ≡ some v → in_draft v.stage ≡ true → Draft stands k s
  is_draft k s id v h at dr = ⊎_elim
      (λ (d : Draft stands k s). d)
      (λ (t : Shows stands k.layout s). absurd (true≢false (sym dr ∙ (t.each id v at).settled))) h

  -- cells stand apart
  pub standing_of : (l : Layout) (s : Table (Option S) View) → (h : Shows stands l s) → Stands l h.core
  standing_of l s h = places_stand l h.small h.core (left_sound h.core.opening h.core h.left) h.places

  -- what the table shows, a view sees
  pub seen_with : (l : Layout) (s : Table (Option S) View) (id : ℕ) (v : View) → (h : Shows stands l s) → get_elem? s.views id ≡ some v → is_ready v.stage ≡ true → (n : Seen v) × (n.core ≡ h.core) × (n.glue ≡ h.glue)
  seen_with l s id v h at op =
      let f = h.each id v at in
      let told = f.told op in (
        record {
          core = h.core;
          left = h.left;
          standing = subst (λ (k : Layout). Stands k h.core) (sym told.0) (standing_of l s h);
          small = subst (λ (k : Layout). table_words k ≤ 2 ^ 63) (sym told.0) h.small;
          places = subst (λ (k : Layout). Places k h.core) (sym told.0) h.places;
          glue = h.glue;
          opening = told.1;
          stops = f.stops;
          parts = subst (λ (k : Layout). (i : ℕ) (p : RingPart) → get_elem? v.parts i ≡ some p → IsPart k h.core h.glue p) (sym told.0) f.parts;
        },
        refl,
        refl,
      )

  pub seen_of : (l : Layout) (s : Table (Option S) View) (id : ℕ) (v : View) → (h : Shows stands l s) → get_elem? s.views id ≡ some v → is_ready v.stage ≡ true → Seen v
  seen_of l s id v h at op = (seen_with l s id v h at op).0

-- Held cells lie in the table, and those that are built

only_part : (v : View) (s : Seen v) → v.parts ≡ only v ∷ [] → IsPart v.layout s.core s.glue (only v)
only_part v s is = s.parts 0 (only v) (ap (λ (ps : List RingPart). get_elem? ps 0) is)

-- the clause that is held at an address is an open cell's, in the table
pub record HeldCell (v : View) (s : Seen v) (a : ℕ) : Type 0 where
  pub cell : Cell
  pub there : s.core.cell a ≡ Some cell
  pub maker : cell.maker ≡ None
  pub number : (clause_of a v).number ≡ cell.number
  pub lits : (clause_of a v).lits ≡ cell.lits
  pub begins : first_cell v.layout ≤ a
  pub ends : a + words_for (length (clause_of a v).lits) ≤ cells_end v.layout
  pub vars : InVars v.layout (clause_of a v).lits

pub held_of : (v : View) (s : Seen v) (a : ℕ) → IsHolding a v → HeldCell v s a
held_of v s a h =
    let c : State = s.core in
    let part = only_part v s h.0 in
    let r : ℕ = (only v).core.ring in
    let held : 0 < times_at a (c.part r).held = subst (λ (q : Part). 0 < times_at a q.held) part.part h.1 in
    let sound : Sound c = left_sound c.opening c s.left in
    let is = held_is c sound r a part.ring held in
    let clause : clause_of a v ≡ clause_at c a = ap (λ (q : Part). clause_in a q.held) part.part ∙ held_clause c sound r a part.ring held in
    let lits : (clause_of a v).lits ≡ is.0.lits = ap (λ (k : ClauseAt). k.lits) clause ∙ ap lits_at is.1 in
    let at = s.standing.inside a is.0 is.1 in
    record {
      cell = is.0;
      there = is.1;
      maker = is.2;
      number = ap (λ (k : ClauseAt). k.number) clause ∙ ap number_at is.1;
      lits = lits;
      begins = at.0;
      ends = subst (λ (ks : List Literal). a + words_for (length ks) ≤ cells_end v.layout) (sym lits) at.1;
      vars = subst (InVars v.layout) (sym lits) (s.standing.vars a is.0 is.1);
    }

pub building_of : (v : View) (s : Seen v) (a : ℕ) → IsBuilding a v → (first_cell v.layout ≤ a) × (a + words_for (length (making_of a v).lits) ≤ cells_end v.layout)
building_of v s a h =
    let c : State = s.core in
    let part = only_part v s h.0 in
    let r : ℕ = (only v).core.ring in
    let making : 0 < times_at a (c.part r).making = subst (λ (q : Part). 0 < times_at a q.making) part.part h.1 in
    let sound : Sound c = left_sound c.opening c s.left in
    let is = building_is c sound r a part.ring making in
    let clause : making_of a v ≡ clause_at c a = ap (λ (q : Part). clause_in a q.making) part.part ∙ building_clause c sound r a part.ring making in
    let lits : (making_of a v).lits ≡ is.0.lits = ap (λ (k : ClauseAt). k.lits) clause ∙ ap lits_at is.1 in
    let at = s.standing.inside a is.0 is.1 in
    (at.0, subst (λ (ks : List Literal). a + words_for (length ks) ≤ cells_end v.layout) (sym lits) at.1)
