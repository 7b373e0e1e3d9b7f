-- The words of listed units, and what a ring knows of them.
use Rattle.std.proofs.Common.{◌≡◌, ℕ, zero, suc, ◌+◌, ◌*◌, ◌<◌, ◌≤◌, ◌&&◌, false, not, List, [], ◌∷◌, ◌++◌, All, map, length, set, refl, sym, ap, ◌∙◌, subst, arith, append-nil, length-set, length-append, get_or-set_other, get_or-set_same, Some}
use Rattle.std.specs.Prelude.{slice_index, slice_index_or}
use mathlib.Core.Logic.{dite}
use native.Mathlib.Decide.{ℕ_discrete}
use Rattle.sat_words.specs.Literal.{Literal, code_of}
use Rattle.sat_words.specs.Clause.{has}
use Rattle.rup_model.specs.Journal.{book}
use Rattle.share_core.specs.declared.event.Event.TheVariants.{Publish}
use Rattle.share_core.specs.declared.part.Part.{Part}
use Rattle.share_core.specs.State.{State}
use Rattle.share_core.specs.Events.{after, unit_at as core_unit, listed_number}
use Rattle.share_core.specs.Sound.{Sound}
use Rattle.share_rule.specs.declared.Layout.{Layout}
use Rattle.share_rule.specs.declared.view.RingPart.{RingPart}
use Rattle.share_rule.specs.declared.view.StoredWord.{StoredWord}
use Rattle.share_rule.specs.declared.view.View.{View}
use Rattle.share_rule.specs.Layout.{grant_at, unit_at, number_at, slot_at, ticket_at, first_cell, cells_end}
use Rattle.share_rule.specs.Layout.{InVars}
use Rattle.share_rule.specs.Views.{only}
use Rattle.share_rule.specs.Steps.{on_first, changed}
use Rattle.share_rule.specs.Seen.{Stands, IsPart, turn_of}
use Rattle.share_rule.specs.Shown.{Words, IsStored, ring_of}
use Rattle.share_rule.specs.Turns.{journal_in}
use Rattle.share_rule.specs.Units.{MayPublish}
use Rattle.share_rule.proofs.Words.{spells_else}
use Rattle.share_rule.proofs.Moves.{turn_is}
use Rattle.share_rule.proofs.Literals.{few_distinct}

-- Words below the cells

-- what rings stored stays
pub low_stored : (l : Layout) (c d : State) (ws : List ℕ) (w n i : ℕ) (ss : List StoredWord) → Stands l c → w < first_cell l → ((a : ℕ) → d.cell a ≡ c.cell a) → IsStored c ws i ss → IsStored d (set ws w n) i ss
low_stored l c d ws w n i ss st low same h = record {
  words = λ v m e. let b = h.inside v m e in let lo = b.4 in let at = (st.inside b.0 b.1 b.2).0 in get_or-set_other ws w v n 0 (λ q. omega arith) ∙ h.words v m e;
  inside = λ v m e. let b = h.inside v m e in (b.0, b.1, same b.0 ∙ b.2, b.3, b.4, b.5);
}

-- and if the word lies behind the cells
pub high_stored : (l : Layout) (c d : State) (ws : List ℕ) (w n i : ℕ) (ss : List StoredWord) → Stands l c → cells_end l ≤ w → ((a : ℕ) → d.cell a ≡ c.cell a) → IsStored c ws i ss → IsStored d (set ws w n) i ss
high_stored l c d ws w n i ss st high same h = record {
  words = λ v m e. let b = h.inside v m e in let hi = b.5 in let at = (st.inside b.0 b.1 b.2).1 in get_or-set_other ws w v n 0 (λ q. omega arith) ∙ h.words v m e;
  inside = λ v m e. let b = h.inside v m e in (b.0, b.1, same b.0 ∙ b.2, b.3, b.4, b.5);
}

-- the word of the next unit is stored
pub unit_words : (l : Layout) (c : State) (glue : ℕ → ℕ) (ws : List ℕ) (n : ℕ) → Stands l c → length c.units < 2 * l.vars → Words l c glue ws → Words l c glue (set ws (unit_at l (length c.units)) n)
unit_words l c glue ws n st lt w =
    let wide = w.wide in
    let at : ℕ = unit_at l (length c.units) in
    record {
      wide = length-set ws at n ∙ w.wide;
      turn_is = get_or-set_other ws at 0 n 0 (λ e. omega arith) ∙ w.turn_is;
      stop_is = get_or-set_other ws at 1 n 0 (λ e. omega arith) ∙ w.stop_is;
      listed_is = get_or-set_other ws at 2 n 0 (λ e. omega arith) ∙ w.listed_is;
      grant_is = λ i it. get_or-set_other ws at (grant_at i) n 0 (λ e. omega arith) ∙ w.grant_is i it;
      unit_is = λ k kt. get_or-set_other ws at (unit_at l k) n 0 (λ e. omega arith) ∙ w.unit_is k kt;
      slot_is = λ k kt. get_or-set_other ws at (slot_at l k) n 0 (λ e. omega arith) ∙ w.slot_is k kt;
      ticket_is = get_or-set_other ws at (ticket_at l) n 0 (λ e. omega arith) ∙ w.ticket_is;
      number_is = λ k kt. get_or-set_other ws at (number_at l k) n 0 (λ e. omega arith) ∙ w.number_is k kt;
      count_is = λ b y e o. let q = (st.inside b y e).0 in get_or-set_other ws at b n 0 (λ e. omega arith) ∙ w.count_is b y e o;
      cell_is = λ b y e o. let q = (st.inside b y e).0 in spells_else ws at n b y.number (glue y.number) y.lits (λ i some it z. omega arith) (w.cell_is b y e o);
    }

-- the word of its number is stored
pub number_words : (l : Layout) (c : State) (glue : ℕ → ℕ) (ws : List ℕ) (n : ℕ) → Stands l c → Words l c glue ws → Words l c glue (set ws (number_at l (length c.units)) n)
number_words l c glue ws n st w =
    let wide = w.wide in
    let few = st.few in
    let at : ℕ = number_at l (length c.units) in
    record {
      wide = length-set ws at n ∙ w.wide;
      turn_is = get_or-set_other ws at 0 n 0 (λ e. omega arith) ∙ w.turn_is;
      stop_is = get_or-set_other ws at 1 n 0 (λ e. omega arith) ∙ w.stop_is;
      listed_is = get_or-set_other ws at 2 n 0 (λ e. omega arith) ∙ w.listed_is;
      grant_is = λ i it. get_or-set_other ws at (grant_at i) n 0 (λ e. omega arith) ∙ w.grant_is i it;
      unit_is = λ k kt. get_or-set_other ws at (unit_at l k) n 0 (λ e. omega arith) ∙ w.unit_is k kt;
      number_is = λ k kt. get_or-set_other ws at (number_at l k) n 0 (λ e. omega arith) ∙ w.number_is k kt;
      slot_is = λ k kt. get_or-set_other ws at (slot_at l k) n 0 (λ e. omega arith) ∙ w.slot_is k kt;
      ticket_is = get_or-set_other ws at (ticket_at l) n 0 (λ e. omega arith) ∙ w.ticket_is;
      count_is = λ b y e o. let q = (st.inside b y e).1 in get_or-set_other ws at b n 0 (λ z. omega arith) ∙ w.count_is b y e o;
      cell_is = λ b y e o. let q = (st.inside b y e).1 in spells_else ws at n b y.number (glue y.number) y.lits (λ i some it z. omega arith) (w.cell_is b y e o);
    }

pub numbers_front : (ns ms : List ℕ) (k : ℕ) → k < length ns → listed_number (ns ++ ms) k ≡ listed_number ns k
numbers_front [] ms k lt = absurd (omega arith)
numbers_front (n ∷ ns) ms zero lt = refl
numbers_front (n ∷ ns) ms (suc k) lt = numbers_front ns ms k (omega arith)

number_last : (ns : List ℕ) (n : ℕ) → listed_number (ns ++ n ∷ []) (length ns) ≡ n
number_last [] n = refl
number_last (m ∷ ns) n = number_last ns n

code_front : (us : List Literal) (lit : Literal) (k : ℕ) → k < length us → slice_index_or (map code_of (us ++ lit ∷ [])) k 0 ≡ slice_index_or (map code_of us) k 0
code_front [] lit k lt = absurd (omega arith)
code_front (u ∷ us) lit zero lt = refl
code_front (u ∷ us) lit (suc k) lt = code_front us lit k (omega arith)

code_last : (us : List Literal) (lit : Literal) → slice_index_or (map code_of (us ++ lit ∷ [])) (length us) 0 ≡ code_of lit
code_last [] lit = refl
code_last (u ∷ us) lit = code_last us lit

-- it is counted
pub list_words : (l : Layout) (c : State) (r : ℕ) (lit : Literal) (number : ℕ) (glue : ℕ → ℕ) (ws : List ℕ) → Stands l c → length c.units < 2 * l.vars → length c.numbers ≡ length c.units → slice_index ws (unit_at l (length c.units)) ≡ code_of lit → slice_index ws (number_at l (length c.units)) ≡ number → Words l c glue ws
    → Words l (after c (Publish r lit number)) glue (set ws 2 (length c.units + 1))
list_words l c r lit number glue ws st lt many word there w =
    let wide = w.wide in
    let n : ℕ = length c.units + 1 in
    let long : length (c.units ++ lit ∷ []) ≡ n = length-append c.units (lit ∷ []) in
    let in_ws : 2 < length ws = omega arith in
    record {
      wide = length-set ws 2 n ∙ w.wide;
      turn_is = get_or-set_other ws 2 0 n 0 (λ e. omega arith) ∙ w.turn_is;
      stop_is = get_or-set_other ws 2 1 n 0 (λ e. omega arith) ∙ w.stop_is;
      listed_is = get_or-set_same ws 2 n 0 in_ws ∙ sym long;
      grant_is = λ i it. get_or-set_other ws 2 (grant_at i) n 0 (λ e. omega arith) ∙ w.grant_is i it;
      unit_is = λ k kt. get_or-set_other ws 2 (unit_at l k) n 0 (λ e. omega arith) ∙ dite (ℕ_discrete k (length c.units))
          (λ e. ap (λ (q : ℕ). slice_index ws (unit_at l q)) e ∙ word ∙ sym (code_last c.units lit) ∙ ap (λ (q : ℕ). slice_index_or (map code_of (c.units ++ lit ∷ [])) q 0) (sym e))
          (λ ne. w.unit_is k (omega arith) ∙ sym (code_front c.units lit k (omega arith)));
      slot_is = λ k kt. get_or-set_other ws 2 (slot_at l k) n 0 (λ e. omega arith) ∙ w.slot_is k kt;
      ticket_is = get_or-set_other ws 2 (ticket_at l) n 0 (λ e. omega arith) ∙ w.ticket_is;
      number_is = λ k kt. get_or-set_other ws 2 (number_at l k) n 0 (λ e. omega arith) ∙ dite (ℕ_discrete k (length c.units))
          (λ e. ap (λ (q : ℕ). slice_index ws (number_at l q)) e ∙ there ∙ sym (number_last c.numbers number) ∙ ap (listed_number (c.numbers ++ number ∷ [])) (many ∙ sym e))
          (λ ne. w.number_is k (omega arith) ∙ sym (numbers_front c.numbers (number ∷ []) k (omega arith)));
      count_is = λ b y e o. let q = (st.inside b y e).0 in get_or-set_other ws 2 b n 0 (λ e. omega arith) ∙ w.count_is b y e o;
      cell_is = λ b y e o. let q = (st.inside b y e).0 in spells_else ws 2 n b y.number (glue y.number) y.lits (λ i some it z. omega arith) (w.cell_is b y e o);
    }

-- who has seen as many units as there are has seen them all
seen_all : (us seen rest : List Literal) → us ≡ seen ++ rest → length us ≡ length seen → us ≡ seen
seen_all us seen [] e n = e ∙ append-nil seen
seen_all us seen (x ∷ rest) e n = let q = ap (λ (ks : List Literal). length ks) e in let k = length-append seen (x ∷ rest) in absurd (omega arith)

unit_front : (seen rest : List Literal) (u : Literal) → core_unit (seen ++ u ∷ rest) (length seen) ≡ u
unit_front [] rest u = refl
unit_front (x ∷ seen) rest u = unit_front seen rest u

-- What a ring knows of the units of the core
module _ (l : Layout) (c : State) (sound : Sound c) (glue : ℕ → ℕ) (p : RingPart) (part : IsPart l c glue p) where
  pub units_front : (rest : List Literal) × (c.units ≡ p.core.seen ++ rest)
  units_front = let u = sound.units.seen (ring_of p) in (u.0, u.1 ∙ ap (λ (q : Part). q.seen ++ u.0) (sym part.part))

  pub seen_few : length p.core.seen ≤ length c.units
  seen_few = let u = units_front in let n = ap (λ (us : List Literal). length us) u.1 in let k = length-append p.core.seen u.0 in omega arith

  pub seen_whole : length c.units ≡ length p.core.seen → c.units ≡ p.core.seen
  seen_whole n = let u = units_front in seen_all c.units p.core.seen u.0 u.1 n

  pub numbers_seen : (rest : List ℕ) × (c.numbers ≡ p.core.numbers ++ rest) × (length p.core.numbers ≡ length p.core.seen)
  numbers_seen = let u = sound.units.numbered (ring_of p) in (u.0, u.1 ∙ ap (λ (q : Part). q.numbers ++ u.0) (sym part.part), ap (λ (q : Part). length q.numbers) part.part ∙ u.2 ∙ ap (λ (q : Part). length q.seen) (sym part.part))

  -- the number of a unit that the ring has seen
  pub number_seen : (k : ℕ) → k < length p.core.seen → listed_number c.numbers k ≡ listed_number p.core.numbers k
  number_seen k lt = let u = numbers_seen in let many = u.2 in ap (λ (ns : List ℕ). listed_number ns k) u.1 ∙ numbers_front p.core.numbers u.0 k (omega arith)

-- what a pass that may publish knows of the core
pub record Listable (l : Layout) (c : State) (lit : Literal) (number : ℕ) (v : View) : Type 0 where
  pub turn : c.turn ≡ Some (ring_of (only v))
  pub units : c.units ≡ (only v).core.seen
  pub told : (book c.opening.formula c.journal).clause number ≡ Some (lit ∷ [])
  pub new : has c.units lit ≡ false
  pub room : length c.units < 2 * l.vars

pub listable : (l : Layout) (c : State) (glue : ℕ → ℕ) (lit : Literal) (number : ℕ) (v : View) → Sound c → IsPart l c glue (only v) → InVars l c.units → (v.layout ≡ l) × (v.opening ≡ c.opening) → MayPublish lit number v → Listable l c lit number v
listable l c glue lit number v sound part vars t may =
    let p : RingPart = only v in
    let w = part.whole may.whole.0 in
    let long = may.whole.1 in
    let us : c.units ≡ p.core.seen = seen_whole l c sound glue p part (w.1 ∙ long) in
    let is : turn_of c (ring_of p) ≡ Some may.writing.1.0 = sym part.turn ∙ may.writing.1.1 in
    let J : journal_in p.turn ≡ c.journal = ap journal_in may.writing.1.1 ∙ turn_is c (ring_of p) may.writing.1.0 is in
    let out : has c.units lit ≡ false = ap (λ (ks : List Literal). has ks lit) us ∙ may.new in
    let most = few_distinct l.vars (lit ∷ c.units) (λ i. not (out i) && sound.units.distinct i) (one_more (λ (x : Literal). (1 ≤ x.var) × (x.var ≤ l.vars)) lit c.units (subst (λ (y : Layout). InVars y (lit ∷ [])) t.0 may.vars) vars) in
    record { turn = w.0; units = us; told = (λ i. (book (sym t.1 i).formula (sym J i)).clause number) ∙ may.told; new = out; room = omega arith }
  where
    one_more : (P : Literal → Type 0) (x : Literal) (us : List Literal) → All P (x ∷ []) → All P us → All P (x ∷ us)
    one_more P x us h hs zero d lt = h 0 d (omega arith)
    one_more P x us h hs (suc i) d lt = hs i d (omega arith)

pub only_changed : (f : RingPart → RingPart) (v : View) → v.parts ≡ only v ∷ [] → (changed f v).parts ≡ f (only v) ∷ []
only_changed f v is = ap (on_first f) is
