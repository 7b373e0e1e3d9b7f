-- What a ring writes while it has the turn is its events, one after the other.
use Rattle.std.proofs.Common.{◌≡◌, ◌≢◌, ℕ, ◌<◌, ◌≤◌, List, [], ◌∷◌, ◌++◌, length, fold, map, All, refl, sym, ap, ◌∙◌, subst, ⊎_elim, arith, length-append, Some, None, Bool}
use Rattle.std.specs.Prelude.{Contains, if◌then◌else◌}
use Rattle.std.proofs.lemmas.Bool.Decides.{leb_tells}
use Rattle.sat_words.specs.Literal.{Literal}
use Rattle.rup_model.specs.declared.journal.Kind.{Kind}
use Rattle.rup_model.specs.declared.journal.Entry.{Entry}
use Rattle.rup_model.specs.declared.journal.Entry.TheVariants.{Add, Del, Reduce as ReduceEntry, Round}
use Rattle.rup_model.specs.Journal.{Book}
use Rattle.rup_model.proofs.Numbers.{book_last}
use Rattle.share_core.specs.declared.stored.ClauseAt.{ClauseAt}
use Rattle.share_core.specs.declared.stored.Cell.{Cell}
use Rattle.share_core.specs.declared.part.CoreOpening.{CoreOpening}
use Rattle.share_core.specs.State.{State, times_at, clause_at, number_at, lits_at, slot_of}
use Rattle.share_core.proofs.Holding.{slot_open}
use Rattle.share_core.specs.Events.{after}
use Rattle.share_core.specs.Sound.{Sound, IsCopy}
use Rattle.share_core.proofs.Counting.{slot_below}
use Rattle.share_core.proofs.ClauseLists.{all_in}
use Rattle.share_rule.specs.declared.Layout.{Layout}
use Rattle.share_rule.specs.declared.note.Note.{Note}
use Rattle.share_rule.specs.Views.{clause_in, glue_in}
use Rattle.share_core.specs.Left.{Left}
use Rattle.share_rule.specs.Seen.{IsRefused, HasGiven}
use Rattle.share_rule.specs.declared.view.Refusal.{Refusal}
use Rattle.share_rule.specs.Room.{Room, placed, room_after, Places}
use Rattle.share_rule.specs.Turns.{event_of, next_number, Sheet}
use Rattle.share_rule.proofs.Lists.{first_at}
use Rattle.share_rule.proofs.Parts.{copy_is}

-- the ruler's part stands in front
pub begins_long : (c : State) → Sound c → length c.opening.journal ≤ length c.journal
begins_long c s = let b = s.log.begins in let n = ap (λ (J : List Entry). length J) b.1 in let k = length-append c.opening.journal b.0 in omega arith

-- what waits at a ring it knows as the cell has it
pub waiting_clause : (c : State) (sound : Sound c) (r a : ℕ) → r < c.opening.rings → 0 < times_at a (c.part r).waiting → (clause_in a (c.part r).waiting ≡ clause_at c a) × ((x : Cell) × (c.cell a ≡ Some x))
waiting_clause c sound r a lt waits =
    let f = first_at a (c.part r).waiting waits in
    let copy = all_in (IsCopy c.cell) (c.part r).waiting (clause_in a (c.part r).waiting) f.0 (sound.copies.waiting r lt) in
    (copy_is c (clause_in a (c.part r).waiting) a f.1 copy, (copy.0, ap c.cell (sym f.1) ∙ copy.1))

-- What notes leave of the core

pub record Beside (r : ℕ) (c d : State) (glue glue' : ℕ → ℕ) : Type 0 where
  pub opening : d.opening ≡ c.opening
  pub granted : (i : ℕ) → d.granted i ≡ c.granted i
  pub slot : (i : ℕ) → d.slot i ≡ c.slot i
  pub drawn : d.drawn ≡ c.drawn
  pub units : d.units ≡ c.units
  pub numbers : d.numbers ≡ c.numbers
  pub turn : d.turn ≡ c.turn
  pub stop : d.stop ≡ c.stop
  pub others : (i : ℕ) → i ≢ r → d.part i ≡ c.part i
  pub open_cells : (a : ℕ) (x : Cell) → d.cell a ≡ Some x → x.maker ≡ None → c.cell a ≡ Some x
  pub built : (a i : ℕ) (x : Cell) → c.cell a ≡ Some x → x.maker ≡ Some i → d.cell a ≡ Some x
  pub counted : (a : ℕ) (x : Cell) → c.cell a ≡ Some x → 0 < x.count → d.cell a ≡ Some x
  pub next : next_number c.opening c.journal ≤ next_number d.opening d.journal
  pub refused : (l : Layout) (failed : Bool) (x : Refusal) → IsRefused l c.opening c.journal failed x → IsRefused l d.opening d.journal failed x
  pub glue_else : (n : ℕ) → n < next_number c.opening c.journal → glue' n ≡ glue n

pub beside_same : (r : ℕ) (c : State) (glue : ℕ → ℕ) → Beside r c c glue glue
beside_same r c glue = record { opening = refl; granted = λ i. refl; slot = λ i. refl; drawn = refl; units = refl; numbers = refl; turn = refl; stop = refl; others = λ i n. refl; open_cells = λ a x is o. is; built = λ a i x is m. is; counted = λ a x is n. is; next = omega arith; refused = λ _ _ x e. e; glue_else = λ n lt. refl }

pub beside_both : (r : ℕ) (b c d : State) (g h k : ℕ → ℕ) → Beside r b c g h → Beside r c d h k → Beside r b d g k
beside_both r b c d g h k x y = record {
  opening = y.opening ∙ x.opening;
  granted = λ i. y.granted i ∙ x.granted i;
  slot = λ i. y.slot i ∙ x.slot i;
  drawn = y.drawn ∙ x.drawn;
  units = y.units ∙ x.units;
  numbers = y.numbers ∙ x.numbers;
  turn = y.turn ∙ x.turn;
  stop = y.stop ∙ x.stop;
  others = λ i n. y.others i n ∙ x.others i n;
  open_cells = λ a z is o. x.open_cells a z (y.open_cells a z is o) o;
  built = λ a i z is m. y.built a i z (x.built a i z is m) m;
  counted = λ a z is n. y.counted a z (x.counted a z is n) n;
  next = let p = x.next in let q = y.next in omega arith;
  refused = λ l f z e. y.refused l f z (x.refused l f z e);
  glue_else = λ n lt. let p = x.next in y.glue_else n (omega arith) ∙ x.glue_else n lt;
}

-- the sheet is the ring's part of the core, with the glues of what it holds and builds
pub record IsSheet (c : State) (glue : ℕ → ℕ) (r : ℕ) (s : Sheet) : Type 0 where
  pub journal : s.journal ≡ c.journal
  pub part : s.part ≡ c.part r
  pub held_glues : All (λ h. glue_in h.number s.glues ≡ glue h.number) s.part.held
  pub made_glues : All (λ h. glue_in h.number s.glues ≡ glue h.number) s.part.making

-- what notes leave
pub record Noted (l : Layout) (r : ℕ) (c : State) (glue : ℕ → ℕ) (ns : List Note) (s : Sheet) : Type 0 where
  pub core : State
  pub runs : core ≡ fold after c (map (event_of r) ns)
  pub glue' : ℕ → ℕ
  pub left : Left core.opening core
  pub places : Places l core
  pub beside : Beside r c core glue glue'
  pub sheet : IsSheet core glue' r s

pub next_after : (o : CoreOpening) (J : List Entry) (e : Entry) → next_number o J ≤ next_number o (J ++ e ∷ [])
next_after o J (Add x) = let q = ap (λ (b : Book). b.next) (book_last o.formula J (Add x)) in omega arith
next_after o J (Del r n) = let q = ap (λ (b : Book). b.next) (book_last o.formula J (Del r n)) in omega arith
next_after o J (ReduceEntry r) = let q = ap (λ (b : Book). b.next) (book_last o.formula J (ReduceEntry r)) in omega arith
next_after o J (Round x) = let q = ap (λ (b : Book). b.next) (book_last o.formula J (Round x)) in omega arith

pub long_entry : (m : Room) (n : ℕ) (lits : List Literal) (r : ℕ) (kind : Kind) → 2 ≤ length lits → room_after m (Add (record { ring = r; number = n; lits = lits; kind = kind; hints = [] })) ≡ placed m n (length lits)
long_entry m n lits r kind le = ⊎_elim
    (λ t i. if t.0 i then placed m n (length lits) else m)
    (λ t. let k = t.1 in absurd (omega arith))
    (leb_tells 2 (length lits))

-- what slots have stays as given
pub noted_given : (r : ℕ) (c d : State) (glue glue' : ℕ → ℕ) (i : ℕ) (gave : List ClauseAt) → Sound c → Beside r c d glue glue' → i < c.opening.rings → HasGiven c i gave → HasGiven d i gave
noted_given r c d glue glue' i gave sound b lt h = subst
    (λ (o : CoreOpening). (to class place : ℕ) → to < o.rings → class < 4 → place < o.depth → d.slot (slot_of o i to class place) ≢ 0 → Contains gave (clause_at d (d.slot (slot_of o i to class place)))) (sym b.opening)
    (λ to class place there few at some.
    let k : ℕ = slot_of c.opening i to class place in
    let was : c.slot k ≢ 0 = λ e. some (b.slot k ∙ e) in
    let x = slot_open c k sound (slot_below c.opening i to class place lt there few at) was in
    let same : d.cell (c.slot k) ≡ c.cell (c.slot k) = b.counted (c.slot k) x.0 x.1.0 x.2 ∙ sym x.1.0 in
    let clause : clause_at d (d.slot k) ≡ clause_at c (c.slot k) = ap (clause_at d) (b.slot k) ∙ (λ j. record { address = c.slot k; number = number_at (same j); lits = lits_at (same j) }) in
    subst (λ (y : ClauseAt). Contains gave y) (sym clause) (h to class place there few at was))
