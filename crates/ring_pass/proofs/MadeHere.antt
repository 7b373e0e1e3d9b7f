-- The cell of a clause whose line stands, and its opening.
use Rattle.std.proofs.Common.{◌≡◌, ◌≢◌, ℕ, ◌^◌, ◌<◌, if◌then◌else◌, List, [], ◌∷◌, ◌++◌, length, refl, sym, ap, subst, ◌∙◌, inl, inr, arith, Option, Some, eq-eqb}
use Rattle.std.proofs.lemmas.Bool.{or_left}
use Rattle.sat_words.specs.Literal.{Literal}
use Rattle.rup_model.specs.declared.journal.Kind.{Kind}
use Rattle.rup_model.specs.declared.journal.Entry.{Entry}
use Rattle.rup_model.specs.Journal.{ended}
use Rattle.rup_model.specs.Opening.{IsLong}
use Rattle.rup_model.proofs.Lists.{In, In_append_right}
use Rattle.rup_model.proofs.ProgramOpening.{All_from_In}
use Rattle.rup_model.proofs.Sums.{below_at}
use Rattle.share_core.specs.declared.stored.ClauseAt.{ClauseAt}
use Rattle.share_core.specs.declared.stored.Cell.{Cell}
use Rattle.share_core.specs.declared.part.Part.{Part}
use Rattle.share_core.specs.Learning.{ticket_after}
use Rattle.share_core.specs.State.{times_at, count_at, maker_at, without_at}
use Rattle.share_core.specs.Sound.{Sound, IsCopy, counted, reach, idle_at}
use Rattle.share_core.proofs.ClauseLists.{all_in, at_in}
use Rattle.share_core.proofs.Counting.{none_some, is_made, idle_made}
use Rattle.share_core.proofs.Leaving.{left_sound}
use Rattle.share_rule.specs.declared.note.Note.TheVariants.{Clause}
use Rattle.share_rule.specs.declared.view.RingPart.{RingPart}
use Rattle.share_rule.specs.declared.view.View.{View}
use Rattle.share_rule.specs.Layout.{InVars}
use Rattle.share_rule.specs.Seen.{Seen}
use Rattle.share_rule.specs.Steps.{open_part, after_open}
use Rattle.share_rule.specs.Turns.{next_number, entry_of, sheet_after, give_part, newer}
use Rattle.share_rule.specs.Views.{only, making_of, clause_in, glue_in, IsBuilding}
use Rattle.share_rule.proofs.Lists.{first_at}
use Rattle.share_rule.proofs.Literals.{few_distinct}
use Rattle.ring_pass.specs.Adding.{Added, clause_with, placed_line}
use Rattle.ring_pass.specs.Cells.{Stored, WroteClause}
use Rattle.ring_pass.specs.Writes.{sheet_with}
use Rattle.ring_pass.proofs.CellsHere.{stored_is, stored_one}
use Rattle.ring_pass.proofs.RingPorts.{copy_of, waiting_copy, one_of, part_of}
use Rattle.ring_pass.proofs.Stays.{only_is, one_is, one_changed}
use Rattle.ring_pass.proofs.TurnsHere.{not_ended}
use Rattle.share_rule.specs.declared.view.Refusal.{Refusal}

-- what a ring builds is a copy of a cell
making_copy : (v : View) (s : Seen v) (one : v.parts ≡ only v ∷ []) (h : ClauseAt) → In h (only v).core.making → IsCopy s.core.cell h
making_copy v s one h i =
    let p = part_of v s one in
    all_in (IsCopy s.core.cell) (s.core.part (only v).core.ring).making h (subst (λ (q : Part). In h q.making) p.part i) ((left_sound s.core.opening s.core s.left).copies.making (only v).core.ring p.ring)

-- if a cell is built nothing is held, and nothing waits
module _ (v : View) (s : Seen v) (one : v.parts ≡ only v ∷ []) (h : ClauseAt) (i : In h (only v).core.making) where
  sound : Sound s.core
  sound = left_sound s.core.opening s.core s.left

  maker : (x : Cell) → s.core.cell h.address ≡ Some x → x.maker ≡ Some (only v).core.ring
  maker x is =
      let p = part_of v s one in
      let there = at_in (only v).core.making h i in
      let some : 0 < times_at h.address (s.core.part (only v).core.ring).making = subst (λ (q : Part). 0 < times_at h.address q.making) p.part there in
      let made = sound.counts.makes (only v).core.ring h.address p.ring in
      ap maker_at (sym is) ∙ is_made (only v).core.ring (maker_at (s.core.cell h.address)) (omega arith)

  pub built_free : times_at h.address (only v).core.held ≡ 0
  built_free =
      let p = part_of v s one in
      let r : ℕ = (only v).core.ring in
      let k = making_copy v s one h i in
      let count = (sound.counts.making h.address k.0 r k.1 (maker k.0 k.1)).0 in
      let some : h.address ≢ 0 = λ e. none_some k.0 (sym sound.counts.nowhere ∙ ap s.core.cell (sym e) ∙ k.1) in
      let none : counted s.core.opening s.core h.address ≡ 0 = sym (sound.counts.counts h.address some) ∙ ap count_at k.1 ∙ count in
      let le = below_at s.core.opening.rings r (λ j. reach s.core.opening (s.core.granted j) (s.core.part j).held h.address) p.ring in
      subst (λ (q : Part). times_at h.address q.held ≡ 0) (sym p.part) (omega arith)

  pub built_waits : times_at h.address (only v).core.waiting ≡ 0
  built_waits =
      let p = part_of v s one in
      let r : ℕ = (only v).core.ring in
      let k = making_copy v s one h i in
      let idle : idle_at (s.core.cell h.address) ≡ 0 = ap idle_at k.1 ∙ idle_made k.0 r (maker k.0 k.1) in
      let is = sound.counts.waits h.address in
      let le = below_at s.core.opening.rings r (λ j. times_at h.address (s.core.part j).waiting) p.ring in
      subst (λ (q : Part). times_at h.address q.waiting ≡ 0) (sym p.part) (omega arith)

  -- and no other clause has its number
  other_number : (k : ClauseAt) → IsCopy s.core.cell k → times_at h.address (k ∷ []) ≡ 0 → k.number ≢ h.number
  other_number k copy none e =
      let m = making_copy v s one h i in
      let at : k.address ≡ h.address = sound.cells.own k.address h.address copy.0 m.0 copy.1 m.1 (copy.2 ∙ e ∙ sym m.2) in
      let here = at_in (k ∷ []) k (inl refl) in
      let same = ap (λ (b : ℕ). times_at b (k ∷ [])) at in
      absurd (omega arith)

-- clauses that don't stand at an address
absent : (a : ℕ) (hs : List ClauseAt) (k : ClauseAt) → In k hs → times_at a hs ≡ 0 → times_at a (k ∷ []) ≡ 0
absent a [] k i z = absurd i
absent a (x ∷ hs) k (inl e) z = subst (λ (y : ClauseAt). times_at a (y ∷ []) ≡ 0) e (omega arith)
absent a (x ∷ hs) k (inr i) z = absent a hs k i (omega arith)

-- The line of a clause stands, and its cell is to be built

module _ (v u : View) (kind : Kind) (lits : List Literal) (hints : List ℕ) (glue a number : ℕ) (h : WroteClause v u kind lits hints glue a number) (s : Seen u) where
  J : List Entry
  J = h.wrote.journal

  abbrev part : RingPart
  part = give_part v.opening (sheet_after v.opening (only v).core.ring (sheet_with h.wrote.journal (only v)) (Clause kind lits hints glue a ∷ [])) h.wrote.refused h.wrote.failed (only v)

  abbrev clause : ClauseAt
  clause = clause_with a (next_number v.opening h.wrote.journal) lits

  pub line_one : u.parts ≡ only u ∷ []
  line_one = one_is u part h.wrote.gave.parts

  line_is : only u ≡ part
  line_is = only_is u part h.wrote.gave.parts

  in_making : In clause (only u).core.making
  in_making = subst (λ (p : RingPart). In clause p.core.making) (sym line_is) (In_append_right (only v).core.making (clause ∷ []) clause (inl refl))

  pub line_building : IsBuilding a u
  line_building = (line_one, at_in (only u).core.making clause in_making)

  making_is : making_of a u ≡ clause
  making_is =
      let f = first_at a (only u).core.making (at_in (only u).core.making clause in_making) in
      one_of u s line_one (making_of a u) clause (making_copy u s line_one (making_of a u) f.0) (making_copy u s line_one clause in_making) f.1

  pub line_number : (making_of a u).number ≡ number
  line_number = ap (λ (k : ClauseAt). k.number) making_is ∙ sym h.number_is

  pub line_lits : (making_of a u).lits ≡ lits
  line_lits = ap (λ (k : ClauseAt). k.lits) making_is

  pub line_glue : glue_in number (only u).glues ≡ glue
  line_glue = ap (λ (p : RingPart). glue_in number p.glues) line_is ∙ (λ i. if eq-eqb (next_number v.opening h.wrote.journal) number (sym h.number_is) i then glue else glue_in number (only v).glues)

  module _ (t w : View) (st : Stored u t) (opens : w ≡ after_open a t) where
    abbrev last : RingPart
    last = open_part a (record part { stored = (only t).stored })

    parts_open : w.parts ≡ last ∷ []
    parts_open = one_changed (open_part a) t w (stored_one u t st) (ap (λ (y : View). y.parts) opens) ∙ (λ i. open_part a ((stored_is u t st ∙ (λ j. record (line_is j) { stored = (only t).stored })) i) ∷ [])

    making_same : clause_in a part.core.making ≡ clause_with a number lits
    making_same = ap (λ (p : RingPart). clause_in a p.core.making) (sym line_is) ∙ making_is ∙ (λ i. clause_with a (sym h.number_is i) lits)

    free : times_at a (only v).core.held ≡ 0
    free = subst (λ (p : RingPart). times_at a p.core.held ≡ 0) line_is (built_free u s line_one clause in_making)

    waits : times_at a (only v).core.waiting ≡ 0
    waits = subst (λ (p : RingPart). times_at a p.core.waiting ≡ 0) line_is (built_waits u s line_one clause in_making)

    -- what it built is built
    built_none : (only v).core.making ≡ [] → last.core.making ≡ []
    built_none none =
        ap (λ (k : ClauseAt). without_at k.address part.core.making) making_same
        ∙ ap (λ (ks : List ClauseAt). without_at a (ks ++ clause ∷ [])) none
        ∙ (λ i. if eq-eqb a a refl i then [] else clause ∷ [])

    pub line_opened : Added v w kind lits hints glue a
    line_opened = record {
      number = number;
      place = length h.wrote.journal;
      part = last;
      parts = parts_open;
      layout = ap (λ (y : View). y.layout) opens ∙ st.layout ∙ h.wrote.gave.layout;
      opening = ap (λ (y : View). y.opening) opens ∙ st.opening ∙ h.wrote.gave.opening;
      stop = ap (λ (y : View). y.stop) opens ∙ st.stop ∙ h.wrote.gave.stop;
      looks = ap (λ (y : View). y.looks) opens ∙ st.looks ∙ h.wrote.gave.looks;
      core = λ i. record (only v).core {
        held = (only v).core.held ++ making_same i ∷ [];
        making = last.core.making;
        wrote = (only v).core.wrote ++ placed_line (length h.wrote.journal) (only v).core.ring (sym h.number_is i) lits kind hints ∷ [];
        ticket = ticket_after kind (only v).core.ticket;
      };
      glues = λ i. record { number = sym h.number_is i; glue = glue } ∷ (only v).glues;
      gave = refl;
      polls = refl;
      caught_up = refl;
      turn = refl;
      refused = ap (λ (x : Option Refusal). newer x (only v).refused) h.wrote.quiet;
      going = not_ended v h.wrote.journal h.wrote.knows h.wrote.going;
      ended_is = λ e. or_left (only v).ended (ended v.opening.formula (h.wrote.journal ++ entry_of v.opening (only v).core.ring h.wrote.journal (only v).core (Clause kind lits hints glue a) ∷ [])) e;
      failed_is = h.wrote.gave.still;
      whole = h.wrote.whole;
      built = λ none. built_none none;
      not_held = free;
      not_waiting = waits;
      held_apart = All_from_In (λ (k : ClauseAt). k.number ≢ number) (only v).core.held (λ k i.
          subst (λ (n : ℕ). k.number ≢ n) (sym h.number_is) (other_number u s line_one clause in_making k (copy_of u s line_one k (subst (λ (p : RingPart). In k p.core.held) (sym line_is) i)) (absent a (only v).core.held k i free)));
      waiting_apart = All_from_In (λ (k : ClauseAt). k.number ≢ number) (only v).core.waiting (λ k i.
          subst (λ (n : ℕ). k.number ≢ n) (sym h.number_is) (other_number u s line_one clause in_making k (waiting_copy u s line_one k (subst (λ (p : RingPart). In k p.core.waiting) (sym line_is) i)) (absent a (only v).core.waiting k i waits)));
    }

-- a clause on the layout's variables has few literals
pub few_lits : (v : View) (s : Seen v) (lits : List Literal) → IsLong lits → InVars v.layout lits → length lits < 2 ^ 32
few_lits v s lits long on = let few = few_distinct v.layout.vars lits long.distinct on in let small = s.places.small in omega arith
