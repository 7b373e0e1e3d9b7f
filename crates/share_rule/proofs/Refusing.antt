-- A turn that finds no room.
use Rattle.std.proofs.Common.{◌≡◌, ◌⊎◌, ℕ, ◌<◌, ◌≤◌, true, List, [], length, sym, ap, ◌∙◌, subst, inl, inr, append-nil}
use Rattle.std.proofs.lemmas.Bool.{and_parts}
use lib.ListN.{get_elem?}
use Rattle.sat_words.specs.Literal.{Literal}
use Rattle.sat_words.specs.Clause.{includes}
use Rattle.clause_cell.specs.Packing.{words_for}
use Rattle.clause_cell.specs.Free.{largest}
use Rattle.rup_model.specs.declared.journal.Kind.{Kind}
use Rattle.rup_model.specs.declared.journal.Kind.TheVariants.{Ruler, Learn, Derive, UnitLine}
use Rattle.rup_model.specs.declared.journal.Entry.{Entry}
use Rattle.rup_model.specs.Rup.{rup}
use Rattle.rup_model.specs.Log.{alive}
use Rattle.rup_model.specs.Journal.{lines, fresh}
use Rattle.rup_model.specs.Opening.{IsLong, start_clauses}
use Rattle.rup_model.proofs.Lists.{In_any}
use Rattle.share_core.specs.declared.stored.ClauseAt.{ClauseAt}
use Rattle.share_core.specs.declared.part.CoreOpening.{CoreOpening}
use Rattle.share_core.specs.declared.part.Part.{Part}
use Rattle.share_core.specs.State.{State, opening_of, later}
use Rattle.share_core.specs.Sound.{Sound}
use Rattle.share_core.specs.Learning.{follows, MayAddClause}
use Rattle.share_core.proofs.Frames.{follows_alive}
use Rattle.share_core.proofs.Holding.{held_alive}
use Rattle.share_core.proofs.Leaving.{left_sound}
use Rattle.share_rule.specs.declared.note.Note.{Note}
use Rattle.share_rule.specs.declared.view.View.{View}
use Rattle.share_rule.specs.Layout.{InVars}
use Rattle.share_rule.specs.Room.{room}
use Rattle.share_rule.specs.Seen.{Seen, IsPart}
use Rattle.share_rule.specs.Shown.{ring_of}
use Rattle.share_rule.specs.Tight.{IsFreshForSome, IsPartOfAlive, IsTight}
use Rattle.share_rule.specs.Turns.{IsWriting, MayWrite, written_of}
use Rattle.share_rule.specs.Views.{only}
use Rattle.share_rule.proofs.Sheets.{Noted, begins_long}
use Rattle.share_rule.proofs.Written.{written_core}

-- what a ring may add is fresh for it, or a part of what it holds
cause_of : (c : State) (r : ℕ) (kind : Kind) (lits : List Literal) → Sound c → r < c.opening.rings → MayAddClause c.opening c.journal (c.part r) r kind lits → IsFreshForSome c.opening c.journal lits ⊎ IsPartOfAlive c.opening c.journal lits
cause_of c r Ruler lits s lt may = absurd may
cause_of c r Learn lits s lt may = inl (r, lt, (and_parts (c.part r).ticket (fresh (start_clauses (opening_of c.opening)) (later c.opening c.journal) r lits) may).1)
cause_of c r Derive lits s lt may =
    let t = In_any (λ (h : ClauseAt). includes h.lits lits) (c.part r).held may in
    inr (t.0.number, t.0.lits, held_alive c r t.0 s lt t.1, t.2)
cause_of c r UnitLine lits s lt may = absurd may

-- a clause that may be added after a turn's notes, and finds no hole
pub turn_tight : (v : View) (ns : List Note) (kind : Kind) (lits : List Literal) (hints : List ℕ) (need most : ℕ) → Seen v → IsWriting v → MayWrite v ns
    → MayAddClause v.opening (written_of v ns).journal (written_of v ns).part (ring_of (only v)) kind lits → IsLong lits → follows v.opening.hinted (written_of v ns).part lits hints ≡ true → InVars v.layout lits
    → need ≡ words_for (length lits) → most ≡ largest (room v.layout v.opening (written_of v ns).journal).holes → most < need
    → IsTight v.layout v.opening (written_of v ns).journal need most
turn_tight v ns kind lits hints need most s w may add long from on need_is most_is short =
    let r : ℕ = ring_of (only v) in
    let n : Noted v.layout r s.core s.glue ns (written_of v ns) = written_core v s w ns may in
    let c : State = n.core in
    let sound : Sound c = left_sound c.opening c n.left in
    let opening : c.opening ≡ v.opening = n.beside.opening ∙ sym s.opening in
    let part : IsPart v.layout s.core s.glue (only v) = s.parts 0 (only v) (ap (λ ps. get_elem? ps 0) w.0) in
    let lt : r < c.opening.rings = subst (λ (o : CoreOpening). r < o.rings) (sym n.beside.opening) part.ring in
    let J : List Entry = (written_of v ns).journal in
    let add_there : MayAddClause c.opening c.journal (c.part r) r kind lits =
    subst (λ (y : CoreOpening × (List Entry × Part)). MayAddClause y.0 y.1.0 y.1.1 r kind lits) (λ i. (sym opening i, (n.sheet.journal i, n.sheet.part i))) add in
    let from_there : follows c.opening.hinted (c.part r) lits hints ≡ true = (λ i. follows (opening i).hinted (sym n.sheet.part i) lits hints) ∙ from in
    let back : (P : CoreOpening → List Entry → Type 0) → P c.opening c.journal → P v.opening J = λ P h. subst (λ (y : CoreOpening × List Entry). P y.0 y.1) (λ i. (opening i, sym n.sheet.journal i)) h in
    let begun : length v.opening.journal ≤ length J = back (λ o K. length o.journal ≤ length K) (begins_long c sound) in
    inl (
      J,
      [],
      sym (append-nil J),
      begun,
      record {
        clause = lits;
        next = record {
          long = long;
          on = on;
          valid = back (λ o K. rup (alive o.formula (lines o.formula K)) lits ≡ true) (follows_alive c r lits hints sound lt from_there);
          cause = back (λ o K. IsFreshForSome o K lits ⊎ IsPartOfAlive o K lits) (cause_of c r kind lits sound lt add_there);
        };
        need_is = need_is;
        most_is = most_is;
        short = short;
      },
    )
