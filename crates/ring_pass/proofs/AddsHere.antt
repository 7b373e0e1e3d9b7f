-- A turn of the log that adds a clause.
use Rattle.io_edge.specs.declared.edge.Sink.{Ghosts}
use Rattle.std.proofs.Common.{◌≡◌, ℕ, suc, ◌&&◌, Bool, true, not, List, [], ◌∷◌, ◌++◌, sym, ap, subst, ◌∙◌, arith, Option}
use Rattle.std.specs.Prelude.{Result, Ok, Err, IfOk, IfErr}
use Rattle.std.specs.List.{list_any}
use Rattle.sat_words.specs.Literal.{Literal}
use Rattle.sat_words.specs.Clause.{includes}
use Rattle.rup_model.specs.declared.journal.Entry.{Entry}
use Rattle.rup_model.specs.declared.journal.Kind.{Kind}
use Rattle.rup_model.specs.declared.journal.Kind.TheVariants.{Ruler, Learn, Derive, UnitLine}
use Rattle.rup_model.specs.Journal.{Book as Clauses, book, book_after, formula_book, ended}
use Rattle.rup_model.specs.Opening.{start_clauses, IsLong}
use Rattle.rup_model.proofs.Sequences.{fold_last}
use Rattle.share_core.specs.Learning.{MayAddClause, follows}
use Rattle.share_core.specs.State.{opening_of}
use Rattle.share_core.specs.declared.part.CoreOpening.{CoreOpening}
use Rattle.share_rule.specs.declared.Layout.{Layout}
use Rattle.share_rule.specs.declared.note.Note.{Note}
use Rattle.share_rule.specs.declared.note.Note.TheVariants.{Clause}
use Rattle.share_rule.specs.declared.view.RingPart.{RingPart}
use Rattle.share_rule.specs.declared.view.View.{View}
use Rattle.share_rule.specs.Layout.{InVars}
use Rattle.share_rule.specs.Seen.{Seen}
use Rattle.share_rule.specs.Turns.{Sheet, entry_of, written_of, take_part, after_give}
use Rattle.share_rule.specs.Views.{only}
use Rattle.log_book.specs.declared.turn.Turn.{Turn}
use Rattle.log_book.specs.Turns.{WasTaken, Grown, MayAdd, sheet}
use Rattle.ring_pass.specs.Cells.{WroteClause}
use Rattle.ring_pass.specs.Writes.{entries_of, own_opening, sheet_with, KnowsJournal}
use Rattle.ring_pass.proofs.Stays.{only_is}
use Rattle.ring_pass.proofs.TurnsHere.{HasTurn, turn_taken, failed_taken, sheet_taken, journal_known, turn_given}

-- a clause may be added if it is fresh to the ring's own entries
pub may_add : (v : View) (J : List Entry) (kind : Kind) (lits : List Literal) → KnowsJournal v J → MayAddClause (own_opening v) (entries_of (only v)) (only v).core (only v).core.ring kind lits → MayAddClause v.opening J (only v).core (only v).core.ring kind lits
may_add v J Ruler lits k h = h
may_add v J Learn lits k h = (λ i. (only v).core.ticket && not (list_any (includes lits) (start_clauses (opening_of v.opening) ++ k.recent_is i))) ∙ h
may_add v J Derive lits k h = h
may_add v J UnitLine lits k h = h

-- so it may be added next, in a turn that has nothing
pub may_add_next : {S : Type 0} {d : Ghosts S} (v w : View) (t : Turn S d) (J : List Entry) (failed : Bool) (kind : Kind) (lits : List Literal) (hints : List ℕ) → HasTurn v w J failed → t.noted.items ≡ [] → MayAddClause v.opening J (only v).core (only v).core.ring kind lits → IsLong lits → follows v.opening.hinted (only v).core lits hints ≡ true → InVars v.layout lits → MayAdd w t kind lits hints
may_add_next {S} {d} v w t J failed kind lits hints h none may long knows on =
    let ring : (only w).core.ring ≡ (only v).core.ring = ap (λ (p : RingPart). p.core.ring) (only_is w (take_part J failed (only v)) h.parts) in
    let is : sheet w t ≡ sheet_with J (only v) = ap (written_of w) none ∙ sheet_taken v w J failed [] h in
    subst (λ (y : Layout × CoreOpening × ℕ × Sheet). MayAddClause y.1 y.3.journal y.3.part y.2 kind lits × IsLong lits × (follows y.1.hinted y.3.part lits hints ≡ true) × InVars y.0 lits) (λ i. (sym h.layout i, sym h.opening i, sym ring i, sym is i)) (may, long, knows, on)

-- Results

pub on_both : {T E : Type 0} {R : Type 0} {P : T → Type 0} {Q : E → Type 0} (r : Result T E) → ((x : T) → P x → R) → ((e : E) → Q e → R) → IfOk r P → IfErr r Q → R
on_both (Ok x) f k h j = f x h
on_both (Err e) f k h j = k e j

pub ok_is : {T E : Type 0} (P : T → Type 0) (r : Result T E) (x : T) → r ≡ Ok x → IfOk r P → P x
ok_is {T} {E} P r x e h = subst (λ (y : Result T E). IfOk y P) e h

pub err_is : {T E : Type 0} (P : E → Type 0) (r : Result T E) (x : E) → r ≡ Err x → IfErr r P → P x
err_is {T} {E} P r x e h = subst (λ (y : Result T E). IfErr y P) e h

-- The line

pub wrote_clause : {S : Type 0} {d : Ghosts S} {written flushed target : S → Option (List ℕ)} {faults : S → ℕ} {v w : View} {t t' : Turn S d} (u : View) (kind : Kind) (lits : List Literal) (hints : List ℕ) (glue a number : ℕ) → v.parts ≡ only v ∷ [] → (h : WasTaken written flushed target faults v w t) → Seen w
    → Grown written flushed target faults w t t' (Clause kind lits hints glue a) → u ≡ after_give t'.noted.items t'.refused t'.book.log.lines.spent w → number ≡ t'.book.log.lines.last → WroteClause v u kind lits hints glue a number
wrote_clause {S} {d} {written} {flushed} {target} {faults} {v} {w} {t} {t'} u kind lits hints glue a number one h s g is numbered =
    let n : Note = Clause kind lits hints glue a in
    let has = turn_taken one h in
    let J : List Entry = h.taken.book.journal in
    let e : Entry = entry_of v.opening (only v).core.ring J (only v).core n in
    let noted : t'.noted.items ≡ n ∷ [] = g.noted ∙ ap (λ (ns : List Note). ns ++ n ∷ []) h.taken.noted in
    let before : (sheet w t).journal ≡ J = ap (λ (ns : List Note). (written_of w ns).journal) h.taken.noted ∙ ap (λ (x : Sheet). x.journal) (sheet_taken v w J t.book.log.lines.spent [] has) in
    let behind : (sheet w t').journal ≡ J ++ e ∷ [] = ap (λ (ns : List Note). (written_of w ns).journal) noted ∙ ap (λ (x : Sheet). x.journal) (sheet_taken v w J t.book.log.lines.spent (n ∷ []) has) in
    let next : (book v.opening.formula (J ++ e ∷ [])).next ≡ suc (book v.opening.formula J).next = ap (λ (b : Clauses). b.next) (fold_last book_after (formula_book v.opening.formula) J e) in
    let last : suc t'.book.log.lines.last ≡ suc (book v.opening.formula J).next = g.turn.stands.log.last ∙ (λ i. (book (has.opening i).formula (behind i)).next) ∙ next in
    record {
      wrote = record {
        journal = J;
        refused = t'.refused;
        failed = t'.book.log.lines.spent;
        knows = journal_known v w J t.book.log.lines.spent has s;
        gave = turn_given v w u J t.book.log.lines.spent (n ∷ []) t'.noted.items t'.refused t'.book.log.lines.spent has is noted (failed_taken J h has g.turn);
        going = (λ i. ended (sym has.opening i).formula (sym before i)) ∙ g.going.0.going;
        whole = g.whole;
        quiet = g.refused ∙ h.taken.refused;
      };
      number_is = omega arith;
    }
