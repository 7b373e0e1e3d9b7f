-- A unit that the ring wrote in an earlier turn is the first that is listed.
use Rattle.io_edge.specs.declared.edge.Sink.{Ghosts}
use Rattle.std.proofs.Common.{◌≡◌, ◌∙◌, ◌<◌, ◌+◌, ◌==◌, ℕ, Bool, List, [], ◌∷◌, length, sym, ap, subst, arith, cond}
use Rattle.std.proofs.lemmas.Bool.{ne_eqb}
use Rattle.std.specs.Prelude.{slice_index_or}
use Rattle.std.specs.declared.option.Option.{Option}
use Rattle.sat_words.specs.Literal.{Literal, code_of}
use Rattle.sat_words.specs.Clause.{has}
use Rattle.share_rule.specs.declared.note.Note.{Note}
use Rattle.share_rule.specs.declared.view.RingPart.{RingPart}
use Rattle.share_rule.specs.declared.view.View.{View}
use Rattle.share_rule.specs.Layout.{InVars}
use Rattle.share_rule.specs.Seen.{Seen}
use Rattle.share_rule.specs.Views.{only, no_part}
use Rattle.share_rule.specs.Steps.{on_first, after_load}
use Rattle.share_rule.specs.Turns.{IsWriting, after_give, take_part, written_of}
use Rattle.share_core.specs.Events.{seen_part}
use Rattle.share_rule.specs.Units.{MayPublish, count_part, list_part, see_part, unit_part, number_part, after_count, after_list, after_number, after_see, after_unit}
use Rattle.log_book.specs.declared.turn.Turn.{Turn}
use Rattle.log_book.specs.Turns.{WasTaken}
use Rattle.test_units.specs.Doings.{ListedOne, ReadOne}
use Rattle.test_units.specs.Samples.{WroteLast}
use Rattle.test_units.proofs.Giving.{gave_part, gave_turn, one_changed}
use Rattle.test_units.proofs.Telling.{told_own}

pub may_list : {S : Type 0} {d : Ghosts S} (written flushed target : S → Option (List ℕ)) (faults : S → ℕ) (v w z : View) (t : Turn S d) (ring number : ℕ) (lit : Literal) → v.parts ≡ only v ∷ [] → WasTaken written flushed target faults v w t → z ≡ after_count 0 w → Seen z
    → WroteLast ring lit number (only v).core → (only v).core.seen ≡ [] → InVars z.layout (lit ∷ []) → MayPublish lit number z × (0 ≡ length (only z).core.seen)
may_list written flushed target faults v w z t ring number lit one k is s told none on =
    let b = k.taken.book in
    let p : RingPart = take_part b.journal t.book.log.lines.spent (only v) in
    let parts : w.parts ≡ p ∷ [] = ap (λ (x : View). x.parts) b.view ∙ ap (on_first (take_part b.journal t.book.log.lines.spent)) (k.missed.parts ∙ one) in
    let now : z.parts ≡ count_part 0 p ∷ [] = ap (λ (x : View). x.parts) is ∙ ap (on_first (count_part 0)) parts in
    let o : only z ≡ count_part 0 p = ap (λ (ps : List RingPart). slice_index_or ps 0 no_part) now in
    let writing : IsWriting z = (now ∙ (λ i. sym o i ∷ []), (record { journal = b.journal }, ap (λ (q : RingPart). q.turn) o)) in
    let seen : (only z).core.seen ≡ [] = ap (λ (q : RingPart). q.core.seen) o ∙ none in (
      record {
        writing = writing;
        whole = (ap (λ (q : RingPart). q.whole) o, ap (λ (q : RingPart). q.listed) o ∙ sym (ap (λ (ls : List Literal). length ls) seen));
        told = told_own z s writing ring number lit (subst (λ (q : RingPart). WroteLast ring lit number q.core) (sym o) told);
        new = ap (λ (ls : List Literal). has ls lit) seen;
        vars = on;
      },
      sym (ap (λ (ls : List Literal). length ls) seen),
    )

-- the part of a ring that has the turn
taken_part : {S : Type 0} {d : Ghosts S} (written flushed target : S → Option (List ℕ)) (faults : S → ℕ) (v w : View) (t : Turn S d) → v.parts ≡ only v ∷ [] → (k : WasTaken written flushed target faults v w t) → only w ≡ take_part k.taken.book.journal t.book.log.lines.spent (only v)
taken_part written flushed target faults v w t one k =
    let b = k.taken.book in
    ap (λ (ps : List RingPart). slice_index_or ps 0 no_part) (ap (λ (x : View). x.parts) b.view ∙ ap (on_first (take_part b.journal t.book.log.lines.spent)) (k.missed.parts ∙ one))

-- more are listed than the ring has seen
not_caught : (n a : ℕ) → 0 < n → cond (n == 0) (a + 1) a ≡ a
not_caught n a some = ap (λ (b : Bool). cond b (a + 1) a) (ne_eqb n 0 (λ e. omega (arith, e, some)))

-- none was listed, and the ring lists one
pub listed_one : {S : Type 0} {d : Ghosts S} (written flushed target : S → Option (List ℕ)) (faults : S → ℕ) (v w z y x : View) (t : Turn S d) (b : Bool) (number : ℕ) (lit : Literal) → v.parts ≡ only v ∷ [] → (only v).core.seen ≡ []
    → WasTaken written flushed target faults v w t → z ≡ after_count 0 w → y ≡ after_list lit number (after_number number (after_unit (code_of lit) z)) → x ≡ after_give t.noted.items t.refused b y → ListedOne lit number v x
listed_one written flushed target faults v w z y x t b number lit one none k counted listed given =
    let f : RingPart → RingPart = λ p. list_part lit number (number_part number (unit_part (code_of lit) (count_part 0 p))) in
    let parts : y.parts ≡ on_first f w.parts = ap (λ (u : View). u.parts) listed ∙ ap (λ (u : View). on_first (list_part lit number) (on_first (number_part number) (on_first (unit_part (code_of lit)) u.parts))) counted ∙ ap (λ (ps : List RingPart). on_first (list_part lit number) (on_first (number_part number) (on_first (unit_part (code_of lit)) (on_first (count_part 0) ps)))) k.taken.turn.writing.0 ∙ sym (ap (on_first f) k.taken.turn.writing.0) in
    let o : only y ≡ f (only w) = one_changed f w y k.taken.turn.writing.0 parts in
    let alone : y.parts ≡ only y ∷ [] = parts ∙ ap (on_first f) k.taken.turn.writing.0 ∙ (λ i. sym o i ∷ []) in
    let p = taken_part written flushed target faults v w t one k in
    let last = gave_part y x t.noted.items t.refused b alone given in
    record {
      none = ap (λ (q : RingPart). q.caught_up) last ∙ ap (λ (q : RingPart). q.caught_up) o ∙ ap (λ (q : RingPart). (f q).caught_up) p ∙ ap (λ (ls : List Literal). cond (0 == length ls) ((only v).caught_up + 1) (only v).caught_up) none;
      core_is = ap (λ (q : RingPart). q.core) last ∙ ap (λ (ns : List Note). (written_of y ns).part) k.taken.noted ∙ ap (λ (q : RingPart). q.core) o ∙ ap (λ (q : RingPart). seen_part lit number q.core) p;
      gave = gave_turn y x t.noted.items t.refused b given;
    }

-- one was listed, and the ring reads it
pub read_one : {S : Type 0} {d : Ghosts S} (written flushed target : S → Option (List ℕ)) (faults : S → ℕ) (v w z x : View) (t : Turn S d) (b : Bool) (n at number : ℕ) (lit : Literal) → v.parts ≡ only v ∷ [] → (only v).core.seen ≡ []
    → WasTaken written flushed target faults v w t → 0 < n → z ≡ after_load at number (after_see lit number (after_count n w)) → x ≡ after_give t.noted.items t.refused b z → ReadOne v x
read_one written flushed target faults v w z x t b n at number lit one none k some seen given =
    let f : RingPart → RingPart = λ p. see_part lit number (count_part n p) in
    let parts : z.parts ≡ on_first f w.parts = ap (λ (u : View). u.parts) seen ∙ ap (λ (ps : List RingPart). on_first (see_part lit number) (on_first (count_part n) ps)) k.taken.turn.writing.0 ∙ sym (ap (on_first f) k.taken.turn.writing.0) in
    let o : only z ≡ f (only w) = one_changed f w z k.taken.turn.writing.0 parts in
    let alone : z.parts ≡ only z ∷ [] = parts ∙ ap (on_first f) k.taken.turn.writing.0 ∙ (λ i. sym o i ∷ []) in
    let p = taken_part written flushed target faults v w t one k in
    let last = gave_part z x t.noted.items t.refused b alone given in
    record {
      lit = lit;
      number = number;
      some = ap (λ (q : RingPart). q.caught_up) last ∙ ap (λ (q : RingPart). q.caught_up) o ∙ ap (λ (q : RingPart). (f q).caught_up) p ∙ ap (λ (ls : List Literal). cond (n == length ls) ((only v).caught_up + 1) (only v).caught_up) none ∙ not_caught n (only v).caught_up some;
      core_is = ap (λ (q : RingPart). q.core) last ∙ ap (λ (ns : List Note). (written_of z ns).part) k.taken.noted ∙ ap (λ (q : RingPart). q.core) o ∙ ap (λ (q : RingPart). seen_part lit number q.core) p;
      gave = gave_turn z x t.noted.items t.refused b given;
    }
