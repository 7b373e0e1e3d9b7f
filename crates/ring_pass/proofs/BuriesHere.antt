-- Several deletions in a turn of the log.
use Rattle.io_edge.specs.declared.edge.Sink.{Ghosts}
use Rattle.std.proofs.Common.{◌≡◌, ℕ, zero, suc, ◌+◌, ◌-◌, ◌<◌, ◌≤◌, ◌==◌, Bool, true, false, ◌||◌, if◌then◌else◌, List, [], ◌∷◌, ◌++◌, map, fold, length, get_or, take, drop, refl, sym, ap, subst, ◌∙◌, arith, Option, None, eq-eqb, append_assoc, append-nil, length-drop}
use Rattle.std.proofs.Math.Seq.{take-add, drop-drop}
use Rattle.std.proofs.lemmas.Bool.{true≢false, or_left}
use Rattle.std.proofs.lemmas.List.{map-append, map_more, take_all}
use Rattle.std.proofs.lemmas.List.Sums.{fold-append}
use Rattle.std.specs.List.{list_any}
use Rattle.sat_words.specs.Literal.{Literal}
use Rattle.sat_words.specs.Clause.{is_empty}
use Rattle.rup_model.specs.declared.journal.Entry.{Entry}
use Rattle.rup_model.specs.declared.journal.Entry.TheVariants.{Del}
use Rattle.rup_model.specs.Basics.{one_if}
use Rattle.rup_model.specs.Journal.{added, ended, recent, recent_after}
use Rattle.rup_model.proofs.Additions.{added-append}
use Rattle.share_core.specs.declared.part.CoreOpening.{CoreOpening}
use Rattle.share_core.specs.declared.part.Part.{Part}
use Rattle.share_core.specs.declared.part.Placed.{Placed}
use Rattle.share_core.specs.declared.stored.ClauseAt.{ClauseAt}
use Rattle.share_core.specs.State.{times_at, without_at, later}
use Rattle.share_rule.specs.declared.note.Note.{Note}
use Rattle.share_rule.specs.declared.note.Note.TheVariants.{Bury}
use Rattle.share_rule.specs.declared.view.Refusal.{Refusal}
use Rattle.share_rule.specs.declared.view.RingPart.{RingPart}
use Rattle.share_rule.specs.declared.view.View.{View}
use Rattle.share_rule.specs.Seen.{Seen}
use Rattle.share_rule.specs.Turns.{Sheet, noted, sheet_after, sheet_of, written_of, journal_in, take_part, give_part, after_give}
use Rattle.share_rule.specs.Views.{only, clause_in}
use Rattle.log_book.specs.declared.stop.TurnStop.{TurnStop}
use Rattle.log_book.specs.declared.turn.Turn.{Turn}
use Rattle.log_book.specs.Turns.{IsTurn, WasTaken, Grown, Refused as TurnRefused, IsCause, noted_as, waiting, sheet}
use Rattle.ring_pass.specs.declared.waiting.Waiting.{Waiting}
use Rattle.ring_pass.specs.Deletions.{deletions_of, Deleted, DeletedSome, burials, Buried, BuriedSome}
use Rattle.ring_pass.specs.RingState.{IsWaiting, AreWaiting}
use Rattle.ring_pass.specs.Writes.{entries_of, sheet_with, GaveTurn}
use Rattle.ring_pass.proofs.DeletesHere.{are_drop}
use Rattle.ring_pass.proofs.Stays.{only_is}
use Rattle.ring_pass.proofs.TurnsHere.{HasTurn, turn_taken, failed_taken, sheet_taken, journal_known, turn_given, cause_tells, cause_why, not_ended, wrote_none, mine_last}

-- Lists

-- the clause at a place, and its place among those that wait
record IsNext (w : Waiting) (i : ℕ) (hs : List ClauseAt) : Type 0 where
  clause : ClauseAt
  is : IsWaiting w clause
  next : drop i hs ≡ clause ∷ drop (suc i) hs

are_at : (ws : List Waiting) (hs : List ClauseAt) (i : ℕ) (w : Waiting) → AreWaiting ws hs → i < length ws → w ≡ get_or ws i w → IsNext w i hs
are_at [] hs i w a lt e = absurd (omega arith)
are_at (x ∷ ws) [] i w a lt e = absurd a
are_at (x ∷ ws) (h ∷ hs) zero w a lt e = record { clause = h; is = subst (λ (y : Waiting). IsWaiting y h) (sym e) a.0; next = refl }
are_at (x ∷ ws) (h ∷ hs) (suc i) w a lt e = let t = are_at ws hs i w a.1 (omega arith) e in record { clause = t.clause; is = t.is; next = t.next }

-- the first of some clauses is found at its address
first_here : (h : ClauseAt) (hs : List ClauseAt) (a : ℕ) → a ≡ h.address → (0 < times_at a (h ∷ hs)) × (clause_in a (h ∷ hs) ≡ h) × (without_at a (h ∷ hs) ≡ hs)
first_here h hs a e =
    let here : (h.address == a) ≡ true = eq-eqb h.address a (sym e) in
    let one : one_if (h.address == a) ≡ 1 = ap one_if here in
    (omega arith, (λ i. if here i then h else clause_in a hs), (λ i. if here i then hs else h ∷ without_at a hs))

-- Journals

-- deletions add nothing, and are no reductions
none_added : (r : ℕ) (hs : List ClauseAt) → added (deletions_of r hs) ≡ []
none_added r [] = refl
none_added r (h ∷ hs) = none_added r hs

ended_still : (F : List (List Literal)) (J : List Entry) (r : ℕ) (hs : List ClauseAt) → ended F (J ++ deletions_of r hs) ≡ ended F J
ended_still F J r hs = ap (λ (cs : List (List Literal)). list_any is_empty (F ++ cs)) (added-append J (deletions_of r hs) ∙ ap (λ (cs : List (List Literal)). added J ++ cs) (none_added r hs) ∙ append-nil (added J))

recent_past : (r q : ℕ) (cs : List (List Literal)) (hs : List ClauseAt) → fold (recent_after r) cs (deletions_of q hs) ≡ cs
recent_past r q cs [] = refl
recent_past r q cs (h ∷ hs) = ap (λ (ds : List (List Literal)). fold (recent_after r) ds (deletions_of q hs)) (append-nil cs) ∙ recent_past r q cs hs

recent_still : (r q : ℕ) (J : List Entry) (hs : List ClauseAt) → recent r (J ++ deletions_of q hs) ≡ recent r J
recent_still r q J hs = fold-append (recent_after r) [] J (deletions_of q hs) ∙ recent_past r q (recent r J) hs

recent_none : (r q n : ℕ) (hs : List ClauseAt) → recent r (drop n (deletions_of q hs)) ≡ []
recent_none r q zero hs = recent_past r q [] hs
recent_none r q (suc n) [] = refl
recent_none r q (suc n) (h ∷ hs) = recent_none r q n hs

-- the same of what comes after the first n entries
recent_later : (r q n : ℕ) (J : List Entry) (hs : List ClauseAt) → recent r (drop n (J ++ deletions_of q hs)) ≡ recent r (drop n J)
recent_later r q zero J hs = recent_still r q J hs
recent_later r q (suc n) [] hs = recent_none r q (suc n) hs
recent_later r q (suc n) (e ∷ J) hs = recent_later r q n J hs

-- The sheet of a turn

-- after the first k of what waits is deleted
record AfterBurials (r : ℕ) (s t : Sheet) (hs : List ClauseAt) (k : ℕ) : Type 0 where
  waiting : t.part.waiting ≡ drop k hs
  core : t.part ≡ record s.part { waiting = t.part.waiting; wrote = t.part.wrote }
  glues : t.glues ≡ s.glues
  wrote : map (λ (e : Placed). e.entry) t.part.wrote ≡ map (λ (e : Placed). e.entry) s.part.wrote ++ deletions_of r (take k hs)
  journal : t.journal ≡ s.journal ++ deletions_of r (take k hs)

after_burials : (o : CoreOpening) (r k : ℕ) (ws : List Waiting) (hs : List ClauseAt) (s : Sheet) → s.part.waiting ≡ hs → AreWaiting ws hs → AfterBurials r s (sheet_after o r s (burials (take k ws))) hs k
after_burials o r zero ws hs s e a = record { waiting = e; core = refl; glues = refl; wrote = sym (append-nil (map (λ (e : Placed). e.entry) s.part.wrote)); journal = sym (append-nil s.journal) }
after_burials o r (suc k) [] [] s e a = record { waiting = e; core = refl; glues = refl; wrote = sym (append-nil (map (λ (e : Placed). e.entry) s.part.wrote)); journal = sym (append-nil s.journal) }
after_burials o r (suc k) [] (h ∷ hs) s e a = absurd a
after_burials o r (suc k) (w ∷ ws) [] s e a = absurd a
after_burials o r (suc k) (w ∷ ws) (h ∷ hs) s e a =
    let x : ℕ = w.cell.address in
    let f = first_here h hs x a.0.address in
    let n : ℕ = (clause_in x s.part.waiting).number in
    let number : n ≡ h.number = ap (λ (ks : List ClauseAt). (clause_in x ks).number) e ∙ ap (λ (c : ClauseAt). c.number) f.1 in
    let b = after_burials o r k ws hs (noted o r s (Bury x)) (ap (without_at x) e ∙ f.2) a.1 in
    let mine : List Entry = map (λ (e : Placed). e.entry) s.part.wrote in
    let rest : List Entry = deletions_of r (take k hs) in
    record {
      waiting = b.waiting;
      core = b.core;
      glues = b.glues;
      wrote = b.wrote ∙ (λ i. mine_last s.part.wrote (record { place = length s.journal; entry = Del r n }) i ++ rest) ∙ append_assoc mine (Del r n ∷ []) rest ∙ (λ i. mine ++ Del r (number i) ∷ rest);
      journal = b.journal ∙ append_assoc s.journal (Del r n ∷ []) rest ∙ (λ i. s.journal ++ Del r (number i) ∷ rest);
    }

-- with these notes
sheet_buried : {S : Type 0} {d : Ghosts S} (v : View) (t : Turn S d) (ws : List Waiting) (k : ℕ) → AreWaiting ws (only v).core.waiting → t.noted.items ≡ burials (take k ws) → AfterBurials (only v).core.ring (sheet_of v) (sheet v t) (only v).core.waiting k
sheet_buried v t ws k a e = subst (λ (ns : List Note). AfterBurials (only v).core.ring (sheet_of v) (written_of v ns) (only v).core.waiting k) (sym e) (after_burials v.opening (only v).core.ring k ws (only v).core.waiting (sheet_of v) refl a)

-- the next clause waits, as the turn has it
pub may_bury : {S : Type 0} {d : Ghosts S} (v : View) (t : Turn S d) (ws : List Waiting) (k : ℕ) (x : Waiting) → AreWaiting ws (only v).core.waiting → t.noted.items ≡ burials (take k ws) → k < length ws → x ≡ get_or ws k x
    → (0 < times_at x.cell.address (sheet v t).part.waiting) × (x.number ≡ (waiting v t x.cell.address).number) × (x.lits.items ≡ (waiting v t x.cell.address).lits)
may_bury v t ws k x a e lt is =
    let n = are_at ws (only v).core.waiting k x a lt is in
    let f = first_here n.clause (drop (suc k) (only v).core.waiting) x.cell.address n.is.address in
    subst (λ (hs : List ClauseAt). (0 < times_at x.cell.address hs) × (x.number ≡ (clause_in x.cell.address hs).number) × (x.lits.items ≡ (clause_in x.cell.address hs).lits)) (sym ((sheet_buried v t ws k a e).waiting ∙ n.next))
    (f.0, n.is.number ∙ ap (λ (h : ClauseAt). h.number) (sym f.1), n.is.lits ∙ ap (λ (h : ClauseAt). h.lits) (sym f.1))

-- The ring, once the turn is given back

-- by a turn that was refused nothing
deleted_by : (v u : View) (ws : List Waiting) (k : ℕ) (J : List Entry) (failed : Bool) → AreWaiting ws (only v).core.waiting → GaveTurn v u J (burials (take k ws)) None failed → (only v).ended ≡ false → failed ≡ false → Deleted v u k
deleted_by v u ws k J failed a g going whole =
    let s : Sheet = sheet_after v.opening (only v).core.ring (sheet_with J (only v)) (burials (take k ws)) in
    let b = after_burials v.opening (only v).core.ring k ws (only v).core.waiting (sheet_with J (only v)) refl a in
    record {
      part = give_part v.opening s None failed (only v);
      parts = g.parts;
      layout = g.layout;
      opening = g.opening;
      stop = g.stop;
      looks = g.looks;
      core = b.core;
      glues = b.glues;
      gave = refl;
      polls = refl;
      caught_up = refl;
      turn = refl;
      refused = refl;
      waiting = b.waiting;
      wrote = b.wrote;
      going = λ some. going;
      ended_is = λ t. or_left (only v).ended (ended v.opening.formula s.journal) t;
      failed_is = g.still;
      failed_was = λ t. absurd (true≢false (sym t ∙ whole));
    }

or_twice : (a b : Bool) → (a || b) ≡ ((a || b) || b)
or_twice true b = refl
or_twice false true = refl
or_twice false false = refl

or_second : (a b : Bool) → a ≡ false → (a || b) ≡ true → b ≡ true
or_second true b e h = absurd (true≢false e)
or_second false b e h = h

-- what waits is as it was when the turn was taken
pub waits_taken : (v w : View) (ws : List Waiting) (J : List Entry) (failed : Bool) → HasTurn v w J failed → AreWaiting ws (only v).core.waiting → AreWaiting ws (only w).core.waiting
waits_taken v w ws J failed h a = subst (λ (p : RingPart). AreWaiting ws p.core.waiting) (sym (only_is w (take_part J failed (only v)) h.parts)) a

-- and the log was not ended then, if it is so in the turn
going_taken : (v w : View) (J : List Entry) (failed : Bool) → HasTurn v w J failed → ended w.opening.formula (journal_in (only w).turn) ≡ false → ended v.opening.formula J ≡ false
going_taken v w J failed h going = (λ i. ended (sym h.opening i).formula (journal_in (sym (only_is w (take_part J failed (only v)) h.parts) i).turn)) ∙ going

module _ {S : Type 0} {d : Ghosts S} {written flushed target : S → Option (List ℕ)} {faults : S → ℕ} where
  -- none yet
  pub buried_none : (v : View) (t : Turn S d) (ws : List Waiting) → IsTurn written flushed target faults v t → t.noted.items ≡ [] → Buried written flushed target faults v t t ws 0
  buried_none v t ws h e = record { noted = e; refused = refl; turn = h; none = λ z. refl; going = λ lt. absurd (omega arith); whole = λ lt. absurd (omega arith) }

  -- one more
  pub buried_more : (v : View) (old t u : Turn S d) (ws : List Waiting) (k : ℕ) (x : Waiting) → AreWaiting ws (only v).core.waiting → k < length ws → x ≡ get_or ws k x → Buried written flushed target faults v old t ws k → Grown written flushed target faults v t u (Bury x.cell.address)
      → Buried written flushed target faults v old u ws (k + 1)
  buried_more v old t u ws k x a lt is b g = record {
    noted = g.noted ∙ (λ i. b.noted i ++ Bury (is i).cell.address ∷ []) ∙ sym (map_more (λ (y : Waiting). Bury y.cell.address) ws k x lt);
    refused = g.refused ∙ b.refused;
    turn = g.turn;
    none = λ z. absurd (omega arith);
    going = λ _. sym (ap (ended v.opening.formula) (sheet_buried v t ws k a b.noted).journal ∙ ended_still v.opening.formula (journal_in (only v).turn) (only v).core.ring (take k (only v).core.waiting)) ∙ g.going.0.going;
    whole = λ _. g.whole;
  }

  pub deleted_turn : {v w : View} {t t' : Turn S d} (u : View) (ws : List Waiting) (k : ℕ) → v.parts ≡ only v ∷ [] → (h : WasTaken written flushed target faults v w t) → Seen w → AreWaiting ws (only v).core.waiting → 0 < k → Buried written flushed target faults w t t' ws k
      → u ≡ after_give t'.noted.items t'.refused t'.book.log.lines.spent w → Deleted v u k
  deleted_turn {v} {w} {t} {t'} u ws k one h s a some b is =
      let J : List Entry = h.taken.book.journal in
      let was : Bool = t.book.log.lines.spent in
      let failed : Bool = t'.book.log.lines.spent in
      let has : HasTurn v w J was = turn_taken one h in
      let gave : GaveTurn v u J (burials (take k ws)) t'.refused failed = turn_given v w u J was (burials (take k ws)) t'.noted.items t'.refused failed has is b.noted (failed_taken J h has b.turn) in
      deleted_by v u ws k J failed a (subst (λ (x : Option Refusal). GaveTurn v u J (burials (take k ws)) x failed) (b.refused ∙ h.taken.refused) gave) (not_ended v J (journal_known v w J was has s) (going_taken v w J was has (b.going some))) (b.whole some)

  -- a turn whose first deletion was refused
  refused_first : {v w : View} {t t' : Turn S d} (u : View) (ws : List Waiting) (many : ℕ) (e : TurnStop) → v.parts ≡ only v ∷ [] → Deleted v v 0 → (h : WasTaken written flushed target faults v w t) → Seen w → many ≤ length ws → BuriedSome written flushed target faults w t t' ws many 0 e
      → u ≡ after_give t'.noted.items t'.refused t'.book.log.lines.spent w → DeletedSome v u (length ws) 0 e
  refused_first {v} {w} {t} {t'} u ws many e one none h s le b is =
      let J : List Entry = h.taken.book.journal in
      let was : Bool = t.book.log.lines.spent in
      let has : HasTurn v w J was = turn_taken one h in
      let same : b.middle ≡ t = b.first.none refl in
      let r : TurnRefused written flushed target faults w t t' e = subst (λ (y : Turn S d). TurnRefused written flushed target faults w y t' e) same b.refused in
      let c : IsCause faults w t t' e = subst (λ (y : Turn S d). IsCause faults w y t' e) same b.cause in
      record { some = (let lt = b.some in omega arith); middle = v; first = none; refused = wrote_none u e one h s r (cause_why faults v w t t' J was e has h.taken.noted r.alike c) is }

  -- a turn with some, of which a later one was refused: it is as if the turn had been given back and taken again between them
  refused_later : {v w : View} {t t' : Turn S d} (u : View) (ws : List Waiting) (many k : ℕ) (e : TurnStop) → v.parts ≡ only v ∷ [] → (h : WasTaken written flushed target faults v w t) → Seen w → AreWaiting ws (only v).core.waiting → many ≤ length ws → 0 < k → BuriedSome written flushed target faults w t t' ws many k e
      → u ≡ after_give t'.noted.items t'.refused t'.book.log.lines.spent w → DeletedSome v u (length ws) k e
  refused_later {v} {w} {t} {t'} u ws many k e one h s a le some b is =
      let J : List Entry = h.taken.book.journal in
      let r : ℕ = (only v).core.ring in
      let was : Bool = t.book.log.lines.spent in
      let failed : Bool = t'.book.log.lines.spent in
      let m : Turn S d = b.middle in
      let ns : List Note = burials (take k ws) in
      let has : HasTurn v w J was = turn_taken one h in
      let knows = journal_known v w J was has s in
      let x : Sheet = sheet_after v.opening r (sheet_with J (only v)) ns in
      let y : AfterBurials r (sheet_with J (only v)) x (only v).core.waiting k = after_burials v.opening r k ws (only v).core.waiting (sheet_with J (only v)) refl a in
      let none : (only v).ended ≡ false = not_ended v J knows (going_taken v w J was has (b.first.going some)) in
      let whole : m.book.log.lines.spent ≡ false = b.first.whole some in
      let before : (only v).failed ≡ true → m.book.log.lines.spent ≡ true = failed_taken J h has b.first.turn in
      let p : RingPart = give_part v.opening x None m.book.log.lines.spent (only v) in
      let mid : View = record v { parts = p ∷ [] } in
      let ring : x.part.ring ≡ r = ap (λ (q : Part). q.ring) y.core in
      let gave : GaveTurn v u J ns t'.refused failed = turn_given v w u J was ns t'.noted.items t'.refused failed has is (b.refused.noted ∙ b.first.noted) (failed_taken J h has b.refused.turn) in
      let at : sheet w m ≡ x = ap (written_of w) b.first.noted ∙ sheet_taken v w J was ns has in
      let why = cause_tells faults v w m t' x.journal e (λ i. ended (sym has.opening i).formula (sym at i).journal) b.refused.alike b.cause in
      record {
        some = (let lt = b.some in omega arith);
        middle = mid;
        first = deleted_by v mid ws k J m.book.log.lines.spent a (record { parts = refl; layout = refl; opening = refl; stop = refl; looks = refl; still = before }) none whole;
        refused = record {
          journal = x.journal;
          refused = t'.refused;
          was = m.book.log.lines.spent;
          failed = failed;
          knows = record {
            ended_is = λ q. or_second (only v).ended (ended v.opening.formula x.journal) none q;
            recent_is = ap (λ (K : List Entry). recent x.part.ring (later v.opening K)) y.journal ∙ recent_later x.part.ring r (length v.opening.journal) J (take k (only v).core.waiting) ∙ (λ i. recent (ring i) (later v.opening J)) ∙ knows.recent_is ∙ (λ i. recent (sym ring i) (entries_of (only v)))
                ∙ sym (recent_still x.part.ring r (entries_of (only v)) (take k (only v).core.waiting)) ∙ ap (recent x.part.ring) (sym y.wrote);
          };
          gave = record {
            parts = gave.parts ∙ (λ i. record (give_part v.opening x t'.refused failed (only v)) { ended = or_twice (only v).ended (ended v.opening.formula x.journal) i } ∷ []);
            layout = gave.layout;
            opening = gave.opening;
            stop = gave.stop;
            looks = gave.looks;
            still = λ q. absurd (true≢false (sym q ∙ whole));
          };
          why = why.0;
          noted = b.refused.refused ∙ ap (noted_as e) (b.first.refused ∙ h.taken.refused);
          fault = why.1;
          before = λ q. q;
          alone = λ lone q. q;
        };
      }

  pub refused_turn : {v w : View} {t t' : Turn S d} (u : View) (ws : List Waiting) (many k : ℕ) (e : TurnStop) → v.parts ≡ only v ∷ [] → Deleted v v 0 → (h : WasTaken written flushed target faults v w t) → Seen w → AreWaiting ws (only v).core.waiting → many ≤ length ws → BuriedSome written flushed target faults w t t' ws many k e
      → u ≡ after_give t'.noted.items t'.refused t'.book.log.lines.spent w → DeletedSome v u (length ws) k e
  refused_turn u ws many zero e one none h s a le b is = refused_first u ws many e one none h s le b is
  refused_turn u ws many (suc k) e one none h s a le b is = refused_later u ws many (suc k) e one h s a le (omega arith) b is

-- One turn after another

going_both : (j k : ℕ) (x y : Bool) → (0 < j → x ≡ false) → (0 < k → y ≡ false) → (x ≡ true → y ≡ true) → 0 < j + k → x ≡ false
going_both zero k true y f g h lt = sym (h refl) ∙ g (omega arith)
going_both zero k false y f g h lt = refl
going_both (suc j) k x y f g h lt = f (omega arith)

pub deleted_both : (v m w : View) (j k : ℕ) → Deleted v m j → Deleted m w k → Deleted v w (j + k)
deleted_both v m w j k a b =
    let r : ℕ = (only v).core.ring in
    let hs : List ClauseAt = (only v).core.waiting in
    let now : only m ≡ a.part = only_is m a.part a.parts in
    let same : (only m).core ≡ record (only v).core { waiting = (only m).core.waiting; wrote = (only m).core.wrote } = subst (λ (q : RingPart). q.core ≡ record (only v).core { waiting = q.core.waiting; wrote = q.core.wrote }) (sym now) a.core in
    let ring : (only m).core.ring ≡ r = ap (λ (c : Part). c.ring) same in
    let waits : (only m).core.waiting ≡ drop j hs = ap (λ (q : RingPart). q.core.waiting) now ∙ a.waiting in
    record {
      part = b.part;
      parts = b.parts;
      layout = b.layout ∙ a.layout;
      opening = b.opening ∙ a.opening;
      stop = b.stop ∙ a.stop;
      looks = b.looks ∙ a.looks;
      core = b.core ∙ (λ i. record (same i) { waiting = b.part.core.waiting; wrote = b.part.core.wrote });
      glues = b.glues ∙ ap (λ (q : RingPart). q.glues) now ∙ a.glues;
      gave = b.gave ∙ ap (λ (q : RingPart). q.gave) now ∙ a.gave;
      polls = b.polls ∙ ap (λ (q : RingPart). q.polls) now ∙ a.polls;
      caught_up = b.caught_up ∙ ap (λ (q : RingPart). q.caught_up) now ∙ a.caught_up;
      turn = b.turn;
      refused = b.refused ∙ ap (λ (q : RingPart). q.refused) now ∙ a.refused;
      waiting = b.waiting ∙ ap (drop k) waits ∙ drop-drop k j hs;
      wrote = b.wrote ∙ (λ i. (ap entries_of now ∙ a.wrote) i ++ deletions_of (ring i) (take k (waits i)))
          ∙ append_assoc (entries_of (only v)) (deletions_of r (take j hs)) (deletions_of r (take k (drop j hs)))
          ∙ ap (λ (es : List Entry). entries_of (only v) ++ es) (sym (map-append (λ (c : ClauseAt). Del r c.number) (take j hs) (take k (drop j hs))) ∙ ap (deletions_of r) (sym (take-add j k hs)));
      going = going_both j k (only v).ended (only m).ended a.going b.going (λ t. ap (λ (q : RingPart). q.ended) now ∙ a.ended_is t);
      ended_is = λ t. b.ended_is (ap (λ (q : RingPart). q.ended) now ∙ a.ended_is t);
      failed_is = λ t. b.failed_is (ap (λ (q : RingPart). q.failed) now ∙ a.failed_is t);
      failed_was = λ t. a.failed_was (ap (λ (q : RingPart). q.failed) (sym now) ∙ b.failed_was t);
    }

pub some_both : (v m w : View) (many rest j k : ℕ) (e : TurnStop) → Deleted v m j → DeletedSome m w rest k e → j + rest ≤ many → DeletedSome v w many (j + k) e
some_both v m w many rest j k e a b le = record { some = (let lt = b.some in omega arith); middle = b.middle; first = deleted_both v m b.middle j k a b.first; refused = b.refused }

-- those that are left
pub rest_length : (ws xs : List Waiting) (k : ℕ) → xs ≡ ws → k ≤ length ws → k + length (take (length xs - k) (drop k xs)) ≡ length ws
rest_length ws xs k e le =
    let l = length-drop k xs in
    let all = ap (λ (ys : List Waiting). length ys) (take_all (length xs - k) (drop k xs) (omega arith)) in
    let same = ap (λ (ys : List Waiting). length ys) e in
    omega arith

pub waits_rest : (v m : View) (ws xs : List Waiting) (k : ℕ) → xs ≡ ws → Deleted v m k → AreWaiting ws (only v).core.waiting → AreWaiting (take (length xs - k) (drop k xs)) (only m).core.waiting
waits_rest v m ws xs k e d a =
    let l = length-drop k xs in
    let rest : take (length xs - k) (drop k xs) ≡ drop k ws = take_all (length xs - k) (drop k xs) (omega arith) ∙ ap (drop k) e in
    let waits : (only m).core.waiting ≡ drop k (only v).core.waiting = ap (λ (q : RingPart). q.core.waiting) (only_is m d.part d.parts) ∙ d.waiting in
    subst (λ (y : List Waiting × List ClauseAt). AreWaiting y.0 y.1) (λ i. (sym rest i, sym waits i)) (are_drop k ws (only v).core.waiting a)
