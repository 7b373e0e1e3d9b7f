-- What a book stands for once more is written.
use Rattle.io_edge.specs.declared.edge.Sink.{Ghosts}
use Rattle.std.proofs.Common.{◌≡◌, ◌⊎◌, inl, inr, ℕ, suc, ◌+◌, ◌-◌, ◌<◌, ◌≤◌, ◌||◌, Bool, true, false, List, [], ◌∷◌, ◌++◌, All, length, refl, sym, ap, ◌∙◌, subst, arith, length-append, append_assoc, true≢false, Some, None}
use Rattle.std.specs.List.{list_any}
use Rattle.std.specs.Prelude.{IfSome, is_some}
use Rattle.std.specs.declared.option.Option.{Option as Maybe}
use Rattle.std.proofs.lemmas.List.Folds.{list_any-append}
use Rattle.sat_words.specs.Literal.{Literal, IsOn}
use Rattle.sat_words.specs.Clause.{is_empty}
use Rattle.sat_words.specs.declared.line.Line.{Line}
use Rattle.sat_words.specs.Formats.{has_hints}
use Rattle.sat_words.specs.declared.shared.TheConstants.{MAX_ENTRIES}
use Rattle.clause_cell.specs.Packing.{words_for}
use Rattle.clause_cell.specs.Free.{largest}
use Rattle.rup_model.specs.declared.journal.Kind.{Kind}
use Rattle.rup_model.specs.declared.journal.Entry.{Entry}
use Rattle.rup_model.specs.Log.{lits_of}
use Rattle.rup_model.specs.Journal.{Book as Numbers, book, book_after, lines, lines_after, added, ended}
use Rattle.rup_model.specs.NumberedLines.{NumberedLine, line_of, numbered_after, IsHinted}
use Rattle.rup_model.proofs.Additions.{added-append}
use Rattle.rup_model.proofs.Lines.{one_line}
use Rattle.rup_model.proofs.Numbers.{book_last, lines_last}
use Rattle.rup_model.proofs.Sequences.{each_back}
use Rattle.rup_model.specs.Basics.{EachAfter}
use Rattle.drat_text.specs.LineState.{LineState, last_after, with_lines}
use Rattle.drat_text.specs.SinkData.{told_by}
use Rattle.drat_text.specs.JournalText.{Origin, HasText, HasTextCut}
use Rattle.drat_text.proofs.JournalLines.{has_text_next, has_text_cut}
use Rattle.share_core.specs.declared.part.CoreOpening.{CoreOpening}
use Rattle.share_core.specs.Sound.{JournalSound}
use Rattle.share_core.specs.State.{later}
use Rattle.share_core.proofs.Frames.{later_more, later_whole}
use Rattle.share_core.proofs.Leaving.{left_sound}
use Rattle.share_core.proofs.Counting.{some_same, none_some}
use Rattle.share_rule.specs.declared.Layout.{Layout}
use Rattle.share_rule.specs.declared.note.Note.{Note}
use Rattle.share_rule.specs.declared.view.View.{View}
use Rattle.share_rule.specs.declared.view.Refusal.{Refusal}
use Rattle.share_rule.specs.declared.view.Refusal.TheVariants.{Ended, Broken, ProofFault, NoHole}
use Rattle.share_rule.specs.Books.{StandsFor}
use Rattle.share_rule.specs.Views.{only}
use Rattle.share_rule.specs.Seen.{Seen, IsRefused}
use Rattle.share_rule.specs.Room.{Room, room, room_after}
use Rattle.share_rule.specs.Tight.{IsTight}
use Rattle.share_rule.specs.Turns.{Sheet, noted, sheet_after, AllNoted, entry_of, MayWrite, written_of, sheet_of}
use Rattle.share_rule.proofs.Rooms.{room_more}
use Rattle.share_rule.proofs.Tightness.{tight_more}
use Rattle.share_rule.proofs.Refusing.{turn_tight}
use Rattle.share_rule.proofs.Moves.{refused_more}
use Rattle.share_rule.proofs.Sheets.{begins_long, Noted}
use Rattle.share_rule.proofs.Written.{written_core, noted_more, few_written, few_taken}
use Rattle.log_book.specs.declared.book.Book.{Book}
use Rattle.log_book.specs.declared.turn.Turn.{Turn}
use Rattle.log_book.specs.declared.stop.TurnStop.{TurnStop}
use Rattle.log_book.specs.declared.stop.TurnStop.TheVariants as stop
use Rattle.log_book.specs.Books.{AreAlike, ends, begun, began, account_of, IsLogOf, HasPut, HasFailed}
use Rattle.log_book.specs.Turns.{sheet, noted_as, MayNext, MayAdd, CouldWrite, IsGrounded, IsTurn, Stopped}

pub ended_last : (F : List (List Literal)) (J : List Entry) (e : Entry) → ended F (J ++ e ∷ []) ≡ (ended F J || list_any is_empty (added (e ∷ [])))
ended_last F J e = ap (λ (G : List (List Literal)). list_any is_empty (F ++ G)) (added-append J (e ∷ [])) ∙ ap (list_any is_empty) (sym (append_assoc F (added J) (added (e ∷ [])))) ∙ list_any-append is_empty (F ++ added J) (added (e ∷ []))

-- if a log has hints, those of its last entry show that it follows
entry_hinted : (o : CoreOpening) (J : List Entry) (e : Entry) → JournalSound o J → JournalSound o (J ++ e ∷ []) → o.hinted ≡ true → IsHinted o.formula J e
entry_hinted o J e was now is =
    subst (λ (K : List Entry). IsHinted o.formula K e) (later_whole o J was)
    (each_back (IsHinted o.formula) o.journal (later o J) (e ∷ []) (subst (EachAfter (IsHinted o.formula) o.journal) (later_more o J e was) (now.hints is))).0

-- kept lines
pub kept_grown : (old new : Maybe (List Line)) (all : List Line) (x : Line) → new ≡ with_lines old (x ∷ []) → ((ls : List Line) → old ≡ Some ls → ls ≡ all) → (ls : List Line) → new ≡ Some ls → ls ≡ all ++ x ∷ []
kept_grown None new all x e h ls is = absurd (none_some ls (sym e ∙ is))
kept_grown (Some ms) new all x e h ls is = sym (some_same (ms ++ x ∷ []) ls (sym e ∙ is)) ∙ ap (λ (ks : List Line). ks ++ x ∷ []) (h ms refl)

some_with : (kept : Maybe (List Line)) (x : Line) → is_some (with_lines kept (x ∷ [])) ≡ is_some kept
some_with None x = refl
some_with (Some ls) x = refl

-- a refusal stands behind more notes
refused_next : (l : Layout) (o : CoreOpening) (J : List Entry) (e : Entry) (failed : Bool) (x : Refusal) → IsRefused l o J failed x → IsRefused l o (J ++ e ∷ []) failed x
refused_next l o J e failed Ended q = ended_last o.formula J e ∙ (λ i. q i || list_any is_empty (added (e ∷ [])))
refused_next l o J e failed Broken q = q
refused_next l o J e failed ProofFault q = q
refused_next l o J e failed (NoHole need most) q = tight_more l o J (e ∷ []) need most q

module _ {S : Type 0} {d : Ghosts S} (written flushed target : S → Maybe (List ℕ)) (faults : S → ℕ) where
  module _ (v : View) (t : Turn S d) (s : Seen v) (h : IsTurn written flushed target faults v t) where
    abbrev J : List Entry
    J = (sheet v t).journal

    pub is_ended : t.book.ended ≡ ended v.opening.formula J
    is_ended = h.stands.ended

    -- the number that a book gives next, and the last one
    pub next_given : (b : Book S d) → b.log.lines ≡ t.book.log.lines → (book v.opening.formula J).next ≡ b.log.lines.last + 1
    next_given b same = let last = h.stands.log.last in let e = ap (λ l. l.last) same in omega arith

    pub last_given : (b : Book S d) → b.log.lines ≡ t.book.log.lines → (book v.opening.formula J).next - 1 ≡ b.log.lines.last
    last_given b same = let last = h.stands.log.last in let e = ap (λ l. l.last) same in omega arith

    -- if the book began
    abbrev O : Origin
    O = begun v.opening.formula (began v.origin v.opening.formula)

    -- the sheet is short
    pub few_sheet : length J ≤ MAX_ENTRIES
    few_sheet = few_written v.layout v.opening (only v).core.ring (sheet_of v) t.noted.items h.may (few_taken v s h.writing)

    -- the state after what was written
    pub state_behind : Noted v.layout (only v).core.ring s.core s.glue t.noted.items (sheet v t)
    state_behind = written_core v s h.writing t.noted.items h.may

    journal_sound : JournalSound v.opening J
    journal_sound =
        let n : Noted v.layout (only v).core.ring s.core s.glue t.noted.items (sheet v t) = state_behind in
        subst (λ (y : CoreOpening × List Entry). JournalSound y.0 y.1) (λ i. ((n.beside.opening ∙ sym s.opening) i, sym n.sheet.journal i)) (left_sound n.core.opening n.core n.left).log

    pub long_journal : length v.opening.journal ≤ length J
    long_journal =
        let n : Noted v.layout (only v).core.ring s.core s.glue t.noted.items (sheet v t) = state_behind in
        subst (λ (y : CoreOpening × List Entry). length y.0.journal ≤ length y.1) (λ i. ((n.beside.opening ∙ sym s.opening) i, sym n.sheet.journal i)) (begins_long n.core (left_sound n.core.opening n.core n.left))

    -- with one note more
    module _ (n : Note) (could : CouldWrite v t) (may : MayNext v t n) (e : Entry) (is : entry_of v.opening (only v).core.ring J (sheet v t).part n ≡ e) where
      more : AllNoted v.layout v.opening (only v).core.ring (sheet_of v) (t.noted.items ++ n ∷ []) × (sheet_after v.opening (only v).core.ring (sheet_of v) (t.noted.items ++ n ∷ []) ≡ noted v.opening (only v).core.ring (sheet v t) n)
      more = noted_more v.layout v.opening (only v).core.ring (sheet_of v) t.noted.items n h.may could.0 may

      journal_next : (ns : List Note) → ns ≡ t.noted.items ++ n ∷ [] → (written_of v ns).journal ≡ J ++ e ∷ []
      journal_next ns q = ap (λ (ms : List Note). (written_of v ms).journal) q ∙ ap (λ (x : Sheet). x.journal) more.1 ∙ (λ i. J ++ is i ∷ [])

      -- the journal with the entry is sound
      next_sound : JournalSound v.opening (J ++ e ∷ [])
      next_sound =
          let m : Noted v.layout (only v).core.ring s.core s.glue (t.noted.items ++ n ∷ []) (written_of v (t.noted.items ++ n ∷ [])) = written_core v s h.writing (t.noted.items ++ n ∷ []) more.0 in
          let J' : m.core.journal ≡ J ++ e ∷ [] = sym m.sheet.journal ∙ journal_next (t.noted.items ++ n ∷ []) refl in
          let o : m.core.opening ≡ v.opening = m.beside.opening ∙ sym s.opening in
          subst (λ (y : CoreOpening × List Entry). JournalSound y.0 y.1) (λ i. (o i, J' i)) (left_sound m.core.opening m.core m.left).log

      -- if the format has hints, those of the entry show that it follows
      next_hinted : has_hints v.origin.format ≡ true → IsHinted v.opening.formula J e
      next_hinted q = entry_hinted v.opening J e journal_sound next_sound (h.stands.hinted ∙ q)

      pub note_turn : (t' : Turn S d) → t'.noted.items ≡ t.noted.items ++ n ∷ [] → t'.refused ≡ t.refused → t'.book.log.lines.spent ≡ false
          → t'.book.holes ≡ (room_after (room v.layout v.opening J) e).holes → t'.book.entries ≡ t.book.entries + 1 → suc t'.book.log.lines.last ≡ (book_after (book v.opening.formula J) e).next
          → t'.book.ended ≡ (t.book.ended || list_any is_empty (added (e ∷ [])))
          → is_some t'.book.log.kept.lines ≡ is_some t.book.log.kept.lines
          → ((ls : List Line) → t'.book.log.kept.lines ≡ Some ls → ls ≡ lines v.opening.formula J ++ lines_after (book v.opening.formula J) e)
          → HasText O (J ++ e ∷ []) (told_by written flushed target faults t'.book.log.lines)
          → target t'.book.log.lines.sink ≡ target t.book.log.lines.sink → flushed t'.book.log.lines.sink ≡ flushed t.book.log.lines.sink
          → IsTurn written flushed target faults v t'
      note_turn t' noted_is refused_is whole holes entries last ended_is keeps kept bytes target_is flushed_is =
          let o : CoreOpening = v.opening in
          let J' : (sheet v t').journal ≡ J ++ e ∷ [] = journal_next t'.noted.items noted_is in
          let size = length-append J (e ∷ []) in
          let was = h.stands.log.entries in
          let end : t'.book.ended ≡ ended o.formula (J ++ e ∷ []) = ended_is ∙ ap (λ (b : Bool). b || list_any is_empty (added (e ∷ []))) is_ended ∙ sym (ended_last o.formula J e) in
          let all : lines o.formula J ++ lines_after (book o.formula J) e ≡ lines o.formula (J ++ e ∷ []) = sym (lines_last o.formula J e) in
          record {
            writing = h.writing;
            may = subst (λ (ns : List Note). MayWrite v ns) (sym noted_is) more.0;
            refused = subst (λ (y : Maybe Refusal × (List Entry × Bool)). IfSome y.0 (λ z. IsRefused v.layout o y.1.0 y.1.1 z) × ((only v).failed ≡ true → y.1.1 ≡ true)) (λ i. (sym refused_is i, (sym J' i, (could.1 ∙ sym whole) i)))
                (next_refused t.refused h.refused.0, h.refused.1);
            stands = subst (λ (y : List Entry × Bool). StandsFor account_of (IsLogOf written flushed target faults) t'.book v.origin v.layout o y.0 y.1) (λ i. (sym J' i, sym whole i)) (record {
              log = record {
                entries = omega arith;
                last = last ∙ ap (λ (b : Numbers). b.next) (sym (book_last o.formula J e));
                keeps = keeps ∙ h.stands.log.keeps;
                kept = λ _ ls q. kept ls q ∙ all;
                sink = record { whole = λ _. bytes; cut = λ q. absurd (true≢false (sym q ∙ whole)); target_is = target_is ∙ h.stands.log.sink.target_is; flushed_is = flushed_is ∙ h.stands.log.sink.flushed_is };
              };
              ended = end;
              holes = λ _. holes ∙ ap (λ (m : Room). m.holes) (sym (room_more v.layout o J (e ∷ []) long_journal));
              faulty = whole;
              hinted = h.stands.hinted;
            });
          }
        where
          next_refused : (x : Maybe Refusal) → IfSome x (λ z. IsRefused v.layout v.opening J t.book.log.lines.spent z) → IfSome x (λ z. IsRefused v.layout v.opening (J ++ e ∷ []) t.book.log.lines.spent z)
          next_refused None q = q
          next_refused (Some z) q = refused_next v.layout v.opening J e t.book.log.lines.spent z q

      -- the line stands
      pub line_turn : (t' : Turn S d) (x : NumberedLine) → numbered_after (book v.opening.formula J) e ≡ x ∷ [] → t'.noted.items ≡ t.noted.items ++ n ∷ [] → t'.refused ≡ t.refused
          → (b : Book S d) → b.log.lines ≡ t.book.log.lines → b.entries ≡ t.book.entries → b.ended ≡ t.book.ended → b.log.kept.lines ≡ t.book.log.kept.lines → (c : Book S d) → HasPut written flushed target faults b c x
          → t'.book.log ≡ c.log → t'.book.entries ≡ c.entries → t'.book.ended ≡ c.ended → t'.book.holes ≡ (room_after (room v.layout v.opening J) e).holes
          → suc (last_after t.book.log.lines.last (line_of x)) ≡ (book_after (book v.opening.formula J) e).next → ends (line_of x) ≡ list_any is_empty (added (e ∷ [])) → IsTurn written flushed target faults v t' × (t'.book.log.lines.spent ≡ false)
      line_turn t' x one noted_is refused_is b b_lines b_entries b_ended b_kept c put log_are entries_are ended_are holes_are last end =
          let state = put.put.state in
          let line : lines_after (book v.opening.formula J) e ≡ line_of x ∷ [] = one_line (book v.opening.formula J) e x one in
          let lines_are : t'.book.log.lines ≡ c.log.lines = ap (λ k. k.lines) log_are in
          let kept_are : t'.book.log.kept.lines ≡ with_lines t.book.log.kept.lines (line_of x ∷ []) = ap (λ k. k.kept.lines) log_are ∙ put.kept ∙ ap (λ k. with_lines k (line_of x ∷ [])) b_kept in
          let whole : t'.book.log.lines.spent ≡ false = ap (λ l. l.spent) lines_are ∙ ap (λ (l : LineState). l.spent) state ∙ ap (λ l. l.spent) b_lines ∙ could.1 in
          let was : HasText O J (told_by written flushed target faults b.log.lines) = subst (λ l. HasText O J (told_by written flushed target faults l)) (sym b_lines) (h.stands.log.sink.whole could.1) in
          let bytes = has_text_next O J (told_by written flushed target faults b.log.lines) (told_by written flushed target faults c.log.lines) x was e one put.put in (
            note_turn t' noted_is refused_is whole holes_are (entries_are ∙ put.entries ∙ ap (λ (k : ℕ). k + 1) b_entries)
                (ap (λ l. suc l.last) lines_are ∙ ap (λ (l : LineState). suc l.last) state ∙ ap (λ l. suc (last_after l.last (line_of x))) b_lines ∙ last)
                (ended_are ∙ put.ended ∙ (λ i. b_ended i || end i))
                (ap is_some kept_are ∙ some_with t.book.log.kept.lines (line_of x))
                (λ ls q. kept_grown t.book.log.kept.lines t'.book.log.kept.lines (lines v.opening.formula J) (line_of x) kept_are (h.stands.log.kept could.1) ls q ∙ ap (λ (xs : List Line). lines v.opening.formula J ++ xs) (sym line))
                (subst (λ l. HasText O (J ++ e ∷ []) (told_by written flushed target faults l)) (sym lines_are) bytes)
                (ap (λ l. target l.sink) lines_are ∙ ap (λ (l : LineState). l.target) state ∙ ap (λ l. target l.sink) b_lines)
                (ap (λ l. flushed l.sink) lines_are ∙ ap (λ (l : LineState). l.flushed) state ∙ ap (λ l. flushed l.sink) b_lines),
            whole,
          )

      more_refused : (x : Maybe Refusal) (now : Bool) → (t.book.log.lines.spent ≡ true → now ≡ true) → IfSome x (λ z. IsRefused v.layout v.opening J t.book.log.lines.spent z) → IfSome x (λ z. IsRefused v.layout v.opening J now z)
      more_refused None now later q = q
      more_refused (Some z) now later q = refused_more v.layout v.opening J t.book.log.lines.spent now later z q

      -- the sink failed at the line
      pub failed_turn : (t' : Turn S d) (x : NumberedLine) → numbered_after (book v.opening.formula J) e ≡ x ∷ [] → All (IsOn v.layout.vars) (lits_of (line_of x)) → t'.noted.items ≡ t.noted.items → t'.refused ≡ t.refused
          → (b : Book S d) → b.log.lines ≡ t.book.log.lines → b.entries ≡ t.book.entries → b.ended ≡ t.book.ended → b.log.kept.lines ≡ t.book.log.kept.lines → (c : Book S d) → HasFailed written flushed target faults b c x
          → t'.book.log ≡ c.log → t'.book.entries ≡ c.entries → t'.book.ended ≡ c.ended → IsTurn written flushed target faults v t' × (t'.book.log.lines.spent ≡ true)
      failed_turn t' x one on noted_is refused_is b b_lines b_entries b_ended b_kept c failed log_are entries_are ended_are =
          let o : CoreOpening = v.opening in
          let state = failed.failed.state in
          let J' : (sheet v t').journal ≡ J = ap (λ (ns : List Note). (written_of v ns).journal) noted_is in
          let lines_are : t'.book.log.lines ≡ c.log.lines = ap (λ k. k.lines) log_are in
          let kept_are : t'.book.log.kept.lines ≡ t.book.log.kept.lines = ap (λ k. k.kept.lines) log_are ∙ failed.kept ∙ b_kept in
          let spent : t'.book.log.lines.spent ≡ true = ap (λ l. l.spent) lines_are ∙ ap (λ (l : LineState). l.spent) state in
          let was : HasText O J (told_by written flushed target faults b.log.lines) = subst (λ l. HasText O J (told_by written flushed target faults l)) (sym b_lines) (h.stands.log.sink.whole could.1) in
          let cut = has_text_cut O J (told_by written flushed target faults b.log.lines) (told_by written flushed target faults c.log.lines) x was e one next_sound.log next_hinted v.layout.vars on failed.failed in (
            record {
              writing = h.writing;
              may = subst (λ (ns : List Note). MayWrite v ns) (sym noted_is) h.may;
              refused = subst (λ (y : Maybe Refusal × List Entry). IfSome y.0 (λ z. IsRefused v.layout o y.1 t'.book.log.lines.spent z) × ((only v).failed ≡ true → t'.book.log.lines.spent ≡ true)) (λ i. (sym refused_is i, sym J' i))
                  (more_refused t.refused t'.book.log.lines.spent (λ _. spent) h.refused.0, λ _. spent);
              stands = subst (λ (K : List Entry). StandsFor account_of (IsLogOf written flushed target faults) t'.book v.origin v.layout o K t'.book.log.lines.spent) (sym J') (record {
                log = record {
                  entries = entries_are ∙ failed.entries ∙ b_entries ∙ h.stands.log.entries;
                  last = ap (λ l. suc l.last) lines_are ∙ ap (λ (l : LineState). suc l.last) state ∙ ap (λ l. suc l.last) b_lines ∙ h.stands.log.last;
                  keeps = ap is_some kept_are ∙ h.stands.log.keeps;
                  kept = λ q. absurd (true≢false (sym spent ∙ q));
                  sink = record {
                    whole = λ q. absurd (true≢false (sym spent ∙ q));
                    cut = λ _. subst (λ l. HasTextCut O J v.layout.vars (told_by written flushed target faults l)) (sym lines_are) cut;
                    target_is = ap (λ l. target l.sink) lines_are ∙ ap (λ (l : LineState). l.target) state ∙ ap (λ l. target l.sink) b_lines ∙ h.stands.log.sink.target_is;
                    flushed_is = ap (λ l. flushed l.sink) lines_are ∙ ap (λ (l : LineState). l.flushed) state ∙ ap (λ l. flushed l.sink) b_lines ∙ h.stands.log.sink.flushed_is;
                  };
                };
                ended = ended_are ∙ failed.ended ∙ b_ended ∙ is_ended;
                holes = λ q. absurd (true≢false (sym spent ∙ q));
                faulty = refl;
                hinted = h.stands.hinted;
              });
            },
            spent,
          )

    -- nothing but room changed
    pub alike_turn : (t' : Turn S d) → t'.noted.items ≡ t.noted.items → t'.refused ≡ t.refused → AreAlike t.book t'.book → IsTurn written flushed target faults v t'
    alike_turn t' noted_is refused_is alike =
        let o : CoreOpening = v.opening in
        let J' : (sheet v t').journal ≡ J = ap (λ (ns : List Note). (written_of v ns).journal) noted_is in
        let spent : t'.book.log.lines.spent ≡ t.book.log.lines.spent = ap (λ l. l.spent) alike.lines in
        let log = h.stands.log in
        record {
          writing = h.writing;
          may = subst (λ (ns : List Note). MayWrite v ns) (sym noted_is) h.may;
          refused = subst (λ (y : Maybe Refusal × (List Entry × Bool)). IfSome y.0 (λ z. IsRefused v.layout o y.1.0 y.1.1 z) × ((only v).failed ≡ true → y.1.1 ≡ true)) (λ i. (sym refused_is i, (sym J' i, sym spent i))) h.refused;
          stands = subst (λ (y : List Entry × Bool). StandsFor account_of (IsLogOf written flushed target faults) t'.book v.origin v.layout o y.0 y.1) (λ i. (sym J' i, sym spent i)) (record {
            log = record {
              entries = alike.entries ∙ log.entries;
              last = ap (λ l. suc l.last) alike.lines ∙ log.last;
              keeps = ap is_some alike.kept ∙ log.keeps;
              kept = λ q ls e. log.kept (sym spent ∙ q) ls (sym alike.kept ∙ e);
              sink = record {
                whole = λ q. subst (λ l. HasText O J (told_by written flushed target faults l)) (sym alike.lines) (log.sink.whole (sym spent ∙ q));
                cut = λ q. subst (λ l. HasTextCut O J v.layout.vars (told_by written flushed target faults l)) (sym alike.lines) (log.sink.cut (sym spent ∙ q));
                target_is = ap (λ l. target l.sink) alike.lines ∙ log.sink.target_is;
                flushed_is = ap (λ l. flushed l.sink) alike.lines ∙ log.sink.flushed_is;
              };
            };
            ended = alike.ended ∙ h.stands.ended;
            holes = λ q. alike.holes ∙ h.stands.holes (sym spent ∙ q);
            faulty = spent;
            hinted = h.stands.hinted;
          });
        }

    -- a clause that may be added and finds no hole
    add_tight : (kind : Kind) (lits : List Literal) (hints : List ℕ) (need most : ℕ) → MayAdd v t kind lits hints → need ≡ words_for (length lits) → most ≡ largest (room v.layout v.opening J).holes → most < need → IsTight v.layout v.opening J need most
    add_tight kind lits hints need most may need_is most_is short = turn_tight v t.noted.items kind lits hints need most s h.writing h.may may.0 may.1 may.2 may.3 need_is most_is short

    module _ (t' : Turn S d) (noted_is : t'.noted.items ≡ t.noted.items) (refused_is : t'.refused ≡ t.refused) (alike : AreAlike t.book t'.book) where
      -- memory ran out
      pub stopped_memory : Stopped written flushed target faults v t t' stop.Memory
      stopped_memory = record { noted = noted_is; refused = refused_is; turn = alike_turn t' noted_is refused_is alike; grounded = tt; alike = λ _. alike }

      module _ (whole : t.book.log.lines.spent ≡ false) (kind : Kind) (lits : List Literal) (hints : List ℕ) (need : ℕ) (may : MayAdd v t kind lits hints) (need_is : need ≡ words_for (length lits)) where
        -- no hole is long enough
        pub stopped_room : (most : ℕ) → most ≡ largest t'.book.holes → most < need → Stopped written flushed target faults v t t' (stop.NoHole need most)
        stopped_room most most_is short = record {
          noted = noted_is;
          refused = refused_is;
          turn = alike_turn t' noted_is refused_is alike;
          grounded = subst (λ (K : List Entry). IsTight v.layout v.opening K need most) (sym (ap (λ (ns : List Note). (written_of v ns).journal) noted_is))
              (add_tight kind lits hints need most may need_is (most_is ∙ ap largest (alike.holes ∙ h.stands.holes whole)) short);
          alike = λ _. alike;
        }

        -- one of the two
        pub stopped_either : (e : TurnStop) → ((need ≤ largest t'.book.holes) × (e ≡ stop.Memory)) ⊎ ((largest t'.book.holes < need) × (e ≡ stop.NoHole need (largest t'.book.holes))) → Stopped written flushed target faults v t t' e
        stopped_either e (inl x) = subst (Stopped written flushed target faults v t t') (sym x.1) stopped_memory
        stopped_either e (inr x) = subst (Stopped written flushed target faults v t t') (sym x.1) (stopped_room (largest t'.book.holes) refl x.0)

    -- a refusal is noted
    pub refused_turn : (t' : Turn S d) (e : TurnStop) → IsGrounded v t e → t'.book ≡ t.book → t'.noted ≡ t.noted → t'.refused ≡ noted_as e t.refused → IsTurn written flushed target faults v t'
    refused_turn t' e grounded book_is noted_is refused_is = subst (IsTurn written flushed target faults v) (λ i. record { book = sym book_is i; noted = sym noted_is i; refused = sym refused_is i }) (record {
      writing = h.writing;
      may = h.may;
      refused = (cause e grounded, h.refused.1);
      stands = h.stands;
    })
      where
        cause : (f : TurnStop) → IsGrounded v t f → IfSome (noted_as f t.refused) (λ z. IsRefused v.layout v.opening J t.book.log.lines.spent z)
        cause stop.Ended q = q
        cause stop.Broken q = q
        cause (stop.NoHole need most) q = q
        cause stop.Memory q = h.refused.0
        cause stop.ProofFault q = q
