-- The table of a round over what the ruler left, as it is opened.
use Rattle.portfolio_run.proofs.UnitPairs.{paired_in_round}
use Rattle.share_core.specs.State.{ArePaired, unit_lits, unit_numbers}
use Rattle.sat_words.specs.Formats.{has_hints}
use Rattle.io_edge.specs.declared.edge.Sink.{Ghosts}
use Rattle.std.proofs.Common.{◌≡◌, ◌∙◌, ◌^◌, ◌≤◌, ◌<◌, ◌-◌, ◌||◌, ℕ, false, List, [], ◌∷◌, ◌++◌, map, Option, Some, None, refl, sym, ap, subst, arith}
use Rattle.std.specs.Prelude.{All, is_some, slice_index_or}
use Rattle.std.specs.Io.KnownBytes.{append_known}
use Rattle.std.specs.Global.{Vec}
use Rattle.std.proofs.Math.Nat.{min-le_right}
use Rattle.std.proofs.lemmas.List.Folds.{list_any-append}
use Rattle.io_edge.specs.Paths.{IsEmptyWhereTold}
use Rattle.atomic_table.specs.declared.shared.Seat.{Seat}
use Rattle.sat_words.specs.Literal.{Literal, IsOn}
use Rattle.sat_words.specs.Clause.{is_empty}
use Rattle.sat_words.specs.FormulaData.{FormulaData}
use Rattle.sat_words.specs.declared.shared.Cref.{Cref}
use Rattle.sat_words.specs.declared.shared.TheConstants.{MAX_ENTRIES}
use Rattle.clause_cell.specs.declared.holes.HoleStop.{HoleStop}
use Rattle.clause_cell.specs.declared.holes.HoleStop.TheVariants as hole_stop
use Rattle.rup_model.specs.declared.journal.Round.{Round as RoundStart}
use Rattle.rup_model.specs.declared.journal.Entry.{Entry}
use Rattle.rup_model.specs.declared.journal.Entry.TheVariants.{Round}
use Rattle.rup_model.specs.Journal.{Book as Clauses, book, added}
use Rattle.rup_model.proofs.Numbers.{book_last}
use Rattle.rup_model.specs.Opening.{AreAscending, program_opening}
use Rattle.rup_model.proofs.ProgramOpening.{program_ascends}
use Rattle.drat_text.specs.JournalText.{Origin, later_bytes}
use Rattle.drat_text.specs.declared.stop.LineStop.TheVariants.{Full}
use Rattle.share_rule.specs.declared.Layout.{Layout}
use Rattle.share_rule.specs.declared.Shared.{Shared}
use Rattle.share_rule.specs.declared.view.BookOrigin.{BookOrigin}
use Rattle.share_rule.specs.declared.view.View.{View}
use Rattle.share_rule.specs.FirstWords.{MayBegin, IsMakeStop, IsNoHole, addresses, starts_at, begun_with}
use Rattle.share_rule.specs.Layout.{InVars, first_cell}
use Rattle.share_rule.specs.Books.{HasLog}
use Rattle.share_rule.specs.Passes.{IsPassOf}
use Rattle.share_rule.specs.Tight.{numbered}
use Rattle.share_rule.specs.Views.{first_view, times_in}
use Rattle.share_rule.proofs.Openings.{times_up_to}
use Rattle.share_rule.proofs.Tightness.{program_no_hole}
use Rattle.share_core.specs.declared.part.CoreOpening.{CoreOpening}
use Rattle.model_stack.specs.declared.stack.Fix.{Fix}
use Rattle.log_book.specs.declared.book.Book.{Book}
use Rattle.log_book.specs.Books.{begun as book_begun, account_of, origin_of, told_of, CountsOneMore, IsFilled, IsFrom, IsLogOf}
use Rattle.ring_run.specs.declared.job.Counts.{Counts}
use Rattle.ruler_simp.specs.declared.ruling.Simplified.{Simplified}
use Rattle.ruler_simp.specs.Again.{round_start, before_round}
use Rattle.core_rounds.specs.InRounds.{learned_by, round_limit}
use Rattle.portfolio_run.specs.declared.answer.Answer.{Answer}
use Rattle.portfolio_run.specs.declared.plan.Plan.{Plan}
use Rattle.portfolio_run.specs.Journaled.{IsUnrefuted}
use Rattle.portfolio_run.specs.Pauses.{Pause, IsPaused, IsPausedAt}
use Rattle.portfolio_run.specs.Reached.{HasReached, pause_of, stopped_answer, unmade_answer}
use Rattle.portfolio_run.specs.Room.{layout_of}
use Rattle.portfolio_run.specs.Seats.{HasRightsFrom}
use Rattle.portfolio_run.specs.Solved.{IsReached}
use Rattle.portfolio_run.specs.Tables.{IsOpened}
use Rattle.portfolio_run.proofs.Appending.{told_still}
use Rattle.portfolio_run.proofs.Opens.{unbegun_rests, begun_rests, begun_vars, begun_past, begun_written, going_there}
use Rattle.portfolio_run.proofs.Resting.{no_memory, no_entry, no_place}
use Rattle.portfolio_run.proofs.Ruling.{LogLaw}

-- the journal once a round has begun with these clauses and units
abbrev pub with_round : List Entry → List (ℕ × List Literal) → List (Literal × ℕ) → List Entry
with_round J ss us = J ++ Round (record { starts = map (λ (s : ℕ × List Literal). s.0) ss; units = unit_lits us }) ∷ []

in_vars : (l : Layout) (lits : List Literal) → All (IsOn l.vars) lits → InVars l lits
in_vars l lits on k d lt = let h = on k d lt in (h.low, h.high)

-- a round may learn no more than all
pub round_within : (every : Option ℕ) (most done : ℕ) → round_limit every most done ≤ most
round_within None most done = omega arith
round_within (Some every) most done = let le = min-le_right every (most - done) in omega (arith, le)

module _ {S : Type 0} {d : Ghosts S} (written flushed target : S → Option (List ℕ)) (faults : S → ℕ) (sink : S) (plan : Plan) (F : FormulaData) (b : Book S d) (left : Simplified) (tally : List Counts) (done : ℕ)
    (on : All (All (IsOn F.vars)) F.clauses) (rings : 1 ≤ plan.threads) (empty : IsEmptyWhereTold (written sink))
    (J : List Entry) (at : IsPausedAt (pause_of written flushed target faults sink plan F left tally done b) J) where
  abbrev here : Pause
  here = pause_of written flushed target faults sink plan F left tally done b

  abbrev was : IsPaused here
  was = at.paused

  -- the journal so far, and once the round has begun
  abbrev J0 : List Entry
  J0 = was.past ++ was.mine

  abbrev J1 : List Entry
  J1 = before_round J0 left

  abbrev narrow : Layout
  narrow = layout_of plan left.vars 0

  -- what is known of a book that has come to a journal
  module _ (c : Book S d) (I : List Entry) (filled : IsFilled (book_begun F.clauses here.before) I (told_of written flushed target faults c)) (law : LogLaw written flushed target faults c) where
    log_at : (l : Layout) → HasLog account_of (IsLogOf written flushed target faults) c (origin_of written flushed target faults c) l F.clauses I × IsFrom target faults plan.format sink plan.keep_lines (origin_of written flushed target faults c)
    log_at l = law F.clauses I l plan.format sink plan.keep_lines empty filled

    reached_at : (answer : Answer) → IsReached plan F answer tally (faults sink) (faults c.log.lines.sink) I → HasReached written flushed target faults sink plan F answer tally c
    reached_at answer reached =
        let h = log_at narrow in
        record {
          journal = I;
          records = record { origin = origin_of written flushed target faults c; layout = narrow; few = was.few; format_is = h.1.format_is; faults_are = h.1.faults_are; target_is = h.1.target_is; log = h.0.sink; kept = h.0.kept };
          reached = reached;
          asked = λ _. h.1.keeps;
        }

  -- no round could begin
  unbegun : LogLaw written flushed target faults b → b.entries ≡ MAX_ENTRIES → HasReached written flushed target faults sink plan F (stopped_answer Full) tally b
  unbegun law e =
      let entries = was.filled.entries in
      reached_at b J0 was.filled law (stopped_answer Full)
      (no_entry plan F tally None J0 (unbegun_rests here was rings on) (faults sink) (faults b.log.lines.sink) (omega (arith, e, entries)) was.is_left.going was.quiet)

  pub unopened : (e : Book S d) → e ≡ b → (answer : Answer) → answer ≡ stopped_answer Full → LogLaw written flushed target faults e → b.entries ≡ MAX_ENTRIES → HasReached written flushed target faults sink plan F answer tally e
  unopened e same answer answer_is law full =
      subst (λ (x : Answer × Book S d). HasReached written flushed target faults sink plan F x.0 tally x.1) (λ i. (sym answer_is i, sym same i)) (unbegun (subst (LogLaw written flushed target faults) same law) full)

  -- one did
  module _ (c : Book S d) (one : CountsOneMore b c) (law : LogLaw written flushed target faults c)
      (begun : (o : Origin) (I : List Entry) (x : RoundStart) → IsFilled o I (told_of written flushed target faults b) → IsFilled o (I ++ Round x ∷ []) (told_of written flushed target faults c))
      (limit : ℕ) (limit_is : limit ≡ round_limit plan.round plan.conflicts done) where
    abbrev wide : Layout
    wide = record { rings = plan.threads; vars = left.vars; words = plan.words; depth = plan.slots; conflicts = limit }

    abbrev origin : BookOrigin
    origin = origin_of written flushed target faults c

    filled_there : IsFilled (book_begun F.clauses here.before) J1 (told_of written flushed target faults c)
    filled_there = begun (book_begun F.clauses here.before) J0 (round_start left) was.filled

    log_there : HasLog account_of (IsLogOf written flushed target faults) c origin wide F.clauses J1 × IsFrom target faults plan.format sink plan.keep_lines origin
    log_there = log_at c J1 filled_there law wide

    -- a table may be made
    may_begin : plan.threads ≤ 16 → plan.conflicts ≤ 10 ^ 12 → plan.words ≤ 2 ^ 31 → 1 ≤ plan.slots → plan.slots ≤ 16 → MayBegin F.clauses wide J1 left.start.items left.units.items
    may_begin few_rings few_lemmas few_words some_slot few_slots =
        let entries = filled_there.entries in
        let small = c.few in
        let on_left = was.is_left.on in
        let within = round_within plan.round plan.conflicts done in
        record {
          some_ring = rings;
          few_rings = few_rings;
          few_vars = was.few;
          few_words = few_words;
          some_slot = some_slot;
          few_slots = few_slots;
          opens = was.is_left.opens;
          ascending = subst AreAscending (sym was.is_left.starts) (program_ascends F.clauses J0);
          going = list_any-append is_empty F.clauses (added J1) ∙ (λ i. was.is_left.whole i || going_there F J0 left was.is_left was.sound i);
          few_entries = omega (arith, entries, small);
          starts = λ k x lt. in_vars wide (slice_index_or left.start.items k x).1 (on_left.start k x lt);
          units = in_vars wide (unit_lits left.units.items) on_left.units;
          paired = subst (λ (b : Clauses). ArePaired b (unit_lits left.units.items) (unit_numbers left.units.items)) (sym (book_last F.clauses J0 (Round (round_start left)))) (paired_in_round (book F.clauses J0) (round_start left) left.units.items was.is_left.numbered);
          limited = omega (arith, limit_is, within, few_lemmas);
        }

    pub begins : plan.threads ≤ 16 → plan.conflicts ≤ 10 ^ 12 → plan.words ≤ 2 ^ 31 → 1 ≤ plan.slots → plan.slots ≤ 16 → (ss : List (ℕ × List Literal)) → ss ≡ left.start.items → (us : List (Literal × ℕ)) → us ≡ left.units.items → MayBegin F.clauses wide (with_round J ss us) ss us
    begins few_rings few_lemmas few_words some_slot few_slots ss ss_is us us_is =
        subst (λ (y : List Entry × (List (ℕ × List Literal) × List (Literal × ℕ))). MayBegin F.clauses wide (with_round y.0 y.1.0 y.1.1) y.1.0 y.1.1) (λ i. (at.is i, (sym ss_is i, sym us_is i)))
        (may_begin few_rings few_lemmas few_words some_slot few_slots)

    pub logged : (ss : List (ℕ × List Literal)) → ss ≡ left.start.items → (us : List (Literal × ℕ)) → us ≡ left.units.items → HasLog account_of (IsLogOf written flushed target faults) c origin wide F.clauses (with_round J ss us)
    logged ss ss_is us us_is =
        subst (λ (y : List Entry × (List (ℕ × List Literal) × List (Literal × ℕ))). HasLog account_of (IsLogOf written flushed target faults) c origin wide F.clauses (with_round y.0 y.1.0 y.1.1)) (λ i. (at.is i, (sym ss_is i, sym us_is i))) log_there.0

    pub whole : c.log.lines.spent ≡ false
    whole = filled_there.unspent

    -- no table could be made

    still : faults c.log.lines.sink ≡ faults sink
    still = ap (λ x. faults x.lines.sink) one.log ∙ was.quiet

    going : IsUnrefuted J1
    going = going_there F J0 left was.is_left was.sound

    limit_there : limit ≡ round_limit plan.round plan.conflicts (learned_by plan.threads (begun_rests here was rings on).past)
    limit_there = limit_is ∙ ap (round_limit plan.round plan.conflicts) (was.done_is ∙ ap (learned_by plan.threads) (sym (begun_past here was rings on)))

    unmade_over : (why : HoleStop) → IsMakeStop wide left.start.items why → IsReached plan F (unmade_answer why) tally (faults sink) (faults c.log.lines.sink) J1
    unmade_over (hole_stop.NoHole need most) s =
        no_place plan F tally (Some (round_start left)) J1 (begun_rests here was rings on) (faults sink) (faults c.log.lines.sink) (round_start left) refl need most
        (subst (λ (x : ℕ × (ℕ × List Entry)). IsNoHole (layout_of plan x.0 x.1.0) (numbered (program_opening F.clauses x.1.1).starts) need most)
        (λ i. (sym (begun_vars here was rings on) i, (limit_there i, sym (begun_past here was rings on) i ++ sym (begun_written here was rings on) i)))
        (program_no_hole F.clauses wide J0 left.start.items need most was.is_left.starts s))
        going still
    unmade_over hole_stop.Memory s = no_memory plan F tally (Some (round_start left)) J1 (begun_rests here was rings on) (faults sink) (faults c.log.lines.sink) going still

    module _ (l : Layout) (l_is : l ≡ wide) (ss : List (ℕ × List Literal)) (ss_is : ss ≡ left.start.items) where
      pub opened : (us : List (Literal × ℕ)) → us ≡ left.units.items → (m : Shared (Book S d) × Seat (Option (Book S d)) View × Vec Cref)
          → (m.0.layout ≡ l) × IsPassOf m.0 m.1 × (m.1.me ≡ (first_view l (begun_with F.clauses l (has_hints origin.format) (with_round J ss us) ss us) origin, []))
          → m.2.items ≡ addresses (starts_at (first_cell l) ss)
          → IsOpened written flushed target faults sink plan F left tally done limit m.0 m.1 m.2.items
      opened us us_is m made cells =
          let from = log_there.1 in
          record {
            book = b;
            was = was;
            limit_is = limit_is;
            origin = origin;
            format_is = from.format_is;
            faults_are = from.faults_are;
            tells_is =
                sym (told_still (written c.log.lines.sink) c.log.lines.waiting) ∙ ap (λ (bs : Option (List ℕ)). is_some bs) filled_there.text.bytes
                ∙ told_still (append_known (written sink) []) (later_bytes (book_begun F.clauses here.before) J1) ∙ told_still (written sink) [];
            target_is = from.target_is;
            flushed_is = filled_there.flushed;
            keeps_are = from.keeps;
            layout_is = made.0 ∙ l_is;
            pass = made.1;
            me = made.2 ∙ (λ i. (first_view (sym made.0 i) (begun_with F.clauses (sym made.0 i) (has_hints (from.format_is i)) (with_round (sym at.is i) (ss_is i) (us_is i)) (ss_is i) (us_is i)) origin, []));
            cells_are = cells ∙ ap (λ (x : View × List (ℕ × Option (Book S d))). addresses x.0.opening.starts) (sym made.2);
          }

      pub unmade : (why : HoleStop) → IsMakeStop l ss why → (e : Book S d) → e ≡ c → HasReached written flushed target faults sink plan F (unmade_answer why) tally e
      unmade why stopped e back =
          let stop : IsMakeStop wide left.start.items why = subst (λ (y : Layout × List (ℕ × List Literal)). IsMakeStop y.0 y.1 why) (λ i. (l_is i, ss_is i)) stopped in
          subst (λ (x : Book S d). HasReached written flushed target faults sink plan F (unmade_answer why) tally x) (sym back) (reached_at c J1 filled_there law (unmade_answer why) (unmade_over why stop))

-- Before the search

-- the first pass of a table has the rights to all grants
-- the rings give hints if the opening says so
pub first_hinted : {B : Type 0} (p : Seat (Option B) View) (l : Layout) (o : CoreOpening) (w : BookOrigin) → p.me ≡ (first_view l o w, []) → p.me.0.opening.hinted ≡ o.hinted
first_hinted p l o w is = let v : p.me.0 ≡ first_view l o w = ap (λ m. m.0) is in ap (λ (u : View). u.opening.hinted) v

pub first_rights : {B : Type 0} (t : Shared B) (p : Seat (Option B) View) (l : Layout) (o : CoreOpening) (w : BookOrigin) → IsPassOf t p → p.me ≡ (first_view l o w, []) → HasRightsFrom t p 0
first_rights t p l o w pass is =
    let v : p.me.0 ≡ first_view l o w = ap (λ m. m.0) is in
    record {
      pass = pass;
      slots = ap (λ m. m.1) is;
      none = ap (λ (u : View). u.parts) v;
      rights = λ r le lt. subst (λ (u : View). r < u.opening.rings → 0 < times_in r u.rights) (sym v) (λ low. let k = times_up_to r o.rings low in omega arith) lt;
    }

-- the table is over the formula's variables, and over those that the stack mends
pub table_fits : {S : Type 0} {d : Ghosts S} (written flushed target : S → Option (List ℕ)) (faults : S → ℕ) (sink : S) (plan : Plan) (F : FormulaData) (left : Simplified) (tally : List Counts) (done limit : ℕ) (t : Shared (Book S d)) (p : Seat (Option (Book S d)) View) (cells : List Cref)
    → IsOpened written flushed target faults sink plan F left tally done limit t p cells → (F.vars ≤ t.layout.vars) × All (λ (fix : Fix). fix.lit.var ≤ t.layout.vars) left.stack
table_fits written flushed target faults sink plan F left tally done limit t p cells h =
    let same : left.vars ≡ t.layout.vars = ap (λ (l : Layout). l.vars) (sym h.layout_is) in (
      subst (λ (n : ℕ). F.vars ≤ n) same h.was.more,
      subst (λ (n : ℕ). All (λ (fix : Fix). fix.lit.var ≤ n) left.stack) same (λ k fix lt. (h.was.is_left.on.stack k fix lt).lit.high),
    )
