-- What the search over the table of a round settles: the answer, if the run ends there, or that the round is passed.
use Rattle.sat_words.specs.Formats.{has_hints}
use Rattle.io_edge.specs.declared.edge.Sink.{Ghosts}
use Rattle.std.proofs.Common.{◌≡◌, ◌∙◌, ◌+◌, ◌-◌, ◌^◌, ◌<◌, ◌≤◌, ℕ, Bool, List, length, replicate, get_or, refl, sym, ap, subst, inl, inr, arith}
use Rattle.std.specs.Prelude.{All, ◌⊎◌, Some}
use Rattle.std.specs.declared.option.Option.{Option}
use Rattle.std.proofs.Math.Nat.{eq-or-lt_of_le}
use Rattle.std.proofs.lemmas.List.{length-map, length-replicate, get_or-replicate}
use Rattle.atomic_table.specs.declared.shared.Seat.{Seat}
use Rattle.sat_words.specs.Literal.{IsOn}
use Rattle.sat_words.specs.FormulaData.{FormulaData}
use Rattle.sat_words.specs.declared.shared.Cref.{Cref}
use Rattle.model_stack.specs.declared.stack.Fix.{Fix}
use Rattle.share_core.proofs.Counting.{none_some}
use Rattle.core_rounds.proofs.Learned.{limit_left}
use Rattle.share_rule.specs.declared.Layout.{Layout}
use Rattle.share_rule.specs.declared.Shared.{Shared}
use Rattle.share_rule.specs.declared.view.View.{View}
use Rattle.share_rule.specs.Books.{StandsFor}
use Rattle.share_rule.specs.Passes.{TellsFaults}
use Rattle.share_rule.specs.Seen.{Seen}
use Rattle.share_rule.specs.Views.{first_view}
use Rattle.log_book.specs.declared.book.Book.{Book}
use Rattle.log_book.specs.Books.{account_of, IsLogOf}
use Rattle.ring_run.specs.declared.job.Counts.{Counts}
use Rattle.ring_run.specs.declared.job.End.{End}
use Rattle.ring_run.specs.declared.job.End.TheVariants as end
use Rattle.ring_run.specs.Ended.{stop_kind}
use Rattle.ruler_simp.specs.declared.ruling.Simplified.{Simplified}
use Rattle.portfolio_run.specs.declared.answer.Answer.{Answer}
use Rattle.portfolio_run.specs.declared.answer.Answer.TheVariants.{Unknown, Memory}
use Rattle.portfolio_run.specs.declared.plan.Plan.{Plan}
use Rattle.portfolio_run.specs.Held.{no_counts, add_tallies}
use Rattle.portfolio_run.specs.Pauses.{IsSmall, CanAdd}
use Rattle.portfolio_run.specs.Reached.{HasReached, IsGathered, pause_of}
use Rattle.portfolio_run.specs.Searched.{answer_of, AllSpent, WasWon, HasRunTo, HasSearched}
use Rattle.portfolio_run.specs.Tables.{IsOpened, HasSettled}
use Rattle.portfolio_run.proofs.Concluded.{gathered_of, passed_there, small_run, has_reached}
use Rattle.portfolio_run.proofs.Gathered.{began_with, journal_at}
use Rattle.portfolio_run.proofs.Passed.{HavePassed}
use Rattle.portfolio_run.proofs.RoundOver.{run}
use Rattle.portfolio_run.proofs.Summing.{added_many, small_none, can_add}

-- no end that counts leaves all rings spent
pub none_unknown : (vars : ℕ) (stack : List Fix) (x : End) (kind : ℕ) → stop_kind x ≡ Some kind → Unknown ≡ answer_of vars stack x → ⊥
none_unknown vars stack (end.Sat a) kind is e = cc e
none_unknown vars stack end.Refuted kind is e = cc e
none_unknown vars stack end.Spent kind is e = none_some kind is
none_unknown vars stack (end.Stopped x) kind is e = none_some kind is
none_unknown vars stack (end.NoHole lack) kind is e = cc e
none_unknown vars stack end.ProofFault kind is e = cc e
none_unknown vars stack end.Memory kind is e = cc e

-- each ring has its counts
pub all_counted : {B : Type 0} (t : Shared B) (v : View) (home : List ℕ) (plan : Plan) (vars : ℕ) (stack : List Fix) (p : Seat (Option B) View) (before tally : List Counts) (answer : Answer) → length before ≡ v.opening.rings
    → HasSearched t v home plan vars stack p before tally answer → length tally ≡ v.opening.rings
all_counted t v home plan vars stack p before tally answer as_many (inl h) = ap (λ (ds : List Counts). length ds) h.tally_is ∙ length-map h.ends (λ (e : End × Counts). e.1) ∙ h.run.many
all_counted t v home plan vars stack p before tally answer as_many (inr h) = ap (λ (ds : List Counts). length ds) h.tally_is ∙ as_many

-- over a table that was open
pub has_settled : {S : Type 0} {d : Ghosts S} (written flushed target : S → Option (List ℕ)) (faults : S → ℕ) (sink : S) (plan : Plan) (F : FormulaData) (left : Simplified) (before : List Counts) (done limit : ℕ) (t : Shared (Book S d)) (first : Seat (Option (Book S d)) View) (cells : List Cref) (home : List ℕ)
    (p : Seat (Option (Book S d)) View) (none counts : List Counts) (answer : Answer) → IsOpened written flushed target faults sink plan F left before done limit t first cells → none ≡ replicate plan.threads no_counts → HasSearched t first.me.0 home plan F.vars left.stack p none counts answer
    → HasSettled written flushed target faults sink plan F left.vars left.stack before done limit t p counts answer
has_settled written flushed target faults sink plan F left before done limit t first cells home p none counts answer opened is searched = record {
  left = left;
  vars_is = refl;
  stack_is = refl;
  first = first;
  cells = cells;
  opened = opened;
  home = home;
  searched = subst (λ (cs : List Counts). HasSearched t first.me.0 home plan F.vars left.stack p cs counts answer) is searched;
}

module _ {S : Type 0} {d : Ghosts S} (written flushed target : S → Option (List ℕ)) (faults : S → ℕ) (sink : S) (plan : Plan) (F : FormulaData) (on : All (All (IsOn F.vars)) F.clauses)
    (rings : 1 ≤ plan.threads) (few_rings : plan.threads ≤ 16) (vars : ℕ) (stack : List Fix) (before : List Counts) (done limit : ℕ) (t : Shared (Book S d)) (p : Seat (Option (Book S d)) View) (counts : List Counts) (answer : Answer)
    (h : HasSettled written flushed target faults sink plan F vars stack before done limit t p counts answer) where
  abbrev v : View
  v = first_view t.layout (began_with F t.layout (has_hints plan.format) (journal_at (pause_of written flushed target faults sink plan F h.left before done h.opened.book) h.opened.was) h.left) h.opened.origin

  abbrev none : List Counts
  none = replicate plan.threads no_counts

  pub searched : HasSearched t v h.home plan F.vars h.left.stack p none counts answer
  searched = subst (λ (x : View). HasSearched t x h.home plan F.vars h.left.stack p none counts answer) (ap (λ (x : View × List (ℕ × Option (Book S d))). x.0) h.opened.me) h.searched

  pub gathered : IsGathered t v p
  gathered = gathered_of t v h.home plan F.vars h.left p none counts answer searched

  -- the answer holds over the journal to which the book has come, if the rings learned all that they may where it is that they did
  pub settled_reached : (b : Book S d) (s : Seen p.me.0) (fault : Bool) → StandsFor account_of (IsLogOf written flushed target faults) b p.me.0.origin p.me.0.layout p.me.0.opening s.core.journal fault → TellsFaults p.me.0.parts fault
      → (answer ≡ Unknown → done + limit ≡ plan.conflicts) → HasReached written flushed target faults sink plan F answer (add_tallies counts before) b
  settled_reached b s fault stands tells last =
      has_reached written flushed target faults sink plan F h.opened.book h.left before done limit h.opened.origin on rings few_rings h.opened.was h.opened.limit_is
      t.layout h.opened.layout_is t h.home p counts answer s gathered b fault stands tells h.opened.format_is h.opened.faults_are h.opened.target_is h.opened.keeps_are last searched

  -- no more is learned than may be
  pub settled_within : done + limit ≤ plan.conflicts
  settled_within =
      let room : limit ≤ plan.conflicts - done = subst (λ (n : ℕ). n ≤ plan.conflicts - done) (sym h.opened.limit_is) (limit_left plan.round plan.conflicts done) in
      let few = h.opened.was.within in omega (arith, room, few)

  -- so the rings learned all that they may if no more can be learned
  pub settled_all : (done + limit < plan.conflicts → ⊥) → done + limit ≡ plan.conflicts
  settled_all last = by (eq-or-lt_of_le settled_within)
    where
      by : (done + limit ≡ plan.conflicts) ⊎ (done + limit < plan.conflicts) → done + limit ≡ plan.conflicts
      by (inl same) = same
      by (inr lt) = absurd (last lt)

  -- if no answer came, the round is passed
  pub settled_passed : (s : Seen p.me.0) → answer ≡ Unknown → HavePassed plan F h.left.vars h.left.stack (add_tallies counts before) (done + limit) (run s) h.opened.was.runs s.core.journal
  settled_passed s unknown = by searched
    where
      by_ends : (r : HasRunTo t v h.home plan F.vars h.left.stack p counts answer) → AllSpent r.ends answer ⊎ WasWon p.me.0 F.vars h.left.stack r.ends answer → HavePassed plan F h.left.vars h.left.stack (add_tallies counts before) (done + limit) (run s) h.opened.was.runs s.core.journal
      by_ends r (inl spent) =
          passed_there written flushed target faults sink plan F h.opened.book h.left before done limit h.opened.origin on rings few_rings h.opened.was h.opened.limit_is
          t.layout h.opened.layout_is t h.home p counts answer s gathered r spent.each
      by_ends r (inr won) =
          let e : End × Counts = (end.Spent, no_counts) in
          absurd (none_unknown F.vars h.left.stack (get_or r.ends won.ring e).0 won.won.kind (won.won.decided e) (sym unknown ∙ won.is e))

      by : HasSearched t v h.home plan F.vars h.left.stack p none counts answer → HavePassed plan F h.left.vars h.left.stack (add_tallies counts before) (done + limit) (run s) h.opened.was.runs s.core.journal
      by (inl r) = by_ends r r.decided
      by (inr r) = (let clash : Unknown ≡ Memory = sym unknown ∙ r.is in absurd (cc clash))

  -- Counts

  pub settled_many : length counts ≡ plan.threads
  settled_many =
      let rings_are : v.opening.rings ≡ plan.threads = ap (λ (l : Layout). l.rings) h.opened.layout_is in
      all_counted t v h.home plan F.vars h.left.stack p none counts answer (length-replicate plan.threads no_counts ∙ sym rings_are) searched ∙ rings_are

  pub settled_tally : length (add_tallies counts before) ≡ plan.threads
  settled_tally = added_many plan.threads counts before settled_many h.opened.was.many

  small_each : (r : ℕ) (e : Counts) → r < length counts → IsSmall plan.threads limit (get_or counts r e)
  small_each r e lt = by searched
    where
      by : HasSearched t v h.home plan F.vars h.left.stack p none counts answer → IsSmall plan.threads limit (get_or counts r e)
      by (inl q) =
          small_run written flushed target faults sink plan F h.opened.book h.left before done limit h.opened.origin on rings few_rings h.opened.was h.opened.limit_is
          t.layout h.opened.layout_is t h.home p counts answer gathered.pass.0.3 gathered q r e lt
      by (inr q) =
          let many = settled_many in
          subst (λ (cs : List Counts). IsSmall plan.threads limit (get_or cs r e)) (sym q.tally_is)
          (subst (IsSmall plan.threads limit) (sym (get_or-replicate plan.threads r no_counts e (omega (arith, lt, many)))) (small_none plan.threads limit))

  -- what a ring counted in the round can be added to what it counted before
  pub settled_small : plan.conflicts ≤ 10 ^ 12 → (r : ℕ) (e : Counts) → r < length counts → CanAdd (get_or counts r e) (get_or before r e)
  settled_small few r e lt =
      let within = settled_within in
      let many = settled_many in
      let before_many = h.opened.was.many in
      can_add plan.threads limit done (get_or counts r e) (get_or before r e) few_rings (omega (arith, within, few)) (small_each r e lt) (h.opened.was.small r e (omega (arith, lt, many, before_many)))
