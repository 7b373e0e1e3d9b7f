-- What one round leaves.
use Rattle.std.proofs.Common.{◌≡◌, ◌∙◌, ℕ, suc, ◌+◌, ◌<◌, ◌≤◌, false, List, [], ◌∷◌, ◌++◌, map, All, Some, refl, sym, ap, subst, arith, append_assoc}
use Rattle.std.specs.List.{list_any}
use Rattle.std.specs.Option.{unwrap_or}
use Rattle.std.proofs.Math.Seq.{drop-append_seam}
use Rattle.sat_words.specs.Literal.{Literal}
use Rattle.rup_model.specs.declared.journal.Entry.{Entry}
use Rattle.rup_model.specs.Journal.{Book, book, ring_of, LogSound}
use Rattle.rup_model.specs.Opening.{IsStart, start_clauses}
use Rattle.rup_model.specs.Windows.{begins_round, since_round, to_round, last_round, start_of, opening_by, round_opening}
use Rattle.rup_model.proofs.Windowing.{rings_begin_none, since_is, last_is, to_is}
use Rattle.share_core.specs.declared.stored.ClauseAt.{ClauseAt}
use Rattle.share_core.specs.declared.part.CoreOpening.{CoreOpening}
use Rattle.share_core.specs.State.{opening_of, later, State, opened}
use Rattle.share_core.specs.Sound.{Sound, FreshSound}
use Rattle.share_core.proofs.Opened.{events_sound, run_opening}
use Rattle.core_rounds.specs.InRounds.{learned_by}
use Rattle.core_rounds.specs.Rounds.{RoundRun, left_by, written_in, start_for, beginning_of, IsRound, IsSpent}
use Rattle.core_rounds.proofs.Learned.{learned_more, round_more}

-- start clauses that are alive are told by their numbers
starts_told : (b : Book) (ss : List ClauseAt) → All (IsStart b) (map (λ (s : ClauseAt). record { number = s.number; lits = s.lits }) ss)
    → map (start_of b) (map (λ (s : ClauseAt). s.number) ss) ≡ map (λ (s : ClauseAt). record { number = s.number; lits = s.lits }) ss
starts_told b [] h = refl
starts_told b (s ∷ ss) h = λ i. record { number = s.number; lits = unwrap_or ((h 0 (record { number = s.number; lits = s.lits }) (omega arith)).alive i) [] } ∷ starts_told b ss (λ k d lt. h (suc k) d (omega arith)) i

-- the rings learned no more than the limit after the opening's journal
abbrev pub IsWithin : State → Type 0
IsWithin c = (added : List Entry) × (c.journal ≡ c.opening.journal ++ added) × (learned_by c.opening.rings added ≤ c.opening.limit)

-- no ring found a ticket left
abbrev pub FoundNone : CoreOpening → State → Type 0
FoundNone o c = (r : ℕ) → r < o.rings → o.limit < (c.part r).found

-- the rings learned as much as the limit allows
abbrev pub IsUsedUp : State → Type 0
IsUsedUp c = (added : List Entry) × (c.journal ≡ c.opening.journal ++ added) × (learned_by c.opening.rings added ≡ c.opening.limit)

module _ {rings depth limit : ℕ} {F : List (List Literal)} {before : List Entry} {x : RoundRun} (o : IsRound rings depth limit F before x) where
  pub sound : Sound (left_by x)
  sound = events_sound x.opening o.opens x.events o.enabled

  pub same_opening : (left_by x).opening ≡ x.opening
  same_opening = run_opening x.events (opened x.opening)

  -- Its entries

  -- whatever comes after the opening's journal is what was written in the round
  is_written : (K : List Entry) → (left_by x).journal ≡ (left_by x).opening.journal ++ K → ((left_by x).journal ≡ x.opening.journal ++ K) × (written_in x ≡ K)
  is_written K is =
      let whole : (left_by x).journal ≡ x.opening.journal ++ K = is ∙ ap (λ (c : CoreOpening). c.journal ++ K) same_opening in
      (whole, ap (later x.opening) whole ∙ drop-append_seam x.opening.journal K)

  pub grows : (left_by x).journal ≡ x.opening.journal ++ written_in x
  grows =
      let own = is_written sound.log.begins.0 sound.log.begins.1 in
      own.0 ∙ ap (λ (K : List Entry). x.opening.journal ++ K) (sym own.1)

  pub of_rings : All (λ e. ring_of e < rings) (written_in x)
  of_rings =
      let own = is_written sound.log.begins.0 sound.log.begins.1 in
      subst (λ (K : List Entry). All (λ e. ring_of e < rings) K) (sym own.1)
      (subst (λ (n : ℕ). All (λ e. ring_of e < n) sound.log.begins.0) (ap (λ (c : CoreOpening). c.rings) same_opening ∙ o.rings_are) sound.log.begins.2)

  pub alone : list_any begins_round (written_in x) ≡ false
  alone = rings_begin_none (written_in x) (λ k e lt. let low = of_rings k e lt in let few = o.opens.few_rings in let same = o.rings_are in omega arith)

  pub fresh_and_spaced : FreshSound (start_clauses (opening_of x.opening)) (written_in x)
  fresh_and_spaced = subst (λ (c : CoreOpening). FreshSound (start_clauses (opening_of c)) (later c (left_by x).journal)) same_opening sound.freshness

  -- The whole journal

  pub log : LogSound F (left_by x).journal
  log = subst (λ (G : List (List Literal)). LogSound G (left_by x).journal) (ap (λ (c : CoreOpening). c.formula) same_opening ∙ o.formula_is) sound.log.log

  in_parts : (left_by x).journal ≡ (before ++ beginning_of x.opening ∷ []) ++ written_in x
  in_parts = grows ∙ ap (λ (J : List Entry). J ++ written_in x) o.journal_is

  pub journal_is : (left_by x).journal ≡ before ++ beginning_of x.opening ∷ written_in x
  journal_is = in_parts ∙ append_assoc before (beginning_of x.opening ∷ []) (written_in x)

  pub since : since_round (left_by x).journal ≡ written_in x
  since = ap since_round in_parts ∙ since_is before (start_for x.opening) (written_in x) alone

  pub to : to_round (left_by x).journal ≡ x.opening.journal
  to = ap to_round in_parts ∙ to_is before (start_for x.opening) (written_in x) alone ∙ sym o.journal_is

  pub last : last_round (left_by x).journal ≡ Some (start_for x.opening)
  last = ap last_round in_parts ∙ last_is before (start_for x.opening) (written_in x) alone

  -- Its opening

  pub tells : opening_by F x.opening.journal (Some (start_for x.opening)) ≡ opening_of x.opening
  tells =
      let alive : All (IsStart (book F x.opening.journal)) (opening_of x.opening).starts = subst (λ (G : List (List Literal)). All (IsStart (book G x.opening.journal)) (opening_of x.opening).starts) o.formula_is o.opens.opens.starts in
      λ i. record { journal = x.opening.journal; starts = starts_told (book F x.opening.journal) x.opening.starts alive i; units = x.opening.units }

  pub read : round_opening F (left_by x).journal ≡ opening_of x.opening
  read = (λ i. opening_by F (to i) (last i)) ∙ tells

  pub told : opening_by F (before ++ beginning_of x.opening ∷ []) (Some (start_for x.opening)) ≡ opening_of x.opening
  told = ap (λ (J : List Entry). opening_by F J (Some (start_for x.opening))) (sym o.journal_is) ∙ tells

  -- What is learned in it

  pub within : IsWithin (left_by x) → learned_by rings (written_in x) ≤ limit
  within t =
      let few : learned_by x.opening.rings t.0 ≤ x.opening.limit = subst (λ (c : CoreOpening). learned_by c.rings t.0 ≤ c.limit) same_opening t.2 in
      let own : learned_by rings (written_in x) ≡ learned_by x.opening.rings t.0 = λ i. learned_by (sym o.rings_are i) ((is_written t.0 t.1).1 i) in
      let same = o.limit_is in omega (arith, few, own, same)

  pub used_up : (FoundNone (left_by x).opening (left_by x) → IsUsedUp (left_by x)) → FoundNone x.opening (left_by x) → IsSpent x
  used_up u none =
      let t = u (subst (λ (c : CoreOpening). FoundNone c (left_by x)) (sym same_opening) none) in
      ap (learned_by x.opening.rings) (is_written t.0 t.1).1 ∙ subst (λ (c : CoreOpening). learned_by c.rings t.0 ≡ c.limit) same_opening t.2

  pub spent : IsSpent x → learned_by rings (written_in x) ≡ limit
  spent h = ap (λ (n : ℕ). learned_by n (written_in x)) (sym o.rings_are) ∙ h ∙ o.limit_is

  pub sum : learned_by rings (left_by x).journal ≡ learned_by rings before + learned_by rings (written_in x)
  sum =
      ap (learned_by rings) in_parts
      ∙ learned_more rings (before ++ beginning_of x.opening ∷ []) (written_in x)
      ∙ ap (λ (n : ℕ). n + learned_by rings (written_in x)) (round_more rings before (start_for x.opening))
