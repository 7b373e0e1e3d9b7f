-- What an addition of the ring keeps of the one journal behind its port.
use Rattle.std.proofs.Common.{◌≡◌, ℕ, zero, suc, ◌+◌, ◌<◌, ◌==◌, ◌||◌, ◌⊎◌, Bool, true, false, not, cond, List, [], ◌∷◌, ◌++◌, length, map, sym, refl, ap, subst, ◌∙◌, inl, inr, ⊎_elim, arith, Some, None, append_assoc, length-append}
use Rattle.std.specs.List.{list_any, All, Contains}
use Rattle.std.specs.Prelude.{IsSomeAnd}
use Rattle.std.specs.declared.option.Option.{Option}
use Rattle.std.proofs.lemmas.Bool.{or_left, or_right, false≢true}
use Rattle.std.proofs.lemmas.List.Elements.{All-append}
use Rattle.std.proofs.lemmas.List.Folds.{list_any-append}
use Rattle.sat_words.specs.Literal.{Literal, same}
use Rattle.sat_words.specs.Clause.{same_set, is_empty, clause_of}
use Rattle.sat_words.specs.declared.line.Line.TheVariants.{Add as AddLine}
use Rattle.rup_model.specs.declared.journal.TheConstants.{RULER_RING}
use Rattle.rup_model.specs.declared.journal.Kind.{Kind}
use Rattle.rup_model.specs.declared.journal.Addition.{Addition}
use Rattle.rup_model.specs.declared.journal.Entry.{Entry}
use Rattle.rup_model.specs.declared.journal.Entry.TheVariants.{Add}
use Rattle.rup_model.specs.Basics.{put}
use Rattle.rup_model.specs.Rup.{rup}
use Rattle.rup_model.specs.Log.{alive, lits_of}
use Rattle.rup_model.specs.Journal.{Book, spelled, book_after, book, lines, added, ended, is_told, ring_of, LogSound}
use Rattle.rup_model.proofs.Lists.{In, In_append, map_In, In_Contains, Contains_In}
use Rattle.rup_model.proofs.Sums.{put_here, put_else}
use Rattle.rup_model.proofs.Covers.{same_self}
use Rattle.rup_model.proofs.Numbers.{journal_matches, clause_below, book_last, lines_last, rup_alive_sets}
use Rattle.rup_model.proofs.JournalSteps.{not_added, log_adds}
use Rattle.rup_model.proofs.Additions.{added-append, told_more}
use Rattle.rup_model.proofs.Told.{told_alive}
use Rattle.rup_model.proofs.Sequences.{each_last}
use Rattle.drat_text.specs.LineState.{LineState}
use Rattle.rup_model.specs.NumberedLines.{NumberedLine, Added, line_of, numbered_after, IsHinted}
use Rattle.drat_text.specs.LineOut.{PutLine, FailedLine, with_line, added_line}
use Rattle.drat_text.proofs.JournalLines.{has_text_next, has_text_cut}
use Rattle.sat_words.specs.Formats.{has_hints}
use Rattle.sat_words.specs.declared.shared.Stop.{Stop}
use Rattle.sat_words.specs.declared.shared.TheConstants.{MAX_ENTRIES}
use Rattle.ring_port.specs.declared.stops.PortStop.{PortStop}
use Rattle.ring_port.specs.declared.stops.PortStop.TheVariants.{Ended, Broken, ProofFault, NoHole, Memory}
use Rattle.ring_port.specs.PortState.{Holding, PortState, IsOn, known}
use Rattle.ring_port.specs.Port.{entry_of, is_usable, AreHints}
use Rattle.ring_port.specs.Log.{Origin, Keeps, StandsOver, HasLines, IsCaused, journal_of}
use Rattle.ring_port.proofs.Holdings.{All_In}
use Rattle.ring_port.proofs.Hinted.{hints_alive}

-- Lists

pub In_All : {X : Type 0} (P : X → Type 0) (xs : List X) → ((x : X) → In x xs → P x) → All P xs
In_All P [] f k d lt = absurd (omega arith)
In_All P (x ∷ xs) f zero d lt = f x (inl refl)
In_All P (x ∷ xs) f (suc k) d lt = In_All P xs (λ y h. f y (inr h)) k d (omega arith)

pub one_All : {X : Type 0} (P : X → Type 0) (x : X) → P x → All P (x ∷ [])
one_All P x p zero d lt = p
one_All P x p (suc k) d lt = absurd (omega arith)

pub or_none : (b : Bool) → (b || false) ≡ b
or_none true = refl
or_none false = refl

-- one addition more
module _ (o : Origin) (s : PortState) (h : StandsOver o s) (ring : s.ring ≡ 0) (lits : List Literal) (kind : Kind) (number : ℕ) (hints : List ℕ) where
  abbrev F : List (List Literal)
  F = o.formula

  abbrev J : List Entry
  J = journal_of o s

  abbrev x : Addition
  x = record { ring = s.ring; number = number; lits = lits; kind = kind; hints = hints }

  abbrev grown : List Entry
  grown = o.journal ++ (s.mine ++ Add x ∷ [])

  grown_is : grown ≡ J ++ Add x ∷ []
  grown_is = sym (append_assoc o.journal s.mine (Add x ∷ []))

  -- what the ring knows is alive
  alive_known : (d : List Literal) → In d (known s) → (n : ℕ) × (e : List Literal) × ((book F J).clause n ≡ Some e) × (same_set d e ≡ true)
  unfolding known
  alive_known d i =
      ⊎_elim
      (λ k.
      (let t = map_In (λ c. c.lits) s.held d k in
      (t.0.number, d, All_In (λ c. (book F J).clause c.number ≡ Some c.lits) s.held t.0 h.held t.1 ∙ ap Some t.2, same_self d)))
      (λ k.
      (let t = map_In (λ l. l ∷ []) s.seen d k in
      let u = told_alive F J t.0 h.sound.fits (All_In (λ l. is_told F J l ≡ true) s.seen t.0 h.seen t.1) in
      (u.0, u.1, u.2, subst (λ (e : List Literal). same_set e u.1 ≡ true) t.2 u.3)))
      (In_append (map (λ c. c.lits) s.held) (map (λ l. l ∷ []) s.seen) d i)

  -- the line follows, the log is not ended, and the number is the next
  module _ (follows : rup (known s) lits ≡ true) (going : s.ended ≡ false) (next : number ≡ (book F J).next) where
    rup_alive_lits : rup (alive F (lines F J)) lits ≡ true
    rup_alive_lits = rup_alive_sets (book F J) (alive F (lines F J)) (known s) lits (journal_matches F J h.sound.fits) alive_known follows

    pub sound_last : LogSound F (J ++ Add x ∷ [])
    sound_last = log_adds F J h.sound x next rup_alive_lits (not_added F J (sym h.ended ∙ going))

    pub sound_next : LogSound F grown
    sound_next = subst (LogSound F) (sym grown_is) sound_last

    pub lines_next : lines F grown ≡ lines F J ++ AddLine lits ∷ []
    lines_next = ap (lines F) grown_is ∙ lines_last F J (Add x)

  pub book_next : book F grown ≡ book_after (book F J) (Add x)
  book_next = ap (book F) grown_is ∙ book_last F J (Add x)

  spelled_is : spelled x ≡ lits
  spelled_is = ap (λ r. cond (r == RULER_RING) (clause_of lits) lits) ring

  -- what was alive under a number stays
  pub alive_next : (n : ℕ) (c : List Literal) → (book F J).clause n ≡ Some c → (book F grown).clause n ≡ Some c
  alive_next n c is =
      ap (λ (b : Book). b.clause n) book_next
      ∙ put_else (book F J).clause (book F J).next (Some (spelled x)) n (λ e. (let lt = clause_below (book F J) (alive F (lines F J)) n c (journal_matches F J h.sound.fits) is in omega arith))
      ∙ is

  pub added_here : number ≡ (book F J).next → (book F grown).clause number ≡ Some lits
  added_here next =
      ap (λ (b : Book). b.clause number) book_next
      ∙ ap (put (book F J).clause (book F J).next (Some (spelled x))) next
      ∙ put_here (book F J).clause (book F J).next (Some (spelled x))
      ∙ ap Some spelled_is

  pub held_next : All (λ c. (book F grown).clause c.number ≡ Some c.lits) s.held
  held_next k d lt = alive_next _ _ (h.held k d lt)

  pub told_alive_next : (T : List (Literal × ℕ)) → All (λ u. (book F J).clause u.1 ≡ Some (u.0 ∷ [])) T → All (λ u. (book F grown).clause u.1 ≡ Some (u.0 ∷ [])) T
  told_alive_next T all k d lt = alive_next _ _ (all k d lt)

  -- a clause that is held or waits has an earlier number
  kept_below : (c : Holding) → Keeps s c → c.number < (book F J).next
  kept_below c (inl m) = clause_below (book F J) (alive F (lines F J)) c.number c.lits (journal_matches F J h.sound.fits) (All_In (λ k. (book F J).clause k.number ≡ Some k.lits) s.held c h.held (Contains_In s.held c m))
  kept_below c (inr m) = clause_below (book F J) (alive F (lines F J)) c.number c.lits (journal_matches F J h.sound.fits) (All_In (λ k. (book F J).clause k.number ≡ Some k.lits) s.waiting c h.waiting (Contains_In s.waiting c m))

  -- so its own number differs from theirs
  pub numbers_next : (c : Holding) → c.number ≡ (book F J).next → (t : PortState) → t.held ≡ s.held ++ c ∷ [] → t.waiting ≡ s.waiting → (a b : Holding) → Keeps t a → Keeps t b → a.number ≡ b.number → a ≡ b
  numbers_next c next t held waiting a b ka kb same = by (old_or_new a ka) (old_or_new b kb)
    where
      old_or_new : (x : Holding) → Keeps t x → Keeps s x ⊎ (c ≡ x)
      old_or_new x (inl m) =
          ⊎_elim (λ k. inl (inl (In_Contains s.held x k))) (λ k. last x k) (In_append s.held (c ∷ []) x (subst (In x) held (Contains_In t.held x m)))
        where
          last : (y : Holding) → In y (c ∷ []) → Keeps s y ⊎ (c ≡ y)
          last y (inl e) = inr e
          last y (inr k) = absurd k
      old_or_new x (inr m) = inl (inr (subst (λ hs. Contains hs x) waiting m))

      by : Keeps s a ⊎ (c ≡ a) → Keeps s b ⊎ (c ≡ b) → a ≡ b
      by (inl x) (inl y) = h.numbers a b x y same
      by (inl x) (inr y) = absurd (let lt = kept_below a x in let e = ap (λ (k : Holding). k.number) y in omega arith)
      by (inr x) (inl y) = absurd (let lt = kept_below b y in let e = ap (λ (k : Holding). k.number) x in omega arith)
      by (inr x) (inr y) = sym x ∙ y

  -- what was known stays told
  pub told_next : (l : Literal) → is_told F J l ≡ true → is_told F grown l ≡ true
  told_next l t = subst (λ (K : List Entry). is_told F K l ≡ true) (sym grown_is) (told_more F J (Add x ∷ []) l t)

  pub ended_next : ended F grown ≡ (ended F J || is_empty lits)
  ended_next =
      ap (λ K. list_any is_empty (F ++ added K)) grown_is
      ∙ ap (λ G. list_any is_empty (F ++ G)) (added-append J (Add x ∷ []))
      ∙ ap (list_any is_empty) (sym (append_assoc F (added J) (lits ∷ [])))
      ∙ list_any-append is_empty (F ++ added J) (lits ∷ [])
      ∙ ap (λ b. ended F J || b) (or_none (is_empty lits))

  pub ended_stays : is_empty lits ≡ false → ended F grown ≡ ended F J
  ended_stays some = ended_next ∙ ap (λ b. ended F J || b) some ∙ or_none (ended F J)

  -- the unit that is added is known
  pub told_here : (l : Literal) → lits ≡ l ∷ [] → is_told F grown l ≡ true
  told_here l unit =
      ap (λ K. list_any (same_set (l ∷ [])) (F ++ added K)) grown_is
      ∙ ap (λ G. list_any (same_set (l ∷ [])) (F ++ G)) (added-append J (Add x ∷ []))
      ∙ ap (list_any (same_set (l ∷ []))) (sym (append_assoc F (added J) (lits ∷ [])))
      ∙ list_any-append (same_set (l ∷ [])) (F ++ added J) (lits ∷ [])
      ∙ or_right _ _ (or_left _ _ (ap (same_set (l ∷ [])) unit ∙ same_self (l ∷ [])))

  pub all_told_next : (ls : List Literal) → All (λ l. is_told F J l ≡ true) ls → All (λ l. is_told F grown l ≡ true) ls
  all_told_next ls all k d lt = told_next _ (all k d lt)

-- the output of a port that stands
pub output_of : (o : Origin) (s : PortState) (a : LineState) → StandsOver o s → s.output ≡ Some a → HasLines o s a
output_of o s a h e = subst (λ (w : Option LineState). IsSomeAnd w (HasLines o s)) e h.output

-- an answer before an addition still has its cause after it
pub caused_later : (s t : PortState) (a b : LineState) (r : Option PortStop) → s.ended ≡ false → a.entries < MAX_ENTRIES → b.spent ≡ a.spent → IsCaused s a r → IsCaused t b r
caused_later s t a b None going room same c = tt
caused_later s t a b (Some Ended) going room same c = absurd (false≢true (sym going ∙ c))
caused_later s t a b (Some Broken) going room same c = absurd c
caused_later s t a b (Some ProofFault) going room same c = same ∙ c
caused_later s t a b (Some (NoHole lack)) going room same c = let full = c.0 in absurd (omega arith)
caused_later s t a b (Some Memory) going room same c = absurd c

-- a cause tells of nothing but the end of the log
pub caused_same : (s t : PortState) (a : LineState) (r : Option PortStop) → t.ended ≡ s.ended → IsCaused s a r → IsCaused t a r
caused_same s t a None same c = tt
caused_same s t a (Some Ended) same c = same ∙ c
caused_same s t a (Some Broken) same c = c
caused_same s t a (Some ProofFault) same c = c
caused_same s t a (Some (NoHole lack)) same c = c
caused_same s t a (Some Memory) same c = c

-- A line that was put
module _ (o : Origin) (s : PortState) (h : StandsOver o s) (ring : s.ring ≡ 0) (lits : List Literal) (kind : Kind) (number : ℕ) (hints : List ℕ) (fit : AreHints s lits hints)
    (follows : rup (known s) lits ≡ true) (going : s.ended ≡ false) (on : All (IsOn s.vars) lits) (a b : LineState) (out : s.output ≡ Some a) (unspent : a.spent ≡ false) (given : number ≡ a.last + 1) (put : PutLine a b (added_line a lits hints)) where
  abbrev put_output : LineState
  put_output = with_line a (added_line a lits hints)

  pub number_is : number ≡ (book o.formula (journal_of o s)).next
  number_is = given ∙ sym (output_of o s a h out).last

  -- the port after it, with what it then holds and has seen
  abbrev after : List Holding → List Literal → List (Literal × ℕ) → Option ℕ → Bool → PortState
  after H S T la en = record s { held = H; seen = S; told = T; mine = s.mine ++ entry_of s number lits kind hints ∷ []; last = la; ended = en; output = Some b }

  has_lines : (H : List Holding) (S : List Literal) (T : List (Literal × ℕ)) (la : Option ℕ) (en : Bool) → HasLines o (after H S T la en) put_output
  has_lines H S T la en =
      let was = output_of o s a h out in
      let more = lines_next o s h ring lits kind number hints follows going number_is in
      let books = book_next o s h ring lits kind number hints in
      record {
        entries = (let e = was.entries in let n = ap (λ L. length L) more in let m = length-append (lines o.formula (journal_of o s)) (AddLine lits ∷ []) in omega arith);
        last = (let l = was.last in let n = ap (λ (k : Book). k.next) books in omega arith);
        hinted = was.hinted;
        usable = was.usable;
        caused = caused_later s (after H S T la en) a put_output s.refused going put.room refl was.caused;
        whole = λ q. has_text_next o s.mine a put_output (added_line a lits hints) (was.whole q) (entry_of s number lits kind hints) (ap (λ (n : ℕ). Added n lits hints ∷ []) given) (record { room = put.room; state = refl });
        short = λ q. absurd (false≢true (sym unspent ∙ q));
        target = was.target;
        flushed = was.flushed;
      }

  pub stands_after : (H : List Holding) (S : List Literal) (T : List (Literal × ℕ)) (la : Option ℕ) (en : Bool)
      → All (λ c. (book o.formula (o.journal ++ (s.mine ++ entry_of s number lits kind hints ∷ []))).clause c.number ≡ Some c.lits) H
      → All (λ l. is_told o.formula (o.journal ++ (s.mine ++ entry_of s number lits kind hints ∷ [])) l ≡ true) S
      → (s.hinted ≡ true → All (λ u. (book o.formula (o.journal ++ (s.mine ++ entry_of s number lits kind hints ∷ []))).clause u.1 ≡ Some (u.0 ∷ [])) T)
      → en ≡ ended o.formula (o.journal ++ (s.mine ++ entry_of s number lits kind hints ∷ []))
      → ((a b : Holding) → Keeps (after H S T la en) a → Keeps (after H S T la en) b → a.number ≡ b.number → a ≡ b)
      → StandsOver o (after H S T la en)
  stands_after H S T la en held seen told end numbers = record {
    opens = h.opens;
    given = h.given;
    sound = sound_next o s h ring lits kind number hints follows going number_is;
    of_ring = All-append (λ e. ring_of e ≡ s.ring) s.mine (entry_of s number lits kind hints ∷ []) h.of_ring (one_All (λ e. ring_of e ≡ s.ring) (entry_of s number lits kind hints) refl);
    on = subst (λ G. All (All (IsOn s.vars)) G) (sym (added-append s.mine (entry_of s number lits kind hints ∷ []))) (All-append (All (IsOn s.vars)) (added s.mine) (lits ∷ []) h.on (one_All (All (IsOn s.vars)) lits on));
    ended = end;
    held = held;
    waiting = λ k d lt. alive_next o s h ring lits kind number hints _ _ (h.waiting k d lt);
    numbers = numbers;
    seen = seen;
    told = told;
    hints = λ q. each_last (IsHinted o.formula) o.journal s.mine (entry_of s number lits kind hints) (h.hints q) (hints_alive o s h lits hints fit q);
    output = subst (λ w. HasLines o (after H S T la en) w) (sym put.state) (has_lines H S T la en);
  }

-- A line at which the output failed, and which would be accepted
pub stands_failed : (o : Origin) (s : PortState) (h : StandsOver o s) (e : Entry) (x : NumberedLine) → numbered_after (book o.formula (journal_of o s)) e ≡ x ∷ [] → LogSound o.formula (journal_of o s ++ e ∷ [])
    → (s.hinted ≡ true → IsHinted o.formula (journal_of o s) e) → All (IsOn s.vars) (lits_of (line_of x)) → (a b : LineState) → s.output ≡ Some a → a.spent ≡ false → FailedLine a b x → StandsOver o (record s { refused = Some ProofFault; output = Some b })
stands_failed o s h e x one sound hinted on a b out unspent failed =
    let was = output_of o s a h out in
    let t : PortState = record s { refused = Some ProofFault; output = Some b } in
    let w : LineState = record a { spent = true; faults = b.faults; written = b.written } in
    let lines_are : HasLines o t w =
    record {
      entries = was.entries;
      last = was.last;
      hinted = was.hinted;
      usable = refl;
      caused = refl;
      whole = λ q. absurd (false≢true (sym q));
      short = λ q. has_text_cut o s.mine a w x (was.whole unspent) e one sound (λ q. hinted (was.hinted ∙ ap has_hints (was.whole unspent).format ∙ q)) s.vars on
          (subst (λ v. FailedLine a v x) failed.state failed);
      target = was.target;
      flushed = was.flushed;
    }
    in record {
      opens = h.opens;
      given = h.given;
      sound = h.sound;
      of_ring = h.of_ring;
      on = h.on;
      ended = h.ended;
      held = h.held;
      waiting = h.waiting;
      numbers = h.numbers;
      seen = h.seen;
      told = h.told;
      hints = h.hints;
      output = subst (λ v. HasLines o t v) (sym failed.state) lines_are;
    }

-- No line
pub stands_with : (o : Origin) (s : PortState) (h : StandsOver o s) (a : LineState) → s.output ≡ Some a
    → (S G : List Literal) (n : ℕ) (st : Option Stop) (k : ℕ) (r : Option PortStop) (en : Bool)
    → All (λ l. is_told o.formula (journal_of o s) l ≡ true) S → is_usable r ≡ not a.spent → en ≡ s.ended → IsCaused (record s { ended = en }) a r
    → StandsOver o (record s { seen = S; given = G; coming = n; stop = st; looks = k; refused = r; ended = en })
stands_with o s h a out S G n st k r en seen usable end caused =
    let was = output_of o s a h out in
    let t : PortState = record s { seen = S; given = G; coming = n; stop = st; looks = k; refused = r; ended = en } in
    let lines_are : HasLines o t a =
    record {
      entries = was.entries;
      last = was.last;
      hinted = was.hinted;
      usable = usable;
      caused = caused_same (record s { ended = en }) t a r refl caused;
      whole = was.whole;
      short = was.short;
      target = was.target;
      flushed = was.flushed;
    }
    in record {
      opens = h.opens;
      given = h.given;
      sound = h.sound;
      of_ring = h.of_ring;
      on = h.on;
      ended = end ∙ h.ended;
      held = h.held;
      waiting = h.waiting;
      numbers = h.numbers;
      seen = seen;
      told = h.told;
      hints = h.hints;
      output = subst (λ (w : Option LineState). IsSomeAnd w (HasLines o t)) (sym out) lines_are;
    }
