-- What the deletion of a clause that waits keeps of the one journal behind its port.
use Rattle.std.proofs.Common.{◌≡◌, ◌≢◌, ℕ, suc, get_or, true, false, List, [], ◌∷◌, ◌++◌, length, sym, refl, ap, subst, ◌∙◌, arith, Some, None, append_assoc, append-nil, length-append, inl, inr}
use Rattle.std.specs.List.{list_any, All, Contains}
use Rattle.std.specs.Prelude.{IsSomeAnd, ◌-◌}
use Rattle.std.specs.Option.{unwrap_or}
use Rattle.std.specs.declared.option.Option.{Option}
use Rattle.std.proofs.lemmas.Bool.{false≢true}
use Rattle.std.proofs.lemmas.List.Elements.{All-append}
use Rattle.sat_words.specs.Literal.{Literal}
use Rattle.sat_words.specs.Clause.{same_set, is_empty}
use Rattle.sat_words.specs.declared.line.Line.TheVariants.{Del as DelLine}
use Rattle.rup_model.specs.declared.journal.Entry.{Entry}
use Rattle.rup_model.specs.declared.journal.Entry.TheVariants.{Del}
use Rattle.rup_model.specs.Opening.{IsLong}
use Rattle.rup_model.specs.Journal.{spelled_by, Book, book_after, book, lines, lines_after, added, ring_of, LogSound}
use Rattle.rup_model.proofs.Lists.{In_Contains, Contains_In, In_get_or}
use Rattle.rup_model.proofs.Sums.{put_else}
use Rattle.rup_model.proofs.Units.{long_two}
use Rattle.rup_model.proofs.Numbers.{book_last, lines_last}
use Rattle.rup_model.proofs.JournalSteps.{not_added, log_dels}
use Rattle.rup_model.proofs.Additions.{added-append}
use Rattle.rup_model.proofs.Sequences.{each_last}
use Rattle.drat_text.specs.LineState.{LineState}
use Rattle.rup_model.specs.NumberedLines.{Deleted, numbered_after, IsHinted}
use Rattle.drat_text.specs.LineOut.{PutLine, with_line, deleted_line}
use Rattle.drat_text.proofs.JournalLines.{has_text_next}
use Rattle.ring_port.specs.PortState.{Holding, PortState, IsOn}
use Rattle.ring_port.specs.Log.{Origin, Keeps, StandsOver, HasLines, journal_of}
use Rattle.ring_port.proofs.LogSteps.{one_All, output_of, caused_later, caused_same}

module _ (o : Origin) (s : PortState) (h : StandsOver o s) (ring : s.ring ≡ 0) (w : Holding) (rest : List Holding) (first : s.waiting ≡ w ∷ rest) (long : IsLong w.lits) (going : s.ended ≡ false) where
  abbrev F : List (List Literal)
  F = o.formula

  abbrev J : List Entry
  J = journal_of o s

  abbrev deletes : Entry
  deletes = Del s.ring w.number

  abbrev shrunk : List Entry
  shrunk = o.journal ++ (s.mine ++ deletes ∷ [])

  shrunk_is : shrunk ≡ J ++ deletes ∷ []
  shrunk_is = sym (append_assoc o.journal s.mine (deletes ∷ []))

  waits : All (λ c. (book F J).clause c.number ≡ Some c.lits) (w ∷ rest)
  waits = subst (All (λ c. (book F J).clause c.number ≡ Some c.lits)) first h.waiting

  alive : (book F J).clause w.number ≡ Some w.lits
  alive = waits 0 w (omega arith)

  pub sound_without : LogSound F (J ++ deletes ∷ [])
  sound_without = log_dels F J h.sound s.ring w.number w.lits alive (long_two w.lits long) (not_added F J (sym h.ended ∙ going))

  line_is : lines_after (book F J) deletes ≡ DelLine w.lits ∷ []
  line_is = λ i. DelLine (spelled_by (ring i) (unwrap_or (alive i) [])) ∷ []

  pub numbered_is : (last : ℕ) → (book F J).next - 1 ≡ last → numbered_after (book F J) deletes ≡ Deleted last w.number w.lits ∷ []
  numbered_is last e = λ i. Deleted (e i) w.number (spelled_by (ring i) (unwrap_or (alive i) [])) ∷ []

  lines_more : lines F (J ++ deletes ∷ []) ≡ lines F J ++ DelLine w.lits ∷ []
  lines_more = lines_last F J deletes ∙ ap (λ L. lines F J ++ L) line_is

  book_is : book F shrunk ≡ book_after (book F J) deletes
  book_is = ap (book F) shrunk_is ∙ book_last F J deletes

  added_same : added shrunk ≡ added J
  added_same = ap added shrunk_is ∙ added-append J (deletes ∷ []) ∙ append-nil (added J)

  own_added : added (s.mine ++ deletes ∷ []) ≡ added s.mine
  own_added = added-append s.mine (deletes ∷ []) ∙ append-nil (added s.mine)

  others_alive : (c : Holding) → c.number ≢ w.number → (book F J).clause c.number ≡ Some c.lits → (book F shrunk).clause c.number ≡ Some c.lits
  others_alive c other is = ap (λ (b : Book). b.clause c.number) book_is ∙ put_else (book F J).clause w.number None c.number other ∙ is

  -- no unit has its number
  units_alive : s.hinted ≡ true → All (λ u. (book F shrunk).clause u.1 ≡ Some (u.0 ∷ [])) s.told
  units_alive q k d lt =
      let u : Literal × ℕ = get_or s.told k d in
      let is : (book F J).clause u.1 ≡ Some (u.0 ∷ []) = h.told q k d lt in
      ap (λ (b : Book). b.clause u.1) book_is ∙ put_else (book F J).clause w.number None u.1 (λ e. other u.0 (sym is ∙ ap (book F J).clause e ∙ alive)) ∙ is
    where
      other : (l : Literal) → Some (l ∷ []) ≡ Some w.lits → ⊥
      other l e = let n : 1 ≡ length w.lits = ap (λ o. length (unwrap_or o [])) e in let two = long.long in absurd (omega arith)

  -- no other clause has its number
  module _ (apart : All (λ c. c ≢ w) s.held) (once : All (λ c. c ≢ w) rest) where
    w_waits : Keeps s w
    w_waits = inr (subst (λ hs. Contains hs w) (sym first) (In_Contains (w ∷ rest) w (inl refl)))

    other_held : All (λ c. (book F shrunk).clause c.number ≡ Some c.lits) s.held
    other_held k d lt = others_alive (get_or s.held k d) (λ e. apart k d lt (h.numbers (get_or s.held k d) w (inl (In_Contains s.held (get_or s.held k d) (In_get_or s.held k d lt))) w_waits e)) (h.held k d lt)

    other_waiting : All (λ c. (book F shrunk).clause c.number ≡ Some c.lits) rest
    other_waiting k d lt = others_alive (get_or rest k d) (λ e. once k d lt (h.numbers (get_or rest k d) w (inr (subst (λ hs. Contains hs (get_or rest k d)) (sym first) (In_Contains (w ∷ rest) (get_or rest k d) (inr (In_get_or rest k d lt))))) w_waits e)) (waits (suc k) d (omega arith))

    module _ (a b : LineState) (out : s.output ≡ Some a) (unspent : a.spent ≡ false) (did : PutLine a b (deleted_line a w.number w.lits)) where
      abbrev put_output : LineState
      put_output = with_line a (deleted_line a w.number w.lits)

      abbrev after_deletion : PortState
      after_deletion = record s { waiting = rest; mine = s.mine ++ deletes ∷ []; output = Some b }

      has_lines : HasLines o after_deletion put_output
      has_lines =
          let was = output_of o s a h out in
          let more : lines F shrunk ≡ lines F J ++ DelLine w.lits ∷ [] = ap (lines F) shrunk_is ∙ lines_more in
          record {
            entries = (let e = was.entries in let n = ap (λ L. length L) more in let m = length-append (lines F J) (DelLine w.lits ∷ []) in omega arith);
            last = ap (λ (k : Book). k.next) book_is ∙ was.last;
            hinted = was.hinted;
            usable = was.usable;
            caused = caused_later s after_deletion a put_output s.refused going did.room refl was.caused;
            whole = λ q. has_text_next o s.mine a put_output (deleted_line a w.number w.lits) (was.whole q) deletes (numbered_is a.last (let l = was.last in omega arith)) (record { room = did.room; state = refl });
            short = λ q. absurd (false≢true (sym unspent ∙ q));
            target = was.target;
            flushed = was.flushed;
          }

      pub stands_deleted : StandsOver o after_deletion
      stands_deleted = record {
        opens = h.opens;
        given = h.given;
        sound = subst (LogSound F) (sym shrunk_is) sound_without;
        of_ring = All-append (λ e. ring_of e ≡ s.ring) s.mine (deletes ∷ []) h.of_ring (one_All (λ e. ring_of e ≡ s.ring) deletes refl);
        on = subst (λ G. All (All (IsOn s.vars)) G) (sym own_added) h.on;
        ended = h.ended ∙ ap (λ G. list_any is_empty (F ++ G)) (sym added_same);
        held = other_held;
        waiting = other_waiting;
        numbers = λ x y kx ky same. h.numbers x y (keeps x kx) (keeps y ky) same;
        seen = subst (λ (G : List (List Literal)). All (λ l. list_any (same_set (l ∷ [])) (F ++ G) ≡ true) s.seen) (sym added_same) h.seen;
        told = units_alive;
        hints = λ q. each_last (IsHinted F) o.journal s.mine deletes (h.hints q) tt;
        output = subst (λ v. HasLines o after_deletion v) (sym did.state) has_lines;
      }
        where
          keeps : (x : Holding) → Keeps after_deletion x → Keeps s x
          keeps x (inl m) = inl m
          keeps x (inr m) = inr (subst (λ hs. Contains hs x) (sym first) (In_Contains (w ∷ rest) x (inr (Contains_In rest x m))))

-- A clause that is dropped, and waits
module _ (o : Origin) (s : PortState) (h : StandsOver o s) (H W : List Holding) where
  abbrev after_drop : PortState
  after_drop = record s { held = H; waiting = W }

  has_lines_still : (a : LineState) → HasLines o s a → HasLines o after_drop a
  has_lines_still a was = record {
    entries = was.entries;
    last = was.last;
    hinted = was.hinted;
    usable = was.usable;
    caused = caused_same s after_drop a s.refused refl was.caused;
    whole = was.whole;
    short = was.short;
    target = was.target;
    flushed = was.flushed;
  }

  pub stands_dropped : ((x : Holding) → Keeps after_drop x → Keeps s x) → All (λ c. (book o.formula (journal_of o s)).clause c.number ≡ Some c.lits) H
      → All (λ c. (book o.formula (journal_of o s)).clause c.number ≡ Some c.lits) W → StandsOver o after_drop
  stands_dropped keeps held waiting = record {
    opens = h.opens;
    given = h.given;
    sound = h.sound;
    of_ring = h.of_ring;
    on = h.on;
    ended = h.ended;
    held = held;
    waiting = waiting;
    numbers = λ x y kx ky same. h.numbers x y (keeps x kx) (keeps y ky) same;
    seen = h.seen;
    told = h.told;
    hints = h.hints;
    output = some_still s.output h.output;
  }
    where
      some_still : (q : Option LineState) → IsSomeAnd q (HasLines o s) → IsSomeAnd q (HasLines o after_drop)
      some_still None has = has
      some_still (Some a) has = has_lines_still a has
