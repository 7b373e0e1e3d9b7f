-- How a port in memory begins.
use Rattle.std.proofs.Common.{◌≡◌, ◌≢◌, inl, inr, ℕ, zero, suc, ◌+◌, ◌-◌, ◌^◌, ◌<◌, ◌≤◌, ◌||◌, Bool, true, false, not, List, [], ◌∷◌, ◌++◌, length, map, get_or, sym, refl, ap, subst, ◌∙◌, arith, Some, None, append_assoc, append-nil, cond, ◌==◌, eq-eqb, ne_eqb}
use Rattle.std.specs.List.{list_any, All, AllByRecursion, IsDistinct, find, range_with_len}
use Rattle.std.specs.Prelude.{nat_eq}
use Rattle.std.proofs.lemmas.Bool.{or_parts, false≢true, eqb-false}
use Rattle.std.proofs.lemmas.List.Folds.{list_any-append}
use Rattle.sat_words.specs.Literal.{Literal}
use Rattle.sat_words.specs.Clause.{is_empty}
use Rattle.clause_cell.specs.Packing.{words_for}
use Rattle.rup_model.specs.Basics.{EachAfter}
use Rattle.rup_model.specs.declared.journal.Entry.{Entry}
use Rattle.rup_model.specs.Journal.{book, lines, added, LogSound}
use Rattle.rup_model.specs.Opening.{Start, IsOpening, IsStart}
use Rattle.rup_model.proofs.Additions.{added-append}
use Rattle.drat_text.specs.LineState.{LineState}
use Rattle.ring_port.specs.declared.draw.Tickets.{Tickets}
use Rattle.drat_text.proofs.JournalLines.{has_text_begun}
use Rattle.ring_port.specs.PortState.{Holding, AreApart, IsKept, IsOn, HoldsStart, held_at}
use Rattle.rup_model.proofs.Lists.{In, Contains_In}
use Rattle.std.proofs.lemmas.Map.Keys.{IsDistinct-head, IsDistinct-tail}
use Rattle.ring_port.specs.Log.{Origin, Keeps, StandsOver, start_of}
use Rattle.ring_port.specs.OwnLog.{LogData}
use Rattle.ring_port.specs.PlainPort.{PlainData, state_of, IsPlain, OpensOver, HasNumbers, ArePaired, starts_of, pairs_of, placed_from, unit_lits, told_in, words_of, AreAllHeld, begun_with}
use Rattle.ring_port.proofs.Naming.{numbers_begun}
use Rattle.rup_model.specs.Log.{alive}
use Rattle.rup_model.proofs.Numbers.{clause_below, journal_matches}
use Rattle.sat_words.specs.Formats.{has_hints}
use Rattle.sat_words.specs.declared.line.ProofFormat.{ProofFormat}
use Rattle.ring_port.specs.Store.{StoreData}

-- Lists of start clauses

pub placed_from-push : (a : ℕ) (ss : List (ℕ × List Literal)) (s : ℕ × List Literal) → placed_from a (ss ++ s ∷ []) ≡ placed_from a ss ++ record { address = a + words_of ss; number = s.0; glue = 0; lits = s.1 } ∷ []
placed_from-push a [] s = ap (λ b. record { address = b; number = s.0; glue = 0; lits = s.1 } ∷ []) (omega arith)
placed_from-push a (t ∷ ss) s =
    ap (λ hs. record { address = a; number = t.0; glue = 0; lits = t.1 } ∷ hs)
    (placed_from-push (a + words_for (length t.1)) ss s ∙ ap (λ b. placed_from (a + words_for (length t.1)) ss ++ record { address = b; number = s.0; glue = 0; lits = s.1 } ∷ []) (omega arith))

pub words_of-push : (ss : List (ℕ × List Literal)) (s : ℕ × List Literal) → words_of (ss ++ s ∷ []) ≡ words_of ss + words_for (length s.1)
words_of-push [] s = omega arith
words_of-push (t ∷ ss) s = let e = words_of-push ss s in omega arith

later_from : (a b : ℕ) (ss : List (ℕ × List Literal)) → a < b → All (λ h. h.address ≢ a) (placed_from b ss)
later_from a b [] less k d lt = absurd (omega arith)
later_from a b (s ∷ ss) less zero d lt = λ e. absurd (omega arith)
later_from a b (s ∷ ss) less (suc k) d lt = later_from a (b + words_for (length s.1)) ss (omega arith) k d (omega arith)

apart_from : (a : ℕ) (ss : List (ℕ × List Literal)) → AreApart (placed_from a ss)
apart_from a [] = tt
apart_from a (s ∷ ss) = (later_from a (a + words_for (length s.1)) ss (omega arith), apart_from (a + words_for (length s.1)) ss)

-- start clauses with different numbers
never_here : (b : ℕ) (ts : List (ℕ × List Literal)) (n : ℕ) → AllByRecursion (λ y. nat_eq n y ≡ false) (map (λ t. t.number) (starts_of ts)) → (x : Holding) → In x (placed_from b ts) → x.number ≡ n → ⊥
never_here b [] n all x m e = m
never_here b (t ∷ ts) n all x (inl e) f = eqb-false n t.0 all.0 (sym f ∙ sym (ap (λ y. y.number) e))
never_here b (t ∷ ts) n all x (inr m) f = never_here (b + words_for (length t.1)) ts n all.1 x m f

numbers_from : (a : ℕ) (ss : List (ℕ × List Literal)) → IsDistinct nat_eq (map (λ s. s.number) (starts_of ss)) → (h k : Holding) → In h (placed_from a ss) → In k (placed_from a ss) → h.number ≡ k.number → h ≡ k
numbers_from a [] distinct h k mh mk same = absurd mh
numbers_from a (s ∷ ss) distinct h k (inl e) (inl f) same = sym e ∙ f
numbers_from a (s ∷ ss) distinct h k (inl e) (inr m) same = absurd (never_here (a + words_for (length s.1)) ss s.0 (IsDistinct-head nat_eq s.0 (map (λ t. t.number) (starts_of ss)) distinct) k m (sym same ∙ sym (ap (λ x. x.number) e)))
numbers_from a (s ∷ ss) distinct h k (inr m) (inl e) same = absurd (never_here (a + words_for (length s.1)) ss s.0 (IsDistinct-head nat_eq s.0 (map (λ t. t.number) (starts_of ss)) distinct) h m (same ∙ sym (ap (λ x. x.number) e)))
numbers_from a (s ∷ ss) distinct h k (inr m) (inr n) same = numbers_from (a + words_for (length s.1)) ss (IsDistinct-tail nat_eq s.0 (map (λ t. t.number) (starts_of ss)) distinct) h k m n same

starts_placed : (a : ℕ) (ss : List (ℕ × List Literal)) → map start_of (placed_from a ss) ≡ starts_of ss
starts_placed a [] = refl
starts_placed a (s ∷ ss) = ap (λ ts. record { number = s.0; lits = s.1 } ∷ ts) (starts_placed (a + words_for (length s.1)) ss)

-- the clauses that are held tell the pairs
pub pairs_placed : (a : ℕ) (ss : List (ℕ × List Literal)) → pairs_of (placed_from a ss) ≡ ss
pairs_placed a [] = refl
pairs_placed a (s ∷ ss) = ap (λ ts. s ∷ ts) (pairs_placed (a + words_for (length s.1)) ss)

-- a fact of each start clause, at its place
placed_All : (P : Start → Type 0) (Q : ℕ × List Literal → Type 0) (R : Holding → Type 0) (a : ℕ) (ss : List (ℕ × List Literal))
    → ((b : ℕ) (s : ℕ × List Literal) → P (record { number = s.0; lits = s.1 }) → Q s → R (record { address = b; number = s.0; glue = 0; lits = s.1 }))
    → All P (starts_of ss) → All Q ss → All R (placed_from a ss)
placed_All P Q R a [] f p q k d lt = absurd (omega arith)
placed_All P Q R a (s ∷ ss) f p q zero d lt = f a s (p 0 (record { number = s.0; lits = s.1 }) (omega arith)) (q 0 s (omega arith))
placed_All P Q R a (s ∷ ss) f p q (suc k) d lt =
    placed_All P Q R (a + words_for (length s.1)) ss f (λ i x less. p (suc i) x (omega arith)) (λ i x less. q (suc i) x (omega arith)) k d (omega arith)

-- Journals

empty_last_from : (before rest : List Entry) → list_any is_empty (added (before ++ rest)) ≡ false → EachAfter (λ b e. list_any is_empty (added b) ≡ false) before rest
empty_last_from before [] none = tt
empty_last_from before (e ∷ rest) none = (
  (or_parts (list_any is_empty (added before)) (list_any is_empty (added (e ∷ rest))) (sym (ap (list_any is_empty) (added-append before (e ∷ rest)) ∙ list_any-append is_empty (added before) (added (e ∷ rest))) ∙ none)).0,
  empty_last_from (before ++ e ∷ []) rest (ap (λ J. list_any is_empty (added J)) (append_assoc before (e ∷ []) rest) ∙ none),
)

-- what a port has when it is made
abbrev pub begun_data : ℕ → List (ℕ × List Literal) → List (Literal × ℕ) → ProofFormat → ℕ → LogData → ℕ → PlainData
begun_data vars ss units format room g limit = record { vars = vars; start = placed_from 0 ss; held = placed_from 0 ss; waiting = []; opening = unit_lits units; passed = 0; given = []; given_room = room; written = []; hinted = has_hints format; told = told_in (has_hints format) units; log = g; last = None; tickets = record { in_hand = false; found = 0; limit = limit }; stop = None; looks = 0; caught_up = 0 }

module _ (F : List (List Literal)) (vars : ℕ) (ss : List (ℕ × List Literal)) (units : List (Literal × ℕ)) (out : LineState) (limit : ℕ) where
  kept_start : (J : List Entry) → OpensOver F (starts_of ss) units out J → All (λ s. All (IsOn vars) s.1) ss → All (IsKept vars) (placed_from 0 ss)
  kept_start J h on = placed_All (IsStart (book F J)) (λ s. All (IsOn vars) s.1) (IsKept vars) 0 ss (λ b s is ons. record { shape = is.shape; on = ons }) h.opens.starts on

  -- a clause that the log has is under a number that was given
  given_number : (J : List Entry) → OpensOver F (starts_of ss) units out J → (n : ℕ) (c : List Literal) → (book F J).clause n ≡ Some c → n ≤ out.last
  given_number J h n c is =
      let below = clause_below (book F J) (alive F (lines F J)) n c (journal_matches F J h.opens.rulers_part.fits) is in
      let next = h.lines.last in
      omega arith

  alive_start : (J : List Entry) → OpensOver F (starts_of ss) units out J → All (λ c. (book F J).clause c.number ≡ Some c.lits) (placed_from 0 ss)
  alive_start J h = placed_All (IsStart (book F J)) (λ t. t ≡ t) (λ c. (book F J).clause c.number ≡ Some c.lits) 0 ss (λ b t is same. is.alive) h.opens.starts (λ k d lt. refl)

  -- in a log with hints the units are alive under their numbers
  paired_told : (J : List Entry) → OpensOver F (starts_of ss) units out J → has_hints out.format ≡ true → ArePaired (book F J) (told_in (has_hints out.format) units)
  paired_told J h q = subst (λ (b : Bool). ArePaired (book F J) (told_in b units)) (sym q) (h.paired q)

  begun_numbers : (J : List Entry) → OpensOver F (starts_of ss) units out J → has_hints out.format ≡ true → HasNumbers out.last (placed_from 0 ss) (told_in (has_hints out.format) units) (unit_lits units) []
  begun_numbers J h q = subst (λ (b : Bool). HasNumbers out.last (placed_from 0 ss) (told_in b units) (unit_lits units) []) (sym q)
      (numbers_begun (book F J) out.last (placed_from 0 ss) units (given_number J h) (alive_start J h) (h.paired q))

  pub begun_plain : (room : ℕ) (g : LogData) (J : List Entry) → g.output ≡ out → OpensOver F (starts_of ss) units out J → All (λ s. All (IsOn vars) s.1) ss → All (IsOn vars) (unit_lits units)
      → length (unit_lits units) ≤ room → limit < 2 ^ 64 → IsPlain (begun_data vars ss units out.format room g limit)
  begun_plain room g J output h on units_on enough fits = record {
    held = kept_start J h on;
    waiting = λ k d lt. absurd (omega arith);
    start = kept_start J h on;
    apart = apart_from 0 ss;
    dropped = λ k d lt. absurd (omega arith);
    once = tt;
    opening = units_on;
    distinct = h.opens.distinct;
    passed = omega arith;
    given = λ k d lt. absurd (omega arith);
    given_room = omega arith;
    written = λ k d lt. absurd (omega arith);
    stop = tt;
    few = fits;
    numbers = λ q. subst (λ (n : ℕ). HasNumbers n (placed_from 0 ss) (told_in (has_hints out.format) units) (unit_lits units) []) (sym (ap (λ (a : LineState). a.last) output)) (begun_numbers J h q);
  }

  pub begun_state : (room : ℕ) (g : LogData) → g.output ≡ out → g.mine ≡ [] → g.ended ≡ false → g.refused ≡ None
      → state_of (begun_data vars ss units out.format room g limit) ≡ begun_with vars ss units out limit
  begun_state room g output mine going quiet =
      let all : length (unit_lits units) - 0 ≡ length (unit_lits units) = omega arith in
      λ i. record (begun_with vars ss units out limit) { coming = all i; output = Some (output i); mine = mine i; ended = going i; refused = quiet i }

  -- the state of a port that has this
  pub begun_is : (S H Q : List Holding) (O V W : List Literal) (b : Bool) (T : List (Literal × ℕ)) (room : ℕ) (g : LogData) (tickets : Tickets) → S ≡ placed_from 0 ss → H ≡ placed_from 0 ss → Q ≡ [] → O ≡ unit_lits units → V ≡ [] → W ≡ [] → b ≡ has_hints out.format → T ≡ told_in (has_hints out.format) units → tickets ≡ record { in_hand = false; found = 0; limit = limit }
      → g.output ≡ out → g.mine ≡ [] → g.ended ≡ false → g.refused ≡ None
      → state_of (record { vars = vars; start = S; held = H; waiting = Q; opening = O; passed = 0; given = V; given_room = room; written = W; hinted = b; told = T; log = g; last = None; tickets = tickets; stop = None; looks = 0; caught_up = 0 }) ≡ begun_with vars ss units out limit
  begun_is S H Q O V W b T room g tickets start held none opening given written hinted told undrawn output mine going quiet =
      (λ i. state_of (record { vars = vars; start = start i; held = held i; waiting = none i; opening = opening i; passed = 0; given = given i; given_room = room; written = written i; hinted = hinted i; told = told i; log = g; last = None; tickets = undrawn i; stop = None; looks = 0; caught_up = 0 }))
      ∙ begun_state room g output mine going quiet

  pub begun_stands : (J : List Entry) → OpensOver F (starts_of ss) units out J → list_any is_empty F ≡ false → out.spent ≡ false
      → StandsOver (record { formula = F; journal = J; output = out }) (begun_with vars ss units out limit)
  begun_stands J h none unspent =
      let o : Origin = record { formula = F; journal = J; output = out } in
      let s = begun_with vars ss units out limit in
      let alone : J ++ [] ≡ J = append-nil J in
      let log : LogSound F J = record { fits = h.opens.rulers_part.fits; accepted = h.opens.rulers_part.accepted; empty_last = empty_last_from [] J h.opens.rulers_part.going } in
      record {
        opens = subst (λ ts. IsOpening F (record { journal = J; starts = ts; units = unit_lits units })) (sym (starts_placed 0 ss)) h.opens;
        given = none;
        sound = subst (LogSound F) (sym alone) log;
        of_ring = λ k d lt. absurd (omega arith);
        on = λ k d lt. absurd (omega arith);
        ended = sym (ap (λ K. list_any is_empty (F ++ added K)) alone ∙ list_any-append is_empty F (added J) ∙ ap (λ b. b || list_any is_empty (added J)) none ∙ h.opens.rulers_part.going);
        held = subst (λ K. All (λ c. (book F K).clause c.number ≡ Some c.lits) (placed_from 0 ss)) (sym alone) (alive_start J h);
        waiting = λ k d lt. absurd (omega arith);
        numbers = λ x y kx ky same. numbers_from 0 ss h.opens.numbers x y (among x kx) (among y ky) same;
        seen = λ k d lt. absurd (omega arith);
        told = λ q. subst (λ K. ArePaired (book F K) (told_in (has_hints out.format) units)) (sym alone) (paired_told J h q);
        hints = λ q. tt;
        output = record {
          entries = h.lines.entries ∙ ap (λ K. length (lines F K)) (sym alone);
          last = ap (λ K. (book F K).next) alone ∙ h.lines.last;
          hinted = refl;
          usable = sym (ap not unspent);
          caused = tt;
          whole = λ q. has_text_begun o;
          short = λ q. absurd (false≢true (sym unspent ∙ q));
          target = refl;
          flushed = refl;
        };
      }
    where
      among : (x : Holding) → Keeps (begun_with vars ss units out limit) x → In x (placed_from 0 ss)
      among x (inl m) = Contains_In (placed_from 0 ss) x m
      among x (inr m) = absurd (let lt = m.1 in omega arith)

-- each clause is found at its address, if no two have one
found_apart : (hs : List Holding) → AreApart hs → (k : ℕ) (d : Holding) → k < length hs → find (λ h. h.address == (get_or hs k d).address) hs ≡ Some (get_or hs k d)
found_apart [] apart k d lt = absurd (omega arith)
found_apart (h ∷ hs) apart zero d lt = ap (λ b. cond b (Some h) (find (λ x. x.address == h.address) hs)) (eq-eqb h.address h.address refl)
found_apart (h ∷ hs) apart (suc k) d lt =
    ap (λ b. cond b (Some h) (find (λ x. x.address == (get_or hs k d).address) hs)) (ne_eqb h.address (get_or hs k d).address (λ e. apart.0 k d (omega arith) (sym e)))
    ∙ found_apart hs apart.1 k d (omega arith)

-- each start clause is held at its address
pub begun_holds : (vars : ℕ) (ss : List (ℕ × List Literal)) (units : List (Literal × ℕ)) (out : LineState) (limit : ℕ) → HoldsStart (begun_with vars ss units out limit)
unfolding held_at
begun_holds vars ss units out limit k d lt = found_apart (placed_from 0 ss) (apart_from 0 ss) k d lt

-- one start clause more
pub kept_one : (ss : List (ℕ × List Literal)) (s : ℕ × List Literal) (hs new : List Holding) (end : ℕ) → hs ≡ placed_from 0 ss → end ≡ words_of ss
    → new ≡ hs ++ record { address = end; number = s.0; glue = 0; lits = s.1 } ∷ [] → new ≡ placed_from 0 (ss ++ s ∷ [])
kept_one ss s hs new end held last is =
    let place : end ≡ 0 + words_of ss = omega arith in
    is ∙ (λ i. held i ++ record { address = place i; number = s.0; glue = 0; lits = s.1 } ∷ []) ∙ sym (placed_from-push 0 ss s)

-- a store that has the same clauses and words
pub all_held_same : (old new : StoreData) → AreAllHeld old → new.start ≡ old.start → new.held ≡ old.held → new.waiting ≡ old.waiting → new.end ≡ old.end → AreAllHeld new
all_held_same old new h start held waiting end = record {
  placed = start ∙ h.placed ∙ ap (λ hs. placed_from 0 (pairs_of hs)) (sym start);
  held = held ∙ h.held ∙ sym start;
  none_waits = waiting ∙ h.none_waits;
  end = end ∙ h.end ∙ ap (λ hs. words_of (pairs_of hs)) (sym start);
}

-- a store that has one more after all others
pub start_more : (old new : StoreData) → AreAllHeld old → (s : ℕ × List Literal) → new.start ≡ old.start ++ record { address = old.end; number = s.0; glue = 0; lits = s.1 } ∷ [] → new.start ≡ placed_from 0 (pairs_of old.start ++ s ∷ [])
start_more old new h s start = kept_one (pairs_of old.start) s old.start new.start old.end h.placed h.end start

pub pairs_more : (old new : StoreData) → AreAllHeld old → (s : ℕ × List Literal) → new.start ≡ old.start ++ record { address = old.end; number = s.0; glue = 0; lits = s.1 } ∷ [] → pairs_of new.start ≡ pairs_of old.start ++ s ∷ []
pairs_more old new h s start = ap pairs_of (start_more old new h s start) ∙ pairs_placed 0 (pairs_of old.start ++ s ∷ [])

pub all_held_more : (old new : StoreData) → AreAllHeld old → (s : ℕ × List Literal) → new.start ≡ old.start ++ record { address = old.end; number = s.0; glue = 0; lits = s.1 } ∷ []
    → new.held ≡ old.held ++ record { address = old.end; number = s.0; glue = 0; lits = s.1 } ∷ [] → new.waiting ≡ old.waiting → new.end ≡ old.end + words_for (length s.1) → AreAllHeld new
all_held_more old new h s start held waiting end =
    let pairs = pairs_more old new h s start in
    record {
      placed = start_more old new h s start ∙ ap (placed_from 0) (sym pairs);
      held = held ∙ ap (λ hs. hs ++ record { address = old.end; number = s.0; glue = 0; lits = s.1 } ∷ []) h.held ∙ sym start;
      none_waits = waiting ∙ h.none_waits;
      end = end ∙ ap (λ n. n + words_for (length s.1)) h.end ∙ sym (words_of-push (pairs_of old.start) s) ∙ ap words_of (sym pairs);
    }

-- one number more
range_next : (a n : ℕ) → range_with_len a n ++ (a + n) ∷ [] ≡ range_with_len a (suc n)
range_next a zero = ap (λ (m : ℕ). m ∷ []) (omega arith)
range_next a (suc n) = ap (λ (ns : List ℕ). a ∷ ns) (ap (λ (m : ℕ). range_with_len (a + 1) n ++ m ∷ []) (let e : a + suc n ≡ (a + 1) + n = omega arith in e) ∙ range_next (a + 1) n)

pub range_more : (n : ℕ) → range_with_len 0 n ++ n ∷ [] ≡ range_with_len 0 (n + 1)
range_more n =
    let here : n ≡ 0 + n = omega arith in
    let next : suc n ≡ n + 1 = omega arith in
    ap (λ (m : ℕ). range_with_len 0 n ++ m ∷ []) here ∙ range_next 0 n ∙ ap (range_with_len 0) next
