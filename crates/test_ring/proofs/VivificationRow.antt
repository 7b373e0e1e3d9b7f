-- The row of the tests of vivification.
use Rattle.std.proofs.Common.{◌≡◌, ◌∙◌, ◌==◌, ℕ, ◌<◌, ◌≤◌, get_or, Bool, true, false, List, [], ◌∷◌, ◌++◌, map, length, Some, All, IsSome, Contains, sym, refl, ap, subst, inl, arith, nat_eq}
use Rattle.std.specs.List.{IsDistinct, list_any}
use Rattle.std.proofs.lemmas.Bool.{or_right}
use Rattle.std.proofs.lemmas.List.Elements.{All-nil, All-from_recursion}
use Rattle.sat_words.specs.Literal.{Literal, opposite}
use Rattle.sat_words.specs.Clause.{includes, has_opposites}
use Rattle.sat_words.specs.Formats.{has_hints}
use Rattle.rup_model.specs.Hints.{numbered, HintsFit}
use Rattle.rup_model.specs.Rup.{rup}
use Rattle.rup_model.specs.declared.journal.Entry.{Entry}
use Rattle.rup_model.specs.Journal.{book, is_told}
use Rattle.rup_model.specs.Opening.{is_rulers, IsStart, Start}
use Rattle.rup_model.proofs.Derivation.{conflicts_from_derivation}
use Rattle.drat_text.specs.LineState.{LineState}
use Rattle.ring_port.specs.PortState.{PortState, IsOn, held_at, lits_at, known, known_at}
use Rattle.ring_port.specs.Port.{AreHints, AddedClause, IsClause, IsPartOfHeld}
use Rattle.sat_words.specs.declared.shared.Cref.{Cref}
use Rattle.rup_model.specs.declared.journal.Kind.TheVariants.{Derive}
use Rattle.ring_trail.specs.declared.step.TrailStep.{TrailStep}
use Rattle.ring_trail.specs.TrailData.{TrailData}
use Rattle.vivify.specs.declared.shorten.Vivified.{Vivified}
use Rattle.vivify.specs.declared.shorten.Vivified.TheVariants.{Kept, Shorter, Unit, Empty}
use Rattle.vivify.specs.Outcome.{IsVivified}
use Rattle.vivify.specs.Walking.{IsNoReason}
use Rattle.watch_prop.specs.WatchData.{WatchData, attached}
use Rattle.watch_prop.specs.Watched.{IsFresh}
use Rattle.rup_model.proofs.Lists.{In_append_right, In_Contains, In_get_or}
use Rattle.ring_port.specs.Deleting.{IsNotTaken}
use Rattle.ring_port.specs.PlainPort.{starts_of, begun_with, CanOpen}
use Rattle.ring_port.proofs.Holdings.{held_is_known, lits_of_holding}
use Rattle.test_ring.specs.VivificationRow.{lit, first, second, row_starts, start_at, IsRow, VivifiedCopy}

on : (v : ℕ) (b : Bool) → 1 ≤ v → v ≤ 3 → IsOn 3 (lit v b)
on v b low high = record { low = low; high = high }

pub first_on : All (IsOn 3) first
first_on = All-from_recursion (IsOn 3) first (on 1 false (omega arith) (omega arith), (on 3 true (omega arith) (omega arith), tt))

pub second_on : All (IsOn 3) second
second_on = All-from_recursion (IsOn 3) second (on 1 false (omega arith) (omega arith), (on 2 false (omega arith) (omega arith), (on 3 false (omega arith) (omega arith), tt)))

pub starts_on : All (λ (s : ℕ × List Literal). All (IsOn 3) s.1) row_starts
starts_on = All-from_recursion (λ (s : ℕ × List Literal). All (IsOn 3) s.1) row_starts (first_on, (second_on, tt))

abbrev clauses : List (List Literal)
clauses = first ∷ second ∷ []

numbers : IsDistinct nat_eq (1 ∷ 2 ∷ [])
unfolding IsDistinct
numbers = ((refl, tt), (tt, tt))

opens : (out : LineState) → out.entries ≡ 0 → out.last ≡ 2 → CanOpen (starts_of row_starts) [] out
opens out entries last = record {
  clauses = clauses;
  journal = [];
  over = record {
    opens = record {
      rulers_part = record { rulers = All-nil (λ (e : Entry). is_rulers e ≡ true); going = refl; fits = tt; accepted = tt };
      starts = All-from_recursion (IsStart (book clauses [])) (starts_of row_starts) (
        record { alive = refl; shape = record { long = omega arith; distinct = refl; no_opposites = refl } },
        (record { alive = refl; shape = record { long = omega arith; distinct = refl; no_opposites = refl } }, tt),
      );
      numbers = numbers;
      told = All-nil (λ (l : Literal). is_told clauses [] l ≡ true);
      distinct = refl;
    };
    lines = record { entries = entries; last = (let n = last in omega arith) };
    paired = λ hinted. All-nil (λ (u : Literal × ℕ). (book clauses []).clause u.1 ≡ Some (u.0 ∷ []));
  };
}

begun_row : (out : LineState) → has_hints out.format ≡ false → IsRow (begun_with 3 row_starts [] out 0)
unfolding held_at
begun_row out plain = record { vars = refl; first = refl; second = refl; usable = refl; taken = refl; plain = plain }

pub begins : (s : PortState) (ss : List (ℕ × List Literal)) (us : List (Literal × ℕ)) (out : LineState) → ss ≡ row_starts → us ≡ [] → s ≡ begun_with 3 ss us out 0 → has_hints out.format ≡ false → IsRow s
begins s ss us out e f g plain = subst IsRow (sym (g ∙ ap (λ (xs : List (ℕ × List Literal)). begun_with 3 xs us out 0) e ∙ ap (λ (vs : List (Literal × ℕ)). begun_with 3 row_starts vs out 0) f)) (begun_row out plain)

pub first_is : (s : PortState) → IsRow s → lits_at s 0 ≡ first
first_is s k = lits_of_holding s 0 (start_at 0 1 first) k.first

pub second_is : (s : PortState) → IsRow s → lits_at s 4 ≡ second
second_is s k = lits_of_holding s 4 (start_at 4 2 second) k.second

pub first_held : (s : PortState) → IsRow s → IsSome (held_at s 0)
first_held s k = rw k.first refl

pub second_held : (s : PortState) → IsRow s → IsSome (held_at s 4)
second_held s k = rw k.second refl

pub second_clause : (n : ℕ) (c : List Literal) → n ≡ 3 → c ≡ second → IsClause n c
second_clause n c e f = subst (λ (m : ℕ). IsClause m c) (sym e) (subst (IsClause 3) (sym f) record { on = second_on; distinct = refl; no_opposites = refl })

-- a clause that is held follows
pub copy_follows : (s : PortState) (c : List Literal) → c ≡ second → IsRow s → rup (known s) c ≡ true
unfolding rup
copy_follows s c e k =
    subst (λ (d : List Literal). rup (known s) d ≡ true) (sym e)
    (or_right (has_opposites second) _ (conflicts_from_derivation (known s) (map opposite second) [] second tt (subst (λ (d : List Literal). Contains (known s) d) (second_is s k) (held_is_known s 4 (second_held s k))) refl))

-- no hints are given
pub copy_hints : (s : PortState) (c : List Literal) → IsRow s → AreHints s c []
copy_hints s c row = subst (λ (b : Bool). HintsFit b (numbered (known_at s)) c []) (sym row.plain) refl

pub lits_are : (a b c : Literal) → a ≡ lit 1 false → b ≡ lit 2 false → c ≡ lit 3 false → a ∷ b ∷ c ∷ [] ≡ second
lits_are a b c e f g = ap (λ (x : Literal). x ∷ b ∷ c ∷ []) e ∙ ap (λ (x : Literal). lit 1 false ∷ x ∷ c ∷ []) f ∙ ap (λ (x : Literal). lit 1 false ∷ lit 2 false ∷ x ∷ []) g

pub copy_is_part : (s : PortState) (c : List Literal) → c ≡ second → IsRow s → IsPartOfHeld s c
copy_is_part s c e k = record {
  address = 4;
  held = second_held s k;
  part = subst (λ (d : List Literal). includes d c ≡ true) (sym (second_is s k)) (subst (λ (d : List Literal). includes second d ≡ true) (sym e) refl);
}

pub fresh_trail : (t : TrailData) → t ≡ record { vars = 3; level = 0; steps = []; done = 0 } → IsFresh t
fresh_trail t e = subst IsFresh (sym e) (λ p le lt. absurd (omega arith))

-- no literal has a reason if none is true
pub no_reason : (s : PortState) (steps : List TrailStep) (a : ℕ) → steps ≡ [] → IsNoReason s steps a
no_reason s steps a bare p x lt is at = absurd (let none = ap (λ (ts : List TrailStep). length ts) bare in omega arith)

-- nothing was taken
pub none_taken : (s u : PortState) (a : ℕ) → u ≡ s → s.taken ≡ [] → IsNotTaken u a
none_taken s u a same none = ap (λ (xs : List ℕ). list_any (λ b. b == a) xs) (ap (λ (x : PortState). x.taken) same ∙ none)

-- one of the clauses that are held
pub one_held : (s u : PortState) (cs : List Cref) (k : ℕ) (d : Cref) → u ≡ s → All (λ (c : Cref). IsSome (held_at s c.address)) cs → k < length cs → IsSome (held_at u (get_or cs k d).address)
one_held s u cs k d same held lt = subst (λ (x : PortState). IsSome (held_at x (get_or cs k d).address)) (sym same) (held k d lt)

pub one_among : (es cs : List Cref) (k : ℕ) (d : Cref) → es ≡ cs → k < length cs → Contains es (get_or cs k d)
one_among es cs k d same lt = subst (λ (xs : List Cref). Contains xs (get_or cs k d)) (sym same) (In_Contains cs (get_or cs k d) (In_get_or cs k d lt))

pub last_in : (cs : List Cref) (c : Cref) → Contains (cs ++ c ∷ []) c
last_in cs c = In_Contains (cs ++ c ∷ []) c (In_append_right cs (c ∷ []) c (inl refl))

pub opens_from : (ss : List Start) (us : List (Literal × ℕ)) (out : LineState) → ss ≡ starts_of row_starts → us ≡ [] → out.entries ≡ 0 → out.last ≡ 2 → CanOpen ss us out
opens_from ss us out e f entries last = subst (λ (ts : List Start). CanOpen ts us out) (sym e) (subst (λ (vs : List (Literal × ℕ)). CanOpen (starts_of row_starts) vs out) (sym f) (opens out entries last))

-- the copy is vivified
pub vivified_copy : (s m p q : PortState) (v w : WatchData) (steps : List TrailStep) (lits : List Literal) (copy : Cref) (left : Vivified) → lits ≡ second → AddedClause s m lits 2 Derive copy → p ≡ m
    → attached v ≡ record { address = 0 } ∷ copy ∷ [] → steps ≡ [] → IsVivified p q v w steps copy left → VivifiedCopy s q left
vivified_copy s m p q v w steps lits copy left e k same two bare is = record {
  middle = p;
  copy = copy;
  v = v;
  w = w;
  derived = subst (λ (z : PortState). AddedClause s z second 2 Derive copy) (sym same) (subst (λ (ls : List Literal). AddedClause s m ls 2 Derive copy) e k);
  attached_two = two;
  vivified = subst (λ (ts : List TrailStep). IsVivified p q v w ts copy left) bare is;
}

-- it refuses nothing that was not refused before
pub vivified_refused : (p q : PortState) (v w : WatchData) (steps : List TrailStep) (c : Cref) (left : Vivified) → IsVivified p q v w steps c left → q.refused ≡ p.refused
vivified_refused p q v w steps c Kept is = ap (λ (x : PortState). x.refused) is.state
vivified_refused p q v w steps c (Shorter d) is = ap (λ (x : PortState). x.refused) is.dropped.state ∙ ap (λ (x : PortState). x.refused) is.derived.state
vivified_refused p q v w steps c (Unit l) is = ap (λ (x : PortState). x.refused) is.dropped.state ∙ ap (λ (x : PortState). x.refused) is.wrote.state
vivified_refused p q v w steps c Empty is = absurd is
