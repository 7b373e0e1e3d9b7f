-- The row of the tests of reduction.
use Rattle.std.proofs.Common.{◌≡◌, ◌≢◌, ◌∙◌, ◌==◌, ℕ, suc, ◌≤◌, Bool, true, false, List, [], ◌∷◌, ◌++◌, map, Some, None, All, IsSome, Contains, sym, refl, ap, subst, arith, nat_eq}
use Rattle.std.specs.Prelude.{is_some}
use Rattle.std.specs.declared.option.Option.{Option}
use Rattle.std.specs.List.{IsDistinct, list_any}
use Rattle.std.specs.Option.{option_map_or}
use Rattle.std.proofs.lemmas.List.{map-append}
use Rattle.std.proofs.lemmas.Bool.{or_right, false≢true}
use Rattle.std.proofs.lemmas.List.Elements.{All-nil, All-from_recursion}
use Rattle.sat_words.specs.Literal.{Literal, opposite}
use Rattle.sat_words.specs.Clause.{has_opposites}
use Rattle.sat_words.specs.Formats.{has_hints}
use Rattle.rup_model.specs.Hints.{numbered, HintsFit}
use Rattle.rup_model.specs.Rup.{rup}
use Rattle.rup_model.specs.declared.journal.Entry.{Entry}
use Rattle.rup_model.specs.Journal.{book, is_told}
use Rattle.rup_model.specs.Opening.{is_rulers, IsStart, Start}
use Rattle.rup_model.proofs.Derivation.{conflicts_from_derivation}
use Rattle.drat_text.specs.LineState.{LineState}
use Rattle.sat_words.specs.declared.shared.Cref.{Cref}
use Rattle.rup_model.specs.declared.journal.Kind.{Kind}
use Rattle.rup_model.specs.declared.journal.Kind.TheVariants.{Derive}
use Rattle.test_ring.specs.Glues.{glue_at}
use Rattle.ring_port.specs.PortState.{PortState, Holding, IsPort, IsOn, held_at, lits_at, lits_in, known, known_at}
use Rattle.ring_port.specs.Port.{AreHints, IsClause, AddedClause, KeepsHeld, is_usable}
use Rattle.ring_port.specs.Deleting.{DroppedOnce, TidiedUpTo, IsNotTaken}
use Rattle.ring_port.proofs.PlainLemmas.{same_lookup, dropped_others}
use Rattle.ring_trail.specs.declared.step.TrailStep.{TrailStep}
use Rattle.ring_trail.specs.TrailData.{TrailData}
use Rattle.watch_prop.specs.WatchData.{WatchData, attached}
use Rattle.watch_prop.specs.Watched.{Watched, IsFresh}
use Rattle.watch_prop.proofs.Growing.{watch_of}
use Rattle.watch_prop.proofs.Entries.{attachable_held}
use Rattle.watch_prop.proofs.TrailLaws.{Watched-port}
use Rattle.ring_port.specs.PlainPort.{starts_of, begun_with, CanOpen}
use Rattle.ring_port.proofs.Holdings.{held_is_known, lits_of_holding}
use Rattle.test_ring.specs.ReductionRow.{lit, source, row_starts, source_held, IsRow, HasLemmas, AddedLemma, OneMore, OneLess}
use Rattle.reduce_db.specs.Lemmas.{AreLemmas}
use Rattle.reduce_db.specs.Reduction.{WasReduced}
use Rattle.reduce_db.proofs.Changes.{no_lemmas, lemma_joins}

on : (v : ℕ) (b : Bool) → 1 ≤ v → v ≤ 3 → IsOn 3 (lit v b)
on v b low high = record { low = low; high = high }

pub source_on : All (IsOn 3) source
source_on = All-from_recursion (IsOn 3) source (on 1 false (omega arith) (omega arith), (on 2 false (omega arith) (omega arith), (on 3 false (omega arith) (omega arith), tt)))

pub starts_on : All (λ (s : ℕ × List Literal). All (IsOn 3) s.1) row_starts
starts_on = All-from_recursion (λ (s : ℕ × List Literal). All (IsOn 3) s.1) row_starts (source_on, tt)

abbrev clauses : List (List Literal)
clauses = source ∷ []

numbers : IsDistinct nat_eq (1 ∷ [])
unfolding IsDistinct
numbers = (tt, tt)

opens : (out : LineState) → out.entries ≡ 0 → out.last ≡ 1 → CanOpen (starts_of row_starts) [] out
opens out entries last = record {
  clauses = clauses;
  journal = [];
  over = record {
    opens = record {
      rulers_part = record { rulers = All-nil (λ (e : Entry). is_rulers e ≡ true); going = refl; fits = tt; accepted = tt };
      starts = All-from_recursion (IsStart (book clauses [])) (starts_of row_starts) (record { alive = refl; shape = record { long = omega arith; distinct = refl; no_opposites = refl } }, tt);
      numbers = numbers;
      told = All-nil (λ (l : Literal). is_told clauses [] l ≡ true);
      distinct = refl;
    };
    lines = record { entries = entries; last = (let n = last in omega arith) };
    paired = λ hinted. All-nil (λ (u : Literal × ℕ). (book clauses []).clause u.1 ≡ Some (u.0 ∷ []));
  };
}

begun_row : (out : LineState) → has_hints out.format ≡ false → IsPort (begun_with 3 row_starts [] out 0) → IsRow (begun_with 3 row_starts [] out 0)
unfolding held_at
begun_row out plain port = record { vars = refl; source = refl; usable = refl; taken = refl; plain = plain; port = port }

pub begins : (s : PortState) (ss : List (ℕ × List Literal)) (us : List (Literal × ℕ)) (out : LineState) → ss ≡ row_starts → us ≡ [] → s ≡ begun_with 3 ss us out 0 → has_hints out.format ≡ false → IsPort s → IsRow s
begins s ss us out e f g plain port =
    let is = g ∙ ap (λ (xs : List (ℕ × List Literal)). begun_with 3 xs us out 0) e ∙ ap (λ (vs : List (Literal × ℕ)). begun_with 3 row_starts vs out 0) f in
    subst IsRow (sym is) (begun_row out plain (subst IsPort is port))

pub source_is : (s : PortState) → IsRow s → lits_at s 0 ≡ source
source_is s k = lits_of_holding s 0 source_held k.source

pub has_source : (s : PortState) → IsRow s → IsSome (held_at s 0)
has_source s k = rw k.source refl

pub source_clause : (n : ℕ) (c : List Literal) → n ≡ 3 → c ≡ source → IsClause n c
source_clause n c e f = subst (λ (m : ℕ). IsClause m c) (sym e) (subst (IsClause 3) (sym f) record { on = source_on; distinct = refl; no_opposites = refl })

-- a clause that is held follows
pub copy_follows : (s : PortState) (c : List Literal) → c ≡ source → IsRow s → rup (known s) c ≡ true
unfolding rup
copy_follows s c e k =
    subst (λ (d : List Literal). rup (known s) d ≡ true) (sym e)
    (or_right (has_opposites source) _ (conflicts_from_derivation (known s) (map opposite source) [] source tt (subst (λ (d : List Literal). Contains (known s) d) (source_is s k) (held_is_known s 0 (has_source s k))) refl))

-- no hints are given
pub copy_hints : (s : PortState) (c : List Literal) → IsRow s → AreHints s c []
copy_hints s c row = subst (λ (b : Bool). HintsFit b (numbered (known_at s)) c []) (sym row.plain) refl

pub lits_are : (a b c : Literal) → a ≡ lit 1 false → b ≡ lit 2 false → c ≡ lit 3 false → a ∷ b ∷ c ∷ [] ≡ source
lits_are a b c e f g = ap (λ (x : Literal). x ∷ b ∷ c ∷ []) e ∙ ap (λ (x : Literal). lit 1 false ∷ x ∷ c ∷ []) f ∙ ap (λ (x : Literal). lit 1 false ∷ lit 2 false ∷ x ∷ []) g

row_added : (s m : PortState) (lits : List Literal) (glue : ℕ) (kind : Kind) (d : Cref) → IsRow s → AddedClause s m lits glue kind d → KeepsHeld s m → IsPort m → IsRow m
row_added s m lits glue kind d row k keeps port = record {
  vars = ap (λ (x : PortState). x.vars) k.state ∙ row.vars;
  source = keeps 0 (has_source s row) ∙ row.source;
  usable = subst (λ (x : PortState). is_usable x.refused ≡ true) (sym k.state) row.usable;
  taken = ap (λ (x : PortState). x.taken) k.state ∙ row.taken;
  plain = ap (λ (x : PortState). x.hinted) k.state ∙ row.plain;
  port = port;
}

-- what is attached is held
pub attached_held : (s : PortState) (w : WatchData) (t : TrailData) (c : Cref) → Watched w (lits_at s) t → Contains (attached w) c → IsSome (held_at s c.address)
attached_held s w t c watched h =
    let m = watch_of w c h in
    subst (λ (x : Cref). IsSome (held_at s x.address)) m.3 (attachable_held w.vars s m.1.clause.address (watched.clauses m.0 m.1 m.2))

-- one lemma more
pub lemma_added : (s m q : PortState) (w x : WatchData) (t : TrailData) (lemmas more : List Cref) (lits : List Literal) (glue : ℕ) (kind : Kind) (d : Cref) → HasLemmas s w t lemmas → AddedClause s m lits glue kind d → KeepsHeld s m → IsPort m → q ≡ m
    → attached x ≡ attached w ++ d ∷ [] → x.vars ≡ w.vars → ((z : TrailData) → Watched w (lits_at m) z → Watched x (lits_at m) z) → more ≡ lemmas ++ d ∷ [] → HasLemmas q x t more
lemma_added s m q w x t lemmas more lits glue kind d h k keeps port same grown vars watched is =
    subst (λ (z : PortState). HasLemmas z x t more) (sym same) (subst (HasLemmas m x t) (sym is) record {
      row = row_added s m lits glue kind d h.row k keeps port;
      vars = vars ∙ h.vars;
      watched = watched t (Watched-port w (lits_at s) (lits_at m) t (λ c there. ap lits_in (keeps c.address (attached_held s w t c h.watched there))) h.watched);
      are = subst (λ (cs : List Cref). AreLemmas m cs (lemmas ++ d ∷ [])) (sym grown) (lemma_joins s m (attached w) lemmas lits glue kind d h.row.port k keeps h.are);
    })

pub added_lemma : (s m q : PortState) (w x : WatchData) (lemmas more : List Cref) (lits : List Literal) (glue : ℕ) (d : Cref) → lits ≡ source → AddedClause s m lits glue Derive d → q ≡ m
    → attached x ≡ attached w ++ d ∷ [] → more ≡ lemmas ++ d ∷ [] → AddedLemma s q w x lemmas more glue
added_lemma s m q w x lemmas more lits glue d e k same grown is = record {
  copy = d;
  derived = subst (λ (z : PortState). AddedClause s z source glue Derive d) (sym same) (subst (λ (ls : List Literal). AddedClause s m ls glue Derive d) e k);
  attached_now = grown;
  lemmas_are = is;
}

-- its glue stands behind those of the others
glues_kept : (s m : PortState) (cs : List Cref) → KeepsHeld s m → All (λ (c : Cref). IsSome (held_at s c.address)) cs → map (glue_at m) cs ≡ map (glue_at s) cs
glues_kept s m [] keeps held = refl
glues_kept s m (c ∷ cs) keeps held =
    let here : glue_at m c ≡ glue_at s c = ap (λ (o : Option Holding). option_map_or (λ (h : Holding). h.glue) o 0) (keeps c.address (held 0 c (omega arith))) in
    let rest = glues_kept s m cs keeps (λ k d lt. held (suc k) d (omega arith)) in
    (λ i. here i ∷ rest i)

pub glue_pushed : (s m : PortState) (w x : WatchData) (lemmas more : List Cref) (glue : ℕ) → AddedLemma s m w x lemmas more glue → KeepsHeld s m → All (λ (c : Cref). IsSome (held_at s c.address)) lemmas
    → map (glue_at m) more ≡ map (glue_at s) lemmas ++ glue ∷ []
glue_pushed s m w x lemmas more glue a keeps held =
    let there : glue_at m a.copy ≡ glue = ap (λ (o : Option Holding). option_map_or (λ (h : Holding). h.glue) o 0) a.derived.there in
    ap (map (glue_at m)) a.lemmas_are ∙ map-append (glue_at m) lemmas (a.copy ∷ []) ∙ ap (λ (ns : List ℕ). ns ++ glue_at m a.copy ∷ []) (glues_kept s m lemmas keeps held)
    ∙ ap (λ (n : ℕ). map (glue_at s) lemmas ++ n ∷ []) there

-- and none at first
pub no_lemma : (s : PortState) (w : WatchData) (t : TrailData) → IsRow s → w.vars ≡ 3 → attached w ≡ [] → Watched w (lits_at s) t → HasLemmas s w t []
no_lemma s w t row vars none watched = record { row = row; vars = vars; watched = watched; are = no_lemmas s (attached w) }

pub fresh_trail : (t : TrailData) → t ≡ record { vars = 3; level = 0; steps = []; done = 0 } → IsFresh t
fresh_trail t e = subst IsFresh (sym e) (λ p le lt. absurd (omega arith))

pub usable_left : (s r : PortState) (v w : WatchData) (steps : List TrailStep) (lemmas left : List Cref) → WasReduced s r v w steps lemmas left → is_usable s.refused ≡ true → is_usable r.refused ≡ true
usable_left s r v w steps lemmas left k e = subst (λ (x : PortState). is_usable x.refused ≡ true) (sym k.port.state) e

pub opens_from : (ss : List Start) (us : List (Literal × ℕ)) (out : LineState) → ss ≡ starts_of row_starts → us ≡ [] → out.entries ≡ 0 → out.last ≡ 1 → CanOpen ss us out
opens_from ss us out e f entries last = subst (λ (ts : List Start). CanOpen ts us out) (sym e) (subst (λ (vs : List (Literal × ℕ)). CanOpen (starts_of row_starts) vs out) (sym f) (opens out entries last))

-- a copy more, and one less

pub one_more : (s m : PortState) (lits : List Literal) (glue : ℕ) (kind : Kind) (d : Cref) → IsRow s → AddedClause s m lits glue kind d → KeepsHeld s m → IsPort m → OneMore s m d
one_more s m lits glue kind d row k keeps port = record {
  row = row_added s m lits glue kind d row k keeps port;
  held = subst (λ (o : Option Holding). IsSome o) (sym k.there) refl;
  fresh = k.free.not_held;
  kept = keeps;
}

pub one_less : (s m q : PortState) (a n : ℕ) → IsRow s → a ≢ 0 → DroppedOnce s m a → TidiedUpTo m q n → IsPort q → OneLess s q a
one_less s m q a n row ne d t port =
    let other : (b : ℕ) → b ≢ a → held_at q b ≡ held_at s b = λ b far. same_lookup m q b (ap (λ (x : PortState). x.held) t.state) ∙ dropped_others s m a b d far in
    record {
      row = record {
        vars = ap (λ (x : PortState). x.vars) t.state ∙ ap (λ (x : PortState). x.vars) d.state ∙ row.vars;
        source = other 0 (λ e. ne (sym e)) ∙ row.source;
        usable = ap (λ (x : PortState). is_usable x.refused) t.state ∙ ap (λ (x : PortState). is_usable x.refused) d.state ∙ row.usable;
        taken = ap (λ (x : PortState). x.taken) t.state ∙ ap (λ (x : PortState). x.taken) d.state ∙ row.taken;
        plain = ap (λ (x : PortState). x.hinted) t.state ∙ ap (λ (x : PortState). x.hinted) d.state ∙ row.plain;
        port = port;
      };
      others = other;
    }

pub dropped_usable : (s m : PortState) (a : ℕ) → IsRow s → DroppedOnce s m a → is_usable m.refused ≡ true
dropped_usable s m a row d = ap (λ (x : PortState). is_usable x.refused) d.state ∙ row.usable

pub not_taken : (s : PortState) (a : ℕ) → IsRow s → IsNotTaken s a
not_taken s a row = ap (λ (xs : List ℕ). list_any (λ b. b == a) xs) row.taken

-- a clause that is held is not if none is
pub elsewhere : (s : PortState) (a b : ℕ) → IsSome (held_at s a) → held_at s b ≡ None → a ≢ b
elsewhere s a b some none e = false≢true (sym (subst (λ (n : ℕ). is_some (held_at s n) ≡ false) (sym e) (ap is_some none)) ∙ some)

pub held_on : (s m : PortState) (a : ℕ) → KeepsHeld s m → IsSome (held_at s a) → IsSome (held_at m a)
held_on s m a keeps some = subst (λ (o : Option Holding). IsSome o) (sym (keeps a some)) some

pub held_beside : (s m : PortState) (a b : ℕ) → OneLess s m b → a ≢ b → IsSome (held_at s a) → IsSome (held_at m a)
held_beside s m a b less ne some = subst (λ (o : Option Holding). IsSome o) (sym (less.others a ne)) some
