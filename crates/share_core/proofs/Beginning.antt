-- A new core shows its opening.
use Rattle.std.proofs.Common.{◌≡◌, ℕ, zero, suc, ◌*◌, ◌<◌, ◌≤◌, false, cond, List, [], ◌∷◌, length, map, replicate, get_or, Option, Some, None, refl, sym, ap, ◌∙◌, subst, arith, eq-eqb, ne_eqb}
use Rattle.std.specs.List.{slice_get}
use Rattle.std.proofs.lemmas.List.{drop_all}
use Rattle.std.specs.Option.{option_map, unwrap_or}
use mathlib.Core.Logic.{dite}
use native.Mathlib.Decide.{ℕ_discrete}
use Rattle.sat_words.specs.Literal.{Literal}
use Rattle.sat_words.specs.Clause.{InOrder, clause_of}
use Rattle.sat_words.proofs.Insertion.{clause_of_in_order}
use Rattle.sat_words.specs.declared.line.Line.{Line}
use Rattle.rup_model.specs.declared.journal.Entry.{Entry}
use Rattle.rup_model.specs.Journal.{formula_clause, lines}
use Rattle.share_core.specs.declared.stored.ClauseAt.{ClauseAt}
use Rattle.share_core.specs.declared.ring.RingState.{RingState}
use Rattle.share_core.specs.State.{CoreOpening, IsCoreOpening, start_cell, blank, opened}
use Rattle.share_core.specs.Sound.{placed, Sound}
use Rattle.share_core.specs.Machine.{CoreData, state_of, Logged, Kept, cell_in, no_ring, ring_in, part_of, start_stored}
use Rattle.share_core.proofs.Lookups.{states_same}
use Rattle.share_core.proofs.Opened.{opened_sound}

-- The formula's clauses

get_under : (G : List (List Literal)) (k : ℕ) (d : List Literal) → k < length G → InOrder (get_or G k d) → get_or G k d ≡ unwrap_or (option_map clause_of (slice_get G k)) []
get_under [] k d lt o = absurd (omega arith)
get_under (c ∷ G) zero d lt o = sym (clause_of_in_order c o)
get_under (c ∷ G) (suc k) d lt o = get_under G k d (omega arith) o

get_past : (G : List (List Literal)) (k : ℕ) → length G ≤ k → slice_get G k ≡ None
get_past [] k le = refl
get_past (c ∷ G) zero le = absurd (omega arith)
get_past (c ∷ G) (suc k) le = get_past G k (omega arith)

-- the clause under a number, as the formula keeps it
pub lits_under : (F : List (List Literal)) (n k : ℕ) (d : List Literal) → n ≡ suc k → k < length F → InOrder (get_or F k d) → get_or F k d ≡ unwrap_or (formula_clause F n) []
lits_under F n k d e lt o = get_under F k d lt o ∙ ap (λ (m : ℕ). unwrap_or (formula_clause F m) []) (sym e)

pub lits_past : (F : List (List Literal)) (n : ℕ) → length F < n → ◌≡◌ {A = List Literal} [] (unwrap_or (formula_clause F n) [])
lits_past F zero lt = absurd (omega arith)
lits_past F (suc i) lt = ap (λ (q : Option (List Literal)). unwrap_or (option_map clause_of q) []) (sym (get_past F i (omega arith)))

-- The lists of a new core

cells_open : (n : ℕ) (ss : List ClauseAt) (a : ℕ) → cell_in a (map (start_stored n) ss) ≡ start_cell n ss a
cells_open n [] a = refl
cells_open n (s ∷ ss) a = dite (ℕ_discrete s.address a)
    (λ e. (λ j. cond (eq-eqb s.address a e j) (Some (start_stored n s).cell) (cell_in a (map (start_stored n) ss))) ∙ (λ j. cond (sym (eq-eqb a s.address (sym e)) j) (Some (start_stored n s).cell) (start_cell n ss a)))
    (λ ne. (λ j. cond (ne_eqb s.address a ne j) (Some (start_stored n s).cell) (cell_in a (map (start_stored n) ss))) ∙ cells_open n ss a
    ∙ (λ j. cond (sym (ne_eqb a s.address (λ q. ne (sym q))) j) (Some (start_stored n s).cell) (start_cell n ss a)))

same_all : {X : Type 0} (n : ℕ) (x : X) (k : ℕ) → get_or (replicate n x) k x ≡ x
same_all zero x k = refl
same_all (suc n) x zero = refl
same_all (suc n) x (suc k) = same_all n x k

count_all : {X : Type 0} (n : ℕ) (x : X) → length (replicate n x) ≡ n
count_all zero x = refl
count_all (suc n) x = let r = count_all n x in omega arith

abbrev pub new_data : CoreOpening → List Line → CoreData
new_data o L = record {
  formula = o.formula;
  before = o.journal;
  starts = o.starts;
  first = o.units;
  first_numbers = o.numbers;
  depth = o.depth;
  limit = o.limit;
  hinted = o.hinted;
  journal = o.journal;
  lines = L;
  cells = map (start_stored o.rings) o.starts;
  rings = replicate o.rings no_ring;
  slots = replicate (4 * (o.rings * o.rings) * o.depth) 0;
  units = o.units;
  numbers = o.numbers;
  turn = None;
  stop = None;
  drawn = 0;
}

ring_open : (n : ℕ) (J : List Entry) (k r : ℕ) → length J ≤ n → part_of r n J (ring_in (replicate k no_ring) r) ≡ blank r
ring_open n J k r le = ap (part_of r n J) (same_all k no_ring r)
    ∙ (let e = drop_all n J le in λ j. record { ring = r; held = []; making = []; waiting = []; seen = []; numbers = []; shared = 0; wrote = placed r n (e j); puts = []; ticket = false; found = 0 })

pub new_shown : (o : CoreOpening) (L : List Line) (d : CoreData) → d ≡ new_data o L → state_of d ≡ opened o
new_shown o L d is = ap state_of is ∙ states_same (state_of (new_data o L)) (opened o)
    (let e = count_all o.rings no_ring in λ i. record { formula = o.formula; rings = e i; depth = o.depth; journal = o.journal; starts = o.starts; units = o.units; numbers = o.numbers; limit = o.limit; hinted = o.hinted })
    refl (cells_open o.rings o.starts) (λ r. ap (λ (x : RingState). x.granted) (same_all o.rings no_ring r)) (λ r. ring_open (length o.journal) o.journal o.rings r (omega arith)) (λ k. same_all (4 * (o.rings * o.rings) * o.depth) 0 k) refl refl refl refl refl

pub new_kept : (o : CoreOpening) (L : List Line) (d : CoreData) → IsCoreOpening o → L ≡ lines o.formula o.journal → d ≡ new_data o L → Kept d
new_kept o L d op told is = record {
  wide = ap (λ (x : CoreData). length x.slots) is ∙ count_all (4 * (o.rings * o.rings) * o.depth) 0 ∙ (let e = count_all o.rings no_ring in λ j. 4 * (sym e j * sym e j) * o.depth) ∙ ap (λ (x : CoreData). 4 * (length x.rings * length x.rings) * x.depth) (sym is);
  sound = subst Sound (sym (new_shown o L d is)) (opened_sound o op);
  logged = subst Logged (sym is) told;
}
