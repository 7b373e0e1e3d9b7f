-- What passes the test of openings is an opening.
use Rattle.std.proofs.Common.{◌≡◌, ◌≢◌, ℕ, zero, suc, ◌^◌, ◌<◌, ◌≤◌, ◌==◌, nat_eq, leb, Bool, true, false, not, ◌||◌, List, [], ◌∷◌, length, map, Some, refl, sym, ap, ◌∙◌, subst, inl, inr, arith, eq-eqb, ne_eqb, true≢false}
use Rattle.std.specs.List.{list_any, list_all, slice_get, AllByRecursion, IsDistinct}
use Rattle.std.specs.Option.{option_map, unwrap_or}
use Rattle.std.proofs.lemmas.Bool.{and_parts, or_parts}
use mathlib.Core.Logic.{dite}
use native.Mathlib.Decide.{ℕ_discrete}
use Rattle.sat_words.specs.Literal.{Literal}
use Rattle.sat_words.specs.Clause.{distinct_lits, clause_of}
use Rattle.rup_model.specs.Basics.{one_if}
use Rattle.rup_model.specs.Journal.{formula_clause, formula_book, is_told}
use Rattle.rup_model.specs.Opening.{Start, IsStart}
use Rattle.rup_model.proofs.Lists.{In, map_In, all_In}
use Rattle.rup_model.proofs.ProgramOpening.{All_from_In}
use Rattle.share_core.specs.declared.stored.ClauseAt.{ClauseAt}
use Rattle.share_core.specs.State.{times_at, ArePaired, unit_lits, unit_numbers, IsCoreOpening}
use Rattle.share_core.specs.Machine.{start_at, core_opening}
use Rattle.test_core.specs.Fitting.{start_fits, unit_fits, stand_apart, opens}
use Rattle.share_core.proofs.Deciding.{long_from, unit_from}
use Rattle.share_core.proofs.Pairs.{unit_told}

not_true : (b : Bool) → not b ≡ true → b ≡ false
not_true true h = absurd (true≢false (sym h))
not_true false h = refl

absent : (a : ℕ) (n : ℕ) (hs : List ClauseAt) → list_any (λ (h : ClauseAt). (h.address == a) || (h.number == n)) hs ≡ false → times_at a hs ≡ 0
absent a n [] e = refl
absent a n (h ∷ hs) e =
    let p = or_parts ((h.address == a) || (h.number == n)) (list_any (λ (x : ClauseAt). (x.address == a) || (x.number == n)) hs) e in
    let q : one_if (h.address == a) ≡ 0 = ap one_if (or_parts (h.address == a) (h.number == n) p.0).0 in
    let r = absent a n hs p.1 in omega arith

once : (hs : List ClauseAt) → stand_apart hs ≡ true → (a : ℕ) → times_at a hs ≤ 1
once [] e a = omega arith
once (h ∷ hs) e a =
    let p = and_parts (not (list_any (λ (x : ClauseAt). (x.address == h.address) || (x.number == h.number)) hs)) (stand_apart hs) e in
    let r = once hs p.1 a in
    dite (ℕ_discrete h.address a)
    (λ q. let z : times_at a hs ≡ 0 = ap (λ (k : ℕ). times_at k hs) (sym q) ∙ absent h.address h.number hs (not_true _ p.0) in let o : one_if (h.address == a) ≡ 1 = ap one_if (eq-eqb h.address a q) in omega arith)
    (λ n. let o : one_if (h.address == a) ≡ 0 = ap one_if (ne_eqb h.address a n) in omega arith)

abbrev numbers : List ClauseAt → List ℕ
numbers hs = map (λ (s : Start). s.number) (map (λ (s : ClauseAt). record { number = s.number; lits = s.lits }) hs)

other_number : (a n : ℕ) (hs : List ClauseAt) → list_any (λ (h : ClauseAt). (h.address == a) || (h.number == n)) hs ≡ false → AllByRecursion (λ (m : ℕ). nat_eq n m ≡ false) (numbers hs)
other_number a n [] e = tt
other_number a n (h ∷ hs) e =
    let p = or_parts ((h.address == a) || (h.number == n)) (list_any (λ (x : ClauseAt). (x.address == a) || (x.number == n)) hs) e in
    let q = (or_parts (h.address == a) (h.number == n) p.0).1 in
    (ne_eqb n h.number (λ s. true≢false (sym (eq-eqb h.number n (sym s)) ∙ q)), other_number a n hs p.1)

distinct : (hs : List ClauseAt) → stand_apart hs ≡ true → IsDistinct nat_eq (numbers hs)
unfolding IsDistinct
distinct [] e = tt
distinct (h ∷ hs) e =
    let p = and_parts (not (list_any (λ (x : ClauseAt). (x.address == h.address) || (x.number == h.number)) hs)) (stand_apart hs) e in
    (other_number h.address h.number hs (not_true _ p.0), distinct hs p.1)

under : (G : List (List Literal)) (k : ℕ) → k < length G → option_map clause_of (slice_get G k) ≡ Some (unwrap_or (option_map clause_of (slice_get G k)) [])
under [] k lt = absurd (omega arith)
under (c ∷ G) zero lt = refl
under (c ∷ G) (suc k) lt = under G k (omega arith)

numbered : (F : List (List Literal)) (n : ℕ) → 1 ≤ n → n ≤ length F → formula_clause F n ≡ Some (unwrap_or (formula_clause F n) [])
numbered F zero h l = absurd (omega arith)
numbered F (suc k) h l = under F k (omega arith)

leb_yes : (m n : ℕ) → leb m n ≡ true → m ≤ n
leb_yes m n h = grind (arith, h)

starts_in : (F : List (List Literal)) (ps : List (ℕ × ℕ)) → list_all (start_fits F) (map (start_at F) ps) ≡ true → (s : Start) → In s (map (λ (t : ClauseAt). record { number = t.number; lits = t.lits }) (map (start_at F) ps)) → IsStart (formula_book F) s
starts_in F [] e s i = absurd i
starts_in F (p ∷ ps) e s (inl q) =
    let h = start_at F p in
    let f = and_parts (start_fits F h) (list_all (start_fits F) (map (start_at F) ps)) e in
    let n = and_parts (leb 1 h.number) _ f.0 in
    let m = and_parts (leb h.number (length F)) _ n.1 in
    let a = and_parts (not (h.address == 0)) _ m.1 in
    subst (IsStart (formula_book F)) q (record { alive = numbered F p.1 (leb_yes _ _ n.0) (leb_yes _ _ m.0); shape = long_from h.lits a.1 })
starts_in F (p ∷ ps) e s (inr i) = starts_in F ps (and_parts (start_fits F (start_at F p)) (list_all (start_fits F) (map (start_at F) ps)) e).1 s i

placed_in : (F : List (List Literal)) (hs : List ClauseAt) → list_all (start_fits F) hs ≡ true → (h : ClauseAt) → In h hs → h.address ≢ 0
placed_in F hs e h i z =
    let f = all_In (start_fits F) hs h e i in
    let n = and_parts (leb 1 h.number) _ f in
    let m = and_parts (leb h.number (length F)) _ n.1 in
    let a = and_parts (not (h.address == 0)) _ m.1 in
    true≢false (sym a.0 ∙ ap not (eq-eqb h.address 0 z))

-- the units have their numbers
paired_from : (F : List (List Literal)) (us : List (Literal × ℕ)) → list_all (unit_fits F) us ≡ true → ArePaired (formula_book F) (unit_lits us) (unit_numbers us)
paired_from F [] e = tt
paired_from F (u ∷ us) e = let a = and_parts (unit_fits F u) (list_all (unit_fits F) us) e in (unit_from u.0 (formula_clause F u.1) a.0, paired_from F us a.1)

-- and are told
told_from : (F : List (List Literal)) (us : List (Literal × ℕ)) → list_all (unit_fits F) us ≡ true → (l : Literal) → In l (unit_lits us) → is_told F [] l ≡ true
told_from F us e l i =
    let t = map_In (λ (u : Literal × ℕ). u.0) us l i in
    subst (λ (k : Literal). is_told F [] k ≡ true) t.2 (unit_told F [] t.0.1 t.0.0 tt (unit_from t.0.0 (formula_clause F t.0.1) (all_In (unit_fits F) us t.0 e t.1)))

pub opening_from : (F : List (List Literal)) (ps : List (ℕ × ℕ)) (us : List (Literal × ℕ)) (rings depth limit : ℕ) (hinted : Bool) → opens F (map (start_at F) ps) us rings depth limit ≡ true → IsCoreOpening (core_opening F ps us rings depth limit hinted)
opening_from F ps us rings depth limit hinted e =
    let hs = map (start_at F) ps in
    let a = and_parts (leb 1 rings) _ e in
    let b = and_parts (leb rings 16) _ a.1 in
    let k = and_parts (leb 1 depth) _ b.1 in
    let m = and_parts (leb depth 16) _ k.1 in
    let few = and_parts (leb limit (2 ^ 63)) _ m.1 in
    let c = and_parts (list_all (start_fits F) hs) _ few.1 in
    let d = and_parts (stand_apart hs) _ c.1 in
    let u = and_parts (list_all (unit_fits F) us) (distinct_lits (unit_lits us)) d.1 in
    record {
      some_ring = leb_yes 1 rings a.0;
      few_rings = leb_yes rings 16 b.0;
      some_slot = leb_yes 1 depth k.0;
      few_slots = leb_yes depth 16 m.0;
      opens = record {
        going = refl;
        fits = tt;
        accepted = tt;
        starts = All_from_In _ _ (starts_in F ps c.0);
        numbers = distinct hs d.0;
        told = All_from_In _ _ (told_from F us u.0);
        distinct = u.1;
      };
      room = omega arith;
      placed = All_from_In _ _ (placed_in F hs c.0);
      apart = once hs d.0;
      paired = paired_from F us u.0;
      limited = leb_yes limit (2 ^ 63) few.0;
    }
