-- Start clauses lie one after the other.
use Rattle.std.proofs.Common.{◌≡◌, Bool, ◌≢◌, ◌⊎◌, ℕ, zero, suc, ◌+◌, ◌-◌, ◌^◌, ◌<◌, ◌≤◌, ◌==◌, true, false, List, [], ◌∷◌, ◌++◌, map, length, fold, drop, All, refl, sym, ap, ◌∙◌, subst, ⊎_elim, inl, inr, arith, eq-eqb, ne_eqb, true≢false, append-nil, append_assoc, get_or, take, Option, Some, None}
use Rattle.std.specs.Prelude.{⊤, nat_le, nat_eq, if◌then◌else◌}
use Rattle.std.specs.List.{IsDistinct, AllByRecursion}
use Rattle.std.proofs.lemmas.Bool.Decides.{leb_tells, eqb_tells}
use Rattle.std.proofs.lemmas.List.{drop_all, map-append, take_all}
use Rattle.sat_words.specs.declared.shared.Cref.{Cref}
use Rattle.clause_cell.specs.declared.holes.HoleStop.{HoleStop}
use Rattle.clause_cell.specs.declared.holes.HoleStop.TheVariants.{NoHole, Memory}
use mathlib.Core.Logic.{dite}
use native.Mathlib.Decide.{ℕ_discrete}
use Rattle.sat_words.specs.Literal.{Literal}
use Rattle.clause_cell.specs.declared.holes.Hole.{Hole}
use Rattle.clause_cell.specs.Packing.{words_for}
use Rattle.clause_cell.specs.Free.{range, whole, first_fit, without_fit, rest_of, largest}
use Rattle.rup_model.specs.declared.journal.Entry.{Entry}
use Rattle.rup_model.specs.Basics.{put, one_if}
use Rattle.rup_model.specs.Opening.{Start, Opening, IsStart, IsOpening, OpensAfter}
use Rattle.rup_model.specs.Journal.{Book, added}
use Rattle.rup_model.proofs.Sums.{at_put, put_here}
use Rattle.rup_model.proofs.Lists.{In}
use Rattle.rup_model.proofs.ProgramOpening.{All_from_In}
use Rattle.share_core.specs.declared.part.CoreOpening.{CoreOpening}
use Rattle.share_core.specs.declared.stored.ClauseAt.{ClauseAt}
use Rattle.share_core.specs.declared.stored.Cell.{Cell}
use Rattle.share_core.specs.State.{IsCoreOpening, start_cell, opened, times_at, unit_lits}
use Rattle.share_core.proofs.Counting.{some_same, none_some}
use Rattle.share_rule.specs.declared.Layout.{Layout}
use Rattle.share_rule.specs.Layout.{first_cell, table_words, InVars}
use Rattle.share_rule.specs.Room.{Room, with_clause, placed, start_room, room, IsTiled, Places}
use Rattle.share_rule.specs.FirstWords.{total, starts_at, begun_with, MayBegin, IsMakeStop, addresses, cell_words, start_words}
use Rattle.share_core.proofs.ClauseLists.{at_in}
use Rattle.share_rule.proofs.Rooms.{RoomSound, placed_else, placed_sound, empty_sound, placed_tiled, empty_tiled, few_words}
use Rattle.share_rule.proofs.Literals.{few_distinct}

-- One hole

whole_some : (a n : ℕ) → 0 < n → whole a n ≡ range a n ∷ []
whole_some a n h = λ i. if ne_eqb n 0 (λ e. omega arith) i then [] else range a n ∷ []

le_true : (a b : ℕ) → a ≤ b → nat_le a b ≡ true
le_true a b h = ⊎_elim (λ t. t.0) (λ t. let k = t.1 in absurd (omega arith)) (leb_tells a b)

rest_whole : (need a n : ℕ) → need ≤ n → rest_of need (range a n) ≡ whole (a + need) (n - need)
rest_whole need a n le = dite (ℕ_discrete n need)
    (λ e. (λ i. if eq-eqb n need e i then [] else range (a + need) (n - need) ∷ []) ∙ (λ i. if sym (eq-eqb (n - need) 0 (omega arith)) i then [] else range (a + need) (n - need) ∷ []))
    (λ ne. (λ i. if ne_eqb n need ne i then [] else range (a + need) (n - need) ∷ []) ∙ (λ i. if sym (ne_eqb (n - need) 0 (λ e. ne (omega arith))) i then [] else range (a + need) (n - need) ∷ []))

-- what fits is its front
pub fit_whole : (need a n : ℕ) → 0 < need → need ≤ n → (first_fit need (whole a n) ≡ Some a) × (without_fit need (whole a n) ≡ whole (a + need) (n - need))
fit_whole need a n some le =
    let w = whole_some a n (omega arith) in
    let t : nat_le need n ≡ true = le_true need n le in (
      ap (first_fit need) w ∙ (λ i. if t i then Some a else None),
      ap (without_fit need) w ∙ (λ i. if t i then rest_of need (range a n) ++ [] else range a n ∷ []) ∙ append-nil (rest_of need (range a n)) ∙ rest_whole need a n le,
    )

pub largest_whole : (a n : ℕ) → largest (whole a n) ≡ n
largest_whole a n = ⊎_elim
    (λ t. (λ i. largest (if t.0 i then [] else range a n ∷ [])) ∙ sym t.1)
    (λ t. (λ i. largest (if t.0 i then [] else range a n ∷ [])) ∙ omega arith)
    (eqb_tells n 0)

-- Placing all

abbrev pub place : Room → ClauseAt → Room
place m s = placed m s.number (length s.lits)

placed_whole : (m : Room) (base len n size : ℕ) → m.holes ≡ whole base len → words_for size ≤ len
    → placed m n size ≡ record { holes = whole (base + words_for size) (len - words_for size); words = put m.words n (Some (range base (words_for size))) }
placed_whole m base len n size e le =
    let f = fit_whole (words_for size) base len (omega arith) le in
    ap (with_clause n size m) (ap (first_fit (words_for size)) e ∙ f.0)
    ∙ (λ i. record { holes = (ap (without_fit (words_for size)) e ∙ f.1) i; words = put m.words n (Some (range base (words_for size))) })

pub all_placed : (ss : List (ℕ × List Literal)) (m : Room) (base len : ℕ) → m.holes ≡ whole base len → total ss ≤ len → (fold place m (starts_at base ss)).holes ≡ whole (base + total ss) (len - total ss)
all_placed [] m base len e le = let b : base ≡ base + 0 = omega arith in let n : len ≡ len - 0 = omega arith in e ∙ (λ i. whole (b i) (n i))
all_placed (s ∷ ss) m base len e le =
    let size : ℕ = length s.1 in
    let need : ℕ = words_for size in
    let b : base + need + total ss ≡ base + (need + total ss) = omega arith in
    let n : len - need - total ss ≡ len - (need + total ss) = omega arith in
    all_placed ss (placed m s.0 size) (base + need) (len - need) (ap (λ (r : Room). r.holes) (placed_whole m base len s.0 size e (omega arith))) (omega arith) ∙ (λ i. whole (b i) (n i))

-- the number is none of these
abbrev IsNew : ℕ → List (ℕ × List Literal) → Type 0
IsNew n ss = AllByRecursion (λ y. nat_eq n y ≡ false) (map (λ (s : ℕ × List Literal). s.0) ss)

kept_words : (ss : List (ℕ × List Literal)) (m : Room) (base n : ℕ) → IsNew n ss → (fold place m (starts_at base ss)).words n ≡ m.words n
kept_words [] m base n new = refl
kept_words (s ∷ ss) m base n new = kept_words ss (placed m s.0 (length s.1)) (base + words_for (length s.1)) n new.1
    ∙ placed_else m s.0 (length s.1) n (λ e. true≢false (sym (eq-eqb n s.0 e) ∙ new.0))

placed_words : (ss : List (ℕ × List Literal)) (m : Room) (base len : ℕ) → m.holes ≡ whole base len → total ss ≤ len → IsDistinct nat_eq (map (λ (s : ℕ × List Literal). s.0) ss)
    → (h : ClauseAt) → In h (starts_at base ss) → (fold place m (starts_at base ss)).words h.number ≡ Some (range h.address (words_for (length h.lits)))
unfolding IsDistinct
placed_words [] m base len e le d h i = absurd i
placed_words (s ∷ ss) m base len e le d h (inl q) =
    let size : ℕ = length s.1 in
    subst (λ (k : ClauseAt). (fold place (placed m s.0 size) (starts_at (base + words_for size) ss)).words k.number ≡ Some (range k.address (words_for (length k.lits)))) q
    (kept_words ss (placed m s.0 size) (base + words_for size) s.0 d.0
    ∙ ap (λ (r : Room). r.words s.0) (placed_whole m base len s.0 size e (omega arith)) ∙ put_here m.words s.0 (Some (range base (words_for size))))
placed_words (s ∷ ss) m base len e le d h (inr i) =
    let size : ℕ = length s.1 in
    placed_words ss (placed m s.0 size) (base + words_for size) (len - words_for size) (ap (λ (r : Room). r.holes) (placed_whole m base len s.0 size e (omega arith))) (omega arith) d.1 h i

-- who has words once all are placed: who had some before, or a start clause, at its address
words_from : (ss : List (ℕ × List Literal)) (m : Room) (base len : ℕ) → m.holes ≡ whole base len → total ss ≤ len → (n : ℕ) (r : Hole) → (fold place m (starts_at base ss)).words n ≡ Some r
    → (m.words n ≡ Some r) ⊎ ((h : ClauseAt) × In h (starts_at base ss) × (h.number ≡ n) × (r.first ≡ h.address))
words_from [] m base len e le n r h = inl h
words_from (s ∷ ss) m base len e le n r h =
    let size : ℕ = length s.1 in
    let is = placed_whole m base len s.0 size e (omega arith) in
    ⊎_elim
    (λ (k : (placed m s.0 size).words n ≡ Some r). at_put m.words s.0 (Some (range base (words_for size))) (λ (q : Option Hole). q ≡ Some r → (m.words n ≡ Some r) ⊎ ((h : ClauseAt) × In h (starts_at base (s ∷ ss)) × (h.number ≡ n) × (r.first ≡ h.address))) n
    (λ here z. inr (record { address = base; number = s.0; lits = s.1 }, inl refl, sym here, ap (λ (x : Hole). x.first) (sym (some_same (range base (words_for size)) r z))))
    (λ _ z. inl z)
    (ap (λ (x : Room). x.words n) (sym is) ∙ k))
    (λ (t : (h : ClauseAt) × In h (starts_at (base + words_for size) ss) × (h.number ≡ n) × (r.first ≡ h.address)). inr (t.0, inr t.1, t.2, t.3))
    (words_from ss (placed m s.0 size) (base + words_for size) (len - words_for size) (ap (λ (x : Room). x.holes) is) (omega arith) n r h)

-- none of them has words
abbrev AreNew : Room → List (ℕ × List Literal) → Type 0
AreNew m [] = ⊤
AreNew m (s ∷ ss) = (m.words s.0 ≡ None) × AreNew m ss

new_kept : (m : Room) (k size : ℕ) (ss : List (ℕ × List Literal)) → IsNew k ss → AreNew m ss → AreNew (placed m k size) ss
new_kept m k size [] d h = tt
new_kept m k size (s ∷ ss) d h = (placed_else m k size s.0 (λ e. true≢false (sym (eq-eqb k s.0 (sym e)) ∙ d.0)) ∙ h.0, new_kept m k size ss d.1 h.1)

all_new : (a n : ℕ) (ss : List (ℕ × List Literal)) → AreNew (record { holes = whole a n; words = λ _. None }) ss
all_new a n [] = tt
all_new a n (s ∷ ss) = (refl, all_new a n ss)

starts_tiled : (l : Layout) → table_words l ≤ 2 ^ 63 → (ss : List (ℕ × List Literal)) (m : Room) (base : ℕ) → RoomSound l m → IsDistinct nat_eq (map (λ (s : ℕ × List Literal). s.0) ss) → AreNew m ss → IsTiled l m → IsTiled l (fold place m (starts_at base ss))
unfolding IsDistinct
starts_tiled l small [] m base rs d new t = t
starts_tiled l small (s ∷ ss) m base rs d new t =
    let size : ℕ = length s.1 in
    starts_tiled l small ss (placed m s.0 size) (base + words_for size) (placed_sound l small m s.0 size rs) d.1 (new_kept m s.0 size ss d.0 new.1) (placed_tiled l small m s.0 size rs new.0 t)

-- Start cells

start_there : (n : ℕ) (ss : List ClauseAt) (s : ClauseAt) → In s ss → ((a : ℕ) → times_at a ss ≤ 1) → start_cell n ss s.address ≡ Some (record { lits = s.lits; number = s.number; count = n; maker = None })
start_there n [] s i once = absurd i
start_there n (t ∷ ss) s (inl e) once = subst (λ (k : ClauseAt). start_cell n (t ∷ ss) k.address ≡ Some (record { lits = k.lits; number = k.number; count = n; maker = None })) e
    (λ j. if eq-eqb t.address t.address refl j then Some (record { lits = t.lits; number = t.number; count = n; maker = None }) else start_cell n ss t.address)
start_there n (t ∷ ss) s (inr i) once =
    let few = once s.address in
    let some = at_in ss s i in
    let apart : s.address ≢ t.address = λ e. (let u : one_if (t.address == s.address) ≡ 1 = ap one_if (eq-eqb t.address s.address (sym e)) in omega arith) in
    (λ j. if ne_eqb s.address t.address apart j then Some (record { lits = t.lits; number = t.number; count = n; maker = None }) else start_cell n ss s.address) ∙ start_there n ss s i (λ a. (let q = once a in omega arith))

-- the start cell at an address is a start clause's
pub cell_start : (n : ℕ) (ss : List ClauseAt) (a : ℕ) (x : Cell) → start_cell n ss a ≡ Some x → (s : ClauseAt) × In s ss × (s.address ≡ a) × (record { lits = s.lits; number = s.number; count = n; maker = None } ≡ x)
cell_start n [] a x h = absurd (none_some x h)
cell_start n (s ∷ ss) a x h =
    let z : Cell = record { lits = s.lits; number = s.number; count = n; maker = None } in
    dite (ℕ_discrete a s.address)
    (λ e. (s, inl refl, sym e, some_same z x ((λ i. if sym (eq-eqb a s.address e) i then Some z else start_cell n ss a) ∙ h)))
    (λ ne. let r = cell_start n ss a x ((λ i. if sym (ne_eqb a s.address ne) i then Some z else start_cell n ss a) ∙ h) in (r.0, inr r.1, r.2, r.3))

pub start_vars : (l : Layout) (ss : List (ℕ × List Literal)) (base : ℕ) → All (λ s. InVars l s.1) ss → (h : ClauseAt) → In h (starts_at base ss) → (base ≤ h.address) × InVars l h.lits
start_vars l [] base vars h i = absurd i
start_vars l (s ∷ ss) base vars h (inl q) = subst (λ (k : ClauseAt). (base ≤ k.address) × InVars l k.lits) q (omega arith, vars 0 s (omega arith))
start_vars l (s ∷ ss) base vars h (inr i) = let r = start_vars l ss (base + words_for (length s.1)) (λ j d lt. vars (suc j) d (omega arith)) h i in let le = r.0 in (omega arith, r.1)

-- no address comes twice
before_all : (ss : List (ℕ × List Literal)) (base a : ℕ) → a < base → times_at a (starts_at base ss) ≡ 0
before_all [] base a lt = refl
before_all (s ∷ ss) base a lt = let z : one_if (base == a) ≡ 0 = ap one_if (ne_eqb base a (λ e. omega arith)) in let r = before_all ss (base + words_for (length s.1)) a (omega arith) in omega arith

once : (ss : List (ℕ × List Literal)) (base a : ℕ) → times_at a (starts_at base ss) ≤ 1
once [] base a = omega arith
once (s ∷ ss) base a = dite (ℕ_discrete base a)
    (λ e. let z : one_if (base == a) ≡ 1 = ap one_if (eq-eqb base a e) in let r = before_all ss (base + words_for (length s.1)) a (omega arith) in omega arith)
    (λ ne. let z : one_if (base == a) ≡ 0 = ap one_if (ne_eqb base a ne) in let r = once ss (base + words_for (length s.1)) a in omega arith)

-- start clauses are short
pub short_all : (l : Layout) → l.vars ≤ 2 ^ 30 → (b : Book) (ks : List (ℕ × List Literal)) → All (IsStart b) (map {B = Start} (λ (s : ℕ × List Literal). record { number = s.0; lits = s.1 }) ks) → All (λ s. InVars l s.1) ks → All (λ s. length s.1 < 2 ^ 32) ks
short_all l few b [] st vr j d lt = absurd (omega arith)
short_all l few b (k ∷ ks) st vr zero d lt = let f = few_distinct l.vars k.1 (st 0 (record { number = k.0; lits = k.1 }) (omega arith)).shape.distinct (vr 0 k (omega arith)) in omega arith
short_all l few b (k ∷ ks) st vr (suc j) d lt = short_all l few b ks (λ i e q. st (suc i) e (omega arith)) (λ i e q. vr (suc i) e (omega arith)) j d (omega arith)

-- One more start clause

total_more : (ss : List (ℕ × List Literal)) (s : ℕ × List Literal) → total (ss ++ s ∷ []) ≡ total ss + words_for (length s.1)
total_more [] s = omega arith
total_more (t ∷ ss) s = let r = total_more ss s in omega arith

starts_more : (ss : List (ℕ × List Literal)) (a : ℕ) (s : ℕ × List Literal) → starts_at a (ss ++ s ∷ []) ≡ starts_at a ss ++ record { address = a + total ss; number = s.0; lits = s.1 } ∷ []
starts_more [] a s = let p : a ≡ a + 0 = omega arith in λ i. record { address = p i; number = s.0; lits = s.1 } ∷ []
starts_more (t ∷ ss) a s =
    let p : a + words_for (length t.1) + total ss ≡ a + (words_for (length t.1) + total ss) = omega arith in
    ap (λ (ks : List ClauseAt). record { address = a; number = t.0; lits = t.1 } ∷ ks) (starts_more ss (a + words_for (length t.1)) s ∙ (λ i. starts_at (a + words_for (length t.1)) ss ++ record { address = p i; number = s.0; lits = s.1 } ∷ []))

words_more : (count : ℕ) (ss : List (ℕ × List Literal)) (s : ℕ × List Literal) → start_words count (ss ++ s ∷ []) ≡ start_words count ss ++ cell_words count s
words_more count [] s = append-nil (cell_words count s)
words_more count (t ∷ ss) s = ap (λ (ws : List ℕ). cell_words count t ++ ws) (words_more count ss s) ∙ sym (append_assoc (cell_words count t) (start_words count ss) (cell_words count s))

no_fit : (need a n : ℕ) → n < need → first_fit need (whole a n) ≡ None
no_fit need a n lt = ⊎_elim
    (λ t. (λ i. first_fit need (if t.0 i then [] else range a n ∷ [])))
    (λ t. (λ i. first_fit need (if t.0 i then [] else range a n ∷ [])) ∙ (λ i. if few i then Some a else None))
    (eqb_tells n 0)
  where
    few : nat_le need n ≡ false
    few = ⊎_elim (λ t. let k = t.1 in absurd (omega arith)) (λ t. t.0) (leb_tells need n)

fits : (need a n b : ℕ) → first_fit need (whole a n) ≡ Some b → need ≤ n
fits need a n b e = ⊎_elim (λ t. t.1) (λ t. absurd (none_some b (sym (no_fit need a n t.1) ∙ e))) (leb_tells need n)

next_address : (a : ℕ) (done : List (ℕ × List Literal)) (s : ℕ × List Literal) (cells cells' : List Cref) (b : ℕ) → cells ≡ addresses (starts_at a done) → cells' ≡ cells ++ record { address = b } ∷ [] → a + total done ≡ b → cells' ≡ addresses (starts_at a (done ++ s ∷ []))
next_address a done s cells cells' b old new same =
    let last : ClauseAt = record { address = a + total done; number = s.0; lits = s.1 } in
    let mid : List Cref = addresses (starts_at a done) ++ addresses (last ∷ []) in
    let up : cells' ≡ mid = new ∙ (λ i. old i ++ record { address = sym same i } ∷ []) in
    up ∙ sym (map-append (λ (k : ClauseAt). record { address = k.address }) (starts_at a done) (last ∷ [])) ∙ ap addresses (sym (starts_more done a s))

-- these start clauses are laid
abbrev pub Laid : Layout → List ℕ → List (ℕ × List Literal) → List ℕ → List Hole → List Cref → Type 0
Laid l low done ws holes cells = (ws ≡ low ++ start_words l.rings done) × (total done ≤ l.words) × (holes ≡ whole (first_cell l + total done) (l.words - total done)) × (cells ≡ addresses (starts_at (first_cell l) done))

pub laid_more : (l : Layout) (low : List ℕ) (done : List (ℕ × List Literal)) (s : ℕ × List Literal) (ws ws' : List ℕ) (holes holes' : List Hole) (cells cells' : List Cref) → Laid l low done ws holes cells
    → ((a : ℕ) × (first_fit (words_for (length s.1)) holes ≡ Some a) × (cells' ≡ cells ++ record { address = a } ∷ [])) → holes' ≡ without_fit (words_for (length s.1)) holes → ws' ≡ ws ++ cell_words l.rings s
    → Laid l low (done ++ s ∷ []) ws' holes' cells'
laid_more l low done s ws ws' holes holes' cells cells' h found left words =
    let need : ℕ = words_for (length s.1) in
    let base : ℕ = first_cell l + total done in
    let n : ℕ = l.words - total done in
    let at : first_fit need (whole base n) ≡ Some found.0 = ap (first_fit need) (sym h.2) ∙ found.1 in
    let le : need ≤ n = fits need base n found.0 at in
    let f = fit_whole need base n (omega arith) le in
    let same : base ≡ found.0 = some_same base found.0 (sym f.0 ∙ at) in
    let t = total_more done s in
    let some = h.1 in
    let b : base + need ≡ first_cell l + total (done ++ s ∷ []) = omega arith in
    let m : n - need ≡ l.words - total (done ++ s ∷ []) = omega arith in
    let words_at : ws' ≡ low ++ start_words l.rings (done ++ s ∷ []) =
    words ∙ ap (λ (xs : List ℕ). xs ++ cell_words l.rings s) h.0 ∙ append_assoc low (start_words l.rings done) (cell_words l.rings s) ∙ ap (λ (xs : List ℕ). low ++ xs) (sym (words_more l.rings done s)) in
    let cells_at : cells' ≡ addresses (starts_at (first_cell l) (done ++ s ∷ [])) = next_address (first_cell l) done s cells cells' found.0 h.3 found.2 same in (
      words_at,
      omega arith,
      left ∙ ap (without_fit need) h.2 ∙ f.1 ∙ (λ i. whole (b i) (m i)),
      cells_at,
    )

pub start_holes : (l : Layout) (ss : List (ℕ × List Literal)) → total ss ≤ l.words → (start_room l (starts_at (first_cell l) ss)).holes ≡ whole (first_cell l + total ss) (l.words - total ss)
start_holes l ss le = all_placed ss (record { holes = whole (first_cell l) l.words; words = λ _. None }) (first_cell l) l.words refl le

-- the next start clause finds no hole
pub no_place : (l : Layout) (ss : List (ℕ × List Literal)) (i : ℕ) (s : ℕ × List Literal) (low ws : List ℕ) (holes : List Hole) (cells : List Cref) (e : HoleStop) → i < length ss → s ≡ get_or ss i s → Laid l low (take i ss) ws holes cells
    → ((need most : ℕ) → e ≡ NoHole need most → (need ≡ words_for (length s.1)) × (most ≡ largest holes) × (most < need)) → IsMakeStop l ss e
no_place l ss i s low ws holes cells (NoHole need most) lt is h none =
    let t = none need most refl in
    (take i ss, drop (suc i) ss, s, split ss i s lt is, t.0, t.1 ∙ ap largest (h.2 ∙ sym (start_holes l (take i ss) h.1)), t.2)
  where
    split : (xs : List (ℕ × List Literal)) (k : ℕ) (x : ℕ × List Literal) → k < length xs → x ≡ get_or xs k x → xs ≡ take k xs ++ x ∷ drop (suc k) xs
    split [] k x lt is = absurd (omega arith)
    split (y ∷ xs) zero x lt is = ap (λ (z : ℕ × List Literal). z ∷ xs) (sym is)
    split (y ∷ xs) (suc k) x lt is = ap (λ (zs : List (ℕ × List Literal)). y ∷ zs) (split xs k x (omega arith) is)
no_place l ss i s low ws holes cells Memory lt is h none = tt

-- all of them are
pub laid_all : (l : Layout) (ss : List (ℕ × List Literal)) (i : ℕ) (low ws : List ℕ) (holes : List Hole) (cells : List Cref) → length ss ≤ i → Laid l low (take i ss) ws holes cells → holes ≡ (start_room l (starts_at (first_cell l) ss)).holes
laid_all l ss i low ws holes cells le h =
    let k : Laid l low ss ws holes cells = subst (λ (xs : List (ℕ × List Literal)). Laid l low xs ws holes cells) (take_all i ss le) h in
    k.2 ∙ sym (start_holes l ss k.1)

-- an opening of the ruler's opens a table
pub opens_a_table : (F : List (List Literal)) (o : Opening) → IsOpening F o → OpensAfter F o
opens_a_table F o h = record { fits = h.rulers_part.fits; accepted = h.rulers_part.accepted; going = h.rulers_part.going; starts = h.starts; numbers = h.numbers; told = h.told; distinct = h.distinct }

module _ (F : List (List Literal)) (l : Layout) (hinted : Bool) (J : List Entry) (ss : List (ℕ × List Literal)) (us : List (Literal × ℕ)) (may : MayBegin F l J ss us) where
  start : CoreOpening
  start = begun_with F l hinted J ss us

  small_table : table_words l ≤ 2 ^ 63
  small_table = let q = few_words l may.few_rings may.few_vars may.few_words in omega arith

  -- these parts make an opening
  pub begun_opens : IsCoreOpening (begun_with F l hinted J ss us)
  begun_opens = record {
    some_ring = may.some_ring;
    few_rings = may.few_rings;
    some_slot = may.some_slot;
    few_slots = may.few_slots;
    opens = subst (λ starts. OpensAfter F (record { journal = J; starts = starts; units = unit_lits us })) (sym (same_starts (first_cell l) ss)) may.opens;
    room = may.few_entries;
    placed = All_from_In (λ s. s.address ≢ 0) (starts_at (first_cell l) ss) (λ h i e. let low = (start_vars l ss (first_cell l) may.starts h i).0 in omega arith);
    apart = once ss (first_cell l);
    paired = may.paired;
    limited = may.limited;
  }
    where
      same_starts : (base : ℕ) (ks : List (ℕ × List Literal)) → map {B = Start} (λ (s : ClauseAt). record { number = s.number; lits = s.lits }) (starts_at base ks) ≡ map (λ (s : ℕ × List Literal). record { number = s.0; lits = s.1 }) ks
      same_starts base [] = refl
      same_starts base (s ∷ ks) = ap (λ rest. record { number = s.0; lits = s.1 } ∷ rest) (same_starts (base + words_for (length s.1)) ks)

  -- nothing has been added since
  pub begun_room : room l (begun_with F l hinted J ss us) J ≡ start_room l (starts_at (first_cell l) ss)
  begun_room = ap (fold _ (start_room l (starts_at (first_cell l) ss))) (drop_all (length J) J (omega arith))

  pub begun_places : total ss ≤ l.words → Places l (opened (begun_with F l hinted J ss us))
  begun_places le = record {
    rings = refl;
    depth = refl;
    limit = refl;
    small = may.few_vars;
    words = λ a x e. let s = cell_start l.rings (starts_at (first_cell l) ss) a x e in
        subst (λ (y : ℕ × Cell). (room l (begun_with F l hinted J ss us) J).words y.1.number ≡ Some (range y.0 (words_for (length y.1.lits)))) (λ i. (s.2 i, s.3 i))
        (ap (λ (m : Room). m.words s.0.number) begun_room ∙ placed_words ss (record { holes = whole (first_cell l) l.words; words = λ _. None }) (first_cell l) l.words refl le (subst (IsDistinct nat_eq) (numbers ss) may.opens.numbers) s.0 s.1);
    only = λ n r h.
        (let t = words_from ss (record { holes = whole (first_cell l) l.words; words = λ _. None }) (first_cell l) l.words refl le n r (ap (λ (m : Room). m.words n) (sym begun_room) ∙ h) in
        ⊎_elim (λ (z : None ≡ Some r). absurd (none_some r z))
        (λ (z : (k : ClauseAt) × In k (starts_at (first_cell l) ss) × (k.number ≡ n) × (r.first ≡ k.address)).
        (record { lits = z.0.lits; number = z.0.number; count = l.rings; maker = None }, ap (start_cell l.rings (starts_at (first_cell l) ss)) z.3 ∙ start_there l.rings (starts_at (first_cell l) ss) z.0 z.1 (once ss (first_cell l)), z.2)) t);
    tiled = subst (IsTiled l) (sym begun_room) (starts_tiled l small_table ss (record { holes = whole (first_cell l) l.words; words = λ _. None }) (first_cell l) (empty_sound l small_table) (subst (IsDistinct nat_eq) (numbers ss) may.opens.numbers) (all_new (first_cell l) l.words ss) (empty_tiled l small_table));
    vars = λ a x e. let s = cell_start l.rings (starts_at (first_cell l) ss) a x e in subst (λ (y : Cell). InVars l y.lits) s.3 (start_vars l ss (first_cell l) may.starts s.0 s.1).1;
    starts = All_from_In (λ s. InVars l s.lits) (starts_at (first_cell l) ss) (λ h i. (start_vars l ss (first_cell l) may.starts h i).1);
    entries = subst (λ (K : List Entry). All (InVars l) (added K)) (sym (drop_all (length J) J (omega arith))) (λ i k lt. absurd (omega arith));
    units = may.units;
    few = few_distinct l.vars (unit_lits us) may.opens.distinct may.units;
    first = ([], sym (append-nil (unit_lits us)));
  }
    where
      numbers : (ks : List (ℕ × List Literal)) → map (λ (s : Start). s.number) (map (λ (s : ℕ × List Literal). record { number = s.0; lits = s.1 }) ks) ≡ map (λ (s : ℕ × List Literal). s.0) ks
      numbers [] = refl
      numbers (s ∷ ks) = ap (λ rest. s.0 ∷ rest) (numbers ks)
