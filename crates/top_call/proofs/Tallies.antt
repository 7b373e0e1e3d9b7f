-- What the rings counted, and the lists of the tally.
use Rattle.std.proofs.Common.{◌≡◌, ◌∙◌, ◌⊎◌, ◌≤◌, ◌<◌, ◌+◌, ℕ, zero, suc, true, List, [], ◌∷◌, ◌++◌, length, length-append, map, take, drop, sum, replicate, Some, None, refl, sym, ap, subst, inl, inr, arith}
use Rattle.std.specs.Prelude.{slice_index_or, slice_set, Option, All}
use Rattle.std.specs.Option.{option_map, option_to_list}
use Rattle.std.proofs.Math.Seq.{drop-length}
use Rattle.std.proofs.lemmas.List.{append-nil, length-map, length-replicate, length-take-le, map_more, get_or-map, get_or-replicate}
use Rattle.std.proofs.lemmas.List.Sums.{sum_by-cons}
use Rattle.sat_words.specs.Literal.{Literal}
use Rattle.sat_words.specs.FormulaData.{FormulaData}
use Rattle.sat_words.specs.declared.shared.NoRoom.{NoRoom}
use Rattle.rup_model.specs.Basics.{below}
use Rattle.rup_model.specs.declared.journal.Round.{Round as RoundStart}
use Rattle.rup_model.specs.declared.journal.Entry.{Entry}
use Rattle.rup_model.specs.declared.journal.Entry.TheVariants.{Round}
use Rattle.rup_model.specs.Journal.{learned}
use Rattle.rup_model.specs.Opening.{is_rulers}
use Rattle.rup_model.proofs.Additions.{learned-append}
use Rattle.rup_model.proofs.Sums.{below_first, below_none}
use Rattle.core_rounds.specs.Rounds.{RoundRun, written_in, start_for, AreRounds}
use Rattle.core_rounds.specs.InRounds.{learned_by}
use Rattle.core_rounds.proofs.Learned.{rulers_learned}
use Rattle.core_rounds.proofs.OneRound.{grows}
use Rattle.simp_base.specs.WorkState.{WorkState}
use Rattle.ruler_simp.specs.declared.rounds.Schedule.{Schedule}
use Rattle.ring_run.specs.declared.job.Counts.{Counts}
use Rattle.portfolio_run.specs.declared.answer.Answer.{Answer}
use Rattle.portfolio_run.specs.declared.answer.Answer.TheVariants.{Sat, Unsat, Unknown, NoHole, ProofFault, Memory}
use Rattle.portfolio_run.specs.declared.plan.Plan.{Plan as SearchPlan}
use Rattle.portfolio_run.specs.Held.{RestsBetween, IsHeld, HasStop, NeverGone, AreTallied, add_tallies, total, no_counts}
use Rattle.portfolio_run.specs.Room.{HasNoRoom}
use Rattle.portfolio_run.specs.Rulings.{Ruling, HasRuledBetween}
use Rattle.portfolio_run.specs.Solved.{FaultsFit, IsUnsettled, Holds}
use Rattle.portfolio_run.specs.Spent.{LearnedAll}
use Rattle.top_call.specs.declared.report.Tally.{Tally}
use Rattle.top_call.specs.Tallied.{no_lack, zero_tally, rings_tally, over, counted, HasRings, AreLearned}

-- ---- what each ring counted

-- what each ring counted; nothing if memory ran out before any could
abbrev pub each_counted : ℕ → List Counts → List Counts
each_counted rings [] = replicate rings no_counts
each_counted rings (c ∷ cs) = c ∷ cs

full_each : (rings : ℕ) (counts : List Counts) → length counts ≡ rings → each_counted rings counts ≡ counts
full_each rings [] e = ap (λ (n : ℕ). replicate n no_counts) (sym e)
full_each rings (c ∷ cs) e = refl

-- the counts of all rounds together are as many as the rings
added_many : (n : ℕ) (cs ds : List Counts) → length cs ≡ n → length ds ≡ n → length (add_tallies cs ds) ≡ n
added_many n [] ds e f = e
added_many n (c ∷ cs) [] e f = absurd (omega arith)
added_many zero (c ∷ cs) (d ∷ ds) e f = absurd (omega arith)
added_many (suc n) (c ∷ cs) (d ∷ ds) e f = ap suc (added_many n cs ds (omega arith) (omega arith))

total_many : (rings : ℕ) (xs : List RoundRun) (cs : List (List Counts)) → AreTallied rings xs cs → length (total rings cs) ≡ rings
total_many rings [] [] h = length-replicate rings no_counts
total_many rings [] (c ∷ cs) h = absurd h
total_many rings (x ∷ xs) [] h = absurd h
total_many rings (x ∷ xs) (c ∷ cs) h = added_many rings c (total rings cs) h.0.many (total_many rings xs cs h.1)

-- no round, no counts
none_tallied : (rings : ℕ) (xs : List RoundRun) (cs : List (List Counts)) → AreTallied rings xs cs → xs ≡ [] → cs ≡ []
none_tallied rings [] [] h none = refl
none_tallied rings [] (c ∷ cs) h none = absurd h
none_tallied rings (x ∷ xs) cs h none = absurd (let no : ⊥ = cc in no)

-- the rings counted nothing, or each did
pub sizes : (rings slots : ℕ) (every : Option ℕ) (limit : ℕ) (F : List (List Literal)) (J : List Entry) (counts : List Counts) → IsHeld rings slots every limit F J counts → (counts ≡ []) ⊎ (length counts ≡ rings)
sizes rings slots every limit F J counts (inl h) = elim h.tally_is [
  | inl e ↦ inr (ap length e ∙ total_many rings h.runs h.counts h.tallied)
  | inr e ↦ inl e.1
]
sizes rings slots every limit F J counts (inr h) = inr (ap length h.tally_is ∙ total_many rings (h.last ∷ h.before) h.counts h.tallied)

pub long_each : (rings : ℕ) (counts : List Counts) → (counts ≡ []) ⊎ (length counts ≡ rings) → length (each_counted rings counts) ≡ rings
long_each rings counts (inl e) = ap (λ (cs : List Counts). length (each_counted rings cs)) e ∙ length-replicate rings no_counts
long_each rings counts (inr e) = ap length (full_each rings counts e) ∙ e

pub held_each : (rings slots : ℕ) (every : Option ℕ) (limit : ℕ) (F : List (List Literal)) (J : List Entry) (counts : List Counts) → IsHeld rings slots every limit F J counts → IsHeld rings slots every limit F J (each_counted rings counts)
held_each rings slots every limit F J counts (inl h) = inl (record {
  runs = h.runs;
  left = h.left;
  rounds = h.rounds;
  due = h.due;
  written = h.written;
  rulers = h.rulers;
  begun = h.begun;
  journal_is = h.journal_is;
  within = h.within;
  counts = h.counts;
  tallied = h.tallied;
  tally_is = inl (elim h.tally_is [
    | inl e ↦ full_each rings counts (ap length e ∙ total_many rings h.runs h.counts h.tallied) ∙ e
    | inr e ↦ ap (each_counted rings) e.1 ∙ sym (ap (total rings) (none_tallied rings h.runs h.counts h.tallied e.0))
  ]);
})
held_each rings slots every limit F J counts (inr h) = inr (record {
  last = h.last;
  before = h.before;
  rounds = h.rounds;
  within = h.within;
  counts = h.counts;
  tallied = h.tallied;
  tally_is = full_each rings counts (ap length h.tally_is ∙ total_many rings (h.last ∷ h.before) h.counts h.tallied) ∙ h.tally_is;
})

-- with the same stop
pub stop_each : (rings slots : ℕ) (every : Option ℕ) (limit : ℕ) (F : List (List Literal)) (J : List Entry) (counts : List Counts) (held : IsHeld rings slots every limit F J counts) (kind : Option ℕ) → HasStop held kind → HasStop (held_each rings slots every limit F J counts held) kind
unfolding held_each
stop_each rings slots every limit F J counts (inl h) kind stop = stop
stop_each rings slots every limit F J counts (inr h) kind stop = stop

-- and the same of the ruler
pub ruled_each : (schedule : Schedule) (first : WorkState) (rings slots : ℕ) (every : Option ℕ) (limit : ℕ) (F : List (List Literal)) (J : List Entry) (counts : List Counts) (held : IsHeld rings slots every limit F J counts) (rulings : List Ruling)
    → HasRuledBetween schedule first held rulings → HasRuledBetween schedule first (held_each rings slots every limit F J counts held) rulings
unfolding held_each
ruled_each schedule first rings slots every limit F J counts (inl h) rulings again = again
ruled_each schedule first rings slots every limit F J counts (inr h) rulings again = again

-- when a line failed
pub faults_each : (plan : SearchPlan) (F : FormulaData) (J : List Entry) (counts : List Counts) (held : IsHeld plan.threads plan.slots plan.round plan.conflicts F.clauses J counts) (before searched : ℕ) (kind : Option ℕ)
    → FaultsFit plan F J held before searched kind → FaultsFit plan F J (held_each plan.threads plan.slots plan.round plan.conflicts F.clauses J counts held) before searched kind
unfolding held_each
faults_each plan F J counts (inl h) before searched kind fit = record { rose = fit.rose; calm = fit.calm }
faults_each plan F J counts (inr h) before searched kind fit = record { rose = fit.rose; calm = fit.calm }

-- and as much left to settle
unsettled_each : (rings slots : ℕ) (every : Option ℕ) (limit : ℕ) (F : List (List Literal)) (J : List Entry) (counts : List Counts) (held : IsHeld rings slots every limit F J counts) → IsUnsettled held → IsUnsettled (held_each rings slots every limit F J counts held)
unfolding held_each
unsettled_each rings slots every limit F J counts held u = record { ring = u.ring; below = u.below; tickets = by held u.tickets; going = u.going; rulers = u.rulers }
  where
    by : (h : IsHeld rings slots every limit F J counts) → NeverGone h u.ring → NeverGone (held_each rings slots every limit F J counts h) u.ring
    by (inl h) never = never
    by (inr h) never = never

-- and as little room
room_each : (plan : SearchPlan) (vars : ℕ) (F : List (List Literal)) (J : List Entry) (counts : List Counts) (held : IsHeld plan.threads plan.slots plan.round plan.conflicts F J counts) (lack : NoRoom) → HasNoRoom plan vars held lack
    → HasNoRoom plan vars (held_each plan.threads plan.slots plan.round plan.conflicts F J counts held) lack
unfolding held_each
room_each plan vars F J counts (inl h) lack (inl u) = inl (record { start = u.start; begun = u.begun; none = u.none })
room_each plan vars F J counts (inl h) lack (inr full) = inr full
room_each plan vars F J counts (inr h) lack tight = tight

-- the same answer holds
pub holds_each : (plan : SearchPlan) (vars : ℕ) (F : FormulaData) (J : List Entry) (counts : List Counts) (held : IsHeld plan.threads plan.slots plan.round plan.conflicts F.clauses J counts) (a : Answer)
    → Holds plan vars F J held a → Holds plan vars F J (held_each plan.threads plan.slots plan.round plan.conflicts F.clauses J counts held) a
holds_each plan vars F J counts held (Sat model) h = h
holds_each plan vars F J counts held Unsat h = h
holds_each plan vars F J counts held Unknown h = h
holds_each plan vars F J counts held (NoHole lack) h = (room_each plan vars F.clauses J counts held lack h.0, unsettled_each plan.threads plan.slots plan.round plan.conflicts F.clauses J counts held h.1)
holds_each plan vars F J counts held ProofFault h = tt
holds_each plan vars F J counts held Memory h = unsettled_each plan.threads plan.slots plan.round plan.conflicts F.clauses J counts held h

-- ---- the lists of the tally

-- there is a place for what each ring counted
pub fits_zero : (rings : ℕ) (counts : List Counts) (tally : Tally) → tally ≡ zero_tally rings → (counts ≡ []) ⊎ (length counts ≡ rings) → HasRings (length tally.learned) tally × (length counts ≤ length tally.learned)
fits_zero rings counts tally is size = subst (λ (t : Tally). HasRings (length t.learned) t × (length counts ≤ length t.learned)) (sym is) (record { learned = refl; offered = refl; exported = refl }, few size)
  where
    many : length {A = ℕ} (replicate rings 0) ≡ rings
    many = length-replicate rings 0

    few : (counts ≡ []) ⊎ (length counts ≡ rings) → length counts ≤ length {A = ℕ} (replicate rings 0)
    few (inl e) = let none : length counts ≡ 0 = ap length e in omega (arith, none)
    few (inr e) = let same = many in omega (arith, e, same)

set_over : (front old : List ℕ) (n : ℕ) → length front < length old → slice_set (front ++ drop (length front) old) (length front) n ≡ (front ++ n ∷ []) ++ drop (length (front ++ n ∷ [])) old
set_over [] [] n lt = absurd (omega arith)
set_over [] (o ∷ old) n lt = refl
set_over (f ∷ front) [] n lt = absurd (omega arith)
set_over (f ∷ front) (o ∷ old) n lt = ap (λ (xs : List ℕ). f ∷ xs) (set_over front old n (omega arith))

-- one number more is set
pub over_next : (f : Counts → ℕ) (counts : List Counts) (old : List ℕ) (i : ℕ) (d : Counts) → i < length counts → length counts ≤ length old
    → slice_set (over (map f (take i counts)) old) i (f (slice_index_or counts i d)) ≡ over (map f (take (i + 1) counts)) old
over_next f counts old i d lt le =
    let n : ℕ = f (slice_index_or counts i d) in
    let front : List ℕ = map f (take i counts) in
    let long : length front ≡ i = length-map (take i counts) f ∙ length-take-le i counts (omega arith) in
    ap (λ (k : ℕ). slice_set (over front old) k n) (sym long) ∙ set_over front old n (omega (arith, long)) ∙ ap (λ (xs : List ℕ). over xs old) (sym (map_more f counts i d lt))

-- as long as before
pub length_over : (front old : List ℕ) → length front ≤ length old → length (over front old) ≡ length old
length_over [] old le = refl
length_over (f ∷ front) [] le = absurd (omega arith)
length_over (f ∷ front) (o ∷ old) le = ap suc (length_over front old (omega arith))

-- three lists, of which the first rings' numbers are set
pub length_counted : (f : Counts → ℕ) (counts : List Counts) (old : List ℕ) (i : ℕ) → i ≤ length counts → length counts ≤ length old → length (over (map f (take i counts)) old) ≡ length old
length_counted f counts old i le fits =
    let long : length (map f (take i counts)) ≡ i = length-map (take i counts) f ∙ length-take-le i counts le in
    length_over (map f (take i counts)) old (omega (arith, long))

map_none : (f : Counts → ℕ) (rings : ℕ) → f no_counts ≡ 0 → replicate rings 0 ≡ map f (replicate rings no_counts)
map_none f zero e = refl
map_none f (suc n) e = λ i. sym e i ∷ map_none f n e i

over_all : (xs : List ℕ) (rings : ℕ) → length xs ≡ rings → over xs (replicate rings 0) ≡ xs
over_all xs rings e =
    let none : drop (length xs) (replicate rings 0) ≡ [] = ap (λ (k : ℕ). drop k (replicate rings 0)) (e ∙ sym (length-replicate rings 0)) ∙ drop-length (replicate rings 0) in
    ap (λ (ys : List ℕ). xs ++ ys) none ∙ append-nil xs

over_zeros : (f : Counts → ℕ) (rings : ℕ) (counts : List Counts) → f no_counts ≡ 0 → (counts ≡ []) ⊎ (length counts ≡ rings) → over (map f counts) (replicate rings 0) ≡ map f (each_counted rings counts)
over_zeros f rings counts none (inl e) = ap (λ (cs : List Counts). over (map f cs) (replicate rings 0)) e ∙ map_none f rings none ∙ ap (λ (cs : List Counts). map f (each_counted rings cs)) (sym e)
over_zeros f rings counts none (inr e) = over_all (map f counts) rings (length-map counts f ∙ e) ∙ ap (map f) (sym (full_each rings counts e))

-- once the rings were to start, the lists are what each counted
pub counted_is : (rings : ℕ) (counts : List Counts) → (counts ≡ []) ⊎ (length counts ≡ rings) → counted counts (zero_tally rings) ≡ rings_tally (each_counted rings counts) no_lack
counted_is rings counts size =
    let learned : over (map (λ (c : Counts). c.learned) counts) (replicate rings 0) ≡ map (λ (c : Counts). c.learned) (each_counted rings counts) = over_zeros (λ (c : Counts). c.learned) rings counts refl size in
    let offered : over (map (λ (c : Counts). c.offered) counts) (replicate rings 0) ≡ map (λ (c : Counts). c.offered) (each_counted rings counts) = over_zeros (λ (c : Counts). c.offered) rings counts refl size in
    let exported : over (map (λ (c : Counts). c.exported) counts) (replicate rings 0) ≡ map (λ (c : Counts). c.exported) (each_counted rings counts) = over_zeros (λ (c : Counts). c.exported) rings counts refl size in
    λ i. record { learned = learned i; offered = offered i; exported = exported i; need = 0; largest = 0; code = 0; line = 0 }

-- ---- the lemmas of the rings

-- the sum of numbers by their places
sum_below : (xs : List ℕ) (f : ℕ → ℕ) → ((i d : ℕ) → i < length xs → slice_index_or xs i d ≡ f i) → sum xs ≡ below (length xs) f
sum_below [] f each = refl
sum_below (x ∷ xs) f each =
    let first : x ≡ f 0 = each 0 0 (omega arith) in
    let rest : sum xs ≡ below (length xs) (λ i. f (suc i)) = sum_below xs (λ i. f (suc i)) (λ i d lt. each (suc i) d (omega arith)) in
    let cons = sum_by-cons (λ (n : ℕ). n) x xs in
    let last = below_first (length xs) f in
    omega (arith, first, rest, cons, last)

-- so of the rings' lemmas
sum_learned : (rings : ℕ) (J : List Entry) (numbers : List ℕ) → length numbers ≡ rings → ((ring d : ℕ) → ring < rings → slice_index_or numbers ring d ≡ length (learned ring J)) → sum numbers ≡ below rings (λ ring. length (learned ring J))
sum_learned rings J numbers many each =
    sum_below numbers (λ ring. length (learned ring J)) (λ ring d lt. each ring d (omega (arith, many, lt))) ∙ ap (λ (n : ℕ). below n (λ ring. length (learned ring J))) many

-- what a ring counted in all rounds, by the counts of each
added_at : (cs ds : List Counts) (ring : ℕ) (d : Counts) → ring < length cs → ring < length ds → (slice_index_or (add_tallies cs ds) ring d).learned ≡ (slice_index_or cs ring d).learned + (slice_index_or ds ring d).learned
added_at [] ds ring d lt more = absurd (omega arith)
added_at (x ∷ cs) [] ring d lt more = absurd (omega arith)
added_at (x ∷ cs) (y ∷ ds) zero d lt more = refl
added_at (x ∷ cs) (y ∷ ds) (suc ring) d lt more = added_at cs ds ring d (omega arith) (omega arith)

-- what the ruler writes and where a round begins nothing is learned
rests_learn : (ring : ℕ) (J rest : List Entry) (start : Option RoundStart) → All (λ e. is_rulers e ≡ true) rest → learned ring ((J ++ rest) ++ option_to_list (option_map Round start)) ≡ learned ring J
rests_learn ring J rest None rulers = ap (learned ring) (append-nil (J ++ rest)) ∙ learned-append ring J rest ∙ ap (λ (cs : List (List Literal)). learned ring J ++ cs) (rulers_learned ring rest rulers) ∙ append-nil (learned ring J)
rests_learn ring J rest (Some x) rulers =
    learned-append ring (J ++ rest) (Round x ∷ []) ∙ append-nil (learned ring (J ++ rest))
    ∙ learned-append ring J rest ∙ ap (λ (cs : List (List Literal)). learned ring J ++ cs) (rulers_learned ring rest rulers) ∙ append-nil (learned ring J)

-- so it learned as many as it counted
total_learned : (rings slots : ℕ) (every : Option ℕ) (limit : ℕ) (F : List (List Literal)) (xs : List RoundRun) (cs : List (List Counts)) (J : List Entry) → AreRounds rings slots every limit F xs J → AreTallied rings xs cs
    → (ring : ℕ) → ring < rings → (slice_index_or (total rings cs) ring no_counts).learned ≡ length (learned ring J)
total_learned rings slots every limit F [] [] J r h ring lt =
    ap (λ (c : Counts). c.learned) (get_or-replicate rings ring no_counts no_counts lt) ∙ sym (ap (λ (I : List Entry). length (learned ring I)) r)
total_learned rings slots every limit F [] (c ∷ cs) J r h ring lt = absurd h
total_learned rings slots every limit F (x ∷ xs) [] J r h ring lt = absurd h
total_learned rings slots every limit F (x ∷ xs) (c ∷ cs) J r h ring lt =
    let before : List Entry = r.0 in
    let rest : List Entry = r.1 in
    let start : RoundStart = start_for x.opening in
    let old = total_learned rings slots every limit F xs cs before r.2 h.1 ring lt in
    let here : (slice_index_or c ring no_counts).learned ≡ length (learned ring (written_in x)) = (h.0.each ring no_counts lt).learned_is in
    let many : length (total rings cs) ≡ rings = total_many rings xs cs h.1 in
    let many_here : length c ≡ rings = h.0.many in
    let counted_there = added_at c (total rings cs) ring no_counts (omega (arith, many_here, lt)) (omega (arith, many, lt)) in
    let parts : learned ring J ≡ learned ring before ++ learned ring (written_in x) =
    ap (learned ring) (r.6 ∙ grows r.5 ∙ ap (λ (I : List Entry). I ++ written_in x) r.5.journal_is)
    ∙ learned-append ring ((before ++ rest) ++ Round start ∷ []) (written_in x)
    ∙ ap (λ (ds : List (List Literal)). ds ++ learned ring (written_in x)) (rests_learn ring before rest (Some start) r.3) in
    let long = ap length parts ∙ length-append (learned ring before) (learned ring (written_in x)) in
    omega (arith, old, here, counted_there, long)

-- the numbers are those of the journal's lemmas
pub are_learned : (rings slots : ℕ) (every : Option ℕ) (limit : ℕ) (F : List (List Literal)) (J : List Entry) (counts : List Counts) → IsHeld rings slots every limit F J counts → length counts ≡ rings
    → AreLearned rings limit J (map (λ c. c.learned) counts)
are_learned rings slots every limit F J counts held long = record {
  many = many;
  each = each;
  within = (let sums = sum_learned rings J (map (λ c. c.learned) counts) many each in let few = all held in omega (arith, sums, few));
}
  where
    many : length (map (λ (c : Counts). c.learned) counts) ≡ rings
    many = length-map counts (λ (c : Counts). c.learned) ∙ long

    rested : (ring : ℕ) → ring < rings → (h : RestsBetween rings slots every limit F J counts) → (counts ≡ total rings h.counts) ⊎ ((h.runs ≡ []) × (counts ≡ [])) → (slice_index_or counts ring no_counts).learned ≡ length (learned ring J)
    rested ring lt h (inl e) =
        ap (λ (cs : List Counts). (slice_index_or cs ring no_counts).learned) e ∙ total_learned rings slots every limit F h.runs h.counts h.left h.rounds h.tallied ring lt
        ∙ sym (ap length (ap (learned ring) h.journal_is ∙ rests_learn ring h.left h.written h.begun h.rulers))
    rested ring lt h (inr e) = absurd (let none_there : length counts ≡ 0 = ap length e.1 in omega (arith, none_there, long, lt))

    one : (ring : ℕ) → ring < rings → IsHeld rings slots every limit F J counts → (slice_index_or counts ring no_counts).learned ≡ length (learned ring J)
    one ring lt (inl h) = rested ring lt h h.tally_is
    one ring lt (inr h) = ap (λ (cs : List Counts). (slice_index_or cs ring no_counts).learned) h.tally_is ∙ total_learned rings slots every limit F (h.last ∷ h.before) h.counts J h.rounds h.tallied ring lt

    each : (ring d : ℕ) → ring < rings → slice_index_or (map (λ (c : Counts). c.learned) counts) ring d ≡ length (learned ring J)
    each ring d lt = get_or-map (λ (c : Counts). c.learned) counts ring no_counts d (omega (arith, long)) ∙ one ring lt held

    all : IsHeld rings slots every limit F J counts → learned_by rings J ≤ limit
    all (inl h) = h.within
    all (inr h) = h.within

-- where there is no entry nothing was learned
pub few_of_none : (rings limit : ℕ) (J : List Entry) → J ≡ [] → learned_by rings J ≤ limit
few_of_none rings limit J none =
    let nothing : learned_by rings J ≡ 0 = below_none rings (λ (ring : ℕ). length (learned ring J)) (λ ring lt. ap (λ (I : List Entry). length (learned ring I)) none) in
    omega (arith, nothing)

-- if the rings together have learned as many lemmas as they may, the tally says so
pub all_learned : (rings : ℕ) (every : Option ℕ) (limit : ℕ) (F : List (List Literal)) (J : List Entry) (numbers : List ℕ) → AreLearned rings limit J numbers → LearnedAll F J rings every limit → sum numbers ≡ limit
all_learned rings every limit F J numbers are h = sum_learned rings J numbers are.many are.each ∙ h.learns
