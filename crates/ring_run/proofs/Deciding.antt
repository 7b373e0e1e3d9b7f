-- A decision, and where none is left.
use Rattle.std.proofs.Common.{◌≡◌, ◌∙◌, ℕ, ◌+◌, ◌<◌, ◌≤◌, ◌-◌, slice_index_or, Bool, true, false, not, List, [], ◌∷◌, length, map, sym, subst, ap, refl, arith, inl, inr, ◌⊎◌, Some, None, IsSome, Contains, get_or}
use Rattle.std.specs.declared.option.Option.{Option}
use Rattle.std.proofs.lemmas.Bool.{or_left, or_right, or_cases, false≢true}
use Rattle.sat_words.specs.Literal.{Literal, same, opposite}
use Rattle.sat_words.specs.Clause.{has}
use Rattle.sat_words.specs.Truth.{lit_true, clause_true}
use Rattle.sat_words.proofs.Members.{same-true}
use Rattle.rup_model.proofs.Lists.{In_Contains, In_get_or, In_has}
use Rattle.ring_port.specs.PortState.{PortState, Holding, lits_at, lits_in, clause_at}
use Rattle.ring_trail.specs.declared.step.TrailStep.{TrailStep}
use Rattle.ring_trail.specs.TrailData.{TrailData, IsTrail, IsTrueOn, lit_at, value_of, decided}
use Rattle.ring_trail.specs.Closed.{TrueWithin, IsClosedClause}
use Rattle.ring_trail.proofs.Shape.{same_lit}
use Rattle.ring_trail.proofs.Values.{some_at, value_some}
use Rattle.ring_trail.proofs.Causes.{IsReasoned-decided, IsClosed-grown}
use Rattle.watch_prop.specs.WatchData.{WatchData, attached, clauses_of}
use Rattle.watch_prop.specs.Propagation.{IsQuiet, attached_at}
use Rattle.watch_prop.proofs.TrailLaws.{Watched-decide}
use Rattle.ring_decide.specs.DeciderData.{DeciderData, AllValued}
use Rattle.ring_run.specs.Ended.{IsModelOf, Stays}
use Rattle.ring_run.specs.Strategy.{Decides, OccursIn}
use Rattle.ring_run.specs.Searching.{GoesOn, AreFirst}
use Rattle.ring_run.specs.Ending.{EndsBy}
use Rattle.ring_run.specs.Course.{Searches, InSearch}
use Rattle.ring_run.specs.declared.ring.Ring.{Ring}
use Rattle.ring_run.specs.declared.job.End.TheVariants.{Sat}
use Rattle.ring_run.proofs.Tickets.{drawn_none}
use Rattle.ring_run.proofs.Remembering.{stands_there}
use Rattle.ring_run.proofs.Standing.{within_more}
use Rattle.ring_run.proofs.Progress.{usable_none}
use Rattle.ring_run.proofs.Telling.{told_step, told_model}

pub decided_search : (s : PortState) (t : TrailData) (w : WatchData) (n : ℕ) (l : Literal) → Searches s t w n → IsQuiet w (lits_at s) t → AreFirst t n → IsTrail (decided t l) → Searches s (decided t l) w n
decided_search s t w n l p q first shape =
    let x : TrailStep = record { lit = l; level = t.level + 1; reason = None } in
    record {
      clauses = p.clauses;
      opening = p.opening;
      stands = record {
        vars = p.stands.vars;
        reasoned = IsReasoned-decided (clause_at s) s.seen t l p.trail p.stands.reasoned;
        seen = λ k h. within_more t.steps (x ∷ []) 0 k (p.stands.seen k h);
      };
      trail = shape;
      watched = Watched-decide w (lits_at s) t l q.done p.watched;
      closed = λ k below. IsClosed-grown (clauses_of w (lits_at s)) t.steps x k (omega (arith, below)) (q.closed k);
      reasons = IsReasoned-decided (attached_at (attached w) s) s.seen t l p.trail p.reasons;
      told = told_step s t (decided t l) x n refl p.told (λ none. absurd (false≢true none)) (λ up. first) (λ up. omega arith);
    }

true_clause : (a : List Bool) (c : List Literal) (l : Literal) → has c l ≡ true → lit_true a l ≡ true → clause_true a c ≡ true
true_clause a [] l h e = absurd (false≢true h)
true_clause a (k ∷ c) l h e =
    elim (or_cases (same l k) (has c l) h) as (λ _. clause_true a (k ∷ c) ≡ true) [
      | inl s ↦ or_left (lit_true a k) (clause_true a c) (ap (lit_true a) (sym (same-true l k s)) ∙ e)
      | inr m ↦ or_right (lit_true a k) (clause_true a c) (true_clause a c l m e)
    ]

-- the variable of each literal has a value
abbrev pub HasValues : TrailData → List Literal → Type 0
HasValues t c = (l : Literal) → has c l ≡ true → IsSome (value_of t.steps l.var)

true_within : (steps : List TrailStep) (k : ℕ) (l : Literal) → TrueWithin steps k l → IsTrueOn steps l
true_within steps k l w = record { place = w.place; before = w.in_range; true_there = w.true_there }

-- the literal of a variable is the one or the other
one_of_two : (k l : Literal) → k.var ≡ l.var → (k ≡ l) ⊎ (k ≡ opposite l)
one_of_two k l e = by k.neg l.neg refl refl
  where
    by : (a b : Bool) → k.neg ≡ a → l.neg ≡ b → (k ≡ l) ⊎ (k ≡ opposite l)
    by true true p q = inl (same_lit k l e (p ∙ sym q))
    by true false p q = inr (same_lit k (opposite l) e (p ∙ sym (ap not q)))
    by false true p q = inr (same_lit k (opposite l) e (p ∙ sym (ap not q)))
    by false false p q = inl (same_lit k l e (p ∙ sym q))

-- a clause that is closed at the present level, if each of its variables has a value, is true
closed_true : (t : TrailData) (a : List Bool) (c : List Literal) → IsTrail t → HasValues t c → ((l : Literal) → IsTrueOn t.steps l → lit_true a l ≡ true) → IsClosedClause c t.steps t.level
    → clause_true a c ≡ true
closed_true t a c shape full all (inl p) = true_clause a c p.lit p.has_lit (all p.lit (true_within t.steps t.level p.lit p.within))
closed_true t a c shape full all (inr p) = by (value_of t.steps p.one.var) refl (full p.one p.has_one)
  where
    by : (o : Option Bool) → value_of t.steps p.one.var ≡ o → IsSome o → clause_true a c ≡ true
    by None is h = absurd (false≢true h)
    by (Some b) is h =
        let s = value_some t.steps p.one.var b is in
        let at = some_at t.steps p.one.var s.0 s.1 in
        let var : (lit_at t.steps at.0).var ≡ p.one.var = ap (λ (x : TrailStep). x.lit.var) at.2 ∙ at.3 in
        elim (one_of_two (lit_at t.steps at.0) p.one var) as (λ _. clause_true a c ≡ true) [
          | inl e ↦ true_clause a c p.one p.has_one (all p.one (record { place = at.0; before = at.1; true_there = e }))
          | inr e ↦ absurd (p.one_open (record { place = at.0; in_range = at.1; true_there = e; level = shape.within at.0 at.1 }))
        ]

pub full_model : (start s : PortState) (t : TrailData) (w : WatchData) (n k : ℕ) (d : DeciderData) (a : List Bool) → Searches s t w k → GoesOn start s n → IsQuiet w (lits_at s) t → Decides s d → AllValued d t.steps
    → length a ≡ t.vars → ((l : Literal) → IsTrueOn t.steps l → lit_true a l ≡ true) → IsModelOf s a
full_model start s t w n k decider a p goes quiet decides full long all = record {
  long = long ∙ p.stands.vars;
  start = λ k d lt. clause k d lt;
  opening = λ k d lt. of_seen (get_or s.opening k d) (p.opening (get_or s.opening k d) (In_has s.opening (get_or s.opening k d) (In_get_or s.opening k d lt)));
  seen = λ k d lt. of_seen (get_or s.seen k d) (In_has s.seen (get_or s.seen k d) (In_get_or s.seen k d lt));
}
  where
    of_seen : (l : Literal) → has s.seen l ≡ true → lit_true a l ≡ true
    of_seen l h = all l (true_within t.steps 0 l (p.stands.seen l h))

    clause : (k : ℕ) (d : Holding) → k < length s.start → clause_true a (get_or s.start k d).lits ≡ true
    clause k d lt =
        let h = get_or s.start k d in
        let there : Contains s.start h = In_Contains s.start h (In_get_or s.start k d lt) in
        let lits : lits_at s h.address ≡ h.lits = ap lits_in (goes.held k d lt) in
        let inside : Contains (clauses_of w (lits_at s)) (lits_at s h.address) = stands_there s (attached w) (record { address = h.address }) (p.clauses.starts h there) in
        closed_true t a h.lits p.trail (λ l has_it. full l.var (decides.active h l there has_it)) all
        (subst (λ (c : List Literal). IsClosedClause c t.steps t.level) lits (quiet.closed t.level (lits_at s h.address) inside))

pub model_found : (s : PortState) (ring : Ring) (a : List Bool) → InSearch s ring → IsQuiet ring.watches (lits_at s) ring.trail → AreFirst ring.trail ring.written → Decides s ring.decider → AllValued ring.decider ring.trail.steps
    → length a ≡ ring.trail.vars → ((l : Literal) → IsTrueOn ring.trail.steps l → lit_true a l ≡ true) → EndsBy s ring.learned s ring.learned (Sat a)
model_found s ring a p quiet first decides full long all = λ start goes. record {
  runs = goes.runs;
  cause = (
    full_model start s ring.trail ring.watches ring.learned ring.written ring.decider a p goes quiet decides full long all,
    usable_none s goes.refused,
    told_model s ring.trail ring.watches ring.written p quiet first,
    goes.going,
  );
  unset = goes.stop;
  tickets = (goes.draws.none, goes.draws.left);
  drawn = drawn_none s ring.learned goes.draws;
}

-- the port keeps its start clauses, and the decider which variables are active
pub decides_by : (s u : PortState) (d e : DeciderData) → Decides s d → u.start ≡ s.start → u.vars ≡ s.vars → e.active ≡ d.active → Decides u e
decides_by s u d e p start vars active = record {
  vars = ap length active ∙ p.vars ∙ sym vars;
  active = λ h l there has_it.
      (let a = p.active h l (subst (λ (hs : List Holding). Contains hs h) start there) has_it in
      record { low = a.low; high = subst (λ (bs : List Bool). l.var ≤ length bs) (sym active) a.high; active = subst (λ (bs : List Bool). slice_index_or bs (l.var - 1) false ≡ true) (sym active) a.active });
  only = λ v a.
      subst (λ (hs : List Holding). OccursIn (map (λ (h : Holding). h.lits) hs) v) (sym start)
      (p.only v (record { low = a.low; high = subst (λ (bs : List Bool). v ≤ length bs) active a.high; active = subst (λ (bs : List Bool). slice_index_or bs (v - 1) false ≡ true) active a.active }));
}

pub decides_same : (s u : PortState) (d e : DeciderData) → Decides s d → Stays s u → e.active ≡ d.active → Decides u e
decides_same s u d e p stays active = decides_by s u d e p stays.start stays.vars active

pub decides_moved : (s u w : PortState) (d e : DeciderData) → Decides u d → Stays s u → Stays s w → e.active ≡ d.active → Decides w e
decides_moved s u w d e p old new active = decides_by u w d e p (new.start ∙ sym old.start) (new.vars ∙ sym old.vars) active
