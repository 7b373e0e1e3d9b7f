-- What is gathered into one pass.
use Rattle.std.proofs.Common.{◌≡◌, ℕ, zero, suc, ◌+◌, ◌<◌, ◌≤◌, List, [], ◌∷◌, ◌++◌, length, get_or, map, refl, sym, ap, subst, ◌∙◌, arith, Option, Some, None, All, eq-eqb, ◌==◌}
use Rattle.std.specs.Option.{option_map}
use mathlib.Core.Option.{some, some-injective, some-ne-none}
use mathlib.Core.Logic.{dite}
use native.Mathlib.Decide.{ℕ_discrete}
use lib.ListN.{get_elem?}
use Rattle.rup_model.specs.Basics.{one_if}
use Rattle.atomic_table.specs.declared.shared.Seat.{Seat}
use Rattle.share_core.specs.declared.event.Stop.{Stop}
use Rattle.share_core.specs.declared.part.CoreOpening.{CoreOpening}
use Rattle.share_core.proofs.Counting.{none_some}
use Rattle.share_rule.specs.declared.Layout.{Layout}
use Rattle.share_rule.specs.declared.Shared.{Shared}
use Rattle.share_rule.specs.declared.view.RingPart.{RingPart}
use Rattle.share_rule.specs.declared.view.View.{View}
use Rattle.share_rule.specs.Passes.{NoTurns}
use Rattle.share_rule.specs.Shown.{ring_of}
use Rattle.share_rule.specs.Steps.{new_part}
use Rattle.share_rule.specs.Views.{times_in, only, first_of}
use Rattle.ring_port.specs.PortState.{PortState}
use Rattle.ring_pass.specs.RingState.{port_with, stop_as}
use Rattle.ring_run.specs.declared.job.Counts.{Counts}
use Rattle.ring_run.specs.declared.job.End.{End}
use Rattle.ring_run.specs.declared.job.End.TheVariants.{Sat, Refuted, Spent, Stopped, NoHole, ProofFault, Memory}
use Rattle.ring_run.specs.Ended.{Ends}
use Rattle.model_stack.specs.declared.stack.Fix.{Fix}
use Rattle.portfolio_run.specs.declared.answer.Answer.{Answer}
use Rattle.portfolio_run.specs.declared.plan.Plan.{Plan}
use Rattle.portfolio_run.specs.Ends.{IsStopped, AreEndsOf}
use Rattle.portfolio_run.specs.Held.{no_counts}
use Rattle.portfolio_run.specs.Jobs.{RanTo}
use Rattle.portfolio_run.specs.Ports.{begun_at, job_at}
use Rattle.portfolio_run.specs.Reached.{IsGathered, HaveRun, HaveRested, IsIdle}
use Rattle.portfolio_run.specs.Runs.{RanAs, AreRun}
use Rattle.portfolio_run.specs.Seats.{IsSameTable, IsAtRest, HasRing, HasIdle, AreIdle, all_parts, stop_among, IsSettled}
use Rattle.portfolio_run.specs.Searched.{IsMended, HasRunTo}
use Rattle.portfolio_run.proofs.Each.{EachFrom, each_of, each_by, index_of}
use Rattle.portfolio_run.proofs.Rights.{HasFirst, same_both}
use Rattle.portfolio_run.proofs.Making.{new_settled}

-- Parts at their places

-- the ring of its place, which has not the turn and is settled
abbrev pub IsSeated : ℕ → RingPart → Type 0
IsSeated i x = (x.core.ring ≡ i) × (x.turn ≡ None) × IsSettled x

-- and which has written nothing
abbrev pub IsResting : ℕ → ℕ → RingPart → Type 0
IsResting rings i x = IsSeated i x × IsIdle rings x

pub at_place : {A : Type 0} (P : ℕ → A → Type 0) (k : ℕ) (xs : List A) → EachFrom P k xs → (i : ℕ) (x : A) → get_elem? xs i ≡ some x → P (k + i) x
at_place P k [] h i x e = absurd (some-ne-none x (sym e))
at_place P k (y ∷ ys) h zero x e = subst (λ (n : ℕ). P n x) (let q : k ≡ k + 0 = omega arith in q) (subst (P k) (some-injective y x e) h.0)
at_place P k (y ∷ ys) h (suc i) x e = subst (λ (n : ℕ). P n x) (let q : k + 1 + i ≡ k + suc i = omega arith in q) (at_place P (k + 1) ys h.1 i x e)

no_turns : (k : ℕ) (xs : List RingPart) → EachFrom IsSeated k xs → NoTurns xs
no_turns k [] h = tt
no_turns k (x ∷ xs) h = (h.0.1, no_turns (k + 1) xs h.1)

each_there : (k : ℕ) (xs : List RingPart) → EachFrom IsSeated k xs → (r : ℕ) → k ≤ r → r < k + length xs → 0 < times_in r (map ring_of xs)
each_there k [] h r le lt = absurd (omega arith)
each_there k (x ∷ xs) h r le lt = dite (ℕ_discrete k r)
    (λ e. let s : one_if (ring_of x == r) ≡ 1 = ap one_if (eq-eqb (ring_of x) r (h.0.0 ∙ e)) in omega arith)
    (λ ne. let m = each_there (k + 1) xs h.1 r (omega arith) (omega arith) in omega arith)

gathered : {B : Type 0} (t : Shared B) (v : View) (p : Seat (Option B) View) → IsAtRest t p → IsSameTable v p.me.0 → length p.me.0.parts ≡ v.opening.rings → EachFrom IsSeated 0 p.me.0.parts → IsGathered t v p
gathered t v p rest same many each = record {
  pass = rest;
  same = same;
  whole = λ r lt. let rings = ap (λ (o : CoreOpening). o.rings) same.opening in each_there 0 p.me.0.parts each r (omega arith) (omega arith);
  many = many;
  free = no_turns 0 p.me.0.parts each;
  settled = λ i d lt. (index_of IsSeated p.me.0.parts each i d lt).2;
}

resting : {B : Type 0} (t : Shared B) (v : View) (p : Seat (Option B) View) → IsAtRest t p → IsSameTable v p.me.0 → length p.me.0.parts ≡ v.opening.rings → EachFrom (IsResting t.layout.rings) 0 p.me.0.parts → HaveRested t v p
resting t v p rest same many each = record {
  gathered = gathered t v p rest same many (each_by (IsResting t.layout.rings) IsSeated 0 p.me.0.parts (λ n x h. h.0) each);
  idle = λ i x e. (at_place (IsResting t.layout.rings) 0 p.me.0.parts each i x e).1;
}

new_rests : (rings : ℕ) (o : CoreOpening) (i : ℕ) (x : RingPart) → x ≡ new_part o i → IsResting rings i x
new_rests rings o i x is = ((ap (λ (y : RingPart). y.core.ring) is, ap (λ (y : RingPart). y.turn) is, new_settled o i x is), (ap (λ (y : RingPart). y.core.wrote) is, λ one. ap (λ (y : RingPart). y.failed) is))

-- all rings were granted, and taken in at once
pub all_granted : {B : Type 0} (t : Shared B) (v : View) (p : Seat (Option B) View) (rings : ℕ) → HasFirst t v p rings → rings ≡ v.opening.rings → HaveRested t v p
all_granted t v p rings at all = resting t v p at.pass at.same (at.many ∙ all) (each_by (λ (i : ℕ) (x : RingPart). x ≡ new_part v.opening i) (IsResting t.layout.rings) 0 p.me.0.parts (new_rests t.layout.rings v.opening) at.parts)

-- Passes of one ring

module _ {B : Type 0} (P : ℕ → Seat (Option B) View → Type 0) (one : (n : ℕ) (p : Seat (Option B) View) → P n p → p.me.0.parts ≡ only p.me.0 ∷ []) where
  parts_each : (Q : ℕ → RingPart → Type 0) → ((n : ℕ) (p : Seat (Option B) View) → P n p → Q n (only p.me.0)) → (k : ℕ) (ps : List (Seat (Option B) View)) → EachFrom P k ps → EachFrom Q k (all_parts ps)
  parts_each Q f k [] h = tt
  parts_each Q f k (p ∷ ps) h = subst (λ (xs : List RingPart). EachFrom Q k (xs ++ all_parts ps)) (sym (one k p h.0)) (f k p h.0, parts_each Q f (k + 1) ps h.1)

  parts_many : (k : ℕ) (ps : List (Seat (Option B) View)) → EachFrom P k ps → length (all_parts ps) ≡ length ps
  parts_many k [] h = refl
  parts_many k (p ∷ ps) h =
      let l : length (p.me.0.parts ++ all_parts ps) ≡ length (all_parts ps) + 1 = ap (λ (xs : List RingPart). length (xs ++ all_parts ps)) (one k p h.0) ∙ (let c : length (only p.me.0 ∷ all_parts ps) ≡ length (all_parts ps) + 1 = omega arith in c) in
      let m = parts_many (k + 1) ps h.1 in
      omega arith

  parts_at : (k : ℕ) (ps : List (Seat (Option B) View)) → EachFrom P k ps → (i : ℕ) (d : Seat (Option B) View) → i < length ps → get_elem? (all_parts ps) i ≡ some (only (get_or ps i d).me.0)
  parts_at k [] h i d lt = absurd (omega arith)
  parts_at k (p ∷ ps) h zero d lt = ap (λ (xs : List RingPart). get_elem? (xs ++ all_parts ps) 0) (one k p h.0)
  parts_at k (p ∷ ps) h (suc i) d lt = ap (λ (xs : List RingPart). get_elem? (xs ++ all_parts ps) (suc i)) (one k p h.0) ∙ parts_at (k + 1) ps h.1 i d (omega arith)

-- passes of idle rings are taken in
pub all_idle : {B : Type 0} (t : Shared B) (v : View) (p : Seat (Option B) View) (ps : List (Seat (Option B) View)) → IsAtRest t p → IsSameTable v p.me.0 → p.me.0.parts ≡ all_parts ps → length ps ≡ v.opening.rings → AreIdle t ps → HaveRested t v p
all_idle {B} t v p ps rest same parts many idle =
    let each = each_of (HasIdle t) ps idle in
    let one : (n : ℕ) (q : Seat (Option B) View) → HasIdle t n q → q.me.0.parts ≡ only q.me.0 ∷ [] = λ n q h. h.has.one in
    resting t v p rest same (ap length parts ∙ parts_many (HasIdle t) one 0 ps each ∙ many)
    (subst (EachFrom (IsResting t.layout.rings) 0) (sym parts) (parts_each (HasIdle t) one (IsResting t.layout.rings) (λ n q h. ((h.has.ring_is, h.has.free, h.has.settled), (h.idle, h.calm))) 0 ps each))

-- each of them is at rest
pub all_rest : {B : Type 0} (t : Shared B) (ps : List (Seat (Option B) View)) → ((i : ℕ) (d : Seat (Option B) View) → i < length ps → HasRing t i (get_or ps i d)) → All (IsAtRest t) ps
all_rest t ps have = λ i d lt. (have i d lt).pass

-- Stops

first_none : (s x : Option Stop) → first_of s x ≡ None → (s ≡ None) × (x ≡ None)
first_none None x e = (refl, e)
first_none (Some t) x e = absurd (none_some t (sym e))

stop_start : {B : Type 0} (s : Option Stop) (ps : List (Seat (Option B) View)) → stop_among s ps ≡ None → s ≡ None
stop_start s [] e = e
stop_start s (p ∷ ps) e = (first_none s p.me.0.stop (stop_start (first_of s p.me.0.stop) ps e)).0

-- if none is known of all, none is known of each
stop_none : {B : Type 0} (s : Option Stop) (ps : List (Seat (Option B) View)) → stop_among s ps ≡ None → (i : ℕ) (d : Seat (Option B) View) → i < length ps → (get_or ps i d).me.0.stop ≡ None
stop_none s [] e i d lt = absurd (omega arith)
stop_none s (p ∷ ps) e zero d lt = (first_none s p.me.0.stop (stop_start (first_of s p.me.0.stop) ps e)).1
stop_none s (p ∷ ps) e (suc i) d lt = stop_none (first_of s p.me.0.stop) ps e i d (omega arith)

unstopped : (s : PortState) (e : End) → Ends s e → s.stop ≡ None → IsStopped e → ⊥
unstopped s (Sat a) h none stopped = absurd stopped
unstopped s Refuted h none stopped = absurd stopped
unstopped s Spent h none stopped = absurd stopped
unstopped s (Stopped x) h none stopped = none_some x (sym none ∙ h.cause.0)
unstopped s (NoHole x) h none stopped = absurd stopped
unstopped s ProofFault h none stopped = absurd stopped
unstopped s Memory h none stopped = absurd stopped

-- Runs

-- passes of rings that ran are taken in
pub have_run : {B : Type 0} (t : Shared B) (v : View) (home : List ℕ) (plan : Plan) (p : Seat (Option B) View) (ps : List (Seat (Option B) View)) (ends : List (End × Counts)) (s : Option Stop)
    → IsAtRest t p → IsSameTable v p.me.0 → p.me.0.parts ≡ all_parts ps → p.me.0.stop ≡ stop_among s ps → length ps ≡ v.opening.rings → length ends ≡ length ps → AreRun t v home plan ps ends → HaveRun t v home plan p ends
have_run {B} t v home plan p ps ends s rest same parts stop many long run = record {
  gathered = gathered t v p rest same (ap length parts ∙ parts_many (HasRing t) one 0 ps each ∙ many) (subst (EachFrom IsSeated 0) (sym parts) (parts_each (HasRing t) one IsSeated (λ n q h. (h.ring_is, h.free, h.settled)) 0 ps each));
  many = long ∙ many;
  ended = λ i d lt.
      let below : i < length ps = omega arith in
      let r = run i p d below in
      let q = get_or ps i p in
      record {
        part = only q.me.0;
        there = there i below;
        ring_is = r.has.ring_is;
        set = r.ran.set;
        unstopped = λ none. unstopped (port_with (record v { stop = q.me.0.stop; looks = r.ran.looks }) (only q.me.0) r.ran.own) (get_or ends i d).0 r.ran.ran.ends (ap (λ (x : Option Stop). option_map stop_as x) (stop_none s ps (sym stop ∙ none) i p below));
      };
  ran = λ i d lt.
      let below : i < length ps = omega arith in
      let r = run i p d below in
      record { part = only (get_or ps i p).me.0; there = there i below; ring_is = r.has.ring_is; seen = (get_or ps i p).me.0.stop; ran = r.ran };
}
  where
    each : EachFrom (HasRing t) 0 ps
    each = each_of (HasRing t) ps (λ i d lt. (run i d (Spent, no_counts) lt).has)

    one : (n : ℕ) (q : Seat (Option B) View) → HasRing t n q → q.me.0.parts ≡ only q.me.0 ∷ []
    one n q h = h.one

    there : (i : ℕ) → i < length ps → get_elem? p.me.0.parts i ≡ some (only (get_or ps i p).me.0)
    there i lt = ap (λ (xs : List RingPart). get_elem? xs i) parts ∙ parts_at (HasRing t) one 0 ps each i p lt

-- a run over a table is one over whatever has the same layout and opening
ran_same : (u v : View) (home name : List ℕ) (plan : Plan) (ring : ℕ) (seen : Option Stop) (part : RingPart) (end : End) (counts : Counts) → u.layout ≡ v.layout → u.opening ≡ v.opening → home ≡ name → RanAs v name plan ring seen part end counts → RanAs u home plan ring seen part end counts
ran_same u v home name plan ring seen part end counts lay open_is named r = record {
  own = r.own;
  looks = r.looks;
  ran = subst (λ (l : Layout). F l u.opening home) (sym lay) (subst (λ (o : CoreOpening). F v.layout o home) (sym open_is) (subst (λ (h : List ℕ). F v.layout v.opening h) (sym named) r.ran));
  ended_is = r.ended_is;
  refused_is = r.refused_is;
  faulty_is = r.faulty_is;
  alone_is = λ one. r.alone_is (sym (ap (λ (o : CoreOpening). o.rings) open_is) ∙ one);
  set = r.set;
}
  where
    F : Layout → CoreOpening → List ℕ → Type 0
    F l o h = RanTo (begun_at (record u { layout = l; opening = o }) h ring) (job_at (record u { layout = l; opening = o }) plan ring) (port_with (record u { stop = seen; looks = r.looks; layout = l; opening = o }) part r.own) end counts

pub run_same : {B : Type 0} (t : Shared B) (u v : View) (home name : List ℕ) (plan : Plan) (p : Seat (Option B) View) (ends : List (End × Counts)) → IsSameTable u v → name ≡ home → HaveRun t v name plan p ends → HaveRun t u home plan p ends
run_same t u v home name plan p ends same named h = record {
  gathered = record { pass = h.gathered.pass; same = same_both u v p.me.0 same h.gathered.same; whole = h.gathered.whole; many = h.gathered.many ∙ ap (λ (o : CoreOpening). o.rings) same.opening; free = h.gathered.free; settled = h.gathered.settled };
  many = h.many ∙ ap (λ (o : CoreOpening). o.rings) same.opening;
  ended = h.ended;
  ran = λ i d lt.
      let r = h.ran i d lt in
      record { part = r.part; there = r.there; ring_is = r.ring_is; seen = r.seen; ran = ran_same u v home name plan i r.seen r.part (get_or ends i d).0 (get_or ends i d).1 (sym same.layout) (sym same.opening) (sym named) r.ran };
}

-- if the pass has only looked at the stop since
pub run_looked : {B : Type 0} (t : Shared B) (v : View) (home : List ℕ) (plan : Plan) (p q : Seat (Option B) View) (ends : List (End × Counts)) → IsAtRest t q → IsSameTable p.me.0 q.me.0 → q.me.0.parts ≡ p.me.0.parts → AreEndsOf q.me.0 ends → HaveRun t v home plan p ends → HaveRun t v home plan q ends
run_looked t v home plan p q ends rest same parts ends_are h = record {
  gathered = record {
    pass = rest;
    same = same_both v p.me.0 q.me.0 h.gathered.same same;
    whole = λ r lt. subst (λ (xs : List RingPart). 0 < times_in r (map ring_of xs)) (sym parts) (h.gathered.whole r (let rings = ap (λ (o : CoreOpening). o.rings) same.opening in omega arith));
    many = ap length parts ∙ h.gathered.many;
    free = subst NoTurns (sym parts) h.gathered.free;
    settled = subst (All IsSettled) (sym parts) h.gathered.settled;
  };
  many = h.many;
  ended = ends_are;
  ran = λ i d lt.
      let r = h.ran i d lt in
      record { part = r.part; there = ap (λ (xs : List RingPart). get_elem? xs i) parts ∙ r.there; ring_is = r.ring_is; seen = r.seen; ran = r.ran };
}

-- Models

-- a model is as long as the table has variables
mended_end : (s : PortState) (e : End) (vars : ℕ) (stack : List Fix) → Ends s e → vars ≤ s.vars → All (λ (fix : Fix). fix.lit.var ≤ s.vars) stack → IsMended vars stack e
mended_end s (Sat a) vars stack h more fits = (subst (λ (n : ℕ). vars ≤ n) (sym h.cause.0.long) more, subst (λ (n : ℕ). All (λ (fix : Fix). fix.lit.var ≤ n) stack) (sym h.cause.0.long) fits)
mended_end s Refuted vars stack h more fits = tt
mended_end s Spent vars stack h more fits = tt
mended_end s (Stopped x) vars stack h more fits = tt
mended_end s (NoHole x) vars stack h more fits = tt
mended_end s ProofFault vars stack h more fits = tt
mended_end s Memory vars stack h more fits = tt

pub mended_ends : {B : Type 0} (t : Shared B) (v : View) (home : List ℕ) (plan : Plan) (p : Seat (Option B) View) (ends : List (End × Counts)) (vars : ℕ) (stack : List Fix) → v.layout ≡ t.layout → vars ≤ t.layout.vars → All (λ (fix : Fix). fix.lit.var ≤ t.layout.vars) stack → HaveRun t v home plan p ends → All (λ (e : End × Counts). IsMended vars stack e.0) ends
mended_ends t v home plan p ends vars stack lay more fits h = λ i d lt.
    let r = h.ran i d lt in
    mended_end (port_with (record v { stop = r.seen; looks = r.ran.looks }) r.part r.ran.own) (get_or ends i d).0 vars stack r.ran.ran.ends (subst (λ (l : Layout). vars ≤ l.vars) (sym lay) more) (subst (λ (l : Layout). All (λ (fix : Fix). fix.lit.var ≤ l.vars) stack) (sym lay) fits)

-- Answers

-- what the rings of the same table ran to
pub ran_to_same : {B : Type 0} (t : Shared B) (u v : View) (home name : List ℕ) (plan : Plan) (vars : ℕ) (stack : List Fix) (p : Seat (Option B) View) (tally : List Counts) (answer : Answer) → IsSameTable u v → name ≡ home → HasRunTo t v name plan vars stack p tally answer → HasRunTo t u home plan vars stack p tally answer
ran_to_same t u v home name plan vars stack p tally answer same named h = record {
  ends = h.ends;
  run = run_same t u v home name plan p h.ends same named h.run;
  tally_is = h.tally_is;
  decided = h.decided;
}
