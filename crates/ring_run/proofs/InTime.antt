-- Whether a ring reduces its lemmas in time.
use Rattle.std.proofs.Common.{◌≡◌, ◌∙◌, ℕ, ◌+◌, ◌-◌, ◌*◌, ◌%◌, Bool, true, false, List, [], ◌∷◌, length, sym, ap, arith, Some, None, Ok}
use Rattle.std.specs.Prelude.{if◌then◌else◌}
use Rattle.std.specs.declared.option.Option.{Option}
use Rattle.sat_words.specs.Literal.{Literal}
use Rattle.sat_words.specs.declared.shared.Cref.{Cref}
use Rattle.rup_model.specs.Journal.{recent}
use Rattle.rup_model.specs.declared.journal.Entry.{Entry}
use Rattle.rup_model.specs.declared.journal.Kind.TheVariants.{Learn}
use Rattle.ring_port.specs.PortState.{PortState}
use Rattle.ring_port.specs.Port.{Learned}
use Rattle.restart_plan.specs.Luby.{luby_sum}
use Rattle.restart_plan.specs.Plan.{Restarting, luby_unit, asked, restarted, is_due}
use Rattle.ring_run.specs.Ended.{IsInTime, IsReducedInTime, ReducesBy, IsHalted, reductions}
use Rattle.ring_run.specs.Searching.{OnlyWrote}
use Rattle.ring_run.specs.Strategy.{IsPaced}
use Rattle.ring_run.specs.Course.{IsInTimeAt, IsInTimeBy, SumsUp}
use Rattle.ring_run.specs.declared.ring.Ring.{Ring}
use Rattle.ring_run.specs.declared.job.Counts.{Counts}
use Rattle.ring_run.specs.declared.job.End.{End}
use Rattle.ring_run.specs.declared.job.End.TheVariants.{Sat, Refuted, Spent, Stopped, NoHole, ProofFault, Memory}
use Rattle.ring_run.specs.declared.course.Next.{Next}
use Rattle.ring_run.specs.declared.course.Next.TheVariants.{Go, Finish}
use Rattle.ring_run.proofs.Progress.{recent_lemma, recent_still}
use Rattle.ring_run.proofs.Numbering.{reductions_still, reductions_other}

-- What calls keep

pub in_time_as : (s u : PortState) (n : ℕ) → length (recent u.ring u.mine) ≡ length (recent s.ring s.mine) → reductions u.ring u.mine ≡ reductions s.ring s.mine → IsInTime s n → IsInTime u n
in_time_as s u n lately reduced h = omega (arith, h, lately, reduced)

pub in_time_same : (s u : PortState) (n : ℕ) → u.ring ≡ s.ring → u.mine ≡ s.mine → IsInTime s n → IsInTime u n
in_time_same s u n ring mine h = in_time_as s u n (ap (λ (cs : List (List Literal)). length cs) (recent_still s u ring mine)) (reductions_still s u ring mine) h

pub in_time_wrote : (s u : PortState) (n : ℕ) → OnlyWrote s u → IsInTime s n → IsInTime u n
in_time_wrote s u n w h = in_time_as s u n (ap (λ (cs : List (List Literal)). length cs) w.recent) w.reduced h

pub in_time_more : (s : PortState) (n m : ℕ) → n ≡ m → IsInTime s n → IsInTime s m
in_time_more s n m is h = omega (arith, h, is)

-- before anything was learned
pub in_time_begin : (s : PortState) (n : ℕ) → s.mine ≡ [] → IsInTime s n
in_time_begin s n none = let lately = ap (λ (J : List Entry). length (recent s.ring J)) none in omega (arith, lately)

-- after a lemma
pub in_time_learned : (s u : PortState) (lits : List Literal) (glue : ℕ) (address : Option Cref) (n : ℕ) → Learned s u lits glue (Ok address) → IsInTime s n → IsInTime u (n + 1)
in_time_learned s u lits glue (Some c) n w h =
    let ring = ap (λ (x : PortState). x.ring) w.state in
    let mine = ap (λ (x : PortState). x.mine) w.state in
    let lately = recent_lemma s u w.number lits w.hints ring mine in
    let reduced = reductions_other s u (record { ring = s.ring; number = w.number; lits = lits; kind = Learn; hints = w.hints }) ring mine in
    omega (arith, h, lately, reduced)
in_time_learned s u lits glue None n w h =
    let ring = ap (λ (x : PortState). x.ring) w.wrote.state in
    let mine = ap (λ (x : PortState). x.mine) w.wrote.state in
    let lately = recent_lemma s u w.wrote.number (w.lit ∷ []) w.wrote.hints ring mine in
    let reduced = reductions_other s u (record { ring = s.ring; number = w.wrote.number; lits = w.lit ∷ []; kind = Learn; hints = w.wrote.hints }) ring mine in
    omega (arith, h, lately, reduced)

-- where it was asked whether a restart is due, and none is
pub asked_since : (r : Restarting) → is_due r ≡ false → (asked r).since ≡ r.since
asked_since r is = ap (λ (b : Bool). (if b then restarted r else r).since) is

-- At the end

pub in_time_halted : (s : PortState) (r : Restarting) (end : End) → IsHalted end → IsInTimeAt s r end
in_time_halted s r (Sat a) h = absurd h
in_time_halted s r Refuted h = tt
in_time_halted s r Spent h = absurd h
in_time_halted s r (Stopped x) h = tt
in_time_halted s r (NoHole lack) h = tt
in_time_halted s r ProofFault h = tt
in_time_halted s r Memory h = tt

pub in_time_end : (s : PortState) (r : Restarting) (end : End) → IsInTime s r.since → IsInTimeAt s r end
in_time_end s r (Sat a) h = h
in_time_end s r Refuted h = tt
in_time_end s r Spent h = h
in_time_end s r (Stopped x) h = tt
in_time_end s r (NoHole lack) h = tt
in_time_end s r ProofFault h = tt
in_time_end s r Memory h = tt

pub in_time_any : (s : PortState) (ring : Ring) (course : Next) → IsInTime s ring.restarts.since → IsInTimeBy s ring course
in_time_any s ring Go h = λ settled. h
in_time_any s ring (Finish end) h = in_time_end s ring.restarts end h

-- what Luby's sequence says
pub sums_exact : (r : Restarting) (learned : ℕ) → IsPaced r learned → SumsUp r
sums_exact r learned p odd = (p.exact odd).all

-- so a run that counted this many lemmas and restarts had reduced its lemmas in time
pub reduced_counts : (s : PortState) (r : Restarting) (counts : Counts) → (s.ring % 2 ≡ 1 → r.odd ≡ true) → SumsUp r → r.count ≡ counts.learned → counts.restarts ≡ r.made → IsInTime s r.since → IsReducedInTime s counts
reduced_counts s r counts odd sums learned made h is =
    let all = sums (odd is) in
    let first : luby_unit * luby_sum counts.restarts ≡ luby_unit * luby_sum r.made = ap (λ (k : ℕ). luby_unit * luby_sum k) made in
    in_time_more s r.since (counts.learned - luby_unit * luby_sum counts.restarts) (omega (arith, all, first, learned)) h

pub reduced_by : (s : PortState) (r : Restarting) (counts : Counts) (end : End) → (s.ring % 2 ≡ 1 → r.odd ≡ true) → SumsUp r → r.count ≡ counts.learned → counts.restarts ≡ r.made → IsInTimeAt s r end → ReducesBy s counts end
reduced_by s r counts (Sat a) odd sums learned made h = reduced_counts s r counts odd sums learned made h
reduced_by s r counts Refuted odd sums learned made h = tt
reduced_by s r counts Spent odd sums learned made h = reduced_counts s r counts odd sums learned made h
reduced_by s r counts (Stopped x) odd sums learned made h = tt
reduced_by s r counts (NoHole lack) odd sums learned made h = tt
reduced_by s r counts ProofFault odd sums learned made h = tt
reduced_by s r counts Memory odd sums learned made h = tt

-- if the stop of an end is set
reduced_moved : (s u : PortState) (counts : Counts) → u.ring ≡ s.ring → u.mine ≡ s.mine → IsReducedInTime s counts → IsReducedInTime u counts
reduced_moved s u counts ring mine p odd = in_time_same s u (counts.learned - luby_unit * luby_sum counts.restarts) ring mine (p (ap (λ (n : ℕ). n % 2) (sym ring) ∙ odd))

pub reduced_stopped : (s u : PortState) (counts : Counts) (end : End) → u.ring ≡ s.ring → u.mine ≡ s.mine → ReducesBy s counts end → ReducesBy u counts end
reduced_stopped s u counts (Sat a) ring mine p = reduced_moved s u counts ring mine p
reduced_stopped s u counts Refuted ring mine p = tt
reduced_stopped s u counts Spent ring mine p = reduced_moved s u counts ring mine p
reduced_stopped s u counts (Stopped x) ring mine p = tt
reduced_stopped s u counts (NoHole lack) ring mine p = tt
reduced_stopped s u counts ProofFault ring mine p = tt
reduced_stopped s u counts Memory ring mine p = tt
