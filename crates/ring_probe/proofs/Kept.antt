-- What watches and reasons keep while lines are written.
use Rattle.std.proofs.Common.{◌≡◌, ◌∙◌, ℕ, ◌==◌, true, List, Option, Result, Ok, IsSome, sym, refl, ap, subst, Contains}
use Rattle.std.specs.Prelude.{IfOk}
use Rattle.std.specs.declared.alloc.AllocError.{AllocError}
use Rattle.std.specs.List.{find}
use Rattle.std.specs.Option.{option_map}
use Rattle.std.proofs.lemmas.Bool.{or_left}
use Rattle.sat_words.specs.Literal.{Literal, same}
use Rattle.sat_words.specs.Clause.{has}
use Rattle.sat_words.specs.declared.shared.Cref.{Cref}
use Rattle.rup_model.specs.declared.journal.Kind.{Kind}
use Rattle.drat_text.specs.LineState.{LineState}
use Rattle.ring_port.specs.declared.stops.PortStop.{PortStop}
use Rattle.ring_port.specs.declared.stops.PortStop.TheVariants.{Ended, Broken, ProofFault, NoHole, Memory}
use Rattle.ring_port.specs.PortState.{Holding, PortState, held_at, lits_at, lits_in}
use Rattle.ring_port.specs.Port.{WroteUnit, EndedLog, Refused, after_refusal}
use Rattle.ring_port.proofs.Holdings.{held_is_known}
use Rattle.ring_trail.specs.declared.step.TrailStep.{TrailStep}
use Rattle.ring_trail.specs.TrailData.{TrailData}
use Rattle.watch_prop.specs.WatchData.{WatchData, Lits}
use Rattle.watch_prop.specs.Watched.{Watched}
use Rattle.watch_prop.specs.Propagation.{HasReasons, IsConflict, IsPropagated}
use Rattle.watch_prop.specs.declared.propagated.Propagated.{Propagated}
use Rattle.watch_prop.proofs.Growing.{watch_of}
use Rattle.watch_prop.proofs.Entries.{attachable_held}
use Rattle.watch_prop.proofs.TrailLaws.{Reasons-more}
use Rattle.ring_port.specs.PortState.{known}

-- the same clauses are held

found_same : (s r : PortState) → r.held ≡ s.held → (a : ℕ) → held_at r a ≡ held_at s a
unfolding held_at
found_same s r e a = ap (λ (hs : List Holding). find (λ (h : Holding). h.address == a) hs) e

pub lits_same : (s r : PortState) → r.held ≡ s.held → lits_at r ≡ lits_at s
lits_same s r e = λ i. λ (a : ℕ). lits_in (found_same s r e a i)

pub watched_same : (s r : PortState) (w : WatchData) (t : TrailData) → r.held ≡ s.held → Watched w (lits_at s) t → Watched w (lits_at r) t
watched_same s r w t e h = subst (λ (lits : Lits). Watched w lits t) (sym (lits_same s r e)) h

pub reasons_same : (s r : PortState) (cs : List Cref) (steps : List TrailStep) → r.held ≡ s.held → ((l : Literal) → has s.seen l ≡ true → has r.seen l ≡ true) → HasReasons cs s steps → HasReasons cs r steps
reasons_same s r cs steps e seen h =
    Reasons-more cs cs s r steps (λ c m. (m, ap (λ (o : Option Holding). option_map (λ (k : Holding). k.lits) o) (found_same s r e c.address))) seen h

-- lines and refusals leave what is held

pub wrote_held : (s m : PortState) (l : Literal) (kind : Kind) (last : Option ℕ) → WroteUnit s m l kind last → m.held ≡ s.held
wrote_held s m l kind last k = ap (λ (x : PortState). x.held) k.state

pub wrote_seen : (s m : PortState) (l : Literal) (kind : Kind) (last : Option ℕ) → WroteUnit s m l kind last → (x : Literal) → has s.seen x ≡ true → has m.seen x ≡ true
wrote_seen s m l kind last k x h = k.sees x ∙ or_left (has s.seen x) (same l x) h

pub ended_held : (s m : PortState) → EndedLog s m → m.held ≡ s.held
ended_held s m k = ap (λ (x : PortState). x.held) k.state

pub ended_seen : (s m : PortState) → EndedLog s m → (x : Literal) → has s.seen x ≡ true → has m.seen x ≡ true
ended_seen s m k x h = subst (λ (y : PortState). has y.seen x ≡ true) (sym k.state) h

after_held : (s : PortState) (out : Option LineState) (stop : PortStop) → ((after_refusal s out stop).held ≡ s.held) × ((after_refusal s out stop).seen ≡ s.seen)
after_held s out Ended = (refl, refl)
after_held s out Broken = (refl, refl)
after_held s out ProofFault = (refl, refl)
after_held s out (NoHole lack) = (refl, refl)
after_held s out Memory = (refl, refl)

pub refused_held : (s m : PortState) (stop : PortStop) → Refused s m stop → m.held ≡ s.held
refused_held s m stop k = ap (λ (x : PortState). x.held) k.state ∙ (after_held s m.output stop).0

pub refused_seen : (s m : PortState) (stop : PortStop) → Refused s m stop → (x : Literal) → has s.seen x ≡ true → has m.seen x ≡ true
refused_seen s m stop k x h = ap (λ (y : PortState). has y.seen x) k.state ∙ ap (λ (ls : List Literal). has ls x) (after_held s m.output stop).1 ∙ h

-- a clause that is watched is held, and so may be used
pub conflict_known : (s : PortState) (w : WatchData) (t : TrailData) (c : Cref) → Watched w (lits_at s) t → IsConflict w (lits_at s) t c → Contains (known s) (lits_at s c.address)
conflict_known s w t c watched bad =
    let m = watch_of w c bad.member in
    subst (λ (x : Cref). Contains (known s) (lits_at s x.address)) m.3 (held_is_known s m.1.clause.address (attachable_held w.vars s m.1.clause.address (watched.clauses m.0 m.1 m.2)))

pub conflict_held : (s : PortState) (w : WatchData) (t : TrailData) (c : Cref) → Watched w (lits_at s) t → IsConflict w (lits_at s) t c → IsSome (held_at s c.address)
conflict_held s w t c watched bad =
    let m = watch_of w c bad.member in
    subst (λ (x : Cref). IsSome (held_at s x.address)) m.3 (attachable_held w.vars s m.1.clause.address (watched.clauses m.0 m.1 m.2))

-- what propagation came to
pub came_to : (s : PortState) (w : WatchData) (u : TrailData) (r : Result Propagated AllocError) (p q : Propagated) → r ≡ Ok p → p ≡ q → IfOk r (IsPropagated w (lits_at s) u) → IsPropagated w (lits_at s) u q
came_to s w u r p q e f h = subst (λ (x : Result Propagated AllocError). IfOk x (IsPropagated w (lits_at s) u)) (e ∙ ap Ok f) h
