-- A search step by step.
use Rattle.std.proofs.Common.{◌≡◌, ℕ, ◌+◌, List, [], length, map, All, Some, None, IsSome, sym, refl, ap, subst, arith, get_or}
use Rattle.std.specs.declared.option.Option.{Option}
use Rattle.sat_words.specs.Literal.{Literal}
use Rattle.sat_words.specs.declared.shared.Cref.{Cref}
use Rattle.rup_model.proofs.Lists.{In_get_or, map_In}
use Rattle.ring_port.specs.PortState.{Holding, HoldsStart, PortState, held_at, lits_at}
use Rattle.ring_port.proofs.Holdings.{All_In}
use Rattle.ring_trail.specs.declared.step.TrailStep.{TrailStep}
use Rattle.ring_trail.specs.TrailData.{TrailData, IsTrail, HasGrown, decided}
use Rattle.ring_trail.specs.Closed.{IsClosed}
use Rattle.ring_trail.proofs.Causes.{IsReasoned-decided, IsClosed-grown, IsClosed-more}
use Rattle.watch_prop.specs.WatchData.{WatchData, Lits, attached, clauses_of}
use Rattle.watch_prop.specs.Watched.{Watched, IsFresh}
use Rattle.watch_prop.specs.Propagation.{attached_at, HasReasons, IsQuiet}
use Rattle.watch_prop.proofs.TrailLaws.{Watched-decide}
use Rattle.test_ring.specs.Stepping.{IsStepping}

-- the start clauses are held at their addresses
pub starts_held : (s : PortState) → HoldsStart s → All (λ (c : Cref). IsSome (held_at s c.address)) (map (λ (h : Holding). record { address = h.address }) s.start)
starts_held s p = λ k d h.
    (let cs = map (λ (x : Holding). record { address = x.address }) s.start in
    let t = map_In (λ (x : Holding). record { address = x.address }) s.start (get_or cs k d) (In_get_or cs k d h) in
    subst (λ (c : Cref). IsSome (held_at s c.address)) t.2 (of_start t.0 (All_In (λ (x : Holding). held_at s x.address ≡ Some x) s.start t.0 p t.1)))
  where
    of_start : (h : Holding) → held_at s h.address ≡ Some h → IsSome (held_at s h.address)
    of_start h e = subst (λ (o : Option Holding). IsSome o) (sym e) refl

-- no clause is attached, and nothing is true
pub begun : (s : PortState) (w : WatchData) (t : TrailData) (n : ℕ) → t ≡ record { vars = n; level = 0; steps = []; done = 0 } → IsTrail t → ((lits : Lits) (u : TrailData) → u.vars ≡ n → IsFresh u → Watched w lits u) → IsStepping s w t
begun s w t n e shape watched =
    let steps : t.steps ≡ [] = ap (λ (u : TrailData). u.steps) e in
    let level : t.level ≡ 0 = ap (λ (u : TrailData). u.level) e in
    record {
      trail = shape;
      watched = watched (lits_at s) t (ap (λ (u : TrailData). u.vars) e) (subst IsFresh (sym e) (λ p le lt. absurd (omega arith)));
      closed = λ k below. absurd (omega (arith, below, level));
      reasons = bare_reasons s w t.steps steps;
    }
  where
    bare_reasons : (s : PortState) (w : WatchData) (steps : List TrailStep) → steps ≡ [] → HasReasons (attached w) s steps
    bare_reasons s w steps is = subst (λ (xs : List TrailStep). HasReasons (attached w) s xs) (sym is) (record { caused = λ p h. absurd (omega arith) })

-- other clauses are attached if nothing is true
pub attached_stepping : (s : PortState) (w x : WatchData) (t : TrailData) → t.steps ≡ [] → IsTrail t → Watched x (lits_at s) t → IsStepping s x t
attached_stepping s w x t steps shape watched = record {
  trail = shape;
  watched = watched;
  closed = λ k below. absurd (
      let none : length t.steps ≡ 0 = ap (λ (xs : List TrailStep). length xs) steps in
      let levels = shape.levels in
      omega (arith, below));
  reasons = subst (λ (xs : List TrailStep). HasReasons (attached x) s xs) (sym steps) (record { caused = λ p h. absurd (omega arith) });
}

-- what propagation leaves
pub grown_stepping : (s : PortState) (w x : WatchData) (t u : TrailData) → IsStepping s w t → IsTrail u → attached x ≡ attached w → HasGrown t u → HasReasons (attached w) s u.steps → Watched x (lits_at s) u → IsStepping s x u
grown_stepping s w x t u p shape same grown reasons watched = record {
  trail = shape;
  watched = watched;
  closed = λ k below. subst (λ (cs : List Cref). IsClosed (map (λ (c : Cref). lits_at s c.address) cs) u.steps k) (sym same)
      (subst (λ (steps : List TrailStep). IsClosed (clauses_of w (lits_at s)) steps k) (sym grown.steps)
      (IsClosed-more (clauses_of w (lits_at s)) t.steps grown.more k (λ q d h. (let e = grown.at_level q d h in omega (arith, grown.level, below)))
      (p.closed k (omega (arith, grown.level, below)))));
  reasons = subst (λ (cs : List Cref). HasReasons cs s u.steps) (sym same) reasons;
}

-- a decision if nothing is left to propagate
pub decided_stepping : (s : PortState) (w : WatchData) (t u : TrailData) (l : Literal) → IsStepping s w t → IsQuiet w (lits_at s) t → u ≡ decided t l → IsTrail u → IsStepping s w u
decided_stepping s w t u l p q is shape =
    let x : TrailStep = record { lit = l; level = t.level + 1; reason = None } in
    subst (IsStepping s w) (sym is) (record {
      trail = subst IsTrail is shape;
      watched = Watched-decide w (lits_at s) t l q.done p.watched;
      closed = λ k below. IsClosed-grown (clauses_of w (lits_at s)) t.steps x k (omega (arith, below)) (q.closed k);
      reasons = IsReasoned-decided (attached_at (attached w) s) s.seen t l p.trail p.reasons;
    })
