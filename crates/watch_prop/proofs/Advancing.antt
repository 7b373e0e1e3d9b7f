-- What the parts of propagation keep, one after another.
use Rattle.std.proofs.Common.{◌≡◌, ◌∙◌, refl, sym, subst, length, arith}
use Rattle.ring_port.specs.PortState.{PortState, lits_at}
use Rattle.ring_trail.specs.TrailData.{TrailData}
use Rattle.watch_prop.specs.declared.propagated.Propagated.{Propagated}
use Rattle.watch_prop.specs.declared.propagated.Propagated.TheVariants.{Quiet, Conflict}
use Rattle.watch_prop.specs.WatchData.{WatchData, Lits, attached}
use Rattle.watch_prop.specs.Watched.{Watched}
use Rattle.watch_prop.specs.Propagation.{HasReasons, IsQuiet, IsPropagated}
use Rattle.watch_prop.specs.Advancing.{HasAdvanced}
use Rattle.watch_prop.specs.Visiting.{IsEnd}
use Rattle.watch_prop.proofs.Growing.{HasGrown-refl, HasGrown-trans, closed_at}
use Rattle.watch_prop.proofs.Reasons.{Reasons-over, Reasons-back}
use Rattle.watch_prop.specs.Layout.{HaveGrown}
use Rattle.watch_prop.proofs.Rooms.{have-same, have-trans}
use Rattle.watch_prop.proofs.Quiets.{quiet-same}

-- nothing was done
pub advanced_none : (s : PortState) (w : WatchData) (t : TrailData) → HasReasons (attached w) s t.steps → Watched w (lits_at s) t → HasAdvanced s w w t t
advanced_none s w t r k = record { clauses = refl; vars = refl; grown = HasGrown-refl t; reasons = r; watched = k; rooms = have-same _ _ refl; still = λ q. refl }

-- only the watches changed
pub advanced_watches : (s : PortState) (v w : WatchData) (t : TrailData) → attached w ≡ attached v → w.vars ≡ v.vars → HaveGrown v.rooms w.rooms → HasReasons (attached v) s t.steps → Watched w (lits_at s) t → HasAdvanced s v w t t
advanced_watches s v w t e f g r k = record { clauses = e; vars = f; grown = HasGrown-refl t; reasons = r; watched = k; rooms = g; still = λ q. refl }

-- one part after another, over the same port
module _ (s r : PortState) (a b : WatchData) (t u : TrailData) (e : r ≡ s) (p : HasAdvanced s a b t u) where
  pub advanced_reasons : HasReasons (attached b) r u.steps
  advanced_reasons = Reasons-over (attached a) (attached b) s r u.steps p.clauses e p.reasons

  pub advanced_trans : (c : WatchData) (v : TrailData) → HasAdvanced r b c u v → HasAdvanced s a c t v
  advanced_trans c v q = record {
    clauses = q.clauses ∙ p.clauses;
    vars = q.vars ∙ p.vars;
    grown = HasGrown-trans t u v p.grown q.grown;
    reasons = Reasons-back (attached a) (attached b) s r v.steps p.clauses e q.reasons;
    watched = subst (λ (x : PortState). Watched c (lits_at x) v) e q.watched;
    rooms = have-trans a.rooms b.rooms c.rooms p.rooms q.rooms;
    still = λ quiet. (
        let f : u ≡ t = p.still quiet in
        q.still (subst (λ (x : PortState). IsQuiet b (lits_at x) u) (sym e) (quiet-same a b (lits_at s) t u p.clauses f quiet)) ∙ f);
  }

-- what running came to, once all clauses are settled
pub came_to : (x y : WatchData) (h : Lits) (u : TrailData) (o : Propagated) → x.settled ≡ length x.slots → length y.slots ≡ length x.slots → y.settled ≡ x.settled → Watched y h u → IsEnd y h u o → IsPropagated y h u o
came_to x y h u Quiet all len settled k end = record {
  done = end;
  closed = λ n. closed_at y h u n k
      (omega (arith, all, settled, len))
      (λ p lt le. omega (arith, end));
}
came_to x y h u (Conflict c) all len settled k end = end
