-- What loads leave is what looks leave, and what is found is what the port finds.
use Rattle.std.proofs.Common.{◌≡◌, ℕ, Option, IsSome, IfSome, subst, sym}
use Rattle.share_rule.specs.declared.view.View.{View}
use Rattle.share_rule.specs.Views.{clause_of, glue_in, only}
use Rattle.ref_count.specs.Scans.{OnlyLoaded}
use Rattle.ring_port.specs.PortState.{Holding, PortState, held_at}
use Rattle.ring_pass.specs.Looks.{OnlyLooked}
use Rattle.ring_pass.specs.RingState.{Own, port_of}
use Rattle.ring_pass.proofs.RingPorts.{held_here}

pub as_looked : (v w : View) → OnlyLoaded v w → OnlyLooked v w
as_looked v w h = record { parts = h.parts; layout = h.layout; opening = h.opening; stop = h.stop; looks = h.looks }

pub glue_found : (v : View) (o : Own) (s : PortState) (a n : ℕ) → port_of v o ≡ s → IsSome (held_at s a) → n ≡ glue_in (clause_of a v).number (only v).glues → IfSome (held_at s a) (λ h. n ≡ h.glue)
glue_found v o s a n is h e =
    let here = (held_here v o a (subst (λ (y : PortState). IsSome (held_at y a)) (sym is) h)).1 in
    subst (λ (y : PortState). IfSome (held_at y a) (λ k. n ≡ k.glue)) is (subst (λ (y : Option Holding). IfSome y (λ k. n ≡ k.glue)) (sym here) e)
