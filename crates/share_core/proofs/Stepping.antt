-- A step keeps a core; steps make a run.
use Rattle.std.proofs.Common.{◌≡◌, ◌*◌, List, [], ◌∷◌, ◌++◌, length, refl, sym, ap, ◌∙◌, subst}
use Rattle.share_core.specs.declared.event.Event.{Event}
use Rattle.share_core.specs.declared.running.Step.{Step}
use Rattle.share_core.specs.declared.running.Step.TheVariants.{Done, Refused}
use Rattle.share_core.specs.State.{State}
use Rattle.share_core.specs.Enabled.{IsEnabled}
use Rattle.share_core.specs.Events.{after}
use Rattle.share_core.specs.Sound.{Sound}
use Rattle.share_core.specs.Machine.{CoreData, state_of, Logged, Kept}
use Rattle.share_core.specs.Steps.{Steps, and_then, Runs}
use Rattle.share_core.proofs.Steps.{event_sound, event_opening}

pub kept_after : (d n : CoreData) (e : Event) → Kept d → IsEnabled (state_of d) e → state_of n ≡ after (state_of d) e → Logged n → length n.slots ≡ length d.slots → Kept n
kept_after d n e k enabled is logged slots =
    let R : length n.rings ≡ length d.rings = ap (λ (s : State). s.opening.rings) is ∙ ap (λ o. o.rings) (event_opening (state_of d) e) in
    let D : n.depth ≡ d.depth = ap (λ (s : State). s.opening.depth) is ∙ ap (λ o. o.depth) (event_opening (state_of d) e) in
    record {
      wide = slots ∙ k.wide ∙ (λ j. 4 * (sym R j * sym R j) * sym D j);
      sound = subst Sound (sym is) (event_sound (state_of d) e k.sound enabled);
      logged = logged;
    }

-- one more step
pub runs_more : (c : State) (es : List Event) (s : Step) (d : State) (e : Event) (t : Step) (f : State) → Runs c es s d → Steps d e t f → Runs c (es ++ e ∷ []) (and_then s t) f
runs_more c [] s d e t f h k = (t, f, Done, subst (λ (x : State). Steps x e t f) h.1 k, (refl, refl), ap (λ (x : Step). and_then x t) h.0 ∙ last t)
  where
    last : (x : Step) → x ≡ and_then x Done
    last Done = refl
    last Refused = refl
runs_more c (x ∷ es) s d e t f h k = (h.0, h.1, and_then h.2 t, h.3, runs_more h.1 es h.2 d e t f h.4 k, ap (λ (y : Step). and_then y t) h.5 ∙ assoc h.0 h.2 t)
  where
    assoc : (x y z : Step) → and_then (and_then x y) z ≡ and_then x (and_then y z)
    assoc Done y z = refl
    assoc Refused y z = refl
