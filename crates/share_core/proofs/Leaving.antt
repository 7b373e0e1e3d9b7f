-- Lists of enabled events in two parts, and the states that they leave.
use Rattle.std.proofs.Common.{◌≡◌, List, [], ◌∷◌, ◌++◌, fold, refl, sym, ap, ◌∙◌, subst}
use Rattle.std.proofs.lemmas.List.Sums.{fold-append}
use Rattle.rup_model.specs.Basics.{EachAfter}
use Rattle.rup_model.proofs.Sequences.{fold_last, each_last, each_both, each_front, each_back, EachState, to_states}
use Rattle.share_core.specs.declared.event.Event.{Event}
use Rattle.share_core.specs.State.{CoreOpening, IsCoreOpening, State, opened}
use Rattle.share_core.specs.Enabled.{IsEnabled, AllEnabled}
use Rattle.share_core.specs.Events.{after}
use Rattle.share_core.specs.Left.{Left}
use Rattle.share_core.specs.Sound.{Sound}
use Rattle.share_core.proofs.Opened.{events_sound, run_opening}

-- a property of the state, as one of what stands before
from_states : {S E : Type 0} (f : S → E → S) (Q : S → E → Type 0) (s : S) (before es : List E) → EachState f Q (fold f s before) es → EachAfter (λ b e. Q (fold f s b) e) before es
from_states f Q s before [] h = tt
from_states {S} f Q s before (e ∷ es) h = (h.0, from_states f Q s (before ++ e ∷ []) es (subst (λ (t : S). EachState f Q t es) (sym (fold_last f s before e)) h.1))

abbrev Enables : State → List Event → Event → Type 0
Enables c before e = IsEnabled (fold after c before) e

pub enabled_front : (c : State) (es fs : List Event) → AllEnabled c (es ++ fs) → AllEnabled c es
enabled_front c es fs h = each_front (Enables c) [] es fs h

-- each event in its state
pub enabled_states : (c : State) (es : List Event) → AllEnabled c es → EachState after IsEnabled c es
enabled_states c es h = to_states after IsEnabled c [] es h

pub enabled_rest : (c : State) (es fs : List Event) → AllEnabled c (es ++ fs) → AllEnabled (fold after c es) fs
enabled_rest c es fs h = from_states after IsEnabled (fold after c es) [] fs (to_states after IsEnabled c es fs (each_back (Enables c) [] es fs h))

pub enabled_both : (c : State) (es fs : List Event) → AllEnabled c es → AllEnabled (fold after c es) fs → AllEnabled c (es ++ fs)
enabled_both c es fs h k = each_both (Enables c) [] es fs h (from_states after IsEnabled c es fs (enabled_states (fold after c es) fs k))

pub fronts_sound : (o : CoreOpening) → IsCoreOpening o → (es fs : List Event) → AllEnabled (opened o) (es ++ fs) → Sound (fold after (opened o) es)
fronts_sound o op es fs h = events_sound o op es (enabled_front (opened o) es fs h)

-- What is left

pub left_none : (o : CoreOpening) → IsCoreOpening o → Left o (opened o)
left_none o op = record { opens = op; events = []; enabled = tt; leaves = refl }

pub left_one : (o : CoreOpening) (c : State) (e : Event) → Left o c → IsEnabled c e → Left o (after c e)
left_one o c e l enabled = record {
  opens = l.opens;
  events = l.events ++ e ∷ [];
  enabled = each_last (Enables (opened o)) [] l.events e l.enabled (subst (λ (d : State). IsEnabled d e) (sym l.leaves) enabled);
  leaves = fold_last after (opened o) l.events e ∙ ap (λ (d : State). after d e) l.leaves;
}

pub left_more : (o : CoreOpening) (c : State) (es : List Event) → Left o c → AllEnabled c es → Left o (fold after c es)
left_more o c es l enabled = record {
  opens = l.opens;
  events = l.events ++ es;
  enabled = enabled_both (opened o) l.events es l.enabled (subst (λ (d : State). AllEnabled d es) (sym l.leaves) enabled);
  leaves = fold-append after (opened o) l.events es ∙ ap (λ (d : State). fold after d es) l.leaves;
}

pub left_sound : (o : CoreOpening) (c : State) → Left o c → Sound c
left_sound o c l = subst Sound l.leaves (events_sound o l.opens l.events l.enabled)

pub left_opening : (o : CoreOpening) (c : State) → Left o c → c.opening ≡ o
left_opening o c l = ap (λ (d : State). d.opening) (sym l.leaves) ∙ run_opening l.events (opened o)
