-- What became of events.
use Rattle.std.specs.Prelude.{◌≡◌, List, [], ◌∷◌}
use Rattle.share_core.specs.declared.event.Event.{Event}
use Rattle.share_core.specs.declared.running.Step.{Step}
use Rattle.share_core.specs.declared.running.Step.TheVariants.{Done, Refused}
use Rattle.share_core.specs.State.{State}
use Rattle.share_core.specs.Enabled.{IsEnabled}
use Rattle.share_core.specs.Events.{after}

-- the event was enabled and had its effect, or it was not and nothing has changed
abbrev pub Steps : State → Event → Step → State → Type 0
Steps c e Done d = IsEnabled c e × (d ≡ after c e)
Steps c e Refused d = (IsEnabled c e → ⊥) × (d ≡ c)

-- Done if both are
abbrev pub and_then : Step → Step → Step
and_then Done s = s
and_then Refused s = Refused

-- each event stepped after those before it; Done where each was
abbrev pub Runs : State → List Event → Step → State → Type 0
Runs c [] s d = (s ≡ Done) × (d ≡ c)
Runs c (e ∷ es) s d = (first : Step) × (mid : State) × (rest : Step) × Steps c e first mid × Runs mid es rest d × (s ≡ and_then first rest)
