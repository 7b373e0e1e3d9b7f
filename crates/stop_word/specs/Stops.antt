-- What the stop word says.
use Rattle.std.specs.Prelude.{◌≡◌, ◌≢◌, ℕ}
use Rattle.sat_words.specs.declared.shared.Stop.{Stop}
use Rattle.share_core.specs.declared.event.Stop.{Stop as CoreStop}
use Rattle.share_rule.specs.Exchanges.{stop_in}
use Rattle.sat_words.specs.declared.shared.Set.{Set}
use Rattle.sat_words.specs.declared.shared.Set.TheVariants.{Won, Lost}

-- the stop as the core has it
abbrev pub core_stop : Stop → CoreStop
core_stop s = record { kind = s.kind; ring = s.ring }

-- the word spells the stop
abbrev pub Spells : ℕ → Stop → Type 0
Spells word s = core_stop s ≡ stop_in word

-- the stop was set exactly if the word was 0; else the word spells the one that stands
abbrev pub IsSet : ℕ → Set → Type 0
IsSet found Won = found ≡ 0
IsSet found (Lost s) = (found ≢ 0) × Spells found s

-- the stop that stands after a try with this one
abbrev pub stop_after : Stop → Set → Stop
stop_after s Won = s
stop_after s (Lost t) = t
