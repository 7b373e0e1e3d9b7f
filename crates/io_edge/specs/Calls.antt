-- The calls of an object in memory: those that are to fail, how many there were, and how many failed.
use Rattle.std.specs.Prelude.{◌==◌, ℕ, Bool, List, if◌then◌else◌}
use Rattle.std.specs.List.{list_any}
use Rattle.io_edge.specs.Causes.{one_more}

-- the calls made of an object in memory, and which of them are to fail
pub record Calls : Type 0 where
  pub failing : List ℕ
  pub made : ℕ
  pub faults : ℕ

-- no call has come yet, and these are to fail
abbrev pub no_calls : List ℕ → Calls
no_calls failing = record { failing = failing; made = 0; faults = 0 }

-- the number of the next call, the first being 1, is listed
abbrev pub fails_next : Calls → Bool
fails_next calls = list_any (λ number. number == one_more calls.made) calls.failing

-- the number of the last call is listed
abbrev pub has_failed : Calls → Bool
has_failed calls = list_any (λ number. number == calls.made) calls.failing

-- one call more, which failed or not
abbrev pub after_call : Calls → Bool → Calls
after_call calls failed = record calls { made = one_more calls.made; faults = (if failed then one_more calls.faults else calls.faults) }
