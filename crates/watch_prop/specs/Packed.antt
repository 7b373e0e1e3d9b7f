-- A slot as it lies in memory, and the watch that it has.
use Rattle.std.specs.Prelude.{◌-◌, ◌/◌, ◌%◌, ◌==◌, if◌then◌else◌, Option, None, Some, option_map}
use Rattle.sat_words.specs.Literal.{Literal}
use Rattle.watch_prop.specs.declared.watch.Watch.{Watch}
use Rattle.watch_prop.specs.declared.slots.Slot.{Slot}

-- the watch that a slot has, if its word isn't 0: the word is one more than twice the clause's address, and one more again if the clause is binary
abbrev pub watch_in : Slot → Option Watch
watch_in s = if s.word == 0 then None else Some record { clause = record { address = (s.word - 1) / 2 }; first = s.first; second = s.second; binary = s.word % 2 == 0 }

-- the watch of a slot, if it has one, with other literals
abbrev pub with_literals : Option Watch → Literal → Literal → Option Watch
with_literals o k l = option_map (λ (s : Watch). record { clause = s.clause; first = k; second = l; binary = s.binary }) o
