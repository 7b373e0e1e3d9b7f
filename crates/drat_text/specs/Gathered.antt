-- Bytes that gather before a sink until they come to a block.
use Rattle.std.specs.Prelude.{◌≡◌, ◌≤◌, ◌<◌, ◌+◌, ℕ, List, [], length}
use Rattle.std.specs.declared.option.Option.{Option}
use Rattle.std.specs.Io.KnownBytes.{append_known}
use Rattle.io_edge.specs.Bytes.{IsFront}
use Rattle.io_edge.specs.Causes.{Rose}
use Rattle.drat_text.specs.declared.blocks.TheConstants.{BLOCK}

-- a sink, and the bytes that are to be written after those that it has
pub record Gathered (S : Type 0) : Type 0 where
  pub waiting : List ℕ
  pub sink : S

-- what the sink has, and after it what waits
abbrev pub bytes_in : {S : Type 0} → (S → Option (List ℕ)) → Gathered S → Option (List ℕ)
bytes_in written g = append_known (written g.sink) g.waiting

-- the text stands behind the other bytes; the sink is as it was unless a block was full
pub record Gathers {S : Type 0} (written flushed target : S → Option (List ℕ)) (faults : S → ℕ) (old new : Gathered S) (text : List ℕ) : Type 0 where
  pub bytes : bytes_in written new ≡ append_known (bytes_in written old) text
  pub room : length new.waiting < BLOCK
  pub fits : length new.waiting ≤ length old.waiting + length text
  pub still : length old.waiting + length text < BLOCK → new.sink ≡ old.sink
  pub flushed_still : flushed new.sink ≡ flushed old.sink
  pub target_still : target new.sink ≡ target old.sink
  pub quiet : faults new.sink ≡ faults old.sink

-- a block was full, and the sink failed at it: it has a front of the other bytes and the text, and nothing waits
pub record Breaks {S : Type 0} (written flushed target : S → Option (List ℕ)) (faults : S → ℕ) (old new : Gathered S) (text : List ℕ) : Type 0 where
  pub front : IsFront (written new.sink) (append_known (bytes_in written old) text)
  pub full : BLOCK ≤ length old.waiting + length text
  pub nothing : new.waiting ≡ []
  pub later : faults old.sink ≤ faults new.sink
  pub rose : Rose (faults old.sink) (faults new.sink)
  pub flushed_still : flushed new.sink ≡ flushed old.sink
  pub target_still : target new.sink ≡ target old.sink
