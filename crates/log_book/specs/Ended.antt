-- How a book ends: what is left of its lines is written, and then the sink is flushed.
use Rattle.io_edge.specs.declared.edge.Sink.{Ghosts}
use Rattle.std.specs.Prelude.{◌≡◌, ◌≤◌, ◌⊎◌, ℕ, true, false, List}
use Rattle.std.specs.declared.option.Option.{Option}
use Rattle.std.specs.Io.KnownBytes.{append_known}
use Rattle.io_edge.specs.Causes.{Rose}
use Rattle.log_book.specs.declared.book.Book.{Book}

-- a sink's last call was a flush, before which it had failed this often: the flush made sure of all its bytes, or it failed
abbrev pub IsClosed : (poured faults : ℕ) → (flushed written : Option (List ℕ)) → Type 0
IsClosed poured faults flushed written = ((faults ≡ poured) × (flushed ≡ written)) ⊎ Rose poured faults

module _ {S : Type 0} {d : Ghosts S} (written flushed : S → Option (List ℕ)) (faults : S → ℕ) where
  -- what waited was written, or the sink failed in that, and nothing was written after a line that had failed; when the sink
  -- had failed this often, it was flushed
  pub record HasEnded (b : Book S d) (sink : S) : Type 0 where
    pub poured : ℕ
    pub whole : b.log.lines.spent ≡ false → ((poured ≡ faults b.log.lines.sink) × (written sink ≡ append_known (written b.log.lines.sink) b.log.lines.waiting)) ⊎ Rose (faults b.log.lines.sink) poured
    pub broken : b.log.lines.spent ≡ true → poured ≡ faults b.log.lines.sink
    pub grown : faults b.log.lines.sink ≤ poured
    pub later : poured ≤ faults sink
    pub closed : IsClosed poured (faults sink) (flushed sink) (written sink)
