use Rattle.std.proofs.Common.{◌≡◌, ◌+◌, ◌≤◌, ℕ, List, ◌++◌, drop}
use Rattle.dimacs_read.specs.Body.{IsLawful}
use Rattle.dimacs_read.specs.Reader.{meaning, newlines}
use Rattle.dimacs_read.proofs.reader.Reader.take_bytes.Given as goal

abbrev pub invariant-loop-byte : goal.invariant-loop-byte
invariant-loop-byte l = record {
  same : (more : List ℕ) → meaning l.self (drop l.byte-index l.bytes ++ more) ≡ meaning l.fn.self (l.bytes ++ more);
  lawful : IsLawful l.self.body;
  few : l.self.newlines ≤ l.fn.self.newlines + l.byte-index;
  count : l.self.newlines + newlines (drop l.byte-index l.bytes) ≡ l.fn.self.newlines + newlines l.bytes;
}
