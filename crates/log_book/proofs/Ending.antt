-- How a book ends, from what its last two calls of the sink do.
use Rattle.io_edge.specs.declared.edge.Sink.{Ghosts}
use Rattle.std.proofs.Common.{◌≡◌, ◌∙◌, ◌≤◌, ℕ, true, false, List, Ok, Err, ap, inl, inr, arith}
use Rattle.std.specs.Prelude.{◌⊎◌, Result, OnOk, is_err}
use Rattle.std.specs.declared.option.Option.{Option}
use Rattle.std.specs.Io.KnownBytes.{append_known}
use Rattle.std.proofs.lemmas.Bool.{cases_Bool}
use Rattle.io_edge.specs.Bytes.{WasFlushed}
use Rattle.io_edge.specs.Causes.{Rose, HasCause}
use Rattle.log_book.specs.declared.book.Book.{Book}
use Rattle.log_book.specs.Ended.{IsClosed, HasEnded}

-- a flush closes a sink
pub flush_closes : {T E : Type 0} (poured faults : ℕ) (written old new : Option (List ℕ)) (r : Result T E) → HasCause poured faults r → WasFlushed written old new r → IsClosed poured faults new written
flush_closes poured faults written old new (Ok x) cause flush = inl (cause.quiet, flush)
flush_closes poured faults written old new (Err e) cause flush = inr cause.failed

module _ {S : Type 0} {d : Ghosts S} (written flushed : S → Option (List ℕ)) (faults : S → ℕ) (b : Book S d) (mid now : S) where
  poured_all : {T E : Type 0} (r : Result T E) → HasCause (faults b.log.lines.sink) (faults mid) r → OnOk r (written mid ≡ append_known (written b.log.lines.sink) b.log.lines.waiting) → written now ≡ written mid
      → ((faults mid ≡ faults b.log.lines.sink) × (written now ≡ append_known (written b.log.lines.sink) b.log.lines.waiting)) ⊎ Rose (faults b.log.lines.sink) (faults mid)
  poured_all (Ok x) cause whole same = inl (cause.quiet, same ∙ whole)
  poured_all (Err e) cause whole same = inr cause.failed

  grows : {T E : Type 0} (r : Result T E) → (b.log.lines.spent ≡ false → HasCause (faults b.log.lines.sink) (faults mid) r) → (b.log.lines.spent ≡ true → mid ≡ b.log.lines.sink) → faults b.log.lines.sink ≤ faults mid
  grows r cause spent = elim (cases_Bool b.log.lines.spent) as (λ _. faults b.log.lines.sink ≤ faults mid) [
    | inl q ↦ (let e = ap faults (spent q) in omega (arith, e))
    | inr q ↦ (cause q).later
  ]

  pub has_ended : {T E U V : Type 0} (r : Result T E) (f : Result U V) → OnOk r (written mid ≡ append_known (written b.log.lines.sink) b.log.lines.waiting) → (b.log.lines.spent ≡ true → (is_err r ≡ true) × (mid ≡ b.log.lines.sink))
      → (b.log.lines.spent ≡ false → HasCause (faults b.log.lines.sink) (faults mid) r) → written now ≡ written mid → WasFlushed (written now) (flushed mid) (flushed now) f → HasCause (faults mid) (faults now) f
      → HasEnded written flushed faults b now
  has_ended r f whole spent cause same flush flushes = record {
    poured = faults mid;
    whole = λ q. poured_all r (cause q) whole same;
    broken = λ q. ap faults (spent q).1;
    grown = grows r cause (λ q. (spent q).1);
    later = flushes.later;
    closed = flush_closes (faults mid) (faults now) (written now) (flushed mid) (flushed now) f flushes flush;
  }
