-- The journal with no entry, and what a writer holds of it.
use Rattle.std.proofs.Common.{◌≡◌, ℕ, Bool, List, [], sym, subst, arith, refl, Some, None}
use Rattle.std.specs.Prelude.{Result}
use Rattle.std.specs.declared.option.Option.{Option}
use Rattle.io_edge.specs.Bytes.{IsFront, WasFlushed}
use Rattle.io_edge.specs.Causes.{HasCause}
use Rattle.io_edge.specs.Paths.{IsEmptyWhereTold}
use Rattle.sat_words.specs.Literal.{Literal}
use Rattle.sat_words.specs.declared.line.ProofFormat.{ProofFormat}
use Rattle.log_book.specs.Ended.{IsClosed}
use Rattle.log_book.specs.Kept.{HoldsText, IsFrontTold}
use Rattle.log_book.proofs.Ending.{flush_closes}
use Rattle.portfolio_run.specs.Journaled.{IsJournal, IsCutShort}
use Rattle.top_call.specs.Journaled.{HoldsLog}

pub empty_journal : (rings : ℕ) (with_hints : Bool) (clauses : List (List Literal)) → IsJournal rings with_hints clauses []
empty_journal rings with_hints clauses = record { fits = tt; accepted = tt; last = tt; spelled = λ k x lt. absurd (omega arith); hinted = λ q. tt; of_rounds = λ k x lt. absurd (omega arith); plain = λ k x lt. absurd (omega arith); begins = tt; each_new = tt; spaced = tt }

-- if a writer's bytes are known and there are none, it holds those of no line
pub holds_nothing : (written : Option (List ℕ)) → IsEmptyWhereTold written → HoldsText written []
holds_nothing None h = tt
holds_nothing (Some bytes) h = h

-- and a front of those
front_of_nothing : (written : Option (List ℕ)) → IsEmptyWhereTold written → IsFrontTold written []
front_of_nothing None h = tt
front_of_nothing (Some bytes) h = subst (λ (bs : List ℕ). IsFront (Some bs) (Some [])) (sym h) (record { rest = []; whole = refl })

-- no line, and none more
cut_nothing : (f : ProofFormat) (written : Option (List ℕ)) → IsEmptyWhereTold written → IsCutShort f [] [] written
cut_nothing f written h = record {
  next = None;
  sound = record { fits = tt; accepted = tt; empty_last = tt };
  hinted = λ q. tt;
  spelled = λ k x lt. absurd (omega arith);
  bytes = front_of_nothing written h;
}

-- a writer with no byte that was flushed holds the journal of no entry
pub empty_log : {T E : Type 0} (f : ProofFormat) (f0 f1 : ℕ) (w fl0 fl1 : Option (List ℕ)) (result : Result T E) → f0 ≡ 0 → IsEmptyWhereTold w → HasCause f0 f1 result → WasFlushed w fl0 fl1 result
    → HoldsLog f [] [] 0 (record { faults = f1; written = w; flushed = fl1 })
empty_log f f0 f1 w fl0 fl1 result quiet empty cause flush = record {
  poured = 0;
  grown = (omega arith, omega arith);
  closed = subst (λ (n : ℕ). IsClosed n f1 fl1 w) quiet (flush_closes f0 f1 w fl0 fl1 result cause flush);
  whole = λ none. holds_nothing w empty;
  short = λ some. cut_nothing f w empty;
  front = λ none. front_of_nothing w empty;
}
