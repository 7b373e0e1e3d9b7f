use Rattle.std.proofs.Common.{◌≡◌, ◌-◌, ◌^◌, ℕ, fold, max, min, sum_by, take}
use Rattle.test_units.specs.declared.writers.Writer.{Writer}
use Rattle.test_units.proofs.writers.told_by.Given as goal

abbrev pub invariant-loop-writer : goal.invariant-loop-writer
invariant-loop-writer g l = record {
  written : l.written ≡ min (sum_by (λ (w : Writer g.row.S.Denot g.S.Sink). w.written) (take l.writer-index l.writers)) (2 ^ 64 - 1);
  last : l.last ≡ fold (λ (n : ℕ) (w : Writer g.row.S.Denot g.S.Sink). max n w.last) 0 (take l.writer-index l.writers);
  sum : l.sum ≡ min (sum_by (λ (w : Writer g.row.S.Denot g.S.Sink). w.sum) (take l.writer-index l.writers)) (2 ^ 64 - 1);
}
