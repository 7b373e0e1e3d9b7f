use Rattle.sat_words.specs.Formats.{has_hints}
use Rattle.share_rule.specs.FirstWords.{begun_with}
use Rattle.share_rule.proofs.making.make.Given as goal

abbrev pub ghosts-open_table : goal.ghosts-open_table
ghosts-open_table g a = record { opening = begun_with a._formula.now.clauses a.table.now.layout (has_hints (g.B.Ledger.origin a.book).format) g.journal a._start.now a._units.now; origin = g.B.Ledger.origin a.book }
