use Rattle.std.proofs.Common.{◌∙◌, ℕ, List, Some, sym, ap}
use Rattle.sat_words.specs.Literal.{Literal}
use Rattle.rup_model.specs.Journal.{book}
use Rattle.share_core.proofs.Leaving.{left_sound}
use Rattle.share_rule.proofs.Parts.{held_of}
use Rattle.share_rule.proofs.laws.held_clauses_are_in_the_log.Goals as goal

pub returns : goal.returns
returns c v s a holding =
    let h = held_of v s a holding in
    let alive = (left_sound s.core.opening s.core s.left).cells.alive a h.cell h.there in
    ap (λ (n : ℕ). (book s.core.opening.formula s.core.journal).clause n) h.number ∙ alive ∙ ap (λ (ks : List Literal). Some ks) (sym h.lits)
