-- What the ruler can go on with.
use Rattle.std.specs.Prelude.{◌≡◌, ◌++◌, false, List}
use Rattle.sat_words.specs.Literal.{Literal}
use Rattle.sat_words.specs.Formats.{has_hints}
use Rattle.drat_text.specs.LineState.{LineState}
use Rattle.simp_base.specs.WorkState.{unit_cells}
use Rattle.simp_base.specs.Resumed.{CanResume}
use Rattle.ruler_simp.specs.declared.ruling.Simplified.{Simplified}
use Rattle.ruler_simp.specs.Ruled.{AreOn}

-- what is left of the formula, beside the lines so far, which have no hints, can be simplified once more
pub record CanGoOn (F : List (List Literal)) (s : Simplified) (out : LineState) : Type 0 where
  pub on : AreOn s.vars s
  pub unspent : out.spent ≡ false
  pub plain : has_hints out.format ≡ false
  pub resumes : CanResume F s.vars (s.start.items ++ unit_cells s.units.items) s.units.items s.stack out
