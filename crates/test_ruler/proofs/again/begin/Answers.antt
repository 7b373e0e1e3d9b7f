use Rattle.std.proofs.Common.{◌≡◌, ◌∙◌, false, ap, sym, subst}
use Rattle.std.specs.Prelude.{Ok}
use Rattle.sat_words.specs.FormulaData.{FormulaData}
use Rattle.sat_words.specs.Formats.{has_hints}
use Rattle.drat_text.specs.LineState.{LineState}
use Rattle.ruler_simp.specs.declared.ruling.Simplified.{Simplified}
use Rattle.ruler_simp.specs.declared.ruling.Outcome.TheVariants.{Simplified as LeftOver}
use Rattle.ruler_simp.specs.declared.rounds.Schedule.{Schedule}
use Rattle.ruler_simp.specs.Ruled.{Ruled}
use Rattle.test_ruler.proofs.again.begin.Goals as goal

-- the format stays
plain_after : (F : FormulaData) (schedule : Schedule) (old new : LineState) (s : Simplified) → Ruled F schedule old new (Ok (LeftOver s)) → has_hints old.format ≡ false → has_hints new.format ≡ false
plain_after F schedule old new s was plain =
    ap (λ (x : LineState). has_hints x.format) was.output
    ∙ ap has_hints (was.stands.lines.whole (sym (ap (λ (x : LineState). x.spent) was.output) ∙ was.answer.1.unspent)).format ∙ plain

pub returns : goal.returns
returns c s is =
    let F = c.args.formula.now in
    let schedule = c.without_additions.result in
    let out = c.simplify.result.1 in
    let was : Ruled F schedule c.args.lines out (Ok (LeftOver s)) = subst (Ruled F schedule c.args.lines out) is c.simplify.ensures in
    let plain : has_hints out.format ≡ false = plain_after F schedule c.args.lines out s was c.requires.plain in
    record {
      on = was.answer.0.on;
      unspent = was.answer.1.unspent;
      plain = plain;
      resumes = (was.journal, c.what_is_left_resumes.ensures.first F schedule c.args.lines out s c.requires.on was);
    }
