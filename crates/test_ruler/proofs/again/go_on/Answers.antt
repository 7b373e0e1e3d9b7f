use Rattle.std.proofs.Common.{◌≡◌, ◌∙◌, ◌++◌, ℕ, false, List, ap, refl, sym, subst}
use Rattle.std.specs.Prelude.{Ok}
use Rattle.sat_words.specs.Literal.{Literal}
use Rattle.sat_words.specs.Formats.{has_hints}
use Rattle.rup_model.specs.declared.journal.Entry.{Entry}
use Rattle.drat_text.specs.LineState.{LineState}
use Rattle.ruler_simp.specs.declared.ruling.Simplified.{Simplified}
use Rattle.ruler_simp.specs.declared.ruling.Outcome.TheVariants.{Simplified as LeftOver}
use Rattle.ruler_simp.specs.declared.rounds.Schedule.{Schedule}
use Rattle.simp_base.specs.WorkState.{WorkState, resumed, unit_cells}
use Rattle.ruler_simp.specs.Again.{RuledAgain, ResumesAs}
use Rattle.test_ruler.proofs.again.go_on.Goals as goal

-- the format stays
plain_after : (F : List (List Literal)) (schedule : Schedule) (start : WorkState) (new : LineState) (s : Simplified) (was : RuledAgain F schedule start new (Ok (LeftOver s))) (J : List Entry)
    → ResumesAs F start J → has_hints start.output.format ≡ false → has_hints new.format ≡ false
plain_after F schedule start new s was J r plain =
    ap (λ (x : LineState). has_hints x.format) was.output
    ∙ ap has_hints ((was.stands J r).lines.whole (sym (ap (λ (x : LineState). x.spent) was.output) ∙ (was.answer J r).1.unspent)).format ∙ plain

pub returns : goal.returns
returns c s is =
    let F = c.args.formula.now.clauses in
    let left = c.args.left in
    let schedule = c.without_additions-schedule.result in
    let cells : List (ℕ × List Literal) = left.start.items ++ unit_cells left.units.items in
    let start : WorkState = resumed left.vars cells left.units.items left.stack c.args.lines in
    let out = c.again.result.1 in
    let given : c.in-Ok.clauses.items ≡ cells = c.in-Ok.ensures ∙ ap (λ (us : List (Literal × ℕ)). left.start.items ++ unit_cells us) c.as_slice.ensures.value in
    let was : RuledAgain F schedule start out (Ok (LeftOver s)) =
    subst (λ (cs : List (ℕ × List Literal)). RuledAgain F schedule (resumed left.vars cs left.units.items left.stack c.args.lines) out (Ok (LeftOver s))) given
    (subst (RuledAgain F schedule (resumed left.vars c.in-Ok.clauses.items left.units.items left.stack c.args.lines) out) is c.again.ensures) in
    let J = c.requires.resumes.0 in
    let r : ResumesAs F start J = (left.units.items, refl, c.requires.resumes.1) in
    let h = was.answer J r in
    let plain : has_hints out.format ≡ false = plain_after F schedule start out s was J r c.requires.plain in
    record {
      on = h.0.on;
      unspent = h.1.unspent;
      plain = plain;
      resumes = (J ++ was.entries, c.what_is_left_resumes.ensures.again F schedule start out s was J r);
    }
