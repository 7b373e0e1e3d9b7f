use Rattle.std.proofs.Common.{◌≡◌, ◌∙◌, ℕ, set, sym, ap, subst}
use Rattle.sat_words.specs.Literal.{code_of}
use Rattle.simp_add.specs.declared.tally.Count.{Count}
use Rattle.simp_add.specs.Counted.{AreTouched, raised, count_of}
use Rattle.simp_add.proofs.Counting.{touched_raised}
use Rattle.simp_add.proofs.tally.Tally.raise.Goals as goal

pub returns-clause-touched : goal.returns-clause-touched
returns-clause-touched c =
    let cs = c.args.self.now.counts.items in let l = c.args.lit in let more = c.touch.new.touched.items in
    let new : c.raised.result ≡ raised (count_of cs l) c.args.stamp = c.raised.ensures ∙ ap (λ (x : Count). raised x c.args.stamp) c.count-count.ensures in
    subst (λ (k : ℕ). AreTouched c.args.first (set cs k c.raised.result) more) (sym c.code.ensures)
    (subst (λ (x : Count). AreTouched c.args.first (set cs (code_of l) x) more) (sym new)
    (touched_raised c.args.first l cs c.args.self.now.touched.items more c.args.stamp c.requires.within c.requires.after c.requires.touched c.in_ok-touch.ensures.kept c.in_ok-touch.ensures.only
    (λ e. c.in_ok-touch.ensures.there (ap (λ (x : Count). x.sets) c.count-count.ensures ∙ e))))
