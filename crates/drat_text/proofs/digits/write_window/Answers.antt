use Rattle.std.proofs.Common.{◌∙◌, ◌++◌, ◌∷◌, [], take}
use Rattle.drat_text.proofs.Triples.{front_set}
use Rattle.drat_text.proofs.digits.write_window.Goals as goal

pub returns : goal.returns
returns c = λ k low.
    front_set c.args.at c.digit-first.result c.digit-second.result c.digit-third.result k c.args.bytes.now c.requires.room low
    ∙ (λ i. take c.args.at c.args.bytes.now ++ take k (c.digit-first.ensures i ∷ c.digit-second.ensures i ∷ c.digit-third.ensures i ∷ []))
