use Rattle.std.proofs.Common.{◌∙◌, ap, sym, codes}
use Rattle.clap.specs.Words.{found_of}
use Rattle.top_call.specs.Words.{number_in}
use Rattle.clap.proofs.WalkLemmas.{one_text-rows}
use Rattle.top_call.proofs.words.slots_in.Goals as goal

pub returns-clause-number : goal.returns-clause-number
returns-clause-number c =
    let read = c.in-Some.ensures.value c.requires.text c.requires.given in
    read.0.1 ∙ ap number_in (sym c.requires.given ∙ one_text-rows (found_of c.args.matches.now) (codes "slots"))
