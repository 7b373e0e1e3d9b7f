use Rattle.drat_text.proofs.Triples.{digit_is}
use Rattle.drat_text.proofs.digits.digit.Goals as goal

pub returns : goal.returns
returns c = digit_is c.args.place c.requires
