use Rattle.std.proofs.Common.{◌∙◌, ap, sym, codes}
use Rattle.std.specs.Prelude.{option_map}
use Rattle.clap.specs.Words.{found_of}
use Rattle.clap.proofs.WalkLemmas.{first_value-rows}
use Rattle.top_call.specs.Words.{flag_in}
use Rattle.top_call.proofs.words.lrat_in.Goals as goal

pub returns-in-Some : goal.returns-in-Some
returns-in-Some c = c.eq.ensures ∙ ap flag_in (ap (option_map (λ s. s.now)) (sym c.in-Some.is) ∙ c.get_str.ensures ∙ first_value-rows (found_of c.args.matches.now) (codes "lrat"))

pub returns-in-None : goal.returns-in-None
returns-in-None c = ap flag_in (ap (option_map (λ s. s.now)) (sym c.in-None.is) ∙ c.get_str.ensures ∙ first_value-rows (found_of c.args.matches.now) (codes "lrat"))
