use Rattle.std.proofs.Common.{◌∙◌, ap, sym, codes, inl, inr, Some}
use Rattle.std.specs.Prelude.{option_map}
use Rattle.clap.specs.Words.{found_of}
use Rattle.top_call.specs.Words.{number_of}
use Rattle.clap.proofs.WalkLemmas.{one_text-rows}
use Rattle.top_call.proofs.words.round_in.Goals as goal

pub returns-in-Some-clause-number : goal.returns-in-Some-clause-number
returns-in-Some-clause-number c = elim c.requires [
  | inl none ↦ absurd (cc (c.in-Some.is, c.get_one.ensures.none none))
  | inr h ↦
      let read = c.in-Some.ensures.value h.text h.given in
      ap Some read.0.1 ∙ ap (option_map number_of) (sym h.given ∙ one_text-rows (found_of c.args.matches.now) (codes "round"))
]

pub returns-in-None-clause-number : goal.returns-in-None-clause-number
returns-in-None-clause-number c = elim c.requires [
  | inl none ↦ ap (option_map number_of) (sym none ∙ one_text-rows (found_of c.args.matches.now) (codes "round"))
  | inr h ↦
      let read = c.in-None.ensures.value h.text h.given in
      absurd (read.1.0 (h.accepted.0, h.accepted.1))
]
