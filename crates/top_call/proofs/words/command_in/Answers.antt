use Rattle.std.proofs.Common.{◌≡◌, ◌∙◌, Bool, true, false, refl, sym, codes}
use Rattle.clap.specs.Words.{first_of, rows_of, found_of}
use Rattle.std.specs.Prelude.{option_copied, if◌then◌else◌}
use Rattle.clap.proofs.WalkLemmas.{first_value-rows}
use Rattle.top_call.proofs.words.command_in.Goals as goal

pub returns-clause-asks : goal.returns-clause-asks
returns-clause-asks c =
    let rows = rows_of (found_of c.args.matches.now) in
    let proof : first_of (codes "proof") rows ≡ option_copied c.get_str.result = sym (first_value-rows (found_of c.args.matches.now) (codes "proof")) ∙ sym c.get_str.ensures in
    let file : first_of (codes "file") rows ≡ option_copied c.get_str-2.result = sym (first_value-rows (found_of c.args.matches.now) (codes "file")) ∙ sym c.get_str-2.ensures in
    λ i. record { threads = sym c.threads_in.ensures.number i; conflicts = sym c.conflicts_in.ensures.number i; round = sym c.round_in.ensures.number i; words = sym c.words_in.ensures.number i; slots = sym c.slots_in.ensures.number i; seed = sym c.seed_in.ensures i; walk = sym c.walk_in.ensures i; no_simplify = sym c.no_simplify_in.ensures i; add = sym c.add_in.ensures i; proof = proof i; binary = sym c.binary_in.ensures i; lrat = sym c.lrat_in.ensures i; check = sym c.check_in.ensures i; make = sym c.make_in.ensures i; file = file i }

pub returns-clause-ranges : goal.returns-clause-ranges
returns-clause-ranges c = record {
  some_rings = c.threads_in.ensures.some;
  few_rings = c.threads_in.ensures.few;
  few_lemmas = c.conflicts_in.ensures.few;
  some_in_round = c.round_in.ensures.some;
  few_in_round = c.round_in.ensures.few;
  few_words = c.words_in.ensures.few;
  some_slots = c.slots_in.ensures.some;
  few_slots = c.slots_in.ensures.few;
}
