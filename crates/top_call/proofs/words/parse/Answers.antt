use Rattle.std.proofs.Common.{◌∙◌, ap, sym, map, inl, inr, Ok, Err}
use Rattle.std.specs.Prelude.{string_bytes, Result, IfErr, IsErrOf}
use Rattle.std.proofs.lemmas.Result.{IfOk-weaker}
use Rattle.clap.specs.Words.{App, fault_of, is_simple, is_simple_and_free, kind_of, matches_of}
use Rattle.top_call.specs.Words.{command_in, unless_clashing}
use Rattle.top_call.proofs.CommandLine.{threads_of, limit_of, round_of, words_of, slots_of, seed_of, walk_of, made_of, lawful_words, refused_words, solver_simple, solver_free}
use Rattle.top_call.proofs.words.parse.Goals as goal

pub command_in-requires-clause-limit : goal.command_in-requires-clause-limit
command_in-requires-clause-limit c = limit_of c.in-Ok.command _ c.in-Ok.ensures c.in-Ok-try_get_matches_from.ensures.parsed

pub command_in-requires-clause-round : goal.command_in-requires-clause-round
command_in-requires-clause-round c = round_of c.in-Ok.command _ c.in-Ok.ensures c.in-Ok-try_get_matches_from.ensures.parsed

pub command_in-requires-clause-threads : goal.command_in-requires-clause-threads
command_in-requires-clause-threads c = threads_of c.in-Ok.command _ c.in-Ok.ensures c.in-Ok-try_get_matches_from.ensures.parsed

pub command_in-requires-clause-words : goal.command_in-requires-clause-words
command_in-requires-clause-words c = words_of c.in-Ok.command _ c.in-Ok.ensures c.in-Ok-try_get_matches_from.ensures.parsed

pub command_in-requires-clause-slots : goal.command_in-requires-clause-slots
command_in-requires-clause-slots c = slots_of c.in-Ok.command _ c.in-Ok.ensures c.in-Ok-try_get_matches_from.ensures.parsed

pub command_in-requires-clause-seed : goal.command_in-requires-clause-seed
command_in-requires-clause-seed c = seed_of c.in-Ok.command _ c.in-Ok.ensures c.in-Ok-try_get_matches_from.ensures.parsed

pub command_in-requires-clause-walk : goal.command_in-requires-clause-walk
command_in-requires-clause-walk c = walk_of c.in-Ok.command _ c.in-Ok.ensures c.in-Ok-try_get_matches_from.ensures.parsed

pub command_in-requires-clause-made : goal.command_in-requires-clause-made
command_in-requires-clause-made c = made_of c.in-Ok.command _ c.in-Ok.ensures c.in-Ok-try_get_matches_from.ensures.parsed

refused : {T E : Type 0} (X : Type 0) (r : Result T E) (e : E) → IsErrOf r e → IfErr r (λ _. X) → X
refused X (Ok x) e h k = absurd (cc h)
refused X (Err x) e h k = k

pub returns-in-Ok-try_get_matches_from-clause-asks : goal.returns-in-Ok-try_get_matches_from-clause-asks
returns-in-Ok-try_get_matches_from-clause-asks c =
    let app = c.in-Ok.ensures in
    let words = map string_bytes c.args.words.now in
    let ok = c.in-Ok-try_get_matches_from.ensures in
    let rows = (ok.matches (ap is_simple app ∙ solver_simple)).0 ∙ ap (λ (a : App). matches_of a words) app in
    let asked = lawful_words words (sym (ap (λ (a : App). fault_of a words) app) ∙ ok.kinds (ap is_simple_and_free app ∙ solver_free))
    ∙ ap (λ rs. unless_clashing (command_in rs)) (sym rows) ∙ ap unless_clashing c.command_in.ensures.asks in
    IfOk-weaker c.unless_clashing.result _ _ (λ taken e. asked ∙ e) c.unless_clashing.ensures.asks

pub returns-in-Ok-try_get_matches_from-clause-usage : goal.returns-in-Ok-try_get_matches_from-clause-usage
returns-in-Ok-try_get_matches_from-clause-usage c = λ usage.
    let app = c.in-Ok.ensures in
    let words = map string_bytes c.args.words.now in
    let ok = c.in-Ok-try_get_matches_from.ensures in
    let rows = (ok.matches (ap is_simple app ∙ solver_simple)).0 ∙ ap (λ (a : App). matches_of a words) app in
    let asked = lawful_words words (sym (ap (λ (a : App). fault_of a words) app) ∙ ok.kinds (ap is_simple_and_free app ∙ solver_free))
    ∙ ap (λ rs. unless_clashing (command_in rs)) (sym rows) ∙ ap unless_clashing c.command_in.ensures.asks in
    asked ∙ refused _ c.unless_clashing.result _ usage c.unless_clashing.ensures.usage

pub returns-in-Err-try_get_matches_from-clause-usage : goal.returns-in-Err-try_get_matches_from-clause-usage
returns-in-Err-try_get_matches_from-clause-usage c = λ usage.
    let app = c.in-Ok.ensures in
    let failed = c.in-Err-try_get_matches_from.ensures.kinds (ap is_simple_and_free app ∙ solver_free) in
    elim failed [
      | inl memory ↦ absurd (cc (c.end_of_kind.ensures.memory.1 (c.kind.ensures ∙ memory), usage))
      | inr among ↦ refused_words c.in-Ok.command (map string_bytes c.args.words.now) (kind_of c.in-Err-try_get_matches_from.error) app among
    ]
