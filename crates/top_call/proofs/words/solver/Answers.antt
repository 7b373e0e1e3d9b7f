use Rattle.std.proofs.Common.{◌≡◌, ◌∙◌, ◌∷◌, [], ap, ap₂, true, codes}
use Rattle.std.proofs.lemmas.Result.{IfOk-weaker}
use Rattle.clap.specs.Words.{App, app_of, with_rule, new_app}
use Rattle.clap.specs.Simple.{app_of_fields}
use Rattle.top_call.specs.Words.{bare_app, with_rules, conflicts_rule, round_rule, threads_rule, words_rule, slots_rule, seed_rule, walk_rule, proof_rule, binary_rule, lrat_rule, no_simplify_rule, add_rule, check_rule, make_rule}
use Rattle.top_call.proofs.words.solver.Goals as goal

pub returns : goal.returns
returns c =
    let named : app_of c.no_binary_name.result ≡ record (new_app (codes "gimsatul")) { top = record (new_app (codes "gimsatul")).top { no_binary_name = true } } =
    ap app_of_fields c.no_binary_name.ensures ∙ ap (λ (a : App). record a { top = record a.top { no_binary_name = true } }) c.new.ensures.app in
    let helpless : app_of c.disable_help_flag.result ≡ record (new_app (codes "gimsatul")) { top = record (new_app (codes "gimsatul")).top { no_binary_name = true; disable_help_flag = true } } =
    ap app_of_fields c.disable_help_flag.ensures ∙ ap (λ (a : App). record a { top = record a.top { disable_help_flag = true } }) named in
    let bare : app_of c.disable_version_flag-bare.result ≡ bare_app =
    ap app_of_fields c.disable_version_flag-bare.ensures ∙ ap (λ (a : App). record a { top = record a.top { disable_version_flag = true } }) helpless in
    let one : app_of c.in_ok-arg.field-0 ≡ with_rules bare_app (conflicts_rule ∷ []) = c.in_ok-arg.ensures.shape c.conflicts_arg.ensures.local ∙ ap₂ with_rule bare c.conflicts_arg.ensures.rule in
    let two : app_of c.in_ok-arg-2.field-0 ≡ with_rules bare_app (conflicts_rule ∷ round_rule ∷ []) = c.in_ok-arg-2.ensures.shape c.round_arg.ensures.local ∙ ap₂ with_rule one c.round_arg.ensures.rule in
    let three : app_of c.in_ok-arg-3.field-0 ≡ with_rules bare_app (conflicts_rule ∷ round_rule ∷ threads_rule ∷ []) = c.in_ok-arg-3.ensures.shape c.threads_arg.ensures.local ∙ ap₂ with_rule two c.threads_arg.ensures.rule in
    let four : app_of c.in_ok-arg-4.field-0 ≡ with_rules bare_app (conflicts_rule ∷ round_rule ∷ threads_rule ∷ words_rule ∷ []) = c.in_ok-arg-4.ensures.shape c.words_arg.ensures.local ∙ ap₂ with_rule three c.words_arg.ensures.rule in
    let five : app_of c.in_ok-arg-5.field-0 ≡ with_rules bare_app (conflicts_rule ∷ round_rule ∷ threads_rule ∷ words_rule ∷ slots_rule ∷ []) = c.in_ok-arg-5.ensures.shape c.slots_arg.ensures.local ∙ ap₂ with_rule four c.slots_arg.ensures.rule in
    let six : app_of c.in_ok-arg-6.field-0 ≡ with_rules bare_app (conflicts_rule ∷ round_rule ∷ threads_rule ∷ words_rule ∷ slots_rule ∷ seed_rule ∷ []) = c.in_ok-arg-6.ensures.shape c.seed_arg.ensures.local ∙ ap₂ with_rule five c.seed_arg.ensures.rule in
    let seven : app_of c.in_ok-arg-7.field-0 ≡ with_rules bare_app (conflicts_rule ∷ round_rule ∷ threads_rule ∷ words_rule ∷ slots_rule ∷ seed_rule ∷ walk_rule ∷ []) = c.in_ok-arg-7.ensures.shape c.walk_arg.ensures.local ∙ ap₂ with_rule six c.walk_arg.ensures.rule in
    let eight : app_of c.in_ok-arg-8.field-0 ≡ with_rules bare_app (conflicts_rule ∷ round_rule ∷ threads_rule ∷ words_rule ∷ slots_rule ∷ seed_rule ∷ walk_rule ∷ proof_rule ∷ []) = c.in_ok-arg-8.ensures.shape c.proof_arg.ensures.local ∙ ap₂ with_rule seven c.proof_arg.ensures.rule in
    let nine : app_of c.in_ok-arg-9.field-0 ≡ with_rules bare_app (conflicts_rule ∷ round_rule ∷ threads_rule ∷ words_rule ∷ slots_rule ∷ seed_rule ∷ walk_rule ∷ proof_rule ∷ binary_rule ∷ []) = c.in_ok-arg-9.ensures.shape c.binary_arg.ensures.local ∙ ap₂ with_rule eight c.binary_arg.ensures.rule in
    let ten : app_of c.in_ok-arg-10.field-0 ≡ with_rules bare_app (conflicts_rule ∷ round_rule ∷ threads_rule ∷ words_rule ∷ slots_rule ∷ seed_rule ∷ walk_rule ∷ proof_rule ∷ binary_rule ∷ lrat_rule ∷ []) = c.in_ok-arg-10.ensures.shape c.lrat_arg.ensures.local ∙ ap₂ with_rule nine c.lrat_arg.ensures.rule in
    let eleven : app_of c.in_ok-arg-11.field-0 ≡ with_rules bare_app (conflicts_rule ∷ round_rule ∷ threads_rule ∷ words_rule ∷ slots_rule ∷ seed_rule ∷ walk_rule ∷ proof_rule ∷ binary_rule ∷ lrat_rule ∷ no_simplify_rule ∷ []) = c.in_ok-arg-11.ensures.shape c.no_simplify_arg.ensures.local ∙ ap₂ with_rule ten c.no_simplify_arg.ensures.rule in
    let twelve : app_of c.in_ok-arg-12.field-0 ≡ with_rules bare_app (conflicts_rule ∷ round_rule ∷ threads_rule ∷ words_rule ∷ slots_rule ∷ seed_rule ∷ walk_rule ∷ proof_rule ∷ binary_rule ∷ lrat_rule ∷ no_simplify_rule ∷ add_rule ∷ []) = c.in_ok-arg-12.ensures.shape c.add_arg.ensures.local ∙ ap₂ with_rule eleven c.add_arg.ensures.rule in
    let thirteen : app_of c.in_ok-arg-13.field-0 ≡ with_rules bare_app (conflicts_rule ∷ round_rule ∷ threads_rule ∷ words_rule ∷ slots_rule ∷ seed_rule ∷ walk_rule ∷ proof_rule ∷ binary_rule ∷ lrat_rule ∷ no_simplify_rule ∷ add_rule ∷ check_rule ∷ []) = c.in_ok-arg-13.ensures.shape c.check_arg.ensures.local ∙ ap₂ with_rule twelve c.check_arg.ensures.rule in
    let fourteen : app_of c.in_ok-arg-14.field-0 ≡ with_rules bare_app (conflicts_rule ∷ round_rule ∷ threads_rule ∷ words_rule ∷ slots_rule ∷ seed_rule ∷ walk_rule ∷ proof_rule ∷ binary_rule ∷ lrat_rule ∷ no_simplify_rule ∷ add_rule ∷ check_rule ∷ make_rule ∷ []) = c.in_ok-arg-14.ensures.shape c.make_arg.ensures.local ∙ ap₂ with_rule thirteen c.make_arg.ensures.rule in
    IfOk-weaker c.arg-15.result _ _ (λ command added. added.shape c.file_arg.ensures.local ∙ ap₂ with_rule fourteen c.file_arg.ensures.rule) c.arg-15.ensures
