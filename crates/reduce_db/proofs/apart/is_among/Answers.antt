use Rattle.std.proofs.Common.{◌∙◌, rules}
use Rattle.std.proofs.lemmas.List.Sorted.{answers_always}
use Rattle.sat_words.specs.declared.shared.Cref.{Cref}
use Rattle.watch_prop.proofs.Among.{among_found}
use Rattle.reduce_db.proofs.apart.is_among.Goals as goal

pub returns : goal.returns
returns c =
    let found = c.binary_search_by_key.ensures in
    let by_address = found.position (λ (d : Cref). d.address) (answers_always _ _ _ (λ f a r g called. search rules)) in
    c.is_ok.ensures.value ∙ among_found c.args.others.now c.args.c.address c.binary_search_by_key.result c.requires found.bound by_address
