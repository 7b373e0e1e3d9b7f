use Rattle.std.proofs.Common.{◌≡◌, List, map, sym, ap, ◌∙◌}
use Rattle.sat_words.specs.Literal.{Literal}
use Rattle.share_core.specs.Machine.{start_at}
use Rattle.test_core.specs.Fitting.{opens}
use Rattle.test_core.proofs.Fitting.{opening_from}
use Rattle.test_core.proofs.opener.core_over.Goals as goal

pub new-requires : goal.new-requires
new-requires c =
    let F : List (List Literal) = c.args.formula.clauses in
    let starts : c.as_slice.result.now ≡ map (start_at F) c.args.start.now =
    c.as_slice.ensures.value ∙ c.in_ok-starts.ensures ∙ ap (λ (G : List (List Literal)). map (start_at G) c.args.start.now) c.clauses.ensures in
    let same : opens c.clauses-2.result.now c.as_slice.result.now c.args.units.now c.args.rings c.args.depth c.args.limit ≡ opens F (map (start_at F) c.args.start.now) c.args.units.now c.args.rings c.args.depth c.args.limit =
    λ j. opens (c.clauses-2.ensures j) (starts j) c.args.units.now c.args.rings c.args.depth c.args.limit in
    opening_from F c.args.start.now c.args.units.now c.args.rings c.args.depth c.args.limit c.args.hinted (sym (c.opens.ensures ∙ same) ∙ c.if-not-opens.false)
