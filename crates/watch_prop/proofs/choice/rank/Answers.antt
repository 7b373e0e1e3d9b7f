use Rattle.std.proofs.Common.{◌∙◌, ◌+◌, ℕ, Option, ap, inl, sym, unwrap_or}
use Rattle.std.proofs.lemmas.Bool.{false≢true}
use Rattle.ring_trail.specs.TrailData.{level_of}
use Rattle.watch_prop.proofs.Ranks.{rank_of_false}
use Rattle.watch_prop.proofs.choice.rank.Goals as goal

pub returns-then-is_false : goal.returns-then-is_false
returns-then-is_false c =
    rank_of_false c.args.trail.now c.args.lit c.unwrap_or.result c.decision_level-not_false.ensures.trail (c.is_false.ensures.0 c.if-is_false.true)
    (c.unwrap_or.ensures ∙ ap (λ (o : Option ℕ). unwrap_or o 0) (c.level.ensures ∙ ap (level_of c.args.trail.now.steps) c.var.ensures.value))

pub returns-else-is_false : goal.returns-else-is_false
returns-else-is_false c =
    inl (ap (λ (n : ℕ). n + 1) c.decision_level-not_false.ensures.level, λ p. false≢true (sym c.if-is_false.false ∙ c.is_false.ensures.1 p))
