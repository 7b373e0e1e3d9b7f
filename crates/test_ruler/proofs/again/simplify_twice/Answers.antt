use Rattle.std.proofs.Common.{◌∙◌, ap}
use Rattle.std.specs.Prelude.{Ok}
use Rattle.test_ruler.proofs.again.simplify_twice.Goals as goal

pub go_on-requires : goal.go_on-requires
go_on-requires c = c.begin-answer.ensures c.in-Ok-Simplified.left (c.in-Ok-Simplified.is ∙ ap Ok c.in-Ok-Simplified.field-0-is)
