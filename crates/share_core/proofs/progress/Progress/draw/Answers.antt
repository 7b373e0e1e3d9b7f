use Rattle.std.proofs.Common.{refl, arith}
use Rattle.share_core.specs.Machine.{data_of}
use Rattle.share_core.proofs.Shown.{drawn_fits}
use Rattle.share_core.proofs.Lookups.{draw_shown}
use Rattle.share_core.proofs.progress.Progress.draw.Goals as goal

pub returns-clause-after : goal.returns-clause-after
returns-clause-after c = draw_shown (data_of c.args.origin.now c.args.self.now) c.args.ring c.index_mut-own.result.now c.requires.enabled.0 c.index_mut-own.ensures.value _ _ refl refl

pub overflow_add-drawn : goal.overflow_add-drawn
overflow_add-drawn c = let f = drawn_fits (data_of c.args.origin.now c.args.self.now) c.requires.kept in omega arith
