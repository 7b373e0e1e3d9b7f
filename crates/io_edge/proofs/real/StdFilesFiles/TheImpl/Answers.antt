use Rattle.std.proofs.Common.{refl}
use Rattle.io_edge.proofs.Results.{on_any_ok}
use Rattle.io_edge.proofs.real.StdFilesFiles.TheImpl.Goals as goal

pub create_output-tells : goal.create_output-tells
create_output-tells g c = record {
  written = on_any_ok c.result _ tt;
  flushed = on_any_ok c.result _ tt;
  target = on_any_ok c.result _ refl;
  fresh = c.ensures.fresh;
  contents = refl;
  tried = refl;
  cause = c.ensures.cause;
  once = c.ensures.once;
}
