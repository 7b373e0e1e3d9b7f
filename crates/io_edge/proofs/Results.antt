-- What holds at each `Ok`, whatever it is of.
use Rattle.std.proofs.Common.{Ok, Err}
use Rattle.std.specs.Prelude.{Result, OnOk}

pub on_any_ok : {T E : Type 0} (result : Result T E) (P : Type 0) → P → OnOk result P
on_any_ok (Ok _) P holds = holds
on_any_ok (Err _) P holds = tt
