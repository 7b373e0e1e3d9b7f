use Rattle.std.proofs.Common.{◌≡◌, ◌++◌, length, ap, arith, length-append}
use Rattle.share_core.proofs.laws.entries_are_of_rings.Goals as goal

pub returns-clause-longer : goal.returns-clause-longer
returns-clause-longer c = λ d s. (let e : length d.journal ≡ length (d.opening.journal ++ s.log.begins.0) = ap length s.log.begins.1 in let l = length-append d.opening.journal s.log.begins.0 in omega arith)

pub returns-clause-rings : goal.returns-clause-rings
returns-clause-rings c = λ d s. s.log.begins
