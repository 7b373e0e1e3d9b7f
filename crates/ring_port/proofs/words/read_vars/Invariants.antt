use Rattle.std.proofs.Common.{◌^◌, All, take}
use Rattle.sat_words.specs.Literal.{IsOn}
use Rattle.ring_port.proofs.words.read_vars.Given as goal

-- those that were read
abbrev pub invariant-loop-lit : goal.invariant-loop-lit
invariant-loop-lit l = All (IsOn (2 ^ 30)) (take l.lit-index l.lits)
