-- The codes of bad places, by number and by name.
use Rattle.std.specs.Prelude.{ℕ, List, codes}
use Rattle.dimacs_read.specs.declared.stop.Code.{Code}
use Rattle.dimacs_read.specs.declared.stop.Code.TheVariants.{NoHeader, BadHeader, BadToken, LiteralRange, TooManyClauses, TooFewClauses, OpenClause, Limit}

-- the number of a code, from 1 to 8
abbrev pub number_of : Code → ℕ
number_of NoHeader = 1
number_of BadHeader = 2
number_of BadToken = 3
number_of LiteralRange = 4
number_of TooManyClauses = 5
number_of TooFewClauses = 6
number_of OpenClause = 7
number_of Limit = 8

-- the name of a code, in bytes
abbrev pub name_of : Code → List ℕ
name_of NoHeader = codes "NoHeader"
name_of BadHeader = codes "BadHeader"
name_of BadToken = codes "BadToken"
name_of LiteralRange = codes "LiteralRange"
name_of TooManyClauses = codes "TooManyClauses"
name_of TooFewClauses = codes "TooFewClauses"
name_of OpenClause = codes "OpenClause"
name_of Limit = codes "Limit"
