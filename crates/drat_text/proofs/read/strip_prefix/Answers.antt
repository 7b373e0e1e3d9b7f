use Rattle.std.proofs.Common.{◌∙◌, sym, length, take}
use Rattle.std.specs.Cmp.Lexicographic.{bytes_decides}
use Rattle.drat_text.proofs.Reading.{behind_front, front_taken}
use Rattle.drat_text.proofs.read.strip_prefix.Goals as goal

pub returns-then-starts_with-clause-found : goal.returns-then-starts_with-clause-found
returns-then-starts_with-clause-found c =
    let bytes = c.args.bytes.now in
    let front = c.args.front.now in
    behind_front bytes front ((bytes_decides front (take (length front) bytes)).0 (sym c.starts_with.ensures.value ∙ c.if-starts_with.true))

pub returns-else-starts_with-clause-all : goal.returns-else-starts_with-clause-all
returns-else-starts_with-clause-all c = λ more e.
    let bytes = c.args.bytes.now in
    let front = c.args.front.now in
    sym c.if-starts_with.false ∙ c.starts_with.ensures.value ∙ (bytes_decides front (take (length front) bytes)).1 (front_taken bytes front more e)
