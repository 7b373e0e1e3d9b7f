use Rattle.std.proofs.Common.{◌+◌, ℕ, subst, get_or, drop}
use Rattle.simp_equiv.specs.Tables.{stand_in}
use Rattle.simp_equiv.specs.Rewritten.{Adding, WasAdded}
use Rattle.simp_equiv.proofs.Growing.{front, stopped_after}
use Rattle.simp_equiv.proofs.Adding.{adding_start, adding_known, leads_along}
use Rattle.simp_equiv.proofs.additions.add_all.Goals as goal

pub loop-number-init : goal.loop-number-init
loop-number-init g c = adding_start c.args.work.now (stand_in c.args.table.now) c.args.numbers.now c.requires.going c.requires.unspent c.requires.work c.requires.numbers

pub add_replacement-requires-clause-leads : goal.add_replacement-requires-clause-leads
add_replacement-requires-clause-leads g c =
    let start = c.args.work.now in let now = c.loop-number.work in let sin = stand_in c.args.table.now in
    leads_along start now sin (adding_known start now sin (drop c.loop-number.number-index c.args.numbers.now) c.loop-number.invariant) c.requires.leads

pub loop-number-preserved : goal.loop-number-preserved
loop-number-preserved g c =
    let start = c.args.work.now in let now = c.loop-number.work in let new = c.add_replacement.new.work in let sin = stand_in c.args.table.now in
    let numbers = c.args.numbers.now in let i = c.loop-number.number-index in let n : ℕ = get_or numbers i 0 in
    subst (λ r. WasAdded now new sin n r) c.in-Ok.is c.add_replacement.ensures.added start (drop (i + 1) numbers)
    (subst (λ rest. Adding start now sin rest) (front numbers i c.loop-number-test.true) c.loop-number.invariant)

pub returns-in-Err-clause-added : goal.returns-in-Err-clause-added
returns-in-Err-clause-added g c =
    let start = c.args.work.now in let now = c.loop-number.work in let new = c.add_replacement.new.work in let sin = stand_in c.args.table.now in
    let numbers = c.args.numbers.now in let i = c.loop-number.number-index in let n : ℕ = get_or numbers i 0 in
    stopped_after start now new c.in-Err.stop c.loop-number.invariant.on (subst (λ r. WasAdded now new sin n r) c.in-Err.is c.add_replacement.ensures.added)
