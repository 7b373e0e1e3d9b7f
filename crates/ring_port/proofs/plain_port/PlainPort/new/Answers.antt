use Rattle.std.proofs.Common.{◌≡◌, ◌∙◌, ◌-◌, ap, arith, length, sym, subst, None, Bool, vec_len}
use Rattle.std.specs.Vec.{vec_capacity}
use Rattle.sat_words.specs.Formats.{has_hints}
use Rattle.drat_text.specs.LineState.{LineState}
use Rattle.ring_port.specs.PortState.{HoldsStart}
use Rattle.ring_port.specs.Log.{StandsOver}
use Rattle.ring_port.specs.PlainPort.{PlainData, IsPlain, placed_from, unit_lits, told_in}
use Rattle.ring_port.proofs.PlainLemmas.{plain_port}
use Rattle.ring_port.proofs.Beginnings.{begun_plain, begun_is, begun_stands, begun_holds}
use Rattle.ring_port.proofs.plain_port.PlainPort.new.Goals as goal

pub invariant_of-result : goal.invariant_of-result
invariant_of-result g c =
    let out : LineState = g.L.LineOut.told c.args.output in
    let units = c.args.units.items in
    let start : c.starts.inside.store.start ≡ placed_from 0 c.args.starts = c.starts.invariant.placed ∙ ap (placed_from 0) c.starts.view_is in
    let held : c.starts.inside.store.held ≡ placed_from 0 c.args.starts = c.starts.invariant.held ∙ start in
    let opening : c.in-Ok.opening.items ≡ unit_lits units = c.in-Ok.ensures ∙ ap unit_lits c.deref.ensures.value in
    let hinted : c.has_hints-hinted.result ≡ has_hints out.format = c.has_hints-hinted.ensures ∙ ap has_hints c.format.ensures in
    let told : c.told_in-told.result.items ≡ told_in (has_hints out.format) units = c.told_in-told.ensures ∙ ap (λ (b : Bool). told_in b units) hinted in
    let found = c.requires.opening in
    let plain = begun_plain found.clauses c.args.vars c.args.starts units out c.args.limit (vec_capacity c.in-Ok-with_capacity.given - vec_len c.in-Ok-with_capacity.given) c.new-2.result found.journal c.new-2.ensures.output found.over c.requires.starts_on c.requires.units_on
    (let exact = c.in-Ok-with_capacity.ensures.exact in let none = c.in-Ok-with_capacity.ensures.len in let n = c.len.ensures in let same = ap (λ ls. length ls) opening in omega arith) (omega arith) in
    subst (λ (p : PlainData). IsPlain p)
    (λ i. record { vars = c.args.vars; start = sym start i; held = sym held i; waiting = sym c.starts.invariant.none_waits i; opening = sym opening i; passed = 0; given = sym c.in-Ok-with_capacity.ensures.items i; given_room = vec_capacity c.in-Ok-with_capacity.given - vec_len c.in-Ok-with_capacity.given; written = sym c.new.ensures.items i; hinted = sym hinted i; told = sym told i; log = c.new-2.result; last = None; tickets = sym c.new-3.ensures i; stop = None; looks = 0; caught_up = 0 })
    plain

pub returns-clause-made : goal.returns-clause-made
returns-clause-made g c =
    let out : LineState = g.L.LineOut.told c.args.output in
    let units = c.args.units.items in
    let start : c.starts.inside.store.start ≡ placed_from 0 c.args.starts = c.starts.invariant.placed ∙ ap (placed_from 0) c.starts.view_is in
    let held : c.starts.inside.store.held ≡ placed_from 0 c.args.starts = c.starts.invariant.held ∙ start in
    let opening : c.in-Ok.opening.items ≡ unit_lits units = c.in-Ok.ensures ∙ ap unit_lits c.deref.ensures.value in
    let hinted : c.has_hints-hinted.result ≡ has_hints out.format = c.has_hints-hinted.ensures ∙ ap has_hints c.format.ensures in
    let told : c.told_in-told.result.items ≡ told_in (has_hints out.format) units = c.told_in-told.ensures ∙ ap (λ (b : Bool). told_in b units) hinted in
    begun_is c.requires.opening.clauses c.args.vars c.args.starts units out c.args.limit c.starts.inside.store.start c.starts.inside.store.held c.starts.inside.store.waiting c.in-Ok.opening.items c.in-Ok-with_capacity.given.items c.new.result.items
    c.has_hints-hinted.result c.told_in-told.result.items (vec_capacity c.in-Ok-with_capacity.given - vec_len c.in-Ok-with_capacity.given) c.new-2.result c.new-3.result
    start held c.starts.invariant.none_waits opening c.in-Ok-with_capacity.ensures.items c.new.ensures.items hinted told c.new-3.ensures c.new-2.ensures.output c.new-2.ensures.mine c.new-2.ensures.ended c.new-2.ensures.refused

pub returns-clause-stands : goal.returns-clause-stands
returns-clause-stands g c = λ F J opens going.
    let is = returns-clause-made g c in
    subst (λ s. StandsOver (record { formula = F; journal = J; output = g.L.LineOut.told c.args.output }) s) (sym is)
    (begun_stands F c.args.vars c.args.starts c.args.units.items (g.L.LineOut.told c.args.output) c.args.limit J opens going c.requires.unspent)

pub returns-clause-holds : goal.returns-clause-holds
returns-clause-holds g c = subst (λ s. HoldsStart s) (sym (returns-clause-made g c)) (begun_holds c.args.vars c.args.starts c.args.units.items (g.L.LineOut.told c.args.output) c.args.limit)

pub returns-clause-port : goal.returns-clause-port
returns-clause-port g c = plain_port _ (invariant_of-result g c)
