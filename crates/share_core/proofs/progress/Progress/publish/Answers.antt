use Rattle.std.proofs.Common.{◌∙◌, ◌++◌, ◌∷◌, [], List, ℕ}
use Rattle.std.specs.Vec.{with_item}
use Rattle.sat_words.specs.Literal.{Literal}
use Rattle.share_core.specs.declared.ring.RingState.{RingState}
use Rattle.share_core.specs.Machine.{CoreData, data_of, state_of}
use Rattle.share_core.proofs.Lookups.{seen_shown}
use Rattle.share_core.proofs.progress.Progress.publish.Goals as goal

pub returns-clause-after : goal.returns-clause-after
returns-clause-after c =
    let d : CoreData = data_of c.args.origin.now c.args.self.now in
    let m : RingState = c.index_mut-own.result.now in
    let x : RingState = record m { seen = c.push-3.new.self; numbers = c.push-4.new.self } in
    let shown : List Literal → List ℕ → CoreData = λ us ns. data_of c.args.origin.now (record c.args.self.now { units = us; numbers = ns; rings = with_item c.args.self.now.rings c.args.ring x }) in
    (λ j. state_of (shown (c.in_ok-push.ensures j) (c.in_ok-push-2.ensures j)))
    ∙ seen_shown d c.args.ring m c.requires.enabled.0 c.index_mut-own.ensures.value c.args.lit c.args.number c.push-3.new.self (d.units ++ c.args.lit ∷ []) c.push-4.new.self (d.numbers ++ c.args.number ∷ []) c.in_ok-push-3.ensures c.in_ok-push-4.ensures
