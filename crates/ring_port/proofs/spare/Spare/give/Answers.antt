use Rattle.std.proofs.Common.{◌≡◌, ℕ, ◌+◌, ◌<◌, ◌≤◌, ◌||◌, sym, ap, subst, ◌∙◌, [], true, false, List}
use Rattle.std.specs.Option.{unwrap_or}
use Rattle.std.specs.declared.option.Option.{Option}
use Rattle.clause_cell.specs.declared.holes.Hole.{Hole}
use Rattle.clause_cell.specs.Free.{is_apart, is_free, is_within}
use Rattle.ring_port.proofs.Spares.{on_ok, clear_of, is_given, apart_given}
use Rattle.ring_port.proofs.spare.Spare.give.Goals as goal

pub give-requires-clause-clear : goal.give-requires-clause-clear
give-requires-clause-clear c =
    let apart : is_apart 0 c.in-Some.holes ≡ true = subst (λ (o : Option (List Hole)). is_apart 0 (unwrap_or o []) ≡ true) c.in-Some.is c.self.invariant in
    let here : c.args.self.now ≡ c.in-Some.holes = sym c.self.view_is ∙ ap (λ (o : Option (List Hole)). unwrap_or o []) c.in-Some.is in
    clear_of 0 c.args.first c.args.len c.in-Some.holes c.requires.range.0 apart (λ w lo hi. sym (ap (λ (hs : List Hole). is_free hs w) here) ∙ c.requires.busy w lo hi)

pub invariant_of-self-in-Some : goal.invariant_of-self-in-Some
invariant_of-self-in-Some c =
    let apart : is_apart 0 c.in-Some.holes ≡ true = subst (λ (o : Option (List Hole)). is_apart 0 (unwrap_or o []) ≡ true) c.in-Some.is c.self.invariant in
    let here : c.args.self.now ≡ c.in-Some.holes = sym c.self.view_is ∙ ap (λ (o : Option (List Hole)). unwrap_or o []) c.in-Some.is in
    ap (is_apart 0) (on_ok c.give.result _ c.if-is_err.ensures.negation c.give.ensures.given)
    ∙ apart_given c.in-Some.holes c.args.first c.args.len c.requires.range.0 c.requires.range.1 apart (λ w lo hi. sym (ap (λ (hs : List Hole). is_free hs w) here) ∙ c.requires.busy w lo hi)

pub returns-in-Some-clause-given : goal.returns-in-Some-clause-given
returns-in-Some-clause-given c = λ w.
    let apart : is_apart 0 c.in-Some.holes ≡ true = subst (λ (o : Option (List Hole)). is_apart 0 (unwrap_or o []) ≡ true) c.in-Some.is c.self.invariant in
    let here : c.args.self.now ≡ c.in-Some.holes = sym c.self.view_is ∙ ap (λ (o : Option (List Hole)). unwrap_or o []) c.in-Some.is in
    let busy : (v : ℕ) → c.args.first ≤ v → v < c.args.first + c.args.len → is_free c.in-Some.holes v ≡ false = λ v lo hi. sym (ap (λ (hs : List Hole). is_free hs v) here) ∙ c.requires.busy v lo hi in
    ap (λ (hs : List Hole). is_free hs w) (on_ok c.give.result _ c.if-is_err.ensures.negation c.give.ensures.given)
    ∙ is_given c.in-Some.holes c.args.first c.args.len w c.requires.range.0 apart busy
    ∙ ap (λ (hs : List Hole). is_within c.args.first c.args.len w || is_free hs w) (sym here)
