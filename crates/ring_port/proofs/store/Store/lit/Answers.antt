use Rattle.std.proofs.Common.{◌≡◌, ◌<◌, ◌==◌, ◌∙◌, ◌^◌, ℕ, List, sym, ap, subst, arith, Some, IsSome, length}
use Rattle.std.specs.List.{find, slice_get}
use Rattle.std.specs.declared.option.Option.{Option}
use Rattle.sat_words.specs.Literal.{IsOn}
use Rattle.ring_port.specs.PortState.{Holding, lits_in}
use Rattle.ring_port.specs.Store.{StoreData, clause_in, size_at, lit_at}
use Rattle.ring_port.proofs.Stretches.{among_held, used_held, length_lits, lit_on, lit_there}
use Rattle.ring_port.proofs.store.Store.lit.Goals as goal

pub lit_at-requires-clause-inside : goal.lit_at-requires-clause-inside
lit_at-requires-clause-inside c =
    let i = c.self.inside in
    let ws : List ℕ = i.words.items in
    let a : ℕ = c.args.c.address in
    let k = among_held ws i.held.items a (subst (λ (s : StoreData). IsSome (find (λ h. h.address == a) s.held)) (sym c.self.view_is) c.requires.held) in
    let there : find (λ h. h.address == a) c.args.self.now.held ≡ Some (clause_in ws a) = ap (λ (s : StoreData). find (λ h. h.address == a) s.held) (sym c.self.view_is) ∙ k.is in
    let lt : c.args.i < length (lits_in (Some (clause_in ws a))) = subst (λ (o : Option Holding). c.args.i < length (lits_in o)) there c.requires.inside in
    let n = length_lits ws a in
    let fits = (c.self.invariant.stands k.it (used_held i.start.items i.held.items i.waiting.items k.it k.among)).fits in
    let at = k.at in
    let moved : size_at ws k.it.address ≡ size_at ws a = ap (λ (b : ℕ). size_at ws b) at in
    let same : length c.deref.result.now ≡ length ws = ap (λ (xs : List ℕ). length xs) c.deref.ensures.value in
    omega arith

pub lit_at-requires-clause-on : goal.lit_at-requires-clause-on
lit_at-requires-clause-on c =
    let i = c.self.inside in
    let ws : List ℕ = i.words.items in
    let a : ℕ = c.args.c.address in
    let k = among_held ws i.held.items a (subst (λ (s : StoreData). IsSome (find (λ h. h.address == a) s.held)) (sym c.self.view_is) c.requires.held) in
    let there : find (λ h. h.address == a) c.args.self.now.held ≡ Some (clause_in ws a) = ap (λ (s : StoreData). find (λ h. h.address == a) s.held) (sym c.self.view_is) ∙ k.is in
    let lt : c.args.i < length (lits_in (Some (clause_in ws a))) = subst (λ (o : Option Holding). c.args.i < length (lits_in o)) there c.requires.inside in
    let n = length_lits ws a in
    let stands = c.self.invariant.stands k.it (used_held i.start.items i.held.items i.waiting.items k.it k.among) in
    let on : IsOn (2 ^ 30) (lit_at ws k.it.address c.args.i) = lit_on ws k.it.address c.args.i stands.on (let moved : size_at ws k.it.address ≡ size_at ws a = ap (λ (b : ℕ). size_at ws b) k.at in omega arith) in
    subst (λ (xs : List ℕ). IsOn (2 ^ 30) (lit_at xs a c.args.i)) (sym c.deref.ensures.value) (subst (λ (b : ℕ). IsOn (2 ^ 30) (lit_at ws b c.args.i)) k.at on)

pub returns : goal.returns
returns c =
    let i = c.self.inside in
    let ws : List ℕ = i.words.items in
    let a : ℕ = c.args.c.address in
    let k = among_held ws i.held.items a (subst (λ (s : StoreData). IsSome (find (λ h. h.address == a) s.held)) (sym c.self.view_is) c.requires.held) in
    let there : find (λ h. h.address == a) c.args.self.now.held ≡ Some (clause_in ws a) = ap (λ (s : StoreData). find (λ h. h.address == a) s.held) (sym c.self.view_is) ∙ k.is in
    let lt : c.args.i < length (lits_in (Some (clause_in ws a))) = subst (λ (o : Option Holding). c.args.i < length (lits_in o)) there c.requires.inside in
    let n = length_lits ws a in
    ap (λ (o : Option Holding). slice_get (lits_in o) c.args.i) there
    ∙ lit_there ws a c.args.i (omega arith)
    ∙ ap Some (sym (c.lit_at.ensures ∙ ap (λ (xs : List ℕ). lit_at xs a c.args.i) c.deref.ensures.value))
