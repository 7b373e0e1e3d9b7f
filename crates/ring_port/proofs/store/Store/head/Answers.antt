use Rattle.std.proofs.Common.{◌≡◌, ◌==◌, ◌∙◌, ◌+◌, ◌/◌, ◌^◌, ℕ, List, sym, ap, subst, arith, Some, IsSome, IfSome, length}
use Rattle.std.specs.List.{find}
use Rattle.std.specs.declared.option.Option.{Option}
use Rattle.sat_words.specs.declared.shared.Head.{Head}
use Rattle.ring_port.specs.PortState.{Holding, head_of}
use Rattle.ring_port.specs.Store.{StoreData, clause_in, size_at, word_at}
use Rattle.ring_port.proofs.Stretches.{among_held, used_held, head_is}
use Rattle.ring_port.proofs.store.Store.head.Goals as goal

pub head_at-requires : goal.head_at-requires
head_at-requires c =
    let i = c.self.inside in
    let k = among_held i.words.items i.held.items c.args.c.address (subst (λ (s : StoreData). IsSome (find (λ h. h.address == c.args.c.address) s.held)) (sym c.self.view_is) c.requires) in
    let fits = (c.self.invariant.stands k.it (used_held i.start.items i.held.items i.waiting.items k.it k.among)).fits in
    let at = k.at in
    let same : length c.deref.result.now ≡ length i.words.items = ap (λ (ws : List ℕ). length ws) c.deref.ensures.value in
    omega arith

pub returns : goal.returns
returns c =
    let i = c.self.inside in
    let a : ℕ = c.args.c.address in
    let k = among_held i.words.items i.held.items a (subst (λ (s : StoreData). IsSome (find (λ h. h.address == a) s.held)) (sym c.self.view_is) c.requires) in
    let there : find (λ h. h.address == a) c.args.self.now.held ≡ Some (clause_in i.words.items a) = ap (λ (s : StoreData). find (λ h. h.address == a) s.held) (sym c.self.view_is) ∙ k.is in
    let is : c.head_at.result ≡ head_of (clause_in i.words.items a) =
    c.head_at.ensures ∙ ap (λ (ws : List ℕ). record { size = size_at ws a; glue = word_at ws (a + 2) / 2 ^ 32; number = word_at ws (a + 1) }) c.deref.ensures.value ∙ head_is i.words.items a in
    subst (λ (o : Option Holding). IfSome o (λ h. ◌≡◌ {A = Head} c.head_at.result (head_of h))) (sym there) is
