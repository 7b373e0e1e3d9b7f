use Rattle.std.proofs.Common.{◌≡◌, ◌≤◌, ◌==◌, ◌∙◌, ◌∷◌, ℕ, List, sym, ap, subst, arith, None, Some, length, drop}
use Rattle.std.specs.List.{All, find}
use Rattle.std.specs.declared.option.Option.{Option}
use Rattle.sat_words.specs.declared.shared.Cref.{Cref}
use Rattle.ring_port.specs.PortState.{AreApart}
use Rattle.ring_port.specs.Store.{StoreData, IsStore, clause_in, clauses_in}
use Rattle.ring_port.proofs.Dropping.{never_at}
use Rattle.ring_port.proofs.Stretches.{first_of, none_of, freed_store, rest_store}
use Rattle.ring_port.proofs.store.Store.delete_first.Goals as goal

pub invariant_of-self : goal.invariant_of-self
invariant_of-self c =
    let i = c.self.inside in
    let ws : List ℕ = i.words.items in
    let x : Cref = c.index-c.result.now in
    let rest : List Cref = drop 1 i.waiting.items in
    let first : i.waiting.items ≡ x ∷ rest = first_of ws i.waiting.items x (subst (λ (s : StoreData). 1 ≤ length s.waiting) (sym c.self.view_is) c.requires.some) c.index-c.ensures in
    let none : i.freed ≡ None = none_of i.freed (ap (λ (s : StoreData). s.settled) c.self.view_is ∙ c.requires.settled) in
    let all = subst (λ (cs : List Cref). All (λ h. find (λ k. k.address == h.address) (clauses_in ws i.held.items) ≡ None) (clauses_in ws cs)) first
    (subst (λ (s : StoreData). All (λ h. find (λ k. k.address == h.address) s.held ≡ None) s.waiting) (sym c.self.view_is) c.requires.dropped) in
    let once = subst (λ (cs : List Cref). AreApart (clauses_in ws cs)) first (subst (λ (s : StoreData). AreApart s.waiting) (sym c.self.view_is) c.requires.once) in
    subst (λ (q : List Cref). IsStore ws i.spare i.start.items i.held.items q i.front (Some x)) (sym c.pop_front.ensures.rest)
    (freed_store ws i.spare i.start.items i.held.items rest i.front x
    (subst (λ (w : List Cref × Option Cref). IsStore ws i.spare i.start.items i.held.items w.0 i.front w.1) (λ j. (first j, none j)) c.self.invariant)
    c.if-self-c.true (never_at (clauses_in ws i.held.items) x.address (all 0 (clause_in ws x.address) (omega arith))) once.0)

pub invariant_of-self-else-self-c : goal.invariant_of-self-else-self-c
invariant_of-self-else-self-c c =
    let i = c.self.inside in
    let ws : List ℕ = i.words.items in
    let x : Cref = c.index-c.result.now in
    let rest : List Cref = drop 1 i.waiting.items in
    let first : i.waiting.items ≡ x ∷ rest = first_of ws i.waiting.items x (subst (λ (s : StoreData). 1 ≤ length s.waiting) (sym c.self.view_is) c.requires.some) c.index-c.ensures in
    subst (λ (q : List Cref). IsStore ws i.spare i.start.items i.held.items q i.front i.freed) (sym c.pop_front.ensures.rest)
    (rest_store ws i.spare i.start.items i.held.items rest i.front x i.freed
    (subst (λ (q : List Cref). IsStore ws i.spare i.start.items i.held.items q i.front i.freed) first c.self.invariant))
