use Rattle.std.proofs.Common.{◌≡◌, ◌||◌, ◌∙◌, ℕ, List, ap, subst}
use Rattle.std.specs.declared.option.Option.{Option}
use Rattle.sat_words.specs.declared.shared.Cref.{Cref}
use Rattle.clause_cell.specs.Packing.{words_for}
use Rattle.clause_cell.specs.Free.{is_free, is_within}
use Rattle.ring_port.specs.Store.{IsStore, size_at, words_at}
use Rattle.ring_port.proofs.Stretches.{settled_store}
use Rattle.ring_port.proofs.store.Store.free_last.Goals as goal

pub invariant_of-self-2 : goal.invariant_of-self-2
invariant_of-self-2 c =
    let i = c.self.inside in
    let ws : List ℕ = i.words.items in
    let x : Cref = c.in-Some.c in
    let n : c.words_for.result ≡ words_at ws x.address = c.words_for.ensures ∙ ap words_for (ap (λ h. h.size) c.head_at-size.ensures ∙ ap (λ (xs : List ℕ). size_at xs x.address) c.deref.ensures.value) in
    settled_store ws i.spare c.give.new.self i.start.items i.held.items i.waiting.items i.front x
    (subst (λ (o : Option Cref). IsStore ws i.spare i.start.items i.held.items i.waiting.items i.front o) c.in-Some.is c.self.invariant)
    (λ w. subst (λ (m : ℕ). is_free c.give.new.self w ≡ (is_within x.address m w || is_free i.spare w)) n (c.in_ok-give.ensures.given w))
