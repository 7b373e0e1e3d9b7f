use Rattle.std.proofs.Common.{◌≡◌, ◌≤◌, ◌∙◌, ◌+◌, ◌/◌, ◌^◌, ℕ, List, sym, ap, subst, arith, Some, IfSome, length, inl, refl}
use Rattle.std.specs.List.{slice_get}
use Rattle.std.specs.declared.option.Option.{Option}
use Rattle.sat_words.specs.declared.shared.Cref.{Cref}
use Rattle.sat_words.specs.declared.shared.Head.{Head}
use Rattle.rup_model.proofs.Lists.{In}
use Rattle.ring_port.specs.PortState.{Holding, head_of}
use Rattle.ring_port.specs.Store.{StoreData, clause_in, clauses_in, size_at, word_at}
use Rattle.ring_port.proofs.Stretches.{first_of, used_waiting, head_is}
use Rattle.ring_port.proofs.store.Store.first_head.Goals as goal

pub head_at-requires : goal.head_at-requires
head_at-requires c =
    let i = c.self.inside in
    let x : Cref = c.index.result.now in
    let first = first_of i.words.items i.waiting.items x (subst (λ (s : StoreData). 1 ≤ length s.waiting) (sym c.self.view_is) c.requires) c.index.ensures in
    let fits = (c.self.invariant.stands x (used_waiting i.start.items i.held.items i.waiting.items x (subst (λ (cs : List Cref). In x cs) (sym first) (inl refl)))).fits in
    let same : length c.deref.result.now ≡ length i.words.items = ap (λ (ws : List ℕ). length ws) c.deref.ensures.value in
    omega arith

pub returns : goal.returns
returns c =
    let i = c.self.inside in
    let ws : List ℕ = i.words.items in
    let x : Cref = c.index.result.now in
    let a : ℕ = x.address in
    let first = first_of ws i.waiting.items x (subst (λ (s : StoreData). 1 ≤ length s.waiting) (sym c.self.view_is) c.requires) c.index.ensures in
    let there : slice_get c.args.self.now.waiting 0 ≡ Some (clause_in ws a) = ap (λ (s : StoreData). slice_get s.waiting 0) (sym c.self.view_is) ∙ ap (λ (cs : List Cref). slice_get (clauses_in ws cs) 0) first in
    let is : c.head_at.result ≡ head_of (clause_in ws a) =
    c.head_at.ensures ∙ ap (λ (xs : List ℕ). record { size = size_at xs a; glue = word_at xs (a + 2) / 2 ^ 32; number = word_at xs (a + 1) }) c.deref.ensures.value ∙ head_is ws a in
    subst (λ (o : Option Holding). IfSome o (λ h. ◌≡◌ {A = Head} c.head_at.result (head_of h))) (sym there) is
