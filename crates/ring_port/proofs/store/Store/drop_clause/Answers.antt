use Rattle.std.proofs.Common.{◌≡◌, ◌==◌, ◌∙◌, ◌++◌, ◌∷◌, [], ℕ, List, sym, ap, subst, Some, IsSome, IfSome}
use Rattle.std.proofs.lemmas.List.{map-append}
use Rattle.std.specs.List.{find}
use Rattle.std.specs.declared.option.Option.{Option}
use Rattle.sat_words.specs.declared.shared.Cref.{Cref}
use Rattle.ring_port.specs.PortState.{Holding}
use Rattle.ring_port.specs.Deleting.{without_one}
use Rattle.ring_port.specs.Store.{StoreData, clause_in, clauses_in, IsStore, without_ref}
use Rattle.ring_port.proofs.Stretches.{among_held, pushed_ok, fewer_used, used_dropped, clauses_without}
use Rattle.ring_port.proofs.store.Store.drop_clause.Goals as goal

pub invariant_of-self-2 : goal.invariant_of-self-2
invariant_of-self-2 c =
    let i = c.self.inside in
    let x : Cref = c.args.c in
    let k = among_held i.words.items i.held.items x.address (subst (λ (s : StoreData). IsSome (find (λ h. h.address == x.address) s.held)) (sym c.self.view_is) c.requires) in
    let waits : c.push_back.new.self.items ≡ i.waiting.items ++ x ∷ [] = pushed_ok c.push_back.result (i.waiting.items ++ x ∷ []) i.waiting.items c.push_back.new.self.items c.push_back.ensures.items (sym c.is_err.ensures.value ∙ c.if-is_err.false) in
    subst (λ (w : List Cref × List Cref). IsStore i.words.items i.spare i.start.items w.0 w.1 i.front i.freed) (λ j. (sym c.take_out.ensures j, sym waits j))
    (fewer_used i.words.items i.spare i.start.items i.held.items i.waiting.items (without_ref i.held.items x.address) (i.waiting.items ++ x ∷ []) i.front i.freed c.self.invariant
    (λ y u. used_dropped i.start.items i.held.items i.waiting.items x k.it k.among k.at y u))

pub returns-clause-held : goal.returns-clause-held
returns-clause-held c =
    let i = c.self.inside in
    ap (λ (cs : List Cref). clauses_in i.words.items cs) c.take_out.ensures ∙ clauses_without i.words.items i.held.items c.args.c.address ∙ ap (λ (s : StoreData). without_one s.held c.args.c.address) c.self.view_is

pub returns-clause-waiting : goal.returns-clause-waiting
returns-clause-waiting c =
    let i = c.self.inside in
    let ws : List ℕ = i.words.items in
    let x : Cref = c.args.c in
    let k = among_held ws i.held.items x.address (subst (λ (s : StoreData). IsSome (find (λ h. h.address == x.address) s.held)) (sym c.self.view_is) c.requires) in
    let there : find (λ h. h.address == x.address) c.args.self.now.held ≡ Some (clause_in ws x.address) = ap (λ (s : StoreData). find (λ h. h.address == x.address) s.held) (sym c.self.view_is) ∙ k.is in
    let waits : c.push_back.new.self.items ≡ i.waiting.items ++ x ∷ [] = pushed_ok c.push_back.result (i.waiting.items ++ x ∷ []) i.waiting.items c.push_back.new.self.items c.push_back.ensures.items (sym c.is_err.ensures.value ∙ c.if-is_err.false) in
    let all : clauses_in ws c.push_back.new.self.items ≡ c.args.self.now.waiting ++ clause_in ws x.address ∷ [] =
    ap (λ (cs : List Cref). clauses_in ws cs) waits ∙ map-append (λ (d : Cref). clause_in ws d.address) i.waiting.items (x ∷ []) ∙ ap (λ (s : StoreData). s.waiting ++ clause_in ws x.address ∷ []) c.self.view_is in
    subst (λ (o : Option Holding). IfSome o (λ h. clauses_in ws c.push_back.new.self.items ≡ c.args.self.now.waiting ++ h ∷ [])) (sym there) all
