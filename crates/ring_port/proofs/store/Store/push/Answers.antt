use Rattle.std.proofs.Common.{◌≢◌, ◌∙◌, ◌++◌, ◌∷◌, [], ℕ, List, sym, ap, subst, refl, length}
use Rattle.std.specs.List.{All}
use Rattle.sat_words.specs.declared.shared.Cref.{Cref}
use Rattle.clause_cell.specs.Packing.{words_for}
use Rattle.ring_port.specs.Store.{StoreData, IsStore, IsClaim, clauses_in}
use Rattle.ring_port.proofs.Stretches.{pushed_store, lists_same, list_pushed, not_there, used_pushed, used_start, used_held, used_waiting}
use Rattle.ring_port.proofs.store.Store.push.Goals as goal

pub invariant_of-self : goal.invariant_of-self
invariant_of-self c =
    let i = c.self.inside in
    let ws : List ℕ = i.words.items in
    let us : List ℕ = c.take_words-first.new.words.items in
    let vs : List ℕ = c.write_clause.new.words.items in
    let x : Cref = record { address = c.take_words-first.result } in
    let take_words : IsClaim ws us i.spare c.take_words-first.new.spare c.take_words-first.result (words_for (length c.args.lits.now)) = subst (λ (n : ℕ). IsClaim ws us i.spare c.take_words-first.new.spare c.take_words-first.result n) c.words_for-need.ensures c.take_words-first.ensures in
    subst (λ (cs : List Cref). IsStore vs c.take_words-first.new.spare i.start.items cs i.waiting.items i.front i.freed) (sym c.push_reserved.ensures.items)
    (pushed_store ws us vs i.spare c.take_words-first.new.spare c.take_words-first.result c.args.number c.args.glue c.args.lits.now take_words c.write_clause.ensures
    i.start.items i.held.items i.waiting.items i.front i.freed c.self.invariant x refl i.start.items (i.held.items ++ x ∷ []) i.front c.self.invariant.front
    (λ y u. used_pushed i.start.items i.held.items i.waiting.items x y u))

pub returns-clause-start : goal.returns-clause-start
returns-clause-start c =
    let i = c.self.inside in
    let ws : List ℕ = i.words.items in
    let us : List ℕ = c.take_words-first.new.words.items in
    let vs : List ℕ = c.write_clause.new.words.items in
    let take_words : IsClaim ws us i.spare c.take_words-first.new.spare c.take_words-first.result (words_for (length c.args.lits.now)) = subst (λ (n : ℕ). IsClaim ws us i.spare c.take_words-first.new.spare c.take_words-first.result n) c.words_for-need.ensures c.take_words-first.ensures in
    lists_same ws us vs i.spare c.take_words-first.new.spare c.take_words-first.result c.args.number c.args.glue c.args.lits.now take_words c.write_clause.ensures i.start.items
    (λ y m. c.self.invariant.stands y (used_start i.start.items i.held.items i.waiting.items y m))
    ∙ ap (λ (s : StoreData). s.start) c.self.view_is

pub returns-clause-waiting : goal.returns-clause-waiting
returns-clause-waiting c =
    let i = c.self.inside in
    let ws : List ℕ = i.words.items in
    let us : List ℕ = c.take_words-first.new.words.items in
    let vs : List ℕ = c.write_clause.new.words.items in
    let take_words : IsClaim ws us i.spare c.take_words-first.new.spare c.take_words-first.result (words_for (length c.args.lits.now)) = subst (λ (n : ℕ). IsClaim ws us i.spare c.take_words-first.new.spare c.take_words-first.result n) c.words_for-need.ensures c.take_words-first.ensures in
    lists_same ws us vs i.spare c.take_words-first.new.spare c.take_words-first.result c.args.number c.args.glue c.args.lits.now take_words c.write_clause.ensures i.waiting.items
    (λ y m. c.self.invariant.stands y (used_waiting i.start.items i.held.items i.waiting.items y m))
    ∙ ap (λ (s : StoreData). s.waiting) c.self.view_is

pub returns-clause-held : goal.returns-clause-held
returns-clause-held c =
    let i = c.self.inside in
    let ws : List ℕ = i.words.items in
    let us : List ℕ = c.take_words-first.new.words.items in
    let vs : List ℕ = c.write_clause.new.words.items in
    let x : Cref = record { address = c.take_words-first.result } in
    let take_words : IsClaim ws us i.spare c.take_words-first.new.spare c.take_words-first.result (words_for (length c.args.lits.now)) = subst (λ (n : ℕ). IsClaim ws us i.spare c.take_words-first.new.spare c.take_words-first.result n) c.words_for-need.ensures c.take_words-first.ensures in
    ap (λ (cs : List Cref). clauses_in vs cs) c.push_reserved.ensures.items
    ∙ list_pushed ws us vs i.spare c.take_words-first.new.spare c.take_words-first.result c.args.number c.args.glue c.args.lits.now take_words c.write_clause.ensures i.held.items x refl
    (λ y m. c.self.invariant.stands y (used_held i.start.items i.held.items i.waiting.items y m))
    ∙ ap (λ (s : StoreData). s.held ++ record { address = c.take_words-first.result; number = c.args.number; glue = c.args.glue; lits = c.args.lits.now } ∷ []) c.self.view_is

pub returns-clause-not_held : goal.returns-clause-not_held
returns-clause-not_held c =
    let i = c.self.inside in
    let ws : List ℕ = i.words.items in
    let us : List ℕ = c.take_words-first.new.words.items in
    let vs : List ℕ = c.write_clause.new.words.items in
    let take_words : IsClaim ws us i.spare c.take_words-first.new.spare c.take_words-first.result (words_for (length c.args.lits.now)) = subst (λ (n : ℕ). IsClaim ws us i.spare c.take_words-first.new.spare c.take_words-first.result n) c.words_for-need.ensures c.take_words-first.ensures in
    subst (λ (s : StoreData). All (λ h. h.address ≢ c.take_words-first.result) s.held) c.self.view_is
    (not_there ws us vs i.spare c.take_words-first.new.spare c.take_words-first.result c.args.number c.args.glue c.args.lits.now take_words c.write_clause.ensures i.held.items c.take_words-first.result refl
    (λ y m. c.self.invariant.stands y (used_held i.start.items i.held.items i.waiting.items y m)))

pub returns-clause-not_waiting : goal.returns-clause-not_waiting
returns-clause-not_waiting c =
    let i = c.self.inside in
    let ws : List ℕ = i.words.items in
    let us : List ℕ = c.take_words-first.new.words.items in
    let vs : List ℕ = c.write_clause.new.words.items in
    let take_words : IsClaim ws us i.spare c.take_words-first.new.spare c.take_words-first.result (words_for (length c.args.lits.now)) = subst (λ (n : ℕ). IsClaim ws us i.spare c.take_words-first.new.spare c.take_words-first.result n) c.words_for-need.ensures c.take_words-first.ensures in
    subst (λ (s : StoreData). All (λ h. h.address ≢ c.take_words-first.result) s.waiting) c.self.view_is
    (not_there ws us vs i.spare c.take_words-first.new.spare c.take_words-first.result c.args.number c.args.glue c.args.lits.now take_words c.write_clause.ensures i.waiting.items c.take_words-first.result refl
    (λ y m. c.self.invariant.stands y (used_waiting i.start.items i.held.items i.waiting.items y m)))
