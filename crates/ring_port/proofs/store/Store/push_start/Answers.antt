use Rattle.std.proofs.Common.{◌≡◌, ◌∙◌, ◌++◌, ◌∷◌, [], ℕ, List, sym, ap, subst, refl, arith, length}
use Rattle.sat_words.specs.declared.shared.Cref.{Cref}
use Rattle.clause_cell.specs.Packing.{words_for}
use Rattle.ring_port.specs.Store.{StoreData, IsStore, IsClaim, clauses_in}
use Rattle.ring_port.proofs.Stretches.{grown_claim, started_front, pushed_store, lists_same, list_pushed, used_started, used_start, used_held, used_waiting}
use Rattle.ring_port.proofs.store.Store.push_start.Goals as goal

pub invariant_of-self : goal.invariant_of-self
invariant_of-self c =
    let i = c.self.inside in
    let ws : List ℕ = i.words.items in
    let us : List ℕ = c.grow.new.words.items in
    let vs : List ℕ = c.write_clause.new.words.items in
    let a : ℕ = c.len-first.result in
    let x : Cref = record { address = a } in
    let end : length ws ≡ a = (let e = c.len-first.ensures in omega arith) in
    let take_words : IsClaim ws us i.spare i.spare a (words_for (length c.args.lits.now)) =
    subst (λ (w : ℕ × ℕ). IsClaim ws us i.spare i.spare w.0 w.1) (λ j. (end j, c.words_for.ensures j)) (grown_claim ws us i.spare c.words_for.result c.self.invariant.inside c.grow.ensures.longer c.grow.ensures.same) in
    let long : c.len.result ≡ length vs = (let e = c.len.ensures in omega arith) in
    let longer = take_words.longer in
    let fits = take_words.fits in
    let same = c.write_clause.ensures.long in
    subst (λ (w : List Cref × List Cref). IsStore vs i.spare w.0 w.1 i.waiting.items c.len.result i.freed) (λ j. (sym c.push_reserved.ensures.items j, sym c.push_reserved-2.ensures.items j))
    (pushed_store ws us vs i.spare i.spare a c.args.number 0 c.args.lits.now take_words c.write_clause.ensures
    i.start.items i.held.items i.waiting.items i.front i.freed c.self.invariant x refl (i.start.items ++ x ∷ []) (i.held.items ++ x ∷ []) c.len.result
    (started_front ws i.spare i.start.items i.held.items i.waiting.items i.front i.freed c.self.invariant x c.len.result (omega arith) (omega arith))
    (λ y u. used_started i.start.items i.held.items i.waiting.items x y u))

pub returns-clause-waiting : goal.returns-clause-waiting
returns-clause-waiting c =
    let i = c.self.inside in
    let ws : List ℕ = i.words.items in
    let us : List ℕ = c.grow.new.words.items in
    let vs : List ℕ = c.write_clause.new.words.items in
    let a : ℕ = c.len-first.result in
    let x : Cref = record { address = a } in
    let end : length ws ≡ a = (let e = c.len-first.ensures in omega arith) in
    let take_words : IsClaim ws us i.spare i.spare a (words_for (length c.args.lits.now)) =
    subst (λ (w : ℕ × ℕ). IsClaim ws us i.spare i.spare w.0 w.1) (λ j. (end j, c.words_for.ensures j)) (grown_claim ws us i.spare c.words_for.result c.self.invariant.inside c.grow.ensures.longer c.grow.ensures.same) in
    lists_same ws us vs i.spare i.spare a c.args.number 0 c.args.lits.now take_words c.write_clause.ensures i.waiting.items
    (λ y m. c.self.invariant.stands y (used_waiting i.start.items i.held.items i.waiting.items y m))
    ∙ ap (λ (s : StoreData). s.waiting) c.self.view_is

pub returns-clause-start : goal.returns-clause-start
returns-clause-start c =
    let i = c.self.inside in
    let ws : List ℕ = i.words.items in
    let us : List ℕ = c.grow.new.words.items in
    let vs : List ℕ = c.write_clause.new.words.items in
    let a : ℕ = c.len-first.result in
    let x : Cref = record { address = a } in
    let end : length ws ≡ a = (let e = c.len-first.ensures in omega arith) in
    let take_words : IsClaim ws us i.spare i.spare a (words_for (length c.args.lits.now)) =
    subst (λ (w : ℕ × ℕ). IsClaim ws us i.spare i.spare w.0 w.1) (λ j. (end j, c.words_for.ensures j)) (grown_claim ws us i.spare c.words_for.result c.self.invariant.inside c.grow.ensures.longer c.grow.ensures.same) in
    let place : a ≡ c.args.self.now.end = sym end ∙ ap (λ (s : StoreData). s.end) c.self.view_is in
    ap (λ (cs : List Cref). clauses_in vs cs) c.push_reserved.ensures.items
    ∙ list_pushed ws us vs i.spare i.spare a c.args.number 0 c.args.lits.now take_words c.write_clause.ensures i.start.items x refl
    (λ y m. c.self.invariant.stands y (used_start i.start.items i.held.items i.waiting.items y m))
    ∙ ap (λ (s : StoreData). s.start ++ record { address = a; number = c.args.number; glue = 0; lits = c.args.lits.now } ∷ []) c.self.view_is
    ∙ ap (λ (b : ℕ). c.args.self.now.start ++ record { address = b; number = c.args.number; glue = 0; lits = c.args.lits.now } ∷ []) place

pub returns-clause-held : goal.returns-clause-held
returns-clause-held c =
    let i = c.self.inside in
    let ws : List ℕ = i.words.items in
    let us : List ℕ = c.grow.new.words.items in
    let vs : List ℕ = c.write_clause.new.words.items in
    let a : ℕ = c.len-first.result in
    let x : Cref = record { address = a } in
    let end : length ws ≡ a = (let e = c.len-first.ensures in omega arith) in
    let take_words : IsClaim ws us i.spare i.spare a (words_for (length c.args.lits.now)) =
    subst (λ (w : ℕ × ℕ). IsClaim ws us i.spare i.spare w.0 w.1) (λ j. (end j, c.words_for.ensures j)) (grown_claim ws us i.spare c.words_for.result c.self.invariant.inside c.grow.ensures.longer c.grow.ensures.same) in
    let place : a ≡ c.args.self.now.end = sym end ∙ ap (λ (s : StoreData). s.end) c.self.view_is in
    ap (λ (cs : List Cref). clauses_in vs cs) c.push_reserved-2.ensures.items
    ∙ list_pushed ws us vs i.spare i.spare a c.args.number 0 c.args.lits.now take_words c.write_clause.ensures i.held.items x refl
    (λ y m. c.self.invariant.stands y (used_held i.start.items i.held.items i.waiting.items y m))
    ∙ ap (λ (s : StoreData). s.held ++ record { address = a; number = c.args.number; glue = 0; lits = c.args.lits.now } ∷ []) c.self.view_is
    ∙ ap (λ (b : ℕ). c.args.self.now.held ++ record { address = b; number = c.args.number; glue = 0; lits = c.args.lits.now } ∷ []) place
