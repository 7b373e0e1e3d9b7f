-- The rings of a round delete none of its start clauses: a ring that ran to its end held them to the last.
use Rattle.std.proofs.Common.{None, ◌≡◌, ◌∙◌, ◌<◌, ◌==◌, ℕ, zero, suc, List, [], ◌∷◌, ◌++◌, map, get_or, All, Contains, Option, Some, IfSome, refl, sym, ap, subst, arith}
use Rattle.std.specs.List.{fold}
use Rattle.std.proofs.lemmas.List.Sums.{fold-append}
use Rattle.sat_words.specs.Literal.{Literal}
use Rattle.rup_model.specs.declared.journal.TheConstants.{RULER_RING}
use Rattle.rup_model.specs.declared.journal.Entry.{Entry}
use Rattle.rup_model.specs.declared.journal.Entry.TheVariants.{Add, Del, Reduce, Round}
use Rattle.rup_model.specs.Journal.{ring_of, deletion, Book, formula_book, spelled, book_after, book, lines}
use Rattle.rup_model.specs.Log.{alive}
use Rattle.rup_model.specs.Opening.{Start, IsStart}
use Rattle.rup_model.proofs.Lists.{In, In_map, map_In, Contains_In}
use Rattle.rup_model.proofs.Numbers.{clause_below, journal_matches}
use Rattle.rup_model.proofs.Sums.{at_put, put_here, put_else}
use Rattle.share_core.specs.declared.part.CoreOpening.{CoreOpening}
use Rattle.share_core.specs.declared.part.Part.{Part}
use Rattle.share_core.specs.declared.stored.Cell.{Cell}
use Rattle.share_core.specs.declared.stored.ClauseAt.{ClauseAt}
use Rattle.share_core.specs.Sound.{Sound, IsCopy}
use Rattle.share_core.proofs.Leaving.{left_sound}
use Rattle.share_rule.specs.declared.view.GlueAt.{GlueAt}
use Rattle.share_rule.specs.declared.view.View.{View}
use Rattle.share_rule.specs.Seen.{Seen, IsPart}
use Rattle.share_rule.specs.Views.{glue_in, start_glues}
use Rattle.share_rule.proofs.Lists.{start_glue}
use Rattle.ring_port.specs.PortState.{PortState, Holding, HoldsStart, held_at}
use Rattle.ring_port.proofs.Dropping.{find_In}
use Rattle.ring_pass.specs.RingState.{holding_of, port_with}
use Rattle.simp_base.proofs.Lists.{All_In}
use Rattle.core_rounds.specs.Rounds.{start_for, KeepsStarts}
use Rattle.ring_run.specs.declared.job.Counts.{Counts}
use Rattle.ring_run.specs.declared.job.End.{End}
use Rattle.portfolio_run.specs.declared.plan.Plan.{Plan}
use Rattle.portfolio_run.specs.Reached.{RanAt}

-- Numbers

-- a ring gives no number again
was_alive : (b : Book) (e : Entry) (n : ℕ) (c : List Literal) → ring_of e < RULER_RING → n < b.next → (book_after b e).clause n ≡ Some c → b.clause n ≡ Some c
was_alive b (Add x) n c ring lt is = sym (put_else b.clause b.next (Some (spelled x)) n (λ e. omega arith)) ∙ is
was_alive b (Del r m) n c ring lt is = at_put b.clause m None (λ (o : Option (List Literal)). o ≡ Some c → b.clause n ≡ Some c) n (λ e none. absurd (let no : ⊥ = cc in no)) (λ ne there. there) is
was_alive b (Reduce r) n c ring lt is = is
was_alive b (Round x) n c ring lt is = absurd (omega arith)

was_given : (b : Book) (e : Entry) (n : ℕ) → n < b.next → n < (book_after b e).next
was_given b (Add x) n lt = omega arith
was_given b (Del r m) n lt = lt
was_given b (Reduce r) n lt = lt
was_given b (Round x) n lt = lt

pub were_alive : (b : Book) (K : List Entry) (n : ℕ) (c : List Literal) → All (λ e. ring_of e < RULER_RING) K → n < b.next → (fold book_after b K).clause n ≡ Some c → b.clause n ≡ Some c
were_alive b [] n c rings lt is = is
were_alive b (e ∷ K) n c rings lt is =
    was_alive b e n c (rings 0 e (omega arith)) lt (were_alive (book_after b e) K n c (λ k d less. rings (suc k) d (omega arith)) (was_given b e n lt) is)

-- so a number whose clause is alive after it was not deleted
was_kept : (b : Book) (e : Entry) (n : ℕ) (c : List Literal) → (book_after b e).clause n ≡ Some c → IfSome (deletion e) (λ m. m ≡ n → ⊥)
was_kept b (Add x) n c is = tt
was_kept b (Del r m) n c is = λ same. let none : (book_after b (Del r m)).clause m ≡ None = put_here b.clause m None in let there : (book_after b (Del r m)).clause m ≡ Some c = ap (book_after b (Del r m)).clause same ∙ is in cc
was_kept b (Reduce r) n c is = tt
was_kept b (Round x) n c is = tt

were_kept : (b : Book) (K : List Entry) (n : ℕ) (c : List Literal) → All (λ e. ring_of e < RULER_RING) K → n < b.next → (fold book_after b K).clause n ≡ Some c → All (λ e. IfSome (deletion e) (λ m. m ≡ n → ⊥)) K
were_kept b [] n c rings lt is k d less = absurd (omega arith)
were_kept b (e ∷ K) n c rings lt is zero d less = was_kept b e n c (were_alive (book_after b e) K n c (λ k x below. rings (suc k) x (omega arith)) (was_given b e n lt) is)
were_kept b (e ∷ K) n c rings lt is (suc k) d less = were_kept (book_after b e) K n c (λ j x below. rings (suc j) x (omega arith)) (was_given b e n lt) is k d (omega arith)

-- What a port holds

found_held : (s : PortState) (a : ℕ) (k : Holding) → held_at s a ≡ Some k → In k s.held
unfolding held_at
found_held s a k e = find_In (λ x. x.address == a) s.held k e

-- a port that holds its start clauses has them among what its part holds, with glue 0
held_start : (port : PortState) (gs : List GlueAt) (hs ss : List ClauseAt) → port.held ≡ map (holding_of gs) hs → port.start ≡ map (holding_of (start_glues ss)) ss → HoldsStart port → (x : ClauseAt) → In x ss
    → (g : ClauseAt) × In g hs × (glue_in g.number gs ≡ 0) × (g.number ≡ x.number) × (g.lits ≡ x.lits)
held_start port gs hs ss held_is start_is holds x i =
    let k : Holding = holding_of (start_glues ss) x in
    let first : In k port.start = subst (λ (ks : List Holding). In k ks) (sym start_is) (In_map (holding_of (start_glues ss)) ss x i) in
    let there : In k port.held = found_held port x.address k (All_In (λ (y : Holding). held_at port y.address ≡ Some y) port.start k holds first) in
    let g = map_In (holding_of gs) hs k (subst (λ (ks : List Holding). In k ks) held_is there) in
    (g.0, g.1, ap (λ (y : Holding). y.glue) g.2 ∙ start_glue x.number ss, ap (λ (y : Holding). y.number) g.2, ap (λ (y : Holding). y.lits) g.2)

-- A ring ran to its end, and it held the start clauses to the last

module _ (w : View) (s : Seen w) (v : View) (home : List ℕ) (plan : Plan) (r : ℕ) (end : End) (counts : Counts) (ran : RanAt v home plan w r end counts) (same_opening : w.opening ≡ v.opening) (below : r < s.core.opening.rings) where
  core : Sound s.core
  core = left_sound s.core.opening s.core s.left

  abbrev port : PortState
  port = port_with (record v { stop = ran.seen; looks = ran.ran.looks }) ran.part ran.ran.own

  is_part : IsPart w.layout s.core s.glue ran.part
  is_part = s.parts r ran.part ran.there

  part_is : ran.part.core ≡ s.core.part r
  part_is = is_part.part ∙ ap s.core.part ran.ring_is

  part_copy : (g : ClauseAt) → In g ran.part.core.held → IsCopy s.core.cell g
  part_copy g i = All_In (IsCopy s.core.cell) (s.core.part r).held g (core.copies.held r below) (subst (λ (q : Part). In g q.held) part_is i)

  starts_are : v.opening.starts ≡ s.core.opening.starts
  starts_are = ap (λ (o : CoreOpening). o.starts) (sym same_opening ∙ s.opening)

  -- the cell of a start clause, which has glue 0
  pub start_cell : (c : ClauseAt) → In c s.core.opening.starts → (a : ℕ) × (x : Cell) × (s.core.cell a ≡ Some x) × (s.glue x.number ≡ 0) × (x.number ≡ c.number) × (x.lits ≡ c.lits)
  start_cell c i =
      let g = held_start port ran.part.glues ran.part.core.held v.opening.starts refl refl ran.ran.ran.held c (subst (λ (ss : List ClauseAt). In c ss) (sym starts_are) i) in
      let copy = part_copy g.0 g.1 in
      let glue : s.glue g.0.number ≡ 0 = sym (All_In (λ (x : ClauseAt). glue_in x.number ran.part.glues ≡ s.glue x.number) ran.part.core.held g.0 is_part.glues g.1) ∙ g.2 in
      (g.0.address, copy.0, copy.1, ap s.glue copy.2 ∙ glue, copy.2 ∙ g.3, copy.3 ∙ g.4)

  -- the entries of the rings
  module _ (K : List Entry) (of_rings : All (λ e. ring_of e < RULER_RING) K) (journal_is : s.core.journal ≡ s.core.opening.journal ++ K) where
    abbrev F : List (List Literal)
    F = s.core.opening.formula

    abbrev b : Book
    b = book F s.core.opening.journal

    book_is : book F s.core.journal ≡ fold book_after b K
    book_is = ap (book F) journal_is ∙ fold-append book_after (formula_book F) s.core.opening.journal K

    -- its number stood before the round
    start_given : (c : ClauseAt) → In c s.core.opening.starts → c.number < b.next
    start_given c i =
        let o = core.opens.opens in
        let x : Start = record { number = c.number; lits = c.lits } in
        let start : IsStart b x = All_In (IsStart b) (map (λ (y : ClauseAt). record { number = y.number; lits = y.lits }) s.core.opening.starts) x o.starts (In_map (λ (y : ClauseAt). record { number = y.number; lits = y.lits }) s.core.opening.starts c i) in
        clause_below b (alive F (lines F s.core.opening.journal)) c.number c.lits (journal_matches F s.core.opening.journal o.fits) start.alive

    -- none of them deletes it
    start_kept : (c : ClauseAt) → In c s.core.opening.starts → All (λ e. IfSome (deletion e) (λ m. m ≡ c.number → ⊥)) K
    start_kept c i =
        let t = start_cell c i in
        let there : (book F s.core.journal).clause c.number ≡ Some t.1.lits = subst (λ (n : ℕ). (book F s.core.journal).clause n ≡ Some t.1.lits) t.4 (core.cells.alive t.0 t.1 t.2) in
        were_kept b K c.number t.1.lits of_rings (start_given c i) (ap (λ (k : Book). k.clause c.number) (sym book_is) ∙ there)

    pub starts_kept : All (KeepsStarts s.core.opening) K
    starts_kept k e lt = by (deletion (get_or K k e)) (λ c i. start_kept c i k e lt)
      where
        by : (o : Option ℕ) → ((c : ClauseAt) → In c s.core.opening.starts → IfSome o (λ m. m ≡ c.number → ⊥)) → IfSome o (λ n. Contains (start_for s.core.opening).starts n → ⊥)
        by None none = tt
        by (Some n) none = λ there.
            let t = map_In (λ (c : ClauseAt). c.number) s.core.opening.starts n (Contains_In (start_for s.core.opening).starts n there) in
            none t.0 t.1 (sym t.2)
