-- What a sound state says, in plain words; what a ring's own entries say of what it learned.
use Rattle.std.proofs.Common.{◌≡◌, ◌≢◌, ◌⊎◌, ℕ, ◌+◌, ◌<◌, ◌==◌, Bool, true, false, cond, ◌&&◌, List, [], ◌∷◌, ◌++◌, length, map, fold, Some, None, refl, sym, ap, ◌∙◌, subst, inl, inr, ⊎_elim, arith, eq-eqb, ne_eqb, length-append, append-nil}
use Rattle.std.specs.List.{list_any}
use Rattle.std.proofs.lemmas.Bool.{or_from, or_left, or_right}
use mathlib.Core.Logic.{dite}
use native.Mathlib.Decide.{ℕ_discrete}
use Rattle.sat_words.specs.Literal.{Literal}
use Rattle.sat_words.specs.Clause.{clause_of}
use Rattle.sat_words.proofs.Insertion.{InOrder-clause_of, clause_of_in_order}
use Rattle.rup_model.specs.declared.journal.Addition.{Addition}
use Rattle.rup_model.specs.declared.journal.Round.{Round as RoundStart}
use Rattle.rup_model.specs.declared.journal.Entry.{Entry}
use Rattle.rup_model.specs.declared.journal.Entry.TheVariants.{Add, Del, Reduce, Round}
use Rattle.rup_model.specs.Basics.{one_if}
use Rattle.rup_model.specs.Journal.{additions, deletion, Book, formula_book, spelled, book_after, book, IsFit, Fits, ring_of, is_learn, learned, is_ring, recent_after, recent}
use Rattle.rup_model.proofs.Lists.{In, In_Contains}
use Rattle.rup_model.proofs.Additions.{learned-append}
use Rattle.std.proofs.lemmas.List.{drop_all, drop-append-le}
use Rattle.rup_model.proofs.Sums.{at_put, put_else}
use Rattle.rup_model.proofs.Sequences.{EachState, to_states}
use Rattle.rup_model.proofs.Respelling.{respelled_from, respelled_none}
use Rattle.rup_model.proofs.ProgramOpening.{formula_ordered}
use Rattle.rup_model.proofs.Numbers.{Matches, clause_below, matches_step, formula_matches}
use Rattle.share_core.specs.declared.stored.Cell.{Cell}
use Rattle.share_core.specs.State.{Placed, later, State, count_at, maker_at}
use Rattle.share_core.specs.Sound.{idle_at, placed, Sound}
use Rattle.share_core.specs.Readable.{IsSpelled, Stands, Plain}
use Rattle.share_core.proofs.Counting.{none_some, some_same, made_by, idle_open, idle_made, held_cell, waiting_cell, slot_cell}

-- Numbers that stand

-- some addition among the entries
InAdded : List Entry → ℕ → List Literal → Type 0
InAdded J n c = (x : Addition) × In x (additions J) × (x.number ≡ n) × IsSpelled J n (spelled x) c

-- the clause under the number, before the entries
WasThere : Book → List Entry → ℕ → List Literal → Type 0
WasThere b J n c = (d : List Literal) × (b.clause n ≡ Some d) × IsSpelled J n d c

-- after one entry more before the others
spelled_more : (e : Entry) (J : List Entry) (n : ℕ) (c d : List Literal) → IsSpelled J n c d → IsSpelled (e ∷ J) n c d
spelled_more e J n c d (inl same) = inl same
spelled_more e J n c d (inr h) = inr (or_right _ _ h.0, h.1)

added_more : (e : Entry) (J : List Entry) (n : ℕ) (c : List Literal) → additions J ≡ additions (e ∷ J) → InAdded J n c → InAdded (e ∷ J) n c
unfolding InAdded
added_more e J n c same h = (h.0, subst (In h.0) same h.1, h.2, spelled_more e J n (spelled h.0) c h.3)

-- a round of the entries spells it once
spelled_once : (x : RoundStart) (J : List Entry) (n : ℕ) (c d e : List Literal) → list_any (λ m. m == n) x.starts ≡ true → clause_of c ≡ d → IsSpelled J n d e → IsSpelled (Round x ∷ J) n c e
spelled_once x J n c d e names ordered (inl same) = inr (or_left _ _ names, ordered ∙ same)
spelled_once x J n c d e names ordered (inr h) = inr (or_left _ _ names, sym (clause_of_in_order (clause_of c) (InOrder-clause_of c)) ∙ ap clause_of ordered ∙ h.1)

was_there : (b : Book) (x : RoundStart) (J : List Entry) (n : ℕ) (c : List Literal) → WasThere (book_after b (Round x)) J n c → WasThere b (Round x ∷ J) n c
unfolding WasThere
was_there b x J n c h = ⊎_elim
    (λ (is : b.clause n ≡ Some h.0). (h.0, is, spelled_more (Round x) J n h.0 c h.2))
    (λ (t : (list_any (λ m. m == n) x.starts ≡ true) × (d : List Literal) × (b.clause n ≡ Some d) × (clause_of d ≡ h.0)). (t.1, t.2, spelled_once x J n t.1 h.0 c t.0 t.3 h.2))
    (respelled_from x.starts b.clause n h.0 h.1)

dead_from : (b : Book) (J : List Entry) (G : List (List Literal)) (n : ℕ) → EachState book_after IsFit b J → Matches b G → b.clause n ≡ None → n < b.next → (fold book_after b J).clause n ≡ None
dead_from b [] G n h m dead lt = dead
dead_from b (Add x ∷ J) G n h m dead lt = dead_from (book_after b (Add x)) J _ n h.1 (matches_step b G (Add x) h.0 m) (put_else b.clause b.next _ n (λ e. omega arith) ∙ dead) (omega arith)
dead_from b (Del r k ∷ J) G n h m dead lt = dead_from (book_after b (Del r k)) J _ n h.1 (matches_step b G (Del r k) h.0 m) (at_put b.clause k None (λ q. q ≡ None) n (λ _. refl) (λ _. dead)) lt
dead_from b (Reduce r ∷ J) G n h m dead lt = dead_from b J _ n h.1 (matches_step b G (Reduce r) h.0 m) dead lt
dead_from b (Round x ∷ J) G n h m dead lt = dead_from (book_after b (Round x)) J _ n h.1 (matches_step b G (Round x) h.0 m) (respelled_none x.starts b.clause n dead) lt

stands_from : (b : Book) (J : List Entry) (G : List (List Literal)) (n : ℕ) (c : List Literal) → EachState book_after IsFit b J → Matches b G → (fold book_after b J).clause n ≡ Some c
    → (WasThere b J n c ⊎ InAdded J n c) × (list_any (λ e. is_ring n (deletion e)) J ≡ false)
unfolding InAdded WasThere
stands_from b [] G n c h m is = (inl (c, is, inl refl), refl)
stands_from b (Add x ∷ J) G n c h m is =
    let r = stands_from (book_after b (Add x)) J _ n c h.1 (matches_step b G (Add x) h.0 m) is in (
      ⊎_elim
          (λ (k : WasThere (book_after b (Add x)) J n c). at_put b.clause b.next (Some (spelled x)) (λ q. q ≡ Some k.0 → WasThere b (Add x ∷ J) n c ⊎ InAdded (Add x ∷ J) n c) n
          (λ e q. inr (x, inl refl, h.0.numbered ∙ sym e, subst (λ (d : List Literal). IsSpelled J n d c) (sym (some_same (spelled x) k.0 q)) k.2))
          (λ ne q. inl (k.0, q, k.2)) k.1)
          (λ (k : InAdded J n c). inr (k.0, inr k.1, k.2, k.3)) r.0,
      r.1,
    )
stands_from b (Del r k ∷ J) G n c h m is =
    let m' = matches_step b G (Del r k) h.0 m in
    let lt = clause_below b G k h.0.names.0 m h.0.names.1 in
    let t = stands_from (book_after b (Del r k)) J _ n c h.1 m' is in
    dite (ℕ_discrete k n)
    (λ e. absurd (none_some c (sym (dead_from (book_after b (Del r k)) J _ n h.1 m' (at_put b.clause k None (λ q. q ≡ None) n (λ _. refl) (λ ne. absurd (ne (sym e)))) (omega arith)) ∙ is)))
    (λ ne. (⊎_elim (λ (q : WasThere (book_after b (Del r k)) J n c). inl (q.0, sym (put_else b.clause k None n (λ e. ne (sym e))) ∙ q.1, q.2)) (λ (q : InAdded J n c). inr q) t.0, or_from _ _ (ne_eqb k n ne) t.1))
stands_from b (Reduce r ∷ J) G n c h m is =
    let t = stands_from b J _ n c h.1 (matches_step b G (Reduce r) h.0 m) is in
    (⊎_elim (λ (q : WasThere b J n c). inl q) (λ (q : InAdded J n c). inr q) t.0, t.1)
stands_from b (Round x ∷ J) G n c h m is =
    let t = stands_from (book_after b (Round x)) J _ n c h.1 (matches_step b G (Round x) h.0 m) is in
    (⊎_elim (λ (q : WasThere (book_after b (Round x)) J n c). inl (was_there b x J n c q)) (λ (q : InAdded J n c). inr (added_more (Round x) J n c refl q)) t.0, t.1)

pub book_stands : (F : List (List Literal)) (J : List Entry) (n : ℕ) (c : List Literal) → Fits F J → (book F J).clause n ≡ Some c → Stands F J n c
unfolding InAdded WasThere
book_stands F J n c h is =
    let t = stands_from (formula_book F) J F n c (to_states book_after IsFit (formula_book F) [] J h) (formula_matches F) is in
    (⊎_elim (λ (q : WasThere (formula_book F) J n c). inl (q.1 ∙ ap (λ (d : List Literal). Some d) (given q.0 q.1 q.2))) (λ (q : InAdded J n c). inr (q.0, In_Contains (additions J) q.0 q.1, q.2, q.3)) t.0, t.1)
  where
    given : (d : List Literal) → (formula_book F).clause n ≡ Some d → IsSpelled J n d c → d ≡ c
    given d is (inl same) = same
    given d is (inr h) = sym (clause_of_in_order d (formula_ordered F n d is)) ∙ h.1

pub sound_plain : (c : State) → Sound c → Plain c
sound_plain c s = record {
  counted_cells = λ a x is. sym (ap count_at is.0) ∙ s.counts.counts a (there a x is.0);
  held_open = λ r a lt h. (let t = held_cell c.opening c s.counts r a lt h in (t.0, (t.1, t.3)));
  slots_open = λ k lt nz. (let t = slot_cell c.opening c s.counts k lt nz in (t.0, (t.1, t.3)));
  waits_once = λ a x is n. s.counts.waits a ∙ ap idle_at is.0 ∙ idle_open x is.1 ∙ ap one_if (eq-eqb x.count 0 n);
  waits_idle = λ r a lt h. (let t = waiting_cell c.opening c s.counts r a lt h in (t.0, (t.1, t.3), t.2, sym (s.counts.counts a (there a t.0 t.1)) ∙ ap count_at t.1 ∙ t.2));
  made_alone = λ a r x is mk.
      (let q = s.counts.making a x r is mk in (
        q.1,
        q.0,
        sym (s.counts.counts a (there a x is)) ∙ ap count_at is ∙ q.0,
        s.counts.waits a ∙ ap idle_at is ∙ idle_made x r mk,
        s.counts.makes r a q.1 ∙ made_by r (maker_at (c.cell a)) (ap maker_at is ∙ mk),
      ));
  stands = λ a x is. book_stands c.opening.formula c.journal x.number x.lits s.log.log.fits (s.cells.alive a x is);
  own_numbers = s.cells.own;
  valid_lines = s.log.log.accepted;
  seen_few = λ r. (let h = s.units.seen r in let e : length c.units ≡ length ((c.part r).seen ++ h.0) = ap length h.1 in let l = length-append (c.part r).seen h.0 in omega arith);
}
  where
    there : (a : ℕ) (x : Cell) → c.cell a ≡ Some x → a ≢ 0
    there a x is e = none_some x (sym s.counts.nowhere ∙ ap c.cell (sym e) ∙ is)

-- What a ring learned, in all and since its last Reduce, is told by its own entries

other_entry : (r : ℕ) (e : Entry) (cs : List (List Literal)) → (ring_of e == r) ≡ false → recent_after r cs e ≡ cs
other_entry r (Add x) cs h = by ((x.ring == r) && is_learn x.kind) (λ j. h j && is_learn x.kind)
  where
    by : (b : Bool) → b ≡ false → cs ++ map (λ (y : Addition). y.lits) (cond b (x ∷ []) []) ≡ cs
    by b q = ap (λ (t : Bool). cs ++ map (λ (y : Addition). y.lits) (cond t (x ∷ []) [])) q ∙ append-nil cs
other_entry r (Del q n) cs h = append-nil cs
other_entry r (Reduce q) cs h = (λ j. cond (h j) [] (cs ++ [])) ∙ append-nil cs
other_entry r (Round x) cs h = append-nil cs

learned_else : (r : ℕ) (e : Entry) → (ring_of e == r) ≡ false → learned r (e ∷ []) ≡ []
learned_else r (Add x) h = other_entry r (Add x) [] h
learned_else r (Del q n) h = refl
learned_else r (Reduce q) h = refl
learned_else r (Round x) h = refl

pub learned_own : (r i : ℕ) (J : List Entry) → learned r J ≡ learned r (map (λ (p : Placed). p.entry) (placed r i J))
learned_own r i [] = refl
learned_own r i (e ∷ J) = learned-append r (e ∷ []) J ∙ by (ring_of e == r) refl (learned_own r (i + 1) J)
  where
    by : (b : Bool) → (ring_of e == r) ≡ b → learned r J ≡ learned r (map (λ (p : Placed). p.entry) (placed r (i + 1) J))
        → learned r (e ∷ []) ++ learned r J ≡ learned r (map (λ (p : Placed). p.entry) (cond b (record { place = i; entry = e } ∷ placed r (i + 1) J) (placed r (i + 1) J)))
    by true q h = ap (λ (cs : List (List Literal)). learned r (e ∷ []) ++ cs) h ∙ sym (learned-append r (e ∷ []) (map (λ (p : Placed). p.entry) (placed r (i + 1) J)))
    by false q h = ap (λ (cs : List (List Literal)). cs ++ learned r J) (learned_else r e q) ∙ h

recent_from : (r i : ℕ) (J : List Entry) (cs : List (List Literal)) → fold (recent_after r) cs J ≡ fold (recent_after r) cs (map (λ (p : Placed). p.entry) (placed r i J))
recent_from r i [] cs = refl
recent_from r i (e ∷ J) cs = by (ring_of e == r) refl (recent_from r (i + 1) J (recent_after r cs e))
  where
    by : (b : Bool) → (ring_of e == r) ≡ b → fold (recent_after r) (recent_after r cs e) J ≡ fold (recent_after r) (recent_after r cs e) (map (λ (p : Placed). p.entry) (placed r (i + 1) J))
        → fold (recent_after r) (recent_after r cs e) J ≡ fold (recent_after r) cs (map (λ (p : Placed). p.entry) (cond b (record { place = i; entry = e } ∷ placed r (i + 1) J) (placed r (i + 1) J)))
    by true q h = h
    by false q h = h ∙ (λ j. fold (recent_after r) (other_entry r e cs q j) (map (λ (p : Placed). p.entry) (placed r (i + 1) J)))

pub recent_own : (c : State) (r : ℕ) → Sound c → r < c.opening.rings → recent r (later c.opening c.journal) ≡ recent r (map (λ (p : Placed). p.entry) (c.part r).wrote)
recent_own c r s lt =
    let K : List Entry = s.entries.0 in
    ap (recent r) (ap (later c.opening) s.entries.1 ∙ drop-append-le (length c.opening.journal) c.opening.journal K (omega arith) ∙ ap (λ (L : List Entry). L ++ K) (drop_all (length c.opening.journal) c.opening.journal (omega arith)))
    ∙ recent_from r (length c.opening.journal) K []
    ∙ ap (λ (w : List Placed). recent r (map (λ (p : Placed). p.entry) w)) (sym (s.entries.2 r lt))
