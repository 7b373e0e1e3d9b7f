-- Which lines are valid over whatever a work stands over.
use Rattle.std.proofs.Common.{◌≡◌, ◌∙◌, ◌<◌, ℕ, true, List, [], ◌∷◌, refl, sym, ap, subst, inl, inr, ⊎_elim, arith, Option, Some, None}
use Rattle.std.proofs.lemmas.Bool.{or_left, or_right, cases_Bool, false≢true}
use Rattle.sat_words.specs.Literal.{Literal, IsOn, opposite}
use Rattle.sat_words.specs.Clause.{has, same_set, clause_of}
use Rattle.sat_words.proofs.Insertion.{same_set-clause_of}
use Rattle.sat_words.specs.declared.line.Line.TheVariants.{Add as AddLine}
use Rattle.rup_model.specs.declared.journal.Entry.{Entry}
use Rattle.rup_model.specs.Basics.{one_if}
use Rattle.rup_model.specs.Rup.{rup, rat}
use Rattle.rup_model.specs.Log.{copies, alive, is_valid}
use Rattle.rup_model.specs.Journal.{book, copies_at, copies_in, lines, is_told}
use Rattle.rup_model.proofs.Lists.{In, In_append, In_map, map_In, has_In, Contains_In, In_Contains}
use Rattle.rup_model.proofs.Sums.{below_some}
use Rattle.rup_model.proofs.Covers.{Covered, has_same, same_self, same_chain}
use Rattle.rup_model.proofs.Copies.{copies-cons, copies_some}
use Rattle.rup_model.proofs.Numbers.{journal_matches, same_copies_alive, rup_alive_sets}
use Rattle.rup_model.proofs.Told.{told_alive}
use Rattle.drat_text.specs.JournalText.{Origin}
use Rattle.simp_base.specs.WorkState.{WorkState, known, lists, unit_clauses}
use Rattle.simp_base.specs.Log.{journal_of, Stands}
use Rattle.simp_base.specs.Calls.{IsAboveUnheld}
use Rattle.simp_base.proofs.Lists.{All_In}
use Rattle.simp_base.proofs.Order.{in_book, order_same}
use Rattle.simp_base.proofs.WiderClauses.{rat_beside}

-- what the log leaves alive
abbrev pub left_alive : Origin → List Entry → List (List Literal)
left_alive o mine = alive o.formula (lines o.formula (journal_of o mine))

-- the line that adds the clause is valid over whatever the work stands over
abbrev pub IsValidOver : WorkState → List Literal → Type 0
IsValidOver w lits = (o : Origin) (mine : List Entry) → Stands o mine w → is_valid (left_alive o mine) (AddLine lits) ≡ true

-- RUP

-- what is known is alive
alive_known : (o : Origin) (mine : List Entry) (w : WorkState) → Stands o mine w → (d : List Literal) → In d (known w)
    → (n : ℕ) × (c : List Literal) × ((book o.formula (journal_of o mine)).clause n ≡ Some c) × (same_set d c ≡ true)
alive_known o mine w h d i =
    ⊎_elim
    (λ k. (let t = map_In (λ (c : ℕ × List Literal). c.1) w.clauses d k in
    let there = in_book ((book o.formula (journal_of o mine)).clause t.0.0) t.0.1 (h.held t.0.0 t.0.1 (In_Contains w.clauses t.0 t.1)) in
    (t.0.0, there.0, there.1, order_same d there.0 (there.2 ∙ t.2))))
    (λ k. (let t = map_In (λ l. l ∷ []) w.units d k in
    let u = told_alive o.formula (journal_of o mine) t.0 h.sound.fits (All_In (λ l. is_told o.formula (journal_of o mine) l ≡ true) w.units t.0 h.told t.1) in
    (u.0, u.1, u.2, subst (λ (y : List Literal). same_set y u.1 ≡ true) t.2 u.3)))
    (In_append (lists w.clauses) (unit_clauses w.units) d i)

pub rup_valid : (w : WorkState) (lits : List Literal) → rup (known w) lits ≡ true → IsValidOver w lits
rup_valid w lits follows o mine h =
    or_left _ _ (rup_alive_sets (book o.formula (journal_of o mine)) (left_alive o mine) (known w) lits (journal_matches o.formula (journal_of o mine) h.sound.fits) (alive_known o mine w h) follows)

-- RAT

-- the work's clauses are among those alive
lists_alive : (o : Origin) (mine : List Entry) (w : WorkState) → Stands o mine w → Covered (lists w.clauses) (left_alive o mine)
lists_alive o mine w h d i =
    let t = map_In (λ (c : ℕ × List Literal). c.1) w.clauses d i in
    let there = in_book ((book o.formula (journal_of o mine)).clause t.0.0) t.0.1 (h.held t.0.0 t.0.1 (In_Contains w.clauses t.0 t.1)) in
    copies_some d (left_alive o mine)
    (same_copies_alive (book o.formula (journal_of o mine)) (left_alive o mine) t.0.0 d there.0 (journal_matches o.formula (journal_of o mine) h.sound.fits) there.1 (order_same d there.0 (there.2 ∙ t.2)))

copies_In : (c : List Literal) (G : List (List Literal)) → In c G → 0 < copies c G
copies_In c [] i = absurd i
copies_In c (d ∷ G) (inl e) =
    let one : one_if (same_set c d) ≡ 1 = ap one_if (subst (λ (y : List Literal). same_set c y ≡ true) (sym e) (same_self c)) in
    let k = copies-cons c d G in omega arith
copies_In c (d ∷ G) (inr i) = let k = copies-cons c d G in let r = copies_In c G i in omega arith

copy_at : (d : List Literal) (q : Option (List Literal)) → 0 < copies_at d q → (c : List Literal) × (q ≡ Some c) × (same_set d c ≡ true)
copy_at d None h = absurd (omega arith)
copy_at d (Some c) h = elim (cases_Bool (same_set d c)) as (λ _. (e : List Literal) × (Some c ≡ Some e) × (same_set d e ≡ true)) [
  | inl e ↦ (c, refl, e)
  | inr n ↦ absurd (let z : one_if (same_set d c) ≡ 0 = ap one_if n in omega arith)
]

-- those alive that have a literal above those of clauses not held are among the work's clauses
alive_lists : (o : Origin) (mine : List Entry) (w : WorkState) → Stands o mine w → (l : Literal) → w.unheld < l.var → (d : List Literal) → In d (left_alive o mine) → has d l ≡ true
    → (c : List Literal) × In c (lists w.clauses) × (same_set d c ≡ true)
alive_lists o mine w h l above d i there =
    let m = journal_matches o.formula (journal_of o mine) h.sound.fits in
    let many : 0 < copies_in d (book o.formula (journal_of o mine)) = (let e = m.same_copies d in let k = copies_In d (left_alive o mine) i in omega arith) in
    let t = below_some (book o.formula (journal_of o mine)).next (λ n. copies_at d ((book o.formula (journal_of o mine)).clause n)) many in
    let u = copy_at d ((book o.formula (journal_of o mine)).clause t.0) t.2 in
    elim (h.all t.0 u.0 u.1) as (λ _. (c : List Literal) × In c (lists w.clauses) × (same_set d c ≡ true)) [
      | inl held ↦ (clause_of u.0, In_map (λ (c : ℕ × List Literal). c.1) w.clauses (t.0, clause_of u.0) (Contains_In w.clauses (t.0, clause_of u.0) held), same_chain d u.0 (clause_of u.0) u.2 (same_set-clause_of u.0))
      | inr passed ↦ absurd (let on = All_In (IsOn w.unheld) u.0 l passed.on (has_In u.0 l (has_same d u.0 l u.2 there)) in let high = on.high in omega arith)
    ]

pub rat_valid : (w : WorkState) (lits : List Literal) → IsAboveUnheld w lits → rat (lists w.clauses) lits ≡ true → IsValidOver w lits
rat_valid w [] above r o mine h = absurd (false≢true r)
rat_valid w (p ∷ c) above r o mine h = or_right _ _ (rat_beside (lists w.clauses) (left_alive o mine) p c (lists_alive o mine w h) (λ d i there. alive_lists o mine w h (opposite p) above d i there) r)
