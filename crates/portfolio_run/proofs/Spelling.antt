-- The clauses that are alive after entries have their literals on the variables, so that lines can be spelled.
use Rattle.std.proofs.Common.{◌≡◌, ◌≤◌, ◌^◌, ℕ, zero, suc, ◌==◌, Bool, true, false, List, [], ◌∷◌, Some, None, refl, arith}
use Rattle.std.specs.Prelude.{All, IfSome, if◌then◌else◌}
use Rattle.std.specs.List.{list_any, slice_get}
use Rattle.std.specs.Option.{option_map, unwrap_or}
use Rattle.std.specs.declared.option.Option.{Option}
use Rattle.sat_words.specs.Literal.{Literal, IsOn}
use Rattle.sat_words.specs.Clause.{clause_of}
use Rattle.sat_words.specs.declared.line.Line.TheVariants.{Add as AddLine}
use Rattle.sat_words.proofs.Insertion.{same_set-clause_of}
use Rattle.rup_model.specs.declared.journal.TheConstants.{RULER_RING}
use Rattle.rup_model.specs.declared.journal.Addition.{Addition}
use Rattle.rup_model.specs.declared.journal.Round.{Round as RoundStart}
use Rattle.rup_model.specs.declared.journal.Entry.{Entry}
use Rattle.rup_model.specs.declared.journal.Entry.TheVariants.{Add, Del, Reduce, Round}
use Rattle.rup_model.specs.Log.{lits_of}
use Rattle.rup_model.specs.Journal.{Book, formula_book, book_after, respelled, spelled_by, spelled, added, lines_from, line_of_deletion}
use Rattle.rup_model.proofs.Covers.{has_same, same_back}
use Rattle.rup_model.proofs.Lists.{In_has, has_In}
use Rattle.ring_port.proofs.LogSteps.{In_All}
use Rattle.rup_model.proofs.Sums.{at_put}
use Rattle.ring_port.proofs.Holdings.{All_In}
use Rattle.ring_port.proofs.Dropping.{some_In}
use Rattle.drat_text.specs.Text.{CanBeSpelled}
use Rattle.portfolio_run.proofs.Interleaving.{cons_All}

-- each clause that is alive has its literals on the variables
abbrev pub AreOn : ℕ → Book → Type 0
AreOn vars b = (n : ℕ) → IfSome (b.clause n) (All (IsOn vars))

-- more variables do as well
pub wider : (n m : ℕ) → n ≤ m → (F : List (List Literal)) → All (All (IsOn n)) F → All (All (IsOn m)) F
wider n m more F on k d lt j l less = let h = on k d lt j l less in let high = h.high in record { low = h.low; high = omega arith }

in_order_on : (vars : ℕ) (c : List Literal) → All (IsOn vars) c → All (IsOn vars) (clause_of c)
in_order_on vars c all =
    In_All (IsOn vars) (clause_of c) (λ l i. All_In (IsOn vars) c l all (has_In c l (has_same (clause_of c) c l (same_back c (clause_of c) (same_set-clause_of c)) (In_has (clause_of c) l i))))

pub formula_on : (vars : ℕ) (F : List (List Literal)) → All (All (IsOn vars)) F → AreOn vars (formula_book F)
formula_on vars F all zero = tt
formula_on vars F all (suc i) = by (slice_get F i) (λ c is. All_In (All (IsOn vars)) F c all (some_In F i c is))
  where
    by : (o : Option (List Literal)) → ((c : List Literal) → o ≡ Some c → All (IsOn vars) c) → IfSome (option_map clause_of o) (All (IsOn vars))
    by None on = tt
    by (Some c) on = in_order_on vars c (on c refl)

added_on : (vars : ℕ) (b : Book) (x : Addition) → AreOn vars b → All (IsOn vars) x.lits → AreOn vars (book_after b (Add x))
added_on vars b x on lits n = at_put b.clause b.next (Some (spelled x)) (λ o. IfSome o (All (IsOn vars))) n (λ is. by (x.ring == RULER_RING)) (λ other. on n)
  where
    by : (t : Bool) → All (IsOn vars) (if t then clause_of x.lits else x.lits)
    by true = in_order_on vars x.lits lits
    by false = lits

without_on : (vars : ℕ) (b : Book) (r n : ℕ) → AreOn vars b → AreOn vars (book_after b (Del r n))
without_on vars b r n on k = at_put b.clause n None (λ o. IfSome o (All (IsOn vars))) k (λ is. tt) (λ other. on k)

-- a property of what a number has where a round begins, as it was and in order
pub by_order : (ns : List ℕ) (f : ℕ → Option (List Literal)) (n : ℕ) (P : Option (List Literal) → Type 0) → P (option_map clause_of (f n)) → P (f n) → P (respelled ns f n)
by_order ns f n P ordered kept = by (list_any (λ (m : ℕ). m == n) ns)
  where
    by : (t : Bool) → P (if t then option_map clause_of (f n) else f n)
    by true = ordered
    by false = kept

-- some clauses are put in order there
round_on : (vars : ℕ) (b : Book) (x : RoundStart) → AreOn vars b → AreOn vars (book_after b (Round x))
round_on vars b x on n = by_order x.starts b.clause n (λ o. IfSome o (All (IsOn vars))) (ordered (b.clause n) (on n)) (on n)
  where
    ordered : (o : Option (List Literal)) → IfSome o (All (IsOn vars)) → IfSome (option_map clause_of o) (All (IsOn vars))
    ordered None h = tt
    ordered (Some c) h = in_order_on vars c h

-- what a deletion spells
deleted_on : (vars : ℕ) (b : Book) (r n : ℕ) → AreOn vars b → All (IsOn vars) (spelled_by r (unwrap_or (b.clause n) []))
deleted_on vars b r n on = by (r == RULER_RING) (b.clause n) (on n)
  where
    by : (t : Bool) (o : Option (List Literal)) → IfSome o (All (IsOn vars)) → All (IsOn vars) (if t then clause_of (unwrap_or o []) else unwrap_or o [])
    by true None h = in_order_on vars [] (λ k d lt. absurd (omega arith))
    by true (Some c) h = in_order_on vars c h
    by false None h = λ k d lt. absurd (omega arith)
    by false (Some c) h = h

pub spell_all : (vars : ℕ) → vars ≤ 2 ^ 30 → (c : List Literal) → All (IsOn vars) c → All (IsOn (2 ^ 30)) c
spell_all vars few c on k d lt = let h = on k d lt in let high = h.high in record { low = h.low; high = omega arith }

-- lines whose clauses are on the variables can be spelled
pub spelled_from : (vars : ℕ) → vars ≤ 2 ^ 30 → (b : Book) (es : List Entry) → AreOn vars b → All (All (IsOn vars)) (added es) → CanBeSpelled (lines_from b es)
spelled_from vars few b [] on lits = λ k d lt. absurd (omega arith)
spelled_from vars few b (Add x ∷ es) on lits =
    let first : All (IsOn vars) x.lits = lits 0 x.lits (omega arith) in
    cons_All (λ y. All (IsOn (2 ^ 30)) (lits_of y)) (AddLine x.lits) (lines_from (book_after b (Add x)) es) (spell_all vars few x.lits first)
    (spelled_from vars few (book_after b (Add x)) es (added_on vars b x on first) (λ k d lt. lits (suc k) d (omega arith)))
spelled_from vars few b (Del r n ∷ es) on lits =
    cons_All (λ y. All (IsOn (2 ^ 30)) (lits_of y)) (line_of_deletion b r n) (lines_from (book_after b (Del r n)) es) (spell_all vars few (spelled_by r (unwrap_or (b.clause n) [])) (deleted_on vars b r n on))
    (spelled_from vars few (book_after b (Del r n)) es (without_on vars b r n on) lits)
spelled_from vars few b (Reduce r ∷ es) on lits = spelled_from vars few b es on lits
spelled_from vars few b (Round x ∷ es) on lits = spelled_from vars few (book_after b (Round x)) es (round_on vars b x on) lits
