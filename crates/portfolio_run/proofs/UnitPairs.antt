-- Units with the numbers of their clauses, as one list and as two.
use Rattle.std.proofs.Common.{◌≡◌, ◌<◌, ◌==◌, ℕ, Bool, true, false, List, [], ◌∷◌, ap, arith, if◌then◌else◌, Some, zero, suc}
use Rattle.std.specs.List.{All, list_any}
use Rattle.std.specs.Option.{option_map}
use Rattle.sat_words.specs.Literal.{Literal}
use Rattle.sat_words.specs.Clause.{clause_of}
use Rattle.rup_model.specs.declared.journal.Round.{Round as RoundStart}
use Rattle.rup_model.specs.declared.journal.Entry.TheVariants.{Round}
use Rattle.rup_model.specs.Journal.{Book, book_after}
use Rattle.share_core.specs.State.{ArePaired, unit_lits, unit_numbers}
use Rattle.ruler_simp.specs.Ruled.{HaveUnitNumbers}

-- as one list
pub numbered_of : (b : Book) (us : List (Literal × ℕ)) → ArePaired b (unit_lits us) (unit_numbers us) → HaveUnitNumbers b us
numbered_of b [] h = λ k d lt. absurd (omega arith)
numbered_of b (u ∷ us) h = both (numbered_of b us h.1)
  where
    both : HaveUnitNumbers b us → HaveUnitNumbers b (u ∷ us)
    both rest zero d lt = h.0
    both rest (suc k) d lt = rest k d (omega arith)

-- as two
paired_by : (b d : Book) (us : List (Literal × ℕ)) → ((u : Literal × ℕ) → b.clause u.1 ≡ Some (u.0 ∷ []) → d.clause u.1 ≡ Some (u.0 ∷ [])) → HaveUnitNumbers b us → ArePaired d (unit_lits us) (unit_numbers us)
paired_by b d [] stays h = tt
paired_by b d (u ∷ us) stays h = (stays u (h 0 u (omega arith)), paired_by b d us stays (λ k e lt. h (suc k) e (omega arith)))

-- the beginning of a round spells a unit as it was
pub paired_in_round : (b : Book) (x : RoundStart) (us : List (Literal × ℕ)) → HaveUnitNumbers b us → ArePaired (book_after b (Round x)) (unit_lits us) (unit_numbers us)
paired_in_round b x us h = paired_by b (book_after b (Round x)) us (λ u is. spelled (list_any (λ (m : ℕ). m == u.1) x.starts) u is) h
  where
    spelled : (t : Bool) (u : Literal × ℕ) → b.clause u.1 ≡ Some (u.0 ∷ []) → (if t then option_map clause_of (b.clause u.1) else b.clause u.1) ≡ Some (u.0 ∷ [])
    spelled true u is = ap (option_map clause_of) is
    spelled false u is = is
