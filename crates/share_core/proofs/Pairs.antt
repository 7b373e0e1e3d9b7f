-- Units under their numbers.
use Rattle.std.proofs.Common.{◌≡◌, ℕ, zero, suc, true, List, [], ◌∷◌, ◌++◌, ◌<◌, length, get_or, Some, refl, ap, ◌∙◌, subst, inl, inr, ⊎_elim, arith}
use Rattle.std.specs.List.{list_any, zip, slice_get}
use Rattle.std.specs.Option.{option_map}
use Rattle.std.proofs.lemmas.List.Folds.{list_any-append}
use Rattle.std.proofs.lemmas.Bool.{or_left, or_right}
use Rattle.sat_words.specs.Literal.{Literal}
use Rattle.sat_words.specs.Clause.{same_set, clause_of}
use Rattle.sat_words.proofs.Insertion.{same_set-clause_of}
use Rattle.rup_model.specs.declared.journal.Addition.{Addition}
use Rattle.rup_model.specs.declared.journal.Entry.{Entry}
use Rattle.rup_model.specs.Journal.{Book, formula_clause, book, spelled, additions, added, is_told, Fits}
use Rattle.rup_model.proofs.Lists.{In, In_map, any_In, Contains_In}
use Rattle.rup_model.proofs.Covers.{same_back, same_chain}
use Rattle.rup_model.proofs.Numbers.{spelled_same}
use Rattle.share_core.specs.State.{unit_lits, unit_numbers, ArePaired}
use Rattle.share_core.specs.Readable.{IsSpelled, IsAdded}
use Rattle.share_core.proofs.Counting.{none_some, some_same}
use Rattle.share_core.proofs.Plainly.{book_stands}

-- Pairs

pub paired_stay : (b d : Book) (us : List Literal) (ns : List ℕ) → ((n : ℕ) (l : Literal) → b.clause n ≡ Some (l ∷ []) → d.clause n ≡ Some (l ∷ [])) → ArePaired b us ns → ArePaired d us ns
paired_stay b d [] [] keep h = tt
paired_stay b d [] (n ∷ ns) keep h = absurd h
paired_stay b d (l ∷ us) [] keep h = absurd h
paired_stay b d (l ∷ us) (n ∷ ns) keep h = (keep n l h.0, paired_stay b d us ns keep h.1)

pub paired_front : (b : Book) (us vs : List Literal) (ns ms : List ℕ) → ArePaired b (us ++ vs) (ns ++ ms) → length ns ≡ length us → ArePaired b us ns
paired_front b [] vs [] ms h e = tt
paired_front b [] vs (n ∷ ns) ms h e = absurd (omega arith)
paired_front b (l ∷ us) vs [] ms h e = absurd (omega arith)
paired_front b (l ∷ us) vs (n ∷ ns) ms h e = (h.0, paired_front b us vs ns ms h.1 (omega arith))

pub paired_last : (b : Book) (us : List Literal) (ns : List ℕ) (l : Literal) (n : ℕ) → ArePaired b us ns → b.clause n ≡ Some (l ∷ []) → ArePaired b (us ++ l ∷ []) (ns ++ n ∷ [])
paired_last b [] [] l n h is = (is, tt)
paired_last b [] (m ∷ ns) l n h is = absurd h
paired_last b (k ∷ us) [] l n h is = absurd h
paired_last b (k ∷ us) (m ∷ ns) l n h is = (h.0, paired_last b us ns l n h.1 is)

pub paired_long : (b : Book) (us : List Literal) (ns : List ℕ) → ArePaired b us ns → length ns ≡ length us
paired_long b [] [] h = refl
paired_long b [] (n ∷ ns) h = absurd h
paired_long b (l ∷ us) [] h = absurd h
paired_long b (l ∷ us) (n ∷ ns) h = ap suc (paired_long b us ns h.1)

pub paired_in : (b : Book) (us : List Literal) (ns : List ℕ) (u : Literal × ℕ) → ArePaired b us ns → In u (zip us ns) → b.clause u.1 ≡ Some (u.0 ∷ [])
paired_in b [] ns u h i = absurd i
paired_in b (l ∷ us) [] u h i = absurd i
paired_in b (l ∷ us) (n ∷ ns) u h (inl e) = subst (λ (q : Literal × ℕ). b.clause q.1 ≡ Some (q.0 ∷ [])) e h.0
paired_in b (l ∷ us) (n ∷ ns) u h (inr i) = paired_in b us ns u h.1 i

pub paired_at : (b : Book) (us : List (Literal × ℕ)) (i : ℕ) (u : Literal × ℕ) → ArePaired b (unit_lits us) (unit_numbers us) → i < length us → b.clause (get_or us i u).1 ≡ Some ((get_or us i u).0 ∷ [])
paired_at b [] i u h lt = absurd (omega arith)
paired_at b (v ∷ us) zero u h lt = h.0
paired_at b (v ∷ us) (suc i) u h lt = paired_at b us i u h.1 (omega arith)

-- A clause that is a unit was given or added

given_told : (F : List (List Literal)) (i : ℕ) (l : Literal) → option_map clause_of (slice_get F i) ≡ Some (l ∷ []) → list_any (same_set (l ∷ [])) F ≡ true
given_told [] i l h = absurd (none_some (l ∷ []) h)
given_told (c ∷ F) zero l h = or_left _ _ (same_back c (l ∷ []) (subst (λ (d : List Literal). same_set c d ≡ true) (some_same (clause_of c) (l ∷ []) h) (same_set-clause_of c)))
given_told (c ∷ F) (suc i) l h = or_right _ _ (given_told F i l h)

added_told : (J : List Entry) (n : ℕ) (l : Literal) → IsAdded J n (l ∷ []) → list_any (same_set (l ∷ [])) (added J) ≡ true
added_told J n l h = any_In (same_set (l ∷ [])) (added J) h.0.lits (In_map (λ (x : Addition). x.lits) (additions J) h.0 (Contains_In (additions J) h.0 h.1)) (same_back h.0.lits (l ∷ []) (spells h.3))
  where
    spells : IsSpelled J n (spelled h.0) (l ∷ []) → same_set h.0.lits (l ∷ []) ≡ true
    spells (inl e) = subst (λ (d : List Literal). same_set h.0.lits d ≡ true) e (spelled_same h.0)
    spells (inr e) = subst (λ (d : List Literal). same_set h.0.lits d ≡ true) e.1 (same_chain h.0.lits (spelled h.0) (clause_of (spelled h.0)) (spelled_same h.0) (same_set-clause_of (spelled h.0)))

pub unit_told : (F : List (List Literal)) (J : List Entry) (n : ℕ) (l : Literal) → Fits F J → (book F J).clause n ≡ Some (l ∷ []) → is_told F J l ≡ true
unit_told F J n l fits is = list_any-append (same_set (l ∷ [])) F (added J)
    ∙ ⊎_elim (λ (h : formula_clause F n ≡ Some (l ∷ [])). or_left _ _ (given n h)) (λ (h : IsAdded J n (l ∷ [])). or_right _ _ (added_told J n l h)) (book_stands F J n (l ∷ []) fits is).0
  where
    given : (m : ℕ) → formula_clause F m ≡ Some (l ∷ []) → list_any (same_set (l ∷ [])) F ≡ true
    given zero h = absurd (none_some (l ∷ []) h)
    given (suc i) h = given_told F i l h
