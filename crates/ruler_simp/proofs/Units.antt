-- Units that are known are listed, and they are those of the program's opening.
use Rattle.std.proofs.Common.{◌≡◌, ◌∙◌, Bool, true, false, cond, List, [], ◌∷◌, ◌++◌, Option, Some, None, refl, sym, ap, subst, inl, inr, arith, append-nil}
use Rattle.std.specs.List.{list_any, filter_map, cons_option}
use Rattle.std.specs.Set.{is_member, unique_keys}
use Rattle.std.proofs.lemmas.Bool.{or_cases, true≢false, false≢true}
use Rattle.sat_words.specs.Literal.{Literal, same}
use Rattle.sat_words.specs.Clause.{has, same_set, just_one}
use Rattle.sat_words.proofs.Members.{same-true}
use Rattle.rup_model.specs.declared.journal.Entry.{Entry}
use Rattle.rup_model.specs.Journal.{added, is_told}
use Rattle.rup_model.specs.Opening.{IsRulersPart, only_literal, program_opening}
use Rattle.rup_model.proofs.Lists.{In, In_any, has_In, In_has}
use Rattle.rup_model.proofs.Covers.{both_true, same_has}
use Rattle.rup_model.proofs.Units.{unit_one}
use Rattle.rup_model.proofs.JournalSteps.{log_starts}
use Rattle.rup_model.proofs.ProgramOpening.{program_opens}
use Rattle.drat_text.specs.LineState.{LineState}
use Rattle.drat_text.specs.JournalText.{Origin}
use Rattle.simp_base.specs.WorkState.{WorkState, is_alive_unit}
use Rattle.simp_base.specs.Log.{journal_of, Stands}
use Rattle.simp_base.proofs.Lists.{All_In}

-- Lists

pub In_filter_map : {X Y : Type 0} (h : X → Option Y) (xs : List X) (x : X) (y : Y) → In x xs → h x ≡ Some y → In y (filter_map h xs)
In_filter_map h [] x y i e = absurd i
In_filter_map {X} {Y} h (z ∷ xs) x y i e = by (h z) refl i (λ k. In_filter_map h xs x y k e)
  where
    by : (o : Option Y) → h z ≡ o → In x (z ∷ xs) → (In x xs → In y (filter_map h xs)) → In y (cons_option o (filter_map h xs))
    by None is (inl q) rec = absurd (let no : None ≡ Some y = sym is ∙ ap h q ∙ e in let none : ⊥ = cc in none)
    by None is (inr k) rec = rec k
    by (Some w) is (inl q) rec = inl (let both : Some w ≡ Some y = sym is ∙ ap h q ∙ e in let same_w : w ≡ y = cc in same_w)
    by (Some w) is (inr k) rec = inr (rec k)

pub filter_map_In : {X Y : Type 0} (h : X → Option Y) (xs : List X) (y : Y) → In y (filter_map h xs) → (x : X) × In x xs × (h x ≡ Some y)
filter_map_In h [] y i = absurd i
filter_map_In {X} {Y} h (z ∷ xs) y i = by (h z) refl i (λ k. filter_map_In h xs y k)
  where
    by : (o : Option Y) → h z ≡ o → In y (cons_option o (filter_map h xs)) → (In y (filter_map h xs) → (x : X) × In x xs × (h x ≡ Some y)) → (x : X) × In x (z ∷ xs) × (h x ≡ Some y)
    by None is j rec = let t = rec j in (t.0, inr t.1, t.2)
    by (Some w) is (inl q) rec = (z, inl refl, is ∙ ap (λ (v : Y). Some v) q)
    by (Some w) is (inr k) rec = let t = rec k in (t.0, inr t.1, t.2)

In_unique : (xs : List Literal) (l : Literal) → In l xs → In l (unique_keys same xs)
In_unique [] l i = i
In_unique (x ∷ xs) l i = by (is_member same xs x) refl i (In_unique xs l)
  where
    by : (t : Bool) → is_member same xs x ≡ t → In l (x ∷ xs) → (In l xs → In l (unique_keys same xs)) → In l (cond t (unique_keys same xs) (x ∷ unique_keys same xs))
    by true m (inl e) rec = rec (subst (λ (k : Literal). In k xs) e (has_In xs x m))
    by true m (inr k) rec = rec k
    by false m (inl e) rec = inl e
    by false m (inr k) rec = inr (rec k)

-- the literal of a clause that has just this one
only_of : (l : Literal) (c : List Literal) → same_set (l ∷ []) c ≡ true → only_literal c ≡ Some l
only_of l [] s = absurd (true≢false (sym s))
only_of l (k ∷ c) s = by (just_one (k ∷ c)) (unit_one l (k ∷ c) s)
  where
    is : k ≡ l
    is = elim (or_cases (same k l) false (same_has (l ∷ []) (k ∷ c) s k ∙ In_has (k ∷ c) k (inl refl))) as (λ _. k ≡ l) [ inl e ↦ same-true k l e | inr f ↦ absurd (false≢true f) ]

    by : (t : Bool) → t ≡ true → cond t (Some k) None ≡ Some l
    by true e = ap (λ (x : Literal). Some x) is
    by false e = absurd (false≢true e)

-- The units of a journal

pub opened_unit : (F : List (List Literal)) (J : List Entry) (l : Literal) → is_told F J l ≡ true → has (program_opening F J).units l ≡ true
opened_unit F J l t =
    let s = In_any (same_set (l ∷ [])) (F ++ added J) t in
    In_has (program_opening F J).units l (In_unique (filter_map only_literal (F ++ added J)) l (In_filter_map only_literal (F ++ added J) s.0 l s.1 (only_of l s.0 s.2)))

-- those of the program's opening are told: they are those of a formula of all clauses that were given or added
told_unit : (F : List (List Literal)) (J : List Entry) (l : Literal) → In l (program_opening F J).units → is_told F J l ≡ true
told_unit F J l i =
    let G : List (List Literal) = F ++ added J in
    let none : IsRulersPart G [] = record { rulers = λ k d lt. absurd (omega arith); going = refl; fits = (log_starts G).fits; accepted = (log_starts G).accepted } in
    let is : G ++ [] ≡ G = append-nil G in
    subst (λ (H : List (List Literal)). list_any (same_set (l ∷ [])) H ≡ true) is
    (All_In (λ k. is_told G [] k ≡ true) (program_opening G []).units l (program_opens G [] none).told (subst (λ (H : List (List Literal)). In l (unique_keys same (filter_map only_literal H))) (sym is) i))

-- A work over a journal

module _ (o : Origin) (mine : List Entry) (w : WorkState) (st : Stands o mine w) where
  -- if the units whose clauses are alive are listed
  pub units_are : ((l : Literal) → is_alive_unit w l ≡ true → has w.units l ≡ true) → (l : Literal) → has w.units l ≡ has (program_opening o.formula (journal_of o mine)).units l
  units_are alone l = both_true (has w.units l) (has (program_opening o.formula (journal_of o mine)).units l)
      (λ h. opened_unit o.formula (journal_of o mine) l (All_In (λ k. is_told o.formula (journal_of o mine) k ≡ true) w.units l st.told (has_In w.units l h)))
      (λ h. elim (or_cases (has w.units l) (is_alive_unit w l) (st.every l (told_unit o.formula (journal_of o mine) l (has_In (program_opening o.formula (journal_of o mine)).units l h)))) as (λ _. has w.units l ≡ true) [ inl listed ↦ listed | inr alive ↦ alone l alive ])

-- if no entry adds the empty clause, the journal is one that the ruler may leave
pub rulers_part : (F : List (List Literal)) (out : LineState) (J : List Entry) (w : WorkState) → Stands (record { formula = F; journal = []; output = out }) J w → w.ended ≡ false → IsRulersPart F J
rulers_part F out J w st going = record { rulers = st.rulers; going = sym st.ended ∙ going; fits = st.sound.fits; accepted = st.sound.accepted }
