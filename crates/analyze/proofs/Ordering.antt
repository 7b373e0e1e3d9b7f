-- The sources of the noted places, in the order of the trail.
use Rattle.std.proofs.Common.{◌≡◌, ◌∙◌, ℕ, ◌+◌, ◌<◌, ◌≤◌, ◌&&◌, Bool, true, false, nat_eq, cond, List, [], ◌∷◌, ◌++◌, length, get_or, take, filter, sym, refl, ap, subst, inl, inr, ◌⊎◌, Some, Contains}
use Rattle.std.specs.List.{AllZip}
use Rattle.std.specs.List.Sorted.{IsNonDecreasing}
use Rattle.std.specs.Set.{is_member}
use Rattle.std.proofs.lemmas.Bool.{eqb-true, false≢true}
use Rattle.std.proofs.lemmas.Cmp.{nat_eq_equiv}
use Rattle.std.proofs.lemmas.List.{take_more, take_all}
use Rattle.std.proofs.lemmas.List.Elements.{filter-append, AllZip-push}
use Rattle.std.proofs.lemmas.List.Kept.{IsStrictlyIncreasing-filter}
use Rattle.std.proofs.lemmas.Map.Keys.{IsStrictlyIncreasing-from_distinct}
use Rattle.std.proofs.lemmas.Map.Made.{is_member-filter}
use Rattle.sat_words.specs.Literal.{Literal, opposite}
use Rattle.sat_words.specs.Clause.{has}
use Rattle.rup_model.specs.Hints.{numbered}
use Rattle.rup_model.proofs.Lists.{In_Contains, Contains_In}
use Rattle.rup_model.proofs.Counting.{In_member, member_In}
use Rattle.ring_port.specs.PortState.{PortState, known_at}
use Rattle.ring_trail.specs.declared.step.TrailStep.{TrailStep}
use Rattle.ring_trail.specs.TrailData.{lit_at}
use Rattle.analyze.specs.MarksData.{MarksData}
use Rattle.analyze.specs.HintOrder.{NamesCause, IsUsed, AreInTrailOrder}
use Rattle.analyze.specs.Noting.{note_at, is_found_note, IsNoting, AreUsed}
use Rattle.analyze.specs.declared.tracer.Note.{Note}
use Rattle.analyze.specs.declared.tracer.Note.TheVariants.{Free, Given, Noted}
use Rattle.analyze.proofs.Noting.{append_none}

-- the test whether a place is noted
abbrev pub is_noted : Note → Bool
is_noted Free = false
is_noted Given = false
is_noted Noted = true

noted_true : (n : Note) → is_noted n ≡ true → n ≡ Noted
noted_true Free e = absurd (false≢true e)
noted_true Given e = absurd (false≢true e)
noted_true Noted e = refl

noted_false : (n : Note) → (n ≡ Noted → ⊥) → is_noted n ≡ false
noted_false Free e = refl
noted_false Given e = refl
noted_false Noted e = absurd (e refl)

-- the noted ones of some places
abbrev pub noted_of : List Note → List ℕ → List ℕ
noted_of vs ps = filter (λ p. is_noted (note_at vs p)) ps

module _ (s : PortState) (steps : List TrailStep) (vs : List Note) (ps : List ℕ) (i : ℕ) (hints : List ℕ) (lt : i < length ps)
    (done : AllZip (NamesCause s steps) (noted_of vs (take i ps)) hints) where
  abbrev pub here : ℕ
  here = get_or ps i 0

  -- of one place more the noted ones
  next : noted_of vs (take (i + 1) ps) ≡ noted_of vs (take i ps) ++ noted_of vs (here ∷ [])
  next = ap (noted_of vs) (take_more ps i 0 lt) ∙ filter-append (λ p. is_noted (note_at vs p)) (take i ps) (here ∷ [])

  one : (b : Bool) → is_noted (note_at vs here) ≡ b → noted_of vs (here ∷ []) ≡ cond b (here ∷ []) []
  one b e = ap (λ (x : Bool). cond x (here ∷ []) []) e

  -- a given place has no number
  pub ordered_given : (note_at vs here ≡ Noted → ⊥) → AllZip (NamesCause s steps) (noted_of vs (take (i + 1) ps)) hints
  ordered_given off =
      let e = next ∙ ap (λ (xs : List ℕ). noted_of vs (take i ps) ++ xs) (one false (noted_false (note_at vs here) off)) ∙ sym (append_none (noted_of vs (take i ps))) in
      subst (λ (xs : List ℕ). AllZip (NamesCause s steps) xs hints) (sym e) done

  -- a noted place's number is the next
  pub ordered_noted : (n : ℕ) → note_at vs here ≡ Noted → NamesCause s steps here n → AllZip (NamesCause s steps) (noted_of vs (take (i + 1) ps)) (hints ++ n ∷ [])
  ordered_noted n on names =
      let e = next ∙ ap (λ (xs : List ℕ). noted_of vs (take i ps) ++ xs) (one true (ap is_noted on)) in
      subst (λ (xs : List ℕ). AllZip (NamesCause s steps) xs (hints ++ n ∷ [])) (sym e) (AllZip-push (NamesCause s steps) (noted_of vs (take i ps)) hints here n done names)

-- which places are noted
module _ (steps : List TrailStep) (vars : ℕ) (m : MarksData Note) (k : IsNoting steps vars m) where
  member_noted : (p : ℕ) → is_member nat_eq (noted_of m.values m.touched) p ≡ (is_member nat_eq m.touched p && is_noted (note_at m.values p))
  member_noted p = is_member-filter nat_eq_equiv (λ q. is_noted (note_at m.values q)) p (λ x e. ap (λ (q : ℕ). is_noted (note_at m.values q)) (eqb-true p x e)) m.touched

  listed_noted : (p : ℕ) → Contains (noted_of m.values m.touched) p → note_at m.values p ≡ Noted
  listed_noted p h = noted_true (note_at m.values p) (second _ _ (sym (member_noted p) ∙ In_member (noted_of m.values m.touched) p (Contains_In (noted_of m.values m.touched) p h)))
    where
      second : (a b : Bool) → (a && b) ≡ true → b ≡ true
      second true b e = e
      second false b e = absurd (false≢true e)

  noted_listed : (p : ℕ) → note_at m.values p ≡ Noted → Contains (noted_of m.values m.touched) p
  noted_listed p e = In_Contains (noted_of m.values m.touched) p (member_In (noted_of m.values m.touched) p (member_noted p ∙ both _ _ (k.listed p ∙ ap is_found_note e) (ap is_noted e)))
    where
      both : (a b : Bool) → a ≡ true → b ≡ true → (a && b) ≡ true
      both a b x y = ap (λ (z : Bool). z && b) x ∙ y

  -- with the last clause's number behind them the numbers are in the order of the trail
  pub AreInTrailOrder-from : (s : PortState) (last : List Literal) (i : ℕ) (hints : List ℕ) (n : ℕ) → IsNonDecreasing m.touched → length m.touched ≤ i
      → AllZip (NamesCause s steps) (noted_of m.values (take i m.touched)) hints → numbered (known_at s) n ≡ Some last → AreUsed s steps m.values last
      → AreInTrailOrder s steps last (hints ++ n ∷ [])
  AreInTrailOrder-from s last i hints n rising le done names used = record {
    places = noted_of m.values m.touched;
    before = hints;
    number = n;
    rising = IsStrictlyIncreasing-filter (λ p. is_noted (note_at m.values p)) m.touched (IsStrictlyIncreasing-from_distinct m.touched rising k.distinct);
    causes = subst (λ (xs : List ℕ). AllZip (NamesCause s steps) (noted_of m.values xs) hints) (take_all i m.touched le) done;
    names = names;
    hints_are = refl;
    used = λ p h. elim (used p (listed_noted p h)) as (λ _. (has last (opposite (lit_at steps p)) ≡ true) ⊎ IsUsed s steps (Contains (noted_of m.values m.touched)) p) [
      | inl own ↦ inl own
      | inr u ↦ inr (record { place = u.place; later = u.later; has_property = noted_listed u.place u.has_property; lits = u.lits; cause = u.cause; falsifies = u.falsifies })
    ];
  }
