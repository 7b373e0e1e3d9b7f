-- Up the trail the noted places are hints one after another.
use Rattle.std.proofs.Common.{◌≡◌, ◌∙◌, ℕ, ◌<◌, ◌≤◌, ◌+◌, Bool, true, false, nat_eq, List, [], ◌∷◌, ◌++◌, length, get_or, take, refl, sym, ap, subst, inl, inr, ◌⊎◌, Some, append_assoc, arith}
use Rattle.std.specs.List.Sorted.{IsNonDecreasing}
use Rattle.std.specs.Set.{is_member}
use Rattle.std.proofs.lemmas.Bool.{cases_Bool, or_left, or_right, or_cases, eq-eqb, eqb-true, false≢true}
use Rattle.std.proofs.lemmas.List.{take_more, take_all}
use Rattle.sat_words.specs.Literal.{Literal, opposite, same}
use Rattle.sat_words.specs.Clause.{has}
use Rattle.sat_words.proofs.Members.{opposite-opposite, same-true, same-refl}
use Rattle.rup_model.specs.Hints.{Numbered, with_lit, hinted_from}
use Rattle.rup_model.proofs.Hinting.{hint_last, hint_first}
use Rattle.ring_trail.specs.declared.step.TrailStep.{TrailStep}
use Rattle.ring_trail.specs.TrailData.{TrailData, IsTrail, lit_at, var_at}
use Rattle.ring_trail.specs.Reasoned.{WasUnit}
use Rattle.analyze.specs.MarksData.{MarksData}
use Rattle.analyze.specs.Noting.{note_at, is_found_note, is_found_at, IsNoting, IsStartSet}
use Rattle.analyze.specs.declared.tracer.Note.{Note}
use Rattle.analyze.specs.declared.tracer.Note.TheVariants.{Noted}
use Rattle.analyze.proofs.Marking.{member_push}
use Rattle.analyze.proofs.Noting.{found_cases}
use Rattle.analyze.proofs.Sorting.{before_taken, not_taken}

-- the noted ones of these places are derived by the hints
pub record IsClimbed (at : Numbered) (steps : List TrailStep) (A : Literal → Bool) (vs : List Note) (done hints : List ℕ) : Type 0 where
  pub B : Literal → Bool
  pub more : (k : Literal) → A k ≡ true → B k ≡ true
  pub all : (p : ℕ) → is_member nat_eq done p ≡ true → note_at vs p ≡ Noted → B (lit_at steps p) ≡ true
  pub only : (k : Literal) → B k ≡ true → (A k ≡ true) ⊎ ((p : ℕ) × (is_member nat_eq done p ≡ true) × (note_at vs p ≡ Noted) × (lit_at steps p ≡ k))
  pub goes_on : (m : ℕ) (rest : List ℕ) → hinted_from at B (m ∷ rest) ≡ true → hinted_from at A (hints ++ m ∷ rest) ≡ true

pub IsClimbed-none : (at : Numbered) (steps : List TrailStep) (A : Literal → Bool) (vs : List Note) (ps : List ℕ) → IsClimbed at steps A vs (take 0 ps) []
IsClimbed-none at steps A vs ps = record {
  B = A;
  more = λ k y. y;
  all = λ p y n. absurd (false≢true y);
  only = λ k y. inl y;
  goes_on = λ m rest h. h;
}

module _ (at : Numbered) (t : TrailData) (A : Literal → Bool) (m : MarksData Note) (last : List Literal) (shape : IsTrail t) (k : IsNoting t.steps t.vars m) (start : IsStartSet t.steps m.values last A) where
  -- a found place's literal is in the set once the places up to it are done
  covered : (done hints : List ℕ) (x : IsClimbed at t.steps A m.values done hints) (p : ℕ) → is_found_at m.values p ≡ true → (note_at m.values p ≡ Noted → is_member nat_eq done p ≡ true) → x.B (lit_at t.steps p) ≡ true
  covered done hints x p y go = elim (found_cases (note_at m.values p) y) as (λ _. x.B (lit_at t.steps p) ≡ true) [
    | inl given ↦ x.more (lit_at t.steps p) (start.given p given)
    | inr noted ↦ x.all p (go noted) noted
  ]

  -- with the last clause the hints are whole
  pub climbed_all : (i : ℕ) (hints : List ℕ) (n : ℕ) → length m.touched ≤ i → IsClimbed at t.steps A m.values (take i m.touched) hints → at n ≡ Some last → hinted_from at A (hints ++ n ∷ []) ≡ true
  climbed_all i hints n le x there = x.goes_on n [] (hint_last at x.B n last there (λ l h.
      elim (start.refuted l h) as (λ _. x.B (opposite l) ≡ true) [
        | inl given ↦ x.more (opposite l) given
        | inr f ↦ subst (λ (z : Literal). x.B z ≡ true) f.2 (covered (take i m.touched) hints x f.0 f.1 (λ noted.
            ap (λ (xs : List ℕ). is_member nat_eq xs f.0) (take_all i m.touched le) ∙ k.listed f.0 ∙ ap is_found_note noted))
      ]))

  module _ (i : ℕ) (hints : List ℕ) (lt : i < length m.touched) (x : IsClimbed at t.steps A m.values (take i m.touched) hints) where
    abbrev pub here : ℕ
    here = get_or m.touched i 0

    pushed : take (i + 1) m.touched ≡ take i m.touched ++ here ∷ []
    pushed = take_more m.touched i 0 lt

    next_or_before : (p : ℕ) → is_member nat_eq (take (i + 1) m.touched) p ≡ true → (is_member nat_eq (take i m.touched) p ≡ true) ⊎ (p ≡ here)
    next_or_before p y =
        elim (or_cases (is_member nat_eq (take i m.touched) p) (nat_eq p here) (sym (member_push (take i m.touched) here p) ∙ ap (λ (xs : List ℕ). is_member nat_eq xs p) (sym pushed) ∙ y)) as (λ _. (is_member nat_eq (take i m.touched) p ≡ true) ⊎ (p ≡ here)) [
          | inl old ↦ inl old
          | inr e ↦ inr (eqb-true p here e)
        ]

    before_next : (p : ℕ) → is_member nat_eq (take i m.touched) p ≡ true → is_member nat_eq (take (i + 1) m.touched) p ≡ true
    before_next p y = ap (λ (xs : List ℕ). is_member nat_eq xs p) pushed ∙ member_push (take i m.touched) here p ∙ or_left _ _ y

    here_next : is_member nat_eq (take (i + 1) m.touched) here ≡ true
    here_next = ap (λ (xs : List ℕ). is_member nat_eq xs here) pushed ∙ member_push (take i m.touched) here here ∙ or_right _ _ (eq-eqb here here refl)

    -- a given place needs no hint
    pub IsClimbed-given : (note_at m.values here ≡ Noted → ⊥) → IsClimbed at t.steps A m.values (take (i + 1) m.touched) hints
    IsClimbed-given not_noted = record {
      B = x.B;
      more = x.more;
      all = λ p y n. elim (next_or_before p y) as (λ _. x.B (lit_at t.steps p) ≡ true) [
        | inl old ↦ x.all p old n
        | inr e ↦ absurd (not_noted (ap (note_at m.values) (sym e) ∙ n))
      ];
      only = λ l y. elim (x.only l y) as (λ _. (A l ≡ true) ⊎ ((p : ℕ) × (is_member nat_eq (take (i + 1) m.touched) p ≡ true) × (note_at m.values p ≡ Noted) × (lit_at t.steps p ≡ l))) [
        | inl given ↦ inl given
        | inr f ↦ inr (f.0, before_next f.0 f.1, f.2, f.3)
      ];
      goes_on = x.goes_on;
    }

    -- a noted place's clause is the next hint
    module _ (n : ℕ) (c : List Literal) (rising : IsNonDecreasing m.touched) (noted : note_at m.values here ≡ Noted) (there : at n ≡ Some c) (unit : WasUnit t.steps here c)
        (closed : (q : ℕ) → q < length t.steps → has c (opposite (lit_at t.steps q)) ≡ true → is_found_at m.values q ≡ true) where
      lit : Literal
      lit = lit_at t.steps here

      here_in : here < length t.steps
      here_in = k.in_range here (ap is_found_note noted)

      -- its variable has no value yet
      open_by : (l : Literal) → l.var ≡ var_at t.steps here → A l ≡ false → x.B l ≡ false
      open_by l var off = elim (cases_Bool (x.B l)) as (λ _. x.B l ≡ false) [
        | inl y ↦ elim (x.only l y) as (λ _. x.B l ≡ false) [
          | inl given ↦ absurd (false≢true (sym off ∙ given))
          | inr f ↦ absurd (
              let e : f.0 ≡ here = shape.distinct f.0 here (k.in_range f.0 (ap is_found_note f.2)) here_in (ap (λ (z : Literal). z.var) f.3 ∙ var) in
              not_taken m.touched i k.distinct lt (ap (is_member nat_eq (take i m.touched)) (sym e) ∙ f.1))
        ]
        | inr off_now ↦ off_now
      ]

      others : (l : Literal) → has c l ≡ true → (l ≡ lit_at t.steps here) ⊎ (x.B (opposite l) ≡ true)
      others l h = elim (unit.others l h) as (λ _. (l ≡ lit_at t.steps here) ⊎ (x.B (opposite l) ≡ true)) [
        | inl own ↦ inl own
        | inr f ↦ (
            let b = f.before in
            let h_in = here_in in
            let in_clause : has c (opposite (lit_at t.steps f.place)) ≡ true = subst (λ (z : Literal). has c z ≡ true) (sym (ap opposite f.false_there ∙ opposite-opposite l)) h in
            let found = closed f.place (omega (arith, b, h_in)) in_clause in
            inr (subst (λ (z : Literal). x.B z ≡ true) f.false_there (covered (take i m.touched) hints x f.place found (λ y.
            before_taken m.touched i f.place rising lt (k.listed f.place ∙ found) b))))
      ]

      pub IsClimbed-noted : IsClimbed at t.steps A m.values (take (i + 1) m.touched) (hints ++ n ∷ [])
      IsClimbed-noted = record {
        B = with_lit (lit_at t.steps here) x.B;
        more = λ l y. or_right _ _ (x.more l y);
        all = λ p y e. elim (next_or_before p y) as (λ _. with_lit (lit_at t.steps here) x.B (lit_at t.steps p) ≡ true) [
          | inl old ↦ or_right _ _ (x.all p old e)
          | inr is ↦ or_left _ _ (subst (λ (q : ℕ). same (lit_at t.steps q) (lit_at t.steps here) ≡ true) (sym is) (same-refl (lit_at t.steps here)))
        ];
        only = λ l y. elim (or_cases (same l (lit_at t.steps here)) (x.B l) y) as (λ _. (A l ≡ true) ⊎ ((p : ℕ) × (is_member nat_eq (take (i + 1) m.touched) p ≡ true) × (note_at m.values p ≡ Noted) × (lit_at t.steps p ≡ l))) [
          | inl s ↦ inr (here, here_next, noted, sym (same-true l (lit_at t.steps here) s))
          | inr old ↦ elim (x.only l old) as (λ _. (A l ≡ true) ⊎ ((p : ℕ) × (is_member nat_eq (take (i + 1) m.touched) p ≡ true) × (note_at m.values p ≡ Noted) × (lit_at t.steps p ≡ l))) [
            | inl given ↦ inl given
            | inr f ↦ inr (f.0, before_next f.0 f.1, f.2, f.3)
          ]
        ];
        goes_on = λ q rest h. ap (hinted_from at A) (append_assoc hints (n ∷ []) (q ∷ rest)) ∙ x.goes_on n (q ∷ rest)
            (hint_first at x.B n q rest c (lit_at t.steps here) there unit.has_lit others
            (open_by (lit_at t.steps here) refl (start.not_true here noted))
            (open_by (opposite (lit_at t.steps here)) refl (start.not_false here noted)) h);
      }
