-- What follows of places, and what changes once one more is judged.
use Rattle.std.proofs.Common.{◌≡◌, ◌∙◌, ℕ, zero, suc, ◌+◌, ◌<◌, ◌≤◌, Bool, true, false, ◌||◌, nat_eq, List, [], ◌∷◌, ◌++◌, length, length-append, get_or, take, replicate, Some, None, sym, refl, ap, subst, inl, inr, ◌⊎◌, arith}
use Rattle.std.proofs.lemmas.List.{get_or-set_same, get_or-set_other, take_more, take_all, length-replicate}
use Rattle.std.proofs.Math.ListN.{set, length-set}
use Rattle.std.specs.List.{IsDistinct}
use Rattle.std.specs.Set.{is_member}
use Rattle.std.proofs.lemmas.Cmp.{nat_eq_equiv}
use Rattle.std.proofs.lemmas.Bool.{or_cases, eq-eqb, eqb-true, cases_eq, ne_eqb, or_right, false≢true}
use Rattle.std.proofs.lemmas.Map.Keys.{IsDistinct-push}
use Rattle.std.proofs.lemmas.Map.Steps.{length-le_from_distinct_below}
use Rattle.sat_words.specs.Literal.{Literal, opposite}
use Rattle.sat_words.specs.Clause.{has}
use Rattle.sat_words.specs.declared.shared.Cref.{Cref}
use Rattle.ring_trail.specs.declared.step.TrailStep.{TrailStep}
use Rattle.ring_trail.specs.TrailData.{TrailData, IsTrail, lit_at, level_at, reason_at}
use Rattle.ring_trail.specs.Reasoned.{Held, IsForced, IsSeen, IsDecision, IsReasoned}
use Rattle.analyze.specs.MarksData.{MarksData, all_blank, with_mark}
use Rattle.analyze.specs.Walk.{MakesFalse}
use Rattle.analyze.specs.Removable.{IsReasonOf}
use Rattle.analyze.specs.Minimising.{removability_at, is_found, is_known, IsSettled, AllSettled, IsBlockedBy, IsScanned, IsCleared, IsBlocked, Follows, IsJudged}
use Rattle.analyze.specs.declared.minimise.Removability.{Removability}
use Rattle.analyze.specs.declared.minimise.Removability.TheVariants.{Unknown, Removable, Needed}
use Rattle.analyze.specs.declared.minimise.Frame.{Frame}
use Rattle.analyze.proofs.Chains.{has-one}
use Rattle.analyze.proofs.Frames.{IsFrame}
use Rattle.analyze.proofs.Marking.{member_push, or_false, has-append}

-- the place's reason is one clause
pub one_reason : (held : Held) (steps : List TrailStep) (p : ℕ) (a : Cref) (c d : List Literal) → IsReasonOf held steps p c → reason_at steps p ≡ Some a → held a.address ≡ Some d → c ≡ d
one_reason held steps p a c d r e h =
    let both : Some r.reason ≡ Some a = sym r.reason_is ∙ e in
    let at : r.reason ≡ a = cc in
    let two : Some c ≡ Some d = sym r.held_is ∙ ap (λ (x : Cref). held x.address) at ∙ h in
    cc

-- a place above level 0 that has a reason was forced by it
pub forced_above : (held : Held) (seen : List Literal) (steps : List TrailStep) (p : ℕ) (a : Cref) → IsReasoned held seen steps → p < length steps → 1 ≤ level_at steps p → reason_at steps p ≡ Some a → IsForced held steps p
forced_above held seen steps p a r lt above e = by (r.caused p lt)
  where
    by : IsForced held steps p ⊎ (IsSeen seen steps p ⊎ IsDecision steps p) → IsForced held steps p
    by (inl f) = f
    by (inr (inl z)) = absurd (let l = z.level in omega arith)
    by (inr (inr d)) = absurd (let none = d.none in let both : None ≡ Some a = sym none ∙ e in cc)

-- what makes one of its literals false makes the clause false
pub MakesFalse-one : (steps : List TrailStep) (c : List Literal) (k : Literal) (q : ℕ) → has c k ≡ true → MakesFalse steps (k ∷ []) q → MakesFalse steps c q
MakesFalse-one steps c k q h f = record {
  in_range = f.in_range;
  above = f.above;
  has_opposite = subst (λ (x : Literal). has c x ≡ true) (sym (has-one k (opposite (lit_at steps q)) f.has_opposite)) h;
}

pub IsBlockedBy-one : (steps : List TrailStep) (ms : List Bool) (vs : List Removability) (p : ℕ) (c : List Literal) (k : Literal) → has c k ≡ true → IsBlockedBy steps ms vs p (k ∷ []) → IsBlockedBy steps ms vs p c
IsBlockedBy-one steps ms vs p c k h b = record {
  place = b.place;
  before = b.before;
  falsifies = MakesFalse-one steps c k b.place h b.falsifies;
  not_marked = b.not_marked;
  needed = b.needed;
}

-- one more literal is settled
pub AllSettled-more : (steps : List TrailStep) (ms : List Bool) (vs : List Removability) (p : ℕ) (c : List Literal) (i : ℕ) (d : Literal) → i < length c
    → AllSettled steps ms vs p (take i c) → AllSettled steps ms vs p (get_or c i d ∷ []) → AllSettled steps ms vs p (take (i + 1) c)
AllSettled-more steps ms vs p c i d h x y q lt f =
    let o : has (take i c ++ get_or c i d ∷ []) (opposite (lit_at steps q)) ≡ true = ap (λ (w : List Literal). has w (opposite (lit_at steps q))) (sym (take_more c i d h)) ∙ f.has_opposite in
    elim (or_cases (has (take i c) (opposite (lit_at steps q))) (has (get_or c i d ∷ []) (opposite (lit_at steps q))) (sym (has-append (take i c) (get_or c i d ∷ []) (opposite (lit_at steps q))) ∙ o)) as (λ _. IsSettled ms vs q) [
      | inl old ↦ x q lt (record { in_range = f.in_range; above = f.above; has_opposite = old })
      | inr new ↦ y q lt (record { in_range = f.in_range; above = f.above; has_opposite = new })
    ]

pub IsScanned-more : (held : Held) (steps : List TrailStep) (ms : List Bool) (vs : List Removability) (p : ℕ) (a : Cref) (c : List Literal) (i : ℕ) (k : Literal) → reason_at steps p ≡ Some a → held a.address ≡ Some c → i < length c
    → get_or c i k ≡ k → IsScanned held steps ms vs p i → AllSettled steps ms vs p (k ∷ []) → IsScanned held steps ms vs p (i + 1)
IsScanned-more held steps ms vs p a c i k e h lt is x y d r =
    let same = one_reason held steps p a d c r e h in
    subst (λ (w : List Literal). AllSettled steps ms vs p (take (i + 1) w)) (sym same)
    (AllSettled-more steps ms vs p c i k lt (x c (subst (λ (w : List Literal). IsReasonOf held steps p w) same r)) (subst (λ (w : Literal). AllSettled steps ms vs p (w ∷ [])) (sym is) y))

pub IsScanned-none : (held : Held) (steps : List TrailStep) (ms : List Bool) (vs : List Removability) (p : ℕ) → IsScanned held steps ms vs p 0
IsScanned-none held steps ms vs p c r q lt f = absurd (false≢true f.has_opposite)

-- the whole reason is settled
pub IsCleared-scanned : (held : Held) (steps : List TrailStep) (ms : List Bool) (vs : List Removability) (p : ℕ) (a : Cref) (c : List Literal) (i : ℕ) → reason_at steps p ≡ Some a → held a.address ≡ Some c → length c ≤ i
    → IsScanned held steps ms vs p i → IsCleared held steps ms vs p
IsCleared-scanned held steps ms vs p a c i e h le x =
    let r : IsReasonOf held steps p c = record { reason = a; reason_is = e; held_is = h } in
    record { lits = c; reason = r; others = λ q lt f. x c r q lt (subst (λ (w : List Literal). MakesFalse steps w q) (sym (take_all i c le)) f) }

-- what was found stays
abbrev pub Grows : List Removability → List Removability → Type 0
Grows vs ws = (q : ℕ) → is_known vs q ≡ true → removability_at ws q ≡ removability_at vs q

module _ (ms : List Bool) (vs ws : List Removability) (g : Grows vs ws) where
  pub IsSettled-grown : (q : ℕ) → IsSettled ms vs q → IsSettled ms ws q
  IsSettled-grown q (inl y) = inl y
  IsSettled-grown q (inr e) = inr (g q (ap is_found e) ∙ e)

  pub IsBlockedBy-grown : (steps : List TrailStep) (p : ℕ) (c : List Literal) → IsBlockedBy steps ms vs p c → IsBlockedBy steps ms ws p c
  IsBlockedBy-grown steps p c b = record {
    place = b.place;
    before = b.before;
    falsifies = b.falsifies;
    not_marked = b.not_marked;
    needed = g b.place (ap is_found b.needed) ∙ b.needed;
  }

  module _ (held : Held) (steps : List TrailStep) (p : ℕ) where
    pub IsScanned-grown : (n : ℕ) → IsScanned held steps ms vs p n → IsScanned held steps ms ws p n
    IsScanned-grown n x c r q lt f = IsSettled-grown q (x c r q lt f)

    pub IsCleared-grown : IsCleared held steps ms vs p → IsCleared held steps ms ws p
    IsCleared-grown r = record { lits = r.lits; reason = r.reason; others = λ q lt f. IsSettled-grown q (r.others q lt f) }

    pub IsBlocked-grown : IsBlocked held steps ms vs p → IsBlocked held steps ms ws p
    IsBlocked-grown (inl none) = inl none
    IsBlocked-grown (inr b) = inr (b.0, b.1, IsBlockedBy-grown steps p b.0 b.2)

-- what follows is removable or needed
pub found_Follows : (held : Held) (steps : List TrailStep) (ms : List Bool) (vs : List Removability) (p : ℕ) (v : Removability) → Follows held steps ms vs p v → is_found v ≡ true
found_Follows held steps ms vs p Unknown f = absurd f
found_Follows held steps ms vs p Removable f = refl
found_Follows held steps ms vs p Needed f = refl

-- one more place is judged
module _ (held : Held) (t : TrailData) (ms : List Bool) (vs : MarksData Removability) (shape : IsTrail t) (k : IsJudged held t.steps t.vars ms vs)
    (p : ℕ) (lt : p < length t.steps) (off : removability_at vs.values p ≡ Unknown) (v : Removability) where
  not_known : is_known vs.values p ≡ false
  not_known = ap is_found off

  in_table : p < length vs.values
  in_table = let s = shape.short in let z = k.size in omega arith

  here : removability_at (set vs.values p v) p ≡ v
  here = get_or-set_same vs.values p v Unknown in_table

  other : (q : ℕ) → (q ≡ p → ⊥) → removability_at (set vs.values p v) q ≡ removability_at vs.values q
  other q ne = get_or-set_other vs.values p q v Unknown ne

  pub Grows-set : Grows vs.values (set vs.values p v)
  Grows-set q y = other q (λ e. false≢true (sym not_known ∙ ap (is_known vs.values) (sym e) ∙ y))

  pub IsFrame-set : (root : ℕ) (f : Frame) → p < f.place → IsFrame held t.steps ms vs.values root f → IsFrame held t.steps ms (set vs.values p v) root f
  IsFrame-set root f b x = record {
    above = x.above;
    own = x.own;
    unknown = other f.place (λ e. absurd (omega arith)) ∙ x.unknown;
    scanned = IsScanned-grown ms vs.values (set vs.values p v) Grows-set held t.steps f.place f.next x.scanned;
  }

  pushed : IsDistinct nat_eq (vs.touched ++ p ∷ [])
  pushed = IsDistinct-push nat_eq_equiv vs.touched p k.distinct (k.listed p ∙ not_known)

  -- there is room to list the place
  pub room_judged : length vs.touched < t.vars
  room_judged =
      let le = length-le_from_distinct_below (vs.touched ++ p ∷ []) (length t.steps) pushed (λ r y.
      elim (or_cases (is_member nat_eq vs.touched r) (nat_eq r p) (sym (member_push vs.touched p r) ∙ y)) as (λ _. r < length t.steps) [
        | inl old ↦ k.in_range r (sym (k.listed r) ∙ old)
        | inr e ↦ (let s = eqb-true r p e in omega arith)
      ]) in
      let s = shape.short in
      omega (arith, le, length-append vs.touched (p ∷ []))

  -- another place is judged only if it was
  pub known_before : (q : ℕ) → (q ≡ p → ⊥) → is_known (set vs.values p v) q ≡ true → is_known vs.values q ≡ true
  known_before q ne y = ap is_found (sym (other q ne)) ∙ y

  module _ (f : Follows held t.steps ms vs.values p v) where
    known_here : is_known (set vs.values p v) p ≡ true
    known_here = ap is_found here ∙ found_Follows held t.steps ms vs.values p v f

    pub known_now : (q : ℕ) → is_known vs.values q ≡ true → is_known (set vs.values p v) q ≡ true
    known_now q y = ap is_found (Grows-set q y) ∙ y

    pub IsJudged-set : IsJudged held t.steps t.vars ms (with_mark vs p v)
    IsJudged-set = record {
      blank = k.blank;
      size = length-set vs.values p v ∙ k.size;
      in_range = λ q y. elim (cases_eq q p) as (λ _. q < length t.steps) [
        | inl e ↦ omega arith
        | inr ne ↦ k.in_range q (ap is_found (sym (other q ne)) ∙ y)
      ];
      listed = λ q. member_push vs.touched p q ∙ elim (cases_eq q p) as (λ _. (is_member nat_eq vs.touched q || nat_eq q p) ≡ is_known (set vs.values p v) q) [
        | inl e ↦ or_right _ _ (eq-eqb q p e) ∙ sym (subst (λ (r : ℕ). is_known (set vs.values p v) r ≡ true) (sym e) known_here)
        | inr ne ↦ ap (λ (x : Bool). is_member nat_eq vs.touched q || x) (ne_eqb q p ne) ∙ or_false (is_member nat_eq vs.touched q) ∙ k.listed q ∙ sym (ap is_found (other q ne))
      ];
      distinct = pushed;
      cleared = λ q y. elim (cases_eq q p) as (λ _. IsCleared held t.steps ms (set vs.values p v) q) [
        | inl e ↦ subst (λ (r : ℕ). IsCleared held t.steps ms (set vs.values p v) r) (sym e)
            (IsCleared-grown ms vs.values (set vs.values p v) Grows-set held t.steps p (subst (λ (w : Removability). Follows held t.steps ms vs.values p w) (sym here ∙ ap (removability_at (set vs.values p v)) (sym e) ∙ y) f))
        | inr ne ↦ IsCleared-grown ms vs.values (set vs.values p v) Grows-set held t.steps q (k.cleared q (sym (other q ne) ∙ y))
      ];
      blocked = λ q y. elim (cases_eq q p) as (λ _. IsBlocked held t.steps ms (set vs.values p v) q) [
        | inl e ↦ subst (λ (r : ℕ). IsBlocked held t.steps ms (set vs.values p v) r) (sym e)
            (IsBlocked-grown ms vs.values (set vs.values p v) Grows-set held t.steps p (subst (λ (w : Removability). Follows held t.steps ms vs.values p w) (sym here ∙ ap (removability_at (set vs.values p v)) (sym e) ∙ y) f))
        | inr ne ↦ IsBlocked-grown ms vs.values (set vs.values p v) Grows-set held t.steps q (k.blocked q (sym (other q ne) ∙ y))
      ];
    }

none_twice : IsDistinct nat_eq []
unfolding IsDistinct
none_twice = tt

-- no place is judged
unknown : (n p : ℕ) → removability_at (replicate n Unknown) p ≡ Unknown
unknown zero p = refl
unknown (suc n) zero = refl
unknown (suc n) (suc p) = unknown n p

pub known-none : (n p : ℕ) → is_known (replicate n Unknown) p ≡ false
known-none n p = ap is_found (unknown n p)

pub IsJudged-none : (held : Held) (t : TrailData) (ms : List Bool) → IsJudged held t.steps t.vars ms (all_blank t.vars Unknown)
IsJudged-none held t ms =
    let off = unknown t.vars in
    record {
      blank = refl;
      size = length-replicate t.vars Unknown;
      in_range = λ p y. absurd (false≢true (sym (known-none t.vars p) ∙ y));
      listed = λ p. sym (known-none t.vars p);
      distinct = none_twice;
      cleared = λ p y. absurd (let both : Unknown ≡ Removable = sym (off p) ∙ y in cc);
      blocked = λ p y. absurd (let both : Unknown ≡ Needed = sym (off p) ∙ y in cc);
    }
