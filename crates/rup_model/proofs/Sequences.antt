-- What holds of each entry after those before it.
use Rattle.std.proofs.Common.{◌≡◌, List, [], ◌∷◌, ◌++◌, sym, subst, append-nil, append_assoc}
use Rattle.std.specs.List.{fold}
use Rattle.std.proofs.lemmas.List.Sums.{fold-append}
use Rattle.rup_model.specs.Basics.{EachAfter}

pub fold_last : {S E : Type 0} (f : S → E → S) (s : S) (es : List E) (e : E) → fold f s (es ++ e ∷ []) ≡ f (fold f s es) e
fold_last f s es e = fold-append f s es (e ∷ [])

module _ {E : Type 0} (P : List E → E → Type 0) where
  -- one more entry
  pub each_last : (before es : List E) (e : E) → EachAfter P before es → P (before ++ es) e → EachAfter P before (es ++ e ∷ [])
  each_last before [] e h p = (subst (λ (xs : List E). P xs e) (append-nil before) p, tt)
  each_last before (x ∷ es) e h p = (h.0, each_last (before ++ x ∷ []) es e h.1 (subst (λ (xs : List E). P xs e) (sym (append_assoc before (x ∷ []) es)) p))

  -- the entries in two parts
  pub each_both : (before es fs : List E) → EachAfter P before es → EachAfter P (before ++ es) fs → EachAfter P before (es ++ fs)
  each_both before [] fs h k = subst (λ (xs : List E). EachAfter P xs fs) (append-nil before) k
  each_both before (x ∷ es) fs h k = (h.0, each_both (before ++ x ∷ []) es fs h.1 (subst (λ (xs : List E). EachAfter P xs fs) (sym (append_assoc before (x ∷ []) es)) k))

  pub each_front : (before es fs : List E) → EachAfter P before (es ++ fs) → EachAfter P before es
  each_front before [] fs h = tt
  each_front before (x ∷ es) fs h = (h.0, each_front (before ++ x ∷ []) es fs h.1)

  pub each_back : (before es fs : List E) → EachAfter P before (es ++ fs) → EachAfter P (before ++ es) fs
  each_back before [] fs h = subst (λ (xs : List E). EachAfter P xs fs) (sym (append-nil before)) h
  each_back before (x ∷ es) fs h = subst (λ (xs : List E). EachAfter P xs fs) (append_assoc before (x ∷ []) es) (each_back (before ++ x ∷ []) es fs h.1)

-- a weaker property
pub each_weaker : {E : Type 0} (P Q : List E → E → Type 0) → ((before : List E) (e : E) → P before e → Q before e) → (before es : List E) → EachAfter P before es → EachAfter Q before es
each_weaker P Q f before [] h = tt
each_weaker P Q f before (x ∷ es) h = (f before x h.0, each_weaker P Q f (before ++ x ∷ []) es h.1)

-- each step is well in the state that the steps before it leave
abbrev pub EachState : {S E : Type 0} → (S → E → S) → (S → E → Type 0) → S → List E → Type 0
EachState f Q s [] = Unit {0}
EachState f Q s (e ∷ es) = Q s e × EachState f Q (f s e) es

-- a property of what stands before, as one of the state that it leaves
pub to_states : {S E : Type 0} (f : S → E → S) (Q : S → E → Type 0) (s : S) (before es : List E) → EachAfter (λ b e. Q (fold f s b) e) before es → EachState f Q (fold f s before) es
to_states f Q s before [] h = tt
to_states {S} f Q s before (e ∷ es) h = (h.0, subst (λ (t : S). EachState f Q t es) (fold_last f s before e) (to_states f Q s (before ++ e ∷ []) es h.1))
