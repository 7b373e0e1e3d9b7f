-- What simplifiers leave that run one after another, in rounds.
use Rattle.std.proofs.Common.{◌≡◌, ◌∙◌, ℕ, zero, suc, List, [], ◌∷◌, ◌++◌, Bool, true, false, refl, sym, ap, subst, inl, inr}
use Rattle.std.specs.Prelude.{Result, Ok}
use Rattle.rup_model.specs.declared.journal.Entry.{Entry}
use Rattle.drat_text.specs.declared.stop.LineStop.{LineStop}
use Rattle.simp_base.specs.WorkState.{WorkState}
use Rattle.std.specs.List.{list_any}
use Rattle.std.proofs.lemmas.Bool.{or_parts, true≢false}
use Rattle.simp_base.specs.Log.{Grows}
use Rattle.simp_base.proofs.Widening.{grows_none, grows_along}
use Rattle.simp_base.specs.declared.work.Run.{Run}
use Rattle.simp_base.specs.declared.work.Run.TheVariants.{Done}
use Rattle.simp_units.specs.Ends.{Cleaned}
use Rattle.ruler_simp.specs.declared.passes.Simplifier.{Simplifier}
use Rattle.ruler_simp.specs.declared.passes.Simplifier.TheVariants.{Units, Subsumption, Equivalence, Elimination, Addition}
use Rattle.ruler_simp.specs.declared.rounds.Schedule.{Schedule}
use Rattle.ruler_simp.specs.Passes.{Ends, RunTo, adds_variables, round_passes}
use Rattle.ruler_simp.specs.Rounds.{RoundsTo, SimplifiedIn, SimplifiedTo}
use Rattle.ruler_simp.proofs.Going.{IsReady, GoesOn, Comes, goes_self, comes_along, pass_comes}

-- how one run or several end
abbrev pub End : Type 0
End = Result Run LineStop

-- The log

-- nothing was done
idle : (a c : WorkState) (result : End) (entries : List Entry) → (result ≡ Ok Done) × (c ≡ a) × (entries ≡ []) → Grows entries a c
idle a c result entries h = subst (λ (w : WorkState). Grows entries a w) (sym h.1) (subst (λ (es : List Entry). Grows es a a) (sym h.2) (grows_none a))

idle_comes : (a c : WorkState) (result : End) (entries : List Entry) → IsReady a → (result ≡ Ok Done) × (c ≡ a) × (entries ≡ []) → Comes a c result
idle_comes a c result entries r h = subst (λ (w : WorkState). Comes a w result) (sym h.1) (subst (Comes a a) (sym h.0) (goes_self a r))

-- In a row

pub row_log : (passes : List Simplifier) (a c : WorkState) (result : End) (entries : List Entry) → RunTo passes a c result entries → Grows entries a c
row_log [] a c result entries h = idle a c result entries h
row_log (p ∷ ps) a c result entries (inl h) = h.0.log
row_log (p ∷ ps) a c result entries (inr (b, fs, gs, h, rest, e)) = subst (λ (es : List Entry). Grows es a c) (sym e) (grows_along fs gs a b c h.log (row_log ps b c result gs rest))

-- they add no variables
pub row_vars : (passes : List Simplifier) (a c : WorkState) (result : End) (entries : List Entry) → list_any adds_variables passes ≡ false → RunTo passes a c result entries → c.vars ≡ a.vars
row_vars [] a c result entries none h = ap (λ (w : WorkState). w.vars) h.1
row_vars (p ∷ ps) a c result entries none (inl h) = h.0.vars (or_parts (adds_variables p) (list_any adds_variables ps) none).0
row_vars (p ∷ ps) a c result entries none (inr (b, fs, gs, h, rest, e)) =
    let parts = or_parts (adds_variables p) (list_any adds_variables ps) none in
    row_vars ps b c result gs parts.1 rest ∙ h.vars parts.0

pub row_comes : (passes : List Simplifier) (a c : WorkState) (result : End) (entries : List Entry) → IsReady a → RunTo passes a c result entries → Comes a c result
row_comes [] a c result entries r h = idle_comes a c result entries r h
row_comes (p ∷ ps) a c result entries r (inl h) = pass_comes p a c result h.0.ends
row_comes (p ∷ ps) a c result entries r (inr (b, fs, gs, h, rest, e)) =
    let f : GoesOn a b = pass_comes p a b (Ok Done) h.ends in
    comes_along a b c result f (row_comes ps b c result gs f.ready rest)

-- the first of them
pub row_first : (p : Simplifier) (ps : List Simplifier) (a c : WorkState) (entries : List Entry) → RunTo (p ∷ ps) a c (Ok Done) entries → (b : WorkState) × Ends p a b (Ok Done)
row_first p ps a c entries (inl h) = absurd (h.1 refl)
row_first p ps a c entries (inr (b, fs, gs, h, rest, e)) = (b, h.ends)

-- the last of them
pub row_last : (ps : List Simplifier) (p : Simplifier) (a c : WorkState) (entries : List Entry) → RunTo (ps ++ p ∷ []) a c (Ok Done) entries → (b : WorkState) × Ends p b c (Ok Done)
row_last [] p a c entries (inl h) = absurd (h.1 refl)
row_last [] p a c entries (inr (b, fs, gs, h, rest, e)) = (a, subst (λ (w : WorkState). Ends p a w (Ok Done)) (sym rest.1) h.ends)
row_last (q ∷ ps) p a c entries (inl h) = absurd (h.1 refl)
row_last (q ∷ ps) p a c entries (inr (b, fs, gs, h, rest, e)) = row_last ps p b c gs rest

-- In rounds

none_add : (additions : Bool) → additions ≡ false → list_any adds_variables (round_passes additions) ≡ false
none_add true e = absurd (true≢false e)
none_add false e = refl

round_first : (additions : Bool) (a c : WorkState) (entries : List Entry) → RunTo (round_passes additions) a c (Ok Done) entries → (b : WorkState) × Cleaned a b
round_first true a c entries h = row_first Units (Subsumption ∷ Equivalence ∷ Elimination ∷ Addition ∷ Units ∷ []) a c entries h
round_first false a c entries h = row_first Units (Subsumption ∷ Equivalence ∷ Elimination ∷ Units ∷ []) a c entries h

round_last : (additions : Bool) (a c : WorkState) (entries : List Entry) → RunTo (round_passes additions) a c (Ok Done) entries → (b : WorkState) × Cleaned b c
round_last true a c entries h = row_last (Units ∷ Subsumption ∷ Equivalence ∷ Elimination ∷ Addition ∷ []) Units a c entries h
round_last false a c entries h = row_last (Units ∷ Subsumption ∷ Equivalence ∷ Elimination ∷ []) Units a c entries h

pub rounds_log : (additions : Bool) (n : ℕ) (a c : WorkState) (result : End) (entries : List Entry) → RoundsTo additions n a c result entries → Grows entries a c
rounds_log additions zero a c result entries h = idle a c result entries h
rounds_log additions (suc n) a c result entries (inl h) = row_log (round_passes additions) a c result entries h.0
rounds_log additions (suc n) a c result entries (inr (b, fs, gs, h, wrote, rest, e)) =
    subst (λ (es : List Entry). Grows es a c) (sym e) (grows_along fs gs a b c (row_log (round_passes additions) a b (Ok Done) fs h) (rounds_log additions n b c result gs rest))

pub rounds_vars : (additions : Bool) (n : ℕ) (a c : WorkState) (result : End) (entries : List Entry) → additions ≡ false → RoundsTo additions n a c result entries → c.vars ≡ a.vars
rounds_vars additions zero a c result entries none h = ap (λ (w : WorkState). w.vars) h.1
rounds_vars additions (suc n) a c result entries none (inl h) = row_vars (round_passes additions) a c result entries (none_add additions none) h.0
rounds_vars additions (suc n) a c result entries none (inr (b, fs, gs, h, wrote, rest, e)) =
    rounds_vars additions n b c result gs none rest ∙ row_vars (round_passes additions) a b (Ok Done) fs (none_add additions none) h

pub rounds_comes : (additions : Bool) (n : ℕ) (a c : WorkState) (result : End) (entries : List Entry) → IsReady a → RoundsTo additions n a c result entries → Comes a c result
rounds_comes additions zero a c result entries r h = idle_comes a c result entries r h
rounds_comes additions (suc n) a c result entries r (inl h) = row_comes (round_passes additions) a c result entries r h.0
rounds_comes additions (suc n) a c result entries r (inr (b, fs, gs, h, wrote, rest, e)) =
    let f : GoesOn a b = row_comes (round_passes additions) a b (Ok Done) fs r h in
    comes_along a b c result f (rounds_comes additions n b c result gs f.ready rest)

rounds_last : (additions : Bool) (n : ℕ) (a c : WorkState) (entries : List Entry) → RoundsTo additions (suc n) a c (Ok Done) entries → (b : WorkState) × Cleaned b c
rounds_last additions n a c entries (inl h) = round_last additions a c entries h.0
rounds_last additions zero a c entries (inr (b, fs, gs, h, wrote, rest, e)) =
    let t = round_last additions a b fs h in
    (t.0, subst (λ (w : WorkState). Cleaned t.0 w) (sym rest.1) t.1)
rounds_last additions (suc n) a c entries (inr (b, fs, gs, h, wrote, rest, e)) = rounds_last additions n b c gs rest

-- The whole

in_log : (additions : Bool) (n : ℕ) (a c : WorkState) (result : End) (entries : List Entry) → SimplifiedIn additions n a c result entries → Grows entries a c
in_log additions zero a c result entries h = row_log (Units ∷ []) a c result entries h
in_log additions (suc n) a c result entries h = rounds_log additions (suc n) a c result entries h

in_vars : (additions : Bool) (n : ℕ) (a c : WorkState) (result : End) (entries : List Entry) → additions ≡ false → SimplifiedIn additions n a c result entries → c.vars ≡ a.vars
in_vars additions zero a c result entries none h = row_vars (Units ∷ []) a c result entries refl h
in_vars additions (suc n) a c result entries none h = rounds_vars additions (suc n) a c result entries none h

in_comes : (additions : Bool) (n : ℕ) (a c : WorkState) (result : End) (entries : List Entry) → IsReady a → SimplifiedIn additions n a c result entries → Comes a c result
in_comes additions zero a c result entries r h = row_comes (Units ∷ []) a c result entries r h
in_comes additions (suc n) a c result entries r h = rounds_comes additions (suc n) a c result entries r h

in_first : (additions : Bool) (n : ℕ) (a c : WorkState) (entries : List Entry) → SimplifiedIn additions n a c (Ok Done) entries → (b : WorkState) × Cleaned a b
in_first additions zero a c entries h = row_first Units [] a c entries h
in_first additions (suc n) a c entries (inl h) = round_first additions a c entries h.0
in_first additions (suc n) a c entries (inr (b, fs, gs, h, wrote, rest, e)) = round_first additions a b fs h

in_last : (additions : Bool) (n : ℕ) (a c : WorkState) (entries : List Entry) → SimplifiedIn additions n a c (Ok Done) entries → (b : WorkState) × Cleaned b c
in_last additions zero a c entries h = row_last [] Units a c entries h
in_last additions (suc n) a c entries h = rounds_last additions n a c entries h

pub whole_log : (s : Schedule) (a c : WorkState) (result : End) (entries : List Entry) → SimplifiedTo s a c result entries → Grows entries a c
whole_log s a c result entries h = in_log s.additions s.rounds a c result entries h

pub whole_vars : (s : Schedule) (a c : WorkState) (result : End) (entries : List Entry) → s.additions ≡ false → SimplifiedTo s a c result entries → c.vars ≡ a.vars
whole_vars s a c result entries none h = in_vars s.additions s.rounds a c result entries none h

pub whole_comes : (s : Schedule) (a c : WorkState) (result : End) (entries : List Entry) → IsReady a → SimplifiedTo s a c result entries → Comes a c result
whole_comes s a c result entries r h = in_comes s.additions s.rounds a c result entries r h

-- units were propagated first
pub whole_first : (s : Schedule) (a c : WorkState) (entries : List Entry) → SimplifiedTo s a c (Ok Done) entries → (b : WorkState) × Cleaned a b
whole_first s a c entries h = in_first s.additions s.rounds a c entries h

-- and last
pub whole_last : (s : Schedule) (a c : WorkState) (entries : List Entry) → SimplifiedTo s a c (Ok Done) entries → (b : WorkState) × Cleaned b c
whole_last s a c entries h = in_last s.additions s.rounds a c entries h
