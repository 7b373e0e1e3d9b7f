-- How far the loops over simplifiers and over rounds have come.
use Rattle.std.proofs.Common.{◌≡◌, ◌≢◌, ℕ, suc, List, [], ◌∷◌, ◌++◌, refl, sym, ap, ◌∙◌, subst, inl, inr, append_assoc}
use Rattle.std.specs.Prelude.{Ok}
use Rattle.rup_model.specs.declared.journal.Entry.{Entry}
use Rattle.simp_base.specs.WorkState.{WorkState, IsWork}
use Rattle.std.proofs.Common.{Bool, false}
use Rattle.simp_base.specs.Log.{GrowsLog}
use Rattle.simp_base.specs.declared.work.Run.TheVariants.{Done}
use Rattle.ruler_simp.specs.declared.passes.Simplifier.{Simplifier}
use Rattle.ruler_simp.specs.Passes.{Ends, RunTo, WereRun, adds_variables, round_passes}
use Rattle.ruler_simp.specs.Rounds.{WroteNothing, RoundsTo, WereRounds}
use Rattle.ruler_simp.proofs.Going.{IsReady, GoesOn, pass_comes}
use Rattle.ruler_simp.proofs.Running.{End, row_comes}

-- In a row

-- the rest is to run: whatever it comes to, all of them come to
pub record Row (passes rest : List Simplifier) (start now : WorkState) : Type 0 where
  pub ready : IsReady now
  pub work : IsWork now
  pub format : now.output.format ≡ start.output.format
  pub before : List Entry
  pub leads : (new : WorkState) (result : End) (later : List Entry) → RunTo rest now new result later → RunTo passes start new result (before ++ later)

pub row_start : (passes : List Simplifier) (w : WorkState) → IsReady w → IsWork w → Row passes passes w w
row_start passes w ready kept = record { ready = ready; work = kept; format = refl; before = []; leads = λ new result later h. h }

-- one is done
pub row_next : (passes : List Simplifier) (p : Simplifier) (rest : List Simplifier) (start now new : WorkState) → Row passes (p ∷ rest) start now → Ends p now new (Ok Done) → GrowsLog now new → (adds_variables p ≡ false → new.vars ≡ now.vars) → IsWork new → Row passes rest start new
row_next passes p rest start now new r ends log vars kept = (
    let goes : GoesOn now new = pass_comes p now new (Ok Done) ends in
    record {
      ready = goes.ready;
      work = kept;
      format = log.1.format ∙ r.format;
      before = r.before ++ log.0;
      leads = λ w result later h. subst (λ (es : List Entry). RunTo passes start w result es) (sym (append_assoc r.before log.0 later))
          (r.leads w result (log.0 ++ later) (inr (new, log.0, later, record { ends = ends; log = log.1; vars = vars; work = kept }, h, refl)));
    })

-- one is not
pub row_stop : (passes : List Simplifier) (p : Simplifier) (rest : List Simplifier) (start now new : WorkState) (result : End) → Row passes (p ∷ rest) start now → Ends p now new result → GrowsLog now new → (adds_variables p ≡ false → new.vars ≡ now.vars) → IsWork new → result ≢ Ok Done → WereRun passes start new result
row_stop passes p rest start now new result r ends log vars kept ne = (r.before ++ log.0, r.leads new result log.0 (inl (record { ends = ends; log = log.1; vars = vars; work = kept }, ne)))

-- all are
pub row_end : (passes : List Simplifier) (start now : WorkState) → Row passes [] start now → WereRun passes start now (Ok Done)
row_end passes start now r = (r.before ++ [], r.leads now (Ok Done) [] (refl, refl, refl))

-- the format is as it was
run_format : (passes : List Simplifier) (old new : WorkState) (result : End) (entries : List Entry) → RunTo passes old new result entries → new.output.format ≡ old.output.format
run_format [] old new result entries h = ap (λ (w : WorkState). w.output.format) h.1
run_format (p ∷ rest) old new result entries (inl h) = h.0.log.format
run_format (p ∷ rest) old new result entries (inr h) = run_format rest h.0 new result h.2 h.4 ∙ h.3.log.format

-- In rounds

pub record Turns (additions : Bool) (n m : ℕ) (start now : WorkState) : Type 0 where
  pub ready : IsReady now
  pub work : IsWork now
  pub format : now.output.format ≡ start.output.format
  pub before : List Entry
  pub leads : (new : WorkState) (result : End) (later : List Entry) → RoundsTo additions m now new result later → RoundsTo additions n start new result (before ++ later)

pub turns_start : (additions : Bool) (n : ℕ) (w : WorkState) → IsReady w → IsWork w → Turns additions n n w w
turns_start additions n w ready kept = record { ready = ready; work = kept; format = refl; before = []; leads = λ new result later h. h }

-- a round wrote a line
pub turns_next : (additions : Bool) (n m : ℕ) (start now new : WorkState) → Turns additions n (suc m) start now → WereRun (round_passes additions) now new (Ok Done) → IsWork new → (WroteNothing now new → ⊥) → Turns additions n m start new
turns_next additions n m start now new t h kept wrote = (
    let goes : GoesOn now new = row_comes (round_passes additions) now new (Ok Done) h.0 t.ready h.1 in
    record {
      ready = goes.ready;
      work = kept;
      format = run_format (round_passes additions) now new (Ok Done) h.0 h.1 ∙ t.format;
      before = t.before ++ h.0;
      leads = λ w result later k. subst (λ (es : List Entry). RoundsTo additions n start w result es) (sym (append_assoc t.before h.0 later))
          (t.leads w result (h.0 ++ later) (inr (new, h.0, later, h.1, wrote, k, refl)));
    })

-- the last round
pub turns_last : (additions : Bool) (n m : ℕ) (start now new : WorkState) (result : End) → Turns additions n (suc m) start now → WereRun (round_passes additions) now new result → (result ≡ Ok Done → WroteNothing now new) → WereRounds additions n start new result
turns_last additions n m start now new result t h none = (t.before ++ h.0, t.leads new result h.0 (inl (h.1, none)))

-- all rounds were run
pub turns_end : (additions : Bool) (n m : ℕ) (start now : WorkState) → m ≡ 0 → Turns additions n m start now → WereRounds additions n start now (Ok Done)
turns_end additions n m start now e t =
    let last : Turns additions n 0 start now = subst (λ (k : ℕ). Turns additions n k start now) e t in
    (last.before ++ [], last.leads now (Ok Done) [] (refl, refl, refl))
