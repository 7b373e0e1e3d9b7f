-- Entries come to the stack.
use Rattle.std.proofs.Common.{◌≡◌, ℕ, ◌<◌, ◌+◌, ◌++◌, List, [], ◌∷◌, map, take, get_or, length, sym, ap, subst, ◌∙◌, append_assoc, append-nil}
use Rattle.std.specs.Prelude.{Result, Ok, Err, OnOk, OnErr, IfErr}
use Rattle.model_stack.specs.declared.stack.Fix.{Fix}
use Rattle.drat_text.specs.declared.stop.LineStop.{LineStop}
use Rattle.drat_text.specs.declared.stop.LineStop.TheVariants.{Memory}
use Rattle.sat_words.specs.Literal.{Literal}
use Rattle.simp_base.specs.WorkState.{WorkState, IsWork}
use Rattle.simp_base.specs.Log.{KeepsLog}
use Rattle.simp_base.proofs.LiftSteps.{logs_along}
use Rattle.simp_base.proofs.Stopping.{output_cause_after, output_cause_of_memory}
use Rattle.simp_elim.specs.Resolution.{fix_of}
use Rattle.simp_elim.specs.Occurring.{clause_at}
use Rattle.simp_base.proofs.Stacking.{stacked_along}
use Rattle.simp_base.specs.Stacked.{Stacked, WasStacked}
use Rattle.simp_elim.proofs.Growing.{map_append}
use Rattle.simp_elim.proofs.Within.{take_next}

-- the entries of the first clauses, and of one more
pub stacked_next : (a b c : WorkState) (l : Literal) (numbers : List ℕ) (i : ℕ) → i < length numbers → Stacked a b (map (fix_of l) (map (clause_at a.clauses) (take i numbers)))
    → Stacked b c (fix_of l (clause_at b.clauses (get_or numbers i 0)) ∷ []) → Stacked a c (map (fix_of l) (map (clause_at a.clauses) (take (i + 1) numbers)))
stacked_next a b c l numbers i lt f g =
    let n : ℕ = get_or numbers i 0 in
    let f_of : ℕ → Fix = λ k. fix_of l (clause_at a.clauses k) in
    let same : clause_at b.clauses n ≡ clause_at a.clauses n = ap (λ (w : WorkState). clause_at w.clauses n) f.state in
    let one : Stacked b c (fix_of l (clause_at a.clauses n) ∷ []) = subst (λ (x : List Literal). Stacked b c (fix_of l x ∷ [])) same g in
    let whole : map (fix_of l) (map (clause_at a.clauses) (take (i + 1) numbers)) ≡ map (fix_of l) (map (clause_at a.clauses) (take i numbers)) ++ fix_of l (clause_at a.clauses n) ∷ [] =
    ap (λ (ns : List ℕ). map (fix_of l) (map (clause_at a.clauses) ns)) (take_next numbers i 0 lt)
    ∙ ap (map (fix_of l)) (map_append (clause_at a.clauses) (take i numbers) (n ∷ []))
    ∙ map_append (fix_of l) (map (clause_at a.clauses) (take i numbers)) (clause_at a.clauses n ∷ []) in
    subst (λ (S : List Fix). Stacked a c S) (sym whole) (stacked_along a b c (map (fix_of l) (map (clause_at a.clauses) (take i numbers))) (fix_of l (clause_at a.clauses n) ∷ []) f one)

-- an entry is put
pub was_pushed : (old new : WorkState) (l : Literal) (c : List Literal) → IsWork new → KeepsLog old new → (result : Result (Unit {0}) LineStop)
    → OnOk result (new ≡ record old { stack = old.stack ++ fix_of l c ∷ [] }) → OnErr result (new ≡ old) → IfErr result (λ stop. stop ≡ Memory) → WasStacked old new (fix_of l c ∷ []) result
was_pushed old new l c kept log (Ok done) ok same err = record { state = ok; work = kept; log = log }
was_pushed old new l c kept log (Err stop) ok same err = (output_cause_of_memory old.output new.output stop err (ap (λ (w : WorkState). w.output.faults) same), ap (λ (w : WorkState). w.ended) same, log)
