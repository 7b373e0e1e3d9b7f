-- What the rings counted.
use Rattle.std.proofs.Common.{◌≡◌, ℕ, suc, ◌<◌, List, [], ◌∷◌, length, get_or, map, refl, arith}
use Rattle.ring_run.specs.declared.job.Counts.{Counts}
use Rattle.ring_run.specs.declared.job.End.{End}

pub counts_are : (ts : List Counts) (es : List (End × Counts)) → length ts ≡ length es → ((i : ℕ) (d : Counts) (e : End × Counts) → i < length es → get_or ts i d ≡ (get_or es i e).1) → ts ≡ map (λ (e : End × Counts). e.1) es
counts_are [] [] same each = refl
counts_are [] (e ∷ es) same each = absurd (omega arith)
counts_are (t ∷ ts) [] same each = absurd (omega arith)
counts_are (t ∷ ts) (e ∷ es) same each = λ i. each 0 t e (omega arith) i ∷ counts_are ts es (omega arith) (λ j d f lt. each (suc j) d f (omega arith)) i
