-- What a stop tells of a text whose bytes can be counted.
use Rattle.std.proofs.Common.{◌≡◌, ℕ, ◌<◌, ◌^◌, List, length, take, arith, subst, sym}
use Rattle.std.specs.declared.option.Option.{Option}
use Rattle.io_edge.specs.Bytes.{GrowsBy}
use Rattle.drat_text.specs.Cut.{WasCut}

-- `taken` is exact
pub taken_exactly : (old new : Option (List ℕ)) (text : List ℕ) (taken : ℕ) → WasCut old new text taken → length text < 2 ^ 64
    → (taken < length text) × GrowsBy old new (take taken text)
taken_exactly old new text taken stop small =
    let short = stop.short in
    let told = stop.told in
    let same : taken ≡ stop.part.cut = omega (arith, stop.short, stop.told) in
    (omega (arith, stop.short), subst (λ (n : ℕ). GrowsBy old new (take n text)) (sym same) stop.part.grown)
