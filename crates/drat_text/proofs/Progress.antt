-- A line on its way: some of it was written, and the rest of what was put waits in the piece.
use Rattle.std.proofs.Common.{◌≡◌, ◌∙◌, ℕ, ◌+◌, ◌-◌, ◌<◌, ◌^◌, min, List, [], ◌++◌, take, drop, take-append-drop, length, length-append, length-drop, append_assoc, append-nil, refl, ap, sym, subst, arith}
use Rattle.std.specs.declared.option.Option.{Option}
use Rattle.std.proofs.lemmas.List.{length-take-le, take_at}
use Rattle.io_edge.specs.Bytes.{GrowsBy}
use Rattle.io_edge.proofs.Growth.{grows_twice, grows_by_nothing}
use Rattle.drat_text.specs.Cut.{WasCut}
use Rattle.drat_text.specs.PieceCut.{PieceWasCut}

pub record Progress (start now : Option (List ℕ)) (line piece : List ℕ) (taken : ℕ) : Type 0 where
  pub written : List ℕ
  pub whole : written ++ piece ≡ line
  pub grown : GrowsBy start now written
  pub told : taken ≡ min (length written) (2 ^ 64 - 1)

pub progress_none : (start : Option (List ℕ)) (piece : List ℕ) → Progress start start piece piece 0
progress_none start piece = record { written = []; whole = refl; grown = grows_by_nothing start; told = omega arith }

pub progress_pushed : (start now : Option (List ℕ)) (line piece bytes : List ℕ) (taken : ℕ)
    → Progress start now line piece taken → Progress start now (line ++ bytes) (piece ++ bytes) taken
progress_pushed start now line piece bytes taken p = record {
  written = p.written;
  whole = sym (append_assoc p.written piece bytes) ∙ ap (λ (xs : List ℕ). xs ++ bytes) p.whole;
  grown = p.grown;
  told = p.told;
}

pub progress_written : (start now after : Option (List ℕ)) (line piece : List ℕ) (taken count : ℕ)
    → Progress start now line piece taken → GrowsBy now after piece → count ≡ min (taken + length piece) (2 ^ 64 - 1)
    → Progress start after line [] count
progress_written start now after line piece taken count p grown told =
    let lengths : length (p.written ++ piece) ≡ length p.written + length piece = length-append p.written piece in
    let known : taken ≡ min (length p.written) (2 ^ 64 - 1) = p.told in
    record {
      written = p.written ++ piece;
      whole = append-nil (p.written ++ piece) ∙ p.whole;
      grown = grows_twice start now after p.written piece p.grown grown;
      told = omega arith;
    }

-- all of the line was written
pub progress_done : (start now : Option (List ℕ)) (line : List ℕ) (taken : ℕ) → Progress start now line [] taken → GrowsBy start now line
progress_done start now line taken p = subst (GrowsBy start now) (sym (append-nil p.written) ∙ p.whole) p.grown

-- the write of a piece stopped
pub progress_cut : (start now after : Option (List ℕ)) (line piece rest : List ℕ) (taken count : ℕ)
    → Progress start now line piece taken → PieceWasCut taken now after piece count
    → WasCut start after (line ++ rest) count
progress_cut start now after line piece rest taken count p stop =
    let first = stop.part.cut in
    let front = take first piece in
    let size : length front ≡ first = length-take-le first piece (omega (arith, stop.short)) in
    let done = p.written in
    let lengths : length (done ++ front) ≡ length done + length front = length-append done front in
    let split : line ++ rest ≡ (done ++ front) ++ (drop first piece ++ rest) =
    ap (λ (xs : List ℕ). xs ++ rest) (sym p.whole ∙ ap (λ (xs : List ℕ). done ++ xs) (sym (take-append-drop first piece)) ∙ sym (append_assoc done front (drop first piece)))
    ∙ append_assoc (done ++ front) (drop first piece) rest in
    let whole : length (line ++ rest) ≡ length (done ++ front) + (length piece - first + length rest) =
    ap length split ∙ length-append (done ++ front) (drop first piece ++ rest) ∙ ap (λ (n : ℕ). length (done ++ front) + n) (length-append (drop first piece) rest ∙ ap (λ (n : ℕ). n + length rest) (length-drop first piece)) in
    let both = grows_twice start now after done front p.grown stop.part.grown in
    let taken_front : take (length done + first) (line ++ rest) ≡ done ++ front =
    ap (take (length done + first)) split ∙ take_at (done ++ front) (drop first piece ++ rest) (length done + first) (omega arith) in
    let known : taken ≡ min (length done) (2 ^ 64 - 1) = p.told in
    let known2 : count ≡ min (taken + first) (2 ^ 64 - 1) = stop.told in
    let short : first < length piece = stop.short in
    record {
      part = record { cut = length done + first; grown = subst (GrowsBy start after) (sym taken_front) both };
      short = omega arith;
      told = omega arith;
    }

-- the same under other names
pub progress_renamed : (start now after : Option (List ℕ)) (line line2 piece piece2 : List ℕ) (taken taken2 : ℕ)
    → Progress start now line piece taken → after ≡ now → line2 ≡ line → piece2 ≡ piece → taken2 ≡ taken
    → Progress start after line2 piece2 taken2
progress_renamed start now after line line2 piece piece2 taken taken2 p a b d e = record {
  written = p.written;
  whole = ap (λ (xs : List ℕ). p.written ++ xs) d ∙ p.whole ∙ sym b;
  grown = a ∙ p.grown;
  told = e ∙ p.told;
}

-- the write of the last piece stopped
pub progress_cut_last : (start now after : Option (List ℕ)) (line piece : List ℕ) (taken count : ℕ)
    → Progress start now line piece taken → PieceWasCut taken now after piece count → WasCut start after line count
progress_cut_last start now after line piece taken count p cut =
    subst (λ (text : List ℕ). WasCut start after text count) (append-nil line) (progress_cut start now after line piece [] taken count p cut)
