-- Signatures: the variables of a clause as the bits of one word.
use Rattle.std.specs.Prelude.{◌≡◌, ◌≢◌, ℕ, ◌+◌, ◌<◌, ◌≤◌, ◌%◌, ◌^◌, List, length, Contains, bit_and, bit_or, fold, slice_index}
use Rattle.sat_words.specs.Literal.{Literal}
use Rattle.simp_base.specs.WorkState.{WorkState}

-- the word with the bits of the clause's variables, each the variable's remainder by 64
abbrev pub signature_of : List Literal → ℕ
signature_of c = fold (λ w l. bit_or w (2 ^ (l.var % 64))) 0 c

-- the words are the signatures of the clauses alive, by number, except for the latest ones
pub record AreSignatures (w : WorkState) (words : List ℕ) : Type 0 where
  pub short : length words ≤ w.output.last + 1
  pub exact : (n : ℕ) (c : List Literal) → Contains w.clauses (n, c) → n < length words → slice_index words n ≡ signature_of c

-- the signature of this number lacks a bit of the word
pub record IsRuledOut (words : List ℕ) (wanted n : ℕ) : Type 0 where
  pub within : n < length words
  pub lacks : bit_and wanted (slice_index words n) ≢ wanted
