-- The words of a generator, taken one by one, and the lowest bit of each.
use Rattle.std.specs.Prelude.{ℕ, zero, suc, ◌%◌, ◌==◌, Bool, List, [], ◌∷◌}
use Rattle.rand_pcg.specs.Lcg.{Lcg, started, increment_of}
use Rattle.rand_pcg.specs.Pcg.{pcg32, multiplier_64}

-- the next word of a generator
abbrev pub word_of : Lcg → ℕ
word_of g = (pcg32 g).0

-- the generator after the next word
abbrev pub rest_of : Lcg → Lcg
rest_of g = (pcg32 g).1

-- the lowest bit of each of the next n words
unfoldable pub bits_from : Lcg → ℕ → List Bool
bits_from g zero = []
bits_from g (suc n) = (word_of g % 2 == 1) ∷ bits_from (rest_of g) n

-- the generator after the next n words
unfoldable pub rest_from : Lcg → ℕ → Lcg
rest_from g zero = g
rest_from g (suc n) = rest_from (rest_of g) n

-- the generator of this seed and stream
abbrev pub generator_of : (seed stream : ℕ) → Lcg
generator_of seed stream = started 64 multiplier_64 seed (increment_of 64 stream)
