use Rattle.std.proofs.Common.{◌≡◌, ℕ, ◌+◌, ◌<◌, length, vec_len, vec_capacity}
use Rattle.ring_port.specs.Store.{word_at}
use Rattle.ring_port.proofs.words.grow.Given as goal

abbrev pub invariant-loop : goal.invariant-loop
invariant-loop l = record {
  len : vec_len l.words ≡ vec_len l.fn.words + l.counter;
  room : vec_capacity l.words ≡ vec_capacity l.fn.words;
  longer : length l.words.items ≡ length l.fn.words.items + l.counter;
  same : (w : ℕ) → w < length l.fn.words.items → word_at l.words.items w ≡ word_at l.fn.words.items w;
}
