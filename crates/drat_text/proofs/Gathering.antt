-- A text that is put in parts, until the sink fails.
use Rattle.std.proofs.Common.{◌≡◌, ◌∙◌, ℕ, ◌+◌, ◌<◌, ◌≤◌, List, [], ◌++◌, length, length-append, ap, sym, refl, arith, Result, Ok, Err}
use Rattle.std.specs.declared.option.Option.{Option}
use Rattle.std.specs.Io.KnownBytes.{append_known}
use Rattle.std.specs.Prelude.{MatchResult}
use Rattle.io_edge.specs.Bytes.{IsFront}
use Rattle.io_edge.specs.Causes.{Rose}
use Rattle.io_edge.proofs.Growth.{append_known-append, grows_by_nothing}
use Rattle.drat_text.specs.declared.blocks.TheConstants.{BLOCK}
use Rattle.drat_text.specs.Gathered.{Gathered, bytes_in, Gathers, Breaks}

module _ {S : Type 0} (written flushed target : S → Option (List ℕ)) (faults : S → ℕ) where
  pub gathers_nothing : (a : Gathered S) → length a.waiting < BLOCK → Gathers written flushed target faults a a []
  gathers_nothing a room = record {
    bytes = grows_by_nothing (bytes_in written a);
    room = room;
    fits = omega arith;
    still = λ h. refl;
    flushed_still = refl;
    target_still = refl;
    quiet = refl;
  }

  pub gathers_then : (a b c : Gathered S) (t u : List ℕ) → Gathers written flushed target faults a b t → Gathers written flushed target faults b c u
      → Gathers written flushed target faults a c (t ++ u)
  gathers_then a b c t u p q =
      let lengths : length (t ++ u) ≡ length t + length u = length-append t u in
      let fits : length b.waiting ≤ length a.waiting + length t = p.fits in
      let more : length c.waiting ≤ length b.waiting + length u = q.fits in
      record {
        bytes = q.bytes ∙ ap (λ (w : Option (List ℕ)). append_known w u) p.bytes ∙ append_known-append (bytes_in written a) t u;
        room = q.room;
        fits = omega arith;
        still = λ h. q.still (omega (arith, h)) ∙ p.still (omega (arith, h));
        flushed_still = q.flushed_still ∙ p.flushed_still;
        target_still = q.target_still ∙ p.target_still;
        quiet = q.quiet ∙ p.quiet;
      }

  pub breaks_then : (a b c : Gathered S) (t u : List ℕ) → Gathers written flushed target faults a b t → Breaks written flushed target faults b c u
      → Breaks written flushed target faults a c (t ++ u)
  breaks_then a b c t u p q =
      let quiet : faults b.sink ≡ faults a.sink = p.quiet in
      let lengths : length (t ++ u) ≡ length t + length u = length-append t u in
      let fits : length b.waiting ≤ length a.waiting + length t = p.fits in
      record {
        front = record {
          rest = q.front.rest;
          whole = sym (append_known-append (bytes_in written a) t u) ∙ ap (λ (w : Option (List ℕ)). append_known w u) (sym p.bytes) ∙ q.front.whole;
        };
        full = omega (arith, q.full);
        nothing = q.nothing;
        later = omega (arith, q.later);
        rose = omega (arith, q.rose);
        flushed_still = q.flushed_still ∙ p.flushed_still;
        target_still = q.target_still ∙ p.target_still;
      }

  -- more was to come
  pub breaks_longer : (a c : Gathered S) (t u : List ℕ) → Breaks written flushed target faults a c t → Breaks written flushed target faults a c (t ++ u)
  breaks_longer a c t u q = let lengths : length (t ++ u) ≡ length t + length u = length-append t u in record {
    front = record {
      rest = q.front.rest ++ u;
      whole = sym (append_known-append (bytes_in written a) t u) ∙ ap (λ (w : Option (List ℕ)). append_known w u) q.front.whole
          ∙ append_known-append (written c.sink) q.front.rest u;
    };
    full = omega (arith, q.full);
    nothing = q.nothing;
    later = q.later;
    rose = q.rose;
    flushed_still = q.flushed_still;
    target_still = q.target_still;
  }

  pub then_either : {T E : Type 0} (r : Result T E) (a b c : Gathered S) (t u : List ℕ) → Gathers written flushed target faults a b t
      → MatchResult r (λ _. Gathers written flushed target faults b c u) (λ _. Breaks written flushed target faults b c u)
      → MatchResult r (λ _. Gathers written flushed target faults a c (t ++ u)) (λ _. Breaks written flushed target faults a c (t ++ u))
  then_either (Ok x) a b c t u p q = gathers_then a b c t u p q
  then_either (Err x) a b c t u p q = breaks_then a b c t u p q

  -- a block was full and could not be written
  pub broke : (a c : Gathered S) (front rest text : List ℕ) → front ++ rest ≡ text → BLOCK ≤ length a.waiting + length text
      → IsFront (written c.sink) (append_known (written a.sink) (a.waiting ++ front)) → c.waiting ≡ []
      → faults a.sink ≤ faults c.sink → Rose (faults a.sink) (faults c.sink) → flushed c.sink ≡ flushed a.sink → target c.sink ≡ target a.sink
      → Breaks written flushed target faults a c text
  broke a c front rest text e full f nothing later rose flushed_still target_still = record {
    front = record {
      rest = f.rest ++ rest;
      whole = ap (append_known (bytes_in written a)) (sym e) ∙ sym (append_known-append (bytes_in written a) front rest)
          ∙ ap (λ (w : Option (List ℕ)). append_known w rest) (append_known-append (written a.sink) a.waiting front ∙ f.whole)
          ∙ append_known-append (written c.sink) f.rest rest;
    };
    full = full;
    nothing = nothing;
    later = later;
    rose = rose;
    flushed_still = flushed_still;
    target_still = target_still;
  }

  -- it was written, and the rest waits
  pub filled : (a b c : Gathered S) (front rest text : List ℕ) → front ++ rest ≡ text → BLOCK ≤ length a.waiting + length text → length rest < BLOCK
      → written b.sink ≡ append_known (written a.sink) (a.waiting ++ front) → b.waiting ≡ [] → c ≡ record { waiting = b.waiting ++ rest; sink = b.sink }
      → flushed b.sink ≡ flushed a.sink → target b.sink ≡ target a.sink → faults b.sink ≡ faults a.sink
      → Gathers written flushed target faults a c text
  filled a b c front rest text e full room all nothing is flushed_still target_still quiet =
      let lengths : length front + length rest ≡ length text = sym (length-append front rest) ∙ ap (λ (xs : List ℕ). length xs) e in
      let waits : c.waiting ≡ rest = ap (λ (g : Gathered S). g.waiting) is ∙ ap (λ (xs : List ℕ). xs ++ rest) nothing in
      let size : length c.waiting ≡ length rest = ap (λ (xs : List ℕ). length xs) waits in
      let sink : c.sink ≡ b.sink = ap (λ (g : Gathered S). g.sink) is in
      record {
        bytes = ap (append_known (written c.sink)) waits ∙ ap (λ (s : S). append_known (written s) rest) sink
            ∙ ap (λ (w : Option (List ℕ)). append_known w rest) (all ∙ sym (append_known-append (written a.sink) a.waiting front))
            ∙ append_known-append (bytes_in written a) front rest ∙ ap (append_known (bytes_in written a)) e;
        room = omega arith;
        fits = omega arith;
        still = λ h. absurd (omega (arith, h));
        flushed_still = ap flushed sink ∙ flushed_still;
        target_still = ap target sink ∙ target_still;
        quiet = ap faults sink ∙ quiet;
      }
