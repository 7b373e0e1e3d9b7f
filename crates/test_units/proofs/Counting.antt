-- What a writer was known, with one number more.
use Rattle.io_edge.specs.declared.edge.Sink.{Ghosts}
use Rattle.std.proofs.Common.{◌≡◌, ◌∙◌, ℕ, ◌+◌, ◌-◌, ◌^◌, List, [], ◌∷◌, ◌++◌, length-append, min, refl, sym, ap, arith}
use Rattle.std.specs.Prelude.{nat_lt, sum}
use Rattle.std.proofs.lemmas.List.{map-append, append_assoc}
use Rattle.std.proofs.lemmas.List.Sums.{sum_by_push}
use Rattle.sat_words.specs.Literal.{Literal}
use Rattle.rup_model.specs.Basics.{one_if}
use Rattle.rup_model.specs.declared.journal.Entry.{Entry}
use Rattle.share_core.specs.declared.part.Part.{Part}
use Rattle.share_core.specs.declared.part.Placed.{Placed}
use Rattle.share_core.specs.Events.{wrote_part}
use Rattle.share_rule.specs.Views.{only}
use Rattle.test_units.specs.Doings.{GaveTurn, HasWritten, WroteUnits, last_from, rises, unit_line}
use Rattle.test_units.specs.declared.writers.Writer.{Writer}

rises_push : (m : ℕ) (ns : List ℕ) (n : ℕ) → rises m (ns ++ n ∷ []) ≡ rises m ns + one_if (nat_lt (last_from m ns) n)
rises_push m [] n = omega arith
rises_push m (k ∷ ns) n = let h = rises_push k ns n in omega arith

last_push : (m : ℕ) (ns : List ℕ) (n : ℕ) → last_from m (ns ++ n ∷ []) ≡ n
last_push m [] n = refl
last_push m (k ∷ ns) n = last_push k ns n

one_more : (ring : ℕ) (lit : Literal) (ns : List ℕ) (p q r : Part) (i n : ℕ) → WroteUnits ring lit ns p q → r ≡ wrote_part i (unit_line ring lit n) q → WroteUnits ring lit (ns ++ n ∷ []) p r
one_more ring lit ns p q r i n w is =
    let one : Placed = record { place = i; entry = unit_line ring lit n } in
    record {
      lines = w.lines ++ one ∷ [];
      entries = map-append (λ (x : Placed). x.entry) w.lines (one ∷ []) ∙ ap (λ (es : List Entry). es ++ unit_line ring lit n ∷ []) w.entries ∙ sym (map-append (unit_line ring lit) ns (n ∷ []));
      part = is ∙ ap (wrote_part i (unit_line ring lit n)) w.part ∙ ap (λ (ws : List Placed). record p { wrote = ws }) (append_assoc p.wrote w.lines (one ∷ []));
    }

-- a line stands
pub written_more : {S : Type 0} {d : Ghosts S} (lit : Literal) (t : ℕ) (o l n : Writer S d) (i k : ℕ) → HasWritten lit t o l → l.ring.ring ≡ o.ring.ring
    → (only n.ring.pass.me.0).core ≡ wrote_part i (unit_line l.ring.ring lit k) (only l.ring.pass.me.0).core → GaveTurn n.ring.pass.me.0
    → n.written ≡ min (l.written + one_if (nat_lt l.last k)) (2 ^ 64 - 1) → n.last ≡ k → n.sum ≡ min (l.sum + k) (2 ^ 64 - 1) → HasWritten lit (t + 1) o n
written_more lit t o l n i k h same core gave written last total =
    let ns = h.numbers in
    let r = rises_push o.last ns k in
    let before : one_if (nat_lt l.last k) ≡ one_if (nat_lt (last_from o.last ns) k) = ap (λ (m : ℕ). one_if (nat_lt m k)) h.last in
    let s : sum (ns ++ k ∷ []) ≡ sum ns + k = sum_by_push (λ (x : ℕ). x) ns k in
    let len = length-append ns (k ∷ []) in
    let most = h.most in
    let was = h.written in
    let sum_was = h.sum_is in
    record {
      numbers = ns ++ k ∷ [];
      most = omega arith;
      wrote = one_more o.ring.ring lit ns (only o.ring.pass.me.0).core (only l.ring.pass.me.0).core (only n.ring.pass.me.0).core i k h.wrote (core ∙ ap (λ (m : ℕ). wrote_part i (unit_line m lit k) (only l.ring.pass.me.0).core) same);
      gave = λ _. gave;
      written = omega (arith, written, before, r, was);
      last = last ∙ sym (last_push o.last ns k);
      sum_is = omega (arith, total, s, sum_was);
    }

-- a line was refused
pub written_same : {S : Type 0} {d : Ghosts S} (lit : Literal) (t : ℕ) (o l n : Writer S d) → HasWritten lit t o l → (only n.ring.pass.me.0).core ≡ (only l.ring.pass.me.0).core → GaveTurn n.ring.pass.me.0
    → n.written ≡ l.written → n.last ≡ l.last → n.sum ≡ l.sum → HasWritten lit (t + 1) o n
written_same lit t o l n h core gave written last total =
    let most = h.most in
    record {
      numbers = h.numbers;
      most = omega arith;
      wrote = record { lines = h.wrote.lines; entries = h.wrote.entries; part = core ∙ h.wrote.part };
      gave = λ _. gave;
      written = written ∙ h.written;
      last = last ∙ h.last;
      sum_is = total ∙ h.sum_is;
    }
