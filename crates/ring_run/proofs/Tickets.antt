-- The tickets of a run.
use Rattle.std.proofs.Common.{◌≡◌, ◌∙◌, ℕ, ◌+◌, ◌<◌, ◌≤◌, Bool, false, Some, refl, sym, subst, ap, arith}
use Rattle.std.specs.Prelude.{if◌then◌else◌, ◌↔◌}
use Rattle.ring_port.specs.PortState.{PortState}
use Rattle.ring_port.specs.declared.stops.PortStop.{PortStop}
use Rattle.ring_port.specs.declared.stops.PortStop.TheVariants.{Ended, Broken, ProofFault, NoHole, Memory}
use Rattle.ring_run.specs.Ended.{HasDrawnFor, TicketsAt, stop_kind}
use Rattle.ring_run.specs.Searching.{CanDraw}
use Rattle.ring_run.specs.Ending.{end_refused}
use Rattle.ring_run.specs.declared.job.End.{End}
use Rattle.ring_run.specs.declared.job.End.TheVariants as ring_end

-- what a port has of tickets
abbrev pub tickets_of : PortState → Bool × ℕ × ℕ
tickets_of s = (s.ticket, s.found, s.limit)

pub limit_same : (s u : PortState) → tickets_of u ≡ tickets_of s → u.limit ≡ s.limit
limit_same s u e = ap (λ (t : Bool × ℕ × ℕ). t.2) e

pub found_same : (s u : PortState) → tickets_of u ≡ tickets_of s → u.found ≡ s.found
found_same s u e = ap (λ (t : Bool × ℕ × ℕ). t.1) e

pub draws_same : (s u : PortState) (n : ℕ) → tickets_of u ≡ tickets_of s → CanDraw s n → CanDraw u n
draws_same s u n e p =
    let ticket : u.ticket ≡ s.ticket = ap (λ (t : Bool × ℕ × ℕ). t.0) e in
    let found : u.found ≡ s.found = found_same s u e in
    let limit : u.limit ≡ s.limit = limit_same s u e in
    record { none = ticket ∙ p.none; left = omega (arith, found, limit, p.left); within = omega (arith, found, p.within) }

-- what is known of the tickets at an end
pub drawn_by : (s : PortState) (n : ℕ) (b : Bool) → s.ticket ≡ b → n + (if b then 1 else 0) ≤ s.found → HasDrawnFor s n
drawn_by s n b is le = subst (λ (t : Bool). n + (if t then 1 else 0) ≤ s.found) (sym is) le

pub drawn_none : (s : PortState) (n : ℕ) → CanDraw s n → HasDrawnFor s n
drawn_none s n p = drawn_by s n false p.none (omega (arith, p.within))

pub tickets_refused : (s : PortState) (stop : PortStop) → s.found ≤ s.limit → TicketsAt s (end_refused stop)
tickets_refused s Ended left = left
tickets_refused s Broken left = left
tickets_refused s ProofFault left = left
tickets_refused s (NoHole lack) left = left
tickets_refused s Memory left = left

-- a stop that is set leaves the tickets
pub tickets_moved : (s u : PortState) (end : End) → tickets_of u ≡ tickets_of s → TicketsAt s end → TicketsAt u end
tickets_moved s u end e p = by end p
  where
    ticket : u.ticket ≡ s.ticket
    ticket = ap (λ (t : Bool × ℕ × ℕ). t.0) e

    found : u.found ≡ s.found
    found = found_same s u e

    limit : u.limit ≡ s.limit
    limit = limit_same s u e

    fewer : s.found ≤ s.limit → u.found ≤ u.limit
    fewer left = omega (arith, found, limit, left)

    by : (x : End) → TicketsAt s x → TicketsAt u x
    by (ring_end.Sat a) q = (ticket ∙ q.0, fewer q.1)
    by ring_end.Refuted q = fewer q
    by ring_end.Spent q = (ticket ∙ q.0, omega (arith, found, limit, q.1))
    by (ring_end.Stopped x) q = fewer q
    by (ring_end.NoHole lack) q = fewer q
    by ring_end.ProofFault q = fewer q
    by ring_end.Memory q = fewer q

-- an end that sets a stop is not spent
pub tickets_stopped : (s u : PortState) (end : End) (kind : ℕ) → tickets_of u ≡ tickets_of s → Some kind ≡ stop_kind end → TicketsAt s end → u.found ≤ u.limit
tickets_stopped s u end kind e is p = by end is (tickets_moved s u end e p)
  where
    by : (x : End) → Some kind ≡ stop_kind x → TicketsAt u x → u.found ≤ u.limit
    by (ring_end.Sat a) k q = q.1
    by ring_end.Refuted k q = q
    by ring_end.Spent k q = absurd cc
    by (ring_end.Stopped x) k q = q
    by (ring_end.NoHole lack) k q = q
    by ring_end.ProofFault k q = q
    by ring_end.Memory k q = q

-- a ring is spent exactly if its last draw found all drawn
pub spent_exactly : (s : PortState) (end : End) → TicketsAt s end → (end ≡ ring_end.Spent) ↔ (s.limit < s.found)
spent_exactly s (ring_end.Sat a) p = (λ e. absurd cc, λ gone. absurd (omega (arith, p.1, gone)))
spent_exactly s ring_end.Refuted p = (λ e. absurd cc, λ gone. absurd (omega (arith, p, gone)))
spent_exactly s ring_end.Spent p = (λ e. p.1, λ gone. refl)
spent_exactly s (ring_end.Stopped x) p = (λ e. absurd cc, λ gone. absurd (omega (arith, p, gone)))
spent_exactly s (ring_end.NoHole lack) p = (λ e. absurd cc, λ gone. absurd (omega (arith, p, gone)))
spent_exactly s ring_end.ProofFault p = (λ e. absurd cc, λ gone. absurd (omega (arith, p, gone)))
spent_exactly s ring_end.Memory p = (λ e. absurd cc, λ gone. absurd (omega (arith, p, gone)))
