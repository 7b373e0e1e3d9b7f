-- A step that came to an end after other steps.
use Rattle.std.proofs.Common.{◌⊎◌, ◌+◌, ◌-◌, ◌<◌, inr, arith}
use Rattle.ring_port.specs.PortState.{PortState}
use Rattle.reduce_db.specs.Moment.{lemmas_before}
use Rattle.ring_run.specs.Course.{HaltsBy}
use Rattle.ring_run.specs.Renewal.{IsDue, HasShrunk, IsIdle}
use Rattle.ring_run.specs.Halting.{HaltsImporting, HaltsRenewing}
use Rattle.ring_run.specs.declared.ring.Ring.{Ring}
use Rattle.ring_run.specs.declared.course.Next.{Next}
use Rattle.ring_run.specs.declared.course.Next.TheVariants.{Go, Finish}

-- a reduction that comes later isn't due
pub not_yet : (ring : Ring) → ring.learned - ring.reduced_at < lemmas_before (ring.reductions + 1) → IsDue ring → ⊥
not_yet ring early due = omega (arith, early, due)

-- the import did, after lemmas were reduced and vivified where that was due
pub renewing_halted : (s m u : PortState) (before ring : Ring) (course : Next) → (IsDue before × HasShrunk s m before ring) ⊎ ((IsDue before → ⊥) × IsIdle s m before ring) → HaltsBy (HaltsImporting m u) course → HaltsBy (HaltsRenewing s u before) course
renewing_halted s m u before ring Go shrunk how = tt
renewing_halted s m u before ring (Finish end) shrunk how = inr (record { middle = m; ring = ring; shrunk = shrunk; importing = how })
