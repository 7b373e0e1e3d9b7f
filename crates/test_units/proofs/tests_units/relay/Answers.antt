use Rattle.std.proofs.Common.{◌≡◌, ◌∙◌, ◌<◌, ℕ, List, All, length, get_or, sym, ap, subst}
use Rattle.io_edge.specs.declared.memory_sink.MemSink.{MemSink}
use Rattle.io_edge.specs.contracts.memory_sink.MemSinkSink.TheImpl.{ghosts}
use Rattle.test_tables.specs.Samples.{IsGathered}
use Rattle.test_tables.proofs.Gathering.{written_back}
use Rattle.test_units.specs.Samples.{IsWriter, plus}
use Rattle.test_units.specs.declared.writers.Writer.{Writer}
use Rattle.test_units.proofs.tests_units.relay.Goals as goal

pub write_all-requires-after_bounds : goal.write_all-requires-after_bounds
write_all-requires-after_bounds g c κs within = subst (All (λ (w : Writer MemSink ghosts). IsWriter c.in_ok-table.table w.ring.pass w.ring.ring (plus 2))) (sym c.as_mut_slice.ensures.value) c.in_ok-writers.ensures.each

pub gather_writers-written-requires-clause-first : goal.gather_writers-written-requires-clause-first
gather_writers-written-requires-clause-first g c =
    let size = ap (λ (ws : List (Writer MemSink ghosts)). length ws) c.as_mut_slice.ensures.value in
    let first = c.write_all.auto.writers ∙ size in
    let back = written_back c.in_ok-writers.writers.items c.write_all.new.writers c.in_ok-writers.writers.len first (sym c.as_mut_slice.ensures.len ∙ size) in
    subst (IsGathered c.in_ok-table.table c.begin_writers.new.first) (sym (ap (λ (ws : List (Writer MemSink ghosts)). length ws) back ∙ first ∙ c.in_ok-writers.ensures.len)) c.in_ok-writers.ensures.first

pub gather_writers-written-requires-clause-each : goal.gather_writers-written-requires-clause-each
gather_writers-written-requires-clause-each g c =
    let size = ap (λ (ws : List (Writer MemSink ghosts)). length ws) c.as_mut_slice.ensures.value in
    let back = written_back c.in_ok-writers.writers.items c.write_all.new.writers c.in_ok-writers.writers.len (c.write_all.auto.writers ∙ size) (sym c.as_mut_slice.ensures.len ∙ size) in
    subst (All (λ (w : Writer MemSink ghosts). IsWriter c.in_ok-table.table w.ring.pass w.ring.ring (plus 2))) (sym back) c.write_all.ensures.each

pub gather_writers-written-requires-clause-numbers : goal.gather_writers-written-requires-clause-numbers
gather_writers-written-requires-clause-numbers g c =
    let size = ap (λ (ws : List (Writer MemSink ghosts)). length ws) c.as_mut_slice.ensures.value in
    let same = c.write_all.auto.writers in
    let back = written_back c.in_ok-writers.writers.items c.write_all.new.writers c.in_ok-writers.writers.len (same ∙ size) (sym c.as_mut_slice.ensures.len ∙ size) in
    subst (λ (ws : List (Writer MemSink ghosts)). (i : ℕ) (d : Writer MemSink ghosts) → i < length ws → (get_or ws i d).ring.ring ≡ i) (sym back)
    (λ i d lt.
    let before : i < length c.as_mut_slice.result.now = subst (λ (k : ℕ). i < k) same lt in
    c.write_all.ensures.numbers i d before ∙ ap (λ (ws : List (Writer MemSink ghosts)). (get_or ws i d).ring.ring) c.as_mut_slice.ensures.value
    ∙ c.in_ok-writers.ensures.numbers i d (subst (λ (k : ℕ). i < k) (size ∙ c.in_ok-writers.ensures.len) before))
