use Rattle.std.proofs.Common.{◌≡◌, ◌∙◌, ◌≤◌, ℕ, List, ap, length, map, take, ◌+◌, arith}
use Rattle.std.specs.Prelude.{slice_set, slice_index_or}
use Rattle.ring_run.specs.declared.job.Counts.{Counts}
use Rattle.top_call.specs.Tallied.{over}
use Rattle.top_call.specs.declared.report.Tally.{Tally}
use Rattle.top_call.proofs.Tallies.{over_next}
use Rattle.top_call.proofs.report.Tally.count.Goals as goal

pub loop-ring-preserved : goal.loop-ring-preserved
loop-ring-preserved c =
    let n : ℕ = c.loop-ring.ring in
    let counts : List Counts = c.args.counts.now in
    let old : Tally = c.args.self.now in
    let before = c.loop-ring.invariant in
    let below = c.loop-ring-test.true in
    let rings = c.requires.0 in
    let fits : length counts ≤ length old.learned = c.requires.1 in
    let offered_long = rings.offered in
    let exported_long = rings.exported in
    let offered_fits : length counts ≤ length old.offered = omega (arith, fits, offered_long) in
    let exported_fits : length counts ≤ length old.exported = omega (arith, fits, exported_long) in
    let learned : c.set.new.self ≡ over (map (λ (k : Counts). k.learned) (take (n + 1) counts)) old.learned =
    c.set.ensures ∙ ap (λ (t : Tally). slice_set t.learned n (slice_index_or counts n _).learned) before ∙ over_next (λ (k : Counts). k.learned) counts old.learned n _ below fits in
    let offered : c.set-in-loop-ring.new.self ≡ over (map (λ (k : Counts). k.offered) (take (n + 1) counts)) old.offered =
    c.set-in-loop-ring.ensures ∙ ap (λ (t : Tally). slice_set t.offered n (slice_index_or counts n _).offered) before ∙ over_next (λ (k : Counts). k.offered) counts old.offered n _ below offered_fits in
    let exported : c.set-in-loop-ring-2.new.self ≡ over (map (λ (k : Counts). k.exported) (take (n + 1) counts)) old.exported =
    c.set-in-loop-ring-2.ensures ∙ ap (λ (t : Tally). slice_set t.exported n (slice_index_or counts n _).exported) before ∙ over_next (λ (k : Counts). k.exported) counts old.exported n _ below exported_fits in
    λ i. record { learned = learned i; offered = offered i; exported = exported i; need = ap (λ (t : Tally). t.need) before i; largest = ap (λ (t : Tally). t.largest) before i; code = ap (λ (t : Tally). t.code) before i; line = ap (λ (t : Tally). t.line) before i }
