-- What waits at a ring waits there alone, and nobody holds it.
use Rattle.std.proofs.Common.{◌≡◌, ◌≢◌, ℕ, ◌<◌, ◌==◌, ◌&&◌, List, [], ◌∷◌, ◌++◌, sym, ap, ◌∙◌, subst, arith, eq-eqb}
use Rattle.std.specs.Prelude.{slice_index_or, if◌then◌else◌}
use Rattle.std.specs.Option.{is_none}
use lib.ListN.{get_elem?}
use Rattle.rup_model.specs.Basics.{one_if}
use Rattle.share_core.specs.declared.stored.ClauseAt.{ClauseAt}
use Rattle.share_core.specs.declared.part.Part.{Part}
use Rattle.share_core.specs.State.{State, times_at, count_at}
use Rattle.share_core.specs.Readable.{waiting_times}
use Rattle.share_core.specs.Sound.{Sound, counted, idle_at}
use Rattle.share_core.proofs.Counting.{waiting_cell, none_some}
use Rattle.share_core.proofs.Leaving.{left_sound}
use Rattle.share_rule.specs.declared.view.RingPart.{RingPart}
use Rattle.share_rule.specs.declared.view.View.{View}
use Rattle.share_rule.specs.Views.{only, no_part, IsHolding, clause_of}
use Rattle.share_rule.specs.Steps.{on_first, drop_part, after_drop}
use Rattle.share_rule.specs.Seen.{IsPart, Seen}
use Rattle.share_rule.proofs.Lists.{first_at}

times_behind : (a : ℕ) (hs : List ClauseAt) (h : ClauseAt) → h.address ≡ a → 0 < times_at a (hs ++ h ∷ [])
times_behind a [] h e = let z : one_if (h.address == a) ≡ 1 = ap one_if (eq-eqb h.address a e) in omega arith
times_behind a (x ∷ hs) h e = let k = times_behind a hs h e in omega arith

waits_alone : (v : View) (s : Seen v) (a : ℕ) → v.parts ≡ only v ∷ [] → 0 < times_at a (only v).core.waiting → (waiting_times s.core a ≡ 1) × (counted s.core.opening s.core a ≡ 0)
waits_alone v s a one waits =
    let c : State = s.core in
    let part : IsPart v.layout c s.glue (only v) = s.parts 0 (only v) (ap (λ (ps : List RingPart). get_elem? ps 0) one) in
    let r : ℕ = (only v).core.ring in
    let sound : Sound c = left_sound c.opening c s.left in
    let there : 0 < times_at a (c.part r).waiting = subst (λ (q : Part). 0 < times_at a q.waiting) part.part waits in
    let t = waiting_cell c.opening c sound.counts r a part.ring there in
    let idle : idle_at (c.cell a) ≡ 1 = ap idle_at t.1 ∙ (λ i. one_if (is_none (t.3 i) && (eq-eqb t.0.count 0 t.2 i))) in
    let some : a ≢ 0 = λ e. none_some t.0 (sym sound.counts.nowhere ∙ ap c.cell (sym e) ∙ t.1) in
    (sound.counts.waits a ∙ idle, sym (sound.counts.counts a some) ∙ ap count_at t.1 ∙ t.2)

-- a cell whose last count was given up
pub last_waits : (v w : View) (a found : ℕ) → IsHolding a v → w ≡ after_drop a found v → found ≡ 1 → (s : Seen w) → (waiting_times s.core a ≡ 1) × (counted s.core.opening s.core a ≡ 0)
last_waits v w a found h is one =
    let f = first_at a (only v).core.held h.1 in
    let parts : v.parts ≡ only v ∷ [] = h.0 in
    let now : (after_drop a found v).parts ≡ only (after_drop a found v) ∷ [] = shape v parts in
    subst (λ (u : View). (s : Seen u) → (waiting_times s.core a ≡ 1) × (counted s.core.opening s.core a ≡ 0)) (sym is)
    (λ s. waits_alone (after_drop a found v) s a now (waiting v parts f.1))
  where
    shape : (u : View) → u.parts ≡ only u ∷ [] → (after_drop a found u).parts ≡ only (after_drop a found u) ∷ []
    shape u e = ap (on_first (drop_part a found)) e ∙ (λ i. slice_index_or (on_first (drop_part a found) (sym e i)) 0 no_part ∷ [])

    waiting : (u : View) → u.parts ≡ only u ∷ [] → (clause_of a u).address ≡ a → 0 < times_at a (only (after_drop a found u)).core.waiting
    waiting u e q =
        let h : ClauseAt = clause_of a u in
        let ws : List ClauseAt = (only u).core.waiting in
        subst (λ (p : RingPart). 0 < times_at a p.core.waiting) (sym (ap (λ (ps : List RingPart). slice_index_or (on_first (drop_part a found) ps) 0 no_part) e))
        (subst (λ (ks : List ClauseAt). 0 < times_at a ks) (sym (λ i. if eq-eqb found 1 one i then ws ++ h ∷ [] else ws)) (times_behind a ws h q))
