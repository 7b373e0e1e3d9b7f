-- What a ring's run says of its part in the core that the table shows when it is closed.
use Rattle.std.proofs.Common.{◌≡◌, ◌∙◌, ◌+◌, ◌-◌, ◌*◌, ◌^◌, ◌<◌, ◌≤◌, ℕ, zero, suc, Bool, true, false, true≢false, List, [], ◌∷◌, map, filter, length, count_by, refl, sym, ap, subst, arith}
use Rattle.std.specs.Prelude.{All, Some}
use Rattle.std.proofs.Math.Nat.{min-eq_left}
use mathlib.Core.Logic.{dite}
use mathlib.Core.Option.{some, some-injective, some-ne-none}
use lib.ListN.{get_elem?}
use native.Mathlib.Decide.{ℕ_discrete}
use Rattle.std.specs.List.{list_any}
use Rattle.sat_words.specs.Literal.{Literal}
use Rattle.sat_words.specs.Clause.{is_empty}
use Rattle.rup_model.specs.Basics.{EachAfter}
use Rattle.rup_model.specs.declared.journal.Entry.{Entry}
use Rattle.rup_model.specs.Journal.{added, learned, ended, IsSpaced}
use Rattle.rup_model.specs.Opening.{Opening, IsNew}
use Rattle.share_core.specs.declared.part.Part.{Part}
use Rattle.share_core.specs.declared.part.Placed.{Placed}
use Rattle.share_core.specs.State.{State, opened}
use Rattle.share_core.specs.Left.{shares}
use Rattle.share_core.specs.Sound.{placed}
use Rattle.share_core.proofs.Leaving.{left_sound}
use Rattle.share_core.proofs.Others.{run_shared}
use Rattle.sat_words.specs.declared.shared.NoRoom.{NoRoom}
use Rattle.share_rule.specs.declared.view.Refusal.TheVariants as note
use Rattle.share_rule.specs.declared.view.RingPart.{RingPart}
use Rattle.share_rule.specs.declared.view.View.{View}
use Rattle.share_rule.specs.Passes.{TellsFaults}
use Rattle.share_rule.specs.Views.{start_glues}
use Rattle.share_rule.specs.Seen.{Seen, IsPart}
use Rattle.share_rule.specs.Tight.{IsTight}
use Rattle.ring_port.specs.declared.stops.PortStop.TheVariants.{NoHole as NoHoleAnswer}
use Rattle.ring_port.specs.PortState.{PortState}
use Rattle.ring_port.specs.Port.{is_usable}
use Rattle.ring_port.specs.Exchange.{other_rings}
use Rattle.ring_port.specs.Log.{start_of}
use Rattle.ring_pass.specs.RingState.{holding_of, port_with}
use Rattle.ring_pass.proofs.RoomHere.{noted_room}
use Rattle.ring_run.specs.declared.job.Counts.{Counts}
use Rattle.ring_run.specs.declared.job.End.{End}
use Rattle.ring_run.specs.declared.job.End.TheVariants.{Spent}
use Rattle.ring_run.specs.Ended.{is_short, is_long, IsOwn, Cause}
use Rattle.ring_run.proofs.Polling.{others_below, below_other, below_own}
use Rattle.portfolio_run.specs.declared.plan.Plan.{Plan}
use Rattle.portfolio_run.specs.Held.{IsTallied}
use Rattle.portfolio_run.specs.Journaled.{IsUnrefuted}
use Rattle.portfolio_run.specs.Reached.{RanAt}
use Rattle.portfolio_run.proofs.InRounds.{HasWritten}
use Rattle.portfolio_run.proofs.Interleaving.{own}
use Rattle.portfolio_run.proofs.Making.{not_true}
use Rattle.portfolio_run.proofs.Placing.{placed_own}

-- How many other rings there are

others_past : (ring n : ℕ) → n ≤ ring → length (others_below ring n) ≡ n
others_past ring zero le = refl
others_past ring (suc n) le =
    let e : n + 1 ≡ suc n = omega arith in
    let before = others_past ring n (omega arith) in
    subst (λ (m : ℕ). length (others_below ring m) ≡ m) e (below_other ring n (λ is. absurd (omega arith)) ∙ ap (λ (m : ℕ). m + 1) before)

pub others_many : (ring n : ℕ) → ring < n → length (others_below ring n) ≡ n - 1
others_many ring zero lt = absurd (omega arith)
others_many ring (suc n) lt =
    let e : n + 1 ≡ suc n = omega arith in
    subst (λ (m : ℕ). length (others_below ring m) ≡ m - 1) e (dite (ℕ_discrete n ring)
    (λ is. (let h = others_past ring n (omega arith) in let own = below_own ring n is in omega (arith, h, own)))
    (λ ne. (let h = others_many ring n (omega arith) in let other = below_other ring n ne in omega (arith, h, other))))

at_most : (a b : ℕ) → (a < b → ⊥) → b ≤ a
at_most a zero past = omega arith
at_most zero (suc b) past = absurd (past (omega arith))
at_most (suc a) (suc b) past = let h = at_most a b (λ lt. past (omega arith)) in omega arith

none_before : (n : ℕ) → 0 + n ≡ n
none_before n = omega arith

-- the only place of one part
index_one : (ps : List RingPart) (i : ℕ) (p : RingPart) → length ps ≡ 1 → get_elem? ps i ≡ some p → i ≡ 0
index_one [] i p one there = absurd (some-ne-none p (sym there))
index_one (q ∷ []) zero p one there = refl
index_one (q ∷ []) (suc i) p one there = absurd (some-ne-none p (sym there))
index_one (q ∷ (x ∷ ps)) i p one there = absurd (omega arith)

-- The ring

-- what the rings start from, as their ports tell it
abbrev pub starts_from : View → Opening
starts_from v = record { journal = []; starts = map start_of (map (holding_of (start_glues v.opening.starts)) v.opening.starts); units = v.opening.units }

module _ (v w : View) (home : List ℕ) (plan : Plan) (s : Seen w) (r : ℕ) (end : End) (counts : Counts) (h : RanAt v home plan w r end counts)
    (rings : ℕ) (rings_are : v.opening.rings ≡ rings) (below : r < rings) (K : List Entry) (start : ℕ) (wrote : (s.core.part r).wrote ≡ placed r start K) where
  -- the port after the run
  abbrev pub port : PortState
  port = port_with (record v { stop = h.seen; looks = h.ran.looks }) h.part h.ran.own

  is_part : IsPart w.layout s.core s.glue h.part
  is_part = s.parts r h.part h.there

  core_is : h.part.core ≡ s.core.part r
  core_is = is_part.part ∙ ap s.core.part h.ring_is

  ring_is : port.ring ≡ r
  ring_is = h.ring_is

  pub mine_is : port.mine ≡ own r K
  mine_is = ap (λ (p : Part). map (λ (e : Placed). e.entry) p.wrote) core_is ∙ ap (map (λ (e : Placed). e.entry)) wrote ∙ placed_own r start K

  pub has_written : HasWritten v.layout.vars (starts_from v) r (own r K)
  has_written = record {
    wrote = subst (All (IsOwn r v.layout.vars)) mine_is h.ran.ran.wrote;
    each_new = subst (EachAfter (IsNew (starts_from v)) []) mine_is h.ran.ran.each_new;
    spaced = subst (EachAfter IsSpaced []) mine_is h.ran.ran.spaced;
  }

  learned_is : learned port.ring port.mine ≡ learned r (own r K)
  learned_is = ap (λ (q : ℕ). learned q port.mine) ring_is ∙ ap (learned r) mine_is

  pub learned_many : counts.learned ≡ length (learned r (own r K))
  learned_many = h.ran.ran.counted.learned_is ∙ ap length learned_is

  -- its shares among the events
  shared_is : port.shared ≡ count_by (shares r) s.left.events
  shared_is = ap (λ (p : Part). p.shared) core_is ∙ ap (λ (c : State). (c.part r).shared) (sym s.left.leaves) ∙ run_shared r s.left.events (opened s.core.opening) ∙ none_before (count_by (shares r) s.left.events)

  few_shares : port.shared ≤ 2 ^ 56
  few_shares = subst (λ (p : Part). p.shared ≤ 2 ^ 56) (sym core_is) ((left_sound s.core.opening s.core s.left).counts.few r)

  offered_is : counts.offered ≡ port.shared
  offered_is = h.ran.ran.counted.offers.told ∙ min-eq_left (omega (arith, few_shares))

  others_are : length (other_rings port) ≡ rings - 1
  others_are = ap (λ (n : ℕ). length (others_below port.ring n)) rings_are ∙ ap (λ (q : ℕ). length (others_below q rings)) ring_is ∙ others_many r rings below

  -- what it counted, over a journal in which it learned the same
  pub tallied : (J : List Entry) → learned r J ≡ learned r (own r K) → IsTallied rings r s.left.events J counts
  tallied J same =
      let told : learned port.ring port.mine ≡ learned r J = learned_is ∙ sym same in
      record {
        learned_is = learned_many ∙ sym (ap length same);
        all = subst (λ (cs : List (List Literal)). length (filter is_short cs) ≤ counts.exported) told h.ran.ran.counted.offers.all;
        few = subst (λ (cs : List (List Literal)). counts.exported ≤ length (filter is_long cs)) told h.ran.ran.counted.offers.few;
        shares_are = offered_is ∙ shared_is;
        offered_is = offered_is ∙ h.ran.ran.counted.offers.shared ∙ ap (λ (n : ℕ). n * counts.exported) others_are;
        restarted = h.ran.ran.restarted;
      }

  -- the log is ended if its port says so
  pub ended_is : port.ended ≡ true → ended s.core.opening.formula s.core.journal ≡ true
  ended_is e = is_part.ended_is (h.ran.ended_is e)

  -- the table had no room if the port was refused last for want of it
  pub wanted : (lack : NoRoom) → port.refused ≡ Some (NoHoleAnswer lack) → IsTight w.layout s.core.opening s.core.journal lack.need lack.largest
  wanted lack e = is_part.refused (note.NoHole lack.need lack.largest) (noted_room h.part.refused lack (sym h.ran.refused_is ∙ e))

  pub cause : Cause port end
  cause = h.ran.ran.ends.cause

  -- a write has failed if the port can't be used
  pub faulty : (fault : Bool) → TellsFaults w.parts fault → is_usable port.refused ≡ false → fault ≡ true
  faulty fault tells u = tells.told r h.part h.there (h.ran.faulty_is u)

  -- if the ring is alone and its port can be used, no write has failed
  pub calm : rings ≡ 1 → length w.parts ≡ 1 → (fault : Bool) → TellsFaults w.parts fault → is_usable port.refused ≡ true → fault ≡ false
  calm one long fault tells usable = not_true fault (λ is.
      let t = tells.teller is in
      let here : t.0 ≡ r = index_one w.parts t.0 t.1 long t.2 ∙ (let q : 0 ≡ r = omega arith in q) in
      let same : t.1 ≡ h.part = some-injective t.1 h.part (sym t.2 ∙ ap (λ (i : ℕ). get_elem? w.parts i) here ∙ h.there) in
      true≢false (sym usable ∙ h.ran.alone_is (rings_are ∙ one) (ap (λ (p : RingPart). p.failed) (sym same) ∙ t.3)))

  -- its last draw, as the core has it
  found_is : port.found ≡ (s.core.part r).found
  found_is = ap (λ (p : Part). p.found) core_is

  -- if it is spent, its last draw found all tickets gone
  pub gone : end ≡ Spent → v.opening.limit < (s.core.part r).found
  gone e = subst (λ (n : ℕ). v.opening.limit < n) found_is (h.ran.ran.spent.0 e)

  -- and else none of its draws did
  pub never_gone : (end ≡ Spent → ⊥) → (s.core.part r).found ≤ v.opening.limit
  never_gone other = subst (λ (n : ℕ). n ≤ v.opening.limit) found_is (at_most v.opening.limit port.found (λ lt. other (h.ran.ran.spent.1 lt)))

  pub unrefuted : list_any is_empty (added port.mine) ≡ false → IsUnrefuted (own r K)
  unrefuted none = ap (λ (I : List Entry). list_any is_empty (added I)) (sym mine_is) ∙ none
