-- How a search comes to an end that is no model, no want of tickets and no stop of another: what was done before its last call.
use Rattle.std.specs.Prelude.{◌≡◌, ◌⊎◌, ℕ, zero, suc, ◌+◌, List, [], ◌∷◌, ◌++◌, drop, All, Contains, None}
use Rattle.sat_words.specs.Literal.{Literal, literal_of}
use Rattle.sat_words.specs.declared.shared.Cref.{Cref}
use Rattle.ring_port.specs.PortState.{PortState, one_more}
use Rattle.ring_port.specs.Deleting.{TidiedSome}
use Rattle.ring_port.specs.Reducing.{NotedReduce}
use Rattle.ring_port.specs.declared.stops.PortStop.{PortStop}
use Rattle.ring_trail.specs.declared.step.TrailStep.{TrailStep}
use Rattle.ring_trail.specs.TrailData.{TrailData, HasGrown, HasNoPlace, assigned}
use Rattle.watch_prop.specs.WatchData.{WatchData, attached}
use Rattle.reduce_db.specs.Lemmas.{AreToldApart}
use Rattle.reduce_db.specs.Dropping.{DroppedAll}
use Rattle.reduce_db.specs.Reduction.{IsFrontOfChoice}
use Rattle.vivify.specs.Outcome.{IsVivified, WasCutShort}
use Rattle.vivify.specs.declared.shorten.Vivified.TheVariants.{Unit}
use Rattle.ring_probe.specs.Outcome.{IsProbed, WasCutShort as ProbeWasCutShort}
use Rattle.ring_probe.specs.declared.probing.Probed.TheVariants as came_of
use Rattle.ring_run.specs.Ended.{import_slots}
use Rattle.ring_run.specs.Searching.{OpeningSeen, OnlySaw, OnlyPolled}
use Rattle.ring_run.specs.Ending.{EndsRefused, WroteEmpty, HaltsTelling, end_refused}
use Rattle.ring_run.specs.Course.{last_start}
use Rattle.ring_run.specs.Renewal.{Point, point, IsDue, HasReducedLemmas, HasReduced, IsNamed, TookEach, most_probes, round_from, HasValue, WasProbed, HasVivified, HasProbed, HasShrunk, IsIdle, PolledSome}
use Rattle.ring_run.specs.declared.job.End.{End}
use Rattle.ring_run.specs.declared.job.End.TheVariants.{Refuted, Memory}
use Rattle.ring_run.specs.declared.ring.Ring.{Ring}

-- Reductions

-- of these clauses none was dropped yet, or the first ones of those that were chosen, one after the other, and then there was no memory
pub record HaltsDropping (s u : PortState) (steps : List TrailStep) (clauses : List Cref) (end : End) : Type 0 where
  pub dropped : List Cref
  pub among : All (Contains clauses) dropped
  pub front : (dropped ≡ []) ⊎ IsFrontOfChoice s steps clauses dropped
  pub port : DroppedAll s u dropped
  pub memory : end ≡ Memory

-- the Reduce entry was refused; or it was written, and lemmas were dropped until there was no memory
abbrev pub HaltsReducingLemmas : PortState → PortState → Ring → End → Type 0
HaltsReducingLemmas s u before end = EndsRefused s u end ⊎ ((noted : PortState) × NotedReduce s noted × HaltsDropping noted u before.trail.steps before.lemmas.items end)

-- the imports were told apart from lemmas and start clauses, the Reduce entry was written and the lemmas were reduced; then those
-- imports were dropped until there was no memory
pub record HaltsReducingImports (s u : PortState) (before : Ring) (end : End) : Type 0 where
  pub imports : List Cref
  pub apart : AreToldApart (last_start s) before.lemmas.items before.imports.items imports
  pub between : PortState
  pub ring : Ring
  pub lemmas_reduced : HasReducedLemmas s between before ring
  pub halts : HaltsDropping between u before.trail.steps imports end

-- there was no memory to tell the imports apart, and nothing was done; or the reduction of the lemmas was cut short, or after it that of
-- the imports
abbrev pub HaltsReducing : PortState → PortState → Ring → End → Type 0
HaltsReducing s u before end = ((u ≡ s) × (end ≡ Memory)) ⊎ (HaltsReducingLemmas s u before end ⊎ HaltsReducingImports s u before end)

-- Vivification

-- a unit that was left of a lemma was made true on a trail: there was no memory to propagate it, or a clause became false and the empty
-- clause was to be written, or the trail grew and the line of a unit on it was refused
abbrev pub HaltsFollowing : PortState → PortState → TrailData → End → Type 0
HaltsFollowing s u t end = ((u ≡ s) × (end ≡ Memory)) ⊎ (WroteEmpty s u end ⊎ ((v : TrailData) × HasGrown t v × HaltsTelling s u v.steps end))

-- a unit was left of the lemma, and then it was followed
pub record HaltsBehindUnit (p : Point) (u : PortState) (c : Cref) (end : End) : Type 0 where
  pub lit : Literal
  pub between : Point
  pub vivified : IsVivified p.port between.port p.watches between.watches p.trail.steps c (Unit lit)
  pub following : HaltsFollowing between.port u (assigned between.trail lit None) end

-- the lemma is one of those that are vivified, and that was cut short, or a unit was left of it and following that was
abbrev pub HaltsAtLemma : Point → PortState → Cref → End → Type 0
HaltsAtLemma p u c end = IsNamed p c × (((stop : PortStop) × WasCutShort p.port u p.watches p.trail.steps c stop × (end ≡ end_refused stop)) ⊎ HaltsBehindUnit p u c end)

-- so it was of the lemma at this place
pub record HaltsAtPlace (p : Point) (u : PortState) (lemmas : List Cref) (place : ℕ) (end : End) : Type 0 where
  pub lemma : Cref
  pub there : drop place lemmas ≡ lemma ∷ drop (place + 1) lemmas
  pub halts : HaltsAtLemma p u lemma end

-- the first lemmas had their turns, and that of the next one was cut short
pub record HaltsVivifying (p : Point) (u : PortState) (lemmas : List Cref) (end : End) : Type 0 where
  pub between : Point
  pub done : List Cref
  pub kept : List Cref
  pub shorter : List Cref
  pub each : TookEach p between done kept shorter
  pub lemma : Cref
  pub later : List Cref
  pub parts : lemmas ≡ done ++ lemma ∷ later
  pub halts : HaltsAtLemma between u lemma end

-- Probing

-- the literal failed, and then the line of a unit that is true was refused
pub record HaltsBehindProbe (p : Point) (u : PortState) (l : Literal) (end : End) : Type 0 where
  pub lit : Literal
  pub between : Point
  pub probed : IsProbed p.port between.port (attached p.watches) between.watches p.trail between.trail l (came_of.Unit lit)
  pub telling : HaltsTelling between.port u between.trail.steps end

-- the literal failed, and so did its negation: the empty clause was written
pub record RefutesAtProbe (p : Point) (u : PortState) (l : Literal) (end : End) : Type 0 where
  pub watches : WatchData
  pub trail : TrailData
  pub probed : IsProbed p.port u (attached p.watches) watches p.trail trail l came_of.Empty
  pub over : end ≡ Refuted

-- a probe was cut short, or it refuted the clauses, or the lines after it were cut short
abbrev pub HaltsAtProbe : Point → PortState → Literal → End → Type 0
HaltsAtProbe p u l end = ((stop : PortStop) × ProbeWasCutShort p.port u (attached p.watches) p.trail l stop × (end ≡ end_refused stop)) ⊎ (RefutesAtProbe p u l end ⊎ HaltsBehindProbe p u l end)

-- a code's literal has no value, and its probe came to the end
abbrev pub HaltsAtCode : Point → PortState → (code : ℕ) → End → Type 0
HaltsAtCode p u c end = HasNoPlace p.trail.steps (literal_of c).var × HaltsAtProbe p u (literal_of c) end

-- the literals of these codes had their turns, one after the other and so many at most that were probed, and the probe of one came to the
-- end
abbrev pub HaltsProbing : Point → PortState → (most : ℕ) → (codes : List ℕ) → End → Type 0
HaltsProbing p u zero codes end = ⊥
HaltsProbing p u (suc most) [] end = ⊥
HaltsProbing p u (suc most) (c ∷ codes) end =
    (HasValue p.trail.steps (literal_of c) × HaltsProbing p u (suc most) codes end)
    ⊎ (HaltsAtCode p u c end ⊎ (HasNoPlace p.trail.steps (literal_of c).var × (between : Point) × WasProbed p between (literal_of c) × HaltsProbing between u most codes end))

-- so it was once round at most, from where probing was to go on
abbrev pub HaltsInRound : Point → PortState → (code : ℕ) → End → Type 0
HaltsInRound p u code end = HaltsProbing p u most_probes (round_from p.trail.vars code) end

-- literals were probed, and then the deletion of a clause that waited was refused
pub record HaltsShrunk (s u : PortState) (ring : Ring) (end : End) : Type 0 where
  pub port : PortState
  pub after : Ring
  pub probed : HasProbed s port ring after
  pub stop : PortStop
  pub deleting : TidiedSome port u stop
  pub over : end ≡ end_refused stop

-- all lemmas had their turns, and then probing came to the end, or the deletions after it did
pub record HaltsVivified (s u : PortState) (ring : Ring) (end : End) : Type 0 where
  pub port : PortState
  pub after : Ring
  pub vivified : HasVivified s port ring after
  pub halts : HaltsInRound (point port after) u after.next_probe end ⊎ HaltsShrunk port u after end

-- the reduction was cut short; or lemmas and imports were reduced, and then vivification was, or what comes after it
abbrev pub HaltsShrinking : PortState → PortState → Ring → End → Type 0
HaltsShrinking s u before end =
    HaltsReducing s u before end ⊎ ((dropped : PortState) × (between : Ring) × HasReduced s dropped before between × (HaltsVivifying (point dropped between) u between.lemmas.items end ⊎ HaltsVivified dropped u between end))

-- Imports

-- units came until one look found no other listed, and each of the opening is seen; then slots were looked into, from the first on and in
-- order, each after that look, until there was no memory
pub record HaltsTaking (s middle u : PortState) (end : End) : Type 0 where
  pub caught_up : middle.caught_up ≡ one_more s.caught_up
  pub opening : OpeningSeen middle
  pub only : OnlyPolled middle u
  pub polled : PolledSome middle u (import_slots middle)
  pub memory : end ≡ Memory

-- units came; then the empty clause was to be written, or clauses came until there was no memory
pub record HaltsImporting (s u : PortState) (end : End) : Type 0 where
  pub middle : PortState
  pub units : OnlySaw s middle
  pub over : WroteEmpty middle u end ⊎ HaltsTaking s middle u end

-- Both

-- the lemmas were reduced and vivified and literals probed if that was due, and else nothing was done; then the import came to the end
pub record HaltsRenewed (s u : PortState) (before : Ring) (end : End) : Type 0 where
  pub middle : PortState
  pub ring : Ring
  pub shrunk : (IsDue before × HasShrunk s middle before ring) ⊎ ((IsDue before → ⊥) × IsIdle s middle before ring)
  pub importing : HaltsImporting middle u end

-- a reduction was due and it, vivification or probing came to the end, or the import did
abbrev pub HaltsRenewing : PortState → PortState → Ring → End → Type 0
HaltsRenewing s u before end = (IsDue before × HaltsShrinking s u before end) ⊎ HaltsRenewed s u before end
