-- What a ring does after a restart: it reduces its lemmas, makes some shorter, probes literals, and imports.
use Rattle.std.specs.Prelude.{◌≡◌, ℕ, zero, suc, ◌+◌, ◌-◌, ◌*◌, ◌<◌, ◌≤◌, ◌⊎◌, true, false, nat_le, nat_lt, ◌&&◌, if◌then◌else◌, List, [], ◌∷◌, ◌++◌, map, filter, take, drop, length, sum, All, Contains, None, IsSome, ◌≢◌, ⊤}
use Rattle.std.specs.List.{range_with_len}
use Rattle.sat_words.specs.Literal.{Literal, literal_of}
use Rattle.sat_words.specs.Clause.{has}
use Rattle.sat_words.specs.declared.shared.Cref.{Cref}
use Rattle.rup_model.specs.Journal.{recent}
use Rattle.ring_port.specs.PortState.{PortState, Holding, Slot, held_at, lits_at, one_more}
use Rattle.ring_port.specs.Deleting.{TidiedUpTo}
use Rattle.ring_port.specs.Reducing.{NotedReduce}
use Rattle.ring_trail.specs.declared.step.TrailStep.{TrailStep}
use Rattle.ring_trail.specs.TrailData.{TrailData, IsTrail, HasGrown, HasNoPlace, IsTrueOn, IsFalseOn, assigned, reason_at}
use Rattle.watch_prop.specs.WatchData.{WatchData, attached}
use Rattle.watch_prop.specs.Propagation.{IsQuiet}
use Rattle.reduce_db.specs.Moment.{lemmas_before}
use Rattle.reduce_db.specs.Lemmas.{AreDistinct, AreToldApart}
use Rattle.reduce_db.specs.Reduction.{WasReduced}
use Rattle.vivify.specs.Outcome.{glue_at, IsVivified}
use Rattle.vivify.specs.declared.shorten.Vivified.{Vivified}
use Rattle.vivify.specs.declared.shorten.Vivified.TheVariants.{Kept, Shorter, Unit, Empty}
use Rattle.ring_probe.specs.Outcome.{IsProbed}
use Rattle.ring_probe.specs.declared.probing.Probed.{Probed}
use Rattle.ring_probe.specs.declared.probing.Probed.TheVariants as came_of
use Rattle.ring_run.specs.Ended.{IsHalted, import_slots, LookedAlong, last_looks, reductions}
use Rattle.ring_run.specs.Searching.{OpeningSeen, Stands, OnlySaw, OnlyPolled, OnlyWrote, ToldUnits, HasTold, HasGrownLog, AreTold, SeenTrue, SeesFixed}
use Rattle.ring_run.specs.Ending.{EndsAt, IsRefusal}
use Rattle.ring_run.specs.Course.{InSearch, last_start, numbers, number_at, AreOrdered}
use Rattle.ring_run.specs.declared.vivification.AfterVivify.{AfterVivify}
use Rattle.ring_run.specs.declared.vivification.AfterVivify.TheVariants.{Unchanged, Replaced, Gone}
use Rattle.ring_run.specs.declared.job.End.{End}
use Rattle.ring_run.specs.declared.ring.Ring.{Ring}

-- Reduction

-- a reduction is due: enough lemmas were learned since the last one
abbrev pub IsDue : Ring → Type 0
IsDue ring = lemmas_before (ring.reductions + 1) ≤ ring.learned - ring.reduced_at

-- the Reduce entry was written, and then half of the lemmas that may be dropped were; the reduction is counted
pub record HasReducedLemmas (old new : PortState) (before after : Ring) : Type 0 where
  pub noted : PortState
  pub entry : NotedReduce old noted
  pub reduced : WasReduced noted new before.watches after.watches before.trail.steps before.lemmas.items after.lemmas.items
  pub counted : after.reductions ≡ before.reductions + 1
  pub since : after.reduced_at ≡ before.learned

-- half of the imports that may be dropped were; the vector of watchers is closed up
pub record HasReducedImports (old new : PortState) (before after : Ring) : Type 0 where
  pub reduced : WasReduced old new before.watches after.watches before.trail.steps before.imports.items after.imports.items
  pub closed : after.watches.size ≡ sum after.watches.rooms

-- no import is at a lemma's address
abbrev pub AreUnmixed : Ring → Type 0
AreUnmixed ring = (c d : Cref) → Contains ring.lemmas.items c → Contains ring.imports.items d → c.address ≢ d.address

-- no two imports are at the same address, and none is at a lemma's or a start clause's
pub record AreSetApart (s : PortState) (ring : Ring) : Type 0 where
  pub distinct : AreDistinct ring.imports.items
  pub beyond : All (λ (c : Cref). last_start s < c.address) ring.imports.items
  pub unmixed : AreUnmixed ring

-- the imports were told apart from lemmas and start clauses; the Reduce entry was written; and then half of the lemmas that may be
-- dropped were, and half of those imports; the vector of watchers is closed up, and the reduction is counted
pub record HasReduced (old new : PortState) (before after : Ring) : Type 0 where
  pub imports : List Cref
  pub apart : AreToldApart (last_start old) before.lemmas.items before.imports.items imports
  pub noted : PortState
  pub entry : NotedReduce old noted
  pub between : PortState
  pub watches : WatchData
  pub lemmas_reduced : WasReduced noted between before.watches watches before.trail.steps before.lemmas.items after.lemmas.items
  pub imports_reduced : WasReduced between new watches after.watches before.trail.steps imports after.imports.items
  pub closed : after.watches.size ≡ sum after.watches.rooms
  pub counted : after.reductions ≡ before.reductions + 1
  pub since : after.reduced_at ≡ before.learned

-- Vivification

-- where a ring stands while it vivifies: what its port has, its watches and its trail
pub record Point : Type 0 where
  pub port : PortState
  pub watches : WatchData
  pub trail : TrailData

-- a port and a ring at one moment
abbrev pub point : PortState → Ring → Point
point s ring = record { port = s; watches = ring.watches; trail = ring.trail }

-- a lemma is vivified if its glue is two at most, unless one of its literals is true
pub record IsNamed (p : Point) (c : Cref) : Type 0 where
  pub few : glue_at p.port c.address ≤ 2
  pub none_true : (l : Literal) → has (lits_at p.port c.address) l ≡ true → IsTrueOn p.trail.steps l → ⊥

-- the unit was made true, and the trail grew from there at its level; each literal is known, by lines of units alone, and no other unit
-- is; nothing is left to propagate
pub record HasFollowed (p q : Point) (l : Literal) : Type 0 where
  pub grown : HasGrown (assigned p.trail l None) q.trail
  pub lines : OnlyWrote p.port q.port
  pub units : ToldUnits p.port q.port
  pub told : AreTold q.port q.trail (length q.trail.steps)
  pub alone : SeenTrue q.port q.trail.steps
  pub same_clauses : attached q.watches ≡ attached p.watches
  pub quiet : IsQuiet q.watches (lits_at q.port) q.trail

-- what is left of the lemma once it was vivified: itself, the shorter clause, or nothing after a unit, which is followed
abbrev pub WentOn : Point → Point → Vivified → AfterVivify → Type 0
WentOn p q Kept left = (q ≡ p) × (left ≡ Unchanged)
WentOn p q (Shorter d) left = (q ≡ p) × (left ≡ Replaced d)
WentOn p q (Unit l) left = HasFollowed p q l × (left ≡ Gone)
WentOn p q Empty left = ⊥

-- the lemma was vivified
pub record WasVivified (p q : Point) (c : Cref) (left : AfterVivify) : Type 0 where
  pub outcome : Vivified
  pub between : Point
  pub trail : between.trail ≡ p.trail
  pub vivified : IsVivified p.port between.port p.watches between.watches p.trail.steps c outcome
  pub after : WentOn between q outcome left

-- a lemma's turn: it was vivified if it is one of those, and else nothing was done
abbrev pub TookLemma : Point → Point → Cref → AfterVivify → Type 0
TookLemma p q c left = (IsNamed p c × WasVivified p q c left) ⊎ ((IsNamed p c → ⊥) × (q ≡ p) × (left ≡ Unchanged))

-- the lemma, if it is left as it was
abbrev pub in_place : Cref → AfterVivify → List Cref
in_place c Unchanged = c ∷ []
in_place c (Replaced d) = []
in_place c Gone = []

-- the shorter clause that is left of a lemma, if there is one
abbrev pub behind : AfterVivify → List Cref
behind Unchanged = []
behind (Replaced d) = d ∷ []
behind Gone = []

-- each lemma had its turn, one after the other; some are left as they were, and of others shorter clauses, in the same order
abbrev pub TookEach : Point → Point → (lemmas kept shorter : List Cref) → Type 0
TookEach p q [] kept shorter = (q ≡ p) × (kept ≡ []) × (shorter ≡ [])
TookEach p q (c ∷ cs) kept shorter =
    (between : Point) × (left : AfterVivify) × (rest : List Cref) × (later : List Cref) × TookLemma p between c left × TookEach between q cs rest later × (kept ≡ in_place c left ++ rest) × (shorter ≡ behind left ++ later)

-- each lemma that was listed had its turn, in the order of the list, and no other clause; the shorter clauses stand behind
-- those that are left as they were
pub record TookAll (p q : Point) (before after : List Cref) : Type 0 where
  pub kept : List Cref
  pub shorter : List Cref
  pub each : TookEach p q before kept shorter
  pub list : after ≡ kept ++ shorter

-- the lemma at this place had its turn, and the next one's is at the other place
pub record TookPlace (p q : Point) (before after : List Cref) (place next : ℕ) : Type 0 where
  pub lemma : Cref
  pub left : AfterVivify
  pub took : TookLemma p q lemma left
  pub there : drop place before ≡ lemma ∷ drop (place + 1) before
  pub done : take next after ≡ take place before ++ in_place lemma left
  pub rest : drop next after ≡ drop (place + 1) before ++ behind left
  pub short : next ≤ length after

-- Probing

-- how many literals are probed at most
abbrev pub most_probes : ℕ
most_probes = 1000

-- the codes of the literals on so many variables: those from this code on, and then those below it
abbrev pub round_from : (vars code : ℕ) → List ℕ
round_from vars code = filter (λ c. nat_le code c) (range_with_len 2 (2 * vars)) ++ filter (λ c. nat_lt c code) (range_with_len 2 (2 * vars))

-- the literal is true or false
abbrev pub HasValue : List TrailStep → Literal → Type 0
HasValue steps l = IsTrueOn steps l ⊎ IsFalseOn steps l

-- lines of units were written until each literal of the trail is known, and no other unit is; nothing else was done
pub record HasToldAll (p q : Point) : Type 0 where
  pub lines : OnlyWrote p.port q.port
  pub units : ToldUnits p.port q.port
  pub told : AreTold q.port p.trail (length p.trail.steps)
  pub alone : SeenTrue q.port p.trail.steps
  pub same : q ≡ record p { port = q.port }

-- what comes after a probe: the lines of what became true, if the literal failed, and else nothing
abbrev pub HasSettled : Point → Point → Probed → Type 0
HasSettled p q came_of.Holds = q ≡ p
HasSettled p q (came_of.Unit l) = HasToldAll p q
HasSettled p q came_of.Empty = ⊥

-- the literal was probed
pub record WasProbed (p q : Point) (l : Literal) : Type 0 where
  pub outcome : Probed
  pub between : Point
  pub probed : IsProbed p.port between.port (attached p.watches) between.watches p.trail between.trail l outcome
  pub same_clauses : attached between.watches ≡ attached p.watches
  pub after : HasSettled between q outcome

-- the literals of these codes had their turns, one after the other: one without a value was probed, and another passed over, until so
-- many were probed; probing goes on at the code after the last of these
abbrev pub ProbedEach : Point → Point → (most : ℕ) → (codes : List ℕ) → (code next : ℕ) → Type 0
ProbedEach p q zero codes code next = (q ≡ p) × (next ≡ code)
ProbedEach p q (suc most) [] code next = (q ≡ p) × (next ≡ code)
ProbedEach p q (suc most) (c ∷ codes) code next =
    (HasValue p.trail.steps (literal_of c) × ProbedEach p q (suc most) codes (c + 1) next)
    ⊎ (HasNoPlace p.trail.steps (literal_of c).var × (between : Point) × WasProbed p between (literal_of c) × ProbedEach between q most codes (c + 1) next)

-- literals without a value were probed by code: from where probing was to go on, then from the least one, and at most once round
abbrev pub ProbedRound : Point → Point → (code next : ℕ) → Type 0
ProbedRound p q code next = ProbedEach p q most_probes (round_from p.trail.vars code) code next

-- What holds meanwhile

-- the ring rests at level 0: nothing is left to propagate, each literal is known, and nothing that was learned or taken has to
-- be kept, since it reduces its lemmas
pub record IsResting (s : PortState) (ring : Ring) : Type 0 where
  pub reduced : 1 ≤ reductions s.ring s.mine
  pub search : InSearch s ring
  pub level : ring.trail.level ≡ 0
  pub quiet : IsQuiet ring.watches (lits_at s) ring.trail
  pub whole : ring.written ≡ length ring.trail.steps
  pub lately : recent s.ring s.mine ≡ []
  pub none_taken : s.taken ≡ []

-- at level 0 a unit is seen that has no value yet: once it is true the search goes on
pub record AwaitsUnit (s : PortState) (ring : Ring) (l : Literal) : Type 0 where
  pub reduced : 1 ≤ reductions s.ring s.mine
  pub search : IsTrail (assigned ring.trail l None) → InSearch s (record ring { trail = assigned ring.trail l None })
  pub level : ring.trail.level ≡ 0
  pub high : l.var ≤ ring.trail.vars
  pub free : HasNoPlace ring.trail.steps l.var
  pub lately : recent s.ring s.mine ≡ []
  pub none_taken : s.taken ≡ []

-- what vivification of a clause leaves of the ring
abbrev pub LeftBehind : PortState → Ring → Vivified → Type 0
LeftBehind s ring Kept = IsResting s ring
LeftBehind s ring (Shorter d) = IsResting s ring
LeftBehind s ring (Unit l) = AwaitsUnit s ring l
LeftBehind s ring Empty = ⊥

-- this code if a literal on the variables has it, and else the least one
abbrev pub code_on : (vars code : ℕ) → ℕ
code_on vars code = if nat_le 2 code && nat_le code (2 * vars + 1) then code else 2

-- a code's literal had its turn: it has a value, and nothing was done; or it was probed, so that one literal less may be
abbrev pub TookCode : Point → Point → (code left rest : ℕ) → Type 0
TookCode p q c left rest =
    (HasValue p.trail.steps (literal_of c) × (q ≡ p) × (rest ≡ left)) ⊎ (HasNoPlace p.trail.steps (literal_of c).var × WasProbed p q (literal_of c) × (left ≡ rest + 1))

-- it comes to an end that is no model, no want of tickets and no stop of another, and takes no look
pub record HaltsAt (old new : PortState) (end : End) : Type 0 where
  pub ends : EndsAt old new end
  pub halted : IsHalted end
  pub refusal : IsRefusal end
  pub none : last_looks end ≡ 0

-- the lemma is attached, at no start clause's address, and its glue is one at least
pub record MayVivify (s : PortState) (w : WatchData) (c : Cref) : Type 0 where
  pub member : Contains (attached w) c
  pub glued : 1 ≤ glue_at s c.address
  pub apart : (h : Holding) → Contains s.start h → c.address ≢ h.address

-- the other clauses stay attached, and are held as they were; entries came after, none of which notes a reduction
pub record KeepsOthers (s u : PortState) (v w : WatchData) (c : Cref) : Type 0 where
  pub others : (d : Cref) → Contains (attached v) d → d.address ≢ c.address → Contains (attached w) d
  pub held : (a : ℕ) → a ≢ c.address → IsSome (held_at s a) → held_at u a ≡ held_at s a
  pub grown : HasGrownLog s u
  pub noted : reductions u.ring u.mine ≡ reductions s.ring s.mine

-- the shorter clause is attached, at an address if no clause was held; its glue is one at least, and its line is the last
-- that adds a clause
pub record HasJoined (s u : PortState) (w : WatchData) (d : Cref) : Type 0 where
  pub member : Contains (attached w) d
  pub free : held_at s d.address ≡ None
  pub glued : 1 ≤ glue_at u d.address
  pub last : numbers u ≡ numbers s ++ number_at u d.address ∷ []

-- what is left of the lemma
abbrev pub IsLeft : PortState → PortState → WatchData → Cref → AfterVivify → Type 0
IsLeft s u w c Unchanged = Contains (attached w) c × (held_at u c.address ≡ held_at s c.address)
IsLeft s u w c (Replaced d) = HasJoined s u w d
IsLeft s u w c Gone = ⊤

-- Both

-- the lemmas listed had their turns, and nothing else of the ring changed
pub record HasVivified (old new : PortState) (before after : Ring) : Type 0 where
  pub took : TookAll (point old before) (point new after) before.lemmas.items after.lemmas.items
  pub same : after ≡ record before { trail = after.trail; watches = after.watches; written = after.written; lemmas = after.lemmas }

-- literals were probed, and nothing else of the ring changed
pub record HasProbed (old new : PortState) (before after : Ring) : Type 0 where
  pub round : ProbedRound (point old before) (point new after) before.next_probe after.next_probe
  pub same : after ≡ record before { trail = after.trail; watches = after.watches; written = after.written; next_probe = after.next_probe }

-- the lemmas were reduced, those left had their turns in the order of their lines, then literals were probed, and then all clauses that
-- waited were deleted; nothing else of the ring changed
pub record HasShrunk (old new : PortState) (before after : Ring) : Type 0 where
  pub dropped : PortState
  pub between : Ring
  pub reduced : HasReduced old dropped before between
  pub reduced_ring : between ≡ record before { watches = between.watches; lemmas = between.lemmas; imports = between.imports; reductions = between.reductions; reduced_at = between.reduced_at }
  pub ordered : AreOrdered dropped between.lemmas.items
  pub vivified_port : PortState
  pub vivified_ring : Ring
  pub vivified : HasVivified dropped vivified_port between vivified_ring
  pub probed_port : PortState
  pub probed : HasProbed vivified_port probed_port vivified_ring after
  pub lines : TidiedUpTo probed_port new (length probed_port.waiting)

-- nothing was done
pub record IsIdle (old new : PortState) (before after : Ring) : Type 0 where
  pub port : new ≡ old
  pub ring : after ≡ before

-- Imports

-- the ring looked into these slots, in order, each time after as many looks for units as before the first; each clause that came, of
-- which there are no more than slots, is held, noted as taken, attached and listed once, in the order in which they came
pub record TookSlots (old new : PortState) (before after : Ring) (slots : List Slot) : Type 0 where
  pub polls : new.polls ≡ old.polls ++ slots
  pub moments : new.polls_after ≡ old.polls_after ++ map (λ (_slot : Slot). old.caught_up) slots
  pub came : List Holding
  pub few : length came ≤ length slots
  pub held : new.held ≡ old.held ++ came
  pub taken : new.taken ≡ old.taken ++ map (λ (h : Holding). h.address) came
  pub clauses : attached after.watches ≡ attached before.watches ++ map (λ (h : Holding). record { address = h.address }) came
  pub imports : after.imports.items ≡ before.imports.items ++ map (λ (h : Holding). record { address = h.address }) came

-- the ring looked into some of these slots, from the first on and in order, or into all, each time after as many looks for units as
-- before the first
pub record PolledSome (old new : PortState) (slots : List Slot) : Type 0 where
  pub along : LookedAlong old new slots
  pub moments : new.polls_after ≡ old.polls_after ++ map (λ (_slot : Slot). old.caught_up) along.looked

-- an import at level 0: first units came, until one look found no other listed; each unit that is seen then is true, and those of the
-- opening are among them; after that the slots of each other ring were looked into, in order, and nothing else was done at the port; it has
-- noted of each of these slots that it was looked into after one look more that found no other unit listed; what became true has no reason
pub record TookImport (old new : PortState) (before after : Ring) : Type 0 where
  pub middle : PortState
  pub units : OnlySaw old middle
  pub caught_up : middle.caught_up ≡ one_more old.caught_up
  pub opening : OpeningSeen middle
  pub stands : Stands middle after.trail
  pub polled : OnlyPolled middle new
  pub slots : TookSlots middle new before after (import_slots middle)
  pub moments : new.polls_after ≡ old.polls_after ++ map (λ (_slot : Slot). one_more old.caught_up) (import_slots old)
  pub grown : HasGrown before.trail after.trail
  pub shape : IsTrail after.trail
  pub bare : (p : ℕ) → length before.trail.steps ≤ p → p < length after.trail.steps → reason_at after.trail.steps p ≡ None
  pub level : after.trail.level ≡ 0
  pub same : after ≡ record before { trail = after.trail; watches = after.watches; imports = after.imports; import_due = false }

-- after a restart the lemmas were reduced and vivified and literals probed where that was due, and nothing was done where it was not; then
-- the ring imported
pub record HasRenewed (old new : PortState) (before after : Ring) : Type 0 where
  pub due : IsDue before → (middle : PortState) × (ring : Ring) × HasShrunk old middle before ring × TookImport middle new ring after
  pub early : before.learned - before.reduced_at < lemmas_before (before.reductions + 1) → TookImport old new before after

-- after a look and the lines of units, of which none is missing, the ring renewed, and took no look more
pub record Renews (old new : PortState) (before after : Ring) : Type 0 where
  pub middle : PortState
  pub ring : Ring
  pub told : HasTold old middle
  pub seen : SeesFixed middle before.trail
  pub unlooked : new.looks ≡ middle.looks
  pub same_ring : ring ≡ record before { written = ring.written }
  pub renewed : HasRenewed middle new ring after
