-- What a ring has while it searches, and what each step of the search comes to.
use Rattle.std.specs.Prelude.{◌≡◌, ◌≢◌, ◌⊎◌, ℕ, max, fold, ◌+◌, ◌*◌, ◌<◌, ◌≤◌, true, false, if◌then◌else◌, List, [], ◌∷◌, ◌++◌, map, take, length, All, Contains, Option, Ok, ⊤, IfSome}
use Rattle.std.specs.Option.{option_to_list, option_map_or}
use Rattle.sat_words.specs.Literal.{Literal}
use Rattle.sat_words.specs.declared.shared.Cref.{Cref}
use Rattle.rup_model.specs.declared.journal.Addition.{Addition}
use Rattle.rup_model.specs.Journal.{additions, recent}
use Rattle.ring_port.specs.PortState.{PortState, Holding, held_at, lits_at}
use Rattle.ring_port.specs.Port.{Learned}
use Rattle.ring_port.specs.Drawing.{HasDrawn}
use Rattle.ring_port.specs.declared.draw.Drawn.TheVariants.{Ticket, Gone}
use Rattle.ring_port.specs.Deleting.{TidiedUpTo}
use Rattle.reduce_db.specs.Lemmas.{AreDistinct}
use Rattle.ring_trail.specs.TrailData.{TrailData, IsTrail, HasNoPlace, cut_back, assigned, decided}
use Rattle.ring_decide.specs.DeciderData.{IsDecided}
use Rattle.restart_plan.specs.Plan.{noted, asked, is_due}
use Rattle.watch_prop.specs.WatchData.{WatchData, attached}
use Rattle.watch_prop.specs.Watched.{Watched}
use Rattle.watch_prop.specs.Propagation.{HasReasons, IsClosedBelow}
use Rattle.analyze.specs.Lemma.{IsLemma}
use Rattle.analyze.specs.Levels.{clause_level}
use Rattle.vivify.specs.Outcome.{glue_at}
use Rattle.restart_plan.specs.Luby.{luby_sum}
use Rattle.restart_plan.specs.Plan.{Restarting, luby_unit}
use Rattle.ring_run.specs.Ended.{HasLooked, HasOffered, HasPolled, polls_of, HasImported, ImportsBy, IsTidy, IsInTime, last_looks, reductions}
use Rattle.ring_run.specs.Searching.{HasClauses, Stands, OpeningSeen, AreTold, SeesFixed, GoesOn, IsAsserting, IsGlueOf, HasLent, HasTold}
use Rattle.ring_run.specs.Strategy.{saved_above}
use Rattle.ring_run.specs.Ending.{EndsBy, IsRefusal, EndsRefused, WroteEmpty, HaltsDeleting}
use Rattle.ring_run.specs.declared.job.End.{End}
use Rattle.ring_run.specs.declared.job.End.TheVariants.{Sat, Spent, Stopped, Memory}
use Rattle.ring_run.specs.declared.ring.Ring.{Ring}
use Rattle.ring_run.specs.declared.course.Next.{Next}
use Rattle.ring_run.specs.declared.course.Next.TheVariants.{Go, Finish}

-- a search at this port, with this trail and these watches: the clauses attached are watched, closed below the present
-- level and the only reasons, all units of the opening are true, and the first n literals are known; above level 0 these are
-- all that are true for good
pub record Searches (s : PortState) (t : TrailData) (w : WatchData) (n : ℕ) : Type 0 where
  pub clauses : HasClauses s (attached w)
  pub opening : OpeningSeen s
  pub stands : Stands s t
  pub trail : IsTrail t
  pub watched : Watched w (lits_at s) t
  pub closed : IsClosedBelow w (lits_at s) t
  pub reasons : HasReasons (attached w) s t.steps
  pub told : AreTold s t n

-- a search with those of the ring
abbrev pub InSearch : PortState → Ring → Type 0
InSearch s ring = Searches s ring.trail ring.watches ring.written

-- the search goes on
pub record GoesOnBy (old : PortState) (before : Ring) (new : PortState) (ring : Ring) : Type 0 where
  pub search : InSearch new ring
  pub goes : (start : PortState) → GoesOn start old before.learned → GoesOn start new ring.learned

-- what a step does, from a port and a ring to those after it: the search goes on, or comes to an end
abbrev pub Leads : PortState → Ring → PortState → Ring → Next → Type 0
Leads old before new ring Go = GoesOnBy old before new ring
Leads old before new ring (Finish end) = EndsBy old before.learned new ring.learned end

-- what going back leaves of the trail
pub record WentBack (t v : TrailData) (back : ℕ) : Type 0 where
  pub is : v ≡ cut_back t back
  pub prefix : v.steps ≡ take (length v.steps) t.steps
  pub short : length v.steps ≤ length t.steps
  pub shape : IsTrail v

-- the trail can go back to this level, and the first literal has no value there
pub record CanAssert (t : TrailData) (lits : List Literal) (back : ℕ) : Type 0 where
  pub shape : IsTrail t
  pub level : back ≤ t.level
  pub first : Literal
  pub rest : List Literal
  pub parts : lits ≡ first ∷ rest
  pub on : first.var ≤ t.vars
  pub free : (v : TrailData) → WentBack t v back → HasNoPlace v.steps first.var

-- the clause joins the lemmas if it has an address, and no import is listed or left out; no reduction is counted, and probing goes on where it
-- would have
pub record Lists (old new : Ring) (address : Option Cref) : Type 0 where
  pub lemmas : new.lemmas.items ≡ old.lemmas.items ++ option_to_list address
  pub imports : new.imports.items ≡ old.imports.items
  pub last_start : new.last_start ≡ old.last_start
  pub reductions : new.reductions ≡ old.reductions
  pub reduced_at : new.reduced_at ≡ old.reduced_at
  pub next_probe : new.next_probe ≡ old.next_probe

-- the trail went back, the values lost were saved, the clause was attached if it has an address, and the first literal was
-- made true
pub record Asserted (s : PortState) (old new : Ring) (lits : List Literal) (back : ℕ) (address : Option Cref) : Type 0 where
  pub middle : TrailData
  pub went : WentBack old.trail middle back
  pub first : Literal
  pub rest : List Literal
  pub parts : lits ≡ first ∷ rest
  pub trail : new.trail ≡ assigned middle first address
  pub shape : IsTrail new.trail
  pub phases : new.decider ≡ saved_above old.decider old.trail.steps back
  pub clauses : attached new.watches ≡ attached old.watches ++ option_to_list address
  pub listed : Lists old new address
  pub written : new.written ≡ old.written
  pub watched : (t : TrailData) → Watched old.watches (lits_at s) t → Watched new.watches (lits_at s) t

-- the trail went back to level 0, the values lost were saved, and the clause was attached if it has an address
pub record Restarted (s : PortState) (old new : Ring) (address : Option Cref) : Type 0 where
  pub went : WentBack old.trail new.trail 0
  pub phases : new.decider ≡ saved_above old.decider old.trail.steps 0
  pub clauses : attached new.watches ≡ attached old.watches ++ option_to_list address
  pub listed : Lists old new address
  pub written : new.written ≡ old.written
  pub watched : (t : TrailData) → Watched old.watches (lits_at s) t → Watched new.watches (lits_at s) t

-- the conflict is left: by a restart if that is due, at level 0 below the lemma's level; else at the lemma's level, if it
-- forces its first literal
abbrev pub HasLeft : PortState → Ring → Ring → List Literal → ℕ → Option Cref → Type 0
HasLeft s old new lits back address =
    ((old.import_due ≡ true → back ≡ 0) × Asserted s old new lits back address) ⊎ ((old.import_due ≡ true) × (0 < back) × Restarted s old new address)

-- the lemma was learned with this glue, and then offered to each other ring if it has a class, which is counted
pub record WasShared (old new : PortState) (before after : Ring) (lits : List Literal) (glue : ℕ) (address : Option Cref) : Type 0 where
  pub middle : PortState
  pub learned : Learned old middle lits glue (Ok address)
  pub lent : HasLent middle new address before.exported before.offered after.exported after.offered

-- a ticket was drawn for a lemma, which was learned, asks for this level and has this glue, and its conflict was left
pub record HasLearned (s u : PortState) (old new : Ring) (lits : List Literal) (back glue : ℕ) : Type 0 where
  -- the port once the ticket was drawn
  pub drawn : PortState
  pub ticket : HasDrawn s drawn Ticket
  -- if it is held, if it has two literals or more
  pub address : Option Cref
  -- the clause held at the address is the lemma
  pub stored : IfSome address (λ c. lits_at u c.address ≡ lits)
  -- it was offered if it has a class, and then the clauses that waited were deleted
  pub between : PortState
  pub shared : WasShared drawn between old new lits glue address
  pub tidied : TidiedUpTo between u (length between.waiting)
  -- the lemma is counted
  pub learned : new.learned ≡ old.learned + 1
  -- the glue was noted for the restarts, and it was asked whether one is due
  pub restarts : new.restarts ≡ asked (noted old.restarts glue)
  -- an import is yet to be exactly if one was due
  pub import_due : new.import_due ≡ is_due (noted old.restarts glue)
  -- where one was due the trail is at level 0, else at the lemma's level with its first literal true
  pub left : HasLeft u (record old { import_due = new.import_due }) new lits back address

-- as many lemmas, offers and restarts are counted as before
pub record CountsAlike (old new : Ring) : Type 0 where
  pub learned : new.learned ≡ old.learned
  pub restarts : new.restarts ≡ old.restarts
  pub exported : new.exported ≡ old.exported
  pub offered : new.offered ≡ old.offered

-- the draw found all tickets drawn, and nothing else was done
pub record HasSpent (s u : PortState) (old new : Ring) : Type 0 where
  pub gone : HasDrawn s u Gone
  pub counts : CountsAlike old new

-- the lemma was learned and offered if it has a class, its glue was noted, and it was asked whether a restart is due; then the run came
-- to its end where the clauses that waited were deleted
pub record HaltsBehind (s u : PortState) (old new : Ring) (lits : List Literal) (glue : ℕ) (end : End) : Type 0 where
  pub address : Option Cref
  pub between : PortState
  pub shared : WasShared s between old new lits glue address
  pub deleting : HaltsDeleting between u end
  pub learned : new.learned ≡ old.learned + 1
  pub restarts : new.restarts ≡ asked (noted old.restarts glue)

-- a ticket was drawn; then the call that learns was refused, or it was made and what came after it ended the run
abbrev pub HaltsLearning : PortState → PortState → Ring → Ring → List Literal → (glue : ℕ) → End → Type 0
HaltsLearning s u old new lits glue end = (drawn : PortState) × HasDrawn s drawn Ticket × ((EndsRefused drawn u end × CountsAlike old new) ⊎ HaltsBehind drawn u old new lits glue end)

-- what drawing a ticket for a lemma and learning it came to: it is no model and no stop of another
abbrev pub LearnsTo : PortState → PortState → Ring → Ring → List Literal → (back glue : ℕ) → Next → Type 0
LearnsTo s u old new lits back glue Go = HasLearned s u old new lits back glue
LearnsTo s u old new lits back glue (Finish Spent) = HasSpent s u old new
LearnsTo s u old new lits back glue (Finish (Sat a)) = ⊥
LearnsTo s u old new lits back glue (Finish (Stopped x)) = ⊥
LearnsTo s u old new lits back glue (Finish end) = HaltsLearning s u old new lits glue end

-- the lemma of the conflict with this clause was found, and a ticket asked for: the lemma is new, and its glue is how many levels its
-- literals but the first have
pub record LearnedFrom (s u : PortState) (old new : Ring) (conflict : Cref) (lits : List Literal) (course : Next) : Type 0 where
  pub back : ℕ
  pub glue : ℕ
  pub lemma : IsLemma s old.trail (lits_at s conflict.address) lits back glue
  pub asserting : IsAsserting s old.trail lits back
  pub counted : IsGlueOf old.trail.steps lits glue
  pub learned : LearnsTo s u old new lits back glue course

-- how a conflict ended the run: its clause is false at level 0, and the empty clause was to be written; or there was no memory; or the
-- lemma was to be learned
abbrev pub HaltsAtConflict : PortState → PortState → Ring → Ring → Cref → List Literal → End → Type 0
HaltsAtConflict s u old new conflict lits end =
    ((clause_level old.trail.steps (lits_at s conflict.address) ≡ 0) × WroteEmpty s u end × CountsAlike old new)
    ⊎ (((u ≡ s) × (end ≡ Memory) × CountsAlike old new) ⊎ LearnedFrom s u old new conflict lits (Finish end))

-- what came of a conflict; it is no model and no stop of another
abbrev pub LearnsFrom : PortState → PortState → Ring → Ring → Cref → List Literal → Next → Type 0
LearnsFrom s u old new conflict lits Go = LearnedFrom s u old new conflict lits Go
LearnsFrom s u old new conflict lits (Finish Spent) = LearnedFrom s u old new conflict lits (Finish Spent)
LearnsFrom s u old new conflict lits (Finish (Sat a)) = ⊥
LearnsFrom s u old new conflict lits (Finish (Stopped x)) = ⊥
LearnsFrom s u old new conflict lits (Finish end) = HaltsAtConflict s u old new conflict lits end

-- a literal was decided that the decider may choose; except for what is counted as told nothing else of the ring changed
pub record HasDecided (old new : Ring) : Type 0 where
  pub lit : Literal
  pub chosen : IsDecided old.decider old.trail.steps lit
  pub trail : new.trail ≡ decided old.trail lit
  pub same : new ≡ record old { trail = new.trail; written = new.written }

-- after a look and the lines of units, of which none is missing, a literal was decided
pub record DecidedNext (s u : PortState) (old new : Ring) : Type 0 where
  pub told : HasTold s u
  pub seen : SeesFixed u old.trail
  pub decided : HasDecided old new

-- the search goes on, or a call was refused or the clauses refuted
abbrev pub IsOnOrRefused : Next → Type 0
IsOnOrRefused Go = ⊤
IsOnOrRefused (Finish end) = IsRefusal end

-- no ticket was drawn, and the trail is no shorter
pub record HasKept (s : PortState) (old : Ring) (u : PortState) (new : Ring) : Type 0 where
  pub found : u.found ≡ s.found
  pub steps : length old.trail.steps ≤ length new.trail.steps

-- with a longer trail, or no import that is yet to be
abbrev pub HasMore : Ring → Ring → Type 0
HasMore old new = ((new.import_due ≡ old.import_due) × (length old.trail.steps < length new.trail.steps)) ⊎ ((old.import_due ≡ true) × (new.import_due ≡ false))

-- a ticket was drawn, after more than at the last draw; or there is a longer trail, or an import that was yet to be
abbrev pub IsFurther : PortState → Ring → PortState → Ring → Type 0
IsFurther s old u new = (s.found < u.found) ⊎ (HasKept s old u new × HasMore old new)

-- as much is counted as offered as before, by the same ring
pub record AreSameOffers (old new : Ring) : Type 0 where
  pub exported : new.exported ≡ old.exported
  pub offered : new.offered ≡ old.offered
  pub place : new.place ≡ old.place

-- the ring counts what was offered, which is at most what was learned
pub record IsOffering (s : PortState) (ring : Ring) : Type 0 where
  pub counts : HasOffered s ring.exported ring.offered
  pub few : ring.exported ≤ ring.learned

-- since the base at least as many looks found no stop as lemmas were learned and decisions stand, up to the last count
abbrev pub IsLooking : ℕ → PortState → Ring → Type 0
IsLooking base s ring = HasLooked (base + ring.learned + ring.trail.level) s

-- so it is still, or at the end
abbrev pub HasLookedBy : ℕ → PortState → Ring → Next → Type 0
HasLookedBy base s ring Go = IsLooking base s ring
HasLookedBy base s ring (Finish end) = HasLooked (base + ring.learned + last_looks end) s

-- if looks came before the decisions, they still do, or did at the end
abbrev pub KeepsLooking : PortState → Ring → PortState → Ring → Next → Type 0
KeepsLooking old before new ring course = (base : ℕ) → IsLooking base old before → HasLookedBy base new ring course

-- if one look more was made before, a decision takes it
abbrev pub TakesALook : PortState → Ring → Ring → Next → Type 0
TakesALook s before ring course = (base : ℕ) → HasLooked (base + before.learned + before.trail.level + 1) s → HasLookedBy base s ring course

-- at level 0, if each literal is known: a search may import; the units of the opening may be yet to come
pub record MayImport (s : PortState) (t : TrailData) (w : WatchData) (n : ℕ) : Type 0 where
  pub clauses : HasClauses s (attached w)
  pub stands : Stands s t
  pub trail : IsTrail t
  pub level : t.level ≡ 0
  pub watched : Watched w (lits_at s) t
  pub reasons : HasReasons (attached w) s t.steps
  pub told : AreTold s t n
  pub whole : n ≡ length t.steps

-- the part has some of the whole's numbers, in their order
abbrev pub IsInOrder : (whole part : List ℕ) → Type 0
IsInOrder [] [] = ⊤
IsInOrder [] (x ∷ xs) = ⊥
IsInOrder (y ∷ ys) [] = ⊤
IsInOrder (y ∷ ys) (x ∷ xs) = ((x ≡ y) × IsInOrder ys xs) ⊎ IsInOrder ys (x ∷ xs)

-- the numbers of the clauses that the ring added, in the order of their lines
abbrev pub numbers : PortState → List ℕ
numbers s = map (λ (x : Addition). x.number) (additions s.mine)

-- the number of the clause at an address
abbrev pub number_at : PortState → ℕ → ℕ
number_at s a = option_map_or (λ (h : Holding). h.number) (held_at s a) 0

-- the clauses stand in the order in which the ring added them
abbrev pub AreOrdered : PortState → List Cref → Type 0
AreOrdered s cs = IsInOrder (numbers s) (map (λ (c : Cref). number_at s c.address) cs)

-- the greatest address of the clauses, or 0
abbrev pub last_of : List Cref → ℕ
last_of cs = fold (λ (last : ℕ) (c : Cref). max last c.address) 0 cs

-- the greatest address of a start clause, or 0
abbrev pub last_start : PortState → ℕ
last_start s = last_of (map (λ (h : Holding). record { address = h.address }) s.start)

-- no two lemmas are at the same address, each is attached, and none is at the address of a start clause; they stand in the
-- order of their lines, and the glue of each is one at least; the lemmas learned since the ring last reduced them are
-- counted, and so are the reductions, each of which came after two lemmas or more; each import is attached, and where the start clauses end is known
pub record HasLemmas (s : PortState) (ring : Ring) : Type 0 where
  pub ordered : AreOrdered s ring.lemmas.items
  pub glued : (c : Cref) → Contains ring.lemmas.items c → 1 ≤ glue_at s c.address
  pub noted : ring.reductions ≡ reductions s.ring s.mine
  pub distinct : AreDistinct ring.lemmas.items
  pub member : All (Contains (attached ring.watches)) ring.lemmas.items
  pub apart : (h : Holding) (c : Cref) → Contains s.start h → Contains ring.lemmas.items c → c.address ≢ h.address
  pub count : ring.learned ≡ ring.reduced_at + length (recent s.ring s.mine)
  pub few : 2 * ring.reductions ≤ ring.reduced_at
  pub imported : All (Contains (attached ring.watches)) ring.imports.items
  pub last : ring.last_start ≡ last_start s

-- where it was so before
abbrev pub KeepsLemmas : PortState → Ring → PortState → Ring → Type 0
KeepsLemmas old before new ring = HasLemmas old before → HasLemmas new ring

-- how often the ring has imported: at its start and at each restart, except for the last of these if that is yet to be
abbrev pub imports_of : Ring → ℕ
imports_of ring = if ring.import_due then ring.restarts.made else ring.restarts.made + 1

-- the ring has polled as often as its imports take; one is yet to be at level 0 only
pub record IsPolling (s : PortState) (ring : Ring) : Type 0 where
  pub place : ring.place ≡ record { ring = s.ring; rings = s.rings }
  pub polled : s.polled ≡ polls_of s (imports_of ring)
  pub low : ring.import_due ≡ true → ring.trail.level ≡ 0

-- so it is still, or at the end
abbrev pub HasPolledBy : PortState → Ring → Next → Type 0
HasPolledBy s ring Go = IsPolling s ring
HasPolledBy s ring (Finish end) = HasPolled s ring.restarts.made end

-- where it was so before
abbrev pub KeepsPolling : PortState → Ring → PortState → Ring → Next → Type 0
KeepsPolling old before new ring course = IsPolling old before → HasPolledBy new ring course

-- since the start the ring has imported as often as it was to, except for an import that is yet to be
abbrev pub IsImporting : (start s : PortState) → Ring → Type 0
IsImporting start s ring = HasImported start s (imports_of ring)

-- so it is still, or at the end
abbrev pub HasImportedBy : (start s : PortState) → Ring → Next → Type 0
HasImportedBy start s ring Go = IsImporting start s ring
HasImportedBy start s ring (Finish end) = ImportsBy start s ring.restarts.made end

-- where it was so before
abbrev pub KeepsImporting : PortState → Ring → PortState → Ring → Next → Type 0
KeepsImporting old before new ring course = (start : PortState) → IsPolling old before → IsImporting start old before → HasImportedBy start new ring course

-- no clause waits for its deletion, where the search goes on or found a model
abbrev pub HasTidied : PortState → Next → Type 0
HasTidied s Go = s.waiting ≡ []
HasTidied s (Finish end) = IsTidy s end

-- if none waited before
abbrev pub KeepsTidy : PortState → PortState → Next → Type 0
KeepsTidy old new course = old.waiting ≡ [] → HasTidied new course

-- if the search found a model, or the ring is spent, the lemmas were reduced in time at the last restart
abbrev pub IsInTimeAt : PortState → Restarting → End → Type 0
IsInTimeAt s r (Sat a) = IsInTime s r.since
IsInTimeAt s r Spent = IsInTime s r.since
IsInTimeAt s r _ = ⊤

-- they were, if no import is yet to be; or at the end
abbrev pub IsInTimeBy : PortState → Ring → Next → Type 0
IsInTimeBy s ring Go = ring.import_due ≡ false → IsInTime s ring.restarts.since
IsInTimeBy s ring (Finish end) = IsInTimeAt s ring.restarts end

-- where they were before
abbrev pub KeepsInTime : PortState → Ring → PortState → Ring → Next → Type 0
KeepsInTime old before new ring course = IsPolling old before → (before.import_due ≡ false → IsInTime old before.restarts.since) → IsInTimeBy new ring course

-- by Luby's sequence the ring restarted after just this many lemmas, and learned the others since then
abbrev pub SumsUp : Restarting → Type 0
SumsUp r = r.odd ≡ true → luby_unit * luby_sum r.made + r.since ≡ r.count

-- if what is counted as offered was true, it still is
abbrev pub KeepsOffering : PortState → Ring → PortState → Ring → Type 0
KeepsOffering old before new ring = IsOffering old before → IsOffering new ring

-- if the step came to an end it came so
abbrev pub HaltsBy : (End → Type 0) → Next → Type 0
HaltsBy how Go = ⊤
HaltsBy how (Finish end) = how end
