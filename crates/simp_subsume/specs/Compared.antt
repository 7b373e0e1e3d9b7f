-- What comparing one clause with others does.
use Rattle.std.specs.Prelude.{◌≡◌, ◌≢◌, ◌⊎◌, ℕ, ◌+◌, ◌<◌, ◌≤◌, Bool, true, false, not, List, [], ◌∷◌, Contains, Result, Ok, Err, ⊤}
use Rattle.std.specs.List.{filter}
use Rattle.sat_words.specs.Literal.{Literal, opposite, same}
use Rattle.sat_words.specs.Clause.{has, has_opposites, InOrder}
use Rattle.drat_text.specs.declared.stop.LineStop.{LineStop}
use Rattle.simp_base.specs.WorkState.{WorkState, IsWork, known}
use Rattle.simp_base.specs.Causes.{HasCause}
use Rattle.simp_base.specs.Log.{KeepsLog}
use Rattle.simp_base.specs.Parts.{takes_part}
use Rattle.simp_subsume.specs.Related.{subsumes, strengthens, IsUnrelated}
use Rattle.simp_subsume.specs.Ends.{PassesOthers, EachContains, EachContained}
use Rattle.simp_subsume.specs.declared.relation.Relation.{Relation}
use Rattle.simp_subsume.specs.declared.relation.Relation.TheVariants.{Apart, Within, Flipped}
use Rattle.simp_subsume.specs.declared.compare.Fate.{Fate}
use Rattle.simp_subsume.specs.declared.compare.Fate.TheVariants.{Stays, Goes, Shrinks}

-- Two clauses

-- how the first stands to the second, unless that has opposites, is this
abbrev pub IsRelation : List Literal → List Literal → Relation → Type 0
IsRelation c d Apart = has_opposites d ≡ false → IsUnrelated c d
IsRelation c d Within = subsumes c d ≡ true
IsRelation c d (Flipped l) = strengthens c d l ≡ true

-- the literals but this one
abbrev pub without : Literal → List Literal → List Literal
without l c = filter (λ k. not (same l k)) c

-- what becomes of a clause in which another one is: it goes if it takes part
abbrev pub IsFateWithin : List Literal → Fate → Type 0
IsFateWithin d Stays = takes_part d ≡ false
IsFateWithin d Goes = takes_part d ≡ true
IsFateWithin d (Shrinks rest) = ⊥

-- what becomes of a clause in which another one is except for a negated literal
abbrev pub IsFateFlipped : List Literal → Literal → Fate → Type 0
IsFateFlipped d l Stays = takes_part d ≡ false
IsFateFlipped d l Goes = ⊥
IsFateFlipped d l (Shrinks rest) = (takes_part d ≡ true) × (rest.items ≡ without (opposite l) d)

-- the second clause takes part, and the first one is in it
pub record Subsumes (c d : List Literal) : Type 0 where
  pub part : takes_part d ≡ true
  pub subsumes : subsumes c d ≡ true

-- the second clause takes part, and the first one strengthens it to this
pub record Strengthens (c d rest : List Literal) : Type 0 where
  pub part : takes_part d ≡ true
  pub lit : Literal
  pub strengthens : strengthens c d lit ≡ true
  pub is : rest ≡ without (opposite lit) d

-- what is to become of the second clause is this
abbrev pub IsFate : List Literal → List Literal → Fate → Type 0
IsFate c d Stays = takes_part d ≡ true → IsUnrelated c d
IsFate c d Goes = Subsumes c d
IsFate c d (Shrinks rest) = Strengthens c d rest.items

-- what is to become of the clause with the second number is this
abbrev pub IsFateAt : WorkState → ℕ → List Literal → ℕ → Fate → Type 0
IsFateAt w n c m Stays = (d : List Literal) → Contains w.clauses (m, d) → m ≢ n → takes_part d ≡ true → IsUnrelated c d
IsFateAt w n c m Goes = (d : List Literal) × Contains w.clauses (m, d) × (m ≢ n) × Subsumes c d
IsFateAt w n c m (Shrinks rest) = (d : List Literal) × Contains w.clauses (m, d) × (m ≢ n) × Strengthens c d rest.items

-- Works

-- what is known got shorter, the clauses that take no part stay, and nothing else has changed
pub record Reduces (old new : WorkState) : Type 0 where
  pub going : new.ended ≡ false
  pub unspent : new.output.spent ≡ false
  pub work : IsWork new
  pub quiet : new.output.faults ≡ old.output.faults
  pub stack : new.stack ≡ old.stack
  pub vars : new.vars ≡ old.vars
  pub units : (l : Literal) → has old.units l ≡ true → has new.units l ≡ true
  pub passed : PassesOthers old new
  pub covered : EachContains (known old) (known new)
  pub parts : EachContained (known old) (known new)
  pub later : old.output.last ≤ new.output.last
  pub numbered : (n : ℕ) (c : List Literal) → Contains new.clauses (n, c) → Contains old.clauses (n, c) ⊎ (old.output.last < n)
  pub log : KeepsLog old new

-- the clause is one of those that were, or came under a later number, and has these literals
abbrev pub IsOldOr : WorkState → List Literal → ℕ → List Literal → Type 0
IsOldOr old lits n c = Contains old.clauses (n, c) ⊎ ((old.output.last < n) × ((l : Literal) → has c l ≡ has lits l))

-- a clause of these literals is known, and nothing else has changed
pub record Grown (old new : WorkState) (lits : List Literal) : Type 0 where
  pub going : new.ended ≡ false
  pub unspent : new.output.spent ≡ false
  pub quiet : new.output.faults ≡ old.output.faults
  pub stack : new.stack ≡ old.stack
  pub vars : new.vars ≡ old.vars
  pub later : old.output.last ≤ new.output.last
  pub stay : (n : ℕ) (c : List Literal) → Contains old.clauses (n, c) → Contains new.clauses (n, c)
  pub came : (n : ℕ) (c : List Literal) → Contains new.clauses (n, c) → IsOldOr old lits n c
  pub units_stay : (l : Literal) → has old.units l ≡ true → has new.units l ≡ true
  pub units_came : (l : Literal) → has new.units l ≡ true → (has old.units l ≡ true) ⊎ (lits ≡ l ∷ [])
  pub there : ((n : ℕ) × (c : List Literal) × Contains new.clauses (n, c) × (old.output.last < n) × ((l : Literal) → has c l ≡ has lits l))
      ⊎ ((l : Literal) × (has new.units l ≡ true) × (lits ≡ l ∷ []))
  pub log : KeepsLog old new

-- what adding a shortened clause did, by its answer
abbrev pub WasGrown : WorkState → WorkState → List Literal → Result ⊤ LineStop → Type 0
WasGrown old new lits (Ok done) = Grown old new lits
WasGrown old new lits (Err stop) = HasCause old new stop × KeepsLog old new

-- a clause that takes part and has a number below this one is of no use to another one that takes part
abbrev pub IsReducedBelow : WorkState → ℕ → Type 0
IsReducedBelow w n = (p q : ℕ) (e f : List Literal) → Contains w.clauses (p, e) → Contains w.clauses (q, f) → p ≢ q → p < n → takes_part e ≡ true → takes_part f ≡ true → IsUnrelated e f

-- from the work at the start: the clause with this number was compared with all others but those whose numbers are in the
-- rest
pub record Comparing (start now : WorkState) (n : ℕ) (c : List Literal) (rest : List ℕ) : Type 0 where
  pub reduces : Reduces start now
  pub alive : Contains now.clauses (n, c)
  pub before : IsReducedBelow now n
  pub apart : (m : ℕ) (d : List Literal) → Contains now.clauses (m, d) → m ≢ n → takes_part d ≡ true → IsUnrelated c d ⊎ Contains rest m

-- so it is after the clause with this number, where it was so before
abbrev pub WasCompared : WorkState → WorkState → ℕ → List Literal → ℕ → Result ⊤ LineStop → Type 0
WasCompared old new n c m (Ok done) = (start : WorkState) (rest : List ℕ) → Comparing start old n c (m ∷ rest) → Comparing start new n c rest
WasCompared old new n c m (Err stop) = HasCause old new stop × KeepsLog old new

-- all were compared
abbrev pub WasComparedWithAll : WorkState → WorkState → ℕ → List Literal → Result ⊤ LineStop → Type 0
WasComparedWithAll old new n c (Ok done) = Comparing old new n c []
WasComparedWithAll old new n c (Err stop) = HasCause old new stop × KeepsLog old new

-- Turns

-- these are the literals of the clause with this number, which takes part
pub record IsLoaded (w : WorkState) (n : ℕ) (c : List Literal) : Type 0 where
  pub alive : Contains w.clauses (n, c)
  pub ordered : InOrder c
  pub part : takes_part c ≡ true

-- what loading a clause into the buffer did
abbrev pub WasLoaded : WorkState → ℕ → List Literal → Bool → Type 0
WasLoaded w n c true = IsLoaded w n c
WasLoaded w n c false = (d : List Literal) → Contains w.clauses (n, d) → takes_part d ≡ false

-- the clauses with numbers below this one had their turn
pub record Processed (old new : WorkState) (n : ℕ) : Type 0 where
  pub reduces : Reduces old new
  pub below : IsReducedBelow new n

-- what comparing a clause with all others did, by its answer
abbrev pub WasProcessed : WorkState → WorkState → ℕ → Result ⊤ LineStop → Type 0
WasProcessed old new n (Ok done) = Processed old new (n + 1)
WasProcessed old new n (Err stop) = HasCause old new stop × KeepsLog old new
