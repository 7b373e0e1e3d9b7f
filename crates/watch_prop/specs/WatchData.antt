-- Clauses with the two literals that watch them, and for each literal a list of its watchers: the slots of its watches, each with a blocker.
use Rattle.std.specs.Prelude.{ℕ, Bool, not, ◌==◌, List, [], map, Option}
use Rattle.std.specs.List.{slice_index_or, filter, filter_map, list_any}
use Rattle.std.specs.Option.{option_map}
use Rattle.sat_words.specs.Literal.{Literal, code_of}
use Rattle.sat_words.specs.declared.shared.Cref.{Cref}
use Rattle.watch_prop.specs.declared.watch.Watch.{Watch}
use Rattle.watch_prop.specs.declared.watch.Watcher.{Watcher}

-- the slots, each free or with an attached clause's watch; the lists, one for each literal, for how many watchers each has room, and the length of the vector that they share; how many of the first slots are settled
pub record WatchData : Type 0 where
  pub vars : ℕ
  pub slots : List (Option Watch)
  pub lists : List (List Watcher)
  pub rooms : List ℕ
  pub size : ℕ
  pub settled : ℕ

-- the clause whose watch a slot has
abbrev pub clause_in : Option Watch → Option Cref
clause_in s = option_map (λ (x : Watch). x.clause) s

-- the clauses attached, in the order in which they came
abbrev pub attached : WatchData → List Cref
attached w = filter_map clause_in w.slots

-- the clauses without those at this address
abbrev pub without : List Cref → ℕ → List Cref
without cs a = filter (λ (c : Cref). not (c.address == a)) cs

-- one of the clauses is at the address
abbrev pub is_among : List Cref → ℕ → Bool
is_among cs a = list_any (λ (c : Cref). c.address == a) cs

-- the clauses without those at the addresses of some others, in their order
abbrev pub without_all : List Cref → List Cref → List Cref
without_all cs ds = filter (λ (c : Cref). not (is_among ds c.address)) cs

-- the list of a literal
abbrev pub watchers_at : List (List Watcher) → Literal → List Watcher
watchers_at lists l = slice_index_or lists (code_of l) []

-- the slots in the list of a literal
abbrev pub list_at : List (List Watcher) → Literal → List ℕ
list_at lists l = map (λ (x : Watcher). x.slot) (watchers_at lists l)

-- the literals of a clause, by its address
abbrev pub Lits : Type 0
Lits = ℕ → List Literal

-- the clauses attached, as lists of literals
abbrev pub clauses_of : WatchData → Lits → List (List Literal)
clauses_of w lits = map (λ (c : Cref). lits c.address) (attached w)
