-- Clauses in one list of words, each in a stretch of its own.
use Rattle.std.specs.Prelude.{◌≡◌, ◌⊎◌, ℕ, ◌+◌, ◌/◌, ◌%◌, ◌^◌, ◌<◌, ◌≤◌, Bool, true, false, List, [], ◌∷◌, if◌then◌else◌, map, length, All, Contains, Option, IfSome, slice_index_or, nat_eq}
use Rattle.std.specs.List.{range_with_len}
use Rattle.sat_words.specs.Literal.{Literal, IsOn, literal_of}
use Rattle.sat_words.specs.declared.shared.Cref.{Cref}
use Rattle.clause_cell.specs.declared.holes.Hole.{Hole}
use Rattle.clause_cell.specs.Packing.{words_for, half}
use Rattle.clause_cell.specs.Free.{is_free}
use Rattle.ring_port.specs.PortState.{Holding}

-- Reading words

-- the word at a place, 0 if there is none
abbrev pub word_at : List ℕ → ℕ → ℕ
word_at ws w = slice_index_or ws w 0

-- the size of the clause at an address
abbrev pub size_at : List ℕ → ℕ → ℕ
size_at ws a = word_at ws (a + 2) % 2 ^ 32

-- how many words the clause at an address takes
abbrev pub words_at : List ℕ → ℕ → ℕ
words_at ws a = words_for (size_at ws a)

-- literal i of the clause at an address
abbrev pub lit_at : List ℕ → ℕ → ℕ → Literal
lit_at ws a i = literal_of (half (word_at ws (a + 3 + i / 2)) i)

-- the literals of the clause at an address
abbrev pub lits_of : List ℕ → ℕ → List Literal
lits_of ws a = map (λ i. lit_at ws a i) (range_with_len 0 (size_at ws a))

-- the clause at an address
abbrev pub clause_in : List ℕ → ℕ → Holding
clause_in ws a = record { address = a; number = word_at ws (a + 1); glue = word_at ws (a + 2) / 2 ^ 32; lits = lits_of ws a }

-- the clauses at some addresses
abbrev pub clauses_in : List ℕ → List Cref → List Holding
clauses_in ws cs = map (λ c. clause_in ws c.address) cs

-- Stretches

-- the clause's words are there, none of them is free, and its literals are on variables that a literal can have
pub record Stands (ws : List ℕ) (hs : List Hole) (a : ℕ) : Type 0 where
  pub fits : a + words_at ws a ≤ length ws
  pub busy : (w : ℕ) → a ≤ w → w < a + words_at ws a → is_free hs w ≡ false
  pub on : All (IsOn (2 ^ 30)) (lits_of ws a)

-- two clauses have no word in common
abbrev pub HaveNoWordInCommon : List ℕ → ℕ → ℕ → Type 0
HaveNoWordInCommon ws a b = (a + words_at ws a ≤ b) ⊎ (b + words_at ws b ≤ a)

-- the address is that of a start clause, or of a clause that is held or waits for its deletion
abbrev pub IsUsed : List Cref → List Cref → List Cref → Cref → Type 0
IsUsed start held waiting c = Contains start c ⊎ (Contains held c ⊎ Contains waiting c)

-- the stretch that was freed last has no word in common with a clause that is used
pub record IsFreed (ws : List ℕ) (hs : List Hole) (start held waiting : List Cref) (c : Cref) : Type 0 where
  pub stands : Stands ws hs c.address
  pub apart : (d : Cref) → IsUsed start held waiting d → HaveNoWordInCommon ws c.address d.address

-- each clause that is used stands in the words, and two of them are one or have no word in common; words that are free are
-- there; start clauses stand before the others
pub record IsStore (ws : List ℕ) (hs : List Hole) (start held waiting : List Cref) (limit : ℕ) (last : Option Cref) : Type 0 where
  pub stands : (c : Cref) → IsUsed start held waiting c → Stands ws hs c.address
  pub apart : (c d : Cref) → IsUsed start held waiting c → IsUsed start held waiting d → (c.address ≡ d.address) ⊎ HaveNoWordInCommon ws c.address d.address
  pub inside : (w : ℕ) → is_free hs w ≡ true → w < length ws
  pub front : All (λ c. c.address < limit) start
  pub freed : IfSome last (IsFreed ws hs start held waiting)

-- the start clauses, those that are held and those that wait for their deletion, each list in its order; how many words there
-- are; for how many more addresses of start clauses and of clauses held, and for how many more words, there is room; whether the
-- stretch that was freed last is among those that are free
pub record StoreData : Type 0 where
  pub start : List Holding
  pub held : List Holding
  pub waiting : List Holding
  pub end : ℕ
  pub start_room : ℕ
  pub room : ℕ
  pub word_room : ℕ
  pub settled : Bool

-- Calls

-- without the first that is this address
abbrev pub without_ref : List Cref → ℕ → List Cref
without_ref [] a = []
without_ref (c ∷ cs) a = if nat_eq c.address a then cs else c ∷ without_ref cs a

-- this many words from a on were taken: they are there, of the words that there were those were free, and none of them is free any
-- more; other words that are free were free, and all words have what they had
pub record IsClaim (ws vs : List ℕ) (hs ks : List Hole) (a need : ℕ) : Type 0 where
  pub fits : a + need ≤ length vs
  pub longer : length ws ≤ length vs
  pub same : (w : ℕ) → w < length ws → word_at vs w ≡ word_at ws w
  pub were_free : (w : ℕ) → a ≤ w → w < a + need → w < length ws → is_free hs w ≡ true
  pub taken : (w : ℕ) → a ≤ w → w < a + need → is_free ks w ≡ false
  pub others : (w : ℕ) → is_free ks w ≡ true → is_free hs w ≡ true

-- the clause stands at the address, and each other word is as before
pub record IsWritten (ws vs : List ℕ) (a number glue : ℕ) (lits : List Literal) : Type 0 where
  pub long : length vs ≡ length ws
  pub clause : clause_in vs a ≡ record { address = a; number = number; glue = glue; lits = lits }
  pub size : size_at vs a ≡ length lits
  pub on : All (IsOn (2 ^ 30)) lits
  pub others : (w : ℕ) → (w < a) ⊎ (a + words_for (length lits) ≤ w) → word_at vs w ≡ word_at ws w
