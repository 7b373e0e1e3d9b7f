-- The rule of bounded variable addition (N. Manthey, M. J. H. Heule and A. Biere, "Automated Reencoding of Boolean Formulas",
-- HVC 2012): two literals with three common sets or more get a variable that stands for both.
use Rattle.std.specs.Prelude.{◌≡◌, ◌⊎◌, ◌↔◌, ⊤, ℕ, zero, suc, ◌+◌, ◌^◌, ◌<◌, ◌≤◌, Bool, true, false, ◌&&◌, ◌||◌, List, [], ◌∷◌, ◌++◌, map, length, Contains}
use Rattle.sat_words.specs.Literal.{Literal, opposite, literal_of, code_of}
use Rattle.sat_words.specs.Clause.{has}
use Rattle.rup_model.specs.declared.journal.Entry.{Entry}
use Rattle.simp_base.specs.WorkState.{WorkState, lists, numbered}
use Rattle.simp_base.specs.Calls.{ruler_adds, ruler_deletes, next_literal}
use Rattle.simp_add.specs.Common.{others, is_common, commons}

-- Partners

-- the partner of a literal: of those of greater code the one with the most common sets, at least three, and of these the one
-- of least code
pub record IsPartner (w : WorkState) (l k : Literal) : Type 0 where
  pub after : code_of l < code_of k
  pub enough : 3 ≤ length (commons w l k)
  pub most : (j : Literal) → code_of l < code_of j → length (commons w l j) ≤ length (commons w l k)
  pub least : (j : Literal) → code_of l < code_of j → code_of j < code_of k → length (commons w l j) < length (commons w l k)

-- no literal of greater code has three common sets with this one
abbrev pub HasNoPartner : WorkState → Literal → Type 0
HasNoPartner w l = (k : Literal) → code_of l < code_of k → length (commons w l k) < 3

-- Lines

-- the clauses that define the new literal as that of both, with the common sets in their order
abbrev pub additions : Literal → Literal → Literal → List (List Literal) → List (List Literal)
additions x l k Cs = (x ∷ l ∷ []) ∷ (x ∷ k ∷ []) ∷ map (λ C. opposite x ∷ C) Cs

-- the entries that add clauses, from this number on, without hints
abbrev pub adds : ℕ → List (List Literal) → List Entry
adds n [] = []
adds n (c ∷ cs) = ruler_adds n c [] ∷ adds (suc n) cs

-- the clause is one of the two literals with a common set
abbrev pub is_replaced : List (List Literal) → Literal → Literal → List Literal → Bool
is_replaced G l k c = (has c l && is_common G l k (others l c)) || (has c k && is_common G l k (others k c))

-- no number stands twice
abbrev pub Distinct : List ℕ → Type 0
Distinct [] = ⊤
Distinct (n ∷ ns) = (Contains ns n → ⊥) × Distinct ns

-- the two literals with their common sets are replaced by clauses of the new one: the additions come first, then the old
-- clauses are deleted, each copy of them, in any order; the clauses are fewer afterwards
pub record Exchanged (old new : WorkState) (x l k : Literal) (entries : List Entry) : Type 0 where
  pub gone : List ℕ
  pub are : entries ≡ adds (old.output.last + 1) (additions x l k (commons old l k)) ++ map ruler_deletes gone
  pub once : Distinct gone
  pub every : (n : ℕ) → Contains gone n ↔ ((c : List Literal) × Contains old.clauses (n, c) × (is_replaced (lists old.clauses) l k c ≡ true))
  pub clauses : (n : ℕ) (c : List Literal) → Contains new.clauses (n, c)
      ↔ ((Contains old.clauses (n, c) × (is_replaced (lists old.clauses) l k c ≡ false)) ⊎ Contains (numbered (old.output.last + 1) (additions x l k (commons old l k))) (n, c))
  pub fewer : length new.clauses < length old.clauses

-- so they are by those of the next variable, if there is one
pub record Replaced (old new : WorkState) (l k : Literal) (entries : List Entry) : Type 0 where
  pub room : old.vars < 2 ^ 30
  pub vars : new.vars ≡ old.vars + 1
  pub exchanged : Exchanged old new (next_literal old) l k entries

-- All literals in turn

-- the literals in turn: that of code 2 first, which is the positive one of variable 1
abbrev pub nth_literal : ℕ → Literal
nth_literal n = literal_of (n + 2)

-- a literal without a partner is passed over
pub record Passed (old new : WorkState) (l : Literal) (entries : List Entry) : Type 0 where
  pub none : HasNoPartner old l
  pub same : new ≡ old
  pub quiet : entries ≡ []

-- a literal in its turn: it is passed over, or replaced with its partner
abbrev pub Turn : WorkState → WorkState → Literal → List Entry → Type 0
Turn old new l entries = Passed old new l entries ⊎ ((k : Literal) × IsPartner old l k × Replaced old new l k entries)

-- the first literals, this many of them, had their turn, each once, one after another
abbrev pub Ran : ℕ → WorkState → WorkState → List Entry → Type 0
Ran zero old new entries = (new ≡ old) × (entries ≡ [])
Ran (suc n) old new entries = (between : WorkState) × (before : List Entry) × (last : List Entry) × (entries ≡ before ++ last)
    × Ran n old between before × Turn between new (nth_literal n) last

-- the next literal is of no variable of the work, those that were made among them, or of none at all, since literals are on
-- variables up to 2^30; or it has a partner, and there is no variable left for the two
abbrev pub IsOver : ℕ → WorkState → Type 0
IsOver n w = (w.vars < (nth_literal n).var) ⊎ ((2 ^ 30 < (nth_literal n).var) ⊎ ((k : Literal) × IsPartner w (nth_literal n) k × (2 ^ 30 ≤ w.vars)))
