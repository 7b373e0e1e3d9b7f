-- The hints of an entry that was written are those that were given.
use Rattle.std.proofs.Common.{◌≡◌, ◌∙◌, ℕ, List, [], ◌∷◌, ◌++◌, Option, sym, refl, ap}
use Rattle.sat_words.specs.Literal.{Literal}
use Rattle.sat_words.specs.declared.shared.Cref.{Cref}
use Rattle.rup_model.specs.declared.journal.Kind.{Kind}
use Rattle.rup_model.specs.declared.journal.Kind.TheVariants.{Derive}
use Rattle.rup_model.specs.declared.journal.Entry.{Entry}
use Rattle.rup_model.specs.declared.journal.Entry.TheVariants.{Add, Del, Reduce, Round}
use Rattle.ring_port.specs.PortState.{PortState}
use Rattle.ring_port.specs.Port.{entry_of, EndsWith, AddedClause, WroteUnit, EndedLog}

-- the hints of an entry, if it adds a clause
hints_in : Entry → List ℕ
hints_in (Add x) = x.hints
hints_in (Del ring number) = []
hints_in (Reduce ring) = []
hints_in (Round round) = []

last_hints : List Entry → List ℕ
last_hints [] = []
last_hints (x ∷ []) = hints_in x
last_hints (x ∷ y ∷ xs) = last_hints (y ∷ xs)

last_pushed : (xs : List Entry) (x : Entry) → last_hints (xs ++ x ∷ []) ≡ hints_in x
unfolding last_hints
last_pushed [] x = refl
last_pushed (y ∷ []) x = refl
last_pushed (y ∷ z ∷ xs) x = last_pushed (z ∷ xs) x

given_hints : (s m : PortState) (number : ℕ) (lits : List Literal) (kind : Kind) (hints given : List ℕ) → m.mine ≡ s.mine ++ entry_of s number lits kind hints ∷ [] → EndsWith m given → hints ≡ given
unfolding hints_in
given_hints s m number lits kind hints given mine ends =
    sym (last_pushed s.mine (entry_of s number lits kind hints)) ∙ ap last_hints (sym mine ∙ ends.4) ∙ last_pushed ends.0 (entry_of m ends.1 ends.2 ends.3 given)

pub added_hints : (s m : PortState) (lits : List Literal) (glue : ℕ) (kind : Kind) (c : Cref) (given : List ℕ) (k : AddedClause s m lits glue kind c) → EndsWith m given → k.hints ≡ given
added_hints s m lits glue kind c given k ends = given_hints s m k.number lits kind k.hints given (ap (λ (x : PortState). x.mine) k.state) ends

pub unit_hints : (s m : PortState) (l : Literal) (kind : Kind) (last : Option ℕ) (given : List ℕ) (k : WroteUnit s m l kind last) → EndsWith m given → k.hints ≡ given
unit_hints s m l kind last given k ends = given_hints s m k.number (l ∷ []) kind k.hints given (ap (λ (x : PortState). x.mine) k.state) ends

pub empty_hints : (s m : PortState) (given : List ℕ) (k : EndedLog s m) → EndsWith m given → k.hints ≡ given
empty_hints s m given k ends = given_hints s m k.number [] Derive k.hints given (ap (λ (x : PortState). x.mine) k.state) ends
