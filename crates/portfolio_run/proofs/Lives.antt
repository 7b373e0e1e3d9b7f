-- Lifetimes of what a book is made of: they are those of its sink, named once for each struct on the way.
use Rattle.std.proofs.Common.{rules, ℕ, List, [], ◌++◌}
use contract.BorrowLft.{◌⊑◌, ⊑_meet}

within_none : (κ : List ℕ) → κ ⊑ []
within_none κ = search rules

within_both : (κ A B : List ℕ) → κ ⊑ A → κ ⊑ B → κ ⊑ (A ++ B)
within_both κ A B a b = search (rules, ⊑_meet)

pub within_book : (κ s : List ℕ) → κ ⊑ s → κ ⊑ ((s ++ []) ++ (((s ++ []) ++ (((s ++ []) ++ (((s ++ []) ++ (s ++ [])) ++ [])) ++ [])) ++ []))
within_book κ s w =
    let one : κ ⊑ (s ++ []) = within_both κ s [] w (within_none κ) in
    let outer : (A : List ℕ) → κ ⊑ A → κ ⊑ (((s ++ []) ++ A) ++ []) = λ A a. within_both κ ((s ++ []) ++ A) [] (within_both κ (s ++ []) A one a) (within_none κ) in
    within_both κ (s ++ []) _ one (outer _ (outer _ (outer _ one)))
