-- The literals of a made formula are on its variables.
use Rattle.std.proofs.Common.{◌≡◌, ℕ, ◌+◌, ◌%◌, ◌/◌, ◌==◌, ◌<◌, Bool, true, false, List, [], ◌∷◌, ◌++◌, All, subst, sym, arith}
use Rattle.std.proofs.lemmas.List.Elements.{All-push, All-from_recursion}
use Rattle.std.specs.List.{AllByRecursion as ByRecursion}
use Rattle.std.specs.Prelude.{if◌then◌else◌, nat_lt}
use Rattle.sat_words.specs.Literal.{Literal, IsOn, same, code_of}
use Rattle.sat_words.specs.Clause.{clause_of, insert_lit}
use Rattle.sat_words.specs.Truth.{clause_true}
use Rattle.cnf_make.specs.Made.{Draw, made_vars, first_var, first_lit, second_lit, third_lit, drawn_lit, turned_if, with_negated, planted}

inserted_by : (vars : ℕ) (l k : Literal) (c : List Literal) (a b : Bool) → IsOn vars l → IsOn vars k → ByRecursion (IsOn vars) c → ByRecursion (IsOn vars) (insert_lit l c)
    → ByRecursion (IsOn vars) (if a then k ∷ c else if b then l ∷ k ∷ c else k ∷ insert_lit l c)
inserted_by vars l k c true b on first others inserted = (first, others)
inserted_by vars l k c false true on first others inserted = (on, (first, others))
inserted_by vars l k c false false on first others inserted = (first, inserted)

inserted_on : (vars : ℕ) (l : Literal) (c : List Literal) → IsOn vars l → ByRecursion (IsOn vars) c → ByRecursion (IsOn vars) (insert_lit l c)
inserted_on vars l [] on others = (on, others)
inserted_on vars l (k ∷ c) on (first, others) =
    inserted_by vars l k c (same l k) (nat_lt (code_of l) (code_of k)) on first others (inserted_on vars l c on others)

clause_on : (vars : ℕ) (lits : List Literal) → ByRecursion (IsOn vars) lits → ByRecursion (IsOn vars) (clause_of lits)
clause_on vars [] on = tt
clause_on vars (l ∷ lits) (first, others) = inserted_on vars l (clause_of lits) first (clause_on vars lits others)

drawn_on : (x bits : ℕ) → IsOn made_vars (drawn_lit (x % made_vars) bits)
drawn_on x bits = let small : x % 20000 < 20000 = omega arith in record { low = omega arith; high = omega (arith, small) }

turned_on : (vars : ℕ) (b : Bool) (l : Literal) → IsOn vars l → IsOn vars (turned_if b l)
turned_on vars true l on = record { low = on.low; high = on.high }
turned_on vars false l on = on

chosen_on : (vars : ℕ) (b : Bool) (xs ys : List Literal) → ByRecursion (IsOn vars) xs → ByRecursion (IsOn vars) ys → ByRecursion (IsOn vars) (if b then xs else ys)
chosen_on vars true xs ys x y = x
chosen_on vars false xs ys x y = y

planted_on : (h : List Bool) (d : Draw) → ByRecursion (IsOn made_vars) (planted h d)
planted_on h d =
    let a = drawn_on d.first d.signs in
    let b = drawn_on (first_var d + 1 + d.second % 9999) (d.signs / 2) in
    let c = drawn_on (first_var d + 10000 + d.third % 10000) (d.signs / 4) in
    let place = d.signs / 8 % 3 in
    chosen_on made_vars (clause_true h (first_lit d ∷ second_lit d ∷ third_lit d ∷ [])) (first_lit d ∷ second_lit d ∷ third_lit d ∷ []) (with_negated (first_lit d) (second_lit d) (third_lit d) place)
    (a, (b, (c, tt)))
    (turned_on made_vars (place == 0) (first_lit d) a, (turned_on made_vars (place == 1) (second_lit d) b, (turned_on made_vars (place == 2) (third_lit d) c, tt)))

-- one clause more that was drawn
pub pushed : (h : List Bool) (d : Draw) (clauses : List (List Literal)) (c : List Literal) → All (All (IsOn made_vars)) clauses → c ≡ clause_of (planted h d) → All (All (IsOn made_vars)) (clauses ++ c ∷ [])
pushed h d clauses c before is =
    All-push (All (IsOn made_vars)) clauses c before
    (subst (All (IsOn made_vars)) (sym is) (All-from_recursion (IsOn made_vars) (clause_of (planted h d)) (clause_on made_vars (planted h d) (planted_on h d))))
