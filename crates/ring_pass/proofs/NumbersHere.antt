-- The table of units' numbers, while more units are seen.
use Rattle.std.proofs.Common.{◌≡◌, ◌≢◌, ℕ, ◌+◌, ◌*◌, ◌<◌, ◌≤◌, ◌==◌, Bool, true, false, ◌||◌, if◌then◌else◌, List, [], ◌∷◌, ◌++◌, length, get_or, refl, sym, ap, subst, ◌∙◌, inl, inr, arith, eq-eqb, ne_eqb, eqb-true, Option, Some, None}
use Rattle.std.specs.Prelude.{slice_set}
use Rattle.std.specs.List.{zip, find, fold, list_any}
use Rattle.std.specs.Option.{option_map}
use Rattle.std.proofs.lemmas.Bool.{false≢true, true≢false}
use Rattle.std.proofs.lemmas.Grind.{elements}
use Rattle.sat_words.specs.Literal.{Literal, same, code_of}
use Rattle.sat_words.proofs.Members.{same-true, same-refl}
use Rattle.sat_words.specs.Clause.{has, clause_of}
use Rattle.rup_model.specs.declared.journal.Entry.{Entry}
use Rattle.rup_model.specs.declared.journal.Entry.TheVariants.{Add, Del, Reduce, Round}
use Rattle.rup_model.specs.Hints.{numbered}
use Rattle.rup_model.specs.Journal.{Book, book, book_after, formula_book, spelled}
use Rattle.rup_model.proofs.Lists.{In}
use Rattle.share_core.proofs.Counting.{none_some}
use Rattle.share_core.proofs.Knowing.{numbered_in}
use Rattle.ring_pass.specs.Numbers.{number_among, HasNumbers}

-- Lists in pairs

-- one more of both
pub zip_last : {A B : Type 0} (xs : List A) (ys : List B) (x : A) (y : B) → length ys ≡ length xs → zip (xs ++ x ∷ []) (ys ++ y ∷ []) ≡ zip xs ys ++ (x, y) ∷ []
zip_last [] [] x y e = refl
zip_last [] (b ∷ ys) x y e = absurd (omega arith)
zip_last (a ∷ xs) [] x y e = absurd (omega arith)
zip_last {A} {B} (a ∷ xs) (b ∷ ys) x y e = ap (λ (us : List (A × B)). (a, b) ∷ us) (zip_last xs ys x y (omega arith))

-- as many of the second list pair each of the first
pub zip_In : (xs : List Literal) (ys : List ℕ) (x : Literal) → length ys ≡ length xs → In x xs → (y : ℕ) × In (x, y) (zip xs ys)
zip_In [] ys x e i = absurd i
zip_In (a ∷ xs) [] x e i = absurd (omega arith)
zip_In (a ∷ xs) (b ∷ ys) x e (inl is) = (b, inl (λ j. (is j, b)))
zip_In (a ∷ xs) (b ∷ ys) x e (inr i) = let t = zip_In xs ys x (omega arith) i in (t.0, inr t.1)

-- what is paired stands in the first list
pub zip_first : (xs : List Literal) (ys : List ℕ) (x : Literal) (y : ℕ) → In (x, y) (zip xs ys) → In x xs
zip_first [] ys x y i = absurd i
zip_first (a ∷ xs) [] x y i = absurd i
zip_first (a ∷ xs) (b ∷ ys) x y (inl is) = inl (λ j. (is j).0)
zip_first (a ∷ xs) (b ∷ ys) x y (inr i) = inr (zip_first xs ys x y i)

-- Numbers among units

-- a unit's number that is not 0 stands with it
pub number_in : (us : List (Literal × ℕ)) (l : Literal) (n : ℕ) → n ≢ 0 → number_among us l ≡ n → In (l, n) us
number_in [] l n some e = absurd (some (sym e))
number_in (u ∷ us) l n some e = by (number_in us l n some) (same l u.0) refl e
  where
    by : (number_among us l ≡ n → In (l, n) us) → (b : Bool) → same l u.0 ≡ b → (if b then u.1 else number_among us l) ≡ n → In (l, n) (u ∷ us)
    by again true is f = inl (λ j. (sym (same-true l u.0 is) j, f j))
    by again false is f = inr (again f)

-- a unit that has a number has its first one
pub number_first : (us : List (Literal × ℕ)) (l : Literal) (n : ℕ) → In (l, n) us → (m : ℕ) × In (l, m) us × (number_among us l ≡ m)
number_first [] l n i = absurd i
number_first (u ∷ us) l n i = by (number_first us l n) (same l u.0) refl i
  where
    by : (In (l, n) us → (m : ℕ) × In (l, m) us × (number_among us l ≡ m)) → (b : Bool) → same l u.0 ≡ b → In (l, n) (u ∷ us) → (m : ℕ) × In (l, m) (u ∷ us) × ((if b then u.1 else number_among us l) ≡ m)
    by again true is j = (u.1, inl (λ k. (sym (same-true l u.0 is) k, u.1)), refl)
    by again false is (inl e) = absurd (false≢true (sym is ∙ ap (λ (x : Literal × ℕ). same l x.0) e ∙ same-refl l))
    by again false is (inr j) = let t = again j in (t.0, inr t.1, t.2)

or_first : (a b : Bool) → (a || b) ≡ false → a ≡ false
or_first true b f = f
or_first false b f = refl

or_rest : (a b : Bool) → (a || b) ≡ false → b ≡ false
or_rest true b f = absurd (true≢false f)
or_rest false b f = f

-- the last one, if it is new, and no other one
number_last : (seen : List Literal) (numbers : List ℕ) (x l : Literal) (n : ℕ) → length numbers ≡ length seen → has seen x ≡ false → number_among (zip seen numbers ++ (x, n) ∷ []) l ≡ (if same l x then n else number_among (zip seen numbers) l)
number_last [] numbers x l n e none = by numbers
  where
    by : (ns : List ℕ) → number_among (zip [] ns ++ (x, n) ∷ []) l ≡ (if same l x then n else number_among (zip [] ns) l)
    by ns = refl
number_last (y ∷ seen) [] x l n e none = absurd (omega arith)
number_last (y ∷ seen) (m ∷ numbers) x l n e none = by (number_last seen numbers x l n (omega arith) (or_rest (same x y) (has seen x) none)) (same l y) refl (same l x) refl
  where
    by : number_among (zip seen numbers ++ (x, n) ∷ []) l ≡ (if same l x then n else number_among (zip seen numbers) l) → (a : Bool) → same l y ≡ a → (b : Bool) → same l x ≡ b
        → (if a then m else number_among (zip seen numbers ++ (x, n) ∷ []) l) ≡ (if b then n else (if a then m else number_among (zip seen numbers) l))
    by again true ea true eb = absurd (true≢false (sym (subst (λ (z : Literal). same z y ≡ true) (same-true l x eb) ea) ∙ or_first (same x y) (has seen x) none))
    by again true ea false eb = refl
    by again false ea b eb = again ∙ (λ i. if eb i then n else number_among (zip seen numbers) l)

-- Tables

set_here : (xs : List ℕ) (i v : ℕ) → i < length xs → get_or (slice_set xs i v) i 0 ≡ v
set_here xs i v lt = grind (arith, elements)

set_else : (xs : List ℕ) (i j v : ℕ) → i ≢ j → get_or (slice_set xs i v) j 0 ≡ get_or xs j 0
set_else xs i j v ne = grind (arith, elements)

code_below : (vars : ℕ) (l : Literal) → l.var ≤ vars → code_of l < 2 * vars + 2
code_below vars l le = by l.neg
  where
    by : (b : Bool) → 2 * l.var + (if b then 1 else 0) < 2 * vars + 2
    by true = omega arith
    by false = omega arith

-- one more unit, which is noted
pub numbers_more : {seen : List Literal} {numbers : List ℕ} {vars : ℕ} {table : List ℕ} (x : Literal) (n : ℕ) → length numbers ≡ length seen → has seen x ≡ false → x.var ≤ vars → HasNumbers seen numbers vars table → HasNumbers (seen ++ x ∷ []) (numbers ++ n ∷ []) vars (slice_set table (code_of x) n)
numbers_more {seen} {numbers} {vars} {table} x n long none on h = record {
  places = (let p = h.places in let same_length = length_set table (code_of x) n in omega arith);
  there = λ l. by l (code_of l == code_of x) refl ∙ sym (ap (λ (us : List (Literal × ℕ)). number_among us l) (zip_last seen numbers x n long) ∙ number_last seen numbers x l n long none);
}
  where
    length_set : (xs : List ℕ) (i v : ℕ) → length (slice_set xs i v) ≡ length xs
    length_set xs i v = grind (arith, elements)

    by : (l : Literal) (b : Bool) → (code_of l == code_of x) ≡ b → get_or (slice_set table (code_of x) n) (code_of l) 0 ≡ (if b then n else number_among (zip seen numbers) l)
    by l true e = ap (λ (c : ℕ). get_or (slice_set table (code_of x) n) c 0) (eqb-true (code_of l) (code_of x) e) ∙ set_here table (code_of x) n (let p = h.places in let lt = code_below vars x on in omega arith)
    by l false e = set_else table (code_of x) (code_of l) n (λ f. true≢false (sym (eq-eqb (code_of l) (code_of x) (sym f)) ∙ e)) ∙ h.there l

-- the same units
pub numbers_keep : {seen seen' : List Literal} {numbers numbers' : List ℕ} {vars vars' : ℕ} {table : List ℕ} → seen' ≡ seen → numbers' ≡ numbers → vars' ≡ vars → HasNumbers seen numbers vars table → HasNumbers seen' numbers' vars' table
numbers_keep {seen} {seen'} {numbers} {numbers'} {vars} {vars'} {table} e f g h = subst (λ (y : List Literal × List ℕ × ℕ). HasNumbers y.0 y.1 y.2 table) (λ i. (sym e i, sym f i, sym g i)) h

-- Clauses by their numbers

-- of clauses that numbers name, each is found under its own
numbered_some : (cs : List (ℕ × List Literal)) (n : ℕ) (d : List Literal) → In (n, d) cs → (e : List Literal) × (numbered cs n ≡ Some e)
numbered_some [] n d i = absurd i
numbered_some (c ∷ cs) n d i = by (numbered_some cs n d) (c.0 == n) refl i
  where
    by : (In (n, d) cs → (e : List Literal) × (numbered cs n ≡ Some e)) → (b : Bool) → (c.0 == n) ≡ b → In (n, d) (c ∷ cs) → (e : List Literal) × (option_map (λ (p : ℕ × List Literal). p.1) (if b then Some c else find (λ p. p.0 == n) cs) ≡ Some e)
    by again true e j = (c.1, refl)
    by again false e (inl is) = absurd (false≢true (sym e ∙ eq-eqb c.0 n (ap (λ (p : ℕ × List Literal). p.0) is)))
    by again false e (inr j) = again j

pub numbered_found : (at : ℕ → Option (List Literal)) (cs : List (ℕ × List Literal)) → ((n : ℕ) (d : List Literal) → In (n, d) cs → at n ≡ Some d) → (n : ℕ) (d : List Literal) → In (n, d) cs → numbered cs n ≡ Some d
numbered_found at cs names n d i =
    let t = numbered_some cs n d i in
    t.1 ∙ sym (names n t.0 (numbered_in cs n t.0 t.1)) ∙ names n d i

-- No clause has the number 0

none_zero : (b : Book) (J : List Entry) → b.clause 0 ≡ None → 1 ≤ b.next → (fold book_after b J).clause 0 ≡ None
none_zero b [] none some = none
none_zero b (Add x ∷ J) none some = none_zero (book_after b (Add x)) J ((λ i. if ne_eqb 0 b.next (λ e. absurd (omega arith)) i then Some (spelled x) else b.clause 0) ∙ none) (omega arith)
none_zero b (Del r n ∷ J) none some = none_zero (book_after b (Del r n)) J (by (0 == n)) some
  where
    by : (c : Bool) → (if c then None else b.clause 0) ≡ None
    by true = refl
    by false = none
none_zero b (Reduce r ∷ J) none some = none_zero (book_after b (Reduce r)) J none some
none_zero b (Round x ∷ J) none some = none_zero (book_after b (Round x)) J (by (list_any (λ (m : ℕ). m == 0) x.starts)) some
  where
    by : (c : Bool) → (if c then option_map clause_of (b.clause 0) else b.clause 0) ≡ None
    by true = ap (λ (o : Option (List Literal)). option_map clause_of o) none
    by false = none

pub numbers_some : (F : List (List Literal)) (J : List Entry) (n : ℕ) (d : List Literal) → (book F J).clause n ≡ Some d → n ≢ 0
numbers_some F J n d is e = none_some d (sym (none_zero (formula_book F) J refl (omega arith)) ∙ ap (book F J).clause (sym e) ∙ is)
