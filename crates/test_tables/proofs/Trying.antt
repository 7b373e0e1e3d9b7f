-- What the tests start from makes a table.
use Rattle.std.proofs.Common.{◌≡◌, ℕ, suc, ◌^◌, ◌<◌, ◌≤◌, Bool, List, [], ◌∷◌, All, Some, length, Option, refl, ap, ◌∙◌, sym, subst, arith, append-nil}
use Rattle.std.specs.List.{list_any}
use Rattle.sat_words.specs.Literal.{Literal, IsOn}
use Rattle.sat_words.specs.Clause.{is_empty}
use Rattle.sat_words.specs.FormulaData.{FormulaData}
use Rattle.test_formulas.specs.Problems.{IsProblem}
use Rattle.rup_model.specs.Journal.{Book, formula_book}
use Rattle.share_core.specs.State.{unit_lits, unit_numbers, ArePaired}
use Rattle.share_rule.specs.declared.Layout.{Layout}
use Rattle.atomic_table.specs.declared.shared.Seat.{Seat}
use Rattle.share_rule.specs.declared.Shared.{Shared}
use Rattle.share_rule.specs.declared.view.BookOrigin.{BookOrigin}
use Rattle.share_rule.specs.declared.view.View.{View}
use Rattle.share_rule.specs.FirstWords.{MayBegin, begun_with}
use Rattle.share_rule.specs.Passes.{IsPassOf}
use Rattle.share_rule.specs.Views.{times_in, first_view, no_origin}
use Rattle.share_rule.proofs.Openings.{times_up_to}
use Rattle.share_rule.proofs.Contiguous.{opens_a_table}
use Rattle.share_core.proofs.Counting.{none_some}
use Rattle.share_rule.specs.Books.{HasLog}
use Rattle.test_tables.specs.Samples.{IsFirst}
use Rattle.test_tables.specs.Books.{account_of, IsAnyLog}
use Rattle.test_tables.specs.declared.book.SampleBook.{SampleBook}

-- units whose clauses have their numbers are paired with these
paired_from : (b : Book) (us : List (Literal × ℕ)) → All (λ u. b.clause u.1 ≡ Some (u.0 ∷ [])) us → ArePaired b (unit_lits us) (unit_numbers us)
paired_from b [] h = tt
paired_from b (u ∷ us) h = (h 0 u (omega arith), paired_from b us (λ i x lt. h (suc i) x (omega arith)))

pub may_begin : (f : FormulaData) (ss : List (ℕ × List Literal)) (us : List (Literal × ℕ)) (l : Layout) → IsProblem f ss (unit_lits us) us → l.vars ≡ f.vars → 1 ≤ l.rings → l.rings ≤ 16 → l.vars ≤ 2 ^ 30 → l.words ≤ 2 ^ 31 → 1 ≤ l.depth → l.depth ≤ 16 → l.conflicts ≤ 2 ^ 63 → MayBegin f.clauses l [] ss us
may_begin f ss us l p vars some few_rings few_vars few_words some_slot few_slots limited =
    let on : (k : Literal) → IsOn f.vars k → (1 ≤ k.var) × (k.var ≤ l.vars) = λ k o. (o.low, subst (λ (n : ℕ). k.var ≤ n) (sym vars) o.high) in
    record {
      some_ring = some;
      few_rings = few_rings;
      few_vars = few_vars;
      few_words = few_words;
      some_slot = some_slot;
      few_slots = few_slots;
      opens = opens_a_table f.clauses _ p.opens;
      ascending = p.ascending;
      going = ap (list_any is_empty) (append-nil f.clauses) ∙ p.going;
      few_entries = omega arith;
      starts = λ i s lt j k lt2. on _ (p.starts_on i s lt j k lt2);
      units = λ i k lt. on _ (p.units_on i k lt);
      paired = paired_from (formula_book f.clauses) us p.numbered;
      limited = limited;
    }

-- the first pass of a new table
pub first_from : {B : Type 0} (t : Shared B) (p : Seat (Option B) View) (l : Layout) (F : List (List Literal)) (hinted : Bool) (ss : List (ℕ × List Literal)) (us : List (Literal × ℕ)) (w : BookOrigin) → IsPassOf t p → p.me ≡ (first_view l (begun_with F l hinted [] ss us) w, [])
    → IsFirst t p 0 × (p.me.0.parts ≡ [])
first_from t p l F hinted ss us w pass is =
    let v : p.me.0 ≡ first_view l (begun_with F l hinted [] ss us) w = ap (λ m. m.0) is in (
      record { pass = pass; slots = ap (λ m. m.1) is; rights = λ r le lt. subst (λ (u : View). r < u.opening.rings → 0 < times_in r u.rights) (sym v) (λ low. let k = times_up_to r l.rings low in omega arith) lt },
      ap (λ (u : View). u.parts) v,
    )

-- no line stands in a new book
pub no_line : (b : SampleBook) (F : List (List Literal)) → (b.entries ≡ 0) × (b.last ≡ length F) → (l : Layout) → HasLog account_of IsAnyLog b no_origin l F []
no_line b F new l = record { entries = new.0; last = ap suc new.1; keeps = refl; kept = λ w ls e. absurd (none_some ls e); sink = tt }
