-- A work of more variables, and tables of more codes.
use Rattle.std.proofs.Common.{◌≡◌, ℕ, ◌+◌, ◌^◌, ◌<◌, ◌≤◌, Bool, true, false, List, [], ◌∷◌, ◌++◌, length, get_or, refl, sym, ◌∙◌, subst, inl, inr, arith, Option, Some, None}
use Rattle.std.specs.Prelude.{Result, Ok, Err}
use Rattle.std.specs.List.{All}
use Rattle.std.proofs.lemmas.Bool.{cases_lt, cases_Bool}
use Rattle.sat_words.specs.Literal.{Literal, IsOn, code_of}
use Rattle.sat_words.specs.Clause.{has}
use Rattle.rup_model.specs.declared.journal.Entry.{Entry}
use Rattle.rup_model.specs.Log.{lits_of}
use Rattle.rup_model.specs.NumberedLines.{line_of}
use Rattle.rup_model.proofs.Lists.{has_In}
use Rattle.drat_text.specs.declared.stop.LineStop.{LineStop}
use Rattle.drat_text.specs.JournalText.{Origin}
use Rattle.simp_base.specs.WorkState.{WorkState, IsWork, lists}
use Rattle.simp_base.specs.Log.{Stands, Continues, Grows, GrowsLog}
use Rattle.simp_base.specs.Calls.{WasWidened}
use Rattle.simp_base.proofs.Lists.{All_In, past_end, padded_twice}
use Rattle.simp_base.proofs.Steps.{nothing_more}
use Rattle.std.proofs.Common.{append_assoc}

-- The work

pub on_wider : (v u : ℕ) → v ≤ u → (l : Literal) → IsOn v l → IsOn u l
on_wider v u le l on = record { low = on.low; high = (let h = on.high in omega arith) }

pub all_on_wider : (v u : ℕ) → v ≤ u → (c : List Literal) → All (IsOn v) c → All (IsOn u) c
all_on_wider v u le c on k d lt = on_wider v u le (get_or c k d) (on k d lt)

pub each_on_wider : (v u : ℕ) → v ≤ u → (G : List (List Literal)) → All (All (IsOn v)) G → All (All (IsOn u)) G
each_on_wider v u le G on k d lt = all_on_wider v u le (get_or G k d) (on k d lt)

module _ (w : WorkState) (u : ℕ) (le : w.vars ≤ u) where
  pub work_wider : IsWork w → IsWork (record w { vars = u })
  work_wider kept = record {
    unheld = (let low = kept.unheld in omega arith);
    numbers = kept.numbers;
    given = kept.given;
    clauses_on = each_on_wider w.vars u le (lists w.clauses) kept.clauses_on;
    units_on = all_on_wider w.vars u le w.units kept.units_on;
    stack_on = λ k d lt. (let fix = kept.stack_on k d lt in record { lit = on_wider w.vars u le (get_or w.stack k d).lit fix.lit; clause = all_on_wider w.vars u le (get_or w.stack k d).clause fix.clause });
    distinct = kept.distinct;
    units_held = kept.units_held;
  }

  pub stands_wider : (o : Origin) (mine : List Entry) → Stands o mine w → Stands o mine (record w { vars = u })
  stands_wider o mine h = record {
    sound = h.sound;
    hinted = h.hinted;
    rulers = h.rulers;
    on = each_on_wider w.vars u le _ h.on;
    ended = h.ended;
    held = h.held;
    all = h.all;
    alone = h.alone;
    told = h.told;
    every = h.every;
    lines = record {
      entries = h.lines.entries;
      last = h.lines.last;
      whole = h.lines.whole;
      short = λ q. (let t = h.lines.short q in record { next = t.next; line = t.line; one = t.one; sound = t.sound; hinted = t.hinted; on = all_on_wider w.vars u le (lits_of (line_of t.line)) t.on; format = t.format; rose = t.rose; front = t.front });
      target = h.lines.target;
      flushed = h.lines.flushed;
    };
  }

pub continues_grows : (entries : List Entry) (a b : WorkState) → Continues entries a b → Grows entries a b
continues_grows entries a b c = record { vars = (let e = c.vars in omega arith); few = λ le. subst (λ (n : ℕ). n ≤ 2 ^ 30) (sym c.vars) le; format = c.format; stands = c.stands }

pub grows_along : (fs gs : List Entry) (a b c : WorkState) → Grows fs a b → Grows gs b c → Grows (fs ++ gs) a c
grows_along fs gs a b c f g = record {
  vars = (let p = f.vars in let q = g.vars in omega arith);
  few = λ le. g.few (f.few le);
  format = g.format ∙ f.format;
  stands = λ o mine h. subst (λ es. Stands o es c) (append_assoc mine fs gs) (g.stands o (mine ++ fs) (f.stands o mine h));
}

pub logs_grow_along : (a b c : WorkState) → GrowsLog a b → GrowsLog b c → GrowsLog a c
logs_grow_along a b c f g = (f.0 ++ g.0, grows_along f.0 g.0 a b c f.1 g.1)

-- a variable more

pub one_more : (w : WorkState) → w.vars ≤ w.vars + 1
one_more w = omega arith

pub kept_widened : (old new : WorkState) (result : Result (Option Literal) LineStop) → IsWork old → WasWidened old new result → IsWork new
kept_widened old new (Ok (Some l)) kept was = subst IsWork (sym was.state) (work_wider old (old.vars + 1) (one_more old) kept)
kept_widened old new (Ok None) kept was = subst IsWork (sym was.state) kept
kept_widened old new (Err stop) kept was = subst IsWork (sym was.1) kept

pub grows_none : (w : WorkState) → Grows [] w w
grows_none w = record { vars = omega arith; few = λ le. le; format = refl; stands = nothing_more_of }
  where
    nothing_more_of : (o : Origin) (mine : List Entry) → Stands o mine w → Stands o (mine ++ []) w
    nothing_more_of o mine h = nothing_more o mine w h

pub grows_widened : (old new : WorkState) (result : Result (Option Literal) LineStop) → WasWidened old new result → Grows [] old new
grows_widened old new (Ok (Some l)) was = subst (Grows [] old) (sym was.state) (record {
  vars = one_more old;
  few = λ _. (let lt = was.below in omega arith);
  format = refl;
  stands = λ o mine h. nothing_more o mine (record old { vars = old.vars + 1 }) (stands_wider old (old.vars + 1) (one_more old) o mine h);
})
grows_widened old new (Ok None) was = subst (Grows [] old) (sym was.state) (grows_none old)
grows_widened old new (Err stop) was = subst (Grows [] old) (sym was.1) (grows_none old)

-- The tables

-- a table by code of literals of which each has a code within it
pub for_each_code : (bits : List Bool) (p : Literal → Bool) → ((l : Literal) → code_of l < length bits → get_or bits (code_of l) false ≡ p l)
    → ((l : Literal) → p l ≡ true → code_of l < length bits) → (l : Literal) → get_or ((bits ++ false ∷ []) ++ false ∷ []) (code_of l) false ≡ p l
for_each_code bits p is within l =
    padded_twice bits (code_of l) false
    ∙ elim (cases_lt (code_of l) (length bits)) as (λ _. get_or bits (code_of l) false ≡ p l) [
      | inl lt ↦ is l lt
      | inr ge ↦ past_end bits (code_of l) false ge ∙ sym (none ge)
    ]
  where
    none : length bits ≤ code_of l → p l ≡ false
    none ge = elim (cases_Bool (p l)) as (λ _. p l ≡ false) [ inl e ↦ absurd (let lt = within l e in omega arith) | inr f ↦ f ]

-- a literal listed has a code
pub listed_code : (codes : ℕ) (us : List Literal) → All (λ l. code_of l < codes) us → (l : Literal) → has us l ≡ true → code_of l < codes
listed_code codes us all l h = All_In (λ k. code_of k < codes) us l all (has_In us l h)
