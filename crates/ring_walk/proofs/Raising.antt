-- One more literal of a clause is true.
use Rattle.std.proofs.Common.{◌≡◌, ◌≢◌, ◌∙◌, ℕ, ◌<◌, ◌≤◌, ◌+◌, ◌^◌, Bool, true, false, not, ◌&&◌, ◌||◌, ◌==◌, List, length, get_or, refl, sym, ap, subst, inl, inr, arith, cond}
use Rattle.std.specs.Prelude.{◌-◌}
use Rattle.std.specs.List.{count_by}
use Rattle.std.proofs.Math.ListN.{set}
use Rattle.std.proofs.lemmas.Bool.{cases_eq, eq-eqb, ne_eqb, true≢false, false≢true}
use Rattle.std.proofs.lemmas.List.{length-set, get_or-set_same, get_or-set_other}
use Rattle.std.proofs.lemmas.List.Sums.{sum_by-set, get_or-le-sum_by, count_by-le-length}
use Rattle.ring_walk.specs.declared.tally.Count.{Count}
use Rattle.ring_walk.specs.Listed.{AreListed, all_but, and_one}
use Rattle.ring_walk.specs.Tally.{is_false, is_by, count_at, nothing, IsCount, AreTables}

yes : (b : Bool) → b ≡ true → ◌≡◌ {A = ℕ} (cond {A = ℕ} b 1 0) 1
yes true e = refl
yes false e = absurd (false≢true e)

nope : (b : Bool) → b ≡ false → ◌≡◌ {A = ℕ} (cond {A = ℕ} b 1 0) 0
nope true e = absurd (true≢false e)
nope false e = refl

-- one count changed changes the counts of those that pass
pub count_set : (f : Count → Bool) (cs : List Count) (i : ℕ) (x : Count) → i < length cs → count_by f (set cs i x) + cond (f (count_at cs i)) 1 0 ≡ count_by f cs + cond (f x) 1 0
count_set f cs i x lt = sum_by-set (λ c. cond (f c) 1 0) cs i x nothing lt

pub same_false : (cs : List Count) (i : ℕ) (x : Count) → i < length cs → is_false x ≡ false → (j : ℕ) → all_but i (λ k. is_false (count_at cs k)) j ≡ is_false (count_at (set cs i x) j)
same_false cs i x lt none j = elim (cases_eq j i) as (λ _. all_but i (λ k. is_false (count_at cs k)) j ≡ is_false (count_at (set cs i x) j)) [
  | inl e ↦ by (is_false (count_at cs j)) (j == i) (eq-eqb j i e) ∙ sym (ap (λ (k : ℕ). is_false (count_at (set cs i x) k)) e ∙ ap is_false (get_or-set_same cs i x nothing lt) ∙ none)
  | inr ne ↦ kept (is_false (count_at cs j)) (j == i) (ne_eqb j i ne) ∙ sym (ap is_false (get_or-set_other cs i j x nothing ne))
]
  where
    by : (a b : Bool) → b ≡ true → (a && not b) ≡ false
    by true true h = refl
    by true false h = absurd (false≢true h)
    by false b h = refl

    kept : (a b : Bool) → b ≡ false → (a && not b) ≡ a
    kept true false h = refl
    kept true true h = absurd (true≢false h)
    kept false b h = refl

pub still_false : (cs : List Count) (i : ℕ) (x : Count) → i < length cs → is_false x ≡ is_false (count_at cs i) → (j : ℕ) → is_false (count_at cs j) ≡ is_false (count_at (set cs i x) j)
still_false cs i x lt same j = elim (cases_eq j i) as (λ _. is_false (count_at cs j) ≡ is_false (count_at (set cs i x) j)) [
  | inl e ↦ ap (λ (k : ℕ). is_false (count_at cs k)) e ∙ sym same ∙ sym (ap (λ (k : ℕ). is_false (count_at (set cs i x) k)) e ∙ ap is_false (get_or-set_same cs i x nothing lt))
  | inr ne ↦ sym (ap is_false (get_or-set_other cs i j x nothing ne))
]

pub each_set : (vars : ℕ) (cs : List Count) (i : ℕ) (x : Count) → i < length cs → ((j : ℕ) → j < length cs → IsCount vars (count_at cs j)) → IsCount vars x → (j : ℕ) → j < length (set cs i x) → IsCount vars (count_at (set cs i x) j)
each_set vars cs i x lt each new j low = elim (cases_eq j i) as (λ _. IsCount vars (count_at (set cs i x) j)) [
  | inl e ↦ subst (λ (k : ℕ). IsCount vars (count_at (set cs i x) k)) (sym e) (subst (IsCount vars) (sym (get_or-set_same cs i x nothing lt)) new)
  | inr ne ↦ subst (IsCount vars) (sym (get_or-set_other cs i j x nothing ne)) (each j (let a = length-set cs i x in omega arith))
]

is_by_is : (v : ℕ) (c : Count) → c.trues ≡ 1 → is_by v c ≡ (c.sum == v)
is_by_is v c one = ap (λ (b : Bool). b && (c.sum == v)) (eq-eqb c.trues 1 one)

not_by : (v : ℕ) (c : Count) → c.trues ≢ 1 → is_by v c ≡ false
not_by v c ne = ap (λ (b : Bool). b && (c.sum == v)) (ne_eqb c.trues 1 ne)

-- the first literal: the clause is out of the list, and the variable breaks one clause more
pub first_tables : (vars : ℕ) (cs : List Count) (L Q B M R : List ℕ) (i v : ℕ) (x : Count) → AreTables vars cs L Q B → i < length cs → v ≤ vars → (count_at cs i).trues ≡ 0 → x.trues ≡ 1 → x.sum ≡ v
    → AreListed (all_but i (λ j. is_false (count_at cs j))) (length cs) M R → length M + 1 ≡ length L → AreTables vars (set cs i x) M R (set B v (get_or B v 0 + 1))
first_tables vars cs L Q B M R i v x t low on none one sum listed fewer = record {
  few = let a = length-set cs i x in let b = t.few in omega arith;
  wide = length-set B v (get_or B v 0 + 1) ∙ t.wide;
  each = each_set vars cs i x low t.each (record { none = λ e. absurd (omega arith); alone = λ e. omega arith });
  listed = subst (λ (n : ℕ). AreListed (λ j. is_false (count_at (set cs i x) j)) n M R) (sym (length-set cs i x))
      (subst (λ (P : ℕ → Bool). AreListed P (length cs) M R) (λ k j. same_false cs i x low (ne_eqb x.trues 0 (λ e. omega arith)) j k) listed);
  many =
      let a = count_set is_false cs i x low in
      let b = yes (is_false (count_at cs i)) (eq-eqb (count_at cs i).trues 0 none) in
      let d = nope (is_false x) (ne_eqb x.trues 0 (λ e. omega arith)) in
      let m = t.many in
      omega arith;
  by_one = λ u le.
      let a = count_set (is_by u) cs i x low in
      let b = nope (is_by u (count_at cs i)) (not_by u (count_at cs i) (λ e. omega arith)) in
      let was = t.by_one u le in
      elim (cases_eq u v) as (λ _. get_or (set B v (get_or B v 0 + 1)) u 0 ≡ count_by (is_by u) (set cs i x)) [
        | inl e ↦ (
            let d = yes (is_by u x) (is_by_is u x one ∙ eq-eqb x.sum u (sum ∙ sym e)) in
            let w = t.wide in
            let g : get_or (set B v (get_or B v 0 + 1)) u 0 ≡ get_or B v 0 + 1 = ap (λ (k : ℕ). get_or (set B v (get_or B v 0 + 1)) k 0) e ∙ get_or-set_same B v (get_or B v 0 + 1) 0 (omega arith) in
            let h : get_or B v 0 ≡ get_or B u 0 = ap (λ (k : ℕ). get_or B k 0) (sym e) in
            omega arith)
        | inr ne ↦ (
            let d = nope (is_by u x) (is_by_is u x one ∙ ne_eqb x.sum u (λ e. ne (sym e ∙ sum))) in
            let g = get_or-set_other B v u (get_or B v 0 + 1) 0 ne in
            omega arith)
      ];
}

-- the second literal: the variable of the first breaks one clause less
pub second_tables : (vars : ℕ) (cs : List Count) (L Q B : List ℕ) (i s : ℕ) (x : Count) → AreTables vars cs L Q B → i < length cs → (count_at cs i).trues ≡ 1 → (count_at cs i).sum ≡ s → x.trues ≡ 2
    → AreTables vars (set cs i x) L Q (set B s (get_or B s 0 - 1))
second_tables vars cs L Q B i s x t low one sum two = record {
  few = let a = length-set cs i x in let b = t.few in omega arith;
  wide = length-set B s (get_or B s 0 - 1) ∙ t.wide;
  each = each_set vars cs i x low t.each (record { none = λ e. absurd (omega arith); alone = λ e. absurd (omega arith) });
  listed = subst (λ (n : ℕ). AreListed (λ j. is_false (count_at (set cs i x) j)) n L Q) (sym (length-set cs i x))
      (subst (λ (P : ℕ → Bool). AreListed P (length cs) L Q) (λ k j. still_false cs i x low (ne_eqb x.trues 0 (λ e. omega arith) ∙ sym (ne_eqb (count_at cs i).trues 0 (λ e. omega arith))) j k) t.listed);
  many =
      let a = count_set is_false cs i x low in
      let b = nope (is_false (count_at cs i)) (ne_eqb (count_at cs i).trues 0 (λ e. omega arith)) in
      let d = nope (is_false x) (ne_eqb x.trues 0 (λ e. omega arith)) in
      let m = t.many in
      omega arith;
  by_one = λ u le.
      let a = count_set (is_by u) cs i x low in
      let d = nope (is_by u x) (not_by u x (λ e. omega arith)) in
      let was = t.by_one u le in
      elim (cases_eq u s) as (λ _. get_or (set B s (get_or B s 0 - 1)) u 0 ≡ count_by (is_by u) (set cs i x)) [
        | inl e ↦ (
            let b = yes (is_by u (count_at cs i)) (is_by_is u (count_at cs i) one ∙ eq-eqb (count_at cs i).sum u (sum ∙ sym e)) in
            let w = t.wide in
            let g : get_or (set B s (get_or B s 0 - 1)) u 0 ≡ get_or B s 0 - 1 = ap (λ (k : ℕ). get_or (set B s (get_or B s 0 - 1)) k 0) e ∙ get_or-set_same B s (get_or B s 0 - 1) 0 (omega arith) in
            let h : get_or B s 0 ≡ get_or B u 0 = ap (λ (k : ℕ). get_or B k 0) (sym e) in
            omega arith)
        | inr ne ↦ (
            let b = nope (is_by u (count_at cs i)) (is_by_is u (count_at cs i) one ∙ ne_eqb (count_at cs i).sum u (λ e. ne (sym e ∙ sum))) in
            let g = get_or-set_other B s u (get_or B s 0 - 1) 0 ne in
            omega arith)
      ];
}

-- a further literal
pub further_tables : (vars : ℕ) (cs : List Count) (L Q B : List ℕ) (i : ℕ) (x : Count) → AreTables vars cs L Q B → i < length cs → 2 ≤ (count_at cs i).trues → 2 ≤ x.trues → AreTables vars (set cs i x) L Q B
further_tables vars cs L Q B i x t low some more = record {
  few = let a = length-set cs i x in let b = t.few in omega arith;
  wide = t.wide;
  each = each_set vars cs i x low t.each (record { none = λ e. absurd (omega arith); alone = λ e. absurd (omega arith) });
  listed = subst (λ (n : ℕ). AreListed (λ j. is_false (count_at (set cs i x) j)) n L Q) (sym (length-set cs i x))
      (subst (λ (P : ℕ → Bool). AreListed P (length cs) L Q) (λ k j. still_false cs i x low (ne_eqb x.trues 0 (λ e. omega arith) ∙ sym (ne_eqb (count_at cs i).trues 0 (λ e. omega arith))) j k) t.listed);
  many =
      let a = count_set is_false cs i x low in
      let b = nope (is_false (count_at cs i)) (ne_eqb (count_at cs i).trues 0 (λ e. omega arith)) in
      let d = nope (is_false x) (ne_eqb x.trues 0 (λ e. omega arith)) in
      let m = t.many in
      omega arith;
  by_one = λ u le.
      let a = count_set (is_by u) cs i x low in
      let b = nope (is_by u (count_at cs i)) (not_by u (count_at cs i) (λ e. omega arith)) in
      let d = nope (is_by u x) (not_by u x (λ e. omega arith)) in
      let was = t.by_one u le in
      omega arith;
}

-- a clause that is true by a literal of the variable alone is counted
pub some_broken : (vars : ℕ) (cs : List Count) (L Q B : List ℕ) (i : ℕ) → AreTables vars cs L Q B → i < length cs → (count_at cs i).trues ≡ 1 → (1 ≤ get_or B (count_at cs i).sum 0) × ((count_at cs i).sum < length B)
some_broken vars cs L Q B i t low one =
    let le : (count_at cs i).sum ≤ vars = (t.each i low).alone one in
    let a = get_or-le-sum_by (λ c. cond {A = ℕ} (is_by (count_at cs i).sum c) 1 0) cs i nothing low in
    let b = yes (is_by (count_at cs i).sum (count_at cs i)) (is_by_is (count_at cs i).sum (count_at cs i) one ∙ eq-eqb (count_at cs i).sum (count_at cs i).sum refl) in
    let d = t.by_one (count_at cs i).sum le in
    let w = t.wide in
    (omega arith, omega arith)

-- a count of clauses is small
pub few_broken : (vars : ℕ) (cs : List Count) (L Q B : List ℕ) (v : ℕ) → AreTables vars cs L Q B → v ≤ vars → (get_or B v 0 + 1 < 2 ^ 32) × (v < length B)
few_broken vars cs L Q B v t le =
    let a = count_by-le-length (is_by v) cs in
    let b = t.by_one v le in
    let d = t.few in
    let w = t.wide in
    (omega arith, omega arith)

pub now_false : (cs : List Count) (i : ℕ) (x : Count) → i < length cs → is_false x ≡ true → (j : ℕ) → and_one i (λ k. is_false (count_at cs k)) j ≡ is_false (count_at (set cs i x) j)
now_false cs i x lt yes_x j = elim (cases_eq j i) as (λ _. and_one i (λ k. is_false (count_at cs k)) j ≡ is_false (count_at (set cs i x) j)) [
  | inl e ↦ by (is_false (count_at cs j)) (j == i) (eq-eqb j i e) ∙ sym (ap (λ (k : ℕ). is_false (count_at (set cs i x) k)) e ∙ ap is_false (get_or-set_same cs i x nothing lt) ∙ yes_x)
  | inr ne ↦ kept (is_false (count_at cs j)) (j == i) (ne_eqb j i ne) ∙ sym (ap is_false (get_or-set_other cs i j x nothing ne))
]
  where
    by : (a b : Bool) → b ≡ true → (a || b) ≡ true
    by true b h = refl
    by false b h = h

    kept : (a b : Bool) → b ≡ false → (a || b) ≡ a
    kept true b h = refl
    kept false b h = h

-- no literal is true any more: the clause joins the list, and the variable breaks one clause less
pub none_tables : (vars : ℕ) (cs : List Count) (L Q B M R : List ℕ) (i s : ℕ) (x : Count) → AreTables vars cs L Q B → i < length cs → (count_at cs i).trues ≡ 1 → (count_at cs i).sum ≡ s → x.trues ≡ 0 → x.sum ≡ 0
    → AreListed (and_one i (λ j. is_false (count_at cs j))) (length cs) M R → length M ≡ length L + 1 → AreTables vars (set cs i x) M R (set B s (get_or B s 0 - 1))
none_tables vars cs L Q B M R i s x t low one sum zero_x sum_x listed more = record {
  few = let a = length-set cs i x in let b = t.few in omega arith;
  wide = length-set B s (get_or B s 0 - 1) ∙ t.wide;
  each = each_set vars cs i x low t.each (record { none = λ e. sum_x; alone = λ e. absurd (omega arith) });
  listed = subst (λ (n : ℕ). AreListed (λ j. is_false (count_at (set cs i x) j)) n M R) (sym (length-set cs i x))
      (subst (λ (P : ℕ → Bool). AreListed P (length cs) M R) (λ k j. now_false cs i x low (eq-eqb x.trues 0 zero_x) j k) listed);
  many =
      let a = count_set is_false cs i x low in
      let b = nope (is_false (count_at cs i)) (ne_eqb (count_at cs i).trues 0 (λ e. omega arith)) in
      let d = yes (is_false x) (eq-eqb x.trues 0 zero_x) in
      let m = t.many in
      omega arith;
  by_one = λ u le.
      let a = count_set (is_by u) cs i x low in
      let d = nope (is_by u x) (not_by u x (λ e. omega arith)) in
      let was = t.by_one u le in
      elim (cases_eq u s) as (λ _. get_or (set B s (get_or B s 0 - 1)) u 0 ≡ count_by (is_by u) (set cs i x)) [
        | inl e ↦ (
            let b = yes (is_by u (count_at cs i)) (is_by_is u (count_at cs i) one ∙ eq-eqb (count_at cs i).sum u (sum ∙ sym e)) in
            let w = t.wide in
            let g : get_or (set B s (get_or B s 0 - 1)) u 0 ≡ get_or B s 0 - 1 = ap (λ (k : ℕ). get_or (set B s (get_or B s 0 - 1)) k 0) e ∙ get_or-set_same B s (get_or B s 0 - 1) 0 (omega arith) in
            let h : get_or B s 0 ≡ get_or B u 0 = ap (λ (k : ℕ). get_or B k 0) (sym e) in
            omega arith)
        | inr ne ↦ (
            let b = nope (is_by u (count_at cs i)) (is_by_is u (count_at cs i) one ∙ ne_eqb (count_at cs i).sum u (λ e. ne (sym e ∙ sum))) in
            let g = get_or-set_other B s u (get_or B s 0 - 1) 0 ne in
            omega arith)
      ];
}

-- one of two is left: its variable breaks one clause more
pub one_tables : (vars : ℕ) (cs : List Count) (L Q B : List ℕ) (i v : ℕ) (x : Count) → AreTables vars cs L Q B → i < length cs → v ≤ vars → (count_at cs i).trues ≡ 2 → x.trues ≡ 1 → x.sum ≡ v
    → AreTables vars (set cs i x) L Q (set B v (get_or B v 0 + 1))
one_tables vars cs L Q B i v x t low on two one sum = record {
  few = let a = length-set cs i x in let b = t.few in omega arith;
  wide = length-set B v (get_or B v 0 + 1) ∙ t.wide;
  each = each_set vars cs i x low t.each (record { none = λ e. absurd (omega arith); alone = λ e. omega arith });
  listed = subst (λ (n : ℕ). AreListed (λ j. is_false (count_at (set cs i x) j)) n L Q) (sym (length-set cs i x))
      (subst (λ (P : ℕ → Bool). AreListed P (length cs) L Q) (λ k j. still_false cs i x low (ne_eqb x.trues 0 (λ e. omega arith) ∙ sym (ne_eqb (count_at cs i).trues 0 (λ e. omega arith))) j k) t.listed);
  many =
      let a = count_set is_false cs i x low in
      let b = nope (is_false (count_at cs i)) (ne_eqb (count_at cs i).trues 0 (λ e. omega arith)) in
      let d = nope (is_false x) (ne_eqb x.trues 0 (λ e. omega arith)) in
      let m = t.many in
      omega arith;
  by_one = λ u le.
      let a = count_set (is_by u) cs i x low in
      let b = nope (is_by u (count_at cs i)) (not_by u (count_at cs i) (λ e. omega arith)) in
      let was = t.by_one u le in
      elim (cases_eq u v) as (λ _. get_or (set B v (get_or B v 0 + 1)) u 0 ≡ count_by (is_by u) (set cs i x)) [
        | inl e ↦ (
            let d = yes (is_by u x) (is_by_is u x one ∙ eq-eqb x.sum u (sum ∙ sym e)) in
            let w = t.wide in
            let g : get_or (set B v (get_or B v 0 + 1)) u 0 ≡ get_or B v 0 + 1 = ap (λ (k : ℕ). get_or (set B v (get_or B v 0 + 1)) k 0) e ∙ get_or-set_same B v (get_or B v 0 + 1) 0 (omega arith) in
            let h : get_or B v 0 ≡ get_or B u 0 = ap (λ (k : ℕ). get_or B k 0) (sym e) in
            omega arith)
        | inr ne ↦ (
            let d = nope (is_by u x) (is_by_is u x one ∙ ne_eqb x.sum u (λ e. ne (sym e ∙ sum))) in
            let g = get_or-set_other B v u (get_or B v 0 + 1) 0 ne in
            omega arith)
      ];
}

-- a clause that is not false leaves a place in the list
pub list_room : (vars : ℕ) (cs : List Count) (L Q B : List ℕ) (i : ℕ) → AreTables vars cs L Q B → i < length cs → (count_at cs i).trues ≡ 1 → length L < length cs
list_room vars cs L Q B i t low one =
    let a = count_by-le-length is_false (set cs i nothing) in
    let l = length-set cs i nothing in
    let b = count_set is_false cs i nothing low in
    let d = nope (is_false (count_at cs i)) (ne_eqb (count_at cs i).trues 0 (λ e. omega arith)) in
    let m = t.many in
    omega arith
