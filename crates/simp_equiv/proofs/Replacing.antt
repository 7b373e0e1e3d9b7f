-- What the entries of replacements do.
use Rattle.std.proofs.Common.{◌≡◌, ◌≢◌, ◌≤◌, Bool, true, false, not, ◌||◌, List, [], ◌∷◌, map, cond, sym, refl, ap, subst, ◌∙◌, inl, inr, Contains}
use Rattle.std.specs.Prelude.{⊤}
use Rattle.sat_words.specs.Literal.{Literal, opposite}
use Rattle.sat_words.specs.Clause.{clause_of}
use Rattle.sat_words.proofs.Insertion.{has-clause_of}
use Rattle.sat_words.specs.Truth.{lit_true, clause_true, formula_true}
use Rattle.sat_words.proofs.Members.{clause_true_alike}
use Rattle.rup_model.proofs.Lists.{In, any_In, In_any, all_In, In_all, map_In, In_Contains, Contains_In}
use Rattle.model_stack.specs.declared.stack.Fix.{Fix}
use Rattle.model_stack.specs.Extend.{made_true, mended, extend, Lifts}
use Rattle.simp_equiv.specs.Replacements.{Becomes, was_true, is_true, stays, Replacement, replacement_entries, replaced_entries}
use Rattle.simp_base.proofs.Truths.{Agree, agree_made_true, true_made_true, lit_true-opposite, true_opposites}

-- p touches no variable of q
pub record IsApart (p q : Replacement) : Type 0 where
  pub distinct : q.replaced.var ≢ p.replaced.var
  pub by_first : q.by.var ≢ p.replaced.var
  pub by_other : p.by.var ≢ q.replaced.var

-- each variable is replaced once, and none stands for another
abbrev pub Separate : List Replacement → Type 0
Separate [] = ⊤
Separate (p ∷ ps) = (1 ≤ p.replaced.var) × (p.by.var ≢ p.replaced.var) × ((q : Replacement) → Contains ps q → IsApart p q) × Separate ps

-- what is told of a literal by the list of replacements: it is replaced, or its negation is, or its variable is in none
pub data Told (rep : Literal → Literal) (ps : List Replacement) (l : Literal) : Type 0 where
  listed : (p : Replacement) → Contains ps p → l ≡ p.replaced → rep l ≡ p.by → Told rep ps l
  negated : (p : Replacement) → Contains ps p → l ≡ opposite p.replaced → rep l ≡ opposite p.by → Told rep ps l
  itself : rep l ≡ l → ((p : Replacement) → Contains ps p → l.var ≢ p.replaced.var) → Told rep ps l

mended-true : (e : Fix) (a : List Bool) → clause_true a e.clause ≡ true → mended a e ≡ a
mended-true e a h = ap (λ (t : Bool). cond t a (made_true a e.lit)) h

mended-false : (e : Fix) (a : List Bool) → clause_true a e.clause ≡ false → mended a e ≡ made_true a e.lit
mended-false e a h = ap (λ (t : Bool). cond t a (made_true a e.lit)) h

two : (a : List Bool) (k l : Literal) (s t : Bool) → lit_true a k ≡ s → lit_true a l ≡ t → clause_true a (clause_of (k ∷ l ∷ [])) ≡ (s || (t || false))
two a k l s t e f = clause_true_alike a (clause_of (k ∷ l ∷ [])) (k ∷ l ∷ []) (has-clause_of (k ∷ l ∷ [])) ∙ (λ i. e i || (f i || false))

-- after the two entries the literal has the value of the one that stands for it, and no other variable changed
record Replaced (y r : Literal) (a b : List Bool) : Type 0 where
  same : lit_true b y ≡ lit_true a r
  others : Agree y a b

replaced : (p : Replacement) (a : List Bool) → 1 ≤ p.replaced.var → p.by.var ≢ p.replaced.var → Replaced p.replaced p.by a (extend (replacement_entries p) a)
replaced p a pos ne = by (lit_true a p.replaced) (lit_true a p.by) refl refl
  where
    up : Fix
    up = record { lit = p.replaced; clause = clause_of (p.replaced ∷ opposite p.by ∷ []) }

    down : Fix
    down = record { lit = opposite p.replaced; clause = clause_of (opposite p.replaced ∷ p.by ∷ []) }

    alone : (b : List Bool) → b ≡ a → lit_true a p.replaced ≡ lit_true a p.by → Replaced p.replaced p.by a b
    alone b e s = record { same = ap (λ (c : List Bool). lit_true c p.replaced) e ∙ s; others = λ l n. ap (λ (c : List Bool). lit_true c l) e }

    by : (s t : Bool) → lit_true a p.replaced ≡ s → lit_true a p.by ≡ t → Replaced p.replaced p.by a (mended (mended a down) up)
    by true true e f =
        let d = mended-true down a (two a (opposite p.replaced) p.by false true (lit_true-opposite a p.replaced ∙ ap not e) f) in
        let u = mended-true up a (two a p.replaced (opposite p.by) true false e (lit_true-opposite a p.by ∙ ap not f)) in
        alone _ (ap (λ (c : List Bool). mended c up) d ∙ u) (e ∙ sym f)
    by false false e f =
        let d = mended-true down a (two a (opposite p.replaced) p.by true false (lit_true-opposite a p.replaced ∙ ap not e) f) in
        let u = mended-true up a (two a p.replaced (opposite p.by) false true e (lit_true-opposite a p.by ∙ ap not f)) in
        alone _ (ap (λ (c : List Bool). mended c up) d ∙ u) (e ∙ sym f)
    by false true e f =
        let d = mended-true down a (two a (opposite p.replaced) p.by true true (lit_true-opposite a p.replaced ∙ ap not e) f) in
        let u = mended-false up a (two a p.replaced (opposite p.by) false false e (lit_true-opposite a p.by ∙ ap not f)) in
        let all = ap (λ (c : List Bool). mended c up) d ∙ u in
        record {
          same = ap (λ (c : List Bool). lit_true c p.replaced) all ∙ true_made_true a p.replaced pos ∙ sym f;
          others = λ l n. ap (λ (c : List Bool). lit_true c l) all ∙ agree_made_true p.replaced a l n;
        }
    by true false e f =
        let b : List Bool = made_true a (opposite p.replaced) in
        let d = mended-false down a (two a (opposite p.replaced) p.by false false (lit_true-opposite a p.replaced ∙ ap not e) f) in
        let off : lit_true b (opposite p.replaced) ≡ true = true_made_true a (opposite p.replaced) pos in
        let y_off : lit_true b p.replaced ≡ false = flip b off in
        let r_off : lit_true b p.by ≡ false = agree_made_true (opposite p.replaced) a p.by ne ∙ f in
        let u = mended-true up b (two b p.replaced (opposite p.by) false true y_off (lit_true-opposite b p.by ∙ ap not r_off)) in
        let all = ap (λ (c : List Bool). mended c up) d ∙ u in
        record {
          same = ap (λ (c : List Bool). lit_true c p.replaced) all ∙ y_off ∙ sym f;
          others = λ l n. ap (λ (c : List Bool). lit_true c l) all ∙ agree_made_true (opposite p.replaced) a l n;
        }
      where
        flip : (b : List Bool) → lit_true b (opposite p.replaced) ≡ true → lit_true b p.replaced ≡ false
        flip b o = swap (lit_true b p.replaced) (sym (lit_true-opposite b p.replaced) ∙ o)
          where
            swap : (t : Bool) → not t ≡ true → t ≡ false
            swap true q = sym q
            swap false q = refl

-- all of them
pub record Rewritten (ps : List Replacement) (a b : List Bool) : Type 0 where
  pub same : (p : Replacement) → In p ps → lit_true b p.replaced ≡ lit_true a p.by
  pub others : (l : Literal) → ((p : Replacement) → In p ps → l.var ≢ p.replaced.var) → lit_true b l ≡ lit_true a l

pub rewritten : (ps : List Replacement) (a : List Bool) → Separate ps → Rewritten ps a (extend (replaced_entries ps) a)
rewritten [] a s = record { same = λ p h. absurd h; others = λ l h. refl }
rewritten (p ∷ ps) a s =
    let b : List Bool = extend (replaced_entries ps) a in
    let r = rewritten ps a s.3 in
    let one = replaced p b s.0 s.1 in
    record {
      same = λ q h. first b r one q h;
      others = λ l h. one.others l (h p (inl refl)) ∙ r.others l (λ q k. h q (inr k));
    }
  where
    first : (b : List Bool) → Rewritten ps a b → Replaced p.replaced p.by b (extend (replacement_entries p) b) → (q : Replacement) → In q (p ∷ ps)
        → lit_true (extend (replacement_entries p) b) q.replaced ≡ lit_true a q.by
    first b r one q (inl e) =
        subst (λ (z : Replacement). lit_true (extend (replacement_entries p) b) z.replaced ≡ lit_true a z.by) e
        (one.same ∙ r.others p.by (λ z k. (s.2 z (In_Contains ps z k)).by_other))
    first b r one q (inr k) = one.others q.replaced (s.2 q (In_Contains ps q k)).distinct ∙ r.same q k

-- each literal has the value of the one that stands for it
pub record StandsBy (rep : Literal → Literal) (S : List Fix) : Type 0 where
  pub reads : (a : List Bool) (l : Literal) → lit_true (extend S a) l ≡ lit_true a (rep l)

pub lifts_substituted : (rep : Literal → Literal) (F H : List (List Literal)) (S : List Fix) → StandsBy rep S
    → ((c : List Literal) → Contains F c → Becomes rep c H) → Lifts F H S
lifts_substituted rep F H S stand each a all = In_all (clause_true (extend S a)) F (λ c inF. by a all c (each c (In_Contains F c inF)))
  where
    through : (a : List Bool) (c : List Literal) → clause_true a (map rep c) ≡ true → clause_true (extend S a) c ≡ true
    through a c h =
        let t = In_any (lit_true a) (map rep c) h in
        let m = map_In rep c t.0 t.1 in
        any_In (lit_true (extend S a)) c m.0 m.1 (stand.reads a m.0 ∙ ap (lit_true a) m.2 ∙ t.2)

    by : (a : List Bool) → formula_true a H ≡ true → (c : List Literal) → Becomes rep c H → clause_true (extend S a) c ≡ true
    by a all c (was_true t) = true_opposites (extend S a) c t
    by a all c (is_true t) = through a c (true_opposites a (map rep c) t)
    by a all c (stays d inH alike) = through a c (sym (clause_true_alike a d (map rep c) alike) ∙ all_In (clause_true a) H d all (Contains_In H d inH))

stands_by_entries : (rep : Literal → Literal) (ps : List Replacement) → Separate ps → ((l : Literal) → Told rep ps l) → StandsBy rep (replaced_entries ps)
stands_by_entries rep ps s g = record { reads = λ a l. at a l (g l) (rewritten ps a s) }
  where
    at : (a : List Bool) (l : Literal) → Told rep ps l
        → Rewritten ps a (extend (replaced_entries ps) a) → lit_true (extend (replaced_entries ps) a) l ≡ lit_true a (rep l)
    at a l (listed p h e f) r = ap (lit_true (extend (replaced_entries ps) a)) e ∙ r.same p (Contains_In ps p h) ∙ ap (lit_true a) (sym f)
    at a l (negated p h e f) r =
        ap (lit_true (extend (replaced_entries ps) a)) e ∙ lit_true-opposite (extend (replaced_entries ps) a) p.replaced ∙ ap not (r.same p (Contains_In ps p h))
        ∙ sym (lit_true-opposite a p.by) ∙ ap (lit_true a) (sym f)
    at a l (itself e ne) r = r.others l (λ p k. ne p (In_Contains ps p k)) ∙ ap (lit_true a) (sym e)

pub lifts_replaced : (rep : Literal → Literal) (ps : List Replacement) (F H : List (List Literal)) → Separate ps → ((l : Literal) → Told rep ps l)
    → ((c : List Literal) → Contains F c → Becomes rep c H) → Lifts F H (replaced_entries ps)
lifts_replaced rep ps F H s told each = lifts_substituted rep F H (replaced_entries ps) (stands_by_entries rep ps s told) each
