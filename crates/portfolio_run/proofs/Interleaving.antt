-- Entries of several rings among each other: what looks at a ring's own entries alone holds of all if it holds of each ring's.
use Rattle.std.proofs.Common.{◌≡◌, ◌≢◌, ◌∙◌, ◌==◌, ◌<◌, ◌≤◌, ◌&&◌, ◌||◌, ℕ, zero, suc, Bool, true, false, not, cond, List, [], ◌∷◌, ◌++◌, map, length, All, refl, sym, ap, subst, arith, append-nil, eq-eqb, ne_eqb}
use Rattle.std.specs.List.{list_any, filter, fold}
use Rattle.std.proofs.lemmas.List.Elements.{filter-append}
use Rattle.std.proofs.lemmas.Bool.{true≢false, or_parts}
use Rattle.std.proofs.lemmas.List.Folds.{list_any-append}
use mathlib.Core.Logic.{dite}
use native.Mathlib.Decide.{ℕ_discrete}
use Rattle.sat_words.specs.Literal.{Literal}
use Rattle.sat_words.specs.Clause.{has, includes, same_set}
use Rattle.rup_model.specs.Basics.{EachAfter}
use Rattle.rup_model.specs.declared.journal.TheConstants.{LEARNED_PER_REDUCTION}
use Rattle.rup_model.specs.declared.journal.Addition.{Addition}
use Rattle.rup_model.specs.declared.journal.Entry.{Entry}
use Rattle.rup_model.specs.declared.journal.Entry.TheVariants.{Add, Del, Reduce, Round}
use Rattle.rup_model.specs.Journal.{ring_of, additions, added, learned, is_learn, recent, recent_after, fresh, IsSpaced}
use Rattle.rup_model.specs.Opening.{Opening, start_clauses, adds_unit, is_new, IsNew}
use Rattle.rup_model.proofs.Additions.{additions-append, added-append, learned-append}

-- All of a list

pub cons_All : {X : Type 0} (P : X → Type 0) (x : X) (xs : List X) → P x → All P xs → All P (x ∷ xs)
cons_All P x xs p ps zero d lt = p
cons_All P x xs p ps (suc k) d lt = ps k d (omega arith)

pub later_All : {X : Type 0} (P : X → Type 0) (x : X) (xs : List X) → All P (x ∷ xs) → All P xs
later_All P x xs all k d lt = all (suc k) d (omega arith)

pub first_All : {X : Type 0} (P : X → Type 0) (x : X) (xs : List X) → All P (x ∷ xs) → P x
first_All P x xs all = all 0 x (omega arith)

-- The entries of one ring

abbrev pub own : ℕ → List Entry → List Entry
own r es = filter (λ e. ring_of e == r) es

pub own-append : (r : ℕ) (J K : List Entry) → own r (J ++ K) ≡ own r J ++ own r K
own-append r J K = filter-append (λ e. ring_of e == r) J K

own_here : (r : ℕ) (e : Entry) (es : List Entry) → ring_of e ≡ r → own r (e ∷ es) ≡ e ∷ own r es
own_here r e es is = ap (λ (t : Bool). cond t (e ∷ own r es) (own r es)) (eq-eqb (ring_of e) r is)

own_past : (r : ℕ) (e : Entry) (es : List Entry) → ring_of e ≢ r → own r (e ∷ es) ≡ own r es
own_past r e es ne = ap (λ (t : Bool). cond t (e ∷ own r es) (own r es)) (ne_eqb (ring_of e) r ne)

-- Among each other

module _ (P : List Entry → Entry → Type 0) (local : (before : List Entry) (e : Entry) → P (own (ring_of e) before) e → P before e) (rings : ℕ) where
  abbrev EachOwn : List Entry → List Entry → Type 0
  EachOwn before es = (r : ℕ) → r < rings → EachAfter P (own r before) (own r es)

  next : (before : List Entry) (e : Entry) (es : List Entry) → EachOwn before (e ∷ es) → EachOwn (before ++ e ∷ []) es
  next before e es each r lt = dite (ℕ_discrete (ring_of e) r)
      (λ is. (let h : EachAfter P (own r before) (e ∷ own r es) = subst (EachAfter P (own r before)) (own_here r e es is) (each r lt) in
      subst (λ (K : List Entry). EachAfter P K (own r es)) (sym (own-append r before (e ∷ []) ∙ ap (λ (K : List Entry). own r before ++ K) (own_here r e [] is))) h.1))
      (λ ne. (let h : EachAfter P (own r before) (own r es) = subst (EachAfter P (own r before)) (own_past r e es ne) (each r lt) in
      subst (λ (K : List Entry). EachAfter P K (own r es)) (sym (own-append r before (e ∷ []) ∙ ap (λ (K : List Entry). own r before ++ K) (own_past r e [] ne) ∙ append-nil (own r before))) h))

  pub interleaved : (before es : List Entry) → All (λ e. ring_of e < rings) es → EachOwn before es → EachAfter P before es
  interleaved before [] of_rings each = tt
  interleaved before (e ∷ es) of_rings each =
      let lt : ring_of e < rings = of_rings 0 e (omega arith) in
      let h : EachAfter P (own (ring_of e) before) (e ∷ own (ring_of e) es) = subst (EachAfter P (own (ring_of e) before)) (own_here (ring_of e) e es refl) (each (ring_of e) lt) in
      (local before e h.0, interleaved (before ++ e ∷ []) es (λ k d less. of_rings (suc k) d (omega arith)) (next before e es each))

-- a property of entries
pub all_of : (Q : ℕ → Entry → Type 0) (rings : ℕ) (es : List Entry) → All (λ e. ring_of e < rings) es → ((r : ℕ) → r < rings → All (Q r) (own r es)) → All (λ e. Q (ring_of e) e) es
all_of Q rings [] of_rings each = λ k d lt. absurd (omega arith)
all_of Q rings (e ∷ es) of_rings each =
    cons_All (λ x. Q (ring_of x) x) e es
    ((subst (All (Q (ring_of e))) (own_here (ring_of e) e es refl) (each (ring_of e) (of_rings 0 e (omega arith)))) 0 e (omega arith))
    (all_of Q rings es (λ j x l. of_rings (suc j) x (omega arith)) (λ r less. dite (ℕ_discrete (ring_of e) r)
    (λ is. later_All (Q r) e (own r es) (subst (All (Q r)) (own_here r e es is) (each r less)))
    (λ ne. subst (All (Q r)) (own_past r e es ne) (each r less))))

-- no ring has an entry
pub none_of : (rings : ℕ) (es : List Entry) → All (λ e. ring_of e < rings) es → ((r : ℕ) → r < rings → own r es ≡ []) → es ≡ []
none_of rings [] of_rings none = refl
none_of rings (e ∷ es) of_rings none =
    let z : suc (length (own (ring_of e) es)) ≡ 0 = ap length (sym (own_here (ring_of e) e es refl) ∙ none (ring_of e) (of_rings 0 e (omega arith))) in
    absurd (omega (arith, z))

-- nor one that is none of these rings
pub own_none : (r rings : ℕ) → rings ≤ r → (es : List Entry) → All (λ e. ring_of e < rings) es → own r es ≡ []
own_none r rings le [] of_rings = refl
own_none r rings le (e ∷ es) of_rings =
    own_past r e es (λ is. (let lt : ring_of e < rings = of_rings 0 e (omega arith) in absurd (omega (arith, is, lt, le))))
    ∙ own_none r rings le es (λ k d lt. of_rings (suc k) d (omega arith))

-- no ring adds a clause that passes the test
pub none_adds : (p : List Literal → Bool) (rings : ℕ) (es : List Entry) → All (λ e. ring_of e < rings) es → ((r : ℕ) → r < rings → list_any p (added (own r es)) ≡ false) → list_any p (added es) ≡ false
none_adds p rings [] of_rings none = refl
none_adds p rings (e ∷ es) of_rings none =
    let r : ℕ = ring_of e in
    let both : (K : List Entry) → list_any p (added (e ∷ K)) ≡ (list_any p (added (e ∷ [])) || list_any p (added K)) = λ K. ap (list_any p) (added-append (e ∷ []) K) ∙ list_any-append p (added (e ∷ [])) (added K) in
    let here : (list_any p (added (e ∷ [])) || list_any p (added (own r es))) ≡ false = sym (both (own r es)) ∙ ap (λ (K : List Entry). list_any p (added K)) (sym (own_here r e es refl)) ∙ none r (of_rings 0 e (omega arith)) in
    both es ∙ ap (λ (b : Bool). b || list_any p (added es)) (first_false (list_any p (added (e ∷ []))) (list_any p (added (own r es))) here)
    ∙ none_adds p rings es (λ j x l. of_rings (suc j) x (omega arith)) (λ q less. dite (ℕ_discrete (ring_of e) q)
    (λ is. second_false (list_any p (added (e ∷ []))) (list_any p (added (own q es))) (sym (both (own q es)) ∙ ap (λ (K : List Entry). list_any p (added K)) (sym (own_here q e es is)) ∙ none q less))
    (λ ne. ap (λ (K : List Entry). list_any p (added K)) (sym (own_past q e es ne)) ∙ none q less))
  where
    first_false : (a b : Bool) → (a || b) ≡ false → a ≡ false
    first_false true b h = h
    first_false false b h = refl

    second_false : (a b : Bool) → (a || b) ≡ false → b ≡ false
    second_false true b h = absurd (true≢false h)
    second_false false b h = h

-- nor does one of them if none at all is added
pub own_adds_none : (p : List Literal → Bool) (r : ℕ) (es : List Entry) → list_any p (added es) ≡ false → list_any p (added (own r es)) ≡ false
own_adds_none p r [] none = refl
own_adds_none p r (e ∷ es) none =
    let both : (K : List Entry) → list_any p (added (e ∷ K)) ≡ (list_any p (added (e ∷ [])) || list_any p (added K)) = λ K. ap (list_any p) (added-append (e ∷ []) K) ∙ list_any-append p (added (e ∷ [])) (added K) in
    let parts = or_parts (list_any p (added (e ∷ []))) (list_any p (added es)) (sym (both es) ∙ none) in
    let rest = own_adds_none p r es parts.1 in
    dite (ℕ_discrete (ring_of e) r)
    (λ is. ap (λ (K : List Entry). list_any p (added K)) (own_here r e es is) ∙ both (own r es) ∙ (λ i. parts.0 i || rest i))
    (λ ne. ap (λ (K : List Entry). list_any p (added K)) (own_past r e es ne) ∙ rest)

-- What only a ring's own entries tell

own_same : {A : Type 0} (r : ℕ) (f : List Entry → List A) → ((J K : List Entry) → f (J ++ K) ≡ f J ++ f K) → ((e : Entry) → ring_of e ≢ r → f (e ∷ []) ≡ []) → f [] ≡ [] → (J : List Entry) → f (own r J) ≡ f J
own_same r f both none empty [] = refl
own_same {A} r f both none empty (e ∷ J) = dite (ℕ_discrete (ring_of e) r)
    (λ is. ap f (own_here r e J is) ∙ both (e ∷ []) (own r J) ∙ ap (λ (xs : List A). f (e ∷ []) ++ xs) (own_same r f both none empty J) ∙ sym (both (e ∷ []) J))
    (λ ne. ap f (own_past r e J ne) ∙ own_same r f both none empty J ∙ ap (λ (xs : List A). xs ++ f J) (sym (none e ne)) ∙ sym (both (e ∷ []) J))

learned_past : (r : ℕ) (e : Entry) → ring_of e ≢ r → learned r (e ∷ []) ≡ []
learned_past r (Add x) ne = ap (λ (t : Bool). map (λ (y : Addition). y.lits) (cond (t && is_learn x.kind) (x ∷ []) [])) (ne_eqb x.ring r ne)
learned_past r (Del q n) ne = refl
learned_past r (Reduce q) ne = refl
learned_past r (Round x) ne = refl

pub learned_own : (r : ℕ) (J : List Entry) → learned r (own r J) ≡ learned r J
learned_own r J = own_same r (learned r) (learned-append r) (learned_past r) refl J

recent_past : (r : ℕ) (cs : List (List Literal)) (e : Entry) → ring_of e ≢ r → recent_after r cs e ≡ cs
recent_past r cs (Add x) ne = ap (λ (ds : List (List Literal)). cs ++ ds) (learned_past r (Add x) ne) ∙ append-nil cs
recent_past r cs (Del q n) ne = append-nil cs
recent_past r cs (Reduce q) ne = ap (λ (t : Bool). cond t [] (cs ++ learned r (Reduce q ∷ []))) (ne_eqb q r ne) ∙ append-nil cs
recent_past r cs (Round x) ne = append-nil cs

recent_from : (r : ℕ) (cs : List (List Literal)) (J : List Entry) → fold (recent_after r) cs (own r J) ≡ fold (recent_after r) cs J
recent_from r cs [] = refl
recent_from r cs (e ∷ J) = dite (ℕ_discrete (ring_of e) r)
    (λ is. ap (fold (recent_after r) cs) (own_here r e J is) ∙ recent_from r (recent_after r cs e) J)
    (λ ne. ap (fold (recent_after r) cs) (own_past r e J ne) ∙ recent_from r cs J ∙ ap (λ (ds : List (List Literal)). fold (recent_after r) ds J) (sym (recent_past r cs e ne)))

pub recent_own : (r : ℕ) (J : List Entry) → recent r (own r J) ≡ recent r J
recent_own r J = recent_from r [] J

-- the additions of a ring
abbrev of_ring : ℕ → List Entry → List Addition
of_ring r J = filter (λ (x : Addition). x.ring == r) (additions J)

of_ring-append : (r : ℕ) (J K : List Entry) → of_ring r (J ++ K) ≡ of_ring r J ++ of_ring r K
of_ring-append r J K = ap (filter (λ (x : Addition). x.ring == r)) (additions-append J K) ∙ filter-append (λ (x : Addition). x.ring == r) (additions J) (additions K)

of_ring_past : (r : ℕ) (e : Entry) → ring_of e ≢ r → of_ring r (e ∷ []) ≡ []
of_ring_past r (Add x) ne = ap (λ (t : Bool). cond t (x ∷ []) []) (ne_eqb x.ring r ne)
of_ring_past r (Del q n) ne = refl
of_ring_past r (Reduce q) ne = refl
of_ring_past r (Round x) ne = refl

adds_own : (r : ℕ) (J : List Entry) (l : Literal) → adds_unit r (own r J) l ≡ adds_unit r J l
adds_own r J l = ap (λ (xs : List Addition). list_any (same_set (l ∷ [])) (map (λ (x : Addition). x.lits) xs)) (own_same r (of_ring r) (of_ring-append r) (of_ring_past r) refl J)

pub any_alike : (p q : Literal → Bool) (c : List Literal) → ((l : Literal) → p l ≡ q l) → list_any p c ≡ list_any q c
any_alike p q [] e = refl
any_alike p q (l ∷ c) e = ap (λ (b : Bool). b || list_any p c) (e l) ∙ ap (λ (b : Bool). q l || b) (any_alike p q c e)

new_own : (o : Opening) (r : ℕ) (J : List Entry) (c : List Literal) → is_new o (own r J) r c ≡ is_new o J r c
new_own o r J c =
    ap (λ (cs : List (List Literal)). not (list_any (includes c) (start_clauses o ++ cs)) && not (list_any (λ (l : Literal). has o.units l || adds_unit r (own r J) l) c)) (recent_own r J)
    ∙ ap (λ (b : Bool). fresh (start_clauses o) J r c && not b) (any_alike (λ (l : Literal). has o.units l || adds_unit r (own r J) l) (λ (l : Literal). has o.units l || adds_unit r J l) c
    (λ l. ap (λ (b : Bool). has o.units l || b) (adds_own r J l)))

pub new_local : (o : Opening) (before : List Entry) (e : Entry) → IsNew o (own (ring_of e) before) e → IsNew o before e
new_local o before (Add x) new = λ learns. sym (new_own o x.ring before x.lits) ∙ new learns
new_local o before (Del q n) new = tt
new_local o before (Reduce q) new = tt
new_local o before (Round x) new = tt

pub spaced_local : (before : List Entry) (e : Entry) → IsSpaced (own (ring_of e) before) e → IsSpaced before e
spaced_local before (Add x) far = tt
spaced_local before (Del q n) far = tt
spaced_local before (Reduce q) far = subst (λ (cs : List (List Literal)). LEARNED_PER_REDUCTION ≤ length cs) (recent_own q before) far
spaced_local before (Round x) far = tt
