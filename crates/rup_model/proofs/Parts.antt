-- The ruler's part of a journal: where it ends, and that nothing in it was learned.
use Rattle.std.proofs.Common.{◌≡◌, ℕ, suc, ◌+◌, ◌<◌, ◌==◌, ◌&&◌, Bool, true, false, cond, List, [], ◌∷◌, ◌++◌, map, length, All, take, drop, sym, refl, ap, ◌∙◌, arith, ne_eqb}
use Rattle.std.specs.List.{fold, list_all, prefix_len}
use Rattle.std.specs.Option.{is_none}
use Rattle.std.proofs.lemmas.Bool.{and_parts, true≢false}
use Rattle.std.proofs.Math.Seq.{take-append_seam, drop-append_seam}
use Rattle.sat_words.specs.Literal.{Literal}
use Rattle.rup_model.specs.Basics.{EachAfter}
use Rattle.rup_model.specs.declared.journal.TheConstants.{RULER_RING}
use Rattle.rup_model.specs.declared.journal.Addition.{Addition}
use Rattle.rup_model.specs.declared.journal.Kind.{Kind}
use Rattle.rup_model.specs.declared.journal.Kind.TheVariants.{Ruler, Learn, Derive, UnitLine}
use Rattle.rup_model.specs.declared.journal.Entry.{Entry}
use Rattle.rup_model.specs.declared.journal.Entry.TheVariants.{Add, Del, Reduce, Round}
use Rattle.rup_model.specs.Journal.{reduction, ring_of, round_of, additions, is_learn, learned, is_ring, recent_after, recent, IsSpaced}
use Rattle.rup_model.specs.Opening.{is_ruler, is_rulers, Opening, IsNew, ruler_part, rings_part}

-- Where it ends

-- an entry of a ring is not the ruler's
pub rings_entry : (e : Entry) → ring_of e < RULER_RING → is_rulers e ≡ false
rings_entry e lt = by (ring_of e == RULER_RING) (list_all (λ (x : Addition). is_ruler x.kind) (additions (e ∷ [])) && (is_none (reduction e) && is_none (round_of e))) (ne_eqb (ring_of e) RULER_RING (λ q. omega arith))
  where
    by : (t u : Bool) → t ≡ false → (t && u) ≡ false
    by true u q = absurd (true≢false q)
    by false u q = refl

no_prefix : (K : List Entry) → All (λ e. ring_of e < RULER_RING) K → prefix_len is_rulers K ≡ 0
no_prefix [] below = refl
no_prefix (e ∷ K) below = ap (λ t. cond t (1 + prefix_len is_rulers K) 0) (rings_entry e (below 0 e (omega arith)))

whole_prefix : (J0 K : List Entry) → All (λ e. is_rulers e ≡ true) J0 → All (λ e. ring_of e < RULER_RING) K → prefix_len is_rulers (J0 ++ K) ≡ length J0
whole_prefix [] K rulers below = no_prefix K below
whole_prefix (e ∷ J0) K rulers below =
    let rest = whole_prefix J0 K (λ k d lt. rulers (suc k) d (omega arith)) below in
    ap (λ t. cond t (1 + prefix_len is_rulers (J0 ++ K)) 0) (rulers 0 e (omega arith)) ∙ (let q : 1 + prefix_len is_rulers (J0 ++ K) ≡ suc (length J0) = omega arith in q)

-- the ruler's entries before those of the rings are its part
pub ruler_part-append : (J0 K : List Entry) → All (λ e. is_rulers e ≡ true) J0 → All (λ e. ring_of e < RULER_RING) K → ruler_part (J0 ++ K) ≡ J0
ruler_part-append J0 K rulers below = ap (λ n. take n (J0 ++ K)) (whole_prefix J0 K rulers below) ∙ take-append_seam J0 K

pub rings_part-append : (J0 K : List Entry) → All (λ e. is_rulers e ≡ true) J0 → All (λ e. ring_of e < RULER_RING) K → rings_part (J0 ++ K) ≡ K
rings_part-append J0 K rulers below = ap (λ (I : List Entry). drop (length I) (J0 ++ K)) (ruler_part-append J0 K rulers below) ∙ drop-append_seam J0 K

-- Nothing in it was learned

ruler_learns_not : (k : Kind) → is_ruler k ≡ true → is_learn k ≡ false
ruler_learns_not Ruler e = refl
ruler_learns_not Learn e = absurd (true≢false (sym e))
ruler_learns_not Derive e = absurd (true≢false (sym e))
ruler_learns_not UnitLine e = absurd (true≢false (sym e))

pub rulers_kind : (x : Addition) → is_rulers (Add x) ≡ true → is_learn x.kind ≡ false
rulers_kind x e =
    let p = (and_parts (x.ring == RULER_RING) (list_all (λ (y : Addition). is_ruler y.kind) (x ∷ []) && true) e).1 in
    ruler_learns_not x.kind (and_parts (is_ruler x.kind) true (and_parts (is_ruler x.kind && true) true p).0).0

-- a property of what is learned or reduced holds of the ruler's entries
pub rulers_each : (P : List Entry → Entry → Type 0) → ((before : List Entry) (e : Entry) → is_rulers e ≡ true → P before e) → (before J0 : List Entry) → All (λ e. is_rulers e ≡ true) J0 → EachAfter P before J0
rulers_each P f before [] rulers = tt
rulers_each P f before (e ∷ J0) rulers = (f before e (rulers 0 e (omega arith)), rulers_each P f (before ++ e ∷ []) J0 (λ k d lt. rulers (suc k) d (omega arith)))

rulers_new_entry : (o : Opening) (before : List Entry) (e : Entry) → is_rulers e ≡ true → IsNew o before e
rulers_new_entry o before (Add x) r = λ learns. absurd (true≢false (sym learns ∙ rulers_kind x r))
rulers_new_entry o before (Del q n) r = tt
rulers_new_entry o before (Reduce q) r = tt
rulers_new_entry o before (Round x) r = tt

pub rulers_new : (o : Opening) (J0 : List Entry) → All (λ e. is_rulers e ≡ true) J0 → EachAfter (IsNew o) [] J0
rulers_new o J0 rulers = rulers_each (IsNew o) (rulers_new_entry o) [] J0 rulers

rulers_spaced_entry : (before : List Entry) (e : Entry) → is_rulers e ≡ true → IsSpaced before e
rulers_spaced_entry before (Add x) r = tt
rulers_spaced_entry before (Del q n) r = tt
rulers_spaced_entry before (Reduce q) r = absurd (by (q == RULER_RING) r)
  where
    by : (t : Bool) → (t && false) ≡ true → ⊥
    by true e = true≢false (sym e)
    by false e = true≢false (sym e)
rulers_spaced_entry before (Round x) r = tt

pub rulers_spaced : (J0 : List Entry) → All (λ e. is_rulers e ≡ true) J0 → EachAfter IsSpaced [] J0
rulers_spaced J0 rulers = rulers_each IsSpaced rulers_spaced_entry [] J0 rulers

learned_entry : (r : ℕ) (e : Entry) → is_rulers e ≡ true → learned r (e ∷ []) ≡ []
learned_entry r (Add x) rulers = by (x.ring == r) (is_learn x.kind) (rulers_kind x rulers)
  where
    by : (t u : Bool) → u ≡ false → map (λ (y : Addition). y.lits) (cond (t && u) (x ∷ []) []) ≡ []
    by true true e = absurd (true≢false e)
    by true false e = refl
    by false u e = refl
learned_entry r (Del q n) rulers = refl
learned_entry r (Reduce q) rulers = refl
learned_entry r (Round x) rulers = refl

recent_entry : (r : ℕ) (e : Entry) → is_rulers e ≡ true → recent_after r [] e ≡ []
recent_entry r e rulers = by (is_ring r (reduction e)) (learned_entry r e rulers)
  where
    by : (t : Bool) → learned r (e ∷ []) ≡ [] → cond t [] ([] ++ learned r (e ∷ [])) ≡ []
    by true q = refl
    by false q = q

pub rulers_recent : (r : ℕ) (J0 : List Entry) → All (λ e. is_rulers e ≡ true) J0 → recent r J0 ≡ []
rulers_recent r [] rulers = refl
rulers_recent r (e ∷ J0) rulers = ap (λ (cs : List (List Literal)). fold (recent_after r) cs J0) (recent_entry r e (rulers 0 e (omega arith))) ∙ rulers_recent r J0 (λ k d lt. rulers (suc k) d (omega arith))
