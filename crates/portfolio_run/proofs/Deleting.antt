-- The ruler deletes some of the clauses that a table held.
use Rattle.std.proofs.Common.{◌≡◌, ◌≢◌, ◌↔◌, ℕ, zero, suc, ◌<◌, ◌≤◌, Some, ⊎_elim, Bool, true, false, not, List, [], ◌∷◌, ◌++◌, map, cond, length, get_or, refl, sym, ap, subst, ◌∙◌, inl, inr, arith, append_assoc, append-nil, filter, eqb}
use Rattle.std.specs.List.{All, Contains, list_any}
use Rattle.std.specs.Option.{option_map}
use Rattle.std.specs.Prelude.{⊤, Err}
use Rattle.std.proofs.lemmas.Bool.{true≢false, not-true, cases_Bool, eqb-true, eq-eqb}
use Rattle.std.proofs.lemmas.List.{map-append}
use Rattle.std.proofs.lemmas.List.Elements.{filter-append}
use Rattle.sat_words.specs.Literal.{Literal, IsOn}
use Rattle.sat_words.specs.Clause.{same_set, is_empty, clause_of, two_or_more}
use Rattle.rup_model.specs.declared.journal.Entry.{Entry}
use Rattle.rup_model.specs.Journal.{book, added, LogSound}
use Rattle.rup_model.specs.NumberedLines.{NumberedLine}
use Rattle.rup_model.proofs.Additions.{added-append}
use Rattle.rup_model.proofs.Lists.{In, In_append, In_append_left, In_append_right, In_map, map_In, Contains_In, In_Contains}
use Rattle.model_stack.specs.declared.stack.Fix.{Fix}
use Rattle.io_edge.specs.Causes.{Rose}
use Rattle.drat_text.specs.LineState.{LineState}
use Rattle.drat_text.specs.LineOut.{PutLine, WasPut}
use Rattle.drat_text.specs.declared.stop.LineStop.{LineStop}
use Rattle.drat_text.specs.declared.stop.LineStop.TheVariants.{ProofFault, Full, Memory}
use Rattle.drat_text.specs.JournalText.{Origin}
use Rattle.share_rule.specs.declared.rests.Rest.{Rest}
use Rattle.simp_base.specs.WorkState.{WorkState, HaveOwnNumbers, resumed, unit_cells}
use Rattle.simp_base.specs.Log.{Stands, HasLines}
use Rattle.simp_base.specs.Resumed.{Resumes}
use Rattle.simp_base.specs.Calls.{ruler_deletes}
use Rattle.simp_base.specs.Causes.{HasOutputCause}
use Rattle.simp_base.proofs.Filters.{In_filter, filter_In}
use Rattle.simp_base.proofs.Lists.{All_In, In_All}
use Rattle.ruler_simp.specs.Ruled.{HaveUnitNumbers}
use Rattle.ruler_simp.proofs.UnitCells.{own_together, held_together, alone_together, held_after}
use Rattle.simp_base.proofs.Resuming.{resumed_work, resumed_stands}
use Rattle.simp_base.proofs.Steps.{nothing_more, stands_deleted, stands_failed, one_del, valid_del, fit_del, on_clause}
use Rattle.portfolio_run.specs.Rulings.{deletions}
use Rattle.portfolio_run.specs.Resumed.{is_dropped, cell_of, dropped_of, kept_of, deletion_of, TookLines, TookFront, AreLeftAfter}

-- Lines

pub took_more : (rs : List Rest) (old middle new : LineState) (r : Rest) → TookLines old rs middle → PutLine middle new (deletion_of middle r) → TookLines old (rs ++ r ∷ []) new
took_more [] old middle new r is put = (new, subst (λ s. PutLine s new (deletion_of s r)) is put, refl)
took_more (d ∷ ds) old middle new r h put = (h.0, h.1, took_more ds h.0 middle new r h.2 put)

pub took_spent : (rs : List Rest) (old new : LineState) → TookLines old rs new → new.spent ≡ old.spent
took_spent [] old new is = ap (λ (s : LineState). s.spent) is
took_spent (r ∷ rs) old new h = took_spent rs h.0 new h.2 ∙ ap (λ (s : LineState). s.spent) h.1.state

pub took_format : (rs : List Rest) (old new : LineState) → TookLines old rs new → new.format ≡ old.format
took_format [] old new is = ap (λ (s : LineState). s.format) is
took_format (r ∷ rs) old new h = took_format rs h.0 new h.2 ∙ ap (λ (s : LineState). s.format) h.1.state

pub took_faults : (rs : List Rest) (old new : LineState) → TookLines old rs new → new.faults ≡ old.faults
took_faults [] old new is = ap (λ (s : LineState). s.faults) is
took_faults (r ∷ rs) old new h = took_faults rs h.0 new h.2 ∙ ap (λ (s : LineState). s.faults) h.1.state

-- One more

kept_next : (done : List Rest) (r : Rest) → is_dropped r ≡ false → kept_of (done ++ r ∷ []) ≡ kept_of done ++ cell_of r ∷ []
kept_next done r e =
    ap (map cell_of) (filter-append (λ r. not (is_dropped r)) done (r ∷ []))
    ∙ map-append cell_of (filter (λ r. not (is_dropped r)) done) (filter (λ r. not (is_dropped r)) (r ∷ []))
    ∙ ap (λ (b : Bool). kept_of done ++ map cell_of (cond (not b) (r ∷ []) [])) e

-- one more is kept
pub kept_more : (done : List Rest) (r : Rest) (old new : List (ℕ × List Literal)) → new ≡ old ++ cell_of r ∷ [] → old ≡ kept_of done → is_dropped r ≡ false → new ≡ kept_of (done ++ r ∷ [])
kept_more done r old new is was e = is ∙ ap (λ cs. cs ++ cell_of r ∷ []) was ∙ sym (kept_next done r e)

pub kept_same : (done : List Rest) (r : Rest) → is_dropped r ≡ true → kept_of (done ++ r ∷ []) ≡ kept_of done
kept_same done r e =
    ap (map cell_of) (filter-append (λ r. not (is_dropped r)) done (r ∷ []))
    ∙ map-append cell_of (filter (λ r. not (is_dropped r)) done) (filter (λ r. not (is_dropped r)) (r ∷ []))
    ∙ ap (λ (b : Bool). kept_of done ++ map cell_of (cond (not b) (r ∷ []) [])) e
    ∙ append-nil (kept_of done)

pub dropped_next : (done : List Rest) (r : Rest) → is_dropped r ≡ true → filter is_dropped (done ++ r ∷ []) ≡ filter is_dropped done ++ r ∷ []
dropped_next done r e = filter-append is_dropped done (r ∷ []) ∙ ap (λ (b : Bool). filter is_dropped done ++ cond b (r ∷ []) []) e

pub dropped_same : (done : List Rest) (r : Rest) → is_dropped r ≡ false → filter is_dropped (done ++ r ∷ []) ≡ filter is_dropped done
dropped_same done r e = filter-append is_dropped done (r ∷ []) ∙ ap (λ (b : Bool). filter is_dropped done ++ cond b (r ∷ []) []) e ∙ append-nil (filter is_dropped done)

-- those of a list that is cut at one of them
pub dropped_cut : (done : List Rest) (r : Rest) (rs : List Rest) → is_dropped r ≡ true → filter is_dropped (done ++ r ∷ rs) ≡ filter is_dropped done ++ r ∷ filter is_dropped rs
dropped_cut done r rs e = filter-append is_dropped done (r ∷ rs) ∙ ap (λ (b : Bool). filter is_dropped done ++ cond b (r ∷ filter is_dropped rs) (filter is_dropped rs)) e

-- Numbers

own_tail : (x : ℕ × List Literal) (xs : List (ℕ × List Literal)) → HaveOwnNumbers (x ∷ xs) → HaveOwnNumbers xs
own_tail x xs own i j d lt within = own (suc i) (suc j) d (omega arith) (omega arith)

own_head : (x : ℕ × List Literal) (xs : List (ℕ × List Literal)) → HaveOwnNumbers (x ∷ xs) → (y : ℕ × List Literal) → In y xs → x.0 ≢ y.0
own_head x xs own y i e = let h = In_Contains xs y i in own 0 (suc h.0) y (omega arith) (let lt = h.1 in omega arith) (e ∙ sym (ap (λ (z : ℕ × List Literal). z.0) h.2))

own_more : (x : ℕ × List Literal) (xs : List (ℕ × List Literal)) → ((y : ℕ × List Literal) → In y xs → x.0 ≢ y.0) → HaveOwnNumbers xs → HaveOwnNumbers (x ∷ xs)
own_more x xs first own zero zero d lt within = absurd (omega arith)
own_more x xs first own (suc i) zero d lt within = absurd (omega arith)
own_more x xs first own zero (suc j) d lt within = first (get_or xs j d) (Contains_In xs (get_or xs j d) (j, omega arith, get_or_here xs j d (omega arith)))
  where
    get_or_here : (ys : List (ℕ × List Literal)) (k : ℕ) (e : ℕ × List Literal) → k < length ys → get_or ys k (get_or ys k e) ≡ get_or ys k e
    get_or_here [] k e l = absurd (omega arith)
    get_or_here (y ∷ ys) zero e l = refl
    get_or_here (y ∷ ys) (suc k) e l = get_or_here ys k e (omega arith)
own_more x xs first own (suc i) (suc j) d lt within = own i j d (omega arith) (omega arith)

-- no two of these have one number
abbrev Apart : List Rest → Type 0
Apart [] = ⊤
Apart (r ∷ rs) = ((e : Rest) → In e rs → r.number ≢ e.number) × Apart rs

apart_own : (rs : List Rest) → HaveOwnNumbers (map cell_of rs) → Apart rs
apart_own [] own = tt
apart_own (r ∷ rs) own = (λ e i. own_head (cell_of r) (map cell_of rs) own (cell_of e) (In_map cell_of rs e i), apart_own rs (own_tail (cell_of r) (map cell_of rs) own))

own_apart : (rs : List Rest) → Apart rs → HaveOwnNumbers (map cell_of rs)
own_apart [] h = λ i j d lt within. absurd (omega arith)
own_apart (r ∷ rs) h = own_more (cell_of r) (map cell_of rs) (λ y i. (let t = map_In cell_of rs y i in λ e. h.0 t.0 t.1 (e ∙ sym (ap (λ (z : ℕ × List Literal). z.0) t.2)))) (own_apart rs h.1)

-- numbers of the front and of the back of a list
own_front : (xs ys : List (ℕ × List Literal)) → HaveOwnNumbers (xs ++ ys) → HaveOwnNumbers xs
own_front [] ys own = λ i j d lt within. absurd (omega arith)
own_front (x ∷ xs) ys own = own_more x xs (λ y i. own_head x (xs ++ ys) own y (In_append_left xs ys y i)) (own_front xs ys (own_tail x (xs ++ ys) own))

own_across : (xs ys : List (ℕ × List Literal)) → HaveOwnNumbers (xs ++ ys) → (x y : ℕ × List Literal) → In x xs → In y ys → x.0 ≢ y.0
own_across [] ys own x y i j = absurd i
own_across (z ∷ xs) ys own x y (inl e) j = λ q. own_head z (xs ++ ys) own y (In_append_right xs ys y j) (ap (λ (k : ℕ × List Literal). k.0) e ∙ q)
own_across (z ∷ xs) ys own x y (inr i) j = own_across xs ys (own_tail z (xs ++ ys) own) x y i j

apart_filter : (p : Rest → Bool) (rs : List Rest) → Apart rs → Apart (filter p rs)
apart_filter p [] h = tt
apart_filter p (r ∷ rs) h = by (p r) (apart_filter p rs h.1)
  where
    by : (b : Bool) → Apart (filter p rs) → Apart (cond b (r ∷ filter p rs) (filter p rs))
    by true others = (λ e i. h.0 e (filter_In p rs e i).0, others)
    by false others = others

apart_front : (ds es : List Rest) → Apart (ds ++ es) → Apart ds
apart_front [] es h = tt
apart_front (d ∷ ds) es h = (λ e i. h.0 e (In_append_left ds es e i), apart_front ds es h.1)

apart_next : (ds : List Rest) (r : Rest) (es : List Rest) → Apart (ds ++ r ∷ es) → (d : Rest) → In d ds → r.number ≢ d.number
apart_next [] r es h d i = absurd i
apart_next (x ∷ ds) r es h d (inl e) = λ q. h.0 r (In_append_right ds (r ∷ es) r (inl refl)) (ap (λ (z : Rest). z.number) e ∙ sym q)
apart_next (x ∷ ds) r es h d (inr i) = apart_next ds r es h.1 d i

apart_one : (rs : List Rest) → Apart rs → (a b : Rest) → In a rs → In b rs → a.number ≡ b.number → a ≡ b
apart_one [] h a b i j e = absurd i
apart_one (r ∷ rs) h a b (inl p) (inl q) e = sym p ∙ q
apart_one (r ∷ rs) h a b (inl p) (inr j) e = absurd (h.0 b j (ap (λ (z : Rest). z.number) p ∙ e))
apart_one (r ∷ rs) h a b (inr i) (inl q) e = absurd (h.0 a i (ap (λ (z : Rest). z.number) q ∙ sym e))
apart_one (r ∷ rs) h a b (inr i) (inr j) e = apart_one rs h.1 a b i j e

-- Clauses without some numbers

abbrev without : ℕ → List (ℕ × List Literal) → List (ℕ × List Literal)
without n cs = filter (λ c. not (eqb c.0 n)) cs

differ : (a b : ℕ) → a ≢ b → not (eqb a b) ≡ true
differ a b ne = elim (cases_Bool (eqb a b)) as (λ _. not (eqb a b) ≡ true) [
  | inl same ↦ absurd (ne (eqb-true a b same))
  | inr other ↦ ap not other
]

differ_not : (a b : ℕ) → not (eqb a b) ≡ true → a ≢ b
differ_not a b h e = true≢false (sym h ∙ ap not (eq-eqb a b e))

without_others : (number : ℕ) (cs : List (ℕ × List Literal)) (n : ℕ) (c : List Literal) → Contains (without number cs) (n, c) ↔ (Contains cs (n, c) × (n ≢ number))
without_others number cs n c = (
  λ h. (let t = filter_In (λ (x : ℕ × List Literal). not (eqb x.0 number)) cs (n, c) (Contains_In (without number cs) (n, c) h) in (In_Contains cs (n, c) t.0, differ_not n number t.1)),
  λ h. In_Contains (without number cs) (n, c) (In_filter (λ (x : ℕ × List Literal). not (eqb x.0 number)) cs (n, c) (Contains_In cs (n, c) h.0) (differ n number h.1)),
)

abbrev without_all : List Rest → List (ℕ × List Literal) → List (ℕ × List Literal)
without_all [] cs = cs
without_all (d ∷ ds) cs = without_all ds (without d.number cs)

from_without : (ds : List Rest) (cs : List (ℕ × List Literal)) (n : ℕ) (c : List Literal) → Contains (without_all ds cs) (n, c) → Contains cs (n, c) × ((d : Rest) → In d ds → n ≢ d.number)
from_without [] cs n c h = (h, λ d i. absurd i)
from_without (x ∷ ds) cs n c h =
    let t = from_without ds (without x.number cs) n c h in
    let u = (without_others x.number cs n c).0 t.0 in
    (u.0, λ d i. each d i u.1 t.1)
  where
    each : (d : Rest) → In d (x ∷ ds) → n ≢ x.number → ((e : Rest) → In e ds → n ≢ e.number) → n ≢ d.number
    each d (inl e) first others = λ q. first (q ∙ sym (ap (λ (z : Rest). z.number) e))
    each d (inr i) first others = others d i

to_without : (ds : List Rest) (cs : List (ℕ × List Literal)) (n : ℕ) (c : List Literal) → Contains cs (n, c) → ((d : Rest) → In d ds → n ≢ d.number) → Contains (without_all ds cs) (n, c)
to_without [] cs n c h other = h
to_without (x ∷ ds) cs n c h other = to_without ds (without x.number cs) n c ((without_others x.number cs n c).1 (h, other x (inl refl))) (λ d i. other d (inr i))

-- a clause that is deleted has a number of its own
dropped_number : (rs : List Rest) → Apart rs → (r d : Rest) → In r rs → is_dropped r ≡ false → In d (filter is_dropped rs) → r.number ≢ d.number
dropped_number rs apart r d i stays j e =
    let v = filter_In is_dropped rs d j in
    true≢false (sym v.1 ∙ ap is_dropped (sym (apart_one rs apart r d i v.0 e)) ∙ stays)

module _ (rs : List Rest) (us : List (Literal × ℕ)) (own : HaveOwnNumbers (map cell_of rs ++ unit_cells us)) where
  abbrev cells : List (ℕ × List Literal)
  cells = map cell_of rs ++ unit_cells us

  abbrev kept : List (ℕ × List Literal)
  kept = kept_of rs ++ unit_cells us

  apart_rests : Apart rs
  apart_rests = apart_own rs (own_front (map cell_of rs) (unit_cells us) own)

  -- what is kept has other numbers than what is dropped
  kept_without : (n : ℕ) (c : List Literal) → Contains kept (n, c) → Contains (without_all (filter is_dropped rs) cells) (n, c)
  kept_without n c h = ⊎_elim of_rest of_unit (In_append (kept_of rs) (unit_cells us) (n, c) (Contains_In kept (n, c) h))
    where
      of_rest : In (n, c) (kept_of rs) → Contains (without_all (filter is_dropped rs) cells) (n, c)
      of_rest i =
          let t = map_In cell_of (filter (λ r. not (is_dropped r)) rs) (n, c) i in
          let u = filter_In (λ r. not (is_dropped r)) rs t.0 t.1 in
          to_without (filter is_dropped rs) cells n c
          (In_Contains cells (n, c) (In_append_left (map cell_of rs) (unit_cells us) (n, c) (subst (λ (z : ℕ × List Literal). In z (map cell_of rs)) t.2 (In_map cell_of rs t.0 u.0))))
          (λ d j e. dropped_number rs apart_rests t.0 d u.0 (not-true (is_dropped t.0) u.1) j (ap (λ (z : ℕ × List Literal). z.0) t.2 ∙ e))

      of_unit : In (n, c) (unit_cells us) → Contains (without_all (filter is_dropped rs) cells) (n, c)
      of_unit i =
          to_without (filter is_dropped rs) cells n c (In_Contains cells (n, c) (In_append_right (map cell_of rs) (unit_cells us) (n, c) i))
          (λ d j e. own_across (map cell_of rs) (unit_cells us) own (cell_of d) (n, c) (In_map cell_of rs d (filter_In is_dropped rs d j).0) i (sym e))

  without_kept : (n : ℕ) (c : List Literal) → Contains (without_all (filter is_dropped rs) cells) (n, c) → Contains kept (n, c)
  without_kept n c h =
      let f = from_without (filter is_dropped rs) cells n c h in
      ⊎_elim (of_rest f.1) (λ (i : In (n, c) (unit_cells us)). In_Contains kept (n, c) (In_append_right (kept_of rs) (unit_cells us) (n, c) i)) (In_append (map cell_of rs) (unit_cells us) (n, c) (Contains_In cells (n, c) f.0))
    where
      of_rest : ((d : Rest) → In d (filter is_dropped rs) → n ≢ d.number) → In (n, c) (map cell_of rs) → Contains kept (n, c)
      of_rest others i =
          let t = map_In cell_of rs (n, c) i in
          let n_is : t.0.number ≡ n = ap (λ (z : ℕ × List Literal). z.0) t.2 in
          elim (cases_Bool (is_dropped t.0)) as (λ _. Contains kept (n, c)) [
            | inl gone ↦ absurd (others t.0 (In_filter is_dropped rs t.0 t.1 gone) (sym n_is))
            | inr stays ↦ In_Contains kept (n, c) (In_append_left (kept_of rs) (unit_cells us) (n, c) (subst (λ (z : ℕ × List Literal). In z (kept_of rs)) t.2 (In_map cell_of (filter (λ r. not (is_dropped r)) rs) t.0 (In_filter (λ r. not (is_dropped r)) rs t.0 t.1 (ap not stays)))))
          ]

pub two_long : (c : List Literal) → two_or_more c ≡ true → 2 ≤ length c
two_long [] h = absurd (true≢false (sym h))
two_long (x ∷ []) h = absurd (true≢false (sym h))
two_long (x ∷ y ∷ c) h = omega arith

-- Journals

added_none : (ns : List ℕ) → added (deletions ns) ≡ []
added_none [] = refl
added_none (n ∷ ns) = added-append (ruler_deletes n ∷ []) (deletions ns) ∙ added_none ns

added_same : (J : List Entry) (ns : List ℕ) → added (J ++ deletions ns) ≡ added J
added_same J ns = added-append J (deletions ns) ∙ ap (λ G. added J ++ G) (added_none ns) ∙ append-nil (added J)

-- Deletions, one after another

module _ (F : List (List Literal)) (vars : ℕ) (us : List (Literal × ℕ)) (stack : List Fix) (old : LineState) (J : List Entry) where
  abbrev o : Origin
  o = record { formula = F; journal = J; output = old }

  abbrev at : List (ℕ × List Literal) → LineState → WorkState
  at cs out = resumed vars cs us stack out

  stand : (ds : List Rest) (cs : List (ℕ × List Literal)) (middle new : LineState) (mine : List Entry) → Stands o mine (at cs middle) → middle.spent ≡ false → Apart ds → ((d : Rest) → In d ds → Contains cs (cell_of d))
      → ((d : Rest) → In d ds → two_or_more d.clause ≡ true) → TookLines middle ds new → Stands o (mine ++ deletions (map (λ r. r.number) ds)) (at (without_all ds cs) new)
  stand [] cs middle new mine s unspent apart held long took = nothing_more o mine (at cs new) (subst (λ out. Stands o mine (at cs out)) (sym took) s)
  stand (d ∷ ds) cs middle new mine s unspent apart held long took =
      subst (λ es. Stands o es (at (without_all ds (without d.number cs)) new)) (append_assoc mine (ruler_deletes d.number ∷ []) (deletions (map (λ r. r.number) ds)))
      (stand ds (without d.number cs) took.0 new (mine ++ ruler_deletes d.number ∷ [])
      (stands_deleted o mine (at cs middle) s d.number d.clause (held d (inl refl)) (long d (inl refl)) refl (without d.number cs) (without_others d.number cs) took.0 unspent took.1)
      (ap (λ (out : LineState). out.spent) took.1.state ∙ unspent)
      apart.1
      (λ e i. (without_others d.number cs e.number e.clause).1 (held e (inr i), λ q. apart.0 e i (sym q)))
      (λ e i. long e (inr i))
      took.2)

  module _ (rs : List Rest) (left : AreLeftAfter F vars rs us stack old J) (unspent : old.spent ≡ false) where
    abbrev all_cells : List (ℕ × List Literal)
    all_cells = cells rs us left.0.numbers

    apart : Apart rs
    apart = apart_rests rs us left.0.numbers

    first : Stands o [] (at all_cells old)
    first = resumed_stands F vars all_cells us stack old unspent J left.0

    held_all : (d : Rest) → In d rs → Contains all_cells (cell_of d)
    held_all d i = In_Contains all_cells (cell_of d) (In_append_left (map cell_of rs) (unit_cells us) (cell_of d) (In_map cell_of rs d i))

    long_all : (d : Rest) → In d rs → two_or_more d.clause ≡ true
    long_all d i = All_In (λ r. two_or_more r.clause ≡ true) rs d left.1 i

    -- All of them

    module _ (new : LineState) (took : TookLines old (filter is_dropped rs) new) where
      abbrev rest : List (ℕ × List Literal)
      rest = without_all (filter is_dropped rs) all_cells

      stands_after : Stands o (deletions (dropped_of rs)) (at rest new)
      stands_after = stand (filter is_dropped rs) all_cells old new [] first unspent (apart_filter is_dropped rs apart) (λ d i. held_all d (filter_In is_dropped rs d i).0) (λ d i. long_all d (filter_In is_dropped rs d i).0) took

      pub lines_after : HasLines o (deletions (dropped_of rs)) vars new
      lines_after = stands_after.lines

      own_kept : HaveOwnNumbers (kept_of rs)
      own_kept = own_apart (filter (λ r. not (is_dropped r)) rs) (apart_filter (λ r. not (is_dropped r)) rs apart)

      pub resumes_after : Resumes F vars (kept_of rs ++ unit_cells us) us stack new (J ++ deletions (dropped_of rs))
      resumes_after =
          let s = stands_after in
          let same = added_same J (dropped_of rs) in
          let now = book F (J ++ deletions (dropped_of rs)) in
          let own = left.0.numbers in
          let numbered : HaveUnitNumbers now us = In_All (λ (u : Literal × ℕ). now.clause u.1 ≡ Some (u.0 ∷ [])) us (λ u i.
          s.alone u.1 u.0 (kept_without rs us own u.1 (u.0 ∷ []) (All_In (λ (v : Literal × ℕ). Contains (kept_of rs ++ unit_cells us) (v.1, v.0 ∷ [])) us u (held_after (kept_of rs) us) i))) in
          let held : (n : ℕ) (c : List Literal) → Contains (kept_of rs) (n, c) → option_map clause_of (now.clause n) ≡ Some c = λ n c h.
          s.held n c (kept_without rs us own n c (In_Contains (kept_of rs ++ unit_cells us) (n, c) (In_append_left (kept_of rs) (unit_cells us) (n, c) (Contains_In (kept_of rs) (n, c) h)))) in
          let long : All (λ (x : ℕ × List Literal). 2 ≤ length x.1) (kept_of rs) = In_All (λ (x : ℕ × List Literal). 2 ≤ length x.1) (kept_of rs) (λ x i.
          let t = map_In cell_of (filter (λ r. not (is_dropped r)) rs) x i in
          subst (λ (z : ℕ × List Literal). 2 ≤ length z.1) t.2 (two_long t.0.clause (long_all t.0 (filter_In (λ r. not (is_dropped r)) rs t.0 t.1).0))) in
          record {
            sound = s.sound;
            hinted = s.hinted;
            going = subst (λ (G : List (List Literal)). list_any is_empty (F ++ G) ≡ false) (sym same) left.0.going;
            numbers = own_together now (kept_of rs) us numbered left.0.distinct held long own_kept;
            held = held_together now (kept_of rs) us numbered left.0.distinct held long;
            all = λ n c is part. elim (s.all n c is) as (λ _. Contains (kept_of rs ++ unit_cells us) (n, clause_of c)) [
              | inl i ↦ without_kept rs us own n (clause_of c) i
              | inr passed ↦ absurd (true≢false (sym part ∙ passed.idle))
            ];
            alone = alone_together now (kept_of rs) us numbered left.0.distinct held long;
            told = s.told;
            every = λ l t. left.0.every l (subst (λ (G : List (List Literal)). list_any (same_set (l ∷ [])) (F ++ G) ≡ true) same t);
            distinct = left.0.distinct;
            units_held = held_after (kept_of rs) us;
            on = subst (λ (G : List (List Literal)). All (All (IsOn vars)) (F ++ G)) (sym same) left.0.on;
            stack_on = left.0.stack_on;
            entries = s.lines.entries;
            last = s.lines.last;
          }

    -- A front of them

    module _ (ds es : List Rest) (front_of : filter is_dropped rs ≡ ds ++ es) (middle : LineState) (took : TookLines old ds middle) where
      among : (d : Rest) → In d (ds ++ es) → In d rs
      among d i = (filter_In is_dropped rs d (subst (In d) (sym front_of) i)).0

      apart_both : Apart (ds ++ es)
      apart_both = subst Apart front_of (apart_filter is_dropped rs apart)

      stands_front : Stands o (deletions (map (λ r. r.number) ds)) (at (without_all ds all_cells) middle)
      stands_front = stand ds all_cells old middle [] first unspent (apart_front ds es apart_both) (λ d i. held_all d (among d (In_append_left ds es d i))) (λ d i. long_all d (among d (In_append_left ds es d i))) took

      pub lines_front : HasLines o (deletions (map (λ r. r.number) ds)) vars middle
      lines_front = stands_front.lines

      pub sound_front : LogSound F (J ++ deletions (map (λ r. r.number) ds))
      sound_front = stands_front.sound

      middle_unspent : middle.spent ≡ false
      middle_unspent = took_spent ds old middle took ∙ unspent

      -- the line of the next was not put
      module _ (r : Rest) (others : List Rest) (rest_is : es ≡ r ∷ others) where
        r_in : In r rs
        r_in = among r (In_append_right ds es r (subst (In r) (sym rest_is) (inl refl)))

        still : Contains (without_all ds all_cells) (cell_of r)
        still = to_without ds all_cells r.number r.clause (held_all r r_in) (apart_next ds r others (subst (λ xs. Apart (ds ++ xs)) rest_is apart_both))

        on_r : All (IsOn vars) r.clause
        on_r = on_clause (at all_cells old) (resumed_work F vars all_cells us stack old J left.0) r.number r.clause (held_all r r_in)

        abbrev w : WorkState
        w = at (without_all ds all_cells) middle

        abbrev mine : List Entry
        mine = deletions (map (λ r. r.number) ds)

        pub lines_not_put : (new : LineState) (stop : LineStop) → WasPut {T = Unit {0}} middle new (deletion_of middle r) (Err stop) → HasLines o mine vars new
        lines_not_put new ProofFault failed =
            (stands_failed o mine w stands_front (ruler_deletes r.number) (deletion_of middle r)
            (one_del o mine w stands_front r.number r.clause still (long_all r r_in) refl)
            (valid_del o mine w stands_front r.number r.clause still (long_all r r_in) refl)
            (fit_del o mine w stands_front r.number r.clause still (long_all r r_in) refl)
            refl (λ q. tt) new middle_unspent on_r failed).lines
        lines_not_put new Full full = subst (HasLines o mine vars) (sym full.state) lines_front
        lines_not_put new Memory same = subst (HasLines o mine vars) (sym same) lines_front

-- Why it stopped

pub stopped_for : (old middle new : LineState) (x : NumberedLine) (stop : LineStop) → middle.faults ≡ old.faults → WasPut {T = Unit {0}} middle new x (Err stop) → HasOutputCause old new stop
stopped_for old middle new x ProofFault same failed = subst (λ (n : ℕ). Rose n new.faults) same failed.rose
stopped_for old middle new x Full same full = (ap (λ (s : LineState). s.entries) full.state ∙ full.full, ap (λ (s : LineState). s.faults) full.state ∙ same)
stopped_for old middle new x Memory same is = ap (λ (s : LineState). s.faults) is ∙ same

pub front_cause : (rs : List Rest) (old new : LineState) (stop : LineStop) → TookFront rs old new stop → HasOutputCause old new stop
front_cause rs old new stop t =
    let same = took_faults t.front old t.middle t.took in
    elim t.cause as (λ _. HasOutputCause old new stop) [
      | inl m ↦ subst (HasOutputCause old new) (sym m.0) (ap (λ (s : LineState). s.faults) m.1 ∙ same)
      | inr n ↦ stopped_for old t.middle new (deletion_of t.middle n.0) stop same n.3
    ]

pub front_sound : (F : List (List Literal)) (vars : ℕ) (us : List (Literal × ℕ)) (stack : List Fix) (old : LineState) (J : List Entry) (rs : List Rest) → AreLeftAfter F vars rs us stack old J → old.spent ≡ false
    → (new : LineState) (stop : LineStop) (t : TookFront rs old new stop) → LogSound F (J ++ deletions (map (λ r. r.number) t.front))
front_sound F vars us stack old J rs left unspent new stop t = sound_front F vars us stack old J rs left unspent t.front t.rest t.front_of t.middle t.took

pub front_lines : (F : List (List Literal)) (vars : ℕ) (us : List (Literal × ℕ)) (stack : List Fix) (old : LineState) (J : List Entry) (rs : List Rest) → AreLeftAfter F vars rs us stack old J → old.spent ≡ false
    → (new : LineState) (stop : LineStop) (t : TookFront rs old new stop) → HasLines (record { formula = F; journal = J; output = old }) (deletions (map (λ r. r.number) t.front)) vars new
front_lines F vars us stack old J rs left unspent new stop t = elim t.cause as (λ _. HasLines (record { formula = F; journal = J; output = old }) (deletions (map (λ r. r.number) t.front)) vars new) [
  | inl m ↦ subst (HasLines (record { formula = F; journal = J; output = old }) (deletions (map (λ r. r.number) t.front)) vars) (sym m.1) (lines_front F vars us stack old J rs left unspent t.front t.rest t.front_of t.middle t.took)
  | inr n ↦ lines_not_put F vars us stack old J rs left unspent t.front t.rest t.front_of t.middle t.took n.0 n.1 n.2 new stop n.3
]
