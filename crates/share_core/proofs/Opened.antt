-- An opening is sound, and so is what enabled events leave.
use Rattle.std.proofs.Common.{◌≡◌, ◌≢◌, ℕ, ◌+◌, ◌*◌, ◌≤◌, ◌==◌, nat_eq, Bool, true, false, ◌||◌, cond, List, [], ◌∷◌, ◌++◌, map, length, fold, All, Option, Some, None, refl, sym, ap, ◌∙◌, subst, inl, inr, ⊎_elim, arith, eq-eqb, ne_eqb, true≢false, append-nil, append_assoc}
use Rattle.std.specs.List.{list_any, AllByRecursion, Contains, IsDistinct}
use Rattle.std.proofs.lemmas.List.{drop_all}
use Rattle.std.proofs.lemmas.List.Folds.{list_any-append}
use mathlib.Core.Logic.{dite}
use native.Mathlib.Decide.{ℕ_discrete}
use Rattle.sat_words.specs.Literal.{Literal}
use Rattle.sat_words.specs.Clause.{is_empty}
use Rattle.rup_model.specs.declared.journal.Entry.{Entry}
use Rattle.rup_model.specs.Basics.{EachAfter, one_if}
use Rattle.rup_model.specs.Journal.{Book, book, lines, added, is_told, IsFresh, IsSpaced}
use Rattle.rup_model.specs.NumberedLines.{IsHinted}
use Rattle.rup_model.specs.Opening.{Start, IsLong, IsStart, start_clauses}
use Rattle.rup_model.proofs.Lists.{In, In_map, map_In, has_In, Contains_In}
use Rattle.rup_model.specs.Log.{alive as alive_lines}
use Rattle.rup_model.proofs.Numbers.{clause_below, journal_matches}
use Rattle.rup_model.proofs.Sums.{below_all}
use Rattle.rup_model.proofs.Sequences.{EachState, to_states}
use Rattle.rup_model.proofs.Additions.{added-append}
use Rattle.share_core.specs.declared.event.Event.{Event}
use Rattle.share_core.specs.declared.event.Stop.{Stop}
use Rattle.share_core.specs.declared.stored.ClauseAt.{ClauseAt}
use Rattle.share_core.specs.declared.stored.Cell.{Cell}
use Rattle.share_core.specs.State.{times_at, CoreOpening, opening_of, IsCoreOpening, State, start_cell, opened, count_at, maker_at, slots}
use Rattle.share_core.specs.Enabled.{IsEnabled, AllEnabled}
use Rattle.share_core.specs.Events.{after}
use Rattle.share_core.specs.Sound.{idle_at, Counts, IsOpenCopy, Sound}
use Rattle.share_core.proofs.ClauseLists.{at_in, in_at, all_in, all_map}
use Rattle.share_core.proofs.Counting.{some_same, none_some, cell_cases, not_made, idle_open}
use Rattle.share_core.proofs.Exchanging.{starts_zero}
use Rattle.share_core.proofs.Tickets.{tickets_none}
use Rattle.share_core.proofs.Steps.{event_sound, event_grows, event_opening}

-- Start cells

start_none : (n : ℕ) (ss : List ClauseAt) (a : ℕ) → times_at a ss ≡ 0 → start_cell n ss a ≡ None
start_none n [] a h = refl
start_none n (s ∷ ss) a h = dite (ℕ_discrete a s.address)
    (λ e. let u : one_if (s.address == a) ≡ 1 = ap one_if (eq-eqb s.address a (sym e)) in absurd (omega arith))
    (λ ne. (λ j. cond (ne_eqb a s.address ne j) (Some (record { lits = s.lits; number = s.number; count = n; maker = None })) (start_cell n ss a)) ∙ start_none n ss a (omega arith))

start_some : (n : ℕ) (ss : List ClauseAt) (s : ClauseAt) → In s ss → ((a : ℕ) → times_at a ss ≤ 1) → start_cell n ss s.address ≡ Some (record { lits = s.lits; number = s.number; count = n; maker = None })
start_some n [] s i once = absurd i
start_some n (t ∷ ss) s (inl e) once =
    (λ j. start_cell n (t ∷ ss) (sym e j).address)
    ∙ (λ j. cond (eq-eqb t.address t.address refl j) (Some (record { lits = t.lits; number = t.number; count = n; maker = None })) (start_cell n ss t.address))
    ∙ (λ j. Some (record { lits = (e j).lits; number = (e j).number; count = n; maker = None }))
start_some n (t ∷ ss) s (inr i) once =
    let few = once s.address in
    let some = at_in ss s i in
    let apart : s.address ≢ t.address = λ e. let u : one_if (t.address == s.address) ≡ 1 = ap one_if (eq-eqb t.address s.address (sym e)) in omega arith in
    (λ j. cond (ne_eqb s.address t.address apart j) (Some (record { lits = t.lits; number = t.number; count = n; maker = None })) (start_cell n ss s.address)) ∙ start_some n ss s i (λ a. let q = once a in omega arith)

start_from : (n : ℕ) (ss : List ClauseAt) (a : ℕ) (x : Cell) → start_cell n ss a ≡ Some x → (s : ClauseAt) × In s ss × (s.address ≡ a) × (s.number ≡ x.number) × (s.lits ≡ x.lits) × (n ≡ x.count) × (x.maker ≡ None)
start_from n [] a x h = absurd (none_some x h)
start_from n (s ∷ ss) a x h =
    let z : Cell = record { lits = s.lits; number = s.number; count = n; maker = None } in
    dite (ℕ_discrete a s.address)
    (λ e. let q : Some z ≡ Some x = (λ j. cond (sym (eq-eqb a s.address e) j) (Some z) (start_cell n ss a)) ∙ h in
    let p : z ≡ x = some_same z x q in
    (s, inl refl, sym e, ap (λ (c : Cell). c.number) p, ap (λ (c : Cell). c.lits) p, ap (λ (c : Cell). c.count) p, sym (ap (λ (c : Cell). c.maker) p)))
    (λ ne. let q : start_cell n ss a ≡ Some x = (λ j. cond (sym (ne_eqb a s.address ne) j) (Some z) (start_cell n ss a)) ∙ h in
    let t = start_from n ss a x q in (t.0, inr t.1, t.2, t.3, t.4, t.5, t.6))

-- Their numbers

apart_from : (n : ℕ) (ns : List ℕ) → AllByRecursion (λ y. nat_eq n y ≡ false) ns → (m : ℕ) → In m ns → n ≢ m
apart_from n [] h m i q = absurd i
apart_from n (k ∷ ns) h m (inl e) q = true≢false (sym (eq-eqb n k (q ∙ sym e)) ∙ h.0)
apart_from n (k ∷ ns) h m (inr i) q = apart_from n ns h.1 m i q

number_in : (ss : List ClauseAt) (s : ClauseAt) → In s ss → In s.number (map (λ (t : Start). t.number) (map (λ (t : ClauseAt). record { number = t.number; lits = t.lits }) ss))
number_in ss s i = In_map (λ (t : Start). t.number) (map (λ (t : ClauseAt). record { number = t.number; lits = t.lits }) ss) (record { number = s.number; lits = s.lits })
    (In_map (λ (t : ClauseAt). record { number = t.number; lits = t.lits }) ss s i)

own_number : (ss : List ClauseAt) (s t : ClauseAt) → IsDistinct nat_eq (map (λ (q : Start). q.number) (map (λ (q : ClauseAt). record { number = q.number; lits = q.lits }) ss)) → In s ss → In t ss → s.number ≡ t.number → s ≡ t
unfolding IsDistinct
own_number [] s t once i j e = absurd i
own_number (u ∷ ss) s t once (inl p) (inl q) e = sym p ∙ q
own_number (u ∷ ss) s t once (inl p) (inr j) e = absurd (apart_from u.number _ once.0 t.number (number_in ss t j) (ap (λ (q : ClauseAt). q.number) p ∙ e))
own_number (u ∷ ss) s t once (inr i) (inl q) e = absurd (apart_from u.number _ once.0 s.number (number_in ss s i) (ap (λ (z : ClauseAt). z.number) q ∙ sym e))
own_number (u ∷ ss) s t once (inr i) (inr j) e = own_number ss s t once.1 i j e

-- The ruler's part

-- if the empty clause is never added, nothing stands after it
never_empty : (before J : List Entry) → list_any is_empty (added (before ++ J)) ≡ false → EachAfter (λ b e. list_any is_empty (added b) ≡ false) before J
never_empty before [] h = tt
never_empty before (e ∷ J) h = (
  first (list_any is_empty (added before)) (list_any is_empty (added (e ∷ J))) (sym (ap (list_any is_empty) (added-append before (e ∷ J)) ∙ list_any-append is_empty (added before) (added (e ∷ J))) ∙ h),
  never_empty (before ++ e ∷ []) J (ap (λ (K : List Entry). list_any is_empty (added K)) (append_assoc before (e ∷ []) J) ∙ h),
)
  where
    first : (x y : Bool) → (x || y) ≡ false → x ≡ false
    first true y q = q
    first false y q = refl

-- An opening

module _ (o : CoreOpening) (op : IsCoreOpening o) where
  counts_open : Counts o (opened o)
  counts_open =
      let ss : List ClauseAt = o.starts in
      let f : ℕ → Option Cell = start_cell o.rings o.starts in
      record {
        counts = λ a nz.
            let z : one_if (0 == a) ≡ 0 = ap one_if (ne_eqb 0 a (λ e. nz (sym e))) in
            let x = below_all o.rings (0 + times_at a ss) in
            let y = below_all (slots o) (one_if (0 == a)) in
            let zz : slots o * one_if (0 == a) ≡ slots o * 0 = ap (λ (q : ℕ). slots o * q) z in
            let few = op.apart a in
            dite (ℕ_discrete (times_at a ss) 0)
            (λ e. let q : count_at (f a) ≡ 0 = ap count_at (start_none o.rings o.starts a e) in
            let w : o.rings * (0 + times_at a ss) ≡ o.rings * 0 = ap (λ (t : ℕ). o.rings * (0 + t)) e in omega arith)
            (λ ne. let s = in_at a o.starts (omega arith) in
            let q : count_at (f a) ≡ o.rings = ap (λ k. count_at (f k)) (sym s.2) ∙ ap count_at (start_some o.rings o.starts s.0 s.1 op.apart) in
            let one : times_at a ss ≡ 1 = omega arith in
            let w : o.rings * (0 + times_at a ss) ≡ o.rings * 1 = ap (λ (t : ℕ). o.rings * (0 + t)) one in omega arith);
        waits = λ a. let x = below_all o.rings 0 in
            ⊎_elim (λ (h : f a ≡ None). let q : idle_at (f a) ≡ 0 = ap idle_at h in omega arith)
            (λ (t : (x : Cell) × (f a ≡ Some x)). let s = start_from o.rings o.starts a t.0 t.1 in let n = s.5 in let p = op.some_ring in
            let q : idle_at (f a) ≡ 0 = ap idle_at t.1 ∙ idle_open t.0 s.6 ∙ ap one_if (ne_eqb t.0.count 0 (λ e. omega arith)) in omega arith)
            (cell_cases (f a));
        making = λ a x r is mk. absurd (none_some r (sym (start_from o.rings o.starts a x is).6 ∙ mk));
        makes = λ r a lt. sym (not_made r (maker_at (f a)) (⊎_elim (λ (h : f a ≡ None). ap maker_at h) (λ (t : (x : Cell) × (f a ≡ Some x)). ap maker_at t.1 ∙ (start_from o.rings o.starts a t.0 t.1).6) (cell_cases (f a))));
        nowhere = start_none o.rings o.starts 0 (starts_zero o.starts op.placed);
        addresses = λ r. refl;
        few = λ r. omega arith;
        bounded = λ a. ⊎_elim (λ (h : f a ≡ None). let q : count_at (f a) ≡ 0 = ap count_at h in omega arith)
            (λ (t : (x : Cell) × (f a ≡ Some x)). let n = (start_from o.rings o.starts a t.0 t.1).5 in let q : count_at (f a) ≡ t.0.count = ap count_at t.1 in omega arith)
            (cell_cases (f a));
        named = λ r. refl;
      }

  pub start_is : (s : ClauseAt) → In s o.starts → IsStart (book o.formula o.journal) (record { number = s.number; lits = s.lits })
  start_is s i = all_in (IsStart (book o.formula o.journal)) (map (λ (t : ClauseAt). record { number = t.number; lits = t.lits }) o.starts) (record { number = s.number; lits = s.lits })
      (In_map (λ (t : ClauseAt). record { number = t.number; lits = t.lits }) o.starts s i) op.opens.starts

  pub opened_sound : Sound (opened o)
  opened_sound =
      let b : Book = book o.formula o.journal in
      let none : Option Stop = None in
      let ruler = op.opens in
      record {
        opens = op;
        counts = counts_open;
        starts = λ r lt open_now. all_map (λ (s : ClauseAt). s.address ≢ 0) (IsOpenCopy (start_cell o.rings o.starts)) o.starts
            (λ s i h. (record { lits = s.lits; number = s.number; count = o.rings; maker = None }, start_some o.rings o.starts s i op.apart, refl, refl, refl)) op.placed;
        copies = record { held = λ r lt. nothing _; making = λ r lt. nothing _; waiting = λ r lt. nothing _ };
        cells = record {
          alive = λ a x is. let t = start_from o.rings o.starts a x is in ap b.clause (sym t.3) ∙ (start_is t.0 t.1).alive ∙ ap (λ (q : List Literal). Some q) t.4;
          shape = λ a x is. let t = start_from o.rings o.starts a x is in subst IsLong t.4 (start_is t.0 t.1).shape;
          own = λ i j x y isx isy e. let s = start_from o.rings o.starts i x isx in let t = start_from o.rings o.starts j y isy in
              sym s.2 ∙ ap (λ (q : ClauseAt). q.address) (own_number o.starts s.0 t.0 op.opens.numbers s.1 t.1 (s.3 ∙ e ∙ sym t.3)) ∙ t.2;
        };
        whole = λ n c shared alive two. ⊎_elim
            (λ (q : Contains (map (λ (s : ClauseAt). s.number) o.starts) n). (let t = map_In (λ (s : ClauseAt). s.number) o.starts n (Contains_In (map (λ (s : ClauseAt). s.number) o.starts) n q) in
            (t.0.address, record { lits = t.0.lits; number = t.0.number; count = o.rings; maker = None }, start_some o.rings o.starts t.0 t.1 op.apart, t.2)))
            (λ (q : b.next ≤ n). absurd (let z = clause_below b (alive_lines o.formula (lines o.formula o.journal)) n c (journal_matches o.formula o.journal ruler.fits) alive in omega arith)) shared;
        slots = λ r to k l a b' c' d' nz. absurd (nz refl);
        log = record {
          log = record { fits = ruler.fits; accepted = ruler.accepted; empty_last = never_empty [] o.journal ruler.going };
          room = op.room;
          begins = ([], sym (append-nil o.journal), nothing _);
          hints = λ _. subst (EachAfter (IsHinted o.formula) o.journal) (sym (drop_all (length o.journal) o.journal (omega arith))) tt;
        };
        entries = ([], sym (append-nil o.journal), λ r lt. refl);
        freshness = record {
          fresh = subst (EachAfter (IsFresh (start_clauses (opening_of o))) []) (sym (drop_all (length o.journal) o.journal (omega arith))) tt;
          spaced = subst (EachAfter IsSpaced []) (sym (drop_all (length o.journal) o.journal (omega arith))) tt;
        };
        units = record {
          paired = op.paired;
          told = λ l h. all_in (λ (q : Literal). is_told o.formula o.journal q ≡ true) o.units l (has_In o.units l h) op.opens.told;
          distinct = op.opens.distinct;
          seen = λ r. (o.units, refl);
          numbered = λ r. (o.numbers, refl, refl);
        };
        turns = λ r is. absurd (none_some r is);
        stops = record { refuted = λ s is k. absurd (none_some s is); kinds = λ s is. absurd (none_some s is) };
        tickets = tickets_none o;
      }
    where
      nothing : {X : Type 0} (P : X → Type 0) → All P []
      nothing P k d lt = absurd (omega arith)

-- Lists of events

run_keeps : (es : List Event) (c : State) → Sound c → EachState after IsEnabled c es → Sound (fold after c es)
run_keeps [] c s e = s
run_keeps (x ∷ es) c s e = run_keeps es (after c x) (event_sound c x s e.0) e.1

pub events_sound : (o : CoreOpening) → IsCoreOpening o → (es : List Event) → AllEnabled (opened o) es → Sound (fold after (opened o) es)
events_sound o op es e = run_keeps es (opened o) (opened_sound o op) (to_states after IsEnabled (opened o) [] es e)

pub run_grows : (es : List Event) (c : State) → (K : List Entry) × ((fold after c es).journal ≡ c.journal ++ K)
run_grows [] c = ([], sym (append-nil c.journal))
run_grows (e ∷ es) c = let s = event_grows c e in let t = run_grows es (after c e) in
    (s.0 ++ t.0, t.1 ∙ ap (λ (J : List Entry). J ++ t.0) s.1 ∙ append_assoc c.journal s.0 t.0)

pub run_opening : (es : List Event) (c : State) → (fold after c es).opening ≡ c.opening
run_opening [] c = refl
run_opening (e ∷ es) c = run_opening es (after c e) ∙ event_opening c e
