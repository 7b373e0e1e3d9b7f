-- A journal in rounds goes on: with entries of the ruler, with one that begins a round, and with those of the round's rings.
use Rattle.std.proofs.Common.{◌≡◌, ◌∙◌, ◌==◌, ◌<◌, ◌≤◌, ◌^◌, ◌&&◌, ◌||◌, ℕ, Bool, true, false, not, List, [], ◌∷◌, ◌++◌, get_or, All, Some, refl, sym, ap, subst, arith, append-nil, inl, inr}
use Rattle.std.specs.List.{list_any}
use Rattle.std.proofs.lemmas.Bool.{true≢false}
use Rattle.std.proofs.lemmas.List.Elements.{All-append}
use Rattle.sat_words.specs.Literal.{Literal, IsOn}
use Rattle.sat_words.specs.Clause.{has}
use Rattle.rup_model.specs.Basics.{EachAfter}
use Rattle.rup_model.specs.declared.journal.TheConstants.{RULER_RING}
use Rattle.rup_model.specs.declared.journal.Round.{Round as RoundStart}
use Rattle.rup_model.specs.declared.journal.Entry.{Entry}
use Rattle.rup_model.specs.declared.journal.Entry.TheVariants.{Add, Del, Reduce, Round}
use Rattle.rup_model.specs.Journal.{formula_book, ring_of, added, fresh, LogSound, IsSpaced}
use Rattle.rup_model.specs.NumberedLines.{AreHinted}
use Rattle.rup_model.specs.Opening.{Opening, start_clauses, is_rulers, adds_unit, is_new, IsNew}
use Rattle.rup_model.specs.Windows.{begins_round, since_round, opening_by, round_opening, IsNewInRound, IsSpacedInRound}
use Rattle.rup_model.proofs.Additions.{added-append}
use Rattle.rup_model.proofs.Parts.{rulers_kind}
use Rattle.rup_model.proofs.Sequences.{each_both, each_weaker}
use Rattle.rup_model.proofs.Windowing.{NewBy, SpacedBy, alone_in_round, rings_begin_none}
use Rattle.core_rounds.specs.InRounds.{IsOfRounds}
use Rattle.ring_run.specs.Ended.{IsOwn}
use Rattle.portfolio_run.specs.Journaled.{IsRingsEntry, IsPlainEntry, IsProgramRound, BeginsWell, IsJournal}
use Rattle.portfolio_run.specs.Pauses.{StandsInRounds}
use Rattle.portfolio_run.proofs.Rulers.{AreRulers}
use Rattle.portfolio_run.proofs.Interleaving.{cons_All, first_All, later_All, own, all_of, interleaved, new_local, spaced_local, any_alike}
use Rattle.portfolio_run.proofs.Spelling.{formula_on, spelled_from}

-- what is known of a ring's own entries in a round
pub record HasWritten (vars : ℕ) (o : Opening) (r : ℕ) (mine : List Entry) : Type 0 where
  pub wrote : All (IsOwn r vars) mine
  pub each_new : EachAfter (IsNew o) [] mine
  pub spaced : EachAfter IsSpaced [] mine

-- The two start from the same clauses, in the same order, and from the same units

pub record IsAlike (o p : Opening) : Type 0 where
  pub starts : start_clauses o ≡ start_clauses p
  pub units : (l : Literal) → has o.units l ≡ has p.units l

new_alike : (o p : Opening) (J : List Entry) (r : ℕ) (c : List Literal) → IsAlike o p → is_new o J r c ≡ is_new p J r c
new_alike o p J r c a =
    ap (λ (cs : List (List Literal)). fresh cs J r c && not (list_any (λ (l : Literal). has o.units l || adds_unit r J l) c)) a.starts
    ∙ ap (λ (b : Bool). fresh (start_clauses p) J r c && not b) (any_alike (λ (l : Literal). has o.units l || adds_unit r J l) (λ (l : Literal). has p.units l || adds_unit r J l) c
    (λ l. ap (λ (b : Bool). b || adds_unit r J l) (a.units l)))

still_new : (o p : Opening) → IsAlike o p → (before : List Entry) (e : Entry) → IsNew o before e → IsNew p before e
still_new o p a before (Add x) h = λ learns. sym (new_alike o p before x.ring x.lits a) ∙ h learns
still_new o p a before (Del r n) h = tt
still_new o p a before (Reduce r) h = tt
still_new o p a before (Round x) h = tt

-- Entries, each by itself

each_by : {E : Type 0} (P : List E → E → Type 0) (Q : E → Type 0) → ((before : List E) (e : E) → Q e → P before e) → (before es : List E) → All Q es → EachAfter P before es
each_by P Q f before [] all = tt
each_by P Q f before (e ∷ es) all = (f before e (first_All Q e es all), each_by P Q f (before ++ e ∷ []) es (later_All Q e es all))

rulers_new : (o : Opening) (before : List Entry) (e : Entry) → is_rulers e ≡ true → IsNew o before e
rulers_new o before (Add x) ruled = λ learns. absurd (true≢false (sym learns ∙ rulers_kind x ruled))
rulers_new o before (Del q n) ruled = tt
rulers_new o before (Reduce q) ruled = tt
rulers_new o before (Round x) ruled = tt

rulers_reduce_not : (before : List Entry) (e : Entry) → is_rulers e ≡ true → IsSpaced before e
rulers_reduce_not before (Add x) ruled = tt
rulers_reduce_not before (Del q n) ruled = tt
rulers_reduce_not before (Reduce q) ruled = absurd (by (q == RULER_RING) ruled)
  where
    by : (t : Bool) → (t && false) ≡ true → ⊥
    by true e = true≢false (sym e)
    by false e = true≢false (sym e)
rulers_reduce_not before (Round x) ruled = tt

rulers_begin : (F : List (List Literal)) (before : List Entry) (e : Entry) → is_rulers e ≡ true → BeginsWell F before e
rulers_begin F before (Add x) ruled = tt
rulers_begin F before (Del q n) ruled = tt
rulers_begin F before (Reduce q) ruled = tt
rulers_begin F before (Round x) ruled = absurd (true≢false (sym ruled))

rings_begin : (F : List (List Literal)) (before : List Entry) (e : Entry) → ring_of e < RULER_RING → BeginsWell F before e
rings_begin F before (Add x) lt = tt
rings_begin F before (Del q n) lt = tt
rings_begin F before (Reduce q) lt = tt
rings_begin F before (Round x) lt = absurd (omega arith)

-- Of entries that are of their rings

plain_of : (vars : ℕ) (e : Entry) → IsOwn (ring_of e) vars e → IsRingsEntry e
plain_of vars (Add x) h = h.2
plain_of vars (Del r n) h = tt
plain_of vars (Reduce r) h = tt
plain_of vars (Round x) h = h

on_of : (vars : ℕ) (es : List Entry) → All (λ e. IsOwn (ring_of e) vars e) es → All (All (IsOn vars)) (added es)
on_of vars [] all = λ k d lt. absurd (omega arith)
on_of vars (Add x ∷ es) all =
    let h : IsOwn (ring_of (Add x)) vars (Add x) = first_All (λ e. IsOwn (ring_of e) vars e) (Add x) es all in
    cons_All (All (IsOn vars)) x.lits (added es) h.1 (on_of vars es (later_All (λ e. IsOwn (ring_of e) vars e) (Add x) es all))
on_of vars (Del r n ∷ es) all = on_of vars es (later_All (λ e. IsOwn (ring_of e) vars e) (Del r n) es all)
on_of vars (Reduce r ∷ es) all = on_of vars es (later_All (λ e. IsOwn (ring_of e) vars e) (Reduce r) es all)
on_of vars (Round x ∷ es) all = on_of vars es (later_All (λ e. IsOwn (ring_of e) vars e) (Round x) es all)

-- What stands of a journal in rounds, entry by entry

module _ (vars rings : ℕ) (F : List (List Literal)) where
  pub none_stands : StandsInRounds vars rings F []
  none_stands = record { on = λ k d lt. absurd (omega arith); of_rounds = λ k d lt. absurd (omega arith); plain = λ k d lt. absurd (omega arith); begins = tt; each_new = tt; spaced = tt }

  -- with entries of the ruler
  pub rulers_stand : (J K : List Entry) → StandsInRounds vars rings F J → AreRulers K → All (All (IsOn vars)) (added K) → StandsInRounds vars rings F (J ++ K)
  rulers_stand J K h rulers on = record {
    on = subst (All (All (IsOn vars))) (sym (added-append J K)) (All-append (All (IsOn vars)) (added J) (added K) h.on on);
    of_rounds = All-append (IsOfRounds rings) J K h.of_rounds (λ k d lt. inl (rulers k d lt));
    plain = All-append IsPlainEntry J K h.plain (λ k d lt. inl (rulers k d lt));
    begins = each_both (BeginsWell F) [] J K h.begins (each_by (BeginsWell F) (λ e. is_rulers e ≡ true) (rulers_begin F) J K rulers);
    each_new = each_both (IsNewInRound F) [] J K h.each_new (each_by (IsNewInRound F) (λ e. is_rulers e ≡ true) (λ before e ruled. rulers_new (round_opening F before) (since_round before) e ruled) J K rulers);
    spaced = each_both IsSpacedInRound [] J K h.spaced (each_by IsSpacedInRound (λ e. is_rulers e ≡ true) (λ before e ruled. rulers_reduce_not (since_round before) e ruled) J K rulers);
  }

  -- with an entry that begins a round
  pub round_stands : (J : List Entry) (x : RoundStart) → StandsInRounds vars rings F J → IsProgramRound F J x → StandsInRounds vars rings F (J ++ Round x ∷ [])
  round_stands J x h well = record {
    on = subst (All (All (IsOn vars))) (sym (added-append J (Round x ∷ []) ∙ append-nil (added J))) h.on;
    of_rounds = All-append (IsOfRounds rings) J (Round x ∷ []) h.of_rounds (cons_All (IsOfRounds rings) (Round x) [] (inr (inl refl)) (λ k d lt. absurd (omega arith)));
    plain = All-append IsPlainEntry J (Round x ∷ []) h.plain (cons_All IsPlainEntry (Round x) [] (inr (inl refl)) (λ k d lt. absurd (omega arith)));
    begins = each_both (BeginsWell F) [] J (Round x ∷ []) h.begins (well, tt);
    each_new = each_both (IsNewInRound F) [] J (Round x ∷ []) h.each_new (tt, tt);
    spaced = each_both IsSpacedInRound [] J (Round x ∷ []) h.spaced (tt, tt);
  }

  -- with the entries of its rings, which started from what it begins with
  module _ (J : List Entry) (x : RoundStart) (K : List Entry) (few : rings ≤ RULER_RING) (of_rings : All (λ e. ring_of e < rings) K) (o : Opening) (same : IsAlike o (opening_by F (J ++ Round x ∷ []) (Some x)))
      (each : (r : ℕ) → r < rings → HasWritten vars o r (own r K)) where
    abbrev I : List Entry
    I = J ++ Round x ∷ []

    below_ruler : All (λ e. ring_of e < RULER_RING) K
    below_ruler k d lt = let h = of_rings k d lt in omega (arith, h, few)

    pub none_begins : list_any begins_round K ≡ false
    none_begins = rings_begin_none K below_ruler

    all_own : All (λ e. IsOwn (ring_of e) vars e) K
    all_own = all_of (λ r e. IsOwn r vars e) rings K of_rings (λ r lt. (each r lt).wrote)

    new_here : EachAfter (IsNew (opening_by F I (Some x))) [] K
    new_here =
        let p : Opening = opening_by F I (Some x) in
        interleaved (IsNew p) (new_local p) rings [] K of_rings (λ r lt. each_weaker (IsNew o) (IsNew p) (still_new o p same) [] (own r K) (each r lt).each_new)

    spaced_here : EachAfter IsSpaced [] K
    spaced_here = interleaved IsSpaced spaced_local rings [] K of_rings (λ r lt. (each r lt).spaced)

    pub rings_stand : StandsInRounds vars rings F I → StandsInRounds vars rings F (I ++ K)
    rings_stand h = record {
      on = subst (All (All (IsOn vars))) (sym (added-append I K)) (All-append (All (IsOn vars)) (added I) (added K) h.on (on_of vars K all_own));
      of_rounds = All-append (IsOfRounds rings) I K h.of_rounds (λ k d lt. inr (inr (of_rings k d lt)));
      plain = All-append IsPlainEntry I K h.plain (λ k d lt. inr (inr (plain_of vars (get_or K k d) (all_own k d lt))));
      begins = each_both (BeginsWell F) [] I K h.begins (each_by (BeginsWell F) (λ e. ring_of e < RULER_RING) (rings_begin F) I K below_ruler);
      each_new = each_both (IsNewInRound F) [] I K h.each_new (alone_in_round J x (NewBy F) K none_begins new_here);
      spaced = each_both IsSpacedInRound [] I K h.spaced (alone_in_round J x SpacedBy K none_begins spaced_here);
    }

-- a log that is sound, and shown by its hints if it has them, is then one of a run
pub journal_of_rounds : (vars rings : ℕ) (with_hints : Bool) (F : List (List Literal)) (J : List Entry) → vars ≤ 2 ^ 30 → All (All (IsOn vars)) F → LogSound F J → (with_hints ≡ true → AreHinted F J) → StandsInRounds vars rings F J → IsJournal rings with_hints F J
journal_of_rounds vars rings with_hints F J few on sound hinted h = record {
  fits = sound.fits;
  accepted = sound.accepted;
  last = sound.empty_last;
  spelled = spelled_from vars few (formula_book F) J (formula_on vars F on) h.on;
  hinted = hinted;
  of_rounds = h.of_rounds;
  plain = h.plain;
  begins = h.begins;
  each_new = h.each_new;
  spaced = h.spaced;
}
