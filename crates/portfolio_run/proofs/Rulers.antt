-- Entries of the ruler, and what a journal has that consists of them.
use Rattle.std.proofs.Common.{◌≡◌, ◌∙◌, ◌==◌, ◌<◌, ◌&&◌, ◌+◌, ◌++◌, ℕ, suc, Bool, true, false, cond, List, [], ◌∷◌, map, length, take, All, refl, sym, ap, inl, arith, ne_eqb, append-nil, append_assoc}
use Rattle.std.specs.List.{filter, list_all, prefix_len}
use Rattle.std.specs.Option.{is_none}
use Rattle.std.proofs.lemmas.Bool.{and_parts, eqb-true, true≢false}
use Rattle.std.proofs.lemmas.List.Sums.{take_while-cons}
use Rattle.std.proofs.Math.Seq.{take-append_seam}
use Rattle.rup_model.specs.declared.journal.TheConstants.{RULER_RING}
use Rattle.rup_model.specs.declared.journal.Addition.{Addition}
use Rattle.rup_model.specs.declared.journal.Entry.{Entry}
use Rattle.rup_model.specs.declared.journal.Round.{Round as RoundStart}
use Rattle.rup_model.specs.declared.journal.Entry.TheVariants.{Add, Del, Reduce, Round}
use Rattle.rup_model.specs.Journal.{ring_of, reduction, round_of, additions, learned, is_learn}
use Rattle.rup_model.specs.Opening.{is_ruler, is_rulers, ruler_part, rings_part}
use Rattle.rup_model.proofs.Parts.{ruler_part-append, rings_part-append, rulers_kind}
use Rattle.portfolio_run.specs.Journaled.{IsPlainEntry}

abbrev pub AreRulers : List Entry → Type 0
AreRulers J = All (λ e. is_rulers e ≡ true) J

pub later : (e : Entry) (J : List Entry) → AreRulers (e ∷ J) → AreRulers J
later e J rulers k d lt = rulers (suc k) d (omega arith)

parts : (e : Entry) → is_rulers e ≡ true → ((ring_of e == RULER_RING) ≡ true) × ((list_all (λ (x : Addition). is_ruler x.kind) (additions (e ∷ [])) && (is_none (reduction e) && is_none (round_of e))) ≡ true)
parts e h = and_parts (ring_of e == RULER_RING) (list_all (λ (x : Addition). is_ruler x.kind) (additions (e ∷ [])) && (is_none (reduction e) && is_none (round_of e))) h

ring_is : (e : Entry) → is_rulers e ≡ true → ring_of e ≡ RULER_RING
ring_is e h = eqb-true (ring_of e) RULER_RING (parts e h).0

without : (x : Addition) (others : List Addition) (t u : Bool) → u ≡ false → map (λ (y : Addition). y.lits) others ≡ [] → map (λ (y : Addition). y.lits) (cond (t && u) (x ∷ others) others) ≡ []
without x others true true e none = absurd (true≢false e)
without x others true false e none = none
without x others false u e none = none

-- nothing in them was learned
pub rulers_learned : (r : ℕ) (J : List Entry) → AreRulers J → learned r J ≡ []
rulers_learned r [] rulers = refl
rulers_learned r (Add x ∷ J) rulers =
    without x (filter (λ (y : Addition). (y.ring == r) && is_learn y.kind) (additions J)) (x.ring == r) (is_learn x.kind) (rulers_kind x (rulers 0 (Add x) (omega arith))) (rulers_learned r J (later (Add x) J rulers))
rulers_learned r (Del q n ∷ J) rulers = rulers_learned r J (later (Del q n) J rulers)
rulers_learned r (Reduce q ∷ J) rulers = rulers_learned r J (later (Reduce q) J rulers)
rulers_learned r (Round x ∷ J) rulers = rulers_learned r J (later (Round x) J rulers)

-- none of them is a ring's
pub rulers_of_no_ring : (r : ℕ) → r < RULER_RING → (J : List Entry) → AreRulers J → filter (λ e. ring_of e == r) J ≡ []
rulers_of_no_ring r lt [] rulers = refl
rulers_of_no_ring r lt (e ∷ J) rulers =
    ap (λ (t : Bool). cond t (e ∷ filter (λ (x : Entry). ring_of x == r) J) (filter (λ (x : Entry). ring_of x == r) J))
    (ne_eqb (ring_of e) r (λ q. (let h = ring_is e (rulers 0 e (omega arith)) in absurd (omega (arith, q, h))))) ∙ rulers_of_no_ring r lt J (later e J rulers)

pub rulers_plain : (J : List Entry) → AreRulers J → All IsPlainEntry J
rulers_plain J rulers k d lt = inl (rulers k d lt)

-- all of the journal is the ruler's part
pub all_rulers : (J : List Entry) → AreRulers J → (ruler_part J ≡ J) × (rings_part J ≡ [])
all_rulers J rulers = (
  ap ruler_part (sym (append-nil J)) ∙ ruler_part-append J [] rulers (λ k d lt. absurd (omega arith)),
  ap rings_part (sym (append-nil J)) ∙ rings_part-append J [] rulers (λ k d lt. absurd (omega arith)),
)

-- the ruler's part ends where the first round begins
front_many : (J0 rest : List Entry) → AreRulers J0 → prefix_len is_rulers rest ≡ 0 → prefix_len is_rulers (J0 ++ rest) ≡ length J0
front_many [] rest rulers none = none
front_many (e ∷ J0) rest rulers none =
    let more = front_many J0 rest (later e J0 rulers) none in
    ap (λ (t : Bool). cond t (1 + prefix_len is_rulers (J0 ++ rest)) 0) (rulers 0 e (omega arith)) ∙ (let q : 1 + prefix_len is_rulers (J0 ++ rest) ≡ suc (length J0) = omega arith in q)

pub front_is : (J0 : List Entry) (x : RoundStart) (K : List Entry) → AreRulers J0 → ruler_part ((J0 ++ Round x ∷ []) ++ K) ≡ J0
front_is J0 x K rulers =
    ap ruler_part (append_assoc J0 (Round x ∷ []) K)
    ∙ ap (λ (n : ℕ). take n (J0 ++ Round x ∷ K)) (front_many J0 (Round x ∷ K) rulers refl)
    ∙ take-append_seam J0 (Round x ∷ K)

-- and what stands before that is the ruler's part as far as it was
pub front_stays : (J : List Entry) (x : RoundStart) (K : List Entry) → ruler_part ((J ++ Round x ∷ []) ++ K) ≡ ruler_part J
front_stays [] x K = refl
front_stays (e ∷ J) x K =
    take_while-cons is_rulers e ((J ++ Round x ∷ []) ++ K)
    ∙ ap (λ (es : List Entry). cond (is_rulers e) (e ∷ es) []) (front_stays J x K)
    ∙ sym (take_while-cons is_rulers e J)
