-- A ring's part has the ring's entries.
use Rattle.std.proofs.Common.{◌≡◌, ℕ, ◌+◌, ◌==◌, Bool, true, false, cond, List, [], ◌∷◌, ◌++◌, length, sym, ap, ◌∙◌, arith, eq-eqb, ne_eqb, append-nil, append_assoc, length-append}
use Rattle.rup_model.specs.declared.journal.Entry.{Entry}
use Rattle.rup_model.specs.Basics.{put}
use Rattle.rup_model.specs.Journal.{ring_of}
use Rattle.rup_model.proofs.Sums.{at_put}
use Rattle.share_core.specs.State.{CoreOpening, Placed, Part, State}
use Rattle.share_core.specs.Sound.{placed, EntriesOwned}

pub placed_last : (r k : ℕ) (J : List Entry) (e : Entry) → placed r k (J ++ e ∷ []) ≡ placed r k J ++ placed r (k + length J) (e ∷ [])
placed_last r k [] e = ap (λ (n : ℕ). placed r n (e ∷ [])) (let z : k ≡ k + 0 = omega arith in z)
placed_last r k (x ∷ J) e = by (ring_of x == r) (placed_last r (k + 1) J e ∙ ap (λ (n : ℕ). placed r (k + 1) J ++ placed r n (e ∷ [])) (let z : (k + 1) + length J ≡ k + length (x ∷ J) = omega arith in z))
  where
    by : (b : Bool) → placed r (k + 1) (J ++ e ∷ []) ≡ placed r (k + 1) J ++ placed r (k + length (x ∷ J)) (e ∷ [])
        → cond b (record { place = k; entry = x } ∷ placed r (k + 1) (J ++ e ∷ [])) (placed r (k + 1) (J ++ e ∷ [])) ≡ cond b (record { place = k; entry = x } ∷ placed r (k + 1) J) (placed r (k + 1) J) ++ placed r (k + length (x ∷ J)) (e ∷ [])
    by true h = ap (λ (P : List Placed). record { place = k; entry = x } ∷ P) h
    by false h = h

pub owned_more : (o : CoreOpening) (c : State) (r : ℕ) (e : Entry) (p : Part) → EntriesOwned o c.journal c.part → ring_of e ≡ r → p.wrote ≡ (c.part r).wrote ++ record { place = length c.journal; entry = e } ∷ []
    → EntriesOwned o (c.journal ++ e ∷ []) (put c.part r p)
owned_more o c r e p old is wrote =
    let K : List Entry = old.0 in
    let k : ℕ = length o.journal in
    let n : ℕ = k + length K in
    let z : n ≡ length c.journal = sym (ap length old.1 ∙ length-append o.journal K) in (
      K ++ e ∷ [],
      ap (λ (L : List Entry). L ++ e ∷ []) old.1 ∙ append_assoc o.journal K (e ∷ []),
      λ i lt. at_put c.part r p (λ (q : Part). q.wrote ≡ placed i k (K ++ e ∷ [])) i
          (λ h. wrote ∙ ap (λ (P : List Placed). P ++ record { place = length c.journal; entry = e } ∷ []) (ap (λ (q : ℕ). (c.part q).wrote) (sym h) ∙ old.2 i lt)
          ∙ (λ j. placed i k K ++ record { place = sym z j; entry = e } ∷ [])
          ∙ (λ j. placed i k K ++ cond (sym (eq-eqb (ring_of e) i (is ∙ sym h)) j) (record { place = n; entry = e } ∷ []) [])
          ∙ sym (placed_last i k K e))
          (λ ne. old.2 i lt ∙ sym (append-nil (placed i k K)) ∙ (λ j. placed i k K ++ cond (sym (ne_eqb (ring_of e) i (λ h. ne (sym h ∙ is))) j) (record { place = n; entry = e } ∷ []) []) ∙ sym (placed_last i k K e)),
    )

pub owned_same : (o : CoreOpening) (c : State) (r : ℕ) (p : Part) → EntriesOwned o c.journal c.part → p.wrote ≡ (c.part r).wrote → EntriesOwned o c.journal (put c.part r p)
owned_same o c r p old same = (
  old.0,
  old.1,
  λ i lt. at_put c.part r p (λ (q : Part). q.wrote ≡ placed i (length o.journal) old.0) i (λ h. same ∙ ap (λ (k : ℕ). (c.part k).wrote) (sym h) ∙ old.2 i lt) (λ ne. old.2 i lt),
)
