-- Signatures: the variables of a clause as the bits of one word.
use Rattle.std.proofs.Common.{take, set, ◌≡◌, ◌≢◌, ◌⊎◌, ℕ, zero, suc, ◌+◌, ◌<◌, ◌%◌, ◌^◌, true, List, [], ◌∷◌, length, get_or, fold, min, max, refl, sym, ap, subst, ◌∙◌, inl, inr, ⊎_elim, arith, bit_and, bit_or}
use mathlib.Core.Logic.{dite}
use native.Mathlib.Decide.{ℕ_discrete}
use Rattle.std.specs.List.{Contains}
use Rattle.std.specs.Int.{bit_at}
use Rattle.std.proofs.lemmas.Nat.Bits.{bit_at_and, bit_at_or, bit_at-pow_same, bit_at-pow_other, bit_at-lt, bit_at-zero, same_from_bits}
use Rattle.std.proofs.lemmas.List.{get_or_default, get_or-set_same, get_or-set_other}
use Rattle.sat_words.specs.Literal.{Literal, opposite, same}
use Rattle.sat_words.specs.Clause.{has}
use Rattle.sat_words.proofs.Members.{same-true}
use Rattle.rup_model.proofs.Lists.{In, In_has, has_In, Contains_In, In_Contains}
use Rattle.simp_base.specs.WorkState.{WorkState, HaveOwnNumbers}
use Rattle.simp_subsume.specs.Related.{subsumes, strengthens, IsUnrelated}
use Rattle.simp_subsume.specs.Signed.{signature_of, AreSignatures, IsRuledOut}
use Rattle.simp_subsume.specs.Compared.{Reduces}
use Rattle.simp_subsume.proofs.Fronts.{one_more}
use Rattle.simp_subsume.proofs.Relating.{refuted, subsumes_in, strengthens_parts}

-- Bits

low_or : (x y : ℕ) → x < 2 → y < 2 → max x y ≡ 1 → (x ≡ 1) ⊎ (y ≡ 1)
low_or zero y a b e = inr (omega arith)
low_or (suc x) y a b e = inl (omega arith)

low_and : (x y : ℕ) → x < 2 → (x ≡ 1 → y ≡ 1) → min x y ≡ x
low_and zero y a f = omega arith
low_and (suc zero) y a f = let e = f refl in omega arith
low_and (suc (suc x)) y a f = absurd (omega arith)

one_or : (x y : ℕ) → x < 2 → y < 2 → (x ≡ 1) ⊎ (y ≡ 1) → max x y ≡ 1
one_or x y a b (inl e) = omega arith
one_or x y a b (inr e) = omega arith

-- a bit stays
bit_kept : (c : List Literal) (w i : ℕ) → bit_at w i ≡ 1 → bit_at (fold (λ w l. bit_or w (2 ^ (l.var % 64))) w c) i ≡ 1
bit_kept [] w i h = h
bit_kept (x ∷ c) w i h = bit_kept c (bit_or w (2 ^ (x.var % 64))) i (bit_at_or w (2 ^ (x.var % 64)) i ∙ one_or (bit_at w i) (bit_at (2 ^ (x.var % 64)) i) (bit_at-lt w i) (bit_at-lt (2 ^ (x.var % 64)) i) (inl h))

-- a literal has its bit
bit_there : (c : List Literal) (w : ℕ) (l : Literal) → In l c → bit_at (fold (λ w l. bit_or w (2 ^ (l.var % 64))) w c) (l.var % 64) ≡ 1
bit_there [] w l h = absurd h
bit_there (x ∷ c) w l (inl e) =
    bit_kept c (bit_or w (2 ^ (x.var % 64))) (l.var % 64) (bit_at_or w (2 ^ (x.var % 64)) (l.var % 64)
    ∙ one_or (bit_at w (l.var % 64)) (bit_at (2 ^ (x.var % 64)) (l.var % 64)) (bit_at-lt w (l.var % 64)) (bit_at-lt (2 ^ (x.var % 64)) (l.var % 64))
    (inr (subst (λ (y : Literal). bit_at (2 ^ (x.var % 64)) (y.var % 64) ≡ 1) e (bit_at-pow_same (x.var % 64)))))
bit_there (x ∷ c) w l (inr i) = bit_there c (bit_or w (2 ^ (x.var % 64))) l i

-- a bit comes from a literal
bit_from : (c : List Literal) (w i : ℕ) → bit_at (fold (λ w l. bit_or w (2 ^ (l.var % 64))) w c) i ≡ 1 → (bit_at w i ≡ 1) ⊎ ((l : Literal) × In l c × (l.var % 64 ≡ i))
bit_from [] w i h = inl h
bit_from (x ∷ c) w i h = ⊎_elim
    (λ (e : bit_at (bit_or w (2 ^ (x.var % 64))) i ≡ 1). ⊎_elim
    (λ (a : bit_at w i ≡ 1). inl a)
    (λ (b : bit_at (2 ^ (x.var % 64)) i ≡ 1). dite (ℕ_discrete i (x.var % 64))
    (λ (q : i ≡ x.var % 64). inr (x, inl refl, sym q))
    (λ (ne : i ≢ x.var % 64). (let z = bit_at-pow_other (x.var % 64) i ne in absurd (omega (arith, z, b)))))
    (low_or (bit_at w i) (bit_at (2 ^ (x.var % 64)) i) (bit_at-lt w i) (bit_at-lt (2 ^ (x.var % 64)) i) (sym (bit_at_or w (2 ^ (x.var % 64)) i) ∙ e)))
    (λ (t : (l : Literal) × In l c × (l.var % 64 ≡ i)). inr (t.0, inr t.1, t.2))
    (bit_from c (bit_or w (2 ^ (x.var % 64))) i h)

-- the variables of one clause are those of another one
covered_bits : (c d : List Literal) → ((l : Literal) → In l c → (m : Literal) × In m d × (m.var ≡ l.var)) → bit_and (signature_of c) (signature_of d) ≡ signature_of c
covered_bits c d f = same_from_bits (bit_and (signature_of c) (signature_of d)) (signature_of c) (λ i.
    bit_at_and (signature_of c) (signature_of d) i ∙ low_and (bit_at (signature_of c) i) (bit_at (signature_of d) i) (bit_at-lt (signature_of c) i) (λ e. ⊎_elim
    (λ (z : bit_at 0 i ≡ 1). (let o = bit_at-zero i in absurd (omega (arith, z, o))))
    (λ (t : (l : Literal) × In l c × (l.var % 64 ≡ i)). (let m = f t.0 t.1 in subst (λ (j : ℕ). bit_at (signature_of d) j ≡ 1) (ap (λ v. v % 64) m.2 ∙ t.2) (bit_there d 0 m.0 m.1)))
    (bit_from c 0 i e)))

-- a clause that lacks a bit is not related
pub unrelated_ruled_out : (c d : List Literal) → bit_and (signature_of c) (signature_of d) ≢ signature_of c → IsUnrelated c d
unrelated_ruled_out c d lacks = record {
  subsumes = refuted (subsumes c d) (λ t. lacks (covered_bits c d (λ l i. (l, has_In d l (subsumes_in c d t l (In_has c l i)), refl))));
  strengthens = λ k. refuted (strengthens c d k) (λ t. (
      let s = strengthens_parts c d k t in
      lacks (covered_bits c d (λ l i. ⊎_elim
      (λ (e : same k l ≡ true). (opposite k, has_In d (opposite k) s.1, ap (λ (x : Literal). x.var) (same-true k l e)))
      (λ (h : has d l ≡ true). (l, has_In d l h, refl))
      (s.2 l (In_has c l i))))));
}

-- The table

pub signed_along : (old new : WorkState) (words : List ℕ) → Reduces old new → AreSignatures old words → AreSignatures new words
signed_along old new words r s = record {
  short = (let a = s.short in let b = r.later in omega arith);
  exact = λ n c i lt. ⊎_elim
      (λ (j : Contains old.clauses (n, c)). s.exact n c j lt)
      (λ (q : old.output.last < n). (let a = s.short in absurd (omega arith)))
      (r.numbered n c i);
}

pub ruled_out_alive : (w : WorkState) (words : List ℕ) (c d : List Literal) (n : ℕ) → AreSignatures w words → Contains w.clauses (n, d) → IsRuledOut words (signature_of c) n → IsUnrelated c d
ruled_out_alive w words c d n s i r = unrelated_ruled_out c d (λ e. r.lacks (ap (bit_and (signature_of c)) (s.exact n d i r.within) ∙ e))

-- one clause more has its signature
pub signed_more : (cells : List (ℕ × List Literal)) (words : List ℕ) (i s : ℕ) (cell : ℕ × List Literal) → HaveOwnNumbers cells → i < length cells → cell ≡ get_or cells i cell → cell.0 < length words
    → ((k : ℕ) (d : ℕ × List Literal) → k < i → get_or words (get_or cells k d).0 0 ≡ signature_of (get_or cells k d).1) → s ≡ signature_of cell.1
    → (k : ℕ) (d : ℕ × List Literal) → k < i + 1 → get_or (set words cell.0 s) (get_or cells k d).0 0 ≡ signature_of (get_or cells k d).1
signed_more cells words i s cell own within is fits before sign k d lt = dite (ℕ_discrete k i)
    (λ (e : k ≡ i). (
    let here : cell ≡ get_or cells k d = is ∙ get_or_default cells i cell d within ∙ ap (λ j. get_or cells j d) (sym e) in
    subst (λ (x : ℕ × List Literal). get_or (set words cell.0 s) x.0 0 ≡ signature_of x.1) here (get_or-set_same words cell.0 s 0 fits ∙ sign)))
    (λ (ne : k ≢ i). (
    let lower : k < i = omega arith in
    let at : get_or cells i d ≡ cell = get_or_default cells i d cell within ∙ sym is in
    let apart : (get_or cells k d).0 ≢ cell.0 = λ q. own k i d lower within (q ∙ sym (ap (λ (x : ℕ × List Literal). x.0) at)) in
    get_or-set_other words cell.0 (get_or cells k d).0 s 0 apart ∙ before k d lower))

-- Lists of numbers

-- one number more is listed or ruled out
pub listed_more : (numbers old new words : List ℕ) (wanted i : ℕ) → i < length numbers → ((n : ℕ) → Contains old n → Contains new n) → IsRuledOut words wanted (get_or numbers i 0) ⊎ Contains new (get_or numbers i 0)
    → ((n : ℕ) → Contains (take i numbers) n → IsRuledOut words wanted n ⊎ Contains old n) → (n : ℕ) → Contains (take (i + 1) numbers) n → IsRuledOut words wanted n ⊎ Contains new n
listed_more numbers old new words wanted i lt kept here before n h = ⊎_elim
    (λ (j : In n (take i numbers)). ⊎_elim
    (λ (r : IsRuledOut words wanted n). inl r)
    (λ (k : Contains old n). inr (kept n k))
    (before n (In_Contains (take i numbers) n j)))
    (λ (e : get_or numbers i 0 ≡ n). subst (λ (m : ℕ). IsRuledOut words wanted m ⊎ Contains new m) e here)
    (one_more numbers i 0 lt n (Contains_In (take (i + 1) numbers) n h))
