use Rattle.std.proofs.Common.{◌≡◌, ◌∙◌, ℕ, ◌+◌, ◌<◌, ◌||◌, Bool, false, nat_eq, List, length, get_or, drop, replicate, sym, refl, ap, inl, inr, arith}
use Rattle.std.proofs.Math.ListN.{set, length-set}
use Rattle.std.specs.Set.{is_member}
use Rattle.std.proofs.lemmas.Bool.{cases_eq, ne_eqb}
use Rattle.std.proofs.lemmas.List.{get_or-set_same, get_or-set_other, get_or-replicate, length-replicate, drop_all, drop_more, ext_get_or}
use Rattle.analyze.proofs.marks.make_blank.Goals as goal

-- a place that isn't listed after the first i + 1 is the next one, or isn't listed after the first i
not_ahead : (xs : List ℕ) (i p : ℕ) → i < length xs → (p ≡ get_or xs i 0 → ⊥) → is_member nat_eq (drop (i + 1) xs) p ≡ false → is_member nat_eq (drop i xs) p ≡ false
not_ahead xs i p lt ne off = ap (λ (ys : List ℕ). is_member nat_eq ys p) (drop_more xs i 0 lt) ∙ ap (λ (b : Bool). b || is_member nat_eq (drop (i + 1) xs) p) (ne_eqb p (get_or xs i 0) ne) ∙ off

blank_next : {T : Type 0} (vs : List T) (x : T) (xs : List ℕ) (i q p : ℕ) → i < length xs → q ≡ get_or xs i 0 → q < length vs
    → ((r : ℕ) → is_member nat_eq (drop i xs) r ≡ false → get_or vs r x ≡ x)
    → is_member nat_eq (drop (i + 1) xs) p ≡ false → get_or (set vs q x) p x ≡ x
blank_next vs x xs i q p lt e there others off =
    elim (cases_eq p q) as (λ _. get_or (set vs q x) p x ≡ x) [
      | inl same ↦ ap (λ (r : ℕ). get_or (set vs q x) r x) same ∙ get_or-set_same vs q x x there
      | inr ne ↦ get_or-set_other vs q p x x ne ∙ others p (not_ahead xs i p lt (λ s. ne (s ∙ sym e)) off)
    ]

all_blank : {T : Type 0} (vs : List T) (x : T) (n : ℕ) → length vs ≡ n → ((p : ℕ) → get_or vs p x ≡ x) → vs ≡ replicate n x
all_blank vs x n e blank = ext_get_or x vs (replicate n x) (e ∙ sym (length-replicate n x)) (λ i lt. blank i ∙ sym (get_or-replicate n i x x (omega arith)))

pub loop-place-preserved : goal.loop-place-preserved
loop-place-preserved g c =
    let i = c.loop-place.invariant in
    let ps = c.args.touched.now in
    let at = c.loop-place.place-index in
    let vs = c.loop-place.values.items in
    let there : get_or ps at 0 < length vs = omega (arith, c.requires.in_range at 0 c.loop-place-test.true, i.size) in
    record {
      size = length-set vs (get_or ps at 0) c.args.blank ∙ i.size;
      others = λ p off. blank_next vs c.args.blank ps at (get_or ps at 0) p c.loop-place-test.true refl there i.others off;
    }

pub returns : goal.returns
returns g c =
    let i = c.loop-place.invariant in
    all_blank c.loop-place.values.items c.args.blank (length c.args.values.now.items) i.size
    (λ p. i.others p (ap (λ (ys : List ℕ). is_member nat_eq ys p) (drop_all c.loop-place.place-index c.args.touched.now c.loop-place-test.false)))
