-- Lemmas have their turns in a list, one after the other.
use Rattle.std.proofs.Common.{◌≡◌, ◌≢◌, ◌∙◌, ℕ, zero, suc, ◌+◌, ◌<◌, ◌≤◌, List, [], ◌∷◌, ◌++◌, length, take, drop, sym, subst, ap, arith, inl, inr, ◌⊎◌, refl, Contains, IsSome, Some, None, append-nil, append_assoc, slice_index_or}
use Rattle.std.specs.Prelude.{All}
use Rattle.std.specs.declared.option.Option.{Option}
use Rattle.sat_words.specs.Literal.{Literal}
use Rattle.sat_words.specs.declared.shared.Cref.{Cref}
use Rattle.rup_model.specs.Journal.{recent}
use Rattle.rup_model.proofs.Lists.{In, Contains_In, In_Contains, In_append, In_append_left, In_append_right}
use Rattle.ring_port.specs.PortState.{PortState, Holding, held_at}
use Rattle.ring_port.proofs.Holdings.{All_In}
use Rattle.ring_port.proofs.LogSteps.{In_All}
use Rattle.watch_prop.specs.WatchData.{attached}
use Rattle.reduce_db.specs.Lemmas.{AreDistinct}
use Rattle.ring_run.specs.Course.{HasLemmas, AreOrdered}
use Rattle.ring_run.specs.Renewal.{AreUnmixed, Point, TookLemma, TookEach, TookPlace, IsResting, KeepsOthers, TookAll, IsLeft, in_place, behind}
use Rattle.ring_run.specs.declared.ring.Ring.{Ring}
use Rattle.ring_run.proofs.Listing.{SameImports, last_same}
use Rattle.ring_run.proofs.Resting.{held_member}
use Rattle.ring_run.specs.declared.vivification.AfterVivify.{AfterVivify}
use Rattle.ring_run.specs.declared.vivification.AfterVivify.TheVariants.{Unchanged, Replaced}
use Rattle.ring_run.proofs.Numbering.{ordered_kept, ordered_without, ordered_joined, glue_kept}
use Rattle.reduce_db.proofs.Changes.{distinct_push}
use Rattle.vivify.specs.Outcome.{glue_at}

-- Places in a list

take_put : (n : ℕ) (xs ys : List Cref) → n ≤ length xs → take n (take n xs ++ ys) ≡ take n xs
take_put zero xs ys h = refl
take_put (suc n) [] ys h = absurd (omega arith)
take_put (suc n) (x ∷ xs) ys h = ap (λ (zs : List Cref). x ∷ zs) (take_put n xs ys (omega arith))

drop_put : (n : ℕ) (xs ys : List Cref) → n ≤ length xs → drop n (take n xs ++ ys) ≡ ys
drop_put zero xs ys h = refl
drop_put (suc n) [] ys h = absurd (omega arith)
drop_put (suc n) (x ∷ xs) ys h = drop_put n xs ys (omega arith)

pub drop_at : (n : ℕ) (xs : List Cref) (d : Cref) → n < length xs → drop n xs ≡ slice_index_or xs n d ∷ drop (suc n) xs
drop_at n [] d h = absurd (omega arith)
drop_at zero (x ∷ xs) d h = refl
drop_at (suc n) (x ∷ xs) d h = drop_at n xs d (omega arith)

both_parts : (n : ℕ) (xs : List Cref) → take n xs ++ drop n xs ≡ xs
both_parts zero xs = refl
both_parts (suc n) [] = refl
both_parts (suc n) (x ∷ xs) = ap (λ (zs : List Cref). x ∷ zs) (both_parts n xs)

long_put : (n : ℕ) (xs ys : List Cref) → n ≤ length xs → n ≤ length (take n xs ++ ys)
long_put zero xs ys h = omega arith
long_put (suc n) [] ys h = absurd (omega arith)
long_put (suc n) (x ∷ xs) ys h = let less = long_put n xs ys (omega arith) in omega (arith, less)

not_none : (c : Cref) (ys : List Cref) → [] ≡ c ∷ ys → ⊥
not_none c ys e = cc

inside_drop : (n : ℕ) (xs ys : List Cref) (c : Cref) → drop n xs ≡ c ∷ ys → n < length xs
inside_drop zero [] ys c e = absurd (not_none c ys e)
inside_drop zero (x ∷ xs) ys c e = omega arith
inside_drop (suc n) [] ys c e = absurd (not_none c ys e)
inside_drop (suc n) (x ∷ xs) ys c e = let less = inside_drop n xs ys c e in omega (arith, less)

take_next : (n : ℕ) (xs ys : List Cref) (c : Cref) → drop n xs ≡ c ∷ ys → take (suc n) xs ≡ take n xs ++ c ∷ []
take_next zero [] ys c e = absurd (not_none c ys e)
take_next zero (x ∷ xs) ys c e = let is : x ≡ c = cc in ap (λ (y : Cref). y ∷ []) is
take_next (suc n) [] ys c e = absurd (not_none c ys e)
take_next (suc n) (x ∷ xs) ys c e = ap (λ (zs : List Cref). x ∷ zs) (take_next n xs ys c e)

drop_next : (n : ℕ) (xs ys : List Cref) (c : Cref) → drop n xs ≡ c ∷ ys → drop (suc n) xs ≡ ys
drop_next zero [] ys c e = absurd (not_none c ys e)
drop_next zero (x ∷ xs) ys c e = cc
drop_next (suc n) [] ys c e = absurd (not_none c ys e)
drop_next (suc n) (x ∷ xs) ys c e = drop_next n xs ys c e

pub in_at : (n : ℕ) (xs : List Cref) (d : Cref) → n < length xs → In (slice_index_or xs n d) xs
in_at n [] d h = absurd (omega arith)
in_at zero (x ∷ xs) d h = inl refl
in_at (suc n) (x ∷ xs) d h = inr (in_at n xs d (omega arith))

-- one place more, in both spellings
one_more_place : (n : ℕ) → suc n ≡ n + 1
one_more_place n = omega arith

none_free : (o : Option Holding) → IsSome o → o ≡ None → ⊥
none_free None h e = absurd cc
none_free (Some x) h e = absurd cc

-- Turns

took_more : (p q r : Point) (cs kept shorter : List Cref) (c : Cref) (o : AfterVivify) → TookEach p q cs kept shorter → TookLemma q r c o → TookEach p r (cs ++ c ∷ []) (kept ++ in_place c o) (shorter ++ behind o)
took_more p q r [] kept shorter c o each took = (
  r,
  o,
  [],
  [],
  subst (λ (x : Point). TookLemma x r c o) each.0 took,
  (refl, refl, refl),
  ap (λ (xs : List Cref). xs ++ in_place c o) each.1 ∙ sym (append-nil (in_place c o)),
  ap (λ (xs : List Cref). xs ++ behind o) each.2 ∙ sym (append-nil (behind o)),
)
took_more p q r (x ∷ cs) kept shorter c o each took = (
  each.0,
  each.1,
  each.2 ++ in_place c o,
  each.3 ++ behind o,
  each.4,
  took_more each.0 q r cs each.2 each.3 c o each.5 took,
  ap (λ (xs : List Cref). xs ++ in_place c o) each.6 ∙ append_assoc (in_place x each.1) each.2 (in_place c o),
  ap (λ (xs : List Cref). xs ++ behind o) each.7 ∙ append_assoc (behind each.1) each.3 (behind o),
)

-- the first lemmas had their turns; the others stand behind what is left of them, and then the shorter clauses
pub record AreTurned (p q : Point) (before after : List Cref) (i place : ℕ) : Type 0 where
  pub shorter : List Cref
  pub each : TookEach p q (take i before) (take place after) shorter
  pub rest : drop place after ≡ drop i before ++ shorter
  pub short : place ≤ length after

pub none_turned : (p : Point) (cs : List Cref) → AreTurned p p cs cs 0 0
none_turned p cs = record { shorter = []; each = (refl, refl, refl); rest = sym (append-nil cs); short = omega arith }

pub next_inside : (p q : Point) (before after : List Cref) (i place : ℕ) (d : Cref) → AreTurned p q before after i place → i < length before → place < length after
next_inside p q before after i place d t h =
    inside_drop place after (drop (suc i) before ++ t.shorter) (slice_index_or before i d) (t.rest ∙ ap (λ (xs : List Cref). xs ++ t.shorter) (drop_at i before d h))

heads : (x y : Cref) (xs ys : List Cref) → (x ∷ xs) ≡ (y ∷ ys) → x ≡ y
heads x y xs ys e = cc

tails : (x y : Cref) (xs ys : List Cref) → (x ∷ xs) ≡ (y ∷ ys) → xs ≡ ys
tails x y xs ys e = cc

pub one_turned : (p q r : Point) (before between after : List Cref) (i place next : ℕ) → i < length before → AreTurned p q before between i place → TookPlace q r between after place next → AreTurned p r before after (i + 1) next
one_turned p q r before between after i place next lt t k =
    let d : Cref = slice_index_or before i (record { address = 0 }) in
    let front : drop i before ≡ d ∷ drop (suc i) before = drop_at i before (record { address = 0 }) lt in
    let both : (d ∷ (drop (suc i) before ++ t.shorter)) ≡ (k.lemma ∷ drop (place + 1) between) = ap (λ (xs : List Cref). xs ++ t.shorter) (sym front) ∙ sym t.rest ∙ k.there in
    let same : d ≡ k.lemma = heads d k.lemma (drop (suc i) before ++ t.shorter) (drop (place + 1) between) both in
    let behind_it : (drop (suc i) before ++ t.shorter) ≡ drop (place + 1) between = tails d k.lemma (drop (suc i) before ++ t.shorter) (drop (place + 1) between) both in
    let more : take (i + 1) before ≡ take i before ++ k.lemma ∷ [] =
    ap (λ (n : ℕ). take n before) (sym (one_more_place i)) ∙ take_next i before (drop (suc i) before) k.lemma (front ∙ ap (λ (x : Cref). x ∷ drop (suc i) before) same) in
    record {
      shorter = t.shorter ++ behind k.left;
      each = subst (λ (xs : List Cref). TookEach p r xs (take next after) (t.shorter ++ behind k.left)) (sym more)
          (subst (λ (xs : List Cref). TookEach p r (take i before ++ k.lemma ∷ []) xs (t.shorter ++ behind k.left)) (sym k.done)
          (took_more p q r (take i before) (take place between) t.shorter k.lemma k.left t.each k.took));
      rest = k.rest ∙ ap (λ (xs : List Cref). xs ++ behind k.left) (sym behind_it) ∙ append_assoc (drop (suc i) before) t.shorter (behind k.left)
          ∙ ap (λ (n : ℕ). drop n before ++ (t.shorter ++ behind k.left)) (one_more_place i);
      short = k.short;
    }

-- the lemma at the place is the first of those that had no turn
pub cut_turned : (p q : Point) (before between : List Cref) (i place : ℕ) (c : Cref) → i < length before → AreTurned p q before between i place → drop place between ≡ c ∷ drop (place + 1) between → before ≡ take i before ++ c ∷ drop (suc i) before
cut_turned p q before between i place c lt t there =
    let d : Cref = slice_index_or before i (record { address = 0 }) in
    let front : drop i before ≡ d ∷ drop (suc i) before = drop_at i before (record { address = 0 }) lt in
    let both : (d ∷ (drop (suc i) before ++ t.shorter)) ≡ (c ∷ drop (place + 1) between) = ap (λ (xs : List Cref). xs ++ t.shorter) (sym front) ∙ sym t.rest ∙ there in
    let same : d ≡ c = heads d c (drop (suc i) before ++ t.shorter) (drop (place + 1) between) both in
    sym (both_parts i before) ∙ ap (λ (xs : List Cref). take i before ++ xs) (front ∙ ap (λ (x : Cref). x ∷ drop (suc i) before) same)

drop_end : (n : ℕ) (xs : List Cref) → length xs ≤ n → drop n xs ≡ []
drop_end zero [] h = refl
drop_end zero (x ∷ xs) h = absurd (omega arith)
drop_end (suc n) [] h = refl
drop_end (suc n) (x ∷ xs) h = drop_end n xs (omega arith)

whole_front : (n : ℕ) (xs : List Cref) → drop n xs ≡ [] → take n xs ≡ xs
whole_front n xs e = sym (append-nil (take n xs)) ∙ ap (λ (ys : List Cref). take n xs ++ ys) (sym e) ∙ both_parts n xs

pub all_turned : (p q : Point) (before after : List Cref) (i place : ℕ) → AreTurned p q before after i place → length before ≤ i → TookAll p q before after
all_turned p q before after i place t h =
    let none = drop_end i before h in
    record {
      kept = take place after;
      shorter = t.shorter;
      each = subst (λ (xs : List Cref). TookEach p q xs (take place after) t.shorter) (whole_front i before none) t.each;
      list = sym (both_parts place after) ∙ ap (λ (xs : List Cref). take place after ++ xs) (t.rest ∙ ap (λ (xs : List Cref). xs ++ t.shorter) none);
    }

-- What a lemma's turn leaves of the list

middle_apart : (front back : List Cref) (c : Cref) → AreDistinct (front ++ c ∷ back) → (d : Cref) → In d (front ++ back) → d.address ≢ c.address
middle_apart [] back c a d m = All_In (λ (y : Cref). y.address ≢ c.address) back d a.0 m
middle_apart (x ∷ front) back c a d (inl q) = λ z. All_In (λ (y : Cref). y.address ≢ x.address) (front ++ c ∷ back) c a.0 (In_append_right front (c ∷ back) c (inl refl)) (sym z ∙ ap (λ (y : Cref). y.address) (sym q))
middle_apart (x ∷ front) back c a d (inr m) = middle_apart front back c a.1 d m

in_both : (front back : List Cref) (c d : Cref) → In d (front ++ back) → In d (front ++ c ∷ back)
in_both front back c d h = elim (In_append front back d h) as (λ _. In d (front ++ c ∷ back)) [
  | inl m ↦ In_append_left front (c ∷ back) d m
  | inr m ↦ In_append_right front (c ∷ back) d (inr m)
]

-- without the one in the middle
distinct_without : (front back : List Cref) (c : Cref) → AreDistinct (front ++ c ∷ back) → AreDistinct (front ++ back)
distinct_without [] back c a = a.1
distinct_without (x ∷ front) back c a = (
  In_All (λ (y : Cref). y.address ≢ x.address) (front ++ back) (λ y m. All_In (λ (z : Cref). z.address ≢ x.address) (front ++ c ∷ back) y a.0 (in_both front back c y m)),
  distinct_without front back c a.1,
)

-- what is known of a lemma that is listed then
record IsListed (s u : PortState) (new : Ring) (d : Cref) : Type 0 where
  pub member : Contains (attached new.watches) d
  pub apart : (h : Holding) → Contains s.start h → d.address ≢ h.address
  pub glued : 1 ≤ glue_at u d.address

module _ (s u : PortState) (old new : Ring) (c : Cref) (place : ℕ) (p : HasLemmas s old) (rests : IsResting s old) (k : KeepsOthers s u old.watches new.watches c)
    (there : drop place old.lemmas.items ≡ c ∷ drop (place + 1) old.lemmas.items)
    (start : u.start ≡ s.start) (lately : recent u.ring u.mine ≡ []) (learned : new.learned ≡ old.learned) (reductions : new.reductions ≡ old.reductions) (at : new.reduced_at ≡ old.reduced_at) (same : SameImports old new) (unmixed : AreUnmixed old) where
  abbrev front : List Cref
  front = take place old.lemmas.items

  abbrev back : List Cref
  back = drop (place + 1) old.lemmas.items

  split : old.lemmas.items ≡ front ++ c ∷ back
  split = sym (both_parts place old.lemmas.items) ∙ ap (λ (xs : List Cref). front ++ xs) there

  distinct_before : AreDistinct (front ++ c ∷ back)
  distinct_before = subst AreDistinct split p.distinct

  in_before : (d : Cref) → In d (front ++ back) → In d old.lemmas.items
  in_before d m = subst (In d) (sym split) (in_both front back c d m)

  member_before : (d : Cref) → In d old.lemmas.items → Contains (attached old.watches) d
  member_before d m = All_In (Contains (attached old.watches)) old.lemmas.items d p.member m

  other_before : (d : Cref) → In d (front ++ back) → d.address ≢ c.address
  other_before d m = middle_apart front back c distinct_before d m

  held_before : (d : Cref) → In d (front ++ back) → IsSome (held_at s d.address)
  held_before d m = held_member s old d rests (member_before d (in_before d m))

  held_as : (d : Cref) → In d (front ++ back) → held_at u d.address ≡ held_at s d.address
  held_as d m = k.held d.address (other_before d m) (held_before d m)

  ordered_before : AreOrdered s (front ++ back)
  ordered_before = ordered_without s front back c (subst (AreOrdered s) split p.ordered)

  listed_before : (d : Cref) → In d (front ++ back) → IsListed s u new d
  listed_before d m = record {
    member = k.others d (member_before d (in_before d m)) (other_before d m);
    apart = λ h is. p.apart h d is (In_Contains old.lemmas.items d (in_before d m));
    glued = glue_kept (held_at u d.address) (held_at s d.address) (held_as d m) (p.glued d (In_Contains old.lemmas.items d (in_before d m)));
  }

  own_lemma : Contains old.lemmas.items c
  own_lemma = In_Contains old.lemmas.items c (subst (In c) (sym split) (In_append_right front (c ∷ back) c (inl refl)))

  listed_by : (cs : List Cref) → new.lemmas.items ≡ cs → AreDistinct cs → ((d : Cref) → In d cs → IsListed s u new d) → AreOrdered u cs → HasLemmas u new
  listed_by cs items distinct each ordered = record {
    ordered = subst (AreOrdered u) (sym items) ordered;
    glued = λ d m. (each d (Contains_In cs d (subst (λ (xs : List Cref). Contains xs d) items m))).glued;
    noted = reductions ∙ p.noted ∙ sym k.noted;
    distinct = subst AreDistinct (sym items) distinct;
    member = subst (All (Contains (attached new.watches))) (sym items) (In_All (Contains (attached new.watches)) cs (λ d m. (each d m).member));
    apart = λ h d is m. (each d (Contains_In cs d (subst (λ (xs : List Cref). Contains xs d) items m))).apart h (subst (λ (hs : List Holding). Contains hs h) start is);
    count = (let many = ap (λ (cs : List (List Literal)). length cs) lately in
        let before = ap (λ (cs : List (List Literal)). length cs) rests.lately in
        omega (arith, p.count, learned, at, many, before));
    few = omega (arith, p.few, reductions, at);
    imported = subst (All (Contains (attached new.watches))) (sym same.imports)
        (In_All (Contains (attached new.watches)) old.imports.items (λ d m. k.others d (All_In (Contains (attached old.watches)) old.imports.items d p.imported m) (λ e. unmixed c d own_lemma (In_Contains old.imports.items d m) (sym e))));
    last = same.last_start ∙ p.last ∙ sym (last_same s u start);
  }

  -- if the lemma is left
  pub same_listed : new.lemmas.items ≡ old.lemmas.items → IsLeft s u new.watches c Unchanged → HasLemmas u new
  same_listed items left =
      listed_by (front ++ c ∷ back) (items ∙ split) distinct_before each (ordered_kept s u (front ++ c ∷ back) held (k.grown) (subst (AreOrdered s) split p.ordered))
    where
      own : In c old.lemmas.items
      own = subst (In c) (sym split) (In_append_right front (c ∷ back) c (inl refl))

      case_of : (d : Cref) → In d (front ++ c ∷ back) → In d (front ++ back) ⊎ (c ≡ d)
      case_of d m = elim (In_append front (c ∷ back) d m) as (λ _. In d (front ++ back) ⊎ (c ≡ d)) [
        | inl first ↦ inl (In_append_left front back d first)
        | inr (inl is) ↦ inr is
        | inr (inr last) ↦ inl (In_append_right front back d last)
      ]

      held : (d : Cref) → In d (front ++ c ∷ back) → held_at u d.address ≡ held_at s d.address
      held d m = elim (case_of d m) as (λ _. held_at u d.address ≡ held_at s d.address) [
        | inl old_one ↦ held_as d old_one
        | inr is ↦ subst (λ (e : Cref). held_at u e.address ≡ held_at s e.address) is left.1
      ]

      each : (d : Cref) → In d (front ++ c ∷ back) → IsListed s u new d
      each d m = elim (case_of d m) as (λ _. IsListed s u new d) [
        | inl old_one ↦ listed_before d old_one
        | inr is ↦ subst (IsListed s u new) is (record {
          member = left.0;
          apart = λ h there. p.apart h c there (In_Contains old.lemmas.items c own);
          glued = glue_kept (held_at u c.address) (held_at s c.address) left.1 (p.glued c (In_Contains old.lemmas.items c own));
        })
      ]

  -- if nothing is left of it
  pub gone_listed : new.lemmas.items ≡ front ++ back → HasLemmas u new
  gone_listed items = listed_by (front ++ back) items (distinct_without front back c distinct_before) listed_before (ordered_kept s u (front ++ back) held_as (k.grown) ordered_before)

  pub gone_unmixed : new.lemmas.items ≡ front ++ back → AreUnmixed new
  gone_unmixed items d e inside import =
      unmixed d e (In_Contains old.lemmas.items d (in_before d (Contains_In (front ++ back) d (subst (λ (xs : List Cref). Contains xs d) items inside))))
      (subst (λ (xs : List Cref). Contains xs e) same.imports import)

  -- imports are held, and no clause was at the address of a shorter one
  pub other_unmixed : (d : Cref) → new.lemmas.items ≡ (front ++ back) ++ d ∷ [] → IsLeft s u new.watches c (Replaced d) → AreUnmixed new
  other_unmixed d items left x e inside import =
      let before : Contains old.imports.items e = subst (λ (xs : List Cref). Contains xs e) same.imports import in
      elim (In_append (front ++ back) (d ∷ []) x (Contains_In ((front ++ back) ++ d ∷ []) x (subst (λ (xs : List Cref). Contains xs x) items inside))) as (λ _. x.address ≢ e.address) [
        | inl old_one ↦ unmixed x e (In_Contains old.lemmas.items x (in_before x old_one)) before
        | inr (inl is) ↦ (λ q. none_free (held_at s d.address) (subst (λ (a : ℕ). IsSome (held_at s a)) (sym (ap (λ (y : Cref). y.address) is ∙ q))
            (held_member s old e rests (All_In (Contains (attached old.watches)) old.imports.items e p.imported (Contains_In old.imports.items e before)))) left.free)
        | inr (inr none) ↦ absurd none
      ]

  -- if a shorter clause is
  pub other_listed : (d : Cref) → new.lemmas.items ≡ (front ++ back) ++ d ∷ [] → IsLeft s u new.watches c (Replaced d) → ((h : Holding) → Contains s.start h → IsSome (held_at s h.address)) → HasLemmas u new
  other_listed d items left starts =
      listed_by ((front ++ back) ++ d ∷ []) items
      (distinct_push (front ++ back) d (distinct_without front back c distinct_before) (λ e m is. none_free (held_at s d.address) (subst (λ (a : ℕ). IsSome (held_at s a)) is (held_before e m)) left.free))
      each (ordered_joined s u (front ++ back) d held_as left.last ordered_before)
    where
      each : (e : Cref) → In e ((front ++ back) ++ d ∷ []) → IsListed s u new e
      each e m = elim (In_append (front ++ back) (d ∷ []) e m) as (λ _. IsListed s u new e) [
        | inl old_one ↦ listed_before e old_one
        | inr (inl is) ↦ subst (IsListed s u new) is (record {
          member = left.member;
          apart = λ h there same. none_free (held_at s d.address) (subst (λ (a : ℕ). IsSome (held_at s a)) (sym same) (starts h there)) left.free;
          glued = left.glued;
        })
        | inr (inr none) ↦ absurd none
      ]

pub unmixed_same : (old new : Ring) → new.lemmas.items ≡ old.lemmas.items → new.imports.items ≡ old.imports.items → AreUnmixed old → AreUnmixed new
unmixed_same old new lemmas imports p c d inside import = p c d (subst (λ (xs : List Cref). Contains xs c) lemmas inside) (subst (λ (xs : List Cref). Contains xs d) imports import)

-- the lemma kept its place, or lost it
pub same_place : (p q : Point) (before after : List Cref) (c : Cref) (place : ℕ) → place < length before → drop place before ≡ c ∷ drop (place + 1) before → after ≡ before
    → TookLemma p q c Unchanged → TookPlace p q before after place (place + 1)
same_place p q before after c place h there is took = record {
  lemma = c;
  left = Unchanged;
  took = took;
  there = there;
  done = ap (λ (xs : List Cref). take (place + 1) xs) is ∙ ap (λ (n : ℕ). take n before) (sym (one_more_place place)) ∙ take_next place before (drop (place + 1) before) c there;
  rest = ap (λ (xs : List Cref). drop (place + 1) xs) is ∙ sym (append-nil (drop (place + 1) before));
  short = (let same = ap (λ (xs : List Cref). length xs) is in omega (arith, h, same));
}

pub other_place : (p q : Point) (before after : List Cref) (c : Cref) (o : AfterVivify) (place : ℕ) → place < length before → drop place before ≡ c ∷ drop (place + 1) before → in_place c o ≡ []
    → after ≡ (take place before ++ drop (place + 1) before) ++ behind o → TookLemma p q c o → TookPlace p q before after place place
other_place p q before after c o place h there none list took =
    let is : after ≡ take place before ++ (drop (place + 1) before ++ behind o) = list ∙ append_assoc (take place before) (drop (place + 1) before) (behind o) in
    record {
      lemma = c;
      left = o;
      took = took;
      there = there;
      done = ap (λ (xs : List Cref). take place xs) is ∙ take_put place before (drop (place + 1) before ++ behind o) (omega (arith, h)) ∙ sym (ap (λ (xs : List Cref). take place before ++ xs) none ∙ append-nil (take place before));
      rest = ap (λ (xs : List Cref). drop place xs) is ∙ drop_put place before (drop (place + 1) before ++ behind o) (omega (arith, h));
      short = (let long = long_put place before (drop (place + 1) before ++ behind o) (omega (arith, h)) in let same = ap (λ (xs : List Cref). length xs) is in omega (arith, long, same));
    }

-- the lemma at a place
pub there_at : (n : ℕ) (xs : List Cref) (c : Cref) → n < length xs → c ≡ slice_index_or xs n c → drop n xs ≡ c ∷ drop (n + 1) xs
there_at n xs c h is = drop_at n xs c h ∙ ap (λ (y : Cref). y ∷ drop (suc n) xs) (sym is) ∙ ap (λ (m : ℕ). c ∷ drop m xs) (one_more_place n)

pub lemma_in : (n : ℕ) (xs : List Cref) (c : Cref) → n < length xs → c ≡ slice_index_or xs n c → Contains xs c
lemma_in n xs c h is = In_Contains xs c (subst (λ (y : Cref). In y xs) (sym is) (in_at n xs c h))

pub taken_at : (n : ℕ) (xs ys zs : List Cref) → ys ≡ xs → zs ≡ take n ys ++ drop (suc n) ys → zs ≡ take n xs ++ drop (n + 1) xs
taken_at n xs ys zs is made = made ∙ ap (λ (ws : List Cref). take n ws ++ drop (suc n) ws) is ∙ ap (λ (m : ℕ). take n xs ++ drop m xs) (one_more_place n)

-- each start clause is held
pub start_held : (s : PortState) (ring : Ring) → IsResting s ring → (h : Holding) → Contains s.start h → IsSome (held_at s h.address)
start_held s ring p h there = subst (λ (o : Option Holding). IsSome o) (sym (All_In (λ (k : Holding). held_at s k.address ≡ Some k) s.start h p.search.clauses.starts_held (Contains_In s.start h there))) refl
