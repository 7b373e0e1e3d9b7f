-- Counts of common sets, by literal.
use Rattle.std.proofs.Common.{◌≡◌, ◌≢◌, ◌∙◌, ℕ, suc, ◌+◌, ◌<◌, ◌≤◌, ◌^◌, Bool, true, false, ◌||◌, ◌&&◌, cond, List, [], ◌∷◌, ◌++◌, length, take, get_or, set, Option, Some, None, sym, refl, ap, subst, arith, inl, inr, ◌⊎◌, ⊎_elim, ne_eqb, Contains, length-append}
use Rattle.std.specs.List.{list_any, filter_map, cons_option}
use Rattle.std.proofs.lemmas.Bool.{and_from, cases_eq, eq-eqb, true≢false}
use Rattle.std.proofs.lemmas.List.{take_more, length-set, get_or-set_same, get_or-set_other}
use Rattle.std.proofs.lemmas.List.Elements.{filter_map-append}
use mathlib.Core.Logic.{dite}
use native.Mathlib.Decide.{ℕ_discrete}
use Rattle.sat_words.specs.Literal.{Literal, same, code_of, literal_of}
use Rattle.sat_words.proofs.Members.{same-true, same-refl}
use Rattle.sat_words.specs.Codes.{literal_of-code_of}
use Rattle.rup_model.proofs.Lists.{Contains_In}
use Rattle.simp_base.specs.WorkState.{WorkState}
use Rattle.simp_add.specs.declared.alike.Alike.{Alike}
use Rattle.simp_add.specs.declared.tally.Count.{Count}
use Rattle.simp_add.specs.Common.{common_at}
use Rattle.simp_add.specs.Counted.{nothing, count_of, raised, IsClear, may_pair, is_paired, Raised, AreTouched, HasRoom, AreCounted, CountedOne}

-- Codes

pub code_eq : (x y : Literal) → code_of x ≡ code_of y → x ≡ y
code_eq x y e = sym (literal_of-code_of x) ∙ ap literal_of e ∙ literal_of-code_of y

-- Counts

pub raised_twice : (c : Count) (stamp : ℕ) → raised (raised c stamp) stamp ≡ raised c stamp
raised_twice c stamp = elim (cases_eq c.stamp stamp) as (λ _. raised (raised c stamp) stamp ≡ raised c stamp) [
  | inl e ↦ (let is : raised c stamp ≡ c = ap (λ (b : Bool). cond b c (record { sets = c.sets + 1; stamp = stamp })) (eq-eqb c.stamp stamp e) in ap (λ (d : Count). raised d stamp) is)
  | inr ne ↦ (let is : raised c stamp ≡ record { sets = c.sets + 1; stamp = stamp } = ap (λ (b : Bool). cond b c (record { sets = c.sets + 1; stamp = stamp })) (ne_eqb c.stamp stamp ne) in
      ap (λ (b : Bool). cond b (raised c stamp) (record { sets = (raised c stamp).sets + 1; stamp = stamp })) (eq-eqb (raised c stamp).stamp stamp (ap (λ (d : Count). d.stamp) is)))
]

pub raised_new : (c : Count) (stamp : ℕ) → c.stamp < stamp → raised c stamp ≡ record { sets = c.sets + 1; stamp = stamp }
raised_new c stamp lt = ap (λ (b : Bool). cond b c (record { sets = c.sets + 1; stamp = stamp })) (ne_eqb c.stamp stamp (let ne : c.stamp ≢ stamp = omega arith in ne))

pub raised_stamp : (c : Count) (stamp : ℕ) → (raised c stamp).stamp ≡ stamp
raised_stamp c stamp = elim (cases_eq c.stamp stamp) as (λ _. (raised c stamp).stamp ≡ stamp) [
  | inl e ↦ ap (λ (b : Bool). (cond b c (record { sets = c.sets + 1; stamp = stamp })).stamp) (eq-eqb c.stamp stamp e) ∙ e
  | inr ne ↦ ap (λ (b : Bool). (cond b c (record { sets = c.sets + 1; stamp = stamp })).stamp) (ne_eqb c.stamp stamp ne)
]

-- some or no set more
pub raised_sets : (c : Count) (stamp : ℕ) → ((raised c stamp).sets ≡ c.sets + 1) ⊎ (raised c stamp ≡ c)
raised_sets c stamp = elim (cases_eq c.stamp stamp) as (λ _. ((raised c stamp).sets ≡ c.sets + 1) ⊎ (raised c stamp ≡ c)) [
  | inl e ↦ inr (ap (λ (b : Bool). cond b c (record { sets = c.sets + 1; stamp = stamp })) (eq-eqb c.stamp stamp e))
  | inr ne ↦ inl (ap (λ (b : Bool). (cond b c (record { sets = c.sets + 1; stamp = stamp })).sets) (ne_eqb c.stamp stamp ne))
]

-- One literal raised

pub set_here : (cs : List Count) (l : Literal) (c : Count) → code_of l < length cs → count_of (set cs (code_of l) c) l ≡ c
set_here cs l c lt = get_or-set_same cs (code_of l) c nothing lt

pub set_there : (cs : List Count) (l j : Literal) (c : Count) → code_of j ≢ code_of l → count_of (set cs (code_of l) c) j ≡ count_of cs j
set_there cs l j c ne = get_or-set_other cs (code_of l) (code_of j) c nothing ne

differs : (l j : Literal) → same l j ≡ false → code_of j ≢ code_of l
differs l j h e = true≢false (sym (same-refl l) ∙ ap (same l) (code_eq l j (sym e)) ∙ h)

pub touched_raised : (l lit : Literal) (cs : List Count) (touched more : List Literal) (stamp : ℕ) → code_of lit < length cs → code_of l < code_of lit → AreTouched l cs touched
    → ((j : Literal) → Contains touched j → Contains more j) → ((j : Literal) → Contains more j → Contains touched j ⊎ (lit ≡ j)) → ((count_of cs lit).sets ≡ 0 → Contains more lit)
    → AreTouched l (set cs (code_of lit) (raised (count_of cs lit) stamp)) more
touched_raised l lit cs touched more stamp lt up t kept only here = record {
  every = λ j h. dite (ℕ_discrete (code_of j) (code_of lit))
      (λ (e : code_of j ≡ code_of lit). subst (λ (x : Literal). Contains more x) (sym (code_eq j lit e)) listed)
      (λ (ne : code_of j ≢ code_of lit). kept j (t.every j (let s = ap (λ (c : Count). c.sets) (set_there cs lit j new ne) in omega arith)));
  clear = λ j h. dite (ℕ_discrete (code_of j) (code_of lit))
      (λ (e : code_of j ≡ code_of lit). (
      let is : j ≡ lit = code_eq j lit e in
      let at : count_of (set cs (code_of lit) new) j ≡ new = ap (count_of (set cs (code_of lit) new)) is ∙ set_here cs lit new lt in
      let z : new.sets ≡ 0 = sym (ap (λ (c : Count). c.sets) at) ∙ h in
      ⊎_elim
      (λ (q : new.sets ≡ (count_of cs lit).sets + 1). absurd (omega arith))
      (λ (q : new ≡ count_of cs lit). at ∙ q ∙ t.clear lit (sym (ap (λ (c : Count). c.sets) q) ∙ z))
      (raised_sets (count_of cs lit) stamp)))
      (λ (ne : code_of j ≢ code_of lit). set_there cs lit j new ne ∙ t.clear j (sym (ap (λ (c : Count). c.sets) (set_there cs lit j new ne)) ∙ h));
  after = λ j h. ⊎_elim (λ (i : Contains touched j). t.after j i) (λ (e : lit ≡ j). subst (λ (x : Literal). code_of l < code_of x) e up) (only j h);
  within = λ j h. (let long = length-set cs (code_of lit) new in ⊎_elim
      (λ (i : Contains touched j). (let w = t.within j i in omega arith))
      (λ (e : lit ≡ j). (let w = subst (λ (x : Literal). code_of x < length cs) e lt in omega arith))
      (only j h));
}
  where
    new : Count
    new = raised (count_of cs lit) stamp

    listed : Contains more lit
    listed = dite (ℕ_discrete (count_of cs lit).sets 0) (λ (e : (count_of cs lit).sets ≡ 0). here e) (λ (ne : (count_of cs lit).sets ≢ 0). kept lit (t.every lit (omega arith)))

-- Literals raised one after another

any_more : {X : Type 0} (p : X → Bool) (xs : List X) (x : X) → list_any p (xs ++ x ∷ []) ≡ (list_any p xs || p x)
any_more p [] x = or_none (p x)
  where
    or_none : (b : Bool) → (b || false) ≡ (false || b)
    or_none true = refl
    or_none false = refl
any_more p (y ∷ ys) x = ap (λ (b : Bool). p y || b) (any_more p ys x) ∙ or_assoc (p y) (list_any p ys) (p x)
  where
    or_assoc : (a b c : Bool) → (a || (b || c)) ≡ ((a || b) || c)
    or_assoc true b c = refl
    or_assoc false b c = refl

paired_more : (l : Literal) (C : List Literal) (found : List Alike) (i : ℕ) (a : Alike) (j : Literal) → i < length found → get_or found i a ≡ a
    → is_paired l C (take (i + 1) found) j ≡ (may_pair l C j && (list_any (λ (x : Alike). same x.lit j) (take i found) || same a.lit j))
paired_more l C found i a j lt is =
    ap (λ (xs : List Alike). may_pair l C j && list_any (λ (x : Alike). same x.lit j) xs) (take_more found i a lt ∙ ap (λ (x : Alike). take i found ++ x ∷ []) is)
    ∙ ap (λ (b : Bool). may_pair l C j && b) (any_more (λ (x : Alike). same x.lit j) (take i found) a)

module _ (l : Literal) (C : List Literal) (stamp : ℕ) (found : List Alike) (i : ℕ) (a : Alike) (old now : List Count) (lt : i < length found) (is : get_or found i a ≡ a)
    (was : Raised l C stamp (take i found) old now) where
  -- it may be no partner
  pub raised_not : may_pair l C a.lit ≡ false → Raised l C stamp (take (i + 1) found) old now
  raised_not away j = was j ∙ ap (λ (b : Bool). cond b (raised (count_of old j) stamp) (count_of old j)) (sym (paired_more l C found i a j lt is ∙ same_pairs (same a.lit j) refl))
    where
      rest : Bool
      rest = list_any (λ (x : Alike). same x.lit j) (take i found)

      off : (b c : Bool) → b ≡ false → (b && c) ≡ (b && rest)
      off false c e = refl
      off true c e = absurd (true≢false e)

      or_off : (c : Bool) → (c || false) ≡ c
      or_off true = refl
      or_off false = refl

      same_pairs : (b : Bool) → same a.lit j ≡ b → (may_pair l C j && (rest || same a.lit j)) ≡ (may_pair l C j && rest)
      same_pairs true e = off (may_pair l C j) (rest || same a.lit j) (ap (may_pair l C) (sym (same-true a.lit j e)) ∙ away)
      same_pairs false e = ap (λ (b : Bool). may_pair l C j && b) (ap (λ (b : Bool). rest || b) e ∙ or_off rest)

  -- it is raised
  pub raised_one : may_pair l C a.lit ≡ true → code_of a.lit < length now → Raised l C stamp (take (i + 1) found) old (set now (code_of a.lit) (raised (count_of now a.lit) stamp))
  raised_one pairs within j = by (same a.lit j) refl
    where
      rest : Bool
      rest = list_any (λ (x : Alike). same x.lit j) (take i found)

      whole : List Count
      whole = set now (code_of a.lit) (raised (count_of now a.lit) stamp)

      or_on : (c : Bool) → (c || true) ≡ true
      or_on true = refl
      or_on false = refl

      or_off : (c : Bool) → (c || false) ≡ c
      or_off true = refl
      or_off false = refl

      once : (b : Bool) → raised (cond b (raised (count_of old j) stamp) (count_of old j)) stamp ≡ raised (count_of old j) stamp
      once true = raised_twice (count_of old j) stamp
      once false = refl

      by : (b : Bool) → same a.lit j ≡ b → count_of whole j ≡ cond (is_paired l C (take (i + 1) found) j) (raised (count_of old j) stamp) (count_of old j)
      by true e =
          let one : a.lit ≡ j = same-true a.lit j e in
          let here : count_of whole j ≡ raised (count_of now j) stamp = subst (λ (x : Literal). count_of whole x ≡ raised (count_of now x) stamp) one (set_here now a.lit (raised (count_of now a.lit) stamp) within) in
          let on : is_paired l C (take (i + 1) found) j ≡ true = paired_more l C found i a j lt is ∙ and_from _ _ (ap (may_pair l C) (sym one) ∙ pairs) (ap (λ (b : Bool). rest || b) e ∙ or_on rest) in
          here ∙ ap (λ (c : Count). raised c stamp) (was j) ∙ once (is_paired l C (take i found) j) ∙ sym (ap (λ (b : Bool). cond b (raised (count_of old j) stamp) (count_of old j)) on)
      by false e =
          set_there now a.lit j (raised (count_of now a.lit) stamp) (differs a.lit j e) ∙ was j
          ∙ ap (λ (b : Bool). cond b (raised (count_of old j) stamp) (count_of old j)) (sym (paired_more l C found i a j lt is ∙ ap (λ (b : Bool). may_pair l C j && b) (ap (λ (b : Bool). rest || b) e ∙ or_off rest)))

-- One clause counted

sets_at : (w : WorkState) (l j : Literal) (n : ℕ) (o : Option (List Literal)) → common_at w.clauses l j n ≡ o → length (filter_map (common_at w.clauses l j) (n ∷ [])) ≡ length (cons_option o [])
sets_at w l j n o e = ap (λ (p : Option (List Literal)). length (cons_option p [])) e

pub counted_nothing : (w : WorkState) (l : Literal) (n : ℕ) (cs : List Count) → ((j : Literal) → code_of l < code_of j → common_at w.clauses l j n ≡ None) → CountedOne w l n cs cs
counted_nothing w l n cs none = record {
  sets = λ j lt. (let z : length (filter_map (common_at w.clauses l j) (n ∷ [])) ≡ 0 = sets_at w l j n None (none j lt) in omega arith);
  stamps = λ j bound a b. a;
  few = λ j. omega arith;
  wide = refl;
}

pub counted_raised : (w : WorkState) (l : Literal) (n : ℕ) (C : List Literal) (found : List Alike) (old new : List Count) → length new ≡ length old → ((j : Literal) → (count_of old j).stamp ≤ n)
    → Raised l C (n + 1) found old new → ((j : Literal) → code_of l < code_of j → common_at w.clauses l j n ≡ cond (is_paired l C found j) (Some C) None) → CountedOne w l n old new
counted_raised w l n C found old new wide low r at = record {
  sets = λ j lt. sets j (is_paired l C found j) (r j) (at j lt);
  stamps = λ j bound a b. stamps j bound a b (is_paired l C found j) (r j);
  few = λ j. few j (is_paired l C found j) (r j);
  wide = wide;
}
  where
    sets : (j : Literal) → (b : Bool) → count_of new j ≡ cond b (raised (count_of old j) (n + 1)) (count_of old j) → common_at w.clauses l j n ≡ cond b (Some C) None
        → (count_of new j).sets ≡ (count_of old j).sets + length (filter_map (common_at w.clauses l j) (n ∷ []))
    sets j true e f =
        let one : length (filter_map (common_at w.clauses l j) (n ∷ [])) ≡ 1 = sets_at w l j n (Some C) f in
        let lo = low j in
        let q : (count_of new j).sets ≡ (count_of old j).sets + 1 = ap (λ (c : Count). c.sets) (e ∙ raised_new (count_of old j) (n + 1) (omega arith)) in
        omega arith
    sets j false e f =
        let z : length (filter_map (common_at w.clauses l j) (n ∷ [])) ≡ 0 = sets_at w l j n None f in
        let q : (count_of new j).sets ≡ (count_of old j).sets = ap (λ (c : Count). c.sets) e in
        omega arith

    stamps : (j : Literal) (bound : ℕ) → (count_of old j).stamp ≤ bound → n + 1 ≤ bound → (b : Bool) → count_of new j ≡ cond b (raised (count_of old j) (n + 1)) (count_of old j) → (count_of new j).stamp ≤ bound
    stamps j bound a b true e = let q : (count_of new j).stamp ≡ n + 1 = ap (λ (c : Count). c.stamp) e ∙ raised_stamp (count_of old j) (n + 1) in omega arith
    stamps j bound a b false e = let q : (count_of new j).stamp ≡ (count_of old j).stamp = ap (λ (c : Count). c.stamp) e in omega arith

    few : (j : Literal) → (b : Bool) → count_of new j ≡ cond b (raised (count_of old j) (n + 1)) (count_of old j) → (count_of new j).sets ≤ (count_of old j).sets + 1
    few j true e = ⊎_elim
        (λ (q : (raised (count_of old j) (n + 1)).sets ≡ (count_of old j).sets + 1). (let s = ap (λ (c : Count). c.sets) e in omega arith))
        (λ (q : raised (count_of old j) (n + 1) ≡ count_of old j). (let s = ap (λ (c : Count). c.sets) (e ∙ q) in omega arith))
        (raised_sets (count_of old j) (n + 1))
    few j false e = (let s = ap (λ (c : Count). c.sets) e in omega arith)

-- Nothing counted

-- nothing is counted yet
pub empty_is : {X : Type 0} (xs : List X) → length xs ≡ 0 → xs ≡ []
empty_is [] e = refl
empty_is (x ∷ xs) e = absurd (omega arith)

pub touched_none : (l : Literal) (cs : List Count) (touched : List Literal) → IsClear cs → length touched ≡ 0 → AreTouched l cs touched
touched_none l cs touched clear none = record {
  every = λ j h. absurd (let e = ap (λ (c : Count). c.sets) (clear j) in omega arith);
  clear = λ j h. clear j;
  after = λ j h. absurd (nowhere j h);
  within = λ j h. absurd (nowhere j h);
}
  where
    nowhere : (j : Literal) → Contains touched j → ⊥
    nowhere j h = Contains_In [] j (subst (λ (xs : List Literal). Contains xs j) (empty_is touched none) h)

-- a count can be raised, if those before could
pub room_left : (l : Literal) (C : List Literal) (stamp : ℕ) (found : List Alike) (old now : List Count) (j : Literal) → HasRoom old → Raised l C stamp found old now → (count_of now j).stamp ≢ stamp → (count_of now j).sets + 1 < 2 ^ 64
room_left l C stamp found old now j room r ne = by (is_paired l C found j) (r j)
  where
    by : (b : Bool) → count_of now j ≡ cond b (raised (count_of old j) stamp) (count_of old j) → (count_of now j).sets + 1 < 2 ^ 64
    by true e = absurd (ne (ap (λ (c : Count). c.stamp) e ∙ raised_stamp (count_of old j) stamp))
    by false e = (let s = ap (λ (c : Count). c.sets) e in let h = room j in omega arith)

-- All clauses counted

pub counted_more : (w : WorkState) (l : Literal) (numbers : List ℕ) (i : ℕ) (old new : List Count) → i < length numbers → AreCounted w l (take i numbers) old → CountedOne w l (get_or numbers i 0) old new → AreCounted w l (take (i + 1) numbers) new
counted_more w l numbers i old new lt a one j up =
    let e : filter_map (common_at w.clauses l j) (take (i + 1) numbers) ≡ filter_map (common_at w.clauses l j) (take i numbers) ++ filter_map (common_at w.clauses l j) (get_or numbers i 0 ∷ []) =
    ap (filter_map (common_at w.clauses l j)) (take_more numbers i 0 lt) ∙ filter_map-append (common_at w.clauses l j) (take i numbers) (get_or numbers i 0 ∷ []) in
    let n = ap (λ (xs : List (List Literal)). length xs) e in
    let m = length-append (filter_map (common_at w.clauses l j) (take i numbers)) (filter_map (common_at w.clauses l j) (get_or numbers i 0 ∷ [])) in
    let p = a j up in let q = one.sets j up in omega arith

-- no more sets than numbers
pub few_sets : {Y : Type 0} (f : ℕ → Option Y) (ns : List ℕ) → length (filter_map f ns) ≤ length ns
few_sets f [] = omega arith
few_sets {Y} f (n ∷ ns) = by (f n) (few_sets f ns)
  where
    by : (o : Option Y) → length (filter_map f ns) ≤ length ns → length (cons_option o (filter_map f ns)) ≤ suc (length ns)
    by None r = omega arith
    by (Some y) r = omega arith
