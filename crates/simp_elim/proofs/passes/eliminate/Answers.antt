use Rattle.std.proofs.Common.{◌≡◌, ◌∙◌, ◌<◌, ◌+◌, ℕ, List, sym, ap, subst, true, false, length, Option, None, Some, Vec, Global, arith, map, [], zero, suc, refl}
use Rattle.std.specs.Prelude.{MatchOption}
use Rattle.std.proofs.lemmas.Bool.{or_parts}
use Rattle.sat_words.specs.Literal.{Literal, opposite}
use Rattle.simp_base.specs.WorkState.{WorkState, lists, is_unit}
use Rattle.simp_elim.specs.Resolution.{positive, negative, occurrences, resolvents}
use Rattle.simp_elim.specs.Rule.{at_most}
use Rattle.simp_elim.specs.Bounds.{within, Extends}
use Rattle.simp_elim.specs.Occurring.{AreOccurrences, clause_at, OccursIn}
use Rattle.simp_elim.specs.Stages.{IsReplaceable, WasReplaced}
use Rattle.simp_elim.proofs.Stepping.{stepped_self, not_with_unit, not_with_many, not_with_many_negated, not_without, not_beyond, was_stepped}
use Rattle.simp_elim.proofs.passes.eliminate.Goals as goal

some_found : (w : WorkState) (l k : Literal) (o : Option (Vec ℕ Global)) (xs : Vec ℕ Global) → l ≡ k → o ≡ Some xs
    → MatchOption o (at_most (length (occurrences l (lists w.clauses))) 16 ≡ false) (λ found. AreOccurrences w l found.items) → AreOccurrences w k xs.items
some_found w l k o xs e is h =
    subst (λ (m : Literal). AreOccurrences w m xs.items) e (subst (λ (p : Option (Vec ℕ Global)). MatchOption p (at_most (length (occurrences l (lists w.clauses))) 16 ≡ false) (λ found. AreOccurrences w l found.items)) is h)

none_found : (w : WorkState) (l k : Literal) (o : Option (Vec ℕ Global)) → l ≡ k → o ≡ None
    → MatchOption o (at_most (length (occurrences l (lists w.clauses))) 16 ≡ false) (λ found. AreOccurrences w l found.items) → at_most (length (occurrences k (lists w.clauses))) 16 ≡ false
none_found w l k o e is h =
    subst (λ (m : Literal). at_most (length (occurrences m (lists w.clauses))) 16 ≡ false) e (subst (λ (p : Option (Vec ℕ Global)). MatchOption p (at_most (length (occurrences l (lists w.clauses))) 16 ≡ false) (λ found. AreOccurrences w l found.items)) is h)

alike : (w : WorkState) (l k : Literal) (xs ys us vs : List ℕ) → l ≡ k → xs ≡ us → ys ≡ vs
    → resolvents l (map (clause_at w.clauses) xs) (map (clause_at w.clauses) ys) ≡ resolvents k (map (clause_at w.clauses) us) (map (clause_at w.clauses) vs)
alike w l k xs ys us vs e f h = λ i. resolvents (e i) (map (clause_at w.clauses) (f i)) (map (clause_at w.clauses) (h i))

replaceable_at : (w : WorkState) (l k : Literal) (xs ys us vs : List ℕ) (made new : List (List Literal)) → l ≡ k → xs ≡ us → ys ≡ vs → made ≡ new → IsReplaceable w k us vs new → IsReplaceable w l xs ys made
replaceable_at w l k xs ys us vs made new e f h m r =
    subst (λ (a : Literal). IsReplaceable w a xs ys made) (sym e) (subst (λ (a : List ℕ). IsReplaceable w k a ys made) (sym f)
    (subst (λ (a : List ℕ). IsReplaceable w k us a made) (sym h) (subst (λ (a : List (List Literal)). IsReplaceable w k us vs a) (sym m) r)))

some_if : (n : ℕ) → (n ≡ 0 → ⊥) → 0 < n
some_if zero f = absurd (f refl)
some_if (suc n) f = omega arith

pub returns-then-has_unit-clause-stepped : goal.returns-then-has_unit-clause-stepped
returns-then-has_unit-clause-stepped g c =
    let w = c.args.work.now in
    stepped_self w c.args.var c.requires.going c.requires.unspent c.requires.work (not_with_unit w.units (lists w.clauses) c.args.var (sym c.has_unit.ensures ∙ c.if-has_unit.true))

pub returns-in_default-clause-stepped : goal.returns-in_default-clause-stepped
returns-in_default-clause-stepped g c =
    let w = c.args.work.now in let v = c.args.var in
    stepped_self w v c.requires.going c.requires.unspent c.requires.work (not_with_many w.units (lists w.clauses) v
    (none_found w c.new-lit.result (positive v) c.in_ok-firsts.field-0 c.new-lit.ensures c.in_default.is c.in_ok-firsts.ensures.found))

pub returns-in_default-2-clause-stepped : goal.returns-in_default-2-clause-stepped
returns-in_default-2-clause-stepped g c =
    let w = c.args.work.now in let v = c.args.var in
    stepped_self w v c.requires.going c.requires.unspent c.requires.work (not_with_many_negated w.units (lists w.clauses) v
    (none_found w c.not.result (negative v) c.in_ok-seconds.field-0 (c.not.ensures ∙ ap opposite c.new-lit.ensures) c.in_default-2.is c.in_ok-seconds.ensures.found))

pub returns-then-most-eq0-clause-stepped : goal.returns-then-most-eq0-clause-stepped
returns-then-most-eq0-clause-stepped g c =
    let w = c.args.work.now in let v = c.args.var in
    let first = some_found w c.new-lit.result (positive v) c.in_ok-firsts.field-0 c.in-Some.firsts c.new-lit.ensures c.in-Some.is c.in_ok-firsts.ensures.found in
    let second = some_found w c.not.result (negative v) c.in_ok-seconds.field-0 c.in-Some-2.seconds (c.not.ensures ∙ ap opposite c.new-lit.ensures) c.in-Some-2.is c.in_ok-seconds.ensures.found in
    stepped_self w v c.requires.going c.requires.unspent c.requires.work
    (not_without w v c.requires.work c.in-Some.firsts.items c.in-Some-2.seconds.items first second w.units (let e : length c.in-Some.firsts.items + length c.in-Some-2.seconds.items ≡ 0 = omega arith in e))

pub resolvents-requires-clause-seconds : goal.resolvents-requires-clause-seconds
resolvents-requires-clause-seconds g c =
    let w = c.args.work.now in
    let second = some_found w c.not.result (opposite c.new-lit.result) c.in_ok-seconds.field-0 c.in-Some-2.seconds c.not.ensures c.in-Some-2.is c.in_ok-seconds.ensures.found in
    subst (λ (ns : List ℕ). OccursIn w (opposite c.new-lit.result) ns) (sym c.as_slice-2.ensures.value) second.sound

pub returns-in-Ok-None-clause-stepped : goal.returns-in-Ok-None-clause-stepped
returns-in-Ok-None-clause-stepped g c =
    let w = c.args.work.now in let v = c.args.var in
    let first = some_found w c.new-lit.result (positive v) c.in_ok-firsts.field-0 c.in-Some.firsts c.new-lit.ensures c.in-Some.is c.in_ok-firsts.ensures.found in
    let second = some_found w c.not.result (negative v) c.in_ok-seconds.field-0 c.in-Some-2.seconds (c.not.ensures ∙ ap opposite c.new-lit.ensures) c.in-Some-2.is c.in_ok-seconds.ensures.found in
    let all = resolvents c.new-lit.result (map (clause_at w.clauses) c.as_slice.result.now) (map (clause_at w.clauses) c.as_slice-2.result.now) in
    let most = c.len.result + c.len-2.result in
    let told : within most all ≡ false = subst (λ o. MatchOption o (within most all ≡ false) (λ made. Extends most [] all made.items true)) c.in-Ok-None.field-0-is c.in-Ok-None.ensures in
    let same = alike w c.new-lit.result (positive v) c.as_slice.result.now c.as_slice-2.result.now c.in-Some.firsts.items c.in-Some-2.seconds.items c.new-lit.ensures c.as_slice.ensures.value c.as_slice-2.ensures.value in
    stepped_self w v c.requires.going c.requires.unspent c.requires.work
    (not_beyond w v c.requires.work c.in-Some.firsts.items c.in-Some-2.seconds.items first second w.units most (let e : c.len.result + c.len-2.result ≡ length c.in-Some.firsts.items + length c.in-Some-2.seconds.items = omega arith in e) (ap (within most) (sym same) ∙ told))

pub replace-requires-clause-replaceable : goal.replace-requires-clause-replaceable
replace-requires-clause-replaceable g c =
    let w = c.args.work.now in let v = c.args.var in
    let first = some_found w c.new-lit.result (positive v) c.in_ok-firsts.field-0 c.in-Some.firsts c.new-lit.ensures c.in-Some.is c.in_ok-firsts.ensures.found in
    let second = some_found w c.not.result (negative v) c.in_ok-seconds.field-0 c.in-Some-2.seconds (c.not.ensures ∙ ap opposite c.new-lit.ensures) c.in-Some-2.is c.in_ok-seconds.ensures.found in
    let all = resolvents c.new-lit.result (map (clause_at w.clauses) c.as_slice.result.now) (map (clause_at w.clauses) c.as_slice-2.result.now) in
    let most = c.len.result + c.len-2.result in
    let told : Extends most [] all c.in-Ok-Some.made.items true = subst (λ o. MatchOption o (within most all ≡ false) (λ made. Extends most [] all made.items true)) c.in-Ok-Some.field-0-is c.in-Ok-Some.ensures in
    let same = alike w c.new-lit.result (positive v) c.as_slice.result.now c.as_slice-2.result.now c.in-Some.firsts.items c.in-Some-2.seconds.items c.new-lit.ensures c.as_slice.ensures.value c.as_slice-2.ensures.value in
    let free = or_parts (is_unit w (positive v)) (is_unit w (negative v)) (sym c.has_unit.ensures ∙ c.if-has_unit.false) in
    replaceable_at w c.new-lit.result (positive v) c.as_slice-in-Ok-Some.result.now c.as_slice-in-Ok-Some-2.result.now c.in-Some.firsts.items c.in-Some-2.seconds.items c.as_slice-in-Ok-Some-3.result.now c.in-Ok-Some.made.items
    c.new-lit.ensures c.as_slice-in-Ok-Some.ensures.value c.as_slice-in-Ok-Some-2.ensures.value c.as_slice-in-Ok-Some-3.ensures.value
    (record {
      work = c.requires.work;
      on = record { low = c.requires.low; high = c.requires.high };
      first = first;
      second = second;
      free = free.0;
      free_too = free.1;
      are = told.0 ∙ same;
    })

pub returns-in-Ok-Some-clause-stepped : goal.returns-in-Ok-Some-clause-stepped
returns-in-Ok-Some-clause-stepped g c =
    let w = c.args.work.now in let v = c.args.var in let xs = c.in-Some.firsts.items in let ys = c.in-Some-2.seconds.items in
    let first = some_found w c.new-lit.result (positive v) c.in_ok-firsts.field-0 c.in-Some.firsts c.new-lit.ensures c.in-Some.is c.in_ok-firsts.ensures.found in
    let second = some_found w c.not.result (negative v) c.in_ok-seconds.field-0 c.in-Some-2.seconds (c.not.ensures ∙ ap opposite c.new-lit.ensures) c.in-Some-2.is c.in_ok-seconds.ensures.found in
    let all = resolvents c.new-lit.result (map (clause_at w.clauses) c.as_slice.result.now) (map (clause_at w.clauses) c.as_slice-2.result.now) in
    let most = c.len.result + c.len-2.result in
    let told : Extends most [] all c.in-Ok-Some.made.items true = subst (λ o. MatchOption o (within most all ≡ false) (λ made. Extends most [] all made.items true)) c.in-Ok-Some.field-0-is c.in-Ok-Some.ensures in
    let same = alike w c.new-lit.result (positive v) c.as_slice.result.now c.as_slice-2.result.now xs ys c.new-lit.ensures c.as_slice.ensures.value c.as_slice-2.ensures.value in
    let made : c.as_slice-in-Ok-Some-3.result.now ≡ resolvents (positive v) (map (clause_at w.clauses) xs) (map (clause_at w.clauses) ys) = c.as_slice-in-Ok-Some-3.ensures.value ∙ told.0 ∙ same in
    let new = c.replace.new.work in
    let r = subst (λ (a : List (List Literal)). WasReplaced w new (positive v) xs a c.replace.result) made
    (subst (λ (a : List ℕ). WasReplaced w new (positive v) a c.as_slice-in-Ok-Some-3.result.now c.replace.result) c.as_slice-in-Ok-Some.ensures.value
    (subst (λ (a : Literal). WasReplaced w new a c.as_slice-in-Ok-Some.result.now c.as_slice-in-Ok-Some-3.result.now c.replace.result) c.new-lit.ensures c.replace.ensures.replaced)) in
    was_stepped w v c.requires.work xs ys first second new most (let e : c.len.result + c.len-2.result ≡ length c.in-Some.firsts.items + length c.in-Some-2.seconds.items = omega arith in e) (ap (within most) (sym (told.0 ∙ same)) ∙ told.1) (sym c.has_unit.ensures ∙ c.if-has_unit.false) (some_if most c.if-most-eq0.false) c.replace.result r
