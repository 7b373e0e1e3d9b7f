use Rattle.std.proofs.Common.{◌≡◌, ◌∙◌, ◌≤◌, ◌<◌, ◌⊎◌, ◌++◌, ◌∷◌, [], List, sym, ap, length, false, inl, inr, arith}
use Rattle.sat_words.specs.Literal.{Literal}
use Rattle.sat_words.specs.Clause.{has_opposites}
use Rattle.simp_elim.specs.Resolution.{resolved}
use Rattle.simp_elim.proofs.Resolving.{clash_told}
use Rattle.simp_elim.proofs.Within.{extends_nothing, extends_one, extends_too_far}
use Rattle.simp_elim.proofs.resolution.add_resolvent.Goals as goal
use Rattle.simp_elim.proofs.resolution.add_resolvent.Goals.{then-len-most-via-then-len-most, then-len-most-via-else-len-most+then-lits-gt-LONGEST}

pub returns-then-clash : goal.returns-then-clash
returns-then-clash c =
    let x = c.args.on in let a = c.args.first.now in let b = c.args.second.now in
    extends_nothing c.args.most c.args.made.now.items x a b c.requires.within (sym (clash_told x a b c.requires.first c.requires.second) ∙ sym c.clash.ensures ∙ c.if-clash.true)

pub returns-then-len-most : goal.returns-then-len-most
returns-then-len-most c =
    let x = c.args.on in let a = c.args.first.now in let b = c.args.second.now in
    let told : has_opposites (resolved x a b) ≡ false = sym (clash_told x a b c.requires.first c.requires.second) ∙ sym c.clash.ensures ∙ c.if-clash.false in
    extends_too_far c.args.most c.args.made.now.items c.args.made.now.items x a b told
    (elim c.then-len-most.branch as (λ _. (c.args.most ≤ length c.args.made.now.items) ⊎ (100 < length (resolved x a b))) [
      | then-len-most-via-then-len-most w ↦ inl (omega arith)
      | then-len-most-via-else-len-most+then-lits-gt-LONGEST w ↦ inr (omega (arith, w.if-lits-gt-LONGEST.true, ap length w.lits.ensures.value, ap length c.in_ok-clause.ensures))
    ])

pub returns : goal.returns
returns c =
    let x = c.args.on in let a = c.args.first.now in let b = c.args.second.now in
    let told : has_opposites (resolved x a b) ≡ false = sym (clash_told x a b c.requires.first c.requires.second) ∙ sym c.clash.ensures ∙ c.if-clash.false in
    extends_one c.args.most c.args.made.now.items c.push.new.self.items x a b c.requires.within told (omega (arith, c.if-len-most.false))
    (omega (arith, c.if-lits-gt-LONGEST.false, ap length c.lits.ensures.value, ap length c.in_ok-clause.ensures))
    (c.in_ok-push.ensures.items ∙ ap (λ (r : List Literal). c.args.made.now.items ++ r ∷ []) c.in_ok-clause.ensures)
