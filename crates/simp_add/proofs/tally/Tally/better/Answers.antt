use Rattle.std.proofs.Common.{◌≡◌, ◌<◌, ◌≤◌, Option, Some, sym, subst, arith, ⊎_elim}
use Rattle.sat_words.specs.Literal.{Literal, code_of}
use Rattle.simp_add.specs.Counted.{IsBetter}
use Rattle.simp_add.proofs.Choosing.{first_one, more_wins, less_wins, old_stays}
use Rattle.simp_add.proofs.tally.Tally.better.Goals as goal

pub returns-in_default : goal.returns-in_default
returns-in_default c =
    let cs = c.args.self.now.counts.items in let l = c.args.lit in
    let a = c.if-sets-lt-FEWEST.false in let e = c.sets-sets.ensures in
    subst (λ (o : Option Literal). IsBetter cs o l (Some l)) (sym c.in_default.is) (first_one cs l (omega arith))

pub returns-then-sets-most : goal.returns-then-sets-most
returns-then-sets-most c =
    let cs = c.args.self.now.counts.items in let l = c.args.lit in let k = c.in-Some.other in
    let a = c.if-sets-lt-FEWEST.false in let e = c.sets-sets.ensures in let b = c.if-sets-most.true in let f = c.sets-most.ensures in
    subst (λ (o : Option Literal). IsBetter cs o l (Some l)) (sym c.in-Some.is) (more_wins cs l k (omega arith) (omega arith))

pub returns-then-sets-most-2 : goal.returns-then-sets-most-2
returns-then-sets-most-2 c =
    let cs = c.args.self.now.counts.items in let l = c.args.lit in let k = c.in-Some.other in
    let a = c.if-sets-lt-FEWEST.false in let e = c.sets-sets.ensures in let b = c.if-sets-most-2.true in let f = c.sets-most.ensures in
    subst (λ (o : Option Literal). IsBetter cs o l (Some c.lesser.result)) (sym c.in-Some.is)
    (⊎_elim
    (λ (h : (c.lesser.result ≡ l) × (code_of l < code_of k)). subst (λ (x : Literal). IsBetter cs (Some k) l (Some x)) (sym h.0) (less_wins cs l k (omega arith) (omega arith) h.1))
    (λ (h : (c.lesser.result ≡ k) × (code_of k ≤ code_of l)). subst (λ (x : Literal). IsBetter cs (Some k) l (Some x)) (sym h.0) (old_stays cs l k (omega arith) (λ q. h.1)))
    c.lesser.ensures)

pub returns : goal.returns
returns c =
    let cs = c.args.self.now.counts.items in let l = c.args.lit in let k = c.in-Some.other in
    let e = c.sets-sets.ensures in let b = c.if-sets-most.false in let d = c.if-sets-most-2.false in let f = c.sets-most.ensures in
    subst (λ (o : Option Literal). IsBetter cs o l (Some k)) (sym c.in-Some.is) (old_stays cs l k (omega arith) (λ q. absurd (omega arith)))
