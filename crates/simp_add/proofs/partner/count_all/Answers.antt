use Rattle.std.proofs.Common.{◌∙◌, ℕ, List, get_or, refl, ap, subst, arith}
use Rattle.std.proofs.lemmas.List.Kept.{AllPairs-from_increasing}
use Rattle.simp_add.specs.declared.tally.Count.{Count}
use Rattle.simp_add.specs.Counted.{AreCounted}
use Rattle.simp_add.proofs.OneMore.{take_whole}
use Rattle.simp_add.proofs.Counting.{touched_none, counted_more}
use Rattle.simp_add.proofs.partner.count_all.Goals as goal

pub count_one-requires-clause-stamps : goal.count_one-requires-clause-stamps
count_one-requires-clause-stamps g c j = c.loop-number.invariant.stamps j c.loop-number.number-index (omega arith) c.loop-number-test.true

pub loop-number-init : goal.loop-number-init
loop-number-init g c = record {
  counted = λ j lt. ap (λ (x : Count). x.sets) (c.requires.clear j);
  touched = touched_none c.args.lit c.args.tally.now.counts.items c.args.tally.now.touched.items c.requires.clear c.requires.none;
  stamps = λ j i le lt. (let e = ap (λ (x : Count). x.stamp) (c.requires.clear j) in omega arith);
  all_sets = λ j. (let e = ap (λ (x : Count). x.sets) (c.requires.clear j) in omega arith);
  wide = refl;
}

pub loop-number-preserved : goal.loop-number-preserved
loop-number-preserved g c =
    let numbers = c.args.numbers.now in let i = c.loop-number.number-index in let inv = c.loop-number.invariant in let one = c.in-Ok.ensures.counted in
    record {
      counted = counted_more c.args.work.now c.args.lit numbers i c.loop-number.tally.counts.items c.count_one.new.tally.counts.items c.loop-number-test.true inv.counted one;
      touched = c.in-Ok.ensures.touched;
      stamps = λ j k le lt. one.stamps j (get_or numbers k 0) (inv.stamps j k (omega arith) lt) (let up = AllPairs-from_increasing numbers c.requires.rising i k 0 (omega arith) lt in omega arith);
      all_sets = λ j. (let a = inv.all_sets j in let b = one.few j in omega arith);
      wide = one.wide ∙ inv.wide;
    }

pub returns-clause-counted : goal.returns-clause-counted
returns-clause-counted g c =
    subst (λ (ns : List ℕ). AreCounted c.args.work.now c.args.lit ns c.loop-number.tally.counts.items) (take_whole c.args.numbers.now c.loop-number.number-index c.loop-number-test.false) c.loop-number.invariant.counted
