use Rattle.std.proofs.Common.{◌∷◌, [], ℕ, List, map, sym, subst, arith, Contains}
use Rattle.std.specs.List.{All}
use Rattle.sat_words.specs.Literal.{IsOn, opposite}
use Rattle.simp_add.specs.Stages.{Grown, WasRemoved, set_at}
use Rattle.simp_add.proofs.Growing.{stopped_after, grown_log, grown_along}
use Rattle.simp_add.proofs.Exchanging.{first_rat, second_rat, second_on, pair_on, sets_come, all_grown, gone_long, exchanged_after}
use Rattle.simp_add.proofs.replacement.replace.Goals as goal

pub add_pair-requires-clause-rat : goal.add_pair-requires-clause-rat
add_pair-requires-clause-rat g c = first_rat c.args.work.now c.args.fresh c.args.lit c.args.partner c.args.shared.now.firsts.items c.args.shared.now.gone.items c.requires.replaceable

pub add_pair-requires-2-clause-rat : goal.add_pair-requires-2-clause-rat
add_pair-requires-2-clause-rat g c = second_rat c.args.work.now c.args.fresh c.args.lit c.args.partner c.args.shared.now.firsts.items c.args.shared.now.gone.items c.requires.replaceable c.add_pair.new.work c.in-Ok.ensures.grown

pub add_pair-requires-2-clause-above : goal.add_pair-requires-2-clause-above
add_pair-requires-2-clause-above g c = let same = c.in-Ok.ensures.grown.unheld in let lt = c.requires.replaceable.above in omega arith

pub add_pair-requires-2-clause-on : goal.add_pair-requires-2-clause-on
add_pair-requires-2-clause-on g c =
    let w = c.args.work.now in let x = c.args.fresh in let l = c.args.lit in let k = c.args.partner in let f = c.args.shared.now.firsts.items in let o = c.args.shared.now.gone.items in let r = c.requires.replaceable in
    subst (λ (v : ℕ). All (IsOn v) (x ∷ k ∷ [])) (sym c.in-Ok.ensures.grown.vars) (pair_on w x l k f o r k (second_on w x l k f o r))

pub returns-in-Err-add_pair-clause-exchanged : goal.returns-in-Err-add_pair-clause-exchanged
returns-in-Err-add_pair-clause-exchanged g c =
    let w = c.args.work.now in let one = c.in-Ok.ensures.grown in
    stopped_after w c.add_pair.new.work c.add_pair-2.new.work c.in-Err-add_pair.stop one.on.quiet (grown_log w c.add_pair.new.work ((c.args.fresh ∷ c.args.lit ∷ []) ∷ []) one) c.in-Err-add_pair.ensures.grown

pub add_commons-requires-clause-come : goal.add_commons-requires-clause-come
add_commons-requires-clause-come g c n h =
    let w = c.args.work.now in let x = c.args.fresh in let l = c.args.lit in let k = c.args.partner in let f = c.args.shared.now.firsts.items in let o = c.args.shared.now.gone.items in let r = c.requires.replaceable in
    let both = grown_along w c.add_pair.new.work c.add_pair-2.new.work ((x ∷ l ∷ []) ∷ []) ((x ∷ k ∷ []) ∷ []) c.in-Ok.ensures.grown c.in-Ok-add_pair.ensures.grown in
    sets_come w x l k f o r c.add_pair-2.new.work both n (subst (λ (ns : List ℕ). Contains ns n) c.as_slice.ensures.value h)

pub remove_all-requires-clause-long : goal.remove_all-requires-clause-long
remove_all-requires-clause-long g c n d h i =
    let w = c.args.work.now in let x = c.args.fresh in let l = c.args.lit in let k = c.args.partner in let f = c.args.shared.now.firsts.items in let o = c.args.shared.now.gone.items in let r = c.requires.replaceable in
    let b = c.add_pair-2.new.work in let e = c.add_commons.new.work in
    let both = grown_along w c.add_pair.new.work b ((x ∷ l ∷ []) ∷ []) ((x ∷ k ∷ []) ∷ []) c.in-Ok.ensures.grown c.in-Ok-add_pair.ensures.grown in
    let sets = subst (λ (ns : List ℕ). Grown b e (map (λ m. opposite x ∷ set_at b.clauses l m) ns)) c.as_slice.ensures.value c.in-Ok-add_commons.ensures.grown in
    gone_long w x l k f o r e (all_grown w x l k f o r b both e sets) n d (subst (λ (ns : List ℕ). Contains ns n) c.as_slice-in-Ok-add_commons.ensures.value h) i

pub returns-in-Ok-add_commons-clause-exchanged : goal.returns-in-Ok-add_commons-clause-exchanged
returns-in-Ok-add_commons-clause-exchanged g c =
    let w = c.args.work.now in let x = c.args.fresh in let l = c.args.lit in let k = c.args.partner in let f = c.args.shared.now.firsts.items in let o = c.args.shared.now.gone.items in let r = c.requires.replaceable in
    let b = c.add_pair-2.new.work in let e = c.add_commons.new.work in
    let both = grown_along w c.add_pair.new.work b ((x ∷ l ∷ []) ∷ []) ((x ∷ k ∷ []) ∷ []) c.in-Ok.ensures.grown c.in-Ok-add_pair.ensures.grown in
    let sets = subst (λ (ns : List ℕ). Grown b e (map (λ m. opposite x ∷ set_at b.clauses l m) ns)) c.as_slice.ensures.value c.in-Ok-add_commons.ensures.grown in
    exchanged_after w x l k f o r e (all_grown w x l k f o r b both e sets) c.remove_all.new.work c.remove_all.result
    (subst (λ (ns : List ℕ). WasRemoved e c.remove_all.new.work ns c.remove_all.result) c.as_slice-in-Ok-add_commons.ensures.value c.remove_all.ensures.removed)

pub returns-in-Err-add_commons-clause-exchanged : goal.returns-in-Err-add_commons-clause-exchanged
returns-in-Err-add_commons-clause-exchanged g c =
    let w = c.args.work.now in let x = c.args.fresh in let l = c.args.lit in let k = c.args.partner in
    let both = grown_along w c.add_pair.new.work c.add_pair-2.new.work ((x ∷ l ∷ []) ∷ []) ((x ∷ k ∷ []) ∷ []) c.in-Ok.ensures.grown c.in-Ok-add_pair.ensures.grown in
    stopped_after w c.add_pair-2.new.work c.add_commons.new.work c.in-Err-add_commons.stop both.on.quiet (grown_log w c.add_pair-2.new.work ((x ∷ l ∷ []) ∷ (x ∷ k ∷ []) ∷ []) both) c.in-Err-add_commons.ensures.grown
