use Rattle.std.proofs.Common.{◌≡◌, ℕ, List, length, get_or, take, sym, subst, arith, rules}
use Rattle.std.specs.Prelude.{◌-◌}
use Rattle.std.proofs.Math.ListN.{set}
use Rattle.std.proofs.lemmas.List.{get_or_read}
use Rattle.ring_walk.specs.Listed.{AreListed, all_but}
use Rattle.ring_walk.proofs.Listing.{unlisted}
use Rattle.ring_walk.proofs.listed.unlist.Goals as goal

pub returns-clause-listed : goal.returns-clause-listed
returns-clause-listed c = λ P n h low there.
    let L = c.args.list.now.items in
    let Q = c.args.places.now.items in
    let i = c.args.number in
    let w = h.wide in
    let m = h.inside i low there in
    let place : c.index-place.result.now ≡ get_or Q i 0 = get_or_read Q i c.index-place.result.now (omega arith) (search rules) 0 in
    let last : c.index-last.result.now ≡ get_or L (length L - 1) 0 = get_or_read L (length L - 1) c.index-last.result.now (omega arith) (search rules) 0 in
    let list : c.pop.new.self.items ≡ take (length L - 1) (set L c.index-place.result.now c.index-last.result.now) = search rules in
    subst (λ (xs : List ℕ). AreListed (all_but i P) n xs (set Q c.index-last.result.now c.index-place.result.now)) (sym list)
    (subst (λ (p : ℕ). AreListed (all_but i P) n (take (length L - 1) (set L p c.index-last.result.now)) (set Q c.index-last.result.now p)) (sym place)
    (subst (λ (q : ℕ). AreListed (all_but i P) n (take (length L - 1) (set L (get_or Q i 0) q)) (set Q q (get_or Q i 0))) (sym last)
    (unlisted P n L Q i h low there)))
