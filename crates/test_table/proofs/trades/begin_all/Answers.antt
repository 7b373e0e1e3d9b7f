use Rattle.std.proofs.Common.{◌≡◌, ◌∙◌, ◌++◌, ◌∷◌, [], ℕ, List, All, length, length-append, get_or, sym, ap, subst, arith}
use Rattle.share_core.proofs.ClauseLists.{all_last}
use Rattle.test_tables.specs.Samples.{IsHolder}
use Rattle.test_tables.specs.declared.rings.Ring.{Ring}
use Rattle.test_tables.proofs.Gathering.{numbers_more}
use Rattle.test_table.proofs.trades.begin_all.Goals as goal

pub loop-ring-preserved : goal.loop-ring-preserved
loop-ring-preserved g c =
    let l = c.loop-ring in
    let i = l.invariant in
    let b = c.begin.ensures in
    let r : Ring g.row.B.Denot = c.begin.result in
    let items : c.push.new.self.items ≡ l.all.items ++ r ∷ [] = c.in_ok-push.ensures.items in
    let n = ap (λ (xs : List (Ring g.row.B.Denot)). length xs) items in
    let m = length-append l.all.items (r ∷ []) in
    let len = i.3 in (
      b.first,
      b.same.0 ∙ i.1,
      b.same.1 ∙ i.2,
      omega arith,
      subst (All (λ (x : Ring g.row.B.Denot). IsHolder c.args.table.now x.pass x.ring x.cell.address 0)) (sym items) (all_last (λ (x : Ring g.row.B.Denot). IsHolder c.args.table.now x.pass x.ring x.cell.address 0) l.all.items r i.4 (subst (λ (y : ℕ × ℕ). IsHolder c.args.table.now r.pass y.0 y.1 0) (λ k. (sym b.ring.1 k, (sym b.ring.2 k).address)) b.ring.0)),
      (λ k d lt. ap (λ (xs : List (Ring g.row.B.Denot)). (get_or xs k d).ring) items ∙ numbers_more (λ (x : Ring g.row.B.Denot). x.ring) l.all.items r l.ring i.3 i.5 b.ring.1 k d lt),
      subst (All (λ (x : Ring g.row.B.Denot). x.cell ≡ c.args.cell)) (sym items) (all_last (λ (x : Ring g.row.B.Denot). x.cell ≡ c.args.cell) l.all.items r i.6 b.ring.2),
    )
