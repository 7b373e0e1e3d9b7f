use Rattle.std.proofs.Common.{◌≡◌, ◌∙◌, ◌++◌, ◌∷◌, [], ℕ, List, All, length, length-append, get_or, sym, ap, subst, arith}
use Rattle.share_core.proofs.ClauseLists.{all_last}
use Rattle.share_core.specs.declared.part.CoreOpening.{CoreOpening}
use Rattle.test_tables.proofs.Gathering.{numbers_more}
use Rattle.test_units.specs.Samples.{IsWriter, plus}
use Rattle.test_units.specs.declared.writers.Writer.{Writer}
use Rattle.test_units.proofs.Writing.{new_writer}
use Rattle.test_units.proofs.writers.begin_writers.Goals as goal

pub loop-ring-preserved : goal.loop-ring-preserved
loop-ring-preserved g c =
    let l = c.loop-ring in
    let i = l.invariant in
    let b = c.begin-ring.ensures in
    let s = c.requires.starts in
    let w : Writer g.row.S.Denot g.S.Sink = record { ring = c.begin-ring.result; written = 0; last = 0; sum = 0 } in
    let items : c.push.new.self.items ≡ l.all.items ++ w ∷ [] = c.in_ok-push.ensures.items in
    let n = ap (λ (xs : List (Writer g.row.S.Denot g.S.Sink)). length xs) items in
    let m = length-append l.all.items (w ∷ []) in
    let len = i.3 in
    let P : Writer g.row.S.Denot g.S.Sink → Type 0 = λ x. IsWriter c.args.table.now x.ring.pass x.ring.ring (plus 2) in
    let one : P w = subst (λ (k : ℕ). IsWriter c.args.table.now w.ring.pass k (plus 2)) (sym b.ring.1) (new_writer c.args.table.now w.ring.pass l.ring l.first.me.0.opening s.0 b.ring.0.is_ring b.part.0 (ap (λ (o : CoreOpening). o.hinted) (b.part.1 ∙ i.1) ∙ c.requires.plain) (ap (λ (o : CoreOpening). o.starts) i.1 ∙ s.1) c.requires.vars) in (
      b.first,
      b.same.0 ∙ i.1,
      b.same.1 ∙ i.2,
      omega arith,
      subst (All P) (sym items) (all_last P l.all.items w i.4 one),
      (λ k d lt. ap (λ (xs : List (Writer g.row.S.Denot g.S.Sink)). (get_or xs k d).ring.ring) items ∙ numbers_more (λ (x : Writer g.row.S.Denot g.S.Sink). x.ring.ring) l.all.items w l.ring i.3 i.5 b.ring.1 k d lt),
    )
