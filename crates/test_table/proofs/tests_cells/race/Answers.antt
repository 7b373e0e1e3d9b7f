use Rattle.std.proofs.Common.{◌≡◌, ◌∙◌, ◌++◌, ◌<◌, ℕ, List, All, length, take, drop, get_or, sym, ap, subst}
use Rattle.test_tables.specs.Samples.{IsRing, IsHolder}
use Rattle.test_tables.specs.declared.rings.Ring.{Ring}
use Rattle.test_tables.specs.declared.book.SampleBook.{SampleBook}
use Rattle.test_tables.proofs.Gathering.{written_back}
use Rattle.test_table.proofs.tests_cells.race.Goals as goal

pub give_up_all-requires-after_bounds : goal.give_up_all-requires-after_bounds
give_up_all-requires-after_bounds g c κs b =
    let size = ap (λ (rs : List (Ring SampleBook)). length rs) c.as_mut_slice.ensures.value in
    let back = written_back c.in_ok-rings.rings.items c.trade_all.new.rings c.in_ok-rings.rings.len (c.trade_all.auto.rings ∙ size) (sym c.as_mut_slice.ensures.len ∙ size) in
    subst (All (λ (r : Ring SampleBook). IsHolder c.in_ok-table.table r.pass r.ring r.cell.address c.args.turns)) (sym (c.as_mut_slice-2.ensures.value ∙ back)) c.trade_all.ensures.each

pub gather_all-lasts-requires-clause-each : goal.gather_all-lasts-requires-clause-each
gather_all-lasts-requires-clause-each g c =
    let items = c.in_ok-rings.rings.items in
    let n = c.in_ok-rings.rings.len in
    let one = c.trade_all.new.rings in
    let two = c.give_up_all.new.rings in
    let size = ap (λ (rs : List (Ring SampleBook)). length rs) c.as_mut_slice.ensures.value in
    let all = sym c.as_mut_slice.ensures.len ∙ size in
    let first = c.trade_all.auto.rings ∙ size in
    let back = written_back items one n first all in
    let next = c.as_mut_slice-2.ensures.value ∙ back in
    let size2 = ap (λ (rs : List (Ring SampleBook)). length rs) next in
    let back2 = ap (λ (rs : List (Ring SampleBook)). take n (two ++ drop (length two) rs)) back ∙ written_back one two n (c.give_up_all.auto.rings ∙ size2) (all ∙ sym first) in
    subst (All (λ (r : Ring SampleBook). IsRing c.in_ok-table.table r.pass r.ring)) (sym back2) c.give_up_all.ensures.each

pub gather_all-lasts-requires-clause-numbers : goal.gather_all-lasts-requires-clause-numbers
gather_all-lasts-requires-clause-numbers g c =
    let items = c.in_ok-rings.rings.items in
    let n = c.in_ok-rings.rings.len in
    let one = c.trade_all.new.rings in
    let two = c.give_up_all.new.rings in
    let size = ap (λ (rs : List (Ring SampleBook)). length rs) c.as_mut_slice.ensures.value in
    let all = sym c.as_mut_slice.ensures.len ∙ size in
    let first = c.trade_all.auto.rings ∙ size in
    let back = written_back items one n first all in
    let next = c.as_mut_slice-2.ensures.value ∙ back in
    let size2 = ap (λ (rs : List (Ring SampleBook)). length rs) next in
    let second = c.give_up_all.auto.rings ∙ size2 in
    let back2 = ap (λ (rs : List (Ring SampleBook)). take n (two ++ drop (length two) rs)) back ∙ written_back one two n second (all ∙ sym first) in
    subst (λ (rs : List (Ring SampleBook)). (i : ℕ) (d : Ring SampleBook) → i < length rs → (get_or rs i d).ring ≡ i) (sym back2)
    (λ i d lt.
    let lt2 : i < length c.as_mut_slice-2.result.now = subst (λ (k : ℕ). i < k) c.give_up_all.auto.rings lt in
    let lt1 : i < length c.as_mut_slice.result.now = subst (λ (k : ℕ). i < k) (size2 ∙ c.trade_all.auto.rings) lt2 in
    c.give_up_all.ensures.numbers i d lt2 ∙ ap (λ (rs : List (Ring SampleBook)). (get_or rs i d).ring) next
    ∙ c.trade_all.ensures.numbers i d lt1 ∙ ap (λ (rs : List (Ring SampleBook)). (get_or rs i d).ring) c.as_mut_slice.ensures.value
    ∙ c.in_ok-rings.ensures.numbers i d (subst (λ (k : ℕ). i < k) (size ∙ c.in_ok-rings.ensures.len) lt1))
