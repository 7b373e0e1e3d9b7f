use Rattle.std.proofs.Common.{ℕ, List, sym, subst, Contains, arith}
use Rattle.simp_elim.specs.Occurring.{IsOccurrence}
use Rattle.simp_elim.proofs.Counting.{collected_not, collected_before, collected_more, collected_too_many}
use Rattle.simp_elim.proofs.occurrences.collect.Goals as goal

pub returns-then-not-is_occurrence-clause-collected : goal.returns-then-not-is_occurrence-clause-collected
returns-then-not-is_occurrence-clause-collected g c looked t =
    collected_not c.args.work.now c.args.lit c.args.number c.args.found.now.items looked (subst (IsOccurrence c.args.work.now c.args.lit c.args.number) c.if-not-is_occurrence.true c.is_occurrence.ensures) t

pub returns-then-is_among-clause-collected : goal.returns-then-is_among-clause-collected
returns-then-is_among-clause-collected g c looked t =
    collected_before c.args.work.now c.args.lit c.args.number c.args.found.now.items looked (subst (λ (ns : List ℕ). Contains ns c.args.number) c.as_slice.ensures.value (c.is_among.ensures.yes c.if-is_among.true)) t

pub returns-then-len-ge-MOST_OCCURRENCES-clause-collected : goal.returns-then-len-ge-MOST_OCCURRENCES-clause-collected
returns-then-len-ge-MOST_OCCURRENCES-clause-collected g c looked t =
    collected_too_many c.args.work.now c.args.lit c.args.number c.args.found.now.items looked c.requires.work (subst (IsOccurrence c.args.work.now c.args.lit c.args.number) c.if-not-is_occurrence.false c.is_occurrence.ensures)
    (λ h. c.is_among.ensures.no c.if-is_among.false (subst (λ (ns : List ℕ). Contains ns c.args.number) (sym c.as_slice.ensures.value) h)) (omega arith) t

pub returns-clause-collected : goal.returns-clause-collected
returns-clause-collected g c looked t =
    collected_more c.args.work.now c.args.lit c.args.number c.args.found.now.items c.push.new.numbers.items looked (subst (IsOccurrence c.args.work.now c.args.lit c.args.number) c.if-not-is_occurrence.false c.is_occurrence.ensures)
    (λ h. c.is_among.ensures.no c.if-is_among.false (subst (λ (ns : List ℕ). Contains ns c.args.number) (sym c.as_slice.ensures.value) h)) (omega arith) c.in_ok-push.ensures.ok t
