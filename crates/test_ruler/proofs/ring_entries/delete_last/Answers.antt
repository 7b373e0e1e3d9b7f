use Rattle.std.proofs.Common.{sym, subst, refl, List}
use Rattle.sat_words.specs.Literal.{Literal}
use Rattle.rup_model.specs.NumberedLines.{Deleted}
use Rattle.drat_text.specs.LineOut.{PutLine}
use Rattle.ruler_simp.specs.declared.ruling.Simplified.{Simplified}
use Rattle.test_ruler.proofs.RingEntries.{deleted_can}
use Rattle.test_ruler.proofs.ring_entries.delete_last.Goals as goal

pub returns : goal.returns
returns c =
    let left = c.args.left in
    let later : Simplified = record { vars = left.vars; start = c.pop.new.self; units = left.units; stack = left.stack } in
    let line : PutLine c.args.lines c.del.new.self (Deleted c.args.lines.last c.in-Some.number c.in-Some.clause) =
    subst (λ (ls : List Literal). PutLine c.args.lines c.del.new.self (Deleted c.args.lines.last c.in-Some.number ls)) c.lits.ensures.value c.in-Ok.ensures.put in
    deleted_can c.args.formula.now.clauses left later c.args.lines c.del.new.self c.requires refl refl refl c.in-Some.clause c.in-Some.number line
    c.in-Some.ensures.items
    (sym c.if-not-takes_part.ensures.is)
