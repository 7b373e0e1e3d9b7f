use Rattle.std.proofs.Common.{◌≡◌, ◌∙◌, ◌==◌, List, Option, IfOk, true, false, subst, sym, ap}
use Rattle.std.specs.List.{list_any}
use Rattle.sat_words.specs.Literal.{Literal}
use Rattle.rup_model.specs.declared.journal.Entry.{Entry}
use Rattle.rup_model.specs.Journal.{book_after}
use Rattle.share_core.proofs.Rounding.{round_spells, round_leaves}
use Rattle.share_core.proofs.rounds.clause_after.Goals as goal

pub returns-then-is_among : goal.returns-then-is_among
returns-then-is_among c b e next =
    let yes : list_any (λ m. m == c.args.number) c.in-Round.x.starts ≡ true = ap (list_any (λ m. m == c.args.number)) (sym c.as_slice.ensures) ∙ sym c.is_among.ensures ∙ c.if-is_among.true in
    subst (λ (q : Option (List Literal)). IfOk c.respelled.result (λ d. d ≡ q))
    (round_spells b c.in-Round.x c.args.number c.args.clause yes e ∙ ap (λ (x : Entry). (book_after b x).clause c.args.number) (sym c.in-Round.is)) c.respelled.ensures

pub returns-else-is_among : goal.returns-else-is_among
returns-else-is_among c b e next =
    let no : list_any (λ m. m == c.args.number) c.in-Round.x.starts ≡ false = ap (list_any (λ m. m == c.args.number)) (sym c.as_slice.ensures) ∙ sym c.is_among.ensures ∙ c.if-is_among.false in
    round_leaves b c.in-Round.x c.args.number c.args.clause no e ∙ ap (λ (x : Entry). (book_after b x).clause c.args.number) (sym c.in-Round.is)
