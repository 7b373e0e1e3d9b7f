use Rattle.std.proofs.Common.{◌≡◌, ◌∙◌, ◌++◌, ◌-◌, ℕ, List, length, replicate, ap, arith}
use Rattle.share_rule.specs.FirstWords.{start_words}
use Rattle.share_rule.proofs.Filling.{laid_length, filled_length, laid_words}
use Rattle.share_rule.proofs.first_words.lay_out.Goals as goal

pub fill-requires : goal.fill-requires
fill-requires c =
    let l = c.args.layout in
    let is = c.in_ok-holes.ensures.words ∙ ap (λ (ws : List ℕ). ws ++ start_words l.rings c.args.start.now) c.in-Ok.ensures in
    let n = laid_length l c.args.units.now c.requires.units c.args.start.now c.place_starts.new.words.items is in
    let fits = c.in_ok-holes.ensures.fits in
    let end = c.ticket.ensures in
    omega arith

pub push_last-requires-clause-words : goal.push_last-requires-clause-words
push_last-requires-clause-words c =
    let l = c.args.layout in
    let ws = c.place_starts.new.words.items in
    let is = c.in_ok-holes.ensures.words ∙ ap (λ (ws : List ℕ). ws ++ start_words l.rings c.args.start.now) c.in-Ok.ensures in
    let filled : c.fill.new.words.items ≡ ws ++ replicate (c.ticket.result - length ws) 0 = grind (arith, c.fill.ensures, c.is_err.ensures, c.if-is_err.false) in
    filled_length l c.args.units.now c.requires.units c.args.start.now ws is c.in_ok-holes.ensures.fits c.ticket.result c.ticket.ensures c.fill.new.words.items filled

pub returns-in-Ok-push_last-clause-words : goal.returns-in-Ok-push_last-clause-words
returns-in-Ok-push_last-clause-words c =
    let l = c.args.layout in
    let ws = c.place_starts.new.words.items in
    let is = c.in_ok-holes.ensures.words ∙ ap (λ (ws : List ℕ). ws ++ start_words l.rings c.args.start.now) c.in-Ok.ensures in
    let filled : c.fill.new.words.items ≡ ws ++ replicate (c.ticket.result - length ws) 0 = grind (arith, c.fill.ensures, c.is_err.ensures, c.if-is_err.false) in
    laid_words l c.args.units.now c.requires.units c.args.start.now ws is c.in_ok-holes.ensures.fits c.ticket.result c.ticket.ensures c.fill.new.words.items filled c.push_last.new.words.items c.in-Ok-push_last.ensures
