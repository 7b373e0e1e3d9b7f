use Rattle.std.proofs.Common.{◌∙◌, ◌*◌, ℕ, List, length, refl, sym, ap, subst, arith}
use Rattle.sat_words.specs.Formats.{has_hints}
use Rattle.rup_model.specs.Journal.{book}
use Rattle.share_core.specs.State.{opened}
use Rattle.share_rule.specs.declared.rule.Key.{Key}
use Rattle.share_rule.specs.declared.view.BookOrigin.{BookOrigin}
use Rattle.share_rule.specs.Books.{StandsFor}
use Rattle.share_rule.specs.FirstWords.{begun_with}
use Rattle.std.specs.Prelude.{slice_set}
use Rattle.share_rule.specs.Shown.{Words}
use Rattle.share_rule.proofs.Accounts.{log_kept}
use Rattle.share_rule.specs.Openings.{Opens}
use Rattle.share_rule.proofs.Literals.{few_paired}
use Rattle.share_rule.proofs.Contiguous.{short_all, begun_opens, begun_room, begun_places}
use Rattle.share_rule.proofs.Filling.{first_length, begun_words}
use Rattle.share_rule.proofs.Rooms.{few_words}
use Rattle.share_rule.proofs.making.make.Goals as goal

pub lay_out-requires-clause-short : goal.lay_out-requires-clause-short
lay_out-requires-clause-short g c = let b = c.requires.1.0 in short_all c.args.layout b.few_vars (book c.args._formula.now.clauses g.journal) c.args.start.now b.opens.starts b.starts

pub lay_out-requires-clause-units : goal.lay_out-requires-clause-units
lay_out-requires-clause-units g c = let b = c.requires.1.0 in few_paired c.args.layout.vars c.args.units.now b.opens.distinct b.units

pub invariant_of-table : goal.invariant_of-table
invariant_of-table g c =
    let b = c.requires.1.0 in
    let few = few_paired c.args.layout.vars c.args.units.now b.opens.distinct b.units in
    let e = c.in-Ok-vacant.ensures in
    let n = first_length c.args._formula.now.clauses c.args.layout (has_hints (g.B.Ledger.origin c.args.book).format) g.journal c.args.start.now c.args.units.now few c.in-Ok.ensures.fits in
    let w = ap (λ (ws : List ℕ). length ws) c.in-Ok.ensures.words in
    record {
      sized = e.0 ∙ ap (λ (ws : List ℕ). length ws) c.as_slice.ensures.value ∙ w ∙ n;
      slots = e.1;
      rings = b.few_rings;
      vars = b.few_vars;
      words = b.few_words;
      depth = b.few_slots;
      keyed = ap (λ (k : Key). k.layout) e.5;
    }

pub open_table-requires-clause-opens : goal.open_table-requires-clause-opens
open_table-requires-clause-opens g c =
    let F = c.args._formula.now.clauses in
    let l = c.args.layout in
    let J = g.journal in
    let ss = c.args.start.now in
    let us = c.args.units.now in
    let b = c.requires.1.0 in
    let h = c.requires.1.1.0 in
    let few = few_paired l.vars us b.opens.distinct b.units in
    let e = c.in-Ok-vacant.ensures in
    let fits = c.in-Ok.ensures.fits in
    let w = g.B.Ledger.origin c.args.book in
    let hinted = has_hints w.format in
    let o = begun_with F l hinted J ss us in
    let n = c.entries-entries.ensures ∙ h.entries in
    let start : Opens (StandsFor g.B.Ledger.account g.B.Ledger.stands) (record { layout = l; words = c.in-Ok.laid.0 }) o w c.with_holes-book.result c.entries-entries.result = record {
      opens = begun_opens F l hinted J ss us b;
      small = (let k = few_words l b.few_rings b.few_vars b.few_words b.few_slots in omega arith);
      words = subst (λ (ws : List ℕ). Words l (opened o) (λ _. 0) (slice_set ws 0 (256 * c.entries-entries.result))) (sym c.in-Ok.ensures.words) (begun_words F l hinted J ss us few fits (256 * c.entries-entries.result) (omega arith));
      places = begun_places F l hinted J ss us b fits;
      few = (let k = b.few_entries in omega arith);
      stood = record {
        log = log_kept g.B.Ledger.account g.B.Ledger.stands c.args.book c.with_holes-book.result c.in-Ok.laid.1 w l F J h c.with_holes-book.ensures.account c.with_holes-book.ensures.sink;
        ended = ap (λ a. a.ended) c.with_holes-book.ensures.account ∙ sym b.going;
        faulty = ap (λ a. a.broken) c.with_holes-book.ensures.account ∙ c.requires.1.1.1;
        hinted = refl;
        holes = λ _. ap (λ a. a.holes) c.with_holes-book.ensures.account ∙ c.in-Ok.ensures.holes ∙ ap (λ r. r.holes) (sym (begun_room F l hinted J ss us b));
      };
    } in
    subst (λ (y : Key × BookOrigin). Opens (StandsFor g.B.Ledger.account g.B.Ledger.stands) y.0 (begun_with F l (has_hints y.1.format) J ss us) y.1 c.with_holes-book.result c.entries-entries.result) (λ i. (sym e.5 i, sym c.with_holes-book.ensures.origin i)) start
