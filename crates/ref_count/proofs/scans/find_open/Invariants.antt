use Rattle.std.proofs.Common.{◌≡◌, ℕ, ◌<◌, ◌*◌, false}
use Rattle.sat_words.specs.Values.{is_open}
use Rattle.share_rule.specs.Passes.{IsPassOf, IsSamePass}
use Rattle.share_rule.specs.Views.{clause_of, lit_in}
use Rattle.ref_count.specs.Scans.{OnlyLoaded}
use Rattle.ref_count.proofs.scans.find_open.Given as goal

abbrev pub invariant-loop-place : goal.invariant-loop-place
invariant-loop-place g l = record {
  pass : IsPassOf l.table l.pass;
  same : IsSamePass l.fn.pass l.pass;
  loaded : OnlyLoaded l.fn.pass.me.0 l.pass.me.0;
  none : (i : ℕ) → i < 2 * l.place → is_open l.values l.other (lit_in (clause_of l.cell.address l.fn.pass.me.0).lits i) ≡ false;
}
