use Rattle.std.proofs.Common.{◌≡◌, ◌∙◌, true, false, refl, sym, ap, subst, List, ℕ, Contains, arith}
use Rattle.sat_words.specs.Literal.{Literal}
use Rattle.sat_words.specs.Clause.{has}
use Rattle.simp_base.specs.WorkState.{known, unit_lits}
use Rattle.simp_units.specs.Begun.{Oppose, AreTrue, WasLoaded}
use Rattle.simp_base.proofs.Known.{nothing_logged}
use Rattle.simp_units.proofs.Starting.{progress_begun, opposed_conflicts, empty_from_conflict}
use Rattle.simp_units.proofs.passes.begin.Goals as goal

pub returns-then-not-load-clause-begun : goal.returns-then-not-load-clause-begun
returns-then-not-load-clause-begun g c =
    let w = c.args.work.now in
    let e : c.load.result ≡ false = grind (arith, c.if-not-load.true) in
    let o : Oppose w.units = subst Oppose c.units.ensures.lits (subst (WasLoaded (unit_lits c.units.result.now) c.args.values.now c.load.new.values) e c.load.ensures) in
    record {
      going = c.requires.going;
      unspent = c.requires.unspent;
      work = c.requires.work;
      quiet = refl;
      falsified = opposed_conflicts w o;
      empty = empty_from_conflict (known w) (opposed_conflicts w o);
      log = nothing_logged w;
    }

pub propagate-requires-clause-begun : goal.propagate-requires-clause-begun
propagate-requires-clause-begun g c =
    let w = c.args.work.now in
    let e : c.load.result ≡ true = grind (arith, c.if-not-load.false) in
    let t : AreTrue (unit_lits c.units.result.now) c.args.values.now c.load.new.values = subst (WasLoaded (unit_lits c.units.result.now) c.args.values.now c.load.new.values) e c.load.ensures in
    progress_begun w c.load.new.values (λ l. ap (λ (us : List Literal). has us l) (sym c.units.ensures.lits) ∙ t.same l)

pub propagate-requires-clause-each : goal.propagate-requires-clause-each
propagate-requires-clause-each g c n d i = subst (λ (xs : List ℕ). Contains xs n) (sym c.as_slice.ensures.value) (c.in_ok-numbers.ensures.every n d i)
