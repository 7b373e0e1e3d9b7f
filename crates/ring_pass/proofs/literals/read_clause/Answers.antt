use Rattle.std.proofs.Common.{◌≡◌, ◌∙◌, [], ◌∷◌, ◌++◌, length, take, suc, ℕ, ◌+◌, ◌<◌, List, ◌/◌, false, sym, ap, refl, arith}
use Rattle.std.proofs.Math.Seq.{take-suc}
use Rattle.std.proofs.lemmas.List.{length-take}
use Rattle.sat_words.specs.Literal.{Literal}
use Rattle.share_core.specs.declared.stored.ClauseAt.{ClauseAt}
use Rattle.share_rule.specs.declared.view.View.{View}
use Rattle.share_rule.specs.Views.{clause_of, lit_in}
use Rattle.ring_pass.proofs.Stays.{clause_same, holding_same, loaded, looked_both}
use Rattle.ring_pass.proofs.literals.read_clause.Goals as goal

pub loop-i-init : goal.loop-i-init
loop-i-init g c = record {
  pass = c.requires.pass;
  same = (refl, refl);
  looked = record { parts = refl; layout = refl; opening = refl; stop = refl; looks = refl };
  lits = c.requires.empty;
  capacity = refl;
}

pub read_lit-lit-requires-clause-pass : goal.read_lit-lit-requires-clause-pass
read_lit-lit-requires-clause-pass g c = c.loop-i.invariant.pass

pub read_lit-lit-requires-clause-held : goal.read_lit-lit-requires-clause-held
read_lit-lit-requires-clause-held g c = holding_same c.args.pass.now.me.0 c.loop-i.pass.me.0 c.args.cell.address c.loop-i.invariant.looked c.requires.held

pub read_lit-lit-requires-clause-place : goal.read_lit-lit-requires-clause-place
read_lit-lit-requires-clause-place g c =
    let same = ap (λ (h : ClauseAt). length h.lits) (clause_same c.args.pass.now.me.0 c.loop-i.pass.me.0 c.args.cell.address c.loop-i.invariant.looked) in
    let lt = c.loop-i-test.true in
    let size = c.requires.size in
    omega arith

pub push_reserved-requires : goal.push_reserved-requires
push_reserved-requires g c =
    let lt = c.loop-i-test.true in
    let size = c.requires.size in
    let room = c.requires.room in
    let cap = c.loop-i.invariant.capacity in
    let long = ap length c.loop-i.invariant.lits in
    let l = length-take c.loop-i.i (clause_of c.args.cell.address c.args.pass.now.me.0).lits in
    omega arith

pub loop-i-preserved : goal.loop-i-preserved
loop-i-preserved g c =
    let inv = c.loop-i.invariant in
    let a : ℕ = c.args.cell.address in
    let v : View = c.args.pass.now.me.0 in
    let lits : List Literal = (clause_of a v).lits in
    let lt = c.loop-i-test.true in
    let size = c.requires.size in
    let less : c.loop-i.i < length lits = omega arith in
    let r = c.read_lit-lit.ensures in
    let next : c.loop-i.i + 1 ≡ suc c.loop-i.i = omega arith in
    record {
      pass = r.pass.0;
      same = (r.pass.1.0 ∙ inv.same.0, r.pass.1.1 ∙ inv.same.1);
      looked = looked_both v c.loop-i.pass.me.0 c.read_lit-lit.new.pass.me.0 inv.looked (loaded c.loop-i.pass.me.0 c.read_lit-lit.new.pass.me.0 (a + 3 + c.loop-i.i / 2) r.part.0 r.part.1);
      lits = c.push_reserved.ensures.items ∙ (λ i. inv.lits i ++ (r.literal ∙ ap (λ (h : ClauseAt). lit_in h.lits c.loop-i.i) (clause_same v c.loop-i.pass.me.0 a inv.looked)) i ∷ [])
          ∙ sym (ap (λ (n : ℕ). take n lits) next ∙ take-suc lits c.loop-i.i (record { var = 0; neg = false }) less);
      capacity = c.push_reserved.ensures.capacity ∙ inv.capacity;
    }
