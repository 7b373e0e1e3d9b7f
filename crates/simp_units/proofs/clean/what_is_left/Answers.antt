use Rattle.std.proofs.Common.{◌≡◌, ◌∙◌, sym, ap, List, length, arith}
use Rattle.std.specs.List.{list_any}
use Rattle.sat_words.specs.Literal.{Literal}
use Rattle.sat_words.specs.Values.{is_true}
use Rattle.simp_units.specs.Tidied.{left_of}
use Rattle.simp_base.proofs.Long.{two_if_long}
use Rattle.simp_units.proofs.Cleaning.{whole_if_all}
use Rattle.simp_units.proofs.clean.what_is_left.Goals as goal

pub returns-then-has_true : goal.returns-then-has_true
returns-then-has_true c =
    let same : c.lits-lits.result.now ≡ c.args.clause.now = c.lits-lits.ensures.value in
    let n : length c.lits-lits.result.now ≡ length c.args.clause.now = ap (λ (x : List Literal). length x) same in
    record {
      long = two_if_long c.args.clause.now c.lits-lits.ensures.ordered (omega (arith, n, c.if-lits-lt2.false));
      no_opposites = sym c.is_tautology.ensures ∙ c.if-is_tautology.false;
      holds = ap (list_any (is_true c.args.values.now)) (sym same) ∙ sym c.has_true.ensures ∙ c.if-has_true.true;
    }

pub returns-then-len-lits : goal.returns-then-len-lits
returns-then-len-lits c two none =
    let a = c.args.values.now in
    let same : c.lits-lits.result.now ≡ c.args.clause.now = c.lits-lits.ensures.value in
    let n : length c.lits-lits.result.now ≡ length c.args.clause.now = ap (λ (x : List Literal). length x) same in
    let r : length c.in_ok-rest.rest.items ≡ length (left_of a c.args.clause.now) = ap (λ (x : List Literal). length x) (c.in_ok-rest.ensures ∙ ap (left_of a) same) in
    whole_if_all a c.args.clause.now (omega (arith, n, r, c.len.ensures, c.in_ok-rest.rest.ok, c.if-len-lits.true))
    (ap (list_any (is_true a)) (sym same) ∙ sym c.has_true.ensures ∙ c.if-has_true.false)

pub returns : goal.returns
returns c =
    let a = c.args.values.now in
    let same : c.lits-lits.result.now ≡ c.args.clause.now = c.lits-lits.ensures.value in
    let n : length c.lits-lits.result.now ≡ length c.args.clause.now = ap (λ (x : List Literal). length x) same in
    record {
      long = two_if_long c.args.clause.now c.lits-lits.ensures.ordered (omega (arith, n, c.if-lits-lt2.false));
      no_opposites = sym c.is_tautology.ensures ∙ c.if-is_tautology.false;
      open_yet = ap (list_any (is_true a)) (sym same) ∙ sym c.has_true.ensures ∙ c.if-has_true.false;
      is = c.in_ok-rest.ensures ∙ ap (left_of a) same;
    }
