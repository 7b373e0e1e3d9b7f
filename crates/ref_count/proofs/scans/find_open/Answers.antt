use Rattle.std.proofs.Common.{◌≡◌, ◌∙◌, ℕ, ◌+◌, ◌*◌, ◌-◌, List, length, sym, ap, arith, Some, false, Bool}
use Rattle.sat_words.specs.Literal.{Literal}
use Rattle.sat_words.specs.Values.{is_open}
use Rattle.share_rule.specs.declared.view.View.{View}
use Rattle.share_rule.specs.Views.{clause_of, lit_in}
use Rattle.sat_words.proofs.Finding.{found, none_found, none_more}
use Rattle.ref_count.proofs.Loaded.{loaded_more, lits_same, holding_same, first_of, second_of}
use Rattle.ref_count.proofs.scans.find_open.Goals as goal

abbrev no_lit : Literal
no_lit = record { var = 0; neg = false }

pub load_pair-word-requires-clause-pass : goal.load_pair-word-requires-clause-pass
load_pair-word-requires-clause-pass g c = c.loop-place.invariant.pass

pub load_pair-word-requires-clause-held : goal.load_pair-word-requires-clause-held
load_pair-word-requires-clause-held g c = holding_same c.args.pass.now.me.0 c.loop-place.pass.me.0 c.args.cell.address c.loop-place.invariant.loaded c.requires.held

pub load_pair-word-requires-clause-place : goal.load_pair-word-requires-clause-place
load_pair-word-requires-clause-place g c =
    let same = ap length (lits_same c.args.pass.now.me.0 c.loop-place.pass.me.0 c.args.cell.address c.loop-place.invariant.loaded) in
    let lt = c.loop-place-test.true in
    let size = c.read_shape-size.ensures.size in
    omega arith

pub lit_of-first-requires-clause-low : goal.lit_of-first-requires-clause-low
lit_of-first-requires-clause-low g c =
    let v : View = c.args.pass.now.me.0 in
    let a : ℕ = c.args.cell.address in
    let lt = c.loop-place-test.true in
    let size = c.read_shape-size.ensures.size in
    let d = first_of c.args.table.now c.loop-place.pass v a c.loop-place.place c.load_pair-word.result c.loop-place.invariant.pass c.loop-place.invariant.loaded c.requires.held (omega arith) c.load_pair-word.ensures.word in
    d.low

pub lit_of-first-requires-clause-high : goal.lit_of-first-requires-clause-high
lit_of-first-requires-clause-high g c =
    let v : View = c.args.pass.now.me.0 in
    let a : ℕ = c.args.cell.address in
    let lt = c.loop-place-test.true in
    let size = c.read_shape-size.ensures.size in
    let d = first_of c.args.table.now c.loop-place.pass v a c.loop-place.place c.load_pair-word.result c.loop-place.invariant.pass c.loop-place.invariant.loaded c.requires.held (omega arith) c.load_pair-word.ensures.word in
    d.high

pub lit_of-second-requires-clause-low : goal.lit_of-second-requires-clause-low
lit_of-second-requires-clause-low g c =
    let v : View = c.args.pass.now.me.0 in
    let a : ℕ = c.args.cell.address in
    let lt = c.loop-place-test.true in
    let size = c.read_shape-size.ensures.size in
    let d = second_of c.args.table.now c.loop-place.pass v a c.loop-place.place c.load_pair-word.result c.loop-place.invariant.pass c.loop-place.invariant.loaded c.requires.held (omega arith) c.load_pair-word.ensures.word in
    d.low

pub lit_of-second-requires-clause-high : goal.lit_of-second-requires-clause-high
lit_of-second-requires-clause-high g c =
    let v : View = c.args.pass.now.me.0 in
    let a : ℕ = c.args.cell.address in
    let lt = c.loop-place-test.true in
    let size = c.read_shape-size.ensures.size in
    let d = second_of c.args.table.now c.loop-place.pass v a c.loop-place.place c.load_pair-word.result c.loop-place.invariant.pass c.loop-place.invariant.loaded c.requires.held (omega arith) c.load_pair-word.ensures.word in
    d.high

pub returns-then-is_open-clause-first : goal.returns-then-is_open-clause-first
returns-then-is_open-clause-first g c =
    let v : View = c.args.pass.now.me.0 in
    let a : ℕ = c.args.cell.address in
    let lt = c.loop-place-test.true in
    let size = c.read_shape-size.ensures.size in
    let d = first_of c.args.table.now c.loop-place.pass v a c.loop-place.place c.load_pair-word.result c.loop-place.invariant.pass c.loop-place.invariant.loaded c.requires.held (omega arith) c.load_pair-word.ensures.word in
    let lits : List Literal = (clause_of a v).lits in
    let p : Literal → Bool = is_open c.args.values.now c.args.other in
    let is = c.lit_of-first.ensures ∙ d.literal in
    ap Some is ∙ sym (found p lits (2 * c.loop-place.place) no_lit c.loop-place.invariant.none (omega arith) (ap p (sym is) ∙ sym c.is_open.ensures ∙ c.if-is_open.true))

pub returns-then-is_open-2-clause-first : goal.returns-then-is_open-2-clause-first
returns-then-is_open-2-clause-first g c =
    let v : View = c.args.pass.now.me.0 in
    let a : ℕ = c.args.cell.address in
    let lt = c.loop-place-test.true in
    let size = c.read_shape-size.ensures.size in
    let d = second_of c.args.table.now c.loop-place.pass v a c.loop-place.place c.load_pair-word.result c.loop-place.invariant.pass c.loop-place.invariant.loaded c.requires.held (omega arith) c.load_pair-word.ensures.word in
    let lits : List Literal = (clause_of a v).lits in
    let p : Literal → Bool = is_open c.args.values.now c.args.other in
    let first = c.lit_of-first.ensures ∙ (first_of c.args.table.now c.loop-place.pass v a c.loop-place.place c.load_pair-word.result c.loop-place.invariant.pass c.loop-place.invariant.loaded c.requires.held (omega arith) c.load_pair-word.ensures.word).literal in
    let none = none_more p lits no_lit (2 * c.loop-place.place) c.loop-place.invariant.none (ap p (sym first) ∙ sym c.is_open.ensures ∙ c.if-is_open.false) in
    let is = c.lit_of-second.ensures ∙ d.literal in
    ap Some is ∙ sym (found p lits (2 * c.loop-place.place + 1) no_lit none (omega arith) (ap p (sym is) ∙ sym c.is_open-in-loop-place.ensures ∙ c.if-is_open-2.true))

pub loop-place-preserved : goal.loop-place-preserved
loop-place-preserved g c =
    let v : View = c.args.pass.now.me.0 in
    let a : ℕ = c.args.cell.address in
    let lt = c.loop-place-test.true in
    let size = c.read_shape-size.ensures.size in
    let d = second_of c.args.table.now c.loop-place.pass v a c.loop-place.place c.load_pair-word.result c.loop-place.invariant.pass c.loop-place.invariant.loaded c.requires.held (omega arith) c.load_pair-word.ensures.word in
    let lits : List Literal = (clause_of a v).lits in
    let p : Literal → Bool = is_open c.args.values.now c.args.other in
    let first = c.lit_of-first.ensures ∙ (first_of c.args.table.now c.loop-place.pass v a c.loop-place.place c.load_pair-word.result c.loop-place.invariant.pass c.loop-place.invariant.loaded c.requires.held (omega arith) c.load_pair-word.ensures.word).literal in
    let none = none_more p lits no_lit (2 * c.loop-place.place) c.loop-place.invariant.none (ap p (sym first) ∙ sym c.is_open.ensures ∙ c.if-is_open.false) in
    let second = c.lit_of-second.ensures ∙ d.literal in
    let e = c.load_pair-word.ensures in
    let inv = c.loop-place.invariant in
    record {
      pass = e.pass.0;
      same = (e.pass.1.0 ∙ inv.same.0, e.pass.1.1 ∙ inv.same.1);
      loaded = loaded_more v c.loop-place.pass.me.0 c.load_pair-word.new.pass.me.0 (a + 3 + c.loop-place.place) e.part.0 inv.loaded e.part.1;
      none = λ i less. none_more p lits no_lit (2 * c.loop-place.place + 1) none (ap p (sym second) ∙ sym c.is_open-in-loop-place.ensures ∙ c.if-is_open-2.false) i (omega arith);
    }

pub returns-then-size-eq0-clause-first : goal.returns-then-size-eq0-clause-first
returns-then-size-eq0-clause-first g c =
    let v : View = c.args.pass.now.me.0 in
    let a : ℕ = c.args.cell.address in
    let lits : List Literal = (clause_of a v).lits in
    let p : Literal → Bool = is_open c.args.values.now c.args.other in
    let size = c.read_shape-size.ensures.size in
    let done = c.loop-place-test.false in
    let most = c.loop-place.auto.place-end in
    let even = c.if-size-eq0.true in
    sym (none_found p lits no_lit (λ i lt. c.loop-place.invariant.none i (omega arith)))

pub returns-then-is_open-3-clause-first : goal.returns-then-is_open-3-clause-first
returns-then-is_open-3-clause-first g c =
    let v : View = c.args.pass.now.me.0 in
    let a : ℕ = c.args.cell.address in
    let lits : List Literal = (clause_of a v).lits in
    let p : Literal → Bool = is_open c.args.values.now c.args.other in
    let size = c.read_shape-size.ensures.size in
    let done = c.loop-place-test.false in
    let most = c.loop-place.auto.place-end in
    let odd = c.if-size-eq0.false in
    let at : ℕ = c.read_shape-size.result.0 - 1 in
    let last = c.read_lit-last.ensures.literal ∙ ap (λ (ls : List Literal). lit_in ls at) (lits_same v c.loop-place.pass.me.0 a c.loop-place.invariant.loaded) in
    let half : c.read_shape-size.result.0 ≡ 2 * c.loop-place.place + 1 = omega arith in
    let is : c.read_lit-last.result ≡ lit_in lits (2 * c.loop-place.place) = last ∙ ap (lit_in lits) (omega arith) in
    ap Some is ∙ sym (found p lits (2 * c.loop-place.place) no_lit c.loop-place.invariant.none (omega arith) (ap p (sym is) ∙ sym c.is_open-2.ensures ∙ c.if-is_open-3.true))

pub returns-clause-first : goal.returns-clause-first
returns-clause-first g c =
    let v : View = c.args.pass.now.me.0 in
    let a : ℕ = c.args.cell.address in
    let lits : List Literal = (clause_of a v).lits in
    let p : Literal → Bool = is_open c.args.values.now c.args.other in
    let size = c.read_shape-size.ensures.size in
    let done = c.loop-place-test.false in
    let most = c.loop-place.auto.place-end in
    let odd = c.if-size-eq0.false in
    let at : ℕ = c.read_shape-size.result.0 - 1 in
    let last = c.read_lit-last.ensures.literal ∙ ap (λ (ls : List Literal). lit_in ls at) (lits_same v c.loop-place.pass.me.0 a c.loop-place.invariant.loaded) in
    let half : c.read_shape-size.result.0 ≡ 2 * c.loop-place.place + 1 = omega arith in
    let is : c.read_lit-last.result ≡ lit_in lits (2 * c.loop-place.place) = last ∙ ap (lit_in lits) (omega arith) in
    let none = none_more p lits no_lit (2 * c.loop-place.place) c.loop-place.invariant.none (ap p (sym is) ∙ sym c.is_open-2.ensures ∙ c.if-is_open-3.false) in
    sym (none_found p lits no_lit (λ i lt. none i (omega arith)))
