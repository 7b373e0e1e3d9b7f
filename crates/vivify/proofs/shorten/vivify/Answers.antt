use Rattle.std.proofs.Common.{◌≡◌, ◌∙◌, ◌≤◌, ◌<◌, ◌-◌, ◌++◌, ◌∷◌, [], min, ℕ, List, length, get_or, true, IsSome, Result, Ok, Err, sym, refl, ap, subst, inl, inr, arith}
use Rattle.std.specs.Prelude.{IfErr}
use Rattle.std.proofs.lemmas.Result.{err_from_is_err_and}
use Rattle.sat_words.specs.Literal.{Literal}
use Rattle.sat_words.specs.Clause.{includes, distinct_lits}
use Rattle.sat_words.specs.declared.shared.Cref.{Cref}
use Rattle.rup_model.proofs.Lists.{In}
use Rattle.ring_port.specs.PortState.{PortState, IsPort, IsOn, lits_at, held_at}
use Rattle.ring_port.specs.Port.{IsClause, WroteUnit}
use Rattle.watch_prop.specs.WatchData.{WatchData, attached}
use Rattle.watch_prop.specs.Watched.{Watched}
use Rattle.watch_prop.specs.Propagation.{HasReasons, IsQuiet}
use Rattle.rup_model.specs.declared.journal.Kind.TheVariants.{Derive, UnitLine}
use Rattle.ring_port.specs.Port.{IsPartOfHeld, AddedClause, AreHints}
use Rattle.ring_port.specs.Deleting.{DroppedOnce}
use Rattle.analyze.specs.HintOrder.{AreTraced}
use Rattle.analyze.proofs.Written.{added_hints, unit_hints}
use Rattle.vivify.specs.Walk.{left_of, others}
use Rattle.vivify.specs.Outcome.{left_at, glue_at, WroteLeft, WasCutShort}
use Rattle.vivify.specs.declared.shorten.Vivified.{Vivified}
use Rattle.vivify.specs.declared.shorten.Vivified.TheVariants.{Kept, Shorter, Unit, Empty}
use Rattle.ring_port.specs.declared.stops.PortStop.{PortStop}
use Rattle.ring_port.specs.declared.stops.PortStop.TheVariants.{Memory}
use Rattle.ring_trail.specs.declared.step.TrailStep.{TrailStep}
use Rattle.vivify.proofs.Parts.{left_part, left_distinct, left_whole, left_short}
use Rattle.vivify.proofs.After.{good_detached, good_unit, good_shorter, left_open, left_closed, first_in, others_refused, others_wrote, others_unit, others_shorter}
use Rattle.vivify.proofs.Shortening.{part_clause, wrote_held, head_glue, one_on, not_empty}
use Rattle.vivify.proofs.shorten.vivify.Given as Given
use Rattle.vivify.proofs.shorten.vivify.Goals.{After-detach, After-drop-left-in-empty, In_ok-unit-in-len1, In_ok-shorter-in_default-lits}
use Rattle.vivify.proofs.shorten.vivify.Goals as goal

by_short : (a b d size : ℕ) → a ≡ b → size ≡ d → b ≤ d → (a ≡ size → ⊥) → b < d
by_short a b d size e f le ne = grind (arith, ne)

one_list : (L M : List Literal) (l : Literal) → L ≡ M → 1 ≤ length L → length L < 2 → l ≡ get_or L 0 l → M ≡ l ∷ []
one_list [] M l is some few e = absurd (omega arith)
one_list (x ∷ []) M l is some few e = sym is ∙ ap (λ (y : Literal). y ∷ []) (sym e)
one_list (x ∷ y ∷ L) M l is some few e = absurd (omega arith)

-- fewer literals are left than the clause has
fewer : (g : Given.Over) (c : After-detach g) → length c.in-Ok.left.items < length (lits_at (g.P.Port.state c.args.port.now) c.args.c.address)
fewer g c =
    let s = g.P.Port.state c.args.port.now in
    let d = lits_at s c.args.c.address in
    let G = others s (attached c.args.watches.now) c.args.c.address c.args.trail.now.steps in
    let is : c.in-Ok.left.items ≡ left_of G d = subst (λ (x : PortState). c.in-Ok.left.items ≡ left_at x (attached c.args.watches.now) c.args.trail.now.steps c.args.c.address) c.head-head.ensures.same c.in-Ok.ensures.left in
    by_short (length c.as_slice-lits.result.now) (length c.in-Ok.left.items) (length d) c.head-head.result.size (ap (λ (L : List Literal). length L) c.as_slice-lits.ensures.value) c.head-head.ensures.size
    (subst (λ (L : List Literal). length L ≤ length d) (sym is) (left_short G d)) c.if-lits-head.false

-- their hints, where the line is written
hints_now : (g : Given.Over) (c : After-detach g) → AreHints (g.P.Port.state c.detach.new.port) c.in-Ok.left.items c.literals_left.new.analysis.hints
hints_now g c =
    let L = c.in-Ok.left.items in
    let a = c.args.c.address in
    let H = c.literals_left.new.analysis.hints in
    subst (λ (x : PortState). AreHints x L H) (sym (c.detach.ensures.same ∙ c.literals_left.ensures.same))
    (c.in-Ok.ensures.hints (subst (λ (x : PortState). length L < length (lits_at x a)) (sym c.head-head.ensures.same) (fewer g c)))

-- and the order in which they stand
order_now : (g : Given.Over) (c : After-detach g) → (g.P.Port.state c.args.port.now).hinted ≡ true → AreTraced (g.P.Port.state c.args.port.now) c.args.trail.now.steps c.in-Ok.left.items c.literals_left.new.analysis.hints
order_now g c =
    let L = c.in-Ok.left.items in
    let a = c.args.c.address in
    let H = c.literals_left.new.analysis.hints in
    subst (λ (x : PortState). length L < length (lits_at x a) → x.hinted ≡ true → AreTraced x c.args.trail.now.steps L H) c.head-head.ensures.same c.in-Ok.ensures.order (fewer g c)

-- something is always left
never : (g : Given.Over) (c : After-drop-left-in-empty g) → ⊥
never g c =
    let s = g.P.Port.state c.args.port.now in
    let G = others s (attached c.args.watches.now) c.args.c.address c.args.trail.now.steps in
    let d = lits_at s c.args.c.address in
    let is : c.as_slice-lits.result.now ≡ left_of G d = c.as_slice-lits.ensures.value ∙ subst (λ (x : PortState). c.in-Ok.left.items ≡ left_at x (attached c.args.watches.now) c.args.trail.now.steps c.args.c.address) c.head-head.ensures.same c.in-Ok.ensures.left in
    let t = c.args.trail.now in
    let w = c.detach.new.self in
    let both = good_detached s (g.P.Port.state c.head-head.new.self) (g.P.Port.state c.literals_left.new.port) c.args.watches.now c.literals_left.new.watches w t c.literals_left.new.trail c.args.c.address c.head-head.ensures.same c.literals_left.ensures.same
    c.in-Ok.ensures.trail c.in-Ok.ensures.watched c.in-Ok.ensures.reasons c.in-Ok.ensures.quiet c.requires.free c.in-Ok.ensures.attached c.detach.ensures.attached c.detach.ensures.watched in
    not_empty s c.args.watches.now w t c.args.c c.as_slice-lits.result.now c.decision_level-lawful.ensures.trail c.requires.level both.0.reasons both.0.quiet
    c.requires.quiet c.requires.member both.1 is c.in-empty.len_below

pub returns-in-empty-clause-vivified : goal.returns-in-empty-clause-vivified
returns-in-empty-clause-vivified g c = never g c

pub returns-in-empty-clause-watched : goal.returns-in-empty-clause-watched
returns-in-empty-clause-watched g c = absurd (never g c)

pub returns-in-empty-clause-reasons : goal.returns-in-empty-clause-reasons
returns-in-empty-clause-reasons g c = absurd (never g c)

pub returns-in-empty-clause-quiet : goal.returns-in-empty-clause-quiet
returns-in-empty-clause-quiet g c = absurd (never g c)

-- the hints of the line of a unit that is left
unit_order : (g : Given.Over) (c : In_ok-unit-in-len1 g) (wrote : WroteUnit (g.P.Port.state c.args.port.now) (g.P.Port.state c.unit.new.self) c.lit-item.result UnitLine (g.P.Port.state c.args.port.now).last)
    → (g.P.Port.state c.args.port.now).hinted ≡ true → AreTraced (g.P.Port.state c.args.port.now) c.args.trail.now.steps (c.lit-item.result ∷ []) wrote.hints
unit_order g c wrote hinted =
    let s = g.P.Port.state c.args.port.now in
    let steps = c.args.trail.now.steps in
    let one = one_list c.as_slice-lits.result.now c.in-Ok.left.items c.lit-item.result c.as_slice-lits.ensures.value c.in-len1.len_at_least c.in-len1.len_below c.lit-item.is in
    let given = unit_hints s (g.P.Port.state c.unit.new.self) c.lit-item.result UnitLine s.last c.hints.result.now wrote c.in_ok-unit-in-len1.ensures.hints ∙ c.hints.ensures in
    subst (AreTraced s steps (c.lit-item.result ∷ [])) (sym given)
    (subst (λ (L : List Literal). AreTraced s steps L c.literals_left.new.analysis.hints) one (order_now g (goal.at.In_ok-unit-in-len1 g c).After-detach hinted))

-- and those of the line of a shorter clause
added_order : (g : Given.Over) (c : In_ok-shorter-in_default-lits g) (glue : ℕ)
    (added : AddedClause (g.P.Port.state c.args.port.now) (g.P.Port.state c.derive.new.self) (left_at (g.P.Port.state c.args.port.now) (attached c.args.watches.now) c.args.trail.now.steps c.args.c.address) glue Derive c.in_ok-shorter-in_default-lits.shorter)
    → (g.P.Port.state c.args.port.now).hinted ≡ true → AreTraced (g.P.Port.state c.args.port.now) c.args.trail.now.steps (left_at (g.P.Port.state c.args.port.now) (attached c.args.watches.now) c.args.trail.now.steps c.args.c.address) added.hints
added_order g c glue added hinted =
    let s = g.P.Port.state c.args.port.now in
    let steps = c.args.trail.now.steps in
    let left = left_at s (attached c.args.watches.now) steps c.args.c.address in
    let is : c.in-Ok.left.items ≡ left = subst (λ (x : PortState). c.in-Ok.left.items ≡ left_at x (attached c.args.watches.now) steps c.args.c.address) c.head-head.ensures.same c.in-Ok.ensures.left in
    let given = added_hints s (g.P.Port.state c.derive.new.self) left glue Derive c.in_ok-shorter-in_default-lits.shorter c.hints-in_default-lits.result.now added c.in_ok-shorter-in_default-lits.ensures.hints ∙ c.hints-in_default-lits.ensures in
    subst (AreTraced s steps left) (sym given)
    (subst (λ (L : List Literal). AreTraced s steps L c.literals_left.new.analysis.hints) is (order_now g (goal.at.In_ok-shorter-in_default-lits g c).After-detach hinted))

pub unit-requires-clause-on : goal.unit-requires-clause-on
unit-requires-clause-on g c =
    let s = g.P.Port.state c.args.port.now in
    let G = others s (attached c.args.watches.now) c.args.c.address c.args.trail.now.steps in
    let d = lits_at s c.args.c.address in
    let is : c.as_slice-lits.result.now ≡ left_of G d = c.as_slice-lits.ensures.value ∙ subst (λ (x : PortState). c.in-Ok.left.items ≡ left_at x (attached c.args.watches.now) c.args.trail.now.steps c.args.c.address) c.head-head.ensures.same c.in-Ok.ensures.left in
    subst (λ (x : PortState). IsOn x.vars c.lit-item.result) (sym (c.detach.ensures.same ∙ c.literals_left.ensures.same ∙ c.head-head.ensures.same))
    (one_on s c.args.c.address c.as_slice-lits.result.now c.lit-item.result
    (part_clause s c.args.c.address c.as_slice-lits.result.now (subst IsPort c.head-head.ensures.same c.head-head.ensures.port) c.requires.held
    (subst (λ (L : List Literal). includes d L ≡ true) (sym is) (left_part G d))
    (λ q. subst (λ (L : List Literal). distinct_lits L ≡ true) (sym is) (left_distinct G d q)))
    c.in-len1.len_at_least c.lit-item.is)

pub unit-requires-clause-hints : goal.unit-requires-clause-hints
unit-requires-clause-hints g c =
    let m = g.P.Port.state c.detach.new.port in
    let one = one_list c.as_slice-lits.result.now c.in-Ok.left.items c.lit-item.result c.as_slice-lits.ensures.value c.in-len1.len_at_least c.in-len1.len_below c.lit-item.is in
    subst (AreHints m (c.lit-item.result ∷ [])) (sym c.hints.ensures) (subst (λ (L : List Literal). AreHints m L c.literals_left.new.analysis.hints) one (hints_now g (goal.at.unit-requires-clause-hints g c).After-detach))

pub derive-requires-clause-hints : goal.derive-requires-clause-hints
derive-requires-clause-hints g c =
    let m = g.P.Port.state c.detach.new.port in
    subst (AreHints m c.as_slice-lits.result.now) (sym c.hints-in_default-lits.ensures)
    (subst (λ (L : List Literal). AreHints m L c.literals_left.new.analysis.hints) (sym c.as_slice-lits.ensures.value) (hints_now g (goal.at.derive-requires-clause-hints g c).After-detach))

pub drop_clause-requires-clause-held : goal.drop_clause-requires-clause-held
drop_clause-requires-clause-held g c =
    wrote_held (g.P.Port.state c.detach.new.port) (g.P.Port.state c.unit.new.self) c.lit-item.result _ _ c.args.c.address c.in_ok-unit-in-len1.ensures.written
    (subst (λ (x : PortState). IsSome (held_at x c.args.c.address)) (sym (c.detach.ensures.same ∙ c.literals_left.ensures.same ∙ c.head-head.ensures.same)) c.requires.held)

pub derive-requires-clause-clause : goal.derive-requires-clause-clause
derive-requires-clause-clause g c =
    let s = g.P.Port.state c.args.port.now in
    let G = others s (attached c.args.watches.now) c.args.c.address c.args.trail.now.steps in
    let d = lits_at s c.args.c.address in
    let is : c.as_slice-lits.result.now ≡ left_of G d = c.as_slice-lits.ensures.value ∙ subst (λ (x : PortState). c.in-Ok.left.items ≡ left_at x (attached c.args.watches.now) c.args.trail.now.steps c.args.c.address) c.head-head.ensures.same c.in-Ok.ensures.left in
    subst (λ (x : PortState). IsClause x.vars c.as_slice-lits.result.now) (sym (c.detach.ensures.same ∙ c.literals_left.ensures.same ∙ c.head-head.ensures.same))
    (part_clause s c.args.c.address c.as_slice-lits.result.now (subst IsPort c.head-head.ensures.same c.head-head.ensures.port) c.requires.held
    (subst (λ (L : List Literal). includes d L ≡ true) (sym is) (left_part G d))
    (λ q. subst (λ (L : List Literal). distinct_lits L ≡ true) (sym is) (left_distinct G d q)))

pub derive-requires-clause-part : goal.derive-requires-clause-part
derive-requires-clause-part g c =
    let s = g.P.Port.state c.args.port.now in
    let G = others s (attached c.args.watches.now) c.args.c.address c.args.trail.now.steps in
    let d = lits_at s c.args.c.address in
    let is : c.as_slice-lits.result.now ≡ left_of G d = c.as_slice-lits.ensures.value ∙ subst (λ (x : PortState). c.in-Ok.left.items ≡ left_at x (attached c.args.watches.now) c.args.trail.now.steps c.args.c.address) c.head-head.ensures.same c.in-Ok.ensures.left in
    subst (λ (x : PortState). IsPartOfHeld x c.as_slice-lits.result.now) (sym (c.detach.ensures.same ∙ c.literals_left.ensures.same ∙ c.head-head.ensures.same))
    record { address = c.args.c.address; held = c.requires.held; part = subst (λ (L : List Literal). includes d L ≡ true) (sym is) (left_part G d) }

pub returns-then-lits-head-clause-vivified : goal.returns-then-lits-head-clause-vivified
returns-then-lits-head-clause-vivified g c =
    let s = g.P.Port.state c.args.port.now in
    let G = others s (attached c.args.watches.now) c.args.c.address c.args.trail.now.steps in
    let d = lits_at s c.args.c.address in
    let is : c.as_slice-lits.result.now ≡ left_of G d = c.as_slice-lits.ensures.value ∙ subst (λ (x : PortState). c.in-Ok.left.items ≡ left_at x (attached c.args.watches.now) c.args.trail.now.steps c.args.c.address) c.head-head.ensures.same c.in-Ok.ensures.left in
    let n : length c.as_slice-lits.result.now ≡ length (left_of G d) = ap (λ (L : List Literal). length L) is in
    let size = c.head-head.ensures.size in
    record {
      left = left_whole G d (let q = c.if-lits-head.true in omega (arith, n, size, q));
      state = c.literals_left.ensures.same ∙ c.head-head.ensures.same;
      attached_now = c.in-Ok.ensures.attached;
    }

pub returns-clause-vivified : goal.returns-clause-vivified
returns-clause-vivified g c =
    let s = g.P.Port.state c.args.port.now in
    let G = others s (attached c.args.watches.now) c.args.c.address c.args.trail.now.steps in
    let d = lits_at s c.args.c.address in
    let is : c.as_slice-lits.result.now ≡ left_of G d = c.as_slice-lits.ensures.value ∙ subst (λ (x : PortState). c.in-Ok.left.items ≡ left_at x (attached c.args.watches.now) c.args.trail.now.steps c.args.c.address) c.head-head.ensures.same c.in-Ok.ensures.left in
    let n : length c.as_slice-lits.result.now ≡ length (left_of G d) = ap (λ (L : List Literal). length L) is in
    let size = c.head-head.ensures.size in
    let q = c.if-lits-head.false in
    let t = c.args.trail.now in
    let w = c.detach.new.self in
    let both = good_detached s (g.P.Port.state c.head-head.new.self) (g.P.Port.state c.literals_left.new.port) c.args.watches.now c.literals_left.new.watches w t c.literals_left.new.trail c.args.c.address c.head-head.ensures.same c.literals_left.ensures.same
    c.in-Ok.ensures.trail c.in-Ok.ensures.watched c.in-Ok.ensures.reasons c.in-Ok.ensures.quiet c.requires.free c.in-Ok.ensures.attached c.detach.ensures.attached c.detach.ensures.watched in
    let short = left_short G d in
    let m = g.P.Port.state c.derive.new.self in
    let h = head_glue s c.args.c.address c.head-head.result c.requires.held c.head-head.ensures.value in
    let glue : c.shorter_glue-glue.result ≡ min (glue_at s c.args.c.address) (length (left_of G d) - 1) = c.shorter_glue-glue.ensures ∙ ap (λ (a : ℕ). min a (length c.as_slice-lits.result.now - 1)) h ∙ ap (λ (k : ℕ). min (glue_at s c.args.c.address) (k - 1)) n in
    let added = subst (λ (k : ℕ). AddedClause s m (left_of G d) k Derive c.in_ok-shorter-in_default-lits.shorter) glue
    (subst (λ (L : List Literal). AddedClause s m L c.shorter_glue-glue.result Derive c.in_ok-shorter-in_default-lits.shorter) is
    (subst (λ (x : PortState). AddedClause x m c.as_slice-lits.result.now c.shorter_glue-glue.result Derive c.in_ok-shorter-in_default-lits.shorter) (c.detach.ensures.same ∙ c.literals_left.ensures.same ∙ c.head-head.ensures.same) c.in_ok-shorter-in_default-lits.ensures.derived)) in
    record {
      fewer = by_short (length c.as_slice-lits.result.now) (length (left_of G d)) (length d) c.head-head.result.size n size short q;
      middle = m;
      derived = added;
      order = added_order g (goal.at.returns-clause-vivified g c).In_ok-shorter-in_default-lits _ added;
      dropped = subst (λ (x : PortState). DroppedOnce x (g.P.Port.state c.drop_clause-in_default-lits.new.self) c.args.c.address) c.attach.ensures.same c.in_ok-drop_clause-in_default-lits.ensures.dropped;
      attached_now = c.in-Ok-attach.ensures.attached ∙ ap (λ (cs : List Cref). cs ++ c.in_ok-shorter-in_default-lits.shorter ∷ []) both.1;
    }

-- What holds afterwards

pub returns-then-lits-head-clause-watched : goal.returns-then-lits-head-clause-watched
returns-then-lits-head-clause-watched g c = subst (λ (x : PortState). Watched c.literals_left.new.watches (lits_at x) c.literals_left.new.trail) (sym c.literals_left.ensures.same) c.in-Ok.ensures.watched

pub returns-then-lits-head-clause-reasons : goal.returns-then-lits-head-clause-reasons
returns-then-lits-head-clause-reasons g c = subst (λ (x : PortState). HasReasons (attached c.literals_left.new.watches) x c.literals_left.new.trail.steps) (sym c.literals_left.ensures.same) c.in-Ok.ensures.reasons

pub returns-then-lits-head-clause-quiet : goal.returns-then-lits-head-clause-quiet
returns-then-lits-head-clause-quiet g c = subst (λ (x : PortState). IsQuiet c.literals_left.new.watches (lits_at x) c.literals_left.new.trail) (sym c.literals_left.ensures.same) c.in-Ok.ensures.quiet

pub detach-requires-clause-held : goal.detach-requires-clause-held
detach-requires-clause-held g c = subst (λ (x : PortState). IsSome (held_at x c.args.c.address)) (sym (c.literals_left.ensures.same ∙ c.head-head.ensures.same)) c.requires.held

pub detach-requires-clause-vars : goal.detach-requires-clause-vars
detach-requires-clause-vars g c = ap (λ (x : PortState). x.vars) (c.literals_left.ensures.same ∙ c.head-head.ensures.same) ∙ c.requires.vars ∙ sym c.literals_left.ensures.vars

pub returns-in-len1-clause-watched : goal.returns-in-len1-clause-watched
returns-in-len1-clause-watched g c =
    let s = g.P.Port.state c.args.port.now in
    let t = c.args.trail.now in
    let w = c.detach.new.self in
    let same = c.detach.ensures.same ∙ c.literals_left.ensures.same ∙ c.head-head.ensures.same in
    let both = good_detached s (g.P.Port.state c.head-head.new.self) (g.P.Port.state c.literals_left.new.port) c.args.watches.now c.literals_left.new.watches w t c.literals_left.new.trail c.args.c.address c.head-head.ensures.same c.literals_left.ensures.same
    c.in-Ok.ensures.trail c.in-Ok.ensures.watched c.in-Ok.ensures.reasons c.in-Ok.ensures.quiet c.requires.free c.in-Ok.ensures.attached c.detach.ensures.attached c.detach.ensures.watched in
    let good = both.0 in
    (good_unit s (g.P.Port.state c.detach.new.port) (g.P.Port.state c.unit.new.self) (g.P.Port.state c.drop_clause.new.self) c.args.watches.now w t c.literals_left.new.trail c.args.c.address c.lit-item.result _ _ same c.in-Ok.ensures.trail good
    both.1 c.in_ok-unit-in-len1.ensures.written c.in_ok-drop_clause-in-len1.ensures.dropped).watched

pub returns-in-len1-clause-reasons : goal.returns-in-len1-clause-reasons
returns-in-len1-clause-reasons g c =
    let s = g.P.Port.state c.args.port.now in
    let t = c.args.trail.now in
    let w = c.detach.new.self in
    let same = c.detach.ensures.same ∙ c.literals_left.ensures.same ∙ c.head-head.ensures.same in
    let both = good_detached s (g.P.Port.state c.head-head.new.self) (g.P.Port.state c.literals_left.new.port) c.args.watches.now c.literals_left.new.watches w t c.literals_left.new.trail c.args.c.address c.head-head.ensures.same c.literals_left.ensures.same
    c.in-Ok.ensures.trail c.in-Ok.ensures.watched c.in-Ok.ensures.reasons c.in-Ok.ensures.quiet c.requires.free c.in-Ok.ensures.attached c.detach.ensures.attached c.detach.ensures.watched in
    let good = both.0 in
    (good_unit s (g.P.Port.state c.detach.new.port) (g.P.Port.state c.unit.new.self) (g.P.Port.state c.drop_clause.new.self) c.args.watches.now w t c.literals_left.new.trail c.args.c.address c.lit-item.result _ _ same c.in-Ok.ensures.trail good
    both.1 c.in_ok-unit-in-len1.ensures.written c.in_ok-drop_clause-in-len1.ensures.dropped).reasons

pub returns-in-len1-clause-quiet : goal.returns-in-len1-clause-quiet
returns-in-len1-clause-quiet g c =
    let s = g.P.Port.state c.args.port.now in
    let t = c.args.trail.now in
    let w = c.detach.new.self in
    let same = c.detach.ensures.same ∙ c.literals_left.ensures.same ∙ c.head-head.ensures.same in
    let both = good_detached s (g.P.Port.state c.head-head.new.self) (g.P.Port.state c.literals_left.new.port) c.args.watches.now c.literals_left.new.watches w t c.literals_left.new.trail c.args.c.address c.head-head.ensures.same c.literals_left.ensures.same
    c.in-Ok.ensures.trail c.in-Ok.ensures.watched c.in-Ok.ensures.reasons c.in-Ok.ensures.quiet c.requires.free c.in-Ok.ensures.attached c.detach.ensures.attached c.detach.ensures.watched in
    let good = both.0 in
    (good_unit s (g.P.Port.state c.detach.new.port) (g.P.Port.state c.unit.new.self) (g.P.Port.state c.drop_clause.new.self) c.args.watches.now w t c.literals_left.new.trail c.args.c.address c.lit-item.result _ _ same c.in-Ok.ensures.trail good
    both.1 c.in_ok-unit-in-len1.ensures.written c.in_ok-drop_clause-in-len1.ensures.dropped).quiet

pub returns-clause-watched : goal.returns-clause-watched
returns-clause-watched g c =
    let s = g.P.Port.state c.args.port.now in
    let t = c.args.trail.now in
    let w = c.detach.new.self in
    let same = c.detach.ensures.same ∙ c.literals_left.ensures.same ∙ c.head-head.ensures.same in
    let both = good_detached s (g.P.Port.state c.head-head.new.self) (g.P.Port.state c.literals_left.new.port) c.args.watches.now c.literals_left.new.watches w t c.literals_left.new.trail c.args.c.address c.head-head.ensures.same c.literals_left.ensures.same
    c.in-Ok.ensures.trail c.in-Ok.ensures.watched c.in-Ok.ensures.reasons c.in-Ok.ensures.quiet c.requires.free c.in-Ok.ensures.attached c.detach.ensures.attached c.detach.ensures.watched in
    let good = both.0 in
    let is = c.as_slice-lits.ensures.value ∙ subst (λ (x : PortState). c.in-Ok.left.items ≡ left_at x (attached c.args.watches.now) t.steps c.args.c.address) c.head-head.ensures.same c.in-Ok.ensures.left in
    let L = c.as_slice-lits.result.now in
    let closed = left_closed s c.args.watches.now w t c.args.c L c.decision_level-lawful.ensures.trail c.requires.level good both.1 is (subst IsPort c.head-head.ensures.same c.head-head.ensures.port) c.requires.held c.in_default-lits.len_at_least in
    (good_shorter s (g.P.Port.state c.detach.new.port) (g.P.Port.state c.derive.new.self) (g.P.Port.state c.attach.new.port) (g.P.Port.state c.drop_clause-in_default-lits.new.self) c.args.watches.now w c.attach.new.self
    t c.literals_left.new.trail c.args.c c.in_ok-shorter-in_default-lits.shorter L c.shorter_glue-glue.result Derive same c.attach.ensures.same c.in-Ok.ensures.trail good both.1 c.requires.held
    c.in_ok-shorter-in_default-lits.ensures.derived c.in_ok-shorter-in_default-lits.ensures.kept closed c.in-Ok-attach.ensures.attached c.attach.ensures.watched c.in_ok-drop_clause-in_default-lits.ensures.dropped).watched

pub returns-clause-reasons : goal.returns-clause-reasons
returns-clause-reasons g c =
    let s = g.P.Port.state c.args.port.now in
    let t = c.args.trail.now in
    let w = c.detach.new.self in
    let same = c.detach.ensures.same ∙ c.literals_left.ensures.same ∙ c.head-head.ensures.same in
    let both = good_detached s (g.P.Port.state c.head-head.new.self) (g.P.Port.state c.literals_left.new.port) c.args.watches.now c.literals_left.new.watches w t c.literals_left.new.trail c.args.c.address c.head-head.ensures.same c.literals_left.ensures.same
    c.in-Ok.ensures.trail c.in-Ok.ensures.watched c.in-Ok.ensures.reasons c.in-Ok.ensures.quiet c.requires.free c.in-Ok.ensures.attached c.detach.ensures.attached c.detach.ensures.watched in
    let good = both.0 in
    let is = c.as_slice-lits.ensures.value ∙ subst (λ (x : PortState). c.in-Ok.left.items ≡ left_at x (attached c.args.watches.now) t.steps c.args.c.address) c.head-head.ensures.same c.in-Ok.ensures.left in
    let L = c.as_slice-lits.result.now in
    let closed = left_closed s c.args.watches.now w t c.args.c L c.decision_level-lawful.ensures.trail c.requires.level good both.1 is (subst IsPort c.head-head.ensures.same c.head-head.ensures.port) c.requires.held c.in_default-lits.len_at_least in
    (good_shorter s (g.P.Port.state c.detach.new.port) (g.P.Port.state c.derive.new.self) (g.P.Port.state c.attach.new.port) (g.P.Port.state c.drop_clause-in_default-lits.new.self) c.args.watches.now w c.attach.new.self
    t c.literals_left.new.trail c.args.c c.in_ok-shorter-in_default-lits.shorter L c.shorter_glue-glue.result Derive same c.attach.ensures.same c.in-Ok.ensures.trail good both.1 c.requires.held
    c.in_ok-shorter-in_default-lits.ensures.derived c.in_ok-shorter-in_default-lits.ensures.kept closed c.in-Ok-attach.ensures.attached c.attach.ensures.watched c.in_ok-drop_clause-in_default-lits.ensures.dropped).reasons

pub returns-clause-quiet : goal.returns-clause-quiet
returns-clause-quiet g c =
    let s = g.P.Port.state c.args.port.now in
    let t = c.args.trail.now in
    let w = c.detach.new.self in
    let same = c.detach.ensures.same ∙ c.literals_left.ensures.same ∙ c.head-head.ensures.same in
    let both = good_detached s (g.P.Port.state c.head-head.new.self) (g.P.Port.state c.literals_left.new.port) c.args.watches.now c.literals_left.new.watches w t c.literals_left.new.trail c.args.c.address c.head-head.ensures.same c.literals_left.ensures.same
    c.in-Ok.ensures.trail c.in-Ok.ensures.watched c.in-Ok.ensures.reasons c.in-Ok.ensures.quiet c.requires.free c.in-Ok.ensures.attached c.detach.ensures.attached c.detach.ensures.watched in
    let good = both.0 in
    let is = c.as_slice-lits.ensures.value ∙ subst (λ (x : PortState). c.in-Ok.left.items ≡ left_at x (attached c.args.watches.now) t.steps c.args.c.address) c.head-head.ensures.same c.in-Ok.ensures.left in
    let L = c.as_slice-lits.result.now in
    let closed = left_closed s c.args.watches.now w t c.args.c L c.decision_level-lawful.ensures.trail c.requires.level good both.1 is (subst IsPort c.head-head.ensures.same c.head-head.ensures.port) c.requires.held c.in_default-lits.len_at_least in
    (good_shorter s (g.P.Port.state c.detach.new.port) (g.P.Port.state c.derive.new.self) (g.P.Port.state c.attach.new.port) (g.P.Port.state c.drop_clause-in_default-lits.new.self) c.args.watches.now w c.attach.new.self
    t c.literals_left.new.trail c.args.c c.in_ok-shorter-in_default-lits.shorter L c.shorter_glue-glue.result Derive same c.attach.ensures.same c.in-Ok.ensures.trail good both.1 c.requires.held
    c.in_ok-shorter-in_default-lits.ensures.derived c.in_ok-shorter-in_default-lits.ensures.kept closed c.in-Ok-attach.ensures.attached c.attach.ensures.watched c.in_ok-drop_clause-in_default-lits.ensures.dropped).quiet

unit_of : Result Vivified PortStop → Literal → Literal
unit_of (Ok (Unit l)) k = l
unit_of (Ok Kept) k = k
unit_of (Ok (Shorter d)) k = k
unit_of (Ok Empty) k = k
unit_of (Err stop) k = k

unit_same : (x y : Literal) (r : Result Vivified PortStop) → r ≡ Ok (Unit x) → r ≡ Ok (Unit y) → x ≡ y
unfolding unit_of
unit_same x y r e f = ap (λ (q : Result Vivified PortStop). unit_of q x) (sym e ∙ f)

pub returns-in-len1-clause-open_unit : goal.returns-in-len1-clause-open_unit
returns-in-len1-clause-open_unit g c = λ l e bad. (
    let s = g.P.Port.state c.args.port.now in
    let t = c.args.trail.now in
    let w = c.detach.new.self in
    let same = c.detach.ensures.same ∙ c.literals_left.ensures.same ∙ c.head-head.ensures.same in
    let both = good_detached s (g.P.Port.state c.head-head.new.self) (g.P.Port.state c.literals_left.new.port) c.args.watches.now c.literals_left.new.watches w t c.literals_left.new.trail c.args.c.address c.head-head.ensures.same c.literals_left.ensures.same
    c.in-Ok.ensures.trail c.in-Ok.ensures.watched c.in-Ok.ensures.reasons c.in-Ok.ensures.quiet c.requires.free c.in-Ok.ensures.attached c.detach.ensures.attached c.detach.ensures.watched in
    let good = both.0 in
    let is = c.as_slice-lits.ensures.value ∙ subst (λ (x : PortState). c.in-Ok.left.items ≡ left_at x (attached c.args.watches.now) t.steps c.args.c.address) c.head-head.ensures.same c.in-Ok.ensures.left in
    left_open s c.args.watches.now w t c.args.c c.as_slice-lits.result.now l c.decision_level-lawful.ensures.trail c.requires.level good both.1 is
    (subst (λ (x : Literal). In x c.as_slice-lits.result.now) (unit_same c.lit-item.result l (Ok (Unit c.lit-item.result)) refl e) (first_in c.as_slice-lits.result.now c.lit-item.result c.in-len1.len_at_least c.lit-item.is)) bad)

pub returns-in-empty-clause-never_empty : goal.returns-in-empty-clause-never_empty
returns-in-empty-clause-never_empty g c = λ e. never g c

pub returns-in_err-unit-in-len1-clause-others : goal.returns-in_err-unit-in-len1-clause-others
returns-in_err-unit-in-len1-clause-others g c = λ a ne held. others_refused (g.P.Port.state c.args.port.now) (g.P.Port.state c.detach.new.port) (g.P.Port.state c.unit.new.self) a _ (c.detach.ensures.same ∙ c.literals_left.ensures.same ∙ c.head-head.ensures.same) c.in_err-unit-in-len1.ensures.written

pub returns-in_err-drop_clause-in-len1-clause-others : goal.returns-in_err-drop_clause-in-len1-clause-others
returns-in_err-drop_clause-in-len1-clause-others g c = λ a ne held.
    others_wrote (g.P.Port.state c.args.port.now) (g.P.Port.state c.detach.new.port) (g.P.Port.state c.unit.new.self) (g.P.Port.state c.drop_clause.new.self) a c.lit-item.result _ _ (c.detach.ensures.same ∙ c.literals_left.ensures.same ∙ c.head-head.ensures.same)
    c.in_ok-unit-in-len1.ensures.written c.in_err-drop_clause-in-len1.ensures.dropped.1

pub returns-in-len1-clause-others : goal.returns-in-len1-clause-others
returns-in-len1-clause-others g c = λ a ne held.
    others_unit (g.P.Port.state c.args.port.now) (g.P.Port.state c.detach.new.port) (g.P.Port.state c.unit.new.self) (g.P.Port.state c.drop_clause.new.self) c.args.c.address a c.lit-item.result _ _ (c.detach.ensures.same ∙ c.literals_left.ensures.same ∙ c.head-head.ensures.same)
    c.in_ok-unit-in-len1.ensures.written c.in_ok-drop_clause-in-len1.ensures.dropped ne

pub returns-clause-others : goal.returns-clause-others
returns-clause-others g c = λ a ne held.
    others_shorter (g.P.Port.state c.args.port.now) (g.P.Port.state c.detach.new.port) (g.P.Port.state c.derive.new.self) (g.P.Port.state c.attach.new.port) (g.P.Port.state c.drop_clause-in_default-lits.new.self) c.args.c.address a
    (c.detach.ensures.same ∙ c.literals_left.ensures.same ∙ c.head-head.ensures.same) c.in_ok-shorter-in_default-lits.ensures.kept c.attach.ensures.same c.in_ok-drop_clause-in_default-lits.ensures.dropped ne held

-- a refusal after the line of what is left
cut_short : (old m n : PortState) (v : WatchData) (steps : List TrailStep) (c : Cref) (r : Result Vivified PortStop) (stop stop' : PortStop) → WroteLeft old m v steps c → n ≡ m → r ≡ Err stop → stop ≡ stop' → stop' ≡ Memory → IfErr r (WasCutShort old n v steps c)
cut_short old m n v steps c r stop stop' wrote same e is memory =
    subst (λ (x : Result Vivified PortStop). IfErr x (WasCutShort old n v steps c)) (sym e)
    (subst (WasCutShort old n v steps c) (sym (is ∙ memory)) record { middle = m; before = inr wrote; refused = record { reason = tt; state = same } })

pub returns-in_err-drop_clause-in-len1-clause-stopped : goal.returns-in_err-drop_clause-in-len1-clause-stopped
returns-in_err-drop_clause-in-len1-clause-stopped g c =
    let s = g.P.Port.state c.args.port.now in
    let t = c.args.trail.now in
    let m = g.P.Port.state c.unit.new.self in
    let p = err_from_is_err_and c.from_residual-in_err-drop_clause-in-len1.result c.from_residual-in_err-drop_clause-in-len1.ensures.1 in
    let is = c.as_slice-lits.ensures.value ∙ subst (λ (x : PortState). c.in-Ok.left.items ≡ left_at x (attached c.args.watches.now) t.steps c.args.c.address) c.head-head.ensures.same c.in-Ok.ensures.left in
    let one = one_list c.as_slice-lits.result.now (left_at s (attached c.args.watches.now) t.steps c.args.c.address) c.lit-item.result is c.in-len1.len_at_least c.in-len1.len_below c.lit-item.is in
    let wrote = subst (λ (x : PortState). WroteUnit x m c.lit-item.result UnitLine x.last) (c.detach.ensures.same ∙ c.literals_left.ensures.same ∙ c.head-head.ensures.same) c.in_ok-unit-in-len1.ensures.written in
    cut_short s m (g.P.Port.state c.drop_clause.new.self) c.args.watches.now t.steps c.args.c c.from_residual-in_err-drop_clause-in-len1.result p.0 c.in_err-drop_clause-in-len1.field-0.0
    (inr (c.lit-item.result, one, wrote, unit_order g (goal.at.returns-in_err-drop_clause-in-len1-clause-stopped g c).In_ok-unit-in-len1 wrote)) c.in_err-drop_clause-in-len1.ensures.dropped.1 p.1 p.2 c.in_err-drop_clause-in-len1.ensures.dropped.0

pub returns-in_err-drop_clause-in_default-lits-clause-stopped : goal.returns-in_err-drop_clause-in_default-lits-clause-stopped
returns-in_err-drop_clause-in_default-lits-clause-stopped g c =
    let s = g.P.Port.state c.args.port.now in
    let t = c.args.trail.now in
    let G = others s (attached c.args.watches.now) c.args.c.address c.args.trail.now.steps in
    let d = lits_at s c.args.c.address in
    let m = g.P.Port.state c.derive.new.self in
    let p = err_from_is_err_and c.from_residual-in_err-drop_clause-in_default-lits.result c.from_residual-in_err-drop_clause-in_default-lits.ensures.1 in
    let is : c.as_slice-lits.result.now ≡ left_of G d = c.as_slice-lits.ensures.value ∙ subst (λ (x : PortState). c.in-Ok.left.items ≡ left_at x (attached c.args.watches.now) c.args.trail.now.steps c.args.c.address) c.head-head.ensures.same c.in-Ok.ensures.left in
    let n : length c.as_slice-lits.result.now ≡ length (left_of G d) = ap (λ (L : List Literal). length L) is in
    let h = head_glue s c.args.c.address c.head-head.result c.requires.held c.head-head.ensures.value in
    let glue : c.shorter_glue-glue.result ≡ min (glue_at s c.args.c.address) (length (left_of G d) - 1) = c.shorter_glue-glue.ensures ∙ ap (λ (a : ℕ). min a (length c.as_slice-lits.result.now - 1)) h ∙ ap (λ (k : ℕ). min (glue_at s c.args.c.address) (k - 1)) n in
    let added = subst (λ (k : ℕ). AddedClause s m (left_of G d) k Derive c.in_ok-shorter-in_default-lits.shorter) glue
    (subst (λ (L : List Literal). AddedClause s m L c.shorter_glue-glue.result Derive c.in_ok-shorter-in_default-lits.shorter) is
    (subst (λ (x : PortState). AddedClause x m c.as_slice-lits.result.now c.shorter_glue-glue.result Derive c.in_ok-shorter-in_default-lits.shorter) (c.detach.ensures.same ∙ c.literals_left.ensures.same ∙ c.head-head.ensures.same) c.in_ok-shorter-in_default-lits.ensures.derived)) in
    cut_short s m (g.P.Port.state c.drop_clause-in_default-lits.new.self) c.args.watches.now t.steps c.args.c c.from_residual-in_err-drop_clause-in_default-lits.result p.0 c.in_err-drop_clause-in_default-lits.field-0.0
    (inl (c.in_ok-shorter-in_default-lits.shorter, added, added_order g (goal.at.returns-in_err-drop_clause-in_default-lits-clause-stopped g c).In_ok-shorter-in_default-lits _ added)) (c.in_err-drop_clause-in_default-lits.ensures.dropped.1 ∙ c.attach.ensures.same) p.1 p.2 c.in_err-drop_clause-in_default-lits.ensures.dropped.0

pub returns-in-Err-clause-stopped : goal.returns-in-Err-clause-stopped
returns-in-Err-clause-stopped g c =
    let s = g.P.Port.state c.args.port.now in
    let m = g.P.Port.state c.derive.new.self in
    let d = c.in_ok-shorter-in_default-lits.shorter in
    let left = left_at s (attached c.args.watches.now) c.args.trail.now.steps c.args.c.address in
    let is : c.as_slice-lits.result.now ≡ left = c.as_slice-lits.ensures.value ∙ subst (λ (x : PortState). c.in-Ok.left.items ≡ left_at x (attached c.args.watches.now) c.args.trail.now.steps c.args.c.address) c.head-head.ensures.same c.in-Ok.ensures.left in
    let h = head_glue s c.args.c.address c.head-head.result c.requires.held c.head-head.ensures.value in
    let glue : c.shorter_glue-glue.result ≡ min (glue_at s c.args.c.address) (length left - 1) = c.shorter_glue-glue.ensures ∙ ap (λ (a : ℕ). min a (length c.as_slice-lits.result.now - 1)) h ∙ ap (λ (L : List Literal). min (glue_at s c.args.c.address) (length L - 1)) is in
    let added = subst (λ (k : ℕ). AddedClause s m left k Derive d) glue
    (subst (λ (L : List Literal). AddedClause s m L c.shorter_glue-glue.result Derive d) is
    (subst (λ (x : PortState). AddedClause x m c.as_slice-lits.result.now c.shorter_glue-glue.result Derive d) (c.detach.ensures.same ∙ c.literals_left.ensures.same ∙ c.head-head.ensures.same) c.in_ok-shorter-in_default-lits.ensures.derived)) in
    record {
      middle = m;
      before = inr (inl (d, added, added_order g (goal.at.returns-in-Err-clause-stopped g c).In_ok-shorter-in_default-lits _ added));
      refused = record { reason = tt; state = c.attach.ensures.same };
    }

pub returns-in-len1-clause-vivified : goal.returns-in-len1-clause-vivified
returns-in-len1-clause-vivified g c =
    let s = g.P.Port.state c.args.port.now in
    let t = c.args.trail.now in
    let w = c.detach.new.self in
    let m = g.P.Port.state c.unit.new.self in
    let both = good_detached s (g.P.Port.state c.head-head.new.self) (g.P.Port.state c.literals_left.new.port) c.args.watches.now c.literals_left.new.watches w t c.literals_left.new.trail c.args.c.address c.head-head.ensures.same c.literals_left.ensures.same
    c.in-Ok.ensures.trail c.in-Ok.ensures.watched c.in-Ok.ensures.reasons c.in-Ok.ensures.quiet c.requires.free c.in-Ok.ensures.attached c.detach.ensures.attached c.detach.ensures.watched in
    let is = c.as_slice-lits.ensures.value ∙ subst (λ (x : PortState). c.in-Ok.left.items ≡ left_at x (attached c.args.watches.now) t.steps c.args.c.address) c.head-head.ensures.same c.in-Ok.ensures.left in
    let at = goal.at.returns-in-len1-clause-vivified g c in
    let wrote = subst (λ (x : PortState). WroteUnit x m c.lit-item.result UnitLine x.last) (c.detach.ensures.same ∙ c.literals_left.ensures.same ∙ c.head-head.ensures.same) c.in_ok-unit-in-len1.ensures.written in
    record {
      left = one_list c.as_slice-lits.result.now (left_at s (attached c.args.watches.now) t.steps c.args.c.address) c.lit-item.result is c.in-len1.len_at_least c.in-len1.len_below c.lit-item.is;
      middle = m;
      wrote = wrote;
      order = unit_order g at.In_ok-unit-in-len1 wrote;
      dropped = c.in_ok-drop_clause-in-len1.ensures.dropped;
      attached_now = both.1;
    }
