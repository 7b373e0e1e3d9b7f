use Rattle.std.proofs.Common.{◌≡◌, ◌∙◌, ℕ, ◌+◌, ◌-◌, ◌<◌, ◌≤◌, Bool, true, false, not, List, length, sym, ap, subst, arith}
use Rattle.std.specs.Bool.{beq}
use Rattle.std.proofs.Math.ListN.{set}
use Rattle.std.proofs.lemmas.Bool.{true≢false, false≢true}
use Rattle.std.proofs.lemmas.List.{length-set}
use Rattle.sat_words.specs.Truth.{value_of}
use Rattle.ring_walk.specs.KeptData.{KeptData, differs, turned}
use Rattle.ring_walk.specs.Listed.{AreListed, passing}
use Rattle.ring_walk.proofs.Keeping.{others, own_listed, own_unlisted, own_fresh, own_enlisted, less, more, passing-one, passing-lt}
use Rattle.ring_walk.proofs.kept.Kept.flip.Goals as goal
use Rattle.ring_walk.proofs.kept.Kept.flip.Goals.{After-value}

high : (c : After-value) → c.args.var ≤ length c.self.inside.values
high c = let h = c.requires.high in let e = ap (λ (d : KeptData). length d.values) c.self.view_is in omega arith

turned_is : (c : After-value) → c.set.new.self ≡ turned c.self.inside.values c.args.var
turned_is c = c.set.ensures ∙ ap (λ (b : Bool). set c.self.inside.values (c.args.var - 1) (not b)) c.value-value.ensures

same_value : (a b : Bool) → beq a b ≡ true → a ≡ b
same_value true true e = λ i. true
same_value true false e = absurd (false≢true e)
same_value false true e = absurd (false≢true e)
same_value false false e = λ i. false

other_value : (a b : Bool) → beq a b ≡ false → a ≡ b → ⊥
other_value true true e f = true≢false e
other_value true false e f = true≢false f
other_value false true e f = false≢true f
other_value false false e f = true≢false e

-- the value then is the best one's, or it is not
back : (c : After-value) → beq c.value.result (not c.value-value.result) ≡ true → value_of c.self.inside.best c.args.var ≡ not (value_of c.self.inside.values c.args.var)
back c e = sym c.value.ensures ∙ same_value c.value.result (not c.value-value.result) e ∙ ap not c.value-value.ensures

away : (c : After-value) → beq c.value.result (not c.value-value.result) ≡ false → value_of c.self.inside.best c.args.var ≡ not (value_of c.self.inside.values c.args.var) → ⊥
away c e f = other_value c.value.result (not c.value-value.result) e (c.value.ensures ∙ f ∙ sym (ap not c.value-value.ensures))

-- the list has room while the variable is not in it
room : (c : After-value) → beq c.value.result (not c.value-value.result) ≡ false → length c.self.inside.changed.items < length c.self.inside.values + 1
room c e =
    let k = c.self.inside in
    let h = high c in
    let p = passing-lt (differs k.best k.values) (length k.values + 1) c.args.var (omega arith) (own_fresh k.best k.values c.args.var c.requires.low (high c) (away c e)) in
    let m = c.self.invariant.many in
    omega arith

pub enlist-requires-clause-short : goal.enlist-requires-clause-short
enlist-requires-clause-short c =
    let r = room (goal.at.enlist-requires-clause-short c).After-value c.if-value.false in
    let s = c.self.invariant.small in
    omega arith

pub enlist-requires-clause-room : goal.enlist-requires-clause-room
enlist-requires-clause-room c =
    let r = room (goal.at.enlist-requires-clause-room c).After-value c.if-value.false in
    let s = c.self.invariant.room in
    omega arith

pub invariant_of-self : goal.invariant_of-self
invariant_of-self c =
    let at = (goal.at.invariant_of-self c).After-value in
    let k = c.self.inside in
    let v = c.args.var in
    let h = high at in
    let e = back at c.if-value.true in
    let now = c.set.new.self in
    let is : now ≡ turned k.values v = turned_is at in
    let long : length now ≡ length k.values = ap (λ (a : List Bool). length a) is ∙ length-set k.values (v - 1) (not (value_of k.values v)) in
    let listed = c.unlist.ensures.listed (differs k.best k.values) (length k.values + 1) c.self.invariant.listed (omega arith) (own_listed k.best k.values v c.requires.low h e) in
    let was = c.self.invariant.many in
    let one = passing-one (differs k.best (turned k.values v)) (differs k.best k.values) (length k.values + 1) v (omega arith) (λ w ne. sym (others k.best k.values v c.requires.low h w ne)) (own_unlisted k.best k.values v c.requires.low h e) (own_listed k.best k.values v c.requires.low h e) in
    let fewer = c.unlist.ensures.fewer in
    let many : length c.unlist.new.list.items ≡ passing (differs k.best (turned k.values v)) (length k.values + 1) = omega arith in
    let small = c.self.invariant.small in
    let cap = c.unlist.ensures.room in
    let r = c.self.invariant.room in
    record {
      small = omega arith;
      same = c.self.invariant.same ∙ sym long;
      listed = subst (λ (a : List Bool). AreListed (differs k.best a) (length now + 1) c.unlist.new.list.items c.unlist.new.places.items) (sym is)
          (subst (λ (n : ℕ). AreListed (differs k.best (turned k.values v)) (n + 1) c.unlist.new.list.items c.unlist.new.places.items) (sym long)
          (subst (λ (P : ℕ → Bool). AreListed P (length k.values + 1) c.unlist.new.list.items c.unlist.new.places.items) (less k.best k.values v c.requires.low h e) listed));
      many = many ∙ sym (ap (λ (a : List Bool). passing (differs k.best a) (length k.values + 1)) is) ∙ ap (λ (n : ℕ). passing (differs k.best now) (n + 1)) (sym long);
      room = omega arith;
    }

pub invariant_of-self-else-value : goal.invariant_of-self-else-value
invariant_of-self-else-value c =
    let at = (goal.at.invariant_of-self-else-value c).After-value in
    let k = c.self.inside in
    let v = c.args.var in
    let h = high at in
    let e = away at c.if-value.false in
    let now = c.set.new.self in
    let is : now ≡ turned k.values v = turned_is at in
    let long : length now ≡ length k.values = ap (λ (a : List Bool). length a) is ∙ length-set k.values (v - 1) (not (value_of k.values v)) in
    let listed = c.enlist.ensures.listed (differs k.best k.values) (length k.values + 1) c.self.invariant.listed (omega arith) (own_fresh k.best k.values v c.requires.low h e) in
    let was = c.self.invariant.many in
    let one = passing-one (differs k.best k.values) (differs k.best (turned k.values v)) (length k.values + 1) v (omega arith) (others k.best k.values v c.requires.low h) (own_fresh k.best k.values v c.requires.low h e) (own_enlisted k.best k.values v c.requires.low h e) in
    let more_listed = c.enlist.ensures.more in
    let many : length c.enlist.new.list.items ≡ passing (differs k.best (turned k.values v)) (length k.values + 1) = omega arith in
    let small = c.self.invariant.small in
    let cap = c.enlist.ensures.room in
    let r = c.self.invariant.room in
    record {
      small = omega arith;
      same = c.self.invariant.same ∙ sym long;
      listed = subst (λ (a : List Bool). AreListed (differs k.best a) (length now + 1) c.enlist.new.list.items c.enlist.new.places.items) (sym is)
          (subst (λ (n : ℕ). AreListed (differs k.best (turned k.values v)) (n + 1) c.enlist.new.list.items c.enlist.new.places.items) (sym long)
          (subst (λ (P : ℕ → Bool). AreListed P (length k.values + 1) c.enlist.new.list.items c.enlist.new.places.items) (more k.best k.values v c.requires.low h e) listed));
      many = many ∙ sym (ap (λ (a : List Bool). passing (differs k.best a) (length k.values + 1)) is) ∙ ap (λ (n : ℕ). passing (differs k.best now) (n + 1)) (sym long);
      room = omega arith;
    }
