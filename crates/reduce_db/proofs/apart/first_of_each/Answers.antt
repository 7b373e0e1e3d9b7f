use Rattle.std.proofs.Common.{◌≡◌, ◌∙◌, ℕ, ◌+◌, ◌++◌, ◌∷◌, List, drop, get_or, sym, ap, append-nil}
use Rattle.std.specs.Global.{Vec}
use Rattle.std.proofs.lemmas.List.{drop_all}
use Rattle.sat_words.specs.declared.shared.Cref.{Cref}
use Rattle.reduce_db.specs.Lemmas.{first_of_each}
use Rattle.reduce_db.proofs.Telling.{first_more, first_less, drop_next}
use Rattle.reduce_db.proofs.apart.first_of_each.Goals as goal
use Rattle.reduce_db.proofs.apart.first_of_each.Goals.{then-is_next+in_ok-push, else-is_next}

abbrev no_cref : Cref
no_cref = record { address = 0 }

pub loop-c-preserved : goal.loop-c-preserved
loop-c-preserved c =
    let cs = c.args.clauses.now in
    let i = c.loop-c.c-index in
    let others = c.args.others.now in
    let next : drop i cs ≡ get_or cs i no_cref ∷ drop (i + 1) cs = drop_next cs i c.loop-c-test.true in
    let before = ap (λ (xs : List Cref). c.loop-c.apart.items ++ first_of_each c.loop-c.last others xs) (sym next) ∙ c.loop-c.invariant in
    let x : Cref = get_or cs i no_cref in
    let rest : List Cref = drop (i + 1) cs in
    elim c.if-is_next.branch [
      | then-is_next+in_ok-push w ↦
          ap (λ (v : Vec Cref). v.items ++ first_of_each c.if-is_next.last others rest) w.apart-is ∙ ap (λ (n : ℕ). w.push.new.self.items ++ first_of_each n others rest) w.last-is
          ∙ ap (λ (xs : List Cref). xs ++ first_of_each x.address others rest) w.in_ok-push.ensures.items
          ∙ first_more c.loop-c.last others c.loop-c.apart.items x rest (sym c.is_next.ensures ∙ w.if-is_next.true) ∙ before
      | else-is_next w ↦
          ap (λ (v : Vec Cref). v.items ++ first_of_each c.if-is_next.last others rest) w.apart-is ∙ ap (λ (n : ℕ). c.loop-c.apart.items ++ first_of_each n others rest) w.last-is
          ∙ first_less c.loop-c.last others c.loop-c.apart.items x rest (sym c.is_next.ensures ∙ w.if-is_next.false) ∙ before
    ]

pub returns : goal.returns
returns c = sym (append-nil c.loop-c.apart.items) ∙ ap (λ (xs : List Cref). c.loop-c.apart.items ++ first_of_each c.loop-c.last c.args.others.now xs) (sym (drop_all c.loop-c.c-index c.args.clauses.now c.loop-c-test.false)) ∙ c.loop-c.invariant
