use Rattle.std.proofs.Common.{◌∙◌, ◌<◌, true, false, not, List, [], ◌∷◌, ◌++◌, length, get_or, filter, sym, ap}
use Rattle.std.specs.Global.{Vec}
use Rattle.std.proofs.lemmas.List.{take_all}
use Rattle.sat_words.specs.declared.shared.Cref.{Cref}
use Rattle.reduce_db.specs.Ranking.{is_dropped}
use Rattle.reduce_db.proofs.Parting.{filter_in, filter_out, goes_at, no_cref}
use Rattle.reduce_db.proofs.choice.split_off.Goals as goal
use Rattle.reduce_db.proofs.choice.split_off.Goals.{then-is_dropped+in_ok-push, else-is_dropped+in_ok-push-2}

pub loop-i-preserved : goal.loop-i-preserved
loop-i-preserved c =
    let xs = c.args.lemmas.now in
    let i = c.loop-i.i in
    let lt : i < length xs = c.loop-i-test.true in
    elim c.if-is_dropped.branch [
      | then-is_dropped+in_ok-push w ↦ record {
        kept = λ f e. (
            let t = goes_at f xs c.args.candidates.now c.args.first i true c.is_dropped.result e lt c.is_dropped.ensures w.if-is_dropped.true in
            ap (λ (v : Vec Cref). v.items) w.kept-is ∙ c.loop-i.invariant.kept f e ∙ sym (filter_out (λ (x : Cref). not (is_dropped c.args.first (f x))) xs i no_cref lt (ap not t)));
        dropped = λ f e. (
            let t = goes_at f xs c.args.candidates.now c.args.first i true c.is_dropped.result e lt c.is_dropped.ensures w.if-is_dropped.true in
            ap (λ (v : Vec Cref). v.items) w.dropped-is ∙ w.in_ok-push.ensures.items ∙ ap (λ (ys : List Cref). ys ++ get_or xs i no_cref ∷ []) (c.loop-i.invariant.dropped f e)
            ∙ sym (filter_in (λ (x : Cref). is_dropped c.args.first (f x)) xs i no_cref lt t));
      }
      | else-is_dropped+in_ok-push-2 w ↦ record {
        kept = λ f e. (
            let t = goes_at f xs c.args.candidates.now c.args.first i false c.is_dropped.result e lt c.is_dropped.ensures w.if-is_dropped.false in
            ap (λ (v : Vec Cref). v.items) w.kept-is ∙ w.in_ok-push-2.ensures.items ∙ ap (λ (ys : List Cref). ys ++ get_or xs i no_cref ∷ []) (c.loop-i.invariant.kept f e)
            ∙ sym (filter_in (λ (x : Cref). not (is_dropped c.args.first (f x))) xs i no_cref lt (ap not t)));
        dropped = λ f e. (
            let t = goes_at f xs c.args.candidates.now c.args.first i false c.is_dropped.result e lt c.is_dropped.ensures w.if-is_dropped.false in
            ap (λ (v : Vec Cref). v.items) w.dropped-is ∙ c.loop-i.invariant.dropped f e ∙ sym (filter_out (λ (x : Cref). is_dropped c.args.first (f x)) xs i no_cref lt t));
      }
    ]

pub returns-clause-kept : goal.returns-clause-kept
returns-clause-kept c = λ f e. c.loop-i.invariant.kept f e ∙ ap (filter (λ (x : Cref). not (is_dropped c.args.first (f x)))) (take_all c.loop-i.i c.args.lemmas.now c.loop-i-test.false)

pub returns-clause-dropped : goal.returns-clause-dropped
returns-clause-dropped c = λ f e. c.loop-i.invariant.dropped f e ∙ ap (filter (λ (x : Cref). is_dropped c.args.first (f x))) (take_all c.loop-i.i c.args.lemmas.now c.loop-i-test.false)
