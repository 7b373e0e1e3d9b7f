use Rattle.std.proofs.Common.{◌≡◌, ◌∙◌, ap, [], ◌∷◌, ◌++◌, List, ℕ, ◌<◌, length, get_or, arith, zero, suc, refl}
use Rattle.std.proofs.Math.ListN.{set}
use Rattle.sat_words.specs.Literal.{code_of}
use Rattle.simp_equiv.proofs.Edges.{more_edge}
use Rattle.simp_equiv.proofs.graph.add_edge.Goals as goal

any_default : (G : List (List ℕ)) (i : ℕ) (d e : List ℕ) → i < length G → get_or G i d ≡ get_or G i e
any_default [] i d e h = absurd (omega arith)
any_default (x ∷ G) zero d e h = refl
any_default (x ∷ G) (suc i) d e h = any_default G i d e (omega arith)

pub returns : goal.returns
returns c =
    let lt = c.requires in
    let G : List (List ℕ) = c.args.graph.now.items in
    let read : c.index_mut.result.now ≡ get_or G (code_of c.args.from) [] =
    c.index_mut.ensures.value ∙ ap (λ (i : ℕ). get_or G i c.index_mut.result.now) c.code-from.ensures ∙ any_default G (code_of c.args.from) c.index_mut.result.now [] lt in
    let pushed : c.push.new.self ≡ get_or G (code_of c.args.from) [] ++ code_of c.args.to ∷ [] =
    c.in_ok-push.ensures ∙ (λ i. read i ++ c.code.ensures i ∷ []) in
    more_edge G (set G c.code-from.result c.push.new.self) (code_of c.args.from) (code_of c.args.to) lt
    (λ i. set G (c.code-from.ensures i) (pushed i))
