use Rattle.std.proofs.Common.{◌≡◌, ◌∙◌, ◌<◌, ap, sym, subst, map, set, get_or, ℕ, List, [], ◌∷◌, ◌++◌, length}
use Rattle.std.proofs.lemmas.List.{map-set, get_or-map, length-map}
use Rattle.std.proofs.Math.Seq.{map-set_same}
use Rattle.sat_words.specs.Literal.{code_of}
use Rattle.simp_base.specs.Tables.{KeptNotes}
use Rattle.simp_base.proofs.Noting.{kept_same, kept_set}
use Rattle.simp_base.proofs.occurrences.Occurrences.note.Goals as goal

pub returns-clause-ok : goal.returns-clause-ok
returns-clause-ok c =
    let xs = c.self.inside.lists.items in
    let n = code_of c.args.lit in
    let wide : c.code.result < length (map (λ v. v.items) xs) = subst (λ (t : List (List ℕ)). c.code.result < length t) (sym c.self.view_is) (subst (λ k. k < length c.args.self.now) (sym c.code.ensures) c.requires) in
    let lt : c.code.result < length xs = subst (λ k. c.code.result < k) (length-map xs (λ v. v.items)) wide in
    let read : c.index_mut.result.now.items ≡ get_or (map (λ v. v.items) xs) n [] =
    ap (λ v. v.items) c.index_mut.ensures.value ∙ sym (get_or-map (λ v. v.items) xs c.code.result c.index_mut.result.now [] lt)
    ∙ ap (λ k. get_or (map (λ v. v.items) xs) k []) c.code.ensures in
    map-set (λ v. v.items) xs c.code.result c.push.new.self
    ∙ (λ k. set (map (λ v. v.items) xs) (c.code.ensures k) (c.in_ok-push.ensures.items k))
    ∙ ap (λ ps. set (map (λ v. v.items) xs) n (ps ++ c.args.number ∷ [])) read
    ∙ ap (λ (s : List (List ℕ)). set s n (get_or s n [] ++ c.args.number ∷ [])) c.self.view_is

pub returns-clause-kept : goal.returns-clause-kept
returns-clause-kept c = subst (KeptNotes c.args.self.now) (sym (returns-clause-ok c)) (kept_set c.args.self.now (code_of c.args.lit) c.args.number c.requires)

pub returns-in_err-push-clause-kept : goal.returns-in_err-push-clause-kept
returns-in_err-push-clause-kept c =
    let xs = c.self.inside.lists.items in
    let same : map (λ v. v.items) (set xs c.code.result c.push.new.self) ≡ map (λ v. v.items) xs =
    map-set_same (λ v. v.items) xs c.code.result c.push.new.self c.index_mut.result.now (c.in_err-push.ensures.items ∙ ap (λ v. v.items) c.index_mut.ensures.value) in
    subst (KeptNotes c.args.self.now) (sym (same ∙ c.self.view_is)) (kept_same c.args.self.now)
