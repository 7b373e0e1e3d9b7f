use Rattle.std.proofs.Common.{◌≡◌, ◌∙◌, true, false, ℕ, ap, subst, inl, inr, ⊎_elim, Contains}
use Rattle.std.proofs.lemmas.Bool.{cases_Bool}
use Rattle.sat_words.specs.Literal.{opposite}
use Rattle.sat_words.specs.Clause.{has}
use Rattle.simp_subsume.specs.Related.{IsUnrelated}
use Rattle.simp_subsume.specs.Signed.{IsRuledOut}
use Rattle.simp_subsume.proofs.Relating.{unrelated_by_one}
use Rattle.simp_subsume.proofs.Signing.{ruled_out_alive}
use Rattle.simp_subsume.proofs.candidates.list_others.Goals as goal

pub returns-clause-every : goal.returns-clause-every
returns-clause-every g c n d i =
    let w = c.args.work.now in let x = c.args.clause.now in let l = c.args.lit in let words = c.args.signatures.now in
    let out : IsRuledOut words c.signature_of-wanted.result n → IsUnrelated x d = λ r. ruled_out_alive w words x d n c.requires.signed i (subst (λ (j : ℕ). IsRuledOut words j n) c.signature_of-wanted.ensures r) in
    ⊎_elim
    (λ (h : has d l ≡ true). ⊎_elim
    (λ (r : IsRuledOut words c.signature_of-wanted.result n). inl (out r))
    (λ (j : Contains c.append_alike.new.others.items n). inr (c.in_ok-append_alike-2.ensures.kept n j))
    (c.in_ok-append_alike.ensures.every n (c.occurrences.ensures.every n d i h)))
    (λ (none : has d l ≡ false). ⊎_elim
    (λ (h : has d (opposite l) ≡ true). ⊎_elim
    (λ (r : IsRuledOut words c.signature_of-wanted.result n). inl (out r))
    (λ (j : Contains c.append_alike-2.new.others.items n). inr j)
    (c.in_ok-append_alike-2.ensures.every n (c.occurrences-2.ensures.every n d i (ap (has d) c.not.ensures ∙ h))))
    (λ (away : has d (opposite l) ≡ false). inl (unrelated_by_one x d l c.requires.holds none away))
    (cases_Bool (has d (opposite l))))
    (cases_Bool (has d l))
