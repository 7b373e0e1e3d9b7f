use Rattle.std.proofs.Common.{◌∷◌, [], refl, inl}
use Rattle.rup_model.proofs.Lists.{In_Contains}
use Rattle.simp_add.proofs.Removing.{was_removed, removed_none}
use Rattle.simp_add.proofs.replacement.remove_at.Goals as goal

pub delete-requires-clause-alive : goal.delete-requires-clause-alive
delete-requires-clause-alive g c =
    let n = c.args.number in
    (c.in-Some.field-0.now, c.in-Some.ensures.some, c.requires.long n c.in-Some.field-0.now (In_Contains (n ∷ []) n (inl refl)) c.in-Some.ensures.some)

pub returns-in-Some-clause-removed : goal.returns-in-Some-clause-removed
returns-in-Some-clause-removed g c =
    was_removed c.args.work.now c.delete.new.self c.args.number c.delete.result c.requires.going c.requires.unspent c.delete.ensures.work c.delete.ensures.deleted c.delete.ensures.log

pub returns-in-None-clause-removed : goal.returns-in-None-clause-removed
returns-in-None-clause-removed g c = removed_none c.args.work.now c.args.number c.requires.going c.requires.unspent c.requires.work c.in-None.ensures.none
