use Rattle.std.proofs.Common.{◌++◌, ◌∷◌, [], List, sym, subst}
use Rattle.simp_add.specs.declared.alike.Alike.{Alike}
use Rattle.simp_add.specs.Alike.{Listed}
use Rattle.simp_add.proofs.Listing.{listed_not, listed_one}
use Rattle.simp_add.proofs.alike.put_alike.Goals as goal

pub returns-in_ok-push-in-Some-clause-listed : goal.returns-in_ok-push-in-Some-clause-listed
returns-in_ok-push-in-Some-clause-listed g c numbers t =
    subst (λ (xs : List Alike). Listed c.args.work.now c.args.rest.now (numbers ++ c.args.number ∷ []) xs) (sym c.in_ok-push-in-Some.ensures.ok)
    (listed_one c.args.work.now c.requires.work c.args.rest.now numbers c.args.found.now.items c.args.number c.in-Some.lit c.in-Some.ensures t)

pub returns-in-None-clause-listed : goal.returns-in-None-clause-listed
returns-in-None-clause-listed g c numbers t = listed_not c.args.work.now c.args.rest.now numbers c.args.found.now.items c.args.number c.in-None.ensures t
