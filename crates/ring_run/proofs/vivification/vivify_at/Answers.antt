use Rattle.std.proofs.Common.{◌∙◌, ◌++◌, ◌∷◌, [], List, ap, subst}
use Rattle.sat_words.specs.declared.shared.Cref.{Cref}
use Rattle.watch_prop.specs.WatchData.{attached}
use Rattle.ring_run.specs.Renewal.{IsLeft}
use Rattle.ring_run.specs.declared.ring.Ring.{Ring}
use Rattle.ring_run.proofs.Turns.{same_listed, gone_listed, other_listed, gone_unmixed, other_unmixed, unmixed_same, there_at, lemma_in, taken_at, start_held}
use Rattle.ring_port.proofs.Holdings.{All_In}
use Rattle.rup_model.proofs.Lists.{Contains_In}
use Rattle.std.specs.Prelude.{Contains}
use Rattle.ring_run.proofs.vivification.vivify_at.Goals as goal

pub vivify_lemma-requires-clause-lemma : goal.vivify_lemma-requires-clause-lemma
vivify_lemma-requires-clause-lemma g c =
    let old = c.args.ring.now in
    let there = lemma_in c.args.place old.lemmas.items c.index-lemma.result.now c.requires.inside c.index-lemma.ensures in
    record {
      member = All_In (Contains (attached old.watches)) old.lemmas.items c.index-lemma.result.now c.requires.listed.member (Contains_In old.lemmas.items c.index-lemma.result.now there);
      glued = c.requires.listed.glued c.index-lemma.result.now there;
      apart = λ h start. c.requires.listed.apart h c.index-lemma.result.now start there;
    }

pub returns-in-Ok-Unchanged-clause-listed : goal.returns-in-Ok-Unchanged-clause-listed
returns-in-Ok-Unchanged-clause-listed g c =
    let s = g.P.Port.state c.args.port.now in
    let u = g.P.Port.state c.vivify_lemma.new.port in
    let old = c.args.ring.now in
    let new = c.vivify_lemma.new.ring in
    let d = c.index-lemma.result.now in
    let same = c.vivify_lemma.ensures.same in
    let k = c.in-Ok-Unchanged.ensures in
    same_listed s u old new d c.args.place c.requires.listed c.requires.resting k.others (there_at c.args.place old.lemmas.items d c.requires.inside c.index-lemma.ensures)
    k.start k.resting.lately (ap (λ (r : Ring). r.learned) same) (ap (λ (r : Ring). r.reductions) same) (ap (λ (r : Ring). r.reduced_at) same) (record { imports = ap (λ (r : Ring). r.imports.items) same; last_start = ap (λ (r : Ring). r.last_start) same }) c.requires.unmixed
    (ap (λ (r : Ring). r.lemmas.items) same) (subst (IsLeft s u new.watches d) c.in-Ok-Unchanged.field-0-is k.left)

pub returns-in-Ok-Replaced-clause-listed : goal.returns-in-Ok-Replaced-clause-listed
returns-in-Ok-Replaced-clause-listed g c =
    let s = g.P.Port.state c.args.port.now in
    let u = g.P.Port.state c.vivify_lemma.new.port in
    let old = c.args.ring.now in
    let new = c.vivify_lemma.new.ring in
    let d = c.index-lemma.result.now in
    let same = c.vivify_lemma.ensures.same in
    let k = c.in-Ok-Replaced.ensures in
    other_listed s u old (record new { lemmas = c.push_reserved.new.self }) d c.args.place c.requires.listed c.requires.resting k.others (there_at c.args.place old.lemmas.items d c.requires.inside c.index-lemma.ensures)
    k.start k.resting.lately (ap (λ (r : Ring). r.learned) same) (ap (λ (r : Ring). r.reductions) same) (ap (λ (r : Ring). r.reduced_at) same) (record { imports = ap (λ (r : Ring). r.imports.items) same; last_start = ap (λ (r : Ring). r.last_start) same }) c.requires.unmixed
    c.in-Ok-Replaced.shorter
    (c.push_reserved.ensures.items ∙ ap (λ (xs : List Cref). xs ++ c.in-Ok-Replaced.shorter ∷ [])
    (taken_at c.args.place old.lemmas.items new.lemmas.items c.remove.new.self.items (ap (λ (r : Ring). r.lemmas.items) same) c.remove.ensures.items))
    (subst (IsLeft s u new.watches d) c.in-Ok-Replaced.field-0-is k.left) (start_held s old c.requires.resting)

pub returns-in-Ok-Gone-clause-listed : goal.returns-in-Ok-Gone-clause-listed
returns-in-Ok-Gone-clause-listed g c =
    let s = g.P.Port.state c.args.port.now in
    let u = g.P.Port.state c.vivify_lemma.new.port in
    let old = c.args.ring.now in
    let new = c.vivify_lemma.new.ring in
    let d = c.index-lemma.result.now in
    let same = c.vivify_lemma.ensures.same in
    let k = c.in-Ok-Gone.ensures in
    gone_listed s u old (record new { lemmas = c.remove-in-Ok-Gone.new.self }) d c.args.place c.requires.listed c.requires.resting k.others (there_at c.args.place old.lemmas.items d c.requires.inside c.index-lemma.ensures)
    k.start k.resting.lately (ap (λ (r : Ring). r.learned) same) (ap (λ (r : Ring). r.reductions) same) (ap (λ (r : Ring). r.reduced_at) same) (record { imports = ap (λ (r : Ring). r.imports.items) same; last_start = ap (λ (r : Ring). r.last_start) same }) c.requires.unmixed
    (taken_at c.args.place old.lemmas.items new.lemmas.items c.remove-in-Ok-Gone.new.self.items (ap (λ (r : Ring). r.lemmas.items) same) c.remove-in-Ok-Gone.ensures.items)

pub returns-in-Ok-Unchanged-clause-unmixed : goal.returns-in-Ok-Unchanged-clause-unmixed
returns-in-Ok-Unchanged-clause-unmixed g c =
    let same = c.vivify_lemma.ensures.same in
    unmixed_same c.args.ring.now c.vivify_lemma.new.ring (ap (λ (r : Ring). r.lemmas.items) same) (ap (λ (r : Ring). r.imports.items) same) c.requires.unmixed

pub returns-in-Ok-Replaced-clause-unmixed : goal.returns-in-Ok-Replaced-clause-unmixed
returns-in-Ok-Replaced-clause-unmixed g c =
    let s = g.P.Port.state c.args.port.now in
    let u = g.P.Port.state c.vivify_lemma.new.port in
    let old = c.args.ring.now in
    let new = c.vivify_lemma.new.ring in
    let d = c.index-lemma.result.now in
    let same = c.vivify_lemma.ensures.same in
    let k = c.in-Ok-Replaced.ensures in
    other_unmixed s u old (record new { lemmas = c.push_reserved.new.self }) d c.args.place c.requires.listed c.requires.resting k.others (there_at c.args.place old.lemmas.items d c.requires.inside c.index-lemma.ensures)
    k.start k.resting.lately (ap (λ (r : Ring). r.learned) same) (ap (λ (r : Ring). r.reductions) same) (ap (λ (r : Ring). r.reduced_at) same) (record { imports = ap (λ (r : Ring). r.imports.items) same; last_start = ap (λ (r : Ring). r.last_start) same }) c.requires.unmixed
    c.in-Ok-Replaced.shorter
    (c.push_reserved.ensures.items ∙ ap (λ (xs : List Cref). xs ++ c.in-Ok-Replaced.shorter ∷ [])
    (taken_at c.args.place old.lemmas.items new.lemmas.items c.remove.new.self.items (ap (λ (r : Ring). r.lemmas.items) same) c.remove.ensures.items))
    (subst (IsLeft s u new.watches d) c.in-Ok-Replaced.field-0-is k.left)

pub returns-in-Ok-Gone-clause-unmixed : goal.returns-in-Ok-Gone-clause-unmixed
returns-in-Ok-Gone-clause-unmixed g c =
    let s = g.P.Port.state c.args.port.now in
    let u = g.P.Port.state c.vivify_lemma.new.port in
    let old = c.args.ring.now in
    let new = c.vivify_lemma.new.ring in
    let d = c.index-lemma.result.now in
    let same = c.vivify_lemma.ensures.same in
    let k = c.in-Ok-Gone.ensures in
    gone_unmixed s u old (record new { lemmas = c.remove-in-Ok-Gone.new.self }) d c.args.place c.requires.listed c.requires.resting k.others (there_at c.args.place old.lemmas.items d c.requires.inside c.index-lemma.ensures)
    k.start k.resting.lately (ap (λ (r : Ring). r.learned) same) (ap (λ (r : Ring). r.reductions) same) (ap (λ (r : Ring). r.reduced_at) same) (record { imports = ap (λ (r : Ring). r.imports.items) same; last_start = ap (λ (r : Ring). r.last_start) same }) c.requires.unmixed
    (taken_at c.args.place old.lemmas.items new.lemmas.items c.remove-in-Ok-Gone.new.self.items (ap (λ (r : Ring). r.lemmas.items) same) c.remove-in-Ok-Gone.ensures.items)

pub returns-in-Err-clause-halts : goal.returns-in-Err-clause-halts
returns-in-Err-clause-halts g c = record { lemma = c.index-lemma.result.now; there = there_at c.args.place c.args.ring.now.lemmas.items c.index-lemma.result.now c.requires.inside c.index-lemma.ensures; halts = c.in-Err.ensures.halts }
