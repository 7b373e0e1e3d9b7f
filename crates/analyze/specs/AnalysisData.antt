-- What contracts see of the analysis.
use Rattle.std.specs.Prelude.{◌≡◌, ◌≤◌, ◌+◌, ◌^◌, ℕ, false, List, vec_capacity}
use Rattle.sat_words.specs.Literal.{Literal}
use Rattle.analyze.specs.declared.analysis.Analysis.TheInside.{Inside}
use Rattle.analyze.specs.declared.minimise.Removability.TheVariants.{Unknown}
use Rattle.analyze.specs.declared.tracer.Note.TheVariants.{Free}
use Rattle.analyze.specs.MarksData.{all_blank}

-- for how many variables, the literals of the last lemma, the variables to bump after the last conflict, and the hints found last
pub record AnalysisData : Type 0 where
  pub vars : ℕ
  pub lits : List Literal
  pub analyzed : List ℕ
  pub hints : List ℕ

-- one of the variables from 1 to the last
pub record IsVariable (vars v : ℕ) : Type 0 where
  pub low : 1 ≤ v
  pub high : v ≤ vars

-- nothing is marked or judged between calls, and the buffers are large enough
pub record IsReady (a : Inside) : Type 0 where
  pub small : a.vars ≤ 2 ^ 30
  pub marks : a.marks ≡ all_blank a.vars false
  pub levels : a.levels ≡ all_blank (a.vars + 1) false
  pub minimisation : a.minimisation.table ≡ all_blank a.vars Unknown
  pub kept_places_room : a.vars ≤ vec_capacity a.kept_places
  pub waiting_room : a.vars ≤ vec_capacity a.minimisation.waiting
  pub lits_room : a.vars + 1 ≤ vec_capacity a.lits
  pub analyzed_room : a.vars ≤ vec_capacity a.analyzed
  pub tracing : a.tracer.table ≡ all_blank a.vars Free
  pub hints_room : a.vars + 1 ≤ vec_capacity a.tracer.hints
