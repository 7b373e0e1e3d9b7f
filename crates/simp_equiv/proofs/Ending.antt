-- How the replacing ends.
use Rattle.std.proofs.Common.{◌≡◌, ℕ, ◌++◌, true, not, List, [], sym, ap, subst, ◌∙◌, inl, inr, ⊎_elim, arith}
use Rattle.std.specs.List.{Contains, list_any}
use Rattle.std.proofs.lemmas.Bool.{and_from}
use Rattle.sat_words.specs.Literal.{Literal}
use Rattle.sat_words.specs.Clause.{has, has_opposites, two_or_more}
use Rattle.rup_model.proofs.Lists.{any_In, map_In, In_map, Contains_In, In_Contains}
use Rattle.model_stack.specs.Extend.{Lifts}
use Rattle.simp_base.specs.WorkState.{WorkState, known, lists, has_unit}
use Rattle.simp_base.proofs.Lists.{In_All}
use Rattle.simp_equiv.specs.Implications.{Implied, IsConsistent}
use Rattle.simp_equiv.specs.Tables.{stand_in, IsTable}
use Rattle.simp_base.specs.Parts.{takes_part}
use Rattle.simp_equiv.specs.Replacements.{is_moved, is_replaced, to_replace, Becomes, Comes, replacements, replaced_entries}
use Rattle.simp_base.specs.Stacked.{Stacked}
use Rattle.simp_equiv.specs.Rewritten.{AreInOrder, Leads, Adding, Removing}
use Rattle.simp_equiv.specs.Ends.{IsFree, Substituted}
use Rattle.simp_equiv.proofs.Follows.{reaches_over}
use Rattle.simp_equiv.proofs.Standing.{IsRepresented, rep_rep, lifts_representatives}
use Rattle.simp_equiv.proofs.Tabled.{moved_on}
use Rattle.simp_equiv.proofs.Growing.{in_known}
use Rattle.simp_equiv.proofs.Removing.{refuted, not_moved, removing_start}

-- each literal leads to the one that stands for it
pub table_leads : (w : WorkState) (t : List ℕ) → IsTable (has_unit w) (lists w.clauses) w.vars t → Leads w (stand_in t)
table_leads w t table = record {
  fixed = has_unit w;
  implied = λ l. reaches_over (has_unit w) (lists w.clauses) (known w) (in_known w) l (stand_in t l) (table.stands l).connected.there;
}

-- a clause that is not to be replaced is free
free_from : (sin : Literal → Literal) (c : List Literal) → (is_replaced sin c ≡ true → ⊥) → IsFree sin c
free_from sin c none long proper = In_All (λ l. (sin l).var ≡ l.var) c (λ l i.
    ap (λ (x : Literal). x.var) (not_moved sin l (refuted (is_moved sin l) (λ m.
    none (and_from (takes_part c) (list_any (is_moved sin) c) (and_from (two_or_more c) (not (has_opposites c)) long (ap not proper)) (any_In (is_moved sin) c l i m))))))

alive_by : (cs : List (ℕ × List Literal)) (c : List Literal) → Contains (lists cs) c → (n : ℕ) × Contains cs (n, c)
alive_by cs c h =
    let t = map_In (λ (x : ℕ × List Literal). x.1) cs c (Contains_In (lists cs) c h) in
    (t.0.0, subst (λ (d : List Literal). Contains cs (t.0.0, d)) t.2 (In_Contains cs t.0 t.1))

module _ (old added removed new : WorkState) (t : List ℕ) (numbers : List ℕ) (table : IsTable (has_unit old) (lists old.clauses) old.vars t) (consistent : IsConsistent (Implied old))
    (ordered : AreInOrder old.clauses) (whole : numbers ≡ to_replace (stand_in t) old.clauses) where
  abbrev sin : Literal → Literal
  sin = stand_in t

  represented : IsRepresented (has_unit old) (lists old.clauses) sin
  represented = record { sound = consistent; stands = table.stands }

  settled : (l : Literal) → sin (sin l) ≡ sin l
  settled = rep_rep (has_unit old) (lists old.clauses) sin represented

  pub begins : Adding old added sin [] → Removing old added sin numbers
  begins a = removing_start old added sin numbers settled table.stands ordered whole a

  pub ends_done : Removing old removed sin [] → Stacked removed new (replaced_entries (replacements sin old.vars)) → Substituted old new
  ends_done r s = record {
    consistent = consistent;
    stand_in = sin;
    stands = table.stands;
    free = λ c h. free_from sin c (λ q. let m = alive_by new.clauses c h in
        let lt = (r.left m.0 c (subst (λ (cs : List (ℕ × List Literal)). Contains cs (m.0, c)) clauses m.1) q).1 in absurd (omega arith));
    passed = λ n c q h. subst (λ (cs : List (ℕ × List Literal)). Contains cs (n, c)) (sym clauses) (r.stay n c q h);
    became = λ c h. subst (λ (w : List (List Literal)). Becomes sin c w) (sym known_same) (r.became c h);
    came = λ c h. let m = alive_by new.clauses c h in ⊎_elim
        (λ (i : Contains old.clauses (m.0, c)). inl (In_Contains (lists old.clauses) c (In_map (λ (x : ℕ × List Literal). x.1) old.clauses (m.0, c) (Contains_In old.clauses (m.0, c) i))))
        (λ (i : Comes sin (lists old.clauses) c). inr i)
        (r.came m.0 c (subst (λ (cs : List (ℕ × List Literal)). Contains cs (m.0, c)) clauses m.1));
    stack = stacked;
    lifted = record {
      fixes = replaced_entries (replacements sin old.vars);
      stack = stacked;
      lifts = subst (λ (w : List (List Literal)). Lifts (known old) w (replaced_entries (replacements sin old.vars))) (sym known_same)
          (lifts_representatives (has_unit old) (lists old.clauses) (known old) (known removed) sin old.vars represented
          (λ l ne. let o = moved_on (has_unit old) (lists old.clauses) old.vars t table l ne in (o.0.low, o.0.high)) r.became);
    };
    units = λ l h. ap (λ (w : WorkState). has w.units l) s.state ∙ r.on.units l h;
    vars = ap (λ (w : WorkState). w.vars) s.state ∙ r.on.vars;
    going = ap (λ (w : WorkState). w.ended) s.state ∙ r.on.going;
    unspent = ap (λ (w : WorkState). w.output.spent) s.state ∙ r.on.unspent;
    quiet = ap (λ (w : WorkState). w.output.faults) s.state ∙ r.on.quiet;
  }
    where
      clauses : new.clauses ≡ removed.clauses
      clauses = ap (λ (w : WorkState). w.clauses) s.state

      known_same : known new ≡ known removed
      known_same = ap known s.state

      stacked : new.stack ≡ old.stack ++ replaced_entries (replacements sin old.vars)
      stacked = ap (λ (w : WorkState). w.stack) s.state ∙ ap (λ x. x ++ replaced_entries (replacements sin old.vars)) r.on.stack
