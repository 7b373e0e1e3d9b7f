-- Numbers by which hints name the clauses and units of a port in memory.
use Rattle.std.proofs.Common.{◌≡◌, ℕ, ◌+◌, ◌≤◌, ◌==◌, ◌⊎◌, cond, Bool, true, false, List, [], ◌∷◌, ◌++◌, refl, sym, ap, subst, ◌∙◌, inl, inr, ⊎_elim, arith, Some}
use Rattle.std.specs.List.{find, All}
use Rattle.std.specs.Option.{option_map}
use Rattle.std.proofs.lemmas.Bool.{eqb-true, eqb-false}
use Rattle.std.proofs.lemmas.List.Elements.{All-append}
use Rattle.sat_words.specs.Literal.{Literal}
use Rattle.rup_model.specs.Hints.{numbered}
use Rattle.rup_model.specs.Journal.{Book}
use Rattle.rup_model.proofs.Lists.{In, In_append, In_append_left, In_append_right, In_map, map_In, In_Contains, Contains_In}
use Rattle.ring_port.specs.PortState.{Holding, PortState, AreNumbered, known_at}
use Rattle.ring_port.specs.PlainPort.{AreNamed, HasNumber, HasNumbers, ArePaired, pairs_of, unit_pairs, unit_lits, told_with}
use Rattle.ring_port.proofs.Holdings.{All_In}
use Rattle.ring_port.proofs.LogSteps.{In_All, one_All}

-- the one clause under a number is found
found_named : (cs : List (ℕ × List Literal)) (n : ℕ) (c : List Literal) → In (n, c) cs → ((d : List Literal) → In (n, d) cs → d ≡ c) → numbered cs n ≡ Some c
found_named [] n c i one = absurd i
found_named (p ∷ cs) n c i one = by (p.0 == n) refl i (λ k. found_named cs n c k (λ d m. one d (inr m)))
  where
    by : (b : Bool) → (p.0 == n) ≡ b → In (n, c) (p ∷ cs) → (In (n, c) cs → numbered cs n ≡ Some c) → option_map (λ (q : ℕ × List Literal). q.1) (cond (p.0 == n) (Some p) (find (λ q. q.0 == n) cs)) ≡ Some c
    by true e k rest = ap (λ b. option_map (λ (q : ℕ × List Literal). q.1) (cond b (Some p) (find (λ q. q.0 == n) cs))) e ∙ ap Some (one p.1 (inl (λ j. (eqb-true p.0 n e j, p.1))))
    by false e k rest = ap (λ b. option_map (λ (q : ℕ × List Literal). q.1) (cond b (Some p) (find (λ q. q.0 == n) cs))) e
        ∙ ⊎_elim (λ (q : p ≡ (n, c)). absurd (eqb-false p.0 n e (ap (λ (z : ℕ × List Literal). z.0) q))) rest k

-- fewer clauses, and more numbers that were given
named_fewer : (last more : ℕ) (cs ds : List (ℕ × List Literal)) → AreNamed last cs → last ≤ more → ((x : ℕ × List Literal) → In x ds → In x cs) → AreNamed more ds
named_fewer last more cs ds h le among = record {
  given = In_All (λ c. c.0 ≤ more) ds (λ x i. (let less = All_In (λ c. c.0 ≤ last) cs x h.given (among x i) in omega arith));
  one = λ n c d i j. h.one n c d (In_Contains cs (n, c) (among (n, c) (Contains_In ds (n, c) i))) (In_Contains cs (n, d) (among (n, d) (Contains_In ds (n, d) j)));
}

-- one clause more, under the next number
named_more : (last : ℕ) (cs ds : List (ℕ × List Literal)) (p : ℕ × List Literal) → AreNamed last cs → p.0 ≡ last + 1 → ((x : ℕ × List Literal) → In x ds → In x cs ⊎ (p ≡ x)) → AreNamed (last + 1) ds
named_more last cs ds p h next among = record {
  given = In_All (λ c. c.0 ≤ last + 1) ds (λ x i. small x (among x i));
  one = λ n c d i j. by n c d (among (n, c) (Contains_In ds (n, c) i)) (among (n, d) (Contains_In ds (n, d) j));
}
  where
    small : (x : ℕ × List Literal) → In x cs ⊎ (p ≡ x) → x.0 ≤ last + 1
    small x (inl k) = let less = All_In (λ c. c.0 ≤ last) cs x h.given k in omega arith
    small x (inr e) = let same = ap (λ (z : ℕ × List Literal). z.0) e in omega arith

    old : (n : ℕ) (c : List Literal) → In (n, c) cs → p.0 ≡ n → ⊥
    old n c i e = let less : n ≤ last = All_In (λ (z : ℕ × List Literal). z.0 ≤ last) cs (n, c) h.given i in absurd (omega arith)

    by : (n : ℕ) (c d : List Literal) → In (n, c) cs ⊎ (p ≡ (n, c)) → In (n, d) cs ⊎ (p ≡ (n, d)) → c ≡ d
    by n c d (inl x) (inl y) = h.one n c d (In_Contains cs (n, c) x) (In_Contains cs (n, d) y)
    by n c d (inl x) (inr y) = absurd (old n c x (ap (λ (z : ℕ × List Literal). z.0) y))
    by n c d (inr x) (inl y) = absurd (old n d y (ap (λ (z : ℕ × List Literal). z.0) x))
    by n c d (inr x) (inr y) = sym (ap (λ (z : ℕ × List Literal). z.1) x) ∙ ap (λ (z : ℕ × List Literal). z.1) y

-- each number names the one clause that has it
pub numbered_all : (s : PortState) (last : ℕ) (opening written : List Literal) → HasNumbers last s.held s.told opening written → All (HasNumber s.told) s.seen → AreNumbered s
numbered_all s last opening written h seen = record {
  held = In_All (λ k. numbered (known_at s) k.number ≡ Some k.lits) s.held (λ k i. at k.number k.lits (In_append_left (pairs_of s.held) (unit_pairs s.told) (k.number, k.lits) (In_map (λ (x : Holding). (x.number, x.lits)) s.held k i)));
  told = In_All (λ u. numbered (known_at s) u.1 ≡ Some (u.0 ∷ [])) s.told (λ u i. at u.1 (u.0 ∷ []) (In_append_right (pairs_of s.held) (unit_pairs s.told) (u.1, u.0 ∷ []) (In_map (λ (x : Literal × ℕ). (x.1, x.0 ∷ [])) s.told u i)));
  seen = seen;
}
  where
    at : (n : ℕ) (c : List Literal) → In (n, c) (known_at s) → numbered (known_at s) n ≡ Some c
    at n c i = found_named (known_at s) n c i (λ d j. h.named.one n d c (In_Contains (known_at s) (n, d) j) (In_Contains (known_at s) (n, c) i))

-- what a port knows of numbers
module _ (last : ℕ) (held : List Holding) (told : List (Literal × ℕ)) (opening written : List Literal) (h : HasNumbers last held told opening written) where
  pub numbers_later : (more : ℕ) → last ≤ more → HasNumbers more held told opening written
  numbers_later more le = record { named = named_fewer last more (pairs_of held ++ unit_pairs told) (pairs_of held ++ unit_pairs told) h.named le (λ x i. i); listed = h.listed; wrote = h.wrote }

  -- some clauses are held no longer
  pub numbers_fewer : (fewer : List Holding) → ((x : Holding) → In x fewer → In x held) → HasNumbers last fewer told opening written
  numbers_fewer fewer among = record { named = named_fewer last last (pairs_of held ++ unit_pairs told) (pairs_of fewer ++ unit_pairs told) h.named (omega arith) back; listed = h.listed; wrote = h.wrote }
    where
      back : (x : ℕ × List Literal) → In x (pairs_of fewer ++ unit_pairs told) → In x (pairs_of held ++ unit_pairs told)
      back x i =
          ⊎_elim
          (λ k.
          (let t = map_In (λ (y : Holding). (y.number, y.lits)) fewer x k in
          In_append_left (pairs_of held) (unit_pairs told) x (subst (λ z. In z (pairs_of held)) t.2 (In_map (λ (y : Holding). (y.number, y.lits)) held t.0 (among t.0 t.1)))))
          (λ k. In_append_right (pairs_of held) (unit_pairs told) x k)
          (In_append (pairs_of fewer) (unit_pairs told) x i)

  -- one clause more is held
  pub numbers_held : (x : Holding) → x.number ≡ last + 1 → HasNumbers (last + 1) (held ++ x ∷ []) told opening written
  numbers_held x next = record { named = named_more last (pairs_of held ++ unit_pairs told) (pairs_of (held ++ x ∷ []) ++ unit_pairs told) (x.number, x.lits) h.named next back; listed = h.listed; wrote = h.wrote }
    where
      new_or_old : (y : Holding) (z : ℕ × List Literal) → (y.number, y.lits) ≡ z → In y held ⊎ In y (x ∷ []) → In z (pairs_of held ++ unit_pairs told) ⊎ ((x.number, x.lits) ≡ z)
      new_or_old y z e (inl m) = inl (In_append_left (pairs_of held) (unit_pairs told) z (subst (λ w. In w (pairs_of held)) e (In_map (λ (k : Holding). (k.number, k.lits)) held y m)))
      new_or_old y z e (inr (inl q)) = inr (ap (λ (k : Holding). (k.number, k.lits)) q ∙ e)
      new_or_old y z e (inr (inr k)) = absurd k

      back : (z : ℕ × List Literal) → In z (pairs_of (held ++ x ∷ []) ++ unit_pairs told) → In z (pairs_of held ++ unit_pairs told) ⊎ ((x.number, x.lits) ≡ z)
      back z i =
          ⊎_elim
          (λ k. (let t = map_In (λ (y : Holding). (y.number, y.lits)) (held ++ x ∷ []) z k in new_or_old t.0 z t.2 (In_append held (x ∷ []) t.0 t.1)))
          (λ k. inl (In_append_right (pairs_of held) (unit_pairs told) z k))
          (In_append (pairs_of (held ++ x ∷ [])) (unit_pairs told) z i)

  -- one unit more is written
  numbers_unit : (l : Literal) (n : ℕ) → n ≡ last + 1 → HasNumbers (last + 1) held (told ++ (l, n) ∷ []) opening (written ++ l ∷ [])
  numbers_unit l n next = record {
    named = named_more last (pairs_of held ++ unit_pairs told) (pairs_of held ++ unit_pairs (told ++ (l, n) ∷ [])) (n, l ∷ []) h.named next back;
    listed = λ k d lt. still (h.listed k d lt);
    wrote = All-append (HasNumber (told ++ (l, n) ∷ [])) written (l ∷ []) (λ k d lt. still (h.wrote k d lt))
        (one_All (HasNumber (told ++ (l, n) ∷ [])) l (n, In_Contains (told ++ (l, n) ∷ []) (l, n) (In_append_right told ((l, n) ∷ []) (l, n) (inl refl))));
  }
    where
      still : {j : Literal} → HasNumber told j → HasNumber (told ++ (l, n) ∷ []) j
      still {j} x = (x.0, In_Contains (told ++ (l, n) ∷ []) (j, x.0) (In_append_left told ((l, n) ∷ []) (j, x.0) (Contains_In told (j, x.0) x.1)))

      new_or_old : (u : Literal × ℕ) (z : ℕ × List Literal) → (u.1, u.0 ∷ []) ≡ z → In u told ⊎ In u ((l, n) ∷ []) → In z (pairs_of held ++ unit_pairs told) ⊎ ((n, l ∷ []) ≡ z)
      new_or_old u z e (inl m) = inl (In_append_right (pairs_of held) (unit_pairs told) z (subst (λ w. In w (unit_pairs told)) e (In_map (λ (y : Literal × ℕ). (y.1, y.0 ∷ [])) told u m)))
      new_or_old u z e (inr (inl q)) = inr (ap (λ (y : Literal × ℕ). (y.1, y.0 ∷ [])) q ∙ e)
      new_or_old u z e (inr (inr k)) = absurd k

      back : (z : ℕ × List Literal) → In z (pairs_of held ++ unit_pairs (told ++ (l, n) ∷ [])) → In z (pairs_of held ++ unit_pairs told) ⊎ ((n, l ∷ []) ≡ z)
      back z i =
          ⊎_elim
          (λ k. inl (In_append_left (pairs_of held) (unit_pairs told) z k))
          (λ k. (let t = map_In (λ (y : Literal × ℕ). (y.1, y.0 ∷ [])) (told ++ (l, n) ∷ []) z k in new_or_old t.0 z t.2 (In_append told ((l, n) ∷ []) t.0 t.1)))
          (In_append (pairs_of held) (unit_pairs (told ++ (l, n) ∷ [])) z i)

  pub numbers_told : (b : Bool) → b ≡ true → (l : Literal) (n : ℕ) → n ≡ last + 1 → HasNumbers (last + 1) held (told_with b told l n) opening (written ++ l ∷ [])
  numbers_told b q l n next = subst (λ (c : Bool). HasNumbers (last + 1) held (told_with c told l n) opening (written ++ l ∷ [])) (sym q) (numbers_unit l n next)

-- clauses that one book has under their numbers
named_by : (b : Book) (last : ℕ) (cs : List (ℕ × List Literal)) → ((n : ℕ) (c : List Literal) → b.clause n ≡ Some c → n ≤ last) → ((x : ℕ × List Literal) → In x cs → b.clause x.0 ≡ Some x.1) → AreNamed last cs
named_by b last cs below alive = record {
  given = In_All (λ c. c.0 ≤ last) cs (λ x i. below x.0 x.1 (alive x i));
  one = λ n c d i j. cc (sym (alive (n, c) (Contains_In cs (n, c) i)) ∙ alive (n, d) (Contains_In cs (n, d) j));
}

-- so it is of the start clauses, and of the units with their numbers
pub numbers_begun : (b : Book) (last : ℕ) (held : List Holding) (units : List (Literal × ℕ)) → ((n : ℕ) (c : List Literal) → b.clause n ≡ Some c → n ≤ last)
    → All (λ k. b.clause k.number ≡ Some k.lits) held → ArePaired b units → HasNumbers last held units (unit_lits units) []
numbers_begun b last held units below starts paired = record {
  named = named_by b last (pairs_of held ++ unit_pairs units) below alive;
  listed = In_All (HasNumber units) (unit_lits units) (λ l i. (let t = map_In (λ (u : Literal × ℕ). u.0) units l i in (t.0.1, In_Contains units (l, t.0.1) (subst (λ (j : Literal). In (j, t.0.1) units) t.2 t.1))));
  wrote = λ k d lt. absurd (omega arith);
}
  where
    at : (p z : ℕ × List Literal) → p ≡ z → b.clause p.0 ≡ Some p.1 → b.clause z.0 ≡ Some z.1
    at p z e is = subst (λ (w : ℕ × List Literal). b.clause w.0 ≡ Some w.1) e is

    alive : (x : ℕ × List Literal) → In x (pairs_of held ++ unit_pairs units) → b.clause x.0 ≡ Some x.1
    alive x i =
        ⊎_elim
        (λ k. (let t = map_In (λ (y : Holding). (y.number, y.lits)) held x k in at (t.0.number, t.0.lits) x t.2 (All_In (λ y. b.clause y.number ≡ Some y.lits) held t.0 starts t.1)))
        (λ k. (let t = map_In (λ (u : Literal × ℕ). (u.1, u.0 ∷ [])) units x k in at (t.0.1, t.0.0 ∷ []) x t.2 (All_In (λ u. b.clause u.1 ≡ Some (u.0 ∷ [])) units t.0 paired t.1)))
        (In_append (pairs_of held) (unit_pairs units) x i)
