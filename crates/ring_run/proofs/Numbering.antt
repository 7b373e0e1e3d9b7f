-- What a ring's entries tell of its clauses' numbers, and of its reductions.
use Rattle.std.proofs.Common.{◌≡◌, ◌∙◌, ℕ, ◌+◌, ◌≤◌, Bool, true, false, cond, List, [], ◌∷◌, ◌++◌, length, map, filter, sym, subst, ap, arith, inl, inr, refl, Contains, append-nil, append_assoc, length-append, eq-eqb}
use Rattle.std.proofs.lemmas.List.{map-append}
use Rattle.std.proofs.lemmas.List.Elements.{filter-append}
use Rattle.std.specs.Option.{option_map_or}
use Rattle.std.specs.declared.option.Option.{Option}
use Rattle.sat_words.specs.declared.shared.Cref.{Cref}
use Rattle.rup_model.specs.declared.journal.Addition.{Addition}
use Rattle.rup_model.specs.declared.journal.Entry.{Entry}
use Rattle.rup_model.specs.declared.journal.Entry.TheVariants.{Add, Reduce}
use Rattle.rup_model.specs.Basics.{EachAfter}
use Rattle.rup_model.specs.Journal.{additions, IsSpaced}
use Rattle.rup_model.proofs.Additions.{additions-append}
use Rattle.rup_model.proofs.Lists.{In}
use Rattle.ring_port.specs.PortState.{PortState, Holding, held_at}
use Rattle.ring_port.specs.Deleting.{deletions}
use Rattle.ring_run.specs.Ended.{is_reduction, reductions, IsTimely}
use Rattle.ring_run.specs.Searching.{OnlyWrote, HasGrownLog}
use Rattle.ring_run.specs.Course.{IsInOrder, AreOrdered, numbers, number_at}
use Rattle.ring_run.proofs.Remembering.{held_same}

-- Reductions

reductions_append : (r : ℕ) (J K : List Entry) → reductions r (J ++ K) ≡ reductions r J + reductions r K
reductions_append r J K = ap (λ (xs : List Entry). length xs) (filter-append (is_reduction r) J K) ∙ length-append (filter (is_reduction r) J) (filter (is_reduction r) K)

-- an addition is none
pub reductions_added : (r : ℕ) (J : List Entry) (x : Addition) → reductions r (J ++ Add x ∷ []) ≡ reductions r J
reductions_added r J x = let both = reductions_append r J (Add x ∷ []) in let none : reductions r (Add x ∷ []) ≡ 0 = refl in omega (arith, both, none)

-- nor is a deletion
none_deleted : (r q : ℕ) (hs : List Holding) → reductions r (deletions q hs) ≡ 0
none_deleted r q [] = refl
none_deleted r q (h ∷ hs) = none_deleted r q hs

pub reductions_deleted : (r q : ℕ) (J : List Entry) (hs : List Holding) → reductions r (J ++ deletions q hs) ≡ reductions r J
reductions_deleted r q J hs = let both = reductions_append r J (deletions q hs) in let none = none_deleted r q hs in omega (arith, both, none)

pub reductions_reduced : (r : ℕ) (J : List Entry) → reductions r (J ++ Reduce r ∷ []) ≡ reductions r J + 1
reductions_reduced r J =
    let both = reductions_append r J (Reduce r ∷ []) in
    let one : reductions r (Reduce r ∷ []) ≡ 1 = ap (λ (b : Bool). length (cond b (Reduce r ∷ []) [])) (eq-eqb r r refl) in
    omega (arith, both, one)

-- by a call that writes nothing, or one entry
pub reductions_still : (s u : PortState) → u.ring ≡ s.ring → u.mine ≡ s.mine → reductions u.ring u.mine ≡ reductions s.ring s.mine
reductions_still s u ring mine = ap (λ (r : ℕ). reductions r u.mine) ring ∙ ap (reductions s.ring) mine

pub reductions_other : (s u : PortState) (x : Addition) → u.ring ≡ s.ring → u.mine ≡ s.mine ++ Add x ∷ [] → reductions u.ring u.mine ≡ reductions s.ring s.mine
reductions_other s u x ring mine = ap (λ (r : ℕ). reductions r u.mine) ring ∙ ap (reductions s.ring) mine ∙ reductions_added s.ring s.mine x

pub grown_none : (s u : PortState) → u.mine ≡ s.mine → HasGrownLog s u
grown_none s u mine = ([], mine ∙ sym (append-nil s.mine))

pub grown_then : (s u w : PortState) → HasGrownLog s u → HasGrownLog u w → HasGrownLog s w
grown_then s u w p q = (p.0 ++ q.0, q.1 ∙ ap (λ (J : List Entry). J ++ q.0) p.1 ∙ append_assoc s.mine p.0 q.0)

-- reductions in time are spaced
pub timely_spaced : (before J : List Entry) → EachAfter IsTimely before J → EachAfter IsSpaced before J
timely_spaced before [] h = tt
timely_spaced before (e ∷ J) h = (one e h.0, timely_spaced (before ++ e ∷ []) J h.1)
  where
    one : (x : Entry) → IsTimely before x → IsSpaced before x
    one (Add x) k = tt
    one (Rattle.rup_model.specs.declared.journal.Entry.TheVariants.Del r n) k = tt
    one (Reduce r) k = omega (arith, k)
    one (Rattle.rup_model.specs.declared.journal.Entry.TheVariants.Round x) k = tt

-- Some of the numbers, in their order

none_in : (ys : List ℕ) → IsInOrder ys []
none_in [] = tt
none_in (y ∷ ys) = tt

in_tail : (ys : List ℕ) (x : ℕ) (xs : List ℕ) → IsInOrder ys (x ∷ xs) → IsInOrder ys xs
in_tail [] x xs h = absurd h
in_tail (y ∷ ys) x [] h = tt
in_tail (y ∷ ys) x (z ∷ xs) (inl p) = inr p.1
in_tail (y ∷ ys) x (z ∷ xs) (inr q) = inr (in_tail ys x (z ∷ xs) q)

in_more : (ys zs xs : List ℕ) → IsInOrder ys xs → IsInOrder (ys ++ zs) xs
in_more [] zs [] h = none_in zs
in_more [] zs (x ∷ xs) h = absurd h
in_more (y ∷ ys) zs [] h = tt
in_more (y ∷ ys) zs (x ∷ xs) (inl p) = inl (p.0, in_more ys zs xs p.1)
in_more (y ∷ ys) zs (x ∷ xs) (inr q) = inr (in_more ys zs (x ∷ xs) q)

in_last : (ys xs : List ℕ) (n : ℕ) → IsInOrder ys xs → IsInOrder (ys ++ n ∷ []) (xs ++ n ∷ [])
in_last [] [] n h = inl (refl, tt)
in_last [] (x ∷ xs) n h = absurd h
in_last (y ∷ ys) [] n h = inr (in_last ys [] n (none_in ys))
in_last (y ∷ ys) (x ∷ xs) n (inl p) = inl (p.0, in_last ys xs n p.1)
in_last (y ∷ ys) (x ∷ xs) n (inr q) = inr (in_last ys (x ∷ xs) n q)

in_without : (ys front back : List ℕ) (n : ℕ) → IsInOrder ys (front ++ n ∷ back) → IsInOrder ys (front ++ back)
in_without [] [] back n h = absurd h
in_without [] (x ∷ front) back n h = absurd h
in_without (y ∷ ys) [] back n h = in_tail (y ∷ ys) n back h
in_without (y ∷ ys) (x ∷ front) back n (inl p) = inl (p.0, in_without ys front back n p.1)
in_without (y ∷ ys) (x ∷ front) back n (inr q) = inr (in_without ys (x ∷ front) back n q)

in_keep : (ys : List ℕ) (x : ℕ) (xs zs : List ℕ) → ((ws : List ℕ) → IsInOrder ws xs → IsInOrder ws zs) → IsInOrder ys (x ∷ xs) → IsInOrder ys (x ∷ zs)
in_keep [] x xs zs f h = absurd h
in_keep (y ∷ ys) x xs zs f (inl p) = inl (p.0, f ys p.1)
in_keep (y ∷ ys) x xs zs f (inr q) = inr (in_keep ys x xs zs f q)

in_filter : (f : Cref → ℕ) (p : Cref → Bool) (cs : List Cref) (ys : List ℕ) → IsInOrder ys (map f cs) → IsInOrder ys (map f (filter p cs))
in_filter f p [] ys h = h
in_filter f p (c ∷ cs) ys h = by (p c) (λ ws k. in_filter f p cs ws k) h
  where
    by : (b : Bool) → ((ws : List ℕ) → IsInOrder ws (map f cs) → IsInOrder ws (map f (filter p cs))) → IsInOrder ys (f c ∷ map f cs) → IsInOrder ys (map f (cond b (c ∷ filter p cs) (filter p cs)))
    by true rest k = in_keep ys (f c) (map f cs) (map f (filter p cs)) rest k
    by false rest k = rest ys (in_tail ys (f c) (map f cs) k)

-- Clauses in the order of their lines

-- the clauses are held as they were, and entries came after that note no reduction
pub record KeepsListed (s u : PortState) (cs : List Cref) : Type 0 where
  pub held : (c : Cref) → Contains cs c → held_at u c.address ≡ held_at s c.address
  pub grown : HasGrownLog s u
  pub noted : reductions u.ring u.mine ≡ reductions s.ring s.mine

pub kept_none : (s : PortState) (cs : List Cref) → KeepsListed s s cs
kept_none s cs = record { held = λ c m. refl; grown = grown_none s s refl; noted = refl }

pub kept_wrote : (s u : PortState) (cs : List Cref) → OnlyWrote s u → KeepsListed s u cs
kept_wrote s u cs w = record { held = λ c m. held_same s u c.address w.held; grown = w.grown; noted = w.reduced }

pub kept_looked : (s u : PortState) (cs : List Cref) (looks : ℕ) → u ≡ record s { looks = looks } → KeepsListed s u cs
kept_looked s u cs looks is = record {
  held = λ c m. held_same s u c.address (ap (λ (x : PortState). x.held) is);
  grown = grown_none s u (ap (λ (x : PortState). x.mine) is);
  noted = reductions_still s u (ap (λ (x : PortState). x.ring) is) (ap (λ (x : PortState). x.mine) is);
}

numbers_grown : (s u : PortState) → (k : HasGrownLog s u) → numbers u ≡ numbers s ++ map (λ (x : Addition). x.number) (additions k.0)
numbers_grown s u k =
    ap (λ (J : List Entry). map (λ (x : Addition). x.number) (additions J)) k.1 ∙ ap (map (λ (x : Addition). x.number)) (additions-append s.mine k.0)
    ∙ map-append (λ (x : Addition). x.number) (additions s.mine) (additions k.0)

-- the numbers of clauses that are held as they were
pub numbers_alike : (s u : PortState) (cs : List Cref) → ((c : Cref) → In c cs → held_at u c.address ≡ held_at s c.address)
    → map (λ (c : Cref). number_at u c.address) cs ≡ map (λ (c : Cref). number_at s c.address) cs
numbers_alike s u [] f = refl
numbers_alike s u (c ∷ cs) f = λ i. option_map_or (λ (h : Holding). h.number) (f c (inl refl) i) 0 ∷ numbers_alike s u cs (λ d m. f d (inr m)) i

-- after more entries
ordered_grown : (s u : PortState) (ns : List ℕ) → HasGrownLog s u → IsInOrder (numbers s) ns → IsInOrder (numbers u) ns
ordered_grown s u ns k h = subst (λ (ys : List ℕ). IsInOrder ys ns) (sym (numbers_grown s u k)) (in_more (numbers s) (map (λ (x : Addition). x.number) (additions k.0)) ns h)

pub ordered_kept : (s u : PortState) (cs : List Cref) → ((c : Cref) → In c cs → held_at u c.address ≡ held_at s c.address) → HasGrownLog s u → AreOrdered s cs → AreOrdered u cs
ordered_kept s u cs held grown h =
    ordered_grown s u (map (λ (c : Cref). number_at u c.address) cs) grown (subst (IsInOrder (numbers s)) (sym (numbers_alike s u cs held)) h)

-- a clause whose line is the last joins them
pub ordered_joined : (s u : PortState) (cs : List Cref) (d : Cref) → ((c : Cref) → In c cs → held_at u c.address ≡ held_at s c.address) → numbers u ≡ numbers s ++ number_at u d.address ∷ [] → AreOrdered s cs → AreOrdered u (cs ++ d ∷ [])
ordered_joined s u cs d held last h =
    let f : Cref → ℕ = λ c. number_at u c.address in
    subst (IsInOrder (numbers u)) (sym (map-append f cs (d ∷ [])))
    (subst (λ (ys : List ℕ). IsInOrder ys (map f cs ++ f d ∷ [])) (sym last) (in_last (numbers s) (map f cs) (f d) (subst (IsInOrder (numbers s)) (sym (numbers_alike s u cs held)) h)))

-- one of them goes
pub ordered_without : (s : PortState) (front back : List Cref) (c : Cref) → AreOrdered s (front ++ c ∷ back) → AreOrdered s (front ++ back)
ordered_without s front back c h =
    let f : Cref → ℕ = λ d. number_at s d.address in
    subst (IsInOrder (numbers s)) (sym (map-append f front back))
    (in_without (numbers s) (map f front) (map f back) (f c) (subst (IsInOrder (numbers s)) (map-append f front (c ∷ back)) h))

-- some of them are left
pub ordered_filter : (s : PortState) (p : Cref → Bool) (cs : List Cref) → AreOrdered s cs → AreOrdered s (filter p cs)
ordered_filter s p cs h = in_filter (λ c. number_at s c.address) p cs (numbers s) h

pub ordered_none : (s : PortState) → AreOrdered s []
ordered_none s = none_in (numbers s)

-- the numbers after one addition more
pub numbers_added : (s u : PortState) (x : Addition) → u.mine ≡ s.mine ++ Add x ∷ [] → numbers u ≡ numbers s ++ x.number ∷ []
numbers_added s u x mine = numbers_grown s u (Add x ∷ [], mine)

-- the glue and the number of a clause that is held as it was
pub glue_kept : (o p : Option Holding) → o ≡ p → 1 ≤ option_map_or (λ (h : Holding). h.glue) p 0 → 1 ≤ option_map_or (λ (h : Holding). h.glue) o 0
glue_kept o p is h = subst (λ (q : Option Holding). 1 ≤ option_map_or (λ (x : Holding). x.glue) q 0) (sym is) h
