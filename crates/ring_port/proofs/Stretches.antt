-- Clauses in words: read, written, and apart from each other.
use Rattle.std.proofs.Common.{◌≡◌, ◌≢◌, ◌⊎◌, ℕ, zero, suc, ◌+◌, ◌/◌, ◌%◌, ◌^◌, ◌<◌, ◌≤◌, ◌==◌, ◌||◌, Bool, true, false, cond, List, [], ◌∷◌, ◌++◌, map, length, get_or, sym, refl, ap, subst, ◌∙◌, arith, ⊎_elim, inl, inr, true≢false, Some, None, IsSome, IfSome, ltb, ltb-false, set, length-set, get_or-set_other, get_or-set_same, drop, Result, Ok, Err}
use Rattle.std.specs.Prelude.{is_ok, is_err, is_none, if◌then◌else◌}
use Rattle.std.specs.declared.option.Option.{Option}
use Rattle.std.specs.List.{All, Contains, slice_get, find, range_with_len, position, remove, position_or_len}
use Rattle.std.proofs.lemmas.Bool.{cases_lt, eqb-true, false≢true}
use Rattle.std.proofs.lemmas.List.{map-append}
use Rattle.std.proofs.lemmas.List.Elements.{All-append}
use Rattle.std.proofs.lemmas.List.FromFn.{length-map-range_with_len, get_or-map-range_with_len, fill_by_all}
use Rattle.std.proofs.lemmas.List.Quantifiers.{position-Some}
use Rattle.std.proofs.lemmas.List.Sums.{fails_before_first}
use Rattle.sat_words.specs.Literal.{Literal, IsOn, literal_of, code_of}
use Rattle.sat_words.specs.Codes.{literal_of-code_of}
use Rattle.sat_words.specs.declared.shared.Cref.{Cref}
use Rattle.rup_model.proofs.Lists.{In, In_append, In_Contains, Contains_In, map_In, In_map}
use Rattle.clause_cell.specs.declared.holes.Hole.{Hole}
use Rattle.clause_cell.specs.Packing.{words_for, pair_of, half, code_at, lit_word}
use Rattle.clause_cell.specs.Free.{is_free, is_within}
use Rattle.clause_cell.proofs.Packed.{half_is, low_half, high_half}
use Rattle.clause_cell.proofs.Ranges.{not_within, within_of}
use Rattle.ring_port.specs.PortState.{Holding, head_of}
use Rattle.ring_port.specs.Deleting.{without_one}
use Rattle.ring_port.specs.Store.{word_at, size_at, words_at, lit_at, lits_of, clause_in, clauses_in, Stands, HaveNoWordInCommon, IsUsed, IsFreed, IsStore, without_ref, IsClaim, IsWritten}
use Rattle.ring_port.proofs.Holdings.{found, All_In}
use Rattle.ring_port.proofs.LogSteps.{In_All, one_All}

-- Elements at places

pub slice_get_is : {X : Type 0} (xs : List X) (i : ℕ) (d : X) → i < length xs → slice_get xs i ≡ Some (get_or xs i d)
slice_get_is [] i d h = absurd (omega arith)
slice_get_is (x ∷ xs) zero d h = refl
slice_get_is (x ∷ xs) (suc i) d h = slice_get_is xs i d (omega arith)

same_map : {X : Type 0} (f g : ℕ → X) (a n : ℕ) → ((i : ℕ) → a ≤ i → i < a + n → f i ≡ g i) → map f (range_with_len a n) ≡ map g (range_with_len a n)
same_map f g a zero h = refl
same_map f g a (suc n) h = λ i. h a (omega arith) (omega arith) i ∷ same_map f g (a + 1) n (λ j lo hi. h j (omega arith) (omega arith)) i

false_unless : (b : Bool) → (b ≡ true → ⊥) → b ≡ false
false_unless true h = absurd (h refl)
false_unless false h = refl

-- A clause read

-- how many literals it has
pub length_lits : (ws : List ℕ) (a : ℕ) → length (lits_of ws a) ≡ size_at ws a
length_lits ws a = length-map-range_with_len (λ i. lit_at ws a i) 0 (size_at ws a)

-- a literal of it
pub lit_is : (ws : List ℕ) (a i : ℕ) (d : Literal) → i < size_at ws a → get_or (lits_of ws a) i d ≡ lit_at ws a i
lit_is ws a i d lt = get_or-map-range_with_len (λ k. lit_at ws a k) 0 (size_at ws a) i i d lt (omega arith)

pub lit_there : (ws : List ℕ) (a i : ℕ) → i < size_at ws a → slice_get (lits_of ws a) i ≡ Some (lit_at ws a i)
lit_there ws a i lt =
    let n = length_lits ws a in
    let d : Literal = lit_at ws a i in
    slice_get_is (lits_of ws a) i d (omega arith) ∙ ap Some (lit_is ws a i d lt)

pub lit_on : (ws : List ℕ) (a i : ℕ) → All (IsOn (2 ^ 30)) (lits_of ws a) → i < size_at ws a → IsOn (2 ^ 30) (lit_at ws a i)
lit_on ws a i on lt =
    let n = length_lits ws a in
    let d : Literal = lit_at ws a i in
    subst (IsOn (2 ^ 30)) (lit_is ws a i d lt) (on i d (omega arith))

-- A clause whose words stay

pub record IsSame (ws vs : List ℕ) (a : ℕ) : Type 0 where
  pub size : size_at vs a ≡ size_at ws a
  pub clause : clause_in vs a ≡ clause_in ws a

pub same_clause : (ws vs : List ℕ) (a : ℕ) → ((w : ℕ) → a ≤ w → w < a + words_at ws a → word_at vs w ≡ word_at ws w) → IsSame ws vs a
same_clause ws vs a h =
    let head : word_at vs (a + 2) ≡ word_at ws (a + 2) = h (a + 2) (omega arith) (omega arith) in
    let number : word_at vs (a + 1) ≡ word_at ws (a + 1) = h (a + 1) (omega arith) (omega arith) in
    let size : size_at vs a ≡ size_at ws a = ap (λ (n : ℕ). n % 2 ^ 32) head in
    let each : (i : ℕ) → 0 ≤ i → i < 0 + size_at ws a → lit_at vs a i ≡ lit_at ws a i = λ i lo hi. ap (λ (n : ℕ). literal_of (half n i)) (h (a + 3 + i / 2) (omega arith) (omega arith)) in
    let lits : lits_of vs a ≡ lits_of ws a = ap (λ (n : ℕ). map (λ i. lit_at vs a i) (range_with_len 0 n)) size ∙ same_map (λ i. lit_at vs a i) (λ i. lit_at ws a i) 0 (size_at ws a) each in
    record {
      size = size;
      clause = λ i. record { address = a; number = number i; glue = ap (λ (n : ℕ). n / 2 ^ 32) head i; lits = lits i };
    }

pub same_clauses : (ws vs : List ℕ) (cs : List Cref) → ((c : Cref) → In c cs → clause_in vs c.address ≡ clause_in ws c.address) → clauses_in vs cs ≡ clauses_in ws cs
same_clauses ws vs [] h = refl
same_clauses ws vs (c ∷ cs) h = λ i. h c (inl refl) i ∷ same_clauses ws vs cs (λ d m. h d (inr m)) i

-- what stands still does
pub still_stands : (ws vs : List ℕ) (hs ks : List Hole) (a : ℕ) → IsSame ws vs a → length ws ≤ length vs → Stands ws hs a → ((w : ℕ) → a ≤ w → w < a + words_at ws a → is_free ks w ≡ false) → Stands vs ks a
still_stands ws vs hs ks a same longer s busy =
    let n : words_at vs a ≡ words_at ws a = ap words_for same.size in
    let fits = s.fits in
    record {
      fits = omega arith;
      busy = λ w lo hi. busy w lo (omega arith);
      on = subst (λ (h : Holding). All (IsOn (2 ^ 30)) h.lits) (sym same.clause) s.on;
    }

-- A clause written

code_there : (lits : List Literal) (i : ℕ) (d : Literal) → i < length lits → code_at lits i ≡ code_of (get_or lits i d)
code_there [] i d lt = absurd (omega arith)
code_there (l ∷ lits) zero d lt = refl
code_there (l ∷ lits) (suc i) d lt = code_there lits i d (omega arith)

small_codes : (lits : List Literal) → All (IsOn (2 ^ 30)) lits → All (λ k. code_of k < 2 ^ 32) lits
small_codes lits on j d lt = let v = (on j d lt).high in let b = bit (get_or lits j d).neg in omega arith
  where
    bit : (b : Bool) → cond b 1 0 ≤ 1
    bit true = omega arith
    bit false = omega arith

pub written_clause : (vs : List ℕ) (a number glue : ℕ) (lits : List Literal) → length lits < 2 ^ 32 → All (IsOn (2 ^ 30)) lits → word_at vs (a + 1) ≡ number → word_at vs (a + 2) ≡ pair_of (length lits) glue
    → ((j : ℕ) → j < (length lits + 1) / 2 → word_at vs (a + 3 + j) ≡ lit_word lits j)
    → (clause_in vs a ≡ record { address = a; number = number; glue = glue; lits = lits }) × (size_at vs a ≡ length lits)
written_clause vs a number glue lits few on first second words =
    let size : size_at vs a ≡ length lits = ap (λ (n : ℕ). n % 2 ^ 32) second ∙ low_half (length lits) glue few in
    let high : word_at vs (a + 2) / 2 ^ 32 ≡ glue = ap (λ (n : ℕ). n / 2 ^ 32) second ∙ high_half (length lits) glue few in
    let d : Literal = record { var = 0; neg = false } in
    let each : (k : ℕ) → k < length lits → get_or lits k d ≡ lit_at vs a k = λ k lt.
    sym (ap (λ (n : ℕ). literal_of (half n k)) (words (k / 2) (omega arith)) ∙ ap literal_of (half_is lits k (small_codes lits on) ∙ code_there lits k d lt) ∙ literal_of-code_of (get_or lits k d)) in
    let all : lits_of vs a ≡ lits = ap (λ (n : ℕ). map (λ i. lit_at vs a i) (range_with_len 0 n)) size ∙ sym (fill_by_all (λ i. lit_at vs a i) lits (length lits) d refl each) in
    ((λ i. record { address = a; number = first i; glue = high i; lits = all i }), size)

-- words with a head, and literals after it
pub put_written : (ws vs : List ℕ) (a number glue head : ℕ) (lits : List Literal) → length lits < 2 ^ 32 → All (IsOn (2 ^ 30)) lits → a + words_for (length lits) ≤ length ws → head ≡ pair_of (length lits) glue
    → length vs ≡ length (set (set (set ws a 1) (a + 1) number) (a + 2) head) → ((j : ℕ) → j < (length lits + 1) / 2 → word_at vs (a + 3 + j) ≡ lit_word lits j)
    → ((w : ℕ) → (w < a + 3) ⊎ (a + 3 + (length lits + 1) / 2 ≤ w) → word_at vs w ≡ word_at (set (set (set ws a 1) (a + 1) number) (a + 2) head) w) → IsWritten ws vs a number glue lits
put_written ws vs a number glue head lits few on fits is long there others =
    let l1 = length-set ws a 1 in
    let l2 = length-set (set ws a 1) (a + 1) number in
    let l3 = length-set (set (set ws a 1) (a + 1) number) (a + 2) head in
    let first : word_at vs (a + 1) ≡ number = others (a + 1) (inl (omega arith))
    ∙ get_or-set_other (set (set ws a 1) (a + 1) number) (a + 2) (a + 1) head 0 (λ e. absurd (omega arith))
    ∙ get_or-set_same (set ws a 1) (a + 1) number 0 (omega arith) in
    let second : word_at vs (a + 2) ≡ pair_of (length lits) glue = others (a + 2) (inl (omega arith)) ∙ get_or-set_same (set (set ws a 1) (a + 1) number) (a + 2) head 0 (omega arith) ∙ is in
    let read = written_clause vs a number glue lits few on first second there in
    record {
      long = omega arith;
      clause = read.0;
      size = read.1;
      on = on;
      others = λ w out. (
          let past : (w < a) ⊎ (a + 3 ≤ w) = ⊎_elim (λ (p : w < a). inl p) (λ (p : a + words_for (length lits) ≤ w). inr (omega arith)) out in
          others w (⊎_elim (λ (p : w < a). inl (omega arith)) (λ (p : a + words_for (length lits) ≤ w). inr (omega arith)) out)
          ∙ get_or-set_other (set (set ws a 1) (a + 1) number) (a + 2) w head 0 (λ e. ⊎_elim (λ (p : w < a). absurd (omega arith)) (λ (p : a + 3 ≤ w). absurd (omega arith)) past)
          ∙ get_or-set_other (set ws a 1) (a + 1) w number 0 (λ e. ⊎_elim (λ (p : w < a). absurd (omega arith)) (λ (p : a + 3 ≤ w). absurd (omega arith)) past)
          ∙ get_or-set_other ws a w 1 0 (λ e. ⊎_elim (λ (p : w < a). absurd (omega arith)) (λ (p : a + 3 ≤ w). absurd (omega arith)) past));
    }

-- Words that were claimed

-- the end of all words is a claim of words after them
pub grown_claim : (ws vs : List ℕ) (hs : List Hole) (need : ℕ) → ((w : ℕ) → is_free hs w ≡ true → w < length ws) → length vs ≡ length ws + need → ((w : ℕ) → w < length ws → word_at vs w ≡ word_at ws w) → IsClaim ws vs hs hs (length ws) need
grown_claim ws vs hs need inside long same = record {
  fits = omega arith;
  longer = omega arith;
  same = same;
  were_free = λ w lo hi lt. absurd (omega arith);
  taken = λ w lo hi. false_unless (is_free hs w) (λ free. (let lt = inside w free in omega arith));
  others = λ w free. free;
}

-- a clause that stands has no word among those that were claimed
pub beside_claim : (ws vs : List ℕ) (hs ks : List Hole) (a need d : ℕ) → 0 < need → IsClaim ws vs hs ks a need → Stands ws hs d → (d + words_at ws d ≤ a) ⊎ (a + need ≤ d)
beside_claim ws vs hs ks a need d some take_words s =
    let fits = s.fits in
    let clash : (w : ℕ) → a ≤ w → w < a + need → d ≤ w → w < d + words_at ws d → ⊥ = λ w lo hi from to. true≢false (sym (take_words.were_free w lo hi (omega arith)) ∙ s.busy w from to) in
    ⊎_elim
    (λ (less : a < d + words_at ws d).
    ⊎_elim
    (λ (under : d < a + need).
    ⊎_elim
    (λ (behind : a < d). absurd (clash d (omega arith) under (omega arith) (omega arith)))
    (λ (before : d ≤ a). absurd (clash a (omega arith) (omega arith) before less))
    (cases_lt a d))
    (λ (past : a + need ≤ d). inr past)
    (cases_lt d (a + need)))
    (λ (before : d + words_at ws d ≤ a). inl before)
    (cases_lt a (d + words_at ws d))

-- a clause is put into them
module _ (ws us vs : List ℕ) (hs ks : List Hole) (a number glue : ℕ) (lits : List Literal) (take_words : IsClaim ws us hs ks a (words_for (length lits))) (put : IsWritten us vs a number glue lits) where
  pub other_same : (d : ℕ) → Stands ws hs d → IsSame ws vs d
  other_same d s = same_clause ws vs d (λ w lo hi.
      (let fits = s.fits in
      put.others w (⊎_elim (λ (before : d + words_at ws d ≤ a). inl (omega arith)) (λ (behind : a + words_for (length lits) ≤ d). inr (omega arith)) (beside_claim ws us hs ks a (words_for (length lits)) d (omega arith) take_words s))
      ∙ take_words.same w (omega arith)))

  pub other_stands : (d : ℕ) → Stands ws hs d → Stands vs ks d
  other_stands d s = still_stands ws vs hs ks d (other_same d s) (let n = put.long in let m = take_words.longer in omega arith) s
      (λ w lo hi. false_unless (is_free ks w) (λ free. true≢false (sym (take_words.others w free) ∙ s.busy w lo hi)))

  pub new_stands : Stands vs ks a
  new_stands =
      let size = put.size in
      let n : words_at vs a ≡ words_for (length lits) = ap words_for put.size in
      record {
        fits = (let f = take_words.fits in let l = put.long in omega arith);
        busy = λ w lo hi. take_words.taken w lo (omega arith);
        on = subst (λ (h : Holding). All (IsOn (2 ^ 30)) h.lits) (sym put.clause) put.on;
      }

  -- it has no word of another
  pub other_apart : (d : ℕ) → Stands ws hs d → HaveNoWordInCommon vs d a
  other_apart d s =
      let e : words_at vs d ≡ words_at ws d = ap words_for (other_same d s).size in
      let n : words_at vs a ≡ words_for (length lits) = ap words_for put.size in
      ⊎_elim (λ (before : d + words_at ws d ≤ a). inl (omega arith)) (λ (behind : a + words_for (length lits) ≤ d). inr (omega arith)) (beside_claim ws us hs ks a (words_for (length lits)) d (omega arith) take_words s)

  swapped : (x y : ℕ) → HaveNoWordInCommon vs x y → HaveNoWordInCommon vs y x
  swapped x y (inl p) = inr p
  swapped x y (inr p) = inl p

  both_moved : (x y : ℕ) → Stands ws hs x → Stands ws hs y → HaveNoWordInCommon ws x y → HaveNoWordInCommon vs x y
  both_moved x y s t p =
      let e : words_at vs x ≡ words_at ws x = ap words_for (other_same x s).size in
      let f : words_at vs y ≡ words_at ws y = ap words_for (other_same y t).size in
      ⊎_elim (λ (q : x + words_at ws x ≤ y). inl (omega arith)) (λ (q : y + words_at ws y ≤ x). inr (omega arith)) p

  pub pushed_store : (start held waiting : List Cref) (front : ℕ) (freed : Option Cref) → IsStore ws hs start held waiting front freed → (c : Cref) → c.address ≡ a
      → (start' held' : List Cref) (front' : ℕ) → All (λ x. x.address < front') start' → ((x : Cref) → IsUsed start' held' waiting x → IsUsed start held waiting x ⊎ (x ≡ c)) → IsStore vs ks start' held' waiting front' freed
  pushed_store start held waiting front freed h c at start' held' front' before used = record {
    stands = λ x u. stands_one x (used x u);
    apart = λ x y u v. apart_one x y (used x u) (used y v);
    inside = λ w free. (let lt = h.inside w (take_words.others w free) in let n = put.long in let m = take_words.longer in omega arith);
    front = before;
    freed = freed_one freed h.freed;
  }
    where
      here : (x : Cref) → x ≡ c → x.address ≡ a
      here x e = ap (λ (y : Cref). y.address) e ∙ at

      stands_one : (x : Cref) → IsUsed start held waiting x ⊎ (x ≡ c) → Stands vs ks x.address
      stands_one x (inl u) = other_stands x.address (h.stands x u)
      stands_one x (inr e) = subst (λ (n : ℕ). Stands vs ks n) (sym (here x e)) new_stands

      near : (x y : Cref) → IsUsed start held waiting x → y ≡ c → HaveNoWordInCommon vs x.address y.address
      near x y u e = subst (λ (n : ℕ). HaveNoWordInCommon vs x.address n) (sym (here y e)) (other_apart x.address (h.stands x u))

      apart_one : (x y : Cref) → IsUsed start held waiting x ⊎ (x ≡ c) → IsUsed start held waiting y ⊎ (y ≡ c) → (x.address ≡ y.address) ⊎ HaveNoWordInCommon vs x.address y.address
      apart_one x y (inl u) (inl v) = ⊎_elim (λ (e : x.address ≡ y.address). inl e) (λ (p : HaveNoWordInCommon ws x.address y.address). inr (both_moved x.address y.address (h.stands x u) (h.stands y v) p)) (h.apart x y u v)
      apart_one x y (inl u) (inr e) = inr (near x y u e)
      apart_one x y (inr e) (inl v) = inr (swapped y.address x.address (near y x v e))
      apart_one x y (inr e) (inr f) = inl (here x e ∙ sym (here y f))

      freed_one : (o : Option Cref) → IfSome o (IsFreed ws hs start held waiting) → IfSome o (IsFreed vs ks start' held' waiting)
      freed_one None f = tt
      freed_one (Some x) f = record {
        stands = other_stands x.address f.stands;
        apart = λ y u. far y (used y u);
      }
        where
          far : (y : Cref) → IsUsed start held waiting y ⊎ (y ≡ c) → HaveNoWordInCommon vs x.address y.address
          far y (inl v) = both_moved x.address y.address f.stands (h.stands y v) (f.apart y v)
          far y (inr e) = subst (λ (n : ℕ). HaveNoWordInCommon vs x.address n) (sym (here y e)) (other_apart x.address f.stands)

  -- what the lists of clauses become
  pub lists_same : (cs : List Cref) → ((c : Cref) → In c cs → Stands ws hs c.address) → clauses_in vs cs ≡ clauses_in ws cs
  lists_same cs s = same_clauses ws vs cs (λ c m. (other_same c.address (s c m)).clause)

  pub list_pushed : (cs : List Cref) (c : Cref) → c.address ≡ a → ((d : Cref) → In d cs → Stands ws hs d.address) → clauses_in vs (cs ++ c ∷ []) ≡ clauses_in ws cs ++ record { address = c.address; number = number; glue = glue; lits = lits } ∷ []
  list_pushed cs c at s =
      map-append (λ (d : Cref). clause_in vs d.address) cs (c ∷ [])
      ∙ ap (λ hs. hs ++ clause_in vs c.address ∷ []) (lists_same cs s)
      ∙ ap (λ (n : ℕ). clauses_in ws cs ++ clause_in vs n ∷ []) at
      ∙ ap (λ h. clauses_in ws cs ++ h ∷ []) put.clause
      ∙ ap (λ (n : ℕ). clauses_in ws cs ++ record { address = n; number = number; glue = glue; lits = lits } ∷ []) (sym at)

  -- its address is none of theirs
  pub not_there : (cs : List Cref) (b : ℕ) → b ≡ a → ((d : Cref) → In d cs → Stands ws hs d.address) → All (λ h. h.address ≢ b) (clauses_in ws cs)
  not_there cs b at s = In_All (λ h. h.address ≢ b) (clauses_in ws cs) (λ x m e. other x (map_In (λ (d : Cref). clause_in ws d.address) cs x m) e)
    where
      other : (x : Holding) → ((d : Cref) × In d cs × (clause_in ws d.address ≡ x)) → x.address ≡ b → ⊥
      other x t e =
          let same : t.0.address ≡ a = ap (λ (h : Holding). h.address) t.2 ∙ e ∙ at in
          ⊎_elim (λ (p : t.0.address + words_at ws t.0.address ≤ a). absurd (omega arith)) (λ (p : a + words_for (length lits) ≤ t.0.address). absurd (omega arith))
          (beside_claim ws us hs ks a (words_for (length lits)) t.0.address (omega arith) take_words (s t.0 t.1))

-- Lists of addresses

pub used_held : (start held waiting : List Cref) (c : Cref) → In c held → IsUsed start held waiting c
used_held start held waiting c m = inr (inl (In_Contains held c m))

pub used_start : (start held waiting : List Cref) (c : Cref) → In c start → IsUsed start held waiting c
used_start start held waiting c m = inl (In_Contains start c m)

pub used_waiting : (start held waiting : List Cref) (c : Cref) → In c waiting → IsUsed start held waiting c
used_waiting start held waiting c m = inr (inr (In_Contains waiting c m))

last_or : (cs : List Cref) (c x : Cref) → Contains (cs ++ c ∷ []) x → Contains cs x ⊎ (x ≡ c)
last_or cs c x m = ⊎_elim (λ (k : In x cs). inl (In_Contains cs x k)) (λ (k : In x (c ∷ [])). inr (one k)) (In_append cs (c ∷ []) x (Contains_In (cs ++ c ∷ []) x m))
  where
    one : In x (c ∷ []) → x ≡ c
    one (inl e) = sym e
    one (inr k) = absurd k

-- those that are used once one more is held
pub used_pushed : (start held waiting : List Cref) (c x : Cref) → IsUsed start (held ++ c ∷ []) waiting x → IsUsed start held waiting x ⊎ (x ≡ c)
used_pushed start held waiting c x (inl m) = inl (inl m)
used_pushed start held waiting c x (inr (inl m)) = ⊎_elim (λ (k : Contains held x). inl (inr (inl k))) (λ (e : x ≡ c). inr e) (last_or held c x m)
used_pushed start held waiting c x (inr (inr m)) = inl (inr (inr m))

-- and where it is a start clause
pub used_started : (start held waiting : List Cref) (c x : Cref) → IsUsed (start ++ c ∷ []) (held ++ c ∷ []) waiting x → IsUsed start held waiting x ⊎ (x ≡ c)
used_started start held waiting c x (inl m) = ⊎_elim (λ (k : Contains start x). inl (inl k)) (λ (e : x ≡ c). inr e) (last_or start c x m)
used_started start held waiting c x (inr m) = used_pushed start held waiting c x (inr m)

-- start clauses stand before the end of all words
pub started_front : (ws : List ℕ) (hs : List Hole) (start held waiting : List Cref) (front : ℕ) (freed : Option Cref) → IsStore ws hs start held waiting front freed
    → (x : Cref) (n : ℕ) → length ws ≤ n → x.address < n → All (λ c. c.address < n) (start ++ x ∷ [])
started_front ws hs start held waiting front freed h x n le lt =
    All-append (λ c. c.address < n) start (x ∷ [])
    (In_All (λ c. c.address < n) start (λ c m. (let fits = (h.stands c (used_start start held waiting c m)).fits in omega arith)))
    (one_All (λ c. c.address < n) x lt)

-- one of those that are held, by its address
pub record IsAmong (ws : List ℕ) (cs : List Cref) (a : ℕ) : Type 0 where
  pub it : Cref
  pub among : In it cs
  pub at : it.address ≡ a
  pub is : find (λ h. h.address == a) (clauses_in ws cs) ≡ Some (clause_in ws a)

pub among_held : (ws : List ℕ) (cs : List Cref) (a : ℕ) → IsSome (find (λ h. h.address == a) (clauses_in ws cs)) → IsAmong ws cs a
among_held ws cs a some =
    let f = found (λ (h : Holding). h.address == a) (clauses_in ws cs) some in
    let t = map_In (λ (d : Cref). clause_in ws d.address) cs f.it f.among in
    let at : t.0.address ≡ a = ap (λ (h : Holding). h.address) t.2 ∙ eqb-true f.it.address a f.passes in
    record { it = t.0; among = t.1; at = at; is = f.is ∙ ap Some (sym t.2 ∙ ap (λ (n : ℕ). clause_in ws n) at) }

-- Dropping

pub clauses_without : (ws : List ℕ) (cs : List Cref) (a : ℕ) → clauses_in ws (without_ref cs a) ≡ without_one (clauses_in ws cs) a
clauses_without ws [] a = refl
clauses_without ws (c ∷ cs) a = by (c.address == a) (clauses_without ws cs a)
  where
    by : (b : Bool) → clauses_in ws (without_ref cs a) ≡ without_one (clauses_in ws cs) a
        → clauses_in ws (cond b cs (c ∷ without_ref cs a)) ≡ cond b (clauses_in ws cs) (clause_in ws c.address ∷ without_one (clauses_in ws cs) a)
    by true e = refl
    by false e = ap (λ hs. clause_in ws c.address ∷ hs) e

in_without : (cs : List Cref) (a : ℕ) (x : Cref) → In x (without_ref cs a) → In x cs
in_without [] a x m = m
in_without (c ∷ cs) a x m = by (c.address == a) m (λ k. in_without cs a x k)
  where
    by : (b : Bool) → In x (cond b cs (c ∷ without_ref cs a)) → (In x (without_ref cs a) → In x cs) → In x (c ∷ cs)
    by true k f = inr k
    by false (inl e) f = inl e
    by false (inr k) f = inr (f k)

-- it is taken out at its place
pub taken_at : (cs : List Cref) (a i : ℕ) (d : Cref) → i < length cs → ((get_or cs i d).address == a) ≡ true → ((k : ℕ) → k < i → ((get_or cs k d).address == a) ≡ false) → remove cs i ≡ without_ref cs a
taken_at [] a i d lt here before = absurd (omega arith)
taken_at (c ∷ cs) a zero d lt here before = sym (ap (λ b. cond b cs (c ∷ without_ref cs a)) here)
taken_at (c ∷ cs) a (suc i) d lt here before = ap (λ xs. c ∷ xs) (taken_at cs a i d (omega arith) here (λ k l. before (suc k) (omega arith))) ∙ sym (ap (λ b. cond b cs (c ∷ without_ref cs a)) (before 0 (omega arith)))

pub taken_out : (cs : List Cref) (a i : ℕ) (d : Cref) → position (λ c. c.address == a) cs ≡ Some i → remove cs i ≡ without_ref cs a
taken_out cs a i d e = let p = position-Some (λ (c : Cref). c.address == a) cs i d e in taken_at cs a i d p.0 p.1 p.2

none_below : (m n : ℕ) → cond (ltb m n) (Some m) None ≡ None → n ≤ m
none_below m n h = by (ltb m n) refl h
  where
    by : (b : Bool) → ltb m n ≡ b → cond b (Some m) None ≡ None → n ≤ m
    by true e g = absurd (cc)
    by false e g = ltb-false m n e

all_other : (cs : List Cref) (a : ℕ) (d : Cref) → ((k : ℕ) → k < length cs → ((get_or cs k d).address == a) ≡ false) → without_ref cs a ≡ cs
all_other [] a d h = refl
all_other (c ∷ cs) a d h = ap (λ b. cond b cs (c ∷ without_ref cs a)) (h 0 (omega arith)) ∙ ap (λ xs. c ∷ xs) (all_other cs a d (λ k lt. h (suc k) (omega arith)))

pub none_out : (cs : List Cref) (a : ℕ) → position (λ c. c.address == a) cs ≡ None → cs ≡ without_ref cs a
none_out cs a e =
    let d : Cref = record { address = 0 } in
    let le = none_below (position_or_len (λ (c : Cref). c.address == a) cs) (length cs) e in
    sym (all_other cs a d (λ k lt. fails_before_first (λ (c : Cref). c.address == a) cs k d (omega arith)))

-- fewer are used
pub fewer_used : (ws : List ℕ) (hs : List Hole) (start held waiting held' waiting' : List Cref) (front : ℕ) (freed : Option Cref) → IsStore ws hs start held waiting front freed
    → ((x : Cref) → IsUsed start held' waiting' x → IsUsed start held waiting x) → IsStore ws hs start held' waiting' front freed
fewer_used ws hs start held waiting held' waiting' front freed h used = record {
  stands = λ x u. h.stands x (used x u);
  apart = λ x y u v. h.apart x y (used x u) (used y v);
  inside = h.inside;
  front = h.front;
  freed = by freed h.freed;
}
  where
    by : (o : Option Cref) → IfSome o (IsFreed ws hs start held waiting) → IfSome o (IsFreed ws hs start held' waiting')
    by None f = tt
    by (Some c) f = record { stands = f.stands; apart = λ d u. f.apart d (used d u) }

-- a clause that is held waits
pub used_dropped : (start held waiting : List Cref) (c y : Cref) → In y held → y.address ≡ c.address → (x : Cref) → IsUsed start (without_ref held c.address) (waiting ++ c ∷ []) x → IsUsed start held waiting x
used_dropped start held waiting c y m at x (inl u) = inl u
used_dropped start held waiting c y m at x (inr (inl u)) = used_held start held waiting x (in_without held c.address x (Contains_In (without_ref held c.address) x u))
used_dropped start held waiting c y m at x (inr (inr u)) = ⊎_elim (λ (k : Contains waiting x). inr (inr k)) (λ (e : x ≡ c). used_held start held waiting x (subst (λ (z : Cref). In z held) (same ∙ sym e) m)) (last_or waiting c x u)
  where
    same : y ≡ c
    same = λ i. record { address = at i }

-- what a queue has after a push that went well
pub pushed_ok : {A E : Type 0} (r : Result A E) (xs ys zs : List Cref) → zs ≡ (if is_ok r then xs else ys) → is_err r ≡ false → zs ≡ xs
pushed_ok (Ok a) xs ys zs e well = e
pushed_ok (Err x) xs ys zs e well = absurd (true≢false well)

-- Freeing

-- the first that waits
pub first_of : (ws : List ℕ) (cs : List Cref) (c : Cref) → 1 ≤ length (clauses_in ws cs) → c ≡ get_or cs 0 c → cs ≡ c ∷ drop 1 cs
first_of ws [] c some e = absurd (omega arith)
first_of ws (d ∷ cs) c some e = ap (λ x. x ∷ cs) (sym e)

pub none_of : (o : Option Cref) → is_none o ≡ true → o ≡ None
none_of None e = refl
none_of (Some c) e = absurd (false≢true e)

-- its head
pub head_is : (ws : List ℕ) (a : ℕ) → record { size = size_at ws a; glue = word_at ws (a + 2) / 2 ^ 32; number = word_at ws (a + 1) } ≡ head_of (clause_in ws a)
head_is ws a = ap (λ (n : ℕ). record { size = n; glue = word_at ws (a + 2) / 2 ^ 32; number = word_at ws (a + 1) }) (sym (length_lits ws a))

-- the first that waits, and that is no start clause, is freed
pub freed_store : (ws : List ℕ) (hs : List Hole) (start held rest : List Cref) (front : ℕ) (c : Cref) → IsStore ws hs start held (c ∷ rest) front None → front ≤ c.address
    → All (λ h. h.address ≢ c.address) (clauses_in ws held) → All (λ h. h.address ≢ c.address) (clauses_in ws rest) → IsStore ws hs start held rest front (Some c)
freed_store ws hs start held rest front c h behind dropped once =
    let fewer = fewer_used ws hs start held (c ∷ rest) held rest front None h (λ x u. more x u) in
    record {
      stands = fewer.stands;
      apart = fewer.apart;
      inside = h.inside;
      front = h.front;
      freed = record {
        stands = h.stands c first;
        apart = λ d u. ⊎_elim (λ (e : c.address ≡ d.address). absurd (other d u (sym e))) (λ (p : HaveNoWordInCommon ws c.address d.address). p) (h.apart c d first (more d u));
      };
    }
  where
    first : IsUsed start held (c ∷ rest) c
    first = used_waiting start held (c ∷ rest) c (inl refl)

    more : (x : Cref) → IsUsed start held rest x → IsUsed start held (c ∷ rest) x
    more x (inl u) = inl u
    more x (inr (inl u)) = inr (inl u)
    more x (inr (inr u)) = used_waiting start held (c ∷ rest) x (inr (Contains_In rest x u))

    other : (d : Cref) → IsUsed start held rest d → d.address ≡ c.address → ⊥
    other d (inl u) e = (let lt = All_In (λ (k : Cref). k.address < front) start d h.front (Contains_In start d u) in omega arith)
    other d (inr (inl u)) e = All_In (λ (k : Holding). k.address ≢ c.address) (clauses_in ws held) (clause_in ws d.address) dropped (In_map (λ (k : Cref). clause_in ws k.address) held d (Contains_In held d u)) e
    other d (inr (inr u)) e = All_In (λ (k : Holding). k.address ≢ c.address) (clauses_in ws rest) (clause_in ws d.address) once (In_map (λ (k : Cref). clause_in ws k.address) rest d (Contains_In rest d u)) e

-- the first that waits is forgotten
pub rest_store : (ws : List ℕ) (hs : List Hole) (start held rest : List Cref) (front : ℕ) (c : Cref) (freed : Option Cref) → IsStore ws hs start held (c ∷ rest) front freed → IsStore ws hs start held rest front freed
rest_store ws hs start held rest front c freed h = fewer_used ws hs start held (c ∷ rest) held rest front freed h (λ x u. more x u)
  where
    more : (x : Cref) → IsUsed start held rest x → IsUsed start held (c ∷ rest) x
    more x (inl u) = inl u
    more x (inr (inl u)) = inr (inl u)
    more x (inr (inr u)) = used_waiting start held (c ∷ rest) x (inr (Contains_In rest x u))

-- the freed stretch is among those that are free
pub settled_store : (ws : List ℕ) (hs ks : List Hole) (start held waiting : List Cref) (front : ℕ) (c : Cref) → IsStore ws hs start held waiting front (Some c)
    → ((w : ℕ) → is_free ks w ≡ (is_within c.address (words_at ws c.address) w || is_free hs w)) → IsStore ws ks start held waiting front None
settled_store ws hs ks start held waiting front c h given = record {
  stands = λ x u. stands_one x (h.stands x u) (h.freed.apart x u);
  apart = h.apart;
  inside = λ w free. inside_one w (is_within c.address (words_at ws c.address) w) refl (sym (given w) ∙ free);
  front = h.front;
  freed = tt;
}
  where
    stands_one : (x : Cref) → Stands ws hs x.address → HaveNoWordInCommon ws c.address x.address → Stands ws ks x.address
    stands_one x s far = record {
      fits = s.fits;
      busy = λ w lo hi. (
          let out : is_within c.address (words_at ws c.address) w ≡ false = not_within c.address (words_at ws c.address) w
          (⊎_elim (λ (p : c.address + words_at ws c.address ≤ x.address). inr (omega arith)) (λ (p : x.address + words_at ws x.address ≤ c.address). inl (omega arith)) far) in
          given w ∙ (λ i. out i || s.busy w lo hi i));
      on = s.on;
    }

    inside_one : (w : ℕ) (b : Bool) → is_within c.address (words_at ws c.address) w ≡ b → (is_within c.address (words_at ws c.address) w || is_free hs w) ≡ true → w < length ws
    inside_one w true e free = (let t = within_of c.address (words_at ws c.address) w e in let hi = t.1 in let fits = h.freed.stands.fits in omega arith)
    inside_one w false e free = h.inside w (sym (ap (λ (q : Bool). q || is_free hs w) e) ∙ free)

-- the addresses of the clauses
pub addresses_are : (ws : List ℕ) (cs : List Cref) → map (λ (h : Holding). record { address = h.address }) (clauses_in ws cs) ≡ cs
addresses_are ws [] = refl
addresses_are ws (c ∷ cs) = ap (λ xs. c ∷ xs) (addresses_are ws cs)
