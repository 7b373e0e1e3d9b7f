-- Lists that are parted by a test.
use Rattle.std.proofs.Common.{◌≡◌, ◌∙◌, ℕ, zero, suc, ◌<◌, ◌+◌, Bool, true, false, cond, List, [], ◌∷◌, ◌++◌, length, map, take, get_or, Option, None, sym, refl, ap, arith, append-nil}
use Rattle.std.specs.List.{filter}
use Rattle.std.proofs.lemmas.List.Elements.{filter_more}
use Rattle.sat_words.specs.declared.shared.Cref.{Cref}
use Rattle.reduce_db.specs.declared.candidate.Candidate.{Candidate}
use Rattle.reduce_db.specs.Ranking.{is_dropped}

abbrev pub no_cref : Cref
no_cref = record { address = 0 }

pub filter_in : {X : Type 0} (p : X → Bool) (xs : List X) (i : ℕ) (d : X) → i < length xs → p (get_or xs i d) ≡ true → filter p (take (i + 1) xs) ≡ filter p (take i xs) ++ get_or xs i d ∷ []
filter_in p xs i d lt e = filter_more p xs i d lt ∙ ap (λ (b : Bool). filter p (take i xs) ++ cond b (get_or xs i d ∷ []) []) e

pub filter_out : {X : Type 0} (p : X → Bool) (xs : List X) (i : ℕ) (d : X) → i < length xs → p (get_or xs i d) ≡ false → filter p (take (i + 1) xs) ≡ filter p (take i xs)
filter_out p xs i d lt e = filter_more p xs i d lt ∙ ap (λ (b : Bool). filter p (take i xs) ++ cond b (get_or xs i d ∷ []) []) e ∙ append-nil (filter p (take i xs))

map_at : {X Y : Type 0} (f : X → Y) (xs : List X) (i : ℕ) (d : X) (e : Y) → i < length xs → get_or (map f xs) i e ≡ f (get_or xs i d)
map_at f [] i d e lt = absurd (omega arith)
map_at f (x ∷ xs) zero d e lt = refl
map_at f (x ∷ xs) (suc i) d e lt = map_at f xs i d e (omega arith)

-- the answer for the lemma at a place
pub goes_at : (f : Cref → Option Candidate) (lemmas : List Cref) (candidates : List (Option Candidate)) (first : Option Candidate) (i : ℕ) (b r : Bool) → candidates ≡ map f lemmas → i < length lemmas → r ≡ is_dropped first (get_or candidates i None) → r ≡ b → is_dropped first (f (get_or lemmas i no_cref)) ≡ b
goes_at f lemmas candidates first i b r e lt is q =
    ap (is_dropped first) (sym (map_at f lemmas i no_cref None lt) ∙ ap (λ (cs : List (Option Candidate)). get_or cs i None) (sym e)) ∙ sym is ∙ q
