-- What the bytes that were taken from a source say of its text.
use Rattle.std.proofs.Common.{◌≡◌, ◌∙◌, ℕ, ◌+◌, ◌-◌, ◌≤◌, ◌<◌, ◌^◌, Bool, true, false, cond, zero, suc, inl, inr, List, [], ◌∷◌, ◌++◌, length, take, get_or, sym, ap, subst, refl, arith, length-append, append_assoc, append-nil}
use Rattle.std.proofs.lemmas.Bool.{cases_lt}
use Rattle.std.specs.Prelude.{Result, Ok, Err, Some, None, IfSome}
use Rattle.std.specs.declared.option.Option.{Option}
use Rattle.std.specs.Io.KnownBytes.{prepend_known, IsAtEnd}
use Rattle.sat_words.specs.FormulaData.{FormulaData}
use Rattle.io_edge.specs.Bytes.{Gives as Hands}
use Rattle.dimacs_read.specs.Grammar.{Outcome, outcome, front, later, is_newline, lines}
use Rattle.dimacs_read.specs.Input.{Shows, separator, Gives, Short, Determined, Long}
use Rattle.dimacs_read.specs.Answer.{IsOpen, IsReadNoFurther, IsAnswer}
use Rattle.dimacs_read.specs.Body.{IsLawful}
use Rattle.dimacs_read.specs.Reader.{meaning, newlines, Takes, Halts, Replies, Answers, IsDetermined, FoundLate, Known, Unknown, FoundBy, Before, Behind}
use Rattle.dimacs_read.specs.declared.reader.Reader.{Reader}
use Rattle.dimacs_read.specs.declared.stop.Code.TheVariants.{Limit}
use Rattle.dimacs_read.specs.declared.stop.Halt.{Halt}
use Rattle.dimacs_read.specs.declared.stop.Halt.TheVariants.{Bad, Done, Memory}
use Rattle.dimacs_read.specs.declared.stop.ReadStop.{ReadStop}
use Rattle.dimacs_read.specs.declared.stop.ReadStop.TheVariants.{Bad as BadInput, ReadFault, Memory as NoMemory}
use Rattle.dimacs_read.proofs.Undecided.{undecided, nothing_shown}

-- the reader stands behind the bytes that the source gave
pub record HasTaken (left rest : Option (List ℕ)) (r : Reader) (count : ℕ) : Type 0 where
  pub taken : List ℕ
  pub took : Hands left rest taken
  pub count_is : count ≡ length taken
  pub few : count ≤ 2 ^ 33
  pub means : (more : List ℕ) → meaning r more ≡ outcome (taken ++ more)
  pub lawful : IsLawful r.body
  pub newlines_are : r.newlines ≡ newlines taken

newlines_by : (t : Bool) (f : List ℕ) (l : List (List ℕ)) → length (cond t (f ∷ l) l) ≤ 1 + length l
newlines_by true f l = omega arith
newlines_by false f l = omega arith

few_newlines : (bytes : List ℕ) → newlines bytes ≤ length bytes
few_newlines [] = omega arith
few_newlines (b ∷ bytes) = omega (arith, newlines_by (is_newline b) (front is_newline bytes) (later is_newline bytes), few_newlines bytes)

added : (t : Bool) (f g : List ℕ) (l m : List (List ℕ)) (n : ℕ) → length l ≡ length m + n → length (cond t (f ∷ l) l) ≡ length (cond t (g ∷ m) m) + n
added true f g l m n e = omega (arith, e)
added false f g l m n e = e

more_newlines : (a b : List ℕ) → newlines (a ++ b) ≡ newlines a + newlines b
more_newlines [] b = omega arith
more_newlines (x ∷ a) b =
    added (is_newline x) (front is_newline (a ++ b)) (front is_newline a) (later is_newline (a ++ b)) (later is_newline a) (newlines b) (more_newlines a b)

pub room_for : (left rest : Option (List ℕ)) (r : Reader) (count : ℕ) → HasTaken left rest r count → r.newlines ≤ 2 ^ 33
room_for left rest r count has = omega (arith, few_newlines has.taken, has.newlines_are, has.count_is, has.few)

-- a source that hands bytes over, if it says its text
told : (left rest : Option (List ℕ)) (bytes : List ℕ) (Q : List ℕ → Type 0) → Hands left rest bytes → ((m : List ℕ) → rest ≡ Some m → Q (bytes ++ m)) → IfSome left Q
told None rest bytes Q hands all = tt
told (Some text) None bytes Q hands all = let no_text : Some text ≡ None = hands in absurd (cc)
told (Some text) (Some m) bytes Q hands all =
    let same : text ≡ bytes ++ m = cc in
    subst Q (sym same) (all m refl)

map_answers : (result : Result FormulaData ReadStop) (P Q : Outcome → Type 0) → ((found : Outcome) → P found → Q found) → Answers result P → Answers result Q
map_answers (Ok formula) P Q all h = all _ h
map_answers (Err (BadInput code line)) P Q all h = all _ h
map_answers (Err ReadFault) P Q all h = h
map_answers (Err NoMemory) P Q all h = tt

told_answer : (left rest : Option (List ℕ)) (result : Result FormulaData ReadStop) → Answers result (λ found. IfSome left (λ text. Gives text found)) → IsAnswer left rest result
told_answer left rest (Ok formula) h = h
told_answer left rest (Err (BadInput code line)) h = h
told_answer left rest (Err ReadFault) h = absurd h
told_answer left rest (Err NoMemory) h = tt

hands_more : (left mid rest : Option (List ℕ)) (a b : List ℕ) → Hands left mid a → Hands mid rest b → Hands left rest (a ++ b)
hands_more left mid None a b p q = p ∙ ap (prepend_known a) q
hands_more left mid (Some m) a b p q = p ∙ ap (prepend_known a) q ∙ ap (λ (t : List ℕ). Some t) (sym (append_assoc a b m))

-- no byte was handed over
hands_nothing : (left : Option (List ℕ)) → Hands left left []
hands_nothing None = refl
hands_nothing (Some m) = refl

pub at_start : (left : Option (List ℕ)) (r : Reader) → ((text : List ℕ) → meaning r text ≡ outcome text) → IsLawful r.body → r.newlines ≡ 0 → HasTaken left left r 0
at_start left r means lawful none = record { taken = []; took = hands_nothing left; count_is = refl; few = omega arith; means = means; lawful = lawful; newlines_are = none }

pub took_more : (left mid rest : Option (List ℕ)) (r s : Reader) (count n : ℕ) (piece : List ℕ) → HasTaken left mid r count → Hands mid rest piece → Takes r piece s
    → n ≡ length piece → count + n ≤ 2 ^ 33 → HasTaken left rest s (count + n)
took_more left mid rest r s count n piece has hands takes size few = record {
  taken = has.taken ++ piece;
  took = hands_more left mid rest has.taken piece has.took hands;
  count_is = omega (arith, length-append has.taken piece, has.count_is, size);
  few = few;
  means = λ more. takes.rest more ∙ has.means (piece ++ more) ∙ ap outcome (sym (append_assoc has.taken piece more));
  lawful = takes.lawful;
  newlines_are = takes.newlines ∙ ap (λ (k : ℕ). k + newlines piece) has.newlines_are ∙ sym (more_newlines has.taken piece);
}

pub is_open : (left rest : Option (List ℕ)) (r : Reader) (count : ℕ) → HasTaken left rest r count → IsOpen left rest
is_open left rest r count has = record {
  taken = has.taken;
  took = has.took;
  few = omega (arith, has.few, has.count_is);
  undetermined = λ found shows. undecided r.spot r.newlines r.body found (λ more. has.means more ∙ shows more);
}

-- the last read failed
pub no_further : (left rest : Option (List ℕ)) (r : Reader) (count : ℕ) → HasTaken left rest r count → IsReadNoFurther left rest
no_further left rest r count has = record { between = rest; before = is_open left rest r count has; piece = []; gave = hands_nothing rest; short = omega arith }

-- the last read gave these bytes
pub a_piece_further : (left mid rest : Option (List ℕ)) (r : Reader) (count n : ℕ) (piece : List ℕ) → HasTaken left mid r count → Hands mid rest piece → n ≡ length piece → n ≤ 2 ^ 16
    → IsReadNoFurther left rest
a_piece_further left mid rest r count n piece has hands size few = record { between = mid; before = is_open left mid r count has; piece = piece; gave = hands; short = omega (arith, size, few) }

-- nothing was read
pub unread : (left : Option (List ℕ)) → IsReadNoFurther left left
unread left = record {
  between = left;
  before = record { taken = []; took = hands_nothing left; few = omega arith; undetermined = λ found shows. nothing_shown found shows };
  piece = [];
  gave = hands_nothing left;
  short = omega arith;
}

-- the text ends here
pub ended : (left mid rest : Option (List ℕ)) (r : Reader) (count : ℕ) (result : Result FormulaData ReadStop) → HasTaken left mid r count → mid ≡ rest → IsAtEnd rest
    → Answers result (λ found. meaning r [] ≡ found) → IsAnswer left rest result
ended left mid rest r count result has same at_end answers =
    told_answer left rest result (map_answers result (λ found. meaning r [] ≡ found) (λ found. IfSome left (λ text. Gives text found))
    (λ found is. told left mid has.taken (λ text. Gives text found) has.took (λ m told_mid. whole found is m (last m rest (sym same ∙ told_mid) at_end))) answers)
  where
    last : (m : List ℕ) (rest : Option (List ℕ)) → rest ≡ Some m → IsAtEnd rest → m ≡ []
    last m None e end = cc
    last m (Some t) e end = let same : t ≡ m = cc in sym same ∙ end

    whole : (found : Outcome) → meaning r [] ≡ found → (m : List ℕ) → m ≡ [] → Gives (has.taken ++ m) found
    whole found is m none =
        subst (λ (t : List ℕ). Gives (has.taken ++ t) found) (sym none)
        (Short (omega (arith, length-append has.taken [], has.few, has.count_is)) (sym (has.means []) ∙ is))

split_at : (m : List ℕ) (k : ℕ) → k < length m → (more : List ℕ) × (m ≡ take k m ++ get_or m k 0 ∷ more)
split_at [] k h = absurd (omega (arith, h))
split_at (x ∷ m) zero h = (m, refl)
split_at (x ∷ m) (suc k) h =
    let r = split_at m k (omega (arith, h)) in
    (r.0, ap (λ (t : List ℕ). x ∷ t) r.1)

pub split_take : (m : List ℕ) (k n : ℕ) → k < n → n ≤ length m → (more : List ℕ) × (take n m ≡ take k m ++ get_or m k 0 ∷ more)
split_take [] k n h few = absurd (omega (arith, h, few))
split_take (x ∷ m) k zero h few = absurd (omega (arith, h))
split_take (x ∷ m) zero (suc n) h few = (take n m, refl)
split_take (x ∷ m) (suc k) (suc n) h few =
    let r = split_take m k n (omega (arith, h)) (omega (arith, few)) in
    (r.0, ap (λ (t : List ℕ). x ∷ t) r.1)

pub take_length : (m : List ℕ) (k : ℕ) → k ≤ length m → length (take k m) ≡ k
take_length [] zero h = refl
take_length [] (suc k) h = absurd (omega (arith, h))
take_length (x ∷ m) zero h = refl
take_length (x ∷ m) (suc k) h = ap suc (take_length m k (omega (arith, h)))

-- bytes that determine what the text is do so for each text that begins with them
long_text : (begin m : List ℕ) (found : Outcome) → length begin ≤ 2 ^ 33 → 2 ^ 33 < length (begin ++ m) → Shows begin found → Gives (begin ++ m) found
long_text begin m found few long shows =
    let k = 2 ^ 33 - length begin in
    let size : length (begin ++ m) ≡ length begin + length m = length-append begin m in
    let within : k < length m = omega (arith, size) in
    let cut = split_at m k within in
    let byte = get_or m k 0 in
    let head = begin ++ take k m in
    let sizes : length head ≡ length begin + length (take k m) = length-append begin (take k m) in
    let taken : length (take k m) ≡ k = take_length m k (omega arith) in
    Determined head byte
    (record {
      more = cut.0;
      split = ap (λ (t : List ℕ). begin ++ t) cut.1 ∙ sym (append_assoc begin (take k m) (byte ∷ cut.0));
      limit = omega arith;
    })
    (λ more. ap outcome (append_assoc head (separator byte) more ∙ append_assoc begin (take k m) (separator byte ++ more)) ∙ shows (take k m ++ (separator byte ++ more)))

determined : (begin m : List ℕ) (found : Outcome) → length begin ≤ 2 ^ 33 → Shows begin found → Gives (begin ++ m) found
determined begin m found few shows =
    elim (cases_lt (2 ^ 33) (length (begin ++ m))) [
      | inl long ↦ long_text begin m found few long shows
      | inr short ↦ Short short (shows m)
    ]

shows_taken : (left mid : Option (List ℕ)) (r : Reader) (count : ℕ) (has : HasTaken left mid r count) (piece : List ℕ) (found : Outcome) → IsDetermined r piece found
    → Shows (has.taken ++ piece) found
shows_taken left mid r count has piece found det = λ more.
    ap outcome (append_assoc has.taken piece more) ∙ sym (has.means (piece ++ more)) ∙ det more

determined_told : (left mid rest : Option (List ℕ)) (r : Reader) (count : ℕ) (piece front others : List ℕ) (found : Outcome) → HasTaken left mid r count → Hands mid rest piece
    → piece ≡ front ++ others → count + length front ≤ 2 ^ 33 → IsDetermined r front found → IfSome left (λ text. Gives text found)
determined_told left mid rest r count piece front others found has hands split few det =
    told left rest (has.taken ++ piece) (λ text. Gives text found) (hands_more left mid rest has.taken piece has.took hands)
    (λ m is. subst (λ (t : List ℕ). Gives t found) (sym (whole m))
    (determined (has.taken ++ front) (others ++ m) found (omega (arith, length-append has.taken front, has.count_is)) (shows_taken left mid r count has front found det)))
  where
    whole : (m : List ℕ) → (has.taken ++ piece) ++ m ≡ (has.taken ++ front) ++ (others ++ m)
    whole m =
        ap (λ (t : List ℕ). (has.taken ++ t) ++ m) split ∙ append_assoc has.taken (front ++ others) m
        ∙ ap (λ (t : List ℕ). has.taken ++ t) (append_assoc front others m) ∙ sym (append_assoc has.taken front (others ++ m))

-- the reader was stopped in the piece
pub stopped : (left mid rest : Option (List ℕ)) (r s : Reader) (count : ℕ) (piece : List ℕ) (stop : Halt) (result : Result FormulaData ReadStop) → HasTaken left mid r count
    → Hands mid rest piece → count + length piece ≤ 2 ^ 33 → Halts r piece stop s → Replies stop s result → IsAnswer left rest result
stopped left mid rest r s count piece (Bad code) result has hands few halts replies =
    subst (λ (a : Result FormulaData ReadStop). IsAnswer left rest a) (sym replies)
    (determined_told left mid rest r count piece piece [] _ has hands (sym (append-nil piece)) few halts)
stopped left mid rest r s count piece Done result has hands few halts replies =
    subst (λ (a : Result FormulaData ReadStop). IsAnswer left rest a) (sym replies)
    (determined_told left mid rest r count piece piece [] _ has hands (sym (append-nil piece)) few halts.0)
stopped left mid rest r s count piece Memory result has hands few halts replies =
    subst (λ (a : Result FormulaData ReadStop). IsAnswer left rest a) (sym replies) tt

late_gives : (front : List ℕ) (byte : ℕ) (more : List ℕ) (s : Reader) (found : Outcome) → length front ≡ 2 ^ 33 → ((t : List ℕ) → meaning s t ≡ outcome (front ++ t))
    → s.newlines ≡ newlines front → FoundLate s byte found → Gives (front ++ byte ∷ more) found
late_gives front byte more s found limit means lines_are (Known det) =
    Determined front byte (record { more = more; split = refl; limit = limit })
    (λ t. ap outcome (append_assoc front (separator byte) t) ∙ sym (means (separator byte ++ t)) ∙ det t)
late_gives front byte more s found limit means lines_are (Unknown none is) =
    Long front byte (record { more = more; split = refl; limit = limit })
    (λ other shows. none other (λ t. means (separator byte ++ t) ∙ sym (ap outcome (append_assoc front (separator byte) t)) ∙ shows t))
    (is ∙ ap (λ (n : ℕ). Err (record { code = Limit; line = n })) line)
  where
    line : s.newlines + 1 ≡ length (lines front)
    line = omega (arith, lines_are)

found_by : (left mid rest : Option (List ℕ)) (r : Reader) (count byte : ℕ) (piece front others : List ℕ) (found : Outcome) → HasTaken left mid r count → Hands mid rest piece
    → piece ≡ front ++ byte ∷ others → count + length front ≡ 2 ^ 33 → FoundBy r front byte found → IfSome left (λ text. Gives text found)
found_by left mid rest r count byte piece front others found has hands split limit (Before det) =
    determined_told left mid rest r count piece front (byte ∷ others) found has hands split (omega (arith, limit)) det
found_by left mid rest r count byte piece front others found has hands split limit (Behind s takes late) =
    told left rest (has.taken ++ piece) (λ text. Gives text found) (hands_more left mid rest has.taken piece has.took hands)
    (λ m is. subst (λ (t : List ℕ). Gives t found) (sym (whole m))
    (late_gives (has.taken ++ front) byte (others ++ m) s found (omega (arith, length-append has.taken front, has.count_is, limit))
    (λ t. takes.rest t ∙ has.means (front ++ t) ∙ ap outcome (sym (append_assoc has.taken front t)))
    (takes.newlines ∙ ap (λ (k : ℕ). k + newlines front) has.newlines_are ∙ sym (more_newlines has.taken front)) late))
  where
    whole : (m : List ℕ) → (has.taken ++ piece) ++ m ≡ (has.taken ++ front) ++ (byte ∷ (others ++ m))
    whole m =
        ap (λ (t : List ℕ). (has.taken ++ t) ++ m) split ∙ append_assoc has.taken (front ++ byte ∷ others) m
        ∙ ap (λ (t : List ℕ). has.taken ++ t) (append_assoc front (byte ∷ others) m) ∙ sym (append_assoc has.taken front (byte ∷ (others ++ m)))

-- the piece goes past the limit
pub past : (left mid rest : Option (List ℕ)) (r : Reader) (count byte : ℕ) (piece front others : List ℕ) (result : Result FormulaData ReadStop) → HasTaken left mid r count
    → Hands mid rest piece → piece ≡ front ++ byte ∷ others → count + length front ≡ 2 ^ 33 → Answers result (FoundBy r front byte) → IsAnswer left rest result
past left mid rest r count byte piece front others result has hands split limit answers =
    told_answer left rest result (map_answers result (FoundBy r front byte) (λ found. IfSome left (λ text. Gives text found))
    (λ found by. found_by left mid rest r count byte piece front others found has hands split limit by) answers)
