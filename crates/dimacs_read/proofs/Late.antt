-- What is found at the end of a text, or at the byte after the limit.
use Rattle.std.proofs.Common.{◌≡◌, ◌∙◌, ℕ, ◌+◌, Bool, true, false, ◌||◌, List, [], ◌∷◌, sym, subst, refl}
use Rattle.std.specs.Prelude.{Result, Ok, Err, Some, OnOk, IfErr}
use Rattle.sat_words.specs.FormulaData.{FormulaData}
use Rattle.dimacs_read.specs.Grammar.{Outcome, End, Token, signed, is_blank, is_newline}
use Rattle.dimacs_read.specs.Body.{IsLawful, IsBadToken, FailsAt, Follows}
use Rattle.dimacs_read.specs.Reader.{meaning, Takes, Halts, Closes, FailsHere, Replies, Answers, FoundLate, Known, Unknown, FoundBy, Behind}
use Rattle.dimacs_read.specs.declared.reader.Reader.{Reader}
use Rattle.dimacs_read.specs.declared.spot.State.TheVariants.{Number}
use Rattle.dimacs_read.specs.declared.stop.Code.{Code}
use Rattle.dimacs_read.specs.declared.stop.Code.TheVariants.{Limit}
use Rattle.dimacs_read.specs.declared.stop.Halt.{Halt}
use Rattle.dimacs_read.specs.declared.stop.Halt.TheVariants.{Bad, Done, Memory}
use Rattle.dimacs_read.specs.declared.stop.ReadStop.{ReadStop}
use Rattle.dimacs_read.specs.declared.stop.ReadStop.TheVariants.{Bad as BadInput, ReadFault, Memory as NoMemory}
use Rattle.dimacs_read.proofs.Undecided.{undecided}

pub number_fails : (r : Reader) (neg : Bool) (n : ℕ) (stop : Halt) → r.spot ≡ Number neg n → IsBadToken r.body (Token (signed neg (Some n))) stop → FailsHere r stop
number_fails r neg n (Bad code) is bad = rw is (bad (r.newlines + 1) (record { line = r.newlines + 1; item = End } ∷ []))
number_fails r neg n Done is bad = absurd bad
number_fails r neg n Memory is bad = tt

pub number_closes : (r s : Reader) (neg : Bool) (n : ℕ) → r.spot ≡ Number neg n → IsLawful s.body → Follows r.body (Token (signed neg (Some n))) s.body → Closes r s
number_closes r s neg n is lawful follows = record { rest = rw is (sym (follows (r.newlines + 1) (record { line = r.newlines + 1; item = End } ∷ []))); lawful = lawful }

pub late_other : (r : Reader) (byte : ℕ) → (is_blank byte || is_newline byte) ≡ false → FoundLate r byte (Err (record { code = Limit; line = r.newlines + 1 }))
late_other r byte is = Unknown (λ other all. undecided r.spot r.newlines r.body other (λ more. rw is at (all more))) refl

pub late_undecided : (r s : Reader) (byte : ℕ) → (is_blank byte || is_newline byte) ≡ true → Takes r (byte ∷ []) s
    → FoundLate r byte (Err (record { code = Limit; line = r.newlines + 1 }))
late_undecided r s byte is takes = Unknown (λ other all. undecided s.spot s.newlines s.body other (λ more. takes.rest more ∙ (rw is at (all more)))) refl

late_known : (r : Reader) (byte : ℕ) (found : Outcome) → (is_blank byte || is_newline byte) ≡ true → ((more : List ℕ) → meaning r (byte ∷ more) ≡ found) → FoundLate r byte found
late_known r byte found is all = Known (λ more. rw is (all more))

pub late_stopped : (r s : Reader) (byte : ℕ) (stop : Halt) (result : Result FormulaData ReadStop) → (is_blank byte || is_newline byte) ≡ true
    → Halts r (byte ∷ []) stop s → Replies stop s result → Answers result (FoundLate r byte)
late_stopped r s byte (Bad code) result is halts replies =
    subst (λ (a : Result FormulaData ReadStop). Answers a (FoundLate r byte)) (sym replies) (late_known r byte (Err (record { code = code; line = s.newlines + 1 })) is halts)
late_stopped r s byte Done result is halts replies =
    subst (λ (a : Result FormulaData ReadStop). Answers a (FoundLate r byte)) (sym replies) (late_known r byte (Ok s.body.formula) is halts.0)
late_stopped r s byte Memory result is halts replies =
    subst (λ (a : Result FormulaData ReadStop). Answers a (FoundLate r byte)) (sym replies) tt

pub all_closes : {T : Type 0} (result : Result T Halt) (r s : Reader) (neg : Bool) (n : ℕ) → r.spot ≡ Number neg n → OnOk result (IsLawful s.body)
    → OnOk result (Follows r.body (Token (signed neg (Some n))) s.body) → OnOk result (Closes r s)
all_closes (Ok x) r s neg n is lawful follows = number_closes r s neg n is lawful follows
all_closes (Err stop) r s neg n is lawful follows = tt

pub all_fails : {T : Type 0} (result : Result T Halt) (r : Reader) (neg : Bool) (n : ℕ) → r.spot ≡ Number neg n
    → IfErr result (IsBadToken r.body (Token (signed neg (Some n)))) → IfErr result (λ stop. FailsHere r stop)
all_fails (Ok x) r neg n is bad = tt
all_fails (Err stop) r neg n is bad = number_fails r neg n stop is bad

pub end_fails : (r s : Reader) (code : Code) → Closes r s → FailsAt s.body End code → meaning r [] ≡ Err (record { code = code; line = r.newlines + 1 })
end_fails r s code closes fails = closes.rest ∙ fails (r.newlines + 1) []

pub answers_behind : (result : Result FormulaData ReadStop) (r s : Reader) (bytes : List ℕ) (byte : ℕ) → Takes r bytes s → Answers result (FoundLate s byte)
    → Answers result (FoundBy r bytes byte)
answers_behind (Ok formula) r s bytes byte takes found = Behind s takes found
answers_behind (Err (BadInput code line)) r s bytes byte takes found = Behind s takes found
answers_behind (Err ReadFault) r s bytes byte takes found = absurd found
answers_behind (Err NoMemory) r s bytes byte takes found = tt
