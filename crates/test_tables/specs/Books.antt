-- What a book that writes no line stands for.
use Rattle.std.specs.Prelude.{⊤, false, None, List}
use Rattle.sat_words.specs.Literal.{Literal}
use Rattle.rup_model.specs.declared.journal.Entry.{Entry}
use Rattle.share_rule.specs.declared.Layout.{Layout}
use Rattle.share_rule.specs.declared.view.BookOrigin.{BookOrigin}
use Rattle.share_rule.specs.Books.{Account}
use Rattle.test_tables.specs.declared.book.SampleBook.{SampleBook}

-- no lines are kept
abbrev pub account_of : SampleBook → Account
account_of b = record { entries = b.entries; last = b.last; ended = false; broken = false; holes = b.holes; kept = None }

-- and nothing is written
abbrev pub IsAnyLog : SampleBook → BookOrigin → Layout → List (List Literal) → List Entry → Type 0
IsAnyLog b w l F J = ⊤
