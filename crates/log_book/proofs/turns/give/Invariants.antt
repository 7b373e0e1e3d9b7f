use Rattle.log_book.proofs.turns.give.Given as goal

abbrev pub ghosts-give_as : goal.ghosts-give_as
ghosts-give_as g a = record { notes = a._noted.now; refused = a._refused; failed = a._failed }
