use Rattle.std.proofs.Common.{◌+◌, ◌*◌, ◌-◌, ◌^◌, ◌∙◌, min, ℕ, ap}
use Rattle.dimacs_read.specs.Grammar.{front, is_blank}
use Rattle.dimacs_read.specs.Header.{later_tokens}
use Rattle.dimacs_read.proofs.Saturation.{alike_more_vars, alike_more_clauses}
use Rattle.dimacs_read.proofs.header.behind_digit.Goals as goal

pub returns-in-Vars : goal.returns-in-Vars
returns-in-Vars c = λ line at more.
    rw (c.in-Vars.is, c.requires.passes.blank_is, c.requires.passes.digit_is)
    (alike_more_vars c.with_digit.result (10 * c.in-Vars.vars + (c.args.byte - 48)) (front is_blank line) (later_tokens line) (c.with_digit.ensures ∙ ap (λ (d : ℕ). min (10 * c.in-Vars.vars + d) (2 ^ 64 - 1)) c.requires.value) at more)

pub returns-in-Clauses : goal.returns-in-Clauses
returns-in-Clauses c = λ line at more.
    rw (c.in-Clauses.is, c.requires.passes.blank_is, c.requires.passes.digit_is)
    (alike_more_clauses c.in-Clauses.vars c.with_digit-in-Clauses.result (10 * c.in-Clauses.clauses + (c.args.byte - 48)) (front is_blank line) (later_tokens line) (c.with_digit-in-Clauses.ensures ∙ ap (λ (d : ℕ). min (10 * c.in-Clauses.clauses + d) (2 ^ 64 - 1)) c.requires.value) at more)
