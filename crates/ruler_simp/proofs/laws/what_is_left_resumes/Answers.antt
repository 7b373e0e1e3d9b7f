use Rattle.ruler_simp.proofs.Resting.{left_resumes, left_resumes_again}
use Rattle.ruler_simp.proofs.laws.what_is_left_resumes.Goals as goal

pub returns : goal.returns
returns c = record { first = left_resumes; again = left_resumes_again }
