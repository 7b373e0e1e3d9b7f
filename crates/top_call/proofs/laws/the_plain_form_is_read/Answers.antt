use Rattle.top_call.proofs.PlainReads.{plain_reads}
use Rattle.top_call.proofs.laws.the_plain_form_is_read.Goals as goal

pub returns : goal.returns
returns c = plain_reads
