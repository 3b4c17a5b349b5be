use Rattle.flt_explain_warnings.proofs.CommentMarks.{begin}
use Rattle.flt_explain_warnings.proofs.laws.comments_begin_with_marks.Goals as goal

pub returns : goal.returns
returns c = begin
