use Rattle.flt_order.proofs.Circles.{circles_have_no_order}
use Rattle.flt_order.proofs.circle.circles_have_no_order.Goals as goal

pub returns : goal.returns
returns c = circles_have_no_order
