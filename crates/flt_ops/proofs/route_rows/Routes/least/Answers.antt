use Rattle.flt_ops.proofs.Framed.{least_framed}
use Rattle.flt_ops.proofs.route_rows.Routes.least.Goals as goal

pub returns : goal.returns
returns c = rw (← c.self.view_is) (least_framed c.args.filter c.self.inside.routes.items c.self.inside.framed c.least.result
    c.self.invariant c.least.ensures)
