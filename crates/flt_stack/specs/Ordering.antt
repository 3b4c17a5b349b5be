-- Whether locks are taken in an order, by any certificate that covers. This project's own definitions.
use Rattle.flt_graph.specs.declared.graph.Graph.{Graph}
use Rattle.flt_cert.specs.Format.{Certificate}
use Rattle.flt_check.specs.Covering.{Covers}
use Rattle.flt_order.specs.Order.{TakesInOrder}

-- some certificate covers the graph, and by it locks are taken in an order
pub record IsOrdered (g : Graph) : Type 0 where
  pub certificate : Certificate
  pub covers : Covers g certificate
  pub ordered : TakesInOrder g certificate
