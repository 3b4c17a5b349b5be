-- How contexts are kept, by this project's own rules: rows, the lists of their links, and the set of streams.
use Rattle.std.specs.Prelude.{ℕ, List}
use Rattle.std.specs.BTreeSet.{BTreeSet}
use Rattle.ilist_core.specs.NodeLists.{Sequences}
use Rattle.flt_ctx.specs.declared.links.Row.{Row}
use Rattle.flt_ctx.specs.Rows.{AreLinked, AreUsed}
use Rattle.flt_ctx.specs.Streams.{AreIndexed}

-- links, nodes and the set of streams belong together, and no node is kept for nothing
pub record AreKept (rows : List Row) (filters : ℕ) (s : Sequences) (contexts : List ℕ) (streams : BTreeSet (ℕ × ℕ)) : Type 0 where
  pub linked : AreLinked rows filters s contexts
  pub used : AreUsed s
  pub indexed : AreIndexed rows streams
