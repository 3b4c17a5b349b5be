use Rattle.std.proofs.Common.{refl, sym, ◌∙◌}
use Rattle.flt_ctx.proofs.First.{stream_linked, stream_least, stream_none}
use Rattle.flt_ctx.proofs.contexts.Contexts.first_key.Goals as goal

pub returns-in_err-file-clause-none : goal.returns-in_err-file-clause-none
returns-in_err-file-clause-none c =
    rw c.from_residual.ensures (stream_none c.self.inside.rows.items c.self.inside.closed.items c.self.inside.lists
    c.self.inside.contexts.items c.self.inside.streams.set c.self.invariant c.args.self.now c.self.view_is c.args.filter
    (sym c.linked.ensures ∙ c.if-linked.false) c.in_err-file.ensures)

pub returns-clause-linked : goal.returns-clause-linked
returns-clause-linked c = (
  refl,
  stream_linked c.self.inside.rows.items c.self.inside.closed.items c.self.inside.lists c.self.inside.contexts.items
      c.self.inside.streams.set c.self.invariant c.args.self.now c.self.view_is c.args.filter
      c.in_ok-file.file c.in_ok-file.ensures.0,
)

pub returns-clause-least : goal.returns-clause-least
returns-clause-least c =
    stream_least c.self.inside.rows.items c.self.inside.closed.items c.self.inside.lists c.self.inside.contexts.items
    c.self.inside.streams.set c.self.invariant c.args.self.now c.self.view_is c.args.filter
    (sym c.linked.ensures ∙ c.if-linked.false) c.in_ok-file.file c.in_ok-file.ensures.1
