use Rattle.std.proofs.Common.{◌≡◌, ◌<◌, length, sym, ◌∙◌, arith}
use Rattle.flt_ctx.proofs.First.{none_past, first_some, first_none}
use Rattle.flt_ctx.proofs.contexts.Contexts.has_links.Goals as goal

pub returns-then-filter-len-clause-none : goal.returns-then-filter-len-clause-none
returns-then-filter-len-clause-none c = λ _.
    none_past c.self.inside.rows.items c.self.inside.closed.items c.self.inside.lists c.self.inside.contexts.items
    c.self.inside.streams.set c.self.invariant c.args.self.now c.self.view_is c.args.filter (omega arith)

pub returns-clause-some : goal.returns-clause-some
returns-clause-some c = λ there.
    let low : c.args.filter < length c.self.inside.closed.items = omega arith in
    let list : c.unwrap-list.result ≡ c.args.filter = (rw c.unwrap-list.ensures at c.list.ensures.there).0 in
    first_some c.self.inside.rows.items c.self.inside.closed.items c.self.inside.lists c.self.inside.contexts.items
    c.self.inside.streams.set c.self.invariant c.args.self.now c.self.view_is c.args.filter
    c.unwrap-list.result list c.front.result c.front.ensures.apart low c.front.ensures.within (sym c.is_some.ensures ∙ there)

pub returns-clause-none : goal.returns-clause-none
returns-clause-none c = λ absent.
    let list : c.unwrap-list.result ≡ c.args.filter = (rw c.unwrap-list.ensures at c.list.ensures.there).0 in
    first_none c.self.inside.rows.items c.self.inside.closed.items c.self.inside.lists c.self.inside.contexts.items
    c.self.inside.streams.set c.self.invariant c.args.self.now c.self.view_is c.args.filter
    c.unwrap-list.result list c.front.result c.front.ensures.first (sym c.is_some.ensures ∙ absent)
