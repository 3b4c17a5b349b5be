use Rattle.std.proofs.Common.{◌≡◌, ◌<◌, length, get_or, ap, sym, ◌∙◌, arith}
use Rattle.std.specs.List.{list_any}
use Rattle.std.specs.Prelude.{nat_lt}
use Rattle.flt_model.specs.Moves.{is_item_of}
use Rattle.flt_machine_store.proofs.Counts.{some_counted}
use Rattle.flt_machine_store.proofs.items.WorkItems.has_of.Goals as goal

pub returns-in-Some : goal.returns-in-Some
returns-in-Some c =
    let h = c.in-Some.ensures.lookup in
    let here : c.args.filter < length c.self.inside.waiting.items = omega (arith, h.3.0, c.deref.ensures.len) in
    let read : c.in-Some.waiting.now ≡ get_or c.self.inside.waiting.items c.args.filter 0 = rw c.deref.ensures.value at (h.3.1 0) in
    ap (nat_lt 0) (read ∙ c.self.invariant c.args.filter here) ∙ sym (some_counted c.args.filter c.self.inside.items.items) ∙
    ap (list_any (is_item_of c.args.filter)) c.self.view_is
