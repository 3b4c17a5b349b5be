use Rattle.std.proofs.Common.{◌≡◌, None, Some, Option, List, get_or, sym, ap, ◌∙◌, arith}
use Rattle.flt_model.specs.declared.parts.Item.{Item}
use Rattle.flt_machine_store.proofs.Counts.{taken_some, taken_here, taken_past}
use Rattle.flt_machine_store.proofs.items.WorkItems.take.Goals as goal

pub overflow_sub-index_mut : goal.overflow_sub-index_mut
overflow_sub-index_mut c =
    let there : Some c.in-Some.taken ≡ get_or c.self.inside.items.items c.args.item None =
    sym c.in-Some.is ∙ c.get.ensures ∙ ap (λ (xs : List (Option Item)). get_or xs c.args.item None) (sym c.self.view_is) in
    taken_some c.self.inside.items.items c.self.inside.waiting.items c.in-Some.taken c.self.invariant
    c.args.item there c.index_mut-then-taken-len.result.now (omega (arith, c.if-taken-len.true, c.len.ensures))
    c.index_mut-then-taken-len.ensures.value

pub invariant_of-self : goal.invariant_of-self
invariant_of-self c =
    let there : Some c.in-Some.taken ≡ get_or c.self.inside.items.items c.args.item None =
    sym c.in-Some.is ∙ c.get.ensures ∙ ap (λ (xs : List (Option Item)). get_or xs c.args.item None) (sym c.self.view_is) in
    taken_here c.self.inside.items.items c.self.inside.waiting.items c.in-Some.taken c.self.invariant
    c.args.item there c.index_mut-then-taken-len.result.now (omega (arith, c.if-taken-len.true, c.len.ensures))
    c.index_mut-then-taken-len.ensures.value

pub invariant_of-self-else-taken-len : goal.invariant_of-self-else-taken-len
invariant_of-self-else-taken-len c =
    let there : Some c.in-Some.taken ≡ get_or c.self.inside.items.items c.args.item None =
    sym c.in-Some.is ∙ c.get.ensures ∙ ap (λ (xs : List (Option Item)). get_or xs c.args.item None) (sym c.self.view_is) in
    taken_past c.self.inside.items.items c.self.inside.waiting.items c.in-Some.taken c.self.invariant
    c.args.item there (omega (arith, c.if-taken-len.false, c.len.ensures))
