use Rattle.std.proofs.Common.{◌≡◌, ◌<◌, ◌∙◌, ℕ, List, get_or, length, ap, sym, refl}
use Rattle.std.proofs.lemmas.List.{get_or-map}
use Rattle.flt_tree.specs.declared.filter.Filter.{Filter}
use Rattle.flt_tree.specs.declared.tree.Tree.{Tree}
use Rattle.flt_model.specs.Program.{by_altitude, filter_at, filter_of, filters_of, no_filter}
use Rattle.flt_search_deadlocks.specs.Deadlocks as spec
use Rattle.flt_search_deadlocks.proofs.judging.number_of.Goals as goal

-- the number by the altitude of a tree's filter
number : (trees : List Tree) (n : ℕ) (t : Tree) (p : List Filter) (altitude found : ℕ) → n < length trees → t ≡ get_or trees n t →
    p ≡ by_altitude (filters_of trees) → altitude ≡ t.filter.altitude → found ≡ filter_of p altitude →
    found ≡ spec.number_of (filters_of trees) n
number trees n t p altitude found less is stack same counted =
    let at : filter_at (filters_of trees) n ≡ t.filter =
    get_or-map (λ (x : Tree). x.filter) trees n t no_filter less ∙ ap (λ (x : Tree). x.filter) (sym is) in
    let one : filter_of p altitude ≡ filter_of (by_altitude (filters_of trees)) t.filter.altitude = rw (stack, same) refl in
    let two : filter_of (by_altitude (filters_of trees)) t.filter.altitude ≡ spec.number_of (filters_of trees) n =
    ap (λ (f : Filter). filter_of (by_altitude (filters_of trees)) f.altitude) (sym at) in
    counted ∙ (one ∙ two)

pub returns : goal.returns
returns c =
    number c.args.trees.now c.args.filter c.in-Some.tree.now _ _ _ c.in-Some.ensures.lookup.3.0 c.in-Some.ensures.lookup.1
    c.in_ok-stack.ensures
    c.in-Ok.ensures.1 c.number_of.ensures
