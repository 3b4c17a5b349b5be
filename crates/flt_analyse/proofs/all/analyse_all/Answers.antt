use Rattle.std.proofs.Common.{◌≡◌, ◌<◌, Some, Ok, length, map, sym, ap, ◌∙◌, arith, slice_get, slice_index_or}
use Rattle.std.proofs.Math.Path.{subst}
use Rattle.std.proofs.lemmas.List.{length-map}
use Rattle.std.proofs.lemmas.Option.{slice_get_within, get_or_from_slice_get}
use Rattle.flt_analyse.specs.All.{IsShare}
use Rattle.flt_analyse.proofs.Shares.{get_map}
use Rattle.flt_analyse.proofs.all.analyse_all.Goals as goal

pub weave-requires-clause-shares : goal.weave-requires-clause-shares
weave-requires-clause-shares g c worker answers at =
    let shares = c.in_ok-all_shares.field-0.items in
    let given : c.in_ok-given.given.items ≡ map Ok c.in_ok-all_shares.field-0.items = c.in_ok-all_shares.ensures in
    let there : slice_get c.in_ok-given.given.items worker ≡ Some (Ok answers) = ap (λ xs. slice_get xs worker) given
    ∙ get_map Ok shares answers worker at in
    let count : length c.in_ok-all_shares.field-0.items ≡ c.args.workers = sym (length-map shares Ok) ∙ ap length (sym given)
    ∙ sym c.in_ok-given.given.ok.0 ∙ c.in_ok-given.ensures.len in
    let within : worker < c.args.workers = omega (arith, slice_get_within shares worker answers at, count) in
    let read : slice_index_or c.in_ok-given.given.items worker (Ok answers) ≡ Ok answers =
    get_or_from_slice_get c.in_ok-given.given.items worker (Ok answers) (Ok answers) there in
    let own = (c.in_ok-given.ensures.each worker (Ok answers) within).1.met in
    let share : IsShare c.args.graphs.now c.args.workers (length c.args.graphs.now) worker answers = rw read at own in
    subst (λ n. IsShare c.args.graphs.now n (length c.args.graphs.now) worker answers) (sym count) share
