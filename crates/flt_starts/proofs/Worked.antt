-- The pre callback alone is a closed set where it returns NO_CALLBACK, and isn't one where it asks for the post callback.
use Rattle.std.proofs.Common.{◌≡◌, ℕ, zero, suc, Bool, true, false, List, Some, None, refl, sym, ap, ◌∙◌}
use Rattle.std.specs.Prelude.{not, ◌&&◌, ◌||◌}
use Rattle.flt_rules.proofs.Operations.{of_each}
use Rattle.flt_rules.specs.declared.place.Operation.{Operation}
use Rattle.flt_rules.specs.declared.place.Operation.TheVariants.{Read}
use Rattle.flt_rules.specs.declared.place.Place.TheVariants as place
use Rattle.flt_tree.specs.Registered.{has_pre}
use Rattle.flt_tree.specs.declared.filter.Callback.{Callback}
use Rattle.flt_tree.specs.declared.filter.Statement.{Statement}
use Rattle.flt_tree.specs.declared.filter.Statement.TheFolds.{map-Statement, fold_out-Statement}
use Rattle.flt_tree.specs.declared.filter.Statement.TheOpen.{Statement-F}
use Rattle.flt_tree.specs.declared.filter.Statement.TheViews.{outs-Return}
use Rattle.flt_tree.specs.declared.filter.Status.{Status}
use Rattle.flt_tree.specs.declared.filter.Status.TheVariants as status
use Rattle.flt_model.specs.Program.{callbacks_at, place_at, body_at}
use Rattle.flt_model.specs.WorkedParts.{here, return}
use Rattle.flt_starts.specs.Closed.{IsClosed, pre_number, return_within, step_within, statement_within, body_within}
use Rattle.flt_starts.specs.WorkedStarts.{asking, unasking, pre_alone}

-- what a pre read asks for by a status, where the callbacks are those of one of these filters
returned : (cs : List Callback) (st : Status) →
    statement_within cs pre_alone (place.Pre Read) (return st) ≡ return_within cs pre_alone (place.Pre Read) (Some st)
returned cs st =
    fold_out-Statement Bool (step_within cs pre_alone (place.Pre Read)) (return st) ∙
    ap (λ (s : Statement-F Statement). step_within cs pre_alone (place.Pre Read)
    (map-Statement Statement Bool (statement_within cs pre_alone (place.Pre Read)) s)) (outs-Return here (Some st))

-- where the first holds the second does
implied : (a b : Bool) → not a || b ≡ true → a ≡ true → b ≡ true
implied true b h a = h
implied false b h a = absurd (cc a)

-- nothing leads out of it
unasking_closed : IsClosed (callbacks_at unasking 0) pre_alone
unasking_closed = record { pre = pre; asked = asked }
  where
    pre : (kind : Operation) → has_pre (callbacks_at unasking 0) kind ≡ true → pre_alone (pre_number (callbacks_at unasking 0) kind) ≡ true
    pre kind h = implied (has_pre (callbacks_at unasking 0) kind) (pre_alone (pre_number (callbacks_at unasking 0) kind))
        (of_each (λ k. not (has_pre (callbacks_at unasking 0) k) || pre_alone (pre_number (callbacks_at unasking 0) k)) refl kind) h

    asked : (k : ℕ) → pre_alone k ≡ true →
        body_within (callbacks_at unasking 0) pre_alone (place_at (callbacks_at unasking 0) k) (body_at (callbacks_at unasking 0) k) ≡ true
    asked zero h = ap (λ (b : Bool). b && true) (returned (callbacks_at unasking 0) status.NoCallback)
    asked (suc k) h = absurd (cc)

-- and something does
asking_open : IsClosed (callbacks_at asking 0) pre_alone → ⊥
asking_open c =
    let computes = ap (λ (b : Bool). b && true) (returned (callbacks_at asking 0) (status.WithCallback None)) in
    let holds = c.asked 0 refl in
    let no : false ≡ true = sym computes ∙ holds in
    absurd (cc)
