-- The board before the first move.
use Rattle.std.proofs.Common.{◌≡◌, ℕ, List, [], ◌∷◌, length, map, replicate, ap, refl}
use Rattle.std.proofs.lemmas.List.{length-map}
use Rattle.flt_tree.specs.declared.filter.Filter.{Filter}
use Rattle.flt_model.specs.declared.event.Object.TheVariants.{Visit}
use Rattle.flt_model.specs.Runs.{start}
use Rattle.flt_model.specs.Trace.{gains, loses}
use Rattle.flt_model.specs.declared.parts.Entry.{Entry}
use Rattle.flt_model.specs.declared.parts.Holder.{Holder}
use Rattle.flt_model.specs.declared.parts.Presence.{Presence}
use Rattle.flt_model.specs.declared.parts.Presence.TheVariants.{Attached}
use Rattle.flt_machine_store.specs.Stores.{empty_store}
use Rattle.flt_machine.specs.Situations.{IsAt, IsBoard, opening}

-- the same for each filter
all_same : {A : Type 0} (x : A) (p : List Filter) → map (λ _. x) p ≡ replicate (length p) x
all_same x [] = refl
all_same x (f ∷ p) = ap (λ l. x ∷ l) (all_same x p)

store_same : (p : List Filter) → empty_store (length p) ≡ (start p).world.store
store_same p =
    rw (all_same {A = Presence} Attached p, all_same {A = List Entry} [] p, all_same {A = List (List Holder)} (replicate 8 []) p) refl

none_yet : (a v : ℕ) → (gains [] a (Visit v) ≡ 0) × (loses [] a (Visit v) ≡ 0)
unfolding gains loses
none_yet a v = (refl, refl)

opens : (p : List Filter) → IsAt p (opening (length p)) (start p)
opens p = record {
  actors = refl;
  count = refl;
  both = refl;
  filters = length-map p (λ _. Attached);
  kept = λ a. refl;
  store = store_same p;
  young = λ a v past. none_yet a v;
}

-- before the first move the board is one of the filters that are loaded
pub opening_own : (p : List Filter) → IsBoard p (opening (length p))
opening_own p = record { transitions = []; moment = start p; expanded = refl; runs = refl; at = opens p }
