use Rattle.std.proofs.Common.{◌≡◌, ◌++◌, ◌∷◌, ◌-◌, [], List, Option, Some, None, sym, ◌∙◌, ap, subst, length, take}
use Rattle.std.specs.List.{slice_get}
use Rattle.std.specs.Option.{option_copied}
use Rattle.flt_model.specs.declared.parts.Holder.{Holder}
use Rattle.flt_replay_records.specs.Slots.{left, ArePlaces}
use Rattle.flt_replay_records.proofs.Slots.{left_trimmed, places_trimmed, last_empty}
use Rattle.flt_replay_records.proofs.holders.trim.Goals as goal

pub loop-slots-preserved : goal.loop-slots-preserved
loop-slots-preserved c =
    let slots = c.loop-slots.slots.items in
    let rest = c.pop.new.self.items in
    let long = sym c.deref.ensures.len ∙ ap length c.deref.ensures.value in
    let read = rw c.deref.ensures.value at c.last.ensures.value in
    let at : slice_get slots (length slots - 1) ≡ Some None =
    sym read ∙ ap option_copied c.in-Some-None.is ∙ ap Some c.in-Some-None.field-0-is in
    let is : slots ≡ rest ++ None ∷ [] = last_empty slots rest (c.pop.ensures.rest ∙ ap (λ n. take (n - 1) slots) long) at in
    record {
      left = sym (left_trimmed rest) ∙ ap left (sym is) ∙ c.loop-slots.invariant.left;
      places = λ access places are.
          places_trimmed access rest places
          (subst (λ (s : List (Option Holder)). ArePlaces access s places) is (c.loop-slots.invariant.places access places are));
    }
