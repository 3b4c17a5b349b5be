-- A move is enabled, or it isn't.
use Rattle.std.proofs.Common.{rules, ◌≡◌, ◌<◌, ℕ, Bool, true, false, ◌&&◌, nat_lt, List, Option}
use Rattle.std.proofs.Common.{Some, None, is_some, if◌then◌else◌, refl, ap, sym, ◌∙◌}
use Rattle.std.specs.Prelude.{◌↔◌}
use Rattle.flt_machine_frames.specs.Loading.{AreLoaded}
use Rattle.flt_machine_frames.specs.declared.loaded.Loaded.{Loaded}
use Rattle.flt_machine.specs.Calls.{IsDisabled}
use Rattle.flt_machine.specs.Situations.{Situation, IsBoard, Now}
use Rattle.flt_rules.specs.Place.{fits_mode}
use Rattle.flt_model.specs.Effects.{Step}
use Rattle.flt_model.specs.Moves.{make}
use Rattle.flt_model.specs.declared.moves.Move.{Move}
use Rattle.flt_model.specs.declared.moves.Move.TheVariants.{Arrive}
use Rattle.flt_rules.specs.declared.place.Mode.{Mode}
use Rattle.flt_rules.specs.declared.place.Operation.{Operation}
use Rattle.flt_tree.specs.declared.filter.Filter.{Filter}

none_of : (o : Option Step) → is_some o ≡ false → o ≡ None
none_of None same = refl
none_of (Some step) same = absurd (cc)

-- what says whether a move is enabled is false where it isn't, and only there
pub disabled_is : (trees : List Filter) (l : Loaded) (b : Situation) (move : Move) (r : Bool) → AreLoaded trees l → IsBoard trees b →
    Now l b (λ p m. r ≡ is_some (make p m.world move)) → (r ≡ false) ↔ IsDisabled l b move
disabled_is trees l b move r loaded own says = (
  λ no. λ p is m at. none_of (make p m.world move) (sym (says p is m at) ∙ no),
  λ disabled. says trees loaded own.moment own.at ∙ ap is_some (disabled trees loaded own.moment own.at),
)

some_is_there : (b : Bool) (step : Step) → b ≡ true → (if b then Some step else None) ≡ None → ⊥
some_is_there true step is same = cc
some_is_there false step is same = cc

both_true : (a b : Bool) → a ≡ true → b ≡ true → (a && b) ≡ true
both_true a b p q = ap (λ x. x && b) p ∙ q

-- an arrival on one of the files, in a mode that fits it, is enabled
pub arrival_enabled : (trees : List Filter) (l : Loaded) (b : Situation) (kind : Operation) (mode : Mode) (file : ℕ) →
    AreLoaded trees l → IsBoard trees b → fits_mode kind mode ≡ true → file < 1024 → IsDisabled l b (Arrive kind mode file) → ⊥
arrival_enabled trees l b kind mode file loaded own fits few disabled =
    let small : nat_lt file 1024 ≡ true = search rules in
    some_is_there (fits_mode kind mode && nat_lt file 1024) _ (both_true _ _ fits small) (disabled trees loaded own.moment own.at)
