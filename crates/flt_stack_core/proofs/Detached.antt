-- A teardown begins where its filter is there and attached, and there only.
use Rattle.std.proofs.Common.{◌≡◌, ◌<◌, ◌≤◌, ◌+◌, suc, ◌==◌, ◌||◌, ℕ, Bool, true, false, not, nat_lt, List}
use Rattle.std.proofs.Common.{[], ◌∷◌, length, Option, Some, None, if◌then◌else◌, refl, ap, sym, ◌∙◌, arith}
use Rattle.std.specs.Prelude.{◌↔◌}
use Rattle.std.proofs.lemmas.Bool.Decides.{nat_tests}
use Rattle.flt_stack_core.specs.declared.fault.DetachFault.{DetachFault}
use Rattle.flt_stack_core.specs.declared.fault.DetachFault.TheVariants.{Already, Full, NoSuch}
use Rattle.flt_stack_core.specs.Refusals.{has_altitude, is_attached_at}
use Rattle.flt_machine_frames.specs.Loading.{AreLoaded}
use Rattle.flt_machine_frames.specs.declared.loaded.Loaded.{Loaded}
use Rattle.flt_machine.specs.Calls.{IsDisabled}
use Rattle.flt_machine.specs.Situations.{Situation, IsBoard}
use Rattle.flt_model.specs.Effects.{Step}
use Rattle.flt_model.specs.Program.{filter_of}
use Rattle.flt_model.specs.World.{is_attached, presence_at}
use Rattle.flt_model.specs.declared.moves.Move.TheVariants.{Detach}
use Rattle.flt_tree.specs.declared.filter.Filter.{Filter}

not_below : (n m : ℕ) → m ≤ n → nat_lt n m ≡ false
not_below n m past = grind (arith, nat_tests)

is_below : (n m : ℕ) → n < m → nat_lt n m ≡ true
is_below n m below = grind (arith, nat_tests)

one_more : (here : Bool) (n m : ℕ) (there : Bool) → nat_lt n m ≡ there
    → nat_lt (if not here then 1 + n else 0) (suc m) ≡ (here || there)
one_more true n m there same = grind (arith, nat_tests)
one_more false n m there same = grind (arith, nat_tests)

-- the number of the filter at an altitude is below the number of filters where one has it
altitude_is : (p : List Filter) (altitude : ℕ) → nat_lt (filter_of p altitude) (length p) ≡ has_altitude p altitude
altitude_is [] altitude = refl
altitude_is (f ∷ p) altitude =
    one_more (f.altitude == altitude) (filter_of p altitude) (length p) (has_altitude p altitude) (altitude_is p altitude)

module _ (p : List Filter) (altitude n m : ℕ) (number : n ≡ filter_of p altitude) (filters : m ≡ length p) where
  -- none has it where the number is past all filters
  pub has_none : m ≤ n → has_altitude p altitude ≡ false
  has_none past = sym (altitude_is p altitude) ∙ not_below _ _ (omega arith)

  -- and one has it where the number isn't
  pub has_one : n < m → has_altitude p altitude ≡ true
  has_one below = sym (altitude_is p altitude) ∙ is_below _ _ (omega arith)

-- the machine begins it, or doesn't
begins : (on : Bool) (step : Step) → (if on then Some step else None) ≡ None → on ≡ false
begins true step none = absurd (cc)
begins false step none = refl

stays : (on : Bool) (step : Step) → on ≡ false → (if on then Some step else None) ≡ None
stays true step off = absurd (cc)
stays false step off = refl

-- where a number is that of the filter at the altitude, whichever filters are loaded
pub detach_disabled : (trees : List Filter) (l : Loaded) (b : Situation) (altitude n : ℕ) → AreLoaded trees l → IsBoard trees b
    → ((p : List Filter) → AreLoaded p l → n ≡ filter_of p altitude)
    → (is_attached_at trees b altitude ≡ false) ↔ IsDisabled l b (Detach altitude)
detach_disabled trees l b altitude n loaded own is = (
  λ off p is_loaded m at.
      let same : is_attached_at trees b altitude ≡ is_attached (presence_at m.world.store (filter_of p altitude)) =
      ap (λ k. is_attached (presence_at b.store k)) (sym (is trees loaded) ∙ is p is_loaded)
      ∙ ap (λ s. is_attached (presence_at s (filter_of p altitude))) at.store in
      stays _ _ (sym same ∙ off),
  λ disabled.
      let at = own.at in
      ap (λ s. is_attached (presence_at s (filter_of trees altitude))) at.store ∙ begins _ _ (disabled trees loaded own.moment at),
)

-- two tests that fail in the same situations both pass, or both fail
pub both_pass : (is on : Bool) (Off : Type 0) → (is ≡ false) ↔ Off → (on ≡ false) ↔ Off → is ≡ true → on ≡ true
both_pass is true Off says same pass = refl
both_pass is false Off says same pass = absurd (let e : true ≡ false = sym pass ∙ says.1 (same.0 refl) in cc)

-- ---- the first reason

abbrev pub first : Bool → Bool → Bool → Option DetachFault
first has on full = if not has then Some NoSuch else (if not on then Some Already else (if full then Some Full else None))

-- a filter that isn't there is the first refusal
pub no_such : (has on full : Bool) → has ≡ false → Some NoSuch ≡ first has on full
no_such true on full is = absurd (cc)
no_such false on full is = refl

-- a filter that is there and not attached is the second refusal
pub already : (has on full : Bool) → has ≡ true → on ≡ false → Some Already ≡ first has on full
already false on full is off = absurd (cc)
already true true full is off = absurd (cc)
already true false full is off = refl

-- a full journal is the last refusal
pub is_full : (has on full : Bool) → has ≡ true → on ≡ true → full ≡ true → Some Full ≡ first has on full
is_full false on full is on' full' = absurd (cc)
is_full true false full is on' full' = absurd (cc)
is_full true true false is on' full' = absurd (cc)
is_full true true true is on' full' = refl

-- a filter that is there and attached isn't refused where there is room
pub none_is : (has on full : Bool) → has ≡ true → on ≡ true → full ≡ false → None ≡ first has on full
none_is false on full is on' full' = absurd (cc)
none_is true false full is on' full' = absurd (cc)
none_is true true true is on' full' = absurd (cc)
none_is true true false is on' full' = refl
