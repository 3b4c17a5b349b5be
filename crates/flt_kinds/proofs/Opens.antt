-- The first `pre create` that completes with success.
use Rattle.std.proofs.Common.{arith, ◌≡◌, ◌<◌, ◌≤◌, ◌&&◌, ℕ, zero, suc, Bool, true, false, true≢false, Option}
use Rattle.std.proofs.Common.{Some, None, is_none, unwrap_or, length, ap, sym, refl, subst, ⊎_elim}
use Rattle.flt_rules.specs.declared.place.Operation.TheVariants.{Create}
use Rattle.flt_rules.specs.declared.place.Place.{Place}
use Rattle.flt_rules.specs.declared.place.Place.TheVariants as place
use Rattle.flt_rules.specs.declared.status.FinalStatus.TheVariants.{Success, AccessDenied, Cancelled, InsufficientResources}
use Rattle.flt_rules.specs.declared.status.FinalStatus.TheVariants.{InvalidParameter}
use Rattle.flt_rules.specs.declared.status.FinalStatus.TheVariants as final
use Rattle.flt_tree.specs.declared.filter.Status.TheVariants.{Complete, WithCallback, Synchronize, NoCallback, DisallowFastIo}
use Rattle.flt_tree.specs.declared.filter.Status.TheVariants.{FinishedProcessing, MoreProcessingRequired}
use Rattle.flt_tree.specs.declared.filter.Status.TheVariants as status
use Rattle.flt_graph.specs.Graph.{instruction_at, place_at, points_at}
use Rattle.flt_graph.specs.declared.graph.Graph.{Graph}
use Rattle.flt_graph.specs.declared.instruction.Instruction.{Instruction}
use Rattle.flt_graph.specs.declared.instruction.Instruction.TheVariants as instruction
use Rattle.flt_kinds.specs.Creates.{Completes, AreFound, is_create, is_success, completes_at}
use Rattle.flt_kinds.specs.Creates.{this_one, first_spot, completed_below, completed_in}
use Rattle.flt_kinds.specs.Flows.{spot}
use Rattle.flt_kinds.specs.declared.slot.Spot.{Spot}
use Rattle.flt_kinds.proofs.Closing.{is_callback, equal_or_below}

some_spot : (a b : Spot) → Some a ≡ Some b → a ≡ b
some_spot a b e = ap (λ (o : Option Spot). unwrap_or o a) e

no_spot : (a : Spot) → None ≡ Some a → ⊥
no_spot a e = true≢false (ap is_none e)

left_true : (x y : Bool) → (x && y) ≡ true → x ≡ true
left_true true y e = refl
left_true false y e = e

right_true : (x y : Bool) → (x && y) ≡ true → y ≡ true
right_true true y e = e
right_true false y e = absurd (true≢false (sym e))

not_so : {A : Type 0} → false ≡ true → A
not_so e = absurd (true≢false (sym e))

creates : (p : Place) → is_create p ≡ true → p ≡ place.Pre Create
creates (place.Pre Create) e = refl
creates p e = not_so e

succeeds : (i : Instruction) → is_success i ≡ true → i ≡ instruction.Return (Some (Complete Success))
succeeds (instruction.Return (Some (Complete Success))) e = refl
succeeds (instruction.Return (Some (Complete AccessDenied))) e = not_so e
succeeds (instruction.Return (Some (Complete Cancelled))) e = not_so e
succeeds (instruction.Return (Some (Complete InsufficientResources))) e = not_so e
succeeds (instruction.Return (Some (Complete InvalidParameter))) e = not_so e
succeeds (instruction.Return (Some (Complete final.Pending))) e = not_so e
succeeds (instruction.Return (Some (WithCallback c))) e = not_so e
succeeds (instruction.Return (Some (Synchronize c))) e = not_so e
succeeds (instruction.Return (Some NoCallback)) e = not_so e
succeeds (instruction.Return (Some status.Pending)) e = not_so e
succeeds (instruction.Return (Some DisallowFastIo)) e = not_so e
succeeds (instruction.Return (Some FinishedProcessing)) e = not_so e
succeeds (instruction.Return (Some MoreProcessingRequired)) e = not_so e
succeeds (instruction.Return None) e = not_so e
succeeds (instruction.Act a next) e = not_so e
succeeds (instruction.Call i granted failed) e = not_so e
succeeds (instruction.Test t granted refused) e = not_so e
succeeds (instruction.Repeat turns body next) e = not_so e
succeeds instruction.End e = not_so e

module _ (g : Graph) where
  completes : (callback point : ℕ) → point < points_at g callback → completes_at g callback point ≡ true → Completes g (spot callback point)
  unfolding completes_at
  completes callback point there e = record {
    there = there;
    opens = creates (place_at g callback) (left_true (is_create (place_at g callback)) (is_success (instruction_at g callback point)) e);
    returns = succeeds (instruction_at g callback point)
        (right_true (is_create (place_at g callback)) (is_success (instruction_at g callback point)) e);
  }

  completing : (at : Spot) → Completes g at → completes_at g at.callback at.point ≡ true
  unfolding completes_at
  completing at c = rw (c.opens, c.returns) refl

  this_is : (b : Bool) (callback point : ℕ) (at : Spot) → (b ≡ true → Completes g (spot callback point)) →
      this_one b callback point ≡ Some at → Completes g at
  this_is true callback point at h e = subst (λ x. Completes g x) (some_spot (spot callback point) at e) (h refl)
  this_is false callback point at h e = absurd (no_spot at e)

  first_is : (x y : Option Spot) (at : Spot) → (x ≡ Some at → Completes g at) → (y ≡ Some at → Completes g at) →
      first_spot x y ≡ Some at → Completes g at
  first_is (Some x) y at h k e = h e
  first_is None y at h k e = k e

  below_is : (callback n : ℕ) (at : Spot) → n ≤ points_at g callback → completed_below g callback n ≡ Some at → Completes g at
  below_is callback zero at low e = absurd (no_spot at e)
  below_is callback (suc n) at low e =
      first_is (completed_below g callback n) (this_one (completes_at g callback n) callback n) at
      (below_is callback n at (omega (arith, low)))
      (this_is (completes_at g callback n) callback n at (completes callback n (omega (arith, low)))) e

  in_is : (n : ℕ) (at : Spot) → completed_in g n ≡ Some at → Completes g at
  in_is zero at e = absurd (no_spot at e)
  in_is (suc n) at e = first_is (completed_in g n) (completed_below g n (points_at g n)) at (in_is n at) (below_is n
      (points_at g n) at (omega arith)) e

  left_none : (x y : Option Spot) → first_spot x y ≡ None → x ≡ None
  left_none None y e = refl
  left_none (Some a) y e = e

  right_none : (x y : Option Spot) → first_spot x y ≡ None → y ≡ None
  right_none None y e = e
  right_none (Some a) y e = absurd (no_spot a (sym e))

  not_this : (b : Bool) (callback point : ℕ) → this_one b callback point ≡ None → b ≡ true → ⊥
  not_this true callback point e h = no_spot (spot callback point) (sym e)
  not_this false callback point e h = true≢false (sym h)

  below_none : (callback n p : ℕ) → completed_below g callback n ≡ None → p < n → completes_at g callback p ≡ true → ⊥
  below_none callback zero p e less is = omega (arith, less)
  below_none callback (suc n) p e less is =
      ⊎_elim (λ q. not_this (completes_at g callback p) callback p
      (subst (λ k. this_one (completes_at g callback k) callback k ≡ None) (sym q)
      (right_none (completed_below g callback n) (this_one (completes_at g callback n) callback n) e)) is)
      (λ low. below_none callback n p (left_none (completed_below g callback n) (this_one
      (completes_at g callback n) callback n) e) low is) (equal_or_below p n less)

  in_none : (n callback p : ℕ) → completed_in g n ≡ None → callback < n → p < points_at g callback → completes_at g callback p ≡ true → ⊥
  in_none zero callback p e less there is = omega (arith, less)
  in_none (suc n) callback p e less there is =
      ⊎_elim (λ q. below_none callback (points_at g callback) p
      (subst (λ k. completed_below g k (points_at g k) ≡ None) (sym q)
      (right_none (completed_in g n) (completed_below g n (points_at g n)) e)) there is)
      (λ low. in_none n callback p (left_none (completed_in g n) (completed_below g n (points_at g n)) e) low there is)
      (equal_or_below callback n less)

  found_by : (x : Option Spot) → completed_in g (length g.callbacks) ≡ x → AreFound g x
  found_by (Some at) e = in_is (length g.callbacks) at e
  found_by None e = λ at c. in_none (length g.callbacks) at.callback at.point e (is_callback g at.callback at.point c.there) c.there
      (completing at c)

-- the first point that completes with success is the one that is found
pub found : (g : Graph) (x : Option Spot) → x ≡ completed_in g (length g.callbacks) → AreFound g x
found g x e = found_by g x (sym e)
