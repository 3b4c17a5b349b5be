-- The callback that is found for something: what it asks for at its place, and that a routine isn't one that answers for an operation.
use Rattle.std.proofs.Common.{◌≡◌, ℕ, Bool, true, false, cond, List, [], ◌∷◌, Option, Some, None, refl, sym, ap, subst}
use Rattle.std.proofs.lemmas.List.Folds.{find_at}
use Rattle.std.specs.Prelude.{find}
use Rattle.flt_rules.specs.Place.{answers}
use Rattle.flt_rules.specs.declared.place.Place.{Place}
use Rattle.flt_tree.specs.Filter.{is_named, head_place}
use Rattle.flt_tree.specs.Registered.{routine_of}
use Rattle.flt_tree.specs.declared.filter.Callback.{Callback}
use Rattle.flt_tree.specs.declared.filter.Head.{Head}
use Rattle.flt_tree.specs.declared.filter.Head.TheVariants as head
use Rattle.flt_tree.specs.declared.filter.Routine.{Routine}
use Rattle.flt_model.specs.Program.{body_of, body_for, body_at, place_for, place_at}
use Rattle.flt_starts.specs.Closed.{number_for, body_within}

module _ (test : Head → Bool) where
  abbrev passes : Callback → Bool
  passes c = test c.head

  -- its head passes
  found_passes : (cs : List Callback) (c : Callback) → find passes cs ≡ Some c → test c.head ≡ true
  found_passes [] c h = absurd (cc)
  found_passes (d ∷ cs) c h = by (test d.head) refl h (found_passes cs c)
    where
      by : (b : Bool) → test d.head ≡ b → cond b (Some d) (find passes cs) ≡ Some c → (find passes cs ≡ Some c → test c.head ≡ true) →
          test c.head ≡ true
      by true is k rest = let equal : d ≡ c = cc in subst (λ (e : Callback). test e.head ≡ true) equal is
      by false is k rest = rest k

  -- its statements
  pub body_found : (cs : List Callback) → body_for test cs ≡ body_at cs (number_for test cs)
  body_found cs = ap body_of (find_at passes cs)

  -- where all that the callback of that number asks for may start, so it is at the place of all callbacks whose heads pass
  pub found_within : (all : List Callback) (may_start : ℕ → Bool) (at : Place) → ((h : Head) → test h ≡ true → head_place h ≡ at) →
      (cs : List Callback) → body_within all may_start (place_at cs (number_for test cs)) (body_at cs (number_for test cs)) ≡ true →
      body_within all may_start at (body_for test cs) ≡ true
  found_within all may_start at places cs h =
      by (find passes cs) refl
      (subst (λ (o : Option Callback). body_within all may_start (place_for o) (body_of o) ≡ true) (sym (find_at passes cs)) h)
    where
      by : (o : Option Callback) → find passes cs ≡ o → body_within all may_start (place_for o) (body_of o) ≡ true →
          body_within all may_start at (body_of o) ≡ true
      by None is k = refl
      by (Some c) is k =
          subst (λ (p : Place). body_within all may_start p c.body ≡ true) (places c.head (found_passes cs c is)) k

-- a routine is no callback that answers for its operation
pub routine_elsewhere : (cs : List Callback) (r : Routine) → answers (place_at cs (routine_of cs r)) ≡ false
routine_elsewhere cs r =
    subst (λ (o : Option Callback). answers (place_for o) ≡ false) (find_at (λ (c : Callback). is_named r.name c.head) cs)
    (by (find (λ (c : Callback). is_named r.name c.head) cs) (λ c h. found_passes (is_named r.name) cs c h))
  where
    elsewhere : (h : Head) → is_named r.name h ≡ true → answers (head_place h) ≡ false
    elsewhere (head.Pre kind) h = absurd (cc)
    elsewhere (head.Post kind) h = absurd (cc)
    elsewhere head.Canceled h = refl
    elsewhere (head.DeferredPre name) h = refl
    elsewhere (head.DeferredPost name) h = refl
    elsewhere (head.Generic name) h = refl

    by : (o : Option Callback) → ((c : Callback) → o ≡ Some c → is_named r.name c.head ≡ true) → answers (place_for o) ≡ false
    by None h = refl
    by (Some c) h = elsewhere c.head (h c refl)
