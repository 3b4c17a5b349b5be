-- What comes of the deeds under a name, by how a call ends.
use Rattle.std.proofs.Common.{◌≡◌, ◌∙◌, sym, refl, List, [], ◌∷◌, ◌++◌, Some, None, Bool, true, false, Result, Ok, Err}
use Rattle.std.proofs.Common.{IfOk, OnOk, OnErr, ◌⊎◌, inl, inr, append-nil}
use Rattle.flt_files.specs.Attempts as attempts
use Rattle.flt_files.specs.Attempts.{AreDeedsIn, Failed, Grows, Left, Made, Wrote}
use Rattle.flt_files.specs.Deeds.{Adds, Deed, IsCutShort, IsFailing, IsLeft, IsReplacing, IsWriting, looked, made, new_or_not, not_made}
use Rattle.flt_files.specs.Deeds.{opened, barred, failing, poured, removed, unasked, unlooked, unmade, unpoured}
use Rattle.flt_files.specs.Inputs.{Text}
use Rattle.flt_files.specs.declared.deeds.Fate.TheVariants.{Removed}
use Rattle.flt_files.specs.declared.system.Place.{Place}
use Rattle.flt_files.specs.declared.system.Place.TheVariants.{Stream}
use Rattle.flt_files.proofs.Doing.{adds_behind, grows_by}

-- ---- calls within calls

module _ {A E F : Type 0} (P Q : Type 0) (weaker : P → Q) where
  pub ok_ok : (result : Result (Result A F) E) → IfOk result (λ tried. OnOk tried P) → IfOk result (λ tried. OnOk tried Q)
  ok_ok (Ok (Ok x)) p = weaker p
  ok_ok (Ok (Err f)) p = tt
  ok_ok (Err e) p = tt

  pub ok_err : (result : Result (Result A F) E) → IfOk result (λ tried. OnErr tried P) → IfOk result (λ tried. OnErr tried Q)
  ok_err (Ok (Ok x)) p = tt
  ok_err (Ok (Err f)) p = weaker p
  ok_err (Err e) p = tt

  pub any_ok : (result : Result (Result A F) E) → OnOk result P → IfOk result (λ tried. OnOk tried Q)
  any_ok (Ok (Ok x)) p = weaker p
  any_ok (Ok (Err f)) p = tt
  any_ok (Err e) p = tt

  pub any_err : (result : Result (Result A F) E) → OnOk result P → IfOk result (λ tried. OnErr tried Q)
  any_err (Ok (Ok x)) p = tt
  any_err (Ok (Err f)) p = weaker p
  any_err (Err e) p = tt

pub err : {A E : Type 0} (P Q : Type 0) → (P → Q) → (result : Result A E) → OnErr result P → OnErr result Q
err P Q weaker (Ok x) p = tt
err P Q weaker (Err e) p = weaker p

-- ---- what was done under a name, behind a look at it

module _ (old mid new : List Deed) (name : Text) where
  -- a new file took its place
  pub wrote_by : (bytes : Text) (found : Place) →
      ((deeds : List Deed) → IsReplacing name deeds → IsWriting name (looked name (Some found) ∷ deeds)) →
      mid ≡ old ++ looked name (Some found) ∷ [] → Adds mid new (IsReplacing name) → Grows old new (Wrote name bytes ∷ [])
  wrote_by bytes found put first adds =
      grows_by old new (Wrote name bytes) (adds_behind (IsReplacing name) (IsWriting name) old mid new _ first put adds)

  -- no new file did
  pub failed_by : (found : Place) → ((deeds : List Deed) → IsLeft name deeds → IsFailing name (looked name (Some found) ∷ deeds)) →
      mid ≡ old ++ looked name (Some found) ∷ [] → Adds mid new (IsLeft name) → Grows old new (Failed name ∷ [])
  failed_by found left first adds =
      grows_by old new (Failed name)
      (adds_behind (IsLeft name) (AreDeedsIn (Failed name)) old mid new _ first (λ deeds are. inl (left deeds are)) adds)

  -- none did, and memory ran out
  pub cut_by : (found : Place) → ((deeds : List Deed) → IsLeft name deeds → IsFailing name (looked name (Some found) ∷ deeds)) →
      mid ≡ old ++ looked name (Some found) ∷ [] → Adds mid new (IsLeft name) → Adds old new (IsCutShort name)
  cut_by found left first adds =
      adds_behind (IsLeft name) (IsCutShort name) old mid new _ first (λ deeds are. failing (looked name (Some found) ∷ deeds) (left deeds are))
      adds

  -- its stream was opened
  pub poured_by : (bytes : Text) → mid ≡ old ++ looked name (Some Stream) ∷ [] → new ≡ mid ++ opened name ∷ [] →
      Grows old new (Wrote name bytes ∷ [])
  poured_by bytes first second =
      grows_by old new (Wrote name bytes) (adds_behind (λ more. more ≡ opened name ∷ []) (IsWriting name) old mid new _ first
      (λ more is. rw is poured) (record { more = opened name ∷ []; added = second; are = refl }))

  pub unpoured_by : mid ≡ old ++ looked name (Some Stream) ∷ [] → new ≡ mid ++ opened name ∷ [] → Grows old new (Failed name ∷ [])
  unpoured_by first second =
      grows_by old new (Failed name) (adds_behind (λ more. more ≡ opened name ∷ []) (AreDeedsIn (Failed name)) old mid new _ first
      (λ more is. rw is (inl unpoured)) (record { more = opened name ∷ []; added = second; are = refl }))

  -- it wasn't, since memory ran out
  pub unopened_by : mid ≡ old ++ looked name (Some Stream) ∷ [] → new ≡ mid → Adds old new (IsCutShort name)
  unopened_by first same = record { more = looked name (Some Stream) ∷ []; added = same ∙ first; are = failing _ unasked }

-- ---- what was done at once

module _ (old new : List Deed) (name : Text) where
  -- the name may not be written
  pub barred_by : new ≡ old ++ looked name None ∷ [] → Grows old new (Failed name ∷ [])
  barred_by is = grows_by old new (Failed name) (record { more = _; added = is; are = inl barred })

  -- a stream isn't asked
  pub unasked_by : new ≡ old ++ looked name (Some Stream) ∷ [] → Grows old new (Failed name ∷ [])
  unasked_by is = grows_by old new (Failed name) (record { more = _; added = is; are = inl unasked })

  -- nothing was done, since memory ran out
  pub unlooked_by : new ≡ old → Adds old new (IsCutShort name)
  unlooked_by same = record { more = []; added = same ∙ sym (append-nil old); are = unlooked }

  -- a new file of the name is there, or none was made
  pub new_by : (bytes : Text) (is_new : Bool) → new ≡ old ++ new_or_not name is_new ∷ [] →
      Grows old new (attempts.made is_new name bytes ∷ [])
  new_by bytes true is = grows_by old new (Made name bytes) (record { more = _; added = is; are = refl })
  new_by bytes false is = grows_by old new (Left name) (record { more = _; added = is; are = refl })

  pub each_new : {E F : Type 0} (bytes : Text) (result : Result (Result Bool F) E) →
      IfOk result (λ tried. IfOk tried (λ is_new. new ≡ old ++ new_or_not name is_new ∷ [])) →
      IfOk result (λ tried. IfOk tried (λ is_new. Grows old new (attempts.made is_new name bytes ∷ [])))
  each_new bytes (Ok (Ok is_new)) is = new_by bytes is_new is
  each_new bytes (Ok (Err f)) is = tt
  each_new bytes (Err e) is = tt

  -- none is left
  pub unmade_by : (new ≡ old ++ not_made name None ∷ []) ⊎ (new ≡ old ++ made name None Removed ∷ []) → Grows old new (Failed name ∷ [])
  unmade_by (inl is) = grows_by old new (Failed name) (record { more = _; added = is; are = inr unmade })
  unmade_by (inr is) = grows_by old new (Failed name) (record { more = _; added = is; are = inr removed })
