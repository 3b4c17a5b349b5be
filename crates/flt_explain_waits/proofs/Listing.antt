-- What activations wait for, one after another.
use Rattle.std.proofs.Common.{◌≡◌, ◌+◌, ◌++◌, ◌∷◌, [], ℕ, true, false, List, Option, Some, None, refl, sym, ◌∙◌, add-one}
use Rattle.std.proofs.lemmas.List.{append-nil}
use Rattle.flt_model.specs.World.{World}
use Rattle.flt_rules.specs.declared.call.LockNumber.{LockNumber}
use Rattle.flt_explain_waits.specs.Waiting.{AreSettled, IsSettled, holds, last_holder, listed, wait_of, waits_at}
use Rattle.flt_explain_waits.specs.declared.waits.BlockedActivation.{BlockedActivation}

-- one activation more that holds the lock is the last one
pub holds_too : (w : World) (a : ℕ) (l : LockNumber) (b : ℕ) → holds w a l b ≡ true → last_holder w a l (b + 1) ≡ Some b
holds_too w a l b is = rw (add-one, is) refl

-- one that doesn't changes nothing
pub holds_not : (w : World) (a : ℕ) (l : LockNumber) (b : ℕ) → holds w a l b ≡ false → last_holder w a l (b + 1) ≡ last_holder w a l b
holds_not w a l b is = rw (add-one, is) refl

-- one activation more, after its local steps
pub settled_too : (w v u : World) (a : ℕ) → AreSettled w a v → IsSettled v a u → AreSettled w (a + 1) u
settled_too w v u a are settled = rw add-one (v, are, settled)

-- one activation more that is looked at
pub waits_too : (w : World) (a : ℕ) (earlier waits : List BlockedActivation) →
    earlier ≡ waits_at w a → waits ≡ earlier ++ listed (wait_of w a) →
    waits ≡ waits_at w (a + 1)
waits_too w a earlier waits before is = rw (add-one, ← before) is

-- what is found goes behind the others
pub listed_some : (found wait : Option BlockedActivation) (some : BlockedActivation) (old new : List BlockedActivation) →
    found ≡ wait → found ≡ Some some →
    new ≡ old ++ some ∷ [] → new ≡ old ++ listed wait
listed_some found wait some old new is there grown = let same : wait ≡ Some some = sym is ∙ there in rw same grown

-- where nothing is, nothing goes there
pub listed_none : (found wait : Option BlockedActivation) (old : List BlockedActivation) →
    found ≡ wait → found ≡ None → old ≡ old ++ listed wait
listed_none found wait old is none = let same : wait ≡ None = sym is ∙ none in rw same (sym (append-nil old))
