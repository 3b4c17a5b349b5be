-- Events that a ledger takes in one after another.
use Rattle.std.proofs.Common.{◌≡◌, subst, ℕ, suc, ◌+◌, ◌<◌, Bool, true, false, List, []}
use Rattle.std.proofs.Common.{◌∷◌, ◌++◌, ap, sym, refl, ◌∙◌, length, get_or, take, drop}
use Rattle.std.proofs.lemmas.Bool.{and_from, and_left, and_right}
use Rattle.std.proofs.lemmas.List.{append-nil, append_assoc, take-append-drop}
use Rattle.std.proofs.lemmas.Grind.{take_at_read}
use Rattle.std.proofs.Math.Seq.{drop-cons}
use Rattle.std.proofs.Math.Bool.{and_assoc, and-true}
use Rattle.std.proofs.lemmas.List.Folds.{list_all-append}
use Rattle.std.specs.Prelude.{◌&&◌, if◌then◌else◌, Some, None}
use Rattle.flt_model.specs.declared.event.Event.{Event}
use Rattle.flt_model.specs.declared.verdict.Violation.TheVariants.{V1, V2, V3}
use Rattle.flt_model.specs.Violations.{along, is_fresh, leaks_nothing, is_first_settling, no_stale_use, no_leak, settled_once}
use Rattle.flt_model.specs.World.{World}
use Rattle.flt_replay.specs.Apart.{is_apart, are_apart}
use Rattle.flt_replay.specs.Ledger.{Tally, Tells, IsCounted, Noted, Judged, first_broken}

module _ (test : List Event → Event → Bool) where
  along-append : (t xs ys : List Event) → along test t (xs ++ ys) ≡ (along test t xs && along test (t ++ xs) ys)
  along-append t [] ys = ap (λ s. along test s ys) (sym (append-nil t))
  along-append t (x ∷ xs) ys =
      let onward : (t ++ x ∷ []) ++ xs ≡ t ++ (x ∷ xs) = simp append_assoc in
      ap (λ b. test t x && b) (along-append (t ++ x ∷ []) xs ys ∙ ap (λ s. along test (t ++ x ∷ []) xs && along test s ys) onward)
      ∙ sym (and_assoc (test t x) (along test (t ++ x ∷ []) xs) (along test (t ++ (x ∷ xs)) ys))

  along_push : (t xs : List Event) (e : Event) → along test t (xs ++ e ∷ []) ≡ (along test t xs && test (t ++ xs) e)
  along_push t xs e = along-append t xs (e ∷ []) ∙ ap (λ b. along test t xs && b) (and-true (test (t ++ xs) e))

  -- one that fails after those before it
  along_fails : (t xs : List Event) (e : Event) (ys : List Event) → test (t ++ xs) e ≡ false → along test t (xs ++ (e ∷ ys)) ≡ false
  along_fails t xs e ys h =
      along-append t xs (e ∷ ys)
      ∙ and_right (along test t xs) (along test (t ++ xs) (e ∷ ys)) (and_left (test (t ++ xs) e) (along test ((t ++ xs) ++ e ∷ []) ys) h)

module _ (w : World) (t : List Event) (old : Tally) (was : List ℕ) where
  -- before the first
  pub judged_none : Tells t old → IsCounted old → Judged w t [] old old was was true true
  judged_none k counted = record {
    tells = subst (λ (s : List Event). Tells s old) (sym (append-nil t)) k;
    counted = counted;
    same_running = refl;
    listed = λ v z. z;
    apart = λ v z. refl;
    fresh = refl;
    tight_is = refl;
    once_is = refl;
  }

  -- one more
  pub judged_more : (es : List Event) (e : Event) (mid new : Tally) (now later : List ℕ) (tight once : Bool) →
      Judged w t es old mid was now tight once →
      is_fresh w (t ++ es) e ≡ true → Noted (t ++ es) e mid new now later →
      Judged w t (es ++ e ∷ []) old new was later (tight && leaks_nothing (t ++ es) e) (once && is_first_settling (t ++ es) e)
  judged_more es e mid new now later tight once j fresh n = record {
    tells = subst (λ (s : List Event). Tells s new) (append_assoc t es (e ∷ [])) n.tells;
    counted = n.counted;
    same_running = n.same_running ∙ j.same_running;
    listed = λ v z. j.listed v (n.listed v z);
    apart = λ v z. list_all-append (is_apart v) es (e ∷ [])
        ∙ and_from (are_apart v es) (is_apart v e && true) (j.apart v (n.listed v z)) (and_from (is_apart v e) true (n.apart v z) refl);
    fresh = along_push (is_fresh w) t es e ∙ and_from (no_stale_use w t es) (is_fresh w (t ++ es) e) j.fresh fresh;
    tight_is = ap (λ b. b && leaks_nothing (t ++ es) e) j.tight_is ∙ sym (along_push leaks_nothing t es e);
    once_is = ap (λ b. b && is_first_settling (t ++ es) e) j.once_is ∙ sym (along_push is_first_settling t es e);
  }

  -- one that touches something stale
  pub judged_stale : (es : List Event) (e : Event) (ys : List Event) → is_fresh w (t ++ es) e ≡ false →
      first_broken w t (es ++ (e ∷ ys)) ≡ Some V1
  judged_stale es e ys h =
      ap (λ b. if b then (if no_leak t (es ++ (e ∷ ys)) then (if settled_once t (es ++ (e ∷ ys)) then None else Some V3)
      else Some V2) else Some V1)
      (along_fails (is_fresh w) t es e ys h)

  -- all
  pub judged_all : (es : List Event) (new : Tally) (now : List ℕ) (tight once : Bool) → Judged w t es old new was now tight once →
      (if tight then (if once then None else Some V3) else Some V2) ≡ first_broken w t es
  judged_all es new now tight once j =
      ap (λ b. if b then (if once then None else Some V3) else Some V2) j.tight_is
      ∙ ap (λ b. if no_leak t es then (if b then None else Some V3) else Some V2) j.once_is
      ∙ ap (λ b. if b then (if no_leak t es then (if settled_once t es then None else Some V3) else Some V2) else Some V1) (sym j.fresh)

  -- ---- by place

  -- one more event of a list is taken in after those before it, where it touches nothing stale
  pub judged_at : (events : List Event) (i : ℕ) (d : Event) → i < length events →
      (mid new : Tally) (now later : List ℕ) (tight once tight_too once_too : Bool) →
      Judged w t (take i events) old mid was now tight once → is_fresh w (t ++ take i events) (get_or events i d) ≡ true →
      Noted (t ++ take i events) (get_or events i d) mid new now later →
      tight_too ≡ (tight && leaks_nothing (t ++ take i events) (get_or events i d)) →
      once_too ≡ (once && is_first_settling (t ++ take i events) (get_or events i d)) →
      Judged w t (take (i + 1) events) old new was later tight_too once_too
  judged_at events i d l mid new now later tight once tight_too once_too j fresh n a b =
      let more = judged_more (take i events) (get_or events i d) mid new now later tight once j fresh n in
      let first = subst (λ (x : Bool). Judged w t (take i events ++ get_or events i d ∷ []) old new was later x
      (once && is_first_settling (t ++ take i events) (get_or events i d))) (sym a) more in
      let second = subst (λ (x : Bool). Judged w t (take i events ++ get_or events i d ∷ []) old new was later tight_too x) (sym b) first in
      subst (λ (es : List Event). Judged w t es old new was later tight_too once_too) (sym (take_at_read events i d l).1) second

  -- an event that touches something stale makes V1 the least violation of its step
  pub stale_at : (events : List Event) (i : ℕ) (d : Event) → i < length events →
      is_fresh w (t ++ take i events) (get_or events i d) ≡ false →
      Some V1 ≡ first_broken w t events
  stale_at events i d l h =
      let split : take i events ++ (get_or events i d ∷ drop (suc i) events) ≡ events =
      ap (λ es. take i events ++ es) (sym (drop-cons events i d l)) ∙ take-append-drop i events in
      subst (λ (es : List Event). Some V1 ≡ first_broken w t es) split
      (sym (judged_stale (take i events) (get_or events i d) (drop (suc i) events) h))
