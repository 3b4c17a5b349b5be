-- A step that nobody else sees leaves what a ledger says.
use Rattle.std.proofs.Common.{◌≡◌, ℕ, false, List, [], ◌++◌, Some, ap, sym, subst, ◌∙◌}
use Rattle.std.proofs.Math.Seq.{map-set_same}
use Rattle.std.proofs.lemmas.Bool.{true≢false}
use Rattle.std.proofs.lemmas.List.{append-nil}
use Rattle.std.specs.List.{list_all}
use Rattle.std.specs.Prelude.{not}
use Rattle.flt_tree.specs.declared.filter.Filter.{Filter}
use Rattle.flt_model.specs.declared.event.Event.{Event}
use Rattle.flt_model.specs.Effects.{Step}
use Rattle.flt_model.specs.Runs.{Moment, next, after}
use Rattle.flt_model.specs.Steps.{Local}
use Rattle.flt_model.specs.World.{Activation, nobody}
use Rattle.flt_replay.proofs.Machine.Locals.{AreQuiet}
use Rattle.flt_replay.proofs.Machine.Owners.{Tidy, Spared, tidy_after, one_owner_after}
use Rattle.flt_replay.specs.Apart.{is_apart, ends_in}
use Rattle.flt_replay.specs.Ledger.{Tally, Tells, Agrees, going}

module _ (quiet : AreQuiet) (p : List Filter) (m : Moment) (a : ℕ) (s : Step) (c : Tally) (agrees : Agrees m c)
    (e : next p m (Local a) ≡ Some s) where
  none : s.events ≡ []
  none = quiet.events p m a s e

  tidy : Tidy m
  tidy = record { paired = agrees.paired; strangers = agrees.strangers }

  same_trace : m.trace ++ s.events ≡ m.trace
  same_trace = ap (λ (es : List Event). m.trace ++ es) none ∙ append-nil m.trace

  same_going : going s.world.activations ≡ going m.world.activations
  same_going =
      let alone = quiet.alone p m a s e in
      ap (λ w. going w.activations) alone.changes
      ∙ map-set_same (λ (act : Activation). not act.ended) m.world.activations a alone.act nobody
      (ap not (alone.goes_on ∙ sym alone.went_on))

  spared : (v : ℕ) → Spared m s v
  spared v = record {
    apart = ap (list_all (is_apart v)) none;
    released = λ b end. absurd (true≢false (sym end ∙ ap (ends_in b) none));
  }

  -- after a step that others don't see, the ledger still agrees with the moment
  pub agrees_unseen : Agrees (after m s) c
  agrees_unseen =
      let later = tidy_after quiet p m (Local a) s e tidy in
      record {
        tells = subst (λ (t : List Event). Tells t c) (sym same_trace) agrees.tells;
        counted = agrees.counted;
        running_is = agrees.running_is ∙ sym same_going;
        owned = one_owner_after quiet p m (Local a) s e tidy (λ v. false) (λ v _. spared v)
            (λ v within l. absurd (true≢false (sym l))) agrees.owned;
        paired = later.paired;
        strangers = later.strangers;
      }
