-- A turn of the last part is taken in place.
use Rattle.std.proofs.Common.{◌≡◌, ◌<◌, ◌==◌, ℕ, Bool, true, not, Some, List}
use Rattle.std.proofs.Common.{[], ◌∷◌, ◌++◌, length, refl, sym, ap, ◌∙◌, arith}
use Rattle.std.proofs.lemmas.Bool.Decides.{nat_tests}
use Rattle.flt_tree.specs.declared.filter.Statement.{Statement}
use Rattle.flt_tree.specs.declared.filter.Statement.TheViews.{outs-Repeat}
use Rattle.flt_model.specs.LocalSteps.{local_step}
use Rattle.flt_model.specs.World.{Activation}
use Rattle.flt_replay_records.specs.Behind.{TurnsLast}
use Rattle.flt_replay_records.specs.Rest.{statements_of, before, remaining, has_turn, turned, body_of, IsTurn}
use Rattle.flt_replay_records.specs.declared.rest.Part.{Part}
use Rattle.flt_replay_records.specs.declared.rest.Part.TheVariants.{Block, Repeat}
use Rattle.flt_replay_records.proofs.Remaining.{before_push, turn_left}

-- ---- a turn of it is one of what remains

some_turn : (n : ℕ) → not (n == 0) ≡ true → n ≡ 0 → ⊥
some_turn n h e = absurd (grind (arith, nat_tests))

turn_by : (p : Part) (rest : List Statement) → has_turn p ≡ true →
    IsTurn (statements_of p ++ rest) (body_of p ++ (statements_of (turned p) ++ rest))
unfolding IsTurn
turn_by (Block b) rest h = absurd (cc h)
turn_by (Repeat span turns body) rest h =
    (span.now, turns, body.now, rest, refl, sym (turn_left span.now turns body.now rest (some_turn turns h)))

turn_at : (parts old new : List Part) (p : Part) (body : List Statement) → old ≡ parts ++ p ∷ [] → new ≡ parts ++ turned p ∷ [] →
    has_turn p ≡ true → body ≡ body_of p → IsTurn (before [] old) (body ++ before [] new)
turn_at parts old new p body was is has of =
    let old_is : before [] old ≡ statements_of p ++ before [] parts = ap (before []) was ∙ before_push [] parts p in
    let new_is : before [] new ≡ statements_of (turned p) ++ before [] parts = ap (before []) is ∙ before_push [] parts (turned p) in
    rw (old_is, new_is, of) (turn_by p (before [] parts) has)

last_turned : (old new : List Part) (body : List Statement) → TurnsLast old body new → IsTurn (before [] old) (body ++ before [] new)
unfolding TurnsLast
last_turned old new body h = turn_at h.0 old new h.1 body h.2 h.5 h.3 h.4

nothing : (l : List Statement) → length l < 1 → l ≡ []
nothing [] h = refl
nothing (x ∷ l) h = absurd (omega arith)

-- a turn of the last part is a turn of what remains
pub turn_of : (here outer : List Statement) (old new : List Part) (body : List Statement) → length here < 1 → length outer < 1 →
    TurnsLast old body new → IsTurn (remaining here outer old) (remaining body outer new)
turn_of here outer old new body small none h = rw (nothing here small, nothing outer none) (last_turned old new body h)

-- such a turn is a local step
pub turned_step : (draining : Bool) (old new : Activation) → IsTurn old.rest new.rest → new ≡ record old { rest = new.rest } →
    local_step draining old old.rest ≡ Some new
unfolding IsTurn
turned_step draining old new turn same =
    rw (turn.4, outs-Repeat turn.0 turn.1 turn.2)
    (ap Some (ap (λ (l : List Statement). record old { rest = l }) (sym turn.5) ∙ sym same))
