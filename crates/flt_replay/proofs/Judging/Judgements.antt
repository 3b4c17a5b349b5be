-- The least violation of a step: first those of who holds what, then those of rules.
use Rattle.std.proofs.Common.{◌≡◌, ℕ, Bool, true, false, List, [], ◌∷◌, Option, Some, None, find, not, refl, sym, ap, ◌∙◌}
use Rattle.std.proofs.lemmas.Bool.{and_parts}
use Rattle.std.proofs.lemmas.List.Folds.{find-append}
use Rattle.std.specs.List.{list_all}
use Rattle.std.specs.Option.{option_or}
use Rattle.std.specs.Prelude.{cond, ◌&&◌}
use Rattle.flt_tree.specs.declared.filter.Filter.{Filter}
use Rattle.flt_model.specs.declared.moves.Move.{Move}
use Rattle.flt_model.specs.declared.verdict.Violation.{Violation}
use Rattle.flt_model.specs.declared.verdict.Violation.TheVariants.{V5, V6, V7, V8}
use Rattle.flt_model.specs.Effects.{Step}
use Rattle.flt_model.specs.Locks.{locks_exclude}
use Rattle.flt_model.specs.Moves.{make}
use Rattle.flt_model.specs.Runs.{Moment, keeps, broken}
use Rattle.flt_model.specs.Steps.{board}
use Rattle.flt_model.specs.Violations.{is_disciplined}
use Rattle.flt_model.specs.World.{activation_at}
use Rattle.flt_replay.specs.Judging.{first_of, of_holding, of_rules, keeps_rule, with_locks}
use Rattle.flt_replay.proofs.Machine.Frames.{stepped}
use Rattle.flt_replay.proofs.Machine.MoveRules.{moves_keep_rules}
use Rattle.flt_replay.proofs.Judging.RulesAfter.{rules_alike, alike_after}

-- the least violation of a step is the least of who holds what, else the least of rules
pub least_of_both : (p : List Filter) (m : Moment) (s : Step) →
    broken p m s ≡ option_or (first_of of_holding p m s) (first_of of_rules p m s)
least_of_both p m s = find-append (λ v. not (keeps p m s v)) of_holding of_rules

and_true : (b : Bool) → (b && true) ≡ b
and_true true = refl
and_true false = refl

-- the rules, in other words, after a step to where no lock is held exclusively beside another activation
rules_by : (p : List Filter) (m : Moment) (s : Step) (kept : Violation → Bool) → locks_exclude s.world ≡ true →
    ((v : Violation) → keeps_rule p m.world m.trace s.events v ≡ kept v) → first_of of_rules p m s ≡ find (λ v. not (kept v)) of_rules
rules_by p m s kept exclusive h =
    let disciplined = list_all (is_disciplined p m.world m.trace) s.events in
    let seventh : keeps p m s V7 ≡ kept V7 = ap (λ b. disciplined && b) exclusive ∙ (and_true disciplined ∙ h V7) in
    rw (← h V5, ← h V6, ← seventh, ← h V8) refl

-- read after a step of an activation, with the locks from before it
pub rules_of_step : (p : List Filter) (m : Moment) (a : ℕ) (grant : Bool) (s : Step) → board p m.trace m.world a grant ≡ Some s →
    locks_exclude s.world ≡ true →
    first_of of_rules p m s ≡ find (λ v. not
    (keeps_rule p (with_locks s.world a (activation_at m.world a).locks) m.trace s.events v)) of_rules
rules_of_step p m a grant s e exclusive =
    let h = stepped p m.trace m.world a grant s e in
    rules_by p m s (keeps_rule p (with_locks s.world a (activation_at m.world a).locks) m.trace s.events) exclusive
    (λ v. sym (rules_alike p m.trace (with_locks s.world a (activation_at m.world a).locks) m.world a
    (alike_after m.world a s h) s.events h.framed.by_actor v))

-- a move breaks none
pub no_rule_of_move : (p : List Filter) (m : Moment) (x : Move) (s : Step) → make p m.world x ≡ Some s → locks_exclude s.world ≡ true →
    None ≡ first_of of_rules p m s
no_rule_of_move p m x s e exclusive = sym (rules_by p m s (λ v. true) exclusive (λ v. moves_keep_rules p m.world x s e v m.world m.trace))

third_kept : (a b c : Bool) (rest : Option Violation) →
    cond (not a) (Some V5) (cond (not b) (Some V6) (cond (not c) (Some V7) rest)) ≡ None → c ≡ true
third_kept false b c rest e = absurd (cc)
third_kept true false c rest e = absurd (cc)
third_kept true true false rest e = absurd (cc)
third_kept true true true rest e = refl

-- where a step breaks no rule, no lock is held exclusively beside another activation after it
pub exclusive_after : (p : List Filter) (m : Moment) (s : Step) → first_of of_rules p m s ≡ None → locks_exclude s.world ≡ true
exclusive_after p m s e =
    let disciplined = list_all (is_disciplined p m.world m.trace) s.events in
    let kept = third_kept (keeps p m s V5) (keeps p m s V6) (keeps p m s V7) (find (λ v. not (keeps p m s v)) (V8 ∷ [])) e in
    (and_parts disciplined (locks_exclude s.world) kept).1
