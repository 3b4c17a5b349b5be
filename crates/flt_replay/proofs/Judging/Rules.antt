-- Rules that are kept event by event.
use Rattle.std.proofs.Common.{◌≡◌, ℕ, zero, suc, ◌+◌, ◌<◌, Bool, true, false, List, [], ◌∷◌}
use Rattle.std.proofs.Common.{Some, None, ap, sym, refl, ◌∙◌, length, get_or, take, arith}
use Rattle.std.proofs.lemmas.Bool.{and_parts}
use Rattle.std.proofs.lemmas.List.Folds.{list_all_more}
use Rattle.std.specs.List.{list_all}
use Rattle.std.specs.Prelude.{◌&&◌, cond, find, not}
use Rattle.flt_tree.specs.declared.filter.Filter.{Filter}
use Rattle.flt_model.specs.declared.event.Event.{Event}
use Rattle.flt_model.specs.declared.verdict.Violation.TheVariants.{V5, V6, V7, V8}
use Rattle.flt_model.specs.Violations.{legal_statuses, levels_kept, is_disciplined, legal_places}
use Rattle.flt_model.specs.World.{World}
use Rattle.flt_replay.specs.Judging.{keeps_rule, least_of, of_rules}

-- what holds of all holds of each
pub holds_at : (f : Event → Bool) (es : List Event) (i : ℕ) (d : Event) → i < length es → list_all f es ≡ true → f (get_or es i d) ≡ true
holds_at f [] i d l h = absurd (omega arith)
holds_at f (e ∷ es) zero d l h = (and_parts (f e) (list_all f es) h).0
holds_at f (e ∷ es) (suc i) d l h = holds_at f es i d (omega arith) (and_parts (f e) (list_all f es) h).1

-- one event more
pub all_more : (f : Event → Bool) (es : List Event) (i : ℕ) (d : Event) → i < length es → (kept now : Bool) →
    kept ≡ list_all f (take i es) → now ≡ (kept && f (get_or es i d)) → now ≡ list_all f (take (i + 1) es)
all_more f es i d l kept now so_far more = more ∙ ap (λ b. b && f (get_or es i d)) so_far ∙ sym (list_all_more f es i d l)

-- one of which the rule doesn't speak
pub kept_still : (kept : Bool) → kept ≡ (kept && true)
kept_still true = refl
kept_still false = refl

searched : (a b c d : Bool) →
    cond (not a) (Some V5) (cond (not b) (Some V6) (cond (not c) (Some V7) (cond (not d) (Some V8) None))) ≡ least_of a b c d
searched true true true true = refl
searched true true true false = refl
searched true true false d = refl
searched true false c d = refl
searched false b c d = refl

-- the search for the least violation goes by what is kept
pub least_is : (p : List Filter) (w : World) (t es : List Event) (a b c d : Bool) → a ≡ legal_statuses p w t es → b ≡ levels_kept p w t es →
    c ≡ list_all (is_disciplined p w t) es → d ≡ legal_places p w t es →
    least_of a b c d ≡ find (λ v. not (keeps_rule p w t es v)) of_rules
least_is p w t es a b c d ea eb ec ed =
    ap (λ x. least_of x b c d) ea ∙ ap (λ x. least_of (legal_statuses p w t es) x c d) eb
    ∙ ap (λ x. least_of (legal_statuses p w t es) (levels_kept p w t es) x d) ec
    ∙ ap (λ x. least_of (legal_statuses p w t es) (levels_kept p w t es) (list_all (is_disciplined p w t) es) x) ed
    ∙ sym (searched (legal_statuses p w t es) (levels_kept p w t es) (list_all (is_disciplined p w t) es) (legal_places p w t es))
