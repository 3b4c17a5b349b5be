-- Worked filters whose post callback is asked for, and isn't. Which sets of their callbacks are closed is in `proofs/Worked.antt`.
use Rattle.std.specs.Prelude.{◌≡◌, refl, ℕ, zero, suc, Bool, true, false, List, [], ◌∷◌, Option, Some, None, is_some, option_and_then}
use Rattle.flt_rules.specs.declared.place.Operation.TheVariants.{Read}
use Rattle.flt_tree.specs.declared.filter.Filter.{Filter}
use Rattle.flt_tree.specs.declared.filter.Head.TheVariants as head
use Rattle.flt_tree.specs.declared.filter.Status.TheVariants as status
use Rattle.flt_model.specs.declared.moves.JournalEntry.{JournalEntry}
use Rattle.flt_model.specs.declared.moves.Move.TheVariants as move
use Rattle.flt_model.specs.Steps.{Make}
use Rattle.flt_model.specs.WorkedParts.{computed, return, on, passes, cleans_up, filter, arrive, pre, lower, go, played}
use Rattle.flt_starts.specs.Starts.{Callee, starts_callback}

-- pre read asks for post read by WITH_CALLBACK
abbrev pub asking : List Filter
asking = filter 100 (passes Read ∷ cleans_up Read ∷ []) ∷ []

-- it returns NO_CALLBACK, and post read is there all the same
abbrev pub unasking : List Filter
unasking = filter 100 (on (head.Pre Read) (return status.NoCallback ∷ []) ∷ cleans_up Read ∷ []) ∷ []

-- the pre callback alone
abbrev pub pre_alone : ℕ → Bool
pre_alone zero = true
pre_alone (suc k) = false

-- one read, down to the lowest point
abbrev pub one_read : List JournalEntry
one_read = arrive Read ∷ pre 0 ∷ go 0 1 ∷ lower 0 ∷ []

-- which callback its post move starts
abbrev pub post_starts : List Filter → Option Callee
post_starts filters = option_and_then (λ m. starts_callback filters m.world (Make (move.Post 0))) (played filters one_read)

pub asking-starts : post_starts asking ≡ Some (record { filter = 0; callback = 1 })
unfolding computed
asking-starts = refl

pub unasking-runs : is_some (played unasking one_read) ≡ true
unfolding computed
unasking-runs = refl

pub unasking-starts-none : post_starts unasking ≡ None
unfolding computed
unasking-starts-none = refl
