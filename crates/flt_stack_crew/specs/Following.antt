-- What the seats say of a script that was followed. This project's own rule.
use Rattle.std.specs.Prelude.{◌≡◌, ◌≤◌, ◌<◌, ℕ, ◌^◌, Bool, true, false, List, length}
use Rattle.flt_stack_crew.specs.Giving.{AreGiven, AreMade, StopsAtDetach}
use Rattle.flt_stack_core.specs.declared.receipt.Receipt.{Receipt}
use Rattle.flt_stack_script.specs.ScriptText.{Commands}

-- a count of 64 bits is this sum, where the sum is one of 64 bits
abbrev pub IsSum : ℕ → ℕ → Type 0
IsSum count sum = (count ≤ sum) × (sum < 2 ^ 64 → count ≡ sum)

-- a script was followed by a caller who holds these receipts, asked for these serial numbers to be cancelled and has this share of the
-- callers' entries, and by workers who have this share of the others and were answered that they made so many. So many calls of theirs were
-- refused since the journal was full, and it is said whether any was, and whether a detach was, since the teardown had begun before
pub record IsFollowed (script : Commands) (receipts : List Receipt) (asked : List ℕ) (callers others made fulls : ℕ)
    (is_full is_refused : Bool) : Type 0 where
  pub given : AreGiven script receipts asked
  pub callers_counted : callers ≡ length receipts
  pub others_counted : made ≤ others
  -- all commands were given, and the workers were answered of all that they made
  pub whole : is_full ≡ false → is_refused ≡ false → AreMade script receipts asked × IsSum made others
  pub full : is_full ≡ true → 0 < fulls
  pub refused : is_refused ≡ true → StopsAtDetach script receipts asked
