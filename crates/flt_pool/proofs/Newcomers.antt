-- The hands of a new seat.
use Rattle.std.proofs.Common.{◌≡◌, List, ◌∷◌}
use Rattle.std.proofs.lemmas.List.Elements.{All-cons}
use Rattle.flt_pool.specs.Hands.{AreNewcomers, newcomer}
use Rattle.flt_pool.specs.declared.hand.Hand.{Hand}

abbrev is_new : Hand → Type 0
is_new v = v ≡ newcomer

-- nothing went through a seat whose deque, pass and ways are new
pub all_new : (own inlet : Hand) (ways : List Hand) → own ≡ newcomer → inlet ≡ newcomer → AreNewcomers ways
    → AreNewcomers (own ∷ inlet ∷ ways)
all_new own inlet ways e f h = All-cons is_new own (inlet ∷ ways) e (All-cons is_new inlet ways f h)
