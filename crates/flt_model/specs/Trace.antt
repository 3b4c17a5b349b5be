-- What a trace says: who holds what, what is freed and what is settled, by counting its events.
use Rattle.std.specs.Prelude.{ℕ, ◌==◌, nat_lt, Bool, if◌then◌else◌, List, sum_by}
use Rattle.flt_model.specs.declared.event.Event.{Event}
use Rattle.flt_model.specs.declared.event.Event.TheVariants.{Gain, Lose, Free, Settle}
use Rattle.flt_model.specs.declared.event.Object.{Object}
use Rattle.flt_model.specs.declared.event.Object.TheVariants.{Context, Visit}

-- 1 where the numbers are equal
unfoldable pub one_if : ℕ → ℕ → ℕ
one_if m n = if m == n then 1 else 0

-- what is counted of activation b where a is asked for
unfoldable pub of_actor : ℕ → ℕ → ℕ → ℕ
of_actor b a n = if b == a then n else 0

-- 1 where the objects are the same
abbrev pub same_object : Object → Object → ℕ
same_object (Context x) (Context y) = one_if x y
same_object (Visit v) (Visit u) = one_if v u
same_object _ _ = 0

-- what an event counts
abbrev pub gain : ℕ → Object → Event → ℕ
gain a o (Gain b p) = of_actor b a (same_object p o)
gain a o _ = 0

-- the same of losses
abbrev pub lose : ℕ → Object → Event → ℕ
lose a o (Lose b p) = of_actor b a (same_object p o)
lose a o _ = 0

-- the same of a context that is freed
abbrev pub free : ℕ → Event → ℕ
free x (Free y) = one_if y x
free x _ = 0

-- the same of a visit that is settled
abbrev pub settle : ℕ → Event → ℕ
settle v (Settle u) = one_if u v
settle v _ = 0

-- how often the activation gained and lost the object, the context was freed, the visit was settled
unfoldable pub gains : List Event → ℕ → Object → ℕ
gains t a o = sum_by (gain a o) t

-- how often it lost the object
unfoldable pub loses : List Event → ℕ → Object → ℕ
loses t a o = sum_by (lose a o) t

-- how often the context was freed
unfoldable pub frees : List Event → ℕ → ℕ
frees t x = sum_by (free x) t

-- how often the visit was settled
unfoldable pub settles : List Event → ℕ → ℕ
settles t v = sum_by (settle v) t

-- the balance is at least one: the activation gained the object more often than it lost it
unfoldable pub is_held : List Event → ℕ → Object → Bool
is_held t a o = nat_lt (loses t a o) (gains t a o)
