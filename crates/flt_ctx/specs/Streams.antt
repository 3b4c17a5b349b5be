-- What the set of streams has, by this project's own rules: the filter and the file of each link to a stream.
use Rattle.std.specs.Prelude.{◌≡◌, ◌↔◌, ℕ, Bool, true, List, Some}
use Rattle.std.specs.BTreeSet.{BTreeSet}
use Rattle.pair_set.specs.Pairs.{has}
use Rattle.flt_ctx.specs.declared.key.Key.{Key}
use Rattle.flt_ctx.specs.declared.key.Target.TheVariants.{Stream}
use Rattle.flt_ctx.specs.declared.links.Row.{Row}
use Rattle.flt_ctx.specs.Contexts.{same_key}
use Rattle.flt_ctx.specs.Rows.{row_at, key_of}

-- the key of a filter's stream
abbrev pub stream_key : ℕ → ℕ → Key
stream_key filter file = record { filter = filter; target = Stream file }

-- whether a key is that of a filter's stream
abbrev pub is_stream : Key → ℕ → ℕ → Bool
is_stream key filter file = same_key key (stream_key filter file)

-- a context is linked to the filter's stream
abbrev pub IsStreamLinked : List Row → ℕ → ℕ → Type 0
IsStreamLinked rows filter file = (x : ℕ) × (key_of (row_at rows x).link ≡ Some (stream_key filter file))

-- the set has the streams at which contexts are linked, and no others
pub record AreIndexed (rows : List Row) (streams : BTreeSet (ℕ × ℕ)) : Type 0 where
  pub each : (filter file : ℕ) → (has streams filter file ≡ true) ↔ IsStreamLinked rows filter file
