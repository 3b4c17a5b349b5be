-- What the places of links say of contexts.
use Rattle.std.specs.Prelude.{◌≡◌, ℕ, ◌+◌, List, get_or}
use Rattle.std.specs.BTreeSet.{BTreeSet}
use Rattle.flt_model.specs.declared.moves.Key.{Key}
use Rattle.flt_model.specs.declared.moves.Key.TheVariants.{Stream, Instance}
use Rattle.flt_model.specs.declared.parts.Link.{Link}
use Rattle.flt_model.specs.World.{Context, is_linked_to, no_context}
use Rattle.flt_replay_records.specs.Places.{has}

-- keys as numbers
abbrev pub key_code : Key → ℕ
key_code (Stream f) = f + 1
key_code Instance = 0

-- the places of a link are the contexts that have it
pub record AreLinks (contexts : List Context) (s : BTreeSet (ℕ × ℕ × ℕ)) : Type 0 where
  pub each : (l : Link) (x : ℕ) → has s l.filter (key_code l.key) x ≡ is_linked_to l (get_or contexts x no_context).link
