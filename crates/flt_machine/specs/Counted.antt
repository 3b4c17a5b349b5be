-- What a board never holds too much of. This project's own limits.
use Rattle.std.specs.Prelude.{◌≡◌, ◌≤◌, ◌*◌, ◌==◌, ℕ, false, List, [], ◌∷◌, length, Some}
use Rattle.flt_rules.specs.Call.{place_of}
use Rattle.flt_rules.specs.declared.held.HeldLock.{HeldLock}
use Rattle.flt_machine_frames.specs.declared.standing.Standing.{Standing}
use Rattle.flt_model.specs.World.{Store, context_at}
use Rattle.flt_machine.specs.Situations.{Situation, standing_of}
use Rattle.flt_rules.specs.Limits.{max_entries, max_operations}

-- each lock of a list is at another place
abbrev pub AreApart : ℕ → List HeldLock → Type 0
AreApart place [] = Unit {0}
AreApart place (h ∷ locks) = ((place == place_of h.lock) ≡ false) × AreApart place locks

-- no lock stands twice in a list
abbrev pub AreDistinct : List HeldLock → Type 0
AreDistinct [] = Unit {0}
AreDistinct (h ∷ locks) = AreApart (place_of h.lock) locks × AreDistinct locks

-- what is counted of an activation is at most sixteen of each entry, and it holds no lock twice
pub record IsSmall (entries : ℕ) (s : Standing) : Type 0 where
  pub gained : s.gained ≤ 16 * entries
  pub lost : s.lost ≤ 16 * entries
  pub locks : AreDistinct s.locks

-- no context has more references
abbrev pub AreAtMost : ℕ → Store → Type 0
AreAtMost n s = (x : ℕ) → (context_at s x).references ≤ n

-- there are as many standings as actors, as many queues as filters, and entries and operations are no more than may be; each entry
-- adds one reference, one activation and one work item at most
pub record IsBounded (b : Situation) : Type 0 where
  pub both : length b.actors ≡ length b.standings
  pub queues : length b.store.queues ≡ length b.store.presences
  pub entries : length b.entries ≤ max_entries
  pub arrivals : length b.store.arrivals ≤ max_operations
  pub started : length b.standings ≤ length b.entries
  pub items : length b.store.items ≤ length b.entries
  pub references : AreAtMost (length b.entries) b.store
  pub standings : (a : ℕ) (s : Standing) → standing_of b a ≡ Some s → IsSmall (length b.entries) s
