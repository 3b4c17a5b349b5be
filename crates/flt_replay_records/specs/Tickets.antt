-- What the tickets of a queue's entries say of them.
use Rattle.std.specs.Prelude.{◌≡◌, ℕ, ◌<◌, ◌≤◌, Bool, true, false, ◌==◌, if◌then◌else◌, nat_lt, MatchOption}
use Rattle.std.specs.Prelude.{List, [], ◌∷◌, ◌++◌, Option, Some, None, is_some, nat_eq, take, length, get_or}
use Rattle.std.specs.List.{list_any, before_first, after_first}
use Rattle.flt_model.specs.Violations.{in_queue}
use Rattle.flt_model.specs.declared.parts.Entry.{Entry}
use Rattle.flt_replay_records.specs.Counts.{count}

-- the entries that are left
abbrev pub present : List (Option Entry) → List Entry
present [] = []
present (None ∷ es) = present es
present (Some e ∷ es) = e ∷ present es

-- whether an entry that may be there has the visit
abbrev pub has_visit : ℕ → Option Entry → Bool
has_visit v None = false
has_visit v (Some e) = e.visit == v

-- the same of the entry of a ticket
unfoldable pub stands : List (Option Entry) → ℕ → ℕ → Bool
stands es v t = has_visit v (get_or es t None)

-- whether a ticket is before the one from which entries are looked for; where there is none, each is
abbrev pub is_before : ℕ → Option ℕ → Bool
is_before t None = true
is_before t (Some start) = nat_lt t start

-- the front is the first ticket whose entry is left; each visit's entries are counted, and stand from its start on
pub record AreTickets (es : List (Option Entry)) (front : ℕ) (starts : List (Option ℕ)) (counts : List ℕ) : Type 0 where
  pub within : front ≤ length es
  pub taken : present (take front es) ≡ []
  pub first : front < length es → is_some (get_or es front None) ≡ true
  pub counted : (v : ℕ) → count counts v ≡ in_queue v (present es)
  pub later : (v t : ℕ) → is_before t (get_or starts v None) ≡ true → stands es v t ≡ false

-- whether an entry has one of some visits
abbrev pub is_of : List ℕ → Entry → Bool
is_of visits e = list_any (nat_eq e.visit) visits

-- the entries without the first that passes
abbrev pub without_first : (Entry → Bool) → List Entry → List Entry
without_first test es = before_first test es ++ after_first test es

-- the lesser of two numbers that may be there
abbrev pub lesser : Option ℕ → Option ℕ → Option ℕ
lesser None other = other
lesser (Some m) None = Some m
lesser (Some m) (Some n) = Some (if nat_lt m n then m else n)

-- the least ticket of some visits, where they have one
abbrev pub IsLeast : List (Option Entry) → List ℕ → Option ℕ → Type 0
IsLeast es visits least =
    MatchOption least
    ((v t : ℕ) → list_any (nat_eq v) visits ≡ true → stands es v t ≡ false)
    (λ n. ((v : ℕ) × ((list_any (nat_eq v) visits ≡ true) × (stands es v n ≡ true)))
    × ((v t : ℕ) → list_any (nat_eq v) visits ≡ true → t < n → stands es v t ≡ false))
