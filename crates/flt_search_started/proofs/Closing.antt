-- Marks that pass the tests are a set that nothing leads out of.
use Rattle.std.proofs.Common.{◌≡◌, ℕ, Bool, true, false, not, ◌||◌, List}
use Rattle.flt_rules.proofs.Operations.{of_each}
use Rattle.flt_rules.specs.declared.place.Operation.{Operation}
use Rattle.flt_tree.specs.Registered.{has_pre}
use Rattle.flt_tree.specs.declared.filter.Callback.{Callback}
use Rattle.flt_starts.specs.Closed.{IsClosed, pre_number}
use Rattle.flt_search_started.specs.Marks.{has_entries, has_entry, is_kept, is_marked}

-- where the first holds the second does
implied : (a b : Bool) → not a || b ≡ true → a ≡ true → b ≡ true
implied true b h a = h
implied false b h a = absurd (cc a)

module _ (cs : List Callback) (marks : List Bool) (entries : has_entries cs marks ≡ true) where
  -- that of each operation
  entry : (kind : Operation) → has_entry cs marks kind ≡ true
  entry = of_each (has_entry cs marks) entries

  -- marks that pass the tests are a closed set
  pub closed : ((k : ℕ) → is_kept cs marks k ≡ true) → IsClosed cs (is_marked marks)
  closed kept = record {
    pre = λ kind there. implied (has_pre cs kind) (is_marked marks (pre_number cs kind)) (entry kind) there;
    asked = λ k marked. implied (is_marked marks k) _ (kept k) marked;
  }
