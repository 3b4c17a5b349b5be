use Rattle.std.proofs.Common.{◌≡◌, ℕ, List, IsTrue, subst}
use Rattle.flt_replay_records.proofs.SparseCounting.{empty_from_length, length_from_empty}
use Rattle.flt_replay_records.specs.Counts.{count_in}
use Rattle.flt_replay_records.proofs.sparse_counts.SparseCounts.is_empty.Goals as goal

pub returns : goal.returns
returns c =
    let kept : List (ℕ × ℕ) → Type 0 = λ es. (IsTrue c.is_empty.result → (n : ℕ) → count_in es n ≡ 0)
    × (((n : ℕ) → count_in es n ≡ 0) → IsTrue c.is_empty.result) in
    subst kept c.self.view_is (
      λ h. empty_from_length c.self.inside.map.entries (c.is_empty.ensures.0 h),
      λ z. c.is_empty.ensures.1 (length_from_empty c.self.inside.map.entries c.self.invariant z),
    )
