use Rattle.std.proofs.Common.{◌==◌, ℕ, List, length, ap, ◌∙◌}
use Rattle.std.specs.List.{position_or_len}
use Rattle.std.specs.Option.{unwrap_or}
use Rattle.flt_tree.specs.declared.filter.Filter.{Filter}
use Rattle.flt_machine_frames.proofs.Numbers.{first_or_end, first_of_map}
use Rattle.flt_machine_frames.proofs.loaded.Loaded.number.Goals as goal

pub returns : goal.returns
returns c = λ p made.
    let slice = c.as_slice-altitudes.result.now in
    c.unwrap_or.ensures
    ∙ (ap (λ o. unwrap_or o (length slice)) c.first_equal.ensures
    ∙ (first_or_end (λ (n : ℕ). n == c.args.altitude) slice
    ∙ (ap (λ (l : List ℕ). position_or_len (λ (n : ℕ). n == c.args.altitude) l) (c.as_slice-altitudes.ensures ∙ made.altitudes)
    ∙ first_of_map (λ (n : ℕ). n == c.args.altitude) (λ (f : Filter). f.altitude) p)))
