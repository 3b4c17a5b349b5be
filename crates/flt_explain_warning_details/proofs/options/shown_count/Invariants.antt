use Rattle.std.proofs.Common.{◌≡◌, ◌≤◌, count_by, take}
use Rattle.flt_explain_warning_details.specs.Options.{is_shown}
use Rattle.flt_explain_warning_details.proofs.options.shown_count.Given as goal

-- how many are shown of the details so far
abbrev pub invariant-loop-detail : goal.invariant-loop-detail
invariant-loop-detail l = record {
  so_far : l.count ≡ count_by is_shown (take l.detail-index l.details);
  within : l.count ≤ l.detail-index;
}
