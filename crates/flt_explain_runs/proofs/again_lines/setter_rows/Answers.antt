use Rattle.std.proofs.Common.{◌++◌, ◌∙◌, ap, string_bytes}
use Rattle.flt_places.specs.Files.{file_line}
use Rattle.flt_explain_runs.specs.Rows.{numbered}
use Rattle.flt_explain_runs.proofs.again_lines.setter_rows.Goals as goal

pub returns : goal.returns
returns c =
    let s = c.args.setter.now in
    let first = file_line c.args.files.now s.line in
    let added = numbered first (string_bytes s.added) in
    record {
      drawn = string_bytes c.in_ok-broken_rows.broken_rows;
      are = rw c.as_slice.ensures at c.in_ok-broken_rows.ensures;
      whole = c.in_ok-extend_from_slice.ensures.items
          ∙ ap (λ z. z ++ c.as_bytes-2.result.now) (c.in_ok-out.ensures
          ∙ ap (λ n. numbered n c.as_bytes.result.now) c.file_line-first.ensures
          ∙ ap (λ z. numbered first z) c.as_bytes.ensures.value)
          ∙ ap (λ z. added ++ z) c.as_bytes-2.ensures.value;
    }
