use Rattle.std.proofs.Common.{◌≤◌, length}
use Rattle.flt_c_tokens.specs.Tokens.{AreTokens, max_file}
use Rattle.flt_c_headers.proofs.Adding.{added}
use Rattle.flt_c_headers.proofs.files.add_tokens.Goals as goal

pub returns-in_ok-extend_from_slice-in-Ok : goal.returns-in_ok-extend_from_slice-in-Ok
returns-in_ok-extend_from_slice-in-Ok c =
    let read : (length c.args.text.now ≤ max_file) × AreTokens c.args.spellings.now c.tokens.new.spellings c.args.text.now c.in-Ok.tokens.items =
    rw c.in-Ok.is at c.in_ok-excess.ensures.read in
    added c.args.spellings.now c.args.text.now c.args.found.now.items c.tokens.new.spellings c.in-Ok.tokens.items c.as_slice.result.now
    c.but_last.result.now c.extend_from_slice.new.self.items read.0 read.1
    (rw c.len-count.ensures.len at c.len-count.ensures.few) c.as_slice.ensures.value
    c.but_last.ensures c.in_ok-extend_from_slice-in-Ok.ensures.items
