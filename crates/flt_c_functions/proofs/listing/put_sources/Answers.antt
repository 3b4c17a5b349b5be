use Rattle.std.proofs.Common.{ap, ◌∙◌}
use Rattle.flt_c_functions.proofs.Writing.{written_all, written_first, written_next}
use Rattle.flt_c_functions.specs.Places.{told_behind}
use Rattle.flt_c_functions.proofs.listing.put_sources.Goals as goal

pub loop-rest-init : goal.loop-rest-init
loop-rest-init c =
    written_first c.args.spellings.now c.args.headers.now.files c.args.known.now c.args.sources.now c.args.out.now.items c.new-told.result
    c.new-told.ensures

pub loop-rest-preserved : goal.loop-rest-preserved
loop-rest-preserved c =
    written_next c.args.spellings.now c.args.headers.now.files c.args.known.now c.args.sources.now c.args.out.now.items c.loop-rest.rest.now
    c.source-item.result c.loop-rest.told c.as_slice.result.now _ c.loop-rest.out.items c.put_source.new.out.items c.loop-rest.is_whole
    c.in_ok-is_read.is_read _ c.loop-rest.invariant c.in-len1-up.len_at_least c.source-item.is c.as_slice.ensures c.in_ok-is_read.ensures
    c.are_both-is_whole.ensures (c.in_ok-tell.ensures ∙ ap (told_behind c.loop-rest.told) c.as_slice-in-len1-up.ensures)

pub returns : goal.returns
returns c =
    written_all c.args.spellings.now c.args.headers.now.files c.args.known.now c.args.sources.now c.args.out.now.items c.loop-rest.rest.now
    c.loop-rest.told c.loop-rest.out.items c.loop-rest.is_whole c.loop-rest.invariant c.in_default.len_below
