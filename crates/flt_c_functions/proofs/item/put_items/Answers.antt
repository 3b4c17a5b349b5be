use Rattle.std.proofs.Common.{arith}
use Rattle.flt_c_functions.proofs.Writing.{begun_all, begun_first, begun_next}
use Rattle.flt_c_functions.specs.Listing.{IsItemOnce}
use Rattle.flt_c_functions.proofs.item.put_items.Goals as goal

pub loop-item-init : goal.loop-item-init
loop-item-init c =
    begun_first (IsItemOnce c.args.spellings.now c.args.headers.now.files c.args.known.now c.args.told.now c.args.source.now)
    c.args.items.now c.args.out.now.items

pub loop-item-preserved : goal.loop-item-preserved
loop-item-preserved c =
    begun_next (IsItemOnce c.args.spellings.now c.args.headers.now.files c.args.known.now c.args.told.now c.args.source.now)
    c.args.items.now c.loop-item.item-index c.item-item.result
    c.args.out.now.items c.loop-item.out.items c.put_item_once.new.out.items c.loop-item.is_whole c.in_ok-is_read.is_read _
    c.loop-item.invariant c.in_ok-is_read.ensures (omega arith) c.item-item.is c.are_both-is_whole.ensures

pub returns : goal.returns
returns c =
    begun_all (IsItemOnce c.args.spellings.now c.args.headers.now.files c.args.known.now c.args.told.now c.args.source.now)
    c.args.items.now c.loop-item.item-index
    c.args.out.now.items c.loop-item.out.items c.loop-item.is_whole c.loop-item.invariant (omega arith)
