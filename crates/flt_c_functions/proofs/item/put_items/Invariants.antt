use Rattle.std.proofs.Common.{drop}
use Rattle.flt_c_functions.proofs.Writing.{Begun}
use Rattle.flt_c_functions.specs.Listing.{IsItemOnce}
use Rattle.flt_c_functions.proofs.item.put_items.Given as goal

abbrev pub invariant-loop-item : goal.invariant-loop-item
invariant-loop-item l =
    Begun (IsItemOnce l.fn.spellings l.fn.headers.files l.fn.known l.fn.told l.fn.source) l.fn.items (drop l.item-index l.fn.items)
    l.fn.out.items l.out.items l.is_whole
