use Rattle.std.proofs.Common.{◌≡◌, drop}
use Rattle.flt_c_macros.specs.Arguments.{IsNested, looked}
use Rattle.flt_c_macros.specs.Items.{text_items}
use Rattle.flt_c_macros.proofs.arguments.Search.look_in_text.Given as goal

abbrev pub invariant-loop-token : goal.invariant-loop-token
invariant-loop-token l =
    record {
      same : looked l.busy (text_items l.text) l.fn.self ≡ looked l.busy (text_items (drop l.token-index l.text)) l.self;
      few : IsNested l.self;
    }
