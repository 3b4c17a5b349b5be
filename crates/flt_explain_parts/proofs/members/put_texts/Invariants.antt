use Rattle.std.proofs.Common.{take, map}
use Rattle.flt_explain_parts.specs.Members.{Added, text_items}
use Rattle.flt_explain_parts.proofs.members.put_texts.Given as goal

abbrev pub invariant-loop-text : goal.invariant-loop-text
invariant-loop-text l = Added l.initial.writer l.writer (text_items (map (λ text. text.now) (take l.text-index l.texts)))
