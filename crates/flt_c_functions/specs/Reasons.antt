-- Why reading stops, in words. This project's own program.
use Rattle.std.specs.Prelude.{codes}
use Rattle.flt_c_tokens.specs.Bytes.{Text}
use Rattle.flt_c_items.specs.declared.chunk.Reason.{Reason as ItemReason}
use Rattle.flt_c_items.specs.declared.chunk.Reason.TheVariants as item
use Rattle.flt_c_syntax.specs.declared.fault.Reason.{Reason}
use Rattle.flt_c_syntax.specs.declared.fault.Reason.TheVariants as reasons

-- of a function's body
abbrev pub reason_words : Reason → Text
reason_words reasons.Unexpected = codes "another token is expected"
reason_words reasons.TooDeep = codes "brackets, blocks or statements are nested too deep"
reason_words reasons.TooLong = codes "the body has too many tokens"
reason_words reasons.Assembler = codes "assembler is not read"
reason_words reasons.CPlusPlus = codes "this word of C++ is not read"
reason_words reasons.StatementExpression = codes "a statement as an expression is not read"
reason_words reasons.Lambda = codes "a lambda is not read"
reason_words reasons.Stray = codes "this byte begins no token"
reason_words reasons.Unclosed = codes "a quote does not end in its line"
reason_words reasons.Joined = codes "a line continuation joins two tokens"
reason_words reasons.OpenComment = codes "a comment does not end"

-- of an item
abbrev pub item_words : ItemReason → Text
item_words item.Unclosed = codes "its brackets are not closed"
item_words item.Unopened = codes "this brace closes nothing"
item_words item.Headless = codes "this block has no head of a function before it"
item_words item.Divided = codes "a line of an #if is between the name of a function and its body"
item_words item.Foreign = codes "no declaration of C has such a word or sign"
