-- Where the statement of a finding stands, and in it the operand that the finding names. This project's own program.
use Rattle.std.specs.Prelude.{◌≡◌, ℕ, Bool, false, ◌||◌, if◌then◌else◌, nat_lt, List, [], ◌∷◌, codes, length, Option, Some, None}
use Rattle.std.specs.List.{find}
use Rattle.std.specs.Str.{bytes_eq}
use Rattle.flt_tree.specs.Declarations.{lock_name}
use Rattle.flt_tree.specs.Filter.{named_context}
use Rattle.flt_rules.specs.Limits.{max_text}
use Rattle.flt_tree.specs.Names.{Text}
use Rattle.flt_tree.specs.declared.filter.Filter.{Filter}
use Rattle.flt_tree.specs.declared.filter.Span.{Span}
use Rattle.flt_tree.specs.declared.filter.Status.{Status}
use Rattle.flt_tree.specs.declared.filter.Test.{Test}
use Rattle.flt_tree.specs.declared.filter.Test.TheVariants as test
use Rattle.flt_tree.specs.declared.variable.ContextVariable.{ContextVariable}
use Rattle.flt_tree.specs.declared.variable.ContextVariable.TheVariants.{C0, C1, C2, C3, C4, C5, C6, C7, Arg}
use Rattle.flt_tree.specs.declared.variable.OperationVariable.{OperationVariable}
use Rattle.flt_tree.specs.declared.variable.OperationVariable.TheVariants.{Removed, Data}
use Rattle.flt_tree.specs.declared.variable.RemovedVariable.TheVariants.{O0, O1, O2, O3}
use Rattle.flt_syntax.specs.Cursor.{bytes_of}
use Rattle.flt_syntax.specs.Lex.{tokens}
use Rattle.flt_syntax.specs.declared.token.Token.{Token}
use Rattle.flt_graph.specs.Graph.{span_at, instruction_at}
use Rattle.flt_graph.specs.Instruction.{roles}
use Rattle.flt_graph.specs.declared.graph.Graph.{Graph}
use Rattle.flt_graph.specs.declared.instruction.Instruction.{Instruction}
use Rattle.flt_graph.specs.declared.instruction.Instruction.TheVariants as instruction
use Rattle.flt_graph.specs.declared.instruction.Invocation.{Invocation}
use Rattle.flt_explain.specs.About.{is_context, is_operation, is_lock, is_action_about}
use Rattle.flt_explain.specs.declared.finding.Subject.{Subject}
use Rattle.flt_explain.specs.declared.finding.Subject.TheVariants as about
use Rattle.flt_places.specs.Places as places
use Rattle.flt_places.specs.declared.places.Region.{Region}
use Rattle.flt_explain_texts.specs.declared.operands.Marks.{Marks}

-- ---- words

abbrev pub context_word : ContextVariable → Text
context_word C0 = codes "c0"
context_word C1 = codes "c1"
context_word C2 = codes "c2"
context_word C3 = codes "c3"
context_word C4 = codes "c4"
context_word C5 = codes "c5"
context_word C6 = codes "c6"
context_word C7 = codes "c7"
context_word Arg = codes "arg"

abbrev pub operation_word : OperationVariable → Text
operation_word (Removed O0) = codes "o0"
operation_word (Removed O1) = codes "o1"
operation_word (Removed O2) = codes "o2"
operation_word (Removed O3) = codes "o3"
operation_word Data = codes "data"

-- how a text spells what a finding is about: a variable, or a lock by its name. The rest isn't named in texts
abbrev pub word_of : Filter → Subject → Text
word_of f (about.Context v) = context_word v
word_of f (about.Operation v) = operation_word v
word_of f (about.Lock l) = lock_name f.locks l
word_of f _ = []

-- ---- which instructions have it as an operand

abbrev pub is_tested : Test → Subject → Bool
is_tested (test.ContextIsSome c) (about.Context v) = is_context (Some c) v
is_tested (test.OperationIsSome o) (about.Operation v) = is_operation (Some (Removed o)) v
is_tested test.IsIrp (about.Operation v) = is_operation (Some Data) v
is_tested _ _ = false

abbrev pub is_called_with : Invocation → Subject → Bool
is_called_with c (about.Context v) = is_context c.context v || is_context c.output v
is_called_with c (about.Operation v) = is_operation c.operation v
is_called_with c (about.Lock l) = is_lock c.lock l
is_called_with c _ = false

abbrev pub is_returned : Option Status → Subject → Bool
is_returned st (about.Context v) = is_context (named_context st) v
is_returned st _ = false

abbrev pub has_operand : Instruction → Subject → Bool
has_operand (instruction.Act a next) u = is_action_about a u
has_operand (instruction.Call c granted failed) u = is_called_with (roles c) u
has_operand (instruction.Test t granted failed) u = is_tested t u
has_operand (instruction.Repeat turns body next) u = false
has_operand (instruction.Return st) u = is_returned st u
has_operand instruction.End u = false

-- ---- the token that is the operand

-- the tokens of a statement; what has more bytes than a text isn't cut into tokens
abbrev pub tokens_of : Text → List Token
tokens_of z = if nat_lt max_text (length z) then [] else tokens z

-- whether a token of a statement spells a word
abbrev pub spells : Text → Text → Token → Bool
spells z word t = bytes_eq (bytes_of z t) word

-- the first token if there is one, else the other
abbrev pub first_or : Option Token → Option Token → Option Token
first_or (Some t) other = Some t
first_or None other = other

-- the last of some tokens that spells a word
abbrev pub last_spelled : Text → Text → List Token → Option Token
last_spelled z word [] = None
last_spelled z word (t ∷ ts) = first_or (last_spelled z word ts) (if spells z word t then Some t else None)

-- The token that spells it. A call's word and a routine's name, which stand before a context or a lock, may be spelled as that is, so
-- that it is the last one. Of an operation it is the first one: a routine's name may only stand behind it.
abbrev pub operand_among : Text → Text → Subject → List Token → Option Token
operand_among z word (about.Operation v) ts = find (spells z word) ts
operand_among z word _ ts = last_spelled z word ts

-- the same in a statement
abbrev pub operand_in : Text → Text → Subject → Option Token
operand_in z word u = operand_among z word u (tokens_of z)

-- ---- where that stands in the text

-- where a token of a statement stands
abbrev pub placed : Text → Span → Option Token → Option Region
placed text s None = None
placed text s (Some t) = Some (places.part_of text s t.start t.end)

-- where the operand stands in the statement of a point; nowhere where the statement hasn't it as an operand, or doesn't spell it
abbrev pub operand_at : Text → Filter → Graph → ℕ → ℕ → Subject → Option Region
operand_at text f g callback point u =
    if has_operand (instruction_at g callback point) u
    then placed text (span_at g callback point) (operand_in (places.bytes_of text (span_at g callback point)) (word_of f u) u)
    else None

-- where the statement of a point stands, and in it the operand that is told
pub record AreMarks (text : Text) (f : Filter) (g : Graph) (callback point : ℕ) (u : Subject) (m : Marks) : Type 0 where
  pub statement : m.statement ≡ places.region_of text (span_at g callback point)
  pub operand : m.operand ≡ operand_at text f g callback point u
