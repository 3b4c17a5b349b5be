-- What marks say of the calls, statuses and operations, noted once, so that they aren't searched for each mark. This project's own rule.
use Rattle.std.specs.Prelude.{ℕ, zero, suc, Bool, true, List, [], ◌∷◌, ◌++◌, if◌then◌else◌, length, nat_lt, slice_set, Option, Some, None}
use Rattle.std.specs.List.{list_any}
use Rattle.flt_c_drift.specs.Drifts.{calls, names, answers, registers_pre, registers_post, heads_pre, heads_post}
use Rattle.flt_c_drift.specs.Names.{calls as calls_named, statuses, operations}
use Rattle.flt_c_drift.specs.declared.flags.Question.{Question}
use Rattle.flt_c_drift.specs.declared.flags.Question.TheVariants as ask
use Rattle.flt_c_drift.specs.declared.mark.Mark.{Mark}
use Rattle.flt_c_drift.specs.declared.mark.MarkKind.{MarkKind}
use Rattle.flt_c_drift.specs.declared.mark.MarkKind.TheVariants as k

-- a mark says this of a call, a status or an operation
abbrev pub says : Question → ℕ → MarkKind → Bool
says ask.Called call kind = calls call kind
says ask.Named call kind = names call kind
says ask.Answered status kind = answers status kind
says ask.PreRegistered operation kind = registers_pre operation kind
says ask.PostRegistered operation kind = registers_post operation kind
says ask.PreHeaded operation kind = heads_pre operation kind
says ask.PostHeaded operation kind = heads_post operation kind

-- one of some marks does
abbrev pub is_said : Question → ℕ → List Mark → Bool
is_said question number marks = list_any (λ mark. says question number mark.kind) marks

-- whether something holds of each number below another, in order
abbrev pub flags_below : (ℕ → Bool) → ℕ → List Bool
flags_below holds zero = []
flags_below holds (suc n) = flags_below holds n ++ (holds n ∷ [])

-- the number of which a mark says this
abbrev pub subject : Question → MarkKind → Option ℕ
subject ask.Called (k.Calls call) = Some call
subject ask.Named (k.Names call) = Some call
subject ask.Answered (k.Answers status) = Some status
subject ask.PreRegistered (k.RegistersPre operation) = Some operation
subject ask.PostRegistered (k.RegistersPost operation) = Some operation
subject ask.PreHeaded (k.HeadsPre operation) = Some operation
subject ask.PostHeaded (k.HeadsPost operation) = Some operation
subject _ _ = None

-- the flag of a number is raised, if it has one
abbrev pub raised : Option ℕ → List Bool → List Bool
raised None flags = flags
raised (Some n) flags = if nat_lt n (length flags) then slice_set flags n true else flags

-- how many numbers there are to ask of
abbrev pub count : Question → ℕ
count ask.Called = length calls_named
count ask.Named = length calls_named
count ask.Answered = length statuses
count _ = length operations

-- of so many it is noted: of none where the marks are few
abbrev pub noted : ℕ → ℕ → ℕ
noted count marks = if nat_lt marks 64 then 0 else count

-- whether one of some marks says this of each number below another
abbrev pub flags : Question → List Mark → ℕ → List Bool
flags question marks n = flags_below (λ number. is_said question number marks) n

-- what is noted of some marks
abbrev pub flags_of : Question → List Mark → List Bool
flags_of question marks = flags question marks (noted (count question) (length marks))
