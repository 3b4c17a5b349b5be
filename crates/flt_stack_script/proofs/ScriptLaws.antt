-- Scripts: where a reader stands in a text, line by line, and what it finds there.
use Rattle.std.proofs.Common.{◌≡◌, ◌≢◌, ◌+◌, ◌<◌, ◌≤◌, ℕ, true, false, List, [], ◌∷◌, ◌++◌, length}
use Rattle.std.proofs.Common.{refl, sym, ap, arith, ◌∙◌, append_assoc, append-nil, length-append}
use Rattle.std.specs.Prelude.{◌||◌, ◌==◌, Option, Some, None}
use Rattle.std.specs.List.{list_all, list_any}
use Rattle.std.proofs.lemmas.Bool.{and_parts, and_from, eqb-true}
use Rattle.std.proofs.lemmas.Grind.{flat_map-append}
use Rattle.std.proofs.lemmas.List.{nil_from_length}
use Rattle.flt_tree.specs.declared.tree.Tree.{Tree}
use Rattle.flt_model.specs.Program.{filters_of}
use Rattle.flt_model.specs.Streams.{Text}
use Rattle.flt_stack_script.specs.ScriptText.{Commands, Stack, is_command, is_loaded, may_follow, are_commands}
use Rattle.flt_stack_script.specs.ScriptText.{is_script, command_line, spelling, IsFirstFault}
use Rattle.flt_stack_script.specs.declared.command.Command.{Command}
use Rattle.flt_stack_script.proofs.CommandLaws.{line_some}

-- ---- the filters of a stack

-- the altitudes of trees are those of their filters
pub loaded_of : (trees : List Tree) (altitude : ℕ) →
    list_any (λ (t : Tree). t.filter.altitude == altitude) trees ≡ is_loaded (Some (filters_of trees)) altitude
loaded_of [] altitude = refl
loaded_of (tree ∷ trees) altitude = ap (λ z. (tree.filter.altitude == altitude) || z) (loaded_of trees altitude)

-- ---- commands in order

-- commands and one more that may follow them
one_more : (stack : Stack) (before more : Commands) (command : Command) → are_commands stack before more ≡ true →
    may_follow stack (before ++ more) command ≡ true →
    are_commands stack before (more ++ command ∷ []) ≡ true
one_more stack before [] command h last =
    and_from (may_follow stack before command) true (ap (λ z. may_follow stack z command) (sym (append-nil before)) ∙ last) refl
one_more stack before (first ∷ more) command h last =
    let parts = and_parts (may_follow stack before first) (are_commands stack (before ++ first ∷ []) more) h in
    and_from (may_follow stack before first) _ parts.0
    (one_more stack (before ++ first ∷ []) more command parts.1
    (ap (λ z. may_follow stack z command) (append_assoc before (first ∷ []) more) ∙ last))

-- the one that stands behind some of the commands may follow them
that_follows : (stack : Stack) (before more : Commands) (command : Command) (others : Commands) →
    are_commands stack before (more ++ command ∷ others) ≡ true →
    may_follow stack (before ++ more) command ≡ true
that_follows stack before [] command others h =
    ap (λ z. may_follow stack z command) (append-nil before)
    ∙ (and_parts (may_follow stack before command) (are_commands stack (before ++ command ∷ []) others) h).0
that_follows stack before (first ∷ more) command others h =
    let parts = and_parts (may_follow stack before first) (are_commands stack (before ++ first ∷ []) (more ++ command ∷ others)) h in
    ap (λ z. may_follow stack z command) (sym (append_assoc before (first ∷ []) more))
    ∙ that_follows stack (before ++ first ∷ []) more command others parts.1

-- each is a command by itself
pub all_commands : (stack : Stack) (before more : Commands) → are_commands stack before more ≡ true →
    list_all is_command more ≡ true
all_commands stack before [] h = refl
all_commands stack before (first ∷ more) h =
    let parts = and_parts (may_follow stack before first) (are_commands stack (before ++ first ∷ []) more) h in
    and_from (is_command first) (list_all is_command more) (and_parts (is_command first) _ parts.0).0
    (all_commands stack (before ++ first ∷ []) more parts.1)

-- ---- a place in a text

-- commands begin with those found, and the others spell what is left
record Ahead (found : Commands) (left : Text) (commands : Commands) : Type 0 where
  more : Commands
  parts : commands ≡ found ++ more
  rest : left ≡ spelling more

-- these commands were found, and this is left of the text
pub record Reached (stack : Stack) (text : Text) (found : Commands) (left : Text) : Type 0 where
  spelled : text ≡ spelling found ++ left
  script : is_script stack found ≡ true
  ahead : (commands : Commands) → is_script stack commands ≡ true → text ≡ spelling commands → Ahead found left commands
  count : length found + length left ≤ length text

-- what one reading of a line has to find
abbrev pub Finds : Stack → Commands → Text → Option Command → Text → Type 0
Finds stack found left result new =
    (command : Command) → may_follow stack found command ≡ true → (behind : Text) → left ≡ command_line command ++ behind →
    (result ≡ Some command) × (new ≡ behind)

-- before the first line a script is reached with no commands
pub at_start : (stack : Stack) (text : Text) → Reached stack text [] text
at_start stack text = record {
  spelled = refl;
  script = refl;
  ahead = λ commands good e. record { more = commands; parts = refl; rest = e };
  count = omega arith;
}

-- one line leaves less
pub line_shorter : (command : Command) (left new : Text) → left ≡ command_line command ++ new → length new < length left
line_shorter command left new e = go (command_line command) refl
  where
    go : (line : Text) → command_line command ≡ line → length new < length left
    go [] is = absurd (line_some command [] (append-nil (command_line command) ∙ is))
    go (b ∷ line) is =
        let whole : length left ≡ length ((b ∷ line) ++ new) = ap length e ∙ ap (λ z. length (z ++ new)) is in
        let parts = length-append (b ∷ line) new in
        omega arith

-- one more line leads to one more command
pub one_line : (stack : Stack) (text : Text) (found : Commands) (left : Text) (command : Command) (new : Text) →
    Reached stack text found left →
    left ≡ command_line command ++ new → may_follow stack found command ≡ true → Finds stack found left (Some command) new →
    Reached stack text (found ++ command ∷ []) new
one_line stack text found left command new at line follows finds = record {
  spelled =
      at.spelled ∙ ap (λ z. spelling found ++ z) line ∙ sym (append_assoc (spelling found) (command_line command) new)
      ∙ ap (λ z. (spelling found ++ z) ++ new) (sym (append-nil (command_line command)))
      ∙ ap (λ z. z ++ new) (sym (flat_map-append command_line found (command ∷ [])));
  script = one_more stack [] found command at.script follows;
  ahead = λ commands good e. further commands good (at.ahead commands good e);
  count = shorter;
}
  where
    shorter : length (found ++ command ∷ []) + length new ≤ length text
    shorter =
        let less = line_shorter command left new line in
        let count = at.count in
        let one = length-append found (command ∷ []) in
        omega arith

    further : (commands : Commands) → is_script stack commands ≡ true → Ahead found left commands →
        Ahead (found ++ command ∷ []) new commands
    further commands good ahead = by ahead.more ahead.parts ahead.rest
      where
        by : (more : Commands) → commands ≡ found ++ more → left ≡ spelling more → Ahead (found ++ command ∷ []) new commands
        by [] parts rest = absurd (line_some command new (sym line ∙ rest))
        by (first ∷ more) parts rest =
            let may = that_follows stack [] found first more (ap (λ z. is_script stack z) (sym parts) ∙ good) in
            let read = finds first may (spelling more) rest in
            let found_is : Some command ≡ Some first = read.0 in
            let same : command ≡ first = cc in
            record {
              more = more;
              parts = parts ∙ ap (λ z. found ++ z ∷ more) (sym same)
                  ∙ sym (append_assoc found (command ∷ []) more);
              rest = read.1;
            }

-- ---- where reading ends

-- what has bytes isn't empty
pub some_left : (left : Text) → (length left == 0) ≡ false → left ≢ []
some_left [] h e = cc
some_left (b ∷ left) h e = cc

-- what has no bytes is empty
pub none_left : (left : Text) → (length left == 0) ≡ true → left ≡ []
none_left left h = nil_from_length left (eqb-true (length left) 0 h)

-- at the end of the text, the commands found are those that it spells
pub only_script : (stack : Stack) (text : Text) (found : Commands) → Reached stack text found [] →
    (commands : Commands) → is_script stack commands ≡ true → text ≡ spelling commands → found ≡ commands
only_script stack text found at commands good e = by ahead.more ahead.parts ahead.rest
  where
    ahead : Ahead found [] commands
    ahead = at.ahead commands good e

    by : (more : Commands) → commands ≡ found ++ more → [] ≡ spelling more → found ≡ commands
    by [] parts rest = sym (append-nil found) ∙ sym parts
    by (first ∷ more) parts rest = absurd (line_some first (spelling more) (sym rest))

-- a text that is read to its end is the spelling of its commands
pub whole_script : (stack : Stack) (text : Text) (found : Commands) → Reached stack text found [] → text ≡ spelling found
whole_script stack text found at = at.spelled ∙ append-nil (spelling found)

-- commands that are reached are a script
pub is_reached_script : (stack : Stack) (text : Text) (found : Commands) (left : Text) → Reached stack text found left →
    is_script stack found ≡ true
is_reached_script stack text found left at = at.script

-- where no command is found, the first fault stands
pub first_fault : (stack : Stack) (text : Text) (found : Commands) (left new : Text) → Reached stack text found left →
    left ≢ [] → Finds stack found left None new →
    IsFirstFault stack text (length found + 1)
first_fault stack text found left new at some finds = record {
  before = found;
  script = at.script;
  number = omega arith;
  left = left;
  begun = at.spelled;
  some = some;
  stopped = λ command good others e.
      let read = finds command (that_follows stack [] found command [] good) others e in
      let none : None ≡ Some command = read.0 in
      cc;
}

-- and the text is no script
pub no_script : (stack : Stack) (text : Text) (found : Commands) (left new : Text) → Reached stack text found left →
    left ≢ [] → Finds stack found left None new →
    (commands : Commands) → is_script stack commands ≡ true → text ≡ spelling commands → ⊥
no_script stack text found left new at some finds commands good e = by ahead.more ahead.parts ahead.rest
  where
    ahead : Ahead found left commands
    ahead = at.ahead commands good e

    by : (more : Commands) → commands ≡ found ++ more → left ≡ spelling more → ⊥
    by [] parts rest = some rest
    by (first ∷ more) parts rest =
        let may = that_follows stack [] found first more (ap (λ z. is_script stack z) (sym parts) ∙ good) in
        let read = finds first may (spelling more) rest in
        let none : None ≡ Some first = read.0 in
        cc
