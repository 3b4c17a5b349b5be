-- The program's commands and their arguments, as `clap` takes them. This project's own program.
use Rattle.std.specs.Prelude.{◌≡◌, true, false, Some, codes, if◌then◌else◌, pos}
use Rattle.std.specs.Str.{bytes_eq}
use Rattle.clap.specs.Lexer.{usize_max}
use Rattle.clap.specs.Simple.{App, app_of, new_app, new_rule, with_rule, with_subcommand}
use Rattle.clap.specs.Walk.{Rule, Text}
use Rattle.clap.specs.declared.builder.action.ArgAction.TheVariants.{Append, SetTrue}
use Rattle.clap.specs.declared.builder.command.Command.{Command}
use Rattle.clap.specs.declared.builder.command.Command.TheViews.{out-Command as fields_of}
use Rattle.clap.specs.declared.builder.value_parser.ValueParser.TheVariants.{Signed}

-- a command takes words as this one does, and none of its arguments goes down to a subcommand
abbrev pub IsCommand : Command → App → Type 0
IsCommand c app = (app_of c ≡ app) × ((fields_of c).has_globals ≡ false)

-- ---- arguments

-- FILE of a command on one text
abbrev pub text_rule : Rule
text_rule = record (new_rule (codes "FILE")) { required = true }

-- CERT
abbrev pub cert_rule : Rule
cert_rule = new_rule (codes "CERT")

-- FILE.. of a command on several texts
abbrev pub texts_rule : Rule
texts_rule = record (new_rule (codes "FILE")) { required = true; range = Some (record { start_inclusive = 1; end_inclusive = usize_max }) }

abbrev pub journal_rule : Rule
journal_rule = record (new_rule (codes "JOURNAL")) { required = true }

abbrev pub script_rule : Rule
script_rule = record (new_rule (codes "SCRIPT")) { required = true }

-- `--workers N`, a number from 1 to 16
abbrev pub workers_rule : Rule
workers_rule = record (new_rule (codes "workers")) {
  long = Some (codes "workers");
  value_names = 1;
  parser = Some (Signed (pos 1) (pos 16));
}

-- `--quiet`
abbrev pub quiet_rule : Rule
quiet_rule = record (new_rule (codes "quiet")) { long = Some (codes "quiet"); action = Some SetTrue }

-- `--form FORM`
abbrev pub form_rule : Rule
form_rule = record (new_rule (codes "form")) { long = Some (codes "form"); value_names = 1 }

-- `--color WHEN`
abbrev pub colour_rule : Rule
colour_rule = record (new_rule (codes "color")) { long = Some (codes "color"); value_names = 1 }

-- `--states N`, a number from 1 to 100,000,000
abbrev pub states_rule : Rule
states_rule = record (new_rule (codes "states")) {
  long = Some (codes "states");
  value_names = 1;
  parser = Some (Signed (pos 1) (pos 100000000));
}

-- `--stack`
abbrev pub stack_rule : Rule
stack_rule = record (new_rule (codes "stack")) { long = Some (codes "stack"); action = Some SetTrue }

-- `--journal FILE`
abbrev pub written_rule : Rule
written_rule = record (new_rule (codes "journal")) { long = Some (codes "journal"); value_names = 1 }

-- `--runs`
abbrev pub runs_rule : Rule
runs_rule = record (new_rule (codes "runs")) { long = Some (codes "runs"); action = Some SetTrue }

-- `--strict`
abbrev pub strict_rule : Rule
strict_rule = record (new_rule (codes "strict")) { long = Some (codes "strict"); action = Some SetTrue }

-- `--allow KIND`, any number of times
abbrev pub allow_rule : Rule
allow_rule = record (new_rule (codes "allow")) { long = Some (codes "allow"); value_names = 1; action = Some Append }

-- `--c`
abbrev pub c_rule : Rule
c_rule = record (new_rule (codes "c")) { long = Some (codes "c"); action = Some SetTrue }

-- `--timeline`
abbrev pub timeline_rule : Rule
timeline_rule = record (new_rule (codes "timeline")) { long = Some (codes "timeline"); action = Some SetTrue }

-- `--svg FILE`
abbrev pub picture_rule : Rule
picture_rule = record (new_rule (codes "svg")) { long = Some (codes "svg"); value_names = 1 }

-- `--map`
abbrev pub map_rule : Rule
map_rule = record (new_rule (codes "map")) { long = Some (codes "map"); action = Some SetTrue }

-- `--check`
abbrev pub check_rule : Rule
check_rule = record (new_rule (codes "check")) { long = Some (codes "check"); action = Some SetTrue }

-- `--write`
abbrev pub write_rule : Rule
write_rule = record (new_rule (codes "write")) { long = Some (codes "write"); action = Some SetTrue }

-- `--part PART`
abbrev pub part_rule : Rule
part_rule = record (new_rule (codes "part")) { long = Some (codes "part"); value_names = 1 }

-- `--into FOLDER`
abbrev pub into_rule : Rule
into_rule = record (new_rule (codes "into")) { long = Some (codes "into"); value_names = 1 }

-- `--force`
abbrev pub force_rule : Rule
force_rule = record (new_rule (codes "force")) { long = Some (codes "force"); action = Some SetTrue }

-- `--functions`
abbrev pub functions_rule : Rule
functions_rule = record (new_rule (codes "functions")) { long = Some (codes "functions"); action = Some SetTrue }

-- `--define NAME[=VALUE]`, any number of times
abbrev pub define_rule : Rule
define_rule = record (new_rule (codes "define")) { long = Some (codes "define"); value_names = 1; action = Some Append }

-- `--undef NAME`, any number of times
abbrev pub undef_rule : Rule
undef_rule = record (new_rule (codes "undef")) { long = Some (codes "undef"); value_names = 1; action = Some Append }

-- `--include DIR`, any number of times
abbrev pub include_rule : Rule
include_rule = record (new_rule (codes "include")) { long = Some (codes "include"); value_names = 1; action = Some Append }

-- ---- commands

abbrev pub bare_check_app : App
bare_check_app = new_app (codes "check")

-- `check FILE [CERT]`
abbrev pub check_app : App
check_app = with_rule (with_rule bare_check_app text_rule) cert_rule

-- `analyse FILE`
abbrev pub analyse_app : App
analyse_app = with_rule (new_app (codes "analyse")) text_rule

abbrev pub bare_thin_app : App
bare_thin_app = new_app (codes "thin")

-- `thin FILE [CERT]`
abbrev pub thin_app : App
thin_app = with_rule (with_rule bare_thin_app text_rule) cert_rule

abbrev pub bare_run_app : App
bare_run_app = new_app (codes "run")

-- `run [--workers N] [--quiet] SCRIPT FILE..`
abbrev pub run_app : App
run_app = with_rule (with_rule (with_rule (with_rule bare_run_app workers_rule) quiet_rule) script_rule) texts_rule

abbrev pub bare_replay_app : App
bare_replay_app = new_app (codes "replay")

-- `replay [--timeline] [--svg FILE] JOURNAL FILE..`
abbrev pub replay_app : App
replay_app = with_rule (with_rule (with_rule (with_rule bare_replay_app timeline_rule) picture_rule) journal_rule) texts_rule

abbrev pub bare_explain_app : App
bare_explain_app = new_app (codes "explain")

-- `explain [--form FORM] [--color WHEN] [--states N] [--stack] [--journal FILE] [--runs] [--strict] [--allow KIND].. [--c] FILE..`
abbrev pub explain_app : App
explain_app =
    with_rule (with_rule (with_rule (with_rule
    (with_rule (with_rule (with_rule (with_rule (with_rule (with_rule bare_explain_app form_rule) colour_rule)
    states_rule) stack_rule) written_rule) runs_rule) strict_rule) allow_rule) c_rule) texts_rule

abbrev pub bare_extract_app : App
bare_extract_app = new_app (codes "extract")

-- `extract [--map] FILE..`
abbrev pub extract_app : App
extract_app = with_rule (with_rule bare_extract_app map_rule) texts_rule

abbrev pub bare_format_app : App
bare_format_app = new_app (codes "format")

-- `format [--check] [--write] FILE..`
abbrev pub format_app : App
format_app = with_rule (with_rule (with_rule bare_format_app check_rule) write_rule) texts_rule

abbrev pub bare_emit_app : App
bare_emit_app = new_app (codes "emit")

-- `emit [--part PART] [--into FOLDER] [--force] FILE [CERT]`
abbrev pub emit_app : App
emit_app = with_rule (with_rule (with_rule (with_rule (with_rule bare_emit_app part_rule) into_rule) force_rule) text_rule) cert_rule

abbrev pub bare_compare_app : App
bare_compare_app = new_app (codes "compare")

-- `compare FILE..`
abbrev pub compare_app : App
compare_app = with_rule bare_compare_app texts_rule

abbrev pub bare_draft_app : App
bare_draft_app = new_app (codes "draft")

-- `draft --functions [--define NAME[=VALUE]].. [--undef NAME].. [--include DIR].. FILE..`
abbrev pub draft_app : App
draft_app =
    with_rule (with_rule (with_rule (with_rule (with_rule bare_draft_app functions_rule) define_rule) undef_rule) include_rule) texts_rule

-- `serve`
abbrev pub serve_app : App
serve_app = new_app (codes "serve")

-- the program without its commands: one is asked for, the program's own name is left out, and `--version` answers
abbrev pub bare_app : App
bare_app = let a = new_app (codes "fltstack") in
    record a { top = record a.top { subcommand_required = true; no_binary_name = true; has_version = true } }

-- the program
abbrev pub program_app : App
program_app =
    with_subcommand (with_subcommand (with_subcommand (with_subcommand (with_subcommand (with_subcommand (with_subcommand (with_subcommand
    (with_subcommand (with_subcommand (with_subcommand (with_subcommand bare_app check_app.top) analyse_app.top) thin_app.top)
    explain_app.top) run_app.top) replay_app.top) extract_app.top) format_app.top) emit_app.top) compare_app.top) draft_app.top)
    serve_app.top

-- ---- what of it words need

-- the program with one of its commands alone
abbrev pub program_with : App → App
program_with command = with_subcommand bare_app command.top

-- what words need that begin with this one: the command that it names, or all of them where it names none
abbrev pub app_for : Text → App
app_for word =
    if bytes_eq word (codes "check") then program_with check_app
    else (if bytes_eq word (codes "analyse") then program_with analyse_app
    else (if bytes_eq word (codes "thin") then program_with thin_app
    else (if bytes_eq word (codes "explain") then program_with explain_app
    else (if bytes_eq word (codes "run") then program_with run_app
    else (if bytes_eq word (codes "replay") then program_with replay_app
    else (if bytes_eq word (codes "extract") then program_with extract_app
    else (if bytes_eq word (codes "format") then program_with format_app
    else (if bytes_eq word (codes "emit") then program_with emit_app
    else (if bytes_eq word (codes "compare") then program_with compare_app
    else (if bytes_eq word (codes "draft") then program_with draft_app
    else (if bytes_eq word (codes "serve") then program_with serve_app else program_app)))))))))))
