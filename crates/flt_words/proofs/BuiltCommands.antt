-- Commands step by step: what a command says of itself changes nothing of how it takes words, and an argument more.
use Rattle.std.proofs.Common.{◌≡◌, true, false, Option, Some, Bor, Result, Ok, Err, IfOk, ◌∙◌, ap}
use Rattle.std.specs.declared.alloc.AllocError.{AllocError}
use Rattle.clap.specs.Built.{AddsArg}
use Rattle.clap.specs.Simple.{App, app_of, app_of_fields, with_rule}
use Rattle.clap.specs.Walk.{Rule, Text, rule_of}
use Rattle.clap.specs.declared.builder.arg.Arg.{Arg}
use Rattle.clap.specs.declared.builder.command.Command.{Command}
use Rattle.clap.specs.declared.builder.command.Command.TheOpen.{Command-F}
use Rattle.clap.specs.declared.builder.command.Command.TheViews.{out-Command as fields_of}
use Rattle.flt_words.specs.Program.{IsCommand}

-- ---- what a command says of itself

module _ (old new : Command) (text : Option (Bor Text)) (a : App) (is : IsCommand old a) where
  -- what a command says about itself changes nothing of how it takes words
  pub with_about : fields_of new ≡ record (fields_of old) { about = text } → IsCommand new a
  with_about set = (ap app_of_fields set ∙ is.0, ap (λ (f : Command-F Command). f.has_globals) set ∙ is.1)

  pub with_usage : fields_of new ≡ record (fields_of old) { usage_str = text } → IsCommand new a
  with_usage set = (ap app_of_fields set ∙ is.0, ap (λ (f : Command-F Command). f.has_globals) set ∙ is.1)

  -- what a command says after its help changes nothing of how it takes words
  pub with_after_help : fields_of new ≡ record (fields_of old) { after_help = text } → IsCommand new a
  with_after_help set = (ap app_of_fields set ∙ is.0, ap (λ (f : Command-F Command). f.has_globals) set ∙ is.1)

-- all three, in the order in which they are said
pub with_texts : (new told used helped : Command) (about usage help : Option (Bor Text)) (a : App) → IsCommand new a →
    fields_of told ≡ record (fields_of new) { about = about } → fields_of used ≡ record (fields_of told) { usage_str = usage } →
    fields_of helped ≡ record (fields_of used) { after_help = help } → IsCommand helped a
with_texts new told used helped about usage help a is tells uses helps =
    with_after_help used helped help a (with_usage told used usage a (with_about new told about a is tells) uses) helps

-- ---- settings

module _ (old new : Command) (a : App) (is : IsCommand old a) where
  -- a command with a version has one
  pub with_version : (text : Bor Text) → fields_of new ≡ record (fields_of old) { version = Some text } →
      IsCommand new (record a { top = record a.top { has_version = true } })
  with_version text set = (
    ap app_of_fields set ∙ ap (λ (b : App). record b { top = record b.top { has_version = true } }) is.0,
    ap (λ (f : Command-F Command). f.has_globals) set ∙ is.1,
  )

  -- a command that requires a subcommand requires one
  pub with_subcommand_required : fields_of new ≡ record (fields_of old) { subcommand_required = true } →
      IsCommand new (record a { top = record a.top { subcommand_required = true } })
  with_subcommand_required set = (
    ap app_of_fields set ∙ ap (λ (b : App). record b { top = record b.top { subcommand_required = true } }) is.0,
    ap (λ (f : Command-F Command). f.has_globals) set ∙ is.1,
  )

  -- the words of a command may come without the program's name
  pub with_no_binary_name : fields_of new ≡ record (fields_of old) { no_binary_name = true } →
      IsCommand new (record a { top = record a.top { no_binary_name = true } })
  with_no_binary_name set = (
    ap app_of_fields set ∙ ap (λ (b : App). record b { top = record b.top { no_binary_name = true } }) is.0,
    ap (λ (f : Command-F Command). f.has_globals) set ∙ is.1,
  )

-- ---- an argument more

module _ (old : Command) (arg : Arg) (a : App) (r : Rule) (one : IsCommand old a) (rule : rule_of arg ≡ r) (own : arg.global ≡ false) where
  pub with_argument : (new : Command) → AddsArg old arg new → IsCommand new (with_rule a r)
  with_argument new adds =
      let shapes : app_of new ≡ with_rule a r =
      adds.shape own ∙ ap (λ (b : App). with_rule b (rule_of arg)) one.0 ∙ ap (λ (s : Rule). with_rule a s) rule in
      let globals : (fields_of new).has_globals ≡ false = rw (one.1, own) at adds.globals in
      (shapes, globals)

  -- a command with one more argument has the rule of it
  pub with_last_argument : (result : Result Command AllocError) → IfOk result (λ new. AddsArg old arg new) →
      IfOk result (λ new. IsCommand new (with_rule a r))
  with_last_argument (Ok new) adds = with_argument new adds
  with_last_argument (Err e) adds = tt
