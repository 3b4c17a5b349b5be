-- What the matches of a command line ask for.
use Rattle.std.proofs.Common.{◌≡◌, inl, inr, List, [], ◌∷◌, Bool, true, false, Option, Some, None, Bor, Vec, Global, Result}
use Rattle.std.proofs.Common.{Ok, Err, IfOk, refl, sym, ◌∙◌, ap, option_map, option_and_then, unwrap_or, map}
use Rattle.std.proofs.lemmas.List.Folds.{list_all-map}
use Rattle.std.specs.List.{list_all}
use Rattle.std.specs.Option.{IsSomeAnd, option_map_or}
use Rattle.std.specs.declared.alloc.AllocError.{AllocError}
use Rattle.clap.specs.Built.{AddsSubcommand}
use Rattle.clap.specs.Faults.{fault_of, is_simple_and_free}
use Rattle.clap.specs.Kinds.{Kinds, HasKind}
use Rattle.clap.specs.Simple.{App, HasMatchesOf, app_of, new_rule, with_subcommand, is_simple, subcommand_of, subcommand_rows_of}
use Rattle.clap.specs.Walk.{Row, Rule, Text, rule_of}
use Rattle.clap.specs.Matches.{subcommand_name_of}
use Rattle.clap.specs.Values.{kind_of}
use Rattle.clap.specs.declared.builder.arg.Arg.{Arg}
use Rattle.clap.specs.declared.builder.command.Command.{Command}
use Rattle.clap.specs.declared.builder.command.Command.TheViews.{out-Command as fields_of}
use Rattle.clap.specs.declared.builder.range.ValueRange.{ValueRange}
use Rattle.clap.specs.declared.error.Error.{Error}
use Rattle.clap.specs.declared.parser.matches.ArgMatches.{ArgMatches}
use Rattle.clap.specs.declared.parser.matches.ArgMatches.TheViews.{out-ArgMatches}
use Rattle.flt_words.specs.declared.request.Request.{Request}
use Rattle.flt_words.specs.Program.{IsCommand, program_app}
use Rattle.flt_words.proofs.Needed.{Serves}
use Rattle.flt_words.specs.Request.{asked_of}
use Rattle.flt_words.specs.Commands.{asked_by}
use Rattle.flt_words.specs.Words.{asked_words, is_memory, is_none}

-- a name and the matches behind it
module _ {A B C : Type 0} (f : A → B) (g : A → C) where
  pub paired : (o : Option A) (x : B) (y : C) → option_map f o ≡ Some x →
      option_map (λ (p : B × C). p.1) (option_map {U = B × C} (λ a. (f a, g a)) o) ≡ Some y →
      option_map {U = B × C} (λ a. (f a, g a)) o ≡ Some (x, y)
  paired None x y e h = absurd (cc e)
  paired (Some a) x y e h = cc (e, h)

-- the text behind a reference, or another one
pub text_or : (o : Option (Bor Text)) (other : Bor Text) → (unwrap_or o other).now ≡ unwrap_or (option_map (λ s. s.now) o) other.now
text_or None other = refl
text_or (Some s) other = refl

-- an error other than running out of memory has one of the kinds, so there is one
pub has_kinds : (kinds : Kinds) (e : Error) → HasKind kinds e → is_memory (kind_of e) ≡ false → is_none kinds ≡ false
has_kinds [] e (inl memory) other = absurd (cc (rw memory at other))
has_kinds [] e (inr among) other = absurd among
has_kinds (k ∷ kinds) e h other = refl

module _ (c : Command) (a : App) (words : List Text) (is : IsCommand c a) (serves : Serves a words) where
  -- words that are taken ask for what was matched
  pub taken : (m : ArgMatches) → HasMatchesOf (app_of c) words m → (is_simple_and_free (app_of c) ≡ true → fault_of (app_of c) words ≡ []) →
      option_and_then asked_by (subcommand_rows_of m) ≡ asked_words words
  taken m matches kinds =
      let plain : is_simple (app_of c) ≡ true = ap is_simple is.0 ∙ serves.plain in
      let free : is_simple_and_free (app_of c) ≡ true = ap is_simple_and_free is.0 ∙ serves.free in
      let none : fault_of program_app words ≡ [] = sym serves.faults ∙ ap (λ a. fault_of a words) (sym is.0) ∙ kinds free in
      let same : subcommand_rows_of m ≡ subcommand_of program_app words =
      (matches plain).1 ∙ ap (λ a. subcommand_of a words) is.0 ∙ serves.subcommands in
      rw (same, none) refl

  -- the same of a request, unless memory ran out
  pub all_taken : (m : ArgMatches) → HasMatchesOf (app_of c) words m →
      (is_simple_and_free (app_of c) ≡ true → fault_of (app_of c) words ≡ []) →
      (result : Result Request AllocError) → IfOk result (λ r. asked_of r ≡ option_and_then asked_by (subcommand_rows_of m)) →
      IfOk result (λ r. asked_of r ≡ asked_words words)
  all_taken m matches kinds (Ok r) asks = asks ∙ taken m matches kinds
  all_taken m matches kinds (Err e) asks = tt

  -- words that aren't taken ask for nothing
  pub not_taken : (e : Error) → (is_simple_and_free (app_of c) ≡ true → HasKind (fault_of (app_of c) words) e) →
      is_memory (kind_of e) ≡ false →
      None ≡ asked_words words
  not_taken e kinds other =
      let free : is_simple_and_free (app_of c) ≡ true = ap is_simple_and_free is.0 ∙ serves.free in
      let some : is_none (fault_of (app_of c) words) ≡ false = has_kinds (fault_of (app_of c) words) e (kinds free) other in
      let none : is_none (fault_of program_app words) ≡ false =
      ap is_none (sym serves.faults) ∙ ap (λ a. is_none (fault_of a words)) (sym is.0) ∙ some in
      rw none refl

-- the matches of a subcommand ask for what its name and its own matches ask for
pub named : (m : ArgMatches) (name : Text) (rows : List Row) → subcommand_name_of m ≡ Some name →
    option_map (λ (p : Text × List Row). p.1) (subcommand_rows_of m) ≡ Some rows →
    asked_by (name, rows) ≡ option_and_then asked_by (subcommand_rows_of m)
named m name rows is matches =
    let both : subcommand_rows_of m ≡ Some (name, rows) = paired _ _ (out-ArgMatches m).subcommand name rows is matches in
    rw both refl

-- an argument that must be there and takes as many values as are given
pub many : (a b c : Arg) (id : Text) (r : ValueRange) → rule_of a ≡ new_rule id → b ≡ record a { required = true } →
    (c ≡ record b { num_vals = c.num_vals }) × IsSomeAnd c.num_vals (λ v. v ≡ r) →
    rule_of c ≡ record (new_rule id) { required = true; range = Some r }
many a b c id r new must takes =
    let range : c.num_vals ≡ Some r = known c.num_vals r takes.1 in
    rw (takes.0, range, must) (ap (λ (s : Rule). record s { required = true; range = Some r }) new)
  where
    known : (o : Option ValueRange) (r : ValueRange) → IsSomeAnd o (λ v. v ≡ r) → o ≡ Some r
    known (Some v) r is = ap Some is
    known None r is = absurd is

-- the texts behind references, none where there are none
pub texts_or : (o : Option (Bor (List (Bor Text)))) (xs : List (Bor Text)) (s : Bor (List (Bor Text))) → o ≡ Some s → xs ≡ s.now →
    map (λ (v : Bor Text). v.now) xs ≡ unwrap_or (option_map (λ s. map (λ (v : Bor Text). v.now) s.now) o) []
texts_or o xs s is copied = rw (is, copied) refl

-- where there are no texts, the default is the empty list
pub no_texts_or : (o : Option (Bor (List (Bor Text)))) (xs : List (Bor Text)) → o ≡ None → xs ≡ [] →
    map (λ (v : Bor Text). v.now) xs ≡ unwrap_or (option_map (λ s. map (λ (v : Bor Text). v.now) s.now) o) []
no_texts_or o xs is none = rw (is, none) refl

-- what holds of each text of an option
module _ (p : Text → Bool) (o : Option (Bor (List (Bor Text)))) (all : Option (List Text))
    (given : option_map (λ s. map (λ (v : Bor Text). v.now) s.now) o ≡ all) where
  pub each_taken : (s : Bor (List (Bor Text))) → o ≡ Some s → list_all (λ (v : Bor Text). p v.now) s.now ≡ list_all p (unwrap_or all [])
  each_taken s is = rw (← given, is, list_all-map p (λ (v : Bor Text). v.now) s.now) refl

  pub none_taken : o ≡ None → true ≡ list_all p (unwrap_or all [])
  none_taken none = rw (← given, none) refl

-- a subcommand more
module _ (old sub : Command) (a s : App) (one : IsCommand old a) (other : IsCommand sub s) where
  pub with_one_more : (new : Command) → AddsSubcommand old sub new → IsCommand new (with_subcommand a s.top)
  with_one_more new adds =
      let shapes : app_of new ≡ with_subcommand a s.top =
      adds.shape other.1 ∙ ap (λ (b : App). with_subcommand b (app_of sub).top) one.0 ∙ ap (λ (b : App). with_subcommand a b.top) other.0 in
      let globals : (fields_of new).has_globals ≡ false = rw (one.1, other.1) at adds.globals in
      (shapes, globals)

  pub with_the_last : (r : Result Command AllocError) → IfOk r (λ new. AddsSubcommand old sub new) →
      IfOk r (λ new. IsCommand new (with_subcommand a s.top))
  with_the_last (Ok new) adds = with_one_more new adds
  with_the_last (Err e) adds = tt

-- the texts behind references, taken
pub texts_taken : (o : Option (Bor (List (Bor Text)))) (s : Bor (List (Bor Text))) (all : Option (List Text))
    (r : Result (Vec (Bor Text) Global) AllocError) → o ≡ Some s → option_map (λ s. map (λ (v : Bor Text). v.now) s.now) o ≡ all →
    IfOk r (λ v. v.items ≡ s.now) → IfOk r (λ v. map (λ (n : Bor Text). n.now) v.items ≡ unwrap_or all [])
texts_taken o s all (Ok v) is given items = texts_or o v.items s is items ∙ ap (λ o. unwrap_or o []) given
texts_taken o s all (Err e) is given items = tt

-- what is made of the text behind a reference, or what stands for it where there is none
module _ {A : Type 0} (f : Text → A) (other : A) (o : Option (Bor Text)) (first : Option Text)
    (given : option_map (λ s. s.now) o ≡ first) where
  -- where there is a value, it is what is asked for
  pub value_or : (s : Bor Text) → o ≡ Some s → f s.now ≡ option_map_or f first other
  value_or s is = rw (← given, is) refl

  -- where there is no value, the other one is
  pub no_value_or : o ≡ None → other ≡ option_map_or f first other
  no_value_or none = rw (← given, none) refl
