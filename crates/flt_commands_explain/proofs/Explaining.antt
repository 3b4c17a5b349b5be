-- What `explain` of files comes to, and what went out of it.
use Rattle.std.proofs.Common.{◌≡◌, ◌≢◌, ◌∙◌, ℕ, true, false, Bool, List, ◌++◌, Bor, Vec, Global, Option, Some, None, OnOk}
use Rattle.std.proofs.Common.{Result, Ok, Err, IfErr, IfOk, IsErr, ap, flat_map, map, option_map, refl, sym, take}
use Rattle.flt_door.proofs.Lines.{shows_nothing}
use Rattle.flt_door.specs.Lines.{Shows}
use Rattle.std.specs.List.{AllZip}
use Rattle.flt_explain_texts.specs.declared.sources.Source.{Source}
use Rattle.flt_explain_parts.specs.declared.drifted.DriftedFile.{DriftedFile}
use Rattle.flt_files.specs.declared.unread.UnreadFile.{UnreadFile}
use Rattle.flt_joined.specs.Made.{AreJoined}
use Rattle.flt_joined.specs.Texts.{AreNamed, Given, Refused, given_of, givens, refused_at}
use Rattle.flt_joined.specs.declared.given.GivenFile.{GivenFile}
use Rattle.flt_joined.specs.declared.joined.JoinedTexts.{JoinedTexts}
use Rattle.flt_places.specs.declared.files.SourceFile.{SourceFile}
use Rattle.flt_explain_runs.specs.Whole.{Look}
use Rattle.flt_explain_runs.specs.declared.explaining.ExplainOutput.{ExplainOutput}
use Rattle.flt_explain_outcomes.specs.declared.schedules.RunSearch.{RunSearch}
use Rattle.flt_explain_warning_details.specs.declared.options.WarningOptions.{WarningOptions}
use Rattle.flt_words.specs.declared.request.Form.{Form}
use Rattle.flt_files.proofs.Firsts.{mapped_twice}
use Rattle.flt_commands_explain.proofs.MadeSources.{sources_of_files, texts_of_sources}
use Rattle.flt_commands_explain.proofs.Sent.{cut_short}
use Rattle.flt_commands_explain.specs.Annotated.{AreFoundIn}
use Rattle.flt_commands_explain.specs.Explain.{HoldsBack, IsCutAfter, IsCutOfFiles, IsCutShort, IsExplained, IsSent, IsToldOfFiles}
use Rattle.flt_commands_explain.specs.Explain.{IsToldOrUnwritten, IsToldWith, codes_in, first_in, said_of, told_name}
use Rattle.flt_commands_explain.specs.Drifts.{AreDrifted}
use Rattle.flt_commands_explain.specs.Explain as explain
use Rattle.flt_files.specs.Inputs.{Giving, Text, unread_names}
use Rattle.flt_commands_explain.specs.Remarks.{unread_in, unread_lines}
use Rattle.flt_commands_explain.specs.declared.explain.Explanation.{Explanation}
use Rattle.flt_commands_explain.specs.declared.explain.Explanation.TheVariants.{Told as Said, Unwritten}
use Rattle.flt_commands_explain.specs.declared.fault.CommandFault.{CommandFault}
use Rattle.flt_commands_explain.specs.declared.fault.CommandFault.TheVariants.{OutOfMemory}
use Rattle.flt_commands_explain.specs.Sources.{AreSources, IsSourceIn, bytes_in, refused_names}
use Rattle.flt_commands_explain.specs.declared.annotated.NamedFiles.{NamedFiles}

-- ---- what is held back

-- where a file is named for a journal, nothing goes out before all is known
pub holds_named : (form : Form) (journal : Option (Bor Text)) → journal ≢ None → HoldsBack form (option_map (λ name. name.now) journal)
holds_named form None named = absurd (named refl)
holds_named form (Some name) named = tt

holds_some : (form : Form) (journal : Option Text) (name : Text) → journal ≡ Some name → HoldsBack form journal
holds_some form journal name same = rw same tt

-- ---- of the texts that files make

module _ (form : Form) (look : Look) (allowed : List Text) (journal : Option Text) (files : List GivenFile) (joined : JoinedTexts)
    (own : List SourceFile) (drifted : List DriftedFile) (sources : List Source) (are : AreJoined files joined)
    (named : AreNamed (told_name form) (givens files) own) (compared : AreDrifted allowed (givens files) drifted)
    (made : AllZip (IsSourceIn own) joined.texts.items sources) where
  these : AreSources (told_name form) (givens files) sources (refused_names files joined.refused.items)
  these = record {
    each = sources_of_files (told_name form) files joined own sources are named made;
    others =
        sym (mapped_twice (refused_at (givens files)) (λ (r : Refused). r.name) joined.refused.items)
        ∙ ap (map (λ (r : Refused). r.name)) are.refused;
  }

  -- what is told of them
  pub joined_told : (unread : List UnreadFile) (result : Result ExplainOutput CommandFault) →
      IfOk result (IsToldWith form look journal drifted sources unread) →
      IfOk result (IsToldOfFiles form look allowed journal (givens files) (refused_names files joined.refused.items)
      (bytes_in joined.texts.items) unread)
  joined_told unread (Ok t) is = record {
    drifted = drifted;
    compared = compared;
    sources = sources;
    are = these;
    given = texts_of_sources own joined.texts.items sources made;
    told = is;
  }
  joined_told unread (Err e) is = tt

  -- where that is cut short
  pub joined_cut : (options : WarningOptions) (search : RunSearch) (old new : Option Text) (result : Result ExplainOutput CommandFault) →
      IfErr result (λ e. e ≡ OutOfMemory → IsCutAfter (first_in form drifted) form options search sources old new) →
      IfErr result (λ e. e ≡ OutOfMemory → IsCutOfFiles form options search allowed (givens files) old new)
  joined_cut options search old new (Ok t) cut = tt
  joined_cut options search old new (Err e) cut = λ short. explain.some_told drifted sources _ compared these (cut short)

  -- or where memory runs out later
  pub joined_out : (options : WarningOptions) (search : RunSearch) (old new : Option Text) (result : Result ExplainOutput CommandFault) →
      OnOk result (IsCutAfter (first_in form drifted) form options search sources old new) →
      OnOk result (IsCutOfFiles form options search allowed (givens files) old new)
  joined_out options search old new (Ok t) cut = explain.some_told drifted sources _ compared these cut
  joined_out options search old new (Err e) cut = tt

-- ---- of names and what they give

-- the C files among the files
pub coded_as : (files : List GivenFile) (codes : List (Option (Vec ℕ Global))) → codes ≡ map (λ (f : GivenFile). f.code) files →
    map (option_map (λ code. code.items)) codes ≡ codes_in (givens files)
coded_as files codes same =
    ap (map (option_map (λ code. code.items))) same
    ∙ mapped_twice (λ (f : GivenFile). f.code) (option_map (λ code. code.items)) files
    ∙ sym (mapped_twice given_of (λ (g : Given). g.code) files)

module _ (gives : Giving) (is_c : Bool) (form : Form) (options : WarningOptions) (search : RunSearch) (allowed files : List Text) where
  -- what is told of those that are read is cut short
  pub cut_read : (f : NamedFiles) (old new : Option Text) → AreFoundIn is_c gives files f →
      IsCutOfFiles form options search allowed (givens f.read.items) old new →
      IsCutShort gives is_c form options search allowed files old new
  cut_read f old new are cut = explain.some_read _ _ are.are cut

  -- nothing went out where a file is named for a journal
  pub cut_named : {O : Type 0} (taken : O → Option Text) (old new : O) (journal : Option (Bor Text)) → journal ≢ None →
      (HoldsBack form (option_map (λ name. name.now) journal) → new ≡ old) →
      IsCutShort gives is_c form options search allowed files (taken old) (taken new)
  cut_named taken old new journal named held =
      rw (held (holds_named form journal named)) (cut_short gives is_c form options search allowed files (taken old))

  -- nor where its journal isn't written
  cut_unwritten : {O : Type 0} (taken : O → Option Text) (old new : O) (look : Look) (journal : Option Text)
      (codes : List (Option Text))
      (texts : List Text) (said : Explanation) → IsErr (said_of said) →
      IsExplained gives is_c form look allowed journal files codes texts (said_of said) → (HoldsBack form journal → new ≡ old) →
      IsCutShort gives is_c form options search allowed files (taken old) (taken new)
  cut_unwritten taken old new look journal codes texts (Said t unread) err is held =
      let e : false ≡ true = err in let no : ⊥ = cc in absurd no
  cut_unwritten taken old new look journal codes texts (Unwritten name why) err is held =
      rw (held (holds_some form journal name.now is.0)) (cut_short gives is_c form options search allowed files (taken old))

  -- the same of a report
  pub cut_reported : {O R : Type 0} (taken : O → Option Text) (old new : O) (look : Look) (journal : Option Text)
      (codes : List (Option Text)) (texts : List Text) (said : Explanation) (result : Result R CommandFault) →
      IfErr result (λ e. (e ≡ OutOfMemory) × IsErr (said_of said)) →
      IsExplained gives is_c form look allowed journal files codes texts (said_of said) → (HoldsBack form journal → new ≡ old) →
      IfErr result (λ e. e ≡ OutOfMemory → IsCutShort gives is_c form options search allowed files (taken old) (taken new))
  cut_reported taken old new look journal codes texts said (Ok report) err is held = tt
  cut_reported taken old new look journal codes texts said (Err e) err is held =
      λ short. cut_unwritten taken old new look journal codes texts said err.1 is held

  -- what is said of them
  pub explained_of : (look : Look) (journal : Option Text) (f : NamedFiles) (refused texts : List Text) (codes : List (Option Text))
      (unread : List UnreadFile) (told : ExplainOutput) (said : Explanation) → AreFoundIn is_c gives files f →
      unread_names unread ≡ unread_names f.unread.items ++ refused → codes ≡ codes_in (givens f.read.items) →
      IsToldOfFiles form look allowed journal (givens f.read.items) refused texts unread told →
      IsToldOrUnwritten told unread journal said → IsExplained gives is_c form look allowed journal files codes texts (said_of said)
  explained_of look journal f refused texts codes unread told (Said t others) are unnamed coded is (same, all) =
      rw (same, all) (record {
        files = givens f.read.items;
        missing = unread_names f.unread.items;
        found = are.are;
        coded = coded;
        refused = refused;
        others = unnamed;
        told = is;
      })
  explained_of look journal f refused texts codes unread told (Unwritten name why) are unnamed coded is same = (
    same,
    record {
      files = givens f.read.items;
      missing = unread_names f.unread.items;
      found = are.are;
      coded = coded;
      told = told_name form;
      sources = is.sources;
      refused = refused;
      are = is.are;
      given = is.given;
    },
  )

-- what went out of it
pub sent_of_said : {O : Type 0} (taken : O → Option Text) (old new : O) (form : Form) (journal : Option Text) (told : ExplainOutput)
    (unread : List UnreadFile) (said : Explanation) → Shows (taken old) (taken new) (take told.sent told.explained.output.items) →
    (HoldsBack form journal → new ≡ old) → IsToldOrUnwritten told unread journal said → IsSent (taken old) (taken new) (said_of said)
sent_of_said taken old new form journal told unread (Said t others) sent held (same, all) = rw same sent
sent_of_said taken old new form journal told unread (Unwritten name why) sent held same =
    rw (held (holds_some form journal name.now same)) (shows_nothing (taken old))

-- which files aren't read
pub unread_of_said : (journal : Option Text) (told : ExplainOutput) (unread : List UnreadFile) (lines : List ℕ) (said : Explanation) →
    lines ≡ flat_map unread_lines unread → IsToldOrUnwritten told unread journal said →
    IfOk (said_of said) (λ answer. lines ≡ unread_in answer)
unread_of_said journal told unread lines (Said t others) are (same, all) = rw all are
unread_of_said journal told unread lines (Unwritten name why) are same = tt
