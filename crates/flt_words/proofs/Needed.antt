-- Words that begin with a command's name are taken by the program with this command alone as by the whole program.
use Rattle.std.proofs.Common.{◌≡◌, List, [], ◌∷◌, ◌++◌, Bool, true, false, Some, fold, refl, sym, ◌∙◌, ap}
use Rattle.std.proofs.Common.{append-nil, append_assoc, codes, bytes_eq, find, if◌then◌else◌, is_some}
use Rattle.std.proofs.lemmas.Slice.Eq.{bytes_eq-Decides}
use Rattle.clap.proofs.OnLiterals.{clap_on_literals}
use Rattle.clap.specs.Faults.{check_fault, defaults_fault, entered_fault, fault_of, is_simple_and_free}
use Rattle.clap.specs.Faults.{level_fault, settle_fault, turn_fault, walk_fault}
use Rattle.clap.specs.Kinds.{Kinds, or_else}
use Rattle.clap.specs.Simple.{App, Shape, built, built_leaf, entered, inherited, is_simple, label_of}
use Rattle.clap.specs.Simple.{marked_built, names_of, on_top, rows_at, subcommand_of, with_leaf_noted}
use Rattle.clap.specs.Walk.{Names, Rule, Text, Walk, answers_to, finished, nothing_held, settled, walk_from, walked}
use Rattle.flt_words.specs.Words.{IsFirst}
use Rattle.flt_words.specs.Program.{analyse_app, app_for, check_app, compare_app, draft_app, emit_app, explain_app}
use Rattle.flt_words.specs.Program.{extract_app, format_app, program_app, program_with, replay_app, run_app, serve_app, thin_app}

-- ---- a walk that has met its command

-- what follows is kept for the command, whatever the other commands are
goes_on : (rules : List Rule) (names : Names) (rest : List Text) (w : Walk) (name : Text) (kept : List Text) →
    w.stopped ≡ Some (name, kept) →
    fold (walked rules names) w rest ≡ record w { stopped = Some (name, kept ++ rest) }
unfolding walked
goes_on rules names [] w name kept stopped = rw (append-nil kept, ← stopped) refl
goes_on rules names (word ∷ rest) w name kept stopped =
    rw stopped (goes_on rules names rest (record w { stopped = Some (name, kept ++ word ∷ []) }) name (kept ++ word ∷ []) refl
    ∙ ap (λ words. record w { stopped = Some (name, words) }) (append_assoc kept (word ∷ []) rest))

-- and is no fault of the program's own
no_fault : (s : Shape) (names : Names) (rest : List Text) (w : Walk) (name : Text) (kept : List Text) → w.stopped ≡ Some (name, kept) →
    walk_fault s names w rest ≡ []
unfolding walked walk_fault
no_fault s names [] w name kept stopped = refl
no_fault s names (word ∷ rest) w name kept stopped =
    rw stopped (no_fault s names rest (record w { stopped = Some (name, kept ++ word ∷ []) }) name (kept ++ word ∷ []) refl)

-- ---- a program that meets a command at a word

met : Text → List Text → Walk
met name words = record (walk_from nothing_held) { stopped = Some (name, words) }

record Meets (a : App) (word : Text) (s : Shape) : Type 0 where
  pub unnamed : a.top.no_binary_name ≡ true
  pub first : walked (built a).top.rules (names_of (built a)) (walk_from nothing_held) word ≡ met word []
  pub fine : turn_fault (built a).top (names_of (built a)) (walk_from nothing_held) word ≡ []
  pub found : find (λ s. answers_to word (label_of s)) (built a).subs ≡ Some s

-- the kinds of error behind a walk that has ended
level : App → Walk → Kinds → Kinds
level b w walking = or_else walking (or_else (entered_fault b w.stopped)
    (or_else (settle_fault b.top.rules b.top.args_override_self w.held)
    (or_else (defaults_fault (settled b.top.rules w.held).rows b.top.rules)
    (check_fault b.top (finished b.top.rules w.held) (is_some (entered b w.stopped))))))

-- those of a command that was met, by the program's own arguments and the command alone
behind : Shape → Shape → List Text → Kinds
behind top s rest = or_else (level_fault s [] nothing_held rest false [])
    (or_else (settle_fault top.rules top.args_override_self nothing_held)
    (or_else (defaults_fault (settled top.rules nothing_held).rows top.rules)
    (check_fault top (finished top.rules nothing_held) true)))

module _ (a : App) (word : Text) (s : Shape) (rest : List Text) (m : Meets a word s) where
  walks : fold (walked (built a).top.rules (names_of (built a))) (walk_from nothing_held) (word ∷ rest) ≡ met word rest
  unfolding met
  walks = ap (λ w. fold (walked (built a).top.rules (names_of (built a))) w rest) m.first
      ∙ goes_on (built a).top.rules (names_of (built a)) rest (met word []) word [] refl

  no_fault_above : walk_fault (built a).top (names_of (built a)) (walk_from nothing_held) (word ∷ rest) ≡ []
  unfolding walk_fault met
  no_fault_above = rw (m.fine, m.first) (no_fault (built a).top (names_of (built a)) rest (met word []) word [] refl)

  level_at : level (built a) (met word rest) [] ≡ behind (built a).top s rest
  unfolding level behind met
  level_at = rw m.found refl

  faults_by_walk : fault_of a (word ∷ rest) ≡ level (built a)
      (fold (walked (built a).top.rules (names_of (built a))) (walk_from nothing_held) (word ∷ rest))
      (walk_fault (built a).top (names_of (built a)) (walk_from nothing_held) (word ∷ rest))
  unfolding level
  faults_by_walk = rw m.unnamed refl

  fault_at : fault_of a (word ∷ rest) ≡ behind (built a).top s rest
  fault_at = faults_by_walk
      ∙ ap (λ w. level (built a) w (walk_fault (built a).top (names_of (built a)) (walk_from nothing_held) (word ∷ rest))) walks
      ∙ ap (level (built a) (met word rest)) no_fault_above ∙ level_at

  entered_by_walk : subcommand_of a (word ∷ rest) ≡
      entered (built a) (fold (walked (built a).top.rules (names_of (built a))) (walk_from nothing_held) (word ∷ rest)).stopped
  entered_by_walk = rw m.unnamed refl

  entered_at : entered (built a) (met word rest).stopped ≡ Some (rows_at s rest)
  unfolding met
  entered_at = rw m.found refl

  subcommand_at : subcommand_of a (word ∷ rest) ≡ Some (rows_at s rest)
  subcommand_at = entered_by_walk ∙ ap (λ (w : Walk). entered (built a) w.stopped) walks ∙ entered_at

-- ---- the commands

-- a command of the built program
leaf : App → Shape
leaf c = built_leaf (inherited (on_top with_leaf_noted (on_top marked_built (program_with c))).top c.top)

record IsNamed (name : Text) (c : App) : Type 0 where
  pub alone : Meets (program_with c) name (leaf c)
  pub among : Meets program_app name (leaf c)
  pub tops : (built (program_with c)).top ≡ (built program_app).top
  pub plain : is_simple (program_with c) ≡ true
  pub free : is_simple_and_free (program_with c) ≡ true

check_named : IsNamed (codes "check") check_app
unfolding clap_on_literals met leaf
check_named = record {
  alone = record { unnamed = refl; first = refl; fine = refl; found = refl };
  among = record { unnamed = refl; first = refl; fine = refl; found = refl };
  tops = refl;
  plain = refl;
  free = refl;
}

analyse_named : IsNamed (codes "analyse") analyse_app
unfolding clap_on_literals met leaf
analyse_named = record {
  alone = record { unnamed = refl; first = refl; fine = refl; found = refl };
  among = record { unnamed = refl; first = refl; fine = refl; found = refl };
  tops = refl;
  plain = refl;
  free = refl;
}

thin_named : IsNamed (codes "thin") thin_app
unfolding clap_on_literals met leaf
thin_named = record {
  alone = record { unnamed = refl; first = refl; fine = refl; found = refl };
  among = record { unnamed = refl; first = refl; fine = refl; found = refl };
  tops = refl;
  plain = refl;
  free = refl;
}

explain_named : IsNamed (codes "explain") explain_app
unfolding clap_on_literals met leaf
explain_named = record {
  alone = record { unnamed = refl; first = refl; fine = refl; found = refl };
  among = record { unnamed = refl; first = refl; fine = refl; found = refl };
  tops = refl;
  plain = refl;
  free = refl;
}

run_named : IsNamed (codes "run") run_app
unfolding clap_on_literals met leaf
run_named = record {
  alone = record { unnamed = refl; first = refl; fine = refl; found = refl };
  among = record { unnamed = refl; first = refl; fine = refl; found = refl };
  tops = refl;
  plain = refl;
  free = refl;
}

replay_named : IsNamed (codes "replay") replay_app
unfolding clap_on_literals met leaf
replay_named = record {
  alone = record { unnamed = refl; first = refl; fine = refl; found = refl };
  among = record { unnamed = refl; first = refl; fine = refl; found = refl };
  tops = refl;
  plain = refl;
  free = refl;
}

extract_named : IsNamed (codes "extract") extract_app
unfolding clap_on_literals met leaf
extract_named = record {
  alone = record { unnamed = refl; first = refl; fine = refl; found = refl };
  among = record { unnamed = refl; first = refl; fine = refl; found = refl };
  tops = refl;
  plain = refl;
  free = refl;
}

format_named : IsNamed (codes "format") format_app
unfolding clap_on_literals met leaf
format_named = record {
  alone = record { unnamed = refl; first = refl; fine = refl; found = refl };
  among = record { unnamed = refl; first = refl; fine = refl; found = refl };
  tops = refl;
  plain = refl;
  free = refl;
}

emit_named : IsNamed (codes "emit") emit_app
unfolding clap_on_literals met leaf
emit_named = record {
  alone = record { unnamed = refl; first = refl; fine = refl; found = refl };
  among = record { unnamed = refl; first = refl; fine = refl; found = refl };
  tops = refl;
  plain = refl;
  free = refl;
}

compare_named : IsNamed (codes "compare") compare_app
unfolding clap_on_literals met leaf
compare_named = record {
  alone = record { unnamed = refl; first = refl; fine = refl; found = refl };
  among = record { unnamed = refl; first = refl; fine = refl; found = refl };
  tops = refl;
  plain = refl;
  free = refl;
}

draft_named : IsNamed (codes "draft") draft_app
unfolding clap_on_literals met leaf
draft_named = record {
  alone = record { unnamed = refl; first = refl; fine = refl; found = refl };
  among = record { unnamed = refl; first = refl; fine = refl; found = refl };
  tops = refl;
  plain = refl;
  free = refl;
}

serve_named : IsNamed (codes "serve") serve_app
unfolding clap_on_literals met leaf
serve_named = record {
  alone = record { unnamed = refl; first = refl; fine = refl; found = refl };
  among = record { unnamed = refl; first = refl; fine = refl; found = refl };
  tops = refl;
  plain = refl;
  free = refl;
}

-- ---- what a program makes of words

-- it takes them as the whole program does
pub record Serves (a : App) (words : List Text) : Type 0 where
  pub plain : is_simple a ≡ true
  pub free : is_simple_and_free a ≡ true
  pub faults : fault_of a words ≡ fault_of program_app words
  pub subcommands : subcommand_of a words ≡ subcommand_of program_app words

whole : (words : List Text) → Serves program_app words
unfolding clap_on_literals
whole words = record { plain = refl; free = refl; faults = refl; subcommands = refl }

alone : (name : Text) (c : App) (rest : List Text) → IsNamed name c → Serves (program_with c) (name ∷ rest)
alone name c rest is = record {
  plain = is.plain;
  free = is.free;
  faults = fault_at (program_with c) name (leaf c) rest is.alone ∙ ap (λ top. behind top (leaf c) rest) is.tops
      ∙ sym (fault_at program_app name (leaf c) rest is.among);
  subcommands = subcommand_at (program_with c) name (leaf c) rest is.alone ∙ sym (subcommand_at program_app name (leaf c) rest is.among);
}

-- either the word is this name, or it is asked for the next
module _ (word : Text) (rest : List Text) where
  or : (name : Text) (c other : App) (b : Bool) → bytes_eq word name ≡ b → IsNamed name c → Serves other (word ∷ rest) →
      Serves (if b then program_with c else other) (word ∷ rest)
  or name c other true equal is next = rw ((bytes_eq-Decides word name).0 equal) (alone name c rest is)
  or name c other false equal is next = next

  needed : Serves (app_for word) (word ∷ rest)
  needed = or (codes "check") check_app _ _ refl check_named (or (codes "analyse") analyse_app _ _ refl analyse_named
      (or (codes "thin") thin_app _ _ refl thin_named (or (codes "explain") explain_app _ _ refl explain_named
      (or (codes "run") run_app _ _ refl run_named (or (codes "replay") replay_app _ _ refl replay_named
      (or (codes "extract") extract_app _ _ refl extract_named (or (codes "format") format_app _ _ refl format_named
      (or (codes "emit") emit_app _ _ refl emit_named (or (codes "compare") compare_app _ _ refl compare_named
      (or (codes "draft") draft_app _ _ refl draft_named (or (codes "serve") serve_app _ _ refl serve_named
      (whole (word ∷ rest)))))))))))))

-- the program that is built for a word serves the words that begin with it
pub serves : (word : Text) (words : List Text) → IsFirst word words → Serves (app_for word) words
serves word [] is = absurd is
serves word (first ∷ rest) is = rw is (needed word rest)
