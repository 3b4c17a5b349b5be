use Rattle.std.proofs.Common.{◌≡◌, drop, map}
use Rattle.std.specs.List.{list_any}
use Rattle.flt_explain_hints.specs.Phrases.{is_kind, phrase_of}
use Rattle.flt_explain_hints.proofs.phrases.has_kind.Given as goal

abbrev pub invariant-loop-phrase : goal.invariant-loop-phrase
invariant-loop-phrase l =
    list_any (is_kind l.name) (map phrase_of (drop l.phrase-index l.phrases)) ≡ list_any (is_kind l.name) (map phrase_of l.phrases)
