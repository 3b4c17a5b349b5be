use Rattle.std.proofs.Common.{◌≡◌, ◌++◌, drop, map}
use Rattle.flt_explain_hints.specs.Phrases.{each_once, phrase_for, phrase_of}
use Rattle.flt_explain_hints.proofs.phrases.add_expected.Given as goal

abbrev pub invariant-loop-one : goal.invariant-loop-one
invariant-loop-one l =
    map phrase_of l.phrases ++ each_once (map phrase_of l.phrases) (map (phrase_for l.choices) (drop l.one-index l.expected))
    ≡ map phrase_of l.fn.phrases ++ each_once (map phrase_of l.fn.phrases) (map (phrase_for l.choices) l.expected)
