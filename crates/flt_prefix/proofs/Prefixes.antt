-- A fault of a token in a text is one from left to right, or an E04 of a routine that isn't there.
use Rattle.std.proofs.Common.{◌≡◌, ◌≢◌, true, List, refl, sym, ap, ◌∙◌}
use Rattle.flt_syntax.specs.FileFails.{FileFails}
use Rattle.flt_syntax.specs.Lex.{tokens}
use Rattle.flt_syntax.specs.TextFails as bad
use Rattle.flt_syntax.specs.TextFails.{CallbacksMiss, WholeFails, Fails}
use Rattle.flt_syntax.specs.declared.fault.FaultKind.TheVariants.{E03, E04, E06, E07}
use Rattle.flt_syntax.specs.declared.fault.SyntaxFault.{SyntaxFault}
use Rattle.flt_tree.specs.Names.{Text}
use Rattle.flt_tree.specs.declared.filter.Callback.{Callback}
use Rattle.flt_tree.specs.declared.filter.Filter.{Filter}
use Rattle.flt_prefix.specs.Prefix.{is_of_token, NothingGoesOn, NothingGoesOnInTexts, FileBeginsInTexts}
use Rattle.flt_prefix.proofs.FinishesFiles.{file_begins}

not_six : is_of_token E06 ≡ true → ⊥
not_six e = cc

not_seven : is_of_token E07 ≡ true → ⊥
not_seven e = cc

-- what only the whole text shows is no fault of a token, but for that E04
misses_none : {all cs : List Callback} {f : SyntaxFault} → CallbacksMiss all cs f → is_of_token f.kind ≡ true → f.kind ≢ E04 → ⊥
misses_none (bad.no_pre h) e other = not_seven e
misses_none (bad.no_routine h m) e other = other refl
misses_none (bad.later h m r) e other = misses_none r e other

whole_none : {filter : Filter} {f : SyntaxFault} → WholeFails filter f → is_of_token f.kind ≡ true → f.kind ≢ E04 → ⊥
whole_none (bad.no_canceled h m) e other = not_seven e
whole_none (bad.wanting h m) e other = misses_none m e other

-- such a fault is met from left to right
pub met : {text : Text} {f : SyntaxFault} → Fails text f → is_of_token f.kind ≡ true → f.kind ≢ E04 → FileFails text (tokens text) f
met (bad.too_long h) e other = elim (not_six e) [ ]
met (bad.reading short h) e other = h
met (bad.whole short r h) e other = elim (whole_none h e other) [ ]

-- of a text nothing goes on with the token at fault
pub goes_on_in_texts : NothingGoesOn → NothingGoesOnInTexts
goes_on_in_texts law text f h e other = law text (tokens text) f (met h e other) e

-- an E03 is no E04
pub three_four : E03 ≡ E04 → ⊥
three_four e = cc

-- of a text something begins before an E03
pub begins_in_texts : FileBeginsInTexts
begins_in_texts text f h e g =
    file_begins text (tokens text) f (met h (ap is_of_token e) (λ x. three_four (sym e ∙ x))) e g
