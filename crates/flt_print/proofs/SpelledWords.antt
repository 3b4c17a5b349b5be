-- Each word of the language stands for one kind.
use Rattle.std.proofs.Common.{◌≡◌, Bool, true, get_or, refl}
use Rattle.std.proofs.lemmas.Bool.{and_parts}
use Rattle.std.proofs.lemmas.List.Sums.{AllPass-from_list_all}
use Rattle.std.proofs.lemmas.Slice.Eq.{bytes_eq-Decides}
use Rattle.std.specs.List.{list_all}
use Rattle.std.specs.Prelude.{◌&&◌}
use Rattle.std.specs.Str.{bytes_eq}
use Rattle.flt_tree.specs.Names.{Text}
use Rattle.flt_syntax.specs.Lex.{keyword, same_kind}
use Rattle.flt_syntax.specs.Vocabulary.{vocabulary}
use Rattle.flt_syntax.specs.declared.token.Kind.{Kind}
use Rattle.flt_print.specs.Vocabulary.{spelling, IsSpelled, EachWordIsOneKind}
use Rattle.flt_print.proofs.Pieces.{keyword_is}

-- the test of an entry
abbrev is_spelled : Text × Kind → Bool
is_spelled e = same_kind (keyword e.0).kind e.1 && bytes_eq (spelling e.1) e.0

all_spelled : list_all is_spelled vocabulary ≡ true
unfolding keyword spelling same_kind
all_spelled = refl

spelled : (e : Text × Kind) → is_spelled e ≡ true → IsSpelled e
spelled e h =
    let p = and_parts (same_kind (keyword e.0).kind e.1) (bytes_eq (spelling e.1) e.0) h in
    (keyword_is e.0 e.1 p.0, (bytes_eq-Decides (spelling e.1) e.0).0 p.1)

-- no word stands for two kinds, and no kind has two words
pub each_is_one_kind : EachWordIsOneKind
each_is_one_kind k d l = spelled (get_or vocabulary k d) (AllPass-from_list_all is_spelled vocabulary all_spelled k d l)
