-- Names that have pages.
use Rattle.std.proofs.Common.{◌≡◌, ◌≤◌, ℕ, List, [], ◌∷◌, Bor, arith, length, map, sym}
use Rattle.std.proofs.lemmas.List.Folds.{list_all-map}
use Rattle.std.specs.List.{list_all}
use Rattle.flt_explain_pages.specs.Pages.{has_page}
use Rattle.flt_words.specs.Commands.{have_pages}

-- where there are names, they have pages if each of them has one
pub each_has_page : (names : List (Bor (List ℕ))) → 1 ≤ length names →
    list_all (λ name. has_page name.now) names ≡ have_pages (map (λ name. name.now) names)
each_has_page [] some = absurd (omega arith)
each_has_page (name ∷ names) some = sym (list_all-map has_page (λ (name : Bor (List ℕ)). name.now) (name ∷ names))
