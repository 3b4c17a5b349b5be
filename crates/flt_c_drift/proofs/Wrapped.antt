-- Functions that make calls: each is found by its name.
use Rattle.std.proofs.Common.{◌≡◌, ℕ, false, cond, List, [], ◌∷◌, ◌++◌, map, Option, Some, None, refl, sym, ap, ◌∙◌}
use Rattle.std.specs.Prelude.{is_some, if◌then◌else◌}
use Rattle.std.proofs.lemmas.Bool.{true≢false}
use Rattle.std.proofs.lemmas.Cmp.{nat_list_eq_equiv}
use Rattle.std.proofs.lemmas.List.{map-append}
use Rattle.std.specs.Global.{Vec}
use Rattle.std.specs.Map.{lookup}
use Rattle.std.specs.Str.{bytes_eq}
use Rattle.flt_c_drift.specs.Wrappers.{Wrapping, wrapped_by, wrapping_of, with_wrapping}

-- the entry of a name is that of the first function of this name
pub found_of : (word : List ℕ) (es : List (Vec ℕ × ℕ)) → lookup (λ k. bytes_eq word k.items) es ≡ wrapped_by (map wrapping_of es) word
found_of word [] = refl
found_of word (e ∷ es) =
    ap (λ b. cond b (Some e.1) (lookup (λ k. bytes_eq word k.items) es)) (nat_list_eq_equiv.symm word e.0.items)
    ∙ ap (λ found. if bytes_eq e.0.items word then Some e.1 else found) (found_of word es)

-- what isn't there is none
pub none_of : (found : Option ℕ) → is_some found ≡ false → found ≡ None
none_of None none = refl
none_of (Some call) none = absurd (true≢false none)

-- an entry more, of a name that has none
module _ (es new : List (Vec ℕ × ℕ)) (key : Vec ℕ) (call : ℕ) (name : List ℕ) where
  -- one more function that makes a call, and whose name is new, is found by its name
  pub more_of : new ≡ es ++ (key, call) ∷ [] → key.items ≡ name → wrapped_by (map wrapping_of es) name ≡ None →
      map wrapping_of new ≡ with_wrapping (map wrapping_of es) name call
  more_of more named none =
      ap (map wrapping_of) more ∙ map-append wrapping_of es ((key, call) ∷ [])
      ∙ ap (λ n. map wrapping_of es ++ wrapping n ∷ []) named
      ∙ sym (ap (λ found. if is_some found then map wrapping_of es else map wrapping_of es ++ wrapping name ∷ []) none)
    where
      wrapping : List ℕ → Wrapping
      wrapping n = record { name = n; call = call }
