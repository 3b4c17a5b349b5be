-- Results with their fingerprints, and their keys, one after the other.
use Rattle.std.proofs.Common.{◌≡◌, ◌∙◌, ℕ, suc, ◌+◌, ◌<◌, List, [], ◌∷◌, ◌++◌, length, map}
use Rattle.std.proofs.Common.{take, get_or, refl, ap, sym, append_assoc, append-nil, arith}
use Rattle.std.proofs.Math.Seq.{take-suc}
use Rattle.json.specs.Token.{Token}
use Rattle.json.specs.Written.{Written}
use Rattle.flt_explain_parts.specs.Members.{Added}
use Rattle.flt_explain_parts.proofs.Adding.{both}
use Rattle.flt_explain_sarif.specs.Fingerprints.{numbered}

module _ {A : Type 0} (key : A → List ℕ) where
  map_push : (xs : List A) (x : A) → map key (xs ++ x ∷ []) ≡ map key xs ++ key x ∷ []
  map_push [] x = refl
  map_push (y ∷ ys) x = ap (λ ks. key y ∷ ks) (map_push ys x)

  module _ (all : List A) (i : ℕ) (one : A) (within : i < length all) (is : one ≡ get_or all i one) where
    one_more : take (i + 1) all ≡ take i all ++ one ∷ []
    one_more =
        let next : take (suc i) all ≡ take i all ++ get_or all i one ∷ [] = take-suc all i one within in
        let same : i + 1 ≡ suc i = omega arith in
        rw (same, next, sym is) refl

    -- the keys so far, and the next one
    pub key_more : (before after : List (List ℕ)) → before ≡ map key (take i all) → after ≡ before ++ key one ∷ [] →
        after ≡ map key (take (i + 1) all)
    key_more before after sofar more = rw (more, sofar, one_more) (sym (map_push (take i all) one))

module _ {A : Type 0} (key : A → List ℕ) (f : List (List ℕ) → A → List Token) where
  -- one result more, by all keys before
  numbered_push : (before : List (List ℕ)) (xs : List A) (x : A) →
      numbered key f before (xs ++ x ∷ []) ≡ numbered key f before xs ++ f (before ++ map key xs) x
  numbered_push before [] x = append-nil (f before x) ∙ ap (λ b. f b x) (sym (append-nil before))
  numbered_push before (y ∷ ys) x =
      let next = before ++ key y ∷ [] in
      let later : numbered key f next (ys ++ x ∷ []) ≡ numbered key f next ys ++ f (next ++ map key ys) x = numbered_push next ys x in
      let same : next ++ map key ys ≡ before ++ key y ∷ map key ys = append_assoc before (key y ∷ []) (map key ys) in
      rw (later, same) (sym (append_assoc (f before y) (numbered key f next ys) (f (before ++ key y ∷ map key ys) x)))

  module _ (all : List A) (i : ℕ) (one : A) (within : i < length all) (is : one ≡ get_or all i one) where
    -- the results so far, and the next one
    pub one_result_more : {a b c : Written} (before : List (List ℕ)) → before ≡ map key (take i all) →
        Added a b (numbered key f [] (take i all)) → Added b c (f before one) → Added a c (numbered key f [] (take (i + 1) all))
    one_result_more before sofar first second =
        let next : take (i + 1) all ≡ take i all ++ one ∷ [] = one_more key all i one within is in
        let more : numbered key f [] (take (i + 1) all) ≡ numbered key f [] (take i all) ++ f (map key (take i all)) one =
        ap (λ xs. numbered key f [] xs) next ∙ numbered_push [] (take i all) one in
        rw more (both first (rw sofar at second))
