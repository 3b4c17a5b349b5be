-- Two places in a list, and two lists that a relation leads to from one.
use Rattle.std.proofs.Common.{◌≡◌, List, [], ◌∷◌, ◌++◌, refl}
use Rattle.std.specs.List.{AllZip}

-- of two places, each with what stands before it, they are one, or one stands before the other
pub data Places {X : Type 0} (before : List X) (x : X) (others : List X) (y : X) : Type 0 where
  same : before ≡ others → x ≡ y → Places before x others y
  earlier : (between : List X) → others ≡ before ++ x ∷ between → Places before x others y
  later : (between : List X) → before ≡ others ++ y ∷ between → Places before x others y

places_behind : {X : Type 0} (a b x y : X) (before others : List X) → a ≡ b → Places before x others y →
    Places (a ∷ before) x (b ∷ others) y
places_behind a b x y before others e (same h at) = same (cc) at
places_behind a b x y before others e (earlier between h) = earlier between (cc)
places_behind a b x y before others e (later between h) = later between (cc)

-- two places in one list
pub places : {X : Type 0} (before after others rest : List X) (x y : X) → before ++ x ∷ after ≡ others ++ y ∷ rest →
    Places before x others y
places [] after [] rest x y e = same refl (cc)
places [] after (b ∷ others) rest x y e = let head : b ≡ x = cc in earlier others (cc)
places (a ∷ before) after [] rest x y e = let head : a ≡ y = cc in later before (cc)
places (a ∷ before) after (b ∷ others) rest x y e =
    let head : a ≡ b = cc in
    let tail : before ++ x ∷ after ≡ others ++ y ∷ rest = cc in
    places_behind a b x y before others head (places before after others rest x y tail)

module _ {X Y : Type 0} (R : X → Y → Type 0) where
  -- what is related to each of a list is one list, where it is one for each
  pub zipped_once : ((x : X) (y z : Y) → R x y → R x z → y ≡ z) → (xs : List X) (ys zs : List Y) → AllZip R xs ys → AllZip R xs zs → ys ≡ zs
  zipped_once one [] [] [] a b = refl
  zipped_once one [] [] (z ∷ zs) a b = absurd b
  zipped_once one [] (y ∷ ys) zs a b = absurd a
  zipped_once one (x ∷ xs) [] zs a b = absurd a
  zipped_once one (x ∷ xs) (y ∷ ys) [] a b = absurd b
  zipped_once one (x ∷ xs) (y ∷ ys) (z ∷ zs) a b =
      let head : y ≡ z = one x y z a.0 b.0 in
      let tail : ys ≡ zs = zipped_once one xs ys zs a.1 b.1 in
      cc

  -- what is related to one of them
  pub zipped_at : (before after : List X) (x : X) (ys : List Y) → AllZip R (before ++ x ∷ after) ys → (y : Y) × R x y
  zipped_at [] after x [] a = absurd a
  zipped_at [] after x (y ∷ ys) a = (y, a.0)
  zipped_at (b ∷ before) after x [] a = absurd a
  zipped_at (b ∷ before) after x (y ∷ ys) a = zipped_at before after x ys a.1
