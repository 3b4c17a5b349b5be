-- Equal altitudes among filters: which is the first that an earlier one has, and where a filter goes.
use Rattle.std.proofs.Common.{◌≡◌, ◌≢◌, ◌==◌, ℕ, zero, suc, ◌+◌, ◌<◌, ◌≤◌, Bool, true, false, ◌||◌, List, [], ◌∷◌, ◌++◌, Some}
use Rattle.std.proofs.Common.{if◌then◌else◌, insert, nat_lt, not, one-add, length, get_or, take, drop, map, refl, sym, ap, ◌∙◌, arith}
use Rattle.std.proofs.Common.{eqb-true, eq-eqb, slice_get}
use Rattle.std.proofs.lemmas.List.{take_all}
use Rattle.std.proofs.lemmas.List.Quantifiers.{all_pairs_push}
use Rattle.std.specs.List.{list_any}
use Rattle.flt_tree.proofs.Parts.{one_more, parted, places_before}
use Rattle.flt_tree.specs.declared.filter.Filter.{Filter}
use Rattle.flt_tree.specs.declared.tree.Tree.{Tree}
use Rattle.flt_model.specs.Program.{HasDistinctAltitudes, IsRepeated, filters_of, first_lower, put_by_altitude}

-- ---- the altitudes

-- a filter with the altitude is among them
earlier : (trees : List Tree) (altitude : ℕ) → list_any (λ t. t.filter.altitude == altitude) trees ≡ true →
    (at : ℕ) × (other : Filter) × (slice_get (filters_of trees) at ≡ Some other) × (other.altitude ≡ altitude)
earlier [] altitude h = absurd (cc h)
earlier (t ∷ trees) altitude h = one (t.filter.altitude == altitude) refl h (earlier trees altitude)
  where
    one : (b : Bool) → t.filter.altitude == altitude ≡ b → (b || list_any (λ t. t.filter.altitude == altitude) trees) ≡ true →
        (list_any (λ t. t.filter.altitude == altitude) trees ≡ true →
        (at : ℕ) × (other : Filter) × (slice_get (filters_of trees) at ≡ Some other) × (other.altitude ≡ altitude)) →
        (at : ℕ) × (other : Filter) × (slice_get (filters_of (t ∷ trees)) at ≡ Some other) × (other.altitude ≡ altitude)
    one true same h more = (0, t.filter, refl, eqb-true t.filter.altitude altitude same)
    one false same h more = let rest = more h in (suc rest.0, rest.1, rest.2, rest.3)

-- no filter with the altitude is among them
apart : (trees : List Tree) (altitude : ℕ) → list_any (λ t. t.filter.altitude == altitude) trees ≡ false →
    (k : ℕ) (d : Filter) → k < length (filters_of trees) → (get_or (filters_of trees) k d).altitude ≢ altitude
apart [] altitude h = λ k d inside. absurd (omega arith)
apart (t ∷ trees) altitude h = one (t.filter.altitude == altitude) refl h (apart trees altitude)
  where
    one : (b : Bool) → t.filter.altitude == altitude ≡ b → (b || list_any (λ t. t.filter.altitude == altitude) trees) ≡ false →
        (list_any (λ t. t.filter.altitude == altitude) trees ≡ false →
        (k : ℕ) (d : Filter) → k < length (filters_of trees) → (get_or (filters_of trees) k d).altitude ≢ altitude) →
        (k : ℕ) (d : Filter) → k < length (filters_of (t ∷ trees)) → (get_or (filters_of (t ∷ trees)) k d).altitude ≢ altitude
    one true differs h more k d inside = absurd (cc h)
    one false differs h more zero d inside = λ same. absurd (cc (differs, eq-eqb t.filter.altitude altitude same))
    one false differs h more (suc k) d inside = more h k d (omega arith)

module _ (trees : List Tree) (i : ℕ) (tree d : Tree) (h : i < length trees) (at : tree ≡ get_or trees i d) where
  -- a filter whose altitude no earlier one has leaves the altitudes distinct
  pub distinct_more : HasDistinctAltitudes (filters_of (take i trees)) →
      list_any (λ t. t.filter.altitude == tree.filter.altitude) (take i trees) ≡ false →
      HasDistinctAltitudes (filters_of (take (i + 1) trees))
  distinct_more distinct none =
      let more : filters_of (take (i + 1) trees) ≡ filters_of (take i trees) ++ tree.filter ∷ [] =
      one_more (λ t. t.filter) trees i tree d h at in
      rw more (all_pairs_push (λ (f g : Filter). f.altitude ≢ g.altitude) (filters_of (take i trees)) tree.filter distinct
      (apart (take i trees) tree.filter.altitude none))

  -- the first filter whose altitude an earlier one has is the repeated one
  pub repeated : HasDistinctAltitudes (filters_of (take i trees)) →
      list_any (λ t. t.filter.altitude == tree.filter.altitude) (take i trees) ≡ true →
      IsRepeated (filters_of trees) i
  repeated distinct some = record {
    before = filters_of (take i trees);
    filter = tree.filter;
    after = filters_of (drop (i + 1) trees);
    parts = parted (λ t. t.filter) trees i tree d h at;
    counted = places_before (λ t. t.filter) trees i tree d h at;
    distinct = distinct;
    earlier = earlier (take i trees) tree.filter.altitude some;
  }

-- where all filters have been taken, their altitudes are distinct as they were found
pub all_distinct : (trees : List Tree) (i : ℕ) → length trees ≤ i → HasDistinctAltitudes (filters_of (take i trees)) →
    HasDistinctAltitudes (filters_of trees)
all_distinct trees i h distinct =
    let whole : take i trees ≡ trees = take_all i trees h in
    rw whole at distinct

-- ---- where a filter goes

put_first : (b : Bool) (f g : Filter) (filters others : List Filter) (n : ℕ) → others ≡ insert filters n f →
    (if b then f ∷ g ∷ filters else g ∷ others) ≡ insert (g ∷ filters) (if not b then 1 + n else 0) f
put_first true f g filters others n e = refl
put_first false f g filters others n e = rw one-add (ap (λ (l : List Filter). g ∷ l) e)

-- before the first one that is lower
pub put_there : (f : Filter) (filters : List Filter) → put_by_altitude f filters ≡ insert filters (first_lower f filters) f
put_there f [] = refl
put_there f (g ∷ filters) =
    put_first (nat_lt g.altitude f.altitude) f g filters (put_by_altitude f filters) (first_lower f filters) (put_there f filters)
