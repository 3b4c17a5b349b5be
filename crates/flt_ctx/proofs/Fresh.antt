-- Lists that no node is in, no context, and a set without a stream.
use Rattle.std.proofs.Common.{◌≡◌, ℕ, zero, suc, ◌+◌, ◌∙◌, false, List, [], length, replicate, Some, sym, ap, subst, arith, Contains}
use Rattle.std.proofs.lemmas.Bool.{true≢false}
use Rattle.std.proofs.lemmas.Option.{none-some}
use Rattle.std.specs.Ordering.{nat_cmp}
use Rattle.std.specs.FinSet.{FinSet, empty, contains, contains-empty}
use Rattle.ilist_core.specs.NodeLists.{Sequences, nodes_of}
use Rattle.flt_ctx.specs.declared.links.Row.{Row}
use Rattle.flt_ctx.specs.declared.links.Link.{Link}
use Rattle.std.specs.BTreeSet.{BTreeSet}
use Rattle.flt_ctx.specs.Rows.{row_at}
use Rattle.flt_ctx.specs.Kept.{AreKept}
use Rattle.pair_set.specs.Pairs.{has}
use Rattle.flt_ctx.proofs.Indexed.{AreIndexed-fresh}

none_in : (n list node : ℕ) → Contains (nodes_of (replicate n []) list) node → ⊥
none_in zero list node found = absurd (omega (arith, found.1))
none_in (suc n) zero node found = absurd (omega (arith, found.1))
none_in (suc n) (suc list) node found = none_in n list node found

-- with no context and no node all is kept as it should be
pub AreKept-fresh : (rows : List Row) (filters : ℕ) (s : Sequences) (contexts : List ℕ) (streams : BTreeSet (ℕ × ℕ)) → rows ≡ [] →
    length s.lists ≡ filters + 1025 →
    s.lists ≡ replicate (filters + 1025) [] → s.nodes ≡ empty →
    ((filter file : ℕ) → has streams filter file ≡ false) → AreKept rows filters s contexts streams
AreKept-fresh rows filters s contexts streams no_rows count lists nodes no_stream =
    let no_link : (x : ℕ) (l : Link) → (row_at rows x).link ≡ Some l → ⊥ =
    λ x l is. none-some l (ap (λ (rs : List Row). (row_at rs x).link) (sym no_rows) ∙ is) in
    let out : (list node : ℕ) → Contains (nodes_of s.lists list) node → ⊥ =
    λ list node found. none_in (filters + 1025) list node (subst (λ (ls : List (List ℕ)). Contains (nodes_of ls list) node) lists found) in
    record {
      linked = record {
        as_many = count;
        placed = λ x l is. absurd (no_link x l is);
        named = λ list node found. absurd (out list node found);
        one = λ x y l m is also same. absurd (no_link x l is);
      };
      used = λ node is. absurd (true≢false (sym is ∙ ap (λ (q : FinSet nat_cmp). contains q node) nodes ∙ contains-empty nat_cmp node));
      indexed = AreIndexed-fresh rows streams (λ x. ap (λ (rs : List Row). (row_at rs x).link) no_rows) no_stream;
    }
