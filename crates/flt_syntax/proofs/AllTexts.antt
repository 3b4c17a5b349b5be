-- Several texts, one after another: those before a place are spelled, and the one there is the next.
use Rattle.std.proofs.Common.{◌≡◌, ℕ, ◌+◌, ◌<◌, List, [], ◌∷◌, ◌++◌, Vec, Global, length, get_or, take, drop, map, ap, ◌∙◌}
use Rattle.std.proofs.lemmas.List.{map_push}
use Rattle.std.proofs.lemmas.Slice.Zip.{all_zipped_more}
use Rattle.flt_tree.proofs.Parts.{one_more, parted, places_before}
use Rattle.flt_syntax.specs.Spelling.{Spells}
use Rattle.flt_syntax.specs.TextFails.{Fails}
use Rattle.flt_syntax.specs.Texts.{AreSpelled, IsSyntaxFault}
use Rattle.flt_syntax.specs.declared.fault.SyntaxFault.{SyntaxFault}
use Rattle.flt_tree.specs.declared.filter.Filter.{Filter}
use Rattle.flt_tree.specs.declared.tree.Tree.{Tree}

module _ (texts : List (Vec ℕ Global)) (i : ℕ) (text d : Vec ℕ Global) (h : i < length texts) (at : text ≡ get_or texts i d) where
  -- one more tree is what one more text spells
  pub spelled_more : (trees more : List Tree) (tree : Tree) →
      AreSpelled (map (λ t. t.items) (take i texts)) (map (λ t. t.filter) trees) → Spells text.items tree.filter →
      more ≡ trees ++ tree ∷ [] → AreSpelled (map (λ t. t.items) (take (i + 1) texts)) (map (λ t. t.filter) more)
  spelled_more trees more tree spelled one pushed =
      let read : map (λ (t : Vec ℕ Global). t.items) (take (i + 1) texts) ≡ map (λ (t : Vec ℕ Global). t.items) (take i texts)
      ++ text.items ∷ [] =
      one_more (λ t. t.items) texts i text d h at in
      let parsed : map (λ (t : Tree). t.filter) more ≡ map (λ (t : Tree). t.filter) trees ++ tree.filter ∷ [] =
      ap (map (λ (t : Tree). t.filter)) pushed ∙ map_push (λ t. t.filter) trees tree in
      rw (read, parsed) (all_zipped_more _ _ _ text.items tree.filter spelled one)

  -- the first text that fails to parse is the syntax fault of all
  pub first_fault : (filters : List Filter) (f : SyntaxFault) → AreSpelled (map (λ t. t.items) (take i texts)) filters →
      Fails text.items f → IsSyntaxFault (map (λ t. t.items) texts) i f
  first_fault filters f spelled fault = record {
    before = map (λ t. t.items) (take i texts);
    text = text.items;
    after = map (λ t. t.items) (drop (i + 1) texts);
    parts = parted (λ t. t.items) texts i text d h at;
    filters = filters;
    spelled = spelled;
    counted = places_before (λ t. t.items) texts i text d h at;
    fault = fault;
  }
