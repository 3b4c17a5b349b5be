use Rattle.std.proofs.Common.{◌≡◌, true, map, take}
use Rattle.std.specs.Io.{StartsWith}
use Rattle.std.specs.List.{AllZip, list_all}
use Rattle.flt_explain_pages.specs.Pages.{has_page, title}
use Rattle.flt_commands_explain.proofs.explain.pages_of.Given as goal

abbrev pub invariant-loop-name : goal.invariant-loop-name
invariant-loop-name l = record {
  paged : AllZip (λ name page. StartsWith page.now (title name)) (map (λ name. name.now) (take l.name-index l.names)) l.pages.items;
  found : list_all has_page (map (λ name. name.now) (take l.name-index l.names)) ≡ true;
}
