-- Pages by their targets.
use Rattle.std.specs.Prelude.{ℕ, Bool, true, not, ◌==◌, ◌&&◌, List, [], ◌∷◌, Option, find, option_map}
use Rattle.std.specs.List.{list_any}
use Rattle.std.specs.Str.{bytes_eq}
use Rattle.small_types.specs.declared.target.Target.{Target}
use Rattle.links.specs.declared.mem_link.Page.{Page}

-- whether the targets are one
abbrev pub same_target : Target → Target → Bool
same_target a b = bytes_eq a.host b.host && a.port == b.port && bytes_eq a.path b.path

abbrev pub is_at : Target → Page → Bool
is_at target page = same_target page.target target

-- the bytes of the page at this target
abbrev pub page_in : Target → List Page → Option (List ℕ)
page_in target pages = option_map (λ page. page.bytes) (find (is_at target) pages)

-- whether the targets differ
abbrev pub distinct : List Page → Bool
distinct [] = true
distinct (page ∷ pages) = not (list_any (is_at page.target) pages) && distinct pages
