-- Pages in memory by their targets.
use Rattle.std.proofs.Common.{◌≡◌, ◌∙◌, inl, inr, refl, ap, subst, Bool, true, false, not, ◌&&◌, ◌==◌, cond, eq-eqb, eqb-true, ℕ, List, [], ◌∷◌, Option, Some, bytes_eq}
use Rattle.std.specs.Prelude.{find, option_map}
use Rattle.std.specs.List.{list_any}
use Rattle.std.proofs.lemmas.Bool.{and_from, and_parts}
use Rattle.std.proofs.lemmas.List.Folds.{list_any-from_Any}
use Rattle.std.proofs.lemmas.Slice.Eq.{bytes_eq-Decides}
use Rattle.small_types.specs.declared.target.Target.{Target}
use Rattle.links.specs.declared.mem_link.Page.{Page}
use Rattle.links.specs.Pages.{distinct, is_at, page_in, same_target}
use Rattle.machine.proofs.Members.{In}
use Rattle.updater_cli.proofs.PublishedLaw.{any_in}

-- ---- targets

same_is : (a b : Target) → same_target a b ≡ true → a ≡ b
same_is a b e =
    let last = and_parts (bytes_eq a.host b.host && a.port == b.port) (bytes_eq a.path b.path) e in
    let first = and_parts (bytes_eq a.host b.host) (a.port == b.port) last.0 in
    let host = (bytes_eq-Decides a.host b.host).0 first.0 in
    let port = eqb-true a.port b.port first.1 in
    let path = (bytes_eq-Decides a.path b.path).0 last.1 in
    ap (λ (h : List ℕ). record a { host = h }) host
    ∙ ap (λ (n : ℕ). record a { host = b.host; port = n }) port
    ∙ ap (λ (q : List ℕ). record b { path = q }) path

is_same : (t : Target) → same_target t t ≡ true
is_same t =
    and_from (bytes_eq t.host t.host && t.port == t.port) (bytes_eq t.path t.path)
    (and_from (bytes_eq t.host t.host) (t.port == t.port)
    ((bytes_eq-Decides t.host t.host).1 refl) (eq-eqb t.port t.port refl))
    ((bytes_eq-Decides t.path t.path).1 refl)

-- ---- pages

not_both : (b : Bool) → b ≡ true → not b ≡ true → ⊥
not_both true is other = cc
not_both false is other = cc

abbrev first_or : Bool → Page → Target → List Page → Option (List ℕ)
first_or b page target pages =
    option_map (λ (q : Page). q.bytes) (cond b (Some page) (find (is_at target) pages))

-- where their targets differ, each is found by its own
pub page_found : (pages : List Page) (page : Page) → distinct pages ≡ true → In page pages
    → page_in page.target pages ≡ Some page.bytes
page_found [] page differ there = absurd there
page_found (x ∷ xs) page differ (inl is) =
    subst (λ (q : Page). page_in q.target (x ∷ xs) ≡ Some q.bytes) is
    (ap (λ (b : Bool). first_or b x x.target xs) (is_same x.target))
page_found (x ∷ xs) page differ (inr there) =
    by (is_at page.target x) refl
    (page_found xs page (and_parts (not (list_any (is_at x.target) xs)) (distinct xs) differ).1 there)
  where
    by : (b : Bool) → is_at page.target x ≡ b → page_in page.target xs ≡ Some page.bytes
        → page_in page.target (x ∷ xs) ≡ Some page.bytes
    by false other found = ap (λ (b : Bool). first_or b x page.target xs) other ∙ found
    by true same found =
        let here : is_at x.target page ≡ true =
        subst (λ (t : Target). same_target page.target t ≡ true)
        (same_is page.target x.target (flipped x.target page.target same)) (is_same page.target) in
        absurd (not_both (list_any (is_at x.target) xs)
        (list_any-from_Any (is_at x.target) xs
        (any_in (λ (q : Page). is_at x.target q ≡ true) xs page there here))
        (and_parts (not (list_any (is_at x.target) xs)) (distinct xs) differ).0)
      where
        flipped : (a b : Target) → same_target a b ≡ true → same_target b a ≡ true
        flipped a b e =
            subst (λ (t : Target). same_target t a ≡ true) (same_is a b e) (is_same a)
