-- The address of a file is one, or it is refused as a bad URL.
use Rattle.std.proofs.Common.{◌≡◌, ◌⊎◌, inl, inr, refl, ℕ, Bool, true, false, cond, List, Some, None, Result, Ok, Err}
use Rattle.std.specs.Prelude.{Any}
use Rattle.std.specs.List.{list_any}
use Rattle.std.proofs.lemmas.List.Folds.{Any-from_list_any, list_any-from_Any}
use Rattle.url.specs.Parts.{Parts}
use Rattle.url.specs.Parser.{Parsed, parse_url}
use Rattle.small_types.specs.declared.target.Target.{Target}
use Rattle.small_types.specs.Outcome.{◌>>=◌}
use Rattle.addresses.specs.declared.fault.UrlFault.{UrlFault}
use Rattle.addresses.specs.declared.fault.UrlFault.TheVariants.{BadUrl, NotHttp, Memory}
use Rattle.addresses.specs.Address.{address, is_too_long, url_of}
use Rattle.addresses.specs.Join.{file_reference, file_target_of, resolved, short_address, target_text}

-- it is an address, or a bad URL
abbrev pub IsReached : Result Target UrlFault → Type 0
IsReached result =
    ((target : Target) × (result ≡ Ok target)) ⊎ (result ≡ Err BadUrl)

short_reached : (url : Parts) → IsReached (short_address url)
unfolding short_address
short_reached url = by (is_too_long url)
  where
    by : (b : Bool) → IsReached (cond b (Err BadUrl) (Ok (address url)))
    by true = inr refl
    by false = inl (address url, refl)

joined_reached : (parsed : Parsed Parts) → IsReached (url_of parsed >>= short_address)
joined_reached (Ok url) = short_reached url
joined_reached (Err e) = inr refl

base_reached : (base : Parsed Parts) (reference : List ℕ)
    → IsReached ((url_of base >>= (λ document. url_of (parse_url (Some document) reference)))
    >>= short_address)
base_reached (Ok document) reference = joined_reached (parse_url (Some document) reference)
base_reached (Err e) reference = inr refl

pub file_reached : (base : Target) (mapped : Bool) (name : List ℕ)
    → IsReached (file_target_of base mapped name)
unfolding file_target_of resolved
file_reached base mapped name =
    base_reached (parse_url None (target_text base)) (file_reference mapped name)

-- ---- whether one of several is refused

is_bad : Result Target UrlFault → Bool
is_bad (Ok target) = false
is_bad (Err BadUrl) = true
is_bad (Err (NotHttp scheme)) = false
is_bad (Err Memory) = false

bad_is : (result : Result Target UrlFault) → is_bad result ≡ true → result ≡ Err BadUrl
unfolding is_bad
bad_is (Ok target) e = absurd cc
bad_is (Err BadUrl) e = refl
bad_is (Err (NotHttp scheme)) e = absurd cc
bad_is (Err Memory) e = absurd cc

is_so : (result : Result Target UrlFault) → result ≡ Err BadUrl → is_bad result ≡ true
unfolding is_bad
is_so (Ok target) e = absurd cc
is_so (Err BadUrl) e = refl
is_so (Err (NotHttp scheme)) e = absurd cc
is_so (Err Memory) e = absurd cc

pub bad_or_none : {X : Type 0} (target : X → Result Target UrlFault) (xs : List X)
    → Any (λ x. target x ≡ Err BadUrl) xs ⊎ (Any (λ x. target x ≡ Err BadUrl) xs → ⊥)
bad_or_none {X} target xs = by (list_any (λ x. is_bad (target x)) xs) refl
  where
    by : (b : Bool) → list_any (λ x. is_bad (target x)) xs ≡ b
        → Any (λ x. target x ≡ Err BadUrl) xs ⊎ (Any (λ x. target x ≡ Err BadUrl) xs → ⊥)
    by true e =
        let found = Any-from_list_any (λ x. is_bad (target x)) xs e in
        inl (found.0, found.1, found.2, found.3, bad_is (target found.1) found.4)
    by false e = inr (λ found. clash (list_any-from_Any (λ x. is_bad (target x)) xs
        (found.0, found.1, found.2, found.3, is_so (target found.1) found.4)))
      where
        clash : list_any (λ x. is_bad (target x)) xs ≡ true → ⊥
        clash some = absurd (let s = some in let n = e in cc)
