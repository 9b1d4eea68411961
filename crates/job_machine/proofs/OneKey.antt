-- Keys and versions of which it is refuted that they differ.
use Rattle.std.proofs.Common.{◌≡◌, ◌≢◌, ◌∙◌, ◌⊎◌, ◌<◌, ◌≤◌, inl, inr, refl, sym, ap, ℕ, Bool, true, false, List, bytes_eq, arith}
use Rattle.std.proofs.lemmas.Bool.{cases_lt}
use Rattle.std.proofs.lemmas.Slice.Eq.{bytes_eq-Decides}
use Rattle.identity.specs.declared.key.Key.{Key}
use Rattle.identity.specs.declared.version.Version.{Version}

pub not_less : (a b : ℕ) → ¬ (a < b) → b ≤ a
not_less a b not = by (cases_lt a b)
  where
    by : (a < b) ⊎ (b ≤ a) → b ≤ a
    by (inl less) = absurd (not less)
    by (inr le) = le

pub less_than : (a b : ℕ) → ¬ (b ≤ a) → a < b
less_than a b not = by (cases_lt a b)
  where
    by : (a < b) ⊎ (b ≤ a) → a < b
    by (inl less) = less
    by (inr le) = absurd (not le)

same_bytes : (a b : List ℕ) → ¬ (a ≢ b) → a ≡ b
same_bytes a b not = by (bytes_eq a b) refl
  where
    by : (t : Bool) → bytes_eq a b ≡ t → a ≡ b
    by true e = (bytes_eq-Decides a b).0 e
    by false e = absurd (not (λ same. apart (sym ((bytes_eq-Decides a b).1 same) ∙ e)))
      where
        apart : true ≡ false → ⊥
        apart h = cc

pub same_key : (a b : Key) → ¬ (a ≢ b) → a ≡ b
same_key a b not =
    let part = λ (get : Key → List ℕ). same_bytes (get a) (get b) (λ differ. not (λ same. differ (ap get same))) in
    ap (λ (x : List ℕ). record a { name = x }) (part (λ (k : Key). k.name))
    ∙ ap (λ (x : List ℕ). record a { name = b.name; token = x }) (part (λ (k : Key). k.token))
    ∙ ap (λ (x : List ℕ). record b { language = x; architecture = a.architecture }) (part (λ (k : Key). k.language))
    ∙ ap (λ (x : List ℕ). record b { architecture = x }) (part (λ (k : Key). k.architecture))

same_number : (a b : ℕ) → ¬ (a ≢ b) → a ≡ b
same_number a b not = omega (arith, not_less a b (λ lt. not (λ e. omega (arith, lt, e))), not_less b a (λ lt. not (λ e. omega (arith, lt, e))))

pub same_version : (a b : Version) → ¬ (a ≢ b) → a ≡ b
same_version a b not =
    let part = λ (get : Version → ℕ). same_number (get a) (get b) (λ differ. not (λ same. differ (ap get same))) in
    ap (λ (x : ℕ). record a { a = x }) (part (λ (v : Version). v.a))
    ∙ ap (λ (x : ℕ). record a { a = b.a; b = x }) (part (λ (v : Version). v.b))
    ∙ ap (λ (x : ℕ). record b { c = x; d = a.d }) (part (λ (v : Version). v.c))
    ∙ ap (λ (x : ℕ). record b { d = x }) (part (λ (v : Version). v.d))
