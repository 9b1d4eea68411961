-- Names of old data files, and those that are kept aside.
use Rattle.std.proofs.Common.{◌≡◌, ◌∙◌, ◌≤◌, refl, sym, ap, subst, ℕ, Bool, true, false, not, List, length, Ok, Err, Result}
use Rattle.small_types.specs.declared.limits.TheConstants.{LOCAL_NAME_LIMIT}
use Rattle.small_types.specs.declared.name.NameFault.{NameFault}
use Rattle.small_types.specs.declared.name.NameFault.TheVariants.{Bad}
use Rattle.small_types.specs.Name.{IsBelowPre, IsName, is_memory, name_of}
use Rattle.small_types.specs.Outcome.{FailsBut}
use Rattle.small_types.proofs.Spelled.{read_again}
use Rattle.manifests.specs.Applications.{is_below_pre}
use Rattle.machine.specs.Migrated.{aside}
use Rattle.machine.proofs.Names.{aside_is_name, test_outside}

same_Ok : (a b : List ℕ) → ◌≡◌ {A = Result (List ℕ) NameFault} (Ok a) (Ok b) → a ≡ b
same_Ok a b e = cc

pub read_aside : (name bytes other : List ℕ) → IsName name → length name ≤ LOCAL_NAME_LIMIT
    → bytes ≡ aside name → name_of bytes ≡ Ok other → other ≡ aside name
read_aside name bytes other is short made read =
    same_Ok other (aside name)
    (sym read ∙ ap name_of made ∙ read_again (aside name) (aside_is_name name is short))

pub aside_is_read : (name bytes : List ℕ) (e : NameFault) → IsName name
    → length name ≤ LOCAL_NAME_LIMIT → bytes ≡ aside name → FailsBut is_memory e (name_of bytes)
    → e ≡ Bad → ⊥
aside_is_read name bytes e is short made fails bad =
    let refused : name_of bytes ≡ Err Bad =
    subst (λ (f : NameFault). FailsBut is_memory f (name_of bytes)) bad fails in
    let read : name_of bytes ≡ Ok (aside name) =
    ap name_of made ∙ read_again (aside name) (aside_is_name name is short) in
    cc

-- a name that passes the test is outside `.pre`
pub outside_from : (name : List ℕ) → not (is_below_pre name) ≡ true → ¬ IsBelowPre name
outside_from name passes = test_outside name (negated (is_below_pre name) passes)
  where
    negated : (b : Bool) → not b ≡ true → b ≡ false
    negated true e = absurd (let e = e in cc)
    negated false e = refl
