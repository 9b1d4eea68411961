-- What holds of options that are not refused.
use Rattle.std.proofs.Common.{◌≡◌, ℕ, ◌≤◌, Bool, true, false, not, nat_lt, List, length, codes, Option, Some, None, refl, sym, ap, ◌∙◌, inl, inr, if◌then◌else◌, cond}
use Rattle.std.proofs.lemmas.Bool.{cases_Bool, cond-true, cond-false, ltb-false, not-false, not-true}
use Rattle.publish_plan.specs.declared.fault.PlanFault.{PlanFault}
use Rattle.publish_plan.specs.declared.fault.PlanFault.TheVariants.{BadName}
use Rattle.publish_plan.specs.declared.options.Options.{Options}
use Rattle.publish_plan.specs.Early.{early_of, overlap, above}
use Rattle.publish_plan.specs.Places.{is_plain_name, manifest_name}

pub record AreFit (o : Options) : Type 0 where
  pub name : is_plain_name o.name ≡ true
  pub entry : is_plain_name o.entry ≡ true
  pub apart : overlap o.from o.to ≡ false
  pub short : length (manifest_name o) ≤ 240
  pub minimum : above o.version o.minimum ≡ None

-- a refusal that does not come is passed over
passed : (b : Bool) (e : PlanFault) (rest : Option PlanFault) → (if b then Some e else rest) ≡ None → (b ≡ false) × (rest ≡ None)
passed true e rest is = absurd cc
passed false e rest is = (refl, is)

pub options_fit : (o : Options) → early_of o ≡ None → AreFit o
unfolding early_of
options_fit o is =
    let name = passed (not (is_plain_name o.name)) (BadName (codes "name")) _ is in
    let entry = passed (not (is_plain_name o.entry)) (BadName (codes "entry")) _ name.1 in
    let apart = passed (overlap o.from o.to) (BadName (codes "to")) _ entry.1 in
    let short = passed (nat_lt 240 (length (manifest_name o))) (BadName (codes "entry")) _ apart.1 in
    record {
      name = not-false (is_plain_name o.name) name.0;
      entry = not-false (is_plain_name o.entry) entry.0;
      apart = apart.0;
      short = ltb-false 240 (length (manifest_name o)) short.0;
      minimum = short.1;
    }

-- ---- the steps of the refusals

module _ (o : Options) where
  abbrev late : Bool → Option PlanFault
  late long = if long then Some (BadName (codes "entry")) else above o.version o.minimum

  abbrev folders : Bool → Option PlanFault
  folders overlapping = if overlapping then Some (BadName (codes "to")) else late (nat_lt 240 (length (manifest_name o)))

  abbrev words : Bool → Option PlanFault
  words unfit = if unfit then Some (BadName (codes "entry")) else folders (overlap o.from o.to)

  abbrev all : Bool → Option PlanFault
  all unfit = if unfit then Some (BadName (codes "name")) else words (not (is_plain_name o.entry))

  early_is : early_of o ≡ all (not (is_plain_name o.name))
  unfolding early_of
  early_is = refl

  pub name_first : not (is_plain_name o.name) ≡ true → early_of o ≡ Some (BadName (codes "name"))
  name_first h = early_is ∙ ap all h

  module _ (name : not (is_plain_name o.name) ≡ false) where
    pub entry_next : not (is_plain_name o.entry) ≡ true → early_of o ≡ Some (BadName (codes "entry"))
    entry_next h = early_is ∙ ap all name ∙ ap words h

    module _ (entry : not (is_plain_name o.entry) ≡ false) where
      pub folders_next : overlap o.from o.to ≡ true → early_of o ≡ Some (BadName (codes "to"))
      folders_next h = early_is ∙ ap all name ∙ ap words entry ∙ ap folders h

      module _ (apart : overlap o.from o.to ≡ false) where
        pub long_next : nat_lt 240 (length (manifest_name o)) ≡ true → early_of o ≡ Some (BadName (codes "entry"))
        long_next h = early_is ∙ ap all name ∙ ap words entry ∙ ap folders apart ∙ ap late h

        pub minimum_last : nat_lt 240 (length (manifest_name o)) ≡ false → early_of o ≡ above o.version o.minimum
        minimum_last h = early_is ∙ ap all name ∙ ap words entry ∙ ap folders apart ∙ ap late h
