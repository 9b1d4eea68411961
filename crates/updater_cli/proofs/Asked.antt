-- The words ask for one thing.
use Rattle.std.proofs.Common.{◌≡◌, ℕ, Option, Some, sym, ◌∙◌, subst}
use Rattle.small_types.specs.declared.room.Room.{Room}
use Rattle.inspection.specs.declared.manifest.Kind.{Kind}
use Rattle.publish_plan.specs.declared.options.Options.{Options}
use Rattle.updater_cli.specs.declared.words.Request.{Request}
use Rattle.updater_cli.specs.declared.words.Request.TheVariants.{Demo, Format, Session, Inspect, Publish}

module _ (asked : Option Request) where
  pub for_session : (P : ℕ → ℕ → Type 0) (b n : ℕ) → asked ≡ Some (Session b n) → P b n → (boot now : ℕ) → asked ≡ Some (Session boot now) → P boot now
  for_session P b n is holds boot now other =
      let both : Some (Session b n) ≡ Some (Session boot now) = sym is ∙ other in
      let same_boot : b ≡ boot = cc (both) in
      let same_now : n ≡ now = cc (both) in
      subst (λ (m : ℕ). P boot m) same_now (subst (λ (m : ℕ). P m n) same_boot holds)

  pub for_format : (P : Room → Type 0) (r : Room) → asked ≡ Some (Format r) → P r → (room : Room) → asked ≡ Some (Format room) → P room
  for_format P r is holds room other =
      let both : Some (Format r) ≡ Some (Format room) = sym is ∙ other in
      let same : r ≡ room = cc (both) in
      subst P same holds

  pub for_inspect : (P : Kind → Type 0) (k : Kind) → asked ≡ Some (Inspect k) → P k → (kind : Kind) → asked ≡ Some (Inspect kind) → P kind
  for_inspect P k is holds kind other =
      let both : Some (Inspect k) ≡ Some (Inspect kind) = sym is ∙ other in
      let same : k ≡ kind = cc (both) in
      subst P same holds

  pub for_demo : (P : ℕ → Type 0) (s : ℕ) → asked ≡ Some (Demo s) → P s → (seed : ℕ) → asked ≡ Some (Demo seed) → P seed
  for_demo P s is holds seed other =
      let both : Some (Demo s) ≡ Some (Demo seed) = sym is ∙ other in
      let same : s ≡ seed = cc (both) in
      subst P same holds

  pub for_publish : (P : Options → Type 0) (o : Options) → asked ≡ Some (Publish o) → P o → (options : Options) → asked ≡ Some (Publish options) → P options
  for_publish P o is holds options other =
      let both : Some (Publish o) ≡ Some (Publish options) = sym is ∙ other in
      let same : o ≡ options = cc (both) in
      subst P same holds
