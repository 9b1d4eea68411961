-- What words whose first one is `publish` ask for.
use Rattle.std.proofs.Common.{◌≡◌, ◌⊎◌, ℕ, List, Bool, true, false, drop, Option, Some, None, inl, inr, sym, ◌∙◌, ap, if◌then◌else◌}
use Rattle.small_types.specs.declared.room.Room.{Room}
use Rattle.inspection.specs.declared.manifest.Kind.{Kind}
use Rattle.publish_plan.specs.declared.options.Options.{Options}
use Rattle.publication.specs.Words.{options_of}
use Rattle.updater_cli.specs.declared.words.Request.{Request}
use Rattle.updater_cli.specs.declared.words.Request.TheVariants.{Demo, Format, Session, Inspect}
use Rattle.updater_cli.specs.Words.{IsUntaken, is_publish, other_of, publish_of, request_of}

-- a publish, or nothing
by_options : (words : List (List ℕ)) → is_publish words ≡ true → request_of words ≡ publish_of (options_of (drop 1 words))
by_options words is = ap (λ (b : Bool). if b then publish_of (options_of (drop 1 words)) else other_of words) is

session : (o : Option Options) (boot now : ℕ) → publish_of o ≡ Some (Session boot now) → ⊥
session None boot now is = absurd (cc (is))
session (Some options) boot now is = absurd (cc (is))

format : (o : Option Options) (room : Room) → publish_of o ≡ Some (Format room) → ⊥
format None room is = absurd (cc (is))
format (Some options) room is = absurd (cc (is))

inspect : (o : Option Options) (kind : Kind) → publish_of o ≡ Some (Inspect kind) → ⊥
inspect None kind is = absurd (cc (is))
inspect (Some options) kind is = absurd (cc (is))

demo : (o : Option Options) (seed : ℕ) → publish_of o ≡ Some (Demo seed) → ⊥
demo None seed is = absurd (cc (is))
demo (Some options) seed is = absurd (cc (is))

nothing : (r : Request) → None ≡ Some r → ⊥
nothing r is = absurd (cc (is))

both : (b : Bool) → b ≡ true → b ≡ false → ⊥
both b is other = absurd (cc (sym is ∙ other))

-- nothing but a publish is asked for
module _ (words : List (List ℕ)) (is : is_publish words ≡ true) where
  pub no_session : (boot now : ℕ) → request_of words ≡ Some (Session boot now) → ⊥
  no_session boot now asked = session (options_of (drop 1 words)) boot now (sym (by_options words is) ∙ asked)

  pub no_format : (room : Room) → request_of words ≡ Some (Format room) → ⊥
  no_format room asked = format (options_of (drop 1 words)) room (sym (by_options words is) ∙ asked)

  pub no_inspect : (kind : Kind) → request_of words ≡ Some (Inspect kind) → ⊥
  no_inspect kind asked = inspect (options_of (drop 1 words)) kind (sym (by_options words is) ∙ asked)

  pub no_demo : (seed : ℕ) → request_of words ≡ Some (Demo seed) → ⊥
  no_demo seed asked = demo (options_of (drop 1 words)) seed (sym (by_options words is) ∙ asked)

  pub no_others : is_publish words ≡ false → ⊥
  no_others other = both (is_publish words) is other

-- nor where the words are refused
pub refused_session : (words : List (List ℕ)) → (request_of words ≡ None) ⊎ IsUntaken words → (boot now : ℕ) → request_of words ≡ Some (Session boot now) → ⊥
refused_session words (inl none) boot now asked = nothing (Session boot now) (sym none ∙ asked)
refused_session words (inr untaken) boot now asked = no_session words untaken.0 boot now asked

pub refused_format : (words : List (List ℕ)) → (request_of words ≡ None) ⊎ IsUntaken words → (room : Room) → request_of words ≡ Some (Format room) → ⊥
refused_format words (inl none) room asked = nothing (Format room) (sym none ∙ asked)
refused_format words (inr untaken) room asked = no_format words untaken.0 room asked

pub refused_inspect : (words : List (List ℕ)) → (request_of words ≡ None) ⊎ IsUntaken words → (kind : Kind) → request_of words ≡ Some (Inspect kind) → ⊥
refused_inspect words (inl none) kind asked = nothing (Inspect kind) (sym none ∙ asked)
refused_inspect words (inr untaken) kind asked = no_inspect words untaken.0 kind asked

pub refused_demo : (words : List (List ℕ)) → (request_of words ≡ None) ⊎ IsUntaken words → (seed : ℕ) → request_of words ≡ Some (Demo seed) → ⊥
refused_demo words (inl none) seed asked = nothing (Demo seed) (sym none ∙ asked)
refused_demo words (inr untaken) seed asked = no_demo words untaken.0 seed asked

-- other words that are refused ask for nothing
pub refused_others : (words : List (List ℕ)) → (request_of words ≡ None) ⊎ IsUntaken words → is_publish words ≡ false → request_of words ≡ None
refused_others words (inl none) other = none
refused_others words (inr untaken) other = absurd (no_others words untaken.0 other)
