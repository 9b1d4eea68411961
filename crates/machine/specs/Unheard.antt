-- A target that no link gives: the reply names it, and why each link did not serve.
use Rattle.std.specs.Prelude.{◌≡◌, List}
use Rattle.small_types.specs.declared.target.Target.{Target}
use Rattle.causes.specs.declared.cause.Cause.{Cause}
use Rattle.machine.specs.declared.reply.Reply.{Reply}
use Rattle.machine.specs.declared.reply.Reply.TheVariants as says
use Rattle.machine.specs.Rows.{Refusal}
use Rattle.machine.specs.Store.{Session}

-- a target of which it holds was not heard: given exactly where there is one, for any causes; it
-- changes nothing
abbrev pub unheard : (Target → Type 0) → Refusal Reply Session
unheard when = record {
  gives = λ reply.
      (target : Target) × (causes : List Cause) × when target
      × (reply ≡ says.AllLinks target causes);
  otherwise = (target : Target) → when target → ⊥;
  leaves = λ session. session;
}

-- the same as a free choice
abbrev pub may_be_unheard : (Target → Type 0) → Refusal Reply Session
may_be_unheard when = record (unheard when) { otherwise = Unit {0} }
