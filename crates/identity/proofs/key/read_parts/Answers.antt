use Rattle.std.proofs.Common.{◌≡◌, ℕ, Result, Err, sym, ap, subst, ◌∙◌, IsUtf8}
use Rattle.std.proofs.lemmas.Result.{err_from_is_err_and}
use Rattle.identity.specs.declared.key.Key.{Key}
use Rattle.identity.specs.declared.key.KeyFault.{KeyFault}
use Rattle.identity.specs.declared.key.KeyFault.TheVariants.{BadPart, Memory}
use Rattle.identity.proofs.key.read_parts.Goals as goal

-- a bad part is no want of memory
never : (r : Result Key KeyFault) (e : KeyFault) (part : ℕ) → r ≡ Err e → e ≡ BadPart part → r ≡ Err Memory → ⊥
never r e part is bad memory = cc

pub returns-in_err-name-clause-memory : goal.returns-in_err-name-clause-memory
returns-in_err-name-clause-memory c =
    let p = err_from_is_err_and c.from_residual.result c.from_residual.ensures.1 in
    λ memory. absurd (never _ _ 1 (p.1 ∙ ap Err p.2) c.in_err-name.ensures.bad memory)

pub returns-in_err-token-clause-memory : goal.returns-in_err-token-clause-memory
returns-in_err-token-clause-memory c =
    let p = err_from_is_err_and c.from_residual-in_err-token.result c.from_residual-in_err-token.ensures.1 in
    λ memory. absurd (never _ _ 2 (p.1 ∙ ap Err p.2) c.in_err-token.ensures.bad memory)

pub returns-in_err-language-clause-memory : goal.returns-in_err-language-clause-memory
returns-in_err-language-clause-memory c =
    let p = err_from_is_err_and c.from_residual-in_err-language.result c.from_residual-in_err-language.ensures.1 in
    λ memory. absurd (never _ _ 3 (p.1 ∙ ap Err p.2) c.in_err-language.ensures.bad memory)

pub returns-in_err-architecture-clause-memory : goal.returns-in_err-architecture-clause-memory
returns-in_err-architecture-clause-memory c =
    let p = err_from_is_err_and c.from_residual-in_err-architecture.result c.from_residual-in_err-architecture.ensures.1 in
    λ memory. absurd (never _ _ 4 (p.1 ∙ ap Err p.2) c.in_err-architecture.ensures.bad memory)

pub text_of-requires : goal.text_of-requires
text_of-requires c = subst IsUtf8 (sym c.deref.ensures.0) c.in_ok-name.ensures.utf8

pub text_of-requires-2 : goal.text_of-requires-2
text_of-requires-2 c = subst IsUtf8 (sym c.deref-2.ensures.0) c.in_ok-token.ensures.utf8

pub text_of-requires-3 : goal.text_of-requires-3
text_of-requires-3 c = subst IsUtf8 (sym c.deref-3.ensures.0) c.in_ok-language.ensures.utf8

pub text_of-requires-4 : goal.text_of-requires-4
text_of-requires-4 c = subst IsUtf8 (sym c.deref-4.ensures.0) c.in_ok-architecture.ensures.utf8
