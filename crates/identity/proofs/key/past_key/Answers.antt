use Rattle.std.proofs.Common.{◌∷◌, ◌++◌, List, ℕ, Err, ap, ◌∙◌}
use Rattle.std.proofs.lemmas.Result.{err_from_is_err_and}
use Rattle.identity.specs.declared.key.Key.{Key}
use Rattle.identity.specs.Key.{comma, part_text}
use Rattle.identity.proofs.PrintedLemmas.{decides_front, decides_behind, follows_err, follows_behind, key_text-parts}
use Rattle.identity.proofs.key.past_key.Goals as goal

-- a comma and a part
abbrev next : List ℕ → List ℕ
next part = comma ∷ part_text part

abbrev last_two : Key → List ℕ
last_two key = next key.language ++ next key.architecture

pub returns-in_err-rest : goal.returns-in_err-rest
returns-in_err-rest c =
    let key = c.args.key.now in
    let p = err_from_is_err_and c.from_residual.result c.from_residual.ensures.1 in
    rw (key_text-parts key)
    (follows_err _ c.args.text.now c.from_residual.result c.in_err-rest.field-0.0 (p.1 ∙ ap Err p.2)
    (decides_front (part_text key.name) (next key.token ++ last_two key) c.args.text.now c.in_err-rest.field-0.0 c.in_err-rest.ensures))

pub returns-in_err-rest-2 : goal.returns-in_err-rest-2
returns-in_err-rest-2 c =
    let key = c.args.key.now in
    let p = err_from_is_err_and c.from_residual-in_err-rest-2.result c.from_residual-in_err-rest-2.ensures.1 in
    let order = c.in_err-rest-2.field-0.0 in
    rw (key_text-parts key)
    (follows_err _ c.args.text.now c.from_residual-in_err-rest-2.result order (p.1 ∙ ap Err p.2)
    (decides_behind (part_text key.name) (next key.token ++ last_two key) c.args.text.now c.in_ok-rest.rest.now order c.in_ok-rest.ensures
    (decides_front (next key.token) (last_two key) c.in_ok-rest.rest.now order c.in_err-rest-2.ensures)))

pub returns-in_err-rest-3 : goal.returns-in_err-rest-3
returns-in_err-rest-3 c =
    let key = c.args.key.now in
    let p = err_from_is_err_and c.from_residual-in_err-rest-3.result c.from_residual-in_err-rest-3.ensures.1 in
    let order = c.in_err-rest-3.field-0.0 in
    rw (key_text-parts key)
    (follows_err _ c.args.text.now c.from_residual-in_err-rest-3.result order (p.1 ∙ ap Err p.2)
    (decides_behind (part_text key.name) (next key.token ++ last_two key) c.args.text.now c.in_ok-rest.rest.now order c.in_ok-rest.ensures
    (decides_behind (next key.token) (last_two key) c.in_ok-rest.rest.now c.in_ok-rest-2.rest.now order c.in_ok-rest-2.ensures
    (decides_front (next key.language) (next key.architecture) c.in_ok-rest-2.rest.now order c.in_err-rest-3.ensures))))

pub returns : goal.returns
returns c =
    let key = c.args.key.now in
    rw (key_text-parts key)
    (follows_behind (part_text key.name) (next key.token ++ last_two key) c.args.text.now c.in_ok-rest.rest.now c.past_next-3.result c.in_ok-rest.ensures
    (follows_behind (next key.token) (last_two key) c.in_ok-rest.rest.now c.in_ok-rest-2.rest.now c.past_next-3.result c.in_ok-rest-2.ensures
    (follows_behind (next key.language) (next key.architecture) c.in_ok-rest-2.rest.now c.in_ok-rest-3.rest.now c.past_next-3.result c.in_ok-rest-3.ensures c.past_next-3.ensures)))
