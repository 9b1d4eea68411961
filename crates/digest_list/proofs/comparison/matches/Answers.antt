use Rattle.std.proofs.Common.{◌≡◌, ◌≢◌, ◌∙◌, sym, length, [], arith}
use Rattle.digest_list.proofs.MatchLemmas.{Matches-decided, nonempty, told_none}
use Rattle.digest_list.proofs.comparison.matches.Goals as goal

pub returns : goal.returns
returns c =
    let digests = c.as_slice-digests.result.now in
    let value : digests ≡ c.args.list.now = c.as_slice-digests.ensures.value in
    let some : digests ≢ [] = rw value (nonempty c.args.list.now c.as_slice-digests.ensures.count.some) in
    let sized : length c.args.bytes.now ≡ c.args.size = omega arith in
    let have = c.finish.ensures digests c.args.bytes.now (c.update.ensures digests [] c.new-hashers.ensures) in
    let decided = Matches-decided c.finish.result digests c.args.size c.args.bytes.now have sized some in
    let told = told_none c.first_wrong.result c.is_none.result c.is_none.ensures in
    rw (← value) (λ none. decided.0 (sym c.first_wrong.ensures ∙ told.0 none), λ is. told.1 (c.first_wrong.ensures ∙ decided.1 is))
