use Rattle.std.proofs.Common.{◌≡◌, IsUtf8, subst}
use Rattle.http_plain.proofs.RequestTexts.{method_is_text, target_is_text}
use Rattle.http_plain.proofs.request.read_request.Goals as goal

pub copy_text-requires : goal.copy_text-requires
copy_text-requires c =
    let same : c.in-Some.asked.method ≡ c.asked.inside.method.now = cc in
    subst IsUtf8 same (method_is_text c.args.bytes.now c.in-Some.asked c.in-Some.ensures)

pub copy_text-requires-2 : goal.copy_text-requires-2
copy_text-requires-2 c =
    let same : c.in-Some.asked.target ≡ c.asked.inside.target.now = cc in
    subst IsUtf8 same (target_is_text c.args.bytes.now c.in-Some.asked c.in-Some.ensures)
