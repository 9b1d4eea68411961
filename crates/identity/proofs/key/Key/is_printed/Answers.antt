use Rattle.std.proofs.Common.{◌≡◌, is_eq, sym, ap, ◌∙◌}
use Rattle.std.specs.Str.{bytes_eq}
use Rattle.std.proofs.lemmas.Map.Text.{is_eq-slice_cmp}
use Rattle.std.proofs.lemmas.Slice.Eq.{bytes_eq-Decides}
use Rattle.identity.specs.Key.{key_text}
use Rattle.identity.proofs.key.Key.is_printed.Goals as goal

pub returns : goal.returns
returns c =
    let text = key_text c.args.self.now in
    let told : c.is_eq.result ≡ bytes_eq text c.args.text.now = c.is_eq.ensures ∙ ap is_eq c.cmp_printed.ensures ∙ is_eq-slice_cmp text c.args.text.now in
    let both = bytes_eq-Decides text c.args.text.now in
    (λ is. both.0 (sym told ∙ is), λ same. told ∙ both.1 same)
