-- How texts, keys and versions are spelled as bytes. Numbers are big-endian.
use Rattle.std.specs.Prelude.{List, ℕ, ◌++◌, length}
use Rattle.std.specs.Int.{to_be_bytes, w16, w32}
use Rattle.identity.specs.declared.version.Version.{Version}
use Rattle.identity.specs.declared.key.Key.{Key}

-- a text, or bytes: the length and the bytes
unfoldable pub text_field : List ℕ → List ℕ
text_field text = to_be_bytes w32 (length text) ++ text

unfoldable pub key_field : Key → List ℕ
key_field key =
    text_field key.name
    ++ (text_field key.token ++ (text_field key.language ++ text_field key.architecture))

unfoldable pub version_field : Version → List ℕ
version_field v =
    to_be_bytes w16 v.a ++ (to_be_bytes w16 v.b ++ (to_be_bytes w16 v.c ++ to_be_bytes w16 v.d))
