-- The known algorithms (FIPS 180-4), their names on lines, and their URIs in XML signatures.
use Rattle.std.specs.Prelude.{ℕ, List, codes, if◌then◌else◌, Option, Some, None}
use Rattle.std.specs.Str.{bytes_eq}
use Rattle.digest_list.specs.declared.algorithm.Algorithm.{Algorithm}
use Rattle.digest_list.specs.declared.algorithm.Algorithm.TheVariants.{Sha1, Sha256, Sha384, Sha512}

-- the length of a digest in bytes
abbrev pub size_of : Algorithm → ℕ
size_of Sha1 = 20
size_of Sha256 = 32
size_of Sha384 = 48
size_of Sha512 = 64

abbrev pub name_of : Algorithm → List ℕ
name_of Sha1 = codes "sha1"
name_of Sha256 = codes "sha256"
name_of Sha384 = codes "sha384"
name_of Sha512 = codes "sha512"

-- the name that is written
unfoldable pub uri_of : Algorithm → List ℕ
uri_of Sha1 = codes "http://www.w3.org/2000/09/xmldsig#sha1"
uri_of Sha256 = codes "http://www.w3.org/2000/09/xmldsig#sha256"
uri_of Sha384 = codes "http://www.w3.org/2001/04/xmldsig-more#sha384"
uri_of Sha512 = codes "http://www.w3.org/2001/04/xmlenc#sha512"

-- the second name of SHA-256, which is read too
unfoldable pub sha256_other_uri : List ℕ
sha256_other_uri = codes "http://www.w3.org/2001/04/xmlenc#sha256"

-- the algorithm of a name
unfoldable pub algorithm_of : List ℕ → Option Algorithm
algorithm_of uri =
    if bytes_eq uri (uri_of Sha1) then Some Sha1
    else if bytes_eq uri (uri_of Sha256) then Some Sha256
    else if bytes_eq uri sha256_other_uri then Some Sha256
    else if bytes_eq uri (uri_of Sha384) then Some Sha384
    else if bytes_eq uri (uri_of Sha512) then Some Sha512
    else None
