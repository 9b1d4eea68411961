use Rattle.std.proofs.Common.{refl}
use Rattle.digest_list.specs.Algorithm.{algorithm_of, sha256_other_uri, uri_of}
use Rattle.digest_list.proofs.algorithm.Algorithm.uri.Goals as goal

pub returns-in-Sha1-clause-again : goal.returns-in-Sha1-clause-again
unfolding algorithm_of uri_of sha256_other_uri
returns-in-Sha1-clause-again c = rw c.in-Sha1.is refl

pub returns-in-Sha256-clause-again : goal.returns-in-Sha256-clause-again
unfolding algorithm_of uri_of sha256_other_uri
returns-in-Sha256-clause-again c = rw c.in-Sha256.is refl

pub returns-in-Sha384-clause-again : goal.returns-in-Sha384-clause-again
unfolding algorithm_of uri_of sha256_other_uri
returns-in-Sha384-clause-again c = rw c.in-Sha384.is refl

pub returns-in-Sha512-clause-again : goal.returns-in-Sha512-clause-again
unfolding algorithm_of uri_of sha256_other_uri
returns-in-Sha512-clause-again c = rw c.in-Sha512.is refl
