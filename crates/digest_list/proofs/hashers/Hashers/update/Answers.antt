use Rattle.digest_list.proofs.HasherLemmas.{has_hasher-same}
use Rattle.digest_list.proofs.hashers.Hashers.update.Goals as goal

pub returns : goal.returns
returns c list m hold = record {
  listed = λ a is. has_hasher-same _ _ c.feed.ensures.present c.feed-2.ensures.present c.feed-3.ensures.present c.feed-4.ensures.present a (hold.listed a is);
  sha1 = c.feed.ensures.fed m hold.sha1;
  sha256 = c.feed-2.ensures.fed m hold.sha256;
  sha384 = c.feed-3.ensures.fed m hold.sha384;
  sha512 = c.feed-4.ensures.fed m hold.sha512;
}
