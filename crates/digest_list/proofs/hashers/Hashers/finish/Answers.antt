use Rattle.digest_list.proofs.HasherLemmas.{sum_of-is}
use Rattle.digest_list.proofs.hashers.Hashers.finish.Goals as goal

pub returns : goal.returns
returns c list m hold = record {
  sums = λ a is. sum_of-is c.args.self _ m c.sum.ensures.present c.sum-2.ensures.present c.sum-3.ensures.present c.sum-4.ensures.present
      (c.sum.ensures.value m hold.sha1) (c.sum-2.ensures.value m hold.sha256) (c.sum-3.ensures.value m hold.sha384) (c.sum-4.ensures.value m hold.sha512)
      a (hold.listed a is);
}
