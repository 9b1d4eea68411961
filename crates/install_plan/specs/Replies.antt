-- The replies that faults come to.
use Rattle.std.specs.Prelude.{◌≡◌}
use Rattle.addresses.specs.declared.fault.UrlFault.{UrlFault}
use Rattle.addresses.specs.declared.fault.UrlFault.TheVariants as no_address
use Rattle.manifest_parts.specs.declared.fault.ManifestFault.{ManifestFault}
use Rattle.manifest_parts.specs.declared.fault.ManifestFault.TheVariants as fault
use Rattle.machine.specs.declared.reply.Reply.{Reply}
use Rattle.machine.specs.declared.reply.Reply.TheVariants as says
use Rattle.fetcher.specs.declared.fault.FetchFault.{FetchFault}
use Rattle.fetcher.specs.declared.fault.FetchFault.TheVariants as fetch

abbrev pub url_reply : UrlFault → Reply
url_reply no_address.BadUrl = says.BadUrl
url_reply (no_address.NotHttp scheme) = says.NotHttp
url_reply no_address.Memory = says.Memory

abbrev pub manifest_reply : ManifestFault → Reply
manifest_reply fault.Memory = says.Memory
manifest_reply reason = says.Manifest reason

-- a basket that failed has no reply
abbrev pub IsFetchReply : FetchFault → Reply → Type 0
IsFetchReply (fetch.AllLinks target causes) reply = reply ≡ says.AllLinks target causes
IsFetchReply fetch.BasketFault reply = ⊥
IsFetchReply fetch.Memory reply = reply ≡ says.Memory
