-- Replies that several rows give, none of which is want of memory.
use Rattle.std.proofs.Common.{◌≢◌, ℕ, List}
use Rattle.small_types.specs.declared.target.Target.{Target}
use Rattle.causes.specs.declared.cause.Cause.{Cause}
use Rattle.identity.specs.declared.version.Version.{Version}
use Rattle.machine.specs.declared.reply.Reply.TheVariants as says

pub not_installed_is_other : says.NotInstalled ≢ says.Memory
not_installed_is_other e = cc

pub no_lease_is_other : says.NoLease ≢ says.Memory
no_lease_is_other e = cc

pub no_file_is_other : says.NoFile ≢ says.Memory
no_file_is_other e = cc

pub bad_url_is_other : says.BadUrl ≢ says.Memory
bad_url_is_other e = cc

pub required_is_other : (minimum : Version) → says.Required minimum ≢ says.Memory
required_is_other minimum e = cc

pub full_is_other : (need free : ℕ) → says.Full need free ≢ says.Memory
full_is_other need free e = cc

pub table_full_is_other : (weight room : ℕ) → says.TableFull weight room ≢ says.Memory
table_full_is_other weight room e = cc

pub all_links_is_other : (target : Target) (causes : List Cause)
    → says.AllLinks target causes ≢ says.Memory
all_links_is_other target causes e = cc

pub read_is_other : (length : ℕ) (bytes : List ℕ) → says.Read length bytes ≢ says.Memory
read_is_other length bytes e = cc
