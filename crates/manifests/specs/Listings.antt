-- What the reader's own types stand for.
use Rattle.std.specs.Prelude.{Option, option_map}
use Rattle.manifest_tree.specs.Tree.{tree_of}
use Rattle.manifest_parts.specs.Outcome.{maybe_text}
use Rattle.manifests.specs.declared.listing.Listing as reader
use Rattle.manifests.specs.declared.application.EntryPoint as reader_start
use Rattle.manifests.specs.Applications.{Listing, EntryPoint}

abbrev pub listed : reader.Listing → Listing
listed l = record {
  what = l.what.now;
  name = maybe_text l.name;
  size = maybe_text l.size;
  hashed = tree_of l.hashed.now;
  optional = maybe_text l.optional;
  group = maybe_text l.group;
  is_local = l.local;
}

abbrev pub maybe_listing : Option reader.Listing → Option Listing
maybe_listing = option_map listed

abbrev pub start_of : reader_start.EntryPoint → EntryPoint
start_of s = record { entry = s.entry; parameters = s.parameters }
