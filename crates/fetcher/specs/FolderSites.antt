-- What a link to a folder shows.
use Rattle.std.specs.Prelude.{ℕ, List, drop}
use Rattle.folders.specs.declared.folder.Held.{Held}
use Rattle.fetcher.specs.declared.folder_link.FolderLink.{FolderLink}
use Rattle.http_plain.specs.Sites.{served}
use Rattle.links.specs.declared.history.LinkCall.{LinkCall}
use Rattle.links.specs.History.{calls_of}
use Rattle.links.specs.Link.{LinkState}
use Rattle.outside.specs.Streams.{total}

-- what is left of the body that was asked for last
abbrev pub folder_rest : {F : Type 0} → FolderLink F → List ℕ
folder_rest link = drop link.at link.body

-- how many targets were missing, or had a file that is too long
abbrev pub folder_unread : {F : Type 0} → FolderLink F → ℕ
folder_unread link = link.unread

-- what it was asked
abbrev pub folder_history : {F : Type 0} → FolderLink F → List LinkCall
folder_history link = calls_of link.history

-- the link, by whether its folder tells, what stands in it and how often it failed
abbrev pub folder_state : {F : Type 0} → Type 0 → List Held → ℕ → FolderLink F → LinkState
folder_state tells files count link =
    record {
      tells = tells;
      site = served files;
      rest = folder_rest link;
      count = total count (folder_unread link);
      history = folder_history link;
    }
