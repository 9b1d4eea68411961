-- What a link in memory shows, and which of its calls fail.
use Rattle.std.specs.Prelude.{◌≡◌, ◌≢◌, ℕ, ◌+◌, List, [], Bool, false, min, drop, Result, Err, IsTrue}
use Rattle.outside.specs.FailingCalls.{fails_next}
use Rattle.links.specs.declared.history.LinkCall.{LinkCall}
use Rattle.links.specs.declared.link.LinkFault.{LinkFault}
use Rattle.links.specs.declared.link.LinkFault.TheVariants.{Down}
use Rattle.links.specs.declared.mem_link.MemLink.{MemLink}
use Rattle.links.specs.declared.mem_link.Page.{Page}
use Rattle.links.specs.History.{calls_of}
use Rattle.links.specs.Link.{LinkState}
use Rattle.links.specs.Pages.{page_in}

-- what stands on its site
abbrev pub link_pages : MemLink → List Page
link_pages l = l.site

abbrev pub link_rest : MemLink → List ℕ
link_rest l = drop l.at l.body

abbrev pub link_faults : MemLink → ℕ
link_faults l = l.failing.faults

-- how many calls there were
abbrev pub link_calls : MemLink → ℕ
link_calls l = l.failing.calls

-- the numbers of the calls that are to fail
abbrev pub link_failing : MemLink → List ℕ
link_failing l = l.failing.numbers

-- what it was asked
abbrev pub link_history : MemLink → List LinkCall
link_history l = calls_of l.history

-- whether the next call is one of them
abbrev pub link_fails : MemLink → Bool
link_fails l = fails_next l.failing

-- it tells its site
abbrev pub link_state : MemLink → LinkState
link_state l =
    record {
      tells = Unit {0};
      site = λ target. page_in target l.site;
      rest = drop l.at l.body;
      count = l.failing.faults;
      history = calls_of l.history;
    }

-- A call is counted. It answers `Down` exactly where its number is in the list, and the count of
-- faults rises by one there, and else not.
pub record CountsCall {T : Type 0} (old new : MemLink) (result : Result T LinkFault) : Type 0 where
  pub fails : IsTrue (link_fails old) → result ≡ Err Down
  pub works : link_fails old ≡ false → result ≢ Err Down
  pub calls : link_calls new ≡ min (link_calls old + 1) 0xffff_ffff_ffff_ffff
  pub failing : link_failing new ≡ link_failing old
  pub quiet : link_fails old ≡ false → link_faults new ≡ link_faults old
  pub raised : IsTrue (link_fails old)
      → link_faults new ≡ min (link_faults old + 1) 0xffff_ffff_ffff_ffff
  pub never : link_failing old ≡ [] → link_faults new ≡ link_faults old
