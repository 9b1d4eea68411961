use Rattle.cleaner.proofs.Searches.{search_any}
use Rattle.table_files.proofs.needed_contents.is_among.Goals as goal

pub returns : goal.returns
returns c =
    rw c.is_ok.ensures.value (search_any c.args.numbers.now c.requires c.args.number
    c.binary_search.result c.binary_search.ensures.bound c.binary_search.ensures.position)
