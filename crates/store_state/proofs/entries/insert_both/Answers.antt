use Rattle.store_state.proofs.KeySearch.{removed}
use Rattle.store_state.proofs.entries.insert_both.Goals as goal

-- the key that was put in is taken out again
pub returns-in-Err-Memory-clause-same_keys : goal.returns-in-Err-Memory-clause-same_keys
returns-in-Err-Memory-clause-same_keys c = rw (c.remove_at.ensures, c.in_ok-insert_at.ensures.ok) (removed c.args.keys.now c.args.place c.args.text c.requires.keys)
