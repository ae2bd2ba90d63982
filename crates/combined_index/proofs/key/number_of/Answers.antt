use Rattle.combined_index.proofs.Keys.{key_numbered}
use Rattle.combined_index.proofs.key.number_of.Goals as goal

pub returns : goal.returns
returns c =
    let stored = c.in_ok-index.ensures.stored in
    key_numbered c.args.table.now.keys c.insert_full.new.self.keys c.args.key stored.0 c.in_ok-index.index c.in_ok-index.ensures.keys stored.1 stored.2
