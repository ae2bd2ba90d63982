use Rattle.std.proofs.Common.{◌≡◌, replicate, rules}
use Rattle.lto_sets.proofs.Rows.{row_empty}
use Rattle.lto_sets.proofs.bits.Bits.new.Goals as goal

pub returns : goal.returns
returns c =
    let zeros : c.in_ok-words.words.items ≡ replicate c.word_count.result 0 = search rules in
    row_empty c.args.size c.word_count.result c.in_ok-words.words.items zeros
