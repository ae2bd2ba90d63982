use Rattle.ir_parse.proofs.reading.parsed_from.Goals as goal

pub of-requires : goal.of-requires
of-requires c = c.read_is_parsed.ensures c.args.bytes.now c.args.tree c.args.lines c.requires
