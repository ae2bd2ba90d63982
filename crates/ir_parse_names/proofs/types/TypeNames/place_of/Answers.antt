use Rattle.std.proofs.Common.{sym}
use Rattle.ir_parse_names.proofs.SameTypes.{entries, places}
use Rattle.ir_parse_names.proofs.types.TypeNames.place_of.Goals as goal

pub returns-clause-place : goal.returns-clause-place
returns-clause-place c = rw (sym c.self.view_is, c.get_index_of.ensures.index) (places c.args.wanted.now c.self.inside.map.entries)

pub returns-clause-shape : goal.returns-clause-shape
returns-clause-shape c =
    rw (sym c.self.view_is, c.get_index_of.ensures.index) (entries c.args.wanted.now c.self.inside.map.entries)
