use Rattle.std.proofs.Common.{sym, subst, ◌∙◌}
use Rattle.std.specs.Str.{IsUtf8}
use Rattle.cache_slot.proofs.Names.{name_utf8}
use Rattle.cache_slot.proofs.find.name_str.Goals as goal

pub unreachable-requires : goal.unreachable-requires
unreachable-requires c = (c.in-Err.ensures.cases).0 (subst IsUtf8 (sym (c.as_slice.ensures ∙ c.requires)) (name_utf8 c.args.key.now))
