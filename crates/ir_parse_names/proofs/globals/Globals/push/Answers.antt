use Rattle.std.proofs.Common.{sym, ap, ◌∙◌, refl}
use Rattle.std.specs.Cow.{cow_slice_items}
use Rattle.ir_parse_names.specs.Globals.{Globals, has_name}
use Rattle.ir_parse_names.proofs.Failing.{ok_is}
use Rattle.ir_parse_names.proofs.globals.Globals.push.Goals as goal

pub push-requires : goal.push-requires
push-requires c = ap (λ (g : Globals). has_name g.names (cow_slice_items c.args.wanted)) c.self.view_is ∙ c.requires

pub returns : goal.returns
returns c = rw (sym c.self.view_is, ← (ok_is _ _ c.in_ok-push.ensures), c.counted_by-counter.ensures.next) refl
