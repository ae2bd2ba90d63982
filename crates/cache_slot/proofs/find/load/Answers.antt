use Rattle.std.proofs.Common.{◌∙◌}
use Rattle.cache_slot.specs.Files.{file_of}
use Rattle.cache_slot.proofs.Loading.{holds_of, small_of, lacks_of, lacks_absent}
use Rattle.cache_slot.proofs.find.load.Goals as goal

pub name_str-requires : goal.name_str-requires
unfolding file_of
name_str-requires g c = c.in_ok-name.ensures

pub returns-in-Some-clause-found : goal.returns-in-Some-clause-found
unfolding file_of
returns-in-Some-clause-found g c =
    holds_of (g.D.CacheDisk.held c.args.disk.now) c.args.dir.now c.name_str.result.now c.args.key.now c.in-Some.text c.in-Ok-Some.bytes c.as_slice.result.now c.in-Ok-Some.field-0 c.in_ok-text-in-Ok-Some.field-0
    c.in-Ok-Some.ensures.bytes c.in-Ok-Some.field-0-is (c.name_str.ensures ∙ c.in_ok-name.ensures) c.as_slice.ensures c.in_ok-text-in-Ok-Some.ensures c.in-Some.is

pub returns-in-Ok-Some-clause-found : goal.returns-in-Ok-Some-clause-found
unfolding file_of
returns-in-Ok-Some-clause-found g c =
    lacks_of (g.D.CacheDisk.held c.args.disk.now) c.args.dir.now c.name_str.result.now c.args.key.now c.in-Ok-Some.bytes c.as_slice.result.now c.in-Ok-Some.field-0 c.in_ok-text-in-Ok-Some.field-0
    c.in-Ok-Some.ensures.bytes c.in-Ok-Some.field-0-is (c.name_str.ensures ∙ c.in_ok-name.ensures) c.as_slice.ensures c.in_ok-text-in-Ok-Some.ensures c.in-None.is

pub returns-in-Ok-None-clause-found : goal.returns-in-Ok-None-clause-found
unfolding file_of
returns-in-Ok-None-clause-found g c =
    lacks_absent (g.D.CacheDisk.held c.args.disk.now) c.args.dir.now c.name_str.result.now c.args.key.now c.in-Ok-None.field-0
    c.in-Ok-None.ensures.bytes c.in-Ok-None.field-0-is (c.name_str.ensures ∙ c.in_ok-name.ensures)

pub returns-in-Some-clause-small : goal.returns-in-Some-clause-small
returns-in-Some-clause-small g c = small_of c.as_slice.result.now c.args.key.now c.in-Some.text c.in_ok-text-in-Ok-Some.field-0 c.in_ok-text-in-Ok-Some.ensures c.in-Some.is
