use Rattle.std.proofs.Common.{◌<◌, ◌^◌, List, ℕ, length, subst, ◌∙◌}
use Rattle.cache_slot.specs.Files.{file_of, bytes_of}
use Rattle.cache_slot.proofs.Saving.{saved_done, saved_part}
use Rattle.cache_slot.proofs.save.save.Goals as goal

pub name_str-requires : goal.name_str-requires
unfolding file_of
name_str-requires g c = c.in_ok-name.ensures

pub returns-in-Ok-clause-saved : goal.returns-in-Ok-clause-saved
unfolding file_of bytes_of
returns-in-Ok-clause-saved g c =
    saved_done (g.D.CacheDisk.held c.args.disk.now) (g.D.CacheDisk.held c.save.new.self) (g.D.CacheDisk.faults c.args.disk.now) (g.D.CacheDisk.faults c.save.new.self) c.args.dir c.in-Some.dir c.args.key.now c.args.text.now
    c.name_str.result.now c.as_slice.result.now c.in-Some.is (c.name_str.ensures ∙ c.in_ok-name.ensures) (c.as_slice.ensures ∙ c.in_ok-entry.ensures) c.in-Ok.ensures.written

pub returns-clause-saved : goal.returns-clause-saved
unfolding file_of bytes_of
returns-clause-saved g c =
    saved_part (g.D.CacheDisk.held c.args.disk.now) (g.D.CacheDisk.held c.save.new.self) (g.D.CacheDisk.faults c.args.disk.now) (g.D.CacheDisk.faults c.save.new.self) c.args.dir c.in-Some.dir c.args.key.now c.args.text.now
    c.name_str.result.now c.as_slice.result.now c.in-Some.is (c.name_str.ensures ∙ c.in_ok-name.ensures) (c.as_slice.ensures ∙ c.in_ok-entry.ensures) c.in-Err.ensures.part c.in-Err.ensures.cause

pub returns-in-Ok-clause-small : goal.returns-in-Ok-clause-small
unfolding bytes_of
returns-in-Ok-clause-small g c = λ some. subst (λ (z : List ℕ). length z < 2 ^ 64) (c.as_slice.ensures ∙ c.in_ok-entry.ensures) c.as_slice.type_inv.0

pub returns-clause-small : goal.returns-clause-small
unfolding bytes_of
returns-clause-small g c = λ some. subst (λ (z : List ℕ). length z < 2 ^ 64) (c.as_slice.ensures ∙ c.in_ok-entry.ensures) c.as_slice.type_inv.0
