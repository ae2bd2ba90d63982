use Rattle.std.proofs.Common.{◌≡◌, ◌++◌, ◌∷◌, ◌<◌, ◌+◌, ◌^◌, [], List, Option, ℕ, length, sym, ap, subst, refl, ◌∙◌, arith}
use mathlib.Core.Logic.{∥∥₁_map}
use Rattle.std.specs.Option.{option_copied}
use Rattle.cache_slot.specs.Files.{bytes_of}
use Rattle.cache_slot.specs.declared.record.Record.{Record}
use Rattle.cache_slot.specs.declared.record.Record.TheVariants.{Entry}
use Rattle.cache_slot.specs.Found.{SavedOn}
use Rattle.cache_slot.specs.Records.{text_of}
use Rattle.cache_slot.specs.Shelved.{IsShelved}
use Rattle.cache_slot.proofs.DiskKept.{Small}
use Rattle.cache_slot.proofs.Shelving.{shelved_kept}
use Rattle.cache_slot.proofs.Turning.{stored_new, stored_on_new}
use Rattle.cache_slot.proofs.shelf.Shelf.add.Given.{Over}
use Rattle.cache_slot.proofs.shelf.Shelf.add.Goals.{After-enter}
use Rattle.cache_slot.proofs.shelf.Shelf.add.Goals as goal

pub enter-requires-clause-counted : goal.enter-requires-clause-counted
enter-requires-clause-counted g c = subst (λ (rs : List Record). length rs + 1 < 2 ^ 64) (sym c.in_ok-reserve.ensures.records) c.requires.count

pub enter-requires-clause-room : goal.enter-requires-clause-room
enter-requires-clause-room g c = c.in_ok-reserve.ensures.room

pub enter-requires-clause-new : goal.enter-requires-clause-new
enter-requires-clause-new g c = ap (text_of c.args.key) c.in_ok-reserve.ensures.records ∙ c.requires.new

more : (g : Over) (c : After-enter g) → c.enter.new.self.history.items ≡ c.args.self.now.records.history.items ++ Entry c.args.key c.args.text.now c.in_ok-failed.failed ∷ []
more g c = c.enter.ensures ∙ (λ i. c.in_ok-reserve.ensures.records i ++ Entry c.args.key (c.in_ok-kept.ensures i) c.in_ok-failed.failed ∷ [])

-- the save, in the shelf's own directory
saved : (g : Over) (c : After-enter g)
    → SavedOn (g.D.CacheDisk.held c.args.self.now.disk) (g.D.CacheDisk.held c.save.new.disk) (g.D.CacheDisk.faults c.args.self.now.disk) (g.D.CacheDisk.faults c.save.new.disk) g.S.Setting.dir c.args.key c.args.text.now c.in_ok-failed.failed
saved g c =
    let same : option_copied c.dir_str.result ≡ g.S.Setting.dir = c.dir_str.ensures ∙ c.args.self.now.same_dir in
    subst (λ (z : Option (List ℕ) × List ℕ). SavedOn (g.D.CacheDisk.held c.args.self.now.disk) (g.D.CacheDisk.held c.save.new.disk) (g.D.CacheDisk.faults c.args.self.now.disk) (g.D.CacheDisk.faults c.save.new.disk) z.0 z.1 c.args.text.now c.in_ok-failed.failed)
    (λ i. (same i, c.as_slice.ensures i)) c.in_ok-failed.ensures.saved

pub invariant_of-self-2 : goal.invariant_of-self-2
invariant_of-self-2 g c =
    let old = c.args.self.now in
    let same : option_copied c.dir_str.result ≡ g.S.Setting.dir = c.dir_str.ensures ∙ old.same_dir in
    let small : Small g.S.Setting.dir c.args.key c.args.text.now =
    λ some. subst (λ (k : List ℕ). length (bytes_of k c.args.text.now) < 2 ^ 64) c.as_slice.ensures (c.in_ok-failed.ensures.small (λ none. some (sym same ∙ none))) in
    record {
      same_dir = old.same_dir;
      kept = ∥∥₁_map old.kept (λ k.
          subst (λ (rs : List Record). IsShelved g.D.CacheDisk.fits g.S.Setting.keys g.S.Setting.dir g.S.Setting.faults g.S.Setting.files (g.D.CacheDisk.faults c.save.new.disk) (g.D.CacheDisk.held c.save.new.disk) rs) (sym (more g c))
          (shelved_kept g.D.CacheDisk.fits g.S.Setting.keys g.S.Setting.dir g.S.Setting.faults g.S.Setting.files c.args.key c.args.text.now small c.requires.key c.requires.made
          (g.D.CacheDisk.faults old.disk) (g.D.CacheDisk.faults c.save.new.disk) (g.D.CacheDisk.held old.disk) (g.D.CacheDisk.held c.save.new.disk) old.records.history.items c.in_ok-failed.failed c.requires.new (saved g c) c.in_ok-failed.ensures.later k));
    }

pub returns-in_err-kept-clause-later : goal.returns-in_err-kept-clause-later
returns-in_err-kept-clause-later g c = omega arith

pub returns-in_err-kept-clause-uncalled : goal.returns-in_err-kept-clause-uncalled
returns-in_err-kept-clause-uncalled g c = λ none. refl

pub returns-in_err-reserve-clause-later : goal.returns-in_err-reserve-clause-later
returns-in_err-reserve-clause-later g c = omega arith

pub returns-in_err-reserve-clause-uncalled : goal.returns-in_err-reserve-clause-uncalled
returns-in_err-reserve-clause-uncalled g c = λ none. refl

pub returns-in_err-failed-clause-later : goal.returns-in_err-failed-clause-later
returns-in_err-failed-clause-later g c = c.in_err-failed.ensures.later

pub returns-in_err-failed-clause-uncalled : goal.returns-in_err-failed-clause-uncalled
returns-in_err-failed-clause-uncalled g c = λ none. c.in_err-failed.ensures.uncalled (c.dir_str.ensures ∙ c.args.self.now.same_dir ∙ none)

pub returns-clause-stored : goal.returns-clause-stored
returns-clause-stored g c =
    let at = goal.at.returns-clause-stored g c in
    stored_new _ _ _ _ g.S.Setting.dir c.args.key c.args.text.now c.args.self.now.records.history.items c.enter.new.self.history.items c.in_ok-failed.failed c.kept_of.result c.kept_of.ensures c.requires.new (saved g at.After-enter) (more g at.After-enter)

pub returns-clause-disk : goal.returns-clause-disk
returns-clause-disk g c =
    let at = goal.at.returns-clause-disk g c in
    stored_on_new (g.D.CacheDisk.held c.args.self.now.disk) (g.D.CacheDisk.held c.save.new.disk) (g.D.CacheDisk.faults c.args.self.now.disk) (g.D.CacheDisk.faults c.save.new.disk) g.S.Setting.dir c.args.key c.args.text.now c.in_ok-failed.failed c.kept_of.result c.kept_of.ensures (saved g at.After-enter)

pub returns-clause-later : goal.returns-clause-later
returns-clause-later g c = c.in_ok-failed.ensures.later

pub returns-clause-uncalled : goal.returns-clause-uncalled
returns-clause-uncalled g c = λ none. c.in_ok-failed.ensures.uncalled (c.dir_str.ensures ∙ c.args.self.now.same_dir ∙ none)
