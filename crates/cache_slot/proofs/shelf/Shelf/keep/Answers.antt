use Rattle.std.proofs.Common.{◌≡◌, List, None, ℕ, ⊎_elim, refl, sym, ap, subst, ◌∙◌, arith}
use mathlib.Core.Logic.{∥∥₁_map}
use Rattle.std.specs.Prelude.{IfOk}
use Rattle.cache_slot.specs.declared.record.Record.{Record}
use Rattle.cache_slot.specs.Found.{Stored, StoredOn}
use Rattle.cache_slot.specs.Records.{text_of}
use Rattle.cache_slot.specs.Shelved.{IsShelved}
use Rattle.cache_slot.proofs.Shelving.{shelved_again}
use Rattle.cache_slot.proofs.Turning.{none_found, some_found}
use Rattle.cache_slot.proofs.shelf.Shelf.keep.Goals as goal

pub returns-in_err-check_count-clause-later : goal.returns-in_err-check_count-clause-later
returns-in_err-check_count-clause-later g c = omega arith

pub returns-in_err-check_count-clause-uncalled : goal.returns-in_err-check_count-clause-uncalled
returns-in_err-check_count-clause-uncalled g c = λ needless. refl

pub returns-in_err-own-clause-later : goal.returns-in_err-own-clause-later
returns-in_err-own-clause-later g c = omega arith

pub returns-in_err-own-clause-uncalled : goal.returns-in_err-own-clause-uncalled
returns-in_err-own-clause-uncalled g c = λ needless. refl

pub note-requires-clause-counted : goal.note-requires-clause-counted
note-requires-clause-counted g c = c.in_ok-check_count.ensures

pub invariant_of-self : goal.invariant_of-self
invariant_of-self g c =
    let old = c.args.self.now in
    record {
      same_dir = old.same_dir;
      kept = ∥∥₁_map old.kept (λ k.
          subst (λ (rs : List Record). IsShelved g.D.CacheDisk.fits g.S.Setting.keys g.S.Setting.dir g.S.Setting.faults g.S.Setting.files (g.D.CacheDisk.faults old.disk) (g.D.CacheDisk.held old.disk) rs) (sym c.note.ensures)
          (shelved_again g.D.CacheDisk.fits g.S.Setting.keys g.S.Setting.dir g.S.Setting.faults g.S.Setting.files (g.D.CacheDisk.faults old.disk) (g.D.CacheDisk.held old.disk) old.records.history.items c.args.key.now k));
    }

pub returns-then-is_some-clause-stored : goal.returns-then-is_some-clause-stored
returns-then-is_some-clause-stored g c =
    (some_found c.text.result _ (c.text.ensures ∙ ap (λ (k : List ℕ). text_of k c.args.self.now.records.history.items) c.in_ok-own.ensures) (sym c.is_some.ensures ∙ c.if-is_some.true), c.note.ensures)

pub returns-then-is_some-clause-disk : goal.returns-then-is_some-clause-disk
returns-then-is_some-clause-disk g c = (refl, refl)

pub returns-then-is_some-clause-later : goal.returns-then-is_some-clause-later
returns-then-is_some-clause-later g c = omega arith

pub returns-then-is_some-clause-uncalled : goal.returns-then-is_some-clause-uncalled
returns-then-is_some-clause-uncalled g c = λ needless. refl

pub add-requires-clause-count : goal.add-requires-clause-count
add-requires-clause-count g c = c.in_ok-check_count.ensures

pub add-requires-clause-new : goal.add-requires-clause-new
add-requires-clause-new g c = none_found c.text.result _ c.text.ensures (sym c.is_some.ensures ∙ c.if-is_some.false)

pub add-requires-clause-key : goal.add-requires-clause-key
add-requires-clause-key g c = subst (λ (k : List ℕ). g.S.Setting.keys k) (sym c.in_ok-own.ensures) c.requires.key

pub add-requires-clause-made : goal.add-requires-clause-made
add-requires-clause-made g c = subst (λ (k : List ℕ). g.D.CacheDisk.fits k c.args.text.now) (sym c.in_ok-own.ensures) c.requires.made

pub returns-clause-stored : goal.returns-clause-stored
returns-clause-stored g c =
    subst (λ (k : List ℕ). IfOk c.add.result (Stored g.S.Setting.dir k c.args.text.now c.args.self.now.records.history.items c.add.new.self.records.history.items)) c.in_ok-own.ensures c.add.ensures.stored

pub returns-clause-disk : goal.returns-clause-disk
returns-clause-disk g c =
    let old = c.args.self.now.disk in
    let new = c.add.new.self.disk in
    subst (λ (k : List ℕ). IfOk c.add.result (StoredOn (g.D.CacheDisk.held old) (g.D.CacheDisk.held new) (g.D.CacheDisk.faults old) (g.D.CacheDisk.faults new) g.S.Setting.dir k c.args.text.now)) c.in_ok-own.ensures c.add.ensures.disk

pub returns-clause-later : goal.returns-clause-later
returns-clause-later g c = c.add.ensures.later

pub returns-clause-uncalled : goal.returns-clause-uncalled
returns-clause-uncalled g c =
    let none : text_of c.args.key.now c.args.self.now.records.history.items ≡ None =
    none_found c.text.result _ (c.text.ensures ∙ ap (λ (k : List ℕ). text_of k c.args.self.now.records.history.items) c.in_ok-own.ensures) (sym c.is_some.ensures ∙ c.if-is_some.false) in
    λ needless. ⊎_elim (λ some. absurd (some none)) (λ nowhere. c.add.ensures.uncalled nowhere) needless

pub returns-clause-err : goal.returns-clause-err
returns-clause-err g c = c.add.ensures.err
