use Rattle.std.proofs.Common.{◌≡◌, ◌<◌, ◌^◌, ◌++◌, ◌∷◌, [], List, length, arith, sym, ap, subst, ◌∙◌}
use mathlib.Core.Logic.{∥∥₁_map}
use Rattle.std.specs.Prelude.{IfOk}
use Rattle.cache_slot.specs.declared.record.Record.{Record}
use Rattle.cache_slot.specs.Found.{Finding, FoundOn, record_of}
use Rattle.cache_slot.specs.Shelved.{IsShelved}
use Rattle.cache_slot.proofs.Shelving.{shelved_same, shelved_found, found_fits}
use Rattle.cache_slot.proofs.Turning.{found_at, each_answer}
use Rattle.cache_slot.proofs.shelf.Shelf.look.Given.{Over}
use Rattle.cache_slot.proofs.shelf.Shelf.look.Goals.{After-note}
use Rattle.cache_slot.proofs.shelf.Shelf.look.Goals as goal

pub invariant_of-self-in-Break-branch-3 : goal.invariant_of-self-in-Break-branch-3
invariant_of-self-in-Break-branch-3 g c =
    let old = c.args.self.now in record {
      same_dir = old.same_dir;
      kept = ∥∥₁_map old.kept (λ k.
          shelved_same g.D.CacheDisk.fits g.S.Setting.keys g.S.Setting.dir g.S.Setting.faults g.S.Setting.files _ _ _ _ old.records.history.items c.in_err-found.ensures.stay c.in_err-found.ensures.later k);
    }

-- what the look-up found, at the shelf's own directory and history
on : (g : Over) (c : After-note g)
    → FoundOn (g.D.CacheDisk.held c.args.self.now.disk) (g.D.CacheDisk.faults c.args.self.now.disk) (g.D.CacheDisk.faults c.find.new.disk) g.S.Setting.dir c.args.self.now.records.history.items c.args.key.now c.in_ok-found.found
on g c =
    found_at (g.D.CacheDisk.held c.args.self.now.disk) (g.D.CacheDisk.faults c.args.self.now.disk) (g.D.CacheDisk.faults c.find.new.disk) _ _ c.args.self.now.records.history.items _ c.args.key.now c.in_ok-found.found
    (c.dir_str.ensures ∙ c.args.self.now.same_dir) c.in_ok-own.ensures c.in_ok-found.ensures.found

more : (g : Over) (c : After-note g) → c.note.new.self.history.items ≡ c.args.self.now.records.history.items ++ record_of c.args.key.now c.in_ok-found.found ∷ []
more g c = c.note.ensures ∙ ap (λ (r : Record). c.args.self.now.records.history.items ++ r ∷ []) c.note_of.ensures

pub invariant_of-self-2 : goal.invariant_of-self-2
invariant_of-self-2 g c =
    let old = c.args.self.now in record {
      same_dir = old.same_dir;
      kept = ∥∥₁_map old.kept (λ k.
          subst (λ (rs : List Record). IsShelved g.D.CacheDisk.fits g.S.Setting.keys g.S.Setting.dir g.S.Setting.faults g.S.Setting.files (g.D.CacheDisk.faults c.find.new.disk) (g.D.CacheDisk.held c.find.new.disk) rs) (sym (more g c))
          (shelved_found g.D.CacheDisk.fits g.S.Setting.keys g.S.Setting.dir g.S.Setting.faults g.S.Setting.files _ _ _ _ old.records.history.items c.args.key.now c.in_ok-found.found (on g c) c.in_ok-found.ensures.stay c.in_ok-found.ensures.later k));
    }

pub returns-clause-found : goal.returns-clause-found
returns-clause-found g c = let at = goal.at.returns-clause-found g c in (c.in_ok-found.found, on g at.After-note, more g at.After-note, c.ok.ensures.value)

pub returns-clause-fits : goal.returns-clause-fits
returns-clause-fits g c =
    let at = goal.at.returns-clause-fits g c in
    each_answer _ c.in_ok-found.found c.ok.result c.ok.ensures.value (λ text is sure.
    let small : length text < 2 ^ 64 = subst (λ (f : Finding). IfOk f (λ t. length t < 2 ^ 64)) is c.in_ok-found.ensures.small in
    let key_small : length c.args.key.now < 2 ^ 64 = omega arith in
    let here = subst (λ (f : Finding). FoundOn (g.D.CacheDisk.held c.args.self.now.disk) (g.D.CacheDisk.faults c.args.self.now.disk) (g.D.CacheDisk.faults c.find.new.disk) g.S.Setting.dir c.args.self.now.records.history.items c.args.key.now f) is (on g at.After-note) in
    ∥∥₁_map c.args.self.now.kept (λ k. found_fits g.D.CacheDisk.fits g.S.Setting.keys g.S.Setting.dir g.S.Setting.faults g.S.Setting.files (g.D.CacheDisk.faults c.args.self.now.disk) (g.D.CacheDisk.faults c.find.new.disk) (g.D.CacheDisk.held c.args.self.now.disk) c.args.self.now.records.history.items c.args.key.now text key_small small here sure k))
