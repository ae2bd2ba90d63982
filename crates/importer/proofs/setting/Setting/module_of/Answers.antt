use Rattle.std.proofs.Common.{◌≡◌, ◌∙◌, ℕ, List, Bor, Option, ap, refl, subst, sym}
use Rattle.std.specs.List.{Contains, flat_map}
use Rattle.std.specs.Prelude.{filter_map}
use Rattle.ir_summary.specs.Once.{texts}
use Rattle.ir_summary.specs.References.{global_names}
use Rattle.ir_tree.specs.declared.module.GlobalValue.{GlobalValue}
use Rattle.importer.specs.Brought.{joined, value_named}
use Rattle.importer.specs.Tables.{lacked_as, value_in, values}
use Rattle.importer.specs.Tasks.{IsClosedUp}
use Rattle.importer.proofs.Declared.{closed_up}
use Rattle.importer.proofs.setting.Setting.module_of.Goals as goal

pub returns : goal.returns
returns c =
    let all : List GlobalValue = joined c.args.self.now.parts.now in
    let vs : List GlobalValue = values c.args.defined.items in
    let own : List ℕ → Option GlobalValue = value_in c.in_ok-own.own in
    let finds : (name : List ℕ) → own name ≡ value_named vs name = λ name. c.in_ok-own.ensures name ∙ ap (λ (gs : List (Bor GlobalValue)). value_named (values gs) name) c.deref.ensures.value in
    let refs : texts c.in_ok-names.names.items ≡ flat_map global_names vs = c.in_ok-names.ensures ∙ ap (λ (gs : List (Bor GlobalValue)). flat_map global_names (values gs)) c.deref-2.ensures.value in
    let declared : c.in_ok-declared.declared ≡ filter_map (lacked_as all own) (texts c.sort_names.new.names.items) =
    c.in_ok-declared.ensures ∙ ap (λ (ns : List (Bor (List ℕ))). filter_map (lacked_as all own) (texts ns)) c.deref-3.ensures.value in
    record {
      declared = c.in_ok-declared.declared;
      closed =
          subst (IsClosedUp all vs) (sym declared)
          (closed_up all vs own finds (texts c.sort_names.new.names.items)
          (λ name.
          let same = c.sort_names.ensures.same name in (
            λ h. subst (λ (l : List (List ℕ)). Contains l name) refs (same.0 h),
            λ h. same.1 (subst (λ (l : List (List ℕ)). Contains l name) (sym refs) h),
          ))
          c.sort_names.ensures.rise);
      is = refl;
    }
