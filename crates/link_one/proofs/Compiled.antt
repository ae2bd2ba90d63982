-- What is compiled of the live definitions, kept and put in order, refines the merged program.
use Rattle.std.proofs.Common.{◌≡◌, ℕ, Bool, true, List, length, refl, sym, ap, subst}
use Rattle.std.specs.List.{AllZip}
use Rattle.std.specs.Prelude.{IsTrue}
use Rattle.ir_tree.specs.Formed.{Distinct}
use Rattle.ir_tree.specs.Wholes.{symbols}
use Rattle.ir_tree.specs.declared.module.GlobalValue.{GlobalValue}
use Rattle.ir_tree.specs.declared.module.Module.{Module}
use Rattle.ir_tree.specs.declared.operand.Symbol.{Symbol}
use Rattle.ir_meaning.specs.Memory.{Memory}
use Rattle.ir_meaning.specs.Refine.{RefinesUnder}
use Rattle.ir_meaning.specs.Rename.{then_names}
use Rattle.ir_meaning.proofs.Runs.Transitive.{chained_under}
use Rattle.ir_meaning.specs.Programs.{program_of}
use Rattle.combined_index.specs.Combined.{Combined}
use Rattle.combined_index.specs.Finals.{NoneTaken, final_names}
use Rattle.merge_meaning.specs.Laws.{AllWhole}
use Rattle.merge_meaning.specs.Linked.{AreEmitted, AreFinal, Improves, IsClosed, IsReordering, back_names, back_of, emission}
use Rattle.merge_meaning.specs.Merged.{merged}
use Rattle.merge_meaning.proofs.Emission.{emission_emitted}
use Rattle.merge_meaning.proofs.Emitted.{back_final, emitted_refines, is_emitted}
use Rattle.merge_meaning.proofs.Improved.{improved, improved_once}
use Rattle.merge_meaning.proofs.Reordered.{any_order}
use Rattle.thin_link.specs.Linking.{IsThinLink}
use Rattle.link_one.specs.MeaningLaws.{CompiledRefines}
use Rattle.merge_meaning.specs.Lives.{is_export, live_globals, live_names}
use Rattle.link_one.proofs.Finals.{live_emitted}
use Rattle.link_one.proofs.LiveRefining.{live_refines, roots_live}

-- a set keeps symbols under their own names
own_final : (keeps : Symbol → Bool) → AreFinal keeps (λ s. s)
own_final keeps = record { keeps = λ s home. refl; apart = λ s u a b e. e }

module _ (ms : List Module) (exports : List (List ℕ)) (limit : ℕ) (index : Combined) (live : List Bool) (imports suffixes : List (List ℕ)) (whole : AllWhole ms)
    (link : IsThinLink ms exports limit index live imports) (none : NoneTaken (final_names suffixes index.symbols live)) (hs ks : List GlobalValue) (bound : ℕ) (keeps : Symbol → Bool)
    (better : AllZip (Improves (program_of (live_globals ms index.symbols live suffixes)) bound) (live_globals ms index.symbols live suffixes) hs) (closed : IsClosed keeps hs)
    (roots : (s : Symbol) → IsTrue (is_export exports s) → keeps s ≡ true) (moved : IsReordering (emission keeps (λ s. s) hs) ks) where
  once : Distinct (symbols hs)
  once =
      improved_once (program_of (live_globals ms index.symbols live suffixes)) bound (live_globals ms index.symbols live suffixes) hs better
      (live_emitted ms exports limit index live imports suffixes whole link none).once

  emitted : AreEmitted keeps (λ s. s) hs ks
  emitted = any_order keeps (λ s. s) hs (emission keeps (λ s. s) hs) ks (emission_emitted keeps (λ s. s) hs once closed (own_final keeps)) moved

  -- a root goes back to itself
  root_back : (s : Symbol) → IsTrue (is_export exports s) → IsTrue (is_export exports (back_of keeps (λ s. s) hs s))
  root_back s h = subst (λ (u : Symbol). IsTrue (is_export exports u)) (sym (back_final keeps (λ s. s) hs ks emitted s (roots s h))) h

  chained : RefinesUnder (then_names (back_names keeps (λ s. s) hs ks) (live_names ms index.symbols live suffixes)) (program_of ks) (merged ms) (λ s. IsTrue (is_export exports s))
  chained =
      chained_under (back_names keeps (λ s. s) hs ks) (live_names ms index.symbols live suffixes) (program_of ks) (program_of (live_globals ms index.symbols live suffixes)) (merged ms)
      (is_export exports) (is_export exports)
      (ap (λ (m : Memory). length m) (improved (live_globals ms index.symbols live suffixes) hs bound better).opening)
      (is_emitted keeps (λ s. s) hs ks emitted).within
      root_back
      (emitted_refines (live_globals ms index.symbols live suffixes) hs ks bound keeps (λ s. s) better emitted (is_export exports)
      (λ s h. ((roots_live ms exports limit index live imports link s h).0, roots s h)))
      (live_refines ms exports limit index live imports suffixes whole link none)

pub compiled_refines : CompiledRefines
compiled_refines ms exports limit index live imports suffixes whole link none hs ks bound keeps better closed roots moved =
    chained ms exports limit index live imports suffixes whole link none hs ks bound keeps better closed roots moved
