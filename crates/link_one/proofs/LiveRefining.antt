-- The live definitions under their final names refine the merged program.
use Rattle.std.proofs.Common.{◌≡◌, ◌∙◌, ◌+◌, ℕ, Bool, true, is_none, List, [], ◌∷◌, Option, Some, None, bytes_eq, slice_get, refl, sym, ap, subst, arith}
use Rattle.std.proofs.lemmas.Bool.{and_parts}
use Rattle.std.proofs.lemmas.Slice.Eq.{bytes_eq-Decides}
use Rattle.std.specs.List.{AllZip, Contains}
use Rattle.std.specs.Prelude.{IsTrue}
use Rattle.ir_tree.specs.Symbols.{symbol_eq}
use Rattle.ir_tree.specs.declared.module.GlobalValue.{GlobalValue}
use Rattle.ir_tree.specs.declared.module.GlobalValue.TheVariants as global
use Rattle.ir_tree.specs.declared.module.Module.{Module}
use Rattle.ir_tree.specs.declared.operand.Symbol.{Symbol}
use Rattle.ir_tree.proofs.Symbols.{symbol_true}
use Rattle.ir_meaning.specs.Program.{Program}
use Rattle.ir_meaning.specs.Formed.{IsFormed}
use Rattle.ir_meaning.proofs.Alike.Itself.{same_better}
use Rattle.ir_meaning.specs.Programs.{shared}
use Rattle.ir_meaning.proofs.Numbered.{programs_formed}
use Rattle.combined_index.specs.Combined.{Combined, is_plain, number_of, prevailing_of}
use Rattle.combined_index.specs.declared.definition.Definition.{Definition as Listed}
use Rattle.combined_index.specs.Reach.{starts}
use Rattle.combined_index.specs.Liveness.{IsDefined}
use Rattle.combined_index.proofs.Sources.{any_one, first_at}
use Rattle.merge_meaning.specs.Linked.{Improves}
use Rattle.merge_meaning.specs.Merged.{merged, merged_globals}
use Rattle.merge_meaning.proofs.Emitted.{linked_merged}
use Rattle.merge_meaning.proofs.Looked.{some_is}
use Rattle.merge_meaning.proofs.Prevailing.{symbol_by_parts}
use Rattle.thin_link.specs.Linking.{IsThinLink}
use Rattle.link_one.specs.MeaningLaws.{LiveRefines}
use Rattle.merge_meaning.specs.Lives.{final_symbol, is_export, is_live, live_globals}
use Rattle.link_one.proofs.Finals.{live_emitted}
use Rattle.link_one.proofs.Lives.{live_there}
use Rattle.link_one.proofs.Summed.{none_of}

-- ---- a program is as good as itself

improves_itself : (p : Program) → IsFormed p → (g : GlobalValue) → Improves p 1 g g
improves_itself p formed (global.Variable v) = refl
improves_itself p formed (global.Function f) = record { symbol = refl; result = refl; params = refl; body = refl; better = same_better p formed f }

pub all_improve : (p : Program) → IsFormed p → (gs : List GlobalValue) → AllZip (Improves p 1) gs gs
all_improve p formed [] = tt
all_improve p formed (g ∷ gs) = (improves_itself p formed g, all_improve p formed gs)

-- ---- exported names are live

module _ (ms : List Module) (exports : List (List ℕ)) (limit : ℕ) (index : Combined) (live : List Bool) (imports : List (List ℕ))
    (link : IsThinLink ms exports limit index live imports) where
  -- an exported name has a number, and a definition that prevails
  pub exported_defined : (name : List ℕ) → Contains exports name → (n : ℕ) × (number_of index name ≡ Some n) × IsDefined index n
  exported_defined name c = by (number_of index name) refl
    where
      defined : (n : ℕ) → number_of index name ≡ Some n → (o : Option Listed) → prevailing_of index n ≡ o → (k : ℕ) × (number_of index name ≡ Some k) × IsDefined index k
      defined n e (Some d) f = (n, e, (d, f))
      defined n e None f =
          absurd (link.exported name (c, λ k g. subst (λ (i : ℕ). prevailing_of index i ≡ None) (some_is n k (sym e ∙ g)) f))

      by : (o : Option ℕ) → number_of index name ≡ o → (k : ℕ) × (number_of index name ≡ Some k) × IsDefined index k
      by None e = absurd (link.exported name (c, λ k g. absurd (cc (e, g))))
      by (Some n) e = defined n e (prevailing_of index n) refl

  pub exported_symbol : (name : List ℕ) (n : ℕ) → number_of index name ≡ Some n → slice_get index.symbols n ≡ Some (shared name)
  exported_symbol name n e =
      let found = first_at (is_plain name) 0 index.symbols n e in
      let far : n ≡ 0 + found.0 = found.1 in
      let number : found.0 ≡ n = omega (arith, far) in
      let parts = and_parts (is_none found.2.0.home) (bytes_eq name found.2.0.name) found.2.2 in
      subst (λ (i : ℕ). slice_get index.symbols i ≡ Some (shared name)) number
      (found.2.1
      ∙ ap (λ (u : Symbol). Some u) (symbol_by_parts found.2.0 (shared name) (none_of found.2.0.home parts.0) (sym ((bytes_eq-Decides name found.2.0.name).0 parts.1))))

  pub exported_live : (name : List ℕ) → Contains exports name → is_live index.symbols live (shared name) ≡ true
  exported_live name c =
      let known = exported_defined name c in
      live_there index.symbols live (shared name) known.0 (exported_symbol name known.0 known.1)
      ((link.alive.live known.0).1 (starts known.0 (name, c, known.1, known.2)))

  pub roots_live : (s : Symbol) → IsTrue (is_export exports s) → (s.home ≡ None) × (is_live index.symbols live s ≡ true)
  roots_live s h =
      let found = any_one (λ (name : List ℕ). symbol_eq (shared name) s) exports h in
      let same : shared found.0 ≡ s = symbol_true (shared found.0) s found.2 in (
        sym (ap (λ (u : Symbol). u.home) same),
        sym (ap (is_live index.symbols live) same) ∙ exported_live found.0 found.1,
      )

pub live_refines : LiveRefines
live_refines ms exports limit index live imports suffixes whole link none =
    linked_merged ms (merged_globals ms) (live_globals ms index.symbols live suffixes) 1 (is_live index.symbols live) (final_symbol suffixes)
    (all_improve (merged ms) (programs_formed (merged_globals ms)) (merged_globals ms))
    (live_emitted ms exports limit index live imports suffixes whole link none) (is_export exports)
    (roots_live ms exports limit index live imports link)
