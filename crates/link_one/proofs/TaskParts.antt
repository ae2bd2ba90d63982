-- Tasks of a link: both modules of each are verified.
use Rattle.std.proofs.Common.{◌≡◌, ◌∙◌, inl, inr, ◌<◌, ℕ, Bool, List, [], ◌++◌, map, length, Some, None, slice_get, refl, sym, ap, subst, arith}
use Rattle.std.proofs.lemmas.Bool.{cases_lt}
use Rattle.std.proofs.lemmas.List.{get_or_past, map-append}
use Rattle.std.proofs.lemmas.List.Kept.{AllPairs-from_increasing}
use Rattle.std.proofs.lemmas.List.Sorted.{IsPermutation-map}
use Rattle.std.proofs.lemmas.Option.{slice_get-get_or}
use Rattle.std.proofs.lemmas.Slice.Eq.{bytes_eq-Decides}
use Rattle.std.specs.List.{All, Contains}
use Rattle.std.specs.List.Sorted.{IsStrictlyIncreasing}
use Rattle.std.specs.Prelude.{slice_index_or}
use Rattle.std.specs.Str.{bytes_eq}
use Rattle.ir_tree.specs.Formed.{Distinct}
use Rattle.ir_tree.specs.Wholes.{GlobalFormed, IsVerified}
use Rattle.ir_tree.specs.declared.module.GlobalValue.{GlobalValue}
use Rattle.ir_tree.specs.declared.module.Module.{Module}
use Rattle.ir_meaning.specs.Programs.{symbol_of}
use Rattle.combined_index.specs.Combined.{Combined}
use Rattle.combined_index.specs.Indexed.{symbol_at}
use Rattle.combined_index.proofs.Sources.{find_one}
use Rattle.lto_task.specs.Declarations.{DeclarationsAreSound}
use Rattle.lto_task.specs.Tasks.{TaskView, module_of}
use Rattle.combined_index.specs.Finals.{NoneTaken, final_name, final_names}
use Rattle.merge_meaning.specs.Laws.{LiveByModule, OutsideIsDeclared, PartsAreSound}
use Rattle.merge_meaning.specs.Lives.{final_symbol, live_outside, parts}
use Rattle.merge_meaning.specs.Linkable.{AreLinkable}
use Rattle.merge_meaning.proofs.Prevailing.{symbol_by_parts}
use Rattle.thin_link.specs.Linking.{IsThinLink}
use Rattle.thin_link.proofs.Indices.{one_number}
use Rattle.importer.specs.Brought.{brought, joined, value_of}
use Rattle.importer.specs.Tasks.{IsTaskOf, name_of}
use Rattle.importer.proofs.OfParts.{bodies_contained, part_contains}
use Rattle.importer.proofs.ClosedUp.{Supply, homeless_in, module_verified}
use Rattle.importer.proofs.Members.{all_joined, contained}
use Rattle.importer.proofs.OnceNamed.{distinct_first, distinct_found, distinct_from_pairs, moved_once, names_once, part_once}
use Rattle.link_one.specs.MeaningLaws.{LiveIsKnown}
use Rattle.link_one.specs.TaskLaws.{TasksAreVerified}
use Rattle.link_one.proofs.Finals.{one_symbol}
use Rattle.link_one.proofs.Imported.{imported_lives, imported_within}
use Rattle.link_one.proofs.Linkable.{all_whole, parts_sound_in}

module _ (by_module : LiveByModule) (outside : OutsideIsDeclared) (sound : PartsAreSound) (known : LiveIsKnown) (declares : DeclarationsAreSound)
    (exports : List (List ℕ)) (import_limit : ℕ) (suffixes : List (List ℕ)) (ms : List Module) (index : Combined) (live : List Bool) (imports : List (List ℕ)) (verified : All IsVerified ms)
    (thin : IsThinLink ms exports import_limit index live imports) (named : NoneTaken (final_names suffixes index.symbols live)) where
  abbrev of_parts : List (List GlobalValue)
  of_parts = parts ms index.symbols live suffixes

  abbrev all : List GlobalValue
  all = joined of_parts

  abbrev outs : List GlobalValue
  outs = live_outside ms index.symbols live suffixes

  linkable : AreLinkable (all ++ outs)
  linkable = subst AreLinkable (by_module ms index.symbols live suffixes) (known ms exports import_limit index live imports suffixes (all_whole ms verified) thin named)

  supply : Supply all outs
  supply = record {
    together = linkable;
    outside = outside ms index.symbols live suffixes;
    formed = all_joined GlobalFormed of_parts (sound ms index.symbols live suffixes verified).1;
    sound = parts_sound_in sound ms index.symbols live suffixes verified;
    declares = declares;
  }

  names_apart : Distinct (map name_of all)
  names_apart =
      distinct_first (map name_of all) (map name_of outs)
      (subst Distinct (map-append name_of all outs) (names_once (all ++ outs) (λ g s. homeless_in (all ++ outs) linkable g (contained (all ++ outs) g s)) linkable.once))

  -- ---- what is imported

  numbers_rise : (k : ℕ) → IsStrictlyIncreasing (slice_index_or imports k [])
  numbers_rise k = elim (cases_lt k (length imports)) [
    | inl within ↦ (thin.planned.imports k (omega (arith, within, thin.planned.modules))).rising
    | inr past ↦ subst IsStrictlyIncreasing (sym (get_or_past imports k [] past)) (λ j below. absurd (omega (arith, below)))
  ]

  numbers_once : (k : ℕ) → Distinct (slice_index_or imports k [])
  numbers_once k = distinct_from_pairs (slice_index_or imports k []) (λ i j d less below same. let up = AllPairs-from_increasing (slice_index_or imports k []) (numbers_rise k) i j d less below in omega (arith, up, same))

  -- what is brought for a number has the final name of its symbol
  found_name : (n : ℕ) (g : GlobalValue) → n < length index.symbols → value_of all suffixes (slice_get index.symbols n) ≡ Some g → name_of g ≡ final_name suffixes (symbol_at index.symbols n)
  found_name n g within is =
      let at : slice_get index.symbols n ≡ Some (symbol_at index.symbols n) = slice_get-get_or index.symbols n (record { home = None; name = [] }) within in
      let found =
      find_one (λ (x : GlobalValue). bytes_eq (symbol_of x).name (final_name suffixes (symbol_at index.symbols n))) all g (sym (ap (value_of all suffixes) at) ∙ is) in
      (bytes_eq-Decides (symbol_of g).name (final_name suffixes (symbol_at index.symbols n))).0 found.1

  same_number : (k a b : ℕ) (g h : GlobalValue) → Contains (slice_index_or imports k []) a → Contains (slice_index_or imports k []) b → value_of all suffixes (slice_get index.symbols a) ≡ Some g
      → value_of all suffixes (slice_get index.symbols b) ≡ Some h → name_of g ≡ name_of h → a ≡ b
  same_number k a b g h in_a in_b is_g is_h same =
      let within_a = imported_within ms exports import_limit index live imports (all_whole ms verified) thin k a in_a in
      let within_b = imported_within ms exports import_limit index live imports (all_whole ms verified) thin k b in_b in
      let name : final_name suffixes (symbol_at index.symbols a) ≡ final_name suffixes (symbol_at index.symbols b) = sym (found_name a g within_a is_g) ∙ same ∙ found_name b h within_b is_h in
      one_number index.symbols thin.combined.index.distinct a b within_a within_b
      (one_symbol suffixes index.symbols live named (symbol_at index.symbols a) (symbol_at index.symbols b)
      (imported_lives ms exports import_limit index live imports (all_whole ms verified) thin k a in_a) (imported_lives ms exports import_limit index live imports (all_whole ms verified) thin k b in_b)
      (symbol_by_parts (final_symbol suffixes (symbol_at index.symbols a)) (final_symbol suffixes (symbol_at index.symbols b)) refl name))

  brought_once : (k : ℕ) → Distinct (map name_of (brought all index.symbols suffixes (slice_index_or imports k [])))
  brought_once k = distinct_found (λ n. value_of all suffixes (slice_get index.symbols n)) name_of (slice_index_or imports k []) (numbers_once k) (same_number k)

  -- ---- the modules of a task

  pub task_verified : (limit : ℕ) (promoted : List ℕ) (k : ℕ) (t : TaskView) → IsTaskOf exports limit all index.symbols suffixes (slice_index_or imports k []) promoted (slice_index_or of_parts k []) t
      → IsVerified (module_of t.own) × IsVerified (module_of t.imported)
  task_verified limit promoted k t task = (
    module_verified all outs supply (slice_index_or of_parts k []) t.own (part_contains of_parts k) (part_once of_parts k names_apart) task.own,
    module_verified all outs supply task.bodies t.imported (bodies_contained all index.symbols suffixes (slice_index_or imports k []) task.bodies task.bodies_are)
        (moved_once (map name_of (brought all index.symbols suffixes (slice_index_or imports k []))) (map name_of task.bodies)
        (IsPermutation-map name_of (brought all index.symbols suffixes (slice_index_or imports k [])) task.bodies task.bodies_are.same) (brought_once k))
        task.imported,
  )

pub tasks_verified : LiveByModule → OutsideIsDeclared → PartsAreSound → LiveIsKnown → DeclarationsAreSound → TasksAreVerified
tasks_verified by_module outside sound known declares exports import_limit inline_limit suffixes ms index live imports promoted k t verified thin named task =
    task_verified by_module outside sound known declares exports import_limit suffixes ms index live imports verified thin named inline_limit promoted k t task
