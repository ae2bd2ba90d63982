-- What a task has is of the parts of its link, or declared.
use Rattle.std.proofs.Common.{◌≡◌, inl, inr, ℕ, zero, suc, List, [], ◌∷◌, Option, Some, None, slice_get, sym, subst}
use Rattle.std.proofs.lemmas.List.Elements.{All-append, All-contains}
use Rattle.std.proofs.lemmas.List.Sorted.{Contains-permutation, IsPermutation-sym}
use Rattle.std.specs.List.{All, Contains}
use Rattle.std.specs.Prelude.{slice_index_or}
use Rattle.std.specs.Str.{bytes_eq}
use Rattle.ir_tree.specs.declared.module.GlobalValue.{GlobalValue}
use Rattle.ir_tree.specs.declared.operand.Symbol.{Symbol}
use Rattle.ir_meaning.specs.Programs.{symbol_of}
use Rattle.combined_index.specs.Finals.{final_name}
use Rattle.merge_meaning.specs.ByName.{IsInOrder}
use Rattle.merge_meaning.proofs.References.{all_from}
use Rattle.importer.specs.Brought.{brought, joined, value_of}
use Rattle.importer.specs.TaskLaws.{IsOrDeclared, TasksAreOfParts}
use Rattle.importer.specs.Tasks.{IsModuleOf, declared_as, name_of}
use Rattle.importer.proofs.Declaring.{declared_from}
use Rattle.importer.proofs.Members.{Stands, behind, contained, found_stands, in_front, mapped_stands, standing}

pub part_within : (parts : List (List GlobalValue)) (n : ℕ) (g : GlobalValue) → Stands (slice_index_or parts n []) g → Stands (joined parts) g
part_within [] n g (i, here) = absurd (cc here)
part_within (part ∷ parts) zero g s = in_front part (joined parts) g s
part_within (part ∷ parts) (suc n) g s = behind part (joined parts) g (part_within parts n g s)

of_symbol : (all : List GlobalValue) (suffixes : List (List ℕ)) (o : Option Symbol) (g : GlobalValue) → value_of all suffixes o ≡ Some g → Stands all g
of_symbol all suffixes None g e = absurd (cc e)
of_symbol all suffixes (Some s) g e = found_stands (λ h. bytes_eq (symbol_of h).name (final_name suffixes s)) all g e

pub brought_stands : (all : List GlobalValue) (symbols : List Symbol) (suffixes : List (List ℕ)) (numbers : List ℕ) (g : GlobalValue) → Stands (brought all symbols suffixes numbers) g → Stands all g
brought_stands all symbols suffixes numbers g s = mapped_stands (λ n. value_of all suffixes (slice_get symbols n)) all (λ n h e. of_symbol all suffixes (slice_get symbols n) h e) numbers g s

-- ---- tasks

pub part_contains : (of_parts : List (List GlobalValue)) (k : ℕ) (g : GlobalValue) → Contains (slice_index_or of_parts k []) g → Contains (joined of_parts) g
part_contains of_parts k g there = contained (joined of_parts) g (part_within of_parts k g (standing (slice_index_or of_parts k []) g there))

-- what is imported, in any order
pub bodies_contained : (all : List GlobalValue) (symbols : List Symbol) (suffixes : List (List ℕ)) (numbers : List ℕ) (bodies : List GlobalValue)
    → IsInOrder (brought all symbols suffixes numbers) bodies → (g : GlobalValue) → Contains bodies g → Contains all g
bodies_contained all symbols suffixes numbers bodies order g there =
    contained all g
    (brought_stands all symbols suffixes numbers g
    (standing (brought all symbols suffixes numbers) g
    (Contains-permutation bodies (brought all symbols suffixes numbers) g (IsPermutation-sym (brought all symbols suffixes numbers) bodies order.same) there)))

module_of_parts : (all values globals : List GlobalValue) → ((g : GlobalValue) → Contains values g → Contains all g) → IsModuleOf all values globals → All (IsOrDeclared all) globals
module_of_parts all values globals own m =
    subst (All (IsOrDeclared all)) (sym m.is)
    (All-append (IsOrDeclared all) values m.declared (all_from (IsOrDeclared all) values (λ g there. inl (own g there)))
    (all_from (IsOrDeclared all) m.declared
    (λ d there. inr (declared_from all (name_of d) d (All-contains (λ (x : GlobalValue). declared_as all (name_of x) ≡ Some x) m.declared d m.closed.each there)))))

pub of_parts_or_declared : TasksAreOfParts
of_parts_or_declared exports limit index suffixes imports promoted of_parts k t task = (
  module_of_parts (joined of_parts) (slice_index_or of_parts k []) t.own (part_contains of_parts k) task.own,
  module_of_parts (joined of_parts) task.bodies t.imported (bodies_contained (joined of_parts) index.symbols suffixes imports task.bodies task.bodies_are) task.imported,
)
