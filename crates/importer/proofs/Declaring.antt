-- What the values of a task are: of the parts, or declared.
use Rattle.std.proofs.Common.{◌≡◌, ◌≢◌, inl, inr, ℕ, List, [], ◌∷◌, ◌++◌, map, Some, None, refl, sym, ap, subst}
use Rattle.std.proofs.lemmas.List.Elements.{All-nil, Contains-append_cases, Contains-append_left, Contains-append_right}
use Rattle.std.proofs.lemmas.Slice.Eq.{bytes_eq-Decides}
use Rattle.std.specs.List.{Contains}
use Rattle.std.specs.Str.{bytes_eq}
use Rattle.ir_tree.specs.Wholes.{GlobalKnown}
use Rattle.ir_tree.specs.declared.module.GlobalValue.{GlobalValue}
use Rattle.ir_tree.specs.declared.module.GlobalValue.TheVariants as global
use Rattle.ir_tree.specs.declared.operand.Symbol.{Symbol}
use Rattle.ir_meaning.specs.Programs.{symbol_of}
use Rattle.combined_index.proofs.Sources.{find_one}
use Rattle.lto_task.specs.Declarations.{declaration_of}
use Rattle.merge_meaning.specs.Hosts.{getchar, putchar}
use Rattle.merge_meaning.specs.Linkable.{IsOutside}
use Rattle.merge_meaning.proofs.Standing.{alone, first, first_or_later, in_map, later, map_from}
use Rattle.importer.specs.TaskLaws.{IsDeclared}
use Rattle.importer.specs.Tasks.{declared_as, name_of}
use Rattle.importer.proofs.Places.{found_some}

-- ---- one declaration

pub declared_symbol : (g : GlobalValue) → symbol_of (declaration_of g) ≡ symbol_of g
declared_symbol (global.Variable v) = refl
declared_symbol (global.Function f) = refl

-- it names nothing
pub declaration_known : (known : List Symbol) (g : GlobalValue) → GlobalKnown known (declaration_of g)
declaration_known known (global.Variable v) = All-nil _
declaration_known known (global.Function f) = All-nil _

-- what is true of declarations and of the outside's functions is true of what is declared
pub each_declared : (all : List GlobalValue) (P : GlobalValue → Type 0) → ((g : GlobalValue) → Contains all g → P (declaration_of g)) → P getchar → P putchar
    → (d : GlobalValue) → IsDeclared all d → P d
each_declared all P each get put d (inl (g, there, is)) = subst P (sym is) (each g there)
each_declared all P each get put d (inr (inl is)) = subst P (sym is) get
each_declared all P each get put d (inr (inr is)) = subst P (sym is) put

-- ---- what has a name

abbrev offered : List GlobalValue → List GlobalValue
offered all = map declaration_of all ++ (getchar ∷ (putchar ∷ []))

host_declared : (all : List GlobalValue) (d : GlobalValue) → Contains (getchar ∷ (putchar ∷ [])) d → IsDeclared all d
host_declared all d c = elim (first_or_later getchar d (putchar ∷ []) c) [ inl same ↦ inr (inl (sym same)) | inr more ↦ inr (inr (sym (alone putchar d more))) ]

pub declared_from : (all : List GlobalValue) (name : List ℕ) (d : GlobalValue) → declared_as all name ≡ Some d → IsDeclared all d
declared_from all name d e =
    let found = find_one (λ (g : GlobalValue). bytes_eq (symbol_of g).name name) (offered all) d e in
    elim (Contains-append_cases (map declaration_of all) (getchar ∷ (putchar ∷ [])) d found.0) [
      | inl own ↦ let g = map_from declaration_of all d own in inl (g.0, g.1, sym g.2)
      | inr host ↦ host_declared all d host
    ]

-- each name that a value has, or a function of the outside, is declared
offered_found : (all : List GlobalValue) (g : GlobalValue) (name : List ℕ) → Contains (offered all) g → name_of g ≡ name → declared_as all name ≢ None
offered_found all g name there is = found_some (λ (h : GlobalValue). bytes_eq (symbol_of h).name name) (offered all) g there ((bytes_eq-Decides (symbol_of g).name name).1 is)

pub value_declared : (all : List GlobalValue) (g : GlobalValue) → Contains all g → declared_as all (name_of g) ≢ None
value_declared all g there =
    offered_found all (declaration_of g) (name_of g)
    (Contains-append_left (map declaration_of all) (getchar ∷ (putchar ∷ [])) (declaration_of g) (in_map declaration_of all g there)) (ap (λ (s : Symbol). s.name) (declared_symbol g))

host_there : (all : List GlobalValue) (g : GlobalValue) → Contains (getchar ∷ (putchar ∷ [])) g → Contains (offered all) g
host_there all g there = Contains-append_right (map declaration_of all) (getchar ∷ (putchar ∷ [])) g there

pub outside_declared : (all : List GlobalValue) (g : GlobalValue) → IsOutside g → declared_as all (name_of g) ≢ None
outside_declared all g (inl is) = offered_found all putchar (name_of g) (host_there all putchar (later getchar putchar (putchar ∷ []) (first putchar []))) (sym (ap name_of is))
outside_declared all g (inr is) = offered_found all getchar (name_of g) (host_there all getchar (first getchar (putchar ∷ []))) (sym (ap name_of is))
