-- The linked program refines what the modules mean together, and the linked module is verified.
use Rattle.std.proofs.Common.{◌≡◌, ◌≢◌, ◌∙◌, ◌⊎◌, inl, inr, ℕ, suc, Bool, true, false, ◌||◌, cond, List, [], ◌∷◌, ◌++◌, All, Option, Some, None, codes, refl, sym, subst}
use Rattle.std.specs.List.{AllZip}
use Rattle.std.specs.Prelude.{Contains, IsTrue}
use Rattle.ir_tree.specs.Symbols.{symbol_eq}
use Rattle.ir_tree.proofs.Symbols.{symbol_true}
use Rattle.ir_tree.specs.Wholes.{IsVerified, global_symbol, symbols}
use Rattle.ir_tree.specs.Initials.{Initial}
use Rattle.ir_tree.specs.declared.module.GlobalValue.{GlobalValue}
use Rattle.ir_tree.specs.declared.module.GlobalValue.TheVariants as global
use Rattle.ir_tree.specs.declared.module.Module.{Module}
use Rattle.ir_tree.specs.declared.operand.Symbol.{Symbol}
use Rattle.ir_meaning.specs.Refine.{RefinesUnder}
use Rattle.ir_meaning.specs.Programs.{Definition, behind, defined, defined_init, definition_from, or_else, program_of, shared, storage_of, symbol_of}
use Rattle.merge_meaning.specs.Laws.{OutsideIsDeclared}
use Rattle.merge_meaning.specs.Linked.{IsDefinition}
use Rattle.merge_meaning.specs.Lives.{is_export}
use Rattle.merge_meaning.specs.Merged.{declaration, merged}
use Rattle.emit.specs.Emissions.{exported, settled}
use Rattle.emit.specs.Joins.{IsJoin}
use Rattle.emit.specs.Laws.{AreLinkable, EmissionIsClosed, EmissionIsReordering, EmissionIsSound, EmissionIsWhole, IsOutside, JoinIsEmission, keeps_symbol}
use Rattle.importer.proofs.Members.{Stands, all_of, contained, either_part, image_stands, of_each}
use Rattle.link_one.specs.MeaningLaws.{CompiledRefines, ExportedIsDefined}
use Rattle.ir_print.specs.Modules.{module_text}
use Rattle.symbol_resolve.specs.Clashes.{given_text}
use Rattle.ir_tree.specs.declared.target_line.TargetLine.TheVariants.{Datalayout, Triple}
use Rattle.lto_task.specs.Pieces.{IsPieceOf}
use Rattle.lto_task.specs.declared.piece.Piece.{Piece}
use Rattle.link_one.specs.Linked.{IsLinked}
use Rattle.link_one.specs.LinkedLaws.{IsLinkedText}
use Rattle.link_one.specs.Naming.{linked_names}
use Rattle.link_one.proofs.Linkable.{Compilation, MakingLaws, all, all_whole, by_parts, improved, lives, made, made_define, made_formed, made_homeless, made_known, made_once, made_sound, outs, same_made}

-- what is true of what is emitted
pub record EmittingLaws : Type 0 where
  pub outside : OutsideIsDeclared
  pub exported : ExportedIsDefined
  pub refines : CompiledRefines
  pub closed : EmissionIsClosed
  pub reordered : EmissionIsReordering
  pub whole : EmissionIsWhole
  pub sound : EmissionIsSound

-- ---- symbols

same_symbol : (g : GlobalValue) → global_symbol g ≡ symbol_of g
same_symbol (global.Function f) = refl
same_symbol (global.Variable v) = refl

-- ---- exported names

named_among : (exports : List (List ℕ)) (s : Symbol) → is_export exports s ≡ true → (name : List ℕ) × Stands exports name × (s ≡ shared name)
named_among [] s e = absurd (cc e)
named_among (name ∷ exports) s e = by (symbol_eq (shared name) s) refl e (named_among exports s)
  where
    by : (b : Bool) → symbol_eq (shared name) s ≡ b → b || is_export exports s ≡ true → (is_export exports s ≡ true → (n : List ℕ) × Stands exports n × (s ≡ shared n))
        → (n : List ℕ) × Stands (name ∷ exports) n × (s ≡ shared n)
    by true same h rest = (name, (0, refl), sym (symbol_true (shared name) s same))
    by false other h rest =
        let r = rest h in
        (r.0, (suc r.1.0, r.1.1), r.2)

-- ---- definitions

defined_anywhere : (n : ℕ) (g : GlobalValue) → defined n g ≢ None → IsDefinition g
defined_anywhere n (global.Function f) some = some
defined_anywhere n (global.Variable v) some = by (defined_init v) some
  where
    by : (o : Option Initial) → storage_of o n v ≢ None → storage_of o 0 v ≢ None
    by None h = h
    by (Some init) h = λ e. cc e

-- what defines a symbol stands among the values
pub record Defines (gs : List GlobalValue) (s : Symbol) : Type 0 where
  pub value : GlobalValue
  pub stands : Stands gs value
  pub symbol : symbol_of value ≡ s
  pub definition : IsDefinition value

pub definer : (gs : List GlobalValue) (n : ℕ) (s : Symbol) → definition_from n gs s ≢ None → Defines gs s
definer [] n s some = absurd (some refl)
definer (g ∷ gs) n s some = by (symbol_eq (symbol_of g) s) refl (defined n g) refl some (λ more. later (definer gs (behind n (defined n g)) s more))
  where
    later : Defines gs s → Defines (g ∷ gs) s
    later d = record { value = d.value; stands = (suc d.stands.0, d.stands.1); symbol = d.symbol; definition = d.definition }

    by : (b : Bool) → symbol_eq (symbol_of g) s ≡ b → (d : Option Definition) → defined n g ≡ d → or_else (cond b d None) (definition_from (behind n (defined n g)) gs s) ≢ None
        → (definition_from (behind n (defined n g)) gs s ≢ None → Defines (g ∷ gs) s) → Defines (g ∷ gs) s
    by true same (Some d) is h rest = record {
      value = g;
      stands = (0, refl);
      symbol = symbol_true (symbol_of g) s same;
      definition = defined_anywhere n g (λ none. let clash : Some d ≡ None = sym is ∙ none in cc clash);
    }
    by true same None is h rest = rest h
    by false other d is h rest = rest h

-- a function of the outside is declared alone
declared_outside : (g : GlobalValue) → (g ≡ declaration (codes "putchar")) ⊎ (g ≡ declaration (codes "getchar")) → IsOutside g
declared_outside g (inl e) = subst IsOutside (sym e) (refl, inr refl)
declared_outside g (inr e) = subst IsOutside (sym e) (refl, inl refl)

module _ (laws : MakingLaws) (emits : EmittingLaws) (exports : List (List ℕ)) (import_limit inline_limit : ℕ) (suffixes : List (List ℕ)) (ms : List Module) (verified : All IsVerified ms) (c : Compilation exports import_limit inline_limit suffixes ms) where
  abbrev live : List GlobalValue
  live = lives laws exports import_limit inline_limit suffixes ms verified c

  abbrev compiled : List GlobalValue
  compiled = made laws exports import_limit inline_limit suffixes ms verified c

  abbrev hosts : List GlobalValue
  hosts = outs laws exports import_limit inline_limit suffixes ms verified c

  hosts_outside : All IsOutside hosts
  hosts_outside =
      all_of IsOutside hosts
      (λ g s. declared_outside g (of_each (λ (x : GlobalValue). (x ≡ declaration (codes "putchar")) ⊎ (x ≡ declaration (codes "getchar"))) hosts g (emits.outside ms c.index.symbols c.live suffixes) s))

  -- an exported name is defined by what is compiled
  exported_there : (name : List ℕ) → Contains exports name → Contains (symbols compiled) (shared name)
  exported_there name there =
      let defines = (emits.exported ms exports import_limit c.index c.live c.imports suffixes (all_whole ms verified) c.thin c.named name there).1 in
      let d = definer live 0 (shared name) defines in
      let stands : Stands (all laws exports import_limit inline_limit suffixes ms verified c ++ hosts) d.value =
      subst (λ (gs : List GlobalValue). Stands gs d.value) (by_parts laws exports import_limit inline_limit suffixes ms verified c) d.stands in
      let own : Stands (all laws exports import_limit inline_limit suffixes ms verified c) d.value =
      elim (either_part (all laws exports import_limit inline_limit suffixes ms verified c) hosts d.value stands) [
        | inl s ↦ s
        | inr s ↦ absurd (d.definition (of_each IsOutside hosts d.value hosts_outside s).0)
      ] in
      let symbol : Stands (symbols (all laws exports import_limit inline_limit suffixes ms verified c)) (global_symbol d.value) = image_stands global_symbol (all laws exports import_limit inline_limit suffixes ms verified c) d.value own in
      contained (symbols compiled) (shared name)
      (subst (λ (ss : List Symbol). Stands ss (shared name)) (sym (same_made laws exports import_limit inline_limit suffixes ms verified c))
      (subst (λ (s : Symbol). Stands (symbols (all laws exports import_limit inline_limit suffixes ms verified c)) s) (same_symbol d.value ∙ d.symbol) symbol))

  pub linkable : AreLinkable exports compiled hosts
  linkable = record {
    definitions = made_define laws exports import_limit inline_limit suffixes ms verified c;
    outside = hosts_outside;
    once = made_once laws exports import_limit inline_limit suffixes ms verified c;
    homeless = made_homeless laws exports import_limit inline_limit suffixes ms verified c;
    known = made_known laws exports import_limit inline_limit suffixes ms verified c;
    exported = exported_there;
  }

  -- ---- its text

  pub linked_text : JoinIsEmission → (pieces : List Piece) (text : List ℕ) → AllZip (λ g. IsPieceOf (settled exports g)) compiled pieces
      → IsJoin exports pieces (module_text (record { datalayout = given_text Datalayout ms; triple = given_text Triple ms; globals = [] })) text → IsLinkedText exports import_limit inline_limit suffixes ms text
  linked_text emission pieces text printed join =
      let made = emission exports compiled hosts pieces (record { datalayout = given_text Datalayout ms; triple = given_text Triple ms; globals = [] }) text linkable printed join in
      record {
        l = record { datalayout = given_text Datalayout ms; triple = given_text Triple ms; globals = made.0 };
        linked = record {
          index = c.index;
          live = c.live;
          imports = c.imports;
          thin = c.thin;
          named = c.named;
          made = record { units = c.units; compiled = c.compiled; emitted = made.1 };
          datalayout = refl;
          triple = refl;
        };
        is = made.2;
      }

-- ---- refinement

-- what a link had
abbrev compilation : (exports : List (List ℕ)) (import_limit inline_limit : ℕ) (suffixes : List (List ℕ)) (ms : List Module) (l : Module) → IsLinked exports import_limit inline_limit suffixes ms l
    → Compilation exports import_limit inline_limit suffixes ms
compilation exports import_limit inline_limit suffixes ms l linked = record {
  index = linked.index;
  live = linked.live;
  imports = linked.imports;
  thin = linked.thin;
  named = linked.named;
  units = linked.made.units;
  compiled = linked.made.compiled;
}

module _ (laws : MakingLaws) (emits : EmittingLaws) (exports : List (List ℕ)) (import_limit inline_limit : ℕ) (suffixes : List (List ℕ)) (ms : List Module) (l : Module) (verified : All IsVerified ms) (linked : IsLinked exports import_limit inline_limit suffixes ms l) where
  abbrev before : Compilation exports import_limit inline_limit suffixes ms
  before = compilation exports import_limit inline_limit suffixes ms l linked

  abbrev definitions : List GlobalValue
  definitions = compiled laws emits exports import_limit inline_limit suffixes ms verified before

  abbrev outsiders : List GlobalValue
  outsiders = hosts laws emits exports import_limit inline_limit suffixes ms verified before

  can_link : AreLinkable exports definitions outsiders
  can_link = linkable laws emits exports import_limit inline_limit suffixes ms verified before

  exported_kept : (s : Symbol) → IsTrue (is_export exports s) → keeps_symbol linked.made.emitted.keeps s ≡ true
  exported_kept s e =
      let n = named_among exports s e in
      subst (λ (u : Symbol). keeps_symbol linked.made.emitted.keeps u ≡ true) (sym n.2) ((linked.made.emitted.kept n.0).1 (exported n.0 (contained exports n.0 n.1)))

  pub linked_refines : RefinesUnder (linked_names exports import_limit inline_limit suffixes ms l linked) (program_of l.globals) (merged ms) (λ s. IsTrue (is_export exports s))
  linked_refines =
      let better = improved laws exports import_limit inline_limit suffixes ms verified before in
      emits.refines ms exports import_limit linked.index linked.live linked.imports suffixes (all_whole ms verified) linked.thin linked.named
      (definitions ++ outsiders) l.globals better.0 (keeps_symbol linked.made.emitted.keeps) better.1
      (emits.closed exports definitions outsiders l.globals can_link linked.made.emitted) exported_kept
      (emits.reordered exports definitions outsiders l.globals can_link linked.made.emitted)

  -- ---- the linked module

  pub linked_verified : IsVerified l
  linked_verified = record {
    whole = emits.whole exports definitions outsiders l.globals can_link (made_formed laws exports import_limit inline_limit suffixes ms verified before) linked.made.emitted;
    sound = emits.sound exports definitions l.globals (made_define laws exports import_limit inline_limit suffixes ms verified before) (made_sound laws exports import_limit inline_limit suffixes ms verified before) linked.made.emitted;
  }
