-- Kept definitions refer to kept symbols alone.
use Rattle.std.proofs.Common.{◌≡◌, ◌∙◌, ◌⊎◌, inl, inr, ℕ, Bool, true, List, ◌++◌, Option, Some, None, codes, refl, sym, ap, subst}
use Rattle.std.proofs.lemmas.List.{map-append}
use Rattle.std.proofs.lemmas.List.Elements.{All-contains, Contains-append_cases, Contains-append_left}
use Rattle.std.specs.List.{Contains}
use Rattle.ir_tree.specs.Wholes.{GlobalKnown, global_symbol, symbols}
use Rattle.ir_tree.specs.declared.module.GlobalValue.{GlobalValue}
use Rattle.ir_tree.specs.declared.operand.Symbol.{Symbol}
use Rattle.ir_tree.specs.Symbols.{symbol_eq}
use Rattle.ir_tree.proofs.Symbols.{symbol_true}
use Rattle.ir_meaning.specs.Frame.{Missing}
use Rattle.ir_meaning.specs.Programs.{Body, Definition, Storage, defined, definition_of, is_declared, kind_of, shared, signature_of, symbol_of, undefined_kind}
use Rattle.merge_meaning.specs.Globals.{named_by}
use Rattle.merge_meaning.specs.Linked.{DefinitionNames, IsClosed, IsDefinition}
use Rattle.merge_meaning.proofs.Bodies.{definition_names, global_kept}
use Rattle.merge_meaning.proofs.Looked.{Found, defined_there, found, same_symbol}
use Rattle.merge_meaning.proofs.OneModule.{global_stays}
use Rattle.merge_meaning.proofs.Prevailing.{symbol_by_parts}
use Rattle.merge_meaning.proofs.Reordered.{any_number, contained, contains, is_definition}
use Rattle.merge_meaning.proofs.Standing.{any_from, map_from}
use Rattle.merge_meaning.proofs.References.{names_known}
use Rattle.emit.specs.Emissions.{IsEmission, IsKept, exported, referred}
use Rattle.emit.specs.Laws.{AreLinkable, EmissionIsClosed, ExportsAreKept, IsOutside, keeps_symbol}
use Rattle.emit.proofs.Reordering.{declared_by, live_parts}

module _ (exports : List (List ℕ)) (hs hosts ks : List GlobalValue) (l : AreLinkable exports hs hosts) (e : IsEmission exports hs ks) where
  abbrev gs : List GlobalValue
  gs = hs ++ hosts

  abbrev live : Symbol → Bool
  live = keeps_symbol e.keeps

  -- a kept name is that of a symbol that stands there
  kept_known : (name : List ℕ) → IsKept exports hs name → Contains (symbols gs) (shared name)
  kept_known name (exported _ h) =
      subst (λ (ss : List Symbol). Contains ss (shared name)) (sym (map-append global_symbol hs hosts)) (Contains-append_left (symbols hs) (symbols hosts) (shared name) (l.exported name h))
  kept_known name (referred h _ there _ names) =
      let known = names_known (symbols gs) h (All-contains (λ (g : GlobalValue). GlobalKnown (symbols gs) g) hs h l.known there) name names in
      subst (Contains (symbols gs))
      (symbol_by_parts known.0 (shared name) (All-contains (λ (s : Symbol). s.home ≡ None) (symbols gs) known.0 l.homeless known.1) known.2) known.1

  pub kept_global : (name : List ℕ) → IsKept exports hs name → (g : GlobalValue) × Contains gs g × (symbol_of g ≡ shared name)
  kept_global name kept = let found = map_from global_symbol gs (shared name) (kept_known name kept) in (found.0, found.1, same_symbol found.0 ∙ found.2)

  host_kind : (s : Symbol) → (s ≡ shared (codes "getchar")) ⊎ (s ≡ shared (codes "putchar")) → undefined_kind s.home s.name ≡ Missing → ⊥
  host_kind s (inl same) = subst (λ (x : Symbol). undefined_kind x.home x.name ≡ Missing → ⊥) (sym same) (λ m. cc m)
  host_kind s (inr same) = subst (λ (x : Symbol). undefined_kind x.home x.name ≡ Missing → ⊥) (sym same) (λ m. cc m)

  there : (s : Symbol) → live s ≡ true → (signature_of gs).kind s ≡ Missing → ⊥
  there s lives = by (definition_of gs s) refl
    where
      parts : (s ≡ shared s.name) × (e.keeps s.name ≡ true)
      parts = live_parts exports hs hosts ks l e s lives

      g : (x : GlobalValue) × Contains gs x × (symbol_of x ≡ shared s.name)
      g = kept_global s.name ((e.kept s.name).0 parts.1)

      same : symbol_of g.0 ≡ s
      same = g.2 ∙ sym parts.0

      none : definition_of gs s ≡ None → Contains hs g.0 ⊎ Contains hosts g.0 → undefined_kind s.home s.name ≡ Missing → ⊥
      none e (inl h) m =
          let place = contained gs g.1.0 g.0 g.1.1 g.1.2 in
          defined_there gs g.1.0 g.0 place (any_number g.0 (All-contains IsDefinition hs g.0 l.definitions h)) 0 (ap (definition_of gs) same ∙ e)
      none e (inr h) m =
          host_kind s (subst (λ (x : Symbol). (x ≡ shared (codes "getchar")) ⊎ (x ≡ shared (codes "putchar"))) same (All-contains IsOutside hosts g.0 l.outside h).1) m

      by : (o : Option Definition) → definition_of gs s ≡ o → kind_of (is_declared gs s) s o ≡ Missing → ⊥
      by (Some (Body f)) e m = cc m
      by (Some (Storage n v init)) e m = cc m
      by None e m =
          none e (Contains-append_cases hs hosts g.0 g.1)
          (subst (λ (b : Bool). kind_of b s None ≡ Missing) (declared_by gs g.0 s g.1 same) m)

  closed : (s : Symbol) → live s ≡ true → DefinitionNames live (definition_of gs s)
  closed s lives = by (definition_of gs s) refl
    where
      names : (g : GlobalValue) → Contains hs g → symbol_of g ≡ s → (n : ℕ) → DefinitionNames live (defined n g)
      names g there same n =
          subst (λ (x : GlobalValue). DefinitionNames live (defined n x)) (global_stays (named_by (λ s. s)) (λ s. refl) g)
          (definition_names (named_by (λ s. s)) live n g
          (global_kept (named_by (λ s. s)) live (symbols gs) l.homeless g (All-contains (λ (x : GlobalValue). GlobalKnown (symbols gs) x) hs g l.known there) (λ name c.
          (e.kept name).1 (referred g name there ((e.kept (symbol_of g).name).0 (subst (λ (x : Symbol). e.keeps x.name ≡ true) (sym same) (live_parts exports hs hosts ks l e s lives).1)) c))))

      by : (o : Option Definition) → definition_of gs s ≡ o → DefinitionNames live o
      by None e = tt
      by (Some d) e = subst (DefinitionNames live) f.is (either (Contains-append_cases hs hosts f.g (contains gs f.j f.g f.at)))
        where
          f : Found gs s d
          f = found gs 0 s d e

          either : Contains hs f.g ⊎ Contains hosts f.g → DefinitionNames live (defined f.n f.g)
          either (inl h) = names f.g h f.symbol f.n
          either (inr h) = absurd (is_definition f.g f.n d f.is (All-contains IsOutside hosts f.g l.outside h).0)

  is_closed_there : IsClosed live gs
  is_closed_there = record { there = there; closed = closed }

pub is_closed : EmissionIsClosed
is_closed exports hs hosts ks l e = is_closed_there exports hs hosts ks l e

pub are_kept : ExportsAreKept
are_kept exports hs ks e s h =
    let found = any_from (λ (name : List ℕ). symbol_eq (shared name) s) exports h in
    subst (λ (x : Symbol). keeps_symbol e.keeps x ≡ true) (symbol_true (shared found.0) s found.2) ((e.kept found.0).1 (exported found.0 found.1))
