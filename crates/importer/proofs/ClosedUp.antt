-- Values of a link's parts, closed up by declarations, are a verified module.
use Rattle.std.proofs.Common.{◌≡◌, ◌≢◌, ◌∙◌, inl, inr, ℕ, Bool, true, false, List, ◌++◌, map, Some, None, refl, sym, ap, subst}
use Rattle.std.proofs.lemmas.List.{map-append}
use Rattle.std.proofs.lemmas.List.Elements.{All-append, All-contains, All-nil, Contains-append_cases, Contains-append_left, Contains-append_right}
use Rattle.std.proofs.lemmas.Slice.Eq.{bytes_eq-Decides}
use Rattle.std.specs.List.{All, Contains}
use Rattle.std.specs.Str.{bytes_eq}
use Rattle.ir_tree.specs.Formed.{Distinct}
use Rattle.ir_tree.specs.Wholes.{GlobalFormed, GlobalKnown, GlobalSound, IsVerified, Whole, global_symbol, symbols}
use Rattle.ir_tree.specs.declared.module.GlobalValue.{GlobalValue}
use Rattle.ir_tree.specs.declared.operand.Symbol.{Symbol}
use Rattle.ir_summary.specs.References.{global_names}
use Rattle.ir_meaning.specs.Programs.{symbol_of}
use Rattle.lto_task.specs.Declarations.{DeclarationsAreSound, declaration_of}
use Rattle.lto_task.specs.Tasks.{module_of}
use Rattle.merge_meaning.specs.Hosts.{getchar, putchar}
use Rattle.merge_meaning.specs.ByName.{is_named}
use Rattle.merge_meaning.specs.Linkable.{AreLinkable, IsOutside}
use Rattle.merge_meaning.proofs.Looked.{same_symbol}
use Rattle.merge_meaning.proofs.Names.{clash}
use Rattle.merge_meaning.proofs.Prevailing.{symbol_by_parts}
use Rattle.merge_meaning.proofs.Standing.{any_by, any_from, in_map, map_from}
use Rattle.merge_meaning.proofs.References.{all_from, known_more}
use Rattle.importer.specs.TaskLaws.{IsDeclared}
use Rattle.importer.specs.Tasks.{IsClosedUp, IsLacked, IsModuleOf, declared_as, name_of}
use Rattle.importer.proofs.Declaring.{declaration_known, declared_from, declared_symbol, each_declared, outside_declared, value_declared}
use Rattle.importer.proofs.Hosts.{getchar_formed, getchar_sound, putchar_formed, putchar_sound}
use Rattle.importer.proofs.Members.{contained}
use Rattle.importer.proofs.OnceNamed.{distinct_append, rising_once, symbols_once}

-- what a link has of values, and functions of the outside behind them
pub record Supply (all outs : List GlobalValue) : Type 0 where
  pub together : AreLinkable (all ++ outs)
  pub outside : All IsOutside outs
  pub formed : All GlobalFormed all
  pub sound : All GlobalSound all
  pub declares : DeclarationsAreSound

pub homeless_in : (gs : List GlobalValue) → AreLinkable gs → (g : GlobalValue) → Contains gs g → (symbol_of g).home ≡ None
homeless_in gs together g there =
    ap (λ (s : Symbol). s.home) (same_symbol g) ∙ All-contains (λ (s : Symbol). s.home ≡ None) (symbols gs) (global_symbol g) together.homeless (in_map global_symbol gs g there)

-- a value without a home that has the symbol's name has the symbol
has_symbol : (gs : List GlobalValue) (g : GlobalValue) (s : Symbol) → Contains gs g → (symbol_of g).home ≡ None → s.home ≡ None → name_of g ≡ s.name → Contains (symbols gs) s
has_symbol gs g s there at_home home name =
    subst (Contains (symbols gs)) (sym (same_symbol g) ∙ symbol_by_parts (symbol_of g) s (at_home ∙ sym home) name) (in_map global_symbol gs g there)

module _ (all outs : List GlobalValue) (supply : Supply all outs) (values declared : List GlobalValue) (own : (g : GlobalValue) → Contains values g → Contains all g) (once : Distinct (map name_of values))
    (closed : IsClosedUp all values declared) where
  abbrev stock : List GlobalValue
  stock = all ++ outs

  abbrev together : List GlobalValue
  together = values ++ declared

  homeless_value : (g : GlobalValue) → Contains all g → (symbol_of g).home ≡ None
  homeless_value g there = homeless_in stock supply.together g (Contains-append_left all outs g there)

  -- ---- what is declared

  is_declared : (d : GlobalValue) → Contains declared d → IsDeclared all d
  is_declared d there = declared_from all (name_of d) d (All-contains (λ (x : GlobalValue). declared_as all (name_of x) ≡ Some x) declared d closed.each there)

  all_declared : (P : GlobalValue → Type 0) → ((g : GlobalValue) → Contains all g → P (declaration_of g)) → P getchar → P putchar → All P declared
  all_declared P each get put = all_from P declared (λ d there. each_declared all P each get put d (is_declared d there))

  formed_in : (g : GlobalValue) → Contains all g → GlobalFormed g
  formed_in g there = All-contains GlobalFormed all g supply.formed there

  declared_formed : All GlobalFormed declared
  declared_formed = all_declared GlobalFormed (λ g there. (supply.declares g (formed_in g there)).0) getchar_formed putchar_formed

  declared_sound : All GlobalSound declared
  declared_sound = all_declared GlobalSound (λ g there. (supply.declares g (formed_in g there)).1) getchar_sound putchar_sound

  declared_homeless : All (λ d. (symbol_of d).home ≡ None) declared
  declared_homeless = all_declared (λ d. (symbol_of d).home ≡ None) (λ g there. ap (λ (s : Symbol). s.home) (declared_symbol g) ∙ homeless_value g there) refl refl

  declared_known : (known : List Symbol) → All (GlobalKnown known) declared
  declared_known known = all_declared (GlobalKnown known) (λ g there. declaration_known known g) (All-nil _) (All-nil _)

  -- ---- names

  homeless : (g : GlobalValue) → Contains together g → (symbol_of g).home ≡ None
  homeless g there = elim (Contains-append_cases values declared g there) [
    | inl mine ↦ homeless_value g (own g mine)
    | inr more ↦ All-contains (λ (d : GlobalValue). (symbol_of d).home ≡ None) declared g declared_homeless more
  ]

  names_apart : (name : List ℕ) → Contains (map name_of values) name → Contains (map name_of declared) name → ⊥
  names_apart name mine more = ((closed.just name).0 more).0.lacks mine

  symbols_apart : Distinct (symbols together)
  symbols_apart =
      symbols_once together
      (subst Distinct (sym (map-append name_of values declared))
      (distinct_append (map name_of values) (map name_of declared) once (rising_once (map name_of declared) closed.rise)
      (λ name s t. names_apart name (contained (map name_of values) name s) (contained (map name_of declared) name t))))

  -- ---- what is referred to

  -- each symbol of the link has a declaration
  can_declare : (s : Symbol) → Contains (symbols stock) s → declared_as all s.name ≢ None
  can_declare s there =
      let g = map_from global_symbol stock s there in
      let name : name_of g.0 ≡ s.name = ap (λ (u : Symbol). u.name) (same_symbol g.0 ∙ g.2) in
      subst (λ (n : List ℕ). declared_as all n ≢ None) name (elim (Contains-append_cases all outs g.0 g.1) [
        | inl mine ↦ value_declared all g.0 mine
        | inr out ↦ outside_declared all g.0 (All-contains IsOutside outs g.0 supply.outside out)
      ])

  -- what a value refers to stands among the values, or is declared
  stands : (g : GlobalValue) → Contains values g → (s : Symbol) → Contains (symbols stock) s → Contains (global_names g) s.name → Contains (symbols together) s
  stands g there s known refers = by (is_named values s.name) refl
    where
      home : s.home ≡ None
      home = All-contains (λ (u : Symbol). u.home ≡ None) (symbols stock) s supply.together.homeless known

      of : (h : GlobalValue) → Contains together h → name_of h ≡ s.name → Contains (symbols together) s
      of h c name = has_symbol together h s c (homeless h c) home name

      by : (b : Bool) → is_named values s.name ≡ b → Contains (symbols together) s
      by true e =
          let h = any_from (λ (x : GlobalValue). bytes_eq (symbol_of x).name s.name) values e in
          of h.0 (Contains-append_left values declared h.0 h.1) ((bytes_eq-Decides (symbol_of h.0).name s.name).0 h.2)
      by false e =
          let lacked : IsLacked values s.name = record {
            user = g;
            is_there = there;
            refers = refers;
            lacks = λ c.
                let h = map_from name_of values s.name c in
                clash (is_named values s.name) e
                (any_by (λ (x : GlobalValue). bytes_eq (symbol_of x).name s.name) values h.0 h.1 ((bytes_eq-Decides (symbol_of h.0).name s.name).1 h.2));
          } in
          let d = map_from name_of declared s.name ((closed.just s.name).1 (lacked, can_declare s known)) in
          of d.0 (Contains-append_right values declared d.0 d.1) d.2

  values_known : All (GlobalKnown (symbols together)) values
  values_known =
      all_from (GlobalKnown (symbols together)) values
      (λ g there.
      known_more (symbols stock) (symbols together) g
      (All-contains (λ (h : GlobalValue). GlobalKnown (symbols stock) h) stock g supply.together.known (Contains-append_left all outs g (own g there))) (stands g there))

  -- ---- the module

  all_own : (P : GlobalValue → Type 0) → All P all → All P values
  all_own P each = all_from P values (λ g there. All-contains P all g each (own g there))

  whole : Whole together
  whole = record {
    formed = All-append GlobalFormed values declared (all_own GlobalFormed supply.formed) declared_formed;
    once = symbols_apart;
    homeless =
        all_from (λ (s : Symbol). s.home ≡ None) (symbols together)
        (λ s c.
        let g = map_from global_symbol together s c in
        ap (λ (u : Symbol). u.home) (sym g.2 ∙ sym (same_symbol g.0)) ∙ homeless g.0 g.1);
    known = All-append (GlobalKnown (symbols together)) values declared values_known (declared_known (symbols together));
  }

  pub closed_verified : IsVerified (module_of together)
  closed_verified = record { whole = whole; sound = All-append GlobalSound values declared (all_own GlobalSound supply.sound) declared_sound }

-- a module of values that stand once
pub module_verified : (all outs : List GlobalValue) → Supply all outs → (values globals : List GlobalValue) → ((g : GlobalValue) → Contains values g → Contains all g) → Distinct (map name_of values)
    → IsModuleOf all values globals → IsVerified (module_of globals)
module_verified all outs supply values globals own once m =
    subst (λ (gs : List GlobalValue). IsVerified (module_of gs)) (sym m.is) (closed_verified all outs supply values m.declared own once m.closed)
