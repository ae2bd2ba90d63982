-- The linked module has the kept values in another order.
use Rattle.std.proofs.Common.{◌≡◌, ◌∙◌, ◌⊎◌, inl, inr, ◌&&◌, not, is_none, ℕ, Bool, true, false, cond, if◌then◌else◌, List, [], ◌∷◌, ◌++◌, map, filter, Option, Some, None, codes, refl, sym, ap, ap₂, subst}
use Rattle.std.proofs.lemmas.Bool.{and_from, and_parts, false≢true}
use Rattle.std.proofs.lemmas.List.{map-append}
use Rattle.std.proofs.lemmas.List.Elements.{All-contains, Contains-append_cases, Contains-append_left, Contains-append_right}
use Rattle.std.proofs.lemmas.Slice.Eq.{bytes_eq-Decides}
use Rattle.std.specs.List.{Contains, list_any}
use Rattle.std.specs.Str.{bytes_eq}
use Rattle.ir_tree.specs.Formed.{Distinct}
use Rattle.ir_tree.specs.Linkages.{defines}
use Rattle.ir_tree.specs.Symbols.{symbol_eq}
use Rattle.ir_tree.specs.Wholes.{global_symbol, symbols}
use Rattle.ir_tree.specs.declared.function.Function.{Function}
use Rattle.ir_tree.specs.declared.function.Linkage.TheVariants.{External, Internal}
use Rattle.ir_tree.specs.declared.function.Variable.{Variable}
use Rattle.ir_tree.specs.declared.module.GlobalValue.{GlobalValue}
use Rattle.ir_tree.specs.declared.module.GlobalValue.TheVariants as global
use Rattle.ir_tree.specs.declared.operand.Symbol.{Symbol}
use Rattle.ir_tree.proofs.Symbols.{symbol_same, symbol_true}
use Rattle.ir_meaning.specs.Programs.{body_of, defined, is_declared, shared, storage_of, symbol_of}
use Rattle.merge_meaning.specs.Globals.{named_by}
use Rattle.merge_meaning.specs.Linked.{IsDefinition, IsLike, IsReordering, emission}
use Rattle.merge_meaning.specs.Hosts.{getchar, putchar}
use Rattle.merge_meaning.specs.ByName.{is_named}
use Rattle.merge_meaning.proofs.Looked.{same_symbol}
use Rattle.merge_meaning.proofs.Names.{clash, not_true}
use Rattle.merge_meaning.proofs.OneModule.{globals_stay}
use Rattle.merge_meaning.proofs.Prevailing.{symbol_by_parts}
use Rattle.merge_meaning.proofs.Standing.{any_by, any_from, filter_from, in_filter, in_map, map_from}
use Rattle.emit.specs.Emissions.{IsEmission, in_use, is_variable, linkage_of, outside_in_use, settled}
use Rattle.emit.specs.Laws.{AreLinkable, EmissionIsReordering, IsOutside, keeps_symbol}
use Rattle.emit.proofs.Distinctions.{apart, distinct_append, distinct_filter, distinct_left, distinct_moved, distinct_one, one_value}
use Rattle.emit.proofs.Members.{comes, of_group, outside_is, outside_stays, settled_symbol, settled_symbols, stays, used, used_is}

-- ---- a definition that is settled

settles : (exports : List (List ℕ)) (name : List ℕ) → defines (linkage_of exports name) ≡ true
settles exports name = by (list_any (bytes_eq name) exports)
  where
    by : (b : Bool) → defines (if b then External else Internal) ≡ true
    by true = refl
    by false = refl

function_counts : (f : Function) → IsDefinition (global.Function f) → defines f.linkage ≡ true
function_counts f is = by (defines f.linkage) is
  where
    by : (b : Bool) → (body_of (cond b f.blocks []) f ≡ None → ⊥) → b ≡ true
    by true is = refl
    by false is = absurd (is refl)

variable_counts : (v : Variable) → IsDefinition (global.Variable v) → defines v.linkage ≡ true
variable_counts v is = by (defines v.linkage) is
  where
    by : (b : Bool) → (storage_of (cond b v.init None) 0 v ≡ None → ⊥) → b ≡ true
    by true is = refl
    by false is = absurd (is refl)

like_settled : (exports : List (List ℕ)) (g : GlobalValue) → IsDefinition g → IsLike g (settled exports g)
like_settled exports (global.Variable v) is = (refl, refl, refl, refl, refl, settles exports v.symbol.name ∙ sym (variable_counts v is))
like_settled exports (global.Function f) is = (refl, refl, refl, refl, settles exports f.symbol.name ∙ sym (function_counts f is))

-- ---- declarations

pub declared_by : (gs : List GlobalValue) (g : GlobalValue) (s : Symbol) → Contains gs g → symbol_of g ≡ s → is_declared gs s ≡ true
declared_by gs g s there same = any_by (λ (x : GlobalValue). symbol_eq (symbol_of x) s) gs g there (symbol_same (symbol_of g) s same)

outside_defines_none : (g : GlobalValue) → (getchar ≡ g) ⊎ (putchar ≡ g) → IsDefinition g → ⊥
outside_defines_none g (inl same) is = is (subst (λ (x : GlobalValue). defined 0 x ≡ None) same refl)
outside_defines_none g (inr same) is = is (subst (λ (x : GlobalValue). defined 0 x ≡ None) same refl)

used_once : (keeps : List ℕ → Bool) (hs : List GlobalValue) (g : GlobalValue) → Distinct (symbols (in_use keeps hs g))
used_once keeps hs g = by (keeps (symbol_of g).name && not (is_named hs (symbol_of g).name))
  where
    by : (b : Bool) → Distinct (symbols (if b then g ∷ [] else []))
    by true = distinct_one (global_symbol g)
    by false = λ i j x a b. absurd (cc a)

outside_once : (keeps : List ℕ → Bool) (hs : List GlobalValue) → Distinct (symbols (outside_in_use keeps hs))
outside_once keeps hs =
    subst (λ (ss : List Symbol). Distinct ss) (sym (map-append global_symbol (in_use keeps hs getchar) (in_use keeps hs putchar)))
    (distinct_append (symbols (in_use keeps hs getchar)) (symbols (in_use keeps hs putchar)) (used_once keeps hs getchar) (used_once keeps hs putchar) away)
  where
    symbol_is : (g : GlobalValue) (s : Symbol) → Contains (symbols (in_use keeps hs g)) s → global_symbol g ≡ s
    symbol_is g s h =
        let found = map_from global_symbol (in_use keeps hs g) s h in
        ap global_symbol (used_is keeps hs g found.0 found.1).0 ∙ found.2

    away : (s : Symbol) → Contains (symbols (in_use keeps hs getchar)) s → Contains (symbols (in_use keeps hs putchar)) s → ⊥
    away s h k = false≢true (symbol_same (global_symbol getchar) (global_symbol putchar) (symbol_is getchar s h ∙ sym (symbol_is putchar s k)))

-- ---- the linked module

module _ (exports : List (List ℕ)) (hs hosts ks : List GlobalValue) (l : AreLinkable exports hs hosts) (e : IsEmission exports hs ks) where
  abbrev gs : List GlobalValue
  gs = hs ++ hosts

  abbrev live : Symbol → Bool
  live = keeps_symbol e.keeps

  pub live_parts : (s : Symbol) → live s ≡ true → (s ≡ shared s.name) × (e.keeps s.name ≡ true)
  live_parts s h =
      let parts = and_parts (is_none s.home) (e.keeps s.name) h in
      (symbol_by_parts s (shared s.name) (by s.home parts.0) refl, parts.1)
    where
      by : (o : Option ℕ) → is_none o ≡ true → o ≡ None
      by None e = refl
      by (Some k) e = absurd (cc e)

  pub homeless_of : (g : GlobalValue) → Contains gs g → symbol_of g ≡ shared (symbol_of g).name
  homeless_of g there =
      symbol_by_parts (symbol_of g) (shared (symbol_of g).name)
      (ap (λ (s : Symbol). s.home) (same_symbol g) ∙ All-contains (λ (s : Symbol). s.home ≡ None) (symbols gs) (global_symbol g) l.homeless (in_map global_symbol gs g there)) refl

  live_of : (g : GlobalValue) → Contains gs g → e.keeps (symbol_of g).name ≡ true → live (symbol_of g) ≡ true
  live_of g there on = and_from (is_none (symbol_of g).home) (e.keeps (symbol_of g).name) (ap (λ (s : Symbol). is_none s.home) (homeless_of g there)) on

  -- no function of the outside has the symbol of a definition
  away : (h g : GlobalValue) → Contains hs h → Contains hosts g → symbol_of h ≡ symbol_of g → ⊥
  away h g there also same =
      apart (symbols hs) (symbols hosts) (subst (λ (ss : List Symbol). Distinct ss) (map-append global_symbol hs hosts) l.once) (global_symbol h) (in_map global_symbol hs h there)
      (subst (Contains (symbols hosts)) (sym (sym (same_symbol h) ∙ same ∙ same_symbol g)) (in_map global_symbol hosts g also))

  -- a function of the outside that is kept is in use
  in_use_of : (g : GlobalValue) → Contains hosts g → e.keeps (symbol_of g).name ≡ true → (x : GlobalValue) → symbol_of g ≡ symbol_of x → Contains (in_use e.keeps hs x) x
  in_use_of g there on x same =
      used e.keeps hs x (subst (λ (s : Symbol). e.keeps s.name ≡ true) same on)
      (not_true (is_named hs (symbol_of x).name) (λ named.
      let found = any_from (λ (h : GlobalValue). bytes_eq (symbol_of h).name (symbol_of x).name) hs named in
      let name : (symbol_of found.0).name ≡ (symbol_of x).name = (bytes_eq-Decides (symbol_of found.0).name (symbol_of x).name).0 found.2 in
      away found.0 g found.1 there
      (homeless_of found.0 (Contains-append_left hs hosts found.0 found.1) ∙ ap shared (name ∙ ap (λ (s : Symbol). s.name) (sym same)) ∙ sym (homeless_of g (Contains-append_right hs hosts g there)))))

  -- a kept symbol is declared in the linked module
  pub kept_stands : (g : GlobalValue) → Contains gs g → e.keeps (symbol_of g).name ≡ true → (k : GlobalValue) × Contains ks k × (symbol_of k ≡ symbol_of g)
  kept_stands g there on = by (Contains-append_cases hs hosts g there)
    where
      host : (h : Contains hosts g) → (symbol_of g ≡ shared (codes "getchar")) ⊎ (symbol_of g ≡ shared (codes "putchar")) → (k : GlobalValue) × Contains ks k × (symbol_of k ≡ symbol_of g)
      host h (inl same) = (
        getchar,
        outside_stays exports hs ks e getchar (Contains-append_left (in_use e.keeps hs getchar) (in_use e.keeps hs putchar) getchar (in_use_of g h on getchar same)),
        sym same,
      )
      host h (inr same) = (
        putchar,
        outside_stays exports hs ks e putchar (Contains-append_right (in_use e.keeps hs getchar) (in_use e.keeps hs putchar) putchar (in_use_of g h on putchar same)),
        sym same,
      )

      by : Contains hs g ⊎ Contains hosts g → (k : GlobalValue) × Contains ks k × (symbol_of k ≡ symbol_of g)
      by (inl h) = (settled exports g, stays exports hs ks e g h on, settled_symbol exports g)
      by (inr h) = host h (All-contains IsOutside hosts g l.outside h).1

  -- ---- no symbol twice

  group_symbol : (such : GlobalValue → Bool) (xs : List GlobalValue) (s : Symbol) → ((h : GlobalValue) → Contains xs h → Contains hs h × (e.keeps (symbol_of h).name ≡ true) × (such h ≡ true))
      → Contains (symbols xs) s → (h : GlobalValue) × Contains hs h × (such h ≡ true) × (symbol_of h ≡ s)
  group_symbol such xs s member h =
      let found = map_from global_symbol xs s h in
      let is = member found.0 found.1 in
      (found.0, is.0, is.2, same_symbol found.0 ∙ found.2)

  variable_symbol : (s : Symbol) → Contains (symbols e.variables) s → (h : GlobalValue) × Contains hs h × (is_variable h ≡ true) × (symbol_of h ≡ s)
  variable_symbol s = group_symbol is_variable e.variables s (of_group exports hs ks e is_variable e.variables e.variables_are)

  function_symbol : (s : Symbol) → Contains (symbols e.functions) s → (h : GlobalValue) × Contains hs h × (not (is_variable h) ≡ true) × (symbol_of h ≡ s)
  function_symbol s = group_symbol (λ h. not (is_variable h)) e.functions s (of_group exports hs ks e (λ h. not (is_variable h)) e.functions e.functions_are)

  -- no value has the symbol of a function of the outside that is in use
  no_outside : (h : GlobalValue) (s : Symbol) → Contains hs h → symbol_of h ≡ s → Contains (symbols (outside_in_use e.keeps hs)) s → ⊥
  no_outside h s there same outside =
      let found = map_from global_symbol (outside_in_use e.keeps hs) s outside in
      let name : (symbol_of h).name ≡ (symbol_of found.0).name = ap (λ (x : Symbol). x.name) (same ∙ sym found.2 ∙ sym (same_symbol found.0)) in
      clash (is_named hs (symbol_of found.0).name) (outside_is e.keeps hs found.0 found.1).1
      (any_by (λ (x : GlobalValue). bytes_eq (symbol_of x).name (symbol_of found.0).name) hs h there ((bytes_eq-Decides (symbol_of h).name (symbol_of found.0).name).1 name))

  definitions_once : Distinct (symbols hs)
  definitions_once = distinct_left (symbols hs) (symbols hosts) (subst (λ (ss : List Symbol). Distinct ss) (map-append global_symbol hs hosts) l.once)

  functions_away : (s : Symbol) → Contains (symbols (outside_in_use e.keeps hs)) s → Contains (symbols e.functions) s → ⊥
  functions_away s outside h = let f = function_symbol s h in no_outside f.0 s f.1 f.3 outside

  variables_away : (s : Symbol) → Contains (symbols e.variables) s → Contains (symbols (outside_in_use e.keeps hs) ++ symbols e.functions) s → ⊥
  variables_away s h k = by (variable_symbol s h) (Contains-append_cases (symbols (outside_in_use e.keeps hs)) (symbols e.functions) s k)
    where
      by : (v : (x : GlobalValue) × Contains hs x × (is_variable x ≡ true) × (symbol_of x ≡ s)) → Contains (symbols (outside_in_use e.keeps hs)) s ⊎ Contains (symbols e.functions) s → ⊥
      by v (inl outside) = no_outside v.0 s v.1 v.3 outside
      by v (inr function) =
          let f = function_symbol s function in
          let same : v.0 ≡ f.0 = one_value hs definitions_once v.0 f.0 v.1 f.1 (v.3 ∙ sym f.3) in
          false≢true (sym (ap not (sym (ap is_variable same) ∙ v.2)) ∙ f.2)

  group_once : (such : GlobalValue → Bool) → Distinct (symbols (filter (λ (h : GlobalValue). e.keeps (symbol_of h).name && such h) hs))
  group_once such = distinct_filter (λ (h : GlobalValue). e.keeps (symbol_of h).name && such h) hs definitions_once

  symbols_are : symbols ks ≡ symbols e.variables ++ (symbols (outside_in_use e.keeps hs) ++ symbols e.functions)
  symbols_are =
      ap symbols e.is
      ∙ map-append global_symbol (map (settled exports) e.variables) (outside_in_use e.keeps hs ++ map (settled exports) e.functions)
      ∙ ap₂ (λ (a b : List Symbol). a ++ b) (settled_symbols exports e.variables)
      (map-append global_symbol (outside_in_use e.keeps hs) (map (settled exports) e.functions) ∙ ap (λ (ss : List Symbol). symbols (outside_in_use e.keeps hs) ++ ss) (settled_symbols exports e.functions))

  pub once : Distinct (symbols ks)
  once =
      subst (λ (ss : List Symbol). Distinct ss) (sym symbols_are)
      (distinct_append (symbols e.variables) (symbols (outside_in_use e.keeps hs) ++ symbols e.functions)
      (distinct_moved _ e.variables e.variables_are.same (group_once is_variable))
      (distinct_append (symbols (outside_in_use e.keeps hs)) (symbols e.functions) (outside_once e.keeps hs)
      (distinct_moved _ e.functions e.functions_are.same (group_once (λ h. not (is_variable h)))) functions_away)
      variables_away)

  -- ---- the order

  abbrev ls : List GlobalValue
  ls = emission live (λ s. s) gs

  ls_is : ls ≡ filter (λ (g : GlobalValue). live (symbol_of g)) gs
  ls_is = globals_stay (named_by (λ s. s)) (λ s. refl) (filter (λ (g : GlobalValue). live (symbol_of g)) gs)

  from_ls : (g : GlobalValue) → Contains ls g → Contains gs g × (e.keeps (symbol_of g).name ≡ true)
  from_ls g there =
      let passed = filter_from (λ (x : GlobalValue). live (symbol_of x)) gs g (subst (λ (xs : List GlobalValue). Contains xs g) ls_is there) in
      (passed.0, (live_parts (symbol_of g) passed.1).1)

  all : (g : GlobalValue) → Contains ls g → IsDefinition g → (h : GlobalValue) × Contains ks h × IsLike g h
  all g there is = by (Contains-append_cases hs hosts g (from_ls g there).0)
    where
      by : Contains hs g ⊎ Contains hosts g → (h : GlobalValue) × Contains ks h × IsLike g h
      by (inl h) = (settled exports g, stays exports hs ks e g h (from_ls g there).1, like_settled exports g is)
      by (inr h) = absurd (is (All-contains IsOutside hosts g l.outside h).0)

  only : (k : GlobalValue) → Contains ks k → IsDefinition k → (g : GlobalValue) × Contains ls g × IsLike g k
  only k there is = by (comes exports hs ks e k there)
    where
      by : ((h : GlobalValue) × Contains hs h × (e.keeps (symbol_of h).name ≡ true) × (settled exports h ≡ k)) ⊎ Contains (outside_in_use e.keeps hs) k
          → (g : GlobalValue) × Contains ls g × IsLike g k
      by (inl (h, c, on, same)) =
          let inside = Contains-append_left hs hosts h c in (
            h,
            subst (λ (xs : List GlobalValue). Contains xs h) (sym ls_is) (in_filter (λ (x : GlobalValue). live (symbol_of x)) gs h inside (live_of h inside on)),
            subst (IsLike h) same (like_settled exports h (All-contains IsDefinition hs h l.definitions c)),
          )
      by (inr outside) = absurd (outside_defines_none k (outside_is e.keeps hs k outside).0 is)

  declares : (u : Symbol) → is_declared ls u ≡ true → is_declared ks u ≡ true
  declares u h =
      let found = any_from (λ (g : GlobalValue). symbol_eq (symbol_of g) u) ls h in
      let kept = from_ls found.0 found.1 in
      let k = kept_stands found.0 kept.0 kept.1 in
      declared_by ks k.0 u k.1 (k.2 ∙ symbol_true (symbol_of found.0) u found.2)

  reordering : IsReordering ls ks
  reordering = record { all = all; only = only; declares = declares; once = once }

pub is_reordering : EmissionIsReordering
is_reordering exports hs hosts ks l e = reordering exports hs hosts ks l e
