-- What modules give by the table of their resolution is what the definitions say.
use Rattle.std.proofs.Common.{◌≡◌, ◌∙◌, ◌<◌, ◌+◌, ◌&&◌, ℕ, suc, Bool, true, false, cond, if◌then◌else◌, List, [], ◌∷◌, ◌++◌, map, filter, length, drop, append_assoc, slice_index_or, Option, Some, None, refl, sym, ap, ap₂}
use Rattle.ir_tree.specs.declared.module.GlobalValue.{GlobalValue}
use Rattle.ir_tree.specs.declared.module.Module.{Module}
use Rattle.ir_tree.specs.declared.operand.Symbol.{Symbol}
use Rattle.ir_meaning.specs.Programs.{symbol_of}
use Rattle.symbol_resolve.specs.Resolved.{Symbols, module_of, symbols}
use Rattle.merge_meaning.specs.Given.{given_each, given_in, given_one, gives, merged_in, parts_in, prevails_in}
use Rattle.merge_meaning.specs.Globals.{global_under, named_by}
use Rattle.merge_meaning.specs.Kept.{is_kept}
use Rattle.merge_meaning.specs.Lives.{final_symbol, is_live, part_of, parts, parts_from}
use Rattle.merge_meaning.specs.Merged.{given_by, is_own, merged_from, prevails_as, standing_of, symbol_in}
use Rattle.merge_meaning.specs.Scopes.{given_where, keeps, named_where, names_by, symbol_for}
use Rattle.merge_meaning.specs.declared.lives.Link.{Link}
use Rattle.merge_meaning.specs.declared.scope.Scope.{Scope}
use Rattle.merge_meaning.proofs.Own.{left, same_symbols}
use Rattle.merge_meaning.proofs.Table.{table_names}

-- ---- by the modules' resolution

given_kept : (ms : List Module) (k : ℕ) (gs : List GlobalValue) → given_in (symbols ms) None k gs ≡ given_by ms k gs
given_kept ms k gs = λ i. map (global_under (named_by (symbol_in k gs))) (filter (λ (g : GlobalValue). prevails_as (table_names ms (symbol_of g).name i) k (standing_of g)) gs)

merged_kept_from : (ms : List Module) (k : ℕ) (rest : List Module) → merged_in (symbols ms) k rest ≡ merged_from ms k rest
merged_kept_from ms k [] = refl
merged_kept_from ms k (m ∷ rest) =
    ap₂ (λ (x : List GlobalValue). λ (y : List GlobalValue). x ++ y) (given_kept ms k m.globals) (merged_kept_from ms (suc k) rest)

pub merged_kept : (ms : List Module) → merged_in (symbols ms) 0 ms ≡ merged_from ms 0 ms
merged_kept ms = merged_kept_from ms 0 ms

module _ (ms : List Module) (link : Link) (index : List Symbol) (marks : List Bool) (live : (s : Symbol) → keeps link.live.now s ≡ is_live index marks s) where
  part_kept : (k : ℕ) (gs : List GlobalValue) → given_in (symbols ms) (Some link) k gs ≡ part_of ms index marks link.suffixes.now k gs
  part_kept k gs = λ i.
      map (global_under (named_by (λ s. final_symbol link.suffixes.now (symbol_in k gs s))))
      (filter (λ (g : GlobalValue). prevails_as (table_names ms (symbol_of g).name i) k (standing_of g) && live (symbol_in k gs (symbol_of g)) i) gs)

  parts_kept_from : (k : ℕ) (rest : List Module) → parts_in (symbols ms) link k rest ≡ parts_from ms index marks link.suffixes.now k rest
  parts_kept_from k [] = refl
  parts_kept_from k (m ∷ rest) =
      ap₂ (λ (x : List GlobalValue). λ (y : List (List GlobalValue)). x ∷ y) (part_kept k m.globals) (parts_kept_from (suc k) rest)

  pub parts_kept : parts_in (symbols ms) link 0 ms ≡ parts ms index marks link.suffixes.now
  parts_kept = parts_kept_from 0 ms

-- ---- one after another

given_listed : (table : Symbols) (scope : Scope) (gs : List GlobalValue) → given_each table scope gs ≡ map (global_under (names_by scope)) (filter (gives table scope) gs)
given_listed table scope [] = refl
given_listed table scope (g ∷ gs) = by (gives table scope g) (given_listed table scope gs)
  where
    by : (b : Bool) → given_each table scope gs ≡ map (global_under (names_by scope)) (filter (gives table scope) gs)
        → (if b then global_under (names_by scope) g ∷ [] else []) ++ given_each table scope gs
        ≡ map (global_under (names_by scope)) (cond b (g ∷ filter (gives table scope) gs) (filter (gives table scope) gs))
    by true rest = ap (λ (l : List GlobalValue). global_under (names_by scope) g ∷ l) rest
    by false rest = rest

listed_as : (table : Symbols) (link : Option Link) (k : ℕ) (scope : Scope) (gs : List GlobalValue) → scope.number ≡ k → scope.link ≡ link
    → ((name : List ℕ) → is_kept scope.own.keys name ≡ is_own gs name) → map (global_under (names_by scope)) (filter (gives table scope) gs) ≡ given_in table link k gs
unfolding names_by gives
listed_as table link k scope gs number same_link own =
    let same : (λ (s : Symbol). symbol_for scope s) ≡ symbol_in k gs = same_symbols scope.number scope.own.keys gs own ∙ ap (λ (n : ℕ). symbol_in n gs) number in
    λ i.
    map (global_under (named_by (λ s. named_where (same_link i) (same i s))))
    (filter (λ (g : GlobalValue). given_where (same_link i) (prevails_in table (number i) g) (same i (symbol_of g))) gs)

-- a module's scope gives what the module gives
pub given_as : (table : Symbols) (link : Option Link) (k : ℕ) (scope : Scope) (gs : List GlobalValue) → scope.number ≡ k → scope.link ≡ link
    → ((name : List ℕ) → is_kept scope.own.keys name ≡ is_own gs name) → given_each table scope gs ≡ given_in table link k gs
given_as table link k scope gs number same_link own = given_listed table scope gs ∙ listed_as table link k scope gs number same_link own

-- a global value is given, or isn't
module _ (table : Symbols) (scope : Scope) (g : GlobalValue) (chosen : Option ℕ) (chosen_is : chosen ≡ module_of table (symbol_of g).name) where
  gives_is : given_where scope.link (prevails_as chosen scope.number (standing_of g)) (symbol_for scope (symbol_of g)) ≡ gives table scope g
  unfolding gives
  gives_is = ap (λ (o : Option ℕ). given_where scope.link (prevails_as o scope.number (standing_of g)) (symbol_for scope (symbol_of g))) chosen_is

  pub given_then : (x : GlobalValue) → given_where scope.link (prevails_as chosen scope.number (standing_of g)) (symbol_for scope (symbol_of g)) ≡ true
      → x ≡ global_under (names_by scope) g → x ∷ [] ≡ given_one table scope g
  given_then x test x_is =
      ap (λ (y : GlobalValue). y ∷ []) x_is ∙ ap (λ (b : Bool). if b then global_under (names_by scope) g ∷ [] else []) (sym test ∙ gives_is)

  pub given_else : given_where scope.link (prevails_as chosen scope.number (standing_of g)) (symbol_for scope (symbol_of g)) ≡ false → [] ≡ given_one table scope g
  given_else test = ap (λ (b : Bool). if b then global_under (names_by scope) g ∷ [] else []) (sym test ∙ gives_is)

pub each_more : (table : Symbols) (scope : Scope) (gs : List GlobalValue) (i : ℕ) (g : GlobalValue) → i < length gs → g ≡ slice_index_or gs i g → (rows more whole : List GlobalValue)
    → more ≡ rows ++ given_one table scope g → rows ++ given_each table scope (drop i gs) ≡ whole → more ++ given_each table scope (drop (i + 1) gs) ≡ whole
each_more table scope gs i g lt is rows more whole e_more so_far =
    let here : drop i gs ≡ g ∷ drop (i + 1) gs = left gs i g lt ∙ ap (λ (x : GlobalValue). x ∷ drop (i + 1) gs) (sym is) in
    ap (λ (x : List GlobalValue). x ++ given_each table scope (drop (i + 1) gs)) e_more
    ∙ append_assoc rows (given_one table scope g) (given_each table scope (drop (i + 1) gs))
    ∙ ap (λ (l : List GlobalValue). rows ++ given_each table scope l) (sym here)
    ∙ so_far

-- ---- one more module

pub merged_more : (table : Symbols) (ms : List Module) (i : ℕ) (d : Module) → i < length ms → d ≡ slice_index_or ms i d → (k next : ℕ) → next ≡ suc k
    → (rows more whole : List GlobalValue) (gs : List GlobalValue) → gs ≡ d.globals → more ≡ rows ++ given_in table None k gs
    → rows ++ merged_in table k (drop i ms) ≡ whole → more ++ merged_in table next (drop (i + 1) ms) ≡ whole
merged_more table ms i d lt is k next e_next rows more whole gs e_gs e_more so_far =
    let here : drop i ms ≡ d ∷ drop (i + 1) ms = left ms i d lt ∙ ap (λ (m : Module). m ∷ drop (i + 1) ms) (sym is) in
    let next_is : merged_in table next (drop (i + 1) ms) ≡ merged_in table (suc k) (drop (i + 1) ms) = ap (λ (n : ℕ). merged_in table n (drop (i + 1) ms)) e_next in
    let more_is : more ≡ rows ++ given_in table None k d.globals = e_more ∙ ap (λ (l : List GlobalValue). rows ++ given_in table None k l) e_gs in
    ap₂ (λ (x : List GlobalValue). λ (y : List GlobalValue). x ++ y) more_is next_is
    ∙ append_assoc rows (given_in table None k d.globals) (merged_in table (suc k) (drop (i + 1) ms))
    ∙ ap (λ (l : List Module). rows ++ merged_in table k l) (sym here)
    ∙ so_far

pub parts_more : (table : Symbols) (link : Link) (ms : List Module) (i : ℕ) (d : Module) → i < length ms → d ≡ slice_index_or ms i d → (k next : ℕ) → next ≡ suc k
    → (rows more whole : List (List GlobalValue)) (part : List GlobalValue) → part ≡ given_in table (Some link) k d.globals → more ≡ rows ++ part ∷ []
    → rows ++ parts_in table link k (drop i ms) ≡ whole → more ++ parts_in table link next (drop (i + 1) ms) ≡ whole
parts_more table link ms i d lt is k next e_next rows more whole part e_part e_more so_far =
    let here : drop i ms ≡ d ∷ drop (i + 1) ms = left ms i d lt ∙ ap (λ (m : Module). m ∷ drop (i + 1) ms) (sym is) in
    ap₂ (λ (x : List (List GlobalValue)). λ (n : ℕ). x ++ parts_in table link n (drop (i + 1) ms)) e_more e_next
    ∙ append_assoc rows (part ∷ []) (parts_in table link (suc k) (drop (i + 1) ms))
    ∙ ap (λ (x : List GlobalValue). rows ++ x ∷ parts_in table link (suc k) (drop (i + 1) ms)) e_part
    ∙ ap (λ (l : List Module). rows ++ parts_in table link k l) (sym here)
    ∙ so_far
